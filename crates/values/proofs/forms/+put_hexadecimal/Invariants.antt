use Rattle.values.proofs.forms.+put_hexadecimal.Given as goal

-- how many digits are left
abbrev pub decreases-put_hexadecimal : goal.decreases-put_hexadecimal
decreases-put_hexadecimal l = l.left
