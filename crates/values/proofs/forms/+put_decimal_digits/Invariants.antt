use Rattle.values.proofs.forms.+put_decimal_digits.Given as goal

-- how many digits are left
abbrev pub decreases-put_decimal_digits : goal.decreases-put_decimal_digits
decreases-put_decimal_digits l = l.left
