-- A sender's row: "Rows begin with sender and number too" (document 02, order 5; document 01, "Rows and names").
use Rattle.std.specs.Prelude.{ℕ, List, ◌∷◌, ◌++◌}
use Rattle.values.specs.definitions.Forms.{digit_byte, decimal_digits, hexadecimal, decimal, printed}
use Rattle.text.specs.definitions.Syntax.{File}
use Rattle.cycles.specs.definitions.Row.{action_fields}
use Rattle.senders.specs.definitions.Sender.{Sender, State, kept}

-- "the number and each fired value, in the form of readings, or `-`, one space between fields": of the actions kept for the sender
unfoldable pub row : File → Sender → List ℕ
unfolding action_fields digit_byte decimal_digits hexadecimal
row f x = x.name ++ 32 ∷ decimal x.last ++ action_fields f (λ p. printed (x.fired p.entity p.member))

-- "a resent line gives that sender's row, even after lines of others"; of a sender that is not known, 0 and nothing fired
unfoldable pub sender_row : File → State → List ℕ → List ℕ
unfolding row kept
sender_row f s n = row f (kept n s.senders)
