-- Answers in one number.
use Rattle.std.specs.Prelude.{ℕ, ◌+◌, ◌*◌}

-- a refusal: its code in the low 8 bits, the offset above them
abbrev pub refusal_answer : ℕ → ℕ → ℕ
refusal_answer code at = code + 256 * at
