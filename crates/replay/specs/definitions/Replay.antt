-- What the bench runner prints, from the bytes of `bench.txt` and of `readings.txt` (document 01, "Rows and names"). "a missing file is
-- empty": of such a file the bytes are none.
use Rattle.std.specs.Prelude.{ℕ}
use mathlib.Core.List.{List, [], ◌∷◌, ◌++◌, flat_map}
use Rattle.std.proofs.Math.Option.{Option, none, some}
use Rattle.values.specs.definitions.Forms.{decimal, decimal_digits, digit_byte}
use Rattle.text.specs.definitions.Syntax.{File}
use Rattle.checking.specs.definitions.Verdict.{Verdict, verdict}
use Rattle.cycles.specs.definitions.Header.{Column, header}
use Rattle.cycles.specs.definitions.Readings.{lines, header_line, record_lines}
use Rattle.cycles.specs.definitions.Row.{row_header}
use Rattle.senders.specs.definitions.Sender.{State}
use Rattle.senders.specs.definitions.Answer.{Answer, refused, accepted}
use Rattle.senders.specs.definitions.Line.{Accepted, its_line}
use Rattle.senders.specs.definitions.Follow.{fresh}
use Rattle.senders.specs.definitions.Row.{sender_row}
use Rattle.senders.specs.definitions.Turns.{Turn, turns}

-- "refused "
abbrev pub REFUSED : List ℕ
REFUSED = 114 ∷ 101 ∷ 102 ∷ 117 ∷ 115 ∷ 101 ∷ 100 ∷ 32 ∷ []

-- "`refused` and the refusal's number"
unfoldable pub refusal : ℕ → List ℕ
unfolding decimal_digits digit_byte
refusal code = REFUSED ++ decimal code

-- "A refused bench prints `refused`, number and place"
unfoldable pub bench_refusal : ℕ → ℕ → List ℕ
unfolding refusal
bench_refusal code at = refusal code ++ 32 ∷ decimal at

-- "per line the number and each fired value ..; a refused line prints `refused` and the refusal's number"; "Rows begin with sender and number too"
-- (document 02, order 5)
unfoldable pub row_for : File → Answer Accepted → State → List ℕ
unfolding refusal sender_row its_line
row_for f (refused code) after = refusal code
row_for f (accepted a) after = sender_row f after (its_line a).sender

-- a row for each record, in its turn
unfoldable pub rows : File → List Turn → List ℕ
unfolding flat_map row_for
rows f ts = flat_map (λ t. row_for f t.answer t.after ++ 10 ∷ []) ts

-- "It prints [`by`] `n` and every action cell ..; a refused line of names `refused 22`; then nothing"; from a fresh state
unfoldable pub rows_under : File → List ℕ → Option (List Column) → List (List ℕ) → List ℕ
unfolding refusal row_header rows turns fresh
rows_under f names none values = refusal 22 ++ 10 ∷ []
rows_under f names (some cs) values = row_header f ++ 10 ∷ rows f (turns f names (fresh f) values)

unfoldable pub rows_of : File → List (List ℕ) → List ℕ
unfolding rows_under header header_line record_lines
rows_of f ls = rows_under f (header_line ls) (header f (header_line ls)) (record_lines ls)

unfoldable pub replay_by : Verdict → List (List ℕ) → List ℕ
unfolding bench_refusal rows_of
replay_by (Verdict.refused_at code at) ls = bench_refusal code at ++ 10 ∷ []
replay_by (Verdict.accepted f) ls = rows_of f ls

unfoldable pub replay : List ℕ → List ℕ → List ℕ
unfolding replay_by verdict lines
replay bench readings = replay_by (verdict bench) (lines readings)
