-- What the check of a text into columns and a directory answers: document 01's 11 to 18 and document 02's 44, or an accepted file that they stand for.
use Rattle.std.specs.Prelude.{ℕ, ◌≤◌, ◌≡◌, List, Bool, true, false, not, cond, ◌&&◌, ◌||◌, leb, ltb, length, get_or, take, Result, Ok, Err}
use Rattle.std.proofs.Math.Option.{some}
use Rattle.std.proofs.Math.ListN.{get_elem?}
use Rattle.text.specs.definitions.Tokens.{Token, tokens, tokens_of}
use Rattle.text.specs.inner_contracts.TokenTable.{TokenColumns, lacks_rows}
use Rattle.text.specs.definitions.Answers.{refusal_answer}
use Rattle.text.specs.definitions.Readers.{read}
use Rattle.text.specs.definitions.Grammar.{file_reader}
use Rattle.checking.specs.declared.check.CheckError.{CheckError}
use Rattle.checking.specs.declared.check.CheckError.TheVariants.{NoRoom, Refused}
use Rattle.checking.specs.inner_contracts.FoundFaults.{fault_code}
use Rattle.checking.specs.definitions.CountFaults.{MOST_RULES}
use Rattle.checking.specs.definitions.Verdict.{accepted, refused_at, MOST_BYTES, verdict, verdict_answer}
use Rattle.checking.specs.inner_contracts.Directory.{DIRECTORY, Bench}
use Rattle.checking.specs.inner_contracts.DirectoryReads.{Few}

-- the column of values, a row for each token
abbrev pub ValuesOf : List ℕ → List Token → Type 0
ValuesOf values ts = (i : ℕ) (t : Token) → get_elem? ts i ≡ some t → t.value ≡ get_or values i 0

-- so many tokens, or why not
abbrev pub Checked : Type 0
Checked = Result ℕ CheckError

-- ---- an answer as document 01's numbers

-- "Acceptance returns 0"; a refusal's code and offset; 31: "lent memory shorter than the stated size"
unfoldable pub checked_answer : Checked → ℕ
checked_answer (Ok n) = 0
checked_answer (Err (Refused f)) = refusal_answer (fault_code f.kind) f.at
checked_answer (Err NoRoom) = 31

-- ---- what an answer says to a caller

-- the columns, a row for each token, and the directory stand for the file that the text is accepted as
pub record CheckedBench (text classes offsets lengths values d : List ℕ) : Type 0 where
  pub bench : Bench text classes offsets lengths d
  pub accepts : verdict text ≡ accepted bench.file
  pub lexed : tokens_of text ≡ tokens bench.tokens
  pub reads : file_reader bench.tokens ≡ read bench.file (length bench.tokens)
  pub few : Few bench.file
  pub few_rules : length bench.file.rules ≤ MOST_RULES
  pub valued : ValuesOf values bench.tokens

-- of an acceptance: the first n rows
pub record Accepts (text : List ℕ) (u : TokenColumns) (d : List ℕ) (n : ℕ) : Type 0 where
  pub within : n ≤ length text
  pub rows : (n ≤ length u.classes) × (n ≤ length u.offsets) × (n ≤ length u.lengths) × (n ≤ length u.values)
  pub stands : CheckedBench text (take n u.classes) u.offsets u.lengths u.values d

abbrev pub Says : List ℕ → TokenColumns → List ℕ → Checked → Type 0
Says text u d (Ok n) = Accepts text u d n
Says text u d (Err (Refused f)) = verdict text ≡ refused_at (fault_code f.kind) f.at
Says text u d (Err NoRoom) = Unit {0}

-- room for a row for each byte of the text, unless it is refused for its length, and for the directory
unfoldable pub has_room : List ℕ → TokenColumns → List ℕ → Bool
unfolding lacks_rows
has_room text t d = leb DIRECTORY (length d) && (ltb MOST_BYTES (length text) || not (lacks_rows (length text) t))

-- document 01's answer: 31 without that room, else the verdict's
unfoldable pub check_answer : List ℕ → TokenColumns → List ℕ → ℕ
unfolding has_room verdict_answer verdict
check_answer text t d = cond (has_room text t d) (verdict_answer (verdict text)) 31

-- the answer r, the columns, which were t and are u, and the directory, which was d and is e
pub record Checks (text : List ℕ) (t u : TokenColumns) (d e : List ℕ) (r : Checked) : Type 0 where
  pub answer : checked_answer r ≡ check_answer text t d
  pub short : has_room text t d ≡ false → r ≡ Err NoRoom
  pub enough : has_room text t d ≡ true → r ≡ Err NoRoom → ⊥
  pub says : Says text u e r
  pub classes_kept : length u.classes ≡ length t.classes
  pub offsets_kept : length u.offsets ≡ length t.offsets
  pub lengths_kept : length u.lengths ≡ length t.lengths
  pub values_kept : length u.values ≡ length t.values
  pub directory_kept : length e ≡ length d
