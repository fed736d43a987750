-- The three demands, proved: each claim under the words that it answers, and cited in a line below. A call appears by its contract, which equates
-- its answer and all memory that it may write with a function of what was lent (Calls); which refusal comes first, the places, and that bytes past
-- what is written stay, are said there.
use Prim.Native.Nat.{ℕ, ◌≤◌, ◌<◌}
use mathlib.Core.Path.{◌≡◌}
use mathlib.Core.Logic.{◌↔◌}
use mathlib.Core.List.{List, [], ◌∷◌, map}
use mathlib.Core.Bool.{true}
use mathlib.Core.Option.{some}
use lib.ListN.{length}
use Rattle.text.specs.definitions.Syntax.{File}
use Rattle.text.specs.definitions.ByteClass.{Classified}
use Rattle.checking.specs.definitions.Verdict.{Verdict, verdict}
use Rattle.checking.specs.definitions.Admitted.{Admitted}
use Rattle.cycles.specs.definitions.Outcome.{running, proceed}
use Rattle.cycles.specs.definitions.ClosedSet.{Closed}
use Rattle.senders.specs.definitions.Sender.{State, is_sender, kept}
use Rattle.senders.specs.definitions.Follow.{ref_fresh}
use Rattle.senders.specs.definitions.Row.{sender_row}
use Rattle.senders.specs.definitions.Fingerprint.{fingerprint}
use Rattle.senders.specs.definitions.StateImage.{STATE, state_of}
use Rattle.days.specs.definitions.DaySheet.{sheet_size}
use Rattle.engine.specs.definitions.BenchImage.{BENCH}
use Rattle.engine.specs.definitions.Calls.{
  ROW,
  AfterLine,
  CheckContract,
  FreshContract,
  LineContract,
  HeaderContract,
  RowContract,
  SheetContract,
  ClassContract,
  EntityContract,
}
use Rattle.engine.specs.definitions.Runs.{Request, RunStart, Run, sight, ref_run, taken_lines}
use Rattle.engine.specs.definitions.DemandOne.{
  number_of,
  CHECK_NUMBERS,
  FRESH_NUMBERS,
  LINE_NUMBERS,
  HEADER_NUMBERS,
  ROW_NUMBERS,
  SHEET_NUMBERS,
  ListedAnswer,
}
use Rattle.engine.specs.definitions.DemandTwo.{
  BenchLent,
  RowLent,
  LineLent,
  SheetLent,
  Checks,
  Freshens,
  Follows,
  Names,
  Shows,
  Sheets,
  Resent,
  AllSentBefore,
  AllSentAgain,
  ReadsBack,
  Locates,
}
use Rattle.engine.specs.definitions.DemandThree.{SameLines, SameValues, SideBySide}
use Rattle.engine.proofs.laws.NumberLaws.{check_numbered, fresh_numbered, line_numbered, header_numbered, row_numbered}
use Rattle.engine.proofs.laws.CheckLaws.{check_admits}
use Rattle.engine.proofs.laws.SheetLaws.{sheet_numbered, sheet_sheets}
use Rattle.engine.proofs.laws.ClassLaws.{answer_classified}
use Rattle.engine.proofs.laws.EntityLaws.{answer_locates}
use Rattle.engine.proofs.laws.FollowsLaws.{fresh_freshens, line_follows, header_names, row_shows, row_reads_back}
use Rattle.engine.proofs.laws.RunLaws.{run_stays, runs_apart, run_resent, run_sent_before}
use Rattle.engine.proofs.laws.SentAgainLaws.{run_sent_again}

-- "Any text as bench file or readings, any memory as bench or state: an acceptance or a numbered refusal, always; a refusal changes no lent byte."
pub record DemandOne : Type 0 where
  pub check : (text bench new_bench : List ℕ) (r : ℕ) → CheckContract text bench new_bench r
      → ListedAnswer CHECK_NUMBERS r (bench ∷ []) (new_bench ∷ [])
  pub fresh : (bench state new_state : List ℕ) (r : ℕ) → FreshContract bench state new_state r
      → ListedAnswer FRESH_NUMBERS r (state ∷ []) (new_state ∷ [])
  pub line : (bench state names values row new_state new_row : List ℕ) (r : ℕ) → LineContract bench state names values row new_state new_row r
      → ListedAnswer LINE_NUMBERS r (state ∷ row ∷ []) (new_state ∷ new_row ∷ [])
  pub header : (bench row new_row : List ℕ) (r : ℕ) → HeaderContract bench row new_row r
      → ListedAnswer HEADER_NUMBERS r (row ∷ []) (new_row ∷ [])
  pub row : (bench state sender row new_row : List ℕ) (r : ℕ) → RowContract bench state sender row new_row r
      → ListedAnswer ROW_NUMBERS r (row ∷ []) (new_row ∷ [])
  pub sheet : (bench state readings cells sheet new_sheet : List ℕ) (r : ℕ) → SheetContract bench state readings cells sheet new_sheet r
      → ListedAnswer SHEET_NUMBERS r (sheet ∷ []) (new_sheet ∷ [])

pub demand_one : DemandOne
demand_one = record {
  check = check_numbered;
  fresh = fresh_numbered;
  line = line_numbered;
  header = header_numbered;
  row = row_numbered;
  sheet = sheet_numbered;
}

pub record DemandTwo : Type 0 where
  -- "A bench file is accepted exactly when the documents admit it"
  pub admits : (text bench new_bench : List ℕ) (r : ℕ) → CheckContract text bench new_bench r
      → BENCH ≤ length bench
      → ((number_of r ≡ 0) ↔ Admitted text) × (number_of r ≡ 0 → Checks text new_bench)
  -- "each accepted line leaves the state and fires the actions that they define", and what they accept is accepted
  pub follows : (bench state names values row new_state new_row : List ℕ) (r : ℕ) → LineContract bench state names values row new_state new_row r
      → BENCH ≤ length bench → STATE ≤ length state → ROW ≤ length row
      → ((number_of r ≡ 0) ↔ LineLent bench state names values)
      × (number_of r ≡ 0 → Follows bench state names values (record { answer = r; state = new_state; row = new_row }))
  -- the same of the other calls on a bench: the fresh state, the row of names, the row of a sender
  pub freshens : (bench state new_state : List ℕ) (r : ℕ) → FreshContract bench state new_state r
      → BENCH ≤ length bench → STATE ≤ length state
      → ((number_of r ≡ 0) ↔ BenchLent bench) × (number_of r ≡ 0 → Freshens bench new_state)
  pub names : (bench row new_row : List ℕ) (r : ℕ) → HeaderContract bench row new_row r
      → BENCH ≤ length bench → ROW ≤ length row
      → ((number_of r ≡ 0) ↔ BenchLent bench) × (number_of r ≡ 0 → Names bench r new_row)
  pub shows : (bench state sender row new_row : List ℕ) (r : ℕ) → RowContract bench state sender row new_row r
      → BENCH ≤ length bench → STATE ≤ length state → ROW ≤ length row
      → ((number_of r ≡ 0) ↔ RowLent bench state sender) × (number_of r ≡ 0 → Shows bench state sender r new_row)
  -- the day sheet (document 02, order 3): of the lines that the machine takes one after another from the state lent
  pub sheets : (bench state readings cells sheet new_sheet : List ℕ) (r : ℕ) → SheetContract bench state readings cells sheet new_sheet r
      → BENCH ≤ length bench → STATE ≤ length state → sheet_size readings ≤ length sheet
      → ((number_of r ≡ 0) ↔ SheetLent bench state readings cells) × (number_of r ≡ 0 → Sheets bench state readings cells sheet r new_sheet)
  -- the class of a byte (document 02, order 4), of all 256
  pub classes : (byte r : ℕ) → byte < 256 → ClassContract byte r → Classified byte r
  -- "An entity's name, found by its number (from 0, file order), is a part of the bench text, empty if there is none or the text is refused"
  pub entities : (text : List ℕ) (number r : ℕ) → EntityContract text number r → Locates text number r
  -- "a resent line changes nothing and gives its first row again"
  pub resent : (text : List ℕ) (f : File) → verdict text ≡ Verdict.accepted f
      → (bench state : List ℕ) → RunStart text bench state
      → (qs : List Request) (rs : List AfterLine) → Run bench state qs rs
      → Resent (taken_lines f state qs rs)
  -- and each resent line was sent before: its sender and number are those of an earlier accepted line of the run
  pub sent_before : (text : List ℕ) (f : File) → verdict text ≡ Verdict.accepted f
      → (bench state : List ℕ) → RunStart text bench state
      → (qs : List Request) (rs : List AfterLine) → Run bench state qs rs
      → AllSentBefore (fingerprint text) f [] (taken_lines f state qs rs)
  -- and a line that its sender sends again is accepted, even after lines of others
  pub sent_again : (text : List ℕ) (f : File) → verdict text ≡ Verdict.accepted f
      → (bench state : List ℕ) → RunStart text bench state
      → (qs : List Request) (rs : List AfterLine) → Run bench state qs rs
      → AllSentAgain f [] state qs rs
  -- "every printed value reads back as itself": the row of any sender in any state, which is what `follows` and `shows` say is given
  pub reads_back : (text : List ℕ) (f : File) → verdict text ≡ Verdict.accepted f
      → (print : ℕ) (m : List ℕ) (s : State) → state_of print f m ≡ some s
      → (sender : List ℕ) → is_sender sender ≡ true
      → ReadsBack f (kept sender s.senders) (sender_row f s sender)

pub demand_two : DemandTwo
demand_two = record {
  admits = check_admits;
  follows = line_follows;
  freshens = fresh_freshens;
  names = header_names;
  shows = row_shows;
  sheets = sheet_sheets;
  classes = answer_classified;
  entities = answer_locates;
  resent = run_resent;
  sent_before = run_sent_before;
  sent_again = run_sent_again;
  reads_back = row_reads_back;
}

-- "a single claim about whole lists and not one for each call"
pub record DemandThree : Type 1 where
  -- "Over every list of calls, refused ones included, the engine's state stays that of the paper's bare machine, which never comes to a stop"
  pub stays : (text : List ℕ) (f : File) → verdict text ≡ Verdict.accepted f
      → (bench state : List ℕ) → RunStart text bench state
      → (qs : List Request) (rs : List AfterLine) → Run bench state qs rs
      → proceed (ref_fresh f) (λ s. ref_run f s qs) ≡ running (map (sight (fingerprint text) f) rs)
  -- "and two runs whose accepted lines agree on a closed set of entities agree on that set's values and fired actions, whatever the rest reads"
  pub apart : (text : List ℕ) (f : File) → verdict text ≡ Verdict.accepted f
      → (S : ℕ → Type 0) → Closed f S
      → (bench state bench' state' : List ℕ) → RunStart text bench state → RunStart text bench' state'
      → (qs qs' : List Request) (rs rs' : List AfterLine) → Run bench state qs rs → Run bench' state' qs' rs'
      → SideBySide (λ x y. SameLines S x.line y.line) (taken_lines f state qs rs) (taken_lines f state' qs' rs')
      → SideBySide (SameValues (fingerprint text) f S) (taken_lines f state qs rs) (taken_lines f state' qs' rs')

pub demand_three : DemandThree
demand_three = record { stays = run_stays; apart = runs_apart }
