-- The numbers that the sheet's call answers, and what it writes where it accepts.
use Prim.Native.Nat.{ℕ, ◌%◌, ◌≤◌}
use native.Mathlib.Omega.{arith}
use mathlib.Core.Logic.{◌↔◌}
use mathlib.Core.Path.{◌≡◌, refl, sym, ap, ◌∙◌, subst}
use mathlib.Core.Bool.{Bool, true, false, ◌||◌}
use mathlib.Core.List.{List, [], ◌∷◌}
use mathlib.Core.Option.{Option, none, some}
use lib.Dec.{ltb}
use lib.ListN.{length}
use borrow.Author.Tests.{le-ltb}
use Rattle.text.specs.definitions.Syntax.{File}
use Rattle.cycles.specs.definitions.Spots.{Spot}
use Rattle.cycles.specs.definitions.Header.{Column, header}
use Rattle.cycles.specs.definitions.Readings.{lines, header_line, record_lines}
use Rattle.cycles.specs.definitions.ClosedSet.{here, there}
use Rattle.senders.specs.definitions.Sender.{State}
use Rattle.senders.specs.definitions.Answer.{Answer, refused, accepted, or_refused}
use Rattle.senders.specs.definitions.Turns.{turns}
use Rattle.senders.specs.definitions.StateImage.{STATE, state_of}
use Rattle.days.specs.definitions.Chosen.{chosen}
use Rattle.days.specs.definitions.DaySheet.{day_sheet, sheet_in, sheet_if_state, sheet_size}
use Rattle.days.proofs.theorems.DayRuns.{day_runs}
use Rattle.days.proofs.theorems.DaySizes.{rows_full}
use Rattle.engine.specs.definitions.BenchImage.{BENCH, bench_of}
use Rattle.engine.specs.definitions.Calls.{fingerprint_of, LENGTHS, length_answer, AfterSheet, sheet_answered, sheet_on_bench, sheet_call, SheetContract}
use Rattle.engine.specs.definitions.DemandOne.{number_of, SHEET_NUMBERS, ListedAnswer}
use Rattle.engine.specs.definitions.DemandTwo.{SheetLent, Sheets}
use Rattle.engine.proofs.laws.BenchLaws.{bench_accepted}
use Rattle.engine.proofs.laws.NumberLaws.{refusal, acceptance, above_number}
use Rattle.engine.proofs.laws.FollowsLaws.{not_zero}

-- ---- numbers

abbrev Numbered : List ℕ → AfterSheet → Type 0
Numbered m x = ListedAnswer SHEET_NUMBERS x.answer (m ∷ []) (x.sheet ∷ [])

sheet_call_numbered : (bench state readings cells m : List ℕ) → Numbered m (sheet_call bench state readings cells m)
unfolding sheet_call sheet_on_bench sheet_answered sheet_if_state sheet_in or_refused
sheet_call_numbered bench state readings cells m =
    by_size (ltb (length bench) BENCH || ltb (length state) STATE || ltb (length m) (sheet_size readings))
  where
    by_header : (bytes : List ℕ) (o : Option (List Column)) → Numbered m (sheet_answered (or_refused 22 o (λ cs. accepted bytes)) m)
    by_header bytes none = refusal 22 (there (there (there (there (there here)))))
    by_header bytes (some cs) = acceptance (length_answer (length bytes)) (above_number (length bytes % LENGTHS)) here

    by_chosen : (f : File) (s : State) (o : Option (List Spot))
        → Numbered m
        (sheet_answered
        (or_refused 41 o λ ps.
        or_refused 22 (header f (header_line (lines readings))) λ cs.
        accepted (day_sheet ps (turns f (header_line (lines readings)) s (record_lines (lines readings))))) m)
    by_chosen f s none = refusal 41 (there (there (there (there here))))
    by_chosen f s (some ps) =
        by_header (day_sheet ps (turns f (header_line (lines readings)) s (record_lines (lines readings)))) (header f (header_line (lines readings)))

    by_state : (f : File) (o : Option State) → Numbered m (sheet_answered (sheet_if_state f o readings cells) m)
    by_state f none = refusal 33 (there (there (there here)))
    by_state f (some s) = by_chosen f s (chosen f cells)

    by_bench : (o : Option File) → Numbered m (sheet_on_bench (fingerprint_of bench) o state readings cells m)
    by_bench none = refusal 32 (there (there here))
    by_bench (some f) = by_state f (state_of (fingerprint_of bench) f state)

    call : Bool → AfterSheet
    call b = elim b [ true ↦ record { answer = 31; sheet = m } | false ↦ sheet_on_bench (fingerprint_of bench) (bench_of bench) state readings cells m ]

    by_size : (b : Bool) → Numbered m (call b)
    by_size true = refusal 31 (there here)
    by_size false = by_bench (bench_of bench)

pub sheet_numbered : (bench state readings cells sheet new_sheet : List ℕ) (r : ℕ) → SheetContract bench state readings cells sheet new_sheet r
    → ListedAnswer SHEET_NUMBERS r (sheet ∷ []) (new_sheet ∷ [])
sheet_numbered bench state readings cells sheet new_sheet r c = subst (Numbered sheet) (sym c) (sheet_call_numbered bench state readings cells sheet)

-- ---- what is written

module _ (bench state readings cells m : List ℕ) (x : AfterSheet) (c : x ≡ sheet_on_bench (fingerprint_of bench) (bench_of bench) state readings cells m) where
  abbrev names : List ℕ
  names = header_line (lines readings)

  abbrev bytes : File → State → List Spot → List ℕ
  bytes f s ps = day_sheet ps (turns f names s (record_lines (lines readings)))

  -- by the bench and the state
  in_state : (f : File) → bench_of bench ≡ some f → (o : Option State) → state_of (fingerprint_of bench) f state ≡ o
      → x ≡ sheet_answered (sheet_if_state f o readings cells) m
  unfolding sheet_on_bench
  in_state f b o e =
      c ∙ ap (λ (p : Option File). sheet_on_bench (fingerprint_of bench) p state readings cells m) b
      ∙ ap (λ (p : Option State). sheet_answered (sheet_if_state f p readings cells) m) e

  not_refused : (code : ℕ) → number_of x.answer ≡ 0 → x ≡ sheet_answered (refused code) m → (number_of code ≡ 0 → ⊥) → ⊥
  unfolding sheet_answered
  not_refused code z i never = not_zero code (ap (λ (y : AfterSheet). y.answer) i) z never

  -- an accepted call was lent all that a sheet needs
  lent : number_of x.answer ≡ 0 → SheetLent bench state readings cells
  unfolding sheet_on_bench sheet_if_state sheet_in or_refused
  lent z = by_bench (bench_of bench) refl
    where
      by_header : (f : File) → bench_of bench ≡ some f → (s : State) → state_of (fingerprint_of bench) f state ≡ some s → (ps : List Spot) → chosen f cells ≡ some ps
          → (o : Option (List Column)) → header f names ≡ o → SheetLent bench state readings cells
      by_header f b s e ps p none h =
          let q : sheet_if_state f (some s) readings cells ≡ refused 22 = rw (p, h) in
          absurd (not_refused 22 z (in_state f b (some s) e ∙ ap (λ (a : Answer (List ℕ)). sheet_answered a m) q) (λ n. omega arith))
      by_header f b s e ps p (some cs) h = record {
        file = f;
        before = s;
        spots = ps;
        columns = cs;
        is_bench = b;
        is_state = e;
        is_chosen = p;
        is_header = h;
      }

      by_chosen : (f : File) → bench_of bench ≡ some f → (s : State) → state_of (fingerprint_of bench) f state ≡ some s
          → (o : Option (List Spot)) → chosen f cells ≡ o → SheetLent bench state readings cells
      by_chosen f b s e none p =
          let q : sheet_if_state f (some s) readings cells ≡ refused 41 = rw p in
          absurd (not_refused 41 z (in_state f b (some s) e ∙ ap (λ (a : Answer (List ℕ)). sheet_answered a m) q) (λ n. omega arith))
      by_chosen f b s e (some ps) p = by_header f b s e ps p (header f names) refl

      by_state : (f : File) → bench_of bench ≡ some f → (o : Option State) → state_of (fingerprint_of bench) f state ≡ o → SheetLent bench state readings cells
      by_state f b none e = absurd (not_refused 33 z (in_state f b none e) (λ n. omega arith))
      by_state f b (some s) e = by_chosen f b s e (chosen f cells) refl

      by_bench : (o : Option File) → bench_of bench ≡ o → SheetLent bench state readings cells
      by_bench none b =
          let i : x ≡ record { answer = 32; sheet = m } = c ∙ ap (λ (p : Option File). sheet_on_bench (fingerprint_of bench) p state readings cells m) b in
          absurd (not_zero 32 (ap (λ (y : AfterSheet). y.answer) i) z (λ n. omega arith))
      by_bench (some f) b = by_state f b (state_of (fingerprint_of bench) f state) refl

  module _ (k : SheetLent bench state readings cells) where
    made : sheet_in k.file k.before readings cells ≡ accepted (bytes k.file k.before k.spots)
    unfolding sheet_in or_refused
    made = rw (k.is_chosen, k.is_header)

    written : x ≡ sheet_answered (accepted (bytes k.file k.before k.spots)) m
    unfolding sheet_if_state
    written = in_state k.file k.is_bench (some k.before) k.is_state ∙ ap (λ (a : Answer (List ℕ)). sheet_answered a m) made

    sheets : Sheets bench state readings cells m x.answer x.sheet
    unfolding sheet_answered
    sheets =
        let t = bench_accepted bench k.is_bench in
        record {
          file = k.file;
          before = k.before;
          spots = k.spots;
          turns = turns k.file names k.before (record_lines (lines readings));
          is_bench = k.is_bench;
          is_state = k.is_state;
          is_chosen = k.is_chosen;
          runs = day_runs t.text k.file t.is_accepted (fingerprint_of bench) state k.before k.is_state names (record_lines (lines readings));
          rows = rows_full k.file cells k.spots k.is_chosen k.before names (record_lines (lines readings));
          writes = ap (λ (y : AfterSheet). y.sheet) written;
          counts = ap (λ (y : AfterSheet). y.answer) written;
        }

    accepted_answer : number_of x.answer ≡ 0
    unfolding sheet_answered
    accepted_answer =
        ap (λ (y : AfterSheet). number_of y.answer) written ∙ above_number (length (bytes k.file k.before k.spots) % LENGTHS)

sheet_is : (bench state readings cells m : List ℕ) → BENCH ≤ length bench → STATE ≤ length state → sheet_size readings ≤ length m
    → sheet_call bench state readings cells m ≡ sheet_on_bench (fingerprint_of bench) (bench_of bench) state readings cells m
unfolding sheet_call
sheet_is bench state readings cells m h g w =
    rw (le-ltb (length bench) BENCH h, le-ltb (length state) STATE g, le-ltb (length m) (sheet_size readings) w, sheet_call)

pub sheet_sheets : (bench state readings cells sheet new_sheet : List ℕ) (r : ℕ) → SheetContract bench state readings cells sheet new_sheet r
    → BENCH ≤ length bench → STATE ≤ length state → sheet_size readings ≤ length sheet
    → ((number_of r ≡ 0) ↔ SheetLent bench state readings cells) × (number_of r ≡ 0 → Sheets bench state readings cells sheet r new_sheet)
sheet_sheets bench state readings cells sheet new_sheet r c h g w =
    let x : AfterSheet = record { answer = r; sheet = new_sheet } in
    let i : x ≡ sheet_on_bench (fingerprint_of bench) (bench_of bench) state readings cells sheet = c ∙ sheet_is bench state readings cells sheet h g w in (
      (λ z. lent bench state readings cells sheet x i z, λ k. accepted_answer bench state readings cells sheet x i k),
      λ z. sheets bench state readings cells sheet x i (lent bench state readings cells sheet x i z),
    )
