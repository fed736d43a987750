-- The loop over a day's records: what is printed so far, and what is left.
use Prim.Native.Nat.{ℕ, suc, ◌+◌, ◌-◌, ◌*◌, ◌≤◌, ◌<◌}
use native.Mathlib.Omega.{arith}
use mathlib.Core.Path.{◌≡◌, refl, sym, ap, ap₂, ◌∙◌, subst}
use mathlib.Core.Bool.{Bool}
use mathlib.Core.List.{List, [], ◌∷◌, ◌++◌, map, flat_map, append-nil, append_assoc}
use mathlib.Core.Option.{some}
use Rattle.std.specs.Prelude.{Option, Some, None}
use lib.ListN.{length, take, drop, replicate}
use Rattle.values.specs.declared.Value.{Value}
use Rattle.values.specs.inner_contracts.Puts.{Put}
use Rattle.values.proofs.laws.PutLaws.{put_length, put_same}
use Rattle.text.specs.definitions.Syntax.{File}
use Rattle.cycles.specs.definitions.Reference.{read_spot}
use Rattle.cycles.specs.definitions.Readings.{lines}
use Rattle.senders.specs.definitions.Sender.{State}
use Rattle.senders.specs.definitions.Answer.{Answer}
use Rattle.senders.specs.definitions.Line.{Accepted, line}
use Rattle.senders.specs.definitions.Turns.{state_after, turns}
use Rattle.senders.specs.definitions.Fingerprint.{fingerprint}
use Rattle.senders.specs.definitions.StateImage.{STATE, state_of}
use Rattle.senders.specs.inner_contracts.Advancing.{state_memory}
use Rattle.senders.proofs.laws.StandsLaws.{fingerprint_below, memory_stands}
use Rattle.sheets.specs.declared.Fold.{Fold}
use Rattle.sheets.specs.definitions.Layout.{MOST_CHOSEN}
use Rattle.sheets.specs.definitions.Sizes.{MOST_LINE_BYTES, MOST_CLOSING_BYTES}
use Rattle.sheets.specs.definitions.Rows.{PrintedLine, line_rows}
use Rattle.sheets.specs.definitions.Folds.{NONE_SET, folded_values, folds}
use Rattle.sheets.specs.definitions.Closing.{all_closing_rows}
use Rattle.sheets.specs.definitions.Sheet.{with_feeds, sheet as sheet-bytes}
use Rattle.sheets.proofs.laws.RowLaws.{chosen_most, line_most}
use Rattle.sheets.proofs.laws.FoldLaws.{folds_none, folds_snoc}
use Rattle.sheets.proofs.laws.SheetLaws.{lines_none, lines_next, sheet_put}
use Rattle.days.specs.definitions.DaySheet.{printed_lines, day_sheet}
use Rattle.days.specs.inner_contracts.Choosing.{CellsRead, RealsRead}
use Rattle.days.specs.inner_contracts.SheetMemory.{LineEnd, new_number, Stepped, DayGiven, day_file, DayPut}
use Rattle.days.proofs.laws.DayLaws.{line_taken, no_lines, printed_after, printed_if, printed_by_number, printed_first, printed_none}

module _ {classes literals d refs scopes columns : List ℕ} {width : ℕ} {spots : List ℕ} {count : ℕ} {state₀ : List ℕ} (readings : List ℕ) where
  -- what the records from `at` on print in a state
  abbrev pub printed_from : DayGiven classes literals d refs scopes columns width spots count state₀ → State → ℕ → List PrintedLine
  printed_from g s at = printed_lines g.ps (turns (day_file g) g.names s (lines (drop at readings)))

  module _ (from : ℕ) (m : List ℕ) where
    -- what is printed so far stands in the sheet's memory and in the folds; with what is left it is all
    pub record SoFar (g : DayGiven classes literals d refs scopes columns width spots count state₀) (at end : ℕ) (state sheet : List ℕ)
        (gs : List Fold) : Type 0 where
      pub after : State
      pub stands : state_of (fingerprint g.text) (day_file g) state ≡ some after
      pub done : List PrintedLine
      pub put : Put (with_feeds (flat_map line_rows done)) m 0 sheet end
      pub gathers : gs ≡ folds done
      pub all : printed_from g g.before from ≡ done ++ printed_from g after at

module _ (classes literals d refs scopes columns : List ℕ) (width : ℕ) (spots : List ℕ) (count : ℕ) (readings : List ℕ) (from : ℕ) (state₀ m : List ℕ) where
  pub record Going (at end : ℕ) (state sheet : List ℕ) (gs : List Fold) : Type 0 where
    pub room : end + (MOST_CHOSEN * MOST_CLOSING_BYTES + MOST_LINE_BYTES * length (lines (drop at readings))) ≤ length m
    pub size : length sheet ≡ length m
    pub state_size : STATE ≤ length state
    pub state_kept : length state ≡ length state₀
    pub is : (g : DayGiven classes literals d refs scopes columns width spots count state₀) → SoFar readings from m g at end state sheet gs

  pub going_begin : STATE ≤ length state₀ → MOST_CHOSEN * MOST_CLOSING_BYTES + MOST_LINE_BYTES * length (lines (drop from readings)) ≤ length m
      → {gs : List Fold} → gs ≡ replicate MOST_CHOSEN NONE_SET → Going from 0 state₀ m gs
  unfolding with_feeds flat_map
  going_begin h r e = record {
    room = omega arith;
    size = refl;
    state_size = h;
    state_kept = refl;
    is = λ g. record { after = g.before; stands = g.state_is; done = []; put = lines_none m 0; gathers = e ∙ sym folds_none; all = refl };
  }

  module _ {at end stop : ℕ} {state sheet : List ℕ} {gs : List Fold} (w : Going at end state sheet gs) (inside : at < length readings)
      (ends : LineEnd readings at stop) where
    left : lines (drop at readings) ≡ take (stop - at) (drop at readings) ∷ lines (drop (stop + 1) readings)
    left = line_taken readings at stop inside ends

    left_length : length (lines (drop at readings)) ≡ suc (length (lines (drop (stop + 1) readings)))
    left_length = ap length left

    module _ {new_state : List ℕ} (kept : length new_state ≡ length state) {t : Option ℕ}
        (steps : Stepped classes literals d refs scopes columns width (take (stop - at) (drop at readings)) state new_state t) where
      -- the state after the record
      module _ (g : DayGiven classes literals d refs scopes columns width spots count state₀) where
        abbrev f : File
        f = day_file g

        abbrev s : State
        s = (w.is g).after

        abbrev v : List ℕ
        v = take (stop - at) (drop at readings)

        abbrev a : Answer Accepted
        a = line f s g.names v

        abbrev print : ℕ
        print = fingerprint g.text

        stepped : (t ≡ new_number a) × (new_state ≡ state_memory print f s a state)
        stepped = steps.is g.text g.offsets g.lengths g.bench print s (w.is g).stands g.names g.cs g.header_is g.columns_are

        abbrev after : State
        after = state_after f s a

        abbrev rest : List PrintedLine
        rest = printed_from readings g after (stop + 1)

        stands_after : state_of print f new_state ≡ some after
        stands_after =
            ap (state_of print f) stepped.1
            ∙ memory_stands g.bench print (fingerprint_below g.text) state s (w.is g).stands g.names v

        all_after : printed_from readings g g.before from ≡ (w.is g).done ++ (printed_after f g.ps s a ++ rest)
        all_after =
            (w.is g).all
            ∙ ap (λ (ls : List (List ℕ)). (w.is g).done ++ printed_lines g.ps (turns f g.names s ls)) left
            ∙ ap (λ (l : List PrintedLine). (w.is g).done ++ l) (printed_first f g.ps s g.names v (lines (drop (stop + 1) readings)))

        -- what it prints, by what the code says of its number
        printed : {o : Option ℕ} → t ≡ o → printed_after f g.ps s a ≡ printed_if o (map (read_spot after.stores.now) g.ps)
        printed q =
            printed_by_number f g.ps s a ∙ ap (λ (k : Option ℕ). printed_if k (map (read_spot after.stores.now) g.ps)) (sym stepped.0 ∙ q)

      -- a record that prints nothing
      pub going_passes : t ≡ None → Going (stop + 1) end new_state sheet gs
      going_passes q = record {
        room =
            let r = w.room in
            let l = left_length in
            omega arith;
        size = w.size;
        state_size = let h = w.state_size in omega arith;
        state_kept = kept ∙ w.state_kept;
        is = λ g. record {
          after = after g;
          stands = stands_after g;
          done = (w.is g).done;
          put = (w.is g).put;
          gathers = (w.is g).gathers;
          all = all_after g
              ∙ ap (λ (l : List PrintedLine). (w.is g).done ++ (l ++ rest g))
              (printed g q);
        };
      }

      -- a new line: its rows are put, its values gathered
      pub going_prints : {number : ℕ} → t ≡ Some number → {vs : List Value} → CellsRead d new_state spots count vs → count ≤ MOST_CHOSEN
          → {new_sheet : List ℕ} {new_end : ℕ} → Put (with_feeds (line_rows (record { number = number; values = take count vs }))) sheet end new_sheet new_end
          → {hs : List Fold} → hs ≡ folded_values gs (take count vs) → Going (stop + 1) new_end new_state new_sheet hs
      going_prints {number} q {vs} reads few {new_sheet} {new_end} puts {hs} gathers = record {
        room =
            let r = w.room in
            let l = left_length in
            let most = line_most (record { number = number; values = take count vs }) (chosen_most vs count few) in
            let z = puts.end in
            omega arith;
        size = put_length puts ∙ w.size;
        state_size = let h = w.state_size in omega arith;
        state_kept = kept ∙ w.state_kept;
        is = λ g.
            let r = w.is g in
            let p : PrintedLine = record { number = number; values = take count vs } in
            let b = g.bench.checked in
            let same : p ≡ record { number = number; values = map (read_spot (after g).stores.now) g.ps } =
            ap (λ (l : List Value). record { number = number; values = l })
            (reads.is g.text classes g.offsets g.lengths b.bench b.few (print g) (after g) (stands_after g) g.cells g.ps g.chosen_is
            g.spots_are) in
            record {
              after = after g;
              stands = stands_after g;
              done = r.done ++ (p ∷ []);
              put = lines_next r.done p r.put puts;
              gathers = gathers ∙ ap (λ (l : List Fold). folded_values l (take count vs)) r.gathers ∙ sym (folds_snoc r.done p);
              all = all_after g
                  ∙ ap (λ (l : List PrintedLine). r.done ++ (l ++ rest g))
                  (printed g q ∙ ap (λ (l : PrintedLine). l ∷ []) (sym same))
                  ∙ sym (append_assoc r.done (p ∷ []) (rest g));
            };
      }

  module _ {at end : ℕ} {state sheet : List ℕ} {gs : List Fold} (w : Going at end state sheet gs) where
    pub going_ends : length readings ≤ at → {reals : List Bool} → RealsRead classes d spots count reals → {new_sheet : List ℕ} {r : ℕ}
        → Put (with_feeds (all_closing_rows 0 (take count reals) gs)) sheet end new_sheet r
        → DayPut classes literals d refs scopes columns width spots count readings from state₀ m new_sheet r
    unfolding day_sheet
    going_ends over {reals} real {new_sheet} {r} puts = record {
      is = λ g.
          let f = day_file g in
          let p = w.is g in
          let all : printed_lines g.ps (turns f g.names g.before (lines (drop from readings))) ≡ p.done =
          p.all ∙ ap (λ (l : List (List ℕ)). p.done ++ printed_lines g.ps (turns f g.names p.after l)) (no_lines readings at over)
          ∙ ap (λ (l : List PrintedLine). p.done ++ l) (printed_none f g.ps p.after g.names) ∙ append-nil p.done in
          let b = g.bench.checked in
          let kinds = real.is g.text g.offsets g.lengths b.bench b.few g.cells g.ps g.chosen_is g.spots_are in
          put_same
          (sheet_put (take count reals) p.done p.put
          (subst (λ (l : List Fold). Put (with_feeds (all_closing_rows 0 (take count reals) l)) sheet end new_sheet r) p.gathers puts))
          (ap₂ sheet-bytes kinds (sym all));
    }
