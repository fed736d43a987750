-- The sheet on a bench in columns: by what its parts say.
use Prim.Native.Nat.{ℕ, ◌+◌, ◌-◌, ◌*◌, ◌≤◌, ◌<◌}
use native.Mathlib.Omega.{arith}
use mathlib.Core.Path.{◌≡◌, refl, sym, ap, ◌∙◌, subst}
use mathlib.Core.Bool.{Bool, true, false}
use mathlib.Core.List.{List, [], ◌++◌, append-nil}
use mathlib.Core.Option.{Option, none, some}
use lib.ListN.{length, get_or, take, drop, drop_of_length-le}
use lib.Seq.{length-take-le}
use Rattle.values.specs.definitions.Bytes.{overwritten}
use Rattle.values.specs.inner_contracts.Puts.{Put}
use Rattle.values.proofs.laws.ByteLaws.{overwritten_parts}
use Rattle.text.specs.definitions.Syntax.{File}
use Rattle.cycles.specs.definitions.Spots.{Spot}
use Rattle.cycles.specs.definitions.Header.{Column, header}
use Rattle.cycles.specs.definitions.Readings.{lines}
use Rattle.senders.specs.definitions.Sender.{State}
use Rattle.senders.specs.definitions.Answer.{Answer, refused, accepted, or_refused}
use Rattle.senders.specs.definitions.Turns.{turns}
use Rattle.senders.specs.definitions.Fingerprint.{fingerprint}
use Rattle.senders.specs.definitions.StateImage.{STATE, decode, is_state, state_of}
use Rattle.senders.specs.inner_contracts.SenderMemory.{StateTest}
use Rattle.senders.specs.inner_contracts.Advancing.{ResolvedBench}
use Rattle.senders.proofs.laws.StateLaws.{state_decoded, no_state}
use Rattle.senders.proofs.laws.StandsLaws.{fingerprint_below}
use Rattle.cycles.specs.inner_contracts.HeaderReads.{MOST_COLUMNS, backwards, HeaderIs, HeaderRead}
use Rattle.cycles.proofs.laws.CellTokenLaws.{few_within}
use Rattle.cycles.specs.inner_contracts.RowMemory.{InFront}
use Rattle.cycles.proofs.laws.PutLaws.{put_in_front}
use Rattle.sheets.specs.definitions.Layout.{MOST_CHOSEN}
use Rattle.sheets.specs.definitions.Sizes.{MOST_LINE_BYTES, MOST_CLOSING_BYTES}
use Rattle.days.specs.inner_contracts.SheetMemory.{Refused, Length}
use Rattle.days.specs.definitions.Chosen.{chosen}
use Rattle.days.specs.definitions.DaySheet.{day_sheet, sheet_in, sheet_if_state, sheet_size}
use Rattle.days.specs.inner_contracts.Choosing.{ChosenAre, ChosenRead}
use Rattle.days.specs.inner_contracts.SheetMemory.{LineEnd, DayPut, SheetIs, SheetPut}
use Rattle.days.proofs.laws.ImageFront.{state_front}
use Rattle.days.proofs.laws.DayLaws.{header_taken, records_left, records_most}
use Rattle.days.proofs.laws.SizeLaws.{chosen_few, day_sheet_most}

-- a sheet that is put at the front
put_stands : {bytes m new_m : List ℕ} {r : ℕ} → Put bytes m 0 new_m r → length bytes ≤ length m → SheetIs (accepted bytes) m new_m (Length r)
put_stands {bytes} {m} {new_m} {r} put h =
    let e = put.end in
    let z : r ≡ length bytes = omega arith in
    (ap Length z, subst (λ (n : ℕ). InFront bytes m new_m n) z (put_in_front put (omega arith)))

-- a day under a header's columns, those that stand among more
pub day_taken : {classes literals d refs scopes taken columns spots readings state m new_m : List ℕ} {width count from r : ℕ}
    → length taken ≡ width → backwards width taken ≡ backwards width columns
    → DayPut classes literals d refs scopes taken (length taken) spots count readings from state m new_m r
    → DayPut classes literals d refs scopes columns width spots count readings from state m new_m r
day_taken {taken = taken} size same p = record {
  is = λ g. p.is (record {
    text = g.text;
    offsets = g.offsets;
    lengths = g.lengths;
    bench = g.bench;
    names = g.names;
    cs = g.cs;
    header_is = g.header_is;
    columns_are = g.columns_are ∙ sym same ∙ ap (λ (k : ℕ). backwards k taken) (sym size);
    cells = g.cells;
    ps = g.ps;
    chosen_is = g.chosen_is;
    spots_are = g.spots_are;
    before = g.before;
    state_is = g.state_is;
  });
}

-- the copy of a state
pub copy_made : (c state : List ℕ) → length c ≡ STATE → STATE ≤ length state → overwritten c 0 (take (STATE - 0) state) ≡ take STATE state
copy_made c state e h =
    let n = length-take-le STATE state h in
    let all : length c ≤ 0 + length (take STATE state) = omega arith in
    let none : drop (0 + length (take STATE state)) c ≡ [] = drop_of_length-le c all in
    overwritten_parts c 0 (take STATE state) (omega arith) ∙ ap (λ (l : List ℕ). take STATE state ++ l) none ∙ append-nil (take STATE state)

-- room for all records
pub room_for_day : (readings : List ℕ) {end size : ℕ} → LineEnd readings 0 end → sheet_size readings ≤ size
    → MOST_CHOSEN * MOST_CLOSING_BYTES + MOST_LINE_BYTES * length (lines (drop (end + 1) readings)) ≤ size
unfolding sheet_size
room_for_day readings {end} e h =
    let few = records_most readings in
    let n = ap length (records_left readings end e) in
    omega arith

module _ (text classes offsets lengths literals d refs scopes state readings cells m : List ℕ) {print : ℕ} (prints : print ≡ fingerprint text) {is : Bool}
    (tests : StateTest print classes d state is) where
  abbrev BenchThere : Type 0
  BenchThere = ResolvedBench text classes offsets lengths literals d refs scopes

  abbrev file : BenchThere → File
  file b = b.checked.bench.file

  tested : (b : BenchThere) → is ≡ is_state (fingerprint text) (file b) state
  tested b =
      tests.is text offsets lengths b.checked.bench b.checked.few ∙ ap (λ (p : ℕ). is_state p (file b) state) prints

  pub sheet_no_state : is ≡ false → SheetPut text classes offsets lengths literals d refs scopes state readings cells m m (Refused 33)
  unfolding sheet_if_state
  sheet_no_state q = record {
    is = λ b. rw (no_state (fingerprint text) (file b) state (sym (tested b) ∙ q)) (refl, refl);
  }

  module _ (q : is ≡ true) {spots : List ℕ} {count : ℕ} (chooses : ChosenRead text offsets lengths d cells spots count) where
    -- the state that memory stands for
    there : (b : BenchThere) → state_of (fingerprint text) (file b) state ≡ some (decode (file b) state)
    there b = state_decoded (fingerprint text) (file b) state (sym (tested b) ∙ q)

    -- the sheet's answer
    abbrev answer : BenchThere → Answer (List ℕ)
    answer b = sheet_if_state (file b) (state_of (fingerprint text) (file b) state) readings cells

    none_chosen : MOST_CHOSEN < count → (b : BenchThere) → chosen (file b) cells ≡ none
    none_chosen more b = go (chosen (file b) cells) refl (chooses.is classes b.checked.bench b.checked.few)
      where
        go : (o : Option (List Spot)) → chosen (file b) cells ≡ o → ChosenAre o count spots → chosen (file b) cells ≡ none
        go none e c = e
        go (some ps) e c = absurd (omega (arith, c.0))

    pub sheet_none_chosen : MOST_CHOSEN < count → SheetPut text classes offsets lengths literals d refs scopes state readings cells m m (Refused 41)
    unfolding sheet_if_state sheet_in or_refused
    sheet_none_chosen more = record {
      is = λ b.
          let e : answer b ≡ refused 41 = rw (there b, none_chosen more b) in
          subst (λ (a : Answer (List ℕ)). SheetIs a m m (Refused 41)) (sym e) (refl, refl);
    }

    module _ (few : count ≤ MOST_CHOSEN) {end : ℕ} (ends : LineEnd readings 0 end) {columns : List ℕ} {width : ℕ}
        (read_so : HeaderRead text classes offsets lengths d (take (end - 0) readings) columns width) where
      reads : HeaderRead text classes offsets lengths d (take end readings) columns width
      reads = let z : end - 0 ≡ end = omega arith in rw z at read_so

      -- the chosen cells
      abbrev ChosenThere : File → Type 0
      ChosenThere f = (ps : List Spot) × (chosen f cells ≡ some ps) × ChosenAre (some ps) count spots

      cells_chosen : (b : BenchThere) → ChosenThere (file b)
      cells_chosen b = go (chosen (file b) cells) refl (chooses.is classes b.checked.bench b.checked.few)
        where
          go : (o : Option (List Spot)) → chosen (file b) cells ≡ o → ChosenAre o count spots → ChosenThere (file b)
          go none e c = absurd (omega (arith, c))
          go (some ps) e c = (ps, e, c)

      no_columns : MOST_COLUMNS < width → (b : BenchThere) → header (file b) (take end readings) ≡ none
      no_columns more b = go (header (file b) (take end readings)) refl (reads.is b.checked.bench b.checked.few)
        where
          go : (o : Option (List Column)) → header (file b) (take end readings) ≡ o → HeaderIs o width columns → header (file b) (take end readings) ≡ none
          go none e c = e
          go (some cs) e c = absurd (omega (arith, c.0))

      pub sheet_no_header : MOST_COLUMNS < width → SheetPut text classes offsets lengths literals d refs scopes state readings cells m m (Refused 22)
      unfolding sheet_if_state sheet_in or_refused
      sheet_no_header more = record {
        is = λ b.
            let (ps, e, c) = cells_chosen b in
            let a : answer b ≡ refused 22 = rw (there b, e, header_taken readings end ends, no_columns more b) in
            subst (λ (a : Answer (List ℕ)). SheetIs a m m (Refused 22)) (sym a) (refl, refl);
      }

      module _ (few_columns : width ≤ MOST_COLUMNS) (state_size : STATE ≤ length state) (low : (i : ℕ) → get_or state i 0 < 256)
          (room : sheet_size readings ≤ length m) where
        abbrev HeaderThere : File → Type 0
        HeaderThere f = (cs : List Column) × (header f (take end readings) ≡ some cs) × HeaderIs (some cs) width columns

        columns_read : (b : BenchThere) → HeaderThere (file b)
        columns_read b = go (header (file b) (take end readings)) refl (reads.is b.checked.bench b.checked.few)
          where
            go : (o : Option (List Column)) → header (file b) (take end readings) ≡ o → HeaderIs o width columns → HeaderThere (file b)
            go none e c = absurd (omega (arith, c))
            go (some cs) e c = (cs, e, c)

        -- the sheet's answer, by the parts that were read
        made_answer : (b : BenchThere) → {ps : List Spot} → chosen (file b) cells ≡ some ps
            → {cs : List Column} → header (file b) (take end readings) ≡ some cs
            → answer b
            ≡ accepted (day_sheet ps (turns (file b) (take end readings) (decode (file b) state) (lines (drop (end + 1) readings))))
        unfolding sheet_if_state sheet_in or_refused
        made_answer b e h = rw (there b, e, header_taken readings end ends, records_left readings end ends, h)

        made_most : (f : File) {ps : List Spot} → chosen f cells ≡ some ps → (s : State)
            → length (day_sheet ps (turns f (take end readings) s (lines (drop (end + 1) readings)))) ≤ length m
        made_most f {ps} e s =
            let names = take end readings in
            let most =
            subst (λ (ls : List (List ℕ)). length (day_sheet ps (turns f names s ls)) ≤ sheet_size readings) (records_left readings end ends)
            (day_sheet_most f ps names (chosen_few f cells ps e) s readings) in
            omega arith

        pub sheet_made : {copy new_m : List ℕ} {r : ℕ} → copy ≡ take STATE state
            → DayPut classes literals d refs scopes columns width spots count readings (end + 1) copy m new_m r
            → SheetPut text classes offsets lengths literals d refs scopes state readings cells m new_m (Length r)
        sheet_made {copy} {new_m} {r} same day = record { is = λ b. made b (cells_chosen b) (columns_read b) }
          where
            made : (b : BenchThere) → ChosenThere (file b) → HeaderThere (file b) → SheetIs (answer b) m new_m (Length r)
            made b (ps, e, c) (cs, h, k) =
                let s = decode (file b) state in
                let within = few_within (file b) b.checked.few in
                let copied : state_of (fingerprint text) (file b) copy ≡ some s =
                ap (state_of (fingerprint text) (file b)) same
                ∙ state_front (file b) within (fingerprint text) (fingerprint_below text) state state_size low s (there b) in
                let put = day.is (record {
                  text = text;
                  offsets = offsets;
                  lengths = lengths;
                  bench = b;
                  names = take end readings;
                  cs = cs;
                  header_is = h;
                  columns_are = k.1;
                  cells = cells;
                  ps = ps;
                  chosen_is = e;
                  spots_are = c.1;
                  before = s;
                  state_is = copied;
                }) in
                subst (λ (x : Answer (List ℕ)). SheetIs x m new_m (Length r)) (sym (made_answer b e h)) (put_stands put (made_most (file b) e s))
