-- The values of a record, read from the last on: the columns and the texts that are left, and the inputs that memory holds so far.
use Prim.Native.Nat.{ℕ, zero, suc, ◌+◌, ◌-◌, ◌≤◌, ◌<◌}
use native.Mathlib.Omega.{arith}
use mathlib.Core.Path.{◌≡◌, refl, sym, ap, ◌∙◌, subst}
use mathlib.Core.Bool.{Bool, true, false, false≢true, true≢false}
use mathlib.Core.List.{List, [], ◌∷◌, ◌++◌, append_assoc, map, Memᴰ}
use mathlib.Core.Option.{Option, none, some}
use lib.ListN.{length, get_or, take, drop, length-append, length-drop, length-map, drop_of_length-le}
use lib.Seq.{drop_at}
use Rattle.std.specs.Prelude.{Some, None, Ok, Err}
use Rattle.values.specs.definitions.Forms.{Field}
use Rattle.text.proofs.laws.ListLaws.{none_some}
use Rattle.checking.proofs.laws.DirectoryLaws.{number_below}
use Rattle.cycles.specs.definitions.Fields.{fields}
use Rattle.cycles.specs.definitions.Header.{Column}
use Rattle.cycles.specs.definitions.Record.{Input, field_in, input_before, inputs_in, inputs_of}
use Rattle.cycles.specs.inner_contracts.FieldReads.{FieldStart}
use Rattle.cycles.specs.inner_contracts.HeaderReads.{column_number, backwards}
use Rattle.cycles.specs.inner_contracts.LineReads.{
  is_well_formed,
  said,
  presence_table,
  input_table,
  presence_put,
  event_put,
  InputPut,
  RecordGiven,
  ValuesRead,
}
use Rattle.cycles.proofs.laws.FieldLaws.{split_end, LastOf, split_last}
use Rattle.cycles.proofs.laws.ColumnLaws.{backwards_length}
use Rattle.cycles.proofs.steps.InputLaws.{stands_small, presence_more, event_more}

-- ---- the last of a list

module _ {A : Type 0} where
  pub drop_next : (xs : List A) (j : ℕ) → j < length xs → (x : A) × (drop j xs ≡ x ∷ drop (suc j) xs)
  drop_next [] j h = absurd (omega arith)
  drop_next (x ∷ xs) zero h = (x, refl)
  drop_next (x ∷ xs) (suc j) h = drop_next xs j (omega arith)

  drop_member : (xs : List A) (j : ℕ) {x : A} {ys : List A} → drop j xs ≡ x ∷ ys → Memᴰ x xs
  drop_member [] zero e = let z : ◌≡◌ {A = ℕ} 0 1 = cc in absurd (omega arith)
  drop_member [] (suc j) e = let z : ◌≡◌ {A = ℕ} 0 1 = cc in absurd (omega arith)
  drop_member (y ∷ xs) zero {x} e = let q : y ≡ x = cc in Memᴰ.head (sym q)
  drop_member (y ∷ xs) (suc j) e = Memᴰ.tail (drop_member xs j e)

  drop_map : {B : Type 0} (f : A → B) (j : ℕ) (xs : List A) → drop j (map f xs) ≡ map f (drop j xs)
  drop_map f zero xs = refl
  drop_map f (suc j) [] = refl
  drop_map f (suc j) (x ∷ xs) = drop_map f j xs

last_drop : (x : List ℕ) (xs rest : List (List ℕ)) → LastOf (x ∷ xs) rest → rest ≡ drop (length xs - length rest) xs
last_drop x xs rest h = go h.before h.all
  where
    go : (ps : List (List ℕ)) → x ∷ xs ≡ ps ++ h.first ∷ rest → rest ≡ drop (length xs - length rest) xs
    go [] e =
        let q : xs ≡ rest = cc in
        let n : length xs - length rest ≡ 0 = rw q (omega arith) in
        rw n (sym q)
    go (p ∷ ps) e =
        let q : xs ≡ ps ++ h.first ∷ rest = cc in
        let r : xs ≡ (ps ++ h.first ∷ []) ++ rest = q ∙ sym (append_assoc ps (h.first ∷ []) rest) in
        let l : length xs ≡ length (ps ++ h.first ∷ []) + length rest = ap length r ∙ length-append (ps ++ h.first ∷ []) rest in
        sym (ap (drop (length xs - length rest)) r ∙ drop_at (ps ++ h.first ∷ []) rest (length xs - length rest) (omega arith))

backwards_drop : (count k : ℕ) (l : List ℕ) → k ≤ count → drop (count - k) (backwards count l) ≡ backwards k l
unfolding backwards
backwards_drop zero k l h =
    let n : k ≡ 0 = omega arith in
    let m : 0 - k ≡ 0 = omega arith in
    rw (m, n)
backwards_drop (suc c) k l h = go (suc c - k) refl (backwards_drop c k l)
  where
    go : (m : ℕ) → suc c - k ≡ m → (k ≤ c → drop (c - k) (backwards c l) ≡ backwards k l) → drop m (get_or l c 0 ∷ backwards c l) ≡ backwards k l
    go zero e later = let n : k ≡ suc c = omega arith in rw n
    go (suc m) e later = let n : m ≡ c - k = omega arith in rw n (later (omega arith))

-- ---- inputs

well_formed_input : (c : Column) (f : Field) (is : List Input) → is_well_formed f ≡ true
    → input_before c f (some is) ≡ some (record { column = c; says = said f } ∷ is)
unfolding input_before
well_formed_input c (Ok None) is h = refl
well_formed_input c (Ok (Some v)) is h = refl
well_formed_input c (Err e) is h = absurd (false≢true h)

ill_formed_input : (c : Column) (f : Field) (o : Option (List Input)) → is_well_formed f ≡ false → input_before c f o ≡ none
unfolding input_before
ill_formed_input c (Ok None) o h = absurd (true≢false h)
ill_formed_input c (Ok (Some v)) o h = absurd (true≢false h)
ill_formed_input c (Err e) o h = refl

inputs_none : (j : ℕ) (cs : List Column) (xs : List (List ℕ)) → inputs_in (drop j cs) (drop j xs) ≡ none → inputs_in cs xs ≡ none
unfolding inputs_in input_before
inputs_none zero cs xs h = h
inputs_none (suc j) [] xs h = absurd (none_some (sym h))
inputs_none (suc j) (c ∷ cs) [] h = absurd (no_texts (drop j cs) h)
  where
    no_texts : (ds : List Column) → inputs_in ds [] ≡ none → ⊥
    no_texts [] h = none_some (sym h)
    no_texts (d ∷ ds) h = none_some (sym h)
inputs_none (suc j) (c ∷ cs) (x ∷ xs) h = rw (inputs_none j cs xs h) (go (field_in c x))
  where
    go : (f : Field) → input_before c f none ≡ none
    go (Ok None) = refl
    go (Ok (Some v)) = refl
    go (Err e) = refl

-- ---- the loop

-- the last k texts are read: the next ends at `end`, and memory holds their inputs
pub record InputsGoing (classes d values columns : List ℕ) (count : ℕ) (flags₀ cells₀ : List ℕ) (g : RecordGiven classes d values columns count flags₀ cells₀)
    (flags cells : List ℕ) (end k : ℕ) : Type 0 where
  pub stands : fields (drop end values) ≡ [] ∷ drop (count - k) g.texts
  pub inputs : List Input
  pub read : inputs_in (drop (count - k) g.header) (drop (count - k) g.texts) ≡ some inputs
  pub in_flags : flags ≡ presence_table (inputs_of inputs) (length g.bench.file.entities) ++ g.flags_after
  pub in_cells : cells ≡ input_table (inputs_of inputs) (length g.bench.file.entities) ++ g.cells_after

pub record ValuesGoing (classes d values columns : List ℕ) (count : ℕ) (flags₀ cells₀ flags cells : List ℕ) (end k : ℕ) : Type 0 where
  pub within : end ≤ length values
  pub passed : k ≤ count
  pub going : (g : RecordGiven classes d values columns count flags₀ cells₀) → InputsGoing classes d values columns count flags₀ cells₀ g flags cells end k

module _ (classes d values columns : List ℕ) (count : ℕ) (flags₀ cells₀ : List ℕ) where
  header_length : (g : RecordGiven classes d values columns count flags₀ cells₀) → length g.header ≡ count
  header_length g = sym (length-map g.header column_number) ∙ ap length g.numbers ∙ backwards_length count columns

  pub values_begin : ValuesGoing classes d values columns count flags₀ cells₀ flags₀ cells₀ (length values) 0
  unfolding fields inputs_in
  values_begin = record {
    within = omega arith;
    passed = omega arith;
    going = λ g.
        let c = g.counted in
        let l = header_length g in
        let no_text : drop (count - 0) g.texts ≡ [] = drop_of_length-le g.texts {i = count - 0} (omega arith) in
        let no_column : drop (count - 0) g.header ≡ [] = drop_of_length-le g.header {i = count - 0} (omega arith) in
        record {
          stands = rw no_text (split_end 32 values (length values) (omega arith));
          inputs = [];
          read = rw no_column;
          in_flags = g.blank_flags;
          in_cells = g.blank_cells;
        };
  }

  module _ {flags cells : List ℕ} {end k : ℕ} (v : ValuesGoing classes d values columns count flags₀ cells₀ flags cells end k) where
    pub values_end : count ≤ k → ValuesRead classes d values columns count flags₀ cells₀ flags cells true
    values_end h =
        let p = v.passed in
        let z : count - k ≡ 0 = omega arith in
        record {
          is = λ g.
              let i = v.going g in
              let e : inputs_in g.header g.texts ≡ some i.inputs = rw z at i.read in
              rw e (refl, i.in_flags, i.in_cells);
        }

    module _ (h : k < count) {start : ℕ} (s : FieldStart 32 values end start) where
      abbrev its_text : List ℕ
      its_text = take (end - start) (drop start values)

      module _ (g : RecordGiven classes d values columns count flags₀ cells₀) where
        abbrev left : List (List ℕ)
        left = drop (count - k) g.texts

        its_texts : fields (drop start values) ≡ its_text ∷ left
        unfolding fields
        its_texts = s.field left (v.going g).stands

        left_length : length left ≡ k
        left_length = let c = g.counted in rw (length-drop (count - k) g.texts) (omega arith)

        -- it is not the first field
        not_first : start ≡ 0 → ⊥
        not_first z =
            let a : fields values ≡ its_text ∷ left = subst (λ (j : ℕ). fields (drop j values) ≡ its_text ∷ left) z its_texts in
            let b = g.parts in
            let e : g.number ∷ g.texts ≡ left = cc in
            let l = left_length in
            let m : suc (length g.texts) ≡ length left = ap length e in
            let c = g.counted in
            omega arith

        more_texts : fields (drop (start - 1) values) ≡ [] ∷ its_text ∷ left
        unfolding fields
        more_texts = s.marked (positive start not_first) ∙ ap (◌∷◌ []) its_texts
          where
            positive : (n : ℕ) → (n ≡ 0 → ⊥) → 0 < n
            positive n d = omega arith

        next_text : drop (count - (k + 1)) g.texts ≡ its_text ∷ left
        unfolding fields
        next_text =
            let a = split_last 32 values (start - 1) more_texts in
            let b : LastOf (g.sender ∷ g.number ∷ g.texts) (its_text ∷ left) = subst (λ (xs : List (List ℕ)). LastOf xs (its_text ∷ left)) g.parts a in
            let l = left_length in
            let c = g.counted in
            let n : suc (length g.texts) - suc (length left) ≡ suc (count - (k + 1)) = omega arith in
            sym (last_drop g.sender (g.number ∷ g.texts) (its_text ∷ left) b ∙ ap (λ (j : ℕ). drop j (g.number ∷ g.texts)) n)

        -- the column of the text
        record NextColumn : Type 0 where
          column : Column
          next : drop (count - (k + 1)) g.header ≡ column ∷ drop (count - k) g.header
          is_there : Memᴰ column g.header
          number : column_number column ≡ get_or columns k 0

        next_column : NextColumn
        unfolding backwards
        next_column = let l = header_length g in go (drop_next g.header (count - (k + 1)) (omega arith))
          where
            last_numbers : map column_number (drop (count - (k + 1)) g.header) ≡ backwards (suc k) columns
            last_numbers =
                let m : k + 1 ≡ suc k = omega arith in
                sym (drop_map column_number (count - (k + 1)) g.header)
                ∙ ap (drop (count - (k + 1))) g.numbers
                ∙ backwards_drop count (k + 1) columns (omega arith)
                ∙ ap (λ (j : ℕ). backwards j columns) m

            go : (c : Column) × (drop (count - (k + 1)) g.header ≡ c ∷ drop (suc (count - (k + 1))) g.header) → NextColumn
            go (c, e) =
                let n : suc (count - (k + 1)) ≡ count - k = omega arith in
                let q : drop (count - (k + 1)) g.header ≡ c ∷ drop (count - k) g.header = rw n at e in
                let b : column_number c ∷ map column_number (drop (count - k) g.header) ≡ get_or columns k 0 ∷ backwards k columns =
                sym (ap (map column_number) q) ∙ last_numbers in
                record { column = c; next = q; is_there = drop_member g.header (count - (k + 1)) q; number = cc }

      module _ {flags' cells' : List ℕ} {ok : Bool} (p : InputPut classes d (get_or columns k 0) its_text flags cells flags' cells' ok) where
        pub values_ill_formed : ok ≡ false → ValuesRead classes d values columns count flags₀ cells₀ flags' cells' false
        unfolding inputs_in
        values_ill_formed t = record {
          is = λ g.
              let n = next_column g in
              let c = n.column in
              let (a, b, e) = p.is g.text g.offsets g.lengths g.bench g.few c (g.stand c n.is_there) n.number in
              let z : inputs_in (drop (count - (k + 1)) g.header) (drop (count - (k + 1)) g.texts) ≡ none =
              rw (n.next, next_text g) (ill_formed_input c (field_in c its_text) (inputs_in (drop (count - k) g.header) (left g)) (sym a ∙ t)) in
              rw (inputs_none (count - (k + 1)) g.header g.texts z);
        }

        pub values_too_few : start ≡ 0 → ValuesRead classes d values columns count flags₀ cells₀ flags' cells' false
        values_too_few z = record { is = λ g. absurd (not_first g z) }

        pub values_next : ok ≡ true → (start ≡ 0 → ⊥) → ValuesGoing classes d values columns count flags₀ cells₀ flags' cells' (start - 1) (k + 1)
        unfolding inputs_in
        values_next t z =
            let w = v.within in
            let u = s.within in
            record { within = omega arith; passed = omega arith; going = λ g. go g (next_column g) (v.going g) }
          where
            go : (g : RecordGiven classes d values columns count flags₀ cells₀) → NextColumn g
                → InputsGoing classes d values columns count flags₀ cells₀ g flags cells end k
                → InputsGoing classes d values columns count flags₀ cells₀ g flags' cells' (start - 1) (k + 1)
            go g n i =
                let c = n.column in
                let stands = g.stand c n.is_there in
                let (a, b, e) = p.is g.text g.offsets g.lengths g.bench g.few c stands n.number in
                let more : Input = record { column = c; says = said (field_in c its_text) } in
                let below = number_below g.bench.file.entities c.entity stands.of_entity.1 in
                record {
                  stands = more_texts g ∙ ap (◌∷◌ []) (sym (next_text g));
                  inputs = more ∷ i.inputs;
                  read = rw (n.next, next_text g, i.read) (well_formed_input c (field_in c its_text) i.inputs (sym a ∙ t));
                  in_flags = b ∙ ap (presence_put c.entity c.event (said (field_in c its_text))) i.in_flags
                      ∙ presence_more more i.inputs (length g.bench.file.entities) g.flags_after below;
                  in_cells = e ∙ ap (event_put c.entity c.event (said (field_in c its_text))) i.in_cells
                      ∙ event_more more i.inputs (length g.bench.file.entities) g.cells_after below
                      (stands_small g.bench.file g.few c stands);
                }
