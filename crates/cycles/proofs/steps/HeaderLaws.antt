-- Headers in memory: the numbers of a header's columns, read from the last field on, and `by` before them.
use Prim.Native.Nat.{ℕ, suc, ◌+◌, ◌-◌, ◌≤◌, ◌<◌}
use native.Mathlib.Omega.{arith}
use mathlib.Core.Path.{◌≡◌, refl, sym, ap, ap₂, ◌∙◌, subst}
use mathlib.Core.Bool.{Bool, true, false, cond, true≢false}
use mathlib.Core.List.{List, [], ◌∷◌, ◌++◌, append_assoc, map}
use mathlib.Core.Option.{Option, none, some}
use lib.Dec.{T}
use lib.ListN.{length, get_or, set, take, drop, length-take, take-append-drop}
use borrow.Author.Tests.{le-leb, lt-leb}
use Rattle.values.specs.definitions.Bytes.{same_bytes}
use Rattle.text.specs.definitions.Syntax.{File}
use Rattle.checking.specs.inner_contracts.DirectoryReads.{Few}
use Rattle.checking.specs.inner_contracts.Directory.{Bench}
use Rattle.checking.proofs.laws.LookUpLaws.{same_bytes_eq, same_bytes_refl}
use Rattle.cycles.specs.definitions.Fields.{lengthened, split, fields}
use Rattle.cycles.specs.definitions.Header.{
  Column,
  column,
  is_column_among,
  column_before,
  columns,
  columns_after_n,
  columns_after_by,
  header,
}
use Rattle.cycles.specs.inner_contracts.FieldReads.{FieldStart}
use Rattle.cycles.specs.inner_contracts.HeaderReads.{
  column_number,
  number_if_column,
  ColumnRead,
  backwards,
  is_number_among,
  HeaderIs,
  ColumnsRead,
  HeaderRead,
}
use Rattle.cycles.proofs.laws.SoundLine.{column_sound, columns_sound}
use Rattle.cycles.proofs.laws.FieldLaws.{part_to_end, split_end, LastOf, split_last, split_more}
use Rattle.cycles.proofs.laws.ColumnLaws.{among_numbers, ApartBelow, apart_few, backwards_length, backwards_set, apart_at}
use Rattle.cycles.proofs.laws.ColumnReadLaws.{sound_small, sound_number}

-- ---- a header from its end

module _ (f : File) where
  -- one column that is none, or twice, is enough
  columns_none : (xs ys : List (List ℕ)) → columns f ys ≡ none → columns f (xs ++ ys) ≡ none
  unfolding columns column_before
  columns_none [] ys h = h
  columns_none (x ∷ xs) ys h = rw (columns_none xs ys h) (go (column f (split 46 x)))
    where
      go : (o : Option Column) → column_before o none ≡ none
      go none = refl
      go (some c) = refl

  after_n_none : (names : List ℕ) {rest : List (List ℕ)} → LastOf (fields names) rest → columns f rest ≡ none → columns_after_n f (fields names) ≡ none
  unfolding columns_after_n
  after_n_none names {rest} l h = ap (columns_after_n f) l.all ∙ by_fields l.before l.first
    where
      by_n : (b : Bool) (ys : List (List ℕ)) → columns f ys ≡ none → cond b (columns f ys) none ≡ none
      by_n true ys e = e
      by_n false ys e = refl

      by_fields : (ps : List (List ℕ)) (x : List ℕ) → columns_after_n f (ps ++ x ∷ rest) ≡ none
      by_fields [] x = by_n (same_bytes x (110 ∷ [])) rest h
      by_fields (p ∷ ps) x =
          by_n (same_bytes p (110 ∷ [])) (ps ++ x ∷ rest)
          (ap (columns f) (sym (append_assoc ps (x ∷ []) rest)) ∙ columns_none (ps ++ x ∷ []) rest h)

-- so many columns were read, from the last on; the next field ends at `end`
pub record ColumnsGoing (text classes offsets lengths d names memory : List ℕ) (end count : ℕ) : Type 0 where
  pub within : end ≤ length names
  pub apart : ApartBelow 416 (backwards count memory)
  pub rest : List (List ℕ)
  pub stands : fields (drop end names) ≡ [] ∷ rest
  pub going : (w : Bench text classes offsets lengths d) → Few w.file
      → (cs : List Column) × (columns w.file rest ≡ some cs) × (map column_number cs ≡ backwards count memory)

module _ (text classes offsets lengths d names memory : List ℕ) where
  pub columns_begin : ColumnsGoing text classes offsets lengths d names memory (length names) 0
  unfolding fields columns backwards
  columns_begin = record {
    within = omega arith;
    apart = tt;
    rest = [];
    stands = split_end 32 names (length names) (omega arith);
    going = λ w few. ([], refl, refl);
  }

  -- where there are no columns
  no_columns : ((w : Bench text classes offsets lengths d) → Few w.file → columns_after_n w.file (fields names) ≡ none)
      → ColumnsRead text classes offsets lengths d names memory 417
  no_columns h = record {
    within = omega arith;
    known = λ k a b. absurd (omega arith);
    is = λ w few. rw (h w few);
  }

  module _ {end count : ℕ} (g : ColumnsGoing text classes offsets lengths d names memory end count) where
    pub columns_room : count ≤ 416
    columns_room = let a = apart_few 416 (backwards count memory) g.apart in rw (backwards_length count memory) at a

    module _ {start : ℕ} (s : FieldStart 32 names end start) where
      abbrev its_name : List ℕ
      its_name = take (end - start) (drop start names)

      its_names : fields (drop start names) ≡ its_name ∷ g.rest
      unfolding fields
      its_names = s.field g.rest g.stands

      -- the first field is `n`
      module _ (z : start ≡ 0) where
        all_names : fields names ≡ take (end - 0) names ∷ g.rest
        all_names = subst (λ (k : ℕ). fields (drop k names) ≡ take (end - k) (drop k names) ∷ g.rest) z its_names

        module _ {b : Bool} (e : b ≡ same_bytes (take (end - 0) names) (110 ∷ [])) where
          columns_are : (f : File) → columns_after_n f (fields names) ≡ cond b (columns f g.rest) none
          unfolding columns_after_n
          columns_are f = rw (all_names, e)

          pub columns_end : b ≡ true → ColumnsRead text classes offsets lengths d names memory count
          columns_end t =
              let room = columns_room in
              record {
                within = omega arith;
                known = λ k p q. apart_at 416 count memory g.apart k p;
                is = λ w few. let (cs, q, m) = g.going w few in rw (columns_are w.file, t, q) (room, m);
              }

          pub columns_without_n : b ≡ false → ColumnsRead text classes offsets lengths d names memory 417
          columns_without_n t = no_columns (λ w few. rw (columns_are w.file, t))

      module _ (z : start ≡ 0 → ⊥) {number : ℕ} (c : ColumnRead text classes offsets lengths d (λ f. column f (split 46 its_name)) number) where
        more_names : fields (drop (start - 1) names) ≡ [] ∷ its_name ∷ g.rest
        unfolding fields
        more_names = s.marked (omega arith) ∙ ap (◌∷◌ []) its_names

        ends_none : ((f : File) → Few f → number ≡ number_if_column (column f (split 46 its_name)) → (cs : List Column) → columns f g.rest ≡ some cs
            → map column_number cs ≡ backwards count memory → columns f (its_name ∷ g.rest) ≡ none)
            → ColumnsRead text classes offsets lengths d names memory 417
        unfolding fields
        ends_none h = no_columns (λ w few.
            let (cs, q, m) = g.going w few in
            after_n_none w.file names (split_last 32 names (start - 1) more_names) (h w.file few (c.is w few) cs q m))

        pub columns_no_column : number ≡ 416 → ColumnsRead text classes offsets lengths d names memory 417
        unfolding columns column_before number_if_column
        columns_no_column y = ends_none (λ f few e cs q m. go f few (column f (split 46 its_name)) refl e)
          where
            go : (f : File) → Few f → (o : Option Column) → column f (split 46 its_name) ≡ o → number ≡ number_if_column o
                → column_before (column f (split 46 its_name)) (columns f g.rest) ≡ none
            go f few none h e = rw h
            go f few (some x) h e = let b = sound_number f few x (column_sound f (split 46 its_name) h) in absurd (omega arith)

        module _ (y : number ≡ 416 → ⊥) {again : Bool} (a : again ≡ is_number_among number (backwards count memory)) where
          -- a column is read again exactly where it is among the columns
          again_among : (f : File) → Few f → (x : Column) → column f (split 46 its_name) ≡ some x → number ≡ column_number x
              → (cs : List Column) → columns f g.rest ≡ some cs → map column_number cs ≡ backwards count memory → is_column_among x cs ≡ again
          again_among f few x h e cs q m =
              among_numbers x cs (sound_small f few x (column_sound f (split 46 its_name) h))
              (λ c k. sound_small f few c (columns_sound f g.rest q c k))
              ∙ ap₂ is_number_among (sym e) m
              ∙ sym a

          read_column : (f : File) → Few f → number ≡ number_if_column (column f (split 46 its_name)) → (cs : List Column) → columns f g.rest ≡ some cs
              → map column_number cs ≡ backwards count memory
              → (x : Column) × (number ≡ column_number x) × (columns f (its_name ∷ g.rest) ≡ cond again none (some (x ∷ cs)))
          unfolding columns column_before number_if_column
          read_column f few e cs q m = go (column f (split 46 its_name)) refl e
            where
              go : (o : Option Column) → column f (split 46 its_name) ≡ o → number ≡ number_if_column o
                  → (x : Column) × (number ≡ column_number x)
                  × (column_before (column f (split 46 its_name)) (columns f g.rest) ≡ cond again none (some (x ∷ cs)))
              go none h e = absurd (y e)
              go (some x) h e = (x, e, rw (h, q, again_among f few x h e cs q m))

          pub columns_again : again ≡ true → ColumnsRead text classes offsets lengths d names memory 417
          columns_again t = ends_none (λ f few e cs q m. let (x, k, h) = read_column f few e cs q m in h ∙ ap (λ (b : Bool). cond b none (some (x ∷ cs))) t)

          module _ (t : again ≡ false) (l : 416 ≤ length memory) where
            next_apart : ApartBelow 416 (number ∷ backwards count memory)
            next_apart = let b = c.within in (omega arith, sym a ∙ t, g.apart)

            pub column_room : count < 416
            column_room =
                let b = apart_few 416 (number ∷ backwards count memory) next_apart in
                let n = backwards_length count memory in
                omega arith

            pub columns_next : ColumnsGoing text classes offsets lengths d names (set memory count number) (start - 1) (count + 1)
            unfolding fields
            columns_next =
                let room = column_room in
                let w = g.within in
                let v = s.within in
                let n = backwards_set count memory number (omega arith) in
                record {
                  within = omega arith;
                  apart = rw n next_apart;
                  rest = its_name ∷ g.rest;
                  stands = more_names;
                  going = λ w few.
                      let (cs, q, m) = g.going w few in
                      let (x, k, h) = read_column w.file few (c.is w few) cs q m in
                      (x ∷ cs, h ∙ ap (λ (b : Bool). cond b none (some (x ∷ cs))) t, ap₂ ◌∷◌ (sym k) m ∙ sym n);
                }

-- ---- `by` before them

abbrev BY : List ℕ
BY = 98 ∷ 121 ∷ 32 ∷ []

pub fields_by : (rest : List ℕ) → fields (98 ∷ 121 ∷ 32 ∷ rest) ≡ (98 ∷ 121 ∷ []) ∷ fields rest
unfolding fields split lengthened
fields_by rest = refl

pub no_by : (f : File) (names : List ℕ) → (take 3 names ≡ BY → ⊥) → columns_after_by f (fields names) ≡ none
unfolding columns_after_by columns_after_n fields
no_by f names h = by_fields (split 32 names) refl
  where
    by_test : (x y : List ℕ) (ys : List (List ℕ)) → split 32 names ≡ x ∷ y ∷ ys → (b : Bool) → same_bytes x (98 ∷ 121 ∷ []) ≡ b
        → cond b (columns_after_n f (y ∷ ys)) none ≡ none
    by_test x y ys q false e = refl
    by_test x y ys q true e =
        let z = same_bytes_eq x (98 ∷ 121 ∷ []) (subst T (sym e) tt) in
        let n = split_more 32 names q in
        absurd (h (ap (take 3) (n ∙ ap (λ (v : List ℕ). v ++ 32 ∷ drop (suc (length x)) names) z)))

    by_one : (b : Bool) → cond b (columns_after_n f []) none ≡ none
    by_one true = refl
    by_one false = refl

    by_fields : (xs : List (List ℕ)) → split 32 names ≡ xs → columns_after_by f xs ≡ none
    by_fields [] q = refl
    by_fields (x ∷ []) q = by_one (same_bytes x (98 ∷ 121 ∷ []))
    by_fields (x ∷ y ∷ ys) q = by_test x y ys q (same_bytes x (98 ∷ 121 ∷ [])) refl

module _ (text classes offsets lengths d names memory : List ℕ) where
  -- what is no header
  no_header : ((w : Bench text classes offsets lengths d) → Few w.file → header w.file names ≡ none)
      → HeaderRead text classes offsets lengths d names memory 417
  no_header h = record {
    within = omega arith;
    known = λ k a b. absurd (omega arith);
    is = λ w few. rw (h w few);
  }

  pub header_too_long : 32768 < length names → HeaderRead text classes offsets lengths d names memory 417
  unfolding header
  header_too_long h = no_header (λ w few. rw (lt-leb (length names) 32768 h, header))

  module _ (short : length names ≤ 32768) where
    header_is : (f : File) → header f names ≡ columns_after_by f (fields names)
    unfolding header
    header_is f = rw (le-leb (length names) 32768 short, header)

    pub header_too_short : length names < 3 → HeaderRead text classes offsets lengths d names memory 417
    header_too_short h =
        no_header (λ w few. header_is w.file ∙ no_by w.file names (λ e. let n = ap length e in let m = length-take 3 names in omega arith))

    module _ {b : Bool} (e : b ≡ same_bytes (take 3 names) BY) where
      pub header_without_by : b ≡ false → HeaderRead text classes offsets lengths d names memory 417
      header_without_by t =
          no_header (λ w few. header_is w.file
          ∙ no_by w.file names (λ z. true≢false (sym (e ∙ ap (λ (v : List ℕ). same_bytes v BY) z ∙ same_bytes_refl BY) ∙ t)))

      pub header_with_by : b ≡ true → {r : ℕ} → ColumnsRead text classes offsets lengths d (take (length names - 3) (drop 3 names)) memory r
          → HeaderRead text classes offsets lengths d names memory r
      unfolding columns_after_by same_bytes
      header_with_by t {r} c = record {
        within = c.within;
        known = c.known;
        is = λ w few. subst (λ (o : Option (List Column)). HeaderIs o r memory) (sym (header_is w.file ∙ after w.file))
            (rw (part_to_end names 3) at (c.is w few));
      }
        where
          begins : names ≡ 98 ∷ 121 ∷ 32 ∷ drop 3 names
          begins =
              sym (take-append-drop 3 names) ∙ ap (λ (v : List ℕ). v ++ drop 3 names) (same_bytes_eq (take 3 names) BY (subst T (sym (sym e ∙ t)) tt))

          after : (f : File) → columns_after_by f (fields names) ≡ columns_after_n f (fields (drop 3 names))
          after f = ap (columns_after_by f) (ap fields begins ∙ fields_by (drop 3 names))

-- ---- a header's columns, those that stand among more

module _ {text classes offsets lengths d names : List ℕ} where
  -- what is no header says nothing of memory
  pub no_header_taken : {memory other : List ℕ} → HeaderRead text classes offsets lengths d names memory 417
      → HeaderRead text classes offsets lengths d names other 417
  no_header_taken {memory} {other} r = record {
    within = r.within;
    known = λ k h few. absurd (omega arith);
    is = λ w c. go (header w.file names) (r.is w c);
  }
    where
      go : (o : Option (List Column)) → HeaderIs o 417 memory → HeaderIs o 417 other
      go none e = e
      go (some cs) e = absurd (omega (arith, e.0))

  pub header_taken : {memory taken : List ℕ} {count : ℕ} → length taken ≡ count → backwards count taken ≡ backwards count memory
      → ((k : ℕ) → k < length taken → get_or taken k 0 < 416)
      → HeaderRead text classes offsets lengths d names memory count → HeaderRead text classes offsets lengths d names taken (length taken)
  header_taken {memory} {taken} {count} size same known r = record {
    within = let w = r.within in omega arith;
    known = λ k h few. known k h;
    is = λ w c. rw size (go (header w.file names) (r.is w c));
  }
    where
      go : (o : Option (List Column)) → HeaderIs o count memory → HeaderIs o count taken
      go none e = e
      go (some cs) e = (e.0, e.1 ∙ sym same)
