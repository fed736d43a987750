-- A list of chosen cells in memory: the numbers of its cells, read from the last field on.
use Prim.Native.Nat.{ℕ, suc, ◌+◌, ◌-◌, ◌≤◌, ◌<◌}
use native.Mathlib.Omega.{arith}
use mathlib.Core.Path.{◌≡◌, refl, sym, ap, ap₂, ◌∙◌, subst}
use mathlib.Core.Bool.{Bool, true, false}
use mathlib.Core.List.{List, [], ◌∷◌, ◌++◌, append_assoc, map}
use mathlib.Core.Option.{Option, none, some}
use lib.Dec.{leb, eqb}
use lib.ListN.{length, get_or, set, take, drop, length-append}
use lib.Seq.{get_or-set_same, get_or-set_other}
use borrow.Author.Tests.{le-leb, lt-leb, eqb-true, eqb-false}
use Rattle.text.specs.definitions.Syntax.{File}
use Rattle.text.proofs.laws.ListLaws.{some_injective, none_some, All, all_none, all_cons}
use Rattle.checking.specs.inner_contracts.Directory.{Bench}
use Rattle.checking.specs.inner_contracts.DirectoryReads.{Few}
use Rattle.cycles.specs.definitions.Spots.{Spot}
use Rattle.cycles.specs.definitions.Fields.{split, fields}
use Rattle.cycles.specs.inner_contracts.FieldReads.{FieldStart}
use Rattle.cycles.specs.inner_contracts.HeaderReads.{backwards}
use Rattle.cycles.proofs.laws.SpotLaws.{Stands}
use Rattle.cycles.proofs.laws.FieldLaws.{split_end, split_last}
use Rattle.cycles.proofs.laws.ColumnLaws.{backwards_set}
use Rattle.days.specs.definitions.Chosen.{spot_named, spot_before, spots_named, chosen}
use Rattle.days.specs.inner_contracts.Choosing.{spot_number, number_if_spot, SpotRead, ChosenAre, ChosenRead}
use Rattle.days.proofs.laws.SpotNumbers.{named_stands, spot_below}

-- ---- the cells of a list

module _ (f : File) where
  spots_stand : (xs : List (List ℕ)) {ps : List Spot} → spots_named f xs ≡ some ps → All (Stands f) ps
  unfolding spots_named spot_before
  spots_stand [] h = subst (All (Stands f)) (some_injective h) (all_none (Stands f))
  spots_stand (x ∷ xs) {ps} h = go (spot_named f (split 46 x)) (spots_named f xs) (λ p. named_stands f (split 46 x)) (λ qs. spots_stand xs) h
    where
      go : (o : Option Spot) (r : Option (List Spot)) → ((p : Spot) → o ≡ some p → Stands f p)
          → ((qs : List Spot) → r ≡ some qs → All (Stands f) qs) → spot_before o r ≡ some ps → All (Stands f) ps
      go none r k j h = absurd (none_some h)
      go (some p) none k j h = absurd (none_some h)
      go (some p) (some qs) k j h = subst (All (Stands f)) (some_injective h) (all_cons (Stands f) (k p refl) (j qs refl))

  -- every chosen cell is one of the bench
  pub chosen_stand : (bs : List ℕ) {ps : List Spot} → chosen f bs ≡ some ps → All (Stands f) ps
  unfolding chosen
  chosen_stand bs {ps} h = go (leb (length (fields bs)) 5) h
    where
      go : (b : Bool) → (elim b [ true ↦ spots_named f (fields bs) | false ↦ none ]) ≡ some ps → All (Stands f) ps
      go true h = spots_stand (fields bs) h
      go false h = absurd (none_some h)

  -- one name that means no cell is enough
  spots_none : (xs ys : List (List ℕ)) → spots_named f ys ≡ none → spots_named f (xs ++ ys) ≡ none
  unfolding spots_named spot_before
  spots_none [] ys h = h
  spots_none (x ∷ xs) ys h = rw (spots_none xs ys h) (go (spot_named f (split 46 x)))
    where
      go : (o : Option Spot) → spot_before o none ≡ none
      go none = refl
      go (some p) = refl

  chosen_none : (bs : List ℕ) (xs ys : List (List ℕ)) → fields bs ≡ xs ++ ys → spots_named f ys ≡ none → chosen f bs ≡ none
  unfolding chosen
  chosen_none bs xs ys e h = go (leb (length (fields bs)) 5)
    where
      go : (b : Bool) → ◌≡◌ {A = Option (List Spot)} (elim b [ true ↦ spots_named f (fields bs) | false ↦ none ]) none
      go true = ap (spots_named f) e ∙ spots_none xs ys h
      go false = refl

  chosen_many : (bs : List ℕ) → 5 < length (fields bs) → chosen f bs ≡ none
  unfolding chosen
  chosen_many bs h = rw (lt-leb (length (fields bs)) 5 h, chosen)

  chosen_by_fields : (bs : List ℕ) → length (fields bs) ≤ 5 → chosen f bs ≡ spots_named f (fields bs)
  unfolding chosen
  chosen_by_fields bs h = rw (le-leb (length (fields bs)) 5 h, chosen)

-- ---- the list from its end

-- so many cells were read, from the last on; the next field ends at `end`
pub record ChoosingGoing (text offsets lengths d cells memory : List ℕ) (end count : ℕ) : Type 0 where
  pub within : end ≤ length cells
  pub known : (k : ℕ) → k < count → get_or memory k 0 < 384
  pub rest : List (List ℕ)
  pub counted : length rest ≡ count
  pub stands : fields (drop end cells) ≡ [] ∷ rest
  pub going : (classes : List ℕ) (w : Bench text classes offsets lengths d) → Few w.file
      → (ps : List Spot) × (spots_named w.file rest ≡ some ps) × (map spot_number ps ≡ backwards count memory)

module _ (text offsets lengths d cells memory : List ℕ) where
  pub choosing_begins : ChoosingGoing text offsets lengths d cells memory (length cells) 0
  unfolding fields spots_named backwards
  choosing_begins = record {
    within = omega arith;
    known = λ k h. absurd (omega arith);
    rest = [];
    counted = refl;
    stands = split_end 32 cells (length cells) (omega arith);
    going = λ classes w few. ([], refl, refl);
  }

  no_list : ((classes : List ℕ) (w : Bench text classes offsets lengths d) → Few w.file → chosen w.file cells ≡ none)
      → ChosenRead text offsets lengths d cells memory 6
  no_list h = record {
    within = omega arith;
    known = λ k a b. absurd (omega arith);
    is = λ classes w few. rw (h classes w few);
  }

  module _ {end count : ℕ} (g : ChoosingGoing text offsets lengths d cells memory end count) where
    -- a field is left, and five were read
    pub choosing_many : 5 ≤ count → ChosenRead text offsets lengths d cells memory 6
    unfolding fields
    choosing_many h =
        let l = split_last 32 cells end g.stands in
        let n : length (fields cells) ≡ length l.before + length (l.first ∷ g.rest) = rw l.all (length-append l.before (l.first ∷ g.rest)) in
        let m = g.counted in
        no_list (λ classes w few. chosen_many w.file cells (omega arith))

    module _ {start : ℕ} (s : FieldStart 32 cells end start) where
      abbrev its_name : List ℕ
      its_name = take (end - start) (drop start cells)

      its_names : fields (drop start cells) ≡ its_name ∷ g.rest
      unfolding fields
      its_names = s.field g.rest g.stands

      more_names : (start ≡ 0 → ⊥) → fields (drop (start - 1) cells) ≡ [] ∷ its_name ∷ g.rest
      unfolding fields
      more_names z = s.marked (omega arith) ∙ ap (◌∷◌ []) its_names

      first_name : start ≡ 0 → fields cells ≡ its_name ∷ g.rest
      first_name z = subst (λ (k : ℕ). fields (drop k cells) ≡ its_name ∷ g.rest) z its_names

      -- the names that were read, and what comes before them
      names_end : (xs : List (List ℕ)) × (fields cells ≡ xs ++ its_name ∷ g.rest)
      unfolding fields
      names_end = go (eqb start 0) refl
        where
          go : (t : Bool) → eqb start 0 ≡ t → (xs : List (List ℕ)) × (fields cells ≡ xs ++ its_name ∷ g.rest)
          go true e = ([], first_name (eqb-true start 0 e))
          go false e =
              let l = split_last 32 cells (start - 1) (more_names (eqb-false start 0 e)) in
              (l.before ++ l.first ∷ [], l.all ∙ sym (append_assoc l.before (l.first ∷ []) (its_name ∷ g.rest)))

      module _ {spot : ℕ} (c : SpotRead text offsets lengths d (λ f. spot_named f (split 46 its_name)) spot) where
        pub choosing_none : spot ≡ 384 → ChosenRead text offsets lengths d cells memory 6
        unfolding spots_named spot_before number_if_spot
        choosing_none y = no_list (λ classes w few.
            chosen_none w.file cells names_end.0 (its_name ∷ g.rest) names_end.1
            (go w.file few (spot_named w.file (split 46 its_name)) refl (c.is classes w few)))
          where
            go : (f : File) → Few f → (o : Option Spot) → spot_named f (split 46 its_name) ≡ o → spot ≡ number_if_spot o
                → spots_named f (its_name ∷ g.rest) ≡ none
            go f few none h e = rw h
            go f few (some p) h e = let b = spot_below f few p (named_stands f (split 46 its_name) h) in absurd (omega arith)

        module _ (y : spot ≡ 384 → ⊥) (room : count < 5) (l : 5 ≤ length memory) where
          next_known : (k : ℕ) → k < count + 1 → get_or (set memory count spot) k 0 < 384
          next_known k h = go (eqb k count) refl
            where
              go : (t : Bool) → eqb k count ≡ t → get_or (set memory count spot) k 0 < 384
              go true e =
                  let q = eqb-true k count e in
                  let b = c.within in
                  rw (q, get_or-set_same memory count spot 0 (omega arith)) (omega arith)
              go false e =
                  let q : k ≡ count → ⊥ = eqb-false k count e in
                  rw (get_or-set_other memory count k spot 0 q) (g.known k (omega arith))

          next_going : (classes : List ℕ) (w : Bench text classes offsets lengths d) → Few w.file
              → (ps : List Spot) × (spots_named w.file (its_name ∷ g.rest) ≡ some ps)
              × (map spot_number ps ≡ backwards (count + 1) (set memory count spot))
          unfolding spots_named spot_before number_if_spot
          next_going classes w few = go (g.going classes w few) (spot_named w.file (split 46 its_name)) refl (c.is classes w few)
            where
              go : (ps : List Spot) × (spots_named w.file g.rest ≡ some ps) × (map spot_number ps ≡ backwards count memory)
                  → (o : Option Spot) → spot_named w.file (split 46 its_name) ≡ o → spot ≡ number_if_spot o
                  → (ps : List Spot) × (spots_named w.file (its_name ∷ g.rest) ≡ some ps)
                  × (map spot_number ps ≡ backwards (count + 1) (set memory count spot))
              go a none h e = absurd (y e)
              go (ps, q, m) (some p) h e =
                  (p ∷ ps, rw (h, q), ap₂ ◌∷◌ (sym e) m ∙ sym (backwards_set count memory spot (omega arith)))

          pub choosing_ends : start ≡ 0 → ChosenRead text offsets lengths d cells (set memory count spot) (count + 1)
          choosing_ends z =
              let n : length (fields cells) ≡ suc (length g.rest) = ap length (first_name z) in
              let m = g.counted in
              record {
                within = omega arith;
                known = λ k h b. next_known k h;
                is = λ classes w few.
                    let (ps, q, e) = next_going classes w few in
                    rw (chosen_by_fields w.file cells (omega arith), first_name z, q) (omega arith, e);
              }

          pub choosing_next : (start ≡ 0 → ⊥) → ChoosingGoing text offsets lengths d cells (set memory count spot) (start - 1) (count + 1)
          choosing_next z =
              let a = g.within in
              let b = s.within in
              let m = g.counted in
              record {
                within = omega arith;
                known = next_known;
                rest = its_name ∷ g.rest;
                counted = omega arith;
                stands = more_names z;
                going = next_going;
              }

-- ---- the numbers of a list, those that stand among more

module _ {text offsets lengths d cells : List ℕ} where
  -- what is no list says nothing of memory
  pub no_list_taken : {memory other : List ℕ} → ChosenRead text offsets lengths d cells memory 6 → ChosenRead text offsets lengths d cells other 6
  no_list_taken {memory} {other} r = record {
    within = r.within;
    known = λ k h few. absurd (omega arith);
    is = λ classes w c. go (chosen w.file cells) (r.is classes w c);
  }
    where
      go : (o : Option (List Spot)) → ChosenAre o 6 memory → ChosenAre o 6 other
      go none e = e
      go (some ps) e = absurd (omega (arith, e.0))

  pub chosen_taken : {memory taken : List ℕ} {count : ℕ} → length taken ≡ count → backwards count taken ≡ backwards count memory
      → ((k : ℕ) → k < length taken → get_or taken k 0 < 384)
      → ChosenRead text offsets lengths d cells memory count → ChosenRead text offsets lengths d cells taken (length taken)
  chosen_taken {memory} {taken} {count} size same known r = record {
    within = let w = r.within in omega arith;
    known = λ k h few. known k h;
    is = λ classes w c. rw size (go (chosen w.file cells) (r.is classes w c));
  }
    where
      go : (o : Option (List Spot)) → ChosenAre o count memory → ChosenAre o count taken
      go none e = e
      go (some ps) e = (e.0, e.1 ∙ sym same)
