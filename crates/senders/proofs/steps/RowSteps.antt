-- A sender's row in memory: its bytes are put one after another, and what they are of is the sender at a place, or one that is not known.
use Prim.Native.Nat.{ℕ, ◌+◌, ◌*◌, ◌/◌, ◌%◌, ◌≤◌, ◌<◌}
use native.Mathlib.Omega.{arith}
use mathlib.Core.Path.{◌≡◌, refl, sym, ap, ◌∙◌, subst}
use mathlib.Core.Bool.{Bool, true, false}
use mathlib.Core.List.{List, [], ◌∷◌, ◌++◌, append_assoc}
use mathlib.Core.Option.{Option, none, some}
use lib.Dec.{T}
use lib.Ieee.Bits.{is_true}
use lib.ListN.{length, get_or, set, drop, get_elem?, replicate, get_or-replicate}
use lib.Seq.{drop-drop}
use Rattle.values.specs.definitions.Bytes.{word_at}
use Rattle.values.specs.definitions.Cells.{unpacked, cell_at}
use Rattle.values.specs.definitions.Forms.{decimal, printed}
use Rattle.values.specs.inner_contracts.Puts.{Put}
use Rattle.values.proofs.laws.DigitLaws.{decimal_length}
use Rattle.values.proofs.laws.PutLaws.{put_byte, put_next, put_same}
use Rattle.text.specs.definitions.Syntax.{Member, File}
use Rattle.text.proofs.laws.ListLaws.{some_injective}
use Rattle.checking.specs.definitions.Scope.{member_of, is_action}
use Rattle.checking.specs.inner_contracts.Directory.{Bench}
use Rattle.checking.proofs.laws.WithinCounts.{WithinCounts}
use Rattle.checking.proofs.laws.DirectoryLaws.{number_below}
use Rattle.cycles.specs.definitions.Spots.{Spot}
use Rattle.cycles.specs.definitions.Cycle.{is_sort}
use Rattle.cycles.specs.definitions.Row.{action_fields}
use Rattle.cycles.specs.definitions.Planes.{entity_count}
use Rattle.cycles.specs.inner_contracts.RowMemory.{InFront, field_of, field_at, fired_field, FieldsPut}
use Rattle.cycles.proofs.laws.TableLaws.{table_same, word_drop}
use Rattle.cycles.proofs.laws.CellTokenLaws.{few_within}
use Rattle.cycles.proofs.laws.PutLaws.{put_in_front}
use Rattle.cycles.proofs.laws.RowFields.{fields_table}
use Rattle.senders.specs.definitions.Sender.{Sender, State, unknown, kept}
use Rattle.senders.specs.definitions.Row.{row, sender_row}
use Rattle.senders.specs.definitions.StateImage.{
  sender_size,
  image_size,
  known_count,
  part_name,
  decode_fired,
  decode_sender,
  decode_senders,
  is_sender_part,
  state_of,
}
use Rattle.senders.specs.inner_contracts.SenderMemory.{place, PlaceRead}
use Rattle.senders.specs.inner_contracts.RowMemory.{FiredIn, RowPut, PlaceShown, Shown}
use Rattle.senders.proofs.laws.SenderLaws.{kept_there, below_known}
use Rattle.senders.proofs.laws.SenderImage.{inside, part_passes}
use Rattle.senders.proofs.laws.StateLaws.{state_passes}
use Rattle.senders.proofs.laws.StateCanonical.{known_is, senders_from, sender_tested, sender_there, unknown_stands}

-- ---- fields that agree at the file's actions

module _ (field other : Spot → List ℕ) (e m : ℕ) where
  same_field : (o : Option Member)
      → ((x : Member) → o ≡ some x → T (is_action x.sort)
      → field (record { entity = e; member = m; what = x }) ≡ other (record { entity = e; member = m; what = x }))
      → field_of field e m o ≡ field_of other e m o
  unfolding field_of
  same_field none h = refl
  same_field (some x) h = go (is_action x.sort) refl
    where
      go : (b : Bool) → is_action x.sort ≡ b → field_of field e m (some x) ≡ field_of other e m (some x)
      go true q = rw (q, field_of) (ap (λ (l : List ℕ). 32 ∷ l) (h x refl (rw q tt)))
      go false q = rw (q, field_of)

action_fields_agree : (f : File) → WithinCounts f → (field other : Spot → List ℕ)
    → ((e m : ℕ) (x : Member) → member_of f e m ≡ some x → T (is_action x.sort)
    → field (record { entity = e; member = m; what = x }) ≡ other (record { entity = e; member = m; what = x }))
    → action_fields f field ≡ action_fields f other
unfolding field_at
action_fields_agree f w field other h =
    fields_table f w field
    ∙ table_same (field_at f field) (field_at f other) 0 (12 * entity_count f)
    (λ j x y. same_field field other (j / 12) (j % 12) (member_of f (j / 12) (j % 12)) (h (j / 12) (j % 12)))
    ∙ sym (fields_table f w other)

-- ---- a row

-- a row's bytes, from the cells in memory
row_bytes : (f : File) → WithinCounts f → (x : Sender) (cells : List ℕ) {name : List ℕ} {last : ℕ} → x.name ≡ name → x.last ≡ last → FiredIn f x cells
    → (name ++ (32 ∷ [])) ++ decimal last ++ action_fields f (fired_field cells) ≡ row f x
unfolding row
row_bytes f w x cells {name} {last} p q g =
    ap (λ (l : List ℕ). l ++ action_fields f (fired_field cells)) (append_assoc name (32 ∷ []) (decimal last))
    ∙ ap (λ (l : List ℕ). (name ++ (32 ∷ decimal last)) ++ l)
    (action_fields_agree f w (fired_field cells) (λ s. printed (x.fired s.entity s.member)) (λ e m y h a. ap printed (sym (g e m y h a))))
    ∙ ap (λ (l : List ℕ). (l ++ (32 ∷ decimal last)) ++ fired) (sym p)
    ∙ ap (λ (k : ℕ). (x.name ++ (32 ∷ decimal k)) ++ fired) (sym q)
  where
    fired : List ℕ
    fired = action_fields f (λ s. printed (x.fired s.entity s.member))

-- the name, a space, the number, the fields
pub row_put : {classes d name cells before m k after : List ℕ} {last space at r : ℕ} → length name ≤ 24 → 32768 ≤ length before
    → Put name before 0 m space → Put (decimal last) (set m space 32) (space + 1) k at
    → FieldsPut classes d cells k at after r
    → RowPut classes d name last cells before after r
row_put {name = name} {cells = cells} {before = before} {m = m} {last = last} {space = space} {r = r} a b p q h =
    let digits = decimal_length 10 last in
    let e = p.end in
    let g = q.end in
    let z = h.short in
    let short : r ≤ 32768 = omega arith in
    record {
      short = short;
      is = λ text offsets lengths w c x named numbered fired.
          put_in_front
          (put_same
          (put_next (put_next (put_next p (put_byte m space 32)) q) (h.is text offsets lengths w c))
          (row_bytes w.file (few_within w.file c) x cells named numbered fired))
          (omega arith);
    }

-- ---- the row of the sender at a place

module _ {classes d state before after : List ℕ} {at : ℕ} where
  pub place_too_many : {n : ℕ} → n ≡ get_or d 1 0 → 32 < n → PlaceShown classes d state at before after 0
  place_too_many e g = record {
    short = omega arith;
    is = λ text offsets lengths w c. let q = w.directory.entities in absurd (omega (arith, c.entities));
  }

  pub place_unknown : 8 ≤ at → PlaceShown classes d state at before after 0
  place_unknown g = record {
    short = omega arith;
    is = λ text offsets lengths w c print s h x e.
        let a = number_below s.senders at e in
        let b = known_is print w.file state h in
        let few = (state_passes print w.file state h).few in
        absurd (omega arith);
  }

-- the cells in a part's plane hold the actions that it says
part_fired : (f : File) (part : List ℕ) {n : ℕ} → n ≡ entity_count f → FiredIn f (decode_sender f part) (drop (29 + n) part)
unfolding decode_sender decode_fired is_sort
part_fired f part {n} q e m y p a =
    let t : is_action y.sort ≡ true = is_true (is_action y.sort) a in
    rw (p, t) (ap (λ (l : List ℕ). cell_at l (e * 12 + m)) (drop-drop (entity_count f) 29 part ∙ ap (λ (k : ℕ). drop (29 + k) part) (sym q)))

pub place_shown : {classes d state before after part name cells : List ℕ} {n at from last r : ℕ} → n ≡ get_or d 1 0 → from ≡ image_size n at
    → part ≡ drop from state → (get_or part 0 0 ≤ 24 → name ≡ part_name part) → last ≡ word_at 4 (drop 25 part) 0 → cells ≡ drop (29 + n) part
    → RowPut classes d name last cells before after r
    → PlaceShown classes d state at before after r
unfolding decode_sender
place_shown {state = state} {before = before} {after = after} {part = part} {n = n} {at = at} {r = r} count start there named numbered cells h = record {
  short = h.short;
  is = λ text offsets lengths w c print s g x e.
      let f = w.file in
      let q : n ≡ entity_count f = count ∙ w.directory.entities in
      let a = number_below s.senders at e in
      let b = known_is print f state g in
      let here : drop (image_size (entity_count f) at) state ≡ part =
      ap (λ (k : ℕ). drop (image_size k at) state) (sym q) ∙ ap (λ (k : ℕ). drop k state) (sym start) ∙ sym there in
      let tested : is_sender_part f part ≡ true = ap (is_sender_part f) (sym here) ∙ sender_tested print f state g at (omega arith) in
      let decoded : decode_sender f part ≡ x =
      some_injective (ap (λ (l : List ℕ). some (decode_sender f l)) (sym here) ∙ sym (sender_there print f state g at (omega arith)) ∙ e) in
      subst (λ (y : Sender). InFront (row f y) before after r) decoded
      (h.is text offsets lengths w c (decode_sender f part) (sym (named (part_passes f part tested).size))
      (sym (word_drop 4 25 part 0) ∙ sym numbered)
      (subst (FiredIn f (decode_sender f part)) (sym cells) (part_fired f part q)));
}

-- ---- the row of the sender of a name

module _ {classes d state name before after : List ℕ} where
  pub shown_too_many : {n : ℕ} → n ≡ get_or d 1 0 → 32 < n → Shown classes d state name before after 0
  shown_too_many e g = record {
    short = omega arith;
    is = λ text offsets lengths w c. let q = w.directory.entities in absurd (omega (arith, c.entities));
  }

  pub shown_crowded : 8 < known_count state → Shown classes d state name before after 0
  shown_crowded g = record {
    short = omega arith;
    is = λ text offsets lengths w c print s h. let few = (state_passes print w.file state h).few in absurd (omega arith);
  }

-- the place that is read is the sender's
place_is : {text classes offsets lengths d : List ℕ} (state name parts : List ℕ) (n from size : ℕ) {at : ℕ} → n ≡ get_or d 1 0 → from ≡ image_size n 0
    → parts ≡ drop from state → size ≡ 29 + 109 * n → PlaceRead parts size (known_count state) name at
    → (w : Bench text classes offsets lengths d) (print : ℕ) (s : State) → state_of print w.file state ≡ some s → at ≡ place name s.senders
place_is state name parts n from size count start there sized p w print s h =
    let f = w.file in
    let q : n ≡ entity_count f = count ∙ w.directory.entities in
    let here : parts ≡ drop (image_size (entity_count f) 0) state =
    there ∙ ap (λ (k : ℕ). drop k state) start ∙ ap (λ (k : ℕ). drop (image_size k 0) state) q in
    p.is f (ap sender_size (sym q) ∙ sym sized)
    ∙ ap (λ (l : List ℕ). place name (decode_senders f (known_count state) l)) here
    ∙ ap (place name) (senders_from print f state h)

module _ {classes d state name before after parts : List ℕ} {n from size at r : ℕ} (count : n ≡ get_or d 1 0) (start : from ≡ image_size n 0)
    (there : parts ≡ drop from state) (sized : size ≡ 29 + 109 * n) where
  pub known_shown : PlaceRead parts size (known_count state) name at → at < known_count state → PlaceShown classes d state at before after r
      → Shown classes d state name before after r
  unfolding sender_row
  known_shown p b h = record {
    short = h.short;
    is = λ text offsets lengths w c print s g.
        let q = place_is state name parts n from size count start there sized p w print s g in
        let k = known_is print w.file state g in
        h.is text offsets lengths w c print s g (kept name s.senders)
        (ap (get_elem? s.senders) q ∙ kept_there name s.senders (below_known name s.senders (omega arith)));
  }

  -- nothing is fired in cells of zeros
  pub unknown_shown : PlaceRead parts size (known_count state) name at → known_count state ≤ at
      → RowPut classes d name 0 (replicate 3456 0) before after r → Shown classes d state name before after r
  unfolding sender_row unknown unpacked
  unknown_shown p b h = record {
    short = h.short;
    is = λ text offsets lengths w c print s g.
        let f = w.file in
        let q = place_is state name parts n from size count start there sized p w print s g in
        subst (λ (y : Sender). InFront (row f y) before after r) (sym (unknown_stands print f state g name (omega arith)))
        (h.is text offsets lengths w c (unknown name) refl refl
        (λ e m y found a.
        let i = inside f (few_within f c) e m found in
        let few = c.entities in
        let z : get_or (replicate 3456 0) ((e * 12 + m) * 9) 0 ≡ 0 = get_or-replicate 3456 ((e * 12 + m) * 9) 0 0 (omega (arith, i.0, i.1)) in
        ap (λ (t : ℕ). unpacked t (word_at 8 (replicate 3456 0) ((e * 12 + m) * 9 + 1))) (sym z)));
  }
