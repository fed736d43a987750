-- Inputs in memory: a field that is put in its column's place, and the tables of inputs with one more.
use Prim.Native.Nat.{ℕ, suc, ◌+◌, ◌-◌, ◌*◌, ◌/◌, ◌%◌, ◌<◌}
use native.Mathlib.Omega.{arith}
use mathlib.Core.Path.{◌≡◌, refl, sym, ap, ap₂, ◌∙◌}
use mathlib.Core.Bool.{Bool, true, false, cond, ◌&&◌}
use mathlib.Core.List.{List, [], ◌∷◌, ◌++◌, append_assoc}
use mathlib.Core.Option.{Option, none, some}
use lib.Dec.{eqb, ltb}
use lib.ListN.{length, get_or, get_elem?, set, length-append}
use lib.Seq.{take_at, drop_at, drop-drop}
use borrow.Author.Tests.{eq-eqb, ne_eqb, eqb-true, ltb-true, ltb-false}
use Rattle.values.specs.declared.Kind.{Kind}
use Rattle.values.specs.definitions.Bytes.{overwritten}
use Rattle.values.specs.definitions.Forms.{Field, event_field, presence_field}
use Rattle.values.proofs.laws.ByteLaws.{overwritten_parts}
use Rattle.text.specs.definitions.Syntax.{Interface, File}
use Rattle.text.proofs.laws.ListLaws.{none_some}
use Rattle.checking.specs.definitions.Scope.{interface_of, nth_member, member_of}
use Rattle.checking.specs.inner_contracts.Directory.{Bench}
use Rattle.checking.specs.inner_contracts.DirectoryReads.{Few, MemberPart}
use Rattle.checking.proofs.laws.CalledLaws.{row_interface}
use Rattle.cycles.specs.definitions.Spots.{Spot}
use Rattle.cycles.specs.definitions.Header.{Column, is_presence, is_member_number}
use Rattle.cycles.specs.definitions.Record.{Input, field_in, as_truth, presence_in, given_in, inputs_of}
use Rattle.cycles.specs.definitions.Planes.{table, presence_flag, input_bytes}
use Rattle.cycles.specs.inner_contracts.HeaderReads.{member_or_presence, column_number}
use Rattle.cycles.specs.inner_contracts.LineReads.{is_well_formed, said, presence_table, input_table, presence_put, event_put, ColumnStands, InputPut}
use Rattle.cycles.proofs.laws.CellNumbers.{cell_entity, cell_member, cell_below, no_member_no_cell}
use Rattle.cycles.proofs.laws.CellFits.{length_input_bytes}
use Rattle.cycles.proofs.laws.PlaneParts.{presence_sized}
use Rattle.cycles.proofs.laws.TableLaws.{table_same, table_append, length_table}
use Rattle.cycles.proofs.laws.ColumnLaws.{Small}
use Rattle.cycles.proofs.laws.ColumnReadLaws.{few_within}

-- ---- a column by its number

pub stands_small : (f : File) → Few f → (c : Column) → ColumnStands f c → Small c
stands_small f few c s p h = go (ltb p.member 12) refl
  where
    go : (t : Bool) → ltb p.member 12 ≡ t → p.member < 12
    go true e = ltb-true p.member 12 e
    go false e = absurd (none_some (sym (no_member_no_cell f c.entity p.member (few_within f few) (ltb-false p.member 12 e)) ∙ s.of_member p h))

module _ (c : Column) (s : Small c) {number : ℕ} (q : column_number c ≡ number) where
  -- the number of an entity's presence
  presence_number : number % 13 ≡ 12 → (c.event ≡ none) × (c.entity ≡ number / 13)
  unfolding column_number
  presence_number h = go c.event s q
    where
      go : (o : Option Spot) → ((p : Spot) → o ≡ some p → p.member < 12) → c.entity * 13 + member_or_presence o ≡ number
          → (o ≡ none) × (c.entity ≡ number / 13)
      go none k e = (refl, omega arith)
      go (some p) k e = let b = k p refl in absurd (omega arith)

  -- the number of an event
  event_number : (number % 13 ≡ 12 → ⊥) → (p : Spot) × (c.event ≡ some p) × (p.member ≡ number % 13) × (c.entity ≡ number / 13)
  unfolding column_number
  event_number h = go c.event s q
    where
      go : (o : Option Spot) → ((p : Spot) → o ≡ some p → p.member < 12) → c.entity * 13 + member_or_presence o ≡ number
          → (p : Spot) × (o ≡ some p) × (p.member ≡ number % 13) × (c.entity ≡ number / 13)
      go none k e = absurd (h (omega arith))
      go (some p) k e = let b = k p refl in (p, refl, omega arith, omega arith)

-- ---- a field put in its place

module _ (classes d : List ℕ) (number : ℕ) (x flags cells : List ℕ) where
  pub presence_is_put : number % 13 ≡ 12 → {f : Field} → f ≡ presence_field x → {b : ℕ} → presence_flag (as_truth (said f)) ≡ b ∷ []
      → {ok : Bool} → ok ≡ is_well_formed f → InputPut classes d number x flags cells (set flags (number / 13) b) cells ok
  unfolding field_in presence_put event_put
  presence_is_put h {f} e {b} g {ok} k = record { is = λ text offsets lengths w few c s q. go c (presence_number c (stands_small w.file few c s) q h) }
    where
      go : (c : Column) → (c.event ≡ none) × (c.entity ≡ number / 13)
          → (ok ≡ is_well_formed (field_in c x))
          × (set flags (number / 13) b ≡ presence_put c.entity c.event (said (field_in c x)) flags)
          × (cells ≡ event_put c.entity c.event (said (field_in c x)) cells)
      go c (z, i) =
          let t : field_in c x ≡ f = rw (z, field_in) (sym e) in (
            k ∙ ap is_well_formed (sym t),
            rw (t, z, g, i),
            rw z,
          )

  module _ (h : number % 13 ≡ 12 → ⊥) {face : ℕ} (r : face ≡ get_or d (323 + number / 13) 0) {kind : Kind}
      (n : MemberPart classes d face (number % 13) (λ y. y.kind) kind) where
    -- the kind that was found is the event's
    kind_found : {text offsets lengths : List ℕ} (w : Bench text classes offsets lengths d) → Few w.file → (c : Column) → ColumnStands w.file c
        → (p : Spot) → c.event ≡ some p → p.member ≡ number % 13 → c.entity ≡ number / 13 → kind ≡ p.what.kind
    unfolding member_of
    kind_found {text} {offsets} {lengths} w few c s p z i j =
        let (y, v) = s.of_entity in
        let t = row_interface w few.interfaces c.entity y v in
        let u : face ≡ get_or d (323 + c.entity) 0 = r ∙ ap (λ (k : ℕ). get_or d (323 + k) 0) (sym j) in
        by_interface (interface_of w.file c.entity) (ap (get_elem? w.file.interfaces) u ∙ t) (s.of_member p z)
      where
        by_interface : (o : Option Interface) → get_elem? w.file.interfaces face ≡ o → nth_member o p.member ≡ some p.what → kind ≡ p.what.kind
        by_interface none e g = absurd (none_some g)
        by_interface (some a) e g = n.is text offsets lengths w a p.what e (rw i at g)

    pub event_is_put : {f : Field} → f ≡ event_field kind x → {ok : Bool} → ok ≡ is_well_formed f → {left : List ℕ}
        → left ≡ overwritten cells ((number / 13 * 12 + number % 13) * 9) (input_bytes (said f)) → InputPut classes d number x flags cells flags left ok
    unfolding field_in presence_put event_put
    event_is_put {f} e {ok} k {left} g = record {
      is = λ text offsets lengths w few c s q.
          let (p, z, i, j) = event_number c (stands_small w.file few c s) q h in
          go c p z i j (kind_found w few c s p z i j);
    }
      where
        go : (c : Column) (p : Spot) → c.event ≡ some p → p.member ≡ number % 13 → c.entity ≡ number / 13 → kind ≡ p.what.kind
            → (ok ≡ is_well_formed (field_in c x))
            × (flags ≡ presence_put c.entity c.event (said (field_in c x)) flags)
            × (left ≡ event_put c.entity c.event (said (field_in c x)) cells)
        go c p z i j v =
            let t : field_in c x ≡ f = rw (z, field_in) (sym (e ∙ ap (λ (a : Kind). event_field a x) v)) in (
              k ∙ ap is_well_formed (sym t),
              rw z,
              rw (t, z, i, j) g,
            )

-- ---- a table with another piece

-- one piece is written over, and the others stay
pub table_put : (piece next : ℕ → List ℕ) (size : ℕ) → ((j : ℕ) → length (piece j) ≡ size) → ((j : ℕ) → length (next j) ≡ size)
    → (k i : ℕ) (rest : List ℕ) → i < k → ((j : ℕ) → (j ≡ i → ⊥) → piece j ≡ next j)
    → overwritten (table piece 0 k ++ rest) (i * size) (next i) ≡ table next 0 k ++ rest
unfolding table
table_put piece next size a b k i rest h e =
    let n : k ≡ i + suc (k - i - 1) = omega arith in
    let z : 0 + i ≡ i = omega arith in
    let parts : (p : ℕ → List ℕ) → table p 0 k ++ rest ≡ table p 0 i ++ (p i ++ (table p (i + 1) (k - i - 1) ++ rest)) =
    λ p.
    ap (λ (m : ℕ). table p 0 m ++ rest) n
    ∙ ap (λ (l : List ℕ). l ++ rest) (table_append p 0 i (suc (k - i - 1)) ∙ ap (λ (m : ℕ). table p 0 i ++ (p m ++ table p (m + 1) (k - i - 1))) z)
    ∙ append_assoc (table p 0 i) (p i ++ table p (i + 1) (k - i - 1)) rest
    ∙ ap (λ (l : List ℕ). table p 0 i ++ l) (append_assoc (p i) (table p (i + 1) (k - i - 1)) rest) in
    let front : table piece 0 i ≡ table next 0 i = table_same piece next 0 i (λ j c d. e j (omega arith)) in
    let back : table piece (i + 1) (k - i - 1) ≡ table next (i + 1) (k - i - 1) = table_same piece next (i + 1) (k - i - 1) (λ j c d. e j (omega arith)) in
    let at : length (table piece 0 i) ≡ i * size = length_table piece size a 0 i in
    ap (λ (l : List ℕ). overwritten l (i * size) (next i)) (parts piece)
    ∙ overwritten_at (table piece 0 i) (piece i) (next i) (table piece (i + 1) (k - i - 1) ++ rest) (i * size) at (a i ∙ sym (b i))
    ∙ ap₂ (λ (l m : List ℕ). l ++ (next i ++ (m ++ rest))) front back
    ∙ sym (parts next)
  where
    overwritten_at : (front was new rest : List ℕ) (at : ℕ) → length front ≡ at → length was ≡ length new
        → overwritten (front ++ (was ++ rest)) at new ≡ front ++ (new ++ rest)
    overwritten_at front was new rest at p q =
        let l : length (front ++ (was ++ rest)) ≡ length front + (length was + length rest) =
        length-append front (was ++ rest) ∙ ap (λ (m : ℕ). length front + m) (length-append was rest) in
        overwritten_parts (front ++ (was ++ rest)) at new (omega arith)
        ∙ rw (
          take_at front (was ++ rest) at p,
          ← drop-drop (length new) at (front ++ (was ++ rest)),
          drop_at front (was ++ rest) at p,
          drop_at was rest (length new) q,
        )
        (append_assoc front new rest)

-- ---- tables with one more input

module _ (i : Input) (is : List Input) (n : ℕ) (rest : List ℕ) where
  abbrev its_entity : ℕ
  its_entity = i.column.entity

  not_both : (b : Bool) → (b && false) ≡ false
  not_both true = refl
  not_both false = refl

  pub presence_more : its_entity < n
      → presence_put its_entity i.column.event i.says (presence_table (inputs_of is) n ++ rest) ≡ presence_table (inputs_of (i ∷ is)) n ++ rest
  unfolding inputs_of presence_in presence_put is_presence
  presence_more h = go i.column.event
    where
      old : ℕ → List ℕ
      old e = presence_flag (presence_in is e)

      more : Option Spot → ℕ → List ℕ
      more o e = presence_flag (cond (eqb its_entity e && is_presence o) (as_truth i.says) (presence_in is e))

      here : more none its_entity ≡ presence_flag (as_truth i.says)
      here = rw (eq-eqb its_entity its_entity refl)

      else : (j : ℕ) → (j ≡ its_entity → ⊥) → old j ≡ more none j
      else j d = rw (ne_eqb its_entity j (λ e. d (sym e)))

      go : (o : Option Spot) → presence_put its_entity o i.says (table old 0 n ++ rest) ≡ table (more o) 0 n ++ rest
      go none =
          let one : its_entity * 1 ≡ its_entity = omega arith in
          rw (one, here) at
          (table_put old (more none) 1 (presence_sized (presence_in is))
          (presence_sized (λ j. cond (eqb its_entity j && true) (as_truth i.says) (presence_in is j)))
          n its_entity rest h else)
      go (some p) = ap (λ (l : List ℕ). l ++ rest) (table_same old (more (some p)) 0 n (λ j a b. rw (not_both (eqb its_entity j))))

  pub event_more : its_entity < n → ((p : Spot) → i.column.event ≡ some p → p.member < 12)
      → event_put its_entity i.column.event i.says (input_table (inputs_of is) n ++ rest) ≡ input_table (inputs_of (i ∷ is)) n ++ rest
  unfolding inputs_of given_in event_put is_member_number
  event_more h = go i.column.event
    where
      old : ℕ → List ℕ
      old k = input_bytes (given_in is (k / 12) (k % 12))

      more : Option Spot → ℕ → List ℕ
      more o k = input_bytes (cond (eqb its_entity (k / 12) && is_member_number (k % 12) o) i.says (given_in is (k / 12) (k % 12)))

      at_cell : (p : Spot) → p.member < 12 → more (some p) (its_entity * 12 + p.member) ≡ input_bytes i.says
      at_cell p b =
          rw (
            cell_entity its_entity p.member b,
            cell_member its_entity p.member b,
            eq-eqb its_entity its_entity refl,
            eq-eqb p.member p.member refl,
          )

      else : (p : Spot) → p.member < 12 → (j : ℕ) → (j ≡ its_entity * 12 + p.member → ⊥) → old j ≡ more (some p) j
      else p b j d = by_tests (eqb its_entity (j / 12)) refl (eqb p.member (j % 12)) refl
        where
          by_tests : (s : Bool) → eqb its_entity (j / 12) ≡ s → (t : Bool) → eqb p.member (j % 12) ≡ t
              → old j ≡ input_bytes (cond (s && t) i.says (given_in is (j / 12) (j % 12)))
          by_tests true u true v = let x = eqb-true its_entity (j / 12) u in let y = eqb-true p.member (j % 12) v in absurd (d (omega arith))
          by_tests true u false v = refl
          by_tests false u t v = refl

      go : (o : Option Spot) → ((p : Spot) → o ≡ some p → p.member < 12)
          → event_put its_entity o i.says (table old 0 (12 * n) ++ rest) ≡ table (more o) 0 (12 * n) ++ rest
      go none small = ap (λ (l : List ℕ). l ++ rest) (table_same old (more none) 0 (12 * n) (λ j a b. rw (not_both (eqb its_entity (j / 12)))))
      go (some p) small =
          let b = small p refl in
          rw (at_cell p b) at
          (table_put old (more (some p)) 9 (λ j. length_input_bytes (given_in is (j / 12) (j % 12)))
          (λ j. length_input_bytes (cond (eqb its_entity (j / 12) && eqb p.member (j % 12)) i.says (given_in is (j / 12) (j % 12))))
          (12 * n) (its_entity * 12 + p.member) rest (cell_below its_entity p.member b n h) (else p b))
