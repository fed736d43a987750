-- The store that rules see, from memory: a store's plane, and a line's inputs.
use Prim.Native.Nat.{ℕ, zero, suc, ◌+◌, ◌-◌, ◌*◌, ◌/◌, ◌%◌, ◌≤◌, ◌<◌}
use native.Mathlib.Omega.{arith}
use mathlib.Core.Path.{◌≡◌, refl, sym, ap, ap₂, ◌∙◌}
use mathlib.Core.Bool.{Bool, true, false, not, ◌&&◌, cond}
use mathlib.Core.List.{List, ◌++◌, append_assoc}
use mathlib.Core.Option
use mathlib.Core.Option.{Option, none, some}
use lib.Dec.{eqb}
use lib.ListN.{length, get_or, take, drop, length-append, take-append-drop}
use lib.Seq.{drop-drop}
use borrow.Author.Tests.{lt-ltb, eq-eqb, ne_eqb}
use Rattle.values.specs.declared.Value.{Value}
use Rattle.values.specs.declared.Value.TheVariants.{Unset}
use Rattle.values.specs.definitions.Cells.{cell_bytes, cell_at, with_cell}
use Rattle.values.proofs.laws.StorableLaws.{length_cell_bytes}
use Rattle.values.proofs.laws.CellLaws.{length_with_cell}
use Rattle.text.specs.definitions.Syntax.{Sort, Member, File}
use Rattle.checking.specs.definitions.Scope.{member_of, is_attribute, is_action}
use Rattle.checking.specs.inner_contracts.DirectoryReads.{Few}
use Rattle.checking.specs.inner_contracts.Directory.{Bench}
use Rattle.cycles.specs.definitions.Store.{Store, Inputs}
use Rattle.cycles.specs.definitions.Cycle.{is_sort, present_after, leaves, seen}
use Rattle.cycles.specs.definitions.SoundStores.{SoundStore, SoundInputs}
use Rattle.cycles.specs.definitions.Planes.{table, flag, presence_flag, entity_count, input_at, decode_store}
use Rattle.cycles.specs.inner_contracts.LineReads.{presence_table, input_table}
use Rattle.cycles.specs.inner_contracts.CellTokens.{NO_TOKEN, CellToken, SortTest}
use Rattle.cycles.specs.inner_contracts.Evaluation.{Stored}
use Rattle.cycles.specs.inner_contracts.CycleMemory.{
  present_by,
  seen_flag,
  leaves_by,
  seen_value,
  next_value,
  ValueOf,
  no_action,
  MembersPut,
  SeenPut,
}
use Rattle.cycles.proofs.laws.TableLaws.{begins_with, table_same, table_next, length_table, table_fill, table_flag, table_cell, table_input}
use Rattle.cycles.proofs.laws.CellFits.{cell_read, input_read}
use Rattle.cycles.proofs.laws.CellNumbers.{cell_entity, cell_member, cell_below}
use Rattle.cycles.proofs.laws.CellTokenLaws.{action_class, attribute_class, none_behind}
use Rattle.cycles.proofs.laws.PlaneParts.{
  flag_piece,
  presence_piece,
  cell_piece,
  input_piece,
  flag_sized,
  presence_sized,
  cell_sized,
  input_sized,
  read_flag,
  some_kind,
}

-- ---- cells put one after another

-- a piece that is there already, and k of them
module _ (piece : ℕ → List ℕ) (before : List ℕ) (i : ℕ) where
  cell_stays : take 9 (drop (i * 9) before) ≡ piece i → table piece 0 i ++ drop (i * 9) before ≡ table piece 0 (i + 1) ++ drop (i * 9 + 9) before
  cell_stays e =
      ap (λ (l : List ℕ). table piece 0 i ++ l)
      (sym (take-append-drop 9 (drop (i * 9) before)) ∙ ap₂ (λ (x y : List ℕ). x ++ y) e (drop-drop 9 (i * 9) before))
      ∙ sym (append_assoc (table piece 0 i) (piece i) (drop (i * 9 + 9) before))
      ∙ ap (λ (l : List ℕ). l ++ drop (i * 9 + 9) before) (sym (table_next piece i))

cells_stay : (piece : ℕ → List ℕ) (before : List ℕ) (i k : ℕ) → ((j : ℕ) → j < k → take 9 (drop ((i + j) * 9) before) ≡ piece (i + j))
    → table piece 0 i ++ drop (i * 9) before ≡ table piece 0 (i + k) ++ drop ((i + k) * 9) before
cells_stay piece before i zero h = let e : i + 0 ≡ i = omega arith in rw e
cells_stay piece before i (suc k) h =
    let e : i + suc k ≡ i + k + 1 = omega arith in
    let z : (i + k + 1) * 9 ≡ (i + k) * 9 + 9 = omega arith in
    cells_stay piece before i k (λ j l. h j (omega arith)) ∙ rw (e, z) (cell_stays piece before (i + k) (h k (omega arith)))

module _ {classes d : List ℕ} (sort : Sort → Bool) (value : File → ℕ → Value) where
  pub members_begin : (l : List ℕ) → MembersPut classes d sort value 0 l l
  unfolding table
  members_begin l = record { same = refl; is = λ text offsets lengths w c h. refl }

  module _ {i : ℕ} {before l : List ℕ} (p : MembersPut classes d sort value i before l) where
    -- by another name of the number
    pub members_at : {r : ℕ} → r ≡ i → MembersPut classes d sort value r before l
    members_at e = rw e p

    -- a cell that is put
    pub member_put : {m : List ℕ} {v : Value} → ValueOf classes d value i v → m ≡ with_cell l i v → (i + 1) * 9 ≤ length before
        → MembersPut classes d sort value (i + 1) before m
    member_put {m} {v} h e r = record {
      same = ap length e ∙ length_with_cell l i v ∙ p.same;
      is = λ text offsets lengths w c others.
          e ∙ ap₂ (λ (x : List ℕ) (y : Value). with_cell x i y) (p.is text offsets lengths w c (λ j b. others j (omega arith))) (h.is text offsets lengths w c)
          ∙ table_fill (λ k. cell_bytes (value w.file k)) 9 (λ k. length_cell_bytes (value w.file k)) i before r;
    }

    -- k cells that are left as they are
    pub members_left : (k : ℕ)
        → ((text offsets lengths : List ℕ) (w : Bench text classes offsets lengths d) → Few w.file → (j : ℕ) → j < k
        → is_sort sort (member_of w.file ((i + j) / 12) ((i + j) % 12)) ≡ false)
        → MembersPut classes d sort value (i + k) before l
    members_left k h = record {
      same = p.same;
      is = λ text offsets lengths w c others.
          p.is text offsets lengths w c (λ j b. others j (omega arith))
          ∙ cells_stay (λ j. cell_bytes (value w.file j)) before i k (λ j b. others (i + j) (omega arith) (h text offsets lengths w c j b));
    }

    -- from a cell without a member on, as far as its entity's cells go
    pub members_rest : {token r : ℕ} → CellToken d i token → NO_TOKEN ≤ token → r ≡ i - i % 12 + 12 → MembersPut classes d sort value r before l
    unfolding is_sort
    members_rest {token} {r} t h e =
        let k : r ≡ i + (12 - i % 12) = omega arith in
        rw k (members_left (12 - i % 12) (λ text offsets lengths w c j b. ap (is_sort sort) (none_behind t h w c j (omega arith))))

-- ---- a cell after the line, as code finds it

module _ (present seen_flags cells inputs : List ℕ) {classes d : List ℕ} {i : ℕ} where
  pub value_read : {v : Value} → (get_or inputs (i * 9) 0 ≡ 4 → ⊥) → v ≡ cell_at inputs i → ValueOf classes d (seen_value present seen_flags cells inputs) i v
  unfolding seen_value
  value_read n e = record { is = λ text offsets lengths w c. rw (ne_eqb (get_or inputs (i * 9) 0) 4 n) e }

  module _ (t : get_or inputs (i * 9) 0 ≡ 4) where
    pub value_stays : {v : Value} → leaves_by (get_or present (i / 12) 0) (get_or seen_flags (i / 12) 0) ≡ false → v ≡ cell_at cells i
        → ValueOf classes d (seen_value present seen_flags cells inputs) i v
    unfolding seen_value
    value_stays l e = record { is = λ text offsets lengths w c. rw (eq-eqb (get_or inputs (i * 9) 0) 4 t, l) e }

    module _ {at : ℕ} {r : Bool} (k : CellToken d i at) (s : SortTest classes at 4 r) where
      pub value_kept : {v : Value} → r ≡ true → v ≡ cell_at cells i → ValueOf classes d (seen_value present seen_flags cells inputs) i v
      unfolding seen_value
      value_kept q e = record {
        is = λ text offsets lengths w c.
            let o = member_of w.file (i / 12) (i % 12) in
            let a : is_sort is_attribute o ≡ true =
            sym (s.is text offsets lengths o (k.is text classes offsets lengths w c) is_attribute attribute_class) ∙ q in
            rw (eq-eqb (get_or inputs (i * 9) 0) 4 t, a) (e ∙ go (leaves_by (get_or present (i / 12) 0) (get_or seen_flags (i / 12) 0)));
      }
        where
          go : (b : Bool) → cell_at cells i ≡ cond (b && false) Unset (cell_at cells i)
          go true = refl
          go false = refl

      pub value_left : leaves_by (get_or present (i / 12) 0) (get_or seen_flags (i / 12) 0) ≡ true → r ≡ false
          → ValueOf classes d (seen_value present seen_flags cells inputs) i Unset
      unfolding seen_value
      value_left l q = record {
        is = λ text offsets lengths w c.
            let o = member_of w.file (i / 12) (i % 12) in
            let a : is_sort is_attribute o ≡ false =
            sym (s.is text offsets lengths o (k.is text classes offsets lengths w c) is_attribute attribute_class) ∙ q in
            rw (eq-eqb (get_or inputs (i * 9) 0) 4 t, l, a);
      }

-- ---- a cell after the cycle, as code puts it

no_action_left : (o : Option Member) → is_sort is_action o ≡ true → is_sort no_action o ≡ false
unfolding is_sort
no_action_left none h = refl
no_action_left (some x) h = ap not h

module _ (cells : List ℕ) {classes d before l m : List ℕ} {i token : ℕ} where
  -- an action's is left as it was written
  pub seen_put : MembersPut classes d no_action (next_value cells before) i before l → CellToken d i token → SeenPut classes token cells i l m
      → (i + 1) * 9 ≤ length before → MembersPut classes d no_action (next_value cells before) (i + 1) before m
  unfolding next_value
  seen_put p t s r = go s.action s.tested s.is
    where
      told : {b : Bool} → SortTest classes token 6 b → (text offsets lengths : List ℕ) (w : Bench text classes offsets lengths d) → Few w.file
          → is_sort is_action (member_of w.file (i / 12) (i % 12)) ≡ b
      told q text offsets lengths w c =
          sym (q.is text offsets lengths (member_of w.file (i / 12) (i % 12)) (t.is text classes offsets lengths w c) is_action action_class)

      go : (b : Bool) → SortTest classes token 6 b → m ≡ cond b l (with_cell l i (cell_at cells i))
          → MembersPut classes d no_action (next_value cells before) (i + 1) before m
      go true q e =
          rw e
          (members_left no_action (next_value cells before) p 1
          (λ text offsets lengths w c j b.
          let z : i + j ≡ i = omega arith in
          rw z (no_action_left (member_of w.file (i / 12) (i % 12)) (told q text offsets lengths w c))))
      go false q e =
          let found : ValueOf classes d (next_value cells before) i (cell_at cells i) =
          record { is = λ text offsets lengths w c. rw (told q text offsets lengths w c) refl } in
          member_put no_action (next_value cells before) p found e r

-- ---- the store

by_presence : (p : ℕ) (o : Option Bool) → present_by p (get_or (presence_flag o) 0 0) ≡ Option.get_or o (eqb p 1)
by_presence p none = refl
by_presence p (some true) = refl
by_presence p (some false) = refl

read_or : (b : Bool) (v x : Value) → cond b x v ≡ Option.get_or (cond b none (some v)) x
read_or true v x = refl
read_or false v x = refl

-- `present` is the plane of the store before the line
module _ (f : File) (i : Inputs) (present flags inputs : List ℕ) where
  abbrev n : ℕ
  n = entity_count f

  abbrev cells : List ℕ
  cells = drop n present

  abbrev now : Store
  now = decode_store n present

  module _ (given_flags : take n flags ≡ presence_table i n) where
    flag_seen : (e : ℕ) → e < n → seen_flag present flags e ≡ flag_piece (seen f now i).present e
    unfolding seen present_after decode_store
    flag_seen e h =
        let a : get_or flags e 0 ≡ get_or (presence_piece i.presence e) 0 0 =
        ap (λ (l : List ℕ). get_or l e 0) (begins_with flags (presence_table i n) n given_flags)
        ∙ table_flag (presence_piece i.presence) (presence_sized i.presence) n e (drop n flags) h in
        rw (lt-ltb e n h) (ap flag (ap (present_by (get_or present e 0)) a ∙ by_presence (get_or present e 0) (i.presence e)))

    pub flags_seen : table (seen_flag present flags) 0 n ≡ table (flag_piece (seen f now i).present) 0 n
    flags_seen = table_same (seen_flag present flags) (flag_piece (seen f now i).present) 0 n (λ e p q. flag_seen e (omega arith))

  module _ (taken : SoundInputs f i) (given_inputs : take (108 * n) inputs ≡ input_table i n) where
    given_read : (k : ℕ) → k < 12 * n → input_at inputs k ≡ i.given (k / 12) (k % 12)
    given_read k h =
        ap (λ (l : List ℕ). input_at l k) (begins_with inputs (input_table i n) (108 * n) given_inputs)
        ∙ table_input (input_piece i.given) (input_sized i.given) (12 * n) k (drop (108 * n) inputs) h
        ∙ input_read (i.given (k / 12) (k % 12)) (λ v p. let g = taken.of_kind (k / 12) (k % 12) v p in (g.0.kind, g.3))

    module _ {seen_flags : List ℕ} (rest : List ℕ) (stand : seen_flags ≡ table (flag_piece (seen f now i).present) 0 n ++ rest) where
      leaves_seen : (e : ℕ) → e < n → leaves_by (get_or present e 0) (get_or seen_flags e 0) ≡ leaves now i e
      unfolding leaves seen decode_store
      leaves_seen e h =
          let a : get_or seen_flags e 0 ≡ cond (present_after now i e) 1 0 =
          ap (λ (l : List ℕ). get_or l e 0) stand ∙ table_flag (flag_piece (seen f now i).present) (flag_sized (seen f now i).present) n e rest h in
          let b : eqb (get_or present e 0) 1 ≡ now.present e = rw (lt-ltb e n h) in
          ap₂ (λ (x y : Bool). x && not y) b (ap (λ (t : ℕ). eqb t 1) a ∙ read_flag (present_after now i e))

      pub value_is : (k : ℕ) → k < 12 * n → seen_value present seen_flags cells inputs f k ≡ (seen f now i).cell (k / 12) (k % 12)
      unfolding seen seen_value decode_store
      value_is k h =
          let e : k / 12 < n = omega arith in
          let m : k % 12 < 12 = omega arith in
          let z : k / 12 * 12 + k % 12 ≡ k = omega arith in
          let left = leaves_seen (k / 12) e in
          let attribute = is_sort is_attribute (member_of f (k / 12) (k % 12)) in
          let was : cell_at cells k ≡ now.cell (k / 12) (k % 12) = rw (lt-ltb (k / 12) n e, lt-ltb (k % 12) 12 m, z) refl in
          read_or (eqb (get_or inputs (k * 9) 0) 4) (cell_at inputs k) _
          ∙ ap₂ (λ (o : Option Value) (x : Value). Option.get_or o x) (given_read k h)
          (ap₂ (λ (b : Bool) (x : Value). cond (b && not attribute) Unset x) left was)

      pub cells_seen : table (λ k. cell_bytes (seen_value present seen_flags cells inputs f k)) 0 (12 * n) ≡ table (cell_piece (seen f now i).cell) 0 (12 * n)
      cells_seen =
          table_same (λ k. cell_bytes (seen_value present seen_flags cells inputs f k)) (cell_piece (seen f now i).cell) 0 (12 * n)
          (λ k p q. ap cell_bytes (value_is k (omega arith)))

-- memory that begins with a sound store's parts stands for it
pub tables_stored : (f : File) → (s : Store) → SoundStore f s → {flags cells : List ℕ} (r q : List ℕ)
    → flags ≡ table (flag_piece s.present) 0 (entity_count f) ++ r → cells ≡ table (cell_piece s.cell) 0 (12 * entity_count f) ++ q
    → Stored (entity_count f) flags cells s
tables_stored f s h {flags} {cells} r q a b =
    let n = entity_count f in
    let part = table (cell_piece s.cell) 0 (12 * n) in
    let k = length-append part q in
    let j = length_table (cell_piece s.cell) 9 (cell_sized s.cell) 0 (12 * n) in
    record {
      room = rw b (omega arith);
      present = λ e l.
          sym (ap (λ (m : List ℕ). eqb (get_or m e 0) 1) a
          ∙ ap (λ (t : ℕ). eqb t 1) (table_flag (flag_piece s.present) (flag_sized s.present) n e r l)
          ∙ read_flag (s.present e));
      cell = λ e m l t.
          let i = e * 12 + m in
          let y = some_kind f s h (i / 12) (i % 12) in
          sym (ap (λ (x : List ℕ). cell_at x i) b
          ∙ table_cell (cell_piece s.cell) (cell_sized s.cell) (12 * n) i q (cell_below e m t n l)
          ∙ cell_read y.0 (s.cell (i / 12) (i % 12)) y.1
          ∙ ap₂ s.cell (cell_entity e m t) (cell_member e m t));
    }

-- what a cell has after the line
pub ruleset values_seen = (value_read, value_stays, value_kept, value_left)
