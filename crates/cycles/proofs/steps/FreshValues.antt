-- The value of a cell in a fresh state: what the first assignment of an attribute's name sets.
use Prim.Native.Nat.{ℕ, suc, ◌+◌, ◌/◌, ◌%◌, ◌≤◌, ◌<◌}
use native.Mathlib.Omega.{arith}
use mathlib.Core.Path.{◌≡◌, refl, sym, ap, ◌∙◌, subst}
use mathlib.Core.Bool.{Bool, true, false, true≢false}
use mathlib.Core.List.{List, ◌∷◌}
use mathlib.Core.Option.{Option, none, some}
use lib.Dec.{ltb}
use lib.ListN.{length, get_or, get_elem?, drop}
use borrow.Author.Tests.{ltb-true, ltb-false}
use Rattle.values.specs.declared.Value.{Value}
use Rattle.values.specs.declared.Value.TheVariants.{Unset}
use Rattle.values.specs.definitions.Bytes.{same_bytes}
use Rattle.text.specs.definitions.Tokens.{Token, NAME, BRACE_CLOSE, EQUALS}
use Rattle.text.specs.definitions.Syntax.{Member, Literal, literal_value, Assignment, Entity}
use Rattle.text.specs.definitions.Readers.{read, Parser, give, and_then}
use Rattle.text.specs.definitions.Grammar.{name_of, literal_reader, assignment_after}
use Rattle.text.proofs.laws.TreeLaws.{read_tree}
use Rattle.text.proofs.laws.SpotLaws.{Starts, expect_starts, and_then_parts}
use Rattle.checking.specs.inner_contracts.DirectoryReads.{Few}
use Rattle.checking.specs.definitions.Scope.{Indexed, here_or_later, look_up, member_of, is_attribute}
use Rattle.checking.specs.inner_contracts.Directory.{name_in, ColumnsOf, Begins, Bench}
use Rattle.checking.specs.inner_contracts.Sequences.{Sequence}
use Rattle.checking.specs.inner_contracts.DeclarationWalk.{AssignmentEnd, BodyOf}
use Rattle.checking.proofs.laws.DirectoryLaws.{number_below, column_bytes}
use Rattle.checking.proofs.laws.SequenceLaws.{First, sequence_order, sequence_first, sequence_ends}
use Rattle.checking.proofs.laws.EntityTokens.{assignment_stands, entity_stands}
use Rattle.checking.proofs.laws.AssignmentLaws.{next_assignment}
use Rattle.cycles.specs.definitions.Cycle.{is_sort, assigned, initial_value}
use Rattle.cycles.specs.inner_contracts.CellTokens.{CellToken, SortTest}
use Rattle.checking.specs.inner_contracts.CheckedBench.{ValuesOf}
use Rattle.cycles.specs.inner_contracts.FreshMemory.{LiteralAt, AssignedValue, fresh_value, FreshCell}
use Rattle.cycles.proofs.laws.CellTokenLaws.{attribute_class, member_told, entity_told}

-- ---- an assignment's literal

pub assignment_literal : {ts : List Token} {q : ℕ} {a : Assignment} → Begins ts q NAME assignment_after a
    → (n : ℕ) × (literal_reader (drop (q + 2) ts) ≡ read a.literal n)
unfolding assignment_after give
assignment_literal {ts} {q} {a} b = by_equals (expect_starts ts (q + 1) EQUALS tail a b.used b.reads).0
  where
    make : Token → Literal → Assignment
    make e l = record { name = name_of b.token; equals_at = e.at; literal = l }

    tail : Token → Parser Assignment
    tail e = and_then literal_reader λ l. give (make e l)

    by_literal : (e : Token) (n : ℕ)
        → (l : Literal) × (m : ℕ) × (literal_reader (drop (suc (q + 1)) ts) ≡ read l m) × (j : ℕ)
        × (give (make e l) (drop (suc (q + 1) + m) ts) ≡ read a j) × (m + j ≡ n)
        → (n : ℕ) × (literal_reader (drop (q + 2) ts) ≡ read a.literal n)
    by_literal e n (l, m, d, j, g, k) =
        let f : suc (q + 1) ≡ q + 2 = omega arith in
        (m, (rw f at d) ∙ ap (λ (x : Assignment). read x.literal m) (read_tree g))

    by_equals : Starts ts (q + 1) EQUALS tail a → (n : ℕ) × (literal_reader (drop (q + 2) ts) ≡ read a.literal n)
    by_equals s =
        by_literal s.token s.used
        (and_then_parts ts (suc (q + 1)) literal_reader (λ l. give (make s.token l)) a s.used s.reads)

-- ---- the first assignment of a name

module _ (n : List ℕ) (a : Assignment) (rest : List Assignment) where
  assigned_here : same_bytes n a.name.bytes ≡ true → assigned (look_up (λ x. x.name) n (a ∷ rest)) ≡ literal_value a.literal
  unfolding look_up here_or_later assigned
  assigned_here e = rw e

  assigned_later : same_bytes n a.name.bytes ≡ false → assigned (look_up (λ x. x.name) n (a ∷ rest)) ≡ assigned (look_up (λ x. x.name) n rest)
  unfolding look_up assigned
  assigned_later e = rw e (go (look_up (λ x. x.name) n rest))
    where
      go : (o : Option (Indexed Assignment)) → assigned (here_or_later false a o) ≡ assigned o
      go none = refl
      go (some r) = refl

-- the assignments before token number q do not set the name
pub record Assigning (text classes offsets lengths : List ℕ) (from i q : ℕ) : Type 0 where
  pub left : (ts : List Token) → ColumnsOf text classes offsets lengths ts → (x : Entity) (b : BodyOf ts from x)
      → (ys : List Assignment) × Sequence ts NAME assignment_after q b.close ys
      × (assigned (look_up (λ a. a.name) (name_in text offsets lengths i) ys)
      ≡ assigned (look_up (λ a. a.name) (name_in text offsets lengths i) x.assignments))

-- the `}` is in the table
module _ {text classes offsets lengths : List ℕ} {ts : List Token} (columns : ColumnsOf text classes offsets lengths ts) {from : ℕ} {x : Entity}
    (b : BodyOf ts from x) where
  close_inside : b.close < length classes
  close_inside = let l = number_below ts b.close b.stands in let c = columns.count in omega arith

  close_class : get_or classes b.close 0 ≡ BRACE_CLOSE
  close_class = sym (columns.class b.close b.closing b.stands) ∙ b.class

module _ {text classes offsets lengths : List ℕ} {from i : ℕ} where
  pub assigning_begins : Assigning text classes offsets lengths from i from
  assigning_begins = record { left = λ ts columns x b. (x.assignments, b.set, refl) }

  module _ {q : ℕ} (p : Assigning text classes offsets lengths from i q) where
    not_beyond : {ts : List Token} (columns : ColumnsOf text classes offsets lengths ts) {x : Entity} (b : BodyOf ts from x) → q ≤ b.close
    not_beyond {ts} columns {x} b = sequence_order (p.left ts columns x b).1

    -- the table ends
    pub assigning_outside : length classes ≤ q → {values : List ℕ} {v : Value} → AssignedValue text classes offsets lengths values from i v
    assigning_outside h = record {
      is = λ ts columns vs x b. let l = close_inside columns b in let m = not_beyond columns b in absurd (omega arith);
    }

    -- the `}` stands there
    pub assigning_ends : (get_or classes q 0 ≡ NAME → ⊥) → {values : List ℕ} → AssignedValue text classes offsets lengths values from i Unset
    unfolding look_up assigned
    assigning_ends h = record { is = λ ts columns vs x b. go columns b (ltb q b.close) refl }
      where
        go : {ts : List Token} (columns : ColumnsOf text classes offsets lengths ts) {x : Entity} (b : BodyOf ts from x)
            (t : Bool) → ltb q b.close ≡ t
            → Unset ≡ assigned (look_up (λ a. a.name) (name_in text offsets lengths i) x.assignments)
        go {ts} columns {x} b true e =
            let g = (sequence_first (p.left ts columns x b).1 (ltb-true q b.close e)).begins in
            absurd (h (sym (columns.class q g.token g.stands) ∙ g.class))
        go {ts} columns {x} b false e =
            let (ys, s, f) = p.left ts columns x b in
            ap (λ zs. assigned (look_up (λ a. a.name) (name_in text offsets lengths i) zs)) (sym (sequence_ends s (ltb-false q b.close e)).0) ∙ f

    module _ (h : get_or classes q 0 ≡ NAME) {same : Bool} (f : same ≡ same_bytes (name_in text offsets lengths i) (name_in text offsets lengths q)) where
      not_closed : {ts : List Token} (columns : ColumnsOf text classes offsets lengths ts) {x : Entity} (b : BodyOf ts from x) → q < b.close
      not_closed columns b = go (ltb q b.close) refl
        where
          go : (t : Bool) → ltb q b.close ≡ t → q < b.close
          go true e = ltb-true q b.close e
          go false e =
              let l = not_beyond columns b in
              let m = ltb-false q b.close e in
              let k : q ≡ b.close = omega arith in
              let z : NAME ≡ BRACE_CLOSE = sym h ∙ ap (λ n. get_or classes n 0) k ∙ close_class columns b in
              absurd (omega arith)

      tested : {ts : List Token} (columns : ColumnsOf text classes offsets lengths ts) {to : ℕ} {ys : List Assignment}
          (t : First ts NAME assignment_after q to ys) → same_bytes (name_in text offsets lengths i) t.head.name.bytes ≡ same
      tested columns t = sym (f ∙ ap (same_bytes (name_in text offsets lengths i)) (column_bytes columns (assignment_stands columns t.begins).named))

      pub assigning_here : same ≡ true → {values : List ℕ} {v : Value} → LiteralAt classes values (q + 2) v
          → AssignedValue text classes offsets lengths values from i v
      assigning_here e r = record {
        is = λ ts columns vs x b.
            let (ys, s, k) = p.left ts columns x b in
            let g = sequence_first s (not_closed columns b) in
            let (n, l) = assignment_literal g.begins in
            r.is ts (record { class = columns.class; value = vs }) g.head.literal n l
            ∙ sym (assigned_here (name_in text offsets lengths i) g.head g.tail (tested columns g ∙ e))
            ∙ ap (λ zs. assigned (look_up (λ a. a.name) (name_in text offsets lengths i) zs)) g.joins
            ∙ k;
      }

      pub assigning_on : same ≡ false → {last : ℕ} → AssignmentEnd classes q last → Assigning text classes offsets lengths from i (last + 1)
      assigning_on e {last} o = record {
        left = λ ts columns x b.
            let (ys, s, k) = p.left ts columns x b in
            let g = sequence_first s (not_closed columns b) in
            let (z, n) = next_assignment (assignment_stands columns g.begins) g.within (close_inside columns b) o in (
              g.tail,
              rw n g.rest,
              sym (assigned_later (name_in text offsets lengths i) g.head g.tail (tested columns g ∙ e))
                  ∙ ap (λ zs. assigned (look_up (λ a. a.name) (name_in text offsets lengths i) zs)) g.joins
                  ∙ k,
            );
      }

-- ---- the value of a cell

no_initial : (e : Option Entity) (o : Option Member) → false ≡ is_sort is_attribute o → Unset ≡ initial_value e o
unfolding is_sort initial_value
no_initial none o h = refl
no_initial (some e) none h = refl
no_initial (some e) (some m) h = rw (← h)

an_initial : (e : Option Entity) (o : Option Member) → true ≡ is_sort is_attribute o → (y : Entity) → e ≡ some y
    → (x : Member) × (o ≡ some x) × (assigned (look_up (λ a. a.name) x.name.bytes y.assignments) ≡ initial_value e o)
unfolding is_sort initial_value
an_initial e none h y q = absurd (true≢false h)
an_initial e (some m) h y q = (m, refl, rw (q, ← h))

module _ {text classes offsets lengths d : List ℕ} {i token : ℕ} (t : CellToken d i token) {b : Bool} (a : SortTest classes token 4 b) where
  sorted : (w : Bench text classes offsets lengths d) → Few w.file → b ≡ is_sort is_attribute (member_of w.file (i / 12) (i % 12))
  sorted w few =
      a.is text offsets lengths (member_of w.file (i / 12) (i % 12)) (t.is text classes offsets lengths w few) is_attribute attribute_class

  pub value_none : b ≡ false → {values : List ℕ} → FreshCell text classes offsets lengths values d i Unset
  unfolding fresh_value
  value_none e = record {
    is = λ w few vs. no_initial (get_elem? w.file.entities (i / 12)) (member_of w.file (i / 12) (i % 12)) (sym e ∙ sorted w few);
  }

  pub value_assigned : b ≡ true → {row : ℕ} → row ≡ get_or d (227 + i / 12) 0 → {values : List ℕ} {v : Value}
      → AssignedValue text classes offsets lengths values (row + 5) (token + 1) v → FreshCell text classes offsets lengths values d i v
  unfolding fresh_value is_sort
  value_assigned e {row} r {values} {v} h = record {
    is = λ w few vs. go w few vs (member_of w.file (i / 12) (i % 12)) refl;
  }
    where
      go : (w : Bench text classes offsets lengths d) → Few w.file → ValuesOf values w.tokens → (o : Option Member)
          → member_of w.file (i / 12) (i % 12) ≡ o
          → v ≡ initial_value (get_elem? w.file.entities (i / 12)) (member_of w.file (i / 12) (i % 12))
      go w few vs none q = absurd (true≢false (sym e ∙ sorted w few ∙ ap (is_sort is_attribute) q))
      go w few vs (some x) q =
          let (y, s) = entity_told w.file (i / 12) (i % 12) q in
          let body = (entity_stands (w.directory.entity (i / 12) y s)).body in
          let (z, k, f) = an_initial (get_elem? w.file.entities (i / 12)) (member_of w.file (i / 12) (i % 12)) (sym e ∙ sorted w few) y s in
          let named = (member_told (t.is text classes offsets lengths w few) k).name in
          h.is w.tokens w.columns vs y (subst (λ (n : ℕ). BodyOf w.tokens (n + 5) y) (sym r) body)
          ∙ ap (λ n. assigned (look_up (λ a. a.name) n y.assignments)) named
          ∙ f

-- what a loop over assignments needs
pub ruleset assigning_turns = (assigning_begins, assigning_ends, assigning_here, assigning_on)

-- what a cell has at first
pub ruleset values_found = (value_none, value_assigned)
