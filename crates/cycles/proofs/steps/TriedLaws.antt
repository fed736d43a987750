-- The rules that are tried, by sets in memory: of the cells that a rule reads, and of the cells that moved.
use Prim.Native.Nat.{ℕ, ◌+◌, ◌*◌, ◌/◌, ◌%◌, ◌<◌}
use native.Mathlib.Omega.{arith}
use mathlib.Core.Path.{◌≡◌, refl, sym, ap, ap₂, ◌∙◌}
use mathlib.Core.Bool.{Bool, true, false, not, ◌&&◌, true≢false}
use mathlib.Core.List.{List}
use mathlib.Core.Option.{Option, none, some}
use mathlib.Core.Logic.{◌⊎◌, inl, inr}
use lib.Dec.{T, eqb→eq, ltb}
use lib.ListN.{length, get_or, get_elem?}
use lib.Ieee.Bits.{is_true}
use lib.Ieee.Fits.{and_l, and_r}
use borrow.Author.Tests.{ltb-true, ltb-false}
use Rattle.values.specs.definitions.Value.{differ}
use Rattle.text.specs.definitions.Syntax.{Rule, File}
use Rattle.text.proofs.laws.ListLaws.{none_some}
use Rattle.text.proofs.laws.SpotLaws.{stands_below}
use Rattle.checking.specs.definitions.Scope.{Variable, variables}
use Rattle.checking.specs.inner_contracts.Directory.{rule_row}
use Rattle.checking.specs.inner_contracts.RuleParts.{RuleWorld}
use Rattle.checking.specs.inner_contracts.CheckedBench.{CheckedBench}
use Rattle.checking.proofs.laws.WithinCounts.{WithinCounts}
use Rattle.cycles.specs.definitions.Store.{Store, read_cell}
use Rattle.cycles.specs.definitions.Spots.{Spot, spot_of, every, cells}
use Rattle.cycles.specs.definitions.ClosedSet.{Among, can_be}
use Rattle.cycles.specs.inner_contracts.Evaluation.{Stored}
use Rattle.cycles.specs.inner_contracts.AllRules.{RulesGiven, RulesTried}
use Rattle.cycles.proofs.laws.AmongLaws.{AllIn, one_passes_or_none, every_at, every_not, some_of}
use Rattle.cycles.proofs.laws.WalkLaws.{among_member}
use Rattle.cycles.proofs.laws.CellTokenLaws.{few_within}
use Rattle.cycles.proofs.laws.CellNumbers.{cell_entity, no_entity_no_cell, no_member_no_cell}
use Rattle.cycles.proofs.laws.SpotLaws.{Stands, spot_stands, cell_stands}
use Rattle.cycles.specs.definitions.Reads.{Mention, mentions, has_number, is_mentioned, reads_cell}
use Rattle.cycles.specs.definitions.Quiescence.{has_moved, is_quiescent}
use Rattle.cell_sets.specs.definitions.Sets.{has_bit, is_in}
use Rattle.cell_sets.specs.inner_contracts.Meeting.{row_has, Met}
use Rattle.cell_sets.specs.inner_contracts.Moving.{reading_at, moved_at, MovedSet}
use Rattle.cycles.proofs.laws.SilenceLaws.{stands_among}
use Rattle.cycles.proofs.steps.CandidateLaws.{few_variables}

-- ---- tests

fails : (b : Bool) → (T b → ⊥) → b ≡ false
fails true h = absurd (h tt)
fails false h = refl

excluded : (b : Bool) → T b → T (not b) → ⊥
excluded true h g = g
excluded false h g = elim h [ ]

-- ---- cells

-- a cell that is mentioned stands
mentioned_stands : (f : File) (vs : List Variable) (e m : ℕ) (x : Mention) → T (is_mentioned f vs e m x)
    → (p : Spot) × Stands f p × (p.entity ≡ e) × (p.member ≡ m)
unfolding is_mentioned
mentioned_stands f vs e m x h = go (spot_of f e x.member.bytes) refl
    (and_r (can_be f vs x.owner.bytes e) (has_number m (spot_of f e x.member.bytes)) h)
  where
    go : (o : Option Spot) → spot_of f e x.member.bytes ≡ o → T (has_number m o) → (p : Spot) × Stands f p × (p.entity ≡ e) × (p.member ≡ m)
    go none q t = absurd t
    go (some p) q t = let (i, s) = spot_stands f e x.member.bytes q in (p, s, i, eqb→eq p.member m t)

-- and so does one that is read
read_stands : (f : File) (r : Rule) (e m : ℕ) → T (reads_cell f r e m) → (p : Spot) × Stands f p × (p.entity ≡ e) × (p.member ≡ m)
unfolding reads_cell
read_stands f r e m h =
    let (x, a, t) = some_of (is_mentioned f (variables r) e m) (mentions r) h in
    mentioned_stands f (variables r) e m x t

module _ (f : File) (w : WithinCounts f) (p : Spot) (s : Stands f p) where
  pub stands_entity : p.entity < length f.entities
  stands_entity = go (ltb p.entity (length f.entities)) refl
    where
      go : (b : Bool) → ltb p.entity (length f.entities) ≡ b → p.entity < length f.entities
      go true q = ltb-true p.entity (length f.entities) q
      go false q = absurd (none_some (sym (no_entity_no_cell f p.entity p.member (ltb-false p.entity (length f.entities) q)) ∙ s))

  pub stands_member : p.member < 12
  stands_member = go (ltb p.member 12) refl
    where
      go : (b : Bool) → ltb p.member 12 ≡ b → p.member < 12
      go true q = ltb-true p.member 12 q
      go false q = absurd (none_some (sym (no_member_no_cell f p.entity p.member w (ltb-false p.member 12 q)) ∙ s))

-- ---- what moved, in memory

module _ (n : ℕ) {flags cells : List ℕ} {s : Store} (stored : Stored n flags cells s) where
  reading_is : (e m : ℕ) → e < n → m < 12 → reading_at 12 flags cells (e * 12 + m) ≡ read_cell s e m
  unfolding reading_at read_cell
  reading_is e m h k = rw (cell_entity e m k, stored.present e h, stored.cell e m h k)

-- ---- one rule

module _ (f : File) (w : WithinCounts f) (now previous : Store) {flags bytes previous_flags previous_bytes : List ℕ}
    (stored : Stored (length f.entities) flags bytes now) (stored_previous : Stored (length f.entities) previous_flags previous_bytes previous)
    {moved : List ℕ} (is_moved : MovedSet 12 (length f.entities * 12) flags bytes previous_flags previous_bytes moved)
    (r : Rule) (k rules : ℕ) (below : k < rules) {scopes : List ℕ}
    (reads : (e m : ℕ) → e < 32 → m < 12 → row_has scopes 256 48 k (e * 12 + m) ≡ reads_cell f r e m)
    {tried : ℕ} (met : Met scopes 256 48 rules moved tried) where
  moved_is : (e m : ℕ) → e < length f.entities → m < 12 → is_in moved (e * 12 + m) ≡ has_moved now previous e m
  unfolding moved_at has_moved
  moved_is e m h l =
      is_moved.is (e * 12 + m) (omega arith)
      ∙ ap₂ differ (reading_is (length f.entities) stored e m h l) (reading_is (length f.entities) stored_previous e m h l)

  -- is a cell read, and did it move?
  abbrev meets : ℕ → ℕ → Bool
  meets e m = reads_cell f r e m && has_moved now previous e m

  -- a cell that is read and moved has its bit in both sets
  met_tried : (p : Spot) → Stands f p → T (meets p.entity p.member) → has_bit tried k ≡ true
  met_tried p s t =
      let e = stands_entity f w p s in
      let m = stands_member f w p s in
      let few = w.entities in
      met.meets k below (p.entity * 12 + p.member) (omega arith)
      (reads p.entity p.member (omega arith) m ∙ is_true (reads_cell f r p.entity p.member) (and_l (reads_cell f r p.entity p.member) (has_moved now previous p.entity p.member) t))
      (moved_is p.entity p.member e m
      ∙ is_true (has_moved now previous p.entity p.member) (and_r (reads_cell f r p.entity p.member) (has_moved now previous p.entity p.member) t))

  -- a bit in both sets is that of a cell that is read and moved
  common_cell : (i : ℕ) → row_has scopes 256 48 k i ≡ true → is_in moved i ≡ true → (p : Spot) × Stands f p × T (meets p.entity p.member)
  common_cell i h g = go (ltb i (length f.entities * 12)) refl
    where
      z : i / 12 * 12 + i % 12 ≡ i
      z = omega arith

      inside : i < length f.entities * 12 → (p : Spot) × Stands f p × T (meets p.entity p.member)
      inside l =
          let few = w.entities in
          let e : i / 12 < length f.entities = omega arith in
          let a : reads_cell f r (i / 12) (i % 12) ≡ true =
          sym (reads (i / 12) (i % 12) (omega arith) (omega arith)) ∙ ap (row_has scopes 256 48 k) z ∙ h in
          let b : has_moved now previous (i / 12) (i % 12) ≡ true = sym (moved_is (i / 12) (i % 12) e (omega arith)) ∙ ap (is_in moved) z ∙ g in
          let (p, s, j, n) = read_stands f r (i / 12) (i % 12) (rw a tt) in
          (p, s, rw (j, n, a, b) tt)

      go : (b : Bool) → ltb i (length f.entities * 12) ≡ b → (p : Spot) × Stands f p × T (meets p.entity p.member)
      go true q = inside (ltb-true i (length f.entities * 12) q)
      go false q = absurd (true≢false (sym g ∙ is_moved.none i (ltb-false i (length f.entities * 12) q)))

  pub tried_is : has_bit tried k ≡ not (is_quiescent f now previous r)
  unfolding is_quiescent
  tried_is = go (one_passes_or_none (λ p. meets p.entity p.member) (cells f))
    where
      -- some cell meets, so not every one fails to
      one_fails : (p : Spot) → Among p (cells f) → T (meets p.entity p.member) → every (λ p. not (meets p.entity p.member)) (cells f) ≡ false
      one_fails p a t = fails (every (λ p. not (meets p.entity p.member)) (cells f))
          (λ q. excluded (meets p.entity p.member) t (every_at (λ p. not (meets p.entity p.member)) (cells f) q p a))

      by_bit : (b : Bool) → has_bit tried k ≡ b → AllIn (cells f) (λ p. meets p.entity p.member ≡ false) → b ≡ false
      by_bit true q h =
          let (i, l, a, c) = met.common k below q in
          let (p, s, t) = common_cell i a c in
          absurd (rw (h p (stands_among f p s)) at t)
      by_bit false q h = refl

      go : ((p : Spot) × Among p (cells f) × T (meets p.entity p.member)) ⊎ AllIn (cells f) (λ p. meets p.entity p.member ≡ false)
          → has_bit tried k ≡ not (every (λ p. not (meets p.entity p.member)) (cells f))
      go (inl (p, a, t)) = met_tried p (cell_stands f p (among_member a)) t ∙ sym (ap not (one_fails p a t))
      go (inr h) =
          by_bit (has_bit tried k) refl h
          ∙ sym (ap not (is_true (every (λ p. not (meets p.entity p.member)) (cells f))
          (every_not (λ p. meets p.entity p.member) (cells f) h)))

-- ---- all rules, in every world

abbrev rule_world : {text classes offsets lengths values d : List ℕ} (c : CheckedBench text classes offsets lengths values d) (k : ℕ) (r : Rule)
    → get_elem? c.bench.file.rules k ≡ some r → RuleWorld text classes offsets lengths d (get_or d (rule_row k) 0)
rule_world c k r h = record { bench = c.bench; few = c.few; rule = r; begins = c.bench.directory.rule k r h; high = 0 }

module _ {d scopes flags bytes previous_flags previous_bytes : List ℕ} where
  -- where no world is given, any set will do
  no_world : ((text classes offsets lengths values refs : List ℕ)
      → RulesGiven text classes offsets lengths values d refs scopes flags bytes previous_flags previous_bytes → ⊥)
      → {tried : ℕ} → RulesTried d scopes flags bytes previous_flags previous_bytes tried
  no_world none_given = record {
    is = λ text classes offsets lengths values refs g k r q. absurd (none_given text classes offsets lengths values refs g);
    none = λ text classes offsets lengths values refs g k q. absurd (none_given text classes offsets lengths values refs g);
  }

  -- no checked bench has so many rules,
  pub tried_few_rules : {n : ℕ} → n ≡ get_or d 2 0 → 64 < n → {tried : ℕ} → RulesTried d scopes flags bytes previous_flags previous_bytes tried
  tried_few_rules i h = no_world (λ text classes offsets lengths values refs g. omega (arith, g.checked.bench.directory.rules, g.checked.few_rules))

  -- nor so many entities,
  pub tried_few_entities : {n : ℕ} → n ≡ get_or d 1 0 → 32 < n → {tried : ℕ} → RulesTried d scopes flags bytes previous_flags previous_bytes tried
  tried_few_entities i h =
      no_world (λ text classes offsets lengths values refs g. omega (arith, g.checked.bench.directory.entities, g.checked.few.entities))

  -- and its sets have room
  pub tried_room : length scopes < 3328 → {tried : ℕ} → RulesTried d scopes flags bytes previous_flags previous_bytes tried
  tried_room h = no_world (λ text classes offsets lengths values refs g. omega (arith, g.reads_are.room))

  pub tried_by_sets : {n rules : ℕ} → rules ≡ get_or d 2 0 → n ≡ get_or d 1 0 → {moved : List ℕ}
      → MovedSet 12 (n * 12) flags bytes previous_flags previous_bytes moved → {tried : ℕ} → Met scopes 256 48 rules moved tried
      → RulesTried d scopes flags bytes previous_flags previous_bytes tried
  tried_by_sets {n} {rules} i j {moved} is_moved {tried} met = record {
    is = one;
    none = λ text classes offsets lengths values refs g k q.
        met.none k (omega (arith, g.checked.bench.directory.rules));
  }
    where
      one : (text classes offsets lengths values refs : List ℕ)
          (g : RulesGiven text classes offsets lengths values d refs scopes flags bytes previous_flags previous_bytes)
          (k : ℕ) (r : Rule) → get_elem? g.checked.bench.file.rules k ≡ some r
          → has_bit tried k ≡ not (is_quiescent g.checked.bench.file g.now g.previous r)
      one text classes offsets lengths values refs g k r q =
          let f = g.checked.bench.file in
          let e : n ≡ length f.entities = j ∙ g.checked.bench.directory.entities in
          let few : k < 64 = omega (arith, g.checked.few_rules, stands_below f.rules k q) in
          let below : k < get_or d 2 0 = omega (arith, g.checked.bench.directory.rules, stands_below f.rules k q) in
          tried_is f (few_within f g.checked.few) g.now g.previous g.now_stored g.previous_stored
          (rw e at is_moved) r k rules (omega arith)
          (λ e m h l. g.reads_are.is k below few (rule_world g.checked k r q) (few_variables text f g.checked.accepts k r q) e m h l) met

-- which rules are tried
pub ruleset tried_sets = (tried_few_rules, tried_few_entities, tried_room, tried_by_sets)
