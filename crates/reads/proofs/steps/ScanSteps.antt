-- The scan of a rule's condition along the marks of its mentions.
use Prim.Native.Nat.{ℕ, suc, ◌+◌, ◌*◌, ◌/◌, ◌%◌, ◌≤◌, ◌<◌}
use native.Mathlib.Numerals.{add-one}
use native.Mathlib.Omega.{arith}
use mathlib.Core.Path.{◌≡◌, refl, sym, ap, ◌∙◌}
use mathlib.Core.Bool.{Bool, true, false, ◌&&◌, ◌||◌, or-false, or_assoc}
use mathlib.Core.List.{List, []}
use mathlib.Core.Option.{some}
use lib.Dec.{eqb}
use lib.ListN.{length, get_or, get_elem?}
use Rattle.text.specs.definitions.Tokens.{Token, EVENT, ACTION, WITH, DOT}
use Rattle.text.specs.definitions.Syntax.{File}
use Rattle.text.proofs.laws.SpotLaws.{Spots, over, skip, spot, spots_le, stands_below}
use Rattle.text.proofs.laws.DeclarationMarks.{ClassAt}
use Rattle.checking.specs.definitions.Scope.{Variable, variables}
use Rattle.checking.specs.inner_contracts.Directory.{rule_row}
use Rattle.checking.specs.inner_contracts.Resolution.{Scopes}
use Rattle.checking.proofs.laws.DirectoryLaws.{number_below}
use Rattle.cycles.specs.definitions.Reads.{Mention, is_mentioned, mentions, one_passes, reads_cell}
use Rattle.reads.specs.inner_contracts.ReadSteps.{set_start, set_has, is_before_member, can_refer, MentionAdded, ReadWorld, world_reads, RuleRead}
use Rattle.reads.proofs.laws.MentionMarks.{MentionAt, is_reading, rule_condition_marks}
use Rattle.reads.proofs.laws.MentionCells.{mention_cells}
use Rattle.reads.proofs.laws.OwnedMentions.{apart, marking, mentioned}

-- ---- the rows of scopes stay

pub scopes_stay : {text classes offsets lengths d scopes new : List ℕ} → Scopes text classes offsets lengths d scopes
    → ((p : ℕ) → p < 256 → get_or new p 0 ≡ get_or scopes p 0) → Scopes text classes offsets lengths d new
scopes_stay s b = record {
  count = λ k h l c few. b (4 * k) (omega arith) ∙ s.count k h l c few;
  interface = λ k h l c few v x g.
      let below = number_below (variables c.rule) v g in
      b (4 * k + 1 + v) (omega arith) ∙ s.interface k h l c few v x g;
}

abbrev pub world_in : {classes d refs scopes : List ℕ} {k : ℕ} (new : List ℕ) → ReadWorld classes d refs scopes k
    → ((p : ℕ) → p < 256 → get_or new p 0 ≡ get_or scopes p 0) → ReadWorld classes d refs new k
world_in new c b = record {
  text = c.text;
  offsets = c.offsets;
  lengths = c.lengths;
  references = c.references;
  scopes_are = scopes_stay c.scopes_are b;
  inside = c.inside;
  below = c.below;
  world = c.world;
  few = c.few;
}

-- ---- classes

before_reading : (c : ℕ) → is_before_member c ≡ true → is_reading c ≡ true
unfolding is_before_member
before_reading c h = go (eqb c DOT) (eqb c EVENT) (eqb c WITH) (eqb c ACTION) h
  where
    go : (x y z w : Bool) → (x || (y || z)) ≡ true → (x || (y || (z || w))) ≡ true
    go true y z w h = refl
    go false true z w h = refl
    go false false true w h = refl
    go false false false w h = let n : ◌≡◌ {A = ℕ} 0 1 = cc in absurd (omega arith)

-- ---- where the scan is

module _ {classes d refs scopes : List ℕ} {k : ℕ} (c : ReadWorld classes d refs scopes k) where
  abbrev file : File
  file = c.world.bench.file

  abbrev vs : List Variable
  vs = variables c.world.rule

  abbrev ts : List Token
  ts = c.world.bench.tokens

  -- before token number i; the mentions that are left with what is in the set are what is read with what was in it
  pub record Reading (i : ℕ) (new : List ℕ) : Type 0 where
    pub end : ℕ
    pub left : List Mention
    pub marks : Spots ts is_reading (MentionAt ts) i end left
    pub action : ClassAt ts end ACTION
    pub within : end < get_or d (rule_row k) 0 + 1 + c.world.begins.used
    pub onward : get_or d (rule_row k) 0 < i
    pub is : (e m : ℕ) → e < 32 → m < 12
        → (set_has new k e m || one_passes (is_mentioned file vs e m) left) ≡ (set_has scopes k e m || world_reads c e m)

  pub reading_starts : Reading (get_or d (rule_row k) 0 + 1) scopes
  unfolding reads_cell
  reading_starts =
      let b = c.world.begins in
      let m = rule_condition_marks ts b.token (get_or d (rule_row k) 0 + 1) c.world.rule b.used b.reads in
      record {
        end = m.end;
        left = mentions c.world.rule;
        marks = m.marks;
        action = m.action;
        within = m.within;
        onward = omega arith;
        is = λ e m h l. refl;
      }

  module _ {i : ℕ} {new : List ℕ} (h : Reading i new) where
    class_of : (t : Token) → get_elem? ts i ≡ some t → t.class ≡ get_or classes i 0
    class_of t s = c.world.bench.columns.class i t s

    -- at `action` the condition is over
    pub action_ends : get_or classes i 0 ≡ ACTION → h.left ≡ []
    action_ends q = go h.marks
      where
        go : {end : ℕ} {xs : List Mention} → Spots ts is_reading (MentionAt ts) i end xs → xs ≡ []
        go over = refl
        go (skip t s w r) =
            let z : true ≡ false = ap is_reading (sym (class_of t s ∙ q)) ∙ w in
            let y : ◌≡◌ {A = ℕ} 0 1 = cc in absurd (omega arith)
        go (spot t s w a r) =
            let b = marking a in
            absurd (apart (record { token = t; stands = s; class = class_of t s ∙ q }) b.at (λ e. b.other (sym e)) refl)

    -- behind the last token there is none left
    pub never_behind : length classes ≤ i → ⊥
    never_behind l = go h.marks h.action
      where
        go : {end : ℕ} {xs : List Mention} → Spots ts is_reading (MentionAt ts) i end xs → ClassAt ts end ACTION → ⊥
        go over a = omega (arith, stands_below ts i a.stands, c.world.bench.columns.count)
        go (skip t s w r) a = omega (arith, stands_below ts i s, c.world.bench.columns.count)
        go (spot t s w x r) a = omega (arith, stands_below ts i s, c.world.bench.columns.count)

    -- a token before no member's name
    pub other_next : (get_or classes i 0 ≡ ACTION → ⊥) → is_before_member (get_or classes i 0) ≡ false → Reading (i + 1) new
    other_next n b = go h.marks h.action h.within h.is
      where
        go : {end : ℕ} {xs : List Mention} → Spots ts is_reading (MentionAt ts) i end xs → ClassAt ts end ACTION
            → end < get_or d (rule_row k) 0 + 1 + c.world.begins.used
            → ((e m : ℕ) → e < 32 → m < 12 → (set_has new k e m || one_passes (is_mentioned file vs e m) xs) ≡ (set_has scopes k e m || world_reads c e m))
            → Reading (i + 1) new
        go over a l f = absurd (n (sym (class_of a.token a.stands) ∙ a.class))
        go {end} {xs} (skip t s w r) a l f = record {
          end = end;
          left = xs;
          marks = rw (add-one i) r;
          action = a;
          within = l;
          onward = omega (arith, h.onward);
          is = f;
        }
        go (spot t s w x r) a l f =
            let g = marking x in
            let q : g.class ≡ get_or classes i 0 = sym g.at.class ∙ class_of g.at.token g.at.stands in
            let z : true ≡ false = sym g.before ∙ ap is_before_member q ∙ b in
            let y : ◌≡◌ {A = ℕ} 0 1 = cc in absurd (omega arith)

    -- a token before a member's name, whose cells are added
    pub mention_next : {newer : List ℕ} → ((p : ℕ) → p < 256 → get_or new p 0 ≡ get_or scopes p 0) → is_before_member (get_or classes i 0) ≡ true
        → MentionAdded classes d refs k (i + 1) new newer → Reading (i + 1) newer
    unfolding is_before_member one_passes
    mention_next {newer} stay b g = go h.marks h.action h.within h.is
      where
        here : (x : Mention) {end : ℕ} → MentionAt ts i x → ClassAt ts end ACTION → end < get_or d (rule_row k) 0 + 1 + c.world.begins.used → i < end
            → (e m : ℕ) → e < 32 → m < 12 → set_has newer k e m ≡ (set_has new k e m || is_mentioned file vs e m x)
        here x a b l j e m p q =
            let o = mentioned c b l a h.onward j in
            let cells = mention_cells (world_in new c stay) x o.owner (i + 1) o.named o.owned o.owner_is o.member_is e m q in
            let r : g.owner ≡ o.owner = g.owns.is _ _ _ o.owned in
            g.added.is e m p q
            ∙ ap (λ (n : ℕ). set_has new k e m || (can_refer d new k (get_or refs n 0 % 256) e && eqb (get_or refs (i + 1) 0 / 256) m)) r
            ∙ ap (λ (t : Bool). set_has new k e m || t) cells

        go : {end : ℕ} {xs : List Mention} → Spots ts is_reading (MentionAt ts) i end xs → ClassAt ts end ACTION
            → end < get_or d (rule_row k) 0 + 1 + c.world.begins.used
            → ((e m : ℕ) → e < 32 → m < 12 → (set_has new k e m || one_passes (is_mentioned file vs e m) xs) ≡ (set_has scopes k e m || world_reads c e m))
            → Reading (i + 1) newer
        go over a l f =
            let z : is_before_member ACTION ≡ true = ap is_before_member (sym a.class ∙ class_of a.token a.stands) ∙ b in
            let t : false ≡ true = z in
            let y : ◌≡◌ {A = ℕ} 0 1 = cc in absurd (omega arith)
        go (skip t s w r) a l f =
            let z : true ≡ false = sym (before_reading t.class (ap is_before_member (class_of t s) ∙ b)) ∙ w in
            let y : ◌≡◌ {A = ℕ} 0 1 = cc in absurd (omega arith)
        go {end} (spot {x = x} {xs = xs} t s w y r) a l f = record {
          end = end;
          left = xs;
          marks = rw (add-one i) r;
          action = a;
          within = l;
          onward = omega (arith, h.onward);
          is = λ e m p q.
              ap (λ (t : Bool). t || one_passes (is_mentioned file vs e m) xs) (here x y a l (spots_le r) e m p q)
              ∙ or_assoc (set_has new k e m) (is_mentioned file vs e m x) (one_passes (is_mentioned file vs e m) xs) ∙ f e m p q;
        }

-- ---- the loop

-- the scan of rule number k is before token number i
pub record Scanning (classes d refs : List ℕ) (k : ℕ) (scopes : List ℕ) (i : ℕ) (new : List ℕ) : Type 0 where
  pub kept : length new ≡ length scopes
  pub before : (p : ℕ) → p < set_start k → get_or new p 0 ≡ get_or scopes p 0
  pub after : (p : ℕ) → set_start (suc k) ≤ p → get_or new p 0 ≡ get_or scopes p 0
  pub reading : (c : ReadWorld classes d refs scopes k) → Reading c i new

module _ {classes d refs : List ℕ} {k : ℕ} {scopes : List ℕ} where
  pub scanning_starts : {start : ℕ} → start ≡ get_or d (rule_row k) 0 → Scanning classes d refs k scopes (start + 1) scopes
  scanning_starts e =
      record { kept = refl; before = λ p h. refl; after = λ p h. refl; reading = λ c. rw e (reading_starts c) }

  module _ {i : ℕ} {new : List ℕ} (h : Scanning classes d refs k scopes i new) where
    module _ {class : ℕ} (q : class ≡ get_or classes i 0) where
      pub scanning_passes : (class ≡ ACTION → ⊥) → is_before_member class ≡ false → Scanning classes d refs k scopes (i + 1) new
      scanning_passes n b = record {
        kept = h.kept;
        before = h.before;
        after = h.after;
        reading = λ c. other_next c (h.reading c) (λ e. n (q ∙ e)) (ap is_before_member (sym q) ∙ b);
      }

      pub scanning_adds : {newer : List ℕ} → is_before_member class ≡ true → MentionAdded classes d refs k (i + 1) new newer
          → Scanning classes d refs k scopes (i + 1) newer
      scanning_adds b g = record {
        kept = g.added.kept ∙ h.kept;
        before = λ p l. g.added.before p l ∙ h.before p l;
        after = λ p l. g.added.after p l ∙ h.after p l;
        reading = λ c. mention_next c (h.reading c) (λ p l. h.before p (omega arith)) (ap is_before_member (sym q) ∙ b) g;
      }

    rule_read : ((c : ReadWorld classes d refs scopes k) → (h.reading c).left ≡ []) → RuleRead classes d refs k scopes new
    unfolding one_passes
    rule_read f = record {
      kept = h.kept;
      before = h.before;
      after = h.after;
      is = λ c e m p q.
          sym (or-false (set_has new k e m))
          ∙ ap (λ (xs : List Mention). set_has new k e m || one_passes (is_mentioned (file c) (vs c) e m) xs) (sym (f c)) ∙ (h.reading c).is e m p q;
    }

    pub scanning_ends : {class : ℕ} → class ≡ get_or classes i 0 → class ≡ ACTION → RuleRead classes d refs k scopes new
    scanning_ends q e = rule_read (λ c. action_ends c (h.reading c) (sym q ∙ e))

    pub scanning_over : length classes ≤ i → RuleRead classes d refs k scopes new
    scanning_over l = rule_read (λ c. absurd (never_behind c (h.reading c) l))
