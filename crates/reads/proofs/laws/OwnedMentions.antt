-- Each mention of a rule's condition is owned as the column of references says it: its member's name is the token after its mark.
use Prim.Native.Nat.{ℕ, suc, ◌+◌, ◌≤◌, ◌<◌}
use native.Mathlib.Omega.{arith}
use mathlib.Core.Path.{◌≡◌, refl, sym, ap, ◌∙◌, subst}
use mathlib.Core.Bool.{true}
use mathlib.Core.List.{List}
use mathlib.Core.Logic.{inl}
use lib.ListN.{get_or, get_elem?}
use Rattle.text.specs.definitions.Tokens.{Token, NAME, EVENT, ACTION, WHEN, WITH, DOT}
use Rattle.text.specs.definitions.Syntax.{Name}
use Rattle.text.specs.definitions.Grammar.{name_of}
use Rattle.text.proofs.laws.ListLaws.{some_injective}
use Rattle.text.proofs.laws.SpotLaws.{stands_below}
use Rattle.text.proofs.laws.DeclarationMarks.{ClassAt}
use Rattle.checking.specs.inner_contracts.Directory.{name_in, rule_row}
use Rattle.checking.specs.inner_contracts.Resolution.{Within, Owned, dotted, sourced, filtered, declared}
use Rattle.cycles.specs.definitions.Reads.{Mention}
use Rattle.reads.specs.inner_contracts.ReadSteps.{is_before_member, ReadWorld}
use Rattle.reads.proofs.laws.MentionMarks.{NameToken, MentionAt, dotted as dotted-at, sourced as sourced-at, filtered as filtered-at, declared as declared-at}

pub name_class : {ts : List Token} {i : ℕ} {n : Name} → NameToken ts i n → ClassAt ts i NAME
name_class n = record { token = n.token; stands = n.stands; class = n.class }

-- tokens of two classes are not the same token
pub apart : {ts : List Token} {i j a b : ℕ} → ClassAt ts i a → ClassAt ts j b → (a ≡ b → ⊥) → i ≡ j → ⊥
apart {ts} p q d e =
    let t : p.token ≡ q.token = some_injective (sym p.stands ∙ ap (get_elem? ts) e ∙ q.stands) in
    d (sym p.class ∙ ap (λ (t : Token). t.class) t ∙ q.class)

-- the token before a member's name, which ends no condition
pub record Marking (ts : List Token) (p : ℕ) : Type 0 where
  pub class : ℕ
  pub at : ClassAt ts p class
  pub before : is_before_member class ≡ true
  pub other : class ≡ ACTION → ⊥

pub marking : {ts : List Token} {p : ℕ} {x : Mention} → MentionAt ts p x → Marking ts p
unfolding is_before_member
marking (dotted-at n d m) = record { class = DOT; at = d; before = refl; other = λ e. omega arith }
marking (sourced-at s m f n) = record { class = EVENT; at = s; before = refl; other = λ e. omega arith }
marking (filtered-at f n w m) = record { class = WITH; at = w; before = refl; other = λ e. omega arith }
marking (declared-at f n c i w m) = record { class = WITH; at = w; before = refl; other = λ e. omega arith }

module _ {classes d refs scopes : List ℕ} {k : ℕ} (c : ReadWorld classes d refs scopes k) where
  abbrev start : ℕ
  start = get_or d (rule_row k) 0

  abbrev used : ℕ
  used = c.world.begins.used

  abbrev ts : List Token
  ts = c.world.bench.tokens

  -- the mention of token number p: its owner's token, and the names of both
  pub record Mentioned (p : ℕ) (x : Mention) : Type 0 where
    pub owner : ℕ
    pub named : Within classes start used owner NAME
    pub owned : Owned classes start used owner (p + 1)
    pub owner_is : name_in c.text c.offsets c.lengths owner ≡ x.owner.bytes
    pub member_is : name_in c.text c.offsets c.lengths (p + 1) ≡ x.member.bytes

  name_is : {i : ℕ} (j : ℕ) {n : Name} → j ≡ i → NameToken ts i n → name_in c.text c.offsets c.lengths j ≡ n.bytes
  unfolding name_of
  name_is {i} j e t =
      ap (name_in c.text c.offsets c.lengths) e ∙ sym (c.world.bench.columns.bytes i t.token t.stands) ∙ ap (λ (n : Name). n.bytes) t.is

  owned_at : {n i : ℕ} (j : ℕ) → i ≡ j → Owned classes start used n i → Owned classes start used n j
  owned_at {n} j e o = subst (λ (i : ℕ). Owned classes start used n i) e o

  module _ {end : ℕ} (ends : ClassAt ts end ACTION) (inside : end < start + 1 + used) where
    up : {i a : ℕ} → ClassAt ts i a → (a ≡ ACTION → ⊥) → i ≤ end → i < end
    up p n l = let d = apart p ends n in omega (arith, d)

    down : {i a : ℕ} → ClassAt ts i a → (a ≡ WHEN → ⊥) → start ≤ i → start < i
    down p n l =
        let w : ClassAt ts start WHEN = record { token = c.world.begins.token; stands = c.world.begins.stands; class = c.world.begins.class } in
        let d = apart p w n in omega (arith, d)

    within : {i a : ℕ} (j : ℕ) → j ≡ i → ClassAt ts i a → start < i → i < end → Within classes start used j a
    within {i} {a} j e p l h =
        let b = stands_below ts i p.stands in
        record {
          after = omega arith;
          before = omega arith;
          inside = omega (arith, c.world.bench.columns.count);
          class = ap (λ (n : ℕ). get_or classes n 0) e ∙ sym (c.world.bench.columns.class i p.token p.stands) ∙ p.class;
        }

    pub mentioned : {p : ℕ} {x : Mention} → MentionAt ts p x → start < p → p < end → Mentioned p x
    mentioned (dotted-at {i = i} n t m) l h =
        let low = down (name_class n) (λ e. omega arith) (omega arith) in
        let high = up (name_class m) (λ e. omega arith) (omega arith) in
        record {
          owner = i;
          named = within i refl (name_class n) low (omega arith);
          owned = owned_at (suc i + 1) (omega arith)
              (dotted (within i refl (name_class n) low (omega arith)) (within (i + 1) (omega arith) t l h)
              (within (i + 1 + 1) (omega arith) (name_class m) (omega arith) high));
          owner_is = name_is i refl n;
          member_is = name_is (suc i + 1) (omega arith) m;
        }
    mentioned (sourced-at {i = i} s m f n) l h =
        let one = up (name_class m) (λ e. omega arith) (omega arith) in
        let two = up f (λ e. omega arith) (omega arith) in
        let three = up (name_class n) (λ e. omega arith) (omega arith) in
        let name = within (i + 1 + 1 + 1) (omega arith) (name_class n) (omega arith) three in
        record {
          owner = i + 1 + 1 + 1;
          named = name;
          owned = sourced (within i refl s l h) (within (i + 1) (omega arith) (name_class m) (omega arith) one)
              (within (i + 1 + 1) (omega arith) f (omega arith) two) name;
          owner_is = name_is (i + 1 + 1 + 1) (omega arith) n;
          member_is = name_is (i + 1) (omega arith) m;
        }
    mentioned (filtered-at {i = i} f n w m) l h =
        let one = down (name_class n) (λ e. omega arith) (omega arith) in
        let two = down f (λ e. omega arith) (omega arith) in
        let high = up (name_class m) (λ e. omega arith) (omega arith) in
        let name = within (i + 1) (omega arith) (name_class n) one (omega arith) in
        record {
          owner = i + 1;
          named = name;
          owned = owned_at (suc (suc i) + 1) (omega arith)
              (filtered (inl (within i refl f two (omega arith))) name (within (i + 1 + 1) (omega arith) w l h)
              (within (i + 1 + 1 + 1) (omega arith) (name_class m) (omega arith) high));
          owner_is = name_is (i + 1) (omega arith) n;
          member_is = name_is (suc (suc i) + 1) (omega arith) m;
        }
    mentioned (declared-at {i = i} f n t j w m) l h =
        let one = down (name_class j) (λ e. omega arith) (omega arith) in
        let two = down t (λ e. omega arith) (omega arith) in
        let three = down (name_class n) (λ e. omega arith) (omega arith) in
        let four = down f (λ e. omega arith) (omega arith) in
        let high = up (name_class m) (λ e. omega arith) (omega arith) in
        let name = within (i + 1) (omega arith) (name_class n) three (omega arith) in
        record {
          owner = i + 1;
          named = name;
          owned = owned_at (suc (suc (suc (suc i))) + 1) (omega arith)
              (declared (inl (within i refl f four (omega arith))) name (within (i + 1 + 1) (omega arith) t two (omega arith))
              (within (i + 1 + 1 + 1) (omega arith) (name_class j) one (omega arith)) (within (i + 1 + 1 + 1 + 1) (omega arith) w l h)
              (within (i + 1 + 1 + 1 + 1 + 1) (omega arith) (name_class m) (omega arith) high));
          owner_is = name_is (i + 1) (omega arith) n;
          member_is = name_is (suc (suc (suc (suc i))) + 1) (omega arith) m;
        }
