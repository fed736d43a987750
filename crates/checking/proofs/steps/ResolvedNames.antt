-- The column of references: one scan fills each name's row by the last `when` before it, which is that of the name's rule.
use Prim.Native.Nat.{ℕ, ◌+◌, ◌≤◌, ◌<◌}
use native.Mathlib.Omega.{arith}
use mathlib.Core.Path.{◌≡◌, refl, sym, ap, ◌∙◌, subst}
use mathlib.Core.Bool.{Bool, true, false}
use mathlib.Core.List.{List}
use mathlib.Core.Option.{some}
use lib.Dec.{eqb}
use lib.ListN.{length, get_or, get_elem?, set, length-set}
use lib.Seq.{get_or-set_same, get_or-set_other}
use borrow.Author.Tests.{eq-eqb, eqb-true, eqb-false}
use Rattle.text.specs.definitions.Tokens.{Token, NAME, WHEN}
use Rattle.text.proofs.laws.LanguageLaws.{is}
use Rattle.text.proofs.laws.SpotLaws.{spots_none}
use Rattle.checking.specs.inner_contracts.ClassSearch.{FirstOf}
use Rattle.checking.specs.inner_contracts.RuleParts.{RuleWorld}
use Rattle.checking.specs.inner_contracts.Resolution.{Within, Owned, dotted, sourced, called, filtered, declared}
use Rattle.checking.specs.inner_contracts.Resolving.{RowResolved, NamesResolved}
use Rattle.checking.proofs.laws.RuleSpots.{rule_no_rules}

-- ---- the last `when`

pub record LastWhen (classes : List ℕ) (s i : ℕ) : Type 0 where
  pub before : s < i
  pub class : get_or classes s 0 ≡ WHEN
  pub none_between : (j : ℕ) → s < j → j < i → get_or classes j 0 ≡ WHEN → ⊥

last_earlier : {classes : List ℕ} {s i : ℕ} → (get_or classes i 0 ≡ WHEN → ⊥) → LastWhen classes s (i + 1) → LastWhen classes s i
last_earlier {classes} {s} {i} h w = record {
  before = let z : s ≡ i → ⊥ = λ e. h (ap (λ j. get_or classes j 0) (sym e) ∙ w.class) in omega (arith, w.before);
  class = w.class;
  none_between = λ j a b. w.none_between j a (omega arith);
}

module _ {text classes offsets lengths d : List ℕ} {start : ℕ} (c : RuleWorld text classes offsets lengths d start) where
  no_when : (k : ℕ) → start < k → k < start + 1 + c.begins.used → get_or classes k 0 ≡ WHEN → ⊥
  no_when k l h e =
      go (spots_none (rule_no_rules c.bench.tokens c.begins.token (start + 1) c.rule c.begins.used c.begins.reads) k (omega arith) h)
    where
      go : (t : Token) × (get_elem? c.bench.tokens k ≡ some t) × (is WHEN t.class ≡ false) → ⊥
      go (t, s, w) =
          let z : t.class ≡ WHEN = c.bench.columns.class k t s ∙ e in
          let y : true ≡ false = sym (eq-eqb t.class WHEN z) ∙ w in
          let x : ◌≡◌ {A = ℕ} 0 1 = cc in omega arith

  -- a rule's tokens have no other before them
  last_of_rule : (i : ℕ) → start < i → i < start + 1 + c.begins.used → LastWhen classes start i
  last_of_rule i l h = record {
    before = l;
    class = sym (c.bench.columns.class start c.begins.token c.begins.stands) ∙ c.begins.class;
    none_between = λ j a b. no_when j a (omega arith);
  }

-- ---- the scan

-- the rows of the names before token number i are filled, and `start` is the last `when` before it
pub record Naming (text classes offsets lengths d refs new : List ℕ) (start i : ℕ) : Type 0 where
  pub size : length new ≡ length refs
  pub last : (s : ℕ) → LastWhen classes s i → start ≡ s
  pub rows : (j : ℕ) → j < i → get_or classes j 0 ≡ NAME → (s : ℕ) → LastWhen classes s j
      → RowResolved text classes offsets lengths d s j (get_or new j 0)

member_within : {classes : List ℕ} {start used n m : ℕ} → Owned classes start used n m → Within classes start used m NAME
member_within (dotted x y z) = z
member_within (sourced x y z t) = y
member_within (called x y z t l f) = y
member_within (filtered x y z t) = t
member_within (declared x y z t u v) = v

module _ {text classes offsets lengths d refs : List ℕ} where
  -- no rule begins before the first `when`
  pub naming_first : {first : ℕ} → FirstOf classes WHEN 0 first → Naming text classes offsets lengths d refs refs 0 first
  naming_first f = record {
    size = refl;
    last = λ s w. absurd (f.before s w.before (omega arith) w.class);
    rows = λ j h k s w. absurd (f.before s (omega (arith, w.before)) (omega arith) w.class);
  }

  module _ {new : List ℕ} {start i : ℕ} (n : Naming text classes offsets lengths d refs new start i) where
    module _ {class : ℕ} (e : class ≡ get_or classes i 0) where
      before_rows : (class ≡ NAME → ⊥) → (j : ℕ) → j < i + 1 → get_or classes j 0 ≡ NAME → (s : ℕ) → LastWhen classes s j
          → RowResolved text classes offsets lengths d s j (get_or new j 0)
      before_rows o j h k = n.rows j (let z : j ≡ i → ⊥ = λ q. o (e ∙ ap (λ m. get_or classes m 0) (sym q) ∙ k) in omega arith) k

      pub naming_when : class ≡ WHEN → Naming text classes offsets lengths d refs new i (i + 1)
      naming_when h = record { size = n.size; last = here; rows = before_rows (λ z. omega arith) }
        where
          here : (s : ℕ) → LastWhen classes s (i + 1) → i ≡ s
          here s w = go (eqb i s) refl
            where
              go : (b : Bool) → eqb i s ≡ b → i ≡ s
              go true q = eqb-true i s q
              go false q = absurd (w.none_between i (omega (arith, eqb-false i s q, w.before)) (omega arith) (sym e ∙ h))

      module _ (o : class ≡ WHEN → ⊥) where
        same_last : (s : ℕ) → LastWhen classes s (i + 1) → start ≡ s
        same_last s w = n.last s (last_earlier (λ z. o (e ∙ z)) w)

        pub naming_other : (class ≡ NAME → ⊥) → Naming text classes offsets lengths d refs new start (i + 1)
        naming_other p = record { size = n.size; last = same_last; rows = before_rows p }

        pub naming_name : length classes ≤ length refs → i < length classes → {r : ℕ} → RowResolved text classes offsets lengths d start i r
            → Naming text classes offsets lengths d refs (set new i r) start (i + 1)
        naming_name l h {r} w = record { size = length-set new i r ∙ n.size; last = same_last; rows = rows_now }
          where
            rows_now : (j : ℕ) → j < i + 1 → get_or classes j 0 ≡ NAME → (s : ℕ) → LastWhen classes s j
                → RowResolved text classes offsets lengths d s j (get_or (set new i r) j 0)
            rows_now j a b s t = go (eqb j i) refl
              where
                go : (x : Bool) → eqb j i ≡ x → RowResolved text classes offsets lengths d s j (get_or (set new i r) j 0)
                go true q =
                    let k : j ≡ i = eqb-true j i q in
                    let inside : i < length new = omega (arith, n.size) in
                    let z : start ≡ s = n.last s (subst (LastWhen classes s) k t) in
                    rw (k, get_or-set_same new i r 0 inside, ← z) w
                go false q =
                    let k : j ≡ i → ⊥ = eqb-false j i q in
                    rw (get_or-set_other new i j r 0 k) (n.rows j (omega (arith, k)) b s t)

    pub naming_ends : length classes ≤ i → NamesResolved text classes offsets lengths d refs new
    naming_ends h = record {
      owner = λ start c j w l. (row start c j w).owner c l;
      member = λ start c k m o. (row start c m (member_within o)).member c k o;
      kept = n.size;
    }
      where
        row : (start : ℕ) (c : RuleWorld text classes offsets lengths d start) (j : ℕ) → Within classes start c.begins.used j NAME
            → RowResolved text classes offsets lengths d start j (get_or new j 0)
        row start c j w = n.rows j (omega (arith, w.inside)) w.class start (last_of_rule c j w.after w.before)
