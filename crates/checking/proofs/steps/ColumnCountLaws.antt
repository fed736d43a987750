-- What the scans of a grammatical file's columns find are the faults of its counts.
use Prim.Native.Nat.{ℕ, zero, suc, ◌+◌, ◌-◌, ◌<◌}
use native.Mathlib.Omega.{arith}
use mathlib.Core.Path.{◌≡◌, refl, sym, ap, ◌∙◌, subst}
use mathlib.Core.Bool.{Bool, true, false}
use mathlib.Core.List.{List, [], ◌∷◌, ◌++◌, map, append-nil, map-append}
use mathlib.Core.Option.{some}
use lib.Dec.{ltb}
use lib.ListN.{length, get_or, get_elem?, drop}
use borrow.Author.Tests.{ltb-true, ltb-false}
use Rattle.text.specs.definitions.Tokens.{Token, INTERFACE, EVENT, ACTION, ENTITY, RULES, WHEN, COLON}
use Rattle.text.specs.definitions.Syntax.{Sort, attribute, event, action, File}
use Rattle.text.specs.definitions.Grammar.{name_of}
use Rattle.text.proofs.laws.LanguageLaws.{is}
use Rattle.text.proofs.laws.ListLaws.{flatMap_none}
use Rattle.text.proofs.laws.SpotLaws.{Spots, over, skip, spot, spots_append, spots_le, spots_none, spots_select, stands_below}
use Rattle.text.proofs.laws.DeclarationMarks.{ClassAt, sort_token, Declared, interface_mark, member_mark, entity_mark, close_mark, DeclaredAt, is_leading}
use Rattle.text.proofs.laws.RuleMarks.{Ruled, rule_mark, priority_mark, variable_mark, clause_mark, call_mark, RuledAt, is_ruling}
use Rattle.text.proofs.laws.FlatLaws.{
  declarations,
  rulings,
  FileMarks,
  file_marks,
  declared_class,
  ruled_class,
  declared_class_at,
  ruled_class_at,
  declared_other,
  sort_other,
  unchosen,
  not_wanted,
  not_member,
}
use Rattle.checking.specs.definitions.Faults.{Fault, fault, earliest}
use Rattle.checking.specs.definitions.CountFaults.{count_faults}
use Rattle.checking.specs.inner_contracts.CountScan.{
  a_member,
  none_declared,
  declared_count,
  declared_step,
  declared_scan,
  none_ruled,
  ruled_count,
  ruled_step,
  ruled_scan,
  past,
}
use Rattle.checking.specs.inner_contracts.CountChecked.{ClassesOf, OffsetsOf, CountChecked}
use Rattle.checking.specs.inner_contracts.ClassSearch.{FirstOf}
use Rattle.checking.specs.inner_contracts.FoundFaults.{Found, found_as, merged}
use Rattle.checking.proofs.steps.CountLaws.{declared_late, ruled_late, late_earliest}

-- ---- the columns at a token

sort_count : (s : Sort) → declared_count (sort_token s) ≡ a_member
unfolding declared_count sort_token
sort_count attribute = refl
sort_count event = refl
sort_count action = refl

-- a token that begins nothing counts for nothing
declared_nothing : (c : ℕ) → is_leading c ≡ false → declared_count c ≡ none_declared
unfolding declared_count
declared_nothing c h =
    rw (not_wanted is_leading INTERFACE refl c h, not_member c h, not_wanted is_leading ENTITY refl c h, declared_count)

ruled_nothing : (c : ℕ) → is_ruling c ≡ false → ruled_count c ≡ none_ruled
unfolding ruled_count
ruled_nothing c h =
    rw (
      not_wanted is_ruling WHEN refl c h,
      not_wanted is_ruling COLON refl c h,
      not_wanted is_ruling EVENT refl c h,
      not_wanted is_ruling ACTION refl c h,
      ruled_count,
    )

module _ {classes offsets : List ℕ} {ts : List Token} (w : ClassesOf classes ts) (o : OffsetsOf offsets ts) where
  class_in : {p c : ℕ} → ClassAt ts p c → get_or classes p 0 ≡ c
  class_in {p} a = sym (w.class p a.token a.stands) ∙ a.class

  offset_in : (p : ℕ) {n : ℕ} {t : Token} → get_elem? ts p ≡ some t → t.at ≡ n → get_or offsets p 0 ≡ n
  offset_in p {t = t} s e = sym (o.offset p t s) ∙ e

  -- one item more
  one_late : (left p x : ℕ) (rest : List Fault) (late : List ℕ) → get_or offsets p 0 ≡ x → rest ≡ map (fault 14) late
      → past offsets left p ++ rest ≡ map (fault 14) (drop left (x ∷ []) ++ late)
  unfolding past
  one_late left p x rest late e h = rw (e, h) (sym (map-append (fault 14) (drop left (x ∷ [])) late))

  module _ (rest : ℕ → ℕ → ℕ → List Fault) (xs : List Declared) (h : (a b c : ℕ) → rest a b c ≡ map (fault 14) (declared_late a b c xs)) where
    declared_one : (p : ℕ) (x : Declared) → DeclaredAt ts p x → (a b c : ℕ)
        → declared_step offsets (declared_count (get_or classes p 0)) p a b c rest ≡ map (fault 14) (declared_late a b c (x ∷ xs))
    unfolding declared_step declared_late declared_count declared_class
    declared_one p (interface_mark i) y a b c =
        rw (class_in (declared_class_at (interface_mark i) y)) (one_late a p i.at _ _ (offset_in p y.starts.stands y.offset) (h (a - 1) 12 c))
    declared_one p (member_mark m) y a b c =
        rw (class_in (declared_class_at (member_mark m) y), sort_count m.sort)
        (one_late b p m.at _ _ (offset_in p y.first.stands y.first.offset) (h a (b - 1) c))
    declared_one p (entity_mark e) y a b c =
        rw (class_in (declared_class_at (entity_mark e) y)) (one_late c p e.at _ _ (offset_in p y.starts.stands y.offset) (h a b (c - 1)))
    declared_one p close_mark y a b c = rw (class_in y) (h a b c)

  module _ (rest : ℕ → ℕ → ℕ → ℕ → List Fault) (xs : List Ruled) (h : (a b c d : ℕ) → rest a b c d ≡ map (fault 14) (ruled_late a b c d xs)) where
    ruled_one : (p : ℕ) (x : Ruled) → RuledAt ts p x → (a b c d : ℕ)
        → ruled_step offsets (ruled_count (get_or classes p 0)) p a b c d rest ≡ map (fault 14) (ruled_late a b c d (x ∷ xs))
    unfolding ruled_step ruled_late ruled_count ruled_class name_of
    ruled_one p (rule_mark r) y a b c d =
        rw (class_in (ruled_class_at (rule_mark r) y)) (one_late a p r.at _ _ (offset_in p y.starts.stands y.offset) (h (a - 1) 3 8 8))
    ruled_one p (priority_mark k) y a b c d = rw (class_in y.word) (h a b c d)
    ruled_one p (variable_mark n i) y a b c d =
        let e : p - 1 ≡ y.before = omega arith in
        rw (class_in (ruled_class_at (variable_mark n i) y))
        (one_late b (p - 1) n.at _ _
        (ap (λ k. get_or offsets k 0) e ∙ offset_in y.before y.name.stands (ap (λ m. m.at) y.name.is)) (h a (b - 1) c d))
    ruled_one p (clause_mark k) y a b c d =
        rw (class_in (ruled_class_at (clause_mark k) y)) (one_late c p k.at _ _ (offset_in p y.stands y.offset) (h a b (c - 1) d))
    ruled_one p (call_mark k) y a b c d =
        rw (class_in (ruled_class_at (call_mark k) y)) (one_late d p k.at _ _ (offset_in p y.stands y.offset) (h a b c (d - 1)))

  -- ---- a part of the columns

  declared_scanned : {p q : ℕ} {xs : List Declared} → Spots ts is_leading (DeclaredAt ts) p q xs → (k : ℕ) → p + k ≡ q → (a b c : ℕ)
      → declared_scan classes offsets k p a b c ≡ map (fault 14) (declared_late a b c xs)
  unfolding declared_scan declared_late
  declared_scanned (over {p = p}) k e a b c = let z : k ≡ 0 = omega arith in rw z
  declared_scanned (skip t s w h) zero e a b c = absurd (omega (arith, spots_le h))
  declared_scanned (skip {p = p} t s v h) (suc k) e a b c =
      rw (← w.class p t s, declared_nothing t.class v) (declared_scanned h k (omega arith) a b c)
  declared_scanned (spot t s w x h) zero e a b c = absurd (omega (arith, spots_le h))
  declared_scanned (spot {p = p} {x = x} {xs = xs} t s v y h) (suc k) e a b c =
      declared_one (declared_scan classes offsets k (suc p)) xs (declared_scanned h k (omega arith)) p x y a b c

  ruled_scanned : {p q : ℕ} {xs : List Ruled} → Spots ts is_ruling (RuledAt ts) p q xs → (k : ℕ) → p + k ≡ q → (a b c d : ℕ)
      → ruled_scan classes offsets k p a b c d ≡ map (fault 14) (ruled_late a b c d xs)
  unfolding ruled_scan ruled_late
  ruled_scanned (over {p = p}) k e a b c d = let z : k ≡ 0 = omega arith in rw z
  ruled_scanned (skip t s w h) zero e a b c d = absurd (omega (arith, spots_le h))
  ruled_scanned (skip {p = p} t s v h) (suc k) e a b c d =
      rw (← w.class p t s, ruled_nothing t.class v) (ruled_scanned h k (omega arith) a b c d)
  ruled_scanned (spot t s w x h) zero e a b c d = absurd (omega (arith, spots_le h))
  ruled_scanned (spot {p = p} {x = x} {xs = xs} t s v y h) (suc k) e a b c d =
      ruled_one (ruled_scan classes offsets k (suc p)) xs (ruled_scanned h k (omega arith)) p x y a b c d

  -- ---- the whole columns

  module _ {f : File} (m : FileMarks ts f (length ts)) where
    -- the first `rules` is the file's
    rules_found : (r : ℕ) → FirstOf classes RULES 0 r → r ≡ m.rules_at
    rules_found r h = go (ltb r q) refl (ltb q r) refl
      where
        q : ℕ
        q = m.rules_at

        none_there : Spots ts (is RULES) (λ p (u : Unit {0}). Unit {0}) 0 q []
        none_there = subst (λ l. Spots ts (is RULES) (λ p (u : Unit {0}). Unit {0}) 0 q l) (flatMap_none (declarations f))
            (spots_select (λ x. []) (not_wanted is_leading RULES refl)
            (λ p x a. unchosen (declared_class_at x a) (declared_other RULES refl refl refl (sort_other RULES refl refl refl) x)) m.declared)

        inside : q < length classes
        inside = omega (arith, stands_below ts q m.rules.stands, w.count)

        early : r < q → ⊥
        early l =
            let (t, s, n) = spots_none none_there r (omega arith) l in
            let c : t.class ≡ RULES = w.class r t s ∙ h.here (omega (arith, inside)) in
            let e : true ≡ false = sym (ap (is RULES) c) ∙ n in
            let z : ◌≡◌ {A = ℕ} 0 1 = cc in omega arith

        go : (a : Bool) → ltb r q ≡ a → (b : Bool) → ltb q r ≡ b → r ≡ q
        go true x b y = absurd (early (ltb-true r q x))
        go false x true y = absurd (h.before q (ltb-true q r y) (omega arith) (class_in m.rules))
        go false x false y = omega (arith, ltb-false r q x, ltb-false q r y)

    -- what the two scans find together
    found_there : (r : ℕ) → FirstOf classes RULES 0 r
        → merged (earliest (declared_scan classes offsets r 0 16 12 32)) (earliest (ruled_scan classes offsets (length classes - r) r 64 3 8 8))
        ≡ earliest (count_faults f)
    unfolding ruled_scan ruled_step ruled_count
    found_there r h = rw (rules_found r h, left, class_in m.rules, declared_scanned m.declared q (omega arith) 16 12 32) (rw ruled (late_earliest f))
      where
        q : ℕ
        q = m.rules_at

        left : length classes - q ≡ suc (m.end_at - q)
        left = omega (arith, w.count, m.all, spots_le m.ruled)

        rest : Spots ts is_ruling (RuledAt ts) (suc q) (suc m.end_at) (rulings f)
        rest = subst (λ l. Spots ts is_ruling (RuledAt ts) (suc q) (suc m.end_at) l) (append-nil (rulings f))
            (spots_append m.ruled (unchosen m.end refl))

        ruled : ruled_scan classes offsets (m.end_at - q) (suc q) 64 3 8 8 ≡ map (fault 14) (ruled_late 64 3 8 8 (rulings f))
        ruled = ruled_scanned rest (m.end_at - q) (omega (arith, spots_le m.ruled)) 64 3 8 8

pub count_checked : (classes offsets : List ℕ) (d r both : Found) (q : ℕ) → FirstOf classes RULES 0 q
    → found_as d ≡ earliest (declared_scan classes offsets q 0 16 12 32) → found_as r ≡ earliest (ruled_scan classes offsets (length classes - q) q 64 3 8 8)
    → found_as both ≡ merged (found_as d) (found_as r) → CountChecked classes offsets both
count_checked classes offsets d r both q h e g k = record {
  found = λ ts f w o reads. k ∙ rw (e, g) (found_there w o (file_marks ts f (length ts) reads) q h);
}
