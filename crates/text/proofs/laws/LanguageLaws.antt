-- Laws of languages: inclusions, how a word of tokens is taken apart, and the classes that its first token may have.
use Prim.Native.Nat.{ℕ}
use mathlib.Core.Path.{◌≡◌, refl, sym, ◌∙◌, ap, subst}
use mathlib.Core.List.{List, [], ◌∷◌, ◌++◌, map, append_assoc, append-nil, nil≢cons, cons≢nil, head-eq_of_cons-eq, tail-eq_of_cons-eq}
use mathlib.Core.Bool.{Bool, true, false, not, ◌||◌, or-true, true≢false}
use lib.Dec.{eqb}
use borrow.Author.Tests.{eqb-true, eq-eqb, ne_eqb}
use Rattle.text.specs.definitions.Tokens.{Token}
use Rattle.text.specs.definitions.Language.{Language, Only, only, ◌⨾◌, sequel, ◌or◌, first, second, Many, nothing, further, Maybe, absent, given}

abbrev pub classes : List Token → List ℕ
classes ts = map (λ t. t.class) ts

-- tokens of these classes, with nothing else to them
pub sample : List ℕ → List Token
sample [] = []
sample (c ∷ cs) = record { class = c; at = 0; bytes = []; value = 0 } ∷ sample cs

pub classes_sample : (cs : List ℕ) → classes (sample cs) ≡ cs
unfolding sample
classes_sample [] = refl
classes_sample (c ∷ cs) = ap (λ l. c ∷ l) (classes_sample cs)

-- the empty word alone
pub data Empty : List ℕ → Type 0 where
  empty : Empty []

-- no word
pub data Never : List ℕ → Type 0 where

infix 10 ◌⊆◌
-- each word of the one is a word of the other
pub record ◌⊆◌ (L M : Language) : Type 0 where
  pub holds : {cs : List ℕ} → L cs → M cs

module _ {L : Language} where
  pub either_never : L or Never ⊆ L
  either_never = record { holds = go }
    where
      go : {cs : List ℕ} → (L or Never) cs → L cs
      go (first l) = l
      go {cs = cs} (second x'') = elim x'' [ ]

  pub drop_empty : L ⨾ Empty ⊆ L
  drop_empty = record { holds = go }
    where
      go : {cs : List ℕ} → (L ⨾ Empty) cs → L cs
      go (sequel l empty) = rw append-nil l

  pub add_empty : L ⊆ L ⨾ Empty
  add_empty = record { holds = λ {cs} w. subst (L ⨾ Empty) (append-nil cs) (sequel w empty) }

  pub from_maybe : Maybe L ⊆ L or Empty
  from_maybe = record { holds = go }
    where
      go : {cs : List ℕ} → Maybe L cs → (L or Empty) cs
      go (given l) = first l
      go absent = second empty

  pub to_maybe : L or Empty ⊆ Maybe L
  to_maybe = record { holds = go }
    where
      go : {cs : List ℕ} → (L or Empty) cs → Maybe L cs
      go (first l) = given l
      go (second empty) = absent

module _ {L M : Language} where
  pub in_first : L ⊆ L or M
  in_first = record { holds = first }

  pub in_second : M ⊆ L or M
  in_second = record { holds = second }

  pub either_swap : L or M ⊆ M or L
  either_swap = record { holds = go }
    where
      go : {cs : List ℕ} → (L or M) cs → (M or L) cs
      go (first l) = second l
      go (second m) = first m

  pub from_maybe_then : Maybe L ⨾ M ⊆ L ⨾ M or M
  from_maybe_then = record { holds = go }
    where
      go : {cs : List ℕ} → (Maybe L ⨾ M) cs → (L ⨾ M or M) cs
      go (sequel (given l) m) = first (sequel l m)
      go (sequel absent m) = second m

  pub to_maybe_then : L ⨾ M or M ⊆ Maybe L ⨾ M
  to_maybe_then = record { holds = go }
    where
      go : {cs : List ℕ} → (L ⨾ M or M) cs → (Maybe L ⨾ M) cs
      go (first (sequel l m)) = sequel (given l) m
      go (second m) = sequel absent m

  pub to_further : L ⨾ M ⨾ Many (L ⨾ M) ⊆ Many (L ⨾ M)
  to_further = record { holds = go }
    where
      tail : {xs cs : List ℕ} → L xs → (M ⨾ Many (L ⨾ M)) cs → Many (L ⨾ M) (xs ++ cs)
      tail l (sequel m w) = rw (← append_assoc) (further (sequel l m) w)

      go : {cs : List ℕ} → (L ⨾ M ⨾ Many (L ⨾ M)) cs → Many (L ⨾ M) cs
      go (sequel l w) = tail l w

-- tokens with the classes xs, and then tokens with the classes ys
pub record Cut (xs ys : List ℕ) (ts : List Token) : Type 0 where
  pub front : List Token
  pub back : List Token
  pub joins : front ++ back ≡ ts
  pub left : classes front ≡ xs
  pub right : classes back ≡ ys

longer_cut : {x : ℕ} {xs ys : List ℕ} {t : Token} {ts : List Token} → t.class ≡ x → Cut xs ys ts → Cut (x ∷ xs) ys (t ∷ ts)
longer_cut {t} e c =
    record { front = t ∷ c.front; back = c.back; joins = ap (λ l. t ∷ l) c.joins; left = λ i. e i ∷ c.left i; right = c.right }

pub cut : (xs ys : List ℕ) (ts : List Token) → classes ts ≡ xs ++ ys → Cut xs ys ts
cut [] ys ts e = record { front = []; back = ts; joins = refl; left = refl; right = e }
cut (x ∷ xs) ys [] e = absurd (nil≢cons e)
cut (x ∷ xs) ys (t ∷ ts) e = longer_cut (head-eq_of_cons-eq e) (cut xs ys ts (tail-eq_of_cons-eq e))

-- a list of tokens that is a word of the one, and then a word of the other
pub record Parts (L M : Language) (ts : List Token) : Type 0 where
  pub front : List Token
  pub back : List Token
  pub joins : front ++ back ≡ ts
  pub left : L (classes front)
  pub right : M (classes back)

pub parts : {L M : Language} {cs : List ℕ} → (L ⨾ M) cs → (ts : List Token) → classes ts ≡ cs → Parts L M ts
parts (sequel {xs} {ys} l m) ts e =
    let c = cut xs ys ts e in
    record { front = c.front; back = c.back; joins = c.joins; left = rw c.left l; right = rw c.right m }

-- sets of classes, as tests
abbrev pub ∅ : ℕ → Bool
∅ c = false

abbrev pub is : ℕ → ℕ → Bool
is c d = eqb d c

abbrev pub is_not : ℕ → ℕ → Bool
is_not c d = not (eqb d c)

infixr 40 ◌∪◌
abbrev pub ◌∪◌ : (ℕ → Bool) → (ℕ → Bool) → ℕ → Bool
◌∪◌ p q c = p c || q c

-- the words of one token with a class of the set
pub record Leads (p : ℕ → Bool) (O : Language) : Type 0 where
  pub single : {cs : List ℕ} → O cs → (c : ℕ) × (cs ≡ c ∷ []) × (p c ≡ true)
  pub spells : (c : ℕ) → p c ≡ true → O (c ∷ [])

pub leads_only : {c : ℕ} → Leads (is c) (Only c)
leads_only {c} = record { single = go; spells = λ d e. rw (eqb-true d c e) only }
  where
    go : {cs : List ℕ} → Only c cs → (d : ℕ) × (cs ≡ d ∷ []) × (is c d ≡ true)
    go only = (c, refl, eq-eqb c c refl)

pub leads_either : {p q : ℕ → Bool} {O P : Language} → Leads p O → Leads q P → Leads (p ∪ q) (O or P)
leads_either {p} {q} {O} {P} f g = record { single = go; spells = λ c e. spell c (p c) refl e }
  where
    go : {cs : List ℕ} → (O or P) cs → (c : ℕ) × (cs ≡ c ∷ []) × ((p ∪ q) c ≡ true)
    go (first o) = let s = f.single o in (s.0, s.1, rw s.2)
    go (second o) = let s = g.single o in (s.0, s.1, rw (s.2, or-true))

    spell : (c : ℕ) (b : Bool) → p c ≡ b → b || q c ≡ true → (O or P) (c ∷ [])
    spell c true e h = first (f.spells c e)
    spell c false e h = second (g.spells c h)

-- one token, with a class of the set
pub record Single (p : ℕ → Bool) (ts : List Token) : Type 0 where
  pub token : Token
  pub alone : ts ≡ token ∷ []
  pub passes : p token.class ≡ true

one_token : (c : ℕ) (ts : List Token) (p : ℕ → Bool) → classes ts ≡ c ∷ [] → p c ≡ true → Single p ts
one_token c [] p e h = absurd (nil≢cons e)
one_token c (t ∷ []) p e h = record { token = t; alone = refl; passes = rw (head-eq_of_cons-eq e) h }
one_token c (t ∷ u ∷ ts) p e h = absurd (cons≢nil (tail-eq_of_cons-eq e))

pub single_token : {p : ℕ → Bool} {O : Language} → Leads p O → (ts : List Token) → O (classes ts) → Single p ts
single_token {p} l ts w = let s = l.single w in one_token s.0 ts p s.1 s.2

-- no first class, or one that is not in the set
unfoldable pub Clear : (ℕ → Bool) → List ℕ → Type 0
Clear p [] = Unit {0}
Clear p (c ∷ cs) = p c ≡ false

-- a first class, and it is not in the set
unfoldable pub Outside : (ℕ → Bool) → List ℕ → Type 0
Outside p [] = ⊥
Outside p (c ∷ cs) = p c ≡ false

pub outside_append : (p : ℕ → Bool) (xs ys : List ℕ) → Outside p xs → Outside p (xs ++ ys)
unfolding Outside
outside_append p [] ys h = absurd h
outside_append p (x ∷ xs) ys h = h

outside_clear : (p : ℕ → Bool) (xs ys : List ℕ) → Outside p xs → Clear p (xs ++ ys)
unfolding Outside Clear
outside_clear p [] ys h = absurd h
outside_clear p (x ∷ xs) ys h = h

clear_∅ : (xs : List ℕ) → Clear ∅ xs
unfolding Clear
clear_∅ [] = tt
clear_∅ (x ∷ xs) = refl

-- the one set is a part of the other
pub record Among (p q : ℕ → Bool) : Type 0 where
  pub clears : (cs : List ℕ) → Clear q cs → Clear p cs

pub among_self : {p : ℕ → Bool} → Among p p
among_self = record { clears = λ cs h. h }

or_left : (a b : Bool) → a || b ≡ false → a ≡ false
or_left true b e = e
or_left false b e = refl

or_right : (a b : Bool) → a || b ≡ false → b ≡ false
or_right true b e = absurd (true≢false e)
or_right false b e = e

module _ (p q : ℕ → Bool) where
  pub among_left : Among p (p ∪ q)
  unfolding Clear
  among_left = record { clears = go }
    where
      go : (cs : List ℕ) → Clear (p ∪ q) cs → Clear p cs
      go [] h = tt
      go (c ∷ cs) h = or_left (p c) (q c) h

  pub among_right : Among q (p ∪ q)
  unfolding Clear
  among_right = record { clears = go }
    where
      go : (cs : List ℕ) → Clear (p ∪ q) cs → Clear q cs
      go [] h = tt
      go (c ∷ cs) h = or_right (p c) (q c) h

-- each word has a first class (the language is not nullable), and no such class is in the set (FIRST)
pub record Avoids (p : ℕ → Bool) (L : Language) : Type 0 where
  pub outside : {cs : List ℕ} → L cs → Outside p cs

module _ {p : ℕ → Bool} where
  pub avoids_only : {c : ℕ} → p c ≡ false → Avoids p (Only c)
  unfolding Outside
  avoids_only {c} e = record { outside = go }
    where
      go : {cs : List ℕ} → Only c cs → Outside p cs
      go only = e

  pub avoids_then : {L M : Language} → Avoids p L → Avoids p (L ⨾ M)
  avoids_then {L} {M} a = record { outside = go }
    where
      go : {cs : List ℕ} → (L ⨾ M) cs → Outside p cs
      go (sequel {xs} {ys} l m) = outside_append p xs ys (a.outside l)

  pub avoids_either : {L M : Language} → Avoids p L → Avoids p M → Avoids p (L or M)
  avoids_either {L} {M} a b = record { outside = go }
    where
      go : {cs : List ℕ} → (L or M) cs → Outside p cs
      go (first l) = a.outside l
      go (second m) = b.outside m

  pub avoids_never : Avoids p Never
  avoids_never = record { outside = go }
    where
      go : {cs : List ℕ} → Never cs → Outside p cs
      go = elim [ ]

outside_one : (p : ℕ → Bool) (c : ℕ) (cs : List ℕ) → p c ≡ true → Outside p cs → Outside (is c) cs
unfolding Outside
outside_one p c [] e h = h
outside_one p c (d ∷ ds) e h = ne_eqb d c (λ same. true≢false (sym e ∙ ap p (sym same) ∙ h))

pub avoids_one : {p : ℕ → Bool} {L : Language} (c : ℕ) → p c ≡ true → Avoids p L → Avoids (is c) L
avoids_one {p} c e a = record { outside = λ {cs} w. outside_one p c cs e (a.outside w) }

-- a word of M, and then classes that are clear of q, are clear of p (FOLLOW)
pub record Follows (p q : ℕ → Bool) (M : Language) : Type 0 where
  pub clears : {cs : List ℕ} → M cs → (ds : List ℕ) → Clear q ds → Clear p (cs ++ ds)

module _ {p q : ℕ → Bool} where
  pub follows_avoids : {M : Language} → Avoids p M → Follows p q M
  follows_avoids a = record { clears = λ {cs} w ds h. outside_clear p cs ds (a.outside w) }

  pub follows_empty : Among p q → Follows p q Empty
  follows_empty k = record { clears = go }
    where
      go : {cs : List ℕ} → Empty cs → (ds : List ℕ) → Clear q ds → Clear p (cs ++ ds)
      go empty ds h = k.clears ds h

  pub follows_then : {L M : Language} → Follows p p L → Follows p q M → Follows p q (L ⨾ M)
  follows_then {L} {M} f g = record { clears = go }
    where
      go : {cs : List ℕ} → (L ⨾ M) cs → (ds : List ℕ) → Clear q ds → Clear p (cs ++ ds)
      go (sequel {ys} l m) ds h = rw append_assoc (f.clears l (ys ++ ds) (g.clears m ds h))

  pub follows_either : {L M : Language} → Follows p q L → Follows p q M → Follows p q (L or M)
  follows_either {L} {M} f g = record { clears = go }
    where
      go : {cs : List ℕ} → (L or M) cs → (ds : List ℕ) → Clear q ds → Clear p (cs ++ ds)
      go (first l) ds h = f.clears l ds h
      go (second m) ds h = g.clears m ds h

  pub follows_many : {L : Language} → Avoids p L → Among p q → Follows p q (Many L)
  follows_many {L} a k = record { clears = go }
    where
      go : {cs : List ℕ} → Many L cs → (ds : List ℕ) → Clear q ds → Clear p (cs ++ ds)
      go nothing ds h = k.clears ds h
      go (further {xs} {ys} l m) ds h = rw append_assoc (outside_clear p xs (ys ++ ds) (a.outside l))

  pub follows_maybe : {L : Language} → Avoids p L → Among p q → Follows p q (Maybe L)
  follows_maybe {L} a k = record { clears = go }
    where
      go : {cs : List ℕ} → Maybe L cs → (ds : List ℕ) → Clear q ds → Clear p (cs ++ ds)
      go absent ds h = k.clears ds h
      go {cs} (given l) ds h = outside_clear p cs ds (a.outside l)

pub follows_∅ : {q : ℕ → Bool} {M : Language} → Follows ∅ q M
follows_∅ = record { clears = λ {cs} w ds h. clear_∅ (cs ++ ds) }

-- what a word may begin with, and what may come after it
pub ruleset look_ahead = (
  avoids_only,
  avoids_then,
  avoids_either,
  avoids_never,
  follows_avoids,
  follows_then,
  follows_either,
  follows_many,
  follows_maybe,
  follows_∅,
  among_self,
)
