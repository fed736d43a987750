-- Laws of items: what begins at a byte by its tests, how far an item reaches, and what an item at an offset makes of the tokens from there on.
use mathlib.Core.Path.{◌≡◌, refl}
use mathlib.Core.List.{List, [], ◌∷◌}
use mathlib.Core.Bool.{Bool, true, false}
use mathlib.Core.Option
use mathlib.Core.Option.{Option, none, some}
use Prim.Native.Nat.{ℕ, suc, ◌+◌, ◌-◌, ◌<◌, ◌≤◌}
use native.Mathlib.Omega.{arith}
use lib.Dec.{leb, eqb}
use lib.ListN.{length, get_or, drop, drop_of_length-le, length-drop}
use lib.Seq.{length-take-le}
use borrow.Author.Tests.{eq-eqb, ne_eqb, eqb-true, eqb-false, le-leb, lt-leb, leb-true, leb-false}
use Rattle.text.specs.declared.Item.TheVariants.{Found, Bad}
use Rattle.text.specs.definitions.Bytes.{is_letter, is_digit, is_name_byte, is_blank, is_comment_byte, run}
use Rattle.text.specs.definitions.Tokens.{
  Lexeme,
  gap,
  found,
  bad,
  item,
  name_item,
  number_item,
  number_token,
  mark_item,
  digits_value,
  class_in,
  reserved,
  marks,
}
use Rattle.text.specs.definitions.Tokens.{NAME, WHOLE_NUMBER, REAL_NUMBER}
use Rattle.text.specs.inner_contracts.TokenTable.{part, located}
use Rattle.text.proofs.laws.RunLaws.{byte_at, run_within}
use Rattle.text.proofs.laws.FixedLaws.{reserved_bounds, mark_bounds}

-- ---- an item by the tests of its first byte

module _ (b : ℕ) (bs : List ℕ) where
  pub item_blank : is_blank b ≡ true → item b bs ≡ gap 0
  unfolding item
  item_blank e = rw (e, item)

  module _ (not_blank : is_blank b ≡ false) where
    pub item_comment : eqb b 35 ≡ true → item b bs ≡ gap (length (run is_comment_byte bs))
    unfolding item
    item_comment e = rw (not_blank, item, e)

    module _ (no_comment : eqb b 35 ≡ false) where
      pub item_name : is_letter b ≡ true → item b bs ≡ name_item (b ∷ run is_name_byte bs)
      unfolding item
      item_name e = rw (not_blank, item, no_comment, e)

      module _ (no_letter : is_letter b ≡ false) where
        pub item_number : is_digit b ≡ true → item b bs ≡ number_item (b ∷ run is_digit bs) (drop (length (run is_digit bs)) bs)
        unfolding item
        item_number e = rw (not_blank, item, no_comment, no_letter, e)

        pub item_mark : is_digit b ≡ false → item b bs ≡ mark_item (class_in marks (b ∷ []))
        unfolding item
        item_mark e = rw (not_blank, item, no_comment, no_letter, e)

-- ---- names and numbers

pub name_long : (bs : List ℕ) → 24 < length bs → name_item bs ≡ bad
unfolding name_item
name_long bs h = rw (lt-leb (length bs) 24 h, name_item)

pub name_found : (bs : List ℕ) → length bs ≤ 24 → name_item bs ≡ found (Option.get_or (class_in reserved bs) NAME) 0 (length bs - 1)
unfolding name_item
name_found bs h = rw (le-leb (length bs) 24 h, name_item)

module _ (ds after : List ℕ) where
  pub number_long : 10 < length ds → number_item ds after ≡ bad
  unfolding number_item
  number_long h = rw (lt-leb (length ds) 10 h, number_item)

  pub number_large : length ds ≤ 10 → 2147483647 < digits_value 0 ds → number_item ds after ≡ bad
  unfolding number_item
  number_large h k = rw (le-leb (length ds) 10 h, lt-leb (digits_value 0 ds) 2147483647 k, number_item)

  pub number_fits : length ds ≤ 10 → digits_value 0 ds ≤ 2147483647 → number_item ds after ≡ number_token (digits_value 0 ds) (length ds - 1) after
  unfolding number_item
  number_fits h k = rw (le-leb (length ds) 10 h, le-leb (digits_value 0 ds) 2147483647 k, number_item)

module _ (v more b : ℕ) (bs : List ℕ) where
  pub real_number : b ≡ 114 → number_token v more (b ∷ bs) ≡ found REAL_NUMBER v (suc more)
  unfolding number_token
  real_number e = rw (eq-eqb b 114 e, number_token)

  pub whole_number : (b ≡ 114 → ⊥) → number_token v more (b ∷ bs) ≡ found WHOLE_NUMBER v more
  unfolding number_token
  whole_number e = rw (ne_eqb b 114 e, number_token)

-- the name or number in the bytes of a text from `at` to `end`
module _ (text : List ℕ) (at end : ℕ) (h : at < end) (k : end ≤ length text) where
  count : length (part at end text) ≡ end - at
  count = length-take-le (end - at) (drop at text) (omega (arith, length-drop at text))

  pub name_part_long : 24 < end - at → Bad ≡ located at (name_item (part at end text))
  unfolding located
  name_part_long l = rw (name_long (part at end text) (rw count l))

  pub name_part : end - at ≤ 24 → (c : ℕ) → c ≡ Option.get_or (class_in reserved (part at end text)) NAME
      → Found c 0 end ≡ located at (name_item (part at end text))
  unfolding located
  name_part l c e =
      let n : end ≡ at + 1 + (end - at - 1) = omega arith in
      rw (name_found (part at end text) (rw count l), count, ← e, ← n)

  pub number_part_long : 10 < end - at → Bad ≡ located at (number_item (part at end text) (drop end text))
  unfolding located
  number_part_long l = rw (number_long (part at end text) (drop end text) (rw count l))

  module _ (l : end - at ≤ 10) (n : ℕ) (e : n ≡ digits_value 0 (part at end text)) where
    pub number_part_large : 2147483647 < n → Bad ≡ located at (number_item (part at end text) (drop end text))
    unfolding located
    number_part_large m = rw (number_large (part at end text) (drop end text) (rw count l) (rw (← e) m))

    module _ (m : n ≤ 2147483647) where
      fits : number_item (part at end text) (drop end text) ≡ number_token n (end - at - 1) (drop end text)
      fits = rw (number_fits (part at end text) (drop end text) (rw count l) (rw (← e) m), count, ← e)

      pub number_part_real : end < length text → get_or text end 0 ≡ 114
          → Found REAL_NUMBER n (end + 1) ≡ located at (number_item (part at end text) (drop end text))
      unfolding located
      number_part_real i r =
          let p : end + 1 ≡ at + 1 + suc (end - at - 1) = omega arith in
          rw (fits, byte_at text end i, real_number n (end - at - 1) (get_or text end 0) (drop (end + 1) text) r, ← p)

      pub number_part_whole : end < length text → (get_or text end 0 ≡ 114 → ⊥)
          → Found WHOLE_NUMBER n end ≡ located at (number_item (part at end text) (drop end text))
      unfolding located
      number_part_whole i r =
          let p : end ≡ at + 1 + (end - at - 1) = omega arith in
          rw (fits, byte_at text end i, whole_number n (end - at - 1) (get_or text end 0) (drop (end + 1) text) r, ← p)

      pub number_part_last : length text ≤ end → Found WHOLE_NUMBER n end ≡ located at (number_item (part at end text) (drop end text))
      unfolding located number_token
      number_part_last i =
          let p : end ≡ at + 1 + (end - at - 1) = omega arith in
          rw (fits, drop_of_length-le text {i = end} i, ← p)

-- ---- how far an item reaches

-- an item before n bytes stays within them; a token has 24 bytes at most, a class up to 36 and a value up to 2147483647
abbrev pub Reaches : ℕ → Lexeme → Type 0
Reaches n (gap more) = more ≤ n
Reaches n (found c v more) = (more ≤ n) × (more < 24) × (c ≤ 36) × (v ≤ 2147483647)
Reaches n bad = Unit {0}

class_small : (o : Option ℕ) → ((c : ℕ) → o ≡ some c → (3 ≤ c) × (c ≤ 36)) → Option.get_or o NAME ≤ 36
class_small none k = omega arith
class_small (some c) k = omega (arith, k c refl)

name_reaches : (n : ℕ) (bs : List ℕ) → length bs ≤ suc n → Reaches n (name_item bs)
name_reaches n bs h = go (leb (length bs) 24) refl
  where
    go : (t : Bool) → leb (length bs) 24 ≡ t → Reaches n (name_item bs)
    go true e =
        let l = leb-true (length bs) 24 e in
        rw (name_found bs l) (omega arith, omega arith, class_small (class_in reserved bs) (reserved_bounds bs), omega arith)
    go false e = rw (name_long bs (leb-false (length bs) 24 e)) tt

token_reaches : (n v more : ℕ) (after : List ℕ) → more + length after ≤ n → more < 10 → v ≤ 2147483647 → Reaches n (number_token v more after)
unfolding number_token
token_reaches n v more [] h k m = omega arith
token_reaches n v more (b ∷ bs) h k m = go (eqb b 114) refl
  where
    go : (t : Bool) → eqb b 114 ≡ t → Reaches n (number_token v more (b ∷ bs))
    go true e = rw (real_number v more b bs (eqb-true b 114 e)) (omega arith)
    go false e = rw (whole_number v more b bs (eqb-false b 114 e)) (omega arith)

number_reaches : (n : ℕ) (ds after : List ℕ) → 0 < length ds → length ds + length after ≤ suc n → Reaches n (number_item ds after)
number_reaches n ds after p h = go (leb (length ds) 10) refl (leb (digits_value 0 ds) 2147483647) refl
  where
    go : (s : Bool) → leb (length ds) 10 ≡ s → (t : Bool) → leb (digits_value 0 ds) 2147483647 ≡ t → Reaches n (number_item ds after)
    go true e true f =
        let l = leb-true (length ds) 10 e in
        let m = leb-true (digits_value 0 ds) 2147483647 f in
        rw (number_fits ds after l m) (token_reaches n (digits_value 0 ds) (length ds - 1) after (omega arith) (omega arith) m)
    go true e false f = rw (number_large ds after (leb-true (length ds) 10 e) (leb-false (digits_value 0 ds) 2147483647 f)) tt
    go false e t f = rw (number_long ds after (leb-false (length ds) 10 e)) tt

mark_reaches : (n : ℕ) (o : Option ℕ) → ((c : ℕ) → o ≡ some c → (24 ≤ c) × (c ≤ 35)) → Reaches n (mark_item o)
unfolding mark_item
mark_reaches n none k = tt
mark_reaches n (some c) k = omega (arith, k c refl)

pub item_reaches : (b : ℕ) (bs : List ℕ) → Reaches (length bs) (item b bs)
item_reaches b bs = blank (is_blank b) refl
  where
    digit : is_blank b ≡ false → eqb b 35 ≡ false → is_letter b ≡ false → (t : Bool) → is_digit b ≡ t → Reaches (length bs) (item b bs)
    digit e f g true d =
        rw (item_number b bs e f g d)
        (number_reaches (length bs) (b ∷ run is_digit bs) (drop (length (run is_digit bs)) bs) (omega arith)
        (omega (arith, length-drop (length (run is_digit bs)) bs, run_within is_digit bs)))
    digit e f g false d = rw (item_mark b bs e f g d) (mark_reaches (length bs) (class_in marks (b ∷ [])) (mark_bounds (b ∷ [])))

    letter : is_blank b ≡ false → eqb b 35 ≡ false → (t : Bool) → is_letter b ≡ t → Reaches (length bs) (item b bs)
    letter e f true g = rw (item_name b bs e f g) (name_reaches (length bs) (b ∷ run is_name_byte bs) (omega (arith, run_within is_name_byte bs)))
    letter e f false g = digit e f g (is_digit b) refl

    comment : is_blank b ≡ false → (t : Bool) → eqb b 35 ≡ t → Reaches (length bs) (item b bs)
    comment e true f = rw (item_comment b bs e f) (run_within is_comment_byte bs)
    comment e false f = letter e f (is_letter b) refl

    blank : (t : Bool) → is_blank b ≡ t → Reaches (length bs) (item b bs)
    blank true e = rw (item_blank b bs e) (omega arith)
    blank false e = comment e (eqb b 35) refl
