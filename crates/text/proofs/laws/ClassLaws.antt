-- What begins at a byte, and what goes on with it, by its class.
use Prim.Native.Nat.{ℕ, ◌<◌}
use mathlib.Core.Path.{◌≡◌, refl, sym, ap, ◌∙◌}
use mathlib.Core.List.{List, [], ◌∷◌}
use mathlib.Core.Bool.{Bool, true, false, not, cond, true≢false, false≢true}
use mathlib.Core.Option.{Option, none, some, get_or}
use lib.Dec.{leb, ltb, eqb}
use lib.ListN.{length, drop}
use borrow.Author.Tests.{ne_eqb}
use mathlib.Core.Logic.{◌⊎◌, inl, inr}
use Rattle.text.specs.declared.bytes.ByteClass.{ByteClass}
use Rattle.text.specs.declared.bytes.ByteClass.TheVariants.{Letter, Digit, Underscore, Mark, Blank, Hash, CommentOnly, NotAllowed}
use Rattle.text.specs.definitions.Bytes.{is_letter, is_digit, is_name_byte, is_blank, is_comment_byte, run}
use Rattle.text.specs.definitions.Tokens.{NAME, gap, found, bad, name_item, number_item, mark_item, item, class_in, marks}
use Rattle.text.specs.definitions.ByteClass.{LETTER, DIGIT, UNDERSCORE, MARK, BLANK, HASH, NOT_ALLOWED, is_mark, byte_class, Classified}
use Rattle.text.specs.inner_contracts.ByteTables.{BYTES, tabulate, mark_class, number_of}
use Rattle.text.proofs.laws.ByteTableLaws.{agree}
use Rattle.text.proofs.laws.ItemLaws.{item_blank, item_comment, item_name, item_number, item_mark}
use Rattle.text.proofs.theorems.ByteClasses.{byte_classified, class_in_name, class_in_comment}

-- a mark is a token of its own class, and what is no mark begins nothing
module _ (b : ℕ) where
  marked : (o : Option ℕ) → class_in marks (b ∷ []) ≡ o → is_mark b ≡ true → mark_item o ≡ found (get_or o NAME) 0 0
  unfolding mark_item is_mark
  marked none e h = absurd (false≢true (sym (rw (e, is_mark)) ∙ h))
  marked (some c) e h = refl

  unmarked : (o : Option ℕ) → class_in marks (b ∷ []) ≡ o → is_mark b ≡ false → mark_item o ≡ bad
  unfolding mark_item is_mark
  unmarked none e h = refl
  unmarked (some c) e h = absurd (true≢false (sym (rw (e, is_mark)) ∙ h))

module _ (b : ℕ) (bs : List ℕ) (h : b < BYTES) where
  tells : Classified b (byte_class b)
  tells = byte_classified b h

  -- what b is, where its class is known: the test of the class tells
  module _ {c : ℕ} (e : byte_class b ≡ c) {t : Bool} where
    blank_is : eqb c BLANK ≡ t → is_blank b ≡ t
    blank_is i = sym tells.blank ∙ ap (λ c. eqb c BLANK) e ∙ i

    hash_is : eqb c HASH ≡ t → eqb b 35 ≡ t
    hash_is i = sym tells.hash ∙ ap (λ c. eqb c HASH) e ∙ i

    letter_is : eqb c LETTER ≡ t → is_letter b ≡ t
    letter_is i = sym tells.letter ∙ ap (λ c. eqb c LETTER) e ∙ i

    pub digit_is : eqb c DIGIT ≡ t → is_digit b ≡ t
    digit_is i = sym tells.digit ∙ ap (λ c. eqb c DIGIT) e ∙ i

    mark_is : eqb c MARK ≡ t → is_mark b ≡ t
    mark_is i = sym tells.mark ∙ ap (λ c. eqb c MARK) e ∙ i

  pub item_of_blank : byte_class b ≡ BLANK → item b bs ≡ gap 0
  item_of_blank e = item_blank b bs (blank_is e refl)

  pub item_of_hash : byte_class b ≡ HASH → item b bs ≡ gap (length (run is_comment_byte bs))
  item_of_hash e = item_comment b bs (blank_is e refl) (hash_is e refl)

  pub item_of_letter : byte_class b ≡ LETTER → item b bs ≡ name_item (b ∷ run is_name_byte bs)
  item_of_letter e = item_name b bs (blank_is e refl) (hash_is e refl) (letter_is e refl)

  pub item_of_digit : byte_class b ≡ DIGIT → item b bs ≡ number_item (b ∷ run is_digit bs) (drop (length (run is_digit bs)) bs)
  item_of_digit e = item_number b bs (blank_is e refl) (hash_is e refl) (letter_is e refl) (digit_is e refl)

  pub item_of_mark : byte_class b ≡ MARK → item b bs ≡ found (mark_class b) 0 0
  unfolding mark_class
  item_of_mark e =
      item_mark b bs (blank_is e refl) (hash_is e refl) (letter_is e refl) (digit_is e refl) ∙ marked b (class_in marks (b ∷ [])) refl (mark_is e refl)

  pub item_of_other : (byte_class b ≡ LETTER → ⊥) → (byte_class b ≡ DIGIT → ⊥) → (byte_class b ≡ MARK → ⊥) → (byte_class b ≡ BLANK → ⊥)
      → (byte_class b ≡ HASH → ⊥) → item b bs ≡ bad
  item_of_other l d m s k =
      item_mark b bs (blank_is refl (ne_eqb (byte_class b) BLANK s)) (hash_is refl (ne_eqb (byte_class b) HASH k))
      (letter_is refl (ne_eqb (byte_class b) LETTER l)) (digit_is refl (ne_eqb (byte_class b) DIGIT d))
      ∙ unmarked b (class_in marks (b ∷ [])) refl (mark_is refl (ne_eqb (byte_class b) MARK m))

-- ---- the tests by which code tells a byte of a comment, a name or a number from its class

comment_by_class : (b : ℕ) → b < BYTES → cond (eqb (byte_class b) NOT_ALLOWED) false (not (eqb b 10)) ≡ is_comment_byte b
unfolding tabulate byte_class is_letter is_digit is_mark is_blank is_comment_byte
comment_by_class b h = agree (λ b. cond (eqb (byte_class b) NOT_ALLOWED) false (not (eqb b 10))) is_comment_byte refl b h

module _ {b : ℕ} (h : b < BYTES) (k : ByteClass) (e : number_of k ≡ byte_class b) where
  in_name : leb (number_of k) UNDERSCORE ≡ is_name_byte b
  in_name = ap (λ c. leb c UNDERSCORE) e ∙ class_in_name b h

  pub name_byte : (k ≡ Letter) ⊎ (k ≡ Digit) ⊎ (k ≡ Underscore) → true ≡ is_name_byte b
  name_byte q = sym (yes q) ∙ in_name
    where
      yes : (k ≡ Letter) ⊎ (k ≡ Digit) ⊎ (k ≡ Underscore) → leb (number_of k) UNDERSCORE ≡ true
      yes (inl q) = rw q
      yes (inr (inl q)) = rw q
      yes (inr (inr q)) = rw q

  pub other_byte : (k ≡ Letter → ⊥) → (k ≡ Digit → ⊥) → (k ≡ Underscore → ⊥) → false ≡ is_name_byte b
  other_byte l d u = sym (no k l d u) ∙ in_name
    where
      no : (j : ByteClass) → (j ≡ Letter → ⊥) → (j ≡ Digit → ⊥) → (j ≡ Underscore → ⊥) → leb (number_of j) UNDERSCORE ≡ false
      no Letter l d u = absurd (l refl)
      no Digit l d u = absurd (d refl)
      no Underscore l d u = absurd (u refl)
      no Mark l d u = refl
      no Blank l d u = refl
      no Hash l d u = refl
      no CommentOnly l d u = refl
      no NotAllowed l d u = refl

  in_digits : eqb (number_of k) DIGIT ≡ is_digit b
  in_digits = ap (λ c. eqb c DIGIT) e ∙ (byte_classified b h).digit

  pub digit_byte : k ≡ Digit → true ≡ is_digit b
  digit_byte q = sym (rw q) ∙ in_digits

  pub no_digit : (k ≡ Digit → ⊥) → false ≡ is_digit b
  no_digit n = sym (no k n) ∙ in_digits
    where
      no : (j : ByteClass) → (j ≡ Digit → ⊥) → eqb (number_of j) DIGIT ≡ false
      no Letter n = refl
      no Digit n = absurd (n refl)
      no Underscore n = refl
      no Mark n = refl
      no Blank n = refl
      no Hash n = refl
      no CommentOnly n = refl
      no NotAllowed n = refl

  in_comment : cond (eqb (number_of k) NOT_ALLOWED) false (not (eqb b 10)) ≡ is_comment_byte b
  in_comment = ap (λ c. cond (eqb c NOT_ALLOWED) false (not (eqb b 10))) e ∙ comment_by_class b h

  pub no_comment : k ≡ NotAllowed → false ≡ is_comment_byte b
  no_comment q = sym (rw q) ∙ in_comment

  pub early_in_comment : (k ≡ Letter) ⊎ (k ≡ Digit) ⊎ (k ≡ Underscore) ⊎ (k ≡ Mark) → true ≡ is_comment_byte b
  early_in_comment q = sym (yes q) ∙ in_comment_early
    where
      in_comment_early : cond (ltb (number_of k) BLANK) true (cond (eqb (number_of k) NOT_ALLOWED) false (not (eqb b 10))) ≡ is_comment_byte b
      in_comment_early = ap (λ c. cond (ltb c BLANK) true (cond (eqb c NOT_ALLOWED) false (not (eqb b 10)))) e ∙ class_in_comment b h

      yes : (k ≡ Letter) ⊎ (k ≡ Digit) ⊎ (k ≡ Underscore) ⊎ (k ≡ Mark)
          → cond (ltb (number_of k) BLANK) true (cond (eqb (number_of k) NOT_ALLOWED) false (not (eqb b 10))) ≡ true
      yes (inl q) = rw q
      yes (inr (inl q)) = rw q
      yes (inr (inr (inl q))) = rw q
      yes (inr (inr (inr q))) = rw q

  pub late_in_comment : (k ≡ Blank) ⊎ (k ≡ Hash) ⊎ (k ≡ CommentOnly) → not (eqb b 10) ≡ is_comment_byte b
  late_in_comment q = sym (yes q) ∙ in_comment
    where
      yes : (k ≡ Blank) ⊎ (k ≡ Hash) ⊎ (k ≡ CommentOnly) → cond (eqb (number_of k) NOT_ALLOWED) false (not (eqb b 10)) ≡ not (eqb b 10)
      yes (inl q) = rw q
      yes (inr (inl q)) = rw q
      yes (inr (inr q)) = rw q
