-- Numbers of a text: every token's is of 31 bits, so every literal's of a parsed file is.
use Prim.Native.Nat.{ℕ, zero, suc, ◌+◌, ◌-◌, ◌≤◌}
use native.Mathlib.Omega.{arith}
use mathlib.Core.Path.{◌≡◌, refl}
use mathlib.Core.Bool.{Bool, true, false, ◌&&◌}
use mathlib.Core.List.{List, [], ◌∷◌}
use mathlib.Core.Option.{Option, none, some, get_or}
use lib.Dec.{T, leb, leb→le, eqb}
use lib.Ieee.Fits.{and_r}
use lib.ListN.{length, take, drop}
use Rattle.text.specs.definitions.Bytes.{is_letter, is_digit, is_name_byte, is_blank, is_comment_byte, run}
use Rattle.text.specs.definitions.Tokens.{
  Token,
  NAME,
  INTERFACE,
  ENTITY,
  WHEN,
  Lexeme,
  gap,
  found,
  bad,
  digits_value,
  name_item,
  number_token,
  number_item,
  mark_item,
  class_in,
  reserved,
  marks,
  item,
  Lexing,
  tokens,
  no_token_at,
  add_token,
  taken,
  tokens_from,
  tokens_of,
}
use Rattle.text.specs.definitions.Syntax.{Literal, truth, whole_number, real_number, Assignment, Entity, File}
use Rattle.text.specs.definitions.Readers.{Parse, read, unfit_after, many}
use Rattle.text.specs.definitions.Grammar.{interface_after, number_reader, literal_reader, assignment_after, entity_after, rule_after, file_reader}
use Rattle.text.specs.definitions.Parse.{grammatical, ended, parsed, parse}
use Rattle.text.proofs.laws.ListLaws.{All, all_none, all_cons}
use Rattle.text.proofs.laws.TreeLaws.{Makes, give_makes, expect_makes, if_next_makes, any_makes, and_then_makes, many_makes}

-- "at most 2147483647"
abbrev pub MOST_NUMBER : ℕ
MOST_NUMBER = 2147483647

abbrev pub SmallToken : Token → Type 0
SmallToken t = t.value ≤ MOST_NUMBER

abbrev pub SmallLiteral : Literal → Type 0
SmallLiteral (truth b) = Unit {0}
SmallLiteral (whole_number negative n) = n ≤ MOST_NUMBER
SmallLiteral (real_number negative n) = n ≤ MOST_NUMBER

abbrev pub SmallAssignments : Entity → Type 0
SmallAssignments e = All (λ (a : Assignment). SmallLiteral a.literal) e.assignments

-- ---- the tokens of a text

abbrev Small : Lexeme → Type 0
Small (gap more) = Unit {0}
Small (found c v more) = v ≤ MOST_NUMBER
Small bad = Unit {0}

number_small : (v more : ℕ) (bs : List ℕ) → v ≤ MOST_NUMBER → Small (number_token v more bs)
unfolding number_token
number_small v more [] h = h
number_small v more (b ∷ bs) h = go (eqb b 114)
  where
    go : (t : Bool) → Small (elim t [ true ↦ found 2 v (suc more) | false ↦ found 1 v more ])
    go true = h
    go false = h

number_item_small : (ds after : List ℕ) → Small (number_item ds after)
unfolding number_item
number_item_small ds after = go (leb (length ds) 10 && leb (digits_value 0 ds) MOST_NUMBER) (and_r (leb (length ds) 10) (leb (digits_value 0 ds) MOST_NUMBER))
  where
    go : (t : Bool) → (T t → T (leb (digits_value 0 ds) MOST_NUMBER))
        → Small (elim t [ true ↦ number_token (digits_value 0 ds) (length ds - 1) after | false ↦ bad ])
    go true k = number_small (digits_value 0 ds) (length ds - 1) after (leb→le (digits_value 0 ds) MOST_NUMBER (k tt))
    go false k = tt

name_item_small : (bs : List ℕ) → Small (name_item bs)
unfolding name_item
name_item_small bs = go (leb (length bs) 24)
  where
    go : (t : Bool) → Small (elim t [ true ↦ found (get_or (class_in reserved bs) NAME) 0 (length bs - 1) | false ↦ bad ])
    go true = omega arith
    go false = tt

mark_item_small : (o : Option ℕ) → Small (mark_item o)
unfolding mark_item
mark_item_small none = tt
mark_item_small (some c) = omega arith

item_small : (b : ℕ) (bs : List ℕ) → Small (item b bs)
unfolding item
item_small b bs = go (is_blank b) (eqb b 35) (is_letter b) (is_digit b)
  where
    go : (blank comment letter digit : Bool) → Small (elim blank [
      | true ↦ gap 0
      | false ↦ elim comment [
        | true ↦ gap (length (run is_comment_byte bs))
        | false ↦ elim letter [
          | true ↦ name_item (b ∷ run is_name_byte bs)
          | false ↦ elim digit [
            | true ↦ number_item (b ∷ run is_digit bs) (drop (length (run is_digit bs)) bs)
            | false ↦ mark_item (class_in marks (b ∷ []))
          ]
        ]
      ]
    ])
    go true comment letter digit = tt
    go false true letter digit = tt
    go false false true digit = name_item_small (b ∷ run is_name_byte bs)
    go false false false true = number_item_small (b ∷ run is_digit bs) (drop (length (run is_digit bs)) bs)
    go false false false false = mark_item_small (class_in marks (b ∷ []))

abbrev SmallTokens : Lexing → Type 0
SmallTokens (tokens ts) = All SmallToken ts
SmallTokens (no_token_at p) = Unit {0}

add_small : (t : Token) (l : Lexing) → SmallToken t → SmallTokens l → SmallTokens (add_token t l)
unfolding add_token
add_small t (tokens ts) v h = all_cons SmallToken v h
add_small t (no_token_at p) v h = tt

tokens_small : (skip at : ℕ) (bs : List ℕ) → SmallTokens (tokens_from skip at bs)
unfolding tokens_from
tokens_small skip at [] = all_none SmallToken
tokens_small (suc skip) at (b ∷ bs) = tokens_small skip (at + 1) bs
tokens_small zero at (b ∷ bs) = go (item b bs) (item_small b bs) (λ more. tokens_small more (at + 1) bs)
  where
    go : (i : Lexeme) → Small i → ((more : ℕ) → SmallTokens (tokens_from more (at + 1) bs))
        → SmallTokens (taken i at b bs (λ more. tokens_from more (at + 1) bs))
    go (gap more) s k = k more
    go (found c v more) s k = add_small (record { class = c; at = at; bytes = b ∷ take more bs; value = v }) (tokens_from more (at + 1) bs) s (k more)
    go bad s k = tt

pub text_small : (text : List ℕ) (ts : List Token) → tokens_of text ≡ tokens ts → All SmallToken ts
unfolding tokens_of
text_small text ts h = rw h at (tokens_small 0 0 text)

-- ---- the literals of a file

number_small_read : (negative : Bool) → Makes SmallToken (number_reader negative) SmallLiteral
unfolding number_reader
number_small_read negative =
    if_next_makes SmallToken _ (expect_makes SmallToken _ _ λ t v. give_makes SmallToken _ v)
    (expect_makes SmallToken _ _ λ t v. give_makes SmallToken _ v)

literal_small : Makes SmallToken literal_reader SmallLiteral
unfolding literal_reader
literal_small =
    if_next_makes SmallToken _ (expect_makes SmallToken _ _ λ t v. give_makes SmallToken _ tt)
    (if_next_makes SmallToken _ (expect_makes SmallToken _ _ λ t v. give_makes SmallToken _ tt)
    (if_next_makes SmallToken _ (expect_makes SmallToken _ _ λ t v. number_small_read true)
    (number_small_read false)))

assignment_small : (start : Token) → SmallToken start → Makes SmallToken (assignment_after start) (λ a. SmallLiteral a.literal)
unfolding assignment_after
assignment_small start v =
    expect_makes SmallToken _ _ λ e w.
    and_then_makes SmallToken _ literal_small λ l s.
    give_makes SmallToken _ s

entity_small : (start : Token) → SmallToken start → Makes SmallToken (entity_after start) SmallAssignments
unfolding entity_after
entity_small start v =
    expect_makes SmallToken _ _ λ n u.
    expect_makes SmallToken _ _ λ t w.
    expect_makes SmallToken _ _ λ i x.
    expect_makes SmallToken _ _ λ o y.
    and_then_makes SmallToken _ (many_makes SmallToken NAME assignment_after (λ (a : Assignment). SmallLiteral a.literal) assignment_small) λ set s.
    expect_makes SmallToken _ _ λ c z.
    give_makes SmallToken _ s

file_small : Makes SmallToken file_reader (λ f. All SmallAssignments f.entities)
unfolding file_reader
file_small =
    and_then_makes SmallToken _ (any_makes SmallToken (many INTERFACE interface_after)) λ is p.
    and_then_makes SmallToken _ (many_makes SmallToken ENTITY entity_after SmallAssignments entity_small) λ es q.
    expect_makes SmallToken _ _ λ t v.
    and_then_makes SmallToken _ (any_makes SmallToken (many WHEN rule_after)) λ rs r.
    expect_makes SmallToken _ _ λ u w.
    give_makes SmallToken _ q

pub parsed_small : (text : List ℕ) (end : ℕ) (ts : List Token) (f : File) → tokens_of text ≡ tokens ts → parse end ts ≡ grammatical f
    → All SmallAssignments f.entities
unfolding parse
parsed_small text end ts f l h = go (file_reader ts) refl h
  where
    last : (g : File) (rest : List Token) → ended end g rest ≡ grammatical f → g ≡ f
    last g [] h = cc
    last g (t ∷ ts) h = cc

    go : (p : Parse File) → file_reader ts ≡ p → parsed end ts p ≡ grammatical f → All SmallAssignments f.entities
    go (unfit_after n) e h = let z : ◌≡◌ {A = ℕ} 0 1 = cc in absurd (omega arith)
    go (read g n) e h = rw (last g (drop n ts) h) at (file_small.makes ts (text_small text ts l) g n e)
