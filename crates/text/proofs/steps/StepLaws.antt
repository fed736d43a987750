-- What begins at an offset of a text, and what it makes of the tokens from there on.
use mathlib.Core.Path.{◌≡◌, refl, sym, ap, ◌∙◌}
use mathlib.Core.List.{List, [], ◌∷◌}
use mathlib.Core.Bool.{Bool, true, false}
use Prim.Native.Nat.{ℕ, suc, ◌+◌, ◌-◌, ◌<◌, ◌≤◌}
use native.Mathlib.Nat.{add-zero}
use native.Mathlib.Omega.{arith}
use lib.Dec.{ltb}
use lib.ListN.{length, get_or, take, drop, drop_of_length-le, length-drop}
use lib.Seq.{drop-drop}
use borrow.Author.Tests.{ltb-true, ltb-false}
use Rattle.text.specs.declared.Item.{Item as Answer}
use Rattle.text.specs.declared.Item.TheVariants.{Gap, Found, Bad, End}
use Rattle.text.specs.definitions.Bytes.{is_digit, is_name_byte, is_comment_byte, run}
use Rattle.text.specs.definitions.ByteClass.{LETTER, DIGIT, MARK, BLANK, HASH, byte_class}
use Rattle.text.specs.definitions.Tokens.{name_item, number_item}
use Rattle.text.specs.definitions.Tokens.{Lexeme, gap, found, bad, item, tokens, no_token_at, add_token, taken, tokens_from}
use Rattle.text.specs.inner_contracts.ByteTables.{BYTES, mark_class}
use Rattle.text.specs.inner_contracts.TokenTable.{part, located, token_at, after, offset_after}
use Rattle.text.proofs.theorems.SkipLaws.{tokens_skip}
use Rattle.text.proofs.laws.RunLaws.{byte_at, run_yes, run_again, run_part}
use Rattle.text.proofs.laws.ItemLaws.{Reaches, item_reaches}
use Rattle.text.proofs.laws.ClassLaws.{item_of_blank, item_of_hash, item_of_letter, digit_is, item_of_digit, item_of_mark, item_of_other}

-- ---- the tokens after the bytes of an item

tokens_on : (text : List ℕ) (at more : ℕ) → tokens_from more at (drop at text) ≡ tokens_from 0 (at + more) (drop (at + more) text)
tokens_on text at more = tokens_skip more at (drop at text) ∙ ap (tokens_from 0 (at + more)) (drop-drop more at text)

-- ---- what begins at an offset

-- what an answer at an offset says of the tokens from there on
abbrev pub AnswerSays : List ℕ → ℕ → Answer → Type 0
AnswerSays text at (Gap next) =
    (at < next) × (next ≤ length text) × (tokens_from 0 at (drop at text) ≡ tokens_from 0 next (drop next text))
AnswerSays text at (Found c v next) =
    (at < next)
    × (next ≤ length text)
    × (next ≤ at + 24)
    × (tokens_from 0 at (drop at text)
    ≡ add_token (record { class = c; at = at; bytes = take (next - at) (drop at text); value = v }) (tokens_from 0 next (drop next text)))
AnswerSays text at Bad = (at < length text) × (tokens_from 0 at (drop at text) ≡ no_token_at at)
AnswerSays text at End = (length text ≤ at) × (tokens_from 0 at (drop at text) ≡ tokens [])

module _ (text : List ℕ) (at : ℕ) where
  pub at_end : length text ≤ at → End ≡ token_at text at
  unfolding token_at
  at_end h = rw (drop_of_length-le text {i = at} h)

  module _ (h : at < length text) where
    at_byte : token_at text at ≡ located at (item (get_or text at 0) (drop (at + 1) text))
    unfolding token_at
    at_byte = rw (byte_at text at h)

    pub at_item : {i : Lexeme} → item (get_or text at 0) (drop (at + 1) text) ≡ i → located at i ≡ token_at text at
    at_item e = sym (at_byte ∙ ap (located at) e)

    -- each class of byte, as code finds it
    module _ (small : get_or text at 0 < BYTES) where
      pub blank_at : byte_class (get_or text at 0) ≡ BLANK → Gap (at + 1) ≡ token_at text at
      unfolding located
      blank_at e = rw (← add-zero (at + 1)) (at_item (item_of_blank (get_or text at 0) (drop (at + 1) text) small e))

      pub comment_at : byte_class (get_or text at 0) ≡ HASH → (end : ℕ) → end ≡ at + 1 + length (run is_comment_byte (drop (at + 1) text))
          → Gap end ≡ token_at text at
      unfolding located
      comment_at e end l = rw l (at_item (item_of_hash (get_or text at 0) (drop (at + 1) text) small e))

      pub name_at : byte_class (get_or text at 0) ≡ LETTER → (end : ℕ) → end ≡ at + 1 + length (run is_name_byte (drop (at + 1) text))
          → (r : Answer) → r ≡ located at (name_item (part at end text)) → r ≡ token_at text at
      name_at e end l r f = f ∙ rw (l, run_part is_name_byte text at h) (at_item (item_of_letter (get_or text at 0) (drop (at + 1) text) small e))

      module _ (e : byte_class (get_or text at 0) ≡ DIGIT) (end : ℕ) (l : end ≡ at + 1 + length (run is_digit (drop (at + 1) text))) where
        pub digits_at : run is_digit (part at end text) ≡ part at end text
        digits_at =
            let d = digit_is (get_or text at 0) (drop (at + 1) text) small e refl in
            rw (l, run_part is_digit text at h, run_yes is_digit (get_or text at 0) (run is_digit (drop (at + 1) text)) d)
            (ap (◌∷◌ (get_or text at 0)) (run_again is_digit (drop (at + 1) text)))

        pub number_at : (r : Answer) → r ≡ located at (number_item (part at end text) (drop end text)) → r ≡ token_at text at
        number_at r f =
            f
            ∙ rw (l, run_part is_digit text at h, ← drop-drop (length (run is_digit (drop (at + 1) text))) (at + 1) text)
            (at_item (item_of_digit (get_or text at 0) (drop (at + 1) text) small e))

      pub mark_at : byte_class (get_or text at 0) ≡ MARK → (c : ℕ) → c ≡ mark_class (get_or text at 0) → Found c 0 (at + 1) ≡ token_at text at
      unfolding located
      mark_at e c i = rw (i, ← add-zero (at + 1)) (at_item (item_of_mark (get_or text at 0) (drop (at + 1) text) small e))

      module _ {c : ℕ} (i : c ≡ byte_class (get_or text at 0)) where
        pub nothing_at : (c ≡ LETTER → ⊥) → (c ≡ DIGIT → ⊥) → (c ≡ MARK → ⊥) → (c ≡ BLANK → ⊥) → (c ≡ HASH → ⊥) → Bad ≡ token_at text at
        unfolding located
        nothing_at l d m s k =
            let other = item_of_other (get_or text at 0) (drop (at + 1) text) small in
            at_item (other (λ e. l (i ∙ e)) (λ e. d (i ∙ e)) (λ e. m (i ∙ e)) (λ e. s (i ∙ e)) (λ e. k (i ∙ e)))

    -- and what it makes of the tokens

    from_byte : tokens_from 0 at (drop at text)
        ≡ taken (item (get_or text at 0) (drop (at + 1) text)) at (get_or text at 0) (drop (at + 1) text) (λ more. tokens_from more (at + 1) (drop (at + 1) text))
    unfolding tokens_from
    from_byte = rw (byte_at text at h)

    item_says : (i : Lexeme) → item (get_or text at 0) (drop (at + 1) text) ≡ i → Reaches (length (drop (at + 1) text)) i → AnswerSays text at (located at i)
    unfolding located taken
    item_says (gap more) e k = (
      omega arith,
      omega (arith, length-drop (at + 1) text),
      (rw e at from_byte) ∙ tokens_on text (at + 1) more,
    )
    item_says (found c v more) e k =
        let n : at + 1 + more - at ≡ suc more = omega arith in (
          omega arith,
          omega (arith, length-drop (at + 1) text),
          omega arith,
          (rw e at from_byte) ∙ rw (n, byte_at text at h) (ap (add_token _) (tokens_on text (at + 1) more)),
        )
    item_says bad e k = (h, rw e at from_byte)

  pub answer_says : AnswerSays text at (token_at text at)
  unfolding tokens_from
  answer_says = go (ltb at (length text)) refl
    where
      go : (t : Bool) → ltb at (length text) ≡ t → AnswerSays text at (token_at text at)
      go true e =
          let h = ltb-true at (length text) e in
          rw (at_byte h) (item_says h (item (get_or text at 0) (drop (at + 1) text)) refl (item_reaches (get_or text at 0) (drop (at + 1) text)))
      go false e =
          let h = ltb-false at (length text) e in
          rw (← at_end h) (h, rw (drop_of_length-le text {i = at} h))

  -- the offset after an answer is the one after what begins here
  pub after_answer : {a : Answer} → token_at text at ≡ a → after at a ≡ offset_after text at
  unfolding offset_after
  after_answer e = sym (ap (after at) e)
