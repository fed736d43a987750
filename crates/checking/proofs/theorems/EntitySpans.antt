-- Where an entity's name stands in a text: a part of the text whose bytes are the name, for every text and number.
use Prim.Native.Nat.{ℕ, zero, suc, ◌+◌, ◌≤◌}
use native.Mathlib.Omega.{arith}
use mathlib.Core.Path.{◌≡◌, refl, sym, ap, ◌∙◌, subst}
use mathlib.Core.Bool.{Bool, true, false}
use mathlib.Core.List.{List, [], ◌∷◌}
use mathlib.Core.Option.{Option, none, some}
use lib.Dec.{ltb}
use lib.ListN.{length, get_elem?, take, drop}
use lib.Seq.{take-append_seam}
use borrow.Author.Tests.{ltb-true, ltb-false}
use Rattle.text.specs.definitions.Tokens.{Token}
use Rattle.text.specs.definitions.Syntax.{Name, Entity, File}
use Rattle.text.specs.definitions.Readers.{Parse, read, unfit_after}
use Rattle.text.specs.definitions.Grammar.{name_of, file_reader}
use Rattle.text.specs.definitions.Parse.{grammatical, ended, parsed, parse}
use Rattle.text.proofs.laws.ListLaws.{none_some, some_injective}
use Rattle.text.proofs.laws.SpotLaws.{Spots, over, skip, spot, stands_drop}
use Rattle.text.proofs.laws.FlatLaws.{file_marks, file_entities}
use Rattle.text.proofs.laws.TokenFacts.{InText, token_in_text}
use Rattle.checking.specs.declared.names.Span.{Span}
use Rattle.checking.specs.definitions.Verdict.{accepted, MOST_BYTES, verdict, accepted_file, nth_entity, entity_of, name_if_found, entity_name}
use Rattle.checking.specs.definitions.EntitySpan.{no_span, name_span, span_if_found, entity_span, NoEntity}
use Rattle.checking.proofs.laws.VerdictLaws.{accepted_length, accepted_is_file, file_is_accepted}
use Rattle.checking.proofs.laws.AcceptedLaws.{accepted_parsed}
use Rattle.checking.proofs.laws.DirectoryLaws.{number_beyond, number_inside}

-- ---- a name in the tree of an accepted text is a token of the text

parsed_read : (end : ℕ) (ts : List Token) (f : File) → parse end ts ≡ grammatical f → (n : ℕ) × (file_reader ts ≡ read f n)
unfolding parse parsed ended
parsed_read end ts f h = go (file_reader ts) refl h
  where
    whole : (g : File) (n : ℕ) (rest : List Token) → file_reader ts ≡ read g n → ended end g rest ≡ grammatical f → (n : ℕ) × (file_reader ts ≡ read f n)
    whole g n [] q e = let same : g ≡ f = cc in (n, q ∙ ap (λ x. read x n) same)
    whole g n (t ∷ rest) q e = let z : ◌≡◌ {A = ℕ} 0 1 = cc in absurd (omega arith)

    go : (p : Parse File) → file_reader ts ≡ p → parsed end ts p ≡ grammatical f → (n : ℕ) × (file_reader ts ≡ read f n)
    go (unfit_after n) q e = let z : ◌≡◌ {A = ℕ} 0 1 = cc in absurd (omega arith)
    go (read g n) q e = whole g n (drop n ts) q e

-- the item with that number, at its token
spot_of : {X : Type 0} {ts : List Token} {wanted : ℕ → Bool} {at : ℕ → X → Type 0} {p q : ℕ} {xs : List X} → Spots ts wanted at p q xs
    → (k : ℕ) {x : X} → get_elem? xs k ≡ some x → (i : ℕ) × at i x
spot_of over k e = absurd (none_some e)
spot_of (skip t s w h) k e = spot_of h k e
spot_of {at = at} (spot {p = p} t s w a h) zero e = (p, subst (at p) (some_injective e) a)
spot_of (spot t s w a h) (suc k) e = spot_of h k e

record TokenNamed (text : List ℕ) (n : Name) : Type 0 where
  token : Token
  in_text : InText text token
  is : name_of token ≡ n

entity_token : (text : List ℕ) (f : File) → verdict text ≡ accepted f → (k : ℕ) (x : Entity) → get_elem? f.entities k ≡ some x
    → TokenNamed text x.name
entity_token text f h k x s =
    let p = accepted_parsed text f h in
    let (n, r) = parsed_read (length text) p.read f p.parsed in
    let (i, a) = spot_of (file_entities (file_marks p.read f n r)) k s in
    let t = a.name in
    record {
      token = t.token;
      in_text = token_in_text text p.read p.lexed (suc i) t.token (drop (suc (suc i)) p.read) (stands_drop p.read (suc i) t.stands);
      is = t.is;
    }

-- ---- the part of the text

-- the part s of a text has these bytes, and its offset and length are small enough to stand in one number
pub record Spans (text : List ℕ) (s : Span) (bytes : List ℕ) : Type 0 where
  pub within : s.at + s.length ≤ length text
  pub offset : s.at ≤ MOST_BYTES
  pub at_most_24 : s.length ≤ 24
  pub is : take s.length (drop s.at text) ≡ bytes

no_bytes : (text : List ℕ) → Spans text no_span []
no_bytes text = record { within = omega arith; offset = omega arith; at_most_24 = omega arith; is = refl }

token_spans : (text : List ℕ) (n : Name) → length text ≤ MOST_BYTES → TokenNamed text n → Spans text (name_span n) n.bytes
unfolding name_of
token_spans text n short t =
    subst (λ m. Spans text (name_span m) m.bytes) t.is (record {
      within = t.in_text.within;
      offset = omega (arith, t.in_text.within);
      at_most_24 = t.in_text.at_most_24;
      is = ap (take (length t.token.bytes)) t.in_text.stands ∙ take-append_seam t.token.bytes (drop (t.token.at + length t.token.bytes) text);
    })

-- "An entity's name .. is a part of the bench text"
pub entity_spans : (text : List ℕ) (n : ℕ) → Spans text (entity_span text n) (entity_name text n)
unfolding entity_span entity_name entity_of nth_entity span_if_found name_if_found
entity_spans text n = go (accepted_file text) refl
  where
    by_entity : (f : File) → verdict text ≡ accepted f → (o : Option Entity) → get_elem? f.entities n ≡ o → Spans text (span_if_found o) (name_if_found o)
    by_entity f h none e = no_bytes text
    by_entity f h (some x) e = token_spans text x.name (accepted_length text h) (entity_token text f h n x e)

    go : (o : Option File) → accepted_file text ≡ o → Spans text (span_if_found (nth_entity o n)) (name_if_found (nth_entity o n))
    go none e = no_bytes text
    go (some f) e = by_entity f (file_is_accepted text e) (get_elem? f.entities n) refl

-- the same of what a function answers
pub span_spans : (text : List ℕ) (n : ℕ) {s : Span} → s ≡ entity_span text n → Spans text s (entity_name text n)
span_spans text n e = subst (λ s. Spans text s (entity_name text n)) (sym e) (entity_spans text n)

-- ---- "empty if there is none or the text is refused", and only then

module _ (text : List ℕ) (n : ℕ) where
  span_of : (f : File) → verdict text ≡ accepted f → entity_span text n ≡ span_if_found (get_elem? f.entities n)
  unfolding entity_span entity_of nth_entity
  span_of f h = ap (λ (o : Option File). span_if_found (nth_entity o n)) (accepted_is_file text h)

  pub no_entity_span : NoEntity text n → entity_span text n ≡ no_span
  unfolding entity_span entity_of nth_entity span_if_found
  no_entity_span k = go (accepted_file text) refl
    where
      go : (o : Option File) → accepted_file text ≡ o → span_if_found (nth_entity o n) ≡ no_span
      go none e = refl
      go (some f) e = ap span_if_found (number_beyond f.entities n (k f (file_is_accepted text e)))

  pub empty_span : (entity_span text n).length ≡ 0 → NoEntity text n
  unfolding span_if_found name_of
  empty_span e f h = go (ltb n (length f.entities)) refl
    where
      go : (b : Bool) → ltb n (length f.entities) ≡ b → length f.entities ≤ n
      go false q = ltb-false n (length f.entities) q
      go true q =
          let (x, s) = number_inside f.entities n (ltb-true n (length f.entities) q) in
          let t = entity_token text f h n x s in
          let none_left : length x.name.bytes ≡ 0 = ap (λ (a : Span). a.length) (sym (span_of f h ∙ ap span_if_found s)) ∙ e in
          let same : length t.token.bytes ≡ length x.name.bytes = ap (λ (m : Name). length m.bytes) t.is in
          absurd (omega (arith, t.in_text.not_empty))
