-- The last number of the sender at a place of a state in memory, and whether a line is the one that was sent last.
use Prim.Native.Nat.{ℕ, ◌+◌, ◌≤◌, ◌<◌}
use native.Mathlib.Omega.{arith}
use mathlib.Core.Path.{◌≡◌, sym, ap, ◌∙◌}
use mathlib.Core.Bool.{Bool, true, false}
use mathlib.Core.List.{List}
use lib.Dec.{eqb}
use lib.Ieee.Bits.{is_true}
use lib.ListN.{get_or, drop}
use lib.Seq.{drop-drop}
use borrow.Author.Tests.{eq-eqb, ne_eqb}
use Rattle.values.specs.definitions.Bytes.{word_at}
use Rattle.text.specs.definitions.Syntax.{File}
use Rattle.cycles.specs.definitions.Planes.{entity_count}
use Rattle.cycles.proofs.laws.TableLaws.{word_drop}
use Rattle.senders.specs.definitions.Sender.{Sender, State, Line, is_known_sender, unknown, kept}
use Rattle.senders.specs.definitions.Line.{same_inputs, is_resent}
use Rattle.senders.specs.definitions.StateImage.{image_size, known_count, kept_plane, decode_inputs, decode_sender}
use Rattle.senders.specs.inner_contracts.SenderMemory.{place}
use Rattle.senders.specs.inner_contracts.Judging.{SameRead}
use Rattle.senders.specs.inner_contracts.Advancing.{LastRead, ResentRead}
use Rattle.senders.proofs.laws.SenderLaws.{below_known, last_unknown}
use Rattle.senders.proofs.laws.SenderImage.{part_passes}
use Rattle.senders.proofs.laws.StateCanonical.{known_is, sender_tested, kept_stands, unknown_stands}

-- ---- the last number

module _ {state : List ℕ} {n at : ℕ} where
  pub last_unknown_read : known_count state ≤ at → LastRead state n at 0
  unfolding unknown
  last_unknown_read g = record {
    is = λ f e print s h name q. ap (λ (x : Sender). x.last) (sym (unknown_stands print f state h name (omega arith)));
  }

  -- the number stands 25 bytes after the part's begin
  pub last_known_read : {memory : List ℕ} {from r : ℕ} → at < known_count state → from ≡ image_size n at → memory ≡ drop (from + 25) state
      → r ≡ word_at 4 memory 0 → LastRead state n at r
  unfolding decode_sender
  last_known_read {memory} {from} {r} g start there number = record {
    is = λ f e print s h name q.
        let here : from ≡ image_size (entity_count f) (place name s.senders) =
        start ∙ ap (λ (k : ℕ). image_size k at) (sym e) ∙ ap (image_size (entity_count f)) q in
        number
        ∙ ap (λ (l : List ℕ). word_at 4 l 0) (there ∙ sym (drop-drop 25 from state))
        ∙ word_drop 4 25 (drop from state) 0
        ∙ ap (λ (k : ℕ). word_at 4 (drop k state) 25) here
        ∙ ap (λ (x : Sender). x.last) (sym (kept_stands print f state h name (omega arith)));
  }

-- ---- a line that is sent again

module _ (f : File) (s : State) (l : Line) where
  resent_unknown : is_known_sender l.sender s.senders ≡ false → false ≡ is_resent f s l
  unfolding is_resent
  resent_unknown h = rw h

  resent_other : is_known_sender l.sender s.senders ≡ true → eqb l.number (kept l.sender s.senders).last ≡ false → false ≡ is_resent f s l
  unfolding is_resent
  resent_other h g = rw (h, g)

  resent_same : is_known_sender l.sender s.senders ≡ true → eqb l.number (kept l.sender s.senders).last ≡ true
      → same_inputs f (kept l.sender s.senders).inputs l.inputs ≡ is_resent f s l
  unfolding is_resent
  resent_same h g = rw (h, g)

module _ {classes d state : List ℕ} {at number : ℕ} {flags cells : List ℕ} where
  pub resent_not_known : known_count state ≤ at → ResentRead classes d state at number flags cells false
  resent_not_known g = record {
    is = λ text offsets lengths w c print s h l q numbered stand.
        let k = known_is print w.file state h in
        resent_unknown w.file s l (last_unknown l.sender s.senders (omega arith));
  }

  module _ {n last : ℕ} (count : n ≡ get_or d 1 0) (g : at < known_count state) (p : LastRead state n at last) where
    pub resent_not_last : (number ≡ last → ⊥) → ResentRead classes d state at number flags cells false
    resent_not_last differs = record {
      is = λ text offsets lengths w c print s h l q numbered stand.
          let k = known_is print w.file state h in
          let z = p.is w.file (sym (count ∙ w.directory.entities)) print s h l.sender q in
          resent_other w.file s l (below_known l.sender s.senders (omega arith))
          (ne_eqb l.number (kept l.sender s.senders).last (λ e. differs (sym numbered ∙ e ∙ sym z)));
    }

    -- the readings stand 29 bytes after the part's begin
    pub resent_read : {plane : List ℕ} {from : ℕ} {r : Bool} → number ≡ last → from ≡ image_size n at → plane ≡ drop (from + 29) state
        → SameRead classes d plane flags cells r → ResentRead classes d state at number flags cells r
    unfolding decode_sender
    resent_read {plane} {from} {r} same start there read = record {
      is = λ text offsets lengths w c print s h l q numbered stand.
          let f = w.file in
          let e : n ≡ entity_count f = count ∙ w.directory.entities in
          let k = known_is print f state h in
          let z = p.is f (sym e) print s h l.sender q in
          let here : from ≡ image_size (entity_count f) (place l.sender s.senders) =
          start ∙ ap (λ (k : ℕ). image_size k at) e ∙ ap (image_size (entity_count f)) q in
          let part = drop (image_size (entity_count f) (place l.sender s.senders)) state in
          let stands : plane ≡ kept_plane part =
          there ∙ sym (drop-drop 29 from state) ∙ ap (λ (k : ℕ). drop 29 (drop k state)) here in
          let tested = (part_passes f part (sender_tested print f state h (place l.sender s.senders) (omega arith))).plane in
          read.is text offsets lengths w c (rw stands (is_true _ tested)) l.inputs stand
          ∙ ap (λ (m : List ℕ). same_inputs f (decode_inputs f m) l.inputs) stands
          ∙ ap (λ (x : Sender). same_inputs f x.inputs l.inputs) (sym (kept_stands print f state h l.sender (omega arith)))
          ∙ resent_same f s l (below_known l.sender s.senders (omega arith))
          (eq-eqb l.number (kept l.sender s.senders).last (numbered ∙ same ∙ z));
    }
