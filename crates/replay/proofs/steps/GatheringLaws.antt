-- A line over chunks: up to its line feed, and as many bytes as there is room for.
use Prim.Native.Nat.{ℕ, suc, ◌+◌, ◌-◌, min, ◌≤◌, ◌<◌}
use native.Mathlib.Omega.{arith}
use mathlib.Core.Path.{◌≡◌, refl, sym, ap, ◌∙◌, subst}
use mathlib.Core.List.{List, [], ◌∷◌, ◌++◌, append_assoc}
use mathlib.Core.Bool.{Bool, true, false, not}
use lib.ListN.{length, get_or, take, drop}
use lib.Seq.{length-take-le, take_all, take_at, take-append-add}
use lib.Dec.{eqb, ltb, leb}
use borrow.Author.Tests.{eqb-true, leb-true, leb-false}
use Rattle.std.specs.Prelude.{Option, Some, None, cond, MatchOption}
use Rattle.std.specs.Option.{unwrap_or}
use Rattle.std.specs.List.{position, position_or_len}
use Rattle.std.proofs.lemmas.Bool.{ltb-true, ltb-false}
use Rattle.std.proofs.lemmas.List.{take-append-drop}
use Rattle.cycles.specs.definitions.Readings.{PartOfLine}
use Rattle.cycles.proofs.laws.ReadingsLaws.{part_append, part_take}
use Rattle.replay.specs.inner_contracts.Awaiting.{to_print, left_after, Memory, Stood}
use Rattle.replay.specs.declared.Stage.{Stage}
use Rattle.replay.specs.inner_contracts.Feeding.{LINE, kept, Kept, Gathers, LineGathered, GathersOn, LineGatheredOn}
use Rattle.replay.proofs.laws.AwaitingLaws.{print_cut, left_cut}

-- ---- the first line feed

abbrev end_of : List ℕ → ℕ
end_of chunk = position_or_len (λ b. eqb b 10) chunk

pub part_before : (chunk : List ℕ) → PartOfLine (take (end_of chunk) chunk)
part_before [] = tt
part_before (b ∷ l) = go (part_before l) (eqb b 10) refl
  where
    go : PartOfLine (take (end_of l) l) → (c : Bool) → eqb b 10 ≡ c → PartOfLine (take (cond (not c) (1 + end_of l) 0) (b ∷ l))
    go p true e = tt
    go p false e = let z : suc (end_of l) ≡ 1 + end_of l = omega arith in subst (λ (n : ℕ). PartOfLine (take n (b ∷ l))) z (e, p)

pub feed_there : (chunk : List ℕ) → end_of chunk < length chunk → get_or chunk (end_of chunk) 0 ≡ 10
feed_there [] h = absurd (omega arith)
feed_there (b ∷ l) h = go (feed_there l) (eqb b 10) refl h
  where
    go : (end_of l < length l → get_or l (end_of l) 0 ≡ 10) → (c : Bool) → eqb b 10 ≡ c → cond (not c) (1 + end_of l) 0 < suc (length l)
        → get_or (b ∷ l) (cond (not c) (1 + end_of l) 0) 0 ≡ 10
    go p true e h = eqb-true b 10 e
    go p false e h =
        let z : suc (end_of l) ≡ 1 + end_of l = omega arith in subst (λ (n : ℕ). get_or (b ∷ l) n 0 ≡ 10) z (p (omega arith))

-- ---- bytes are kept

pub kept_same : {m n : Memory} {bytes : List ℕ} → Kept m bytes n → n.text ≡ m.text
kept_same k = ap (λ (x : Memory). x.text) k.is

module _ {m n : Memory} (chunk : List ℕ) (end : ℕ) (k : Kept m (take end chunk) n) (piece : PartOfLine (take end chunk)) where
  all : PartOfLine (m.waiting ++ take end chunk)
  all = part_append m.waiting (take end chunk) k.part piece

  joined_up : (rest : List ℕ) → m.waiting ++ (chunk ++ rest) ≡ (m.waiting ++ take end chunk) ++ (drop end chunk ++ rest)
  joined_up rest =
      ap (λ (t : List ℕ). m.waiting ++ (t ++ rest)) (sym (take-append-drop end chunk))
      ∙ ap (λ (t : List ℕ). m.waiting ++ t) (append_assoc (take end chunk) (drop end chunk) rest)
      ∙ sym (append_assoc m.waiting (take end chunk) (drop end chunk ++ rest))

  pub gathered : Gathers m chunk end n
  gathered = rw k.is (record {
    part = part_take LINE (m.waiting ++ take end chunk) all;
    stands = λ a s. s;
    is = λ a rest. ap (to_print a) (joined_up rest) ∙ print_cut LINE (omega arith) a (m.waiting ++ take end chunk) (drop end chunk ++ rest) all;
    left = λ a rest. ap (left_after a) (joined_up rest) ∙ left_cut LINE (omega arith) a (m.waiting ++ take end chunk) (drop end chunk ++ rest) all;
  })

  -- .. on one bench
  pub gathered_on : GathersOn m chunk end n
  gathered_on = record { same = kept_same k; gathers = gathered }

-- what waits is still a part of a line
pub kept_stood : {m : Memory} (bytes : List ℕ) → Stood m → PartOfLine bytes → Stood (kept m bytes)
kept_stood {m} bytes s p =
    record { awaits = s.awaits; stands = s.stands; part = part_take LINE (m.waiting ++ bytes) (part_append m.waiting bytes s.part p) }

-- as many bytes of them as there is room for
pub kept_waits : (line bytes mid rest : List ℕ) (kept n : ℕ) → kept ≤ length line → length line ≡ LINE → n ≡ min (length bytes) (32769 - kept)
    → mid ≡ take n bytes → take (kept + n) (take kept line ++ (mid ++ rest)) ≡ take LINE (take kept line ++ bytes)
kept_waits line bytes mid rest kept n h long least e =
    ap (λ (k : ℕ). take (k + n) (take kept line ++ (mid ++ rest))) (sym front)
    ∙ take-append-add (take kept line) (mid ++ rest) n
    ∙ ap (λ (t : List ℕ). take kept line ++ t)
    (take_at mid rest n (ap length e ∙ length-take-le n bytes (omega arith)) ∙ e ∙ go (leb (length bytes) (32769 - kept)) refl)
    ∙ sym (take-append-add (take kept line) bytes (32769 - kept))
    ∙ ap (λ (k : ℕ). take k (take kept line ++ bytes)) all_room
  where
    front : length (take kept line) ≡ kept
    front = length-take-le kept line h

    all_room : length (take kept line) + (32769 - kept) ≡ LINE
    all_room = omega (arith, front)

    go : (b : Bool) → leb (length bytes) (32769 - kept) ≡ b → take n bytes ≡ take (32769 - kept) bytes
    go true i =
        let k = leb-true (length bytes) (32769 - kept) i in
        take_all n bytes (omega arith) ∙ sym (take_all (32769 - kept) bytes k)
    go false i =
        let k = leb-false (length bytes) (32769 - kept) i in
        let z : n ≡ 32769 - kept = omega arith in
        ap (λ (x : ℕ). take x bytes) z

pub kept_put : {text columns state bytes mid : List ℕ} {stage : Stage} (line rest : List ℕ) {at n : ℕ} → at ≤ LINE → length line ≡ LINE
    → n ≡ min (length bytes) (32769 - at) → mid ≡ take n bytes → PartOfLine (take at line)
    → Kept (record { text = text; stage = stage; columns = columns; waiting = take at line; state = state }) bytes
    (record { text = text; stage = stage; columns = columns; waiting = take (at + n) (take at line ++ (mid ++ rest)); state = state })
kept_put {text} {columns} {state} {bytes} {mid} {stage} line rest {at} {n} h long least e part = record {
  part = part;
  is =
      ap (λ (w : List ℕ). record { text = text; stage = stage; columns = columns; waiting = w; state = state })
      (kept_waits line bytes mid rest at n (omega arith) long least e);
}

pub put_stood : {text columns state mid : List ℕ} {stage : Stage} (line bytes rest : List ℕ) {at n : ℕ} → at ≤ LINE → length line ≡ LINE
    → n ≡ min (length bytes) (32769 - at) → mid ≡ take n bytes → PartOfLine bytes
    → Stood (record { text = text; stage = stage; columns = columns; waiting = take at line; state = state })
    → Stood (record { text = text; stage = stage; columns = columns; waiting = take (at + n) (take at line ++ (mid ++ rest)); state = state })
put_stood line bytes rest h long least e piece s =
    subst Stood (sym (kept_put line rest h long least e s.part).is) (kept_stood bytes s piece)

-- up to a line feed, and all of a chunk that has none
pub line_gathered : {m n : Memory} {chunk : List ℕ} → end_of chunk < length chunk → Kept m (take (end_of chunk) chunk) n
    → LineGathered m chunk n (end_of chunk)
line_gathered {chunk = chunk} h k =
    record { inside = h; feeds = feed_there chunk h; gathers = gathered chunk (end_of chunk) k (part_before chunk) }

pub chunk_gathered : {m n : Memory} {chunk : List ℕ} → length chunk ≤ end_of chunk → Kept m (take (length chunk) chunk) n
    → Gathers m chunk (length chunk) n
chunk_gathered {chunk = chunk} h k =
    gathered chunk (length chunk) k
    (subst PartOfLine (take_all (end_of chunk) chunk h ∙ sym (take_all (length chunk) chunk (omega arith))) (part_before chunk))

-- .. on one bench
pub line_gathered_on : {m n : Memory} {chunk : List ℕ} → end_of chunk < length chunk → Kept m (take (end_of chunk) chunk) n
    → LineGatheredOn m chunk n (end_of chunk)
line_gathered_on h k = record { same = kept_same k; line = line_gathered h k }

pub chunk_gathered_on : {m n : Memory} {chunk : List ℕ} → length chunk ≤ end_of chunk → Kept m (take (length chunk) chunk) n
    → GathersOn m chunk (length chunk) n
chunk_gathered_on h k = record { same = kept_same k; gathers = chunk_gathered h k }

-- .. as the search for one says
module _ (chunk : List ℕ) {end : Option ℕ} (e : end ≡ position (λ b. eqb b 10) chunk) {r : ℕ} (i : r ≡ unwrap_or end (length chunk)) where
  found : (b : Bool) → ltb (end_of chunk) (length chunk) ≡ b → end ≡ cond b (Some (end_of chunk)) None
  found b h = e ∙ ap (λ (x : Bool). cond x (Some (end_of chunk)) None) h

  pub piece_kept : PartOfLine (take r chunk)
  piece_kept = go (ltb (end_of chunk) (length chunk)) refl
    where
      go : (b : Bool) → ltb (end_of chunk) (length chunk) ≡ b → PartOfLine (take r chunk)
      go true h = rw (i, found true h) (part_before chunk)
      go false h =
          rw (i, found false h)
          (subst PartOfLine (take_all (end_of chunk) chunk (ltb-false (end_of chunk) (length chunk) h) ∙ sym (take_all (length chunk) chunk (omega arith)))
          (part_before chunk))

  pub gathers : {m n : Memory} → Kept m (take r chunk) n → MatchOption end (Gathers m chunk (length chunk) n) (LineGathered m chunk n)
  gathers {m} {n} k = go (ltb (end_of chunk) (length chunk)) refl
    where
      go : (b : Bool) → ltb (end_of chunk) (length chunk) ≡ b → MatchOption end (Gathers m chunk (length chunk) n) (LineGathered m chunk n)
      go true h =
          let j : r ≡ end_of chunk = i ∙ rw (found true h) refl in
          rw (found true h) (line_gathered (ltb-true (end_of chunk) (length chunk) h) (subst (λ (x : ℕ). Kept m (take x chunk) n) j k))
      go false h =
          let j : r ≡ length chunk = i ∙ rw (found false h) refl in
          rw (found false h) (chunk_gathered (ltb-false (end_of chunk) (length chunk) h) (subst (λ (x : ℕ). Kept m (take x chunk) n) j k))

  -- .. on one bench
  pub gathers_on : {m n : Memory} → Kept m (take r chunk) n → MatchOption end (GathersOn m chunk (length chunk) n) (LineGatheredOn m chunk n)
  gathers_on {m} {n} k = go end (gathers k)
    where
      go : (o : Option ℕ) → MatchOption o (Gathers m chunk (length chunk) n) (LineGathered m chunk n)
          → MatchOption o (GathersOn m chunk (length chunk) n) (LineGatheredOn m chunk n)
      go None g = record { same = kept_same k; gathers = g }
      go (Some at) l = record { same = kept_same k; line = l }
