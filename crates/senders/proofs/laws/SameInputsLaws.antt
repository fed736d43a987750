-- The same readings are the same bytes: those of a plane that is kept of a line, and those of a line's inputs in memory.
use Prim.Native.Nat.{ℕ, zero, suc, ◌+◌, ◌*◌, ◌/◌, ◌%◌, ◌≤◌, ◌<◌}
use native.Mathlib.Omega.{arith}
use mathlib.Core.Path.{◌≡◌, refl, sym, ap, ap₂, ◌∙◌, subst}
use mathlib.Core.Bool.{Bool, true, false, cond, ◌&&◌, ◌||◌, false≢true}
use mathlib.Core.List.{List, ◌∷◌, ◌++◌}
use mathlib.Core.Option.{Option, none, some}
use lib.Dec.{T, ltb, eqb, ltb→lt}
use lib.Ieee.Bits.{is_true}
use lib.ListN.{length, get_or, take, drop, length-drop}
use lib.Seq.{take_at}
use borrow.Author.Tests.{lt-ltb}
use Rattle.values.specs.declared.Value.{Value}
use Rattle.values.specs.declared.Kind.{Kind}
use Rattle.values.specs.definitions.Bytes.{same_bytes, word_at}
use Rattle.values.specs.definitions.Cells.{identical}
use Rattle.values.specs.definitions.Storable.{storable}
use Rattle.values.proofs.laws.ByteLaws.{same_bytes_self, same_bytes_equal}
use Rattle.values.proofs.laws.CellLaws.{identical_self, identical_same}
use Rattle.text.specs.definitions.Syntax.{Sort, attribute, event, action, Member, File}
use Rattle.text.proofs.laws.ListLaws.{some_injective, none_some}
use Rattle.checking.specs.definitions.Scope.{member_of, is_action}
use Rattle.checking.proofs.laws.WithinCounts.{WithinCounts}
use Rattle.cycles.specs.definitions.Store.{Inputs}
use Rattle.cycles.specs.definitions.Cycle.{is_sort}
use Rattle.cycles.specs.definitions.Planes.{
  entity_count,
  plane_size,
  presence_flag,
  input_bytes,
  presence_of,
  input_of,
  input_at,
  cells_of,
  each,
  kept_fits,
  flags_below,
  cells_fit,
  plane_fits,
}
use Rattle.cycles.specs.inner_contracts.LineReads.{presence_table, input_table}
use Rattle.cycles.specs.definitions.SoundStores.{SoundInputs}
use Rattle.cycles.proofs.laws.TableLaws.{each_at, table_flag, table_from, begins_with}
use Rattle.cycles.proofs.laws.CellFits.{EventValue, input_read, blank_none, else_blank, reading_sound}
use Rattle.cycles.proofs.laws.CanonicalLaws.{first_byte, word_bytes, kept_packed, bytes_behind}
use Rattle.cycles.proofs.laws.PlaneParts.{presence_piece, presence_sized, input_piece, input_sized, no_reading}
use Rattle.cycles.proofs.laws.PlaneLaws.{plane_flags_below, plane_cells_fit}
use Rattle.senders.specs.definitions.Line.{same_presence, same_given, same_inputs}
use Rattle.senders.specs.definitions.StateImage.{takes_readings, decode_inputs}
use Rattle.senders.specs.inner_contracts.Judging.{same_cell, InputsStand}
use Rattle.senders.proofs.laws.TestLaws.{same_truth, each_same, every_numbered, every_cell, same_front}

-- ---- the tests of one presence and of one reading

-- a flag, and the presence that it stands for
presence_compared : (a : ℕ) → a < 3 → (o : Option Bool) → eqb a (get_or (presence_flag o) 0 0) ≡ same_presence (presence_of a) o
unfolding same_presence
presence_compared zero h none = refl
presence_compared zero h (some true) = refl
presence_compared zero h (some false) = refl
presence_compared (suc zero) h none = refl
presence_compared (suc zero) h (some true) = refl
presence_compared (suc zero) h (some false) = refl
presence_compared (suc (suc zero)) h none = refl
presence_compared (suc (suc zero)) h (some true) = refl
presence_compared (suc (suc zero)) h (some false) = refl
presence_compared (suc (suc (suc a))) h o = absurd (omega arith)

-- a reading that a cell can hold
abbrev Held : Option Value → Type 0
Held o = (v : Value) → o ≡ some v → (k : Kind) × T (storable k v)

pub same_given_self : (o : Option Value) → T (same_given o o)
unfolding same_given
same_given_self none = tt
same_given_self (some v) = rw (identical_self v) tt

same_given_equal : (o p : Option Value) → Held o → Held p → T (same_given o p) → o ≡ p
unfolding same_given
same_given_equal none none s t h = refl
same_given_equal (some a) (some b) s t h =
    let (j, x) = s a refl in
    let (k, y) = t b refl in
    ap some (identical_same j k a b x y (is_true (identical a b) h))
same_given_equal none (some b) s t h = elim h [ ]
same_given_equal (some a) none s t h = elim h [ ]

-- compared by their bytes
pub given_compared : (o p : Option Value) → Held o → Held p → same_bytes (input_bytes o) (input_bytes p) ≡ same_given o p
given_compared o p s t =
    same_truth (same_bytes (input_bytes o) (input_bytes p)) (same_given o p)
    (λ h.
    let e = same_bytes_equal (input_bytes o) (input_bytes p) (is_true (same_bytes (input_bytes o) (input_bytes p)) h) in
    let q : o ≡ p = sym (input_read o s) ∙ ap (λ (l : List ℕ). input_at l 0) e ∙ input_read p t in
    subst (λ (x : Option Value). T (same_given o x)) q (same_given_self o))
    (λ h. subst (λ (x : Option Value). T (same_bytes (input_bytes o) (input_bytes x))) (same_given_equal o p s t h) (rw (same_bytes_self (input_bytes o)) tt))

-- ---- one cell that is kept

neither : (o : Option Member) → is_sort is_action o ≡ false → is_sort takes_readings o ≡ false → (x : Member) → o ≡ some x → x.sort ≡ attribute
unfolding is_sort is_action
neither none a e x q = absurd (none_some q)
neither (some y) a e x q = subst (λ (z : Member). z.sort ≡ attribute) (some_injective q) (by_sort y.sort a e)
  where
    by_sort : (s : Sort) → is_action s ≡ false → takes_readings s ≡ false → s ≡ attribute
    by_sort attribute a e = refl
    by_sort event a e = absurd (false≢true (sym e))
    by_sort action a e = absurd (false≢true (sym a))

no_event : (o : Option Member) → is_sort is_action o ≡ true → is_sort takes_readings o ≡ false
unfolding is_sort is_action
no_event none a = refl
no_event (some y) a = by_sort y.sort a
  where
    by_sort : (s : Sort) → is_action s ≡ true → takes_readings s ≡ false
    by_sort attribute a = refl
    by_sort event a = absurd (false≢true a)
    by_sort action a = refl

-- where there is no action, the reading of an event is the reading of its bytes, and elsewhere both are none
event_reading : (o : Option Member) (t w : ℕ) → is_sort is_action o ≡ false → T (kept_fits o t w) → input_of t w ≡ cond (is_sort takes_readings o) (input_of t w) none
event_reading o t w a h = go (is_sort takes_readings o) refl
  where
    go : (b : Bool) → is_sort takes_readings o ≡ b → input_of t w ≡ cond b (input_of t w) none
    go true e = refl
    go false e = blank_none t w (else_blank t w o (neither o a e) h)

-- an action has no reading
action_unread : (f : File) (i : Inputs) → SoundInputs f i → (e m : ℕ) → is_sort is_action (member_of f e m) ≡ true → i.given e m ≡ none
unfolding is_sort is_action
action_unread f i s e m a = go (i.given e m) (s.of_kind e m)
  where
    go : (o : Option Value) → ((v : Value) → o ≡ some v → EventValue (member_of f e m) v) → o ≡ none
    go none g = refl
    go (some v) g =
        let (x, p, q, r) = g v refl in
        absurd (false≢true (sym (ap (is_sort is_action) p ∙ ap is_action q) ∙ a))

-- ---- a plane that is kept, and a line's inputs

module _ (f : File) (w : WithinCounts f) (plane flags cells : List ℕ) (long : plane_size (entity_count f) ≤ length plane)
    (bytes : (k : ℕ) → get_or plane k 0 < 256) (fits : plane_fits 3 (λ present. kept_fits) f plane ≡ true) (i : Inputs)
    (stand : InputsStand f flags cells i) where
  abbrev n : ℕ
  n = entity_count f

  abbrev kept : List ℕ
  kept = cells_of n plane

  abbrev was : Inputs
  was = decode_inputs f plane

  passes : T (plane_fits 3 (λ present. kept_fits) f plane)
  passes = rw fits tt

  flags_begin : flags ≡ (presence_table i n) ++ drop n flags
  flags_begin = begins_with flags (presence_table i n) n stand.presence

  presence_same : (e : ℕ) → e < n → eqb (get_or plane e 0) (get_or flags e 0) ≡ same_presence (was.presence e) (i.presence e)
  unfolding decode_inputs flags_below
  presence_same e h =
      let low = ltb→lt (get_or plane e 0) 3
      (each_at (λ e. ltb (get_or plane e 0) 3) 0 n (plane_flags_below 3 (λ present. kept_fits) f plane passes) e (omega arith) (omega arith)) in
      let flag : get_or flags e 0 ≡ get_or (presence_flag (i.presence e)) 0 0 =
      ap (λ (l : List ℕ). get_or l e 0) flags_begin ∙ table_flag (presence_piece i.presence) (presence_sized i.presence) n e (drop n flags) h in
      rw (lt-ltb e n h, flag) (presence_compared (get_or plane e 0) low (i.presence e))

  module _ (k : ℕ) (h : k < 12 * n) where
    abbrev its_member : Option Member
    its_member = member_of f (k / 12) (k % 12)

    abbrev its_tag : ℕ
    its_tag = get_or kept (k * 9) 0

    abbrev its_word : ℕ
    its_word = word_at 8 kept (k * 9 + 1)

    cell_fits : T (kept_fits its_member its_tag its_word)
    unfolding cells_fit
    cell_fits =
        each_at (λ j. kept_fits (member_of f (j / 12) (j % 12)) (get_or kept (j * 9) 0) (word_at 8 kept (j * 9 + 1))) 0 (12 * n)
        (plane_cells_fit 3 (λ present. kept_fits) f plane passes) k (omega arith) (omega arith)

    was_given : was.given (k / 12) (k % 12) ≡ cond (is_sort takes_readings its_member) (input_of its_tag its_word) none
    unfolding decode_inputs
    was_given = let e : k / 12 * 12 + k % 12 ≡ k = omega arith in rw e

    line_bytes : take 9 (drop (k * 9) cells) ≡ input_bytes (i.given (k / 12) (k % 12))
    line_bytes =
        let table_is = begins_with cells (input_table i n) (108 * n) stand.given in
        let rest = drop (108 * n) cells in
        ap (λ (l : List ℕ). take 9 (drop (k * 9) l)) table_is
        ∙ ap (take 9) (table_from (input_piece i.given) 9 (input_sized i.given) (12 * n) k rest h)
        ∙ take_at (input_bytes (i.given (k / 12) (k % 12))) _ 9 (input_sized i.given k)

    module _ (a : is_sort is_action its_member ≡ false) where
      was_read : input_of its_tag its_word ≡ was.given (k / 12) (k % 12)
      was_read = event_reading its_member its_tag its_word a cell_fits ∙ sym was_given

      kept_bytes : take 9 (drop (k * 9) kept) ≡ input_bytes (was.given (k / 12) (k % 12))
      kept_bytes =
          let l = length-drop n plane in
          first_byte 8 kept (k * 9) (omega arith)
          ∙ ap (◌∷◌ its_tag) (sym (word_bytes 8 kept (k * 9 + 1) (omega arith) (bytes_behind plane bytes n)))
          ∙ sym (kept_packed its_member its_tag its_word a cell_fits)
          ∙ ap input_bytes was_read

      was_held : Held (was.given (k / 12) (k % 12))
      was_held v e = let (x, p, q, r) = reading_sound its_tag its_word its_member v a cell_fits (was_read ∙ e) in (x.kind, r)

      is_held : Held (i.given (k / 12) (k % 12))
      is_held v e = let (x, p, q, r) = stand.sound.of_kind (k / 12) (k % 12) v e in (x.kind, r)

      reading_same : same_bytes (take 9 (drop (k * 9) kept)) (take 9 (drop (k * 9) cells)) ≡ same_given (was.given (k / 12) (k % 12)) (i.given (k / 12) (k % 12))
      reading_same = ap₂ same_bytes kept_bytes line_bytes ∙ given_compared (was.given (k / 12) (k % 12)) (i.given (k / 12) (k % 12)) was_held is_held

    cell_same : same_cell kept cells f k ≡ same_given (was.given (k / 12) (k % 12)) (i.given (k / 12) (k % 12))
    unfolding same_cell same_given
    cell_same = go (is_sort is_action its_member) refl
      where
        go : (b : Bool) → is_sort is_action its_member ≡ b
            → (is_sort is_action its_member || same_bytes (take 9 (drop (k * 9) kept)) (take 9 (drop (k * 9) cells)))
            ≡ same_given (was.given (k / 12) (k % 12)) (i.given (k / 12) (k % 12))
        go true a = rw (a, was_given, no_event its_member a, action_unread f i stand.sound (k / 12) (k % 12) a)
        go false a = rw a (reading_same a)

  none_given : (e m : ℕ) → member_of f e m ≡ none → T (same_given (was.given e m) (i.given e m))
  unfolding decode_inputs same_given is_sort
  none_given e m q = rw (q, ← no_reading f i stand.sound e m q) tt

  -- the bytes of flags and cells are the same where the readings are
  pub same_read : n ≤ length flags
      → (same_bytes (take n plane) (take n flags) && each (same_cell kept cells f) 0 (12 * n)) ≡ same_inputs f was i
  unfolding same_inputs
  same_read l =
      ap₂ ◌&&◌
      (same_front plane flags 0 n (omega arith) (omega arith)
      ∙ each_same (λ e. eqb (get_or plane e 0) (get_or flags e 0)) (λ e. same_presence (was.presence e) (i.presence e)) 0 n (λ e a b. presence_same e (omega arith))
      ∙ sym (every_numbered (λ e. same_presence (was.presence e) (i.presence e)) 0 f.entities))
      (each_same (same_cell kept cells f) (λ k. same_given (was.given (k / 12) (k % 12)) (i.given (k / 12) (k % 12))) 0 (12 * n) (λ k a b. cell_same k (omega arith))
      ∙ sym (every_cell f w (λ e m. same_given (was.given e m) (i.given e m)) none_given))
