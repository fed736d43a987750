-- Putting the numbers of tokens into rows: one turn of the scan, and what the rows then have.
use Prim.Native.Nat.{ℕ, zero, suc, ◌+◌, ◌*◌, ◌-◌, ◌≤◌, ◌<◌}
use native.Mathlib.Nat.{add-zero}
use native.Mathlib.Numerals.{add-one}
use native.Mathlib.Omega.{arith}
use mathlib.Core.Path.{◌≡◌, refl, ap, ◌∙◌}
use mathlib.Core.Logic.{◌≢◌}
use mathlib.Core.Bool.{false, ◌&&◌}
use mathlib.Core.List.{List, [], ◌∷◌}
use lib.Dec.{leb}
use lib.ListN.{length, get_or, take, set, length-set, length-take}
use lib.Seq.{sets, length-sets, take-nil, get_or-take, get_or-set_same, get_or-set_other}
use borrow.Author.Count.{below_more}
use borrow.Author.Tests.{le-leb, lt-leb}
use Rattle.text.specs.definitions.Tokens.{ATTRIBUTE, ACTION, BRACE_CLOSE}
use Rattle.checking.specs.inner_contracts.TokenPlaces.{place_if, places, Marked, MembersAt, MembersMarked}
use Rattle.checking.specs.inner_contracts.ClassSearch.{FirstOf}

-- ---- rows after stores

module _ {A : Type 0} (x : A) where
  pub get_d_sets_before : (l : List A) (i : ℕ) (vs : List A) (j : ℕ) → j < i → get_or (sets l i vs) j x ≡ get_or l j x
  get_d_sets_before l i [] j h = refl
  get_d_sets_before l i (v ∷ vs) j h = get_d_sets_before (set l i v) (suc i) vs j (omega arith) ∙ get_or-set_other l i j v x (omega arith)

  pub getD_sets_after : (l : List A) (i : ℕ) (vs : List A) (j : ℕ) → i + length vs ≤ j → get_or (sets l i vs) j x ≡ get_or l j x
  getD_sets_after l i [] j h = refl
  getD_sets_after l i (v ∷ vs) j h = getD_sets_after (set l i v) (suc i) vs j (omega arith) ∙ get_or-set_other l i j v x (omega arith)

  pub getD_sets_at : (l : List A) (i : ℕ) (vs : List A) (j : ℕ) → j < length vs → i + j < length l → get_or (sets l i vs) (i + j) x ≡ get_or vs j x
  getD_sets_at l i [] j h m = absurd (omega arith)
  getD_sets_at l i (v ∷ vs) zero h m =
      rw (add-zero i) (get_d_sets_before (set l i v) (suc i) vs i (omega arith) ∙ get_or-set_same l i v x (omega arith))
  getD_sets_at l i (v ∷ vs) (suc j) h m =
      let e : i + suc j ≡ suc i + j = omega arith in
      rw e (getD_sets_at (set l i v) (suc i) vs j (omega arith) (omega (arith, length-set l i v)))

-- ---- a scan

module _ (classes : List ℕ) (low high from end base most : ℕ) (d : List ℕ) where
  abbrev all : List ℕ
  all = places classes low high (end - from) from

  -- so many are found before token number i; what is left makes of the rows now what all make of the rows at first
  pub record Marking (new : List ℕ) (n i : ℕ) : Type 0 where
    pub few : n ≤ i
    pub size : length new ≡ length d
    pub count : n + length (places classes low high (end - i) i) ≡ length all
    pub puts : sets new (base + n) (take (most - n) (places classes low high (end - i) i)) ≡ sets d base (take most all)

  turn : (i : ℕ) → i < end → places classes low high (end - i) i
      ≡ place_if (leb low (get_or classes i 0) && leb (get_or classes i 0) high) i (places classes low high (end - (i + 1)) (i + 1))
  unfolding places
  turn i l = let e : end - i ≡ suc (end - suc i) = omega arith in rw (add-one i, e)

  module _ {new : List ℕ} {n i class : ℕ} (h : Marking new n i) (l : i < end) (k : class ≡ get_or classes i 0) where
    other : leb low class && leb class high ≡ false → places classes low high (end - i) i ≡ places classes low high (end - (i + 1)) (i + 1)
    unfolding place_if
    other e = turn i l ∙ rw (← k, e)

    found : low ≤ class → class ≤ high → places classes low high (end - i) i ≡ i ∷ places classes low high (end - (i + 1)) (i + 1)
    unfolding place_if
    found a b = turn i l ∙ rw (← k, le-leb low class a, le-leb class high b)

    passed : leb low class && leb class high ≡ false → Marking new n (i + 1)
    passed e = record {
      few = omega (arith, h.few);
      size = h.size;
      count = rw (other e) at h.count;
      puts = rw (other e) at h.puts;
    }

    pub marking_below : class < low → Marking new n (i + 1)
    marking_below a = passed (rw (lt-leb low class a))

    pub marking_above : low ≤ class → high < class → Marking new n (i + 1)
    marking_above a b = passed (rw (le-leb low class a, lt-leb class high b))

    -- no row is left for it
    pub marking_full : low ≤ class → class ≤ high → most ≤ n → Marking new (n + 1) (i + 1)
    marking_full a b m =
        let x : most - n ≡ 0 = omega arith in
        let y : most - (n + 1) ≡ 0 = omega arith in
        let g : Marking new n i = h in
        record {
          few = omega (arith, h.few);
          size = h.size;
          count = omega (arith, rw (found a b) at h.count);
          puts = rw y (rw (found a b, x) at g.puts);
        }

    pub marking_puts : {next : List ℕ} → low ≤ class → class ≤ high → n < most → next ≡ set new (base + n) i → Marking next (n + 1) (i + 1)
    marking_puts a b m e =
        let x : most - n ≡ suc (most - (n + 1)) = omega arith in
        let y : base + (n + 1) ≡ suc (base + n) = omega arith in
        rw e (record {
          few = omega (arith, h.few);
          size = length-set new (base + n) i ∙ h.size;
          count = omega (arith, rw (found a b) at h.count);
          puts = rw y (rw (found a b, x) at h.puts);
        })

  pub marking_ends : {new : List ℕ} {n i : ℕ} → Marking new n i → end ≤ i → Marked classes low high from end base most d new n
  unfolding places
  marking_ends {n = n} {i} h l =
      let e : end - i ≡ 0 = omega arith in
      record { counts = omega (arith, rw e at h.count); puts = ends (rw e at h.puts) }
    where
      ends : {new : List ℕ} → sets new (base + n) (take (most - n) []) ≡ sets d base (take most all) → new ≡ sets d base (take most all)
      ends {new} h = rw (take-nil {A = ℕ} (most - n)) at h

-- ---- the members of interfaces

-- the rows of another interface, and all other rows, stay
members_kept : {classes : List ℕ} {p base row : ℕ} {d new : List ℕ} → get_or new row 0 ≡ get_or d row 0
    → ((j : ℕ) → j < 12 → get_or new (base + j) 0 ≡ get_or d (base + j) 0) → MembersAt classes p base row d → MembersAt classes p base row new
members_kept e g m = record {
  close = m.close;
  closes = m.closes;
  count = e ∙ m.count;
  rows = λ j l n. g j l ∙ m.rows j l n;
}

module _ (classes d : List ℕ) where
  -- those of so many interfaces are put
  pub record Membering (new : List ℕ) (k : ℕ) : Type 0 where
    pub few : k ≤ 16
    pub size : length new ≡ length d
    pub before : (i : ℕ) → i < 19 → get_or new i 0 ≡ get_or d i 0
    pub after : (i : ℕ) → 227 ≤ i → get_or new i 0 ≡ get_or d i 0
    pub members : 227 ≤ length d → (j : ℕ) → j < k → MembersAt classes (get_or d (3 + j) 0) (35 + j * 12) (19 + j) new

  pub membering_starts : Membering d 0
  membering_starts = record {
    few = omega arith;
    size = refl;
    before = λ i l. refl;
    after = λ i l. refl;
    members = λ s j l. absurd (omega arith);
  }

  module _ {now more next : List ℕ} {k from close count : ℕ} (h : Membering now k) (l : k < 16) (f : from ≡ get_or now (3 + k) 0)
      (c : FirstOf classes BRACE_CLOSE from close) (m : Marked classes ATTRIBUTE ACTION from close (35 + k * 12) 12 now more count)
      (p : next ≡ set more (19 + k) count) where
    found_members : List ℕ
    found_members = places classes ATTRIBUTE ACTION (close - from) from

    FewMembers : length (take 12 found_members) ≤ 12
    FewMembers = omega (arith, length-take 12 found_members)

    next_size : length more ≡ length d
    unfolding found_members
    next_size = ap length m.puts ∙ length-sets now (35 + k * 12) (take 12 found_members) ∙ h.size

    -- the rows before the new ones, and those after them
    next_before : (i : ℕ) → i < 35 + k * 12 → i ≢ 19 + k → get_or next i 0 ≡ get_or now i 0
    unfolding found_members
    next_before i a b = rw p (get_or-set_other more (19 + k) i count 0 b ∙ rw m.puts (get_d_sets_before 0 now (35 + k * 12) (take 12 found_members) i a))

    next_after : (i : ℕ) → 35 + k * 12 + 12 ≤ i → get_or next i 0 ≡ get_or now i 0
    unfolding found_members
    next_after i a =
        rw p (get_or-set_other more (19 + k) i count 0 (omega arith)
        ∙ rw m.puts (getD_sets_after 0 now (35 + k * 12) (take 12 found_members) i (omega (arith, FewMembers))))

    new_row : 227 ≤ length d → (j : ℕ) → j < 12 → j < length found_members → get_or next (35 + k * 12 + j) 0 ≡ get_or found_members j 0
    unfolding found_members
    new_row s j a b =
        rw p (get_or-set_other more (19 + k) (35 + k * 12 + j) count 0 (omega arith)
        ∙ rw m.puts (getD_sets_at 0 now (35 + k * 12) (take 12 found_members) j (omega (arith, length-take 12 found_members)) (omega (arith, h.size))
        ∙ get_or-take 12 found_members j 0 a))

    new_members : 227 ≤ length d → MembersAt classes (get_or d (3 + k) 0) (35 + k * 12) (19 + k) next
    unfolding found_members
    new_members s = rw (← (h.before (3 + k) (omega arith)), ← f) (record {
      close = close;
      closes = c;
      count = rw p (get_or-set_same more (19 + k) count 0 (omega (arith, next_size)) ∙ m.counts);
      rows = new_row s;
    })

    pub membering_goes_on : Membering next (k + 1)
    membering_goes_on = record {
      few = omega arith;
      size = rw p (length-set more (19 + k) count) ∙ next_size;
      before = λ i a. next_before i (omega arith) (omega arith) ∙ h.before i a;
      after = λ i a. next_after i (omega arith) ∙ h.after i a;
      members = λ s. below_more _ k (λ j a. members_kept (next_before (19 + j) (omega arith) (omega arith))
          (λ i b. next_before (35 + j * 12 + i) (omega arith) (omega arith)) (h.members s j a)) (new_members s);
    }

  -- no more interfaces, or as many as have rows
  pub membering_ends : {now : List ℕ} {k interfaces : ℕ} → Membering now k → ((j : ℕ) → j < 16 → j < interfaces → j < k)
      → MembersMarked classes interfaces d now
  membering_ends h e = record {
    before = h.before;
    after = h.after;
    members = λ c s j a b. h.members s j (e j a b);
  }

  -- a `}` past all tokens is not there
  pub membering_breaks : {now : List ℕ} {k from close interfaces : ℕ} → Membering now k → from < 65536 → FirstOf classes BRACE_CLOSE from close → 65535 < close
      → MembersMarked classes interfaces d now
  membering_breaks h f c l = record {
    before = h.before;
    after = h.after;
    members = λ s. absurd (omega (arith, c.high));
  }
