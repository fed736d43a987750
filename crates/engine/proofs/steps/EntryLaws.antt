-- The entry points: memory shorter than its stated size, and what a served call says of them.
use Prim.Native.Nat.{ℕ, ◌≤◌, ◌<◌}
use mathlib.Core.Path.{◌≡◌, sym, ap, ◌∙◌}
use mathlib.Core.Bool.{Bool, true, false}
use mathlib.Core.List.{List}
use lib.Dec.{ltb}
use lib.ListN.{length}
use borrow.Author.Tests.{lt-ltb, le-ltb}
use Rattle.checking.specs.definitions.Verdict.{verdict, accepted_file}
use Rattle.senders.specs.definitions.Fingerprint.{fingerprint}
use Rattle.senders.specs.definitions.StateImage.{STATE}
use Rattle.days.specs.definitions.DaySheet.{sheet_size}
use Rattle.engine.specs.definitions.BenchImage.{BENCH, text_in}
use Rattle.engine.specs.definitions.Calls.{
  ROW,
  fingerprint_of,
  check_call,
  checked,
  freshened,
  line_on_bench,
  header_on_bench,
  row_on_bench,
  sheet_on_bench,
  fresh_call,
  line_call,
  line_refused,
  header_call,
  row_call,
  sheet_call,
}
use Rattle.engine.specs.inner_contracts.Serving.{Served, served_check, served_fresh, served_line, served_row, served_sheet}
use Rattle.engine.proofs.laws.ServingLaws.{text_accepted}

-- ---- the check

module _ (text bench : List ℕ) where
  pub check_short : length bench < BENCH → record { answer = 31; bench = bench } ≡ check_call text bench
  unfolding check_call
  check_short h = rw (lt-ltb (length bench) BENCH h, check_call)

  pub check_served : BENCH ≤ length bench → {state new_state new : List ℕ} {r : ℕ}
      → record { answer = r; state = new_state; out = new } ≡ served_check (checked (verdict text) text bench) state
      → record { answer = r; bench = new } ≡ check_call text bench
  unfolding check_call
  check_served h e =
      rw (le-ltb (length bench) BENCH h, check_call) (ap (λ (s : Served). record { answer = s.answer; bench = s.out }) e)

-- ---- the fresh state

module _ (bench state : List ℕ) where
  pub fresh_no_bench : length bench < BENCH → record { answer = 31; state = state } ≡ fresh_call bench state
  unfolding fresh_call
  fresh_no_bench h = rw (lt-ltb (length bench) BENCH h, fresh_call)

  module _ (b : BENCH ≤ length bench) where
    pub fresh_short : length state < STATE → record { answer = 31; state = state } ≡ fresh_call bench state
    unfolding fresh_call
    fresh_short h = rw (le-ltb (length bench) BENCH b, lt-ltb (length state) STATE h, fresh_call)

    pub fresh_served : STATE ≤ length state → {text out new new_out : List ℕ} {r : ℕ} → text ≡ text_in bench
        → record { answer = r; state = new; out = new_out } ≡ served_fresh (freshened (fingerprint text) (accepted_file text) state) out
        → record { answer = r; state = new } ≡ fresh_call bench state
    unfolding fresh_call fingerprint_of
    fresh_served h t e =
        rw (le-ltb (length bench) BENCH b, le-ltb (length state) STATE h, fresh_call, ← text_accepted bench, ← t)
        (ap (λ (s : Served). record { answer = s.answer; state = s.state }) e)

-- ---- a line

module _ (bench state names values row : List ℕ) where
  pub line_no_bench : length bench < BENCH → record { answer = 31; state = state; row = row } ≡ line_call bench state names values row
  unfolding line_call line_refused
  line_no_bench h = rw (lt-ltb (length bench) BENCH h, line_call)

  module _ (b : BENCH ≤ length bench) where
    pub line_no_state : length state < STATE → record { answer = 31; state = state; row = row } ≡ line_call bench state names values row
    unfolding line_call line_refused
    line_no_state h = rw (le-ltb (length bench) BENCH b, lt-ltb (length state) STATE h, line_call)

    module _ (s : STATE ≤ length state) where
      pub line_short : length row < ROW → record { answer = 31; state = state; row = row } ≡ line_call bench state names values row
      unfolding line_call line_refused
      line_short h = rw (le-ltb (length bench) BENCH b, le-ltb (length state) STATE s, lt-ltb (length row) ROW h, line_call)

      pub line_served : ROW ≤ length row → {text new_state new_row : List ℕ} {r : ℕ} → text ≡ text_in bench
          → record { answer = r; state = new_state; out = new_row } ≡ served_line (line_on_bench (fingerprint text) (accepted_file text) state names values row)
          → record { answer = r; state = new_state; row = new_row } ≡ line_call bench state names values row
      unfolding line_call fingerprint_of
      line_served h t e =
          rw (le-ltb (length bench) BENCH b, le-ltb (length state) STATE s, le-ltb (length row) ROW h, line_call, ← text_accepted bench, ← t)
          (ap (λ (x : Served). record { answer = x.answer; state = x.state; row = x.out }) e)

-- ---- the header

module _ (bench row : List ℕ) where
  pub header_no_bench : length bench < BENCH → record { answer = 31; row = row } ≡ header_call bench row
  unfolding header_call
  header_no_bench h = rw (lt-ltb (length bench) BENCH h, header_call)

  module _ (b : BENCH ≤ length bench) where
    pub header_short : length row < ROW → record { answer = 31; row = row } ≡ header_call bench row
    unfolding header_call
    header_short h = rw (le-ltb (length bench) BENCH b, lt-ltb (length row) ROW h, header_call)

    pub header_served : ROW ≤ length row → {text state new_state new : List ℕ} {r : ℕ} → text ≡ text_in bench
        → record { answer = r; state = new_state; out = new } ≡ served_row (header_on_bench (accepted_file text) row) state
        → record { answer = r; row = new } ≡ header_call bench row
    unfolding header_call
    header_served h t e =
        rw (le-ltb (length bench) BENCH b, le-ltb (length row) ROW h, header_call, ← text_accepted bench, ← t)
        (ap (λ (s : Served). record { answer = s.answer; row = s.out }) e)

-- ---- a row

module _ (bench state sender row : List ℕ) where
  pub row_no_bench : length bench < BENCH → record { answer = 31; row = row } ≡ row_call bench state sender row
  unfolding row_call
  row_no_bench h = rw (lt-ltb (length bench) BENCH h, row_call)

  module _ (b : BENCH ≤ length bench) where
    pub row_no_state : length state < STATE → record { answer = 31; row = row } ≡ row_call bench state sender row
    unfolding row_call
    row_no_state h = rw (le-ltb (length bench) BENCH b, lt-ltb (length state) STATE h, row_call)

    module _ (s : STATE ≤ length state) where
      pub row_short : length row < ROW → record { answer = 31; row = row } ≡ row_call bench state sender row
      unfolding row_call
      row_short h = rw (le-ltb (length bench) BENCH b, le-ltb (length state) STATE s, lt-ltb (length row) ROW h, row_call)

      pub row_served : ROW ≤ length row → {text none new_state new : List ℕ} {r : ℕ} → text ≡ text_in bench
          → record { answer = r; state = new_state; out = new } ≡ served_row (row_on_bench (fingerprint text) (accepted_file text) state sender row) none
          → record { answer = r; row = new } ≡ row_call bench state sender row
      unfolding row_call fingerprint_of
      row_served h t e =
          rw (le-ltb (length bench) BENCH b, le-ltb (length state) STATE s, le-ltb (length row) ROW h, row_call, ← text_accepted bench, ← t)
          (ap (λ (x : Served). record { answer = x.answer; row = x.out }) e)

-- ---- a sheet

module _ (bench state readings cells sheet : List ℕ) where
  pub sheet_no_bench : length bench < BENCH → record { answer = 31; sheet = sheet } ≡ sheet_call bench state readings cells sheet
  unfolding sheet_call
  sheet_no_bench h = rw (lt-ltb (length bench) BENCH h, sheet_call)

  module _ (b : BENCH ≤ length bench) where
    pub sheet_no_state : length state < STATE → record { answer = 31; sheet = sheet } ≡ sheet_call bench state readings cells sheet
    unfolding sheet_call
    sheet_no_state h = rw (le-ltb (length bench) BENCH b, lt-ltb (length state) STATE h, sheet_call)

    module _ (s : STATE ≤ length state) {short : Bool} (tests : short ≡ ltb (length sheet) (sheet_size readings)) where
      pub sheet_short : short ≡ true → record { answer = 31; sheet = sheet } ≡ sheet_call bench state readings cells sheet
      unfolding sheet_call
      sheet_short h = rw (le-ltb (length bench) BENCH b, le-ltb (length state) STATE s, sym tests ∙ h, sheet_call)

      pub sheet_served : short ≡ false → {text none new_state new : List ℕ} {r : ℕ} → text ≡ text_in bench
          → record { answer = r; state = new_state; out = new } ≡ served_sheet (sheet_on_bench (fingerprint text) (accepted_file text) state readings cells sheet) none
          → record { answer = r; sheet = new } ≡ sheet_call bench state readings cells sheet
      unfolding sheet_call fingerprint_of
      sheet_served h t e =
          rw (le-ltb (length bench) BENCH b, le-ltb (length state) STATE s, sym tests ∙ h, sheet_call, ← text_accepted bench, ← t)
          (ap (λ (x : Served). record { answer = x.answer; sheet = x.out }) e)
