-- What code promises that writes a sender's row, or a fresh state, for every file that stands in the columns and the directory.
use Rattle.std.specs.Prelude.{ℕ, ◌+◌, ◌*◌, ◌≤◌, ◌≡◌, List, T}
use Rattle.std.proofs.Math.Option.{some}
use Rattle.std.proofs.Math.ListN.{get_elem?}
use Rattle.values.specs.definitions.Cells.{cell_at}
use Rattle.text.specs.definitions.Syntax.{Member, File}
use Rattle.checking.specs.definitions.Scope.{member_of, is_action}
use Rattle.checking.specs.inner_contracts.CheckedBench.{ValuesOf}
use Rattle.checking.specs.inner_contracts.Directory.{Bench}
use Rattle.checking.specs.inner_contracts.DirectoryReads.{Few}
use Rattle.cycles.specs.definitions.Planes.{ENTITY_CELLS}
use Rattle.cycles.specs.definitions.Row.{MOST_ROW_BYTES}
use Rattle.cycles.specs.inner_contracts.RowMemory.{InFront}
use Rattle.senders.specs.definitions.Sender.{Sender, State}
use Rattle.senders.specs.definitions.Follow.{fresh}
use Rattle.senders.specs.definitions.Row.{row, sender_row}
use Rattle.senders.specs.definitions.StateImage.{state_of, with_state}

-- cells in memory hold the actions fired, as far as the file has actions
abbrev pub FiredIn : File → Sender → List ℕ → Type 0
FiredIn f x cells =
    (e m : ℕ) (y : Member) → member_of f e m ≡ some y → T (is_action y.sort) → x.fired e m ≡ cell_at cells (e * ENTITY_CELLS + m)

pub record RowPut (classes d name : List ℕ) (last : ℕ) (cells before after : List ℕ) (r : ℕ) : Type 0 where
  pub short : r ≤ MOST_ROW_BYTES
  pub is : (text offsets lengths : List ℕ) (w : Bench text classes offsets lengths d) → Few w.file
      → (x : Sender) → x.name ≡ name → x.last ≡ last → FiredIn w.file x cells → InFront (row w.file x) before after r

-- the row of the sender at a place
pub record PlaceShown (classes d state : List ℕ) (at : ℕ) (before after : List ℕ) (r : ℕ) : Type 0 where
  pub short : r ≤ MOST_ROW_BYTES
  pub is : (text offsets lengths : List ℕ) (w : Bench text classes offsets lengths d) → Few w.file
      → (print : ℕ) (s : State) → state_of print w.file state ≡ some s
      → (x : Sender) → get_elem? s.senders at ≡ some x → InFront (row w.file x) before after r

-- the row of the sender of a name, known or not
pub record Shown (classes d state name before after : List ℕ) (r : ℕ) : Type 0 where
  pub short : r ≤ MOST_ROW_BYTES
  pub is : (text offsets lengths : List ℕ) (w : Bench text classes offsets lengths d) → Few w.file
      → (print : ℕ) (s : State) → state_of print w.file state ≡ some s → InFront (sender_row w.file s name) before after r

pub record FreshStatePut (text classes offsets lengths values d : List ℕ) (print : ℕ) (before after : List ℕ) : Type 0 where
  pub is : (w : Bench text classes offsets lengths d) → Few w.file → ValuesOf values w.tokens
      → after ≡ with_state print w.file (fresh w.file) before
