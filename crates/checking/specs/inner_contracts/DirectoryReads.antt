-- What is read from a token table and a directory: numbers by names, and what stands at a member.
use Rattle.std.specs.Prelude.{ℕ, zero, suc, ◌+◌, ◌≤◌, ◌<◌, ◌≡◌, List, Bool, true, false, length, get_or}
use Rattle.std.specs.Prelude as code
use Rattle.std.specs.Prelude.{IfSome, unwrap_or}
use Rattle.std.proofs.Math.Option.{some}
use Rattle.std.proofs.Math.ListN.{get_elem?}
use Rattle.values.specs.definitions.Bytes.{same_bytes}
use Rattle.text.specs.definitions.Syntax.{Member, Interface, File}
use Rattle.checking.specs.definitions.CountFaults.{MOST_INTERFACES, MOST_MEMBERS, MOST_ENTITIES}
use Rattle.checking.specs.inner_contracts.Directory.{name_in, Bench, INTERFACE_COUNT_ROW, member_count_row, member_row}

-- the least of the n numbers from k on that passes the test, or the number for none
unfoldable pub first_number : (ℕ → Bool) → ℕ → ℕ → ℕ → ℕ
first_number test other k zero = other
first_number test other k (suc n) = elim (test k) [ true ↦ k | false ↦ first_number test other (k + 1) n ]

-- has the item in the k-th row from `base` on this name? Its name is the token after its first
unfoldable pub is_named : List ℕ → List ℕ → List ℕ → List ℕ → ℕ → List ℕ → ℕ → Bool
unfolding same_bytes
is_named text offsets lengths d base name k = same_bytes name (name_in text offsets lengths (get_or d (base + k) 0 + 1))

-- the first of `count` items of that name
pub record FirstNamed (text offsets lengths d : List ℕ) (base count : ℕ) (name : List ℕ) (r : code.Option ℕ) : Type 0 where
  pub below : IfSome r (λ k. k < count)
  pub first : (other : ℕ) → unwrap_or r other ≡ first_number (is_named text offsets lengths d base name) other 0 count

-- a number of the file, for every file that stands in the columns and the directory and is within the counts
pub record NumberOf (text offsets lengths d : List ℕ) (most : ℕ) (within_counts : File → Type 0) (number : File → ℕ) (r : ℕ) : Type 0 where
  pub within : r ≤ most
  pub is : (classes : List ℕ) (w : Bench text classes offsets lengths d) → within_counts w.file → r ≡ number w.file

-- the same where the code has no number for none
pub record Numbered (text offsets lengths d : List ℕ) (most : ℕ) (within_counts : File → Type 0) (number : File → ℕ) (r : code.Option ℕ) : Type 0 where
  pub below : IfSome r (λ k. k < most)
  pub is : (classes : List ℕ) (w : Bench text classes offsets lengths d) → within_counts w.file → unwrap_or r most ≡ number w.file

-- interface number k has no more members than it may have
abbrev pub FewMembers : ℕ → File → Type 0
FewMembers k f = (i : Interface) → get_elem? f.interfaces k ≡ some i → length i.members ≤ MOST_MEMBERS

-- "Most: 16 interfaces, 12 members each, 32 entities": no more items than the directory has rows for
pub record Few (f : File) : Type 0 where
  pub interfaces : length f.interfaces ≤ MOST_INTERFACES
  pub members : (k : ℕ) → FewMembers k f
  pub entities : length f.entities ≤ MOST_ENTITIES

-- the row of member number m of interface number k, where the directory has it
pub record MemberRow (d : List ℕ) (k m r : ℕ) : Type 0 where
  pub within : r < 65536
  pub is : k < get_or d INTERFACE_COUNT_ROW 0 → m < get_or d (member_count_row k) 0 → r ≡ get_or d (member_row k m) 0

-- what is said of member number m of interface number k
pub record MemberPart {A : Type 0} (classes d : List ℕ) (k m : ℕ) (part : Member → A) (r : A) : Type 0 where
  pub is : (text offsets lengths : List ℕ) (w : Bench text classes offsets lengths d) (i : Interface) (x : Member)
      → get_elem? w.file.interfaces k ≡ some i → get_elem? i.members m ≡ some x → r ≡ part x
