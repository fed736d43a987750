-- What a walk over the columns of a token table promises: of each tree that a reader reads it gives what is asked of that tree.
-- Nothing is said where the reader refuses.
use Rattle.std.specs.Prelude.{ℕ, ◌+◌, ◌<◌, ◌≤◌, ◌≡◌, List, [], Bool, length, get_or, drop}
use Rattle.std.proofs.Math.Option.{some}
use Rattle.std.proofs.Math.ListN.{get_elem?}
use Rattle.text.specs.definitions.Tokens.{Token}
use Rattle.text.specs.definitions.Readers.{Parse, read, unfit_after, Parser, loop}

abbrev pub no_token : Token
no_token = record { class = 0; at = 0; bytes = []; value = 0 }

-- token number i
abbrev pub nth_token : List Token → ℕ → Token
nth_token ts i = get_or ts i no_token

-- tokens with the classes of a column; a walk speaks of what stands from `low` on and ends at `high` or before it
pub record Rows (classes : List ℕ) : Type 0 where
  pub tokens : List Token
  pub count : length tokens ≡ length classes
  pub class : (i : ℕ) (t : Token) → get_elem? tokens i ≡ some t → t.class ≡ get_or classes i 0
  pub low : ℕ
  pub high : ℕ

-- number i is that of a token of class k, among those of which a walk speaks
pub record Stands {classes : List ℕ} (w : Rows classes) (i k : ℕ) : Type 0 where
  pub from : w.low ≤ i
  pub before : i < w.high
  pub inside : i < length classes
  pub class : get_or classes i 0 ≡ k

-- j is the number after i, if there is a token number i of so many
pub record Steps (size i j : ℕ) : Type 0 where
  pub onward : i ≤ j
  pub steps : i < size → j ≡ i + 1

-- what was read at number `at` yields v, and the tokens after it begin at number `next`
pub data Means {A R : Type 0} (high : ℕ) (yields : A → R → Type 0) (v : R) (next at : ℕ) : Parse A → Type 0 where
  meant : {a : A} {n : ℕ} → (next ≤ high → yields a v) → next ≡ at + n → Means high yields v next at (read a n)
  vain : {n : ℕ} → Means high yields v next at (unfit_after n)

module _ {classes : List ℕ} (w : Rows classes) {A R : Type 0} (yields : A → R → Type 0) where
  -- the same, of what a reader makes of the tokens there
  abbrev pub MeansAt : Parser A → ℕ → R → ℕ → Type 0
  MeansAt r at v next = Means w.high yields v next at (r (drop at w.tokens))

module _ {C A R : Type 0} {classes : List ℕ} (rows : C → Rows classes) (yields : C → A → R → Type 0) where
  -- a walk that gives v and next, whatever world c the columns stand for
  pub record Walks (r : Parser A) (at : ℕ) (v : R) (next : ℕ) : Type 0 where
    pub onward : at ≤ next
    pub means : (c : C) → (rows c).low ≤ at → MeansAt (rows c) (yields c) r at v next

  -- a walk of `whole` in a loop: v is of what stands before number i, and whoever reads the rest reads the whole
  pub record Looping (whole : Parser A) (test : ℕ → Bool) (step : A → Token → Parser A) (at : ℕ) (v : R) (i : ℕ) : Type 0 where
    pub onward : at ≤ i
    pub rest : (c : C) → (rows c).low ≤ at → (u : R) (next : ℕ)
        → ((a : A) → (i ≤ (rows c).high → yields c a v) → MeansAt (rows c) (yields c) (loop test step a 0) i u next)
        → MeansAt (rows c) (yields c) whole at u next

-- what stands at number `at` is read there, up to number `next`
pub record ReadThere {A : Type 0} {classes : List ℕ} (r : Parser A) (at next : ℕ) (w : Rows classes) (a : A) (u : Unit {0}) : Type 0 where
  pub used : ℕ
  pub reads : r (drop at w.tokens) ≡ read a used
  pub ends : next ≡ at + used

-- a walk that gives where a reading ends, and no more
abbrev pub Ends : {A : Type 0} → List ℕ → Parser A → ℕ → ℕ → Type 0
Ends classes r at next = Walks {C = Rows classes} (λ w. w) (ReadThere r at next) r at tt next
