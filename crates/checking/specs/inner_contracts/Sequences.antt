-- Items that stand one after another among the tokens.
use Rattle.std.specs.Prelude.{ℕ, ◌+◌, List, [], ◌∷◌}
use Rattle.text.specs.definitions.Tokens.{Token}
use Rattle.text.specs.definitions.Readers.{Parser}
use Rattle.checking.specs.inner_contracts.Directory.{Begins}

-- the items from token number p up to number q, as `many` reads them: each is a token of class c and what `item` reads after it
pub data Sequence {A : Type 0} (ts : List Token) (c : ℕ) (item : Token → Parser A) : ℕ → ℕ → List A → Type 0 where
  over : {p : ℕ} → Sequence ts c item p p []
  one : {p q : ℕ} {x : A} {xs : List A} (b : Begins ts p c item x) → Sequence ts c item (p + 1 + b.used) q xs → Sequence ts c item p q (x ∷ xs)
