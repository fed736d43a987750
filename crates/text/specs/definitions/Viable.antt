-- "first word that no grammatical file has after those before it; the length if the text ends early"
use Rattle.std.specs.Prelude.{ℕ, ◌≡◌, List, [], ◌∷◌, ◌++◌}
use Rattle.text.specs.definitions.Tokens.{Token}
use Rattle.text.specs.definitions.Parse.{offset_of}
use Rattle.text.specs.definitions.Language.{Grammatical}

-- the tokens `rest` begin at the refused offset, in a text of length `end`, after the tokens `front`
pub record FirstUnfit (end : ℕ) (ts : List Token) (at : ℕ) : Type 0 where
  pub front : List Token
  pub rest : List Token
  pub joins : front ++ rest ≡ ts
  pub stands : offset_of end rest ≡ at
  -- those before it begin a grammatical file
  pub more : List Token
  pub begins : Grammatical (front ++ more)
  -- with the refused token they begin none
  pub breaks : (t : Token) (others after : List Token) → rest ≡ t ∷ others → Grammatical (front ++ t ∷ after) → ⊥
  -- where none is left, the text ends early
  pub ends : rest ≡ [] → Grammatical ts → ⊥
