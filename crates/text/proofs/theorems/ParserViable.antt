-- The parser accepts exactly the grammatical lists of tokens, and refuses at the first token that no grammatical file continues with.
use Prim.Native.Nat.{ℕ}
use mathlib.Core.Path.{◌≡◌}
use mathlib.Core.Logic.{◌↔◌}
use mathlib.Core.List.{List}
use Rattle.text.specs.definitions.Tokens.{Token}
use Rattle.text.specs.definitions.Syntax.{File}
use Rattle.text.specs.definitions.Parse.{parse, grammatical, ungrammatical_at}
use Rattle.text.specs.definitions.Language.{Grammatical}
use Rattle.text.specs.definitions.Viable.{FirstUnfit}
use Rattle.text.proofs.laws.ParserLaws.{accepts, accepted, refuses}

pub parser_exact : (end : ℕ) (ts : List Token) → ((f : File) × (parse end ts ≡ grammatical f)) ↔ Grammatical ts
parser_exact end ts = (λ a. accepted end ts a.0 a.1, accepts end ts)

pub parser_viable : (end : ℕ) (ts : List Token) (at : ℕ) → parse end ts ≡ ungrammatical_at at → FirstUnfit end ts at
parser_viable = refuses
