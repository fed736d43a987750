-- What reading a text answers, in one number.
use Rattle.std.specs.Prelude.{ℕ, ◌+◌, ◌*◌, ◌≡◌, List, Result, Ok, Err}
use Rattle.text.specs.declared.SyntaxError.{SyntaxError}
use Rattle.text.specs.inner_contracts.TokenTable.{TokenColumns}
use Rattle.text.specs.inner_contracts.EnumAnswers.{syntax_answer}
use Rattle.text.specs.inner_contracts.Syntaxes.{ReadsText}

-- how many tokens a file has
unfoldable pub syntax_count : Result ℕ SyntaxError → ℕ
syntax_count (Ok n) = n
syntax_count (Err e) = 0

-- document 01's answer, above its low 8 bits the count of a file's tokens
unfoldable pub syntax_number : Result ℕ SyntaxError → ℕ
unfolding syntax_answer syntax_count
syntax_number s = syntax_answer s + 256 * syntax_count s

-- the one right answer in one number, and what the columns, which were t and are u, hold then: of a file the rows of all its tokens
pub record Measures (text : List ℕ) (t u : TokenColumns) (r : ℕ) : Type 0 where
  pub syntax : Result ℕ SyntaxError
  pub reads : ReadsText text t u syntax
  pub number : r ≡ syntax_number syntax
