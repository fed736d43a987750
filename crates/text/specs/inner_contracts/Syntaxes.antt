-- What reading a text into columns answers: document 01's 11 to 13, or a file whose tokens the columns hold.
use Rattle.std.specs.Prelude.{ℕ, ◌+◌, ◌≤◌, ◌<◌, ◌≡◌, List, true, length, get_or, Result, Ok, Err}
use Rattle.text.specs.declared.SyntaxError.{SyntaxError}
use Rattle.text.specs.declared.SyntaxError.TheVariants.{TooLong, NoTokenAt, UnfitAt, NoRoom}
use Rattle.text.specs.definitions.Tokens.{Token, tokens, no_token_at, tokens_of}
use Rattle.text.specs.inner_contracts.TokenTable.{TokenColumns, rows, lacks_rows, into_columns, columns_answer, columns_of, Lexes}
use Rattle.text.specs.definitions.Syntax.{File as Syntax-tree}
use Rattle.text.specs.definitions.Readers.{read}
use Rattle.text.specs.definitions.Grammar.{file_reader}
use Rattle.text.specs.definitions.Parse.{grammatical, ungrammatical_at, parse}
use Rattle.text.specs.inner_contracts.EnumAnswers.{syntax_answer}
use Rattle.text.specs.inner_contracts.ParseAnswers.{outcome_answer}

-- document 01's answer: 11, no room, 12, and then 13
unfoldable pub text_answer : List ℕ → TokenColumns → ℕ
unfolding columns_answer outcome_answer parse into_columns
text_answer text t = columns_answer (λ ts. outcome_answer (parse (length text) ts)) (into_columns text t)

-- ---- what an answer says to a caller

-- no token is allowed at p
pub record BadText (text : List ℕ) (p : ℕ) : Type 0 where
  pub allowed : length text ≤ 32768
  pub lexed : tokens_of text ≡ no_token_at p
  pub within : p < length text

-- the tokens are no file: p is the first unfit one's offset, or the text's length
pub record UnfitText (text : List ℕ) (p : ℕ) : Type 0 where
  pub allowed : length text ≤ 32768
  pub all : List Token
  pub lexed : tokens_of text ≡ tokens all
  pub parses : parse (length text) all ≡ ungrammatical_at p
  pub within : p ≤ length text

-- the first n rows are all tokens of the text, and they make a file
pub record FileText (text : List ℕ) (u : TokenColumns) (n : ℕ) : Type 0 where
  pub allowed : length text ≤ 32768
  pub lexed : tokens_of text ≡ tokens (rows n u text)
  pub count : length (rows n u text) ≡ n
  pub tree : Syntax-tree
  pub reads : file_reader (rows n u text) ≡ read tree n
  pub parses : parse (length text) (rows n u text) ≡ grammatical tree
  pub within : n ≤ length text
  pub inside : (i : ℕ) → i < n → get_or u.offsets i 0 + get_or u.lengths i 0 ≤ length text

abbrev pub Says : List ℕ → TokenColumns → TokenColumns → Result ℕ SyntaxError → Type 0
Says text t u (Ok n) = FileText text u n
Says text t u (Err TooLong) = 32768 < length text
Says text t u (Err (NoTokenAt p)) = BadText text p
Says text t u (Err (UnfitAt p)) = UnfitText text p
Says text t u (Err NoRoom) = (length text ≤ 32768) × (lacks_rows (length text) t ≡ true)

-- the answer r and the columns, which were t and are u: it is document 01's, it says what a caller needs, and no column changed its length
pub record ReadsText (text : List ℕ) (t u : TokenColumns) (r : Result ℕ SyntaxError) : Type 0 where
  pub answer : syntax_answer r ≡ text_answer text t
  pub says : Says text t u r
  pub classes_kept : length u.classes ≡ length t.classes
  pub offsets_kept : length u.offsets ≡ length t.offsets
  pub lengths_kept : length u.lengths ≡ length t.lengths
  pub values_kept : length u.values ≡ length t.values

-- ---- the steps of reading

-- the answer r for every text of this length that was lexed into so many rows, with these classes and offsets
pub record Settles (count end : ℕ) (cs os : List ℕ) (r : Result ℕ SyntaxError) : Type 0 where
  pub told : (text ls vs : List ℕ) (t : TokenColumns) → length text ≡ end → Lexes text t (columns_of cs os ls vs) (Ok count)
      → ReadsText text t (columns_of cs os ls vs) r
