-- What the lexer's answers and columns stand for.
use Rattle.std.specs.Prelude.{ℕ, zero, suc, ◌+◌, ◌-◌, ◌≤◌, ◌<◌, ◌≡◌, List, [], ◌∷◌, Bool, true, false, cond, ◌||◌, ltb, eqb, length, get_or, take, drop, Result, Ok, Err}
use Rattle.text.specs.declared.Item.{Item as Answer}
use Rattle.text.specs.declared.Item.TheVariants.{Gap, Found, Bad, End}
use Rattle.text.specs.declared.SyntaxError.{SyntaxError}
use Rattle.text.specs.declared.SyntaxError.TheVariants.{TooLong, NoTokenAt, UnfitAt, NoRoom}
use Rattle.text.specs.definitions.Bytes.{run}
use Rattle.text.specs.definitions.Answers.{refusal_answer}
use Rattle.text.specs.inner_contracts.EnumAnswers.{syntax_answer}
use Rattle.text.specs.definitions.Tokens.{Fixed, Token, Lexeme, gap, found, bad, item, Lexing, tokens, no_token_at, tokens_of}

-- from one offset of a text to another the bytes pass a test, and the next one does not: `passes` says what the test may answer
pub record RunTo (text : List ℕ) (passes : ℕ → Bool → Type 0) (at end : ℕ) : Type 0 where
  pub onward : at ≤ end
  pub within : end ≤ length text
  pub all : (i : ℕ) → at ≤ i → i < end → passes (get_or text i 0) true
  pub stops : end < length text → passes (get_or text end 0) false

-- the longest run from an offset on ends so
abbrev pub EndsRun : (ℕ → Bool) → List ℕ → ℕ → ℕ → Type 0
EndsRun test text at end = (end ≡ at + length (run test (drop at text))) × (end ≤ length text)

-- the fixed tokens of n bytes
unfoldable pub of_length : ℕ → List Fixed → List Fixed
of_length n [] = []
of_length n (f ∷ fs) = elim (eqb (length f.spelling) n) [ true ↦ f ∷ of_length n fs | false ↦ of_length n fs ]

-- ---- what begins at an offset

-- the bytes from `at` up to `end`
abbrev pub part : ℕ → ℕ → List ℕ → List ℕ
part at end text = take (end - at) (drop at text)

-- an item that begins at `at`, with the offset after it
unfoldable pub located : ℕ → Lexeme → Answer
located at (gap more) = Gap (at + 1 + more)
located at (found c v more) = Found c v (at + 1 + more)
located at bad = Bad

-- what the bytes from `at` on begin with
unfoldable pub begins : ℕ → List ℕ → Answer
unfolding located item
begins at [] = End
begins at (b ∷ bs) = located at (item b bs)

-- what begins at an offset of a text; nothing from its end on
unfoldable pub token_at : List ℕ → ℕ → Answer
unfolding begins
token_at text at = begins at (drop at text)

-- the offset after an answer about `at`: where the gap or token ends, else `at` itself
abbrev pub after : ℕ → Answer → ℕ
after at (Gap next) = next
after at (Found c v next) = next
after at Bad = at
after at End = at

-- the offset after what begins at an offset of a text
unfoldable pub offset_after : List ℕ → ℕ → ℕ
offset_after text at = after at (token_at text at)

-- ---- tokens in columns

-- the columns, a row for each token
pub record TokenColumns : Type 0 where
  pub classes : List ℕ
  pub offsets : List ℕ
  pub lengths : List ℕ
  pub values : List ℕ

-- columns by their contents
abbrev pub columns_of : List ℕ → List ℕ → List ℕ → List ℕ → TokenColumns
columns_of cs os ls vs = record { classes = cs; offsets = os; lengths = ls; values = vs }

-- the token that row i stands for; its bytes are a part of the text
unfoldable pub row_token : TokenColumns → List ℕ → ℕ → Token
row_token t text i = record {
  class = get_or t.classes i 0;
  at = get_or t.offsets i 0;
  bytes = take (get_or t.lengths i 0) (drop (get_or t.offsets i 0) text);
  value = get_or t.values i 0;
}

-- n rows from row i on
unfoldable pub rows_from : ℕ → ℕ → TokenColumns → List ℕ → List Token
unfolding row_token
rows_from i zero t text = []
rows_from i (suc n) t text = row_token t text i ∷ rows_from (i + 1) n t text

-- the first n rows
unfoldable pub rows : ℕ → TokenColumns → List ℕ → List Token
unfolding rows_from
rows n t text = rows_from 0 n t text

-- ---- what lexing gives

-- does some column have fewer than m rows?
unfoldable pub lacks_rows : ℕ → TokenColumns → Bool
lacks_rows m t = ltb (length t.classes) m || ltb (length t.offsets) m || ltb (length t.lengths) m || ltb (length t.values) m

-- what lexing a text into columns comes to
pub data IntoColumns : Type 0 where
  too_long no_room : IntoColumns
  lexing : Lexing → IntoColumns

-- "At most 32,768 bytes"; then room for a row for each byte; then the text's tokens
unfoldable pub into_columns : List ℕ → TokenColumns → IntoColumns
unfolding lacks_rows tokens_of
into_columns text t = cond (ltb 32768 (length text)) too_long (cond (lacks_rows (length text) t) no_room (lexing (tokens_of text)))

-- document 01's answer to that; of tokens, the one that they have
unfoldable pub columns_answer : (List Token → ℕ) → IntoColumns → ℕ
columns_answer of_tokens too_long = refusal_answer 11 32768
columns_answer of_tokens no_room = 31
columns_answer of_tokens (lexing (no_token_at p)) = refusal_answer 12 p
columns_answer of_tokens (lexing (tokens ts)) = of_tokens ts

-- what an answer and the columns say
unfoldable pub told : Result ℕ SyntaxError → TokenColumns → List ℕ → IntoColumns
unfolding rows
told (Ok n) t text = lexing (tokens (rows n t text))
told (Err TooLong) t text = too_long
told (Err (NoTokenAt p)) t text = lexing (no_token_at p)
told (Err (UnfitAt p)) t text = no_room
told (Err NoRoom) t text = no_room

-- at most one row for each byte of the text, and each row lies in it; that a token is unfit is no answer of the lexer
abbrev pub Inside : Result ℕ SyntaxError → TokenColumns → List ℕ → Type 0
Inside (Ok n) t text = (n ≤ length text) × ((i : ℕ) → i < n → get_or t.offsets i 0 + get_or t.lengths i 0 ≤ length text)
Inside (Err TooLong) t text = Unit {0}
Inside (Err (NoTokenAt p)) t text = Unit {0}
Inside (Err (UnfitAt p)) t text = ⊥
Inside (Err NoRoom) t text = Unit {0}

-- the answer r and the columns, which were t and are u: it is document 01's, they say what lexing comes to, and no column changed its length
pub record Lexes (text : List ℕ) (t u : TokenColumns) (r : Result ℕ SyntaxError) : Type 0 where
  pub answer : syntax_answer r ≡ columns_answer (λ ts. 0) (into_columns text t)
  pub says : told r u text ≡ into_columns text t
  pub inside : Inside r u text
  pub classes_kept : length u.classes ≡ length t.classes
  pub offsets_kept : length u.offsets ≡ length t.offsets
  pub lengths_kept : length u.lengths ≡ length t.lengths
  pub values_kept : length u.values ≡ length t.values
