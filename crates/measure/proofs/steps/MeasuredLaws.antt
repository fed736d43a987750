-- An answer of `read` fits one number.
use mathlib.Core.Path.{◌≡◌}
use mathlib.Core.List.{List}
use Prim.Native.Nat.{ℕ, ◌*◌, ◌<◌, ◌≤◌}
use native.Mathlib.Omega.{arith}
use Rattle.std.specs.Prelude.{Result, Ok, Err}
use Rattle.text.specs.declared.SyntaxError.{SyntaxError}
use Rattle.text.specs.declared.SyntaxError.TheVariants.{TooLong, NoTokenAt, UnfitAt, NoRoom}
use Rattle.text.specs.inner_contracts.EnumAnswers.{syntax_answer, code_of, offset_of}
use Rattle.text.specs.inner_contracts.TokenTable.{TokenColumns}
use Rattle.text.specs.inner_contracts.Syntaxes.{Says, ReadsText}
use Rattle.measure.specs.inner_contracts.Measured.{syntax_number, Measures}

pub answer_fits : (text : List ℕ) (t u : TokenColumns) (s : Result ℕ SyntaxError) → Says text t u s → syntax_number s < 256 * 32769
unfolding syntax_number
answer_fits text t u (Ok n) h = omega (arith, h.within, h.allowed)
answer_fits text t u (Err TooLong) h = omega arith
answer_fits text t u (Err (NoTokenAt p)) h = omega (arith, h.within, h.allowed)
answer_fits text t u (Err (UnfitAt p)) h = omega (arith, h.within, h.allowed)
answer_fits text t u (Err NoRoom) h = omega arith

-- a refusal's offset, then, is at most the length that a bench file may have
pub offset_fits : (e : SyntaxError) → syntax_number (Err e) < 256 * 32769 → offset_of e ≤ 32768
unfolding syntax_number syntax_answer code_of offset_of
offset_fits TooLong h = omega arith
offset_fits (NoTokenAt p) h = omega arith
offset_fits (UnfitAt p) h = omega arith
offset_fits NoRoom h = omega arith

pub measured : {text : List ℕ} {t u : TokenColumns} {s : Result ℕ SyntaxError} {r : ℕ} → ReadsText text t u s → r ≡ syntax_number s → Measures text t u r
measured {s = s} l e = record { syntax = s; reads = l; number = e }
