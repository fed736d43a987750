-- The verdict on a text from the answer of `read`.
use mathlib.Core.Path.{◌≡◌}
use mathlib.Core.List.{List}
use Prim.Native.Nat.{ℕ}
use lib.ListN.{length}
use borrow.Author.Tests.{le-leb, lt-leb}
use Rattle.std.specs.Prelude.{Result, Ok, Err}
use Rattle.text.specs.declared.SyntaxError.{SyntaxError}
use Rattle.text.specs.declared.SyntaxError.TheVariants.{TooLong, NoTokenAt, UnfitAt}
use Rattle.text.specs.inner_contracts.TokenTable.{TokenColumns}
use Rattle.text.specs.inner_contracts.Syntaxes.{ReadsText}
use Rattle.text.proofs.laws.SyntaxLaws.{said}
use Rattle.checking.specs.definitions.Verdict.{refused_at, file_verdict, parsing_verdict, lexing_verdict, MOST_BYTES, verdict}

module _ {text : List ℕ} {t u : TokenColumns} {r : Result ℕ SyntaxError} (l : ReadsText text t u r) where
  pub long_verdict : r ≡ Err TooLong → verdict text ≡ refused_at 11 32768
  unfolding verdict
  long_verdict e = rw (verdict, lt-leb (length text) MOST_BYTES (said l e))

  pub bad_verdict : {p : ℕ} → r ≡ Err (NoTokenAt p) → verdict text ≡ refused_at 12 p
  unfolding verdict lexing_verdict
  bad_verdict e = let h = said l e in rw (verdict, le-leb (length text) MOST_BYTES h.allowed, h.lexed)

  pub unfit_verdict : {p : ℕ} → r ≡ Err (UnfitAt p) → verdict text ≡ refused_at 13 p
  unfolding verdict lexing_verdict parsing_verdict
  unfit_verdict e = let h = said l e in rw (verdict, le-leb (length text) MOST_BYTES h.allowed, h.lexed, h.parses)

  pub file_verdicts : {n : ℕ} (e : r ≡ Ok n) → verdict text ≡ file_verdict (said l e).tree
  unfolding verdict lexing_verdict parsing_verdict
  file_verdicts e = let h = said l e in rw (verdict, le-leb (length text) MOST_BYTES h.allowed, h.lexed, h.parses)
