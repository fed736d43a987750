-- What the call answers that gives the class of a byte.
use Prim.Native.Nat.{ℕ, ◌<◌}
use mathlib.Core.Path.{sym, subst}
use Rattle.text.specs.definitions.ByteClass.{Classified}
use Rattle.text.proofs.theorems.ByteClasses.{byte_classified}
use Rattle.engine.specs.definitions.Calls.{ClassContract}

pub answer_classified : (byte r : ℕ) → byte < 256 → ClassContract byte r → Classified byte r
answer_classified byte r h e = subst (Classified byte) (sym e) (byte_classified byte h)
