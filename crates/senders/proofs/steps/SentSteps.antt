-- Bounds that a record on a state needs: a short name, a number that fits.
use Prim.Native.Nat.{ℕ, ◌+◌, ◌%◌, ◌≤◌}
use native.Mathlib.Omega.{arith}
use mathlib.Core.Path.{◌≡◌, sym, ◌∙◌, subst}
use mathlib.Core.Bool.{Bool, true, not, ◌&&◌, ◌||◌}
use mathlib.Core.List.{List}
use lib.Dec.{T, leb, eqb, leb→le}
use lib.Ieee.Fits.{and_l, and_r}
use lib.ListN.{length}
use Rattle.senders.specs.definitions.Sender.{MOST_NAME_BYTES, is_sender}
use Rattle.senders.specs.definitions.Line.{GREATEST_NUMBER, in_turn}
use Rattle.senders.proofs.laws.SenderLaws.{name_short}

-- a name that is tested
pub sender_short : (name : List ℕ) {t : Bool} → t ≡ is_sender name → t ≡ true → length name ≤ MOST_NAME_BYTES
sender_short name e q = name_short name (subst T (sym q ∙ e) tt)

-- a number in its turn fits 32 bits
pub turn_fits : (last n : ℕ) {t : Bool} → t ≡ in_turn last n → t ≡ true → n % 4294967296 ≡ n
unfolding in_turn
turn_fits last n e q =
    let h : T (not (eqb n 0) && (leb n GREATEST_NUMBER && (eqb n last || eqb n (last + 1)))) = subst T (sym q ∙ e) tt in
    let a = and_r (not (eqb n 0)) (leb n GREATEST_NUMBER && (eqb n last || eqb n (last + 1))) h in
    let k = leb→le n GREATEST_NUMBER (and_l (leb n GREATEST_NUMBER) (eqb n last || eqb n (last + 1)) a) in
    omega arith
