-- The sums of a fingerprint under way, before their remainder is taken.
use Rattle.std.specs.Prelude.{ℕ}

abbrev pub SUMS_BELOW : ℕ
SUMS_BELOW = 8589934592
