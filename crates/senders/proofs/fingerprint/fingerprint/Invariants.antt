-- What is left of the text goes on from what the fold so far leaves.
use Rattle.senders.specs.definitions.Fingerprint.{PRIME, fingerprint, fingerprint_from}
use Rattle.senders.specs.inner_contracts.PrintSums.{SUMS_BELOW}
use Rattle.std.proofs.Common.{drop, length, ◌%◌, ◌-◌, ◌<◌, ◌≡◌, ◌≤◌}
use Rattle.senders.proofs.fingerprint.fingerprint.Given as goal

abbrev pub invariant-loop-i : goal.invariant-loop-i
invariant-loop-i l =
    record {
      below : l.print < SUMS_BELOW;
      within : l.i ≤ length l.text;
      left : fingerprint_from (l.print % PRIME) (drop l.i l.text) ≡ fingerprint l.text;
    }

abbrev pub decreases-loop-i : goal.decreases-loop-i
decreases-loop-i l = length l.text - l.i
