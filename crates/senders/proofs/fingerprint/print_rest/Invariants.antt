-- What is left of the text goes on from the fold so far.
use Rattle.senders.specs.definitions.Fingerprint.{PRIME, fingerprint_from}
use Rattle.std.proofs.Common.{drop, ◌<◌, ◌≡◌}
use Rattle.senders.proofs.fingerprint.print_rest.Given as goal

abbrev pub invariant-loop-i : goal.invariant-loop-i
invariant-loop-i l =
    record {
      below : l.print < PRIME;
      left : fingerprint_from l.print (drop l.i l.text) ≡ fingerprint_from l.so_far (drop l.at l.text);
    }
