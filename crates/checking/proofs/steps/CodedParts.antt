-- What two parts with faults by their numbers have together.
use mathlib.Core.Path.{◌≡◌, refl}
use Rattle.std.specs.Prelude as code
use Rattle.checking.specs.declared.coded_faults.CodedFault.{CodedFault}
use Rattle.checking.specs.declared.coded_faults.CodedPart.{CodedPart}
use Rattle.checking.specs.inner_contracts.FoundFaults.{merged}
use Rattle.checking.specs.inner_contracts.CodedFaults.{coded_as, CodedJoined}
use Rattle.checking.proofs.steps.CheckedParts.{found_both}

pub coded_joined : {p q : CodedPart} {names kinds : code.Option CodedFault} → coded_as names ≡ merged (coded_as p.names) (coded_as q.names)
    → coded_as kinds ≡ merged (coded_as p.kinds) (coded_as q.kinds) → CodedJoined p q (record { next = q.next; names = names; kinds = kinds })
coded_joined m n = record {
  next_is = refl;
  part = λ xs ks ys ls g h. record {
    names_found = found_both xs ys m g.names_found h.names_found;
    kinds_found = found_both ks ls n g.kinds_found h.kinds_found;
  };
}
