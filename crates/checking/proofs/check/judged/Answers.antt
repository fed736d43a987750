-- What is left of `judged`.
use Rattle.std.proofs.Common.{refl}
use Rattle.checking.proofs.steps.JudgedLaws.{first_found, judged_told}
use Rattle.checking.proofs.check.judged.Goals as goal

pub returns : goal.returns
returns c =
    judged_told c.priority_fault-priorities.ensures c.count_fault-counts.ensures c.build.ensures c.build.auto.d c.link_entities.ensures
    c.file_faults-found.ensures refl refl refl (first_found _ _ _ _ c.or.ensures c.or-2.ensures c.or-3.ensures)
