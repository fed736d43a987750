-- What is left of `atom_guards`.
use Rattle.cycles.proofs.steps.GuardWalks.{atom_guards_clause, atom_guards_group}
use Rattle.cycles.proofs.finding.atom_guards.Goals as goal

pub returns-then-class_at-ne-ROUND_OPEN : goal.returns-then-class_at-ne-ROUND_OPEN
returns-then-class_at-ne-ROUND_OPEN c = atom_guards_clause c.class_at.ensures c.if-class_at-ne-ROUND_OPEN.true c.clause_guards.ensures

pub returns : goal.returns
returns c = atom_guards_group c.atom_end-next.ensures c.put_in_pass.ensures
