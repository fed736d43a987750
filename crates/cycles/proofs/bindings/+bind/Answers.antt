-- What is left of `bind`.
use Rattle.cycles.proofs.steps.BindingPuts.{bindings_complete, bindings_impossible, bindings_nowhere, incomplete_few, marks_mean, turn_saved, turn_takes, turns_begin, turns_end}
use Rattle.std.proofs.Common.{refl, rules}
use Rattle.cycles.proofs.bindings.+bind.Goals as goal
use Rattle.cycles.proofs.bindings.+bind.Goals.{then-marks-e-ne0, else-marks-e-ne0}

pub returns-then-is_complete : goal.returns-then-is_complete
returns-then-is_complete t c = search (rules, bindings_complete)

pub returns-then-face-ge-MOST_INTERFACES : goal.returns-then-face-ge-MOST_INTERFACES
returns-then-face-ge-MOST_INTERFACES t c = bindings_nowhere c.scope-face.ensures c.if-face-ge-MOST_INTERFACES.true c.is_complete.ensures c.if-is_complete.false

pub returns-then-end-gt-MOST_ENTITIES_8 : goal.returns-then-end-gt-MOST_ENTITIES_8
returns-then-end-gt-MOST_ENTITIES_8 t c = bindings_impossible (c.requires.ranges c.scope-face.result _ c.if-face-ge-MOST_INTERFACES.false) c.scope-face.ensures c.if-end-gt-MOST_ENTITIES_8.true c.is_complete.ensures c.if-is_complete.false

pub loop-e-init : goal.loop-e-init
loop-e-init t c = turns_begin (c.requires.ranges c.scope-face.result _ c.if-face-ge-MOST_INTERFACES.false) c.scope-face.ensures

pub loop-e-preserved : goal.loop-e-preserved
loop-e-preserved t c =
    let few = incomplete_few c.args.worlds.now.rules.now.scopes.now c.args.trial.now.k c.args.level c.is_complete.ensures c.if-is_complete.false in
    let marked = c.narrow.ensures.narrows c.args.worlds.now.rules.now.columns.d.now c.args.worlds.now.rules.now.scopes.now c.args.trial.now.k c.scope-face.result (rw c.as_slice-guards.ensures.value c.requires.guards_found) (marks_mean c.mark_candidates.ensures) in
    let ranged = c.requires.ranges c.scope-face.result _ c.if-face-ge-MOST_INTERFACES.false in
    elim c.if-marks-e-ne0.branch [
      | then-marks-e-ne0 w ↦
          rw w.area-is
          (turn_takes ranged c.scope-face.ensures c.loop-e.invariant c.loop-e-test.true refl
          (marked.marked _ c.loop-e.auto.e c.loop-e-test.true w.if-marks-e-ne0.true) few c.with_entity.ensures w.bind.ensures)
      | else-marks-e-ne0 w ↦
          rw w.area-is
          (turn_saved ranged c.scope-face.ensures c.loop-e.invariant c.loop-e-test.true
          few c.with_entity.ensures (marked.unmarked _ c.loop-e.auto.e c.loop-e-test.true w.if-marks-e-ne0.false))
    ]

pub returns : goal.returns
returns t c = turns_end (c.requires.ranges c.scope-face.result _ c.if-face-ge-MOST_INTERFACES.false) c.scope-face.ensures c.loop-e.invariant c.is_complete.ensures c.if-is_complete.false c.loop-e-test.false
