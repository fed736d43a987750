-- What is left of `cell_of`.
use Rattle.std.proofs.Common.{arith}
use Rattle.std.proofs.Math.ListN.{get_elem?}
use Rattle.checking.specs.inner_contracts.Directory.{member_number}
use Rattle.checking.proofs.laws.CalledLaws.{some_below, some_by, none_by}
use Rattle.checking.proofs.steps.MeaningLaws.{a_cell, no_cell}
use Rattle.checking.proofs.meanings.cell_of.Goals as goal

pub returns-in_default : goal.returns-in_default
returns-in_default c =
    no_cell _ _ (none_by (λ f s. member_number (get_elem? f.interfaces c.args.face) s) c.name.ensures.bytes c.member.ensures c.in_default.is) (omega arith)
    c.row.ensures.0 c.offset-at.ensures c.unless.ensures

pub returns : goal.returns
returns c =
    a_cell _ _ (some_by (λ f s. member_number (get_elem? f.interfaces c.args.face) s) c.name.ensures.bytes c.member.ensures c.in-Some.is)
    (some_below c.member.ensures c.in-Some.is) c.member_sort.ensures c.sort_fits-fits.ensures c.offset-at.ensures c.unless-2.ensures c.member_kind.ensures
