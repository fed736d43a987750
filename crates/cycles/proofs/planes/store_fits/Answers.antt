-- What is left of `store_fits`.
use Rattle.cycles.proofs.laws.PlaneTestLaws.{no_token_tested}
use Rattle.cycles.specs.definitions.Planes.{store_fits}
use Rattle.cycles.proofs.planes.store_fits.Goals as goal

pub returns-then-at-ge-NO_TOKEN : goal.returns-then-at-ge-NO_TOKEN
unfolding store_fits
returns-then-at-ge-NO_TOKEN c = no_token_tested c.if-at-ge-NO_TOKEN.true c.is_unset_cell.ensures
