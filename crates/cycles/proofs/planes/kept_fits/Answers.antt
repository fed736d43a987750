-- What is left of `kept_fits`.
use Rattle.cycles.proofs.laws.PlaneTestLaws.{no_token_tested}
use Rattle.cycles.specs.definitions.Planes.{kept_fits}
use Rattle.cycles.proofs.planes.kept_fits.Goals as goal

pub returns-then-at-ge-NO_TOKEN : goal.returns-then-at-ge-NO_TOKEN
unfolding kept_fits
returns-then-at-ge-NO_TOKEN c = no_token_tested c.if-at-ge-NO_TOKEN.true c.is_blank_cell.ensures
