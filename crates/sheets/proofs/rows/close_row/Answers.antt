-- the spaces, then the line feed
use Rattle.values.proofs.laws.PutLaws.{put_next}
use Rattle.sheets.proofs.rows.close_row.Goals as goal

pub returns : goal.returns
returns c = put_next c.put_spaces-filled.ensures c.put_bytes.ensures
