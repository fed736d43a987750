-- What is left of `advance`.
use Rattle.senders.proofs.laws.SentLaws.{advanced_refused, advanced_sent}
use Rattle.senders.proofs.record.advance.Goals as goal

pub returns-in-None : goal.returns-in-None
returns-in-None c = advanced_refused _ _ _ _ _ _ _ _ c.read_sent.ensures _ c.in-None.is

pub returns-in-Some : goal.returns-in-Some
returns-in-Some c = advanced_sent _ _ _ _ _ _ _ _ c.read_sent.ensures _ c.in-Some.is c.take_sent.ensures
