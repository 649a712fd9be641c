use Rattle.lumber_client.proofs.Acknowledging.{acknowledges}
use Rattle.lumber_client.proofs.laws.acknowledged_is_of_the_talk.Goals as goal

pub returns : goal.returns
returns c = acknowledges
