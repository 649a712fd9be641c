use Rattle.lumber_server.proofs.OneWay.{received_once}
use Rattle.lumber_server.proofs.laws.received_in_one_way.Goals as goal

pub returns : goal.returns
returns c bytes f g first second = received_once bytes f g first second
