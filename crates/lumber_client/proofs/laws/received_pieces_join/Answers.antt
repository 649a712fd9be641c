use Rattle.lumber_client.proofs.Alike.{joined_acknowledges, joined_fault, pieces_join}
use Rattle.lumber_client.proofs.laws.received_pieces_join.Goals as goal

pub returns : goal.returns
returns c = record {
  window = pieces_join;
  acknowledged = joined_acknowledges;
  fault = joined_fault;
}
