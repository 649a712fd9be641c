use Rattle.batch_worker.proofs.Keeping.{keeps_on, keeps_same}
use Rattle.batch_worker.proofs.Turning.{turn_keeps}
use Rattle.batch_worker.proofs.laws.keeping_goes_on.Goals as goal

pub returns : goal.returns
returns g c = record {
  nothing = λ seen worker. keeps_same _ seen worker;
  behind = λ before between after old mid new first then. keeps_on _ _ _ before between after old mid new first then;
  turn = turn_keeps g.L.Link.told g.L.Link.faults g.L.Link.idles;
}
