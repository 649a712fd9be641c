use Rattle.std.proofs.Common.{Option}
use Rattle.lumber_client.specs.Exchange.{Exchange}
use Rattle.outside.specs.Talks.{Talk}
use Rattle.spool_queue.specs.OnlyRead.{IsOnlyRead}
use Rattle.spool_queue.specs.SendSoFar.{Talks}
use Rattle.spool_queue.specs.Sending.{IsFilled}
use Rattle.spool_queue.proofs.Fillings.{FillsSoFar}
use Rattle.spool_queue.proofs.sending.fill.Given as goal

abbrev pub invariant-payloads : goal.invariant-payloads
invariant-payloads g l = record {
  filled : IsFilled l.window l.i;
  talks : (began told : Option Talk) (e : Exchange) → Talks l.initial.window began told e → Talks l.window began told e;
  only_read : IsOnlyRead g.D.Disk.contents g.D.Disk.images g.D.Disk.moment g.D.Disk.images_since g.D.Disk.faults l.initial.disk l.disk;
  first : FillsSoFar (g.D.Disk.contents l.initial.disk) l.spool l.initial.walk l.walk l.window l.i;
}
