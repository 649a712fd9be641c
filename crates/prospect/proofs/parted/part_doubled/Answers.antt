use Rattle.prospect.proofs.Parting.{parts_more}
use Rattle.prospect.proofs.parted.part_doubled.Goals as goal

pub loop-one-preserved : goal.loop-one-preserved
loop-one-preserved c = record {
  keys = c.in_ok-part_one.ensures.keys;
  parted = parts_more c.loop-one.yielded c.in-Some.one c.loop-one.parted c.part_one.new.parted c.loop-one.invariant.parted c.in_ok-part_one.ensures.parted;
}
