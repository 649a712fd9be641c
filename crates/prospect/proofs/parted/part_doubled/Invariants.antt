use Rattle.prospect.specs.Doubled.{PartsDoubled}
use Rattle.prospect.specs.Parting.{HasKeysOf}
use Rattle.prospect.proofs.parted.part_doubled.Given as goal

abbrev pub invariant-loop-one : goal.invariant-loop-one
invariant-loop-one l = record {
  keys : HasKeysOf l.parted.files.items l.keys;
  parted : PartsDoubled l.yielded l.parted.files.items l.parted.doubled.items;
}
