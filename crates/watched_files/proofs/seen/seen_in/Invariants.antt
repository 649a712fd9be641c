use Rattle.std.proofs.Common.{◌≡◌, flat_map, take}
use Rattle.watched_files.specs.Seen.{seen_one}
use Rattle.watched_files.proofs.seen.seen_in.Given as goal

abbrev pub invariant-loop-one : goal.invariant-loop-one
invariant-loop-one l = l.seen.items ≡ flat_map seen_one (take l.one-index l.listed)
