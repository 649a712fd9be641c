use Rattle.std.proofs.Common.{true}
use Rattle.harvester.specs.History.{with_ending}
use Rattle.run_tests.proofs.tests.one_lane.files.marked.Goals as goal

pub returns : goal.returns
returns g c = (with_ending true c.requires.0, c.ending.ensures.ends c.requires.0 c.requires.1)
