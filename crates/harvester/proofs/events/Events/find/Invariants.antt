use Rattle.std.proofs.Common.{◌≡◌, ℕ, List, None}
use Rattle.line_cutter.specs.Cutting.{fed_to}
use Rattle.told_events.specs.Rules.{Rules}
use Rattle.harvester.specs.Gathered.{Gathered, IsGathered, Moved, SomeGathered, left_in}
use Rattle.harvester.proofs.events.Events.find.Given as goal

abbrev pub decreases-loop-line : goal.decreases-loop-line
decreases-loop-line l = left_in l.self

abbrev pub invariant-loop-line : goal.invariant-loop-line
invariant-loop-line l = record {
  some : SomeGathered l.self;
  none_closed : l.self.closed ≡ None;
  moved : (rules : Rules) (start : ℕ) (fed licences : List ℕ) (of : Gathered) → IsGathered rules start fed licences of l.fn.self →
      Moved rules start fed licences of l.fn.self.last_line l.now l.self;
  place : fed_to l.self.cutter ≡ fed_to l.fn.self.cutter;
}
