use Rattle.harvester.specs.History.{with_stage}
use Rattle.harvester.specs.Standing.{stage_of}
use Rattle.harvester.proofs.Lasting.{stages_from}
use Rattle.harvester.proofs.Standings.{staged}
use Rattle.harvester.proofs.reader.Reader.stand.Goals as goal

pub invariant_of-self : goal.invariant_of-self
invariant_of-self c =
    let i = c.self.invariant in
    record { history = with_stage (stage_of c.args.stage) i.history; of = i.of; holds = staged i.history _ i.of i.holds c.args.stage }

pub returns-clause-stands : goal.returns-clause-stands
returns-clause-stands c = λ h stood at. stages_from h _ _ c.self.view_is stood c.args.stage at
