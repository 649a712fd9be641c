use Rattle.std.proofs.Common.{sym, subst}
use Rattle.harvester.specs.Held.{Held}
use Rattle.harvester.specs.Standing.{StandsFor}
use Rattle.harvester.proofs.Lasting.{may_be_ending}
use Rattle.harvester.specs.History.{with_ending}
use Rattle.harvester.proofs.Standings.{ending_stands}
use Rattle.harvester.proofs.reader.Reader.ending.Goals as goal

pub invariant_of-self : goal.invariant_of-self
invariant_of-self c =
    let i = c.self.invariant in
    record { history = with_ending c.args.forget i.history; of = i.of; holds = ending_stands i.history _ i.of i.holds c.args.forget }

pub returns-clause-stands : goal.returns-clause-stands
returns-clause-stands c = λ h stands. may_be_ending h _ (subst (λ (held : Held). StandsFor h held) (sym c.self.view_is) stands) c.args.forget
