use Rattle.std.proofs.Common.{sym, subst}
use Rattle.harvester.specs.Held.{Held}
use Rattle.harvester.specs.Standing.{StandsFor}
use Rattle.harvester.proofs.Lasting.{renames}
use Rattle.harvester.specs.History.{with_path}
use Rattle.harvester.proofs.Standings.{path_stands}
use Rattle.harvester.proofs.reader.Reader.rename.Goals as goal

pub invariant_of-self : goal.invariant_of-self
invariant_of-self c =
    let i = c.self.invariant in
    record { history = with_path c.args.path i.history; of = i.of; holds = path_stands i.history _ i.of i.holds c.args.path }

pub returns-clause-stands : goal.returns-clause-stands
returns-clause-stands c = λ h stands. renames h _ (subst (λ (held : Held). StandsFor h held) (sym c.self.view_is) stands) c.args.path
