use Rattle.std.proofs.Common.{◌≡◌, IsTrue, ◌↔◌, rules, tests}
use Rattle.prospect.specs.Showings.{HasNumbers}
use Rattle.prospect.proofs.Adding.{has_by_others}
use Rattle.prospect.proofs.showing.Showing.has.Goals as goal

pub returns-else-eq : goal.returns-else-eq
returns-else-eq c =
    let others : IsTrue c.any.result ↔ HasNumbers c.args.self.now.others.items c.args.native = search (rules, tests) in
    let differs : c.args.self.now.first.native ≡ c.args.native → ⊥ = search (rules, tests) in
    has_by_others c.args.self.now c.args.native c.any.result differs others
