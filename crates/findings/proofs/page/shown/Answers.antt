use Rattle.std.proofs.Common.{◌≡◌, ℕ, List, Bor, map, take, sym, ap, ◌∙◌}
use Rattle.std.proofs.lemmas.List.{take-map, take_min}
use Rattle.findings.specs.declared.finding.Finding.{Finding}
use Rattle.findings.specs.declared.page.TheConstants.{SHOWN}
use Rattle.findings.proofs.page.shown.Goals as goal

pub returns : goal.returns
returns c =
    let few : take c.min.result c.args.of.now ≡ take SHOWN c.args.of.now = ap (λ (n : ℕ). take n c.args.of.now) c.min.ensures ∙ take_min SHOWN c.args.of.now in
    ap (λ (l : List (Bor Finding)). map (λ one. one.now) l) few ∙ sym (take-map (λ (one : Bor Finding). one.now) SHOWN c.args.of.now)
