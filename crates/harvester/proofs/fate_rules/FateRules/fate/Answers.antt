use Rattle.std.proofs.Common.{ℕ, List, ◌∙◌, sym, ap}
use Rattle.line_filter.specs.Dropped.{dropped_by}
use Rattle.line_filter.specs.LinePatterns.{LinePatterns}
use Rattle.line_filter.specs.Verdict.{verdict_of}
use Rattle.line_filter.specs.declared.verdict.Verdict.{Verdict}
use Rattle.harvester.proofs.Deciding.{dropped, kept}
use Rattle.harvester.proofs.fate_rules.FateRules.fate.Goals as goal

pub returns-in-Drop-clause-fate : goal.returns-in-Drop-clause-fate
returns-in-Drop-clause-fate c =
    dropped c.args.self.now c.args.path.now c.args.group.now.span.start c.args.group.now.message c.args.now.0 c.in-Drop.rule.0
    (ap (λ (v : Verdict). dropped_by v) (sym c.in-Drop.is) ∙ c.in_ok-rule.ensures.verdict
    ∙ ap (λ (m : List ℕ). verdict_of c.args.self.now.filter.include c.args.self.now.filter.exclude m) c.bytes.ensures)

pub returns-in-Keep-clause-fate : goal.returns-in-Keep-clause-fate
returns-in-Keep-clause-fate c =
    kept c.args.self.now c.args.path.now c.args.group.now.span.start c.args.group.now.message c.args.now.0 c.kept_fate.result
    (ap (λ (v : Verdict). dropped_by v) (sym c.in-Keep.is) ∙ c.in_ok-rule.ensures.verdict
    ∙ ap (λ (m : List ℕ). verdict_of c.args.self.now.filter.include c.args.self.now.filter.exclude m) c.bytes.ensures) (rw c.set.ensures at c.kept_fate.ensures.fate)

pub returns-in-Keep-clause-same : goal.returns-in-Keep-clause-same
returns-in-Keep-clause-same c = λ rules decides. record {
  include = ap (λ (p : LinePatterns). p.include) c.verdict.ensures.same ∙ decides.include;
  exclude = ap (λ (p : LinePatterns). p.exclude) c.verdict.ensures.same ∙ decides.exclude;
  chain = c.kept_fate.ensures.same rules.processors decides.chain;
}
