use Rattle.std.proofs.Common.{◌≡◌, ◌+◌, drop, sym, ap, ◌∙◌, arith}
use Rattle.toml.specs.Data.{item}
use Rattle.toml.specs.View.{view, items_view}
use Rattle.toml.proofs.Views.{items_view-drop}
use Rattle.beat_config.specs.Finding.{seen_of, note_all}
use Rattle.beat_config.specs.Path.{member_path}
use Rattle.beat_config.specs.Processors.{processor_findings, IsProcessor}
use Rattle.beat_config.proofs.Each.{each_told, each_more, each_all, none_left}
use Rattle.beat_config.proofs.noted.Noted.processor_items.Goals as goal

pub loop-number-preserved : goal.loop-number-preserved
loop-number-preserved c =
    let l = c.loop-number in
    let key = c.args.key.now in
    let items = c.args.items.now in
    let value = view c.index-items-number.result in
    let rest = items_view (drop (l.number + 1) items) in
    let left = items_view (drop l.number items) in
    let split : left ≡ item value rest =
    items_view-drop items l.number c.index-items-number.result c.loop-number-test.true
    ∙ ap (λ v. item (view v) rest) (sym c.index-items-number.is) in
    let named : c.in_ok-key.key ≡ member_path key l.number = c.in_ok-key.ensures ∙ ap (λ k. member_path k l.number) c.as_str.ensures in
    let first : seen_of c.processor.new.self ≡ note_all (seen_of l.self) (processor_findings (member_path key l.number) value) =
    c.in_ok-rule.ensures.findings ∙ ap (λ k. note_all (seen_of l.self) (processor_findings k value)) named in
    record {
      told = each_told processor_findings key l.number value rest left _ _ first split ∙ l.invariant.told;
      rules = λ later h.
          rw c.in_ok-push.ensures.items
          (each_more IsProcessor left (items_view items) rest value l.rules.items c.in_ok-rule.rule split l.invariant.rules c.in_ok-rule.ensures.value later h);
    }

pub returns-clause-value : goal.returns-clause-value
returns-clause-value c =
    each_all IsProcessor (items_view (drop c.loop-number.number c.args.items.now)) (items_view c.args.items.now) c.loop-number.rules.items
    (none_left c.args.items.now c.loop-number.number (omega arith)) c.loop-number.invariant.rules
