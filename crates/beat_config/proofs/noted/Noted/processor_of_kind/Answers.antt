use Rattle.std.proofs.Common.{◌≡◌, ◌∙◌}
use Rattle.toml.specs.Data.{get_member}
use Rattle.toml.specs.View.{table_view}
use Rattle.beat_config.specs.Finding.{seen_of, note_all}
use Rattle.beat_config.specs.Path.{key_path}
use Rattle.beat_config.specs.Processors.{key_of, of_kind_findings, processor_value_findings}
use Rattle.beat_config.specs.Table.{members_at, table_at_findings}
use Rattle.beat_config.proofs.Chain.{then}
use Rattle.beat_config.proofs.noted.Noted.processor_of_kind.Goals as goal

pub returns-clause-findings : goal.returns-clause-findings
unfolding of_kind_findings
returns-clause-findings c =
    let at = c.as_str-at.ensures in
    let name = c.key-name.ensures in
    let table = table_view c.args.table.now in
    let below : c.as_str-below.result.now ≡ key_path c.args.key.now (key_of c.args.kind) =
    c.as_str-below.ensures ∙ c.in_ok-path.ensures ∙ (λ i. key_path (at i) (name i)) in
    let inner : table_view c.in_ok-inner.inner.now ≡ members_at (get_member (key_of c.args.kind) table) =
    c.in_ok-inner.ensures.value ∙ (λ i. members_at (get_member (name i) table)) in
    then _ _ _ _ _
    (c.in_ok-inner.ensures.findings
    ∙ (λ i. note_all (seen_of c.args.self.now)
    (table_at_findings (key_path (at i) (name i)) (c.known-known.ensures i) (c.required-required.ensures i) (get_member (name i) table))))
    (c.in_ok-rule.ensures.findings
    ∙ (λ i. note_all (seen_of c.table_at.new.self) (processor_value_findings c.args.kind (below i) (inner i))))
