use Rattle.std.proofs.Common.{◌≡◌, ◌∙◌, codes}
use Rattle.toml.specs.View.{table_view}
use Rattle.beat_config.specs.Finding.{seen_of, note_all}
use Rattle.beat_config.specs.Input.{identity_value_findings, identity_findings}
use Rattle.beat_config.specs.Path.{key_path}
use Rattle.beat_config.proofs.Chain.{then}
use Rattle.beat_config.proofs.noted.Noted.identity.Goals as goal

pub returns-clause-findings : goal.returns-clause-findings
unfolding identity_findings
returns-clause-findings c =
    let named : c.as_str.result.now ≡ key_path c.args.path.now (codes "fingerprint") = c.as_str.ensures ∙ c.in_ok-inner.ensures in
    let members = table_view c.args.table.now in
    then _ _ _ _ _ c.in_ok-fingerprint.ensures.findings
    (c.in_ok-rule.ensures.findings
    ∙ (λ i. note_all (seen_of c.table_at.new.self) (identity_value_findings c.args.path.now (named i) members (c.in_ok-fingerprint.ensures.value i))))
