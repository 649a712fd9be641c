use Rattle.std.proofs.Common.{◌≡◌, refl, sym, subst}
use Rattle.toml.specs.View.{table_view}
use Rattle.beat_config.specs.Finding.{seen_of, note_all}
use Rattle.beat_config.specs.Processors.{value_findings, IsOfKind}
use Rattle.beat_config.proofs.noted.Noted.rule_of_kind.Goals as goal

pub returns-in-DropEvent-clause-value : goal.returns-in-DropEvent-clause-value
returns-in-DropEvent-clause-value c =
    subst (λ k. IsOfKind k (table_view c.args.table.now) c.args.when c.drop_event.result) (sym c.in-DropEvent.is) (c.drop_event.ensures (table_view c.args.table.now))

pub returns-in-DropEvent-clause-findings : goal.returns-in-DropEvent-clause-findings
unfolding value_findings note_all
returns-in-DropEvent-clause-findings c =
    subst (λ k. seen_of c.args.self.now ≡ note_all (seen_of c.args.self.now) (value_findings k c.args.path.now (table_view c.args.table.now)))
    (sym c.in-DropEvent.is) refl
