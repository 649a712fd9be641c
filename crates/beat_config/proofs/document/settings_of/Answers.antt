use Rattle.std.proofs.Common.{◌≡◌, None, sym, ap, ◌∙◌}
use Rattle.toml.specs.View.{table_view}
use Rattle.beat_config.specs.Document.{document_findings}
use Rattle.beat_config.specs.Finding.{seen_of, note_all}
use Rattle.beat_config.proofs.First.{none_noted}
use Rattle.beat_config.proofs.RangesOfDocuments.{document_in_range}
use Rattle.beat_config.proofs.document.settings_of.Goals as goal

pub returns-in-None-clause-in_range : goal.returns-in-None-clause-in_range
unfolding seen_of
returns-in-None-clause-in_range c =
    let found = document_findings (table_view c.args.document.now) in
    let quiet : note_all None found ≡ None =
    ap (λ first. note_all first found) (sym c.new-noted.ensures) ∙ sym c.in-Ok.ensures.findings ∙ c.in-None.is in
    document_in_range (table_view c.args.document.now) c.in-Ok.settings (none_noted found quiet) c.in-Ok.ensures.value
