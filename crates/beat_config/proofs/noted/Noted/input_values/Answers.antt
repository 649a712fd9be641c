use Rattle.std.proofs.Common.{◌∙◌, ap, [], unwrap_or, codes}
use Rattle.toml.specs.Data.{get_member}
use Rattle.toml.specs.View.{table_view}
use Rattle.beat_config.specs.Input.{terminator_at}
use Rattle.beat_config.specs.Multiline.{group_of}
use Rattle.beat_config.specs.Input.{id_in, input_in, input_value_findings}
use Rattle.beat_config.proofs.Chain.{then}
use Rattle.beat_config.proofs.noted.Noted.input_values.Goals as goal

pub returns-clause-value : goal.returns-clause-value
unfolding input_in id_in
returns-clause-value c =
    let id = c.or_empty.ensures ∙ ap (λ text. unwrap_or text []) c.in_ok-id.ensures.value in
    let paths = c.from_vec.ensures ∙ c.in_ok-paths.ensures.value in
    let terminator = c.terminator_at.ensures ∙ ap terminator_at c.in_ok-terminator.ensures.value in
    let included = c.from_vec-2.ensures ∙ c.in_ok-include_lines.ensures.value in
    let excluded = c.from_vec-3.ensures ∙ c.in_ok-exclude_lines.ensures.value in
    let most = c.in_ok-message_max_bytes.ensures.value in
    let multiline = c.in_ok-multiline.ensures.value ∙ ap (λ n. group_of n (get_member (codes "multiline") (table_view c.args.table.now))) most in
    λ i. record {
      id = id i;
      paths = paths i;
      file_identity = c.in_ok-file_identity.ensures.value i;
      check_interval = (c.in_ok-times.ensures.value i).check_interval;
      clean_removed = c.in_ok-clean_removed.ensures.value i;
      close_inactive = (c.in_ok-times.ensures.value i).close_inactive;
      ignore_older = (c.in_ok-times.ensures.value i).ignore_older;
      clean_inactive = (c.in_ok-times.ensures.value i).clean_inactive;
      lines = record { terminator = terminator i; message_max_bytes = most i };
      include_lines = included i;
      exclude_lines = excluded i;
      multiline = multiline i;
    }

pub returns-clause-id : goal.returns-clause-id
unfolding id_in
returns-clause-id c = c.or_empty.ensures ∙ ap (λ text. unwrap_or text []) c.in_ok-id.ensures.value

pub returns-clause-findings : goal.returns-clause-findings
unfolding input_value_findings
returns-clause-findings c =
    then _ _ _ _ _ c.in_ok-id.ensures.findings (then _ _ _ _ _ c.in_ok-paths.ensures.findings
    (then _ _ _ _ _ c.in_ok-file_identity.ensures.findings (then _ _ _ _ _ c.in_ok-times.ensures.findings
    (then _ _ _ _ _ c.in_ok-clean_removed.ensures.findings
    (then _ _ _ _ _ c.in_ok-terminator.ensures.findings (then _ _ _ _ _ c.in_ok-message_max_bytes.ensures.findings
    (then _ _ _ _ _ c.in_ok-include_lines.ensures.findings (then _ _ _ _ _ c.in_ok-exclude_lines.ensures.findings
    c.in_ok-multiline.ensures.findings))))))))
