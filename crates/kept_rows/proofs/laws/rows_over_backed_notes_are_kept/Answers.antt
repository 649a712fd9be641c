use Rattle.kept_rows.proofs.Backing.{row_is_kept}
use Rattle.kept_rows.proofs.Images.{kept_at_the_end, kept_in_image}
use Rattle.kept_rows.proofs.laws.rows_over_backed_notes_are_kept.Goals as goal

pub returns-clause-slot : goal.returns-clause-slot
returns-clause-slot c = row_is_kept c.covered_end_closes_a_prefix.ensures.prefix

pub returns-clause-image : goal.returns-clause-image
returns-clause-image c = kept_in_image c.covered_end_closes_a_prefix.ensures.prefix

pub returns-clause-end : goal.returns-clause-end
returns-clause-end c = kept_at_the_end c.covered_end_closes_a_prefix.ensures.prefix
