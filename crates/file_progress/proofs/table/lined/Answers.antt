use Rattle.std.proofs.Common.{rules}
use Rattle.std.specs.Cmp.{back_total, nat_cmp_total}
use Rattle.std.proofs.lemmas.List.Sorted.{answers_always, ranks_by}
use Rattle.file_progress.specs.Totals.{behind_of}
use Rattle.file_progress.proofs.table.lined.Goals as goal

pub returns : goal.returns
returns c = record {
  same = c.sort_by.ensures.permutation;
  in_order = c.in_ok-sort_by.ensures.sorted _ (ranks_by (back_total nat_cmp_total) behind_of) (answers_always _ _ _ (λ f a r left called. search rules));
}
