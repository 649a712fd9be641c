use Rattle.std.proofs.Common.{◌≡◌, List, ◌++◌, flat_map, map, ap, ◌∙◌, append_assoc}
use Rattle.file_progress.specs.Progress.{as_doubled, as_new, as_small, file_of, of_row}
use Rattle.file_progress.specs.declared.progress.Progress.{Progress}
use Rattle.file_progress.proofs.Keys.{rows_by}
use Rattle.file_progress.proofs.joining.join.Goals as goal

pub returns : goal.returns
returns c =
    let rows = c.args.rows.now in
    let scan = c.args.scan in
    let new : List Progress = flat_map (as_new rows) scan.files.items in
    let doubled : List Progress = map as_doubled scan.doubled.items in
    let small : List Progress = map as_small scan.small.items in
    let first : c.put_new.new.told.items ≡ new = rw (c.new-others.ensures.items, c.deref.ensures.value) at c.in_ok-put_new.ensures in
    let second : c.put_doubled.new.told.items ≡ c.put_new.new.told.items ++ doubled = rw c.deref-2.ensures.value at c.in_ok-put_doubled.ensures in
    let third : c.put_small.new.told.items ≡ c.put_doubled.new.told.items ++ small = rw c.deref-3.ensures.value at c.in_ok-put_small.ensures in
    let others : c.put_small.new.told.items ≡ new ++ (doubled ++ small) =
    third ∙ ap (λ (l : List Progress). l ++ small) (second ∙ ap (λ (l : List Progress). l ++ doubled) first) ∙ append_assoc new doubled small in
    let with_rows : c.in_ok-told.told.items ≡ map (λ row. of_row row (file_of scan.files.items row.key)) rows =
    c.in_ok-told.ensures ∙ rows_by c.in_ok-by_key.field-0 scan.files.items rows c.in_ok-by_key.ensures in
    c.in_ok-append.ensures.items ∙ (λ i. with_rows i ++ others i)
