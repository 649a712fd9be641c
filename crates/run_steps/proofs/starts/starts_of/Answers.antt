use Rattle.std.proofs.Common.{◌≡◌, ◌+◌, ◌∙◌, List, length, take, Option, None, if◌then◌else◌, is_none, ℕ, ap, refl, subst, arith}
use Rattle.std.proofs.lemmas.List.{length-take, take_all}
use Rattle.std.proofs.lemmas.Option.{slice_get_read}
use Rattle.restart_join.specs.Joining.{full_for}
use Rattle.restart_join.specs.Starts.{start_of}
use Rattle.wire_base.specs.declared.row.Row.{Row}
use Rattle.prospect.specs.declared.listed.Listed.{Listed}
use Rattle.run_steps.specs.BeginFor.{row_of}
use Rattle.run_steps.specs.Starting.{new_files}
use Rattle.run_steps.proofs.FewListed.{apart_in_front, few_listed, no_more_listed}
use Rattle.run_steps.proofs.Starting.{counted_next, few_next, room_next, starts_next}
use Rattle.run_steps.proofs.starts.starts_of.Goals as goal

pub files-preserved : goal.files-preserved
files-preserved c =
    let rows = c.args.rows.now in
    let listed = c.args.listed.now in
    let one = c.index-listed-place.result in
    let there = slice_get_read listed (length listed) c.files.place one refl (omega (arith, c.files-test.true)) c.index-listed-place.is in
    record {
      within = omega (arith, c.files-test.true);
      starts = c.in_ok-push.ensures.items ∙ starts_next rows listed c.files.place one there c.files.starts.items c.in_ok-start.start c.files.invariant.starts
          (c.in_ok-start.ensures.started ∙ ap (start_of one.size) c.row_of-row.ensures.found);
      counted = c.files_with-files.ensures ∙ ap (λ (o : Option Row). c.files.files + (if is_none o then 1 else 0)) c.row_of-row.ensures.found
          ∙ counted_next rows listed c.files.place one there c.files.files c.files.invariant.counted;
      few = few_next c.row_of-row.result c.files.files c.files_with-files.result c.files_with-files.ensures c.files.invariant.few c.in_ok-start.ensures.few;
      room = room_next rows listed c.files.place one there c.files.invariant.room
          (subst (λ (n : ℕ). full_for n c.files.place one.size (row_of rows one.key) ≡ None) c.files.invariant.counted
          (subst (λ (o : Option Row). full_for c.files.files c.files.place one.size o ≡ None) c.row_of-row.ensures.found c.in_ok-start.ensures.room));
    }

-- all files were looked at
pub returns-clause-room : goal.returns-clause-room
returns-clause-room c = λ earlier one less is. c.files.invariant.room earlier one (omega (arith, less, c.files-test.false)) is

-- files of different keys are no more than are counted
pub start_at-requires : goal.start_at-requires
start_at-requires c =
    let front = take c.files.place c.args.listed.now in
    let fewer = no_more_listed c.args.rows.now front (apart_in_front c.files.place c.args.listed.now c.requires.apart) in
    omega (arith, fewer, length-take c.files.place c.args.listed.now, c.files.invariant.counted, c.files.invariant.few, c.files-test.true)

pub returns-clause-few_listed : goal.returns-clause-few_listed
returns-clause-few_listed c =
    let rows = c.args.rows.now in
    let listed = c.args.listed.now in
    let whole : take c.files.place listed ≡ listed = take_all c.files.place listed (omega (arith, c.files-test.false)) in
    let counted = subst (λ (l : List Listed). c.files.files ≡ length rows + new_files rows l) whole c.files.invariant.counted in
    few_listed rows listed c.requires.apart (omega (arith, counted, c.files.invariant.few))
