use Rattle.std.proofs.Common.{refl, ◌∙◌}
use Rattle.std.proofs.lemmas.Result.{err_from_is_err_and}
use Rattle.prospector_core.proofs.Scanning.{cleared_apart, cleared_files, cleared_index, cleared_known, scan_start, scan_told}
use Rattle.prospector_core.proofs.told.tell_known_files.Goals as goal

pub tell_members-requires-clause-index : goal.tell_members-requires-clause-index
tell_members-requires-clause-index c = cleared_index _ _ _ c.clear_marks.ensures c.requires.index

pub tell_members-requires-clause-apart : goal.tell_members-requires-clause-apart
tell_members-requires-clause-apart c = cleared_apart _ _ c.clear_marks.ensures c.requires.known.apart

pub tell_members-requires-clause-start : goal.tell_members-requires-clause-start
tell_members-requires-clause-start c =
    scan_start _ _ _ _ _ _ c.clear_marks.ensures c.requires.known c.requires.count c.new-told.ensures.changes c.new-told.ensures.created c.new-told.ensures.keys c.new-told.ensures.next c.new-told.ensures.files

pub returns-in_err-tell_members-clause-refused : goal.returns-in_err-tell_members-clause-refused
returns-in_err-tell_members-clause-refused c =
    let p = err_from_is_err_and c.from_residual.result c.from_residual.ensures.1 in
    rw (p.1, p.2, ← cleared_known _ _ _ _ _ _ c.clear_marks.ensures c.new-told.ensures.next c.new-told.ensures.files) c.in_err-tell_members.ensures.refused

pub returns-in_err-tell_members-clause-files_kept : goal.returns-in_err-tell_members-clause-files_kept
returns-in_err-tell_members-clause-files_kept c = c.tell_members.ensures.files_kept ∙ cleared_files _ _ c.clear_marks.ensures

pub returns-in_err-tell_removed-clause-files_kept : goal.returns-in_err-tell_removed-clause-files_kept
returns-in_err-tell_removed-clause-files_kept c = c.tell_members.ensures.files_kept ∙ cleared_files _ _ c.clear_marks.ensures

pub returns-clause-told : goal.returns-clause-told
returns-clause-told c =
    scan_told _ _ _ _ c.tell_members.new.told _ (cleared_known _ _ _ _ _ _ c.clear_marks.ensures c.new-told.ensures.next c.new-told.ensures.files)
    c.in_ok-tell_members.ensures.told c.in_ok-tell_removed.ensures refl refl

pub returns-clause-files_kept : goal.returns-clause-files_kept
returns-clause-files_kept c = c.tell_members.ensures.files_kept ∙ cleared_files _ _ c.clear_marks.ensures
