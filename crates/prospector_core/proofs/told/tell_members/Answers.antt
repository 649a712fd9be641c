use Rattle.std.proofs.Common.{◌∙◌}
use Rattle.std.proofs.lemmas.Result.{err_from_is_err_and}
use Rattle.prospector_core.proofs.Looping.{files_at, index_at, member_step, refused_step}
use Rattle.prospector_core.proofs.told.tell_members.Goals as goal

pub tell_member-requires : goal.tell_member-requires
tell_member-requires c = index_at _ _ _ _ _ _ _ _ c.loop-member.invariant c.requires.index

pub loop-member-preserved : goal.loop-member-preserved
loop-member-preserved c =
    member_step _ _ _ _ c.member-item.result _ _ _ c.loop-member-test.true c.member-item.is c.loop-member.invariant c.requires.apart _ c.in_ok-tell_member.ensures.told

pub returns-in_err-tell_member-clause-refused : goal.returns-in_err-tell_member-clause-refused
returns-in_err-tell_member-clause-refused c =
    let p = err_from_is_err_and c.from_residual.result c.from_residual.ensures.1 in
    rw (p.1, p.2)
    (refused_step _ _ _ _ c.member-item.result _ _ c.loop-member.told c.loop-member-test.true c.member-item.is c.loop-member.invariant _ c.in_err-tell_member.ensures.refused)

pub returns-in_err-tell_member-clause-files_kept : goal.returns-in_err-tell_member-clause-files_kept
returns-in_err-tell_member-clause-files_kept c =
    c.tell_member.ensures.files_kept ∙ files_at _ _ _ _ _ _ _ c.loop-member.invariant

pub returns-clause-files_kept : goal.returns-clause-files_kept
returns-clause-files_kept c = files_at _ _ _ _ _ _ _ c.loop-member.invariant
