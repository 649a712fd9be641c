use Rattle.std.proofs.Common.{List, refl, subst}
use Rattle.run_steps.specs.Beginning.{beginning}
use Rattle.run_steps.specs.BeginsAll.{came_of}
use Rattle.run_steps.specs.Telling.{TellMoments, TellSomeMoments}
use Rattle.rounds.specs.WordsOf.{tails_of}
use Rattle.wire_base.specs.declared.row.Row.{Row}
use Rattle.run_steps.proofs.BeginningLists.{all_keep, all_so, ends_told, files_end, files_keep, memory_ends, rows_kept, some_told_keep}
use Rattle.run_steps.proofs.Unnumbered.{begun_unnumbered, memory_unnumbered}
use Rattle.run_steps.proofs.beginning.begin_all.Goals as goal

pub returns-in_err-tell_moments-clause-ended : goal.returns-in_err-tell_moments-clause-ended
returns-in_err-tell_moments-clause-ended g c =
    ends_told (tails_of g.F.Tail.Tail) c.args.context.settings.now c.args.keeper.now.store.rows c.args.scanned.now.now c.args.scanned.now.listed.items
    (beginning g.F.Folder c.args.folder.now c.args.crew.now c.args.keeper.now)
    (beginning g.F.Folder c.begin_files.new.folder c.begin_files.new.crew c.begin_files.new.keeper)
    (beginning g.F.Folder c.begin_files.new.folder c.begin_files.new.crew c.tell_moments.new.keeper)
    c.from_residual-in_err-tell_moments.result (came_of c.in_ok-begun.begun) c.as_slice.result.now c.from_residual-in_err-tell_moments.ensures.1 c.as_slice.ensures.value
    c.in_ok-begun.ensures.begun (subst (λ (l : List Row). TellSomeMoments l c.as_slice.result.now c.begin_files.new.keeper c.tell_moments.new.keeper) (rows_kept (tails_of g.F.Tail.Tail) c.args.context.settings.now c.args.keeper.now.store.rows c.args.scanned.now.now c.args.scanned.now.listed.items
    (came_of c.in_ok-begun.begun) (beginning g.F.Folder c.args.folder.now c.args.crew.now c.args.keeper.now)
    (beginning g.F.Folder c.begin_files.new.folder c.begin_files.new.crew c.begin_files.new.keeper) c.in_ok-begun.ensures.begun) c.in_err-tell_moments.ensures.some_told) refl

pub returns-clause-begun : goal.returns-clause-begun
returns-clause-begun g c =
    all_so (tails_of g.F.Tail.Tail) c.args.context.settings.now c.args.keeper.now.store.rows c.args.scanned.now.now c.args.scanned.now.listed.items
    (beginning g.F.Folder c.args.folder.now c.args.crew.now c.args.keeper.now)
    (beginning g.F.Folder c.begin_files.new.folder c.begin_files.new.crew c.begin_files.new.keeper)
    (beginning g.F.Folder c.begin_files.new.folder c.begin_files.new.crew c.tell_moments.new.keeper)
    (came_of c.in_ok-begun.begun) c.as_slice.result.now c.as_slice.ensures.value c.in_ok-begun.ensures.begun (subst (λ (l : List Row). TellMoments l 0 c.as_slice.result.now c.begin_files.new.keeper c.tell_moments.new.keeper) (rows_kept (tails_of g.F.Tail.Tail) c.args.context.settings.now c.args.keeper.now.store.rows c.args.scanned.now.now c.args.scanned.now.listed.items
    (came_of c.in_ok-begun.begun) (beginning g.F.Folder c.args.folder.now c.args.crew.now c.args.keeper.now)
    (beginning g.F.Folder c.begin_files.new.folder c.begin_files.new.crew c.begin_files.new.keeper) c.in_ok-begun.ensures.begun) c.in_ok-tell_moments.ensures.told) refl

pub returns-in_err-begun-clause-kept : goal.returns-in_err-begun-clause-kept
returns-in_err-begun-clause-kept g c =
    files_keep (tails_of g.F.Tail.Tail) c.args.context.settings.now c.args.keeper.now.store.rows c.args.scanned.now.now c.args.scanned.now.listed.items
    (beginning g.F.Folder c.args.folder.now c.args.crew.now c.args.keeper.now)
    (beginning g.F.Folder c.begin_files.new.folder c.begin_files.new.crew c.begin_files.new.keeper)
    c.in_err-begun.field-0.0 c.in_err-begun.ensures.ended

pub returns-in_err-tell_moments-clause-kept : goal.returns-in_err-tell_moments-clause-kept
returns-in_err-tell_moments-clause-kept g c =
    some_told_keep (tails_of g.F.Tail.Tail) c.args.context.settings.now c.args.keeper.now.store.rows c.args.scanned.now.now c.args.scanned.now.listed.items
    (beginning g.F.Folder c.args.folder.now c.args.crew.now c.args.keeper.now)
    (beginning g.F.Folder c.begin_files.new.folder c.begin_files.new.crew c.begin_files.new.keeper)
    (beginning g.F.Folder c.begin_files.new.folder c.begin_files.new.crew c.tell_moments.new.keeper)
    (came_of c.in_ok-begun.begun) c.as_slice.result.now c.as_slice.ensures.value c.in_ok-begun.ensures.begun (subst (λ (l : List Row). TellSomeMoments l c.as_slice.result.now c.begin_files.new.keeper c.tell_moments.new.keeper) (rows_kept (tails_of g.F.Tail.Tail) c.args.context.settings.now c.args.keeper.now.store.rows c.args.scanned.now.now c.args.scanned.now.listed.items
    (came_of c.in_ok-begun.begun) (beginning g.F.Folder c.args.folder.now c.args.crew.now c.args.keeper.now)
    (beginning g.F.Folder c.begin_files.new.folder c.begin_files.new.crew c.begin_files.new.keeper) c.in_ok-begun.ensures.begun) c.in_err-tell_moments.ensures.some_told) refl

pub returns-clause-kept : goal.returns-clause-kept
returns-clause-kept g c =
    all_keep (tails_of g.F.Tail.Tail) c.args.context.settings.now c.args.keeper.now.store.rows c.args.scanned.now.now c.args.scanned.now.listed.items
    (beginning g.F.Folder c.args.folder.now c.args.crew.now c.args.keeper.now)
    (beginning g.F.Folder c.begin_files.new.folder c.begin_files.new.crew c.tell_moments.new.keeper)
    (came_of c.in_ok-begun.begun) (all_so (tails_of g.F.Tail.Tail) c.args.context.settings.now c.args.keeper.now.store.rows c.args.scanned.now.now c.args.scanned.now.listed.items
    (beginning g.F.Folder c.args.folder.now c.args.crew.now c.args.keeper.now)
    (beginning g.F.Folder c.begin_files.new.folder c.begin_files.new.crew c.begin_files.new.keeper)
    (beginning g.F.Folder c.begin_files.new.folder c.begin_files.new.crew c.tell_moments.new.keeper)
    (came_of c.in_ok-begun.begun) c.as_slice.result.now c.as_slice.ensures.value c.in_ok-begun.ensures.begun (subst (λ (l : List Row). TellMoments l 0 c.as_slice.result.now c.begin_files.new.keeper c.tell_moments.new.keeper) (rows_kept (tails_of g.F.Tail.Tail) c.args.context.settings.now c.args.keeper.now.store.rows c.args.scanned.now.now c.args.scanned.now.listed.items
    (came_of c.in_ok-begun.begun) (beginning g.F.Folder c.args.folder.now c.args.crew.now c.args.keeper.now)
    (beginning g.F.Folder c.begin_files.new.folder c.begin_files.new.crew c.begin_files.new.keeper) c.in_ok-begun.ensures.begun) c.in_ok-tell_moments.ensures.told) refl)

pub returns-in_err-begun-clause-ends : goal.returns-in_err-begun-clause-ends
returns-in_err-begun-clause-ends g c =
    files_end (tails_of g.F.Tail.Tail) c.args.context.settings.now c.args.keeper.now.store.rows c.args.scanned.now.now c.args.scanned.now.listed.items
    (beginning g.F.Folder c.args.folder.now c.args.crew.now c.args.keeper.now)
    (beginning g.F.Folder c.begin_files.new.folder c.begin_files.new.crew c.begin_files.new.keeper)
    c.from_residual.result c.in_err-begun.field-0.0 c.from_residual.ensures.1 c.in_err-begun.ensures.ended

pub returns-in_err-tell_moments-clause-ends : goal.returns-in_err-tell_moments-clause-ends
returns-in_err-tell_moments-clause-ends g c =
    memory_ends (tails_of g.F.Tail.Tail) c.args.context.settings.now c.args.keeper.now.store.rows c.args.scanned.now.now c.args.scanned.now.listed.items
    (beginning g.F.Folder c.args.folder.now c.args.crew.now c.args.keeper.now)
    (beginning g.F.Folder c.begin_files.new.folder c.begin_files.new.crew c.tell_moments.new.keeper)
    c.from_residual-in_err-tell_moments.result c.from_residual-in_err-tell_moments.ensures.1

pub returns-in_err-begun-clause-unnumbered : goal.returns-in_err-begun-clause-unnumbered
returns-in_err-begun-clause-unnumbered g c =
    begun_unnumbered (tails_of g.F.Tail.Tail) c.args.context.settings.now c.args.keeper.now.store.rows c.args.scanned.now.now c.args.scanned.now.listed.items
    (beginning g.F.Folder c.args.folder.now c.args.crew.now c.args.keeper.now)
    (beginning g.F.Folder c.begin_files.new.folder c.begin_files.new.crew c.begin_files.new.keeper)
    c.from_residual.result c.in_err-begun.field-0.0 c.from_residual.ensures.1 c.in_err-begun.ensures.ended

pub returns-in_err-tell_moments-clause-unnumbered : goal.returns-in_err-tell_moments-clause-unnumbered
returns-in_err-tell_moments-clause-unnumbered g c =
    memory_unnumbered c.args.context.settings.now c.args.scanned.now.listed.items (g.F.Folder.told c.args.folder.now) (g.F.Folder.told c.begin_files.new.folder)
    c.from_residual-in_err-tell_moments.result c.from_residual-in_err-tell_moments.ensures.1
