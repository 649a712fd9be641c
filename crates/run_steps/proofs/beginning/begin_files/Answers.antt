use Rattle.std.proofs.Common.{length, refl, arith, subst, ◌+◌}
use Rattle.std.proofs.lemmas.Option.{slice_get_read}
use Rattle.run_steps.specs.Beginning.{beginning, listed_file}
use Rattle.run_steps.specs.BeginsAll.{BeginsOrPasses, EndsInOne, came_of}
use Rattle.rounds.specs.WordsOf.{tails_of}
use Rattle.run_steps.proofs.BeginningLists.{after_next, ends_as, knows_still, lanes_still}
use Rattle.accounts.proofs.Following.{got_each}
use Rattle.restart_join.specs.declared.start.Start.{Start}
use Rattle.run_steps.proofs.KnownKeys.{IsOfKeys, are_of_keys, first_knows, keys_in}
use Rattle.run_steps.proofs.Starting.{as_long, start_is}
use Rattle.run_steps.proofs.beginning.begin_files.Goals as goal

pub returns-in_err-begin_or_pass-clause-ended : goal.returns-in_err-begin_or_pass-clause-ended
returns-in_err-begin_or_pass-clause-ended g c =
    let listed = c.args.scanned.now.listed.items in
    ends_as (tails_of g.F.Tail.Tail) c.args.context.settings.now c.args.keeper.now.store.rows c.args.scanned.now.now listed c.files.slot c.index.result.now
    (slice_get_read listed (length listed) c.files.slot c.index.result.now refl (omega (arith, c.files-test.true, c.len.ensures)) c.index.ensures) (came_of c.files.begun)
    (beginning g.F.Folder c.args.folder.now c.args.crew.now c.args.keeper.now)
    (beginning g.F.Folder c.files.folder c.files.crew c.files.keeper)
    c.files.invariant.begins c.from_residual.result c.in_err-begin_or_pass.field-0.0
    (beginning g.F.Folder c.begin_or_pass.new.folder c.begin_or_pass.new.crew c.begin_or_pass.new.keeper)
    c.from_residual.ensures.1
    (subst (λ (s : Start). EndsInOne (tails_of g.F.Tail.Tail) c.args.context.settings.now
    (listed_file (record { 0 = c.files.slot }) c.index.result.now s c.args.scanned.now.now) c.files.begun.faulty c.in_err-begin_or_pass.field-0.0
    (beginning g.F.Folder c.files.folder c.files.crew c.files.keeper)
    (beginning g.F.Folder c.begin_or_pass.new.folder c.begin_or_pass.new.crew c.begin_or_pass.new.keeper))
    (start_is c.args.keeper.now.store.rows c.args.scanned.now.listed.items c.args.scanned.now.starts.items c.files.slot c.index.result.now c.index-in-files.result.now c.requires.starts
    (slice_get_read c.args.scanned.now.listed.items (length c.args.scanned.now.listed.items) c.files.slot c.index.result.now refl (omega (arith, c.files-test.true, c.len.ensures)) c.index.ensures)
    (slice_get_read c.args.scanned.now.starts.items (length c.args.scanned.now.starts.items) c.files.slot c.index-in-files.result.now refl
    (as_long c.args.keeper.now.store.rows c.args.scanned.now.listed.items c.args.scanned.now.starts.items c.files.slot c.requires.starts (omega (arith, c.files-test.true, c.len.ensures)))
    c.index-in-files.ensures)) c.in_err-begin_or_pass.ensures.ended)

pub files-preserved : goal.files-preserved
files-preserved g c =
    let tails = tails_of g.F.Tail.Tail in
    let listed = c.args.scanned.now.listed.items in
    let old = beginning g.F.Folder c.args.folder.now c.args.crew.now c.args.keeper.now in
    let mid = beginning g.F.Folder c.files.folder c.files.crew c.files.keeper in
    let new = beginning g.F.Folder c.begin_or_pass.new.folder c.begin_or_pass.new.crew c.begin_or_pass.new.keeper in
    let begun = c.in_ok-begin_or_pass.ensures.begun in
    let begins = after_next tails c.args.context.settings.now c.args.keeper.now.store.rows c.args.scanned.now.now listed c.files.slot c.index.result.now
    (slice_get_read listed (length listed) c.files.slot c.index.result.now refl (omega (arith, c.files-test.true, c.len.ensures)) c.index.ensures) (came_of c.files.begun) old mid c.files.invariant.begins
    (came_of c.begin_or_pass.new.begun) begun.0 new begun.1
    (subst (λ (s : Start). BeginsOrPasses tails c.args.context.settings.now (listed_file (record { 0 = c.files.slot }) c.index.result.now s c.args.scanned.now.now) begun.0 mid new)
    (start_is c.args.keeper.now.store.rows c.args.scanned.now.listed.items c.args.scanned.now.starts.items c.files.slot c.index.result.now c.index-in-files.result.now c.requires.starts
    (slice_get_read c.args.scanned.now.listed.items (length c.args.scanned.now.listed.items) c.files.slot c.index.result.now refl (omega (arith, c.files-test.true, c.len.ensures)) c.index.ensures)
    (slice_get_read c.args.scanned.now.starts.items (length c.args.scanned.now.starts.items) c.files.slot c.index-in-files.result.now refl
    (as_long c.args.keeper.now.store.rows c.args.scanned.now.listed.items c.args.scanned.now.starts.items c.files.slot c.requires.starts (omega (arith, c.files-test.true, c.len.ensures)))
    c.index-in-files.ensures)) begun.2) in
    record {
      within = omega (arith, c.files-test.true, c.len.ensures);
      begins = begins;
      some_lanes = lanes_still tails c.args.context.settings.now c.args.keeper.now.store.rows c.args.scanned.now.now (c.files.slot + 1) listed (came_of c.begin_or_pass.new.begun) old new begins c.requires.some_lanes;
      knows = knows_still tails c.args.context.settings.now c.args.keeper.now.store.rows c.args.scanned.now.now (c.files.slot + 1) listed (came_of c.begin_or_pass.new.begun) old new begins
          (keys_in c.args.keeper.now.store.rows listed) (are_of_keys c.args.keeper.now.store.rows listed);
    }

pub begin_or_pass-requires-clause-few : goal.begin_or_pass-requires-clause-few
begin_or_pass-requires-clause-few g c =
    let listed = c.args.scanned.now.listed.items in
    record {
      keys = keys_in c.args.keeper.now.store.rows listed;
      knows = c.files.invariant.knows (first_knows listed c.args.keeper.now c.requires.few c.requires.nothing_told);
      of_listed = got_each (IsOfKeys (keys_in c.args.keeper.now.store.rows listed)) listed c.files.slot c.index.result.now (are_of_keys c.args.keeper.now.store.rows listed)
          (slice_get_read listed (length listed) c.files.slot c.index.result.now refl (omega (arith, c.files-test.true, c.len.ensures)) c.index.ensures);
    }
