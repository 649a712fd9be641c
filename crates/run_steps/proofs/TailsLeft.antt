-- A run that reads, or has read, may leave: what stands of it stands in the phase behind that, and as all its tails are closed.
use Rattle.std.proofs.Common.{◌≡◌, ◌≢◌, ℕ, List, [], ◌∷◌, Option, IsSome, refl, sym, subst}
use Rattle.std.specs.Prelude.{Vec}
use Rattle.std.specs.declared.alloc.Global.{Global}
use Rattle.std.specs.List.{AllByRecursion}
use Rattle.accounts.specs.ToldFile.{IsReadThrough}
use Rattle.accounts.specs.Turned.{Turned}
use Rattle.harvester.specs.declared.harvester.Harvester.{Harvester}
use Rattle.lanes.specs.declared.lane.Lane.{Lane}
use Rattle.outside.specs.Folders.{FolderHistory}
use Rattle.rounds.specs.Crewed.{lanings}
use Rattle.rounds.specs.Words.{Words}
use Rattle.rounds.specs.declared.crew.Crew.{Crew}
use Rattle.rounds.specs.declared.storing.Storing.{Storing}
use Rattle.settle_box.specs.Senders.{notes}
use Rattle.run_steps.specs.Began.{Began}
use Rattle.run_steps.specs.ClosesTail.{ClosesTails, IsResting, Readers}
use Rattle.run_steps.specs.FolderSeen.{FolderSeen}
use Rattle.run_steps.specs.Growing.{StandsGrown}
use Rattle.run_steps.specs.LastEpoch.{HaveOneOver}
use Rattle.run_steps.specs.Onward.{Onward, RunRules}
use Rattle.run_steps.specs.RunState.{Finished, Following, Halted, HaltedFollowing, Leaving, OutOfEpochs, Phase, Reading, RunState, phase_left, within}
use Rattle.run_steps.specs.SoFar.{FilesSoFar, SoFar, books_of, files_of, files_within}
use Rattle.run_steps.specs.Stands.{Books, Files, FilesNow, Follows, IsFollowing, MayTell, Notes, ReadsYet, Stands}
use Rattle.run_steps.proofs.Growing.{grown_by_nothing, grown_by_two}
use Rattle.run_steps.proofs.TailClosed.{books_at, files_at, reads_on}

-- ---- a run that reads may leave

pub left_not_reading : (phase : Phase) → phase_left phase ≢ Reading
left_not_reading Reading is = let no : Halted ≡ Reading = is in cc
left_not_reading Halted is = let no : Halted ≡ Reading = is in cc
left_not_reading Leaving is = let no : Leaving ≡ Reading = is in cc
left_not_reading Finished is = let no : Finished ≡ Reading = is in cc
left_not_reading (OutOfEpochs slot) is = let no : OutOfEpochs slot ≡ Reading = is in cc
left_not_reading Following is = let no : HaltedFollowing ≡ Reading = is in cc
left_not_reading HaltedFollowing is = let no : HaltedFollowing ≡ Reading = is in cc

left_not_following : (phase : Phase) → phase_left phase ≢ Following
left_not_following Reading is = let no : Halted ≡ Following = is in cc
left_not_following Halted is = let no : Halted ≡ Following = is in cc
left_not_following Leaving is = let no : Leaving ≡ Following = is in cc
left_not_following Finished is = let no : Finished ≡ Following = is in cc
left_not_following (OutOfEpochs slot) is = let no : OutOfEpochs slot ≡ Following = is in cc
left_not_following Following is = let no : HaltedFollowing ≡ Following = is in cc
left_not_following HaltedFollowing is = let no : HaltedFollowing ≡ Following = is in cc

-- so any of them may be closed
pub any_left : {T : Type 0} (phase : Phase) (closed : List (Harvester T)) → AllByRecursion (λ (one : Harvester T). phase_left phase ≡ Following → IsResting one) closed
any_left phase [] = tt
any_left phase (one ∷ closed) = ((λ is. absurd (left_not_following phase is)), any_left phase closed)

module _ {T W L D : Type 0} (words : Words T W L D) where
  pub files_left : (start : Began D) (now : FilesNow T) (so_far : FilesSoFar) → Files words.tails start now so_far → Files words.tails start (record now { phase = phase_left now.phase }) so_far
  files_left start now so_far files = record {
    opened = files.opened;
    ruled = files.ruled;
    keyed = files.keyed;
    each_once = files.each_once;
    turned = files.turned;
    left = files.left;
    earlier = files.earlier;
    forgotten = files.forgotten;
    reading = λ is. absurd (left_not_reading now.phase is);
    finished = λ is some. finished now.phase refl is some;
    over = over now.phase files.over;
    read = λ is some. files.read (yet now.phase is) some;
    answered = λ is some. files.answered (may_tell now.phase is) some;
    following = λ is. followed (files.following (follows now.phase is));
    tell = files.tell;
    left_tell = files.left_tell;
    listed = files.listed;
    shown = files.shown;
    scans = files.scans;
    given = files.given;
  }
    where
      finished : (phase : Phase) → now.phase ≡ phase → phase_left phase ≡ Finished → IsSome start.shown → AllByRecursion (λ (t : Turned). IsReadThrough t.history) (files_within so_far)
      finished Reading was is some = absurd (let no : Halted ≡ Finished = is in cc)
      finished Halted was is some = absurd (let no : Halted ≡ Finished = is in cc)
      finished Leaving was is some = absurd (let no : Leaving ≡ Finished = is in cc)
      finished Finished was is some = files.finished was some
      finished (OutOfEpochs slot) was is some = absurd (let no : OutOfEpochs slot ≡ Finished = is in cc)
      finished Following was is some = absurd (let no : HaltedFollowing ≡ Finished = is in cc)
      finished HaltedFollowing was is some = absurd (let no : HaltedFollowing ≡ Finished = is in cc)

      over : (phase : Phase) → HaveOneOver phase (files_within so_far) → HaveOneOver (phase_left phase) (files_within so_far)
      over Reading is = tt
      over Finished is = tt
      over Leaving is = tt
      over Halted is = tt
      over (OutOfEpochs slot) is = is
      over Following is = tt
      over HaltedFollowing is = tt

      yet : (phase : Phase) → ReadsYet (phase_left phase) → ReadsYet phase
      yet Reading is = tt
      yet Halted is = tt
      yet Finished is = absurd is
      yet Leaving is = absurd is
      yet (OutOfEpochs slot) is = absurd is
      yet Following is = tt
      yet HaltedFollowing is = tt

      may_tell : (phase : Phase) → MayTell (phase_left phase) → MayTell phase
      may_tell Reading is = tt
      may_tell Halted is = tt
      may_tell Finished is = tt
      may_tell Leaving is = absurd is
      may_tell (OutOfEpochs slot) is = absurd is
      may_tell Following is = absurd is
      may_tell HaltedFollowing is = absurd is

      follows : (phase : Phase) → Follows (phase_left phase) → Follows phase
      follows Reading is = absurd is
      follows Halted is = absurd is
      follows Finished is = absurd is
      follows Leaving is = absurd is
      follows (OutOfEpochs slot) is = absurd is
      follows Following is = tt
      follows HaltedFollowing is = tt

      followed : IsFollowing words.tails start.shown now so_far.left → IsFollowing words.tails start.shown (record now { phase = phase_left now.phase }) so_far.left
      followed were = record {
        none_over = were.none_over;
        may = λ is. absurd (left_not_following now.phase is);
        in_lanes = were.in_lanes;
        in_left = were.in_left;
      }

  -- whatever the areas hold
  abbrev pub GoesOnStanding : RunState T W L D → RunState T W L D → Type 0
  GoesOnStanding before after = (start : Began D) (so_far : SoFar) → Stands words start before so_far → StandsGrown words start so_far after

  pub onward_then : (rules : RunRules) (first mid last : RunState T W L D) → Onward words rules first mid → GoesOnStanding mid last → Onward words rules first last
  unfolding Onward
  onward_then rules first mid last one then start so_far same stands began =
      let further = one start so_far same stands began in
      let after = then start further.so_far further.stands in
      record { so_far = after.so_far; stands = after.stands; grown = grown_by_two so_far further.so_far after.so_far further.grown after.grown }

  -- whatever it was
  pub leaving_onward : (shown : Option FolderHistory) (moments : Option (List ℕ)) (crew : Crew T W L) (storing : Storing D) (phase : Phase) →
      GoesOnStanding (within shown moments crew storing phase) (within shown moments crew storing Leaving)
  leaving_onward shown moments crew storing phase start so_far stands = record {
    so_far = so_far;
    grown = grown_by_nothing so_far;
    stands = record {
      files = record {
        opened = stands.files.opened;
        ruled = stands.files.ruled;
        keyed = stands.files.keyed;
        each_once = stands.files.each_once;
        turned = stands.files.turned;
        left = stands.files.left;
        earlier = stands.files.earlier;
        forgotten = stands.files.forgotten;
        reading = λ is. absurd (let no : Leaving ≡ Reading = is in cc);
        finished = λ is some. absurd (let no : Leaving ≡ Finished = is in cc);
        over = tt;
        read = λ yet some. absurd yet;
        answered = λ may some. absurd may;
        following = λ follows. absurd follows;
        tell = stands.files.tell;
        left_tell = stands.files.left_tell;
        listed = stands.files.listed;
        shown = stands.files.shown;
        scans = stands.files.scans;
        given = stands.files.given;
      };
      books = stands.books;
      notes = stands.notes;
      areas = stands.areas;
    };
  }

  -- lanes that show the same, and a folder that does
  pub same_onward : (old new : FolderSeen) (moments : Option (List ℕ)) (crew : Crew T W L) (lanes : Vec (Lane T) Global) (storing : Storing D) (phase : Phase) →
      ◌≡◌ {A = Readers T} (record { folder = new; lanes = lanings lanes.items }) (record { folder = old; lanes = lanings crew.lanes.items }) →
      GoesOnStanding (within old.told moments crew storing phase) (within new.told moments (record crew { lanes = lanes }) storing phase)
  same_onward old new moments crew lanes storing phase same start so_far stands = record {
    so_far = so_far;
    grown = grown_by_nothing so_far;
    stands = record {
      files = subst (λ (now : Readers T). Files words.tails start (files_at words start moments crew.carriers.items (notes storing.keeper.now.pass.got) phase now) (files_of so_far)) (sym same) stands.files;
      books = subst (λ (now : Readers T). Books words.links words.wires start.heard (books_at words start moments crew.carriers.items (notes storing.keeper.now.pass.got) phase now) (books_of so_far)) (sym same) stands.books;
      notes = stands.notes;
      areas = stands.areas;
    };
  }

  -- of a run that follows its files, a tail was closed whose file is at rest or changed
  pub resting_onward : (one : Harvester T) (old new : FolderSeen) (moments : Option (List ℕ)) (crew : Crew T W L) (lanes : Vec (Lane T) Global) (storing : Storing D) → IsResting one →
      ClosesTails words.tails (one ∷ []) (record { folder = old; lanes = lanings crew.lanes.items }) (record { folder = new; lanes = lanings lanes.items }) →
      GoesOnStanding (within old.told moments crew storing Following) (within new.told moments (record crew { lanes = lanes }) storing Following)
  resting_onward one old new moments crew lanes storing rests closes start so_far stands =
      let before : Readers T = record { folder = old; lanes = lanings crew.lanes.items } in
      let after : Readers T = record { folder = new; lanes = lanings lanes.items } in
      let on = reads_on words start moments crew.carriers.items (notes storing.keeper.now.pass.got) Following (λ is. let no : Following ≡ Reading = is in cc) (one ∷ []) so_far before after closes
      ((λ is. rests), tt) (record { files = stands.files; books = stands.books }) in
      record {
        so_far = on.later;
        grown = on.grown;
        stands = record {
          files = on.reads.files;
          books = on.reads.books;
          notes = subst (Notes start storing.keeper.now) (sym on.same_notes) stands.notes;
          areas = stands.areas;
        };
      }

  -- tails of its were closed
  pub closing_onward : (closed : List (Harvester T)) (old new : FolderSeen) (moments : Option (List ℕ)) (crew : Crew T W L) (lanes : Vec (Lane T) Global) (storing : Storing D) (phase : Phase) →
      ClosesTails words.tails closed (record { folder = old; lanes = lanings crew.lanes.items }) (record { folder = new; lanes = lanings lanes.items }) →
      GoesOnStanding (within old.told moments crew storing phase) (within new.told moments (record crew { lanes = lanes }) storing (phase_left phase))
  closing_onward closed old new moments crew lanes storing phase closes start so_far stands =
      let before : Readers T = record { folder = old; lanes = lanings crew.lanes.items } in
      let after : Readers T = record { folder = new; lanes = lanings lanes.items } in
      let on = reads_on words start moments crew.carriers.items (notes storing.keeper.now.pass.got) (phase_left phase) (left_not_reading phase) closed so_far before after closes (any_left phase closed)
      (record { files = files_left start (files_at words start moments crew.carriers.items (notes storing.keeper.now.pass.got) phase before) (files_of so_far) stands.files; books = stands.books }) in
      record {
        so_far = on.later;
        grown = on.grown;
        stands = record {
          files = on.reads.files;
          books = on.reads.books;
          notes = subst (Notes start storing.keeper.now) (sym on.same_notes) stands.notes;
          areas = stands.areas;
        };
      }
