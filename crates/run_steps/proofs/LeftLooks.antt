-- What open tails were asked shows in the folder's list once they are closed.
use Rattle.std.proofs.Common.{◌≡◌, ⊎_elim, ℕ, ◌≤◌, All, List, [], ◌∷◌, Contains, length, Option, Some, None, IsSome, IfSome, inr, refl, sym, subst}
use Rattle.std.proofs.lemmas.List.Elements.{Contains-append_right, recursion_from_All}
use Rattle.std.specs.Prelude.{Vec, slice_get}
use Rattle.std.specs.List.{AllByRecursion}
use Rattle.std.specs.declared.alloc.Global.{Global}
use Rattle.accounts.proofs.Orderly.{member_is}
use Rattle.accounts.specs.Opened.{IsTailOf, Opened as OpenedFile}
use Rattle.accounts.specs.Watch.{Watch}
use Rattle.harvester.specs.declared.harvester.Harvester.{Harvester}
use Rattle.lanes.specs.declared.lane.Lane.{Lane}
use Rattle.outside.specs.Folders.{FolderHistory, Opened}
use Rattle.outside.specs.Tails.{TailHistory}
use Rattle.rounds.specs.Crewed.{lanings}
use Rattle.rounds.specs.Pairs.{SomeOf}
use Rattle.rounds.specs.Words.{TailWords, Words}
use Rattle.rounds.specs.declared.crew.Crew.{Crew}
use Rattle.rounds.specs.declared.storing.Storing.{Storing}
use Rattle.settle_box.specs.Senders.{notes}
use Rattle.told_scans.specs.OnlyAsked.{WasClosedWith}
use Rattle.run_steps.specs.Areas.{BeganAtRest, IsAtRest}
use Rattle.run_steps.specs.Began.{Began}
use Rattle.run_steps.specs.ClosesTail.{ClosesTails, Readers}
use Rattle.run_steps.specs.FolderSeen.{FolderSeen}
use Rattle.run_steps.specs.LaterScans.{told_in}
use Rattle.run_steps.specs.Looking.{HasLooked, HasLookedSince, LooksSince, SomeHasLooked}
use Rattle.run_steps.specs.Onward.{BeganBy, Onward, RunRules}
use Rattle.run_steps.specs.Releasing.{HasNoHarvesters}
use Rattle.run_steps.specs.RunState.{Phase, RunState, phase_left, within}
use Rattle.run_steps.specs.Shown.{HasDone, HasShown, WasOpenedSince}
use Rattle.run_steps.specs.SoFar.{FilesSoFar, Left, SoFar, files_of, opened_before, openings_within}
use Rattle.run_steps.specs.Stands.{Files, FilesNow, IsLeftSo, Stands, watch_of}
use Rattle.run_steps.proofs.Openings.{since_all}
use Rattle.run_steps.proofs.TailClosed.{files_at, reads_on}
use Rattle.run_steps.proofs.TailsLeft.{any_left, files_left, left_not_reading}
use Rattle.run_steps.proofs.Whole.{none_in}

-- ---- tails that were closed

module _ (before after : FolderHistory) where
  of_told : (file : OpenedFile) → length before.events ≤ file.opening → slice_get after.events file.opening ≡ Some (Opened file.begin.path file.number file.begun) → (told : Option TailHistory) → IsSome told → IfSome told (IsTailOf file) →
      IfSome told (λ tail. WasClosedWith after tail.opening tail.looks) → HasLooked told → HasLookedSince before after
  of_told file since stands None some its closed looked = absurd cc
  of_told file since stands (Some tail) some its closed looked = record {
    opening = tail.opening;
    path = file.begin.path;
    number = file.number;
    begun = file.begun;
    since = subst (λ (n : ℕ). length before.events ≤ n) (sym its.opening) since;
    opened = subst (λ (n : ℕ). slice_get after.events n ≡ Some (Opened file.begin.path file.number file.begun)) (sym its.opening) stands;
    looks = tail.looks;
    closed = closed;
    asked = looked;
  }

  module _ (watch : Watch) (opened : List OpenedFile) (moments : List ℕ) (since : (file : OpenedFile) → Contains opened file → length before.events ≤ file.opening)
      (stands : (file : OpenedFile) → Contains opened file → slice_get after.events file.opening ≡ Some (Opened file.begin.path file.number file.begun)) where
    some_left : (left : List Left) → AllByRecursion (IsLeftSo watch opened moments) left → AllByRecursion (λ (l : Left). IsSome l.told) left →
        AllByRecursion (λ (l : Left). IfSome l.told (λ tail. WasClosedWith after tail.opening tail.looks)) left → SomeOf (λ (l : Left). HasLooked l.told) left → HasLookedSince before after
    some_left [] are tell closed some = absurd some
    some_left (l ∷ left) are tell closed some = ⊎_elim
        (λ here. of_told are.0.file (since are.0.file are.0.among) (stands are.0.file are.0.among) l.told tell.0 are.0.is_told.tail closed.0 here)
        (λ later. some_left left are.1 tell.1 closed.1 later) some

module _ {T D : Type 0} (tails : TailWords T) (start : Began D) (now : FilesNow T) (so_far : FilesSoFar) (files : Files tails start now so_far) where
  left_looks : SomeOf (λ (l : Left). HasLooked l.told) so_far.left → LooksSince start.shown now.shown
  left_looks some before after first last =
      some_left before after (watch_of start so_far.scans) so_far.opened so_far.moments since stands so_far.left files.left (files.left_tell (subst IsSome (sym first) refl)) done.closed some
    where
      done : HasDone start.settings before after so_far
      done = subst (λ (o : Option FolderHistory). HasShown start.settings (Some before) o so_far) last
          (subst (λ (o : Option FolderHistory). HasShown start.settings o now.shown so_far) first files.shown)

      since : (file : OpenedFile) → Contains so_far.opened file → length before.events ≤ file.opening
      since = since_all start.settings before after so_far done

      stands : (file : OpenedFile) → Contains so_far.opened file → slice_get after.events file.opening ≡ Some (Opened file.begin.path file.number file.begun)
      stands file among = (member_is (WasOpenedSince before (told_in so_far.scans) after) (openings_within so_far) file done.opened
          (Contains-append_right (opened_before so_far.earlier) so_far.opened file among)).stands

-- ---- once all are

module _ {T W L D : Type 0} (words : Words T W L D) (closed : List (Harvester T)) (old new : FolderSeen) (moments : Option (List ℕ)) (crew : Crew T W L) (lanes : Vec (Lane T) Global) (storing : Storing D) (phase : Phase)
    (closes : ClosesTails words.tails closed (record { folder = old; lanes = lanings crew.lanes.items }) (record { folder = new; lanes = lanings lanes.items }))
    (none : All HasNoHarvesters (lanings lanes.items)) where
  once_closed : (start : Began D) (so_far : SoFar) → Stands words start (within old.told moments crew storing phase) so_far → SomeHasLooked words.tails (lanings crew.lanes.items) → LooksSince start.shown new.told
  once_closed start so_far stands some =
      let before : Readers T = record { folder = old; lanes = lanings crew.lanes.items } in
      let after : Readers T = record { folder = new; lanes = lanings lanes.items } in
      let on = reads_on words start moments crew.carriers.items (notes storing.keeper.now.pass.got) (phase_left phase) (left_not_reading phase) closed so_far before after closes (any_left phase closed)
      (record { files = files_left words start (files_at words start moments crew.carriers.items (notes storing.keeper.now.pass.got) phase before) (files_of so_far) stands.files; books = stands.books }) in
      ⊎_elim
      (left_looks words.tails start (files_at words start moments crew.carriers.items (notes storing.keeper.now.pass.got) (phase_left phase) after) (files_of on.later) on.reads.files)
      (λ in_lanes. absurd (none_in (λ (h : Harvester T). HasLooked (words.tails.told h.tail)) (lanings lanes.items) (recursion_from_All HasNoHarvesters (lanings lanes.items) none) in_lanes))
      (on.looked (inr some))

  -- from where the run stood before
  pub looks_once_closed : (rules : RunRules) (first : RunState T W L D) → Onward words rules first (within old.told moments crew storing phase) → (start : Began D) (so_far : SoFar) → BeganBy rules start →
      Stands words start first so_far → (BeganAtRest words.disks start → IsAtRest words.disks first.keeper first.a first.b) → SomeHasLooked words.tails (lanings crew.lanes.items) → LooksSince start.shown new.told
  unfolding Onward
  looks_once_closed rules first onward start so_far same stands began some =
      let further = onward start so_far same stands began in
      once_closed start further.so_far further.stands some
