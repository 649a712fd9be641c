-- A run that ended for want of epochs read a file that kept its key at each fall of its length, and whose first epoch and these falls are
-- one above the last epoch.
use Rattle.std.proofs.Common.{◌≡◌, inl, inr, ℕ, ◌+◌, ◌≤◌, List, [], ◌∷◌, ◌++◌, Contains, length, map, Option, Some, None, IsSome, IfSome, refl, sym, ap, subst, ◌∙◌, arith, false, true}
use Rattle.std.specs.Prelude.{slice_get}
use Rattle.std.specs.List.{AllByRecursion}
use Rattle.accounts.proofs.Askings.{asking_reads}
use Rattle.accounts.proofs.Joined.{joined}
use Rattle.accounts.proofs.JoinedFile.{joined_turned}
use Rattle.accounts.proofs.Parting.{all_kept}
use Rattle.accounts.proofs.Slots.{file_is_read}
use Rattle.accounts.specs.Opened.{Opened}
use Rattle.accounts.specs.Parted.{has_lost_key, loses_key_at}
use Rattle.slot_parts.specs.Tellings.{AreNumberedFrom}
use Rattle.accounts.specs.ToldFile.{AreEpochsFrom, IsToldFile}
use Rattle.accounts.specs.Turned.{Turned}
use Rattle.file_identity.specs.AskedAgain.{IsRead, KeepsKey}
use Rattle.file_looks.specs.Segment.{segments_of}
use Rattle.harvester.specs.History.{History, Stage, Telling}
use Rattle.outside.specs.Folders.{FolderHistory, Opened as OpenedAs}
use Rattle.outside.specs.Tails.{TailHistory}
use Rattle.outside.specs.declared.history.Look.{Look}
use Rattle.prospect.specs.declared.listed.Listed.{Listed}
use Rattle.restart_join.specs.declared.start.TheConstants.{MAX_EPOCH}
use Rattle.rounds.specs.Crewed.{lanings}
use Rattle.rounds.specs.Pairs.{SomeOf}
use Rattle.rounds.specs.Words.{Words}
use Rattle.ship_core.proofs.Members.{first_there, later_there}
use Rattle.wire_base.specs.declared.note.Begin.{Begin}
use Rattle.wire_base.specs.declared.numbers.Slot.{Slot}
use Rattle.run_steps.specs.Began.{Began}
use Rattle.run_steps.specs.BeginFor.{start_among}
use Rattle.run_steps.specs.Begun.{IsKeyed, IsOpenedAsListed, IsOpenedAsListedFirst}
use Rattle.run_steps.specs.Ends.{Ending, with_crew}
use Rattle.run_steps.specs.LastEpoch.{IsLastOver, HaveOneOver, RanOutOfEpochs, falls_in}
use Rattle.run_steps.specs.Releasing.{HasNoHarvesters}
use Rattle.run_steps.specs.RunEnds.{HasEnded}
use Rattle.run_steps.specs.RunState.{Phase}
use Rattle.told_scans.specs.OnlyAsked.{WasClosedWith}
use Rattle.run_steps.specs.LaterScans.{told_in}
use Rattle.run_steps.specs.Shown.{HasDone, HasShown, WasOpenedSince}
use Rattle.run_steps.proofs.Openings.{since_all}
use Rattle.run_steps.specs.SoFar.{Left, SoFar, files_in, files_of}
use Rattle.run_steps.specs.Stands.{IsLeftSo, watch_of, Stands}
use Rattle.run_steps.specs.declared.met.Met.{Met}
use Rattle.run_steps.specs.declared.met.Met.TheVariants.{Epochs}
use Rattle.told_scans.proofs.Members.{each_of, some_is}
use Rattle.run_steps.proofs.EarlierOn.{opened_once}
use Rattle.run_steps.proofs.ListedLater.{listed_first}
use Rattle.run_steps.proofs.OpenedOnce.{stands_once}
use Rattle.run_steps.proofs.FallsCounted.{falls_are, unanswered_at}
use Rattle.run_steps.proofs.RunFiles.{none_turned}
use Rattle.accounts.proofs.Orderly.{member_is}

-- ---- the number of the present epoch

numbered_behind : (before : ℕ) (past : List Telling) (present : Telling) → AreNumberedFrom before (past ++ present ∷ []) → present.epoch ≡ (before + length past) + 1
numbered_behind before [] present numbered = let here = numbered.0 in omega (arith, here)
numbered_behind before (telling ∷ past) present numbered = let later = numbered_behind (before + 1) past present numbered.2 in omega (arith, later)

-- as many behind the first as epochs are over
pub present_epoch : (epoch base : ℕ) (past : List Telling) (present : Telling) → AreEpochsFrom epoch base (past ++ present ∷ []) → present.epoch ≡ epoch + length past
present_epoch epoch base [] present from = let here = from.0 in omega (arith, here)
present_epoch epoch base (first ∷ past) present from = let later = numbered_behind epoch past present from.2 in omega (arith, later)

-- ---- one of the files

-- one that is so is among them
pub record Found {A B : Type 0} (P : B → Type 0) (f : A → B) (xs : List A) : Type 0 where
  pub one : A
  pub among : Contains xs one
  pub is : P (f one)

found : {A B : Type 0} (P : B → Type 0) (f : A → B) (xs : List A) → SomeOf P (map f xs) → Found P f xs
found P f [] some = absurd some
found P f (x ∷ xs) (inl here) = record { one = x; among = first_there x xs; is = here }
found P f (x ∷ xs) (inr later) = let of = found P f xs later in record { one = of.one; among = later_there x of.one xs of.among; is = of.is }

-- ---- at the end of the run

module _ {T W L D : Type 0} (words : Words T W L D) (start : Began D) (ending : Ending D) (met : Met) (unused wires : List W) (ended : HasEnded words start ending met unused wires)
    (once : start.once ≡ true) (slot : Slot) (is_out : met ≡ Epochs slot) where
  abbrev so_far : SoFar
  so_far = opened_once ended.ends.so_far

  stands : Stands words start (with_crew ending ended.ends.crew) so_far
  stands = stands_once words start (with_crew ending ended.ends.crew) ended.ends.so_far once ended.ends.stands

  -- each tail was closed
  all_left : files_in so_far ≡ map (λ (one : Left). one.turned) so_far.left
  all_left =
      ap (λ (l : List Turned). l ++ map (λ (one : Left). one.turned) so_far.left)
      (none_turned words.tails (watch_of start so_far.scans) so_far.opened so_far.moments so_far.lanes (lanings ended.ends.crew.lanes.items) stands.files.turned
      (each_of HasNoHarvesters (lanings ended.ends.crew.lanes.items) ended.left.released))

  last_over : Found (IsLastOver slot) (λ (one : Left). one.turned) so_far.left
  last_over =
      found (IsLastOver slot) (λ (one : Left). one.turned) so_far.left
      (subst (SomeOf (IsLastOver slot)) all_left (subst (λ (p : Phase). HaveOneOver p (files_in so_far)) (ended.ends.out_of_epochs slot is_out) stands.files.over))

  abbrev left : Left
  left = last_over.one

  is_left : IsLeftSo (watch_of start so_far.scans) so_far.opened so_far.moments left
  is_left = member_is (IsLeftSo (watch_of start so_far.scans) so_far.opened so_far.moments) so_far.left left stands.files.left last_over.among

  abbrev file : Opened
  file = is_left.file

  as_listed : IsOpenedAsListedFirst start.settings start.opening start.listed file
  as_listed = listed_first start.settings start.shown start.opening start.listed so_far.scans file (stands.files.scans.none_with_once once)
      (member_is (IsOpenedAsListed start.settings start.shown start.opening start.listed so_far.scans) so_far.opened file stands.files.opened is_left.among)

  slot_is : file.begin.slot ≡ slot
  slot_is = sym is_left.is_told.slot ∙ last_over.is.of_slot

  module _ (before after : FolderHistory) (tells : IsSome start.shown) (done : HasDone start.settings before after (files_of so_far)) (one : Listed) (there : slice_get start.listed slot.0 ≡ Some one) where
    same : as_listed.one ≡ one
    same = some_is as_listed.one one (sym as_listed.listed_there ∙ ap (λ (s : Slot). slice_get start.listed s.0) slot_is ∙ there)

    path_is : file.begin.path ≡ one.path
    path_is = ap (λ (b : Begin). b.path) as_listed.begin_is ∙ ap (λ (l : Listed). l.path) same

    epoch_is : file.begin.epoch.0 ≡ (start_among start.opening one).epoch
    epoch_is = ap (λ (b : Begin). b.epoch.0) as_listed.begin_is ∙ ap (λ (l : Listed). (start_among start.opening l).epoch) same

    base_is : file.begin.base ≡ (start_among start.opening one).base
    base_is = ap (λ (b : Begin). b.base) as_listed.begin_is ∙ ap (λ (l : Listed). (start_among start.opening l).base) same

    opened_since : WasOpenedSince before (told_in so_far.scans) after file
    opened_since = member_is (WasOpenedSince before (told_in so_far.scans) after) so_far.opened file done.opened is_left.among

    module _ (tail : TailHistory) (told : IsToldFile (watch_of start so_far.scans) file so_far.moments left.turned (Some tail)) where
      abbrev h : History
      h = left.turned.history

      only_asked : AllByRecursion (λ (look : Look). IsRead look.question) h.before
      only_asked = subst (AllByRecursion (λ (look : Look). IsRead look.question)) (sym told.history.asked_before)
          (asking_reads file.rule.file_identity file.asked (member_is IsKeyed so_far.opened file (stands.files.keyed tells) is_left.among).asking)

      -- each epoch was begun by a fall, and there was one more
      falls : falls_in file.begin.base tail.looks ≡ length h.past + 1
      falls =
          ap (λ (b : Begin). falls_in b.base tail.looks) (sym told.history.begin)
          ∙ falls_are file.file.numbers (record h { before = [] }) tail (joined file.file.numbers h tail only_asked told.looked) refl
          ∙ ap (λ (s : Stage). length h.past + unanswered_at s) last_over.is.over

      all_epochs : file.begin.epoch.0 + falls_in file.begin.base tail.looks ≡ MAX_EPOCH + 1
      all_epochs =
          let now = present_epoch file.begin.epoch.0 file.begin.base h.past h.present told.history.epochs in
          let last = last_over.is.last in
          let fell = falls in
          omega (arith, now, last, fell)

      began_in : file.begin.epoch.0 ≤ MAX_EPOCH
      began_in =
          let now = present_epoch file.begin.epoch.0 file.begin.base h.past h.present told.history.epochs in
          let last = last_over.is.last in
          omega (arith, now, last)

      -- and at each of these falls it still had its key
      kept_key : AllByRecursion (KeepsKey file.rule file.begin.key file.begin.path file.file) (segments_of file.begin.base tail.looks)
      kept_key =
          subst (λ (l : List Look). AllByRecursion (KeepsKey file.rule file.begin.key file.begin.path file.file) (segments_of file.begin.base l))
          (all_kept (joined_turned left.turned).history tail.looks keeps)
          (file_is_read (watch_of start so_far.scans) file so_far.moments left.turned tail keyed told).kept
        where
          keyed : IsKeyed file
          keyed = member_is IsKeyed so_far.opened file (stands.files.keyed tells) is_left.among

          keeps : has_lost_key left.turned.history ≡ false
          keeps = ap (λ (s : Stage). loses_key_at s left.turned.history.rule.file_identity) last_over.is.over

      by_tail : WasClosedWith after tail.opening tail.looks → RanOutOfEpochs start.settings.inputs start.opening one before after
      by_tail closed = record {
        rule = file.rule;
        rule_is = subst (λ (l : Listed). slice_get start.settings.inputs l.input ≡ Some file.rule) same as_listed.rule_is;
        key = file.begin.key;
        key_is = subst (λ (l : Listed). l.key ≡ Some file.begin.key) same as_listed.keyed;
        opening = file.opening;
        since = since_all start.settings before after (files_of so_far) done file is_left.among;
        number = file.number;
        file = file.file;
        file_is = opened_since.file_is;
        begun = file.begun;
        opened = opened_since.stands ∙ ap (λ (p : List ℕ). Some (OpenedAs p file.number file.begun)) path_is;
        looks = tail.looks;
        closed = subst (λ (n : ℕ). WasClosedWith after n tail.looks) told.tail.opening closed;
        kept_key = subst (λ (p : List ℕ). AllByRecursion (KeepsKey file.rule file.begin.key p file.file) (segments_of (start_among start.opening one).base tail.looks)) path_is
            (subst (λ (n : ℕ). AllByRecursion (KeepsKey file.rule file.begin.key file.begin.path file.file) (segments_of n tail.looks)) base_is kept_key);
        began_in = subst (λ (n : ℕ). n ≤ MAX_EPOCH) epoch_is began_in;
        above_the_last = subst (λ (n : ℕ). n + falls_in (start_among start.opening one).base tail.looks ≡ MAX_EPOCH + 1) epoch_is
            (subst (λ (n : ℕ). file.begin.epoch.0 + falls_in n tail.looks ≡ MAX_EPOCH + 1) base_is all_epochs);
      }

    by_told : (told : Option TailHistory) → IsSome told → IsToldFile (watch_of start so_far.scans) file so_far.moments left.turned told → IfSome told (λ tail. WasClosedWith after tail.opening tail.looks) →
        RanOutOfEpochs start.settings.inputs start.opening one before after
    by_told None some told closed = absurd cc
    by_told (Some tail) some told closed = by_tail tail told closed

    ran_out : RanOutOfEpochs start.settings.inputs start.opening one before after
    ran_out =
        by_told left.told (member_is (λ (l : Left). IsSome l.told) so_far.left left (stands.files.left_tell tells) last_over.among) is_left.is_told
        (member_is (λ (l : Left). IfSome l.told (λ tail. WasClosedWith after tail.opening tail.looks)) so_far.left left done.closed last_over.among)

  -- by what the folder told behind the scan, and at the end
  pub has_run_out : (before after : FolderHistory) → start.shown ≡ Some before → ending.shown ≡ Some after → (one : Listed) → slice_get start.listed slot.0 ≡ Some one →
      RanOutOfEpochs start.settings.inputs start.opening one before after
  has_run_out before after told tells one there =
      ran_out before after (subst (λ (o : Option FolderHistory). IsSome o) (sym told) refl)
      (subst (λ (o : Option FolderHistory). HasShown start.settings (Some before) o (files_of so_far)) tells (subst (λ (o : Option FolderHistory). HasShown start.settings o ending.shown (files_of so_far)) told stands.files.shown)) one there
