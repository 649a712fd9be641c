-- The epochs of the account of a run: each event was told in one that there is, and a file that a tail followed needed no other, where each
-- fall of its length was answered.
use Rattle.std.proofs.Common.{◌≡◌, ◌⊎◌, inl, inr, ℕ, suc, ◌+◌, ◌==◌, ◌≤◌, All, Bool, true, false, List, [], ◌∷◌, ◌++◌, Contains, append-nil, length, map, Option, None, Some, IsSome, if◌then◌else◌, refl, sym, ap, subst, ◌∙◌, arith}
use Rattle.std.proofs.lemmas.List.{length_push}
use Rattle.std.specs.List.{AllByRecursion}
use Rattle.accounts.proofs.Grounded.{of_map}
use Rattle.accounts.proofs.Openings.{first_is_opening, is_filed, reads_exactly}
use Rattle.accounts.proofs.Orderly.{member_is}
use Rattle.accounts.proofs.Segmented.{IsReadExactly, as_many}
use Rattle.accounts.proofs.JoinedFile.{joined_opened, joined_turned}
use Rattle.accounts.specs.Accounted.{place_in}
use Rattle.accounts.specs.Filed.{Filed, Opening, TellEpoch, TellEpochs, account_of, begun_in, first_opening, parts_told, tail_by, told_behind, told_over, untold_by}
use Rattle.accounts.specs.FollowedFile.{IsFollowedFile}
use Rattle.accounts.specs.Parted.{kept_looks}
use Rattle.accounts.specs.Turned.{Turned}
use Rattle.event_tree.specs.declared.group_rule.GroupRule.{GroupRule}
use Rattle.file_looks.specs.Segment.{Segment, segments_of}
use Rattle.harvester.specs.History.{History, Telling}
use Rattle.kept_rows.specs.Account.{EpochAccount, Place}
use Rattle.kept_rows.specs.Followed.{Start}
use Rattle.kept_rows.specs.Run.{Run}
use Rattle.kept_rows.specs.Trace.{WireTold}
use Rattle.outside.specs.Folders.{FolderHistory}
use Rattle.pass_sums.proofs.Each.{both_empty}
use Rattle.prospect.proofs.Lists.{all_map}
use Rattle.restart_join.specs.declared.start.TheConstants.{MAX_EPOCH}
use Rattle.rounds.specs.Crewed.{lanings}
use Rattle.rounds.specs.Words.{Words}
use Rattle.slot_parts.specs.Account.{epoch_account, epoch_accounts, events_from}
use Rattle.slot_parts.specs.Parts.{EpochParts, Part, epochs_of, runs_from, told_in, with_epoch, with_part}
use Rattle.slot_parts.specs.Tails.{parts_by}
use Rattle.slot_parts.specs.Tellings.{parts_of, tellings_in}
use Rattle.wire_base.specs.declared.numbers.Slot.{Slot}
use Rattle.wire_base.specs.declared.parcel.Parcel.{Parcel}
use Rattle.run_steps.specs.Began.{Began}
use Rattle.run_steps.specs.LastEpoch.{AreToldInEpochs, HasItsEpochs, IsAnswered, IsToldInEpochs, falls_in}
use Rattle.run_steps.specs.Releasing.{HasNoHarvesters}
use Rattle.run_steps.specs.RunOf.{FolderTold, run_of}
use Rattle.run_steps.specs.RunState.{RunState}
use Rattle.run_steps.specs.Scanned.{HasScanned}
use Rattle.run_steps.specs.SoFar.{Left, SoFar}
use Rattle.run_steps.specs.Stands.{IsLeftSo, MayTell, Stands, watch_of}
use Rattle.run_steps.proofs.EarlierOn.{opened_once}
use Rattle.run_steps.proofs.InEpochs.{each_there}
use Rattle.run_steps.proofs.OutOfEpochs.{present_epoch}
use Rattle.run_steps.proofs.RunFiles.{files, files_are, is_followed, is_joined}

-- ---- in which epochs events are told

module _ (placed : Parcel → Option Place) (slot : Slot) where
  none_told : (epoch number : ℕ) (parts : List Part) → told_in parts ≡ [] → events_from (place_in placed slot epoch) number parts ≡ []
  none_told epoch number [] none = refl
  none_told epoch number (part ∷ parts) none =
      let both = both_empty part.told (told_in parts) none in
      let later = none_told epoch (suc number) parts both.1 in
      λ k. map (λ event. record { event = event; reading = number; place = place_in placed slot epoch event }) (both.0 k) ++ later k

  abbrev IsSo : EpochAccount → Type 0
  IsSo epoch = (epoch.told ≡ []) ⊎ (epoch.epoch ≤ MAX_EPOCH)

  untold : (one : EpochParts) → told_in one.parts ≡ [] → IsSo (epoch_account (place_in placed slot) one)
  untold one none = inl (none_told one.epoch 0 one.parts none)

  told_so : (one : EpochParts) (telling : Telling) → TellEpoch one telling → (telling.told ≡ []) ⊎ (telling.epoch ≤ MAX_EPOCH) → IsSo (epoch_account (place_in placed slot) one)
  told_so one telling tell (inl none) = untold one (tell.told ∙ none)
  told_so one telling tell (inr there) = inr (let same = tell.epoch in omega (arith, same, there))

  -- as they tell what was told in such epochs
  each_told : (epochs : List EpochParts) (tellings : List Telling) → TellEpochs epochs tellings → AreToldInEpochs tellings →
      AllByRecursion IsSo (map (epoch_account (place_in placed slot)) epochs)
  each_told [] [] tell each = tt
  each_told [] (telling ∷ tellings) tell each = absurd tell
  each_told (one ∷ epochs) [] tell each = (untold one tell.0, each_told epochs [] tell.1 tt)
  each_told (one ∷ epochs) (telling ∷ tellings) tell each = (told_so one telling tell.0 each.0, each_told epochs tellings tell.1 each.1)

-- ---- which epochs there are

abbrev IsPartThere : Part → Type 0
IsPartThere part = part.epoch ≤ MAX_EPOCH

abbrev AreEpochsThere : List EpochParts → Type 0
AreEpochsThere epochs = AllByRecursion (λ (one : EpochParts). one.epoch ≤ MAX_EPOCH) epochs

-- of no more segments than epochs were told
parts_there : (opening : ℕ) (rule : GroupRule) (before : ℕ) (tellings : List Telling) (segments : List Segment) → length segments ≤ length tellings →
    AllByRecursion (λ (telling : Telling). telling.epoch ≤ MAX_EPOCH) tellings → AllByRecursion IsPartThere (parts_of opening rule before tellings segments)
parts_there opening rule before [] [] few each = tt
parts_there opening rule before [] (segment ∷ segments) few each = absurd (omega (arith, few))
parts_there opening rule before (telling ∷ tellings) [] few each = tt
parts_there opening rule before (telling ∷ tellings) (segment ∷ segments) few each =
    (each.0, parts_there opening rule telling.epoch tellings segments (omega (arith, few)) each.1)

runs_there : (epoch : ℕ) (parts : List Part) → AllByRecursion IsPartThere parts → AreEpochsThere (runs_from epoch parts).later
runs_there epoch [] each = tt
runs_there epoch (part ∷ parts) each = by_case (part.epoch == epoch) (runs_there epoch parts each.1) (runs_there part.epoch parts each.1)
  where
    by_case : (b : Bool) → AreEpochsThere (runs_from epoch parts).later → AreEpochsThere (runs_from part.epoch parts).later →
        AreEpochsThere (if b then with_part part (runs_from epoch parts) else with_epoch part (runs_from part.epoch parts)).later
    by_case true same other = same
    by_case false same other = (each.0, other)

epochs_there : (placed : Parcel → Option Place) (slot : Slot) (epoch base : ℕ) (parts : List Part) → epoch ≤ MAX_EPOCH → AllByRecursion IsPartThere parts →
    AllByRecursion (λ (one : EpochAccount). one.epoch ≤ MAX_EPOCH) (epoch_accounts (place_in placed slot) epoch base parts)
epochs_there placed slot epoch base parts first each =
    all_map (λ (one : EpochAccount). one.epoch ≤ MAX_EPOCH) (λ (one : EpochParts). one.epoch ≤ MAX_EPOCH) (epoch_account (place_in placed slot)) (λ one there. there) (epochs_of epoch base parts)
    (first, runs_there epoch parts each)

-- ---- a file

module _ (run : Run) (placed : Parcel → Option Place) (file : Filed) (followed : IsFollowedFile run file) (alone : file.later ≡ [])
    (as_begun : file.shrank_from ≡ None) where
  abbrev epoch : ℕ
  epoch = file.opened.begin.epoch.0

  abbrev base : ℕ
  base = file.opened.begin.base

  abbrev history : History
  history = file.turned.history

  pub told_in_epochs : AreToldInEpochs (tellings_in history) → IsToldInEpochs (account_of placed file)
  told_in_epochs each =
      each_told placed file.opened.begin.slot its_epochs (tellings_in history)
      (subst (λ (from : Option Start). TellEpochs its_epochs (tellings_in (told_behind (untold_by from) history))) as_begun
      (subst (λ (later : List Opening). TellEpochs its_epochs (tellings_in (told_behind (untold_by file.shrank_from) (told_over history later)))) alone (is_filed run file followed).tell)) each
    where
      its_epochs : List EpochParts
      its_epochs = epochs_of (begun_in file).epoch (begun_in file).base (parts_told file)

  module _ (answered : IsAnswered history) where
    abbrev turned : Turned
    turned = record { slot = file.opened.begin.slot; history = history }

    exact : IsReadExactly (joined_turned turned).history (joined_opened file.opened) file.looks
    exact = reads_exactly run file.opened (first_opening file) (first_is_opening run file followed) answered.answered

    abbrev kept : List Segment
    kept = segments_of base (kept_looks history file.looks)

    -- as many segments as epochs
    as_long : length kept ≡ length history.past + 1
    as_long =
        let long = ap length exact.segments in
        let last = length_push exact.front exact.last in
        let past = as_many (joined_turned turned).history file.opened.file history.past exact.front exact.past in
        omega (arith, long, last, past)

    falls : epoch + falls_in base (kept_looks history file.looks) ≤ MAX_EPOCH
    falls =
        let long = as_long in
        let now = present_epoch epoch base history.past history.present followed.told.history.epochs in
        let last = answered.epoch in
        omega (arith, long, now, last)

    first : epoch ≤ MAX_EPOCH
    first = let all = falls in omega (arith, all)

    parts : AllByRecursion IsPartThere (parts_by file.opened.rule.multiline (tail_by (first_opening file)))
    parts =
        parts_there file.opened.opening file.opened.rule.multiline 0 (tellings_in history) kept
        (let long = as_long in let own = length_push history.past history.present in omega (arith, long, own))
        (each_there epoch base history.past history.present followed.told.history.epochs answered.epoch)

    abbrev Have : List Opening → Option Start → Type 0
    Have later from =
        AllByRecursion (HasItsEpochs (account_of placed (record file { later = later; shrank_from = from })))
        (account_of placed (record file { later = later; shrank_from = from })).following.tails

    pub has_its_epochs : Have file.later file.shrank_from
    has_its_epochs =
        subst (λ (later : List Opening). Have later file.shrank_from) (sym alone)
        (subst (Have []) (sym as_begun) (
          record {
            each = epochs_there placed file.opened.begin.slot epoch base (parts_told (record file { later = []; shrank_from = None })) first
                (subst (AllByRecursion IsPartThere) (sym (append-nil (parts_by file.opened.rule.multiline (tail_by (first_opening file))))) parts);
            falls = falls;
          },
          tt,
        ))

-- ---- the files of a run

module _ {T W L D : Type 0} (words : Words T W L D) (start : Began D) (state : RunState T W L D) (so_far : SoFar) (stands : Stands words start state (opened_once so_far))
    (released : All HasNoHarvesters (lanings state.crew.lanes.items)) (folder : FolderTold) (has : HasScanned start folder) (shown : state.shown ≡ Some folder.ended)
    (wires : List WireTold) (placed : Parcel → Option Place) (file : Filed) (among : Contains (files words start state so_far stands released folder has shown wires) file) where
  abbrev the_run : Run
  the_run = run_of start folder so_far.moments wires

  followed : IsFollowedFile the_run file
  followed = is_followed words start state so_far stands released folder has shown wires file among

  alone : file.later ≡ []
  alone = (is_joined words start state so_far stands released folder has shown wires file among).alone

  as_begun : file.shrank_from ≡ None
  as_begun = (is_joined words start state so_far stands released folder has shown wires file among).as_begun

  left_there : Contains (map (λ (l : Left). l.turned) so_far.left) file.turned
  left_there = subst (λ (l : List Turned). Contains l file.turned) (files_are words start state so_far stands released folder has shown wires)
      (is_joined words start state so_far stands released folder has shown wires file among).among

  pub file_told_in_epochs : IsToldInEpochs (account_of placed file)
  file_told_in_epochs =
      let of = of_map (λ (l : Left). l.turned) so_far.left file.turned left_there in
      let so = member_is (IsLeftSo (watch_of start so_far.scans) so_far.opened so_far.moments) so_far.left of.item stands.files.left of.among in
      told_in_epochs the_run placed file followed alone as_begun (subst (λ (t : Turned). AreToldInEpochs (tellings_in t.history)) of.is so.in_epochs)

  pub file_has_its_epochs : MayTell state.phase → AllByRecursion (HasItsEpochs (account_of placed file)) (account_of placed file).following.tails
  file_has_its_epochs may =
      let of = of_map (λ (l : Left). l.turned) so_far.left file.turned left_there in
      let each = (stands.files.answered may tells).in_left in
      has_its_epochs the_run placed file followed alone as_begun
      (subst (λ (t : Turned). IsAnswered t.history) of.is (member_is (λ (l : Left). IsAnswered l.turned.history) so_far.left of.item each of.among))
    where
      tells : IsSome start.shown
      tells = subst (λ (o : Option FolderHistory). IsSome o) (sym has.shown) refl
