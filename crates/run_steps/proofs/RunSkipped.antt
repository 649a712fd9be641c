-- Each listed file of a run whose files were all begun is followed by the account, or was skipped for its reason.
use Rattle.std.proofs.Common.{◌≡◌, ◌≢◌, ⊎_elim, ℕ, zero, suc, ◌+◌, All, List, [], ◌∷◌, append-nil, Contains, length, map, take, Option, Some, refl, sym, ap, subst, ◌∙◌, arith}
use Rattle.std.proofs.lemmas.Bool.{cases_lt}
use Rattle.std.proofs.lemmas.Option.{slice_get_within}
use Rattle.std.specs.Prelude.{flat_map, slice_get}
use Rattle.accounts.proofs.Backing.{mapped_there}
use Rattle.accounts.proofs.Grounded.{each_has_ground, of_map}
use Rattle.accounts.specs.Accounted.{followed_tail}
use Rattle.accounts.specs.Filed.{Filed, account_of, accounts_of, slot_in, tail_by}
use Rattle.accounts.specs.Hidden.{Hidden, hidden_key, with_hidden}
use Rattle.accounts.proofs.HiddenSlots.{account_there, has_with_hidden}
use Rattle.accounts.specs.Taken.{FitBooks, Taken, acknowledged_in}
use Rattle.kept_rows.specs.Account.{Place, SlotAccount, key_of}
use Rattle.kept_rows.specs.Run.{Run}
use Rattle.kept_rows.specs.Trace.{Trace, WireTold}
use Rattle.outside.specs.Folders.{Opened as OpenedAs}
use Rattle.prospect.proofs.Doubled.{keys_apart}
use Rattle.prospect.specs.AskedFiles.{keyed_by}
use Rattle.prospect.specs.Doubled.{AreKeysApart}
use Rattle.prospect.specs.declared.listed.Listed.{Listed}
use Rattle.report.specs.declared.passing.Passing.{Passing}
use Rattle.rounds.specs.Crewed.{lanings}
use Rattle.rounds.specs.Words.{Words}
use Rattle.ship_core.proofs.Members.{first_there, later_there}
use Rattle.slot_parts.specs.Tails.{tails_of}
use Rattle.wire_base.specs.declared.note.Note.{Note}
use Rattle.wire_base.specs.declared.parcel.Parcel.{Parcel}
use Rattle.run_steps.specs.Began.{Began}
use Rattle.run_steps.specs.FollowedOrSkipped.{AreFollowedOrSkipped, IsFollowedInSlot, IsInAccount, IsSkippedBy}
use Rattle.run_steps.specs.Releasing.{HasNoHarvesters}
use Rattle.run_steps.specs.RunOf.{FolderTold, run_of}
use Rattle.run_steps.specs.RunState.{RunState}
use Rattle.run_steps.specs.Scanned.{HasScanned}
use Rattle.run_steps.specs.Served.{AreServed, HasBegin, WasSkippedBy, folder_trace}
use Rattle.run_steps.specs.LaterScans.{told_in}
use Rattle.run_steps.specs.Shown.{WasOpenedSince}
use Rattle.run_steps.specs.SoFar.{SoFar, files_in, files_of}
use Rattle.run_steps.specs.Stands.{Stands}
use Rattle.run_steps.proofs.EarlierOn.{opened_once}
use Rattle.run_steps.proofs.FollowedOrSkipped.{came_so, each_then_so, none_followed}
use Rattle.run_steps.proofs.HiddenAmong.{each_is_hidden_of}
use Rattle.told_scans.proofs.Members.{some_is}
use Rattle.run_steps.proofs.Named.{later_has_other}
use Rattle.run_steps.proofs.RunFiles.{as_listed, done, files, input_is, path_is, was_opened}
use Rattle.run_steps.proofs.RunNotes.{opened_is_in_notes}
use Rattle.run_steps.proofs.RunServed.{file_of_begin}
use Rattle.run_steps.proofs.SkippedFor.{skipped_still}
use Rattle.accounts.proofs.Orderly.{member_is}
use Rattle.run_steps.proofs.Openings.{since_all}
use Rattle.accounts.proofs.Grounded.{each_member}

pub listed_there : (listed : List Listed) (slot : ℕ) (one : Listed) → slice_get listed slot ≡ Some one → Contains listed one
listed_there [] slot one at = absurd cc
listed_there (first ∷ listed) zero one at = let same : first ≡ one = cc in subst (λ (l : Listed). Contains (first ∷ listed) l) same (first_there first listed)
listed_there (first ∷ listed) (suc slot) one at = later_there first one listed (listed_there listed slot one at)

-- files of one key stand at one place
same_place_by_key : (listed : List Listed) (place other : ℕ) (one later : Listed) (key : List ℕ) → AreKeysApart listed → slice_get listed place ≡ Some one → slice_get listed other ≡ Some later →
    one.key ≡ Some key → later.key ≡ Some key → place ≡ other
same_place_by_key listed place other one later key apart at there keyed same =
    ⊎_elim (λ before. absurd (later_has_other listed place other one later key apart before at there keyed same))
    (λ not_before. ⊎_elim (λ behind. absurd (later_has_other listed other place later one key apart behind there at same keyed)) (λ not_behind. omega (arith, not_before, not_behind)) (cases_lt other place))
    (cases_lt place other)

module _ {T W L D : Type 0} (words : Words T W L D) (start : Began D) (state : RunState T W L D) (so_far : SoFar) (stands : Stands words start state (opened_once so_far))
    (released : All HasNoHarvesters (lanings state.crew.lanes.items)) (folder : FolderTold) (has : HasScanned start folder) (shown : state.shown ≡ Some folder.ended)
    (wires : List WireTold) (workers : List Taken) (fits : FitBooks (files_in so_far) workers so_far.collected)
    (passed : List Passing) (served : AreServed start.settings start.opening start.listed passed state.keeper.tracked.notes folder) (placed : Parcel → Option Place) where
  abbrev run : Run
  run = run_of start folder so_far.moments wires

  abbrev run_files : List Filed
  run_files = files words start state so_far stands released folder has shown wires

  abbrev file_accounts : List SlotAccount
  file_accounts = accounts_of placed run_files

  abbrev account : List SlotAccount
  account = with_hidden file_accounts so_far.hidden

  abbrev notes : List Note
  notes = state.keeper.tracked.notes

  abbrev scanned : ℕ
  scanned = length folder.scanned.events

  abbrev told_trace : Trace
  told_trace = folder_trace (length folder.earlier.events) folder.ended

  -- a file that was begun
  followed_in_slot : (slot : ℕ) (one : Listed) → slice_get start.listed slot ≡ Some one → HasBegin notes slot → IsFollowedInSlot run account scanned slot one
  followed_in_slot slot one at begun =
      let there = file_of_begin words start state so_far stands released folder has shown wires workers fits passed served slot (slice_get_within start.listed slot one at) begun in
      let file = there.file in
      let listed = as_listed words start state so_far stands released folder has shown wires file there.among in
      let same : listed.one ≡ one = some_is listed.one one (sym listed.listed_there ∙ ap (slice_get start.listed) there.slot_is ∙ at) in
      let doing = done words start state so_far stands released folder has shown wires in
      let among = was_opened words start state so_far stands released folder has shown wires file there.among in
      let since = member_is (WasOpenedSince folder.scanned (told_in so_far.scans) folder.ended) so_far.opened file.opened doing.opened among in
      let its_path = path_is words start state so_far stands released folder has shown wires file there.among ∙ ap (λ (l : Listed). l.path) same in
      record {
        slot = account_of placed file;
        of_account = account_there file_accounts so_far.hidden (account_of placed file) (mapped_there (account_of placed) run_files file there.among);
        number_is = there.slot_is;
        key_is = ap (λ (l : Listed). l.key) (sym same) ∙ listed.keyed;
        input_is = input_is words start state so_far stands released folder has shown wires file there.among ∙ ap (λ (l : Listed). l.input) same;
        tail = followed_tail file.opened file.looks file.turned.history;
        of_slot = first_there (followed_tail file.opened file.looks file.turned.history) (tails_of (map tail_by file.later));
        behind = since_all start.settings folder.scanned folder.ended (files_of (opened_once so_far)) doing file.opened among;
        begun = file.opened.begun;
        opened = since.stands ∙ ap (λ (path : List ℕ). Some (OpenedAs path file.opened.number file.opened.begun)) its_path;
      }

  -- no hidden row has the key of a listed file
  not_hidden : (slot : ℕ) (one : Listed) → slice_get start.listed slot ≡ Some one → (hidden : Hidden) → Contains so_far.hidden hidden → one.key ≢ Some (hidden_key hidden)
  not_hidden slot one at hidden there keyed =
      let of = each_is_hidden_of start.settings.inputs start.listed (length start.listed) (take stands.notes.hidden.count start.opening) so_far.hidden hidden stands.notes.hidden.are there in
      let got = listed_there start.listed slot one at in of.removed.unlisted (got.0, one, got.1, got.2, keyed)

  -- each slot of its key is of a file that was begun
  of_files : (slot : ℕ) (one : Listed) → slice_get start.listed slot ≡ Some one → IsInAccount account one → IsInAccount file_accounts one
  of_files slot one at any =
      let here = member_is (λ (s : SlotAccount). one.key ≡ Some (key_of s) → Contains file_accounts s) account any.1
      (has_with_hidden (λ (s : SlotAccount). one.key ≡ Some (key_of s) → Contains file_accounts s) file_accounts so_far.hidden
      (each_member (λ (s : SlotAccount). one.key ≡ Some (key_of s) → Contains file_accounts s) file_accounts (λ s there keyed. there))
      (λ hidden there keyed. absurd (not_hidden slot one at hidden there keyed))) (any.0, any.2, any.3) any.4 in
      (here.0, any.1, here.1, here.2, any.4)

  -- the keeper was told how each file begins
  its_begin : (file : Filed) → Contains run_files file → HasBegin notes (slot_in file)
  its_begin file there = record {
    begin = file.opened.begin;
    slot_is = refl;
    noted =
        opened_is_in_notes (files_in so_far) (acknowledged_in workers) so_far.begun so_far.collected notes stands.notes.noted.mixed (each_has_ground (files_in so_far) workers so_far.collected fits)
        so_far.scans start.opening start.listed so_far.opened so_far.hidden stands.notes.begun file.opened (was_opened words start state so_far stands released folder has shown wires file there);
  }

  begun_where_in_account : (slot : ℕ) (one : Listed) → slice_get start.listed slot ≡ Some one → IsInAccount file_accounts one → HasBegin notes slot
  begun_where_in_account slot one at in_account =
      let of = of_map (account_of placed) run_files in_account.1 (in_account.0, in_account.2, in_account.3) in
      let listed = as_listed words start state so_far stands released folder has shown wires of.item of.among in
      let keyed : one.key ≡ Some of.item.opened.begin.key = in_account.4 ∙ ap (λ (s : SlotAccount). Some (key_of s)) (sym of.is) in
      let same_slot : slot_in of.item ≡ slot =
      same_place_by_key start.listed (slot_in of.item) slot listed.one one of.item.opened.begin.key (keys_apart (flat_map keyed_by folder.asked) start.listed start.doubled has.parts) listed.listed_there at
      listed.keyed keyed in
      subst (HasBegin notes) same_slot (its_begin of.item of.among)

  pub followed_or_skipped : AreFollowedOrSkipped run account scanned start.listed passed
  followed_or_skipped =
      each_then_so (λ slot one. HasBegin notes slot) (WasSkippedBy start.settings.inputs notes told_trace) (IsFollowedInSlot run account scanned) (IsSkippedBy run account scanned)
      (λ slot one. slice_get start.listed slot ≡ Some one) scanned followed_in_slot
      (λ slot one opening why at since was. record {
        not_followed = λ in_account. was.not_begun (begun_where_in_account slot one at (of_files slot one at in_account));
        reason = skipped_still told_trace run.trace [] refl (sym (append-nil folder.ended.events)) (omega arith) refl start.settings.inputs one opening why was.reason;
      })
      0 scanned start.listed passed (omega arith) (λ k one at. let same : k ≡ 0 + k = omega arith in subst (λ (n : ℕ). slice_get start.listed n ≡ Some one) same at) served.each

  -- where as many paths were told as there are files, none is followed
  pub no_files : length passed ≡ length start.listed → (file : Filed) → Contains run_files file → ⊥
  no_files as_many file there =
      let listed = as_listed words start state so_far stands released folder has shown wires file there in
      ⊎_elim (λ never. never)
      (λ was. was.skips.not_begun (subst (HasBegin notes) (let same : slot_in file ≡ 0 + slot_in file = omega arith in same) (its_begin file there)))
      (came_so (λ slot one. ⊥) (WasSkippedBy start.settings.inputs notes told_trace) 0 scanned start.listed passed
      (none_followed (λ slot one. HasBegin notes slot) (WasSkippedBy start.settings.inputs notes told_trace) 0 scanned start.listed passed served.each as_many) (slot_in file) listed.one listed.listed_there)
