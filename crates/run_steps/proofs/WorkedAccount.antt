-- The file of two plain lines, read once by a run over an empty registry: the whole account of the run. Its areas were at rest; area A was
-- started, and then the file's row was stored there; whatever a crash leaves meanwhile gives rows that are kept. The premises of the account
-- hold, and the folder is drained.
use Rattle.std.proofs.Common.{◌≡◌, ◌⊎◌, inl, inr, ℕ, zero, suc, ◌≤◌, Bool, cond, eqb, true, false, List, [], ◌∷◌, drop, length, codes, None, Some, refl, sym, ap, subst, ◌∙◌, arith, lit≤}
use Rattle.std.specs.Fmt.{digits}
use Rattle.std.specs.Prelude.{slice_get}
use Rattle.std.specs.List.{AllByRecursion}
use Rattle.std.proofs.lemmas.List.Elements.{All-cons, All-nil}
use Rattle.event_json.specs.Json.{escape}
use Rattle.event_tree.specs.declared.input_rule.InputRule.{InputRule}
use Rattle.kept_rows.proofs.Worked as worked
use Rattle.kept_rows.specs.Account.{EpochAccount, SlotAccount, epoch_at}
use Rattle.kept_rows.specs.Drained.{IsDrainedBySlots, IsPassedOver}
use Rattle.kept_rows.specs.Kept.{IsKept, IsKeptInImage, IsToldRow}
use Rattle.kept_rows.specs.Premises.{Premises}
use Rattle.kept_rows.specs.Scans.{IsCovered, ShowsEntry}
use Rattle.kept_rows.specs.Stored.{IsStored, WaitsAt}
use Rattle.outside.specs.Folders.{Closed, FolderHistory}
use Rattle.outside.specs.Wires.{Finished}
use Rattle.outside.specs.declared.history.Shown.{Shown}
use Rattle.registry_frame.specs.Body.{body_bytes}
use Rattle.registry_frame.specs.BodyOf.{IsStoredOp, IsStoredRow}
use Rattle.registry_log.specs.Header.{first_wrong}
use Rattle.registry_log.specs.Reading.{MayBeRecord}
use Rattle.registry_log.specs.State.{Blank, Closed as ClosedState, IsOpened, Opened}
use Rattle.registry_store.specs.Choice.{Chosen, Fresh, GivesRows, IsChoice, rows_of}
use Rattle.wire_base.specs.declared.limits.Which.{Which}
use Rattle.wire_base.specs.declared.limits.Which.TheVariants.{A, B}
use Rattle.wire_base.specs.declared.row.Op.TheVariants.{Set}
use Rattle.wire_base.specs.declared.row.Row.{Row}
use Rattle.accounts.specs.AccountedFor.{followings_in}
use Rattle.run_steps.specs.AccountedFor.{Absences, AccountedFor, AreImageRows, GiveImageRows, ImagesHoldKeptRows, LostInImage, LostKey, RowsBy, RunObjects, TogetherHoldKeptRows, WereAtRest, areas_of}
use Rattle.run_steps.specs.LastEpoch.{HasItsEpochs, IsToldInEpochs, falls_in}
use Rattle.run_steps.specs.declared.met.Met.TheVariants.{Done, Stopped}
use Rattle.run_steps.specs.TakenUp.{HasTakenUp, IsTakenUp}
use Rattle.told_scans.proofs.Members.{some_is}
use Rattle.run_steps.proofs.RunRows.{OneChoice}
use Rattle.run_steps.proofs.WorkedTogether.{Holding, IsAmong, beside_blank, closed, closed_area, disks, first_area}

-- ---- what its objects told

abbrev pub stored_area : List ℕ
stored_area =
    codes "{beat 2 00000000000000000001\n{0000091 [{\"epoch\":0,\"key\":\"filestream::w::path::/w/a.log\",\"offset\":4,\"op\":\"set\",\"path\":\"/w/a.log\"}]\n."

abbrev pub blank : Holding
blank = record { past = []; now = [] }

-- it was closed, then opened without a row, and then with one
abbrev pub stored : Holding
stored = record { past = [] ∷ closed_area ∷ first_area ∷ []; now = stored_area }

abbrev pub earlier : FolderHistory
earlier = record { files = worked.file ∷ []; events = Closed 2 worked.older_looks 1 ∷ [] }

abbrev pub later : FolderHistory
later = record { files = worked.file ∷ []; events = worked.trace.events }

abbrev pub objects : RunObjects Holding
objects = record {
  before = record { folder = Some earlier; moments = Some []; questions = record { clock = 0; bell = 0; given = 0 }; outcomes = Some [] ∷ []; a = blank; b = blank };
  after = record { folder = Some later; moments = Some (0 ∷ []); questions = record { clock = 2; bell = 1; given = 1 }; outcomes = Some (Finished worked.talk 0 0 ∷ []) ∷ []; a = stored; b = blank };
}

abbrev pub account : List SlotAccount
account = worked.slot_account ∷ []

-- ---- what it took up

-- its one entry, by the slot of the file
pub taken_up : HasTakenUp worked.run account
taken_up = record { scan = worked.scan; first = refl; whole = worked.whole; each = by_input }
  where
    by_input : (other : Shown) (number : ℕ) (rule : InputRule) → ShowsEntry worked.trace worked.scan other → slice_get worked.settings.inputs number ≡ Some rule →
        IsCovered rule.paths other.entry.path → IsPassedOver worked.run rule worked.scan other number ⊎ IsTakenUp worked.run account worked.scan other number
    by_input other zero rule shows is covered =
        subst (λ (s : Shown). IsPassedOver worked.run rule worked.scan s 0 ⊎ IsTakenUp worked.run account worked.scan s 0) (worked.only_entry other shows)
        (inr (record { number = 0; one = worked.slot_account; of_account = (0, omega arith, refl); shows = worked.shows_to; tail = worked.tail; of_slot = (0, omega arith, refl) }))
    by_input other (suc number) rule shows is covered = absurd (let q : None ≡ Some rule = is in cc)

-- ---- its epochs

-- the first one, in which its length never fell
pub told_in_epochs : AllByRecursion IsToldInEpochs account
told_in_epochs = ((inr (omega arith), tt), tt)

pub has_its_epochs : AllByRecursion (λ (one : SlotAccount). AllByRecursion (HasItsEpochs one) one.following.tails) account
has_its_epochs = ((record { each = (omega arith, tt); falls = (let none : falls_in 0 worked.looks ≡ 0 = refl in omega (arith, none)) }, tt), tt)

-- ---- the row that was stored

lengths : length (body_bytes (Set worked.row ∷ [])) ≡ 91
unfolding digits escape
lengths = refl

may_be_stored : IsStoredRow worked.row
unfolding lib.Utf8.encode
may_be_stored = record {
  ranges = record { key = omega arith; path = omega arith; offset = omega arith; changed = omega arith };
  key = (codes "filestream::w::path::/w/a.log", (refl, refl));
  path = (codes "/w/a.log", (refl, refl));
  epoch = omega arith;
}

may_be_a_record : MayBeRecord [] (Set worked.row ∷ [])
may_be_a_record = record {
  some = λ same. cc same;
  each = All-cons IsStoredOp (Set worked.row) [] may_be_stored (All-nil IsStoredOp);
  body = omega (arith, lengths);
  rows = omega arith;
}

row_is_opened : IsOpened stored_area 1 (worked.row ∷ []) 130
unfolding digits escape first_wrong
row_is_opened = record {
  records = (Set worked.row ∷ []) ∷ [];
  gate = 46;
  rest = [];
  reaches = record { unclosed = record { gate = refl; more = omega arith }; header = record { right = refl; number = refl }; each = (may_be_a_record, tt); bytes = refl; begins = refl };
  closed = λ same. omega (arith, same);
  replayed = refl;
}

-- ---- what the areas give

-- an opened area A beside a blank area B is chosen
chosen_beside : (area : List ℕ) (generation : ℕ) (rows : List Row) (end : ℕ) → IsOpened area generation rows end → IsChoice area [] (Chosen A generation rows 29 end)
chosen_beside area generation rows end is =
    record { first_state = Opened generation rows 29 end; second_state = Blank; first_is = (refl, is); second_is = omega arith; chosen = refl }

pub gives_nothing : GivesRows [] [] []
gives_nothing = record {
  choice = Fresh;
  chosen = record { first_state = Blank; second_state = Blank; first_is = omega arith; second_is = omega arith; chosen = refl };
  given = refl;
}

closed_gives_nothing : GivesRows closed_area [] []
closed_gives_nothing = record {
  choice = Fresh;
  chosen = record { first_state = ClosedState; second_state = Blank; first_is = closed; second_is = omega arith; chosen = refl };
  given = refl;
}

pub gives_the_row : GivesRows stored_area [] (worked.row ∷ [])
gives_the_row = record { choice = Chosen A 1 (worked.row ∷ []) 29 130; chosen = chosen_beside stored_area 1 (worked.row ∷ []) 130 row_is_opened; given = refl }

module _ (one : OneChoice) where
  -- and no other rows
  same_rows : (first second : List ℕ) (rows others : List Row) → GivesRows first second rows → GivesRows first second others → rows ≡ others
  same_rows first second rows others gives give =
      let same = one first second gives.choice give.choice gives.chosen give.chosen in
      some_is rows others (sym gives.given ∙ ap rows_of same ∙ give.given)

  opened_with : (area : List ℕ) (known : List Row) → GivesRows area [] known → (generation : ℕ) (rows : List Row) (end : ℕ) → IsOpened area generation rows end → known ≡ rows
  opened_with area known gives generation rows end is =
      same_rows area [] known rows gives (record { choice = Chosen A generation rows 29 end; chosen = chosen_beside area generation rows end is; given = refl })

  pub rows_at_end : (first second : List ℕ) (rows : List Row) → Some stored_area ≡ Some first → Some blank.now ≡ Some second → GivesRows first second rows → worked.row ∷ [] ≡ rows
  rows_at_end first second rows a_is b_is gives =
      let here = subst (λ (l : List ℕ). GivesRows l second rows) (sym (some_is stored_area first a_is)) gives in
      let both = subst (λ (l : List ℕ). GivesRows stored_area l rows) (sym (some_is [] second b_is)) here in
      same_rows stored_area [] (worked.row ∷ []) rows gives_the_row both

-- ---- such rows are kept

kept_in_image : (row : Row) → IsKept account [] worked.wires row → IsKeptInImage account [] worked.wires row
kept_in_image row (inl newest) = inl newest.told
kept_in_image row (inr stands) = inr stands.1

none_are : (Absent : Absences) → AreImageRows worked.run account Absent []
none_are Absent = record { kept = tt; stay = tt; unbegun = tt }

row_is : (Absent : Absences) → AreImageRows worked.run account Absent (worked.row ∷ [])
row_is Absent = record { kept = (kept_in_image worked.row worked.both_lines_are_kept, tt); stay = tt; unbegun = tt }

-- nothing begins behind both lines
none_waits : AllByRecursion (WaitsAt worked.wires 4) worked.epoch_account.told
none_waits = ((λ begins settled. omega (arith, begins)), ((λ begins settled. omega (arith, begins)), tt))

told_so_far : (told : IsToldRow account worked.wires worked.row) → AllByRecursion (WaitsAt worked.wires 4) told.epoch.told
told_so_far told = by_slot (eqb 0 told.slot) told.slot_is
  where
    by_epoch : worked.slot_account ≡ told.one → AllByRecursion (WaitsAt worked.wires 4) told.epoch.told
    by_epoch same =
        let is : Some worked.epoch_account ≡ Some told.epoch = ap (λ (one : SlotAccount). epoch_at 0 one.epochs) same ∙ told.epoch_is in
        subst (λ (epoch : EpochAccount). AllByRecursion (WaitsAt worked.wires 4) epoch.told) (some_is worked.epoch_account told.epoch is) none_waits

    by_slot : (b : Bool) → cond b (Some worked.slot_account) None ≡ Some told.one → AllByRecursion (WaitsAt worked.wires 4) told.epoch.told
    by_slot true is = by_epoch (some_is worked.slot_account told.one is)
    by_slot false is = absurd (let q : None ≡ Some told.one = is in cc)

is_stored : IsKept account [] worked.wires worked.row → IsStored account worked.wires worked.row
is_stored (inl newest) = inl (record { told = newest.told; next = told_so_far newest.told })
is_stored (inr stands) = inr stands.0

pub rows_are : RowsBy worked.run account Done (worked.row ∷ [])
rows_are = record {
  in_image = row_is LostKey;
  kept = λ left. (worked.both_lines_are_kept, tt);
  begun = λ left. (inl (record { row = worked.row; of_rows = (0, omega arith, refl); key_is = refl }), tt);
  stored = λ left. (is_stored worked.both_lines_are_kept, tt);
}

-- ---- whatever a crash leaves

abbrev GivesKept : List ℕ → List ℕ → Type 0
GivesKept = GiveImageRows worked.run account

gives_kept : (image : List ℕ) → IsAmong ([] ∷ closed_area ∷ first_area ∷ stored_area ∷ []) image → (other : List ℕ) → other ≡ [] → GivesKept image other
gives_kept image among other same = subst (GivesKept image) (sym same) (by_image among)
  where
    by_image : IsAmong ([] ∷ closed_area ∷ first_area ∷ stored_area ∷ []) image → GivesKept image []
    by_image (inl is) = subst (λ (l : List ℕ). GivesKept l []) (sym is) (record { rows = []; given = gives_nothing; are = none_are LostInImage })
    by_image (inr (inl is)) = subst (λ (l : List ℕ). GivesKept l []) (sym is) (record { rows = []; given = closed_gives_nothing; are = none_are LostInImage })
    by_image (inr (inr (inl is))) = subst (λ (l : List ℕ). GivesKept l []) (sym is) (record { rows = []; given = beside_blank; are = none_are LostInImage })
    by_image (inr (inr (inr (inl is)))) = subst (λ (l : List ℕ). GivesKept l []) (sym is) (record { rows = worked.row ∷ []; given = gives_the_row; are = row_is LostInImage })
    by_image (inr (inr (inr (inr never)))) = absurd never

from_start : (start : ℕ) (image : List ℕ) → start ≤ 0 → IsAmong (drop start ([] ∷ closed_area ∷ first_area ∷ stored_area ∷ [])) image →
    IsAmong ([] ∷ closed_area ∷ first_area ∷ stored_area ∷ []) image
from_start start image le since =
    let zero : start ≡ 0 = omega (arith, le) in
    subst (λ (n : ℕ). IsAmong (drop n ([] ∷ closed_area ∷ first_area ∷ stored_area ∷ [])) image) zero since

pub together : TogetherHoldKeptRows disks objects worked.run account
together = record {
  writes = record { area = A; after = areas_of objects.after } ∷ [];
  lead = (
    record {
      other_same = refl;
      leaves = record { later = omega arith; each = gives_kept; before = λ start image le since. inr (gives_kept image (from_start start image le since)) };
    },
    refl,
  );
  at_end = λ first second left_a left_b. gives_kept first (inr (inr (inr (inl left_a)))) second left_b;
}

module _ (one : OneChoice) where
  opened_rows : (image : List ℕ) → IsAmong ([] ∷ closed_area ∷ first_area ∷ stored_area ∷ []) image → (generation : ℕ) (rows : List Row) (end : ℕ) → IsOpened image generation rows end →
      AreImageRows worked.run account LostInImage rows
  opened_rows image (inl is) generation rows end opened =
      subst (AreImageRows worked.run account LostInImage) (opened_with one [] [] gives_nothing generation rows end (subst (λ (l : List ℕ). IsOpened l generation rows end) is opened)) (none_are LostInImage)
  opened_rows image (inr (inl is)) generation rows end opened =
      subst (AreImageRows worked.run account LostInImage) (opened_with one closed_area [] closed_gives_nothing generation rows end (subst (λ (l : List ℕ). IsOpened l generation rows end) is opened)) (none_are LostInImage)
  opened_rows image (inr (inr (inl is))) generation rows end opened =
      subst (AreImageRows worked.run account LostInImage) (opened_with one first_area [] beside_blank generation rows end (subst (λ (l : List ℕ). IsOpened l generation rows end) is opened)) (none_are LostInImage)
  opened_rows image (inr (inr (inr (inl is)))) generation rows end opened =
      subst (AreImageRows worked.run account LostInImage)
      (opened_with one stored_area (worked.row ∷ []) gives_the_row generation rows end (subst (λ (l : List ℕ). IsOpened l generation rows end) is opened)) (row_is LostInImage)
  opened_rows image (inr (inr (inr (inr never)))) generation rows end opened = absurd never

  pub images : (area : Which) → ImagesHoldKeptRows disks objects worked.run account area
  images A image generation rows end since opened = inr (opened_rows image since generation rows end opened)
  images B image generation rows end (inl is) opened = inr (opened_rows image (inl is) generation rows end opened)
  images B image generation rows end (inr never) opened = absurd never

  -- ---- the account

  unfoldable pub is_accounted_for : AccountedFor disks worked.settings objects Done
  is_accounted_for = record {
    run = worked.run;
    by_settings = refl;
    account = account;
    fits = record {
      once = refl;
      one_scan = lit≤ tt;
      folder = record { goes_on = record { files = refl; more = drop 1 worked.trace.events; events = refl }; files = refl; events = refl; began = refl; none_open = refl };
      moments = inr (record { first = 0; later = []; moments_are = refl; first_is = inr ((λ ends. let q : None ≡ Some 0 = ends in cc), refl) });
      scan_first = (record { later = []; are = refl }, tt);
      wires_go_on = ((Finished worked.talk 0 0 ∷ [], refl), tt);
      wires = refl;
    };
    followed = worked.is_account.followed;
    slots = worked.are_slot_accounts;
    sent = worked.sends_only_told;
    opened = λ first second a_is b_is.
        subst (λ (l : List ℕ). GivesRows l second []) (some_is [] first a_is) (subst (λ (l : List ℕ). GivesRows [] l []) (some_is [] second b_is) gives_nothing);
    given = λ at_rest first second a_is b_is. (
      worked.row ∷ [],
      subst (λ (l : List ℕ). GivesRows l second (worked.row ∷ [])) (some_is stored_area first a_is)
          (subst (λ (l : List ℕ). GivesRows stored_area l (worked.row ∷ [])) (some_is [] second b_is) gives_the_row),
    );
    rows = λ at_rest first second rows a_is b_is gives. subst (RowsBy worked.run account Done) (rows_at_end one first second rows a_is b_is gives) rows_are;
    images = λ at_rest. images;
    together = λ at_rest. together;
    drained = λ at_rest done first second rows a_is b_is gives. subst (IsDrainedBySlots worked.run account) (rows_at_end one first second rows a_is b_is gives) worked.drained_by_slots;
    taken_up = λ telling. taken_up;
    read = λ stopped. absurd (let no : Done ≡ Stopped = stopped in cc);
    looked = λ stopped twice. absurd (let no : Done ≡ Stopped = stopped in cc);
    told_in_epochs = told_in_epochs;
    epochs = λ telling. has_its_epochs;
  }

-- ---- what is supposed

pub were_at_rest : WereAtRest disks objects
were_at_rest = record { a_told = refl; b_told = refl; a_settled = λ image is. ap Some (sym is); b_settled = λ image is. ap Some (sym is) }

pub premises_hold : Premises worked.run (followings_in account)
premises_hold = worked.premises
