-- Beginning all listed files begins or skips each for its reason.
use Rattle.std.proofs.Common.{◌≡◌, ◌⊎◌, inl, inr, ⊎_elim, ℕ, zero, suc, ◌<◌, ◌≤◌, true, false, drop, List, [], ◌∷◌, ◌++◌, Contains, length, append_assoc, append-nil, Option, Some, None, IfSome, Result, Ok, refl, sym, ap, subst, ◌∙◌, arith}
use Rattle.std.proofs.lemmas.Bool.{or_parts}
use Rattle.std.proofs.lemmas.List.Elements.{Contains-append_cases, Contains-append_left, Contains-append_right}
use Rattle.std.proofs.lemmas.List.{length-append}
use Rattle.std.specs.Prelude.{IsSome, option_map, slice_get}
use Rattle.event_tree.specs.declared.input_rule.IdentityRule.{IdentityRule}
use Rattle.event_tree.specs.declared.input_rule.IdentityRule.TheVariants.{Fingerprint, Native, Path}
use Rattle.event_tree.specs.declared.input_rule.InputRule.{InputRule}
use Rattle.event_tree.specs.declared.settings.Settings.{Settings}
use Rattle.file_identity.specs.Answers.{IsAsked, IsFingerprint, IsGiven, IsWithin, with_numbers}
use Rattle.file_identity.specs.Asking.{IsAsking, given_key}
use Rattle.file_identity.specs.declared.identity.Identity.{Identity}
use Rattle.file_identity.specs.declared.identity.Identity.TheVariants.{Key, TooSmall}
use Rattle.file_identity.specs.declared.identity_error.IdentityError.{IdentityError}
use Rattle.keeper.specs.Keeping.{Keeping}
use Rattle.kept_rows.specs.Trace.{Closing, Trace, closing_in, first_of_two, open_looks_in}
use Rattle.outside.specs.Files.{File, sight_of}
use Rattle.outside.specs.Folders.{Closed, Event, FolderHistory, FindsNone, NotThere, Opened, OpensFile, TellsOpening, with_event}
use Rattle.outside.specs.Tails.{TailHistory}
use Rattle.outside.specs.declared.history.Look.{Look}
use Rattle.outside.specs.declared.history.Shown.{Shown}
use Rattle.outside.specs.declared.history.Sight.{Sight}
use Rattle.prospect.specs.declared.listed.Listed.{Listed}
use Rattle.report.specs.declared.passing.Passing.{Passing}
use Rattle.report.specs.declared.passing.Why.{Why}
use Rattle.report.specs.declared.passing.Why.TheVariants.{Doubled, Gone, Moved, Old, Small}
use Rattle.rounds.specs.Words.{TailWords}
use Rattle.ship_core.proofs.Members.{first_there, none_there}
use Rattle.wire_base.specs.declared.note.Begin.{Begin as Beginning_of_file}
use Rattle.wire_base.specs.declared.note.Note.{Note}
use Rattle.wire_base.specs.declared.numbers.Moment.{Moment}
use Rattle.wire_base.specs.declared.numbers.Slot.{Slot}
use Rattle.wire_base.specs.declared.row.Row.{Row}
use Rattle.run_steps.specs.BeginFor.{begin_for, start_among}
use Rattle.run_steps.specs.Beginning.{AsksKey, Beginning, BeginsOne, ClosesFile, HasOtherKey, IsTooSmall, ListedFile}
use Rattle.run_steps.specs.BeginsAll.{BeginsFrom, Came, file_at, has_failed, passed_by}
use Rattle.run_steps.specs.Begun.{noted_begin}
use Rattle.run_steps.specs.Releasing.{closing_of, with_events}
use Rattle.run_steps.specs.Served.{AreServedFrom, HasBegin, WasSkippedBy, folder_trace}
use Rattle.run_steps.specs.SkippedFor.{GaveAsOpened, IsSkippedFor}
use Rattle.run_steps.proofs.FollowedOrSkipped.{each_then_so}
use Rattle.run_steps.proofs.SkippedFor.{skipped_still}
use Rattle.accounts.proofs.Orderly.{member_is}
use Rattle.told_scans.proofs.AskedEvents.{closes_here}
use Rattle.run_steps.specs.declared.begin.Admission.{Admission}
use Rattle.run_steps.specs.declared.begin.Admission.TheVariants.{Failed, Followed, Skipped}

-- ---- notes

pub begun_left : (first second : List Note) (slot : ℕ) → HasBegin first slot → HasBegin (first ++ second) slot
begun_left first second slot has = record { begin = has.begin; slot_is = has.slot_is; noted = Contains-append_left first second (noted_begin has.begin) has.noted }

begun_right : (first second : List Note) (slot : ℕ) → HasBegin second slot → HasBegin (first ++ second) slot
begun_right first second slot has = record { begin = has.begin; slot_is = has.slot_is; noted = Contains-append_right first second (noted_begin has.begin) has.noted }

pub begun_in : (first second : List Note) (slot : ℕ) → HasBegin (first ++ second) slot → HasBegin first slot ⊎ HasBegin second slot
begun_in first second slot has =
    ⊎_elim (λ here. inl (record { begin = has.begin; slot_is = has.slot_is; noted = here })) (λ later. inr (record { begin = has.begin; slot_is = has.slot_is; noted = later }))
    (Contains-append_cases first second (noted_begin has.begin) has.noted)

nothing_begun : (slot : ℕ) → ¬ (HasBegin [] slot)
nothing_begun slot has = none_there (noted_begin has.begin) has.noted

same_begin : (one other : Beginning_of_file) → noted_begin one ≡ noted_begin other → one.slot.0 ≡ other.slot.0
same_begin one other is = let same : one.slot ≡ other.slot = cc in ap (λ (s : Slot). s.0) same

only_begun : (begin : Beginning_of_file) (slot : ℕ) → HasBegin (noted_begin begin ∷ []) slot → slot ≡ begin.slot.0
only_begun begin slot has =
    sym has.slot_is ∙ sym (same_begin begin has.begin (member_is (λ (note : Note). noted_begin begin ≡ note) (noted_begin begin ∷ []) (noted_begin has.begin) (refl, tt) has.noted))

-- ---- one file

-- a place before the end of a fingerprint is of one
within_bytes : (identity : IdentityRule) (place : ℕ) → IsWithin identity place → IsFingerprint identity
within_bytes (Fingerprint offset count) place within = tt
within_bytes Native place within = absurd within
within_bytes Path place within = absurd within

abbrev pub with_more : FolderHistory → List Event → FolderHistory
with_more before events = record before { events = before.events ++ events }

-- the notes tell how the file of this slot begins
record IsBegunBy (slot : ℕ) (more : List Note) : Type 0 where
  begin : Beginning_of_file
  slot_is : begin.slot.0 ≡ slot
  are : more ≡ noted_begin begin ∷ []

-- they tell nothing, and the first of these things shows the reason for which it is skipped
record IsSkippedIn (inputs : List InputRule) (began : ℕ) (one : Listed) (before : FolderHistory) (events : List Event) (why : Why) (more : List Note) : Type 0 where
  are : more ≡ []
  reason : IsSkippedFor inputs (folder_trace began (with_more before events)) one (length before.events) why

abbrev ComesTo : List InputRule → ℕ → ℕ → Listed → FolderHistory → List Event → Admission → List Note → Type 0
ComesTo inputs began slot one before events Followed more = IsBegunBy slot more
ComesTo inputs began slot one before events (Skipped why) more = IsSkippedIn inputs began one before events why more
ComesTo inputs began slot one before events Failed more = ⊥

-- the folder tells these things more, and the keeper maybe a note: so the file is begun or skipped
record ServesOne {T W L : Type 0} (inputs : List InputRule) (began slot : ℕ) (one : Listed) (begun : Admission) (before : FolderHistory) (old new : Beginning T W L) : Type 0 where
  events : List Event
  some : 0 < length events
  told : new.folder.told ≡ Some (with_more before events)
  more : List Note
  noted : new.keeper.tracked.notes ≡ old.keeper.tracked.notes ++ more
  came : ComesTo inputs began slot one before events begun more

pub got_at_end : {A : Type 0} (front : List A) (x : A) (back : List A) (place : ℕ) → place ≡ length front → slice_get (front ++ (x ∷ back)) place ≡ Some x
got_at_end [] x back place is = ap (slice_get (x ∷ back)) is
got_at_end (y ∷ front) x back zero is = absurd (omega (arith, is))
got_at_end (y ∷ front) x back (suc place) is = got_at_end front x back place (omega (arith, is))

behind_it : {A : Type 0} (front : List A) (x : A) (back : List A) (place : ℕ) → place ≡ length front → drop (suc place) (front ++ (x ∷ back)) ≡ back
behind_it [] x back place is = ap (λ (n : ℕ). drop (suc n) (x ∷ back)) is
behind_it (y ∷ front) x back zero is = absurd (omega (arith, is))
behind_it (y ∷ front) x back (suc place) is = behind_it front x back place (omega (arith, is))

module _ {T : Type 0} (tails : TailWords T) where
  pub opened_file : (path : List ℕ) (tail : T) (before : FolderHistory) (told after : Option FolderHistory) (states : List Sight) (present : List Shown) → told ≡ Some before →
      TellsOpening tails.told tails.numbers told states present path (Ok (Some tail)) after → OpensFile tails.told tails.numbers before states present path tail after
  opened_file path tail before told after states present is tells =
      subst (λ (o : Option FolderHistory). TellsOpening tails.told tails.numbers o states present path (Ok (Some tail)) after) is tells

  none_event : (path : List ℕ) (before : FolderHistory) (told after : Option FolderHistory) (states : List Sight) (present : List Shown) → told ≡ Some before →
      TellsOpening tails.told tails.numbers told states present path (Ok None) after → after ≡ Some (with_event before (NotThere path))
  none_event path before told after states present is tells =
      let finds : FindsNone before present path after =
      subst (λ (o : Option FolderHistory). TellsOpening tails.told tails.numbers o states present path (Ok None) after) is tells in
      finds.kept

module _ {T W L : Type 0} (tails : TailWords T) (settings : Settings) (rows : List Row) (now : Moment) where
  -- what the folder tells of a file that was opened, asked for its key and closed again
  module _ (file : ListedFile) (Reason : T → T → Type 0) (before : FolderHistory) (old new : Beginning T W L) (closed : ClosesFile tails settings file Reason old new)
      (result : Result Identity IdentityError) (asks : AsksKey tails settings file closed.fresh closed.closed.asked result) where
    abbrev faults : ℕ
    faults = tails.faults closed.closed.asked

    pub record ToldClosed : Type 0 where
      pub opens : OpensFile tails.told tails.numbers before old.folder.states old.folder.present file.listed.path closed.fresh closed.mid.folder.told
      pub looks : List Look
      pub told : new.folder.told ≡ Some (with_more before (Opened file.listed.path opens.one.file (sight_of opens.one) ∷ (Closed (length before.events) looks faults ∷ [])))
      pub gave : IsGiven asks.rule.id asks.rule.file_identity file.listed.path opens.file looks result

    pub closed_told : old.folder.told ≡ Some before → ToldClosed
    closed_told is = told_by opens_it
      where
        opens_it : OpensFile tails.told tails.numbers before old.folder.states old.folder.present file.listed.path closed.fresh closed.mid.folder.told
        opens_it = opened_file tails file.listed.path closed.fresh before old.folder.told closed.mid.folder.told old.folder.states old.folder.present is closed.opened.opens.told

        told_by : OpensFile tails.told tails.numbers before old.folder.states old.folder.present file.listed.path closed.fresh closed.mid.folder.told → ToldClosed
        told_by opens =
            let asked : IsAsked asks.rule.id asks.rule.file_identity file.listed.path (tails.numbers closed.fresh)
            (record { opening = length before.events; number = opens.one.file; file = opens.file; begun = sight_of opens.one; looks = [] }) result (tails.told closed.closed.asked) =
            subst (λ (o : Option TailHistory). IfSome o (λ telling. IsAsked asks.rule.id asks.rule.file_identity file.listed.path (tails.numbers closed.fresh) telling result (tails.told closed.closed.asked)))
            opens.begins asks.told in
            record {
              opens = opens;
              looks = asked.looks;
              told = closed.closed.closed.closes.told
                  ∙ ap (λ (o : Option TailHistory). with_events (closing_of o faults) closed.mid.folder.told) asked.added.kept
                  ∙ ap (with_events (Closed (length before.events) asked.looks faults ∷ [])) opens.kept
                  ∙ ap (λ (l : List Event). Some (record before { events = l }))
                  (append_assoc before.events (Opened file.listed.path opens.one.file (sight_of opens.one) ∷ []) (Closed (length before.events) asked.looks faults ∷ []));
              gave = subst (λ (n : Option (ℕ × ℕ)). IsGiven asks.rule.id asks.rule.file_identity file.listed.path (with_numbers n opens.file) asked.looks result) opens.numbers asked.gave;
            }

    -- an opened tail has met no fault, nor has it since
    pub none_met : ToldClosed → (IsSome (tails.told closed.fresh) → faults ≡ tails.faults closed.fresh) → faults ≡ 0
    none_met its no_fault = subst (λ (o : Option TailHistory). IsSome o → faults ≡ tails.faults closed.fresh) its.opens.begins no_fault refl ∙ closed.opened.opens.fresh

    abbrev events_of : ToldClosed → List Event
    events_of its = Opened file.listed.path its.opens.one.file (sight_of its.opens.one) ∷ (Closed (length before.events) its.looks faults ∷ [])

    -- it gave this key, or none, as it was asked
    gave_so : (began : ℕ) → began ≤ length before.events → (its : ToldClosed) (key : Option (List ℕ)) → IsAsking asks.rule.file_identity its.looks →
        given_key asks.rule.id asks.rule.file_identity file.listed.path its.opens.file its.looks ≡ key → faults ≡ 0 →
        GaveAsOpened settings.inputs (folder_trace began (with_more before (events_of its))) file.listed (length before.events) key
    gave_so began within its key asking gave none = record {
      rule = asks.rule;
      rule_is = asks.rule_is;
      number = its.opens.one.file;
      gave = record {
        looks = its.looks;
        file = its.opens.file;
        tail = record {
          in_this_run = within;
          begun = sight_of its.opens.one;
          opened = got_at_end before.events (Opened file.listed.path its.opens.one.file (sight_of its.opens.one)) (Closed (length before.events) its.looks faults ∷ []) (length before.events) refl;
          tells = ap (λ (o : Option Closing). first_of_two (option_map (λ (c : Closing). c.looks) o) (open_looks_in (length before.events) []))
              (ap (closing_in (length before.events))
              (behind_it before.events (Opened file.listed.path its.opens.one.file (sight_of its.opens.one)) (Closed (length before.events) its.looks faults ∷ []) (length before.events) refl)
              ∙ closes_here (length before.events) its.looks faults []);
        };
        closed = ap (closing_in (length before.events))
            (behind_it before.events (Opened file.listed.path its.opens.one.file (sight_of its.opens.one)) (Closed (length before.events) its.looks faults ∷ []) (length before.events) refl)
            ∙ closes_here (length before.events) its.looks faults []
            ∙ ap (λ (n : ℕ). Some (record { looks = its.looks; faults = n })) none;
        file_is = its.opens.file_is;
        asking = asking;
        gave = sym gave;
      };
    }

    closed_serves : (began slot : ℕ) (why : Why) (its : ToldClosed) → IsSkippedFor settings.inputs (folder_trace began (with_more before (events_of its))) file.listed (length before.events) why →
        ServesOne settings.inputs began slot file.listed (Skipped why) before old new
    closed_serves began slot why its reason = record {
      events = events_of its;
      some = omega arith;
      told = its.told;
      more = [];
      noted = ap (λ (k : Keeping). k.tracked.notes) (closed.closed.closed.keeper ∙ closed.opened.keeper) ∙ sym (append-nil old.keeper.tracked.notes);
      came = record { are = refl; reason = reason };
    }

  serves_one : (began slot : ℕ) (one : Listed) (begun : Admission) (before : FolderHistory) (old new : Beginning T W L) → old.folder.told ≡ Some before → began ≤ length before.events →
      has_failed begun ≡ false → BeginsOne tails settings (file_at rows slot one now) (Ok begun) old new → ServesOne settings.inputs began slot one begun before old new
  unfolding gave_so
  serves_one began slot one Followed before old new is within none begins =
      let opens = opened_file tails one.path begins.fresh before old.folder.told begins.mid.folder.told old.folder.states old.folder.present is begins.opened.opens.told in
      let tells = begins.follows.taken.tells in
      record {
        events = Opened one.path opens.one.file (sight_of opens.one) ∷ [];
        some = omega arith;
        told = ap (λ f. f.told) begins.follows.taken.folder ∙ opens.kept;
        more = noted_begin (begin_for (record { 0 = slot }) one tells.key (start_among rows one)) ∷ [];
        noted = tells.tells.told ∙ ap (λ (k : Keeping). k.tracked.notes ++ noted_begin (begin_for (record { 0 = slot }) one tells.key (start_among rows one)) ∷ []) begins.opened.keeper;
        came = record { begin = begin_for (record { 0 = slot }) one tells.key (start_among rows one); slot_is = refl; are = refl };
      }
  serves_one began slot one (Skipped Gone) before old new is within none opens = record {
    events = NotThere one.path ∷ [];
    some = omega arith;
    told = none_event tails one.path before old.folder.told new.folder.told old.folder.states old.folder.present is opens.opens.told;
    more = [];
    noted = ap (λ (k : Keeping). k.tracked.notes) opens.keeper ∙ sym (append-nil old.keeper.tracked.notes);
    came = record { are = refl; reason = record { in_this_run = within; not_there = got_at_end before.events (NotThere one.path) [] (length before.events) refl } };
  }
  serves_one began slot one (Skipped Moved) before old new is within none closed =
      let file = file_at rows slot one now in
      let key = closed.closed.why.key in
      let asks = closed.closed.why.asks in
      let its = closed_told file (HasOtherKey tails settings file) before old new closed (Ok (Key key)) asks is in
      closed_serves file (HasOtherKey tails settings file) before old new closed (Ok (Key key)) asks began slot Moved its
      (record {
        other = key;
        opened = gave_so file (HasOtherKey tails settings file) before old new closed (Ok (Key key)) asks began within its (Some key) its.gave.0 its.gave.1
            (none_met file (HasOtherKey tails settings file) before old new closed (Ok (Key key)) asks its closed.closed.why.no_fault);
        other_key = closed.closed.why.other;
      })
  serves_one began slot one (Skipped Small) before old new is within none closed =
      let file = file_at rows slot one now in
      let place = closed.closed.why.place in
      let asks = closed.closed.why.asks in
      let its = closed_told file (IsTooSmall tails settings file) before old new closed (Ok (TooSmall place)) asks is in
      closed_serves file (IsTooSmall tails settings file) before old new closed (Ok (TooSmall place)) asks began slot Small its
      (record {
        opened = gave_so file (IsTooSmall tails settings file) before old new closed (Ok (TooSmall place)) asks began within its None its.gave.0 its.gave.1
            (none_met file (IsTooSmall tails settings file) before old new closed (Ok (TooSmall place)) asks its closed.closed.why.no_fault);
        by_bytes = within_bytes asks.rule.file_identity place asks.answer;
      })
  serves_one began slot one Failed before old new is within none begins = absurd (let q : true ≡ false = none in cc)
  serves_one began slot one (Skipped Doubled) before old new is within none begins = absurd begins
  serves_one began slot one (Skipped Old) before old new is within none begins = absurd begins

-- ---- one file before others

abbrev trace_at : List File → ℕ → List Event → Trace
trace_at files began events = folder_trace began (record { files = files; events = events })

module _ (inputs : List InputRule) (files : List File) (began slot place : ℕ) (listed : List Listed) (passed : List Passing) (first rest : List Note) (only : (other : ℕ) → HasBegin first other → other ≡ slot) where
  -- what holds of later files holds of them behind what was noted of the first
  behind_first : (events events_are : List Event) → events ≡ events_are → AreServedFrom inputs rest (trace_at files began events) (suc slot) place listed passed →
      AreServedFrom inputs (first ++ rest) (trace_at files began events_are) (suc slot) place listed passed
  behind_first events events_are same all =
      subst (λ (l : List Event). AreServedFrom inputs (first ++ rest) (trace_at files began l) (suc slot) place listed passed) same
      (each_then_so (λ other one. HasBegin rest other) (WasSkippedBy inputs rest (trace_at files began events)) (λ other one. HasBegin (first ++ rest) other)
      (WasSkippedBy inputs (first ++ rest) (trace_at files began events)) (λ other one. suc slot ≤ other) 0 (λ other one behind has. begun_right first rest other has)
      (λ other one opening why behind since was. record { not_begun = still_none other behind was.not_begun; reason = was.reason }) (suc slot) place listed passed (omega arith) (λ k one at. omega arith) all)
    where
      still_none : (other : ℕ) → suc slot ≤ other → ¬ (HasBegin rest other) → ¬ (HasBegin (first ++ rest) other)
      still_none other behind none has = ⊎_elim (λ here. let same_slot = only other here in omega (arith, same_slot, behind)) (λ later. none later) (begun_in first rest other has)

  -- and no Begin is of an earlier slot
  none_before : ((other : ℕ) → HasBegin rest other → suc slot ≤ other) → (other : ℕ) → HasBegin (first ++ rest) other → slot ≤ other
  none_before behind other has = ⊎_elim (λ here. let same_slot = only other here in omega (arith, same_slot)) (λ later. let since = behind other later in omega (arith, since)) (begun_in first rest other has)

-- ---- all of them

module _ {T W L : Type 0} (tails : TailWords T) (settings : Settings) (rows : List Row) (now : Moment) (began : ℕ) where
  pub record ServesFrom (slot place : ℕ) (listed : List Listed) (passed : List Passing) (before : FolderHistory) (old new : Beginning T W L) : Type 0 where
    pub events : List Event
    pub told : new.folder.told ≡ Some (with_more before events)
    pub more : List Note
    pub noted : new.keeper.tracked.notes ≡ old.keeper.tracked.notes ++ more
    pub since : (other : ℕ) → HasBegin more other → slot ≤ other
    pub each : AreServedFrom settings.inputs more (folder_trace began (with_more before events)) slot place listed passed

  module _ (slot place : ℕ) (one : Listed) (listed : List Listed) (passed later : List Passing) (before : FolderHistory) (old mid new : Beginning T W L) where
    -- the first of them was begun
    join_begun : (first : ServesOne settings.inputs began slot one Followed before old mid) → ServesFrom (suc slot) place listed later (with_more before first.events) mid new → passed ≡ later →
        ServesFrom slot place (one ∷ listed) passed before old new
    join_begun first rest are = record {
      events = first.events ++ rest.events;
      told = rest.told ∙ ap (λ (l : List Event). Some (record before { events = l })) (append_assoc before.events first.events rest.events);
      more = first.more ++ rest.more;
      noted = rest.noted ∙ ap (λ (l : List Note). l ++ rest.more) first.noted ∙ append_assoc old.keeper.tracked.notes first.more rest.more;
      since = none_before settings.inputs before.files began slot place listed later first.more rest.more only rest.since;
      each = inl (
        begun_left first.more rest.more slot (record {
          begin = first.came.begin;
          slot_is = first.came.slot_is;
          noted = subst (λ (l : List Note). Contains l (noted_begin first.came.begin)) (sym first.came.are) (first_there (noted_begin first.came.begin) []);
        }),
        subst (AreServedFrom settings.inputs (first.more ++ rest.more) (folder_trace began (with_more before (first.events ++ rest.events))) (suc slot) place listed) (sym are)
            (behind_first settings.inputs before.files began slot place listed later first.more rest.more only ((before.events ++ first.events) ++ rest.events) (before.events ++ (first.events ++ rest.events))
            (append_assoc before.events first.events rest.events) rest.each),
      );
    }
      where
        only : (other : ℕ) → HasBegin first.more other → other ≡ slot
        only other has = only_begun first.came.begin other (subst (λ (l : List Note). HasBegin l other) first.came.are has) ∙ first.came.slot_is

    -- or skipped
    join_skipped : (why : Why) → place ≤ length before.events → (first : ServesOne settings.inputs began slot one (Skipped why) before old mid) →
        ServesFrom (suc slot) (suc (length before.events)) listed later (with_more before first.events) mid new → passed ≡ record { path = one.path; why = why } ∷ later →
        ServesFrom slot place (one ∷ listed) passed before old new
    join_skipped why behind first rest are = record {
      events = first.events ++ rest.events;
      told = rest.told ∙ ap (λ (l : List Event). Some (record before { events = l })) (append_assoc before.events first.events rest.events);
      more = first.more ++ rest.more;
      noted = rest.noted ∙ ap (λ (l : List Note). l ++ rest.more) first.noted ∙ append_assoc old.keeper.tracked.notes first.more rest.more;
      since = none_before settings.inputs before.files began slot place listed later first.more rest.more only rest.since;
      each = inr (record {
        opening = length before.events;
        since = behind;
        why = why;
        skips = record {
          not_begun = λ has. ⊎_elim (λ here. nothing_begun slot (subst (λ (l : List Note). HasBegin l slot) first.came.are here)) (λ later. let more = rest.since slot later in omega (arith, more))
              (begun_in first.more rest.more slot has);
          reason =
              skipped_still (folder_trace began (with_more before first.events)) (folder_trace began (with_more before (first.events ++ rest.events))) rest.events refl
              (sym (append_assoc before.events first.events rest.events)) (omega arith) refl settings.inputs one (length before.events) why first.came.reason;
        };
        later = later;
        passed_are = are;
        rest =
            behind_first settings.inputs before.files began slot (suc (length before.events)) listed later first.more rest.more only ((before.events ++ first.events) ++ rest.events)
            (before.events ++ (first.events ++ rest.events)) (append_assoc before.events first.events rest.events) rest.each;
      });
    }
      where
        only : (other : ℕ) → HasBegin first.more other → other ≡ slot
        only other has = absurd (nothing_begun other (subst (λ (l : List Note). HasBegin l other) first.came.are has))

  pub serves_from : (slot place : ℕ) (listed : List Listed) (came : Came) (before : FolderHistory) (old new : Beginning T W L) → old.folder.told ≡ Some before → began ≤ length before.events →
      place ≤ length before.events → came.faulty ≡ false → BeginsFrom tails settings rows now slot listed came old new → ServesFrom slot place listed came.passed before old new
  serves_from slot place [] came before old new is within behind none begins = record {
    events = [];
    told = ap (λ (s : Beginning T W L). s.folder.told) begins.1 ∙ is ∙ ap (λ (l : List Event). Some (record before { events = l })) (sym (append-nil before.events));
    more = [];
    noted = ap (λ (s : Beginning T W L). s.keeper.tracked.notes) begins.1 ∙ sym (append-nil old.keeper.tracked.notes);
    since = λ other has. absurd (nothing_begun other has);
    each = ap (λ (c : Came). c.passed) begins.0;
  }
  serves_from slot place (one ∷ listed) came before old new is within behind none begins =
      by_begun begins.begun begins.first neither.0 (ap (λ (c : Came). c.passed) begins.came_is)
      (λ next more told since later. serves_from (suc slot) next listed begins.later (with_more before more) begins.mid new told since later neither.1 begins.rest)
    where
      neither : (has_failed begins.begun ≡ false) × (begins.later.faulty ≡ false)
      neither = or_parts (has_failed begins.begun) begins.later.faulty (sym (ap (λ (c : Came). c.faulty) begins.came_is) ∙ none)

      by_begun : (begun : Admission) → BeginsOne tails settings (file_at rows slot one now) (Ok begun) old begins.mid → has_failed begun ≡ false → came.passed ≡ passed_by begun one ++ begins.later.passed →
          ((next : ℕ) (more : List Event) → begins.mid.folder.told ≡ Some (with_more before more) → began ≤ length (before.events ++ more) → next ≤ length (before.events ++ more) →
          ServesFrom (suc slot) next listed begins.later.passed (with_more before more) begins.mid new) →
          ServesFrom slot place (one ∷ listed) came.passed before old new
      by_begun Followed begun served are others =
          let first = serves_one tails settings rows now began slot one Followed before old begins.mid is within served begun in
          let long = length-append before.events first.events in
          join_begun slot place one listed came.passed begins.later.passed before old begins.mid new first
          (others place first.events first.told (omega (arith, within, long)) (omega (arith, behind, long))) are
      by_begun Failed begun served are others = absurd (let q : true ≡ false = served in cc)
      by_begun (Skipped why) skipped served are others =
          let first = serves_one tails settings rows now began slot one (Skipped why) before old begins.mid is within served skipped in
          let long = length-append before.events first.events in
          let some = first.some in
          join_skipped slot place one listed came.passed begins.later.passed before old begins.mid new why behind first
          (others (suc (length before.events)) first.events first.told (omega (arith, within, long)) (omega (arith, some, long))) are
