-- What stands of a run stands once one of its harvesters heard of its file: what was told is the same, and its file is watched as before.
use Rattle.std.proofs.Common.{◌≡◌, ◌≢◌, inl, inr, ⊎_elim, ℕ, ◌^◌, ◌-◌, ◌<◌, false, List, [], ◌∷◌, ◌++◌, Contains, append_assoc, map, Option, None, Some, IfSome, IsSome, refl, sym, ap, subst, ◌∙◌, arith}
use Rattle.std.specs.List.{AllByRecursion, flat_map}
use Rattle.accounts.specs.FollowedFile.{MayReopenAt}
use Rattle.accounts.specs.Opened.{Opened}
use Rattle.accounts.specs.ToldFile.{IsReadThrough}
use Rattle.accounts.specs.Turned.{Turned, events_in, notes_in, notes_told, parcels_in, parcels_told, spans_in, spans_told as spans_of}
use Rattle.accounts.specs.Turning.{IsTurnedSo}
use Rattle.harvester.specs.HasTold.{begin_of}
use Rattle.harvester.specs.History.{Over, Stage, left_to_tell}
use Rattle.harvester.specs.History as history
use Rattle.harvester.specs.Standing.{stage_of}
use Rattle.harvester.specs.declared.harvester.Harvester.{Harvester}
use Rattle.harvester.specs.declared.stage.Stage.{Stage as ReaderStage}
use Rattle.harvester.specs.declared.stage.Stage.TheVariants as stage
use Rattle.outside.specs.Folders.{FolderHistory}
use Rattle.pass_sums.specs.Weight.{AsOften}
use Rattle.rounds.specs.Books.{ArePlaced}
use Rattle.rounds.specs.Pairs.{SomeOf}
use Rattle.rounds.specs.Settled.{spans_told}
use Rattle.rounds.specs.Words.{Words}
use Rattle.rounds.specs.declared.carrier.Carrier.{Carrier}
use Rattle.slot_parts.specs.Tellings.{tellings_in}
use Rattle.harvester.specs.History.{Telling}
use Rattle.wire_base.specs.declared.note.Begin.{Begin}
use Rattle.wire_base.specs.declared.note.Note.{Note}
use Rattle.wire_base.specs.declared.numbers.Slot.{Slot}
use Rattle.run_steps.specs.Began.{Began}
use Rattle.run_steps.specs.Changing.{ChangesAt}
use Rattle.run_steps.specs.ClosesTail.{Readers}
use Rattle.run_steps.specs.FolderSeen.{FolderSeen}
use Rattle.run_steps.specs.LastEpoch.{HasAnswered, HasAnsweredWhereNoFault, HaveOneOver, IsLastOver}
use Rattle.run_steps.specs.ReadBehind.{ReadsBehind, ReadsWhereNoFault}
use Rattle.run_steps.specs.RunState.{Finished, Following, Halted, HaltedFollowing, Leaving, OutOfEpochs, Phase, Reading}
use Rattle.run_steps.specs.Shown.{HasShown}
use Rattle.run_steps.specs.SoFar.{Left, SoFar, all_told, files_in, files_of, told_before}
use Rattle.run_steps.specs.Stands.{HaveGiven, IsLeftAnswered, IsLeftRead, watch_of}
use Rattle.run_steps.proofs.Admitting.{booked_by, placed_by}
use Rattle.run_steps.proofs.ChangedLanes.{StandsOn, after, before, each_changed, notes_same, parcels_same, passes_same, spans_same, stands_on}
use Rattle.run_steps.proofs.Grounds.{all_backed}
use Rattle.run_steps.proofs.TailClosed.{Reads}

-- the same was told, and it is where it was
pub record IsToldAlike (one other : Turned) : Type 0 where
  pub slot : other.slot ≡ one.slot
  pub tellings : tellings_in other.history ≡ tellings_in one.history
  pub stage_is : other.history.stage ≡ one.history.stage
  pub epoch : other.history.present.epoch ≡ one.history.present.epoch
  pub left : left_to_tell other.history ≡ left_to_tell one.history

module _ (one other : Turned) (alike : IsToldAlike one other) where
  parcels_alike : parcels_told other ≡ parcels_told one
  parcels_alike = ap (λ (s : Slot). flat_map (parcels_in s) (tellings_in other.history)) alike.slot ∙ ap (flat_map (parcels_in one.slot)) alike.tellings

  notes_alike : notes_told other ≡ notes_told one
  notes_alike = ap (λ (s : Slot). notes_in s (tellings_in other.history)) alike.slot ∙ ap (notes_in one.slot) alike.tellings

  spans_alike : spans_of other ≡ spans_of one
  spans_alike = ap events_in alike.tellings

  through_alike : IsReadThrough one.history → IsReadThrough other.history
  through_alike (inl told) = inl (record { ended = alike.stage_is ∙ told.ended; all_told = alike.left ∙ told.all_told })
  through_alike (inr changed) = inr (alike.stage_is ∙ changed)

  over_alike : (slot : Slot) → IsLastOver slot one → IsLastOver slot other
  over_alike slot is = record { of_slot = alike.slot ∙ is.of_slot; over = alike.stage_is ∙ is.over; last = alike.epoch ∙ is.last }

  -- among others
  module _ (others : List Turned) where
    mapped_at : {B : Type 0} (f : Turned → B) → f other ≡ f one → (front : List Turned) → map f (front ++ other ∷ others) ≡ map f (front ++ one ∷ others)
    mapped_at {B} f same [] = ap (λ (b : B). b ∷ map f others) same
    mapped_at {B} f same (first ∷ front) = ap (λ (l : List B). f first ∷ l) (mapped_at f same front)

    flat_at : {B : Type 0} (f : Turned → List B) → f other ≡ f one → (front : List Turned) → flat_map f (front ++ other ∷ others) ≡ flat_map f (front ++ one ∷ others)
    flat_at {B} f same [] = ap (λ (l : List B). l ++ flat_map f others) same
    flat_at {B} f same (first ∷ front) = ap (λ (l : List B). f first ++ l) (flat_at f same front)

    spans_at : (front : List Turned) → spans_in (front ++ other ∷ others) ≡ spans_in (front ++ one ∷ others)
    spans_at [] = let same = spans_alike in omega (arith, same)
    spans_at (first ∷ front) = let rest = spans_at front in omega (arith, rest)

    each_at : (P : Turned → Type 0) → (P one → P other) → (front : List Turned) → AllByRecursion P (front ++ one ∷ others) → AllByRecursion P (front ++ other ∷ others)
    each_at P then [] each = (then each.0, each.1)
    each_at P then (first ∷ front) each = (each.0, each_at P then front each.1)

    some_at : (P : Turned → Type 0) → (P one → P other) → (front : List Turned) → SomeOf P (front ++ one ∷ others) → SomeOf P (front ++ other ∷ others)
    some_at P then [] some = ⊎_elim (λ here. inl (then here)) (λ later. inr later) some
    some_at P then (first ∷ front) some = ⊎_elim (λ here. inl here) (λ later. inr (some_at P then front later)) some

over_is : (s : ReaderStage) → stage_of s ≡ Over → s ≡ stage.Over
over_is stage.Reading is = absurd (let no : history.Reads ≡ Over = is in cc)
over_is stage.Asking is = absurd (let no : history.Asks ≡ Over = is in cc)
over_is stage.Ended is = absurd (let no : history.Ended ≡ Over = is in cc)
over_is stage.Changed is = absurd (let no : history.Changed ≡ Over = is in cc)
over_is stage.Over is = refl

module _ {T W L D : Type 0} (words : Words T W L D) (start : Began D) (moments : Option (List ℕ)) (carriers : List (Carrier W L)) (got : List Note) (phase : Phase) where
  abbrev So : SoFar → Turned → Harvester T → Type 0
  So so_far = IsTurnedSo words.tails.numbers words.tails.told (watch_of start so_far.scans) so_far.opened so_far.moments

  -- it stands, whatever the histories of the lanes are
  pub record ReadsStill (so_far : SoFar) (now : Readers T) : Type 0 where
    pub lanes : List (List Turned)
    pub reads : Reads words start moments carriers got phase (record so_far { lanes = lanes }) now

  module _ {slot : Slot} {Changes : Harvester T → Harvester T → Type 0} {number : ℕ} (so_far : SoFar) (old new : Readers T) (same : new.folder ≡ old.folder)
      (change : ChangesAt number slot Changes old.lanes new.lanes) (reads : Reads words start moments carriers got phase so_far old)
      (tail_same : (after old.lanes new.lanes change).tail ≡ (before old.lanes new.lanes change).tail)
      (begin_same : begin_of (after old.lanes new.lanes change) ≡ begin_of (before old.lanes new.lanes change))
      (on : (x : Turned) → So so_far x (before old.lanes new.lanes change) → (y : Turned) × So so_far y (after old.lanes new.lanes change) × IsToldAlike x y) where
    abbrev was : Harvester T
    was = before old.lanes new.lanes change

    abbrev now : Harvester T
    now = after old.lanes new.lanes change

    its : StandsOn old.lanes new.lanes change (So so_far) IsToldAlike on so_far.lanes
    its = stands_on old.lanes new.lanes change (So so_far) IsToldAlike on so_far.lanes reads.files.turned

    abbrev later : SoFar
    later = record so_far { lanes = its.later }

    abbrev left_files : List Turned
    left_files = map (λ (l : Left). l.turned) so_far.left

    abbrev others : List Turned
    others = its.back ++ left_files

    files_were : files_in so_far ≡ its.front ++ its.one ∷ others
    files_were = ap (λ (l : List Turned). l ++ left_files) its.were ∙ append_assoc its.front (its.one ∷ its.back) left_files

    files_are : files_in later ≡ its.front ++ its.other ∷ others
    files_are = ap (λ (l : List Turned). l ++ left_files) its.are ∙ append_assoc its.front (its.other ∷ its.back) left_files

    abbrev before_them : List Turned
    before_them = told_before so_far.earlier

    -- with those of earlier openings
    all_by : {X : Type 0} (f : List Turned → X) → f ((before_them ++ its.front) ++ its.other ∷ others) ≡ f ((before_them ++ its.front) ++ its.one ∷ others) → f (all_told later) ≡ f (all_told so_far)
    all_by f is =
        ap f (ap (λ (l : List Turned). before_them ++ l) files_are ∙ sym (append_assoc before_them its.front (its.other ∷ others))) ∙ is
        ∙ sym (ap f (ap (λ (l : List Turned). before_them ++ l) files_were ∙ sym (append_assoc before_them its.front (its.one ∷ others))))

    -- of functions of them
    same_by : {X : Type 0} (f : List Turned → X) → f (its.front ++ its.other ∷ others) ≡ f (its.front ++ its.one ∷ others) → f (files_in later) ≡ f (files_in so_far)
    same_by f is = ap f files_are ∙ is ∙ sym (ap f files_were)

    each_file : (P : Turned → Type 0) → (P its.one → P its.other) → AllByRecursion P (files_in so_far) → AllByRecursion P (files_in later)
    each_file P then each = subst (AllByRecursion P) (sym files_are) (each_at its.one its.other its.like others P then its.front (subst (AllByRecursion P) files_were each))

    some_file : (P : Turned → Type 0) → (P its.one → P its.other) → SomeOf P (files_in so_far) → SomeOf P (files_in later)
    some_file P then some = subst (SomeOf P) (sym files_are) (some_at its.one its.other its.like others P then its.front (subst (SomeOf P) files_were some))

    abbrev slots_of : List Turned → List Slot
    slots_of files = map (λ (t : Turned). t.slot) files

    slots_same : slots_of (files_in later) ≡ slots_of (files_in so_far)
    slots_same = same_by slots_of (mapped_at its.one its.other its.like others (λ (t : Turned). t.slot) its.like.slot its.front)

    abbrev in_lanes : List (List Turned) → List Turned
    in_lanes lanes = flat_map (λ (ts : List Turned). ts) lanes

    turned_slots : slots_of (in_lanes its.later) ≡ slots_of (in_lanes so_far.lanes)
    turned_slots = ap slots_of its.are ∙ mapped_at its.one its.other its.like its.back (λ (t : Turned). t.slot) its.like.slot its.front ∙ sym (ap slots_of its.were)

    stage_same : stage_of now.reader.stage ≡ stage_of was.reader.stage
    stage_same = its.is.has_told.held.holds.follows.stage ∙ its.like.stage_is ∙ sym its.was.has_told.held.holds.follows.stage

    not_over : was.reader.stage ≢ stage.Over → now.reader.stage ≢ stage.Over
    not_over none is = none (over_is was.reader.stage (sym stage_same ∙ ap stage_of is))

    reads_then : ReadsWhereNoFault words.tails.told words.tails.faults was → ReadsWhereNoFault words.tails.told words.tails.faults now
    reads_then read none =
        subst (λ (t : T). IfSome (words.tails.told t) (λ tail. ReadsBehind false (begin_of now).base tail.looks)) (sym tail_same)
        (subst (λ (b : Begin). IfSome (words.tails.told was.tail) (λ tail. ReadsBehind false b.base tail.looks)) (sym begin_same) (read (sym (ap words.tails.faults tail_same) ∙ none)))

    over : (at : Phase) → HaveOneOver at (files_in so_far) → HaveOneOver at (files_in later)
    over Reading is = tt
    over Finished is = tt
    over Leaving is = tt
    over Halted is = tt
    over Following is = tt
    over HaltedFollowing is = tt
    over (OutOfEpochs slot) is = some_file (IsLastOver slot) (over_alike its.one its.other its.like slot) is

    shown : HasShown start.settings start.shown new.folder.told (files_of later)
    shown = subst (λ (f : FolderSeen). HasShown start.settings start.shown f.told (files_of later)) (sym same) (by_case start.shown old.folder.told reads.files.shown)
      where
        by_case : (first told : Option FolderHistory) → HasShown start.settings first told (files_of so_far) → HasShown start.settings first told (files_of later)
        by_case None told is = is
        by_case (Some first) None is = absurd is
        by_case (Some first) (Some told) is = record {
          files = is.files;
          more = is.more;
          events = is.events;
          scans = is.scans;
          opened = is.opened;
          apart = is.apart;
          serve = is.serve;
          closed = is.closed;
          closed_before = is.closed_before;
          still_open = λ one among turned. is.still_open one among (subst (λ (l : List Slot). Contains l one.begin.slot) turned_slots turned);
        }

    gave : HaveGiven so_far.told (all_told later)
    gave = record {
      parcels = subst (AsOften so_far.told.issued) (sym (all_by (flat_map parcels_told) (flat_at its.one its.other its.like others parcels_told (parcels_alike its.one its.other its.like) (before_them ++ its.front))))
          reads.books.gave.parcels;
      notes_are = subst (AsOften so_far.told.noted) (sym (all_by (flat_map notes_told) (flat_at its.one its.other its.like others notes_told (notes_alike its.one its.other its.like) (before_them ++ its.front))))
          reads.books.gave.notes_are;
    }

    placed : ArePlaced so_far.told new.lanes carriers so_far.queued got so_far.boxed
    placed = placed_by old.lanes new.lanes (parcels_same old.lanes new.lanes change) (notes_same old.lanes new.lanes change) so_far.told carriers so_far.queued got so_far.boxed reads.books.placed

    spans_are : spans_told new.lanes < 2 ^ 64 - 1 → spans_in (all_told later) ≡ spans_told new.lanes
    spans_are few =
        let told = spans_same old.lanes new.lanes change in
        let were = reads.books.spans (omega (arith, few, told)) in
        let of = all_by spans_in (spans_at its.one its.other its.like others (before_them ++ its.front)) in
        omega (arith, told, were, of)

    pub reads_still : ReadsStill so_far new
    reads_still = record {
      lanes = its.later;
      reads = record {
        files = record {
          opened = reads.files.opened;
          ruled = reads.files.ruled;
          keyed = reads.files.keyed;
          each_once = record { rise = reads.files.each_once.rise; are = subst (λ (l : List Slot). AsOften l (map (λ (one : Opened). one.begin.slot) so_far.opened)) (sym slots_same) reads.files.each_once.are };
          turned = its.stand;
          left = reads.files.left;
          earlier = reads.files.earlier;
          forgotten = reads.files.forgotten;
          reading = λ is. let were = reads.files.reading is in
              record { none_left = were.none_left; none_over = each_changed old.lanes new.lanes change (λ (h : Harvester T). h.reader.stage ≢ stage.Over) not_over were.none_over };
          finished = λ is some. each_file (λ (t : Turned). IsReadThrough t.history) (through_alike its.one its.other its.like) (reads.files.finished is some);
          over = over phase reads.files.over;
          read = λ yet some. let were = reads.files.read yet some in record {
            in_lanes = each_changed old.lanes new.lanes change (ReadsWhereNoFault words.tails.told words.tails.faults) reads_then were.in_lanes;
            in_left = subst (λ (f : FolderSeen). IfSome f.told (λ folder. AllByRecursion (IsLeftRead folder) so_far.left)) (sym same) were.in_left;
          };
          answered = λ may some. let were = reads.files.answered may some in
              record { in_lanes = each_changed old.lanes new.lanes change HasAnswered (subst MayReopenAt (sym stage_same)) were.in_lanes; in_left = were.in_left };
          following = λ follows. let were = reads.files.following follows in record {
            none_over = each_changed old.lanes new.lanes change (λ (h : Harvester T). h.reader.stage ≢ stage.Over) not_over were.none_over;
            may = were.may;
            in_lanes = λ some. each_changed old.lanes new.lanes change (HasAnsweredWhereNoFault words.tails.faults)
                (λ answered none. subst MayReopenAt (sym stage_same) (answered (sym (ap words.tails.faults tail_same) ∙ none))) (were.in_lanes some);
            in_left = λ some. subst (λ (f : FolderSeen). IfSome f.told (λ folder. AllByRecursion (IsLeftAnswered folder) so_far.left)) (sym same) (were.in_left some);
          };
          tell = λ some. each_changed old.lanes new.lanes change (λ (h : Harvester T). IsSome (words.tails.told h.tail)) (subst (λ (t : T). IsSome (words.tails.told t)) (sym tail_same)) (reads.files.tell some);
          left_tell = reads.files.left_tell;
          listed = reads.files.listed;
          scans = reads.files.scans;
          shown = shown;
          given = reads.files.given;
        };
        books = record {
          gave = gave;
          booked = booked_by old.lanes new.lanes (parcels_same old.lanes new.lanes change) (notes_same old.lanes new.lanes change) words.links words.wires so_far.told carriers
              (passes_same old.lanes new.lanes change) reads.books.booked;
          heard = reads.books.heard;
          placed = placed;
          backed = all_backed new.lanes carriers so_far.queued got so_far.boxed so_far.told (all_told later) gave placed;
          spans = spans_are;
        };
      };
    }
