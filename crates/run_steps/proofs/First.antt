-- What stands of a run as its first file is to be begun: nothing was told, put or noted, and the areas may hold what they held.
use Rattle.std.proofs.Common.{◌≡◌, ◌≢◌, ℕ, zero, suc, ◌-◌, ◌<◌, ◌^◌, min, List, [], ◌∷◌, ◌++◌, length, map, append-nil, append_assoc, Option, Some, None, IsSome, refl, sym, ap, subst, ◌∙◌, arith}
use Rattle.std.specs.Prelude.{count_by, slice_get}
use Rattle.std.specs.List.{AllByRecursion, flat_map}
use Rattle.accounts.specs.Opened.{Opened as OpenedFile}
use Rattle.accounts.proofs.Ordered.{none_orderly}
use Rattle.accounts.specs.Turned.{Turned, notes_told, parcels_told, spans_in}
use Rattle.accounts.specs.Turning.{IsTurnedSo, Pairs}
use Rattle.accounts.specs.Watch.{Watch}
use Rattle.batch_worker.specs.Held.{carried_in, notes_of, owed_by}
use Rattle.batch_worker.specs.Standing.{length_of}
use Rattle.batch_worker.specs.Working.{Working}
use Rattle.event_tree.specs.declared.output_rule.OutputRule.{OutputRule}
use Rattle.harvester.specs.declared.harvester.Harvester.{Harvester}
use Rattle.harvester.specs.declared.stage.Stage.TheVariants as stage
use Rattle.keeper.specs.Collecting.{is_dropped, is_shipped}
use Rattle.keeper.specs.Keeping.{Keeping, begun_with as keeper_begun_with}
use Rattle.lanes.specs.Giving.{notes_in, parcels_in}
use Rattle.lanes.specs.Laning.{Laning}
use Rattle.lanes.specs.declared.given.Given.{Given}
use Rattle.lanes.specs.declared.given.Given.TheVariants.{Nothing}
use Rattle.mem_queue.specs.Entries.{parcels}
use Rattle.outside.specs.Folders.{FolderHistory}
use Rattle.outside.specs.Folders.{Event, Opened}
use Rattle.outside.specs.Times.{GivesMoment}
use Rattle.rounds.specs.Books.{Acknowledges, AreBooked, ArePlaced, Heard, carried_by, flat, held_notes, held_parcels, owed_notes}
use Rattle.rounds.specs.Crewed.{carriers_passes, lanes_passes, lanings}
use Rattle.rounds.specs.Making.{IsBegunCarrier, IsBegunLane, KnowAll, StandsForNothing}
use Rattle.rounds.specs.Passes.{entries, senders}
use Rattle.rounds.specs.Pairs as round_pairs
use Rattle.rounds.specs.Settled.{spans_told}
use Rattle.rounds.specs.Words.{LinkWords, TailWords, WireWords, Words}
use Rattle.rounds.specs.declared.carrier.Carrier.{Carrier}
use Rattle.rounds.specs.declared.crew.Crew.{Crew}
use Rattle.settle_box.specs.Collector.{Collector}
use Rattle.settle_box.specs.Senders.{notes, posted_by}
use Rattle.settle_box.specs.declared.sender.Sent.{Sent}
use Rattle.settle_box.specs.declared.sender.Sender.{Sender}
use Rattle.registry_store.specs.Standing.{Standing}
use Rattle.ship_core.specs.Rows.{IsInOrder}
use Rattle.ship_core.proofs.Members.{none_there}
use Rattle.pass_sums.specs.Weight.{AsOften, weigh}
use Rattle.wire_base.specs.declared.note.Note.{Note}
use Rattle.run_steps.specs.Areas.{BeganAtRest, HaveHeldFronts}
use Rattle.run_steps.specs.Began.{Began}
use Rattle.run_steps.specs.ReadBehind.{ReadsWhereNoFault}
use Rattle.run_steps.specs.RunState.{Finished, Reading, RunState}
use Rattle.run_steps.specs.Shown.{HasShown}
use Rattle.run_steps.specs.SoFar.{SoFar, files_in, files_of}
use Rattle.run_steps.specs.LastEpoch.{HasAnswered}
use Rattle.run_steps.specs.Stands.{AreCounted, AreTurnedIn, HaveGiven, Stands, watch_of}
use Rattle.run_steps.proofs.AreRead.{none_left_read}
use Rattle.run_steps.proofs.Giving.{FirstGiven, first_given}
use Rattle.run_steps.proofs.EarlierOn.{none_earlier}
use Rattle.run_steps.proofs.Grounds.{all_backed}

posted_both : (xs ys : List Sender) → posted_by (xs ++ ys) ≡ posted_by xs ++ posted_by ys
posted_both [] ys = refl
posted_both (x ∷ xs) ys = ap (λ (l : List Note). x.posted ++ l) (posted_both xs ys) ∙ sym (append_assoc x.posted (posted_by xs) (posted_by ys))

pub got_within : (events : List Event) (k : ℕ) (event : Event) → slice_get events k ≡ Some event → k < length events
got_within [] k event is = absurd cc
got_within (e ∷ events) zero event is = omega arith
got_within (e ∷ events) (suc k) event is = let more = got_within events k event is in omega (arith, more)

-- ---- lanes and workers as they are made

-- none in each lane
abbrev none_in : {T : Type 0} → List (Laning T) → List (List Turned)
none_in lanes = map (λ _. []) lanes

abbrev heard_by : {W L : Type 0} → WireWords W → List (Carrier W L) → List Heard
heard_by {W} {L} wires carriers = map (λ (c : Carrier W L). record { start = length_of (wires.outcomes c.wire); parcels = [] }) carriers

module _ {T : Type 0} where
  abbrev HasNone : Laning T → Type 0
  HasNone lane = (lane.harvesters ≡ []) × (lane.held ≡ Nothing) × (lane.spans ≡ 0)

  has_none : (lanes : List (Laning T)) → AllByRecursion IsBegunLane lanes → AllByRecursion HasNone lanes
  has_none [] begun = tt
  has_none (lane ∷ lanes) begun = (
    (ap (λ (l : Laning T). l.harvesters) begun.0.is, ap (λ (l : Laning T). l.held) begun.0.is, ap (λ (l : Laning T). l.spans) begun.0.is),
    has_none lanes begun.1,
  )

  none_files : (lanes : List (Laning T)) → flat_map (λ (ts : List Turned). ts) (none_in lanes) ≡ []
  none_files [] = refl
  none_files (lane ∷ lanes) = none_files lanes

  no_parcels : (lanes : List (Laning T)) → AllByRecursion HasNone lanes → held_parcels lanes ≡ []
  no_parcels [] none = refl
  no_parcels (lane ∷ lanes) none = ap (λ (g : Given). parcels_in g ++ held_parcels lanes) none.0.1 ∙ no_parcels lanes none.1

  no_notes : (lanes : List (Laning T)) → AllByRecursion HasNone lanes → held_notes lanes ≡ []
  no_notes [] none = refl
  no_notes (lane ∷ lanes) none = ap (λ (g : Given). notes_in g ++ held_notes lanes) none.0.1 ∙ no_notes lanes none.1

  no_spans : (lanes : List (Laning T)) → AllByRecursion HasNone lanes → spans_told lanes ≡ 0
  no_spans [] none = refl
  no_spans (lane ∷ lanes) none = let rest = no_spans lanes none.1 in let here = none.0.2 in omega (arith, rest, here)

  turned_none : (tails : TailWords T) (watch : Watch) (opened : List OpenedFile) (moments : List ℕ) (lanes : List (Laning T)) → AllByRecursion HasNone lanes →
      Pairs (AreTurnedIn tails watch opened moments) (none_in lanes) lanes
  turned_none tails watch opened moments [] none = tt
  turned_none tails watch opened moments (lane ∷ lanes) none = (
    subst (λ (hs : List (Harvester T)). Pairs (IsTurnedSo tails.numbers tails.told watch opened moments) [] hs) (sym none.0.0) tt,
    turned_none tails watch opened moments lanes none.1,
  )

  each_of_none : (P : Harvester T → Type 0) (lanes : List (Laning T)) → AllByRecursion HasNone lanes → AllByRecursion (λ (lane : Laning T). AllByRecursion P lane.harvesters) lanes
  each_of_none P [] none = tt
  each_of_none P (lane ∷ lanes) none = (subst (AllByRecursion P) (sym none.0.0) tt, each_of_none P lanes none.1)

module _ {W L : Type 0} (links : LinkWords L) (wires : WireWords W) where
  none_heard : (carriers : List (Carrier W L)) → flat (heard_by wires carriers) ≡ []
  none_heard [] = refl
  none_heard (carrier ∷ carriers) = none_heard carriers

  each_heard : (carriers : List (Carrier W L)) → AllByRecursion (StandsForNothing links.told) carriers → round_pairs.Pairs (Acknowledges links wires) (heard_by wires carriers) carriers
  each_heard [] stands = tt
  each_heard (carrier ∷ carriers) stands = (stands.0 (wires.outcomes carrier.wire), each_heard carriers stands.1)

  starts_are : (carriers : List (Carrier W L)) → map (λ (h : Heard). h.start) (heard_by wires carriers) ≡ map (λ (c : Carrier W L). length_of (wires.outcomes c.wire)) carriers
  starts_are [] = refl
  starts_are (carrier ∷ carriers) = ap (λ (l : List ℕ). length_of (wires.outcomes carrier.wire) ∷ l) (starts_are carriers)

  none_carried : (rule : OutputRule) (carriers : List (Carrier W L)) → AllByRecursion (IsBegunCarrier rule) carriers → carried_by carriers ≡ []
  none_carried rule [] begun = refl
  none_carried rule (carrier ∷ carriers) begun = ap (λ (w : Working L). carried_in w.window ++ carried_by carriers) begun.0.is ∙ none_carried rule carriers begun.1

  none_owed : (rule : OutputRule) (carriers : List (Carrier W L)) → AllByRecursion (IsBegunCarrier rule) carriers → owed_notes carriers ≡ []
  none_owed rule [] begun = refl
  none_owed rule (carrier ∷ carriers) begun = ap (λ (w : Working L). owed_by w ++ owed_notes carriers) begun.0.is ∙ none_owed rule carriers begun.1

-- ---- what stands

module _ {T W L D : Type 0} (words : Words T W L D) (start : Began D) (crew : Crew T W L) (store : Standing) (pass : Collector) (a b : D) (later : Option (List ℕ)) (rule : OutputRule) where
  abbrev keeper : Keeping
  keeper = keeper_begun_with store pass

  abbrev state : RunState T W L D
  state = record { shown = start.shown; moments = later; crew = crew; keeper = keeper; a = a; b = b; phase = Reading }

  -- what the making of each gave
  pub record IsMade : Type 0 where
    pub lanes : AllByRecursion IsBegunLane (lanings crew.lanes.items)
    pub carriers : AllByRecursion (IsBegunCarrier rule) crew.carriers.items
    pub stand : AllByRecursion (StandsForNothing words.links.told) crew.carriers.items
    pub lanes_know : KnowAll [] [] (lanes_passes (lanings crew.lanes.items))
    pub carriers_know : KnowAll [] [] (carriers_passes crew.carriers.items)
    pub heard : start.heard ≡ map (λ (c : Carrier W L). length_of (words.wires.outcomes c.wire)) crew.carriers.items
    pub opening_is : store.rows ≡ start.opening
    pub in_order : IsInOrder store.rows
    pub none_got : pass.got ≡ []
    pub gives : GivesMoment start.moments start.moment later
    pub areas : BeganAtRest words.disks start → HaveHeldFronts words.disks start.opening [] start.a start.b a b

  module _ (made : IsMade) where
    pub given : FirstGiven start.moments later start.moment
    given = first_given start.moment start.moments later made.gives

    none : AllByRecursion HasNone (lanings crew.lanes.items)
    none = has_none (lanings crew.lanes.items) made.lanes

    abbrev pub so_far : SoFar
    so_far = record {
      moments = given.since;
      scans = [];
      opened = [];
      hidden = [];
      lanes = none_in (lanings crew.lanes.items);
      left = [];
      earlier = [];
      forgotten = [];
      told = record { issued = []; noted = []; acknowledged = heard_by words.wires crew.carriers.items };
      begun = [];
      collected = [];
      queued = [];
      boxed = [];
    }

    no_files : files_in so_far ≡ []
    no_files = append-nil (flat_map (λ (ts : List Turned). ts) so_far.lanes) ∙ none_files (lanings crew.lanes.items)

    nothing_heard : flat so_far.told.acknowledged ≡ []
    nothing_heard = none_heard words.links words.wires crew.carriers.items

    -- nothing is as often there as nothing
    nothing : {A : Type 0} (xs ys : List A) → xs ≡ [] → ys ≡ [] → AsOften xs ys
    nothing xs ys none also h = ap (weigh h) (none ∙ sym also)

    two_none : {A : Type 0} (xs ys : List A) → xs ≡ [] → ys ≡ [] → xs ++ ys ≡ []
    two_none xs ys none also = ap (λ l. l ++ ys) none ∙ also

    no_held : held_parcels (lanings crew.lanes.items) ≡ []
    no_held = no_parcels (lanings crew.lanes.items) none

    no_held_notes : held_notes (lanings crew.lanes.items) ≡ []
    no_held_notes = no_notes (lanings crew.lanes.items) none

    no_carried : carried_by crew.carriers.items ≡ []
    no_carried = none_carried words.links words.wires rule crew.carriers.items made.carriers

    no_owed : owed_notes crew.carriers.items ≡ []
    no_owed = none_owed words.links words.wires rule crew.carriers.items made.carriers

    booked : AreBooked words.links words.wires so_far.told (lanings crew.lanes.items) crew.carriers.items
    booked = record {
      put = nothing [] (parcels (entries (lanes_passes (lanings crew.lanes.items))) ++ held_parcels (lanings crew.lanes.items)) refl
          (two_none (parcels (entries (lanes_passes (lanings crew.lanes.items)))) (held_parcels (lanings crew.lanes.items)) (ap parcels made.lanes_know.entries_are) no_held);
      taken = nothing (parcels (entries (carriers_passes crew.carriers.items))) (flat so_far.told.acknowledged ++ carried_by crew.carriers.items) (ap parcels made.carriers_know.entries_are)
          (two_none (flat so_far.told.acknowledged) (carried_by crew.carriers.items) nothing_heard no_carried);
      posted = nothing (notes_of (flat so_far.told.acknowledged))
          (posted_by (senders (lanes_passes (lanings crew.lanes.items)) ++ senders (carriers_passes crew.carriers.items)) ++ (held_notes (lanings crew.lanes.items) ++ owed_notes crew.carriers.items))
          (ap notes_of nothing_heard)
          (two_none (posted_by (senders (lanes_passes (lanings crew.lanes.items)) ++ senders (carriers_passes crew.carriers.items))) (held_notes (lanings crew.lanes.items) ++ owed_notes crew.carriers.items)
          (posted_both (senders (lanes_passes (lanings crew.lanes.items))) (senders (carriers_passes crew.carriers.items))
          ∙ two_none (posted_by (senders (lanes_passes (lanings crew.lanes.items)))) (posted_by (senders (carriers_passes crew.carriers.items))) made.lanes_know.notes_are made.carriers_know.notes_are)
          (two_none (held_notes (lanings crew.lanes.items)) (owed_notes crew.carriers.items) no_held_notes no_owed));
      acknowledged = each_heard words.links words.wires crew.carriers.items made.stand;
    }

    placed : ArePlaced so_far.told (lanings crew.lanes.items) crew.carriers.items [] (notes pass.got) []
    placed = record {
      parcels = nothing [] (held_parcels (lanings crew.lanes.items) ++ (carried_by crew.carriers.items ++ flat so_far.told.acknowledged)) refl
          (two_none (held_parcels (lanings crew.lanes.items)) (carried_by crew.carriers.items ++ flat so_far.told.acknowledged) no_held
          (two_none (carried_by crew.carriers.items) (flat so_far.told.acknowledged) no_carried nothing_heard));
      notes = nothing (notes_of (flat so_far.told.acknowledged)) (notes pass.got ++ (held_notes (lanings crew.lanes.items) ++ owed_notes crew.carriers.items)) (ap notes_of nothing_heard)
          (two_none (notes pass.got) (held_notes (lanings crew.lanes.items) ++ owed_notes crew.carriers.items) (ap notes made.none_got)
          (two_none (held_notes (lanings crew.lanes.items)) (owed_notes crew.carriers.items) no_held_notes no_owed));
    }

    gave : HaveGiven so_far.told (files_in so_far)
    gave = record {
      parcels = subst (λ (l : List Turned). AsOften [] (flat_map parcels_told l)) (sym no_files) (λ h. refl);
      notes_are = subst (λ (l : List Turned). AsOften [] (flat_map notes_told l)) (sym no_files) (λ h. refl);
    }

    spans_are : spans_told (lanings crew.lanes.items) < 2 ^ 64 - 1 → spans_in (files_in so_far) ≡ spans_told (lanings crew.lanes.items)
    spans_are few = ap spans_in no_files ∙ sym (no_spans (lanings crew.lanes.items) none)

    counted : AreCounted keeper
    counted = record {
      shipped = ap (λ (got : List Sent). min (count_by is_shipped (notes got)) (2 ^ 64 - 1)) (sym made.none_got);
      dropped = ap (λ (got : List Sent). min (count_by is_dropped (notes got)) (2 ^ 64 - 1)) (sym made.none_got);
      collected = ap (λ (got : List Sent). min (length got) (2 ^ 64 - 1)) (sym made.none_got);
    }

    has_shown : HasShown start.settings start.shown start.shown (files_of so_far)
    has_shown = by_case start.shown
      where
        by_case : (o : Option FolderHistory) → HasShown start.settings o o (files_of so_far)
        by_case None = refl
        by_case (Some told) = record {
          files = refl;
          more = [];
          events = sym (append-nil told.events);
          scans = record { files = refl; more = []; events = sym (append-nil told.events); no_listing = tt };
          opened = tt;
          apart = tt;
          serve = λ opening path number begun since is. absurd (let within = got_within told.events opening (Opened path number begun) is in omega (arith, since, within));
          closed = tt;
          closed_before = tt;
          still_open = λ one among turned. absurd (none_there one among);
        }

    pub stands_first : Stands words start state so_far
    stands_first = record {
      files = record {
        opened = tt;
        ruled = tt;
        keyed = λ some. tt;
        each_once = record { rise = tt; are = subst (λ (l : List Turned). AsOften (map (λ (t : Turned). t.slot) l) []) (sym no_files) (λ h. refl) };
        turned = turned_none words.tails (watch_of start []) [] given.since (lanings crew.lanes.items) none;
        left = tt;
        earlier = none_earlier (watch_of start []) start.shown [] given.since;
        forgotten = tt;
        reading = λ is. record { none_left = refl; none_over = each_of_none (λ (h : Harvester T). h.reader.stage ≢ stage.Over) (lanings crew.lanes.items) none };
        finished = λ is some. absurd (let no : Reading ≡ Finished = is in cc);
        over = tt;
        read = λ yet some. record {
          in_lanes = each_of_none (ReadsWhereNoFault words.tails.told words.tails.faults) (lanings crew.lanes.items) none;
          in_left = none_left_read start.shown [] refl;
        };
        answered = λ may some. record { in_lanes = each_of_none HasAnswered (lanings crew.lanes.items) none; in_left = tt };
        following = λ follows. absurd follows;
        tell = λ some. each_of_none (λ (h : Harvester T). IsSome (words.tails.told h.tail)) (lanings crew.lanes.items) none;
        left_tell = λ some. tt;
        listed = λ some. tt;
        scans = record { none_with_once = λ once. refl; timed = given.given.among; known = λ some. tt };
        shown = has_shown;
        given = given.given;
      };
      books = record {
        gave = gave;
        booked = booked;
        heard = starts_are words.links words.wires crew.carriers.items ∙ sym made.heard;
        placed = placed;
        backed = all_backed (lanings crew.lanes.items) crew.carriers.items [] (notes pass.got) [] so_far.told (files_in so_far) gave placed;
        spans = spans_are;
      };
      notes = record {
        counted = counted;
        begun = record { each = tt; begun = tt; hidden_begun = tt };
        hidden = record { ordered = subst IsInOrder made.opening_is made.in_order; count = 0; are = refl };
        noted = record { opening_is = made.opening_is; mixed = record { often = λ h. refl; orderly = none_orderly }; got = ap notes made.none_got };
        stores = λ orderly opened. record { in_order = made.in_order; each = λ key. refl };
      };
      areas = made.areas;
    }
