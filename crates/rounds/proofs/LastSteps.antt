-- What settling keeps, from its steps.
use Rattle.std.specs.Bool.{OnFalse, OnTrue}
use Rattle.std.specs.List.{AllByRecursion}
use Rattle.std.proofs.Common.{◌≡◌, ◌⊎◌, ℕ, suc, ◌-◌, ◌^◌, ◌≤◌, min, All, Bool, true, false, List, [], ◌∷◌, ◌++◌, Option, Some, None, length, inl, inr, refl, sym, ap, subst, ◌∙◌, append-nil, arith}
use Rattle.std.proofs.lemmas.List.{length-append}
use Rattle.atomic_table.specs.Seated.{TableId}
use Rattle.batch_worker.specs.Held.{owed_by}
use Rattle.batch_worker.specs.Keeping.{Keeps, SameMoments, WorkerGoes, with_posted}
use Rattle.batch_worker.specs.Seen.{Seen}
use Rattle.batch_worker.specs.Standing.{StandsFor}
use Rattle.batch_worker.specs.Steps.{FoundFull, PostsOf}
use Rattle.keeper.specs.Collecting.{Collects}
use Rattle.keeper.specs.Keeping.{Keeping}
use Rattle.keeper.specs.Storing.{IsStoredInFull, Stores}
use Rattle.lanes.specs.Giving.{IsInRange, notes_in, parcels_in}
use Rattle.lanes.specs.Handing.{after_posting, posting, with_put}
use Rattle.lanes.specs.Keeping.{LaneKeeps}
use Rattle.lanes.specs.Laning.{Laning}
use Rattle.lanes.specs.Turned.{IsKnown}
use Rattle.lanes.specs.declared.given.Given.{Given}
use Rattle.lanes.specs.declared.given.Given.TheVariants as given
use Rattle.harvester.specs.declared.harvester.Harvester.{Harvester}
use Rattle.mem_queue.specs.BoundedQueue.{BoundedQueue}
use Rattle.mem_queue.specs.Known.{Known, known}
use Rattle.mem_queue.specs.declared.entry.Entry.{Entry}
use Rattle.outside.specs.Counts.{Rose, added_counts}
use Rattle.pass_sums.specs.Share.{IsWhole}
use Rattle.settle_box.specs.BoundedBox.{BoundedBox}
use Rattle.settle_box.specs.Poster.{Poster, poster}
use Rattle.settle_box.specs.Senders.{notes, posted_by, posts_of, sender}
use Rattle.settle_box.specs.declared.sender.Sender.{Sender}
use Rattle.ship_core.specs.Orderly.{AreOrderly}
use Rattle.wire_base.specs.declared.note.Note.{Note}
use Rattle.rounds.specs.Books.{Acknowledges, AreBooked, ArePlaced, Heard, Told, told_on}
use Rattle.rounds.specs.CarrierTurns.{seen_of}
use Rattle.rounds.specs.Causes.{SettlingCauses, WireFaultsStay}
use Rattle.rounds.specs.Crewed.{bare_lanes, carriers_passes, lane_passes, lanes_passes, lanings}
use Rattle.rounds.specs.Crewing.{Crewing, crew_of}
use Rattle.rounds.specs.Images.{AreAtRest, ImagesAreFronts}
use Rattle.rounds.specs.KeeperTurns.{SameObjects, StillTell, storing_state}
use Rattle.rounds.specs.Pairs.{Pairs}
use Rattle.rounds.specs.Passes.{AreAllOf, AreOf, IsOfQueue, post_share_in, post_shares, senders, share_in, shares}
use Rattle.rounds.specs.Placed.{GoesOn}
use Rattle.rounds.specs.Rounds.{CanMeet, IsAble, IsReady, MeetsIn}
use Rattle.rounds.specs.Running.{IsLaneReady, StoringHasRun}
use Rattle.rounds.specs.Settled.{AreSettledIn}
use Rattle.rounds.specs.Settling.{ArePostsCounted, CanHandOn, CarrierHandedOn, HaveHandedOn, IsPlacedOnceSettled, KeepsFiles, LaneHandedOn, Settles, SettlingKeeps}
use Rattle.rounds.specs.Words.{DiskWords, LinkWords, TailWords, WireWords, Words}
use Rattle.rounds.specs.declared.answer.Round.{Round}
use Rattle.rounds.specs.declared.carrier.Carrier.{Carrier}
use Rattle.rounds.specs.declared.crew.Crew.{Crew}
use Rattle.rounds.specs.declared.crew.Pace.{Pace}
use Rattle.rounds.specs.declared.storing.Stored.{Stored}
use Rattle.rounds.specs.declared.storing.Storing.{Storing}
use Rattle.rounds.proofs.Causes.{a_faults_ran, b_faults_ran, faults_met, rose_ran}
use Rattle.rounds.proofs.Having.{post_of, post_share, some_still, take_of, take_share}
use Rattle.rounds.proofs.Images.{images_are_fronts, kept_still}
use Rattle.rounds.proofs.KeeperSteps.{pass_stays}
use Rattle.rounds.proofs.Kept.{collects_ran, in_full_ran, stores_ran, tells_ran}
use Rattle.rounds.proofs.Placing.{booked_met, placed_met}
use Rattle.rounds.proofs.Ready.{IsBareReady, from_bare, mapped_some, opened_ran, some_as, some_mapped, to_bare, with_passes}
use Rattle.rounds.proofs.Slices.{paired_many}
use Rattle.rounds.proofs.Staying.{begins_settled, crew_as_many}
use Rattle.rounds.proofs.Sums.{CarrierKeeps, CarriersKept, LanesKept, booked_on, carrier_kept, heard_more, lane_kept, none_carried, none_kept}

none_put : (put : Option Known) → put ≡ with_put put []
none_put None = refl
none_put (Some k) = ap (λ (entries : List Entry). Some (known k.queue k.share entries)) (sym (append-nil k.entries))

none_posted : (post : Option Poster) → post ≡ with_posted post []
none_posted None = refl
none_posted (Some p) = ap (λ (ns : List Note). Some (poster p.desk p.share (sender p.mine.name p.mine.made ns) p.joined)) (sym (append-nil p.mine.posted))

none_added : (count : ℕ) → count ≡ added_counts count 0
none_added count = omega arith

-- ---- a lane, from what its call answered

module _ {T : Type 0} (box : ℕ) where
  -- nothing was posted
  as_before : (old new : Laning T) → new ≡ old → (notes_in new.held ≡ []) ⊎ FoundFull box new.post → LaneHandedOn box old new
  as_before old new same left = record {
    posted = [];
    notes_are = ap (λ (l : Laning T). notes_in l.held) (sym same);
    parcels_are = ap (λ (l : Laning T). parcels_in l.held) same;
    is = subst (λ (l : Laning T). l ≡ record old { post = with_posted old.post []; held = l.held }) (sym same) (ap (λ (p : Option Poster). record old { post = p }) (none_posted old.post));
    in_range = λ range. subst (λ (l : Laning T). IsInRange l.held) (sym same) range;
    left = left;
  }

  posted_on : (held : Given) (old new : Laning T) → old.held ≡ held → new ≡ posting held old → LaneHandedOn box old new
  posted_on (given.Parcel parcel) old new was is = as_before old new is (inl (ap (λ (l : Laning T). notes_in l.held) is ∙ ap notes_in was))
  posted_on given.Nothing old new was is = as_before old new is (inl (ap (λ (l : Laning T). notes_in l.held) is ∙ ap notes_in was))
  posted_on (given.Note note) old new was is =
      let gone : new.held ≡ given.Nothing = ap (λ (l : Laning T). l.held) is in
      record {
        posted = note ∷ [];
        notes_are = ap notes_in was ∙ ap (λ (g : Given). (note ∷ []) ++ notes_in g) (sym gone);
        parcels_are = ap parcels_in gone ∙ sym (ap parcels_in was);
        is = is ∙ ap (λ (g : Given). record old { post = with_posted old.post (note ∷ []); held = g }) (sym gone);
        in_range = λ range. subst IsInRange (sym gone) tt;
        left = inl (ap notes_in gone);
      }

  pub lane_handed : (through : Bool) (old new : Laning T) → OnTrue through (new ≡ after_posting old) → OnFalse through (new ≡ old) → OnFalse through (FoundFull box new.post) → LaneHandedOn box old new
  lane_handed true old new posted kept full = posted_on old.held old new refl posted
  lane_handed false old new posted kept full = as_before old new kept (inr full)

-- ---- lanes

module _ {T : Type 0} (tails : TailWords T) (box : ℕ) where
  -- it kept what a run of no turns keeps
  abbrev keeps : (x y : Laning T) → LaneHandedOn box x y → LaneKeeps tails.numbers tails.told tails.faults x y
  keeps x y h = record {
    steps = [];
    entries = [];
    posted = h.posted;
    put = ap (λ (l : Laning T). l.put) h.is ∙ none_put x.put;
    post = ap (λ (l : Laning T). l.post) h.is;
    parcels_are = append-nil (parcels_in x.held) ∙ sym h.parcels_are;
    notes_are = append-nil (notes_in x.held) ∙ h.notes_are;
    ran = ap (λ (l : Laning T). l.harvesters) h.is;
    spans = ap (λ (l : Laning T). l.spans) h.is ∙ none_added x.spans;
    in_range = h.in_range;
    known = λ all. subst (λ (hs : List (Harvester T)). All (IsKnown tails.numbers tails.told) hs) (sym (ap (λ (l : Laning T). l.harvesters) h.is)) all;
  }

  lane_has : (queue desk : TableId) (x y : Laning T) → LaneHandedOn box x y → AreOf queue desk (lane_passes x) → AreOf queue desk (lane_passes y)
  lane_has queue desk x y h of = record {
    moves = subst (IsOfQueue queue) (sym (ap (λ (l : Laning T). l.put) h.is)) of.moves;
    post = subst (PostsOf desk) (sym (ap (λ (l : Laning T). l.post) h.is)) (post_of desk x.post h.posted of.post);
  }

  -- what all of them keep
  pub record LanesSettled (queue desk : TableId) (xs ys : List (Laning T)) : Type 0 where
    pub have : AreAllOf queue desk (lanes_passes ys)
    pub put_shares : shares (lanes_passes ys) ≡ shares (lanes_passes xs)
    pub posts_shares : post_shares (lanes_passes ys) ≡ post_shares (lanes_passes xs)
    pub kept : LanesKept [] xs ys
    pub files : Pairs KeepsFiles xs (bare_lanes ys)
    pub ready : All (IsLaneReady tails queue desk) xs → AllByRecursion (IsBareReady tails) ys

  lanes_settled : (queue desk : TableId) (xs ys : List (Laning T)) → Pairs (LaneHandedOn box) xs ys → AreAllOf queue desk (lanes_passes xs) → LanesSettled queue desk xs ys
  lanes_settled queue desk [] [] handed of = record { have = tt; put_shares = refl; posts_shares = refl; kept = none_kept; files = tt; ready = λ all. tt }
  lanes_settled queue desk [] (y ∷ ys) handed of = absurd handed
  lanes_settled queue desk (x ∷ xs) [] handed of = absurd handed
  lanes_settled queue desk (x ∷ xs) (y ∷ ys) handed of =
      let h = handed.0 in
      let rest = lanes_settled queue desk xs ys handed.1 of.1 in
      let harvesters = ap (λ (l : Laning T). l.harvesters) h.is in
      record {
        have = (lane_has queue desk x y h of.0, rest.have);
        put_shares = ap (λ (l : List ℕ). l ++ shares (lanes_passes ys)) (ap (λ (l : Laning T). share_in l.put) h.is) ∙ ap (λ (l : List ℕ). share_in x.put ++ l) rest.put_shares;
        posts_shares = ap (λ (l : List ℕ). l ++ post_shares (lanes_passes ys)) (ap (λ (l : Laning T). post_share_in l.post) h.is ∙ post_share x.post h.posted) ∙ ap (λ (l : List ℕ). post_share_in x.post ++ l) rest.posts_shares;
        kept = lane_kept queue desk tails x y xs ys [] of.0 (keeps x y h) rest.kept;
        files = (record { harvesters = harvesters; parcels = h.parcels_are; spans = ap (λ (l : Laning T). l.spans) h.is; tally = ap (λ (l : Laning T). l.tally) h.is }, rest.files);
        ready = λ all. ((h.in_range (all 0 x (omega arith)).in_range, subst (λ (hs : List (Harvester T)). All (IsKnown tails.numbers tails.told) hs) (sym harvesters) (all 0 x (omega arith)).known), rest.ready (λ i d within. all (suc i) d (omega (arith, within))));
      }

  -- whatever its passes are
  from_bare_files : (xs ys : List (Laning T)) → Pairs KeepsFiles xs (bare_lanes ys) → Pairs KeepsFiles xs ys
  from_bare_files [] [] files = tt
  from_bare_files [] (y ∷ ys) files = absurd files
  from_bare_files (x ∷ xs) [] files = absurd files
  from_bare_files (x ∷ xs) (y ∷ ys) files = (record { harvesters = files.0.harvesters; parcels = files.0.parcels; spans = files.0.spans; tally = files.0.tally }, from_bare_files xs ys files.1)

  pub can_hand_on : (queue desk : TableId) (lanes : List (Laning T)) → All (IsLaneReady tails queue desk) lanes → AllByRecursion (CanHandOn desk) lanes
  can_hand_on queue desk [] ready = tt
  can_hand_on queue desk (l ∷ ls) ready =
      (record { post = (ready 0 l (omega arith)).passes.post; in_range = (ready 0 l (omega arith)).in_range }, can_hand_on queue desk ls (λ i d within. ready (suc i) d (omega (arith, within))))

-- ---- workers

module _ {W L : Type 0} (links : LinkWords L) where
  pub carrier_handed : (box : ℕ) (old new : Carrier W L) (through : Bool) → ((seen : Seen) → WorkerGoes links.told seen seen old.worker new.worker) → SameMoments old.worker new.worker → new.worker.failures ≡ old.worker.failures → new ≡ record old { worker = new.worker }
      → (through ≡ true → owed_by new.worker ≡ []) → OnFalse through (FoundFull box new.worker.post) → CarrierHandedOn links box old new
  carrier_handed box old new true goes moments failures others all full = record { goes = goes; moments = moments; failures = failures; others = others; left = inl (all refl) }
  carrier_handed box old new false goes moments failures others all full = record { goes = goes; moments = moments; failures = failures; others = others; left = inr full }

  module _ (wires : WireWords W) (box : ℕ) where
    worker_keeps : (x y : Carrier W L) → CarrierHandedOn links box x y → CarrierKeeps links wires x y
    worker_keeps x y h =
        subst (λ (w : W). Keeps (λ start. StandsFor links.told start x.worker (wires.outcomes x.wire)) (λ start. StandsFor links.told start y.worker (wires.outcomes w)) (seen_of wires x.wire) (seen_of wires w) x.worker y.worker)
        (sym (ap (λ (c : Carrier W L). c.wire) h.others)) (h.goes (seen_of wires x.wire)).keeps

    pub record CarriersSettled (queue desk : TableId) (before : List Heard) (xs ys : List (Carrier W L)) : Type 0 where
      pub after : List Heard
      pub more : Pairs GoesOn before after
      pub kept : CarriersKept links wires before after xs ys

    carriers_settled : (queue desk : TableId) (before : List Heard) (xs ys : List (Carrier W L)) → Pairs (CarrierHandedOn links box) xs ys → AreAllOf queue desk (carriers_passes xs) → Pairs (Acknowledges links wires) before xs → CarriersSettled queue desk before xs ys
    carriers_settled queue desk [] [] [] handed of stand = record { after = []; more = tt; kept = none_carried links wires }
    carriers_settled queue desk (a ∷ others) [] ys handed of stand = absurd stand
    carriers_settled queue desk [] (x ∷ xs) ys handed of stand = absurd stand
    carriers_settled queue desk [] [] (y ∷ ys) handed of stand = absurd handed
    carriers_settled queue desk (a ∷ others) (x ∷ xs) [] handed of stand = absurd handed
    carriers_settled queue desk (a ∷ others) (x ∷ xs) (y ∷ ys) handed of stand =
        let rest = carriers_settled queue desk others xs ys handed.1 of.1 stand.1 in
        let k = worker_keeps x y handed.0 in
        record {
          after = heard_more a k.acknowledged ∷ rest.after;
          more = (record { more = k.acknowledged; start = refl; is = refl }, rest.more);
          kept = carrier_kept links wires queue desk x y xs ys a others rest.after of.0 k stand.0 rest.kept;
        }

    -- no wire is touched
    wires_handed : (xs ys : List (Carrier W L)) → Pairs (CarrierHandedOn links box) xs ys → Pairs (WireFaultsStay wires) xs ys
    wires_handed [] [] handed = tt
    wires_handed [] (y ∷ ys) handed = absurd handed
    wires_handed (x ∷ xs) [] handed = absurd handed
    wires_handed (x ∷ xs) (y ∷ ys) handed =
        (subst (λ (w : W). wires.faults x.wire ≤ wires.faults w) (sym (ap (λ (c : Carrier W L). c.wire) handed.0.others)) (omega arith), wires_handed xs ys handed.1)

    pub record CarriersHave (queue desk : TableId) (xs ys : List (Carrier W L)) : Type 0 where
      pub have : AreAllOf queue desk (carriers_passes ys)
      pub take_shares : shares (carriers_passes ys) ≡ shares (carriers_passes xs)
      pub posts_shares : post_shares (carriers_passes ys) ≡ post_shares (carriers_passes xs)

    carriers_have : (queue desk : TableId) (xs ys : List (Carrier W L)) → Pairs (CarrierHandedOn links box) xs ys → AreAllOf queue desk (carriers_passes xs) → CarriersHave queue desk xs ys
    carriers_have queue desk [] [] handed of = record { have = tt; take_shares = refl; posts_shares = refl }
    carriers_have queue desk [] (y ∷ ys) handed of = absurd handed
    carriers_have queue desk (x ∷ xs) [] handed of = absurd handed
    carriers_have queue desk (x ∷ xs) (y ∷ ys) handed of =
        let rest = carriers_have queue desk xs ys handed.1 of.1 in
        let k = worker_keeps x y handed.0 in
        record {
          have = (
            record {
              moves = subst (IsOfQueue queue) (sym k.take) (take_of queue x.worker.take k.taken of.0.moves);
              post = subst (PostsOf desk) (sym k.post) (post_of desk x.worker.post k.posted of.0.post);
            },
            rest.have,
          );
          take_shares = ap (λ (l : List ℕ). l ++ shares (carriers_passes ys)) (ap share_in k.take ∙ take_share x.worker.take k.taken) ∙ ap (λ (l : List ℕ). share_in x.worker.take ++ l) rest.take_shares;
          posts_shares = ap (λ (l : List ℕ). l ++ post_shares (carriers_passes ys)) (ap post_share_in k.post ∙ post_share x.worker.post k.posted) ∙ ap (λ (l : List ℕ). post_share_in x.worker.post ++ l) rest.posts_shares;
        }

-- ---- how many were posted

posts_many : (all : List Sender) → posts_of all ≡ length (posted_by all)
posts_many [] = refl
posts_many (s ∷ ss) = omega (arith, posts_many ss, length-append s.posted (posted_by ss))

pub posts_counted : {T W L D : Type 0} (queue desk : TableId) (mid new : Crewing T W L D) → MeetsIn queue desk mid new → ArePostsCounted (crew_of new)
posts_counted queue desk mid new meets =
    let before = senders (lanes_passes (lanings mid.lanes.items)) ++ senders (carriers_passes mid.carriers.items) in
    let after = senders (lanes_passes (lanings new.lanes.items)) ++ senders (carriers_passes new.carriers.items) in
    let same : posts_of before ≡ posts_of after = posts_many before ∙ ap length (sym meets.met.posted) ∙ sym (posts_many after) in
    meets.posted ∙ ap (λ (n : ℕ). min n (2 ^ 64 - 1)) same

-- if all is settled, all that were posted were collected
pub posts_collected : {T W L : Type 0} (crew : Crew T W L) (keeper : Keeping) → ArePostsCounted crew → AreSettledIn crew keeper
    → posts_of (senders (lanes_passes (lanings crew.lanes.items)) ++ senders (carriers_passes crew.carriers.items)) ≡ keeper.collected
posts_collected crew keeper counted settled = omega (arith, counted, settled.collected.below, settled.collected.collected)

-- ---- all

-- whatever is known of the box
pub handed_then : {T W L : Type 0} (links : LinkWords L) (box : ℕ) (old mid : Crew T W L) (pace : Pace) → HaveHandedOn links box old mid → HaveHandedOn links box old (record mid { pace = pace })
handed_then links box old mid pace handed = record { lanes = handed.lanes; carriers = handed.carriers }

pass_ran : {D : Type 0} (disks : DiskWords D) (old new : Storing D) → StoringHasRun disks old new → new.keeper.now.pass.desk ≡ old.keeper.now.pass.desk
unfolding StoringHasRun
pass_ran disks old new ran = pass_stays disks ran.turns (storing_state old) (storing_state new) ran.ran

same_ran : {D : Type 0} (disks : DiskWords D) (old new : Storing D) → StoringHasRun disks old new → SameObjects old new
unfolding StoringHasRun
same_ran disks old new ran = ran.same_objects

module _ {T W L D : Type 0} (words : Words T W L D) (queue : BoundedQueue) (desk : BoundedBox) where
  pub can_meet_settled : (old mid : Crewing T W L D) → HaveHandedOn words.links desk.capacity (crew_of old) (crew_of mid) → StoringHasRun words.disks old.storing mid.storing → IsReady words.tails queue.id desk.id old → CanMeet queue.id desk.id mid
  can_meet_settled old mid handed ran ready =
      let lanes = lanes_settled words.tails desk.capacity queue.id desk.id (lanings old.lanes.items) (lanings mid.lanes.items) handed.lanes ready.able.have.lanes_have in
      let carriers = carriers_have words.links words.wires desk.capacity queue.id desk.id old.carriers.items mid.carriers.items handed.carriers ready.able.have.carriers_have in
      record {
        some_lanes = some_mapped _ mid.lanes.items (some_still (LaneHandedOn desk.capacity) (lanings old.lanes.items) (lanings mid.lanes.items) handed.lanes (mapped_some _ old.lanes.items ready.able.some_lanes));
        some_carriers = some_still _ old.carriers.items mid.carriers.items handed.carriers ready.able.some_carriers;
        have = record {
          lanes_have = lanes.have;
          carriers_have = carriers.have;
          puts = subst IsWhole (sym lanes.put_shares) ready.able.have.puts;
          takes = subst IsWhole (sym carriers.take_shares) ready.able.have.takes;
          posts = subst IsWhole (sym (ap (λ (l : List ℕ). l ++ post_shares (carriers_passes mid.carriers.items)) lanes.posts_shares ∙ ap (λ (l : List ℕ). post_shares (lanes_passes (lanings old.lanes.items)) ++ l) carriers.posts_shares)) ready.able.have.posts;
        };
        pass = pass_ran words.disks old.storing mid.storing ran ∙ ready.able.pass;
      }

  module _ (old new : Crewing T W L D) (round : Round) (settles : Settles words queue desk old new round) (ready : IsReady words.tails queue.id desk.id old) where
    abbrev mid : Crewing T W L D
    mid = settles.mid

    lanes_are : LanesSettled words.tails desk.capacity queue.id desk.id (lanings old.lanes.items) (lanings mid.lanes.items)
    lanes_are = lanes_settled words.tails desk.capacity queue.id desk.id (lanings old.lanes.items) (lanings mid.lanes.items) settles.handed.lanes ready.able.have.lanes_have

    stored_is : (f : Stored → Bool) → f new.storing.stored ≡ f mid.storing.stored
    stored_is f = ap (λ (s : Storing D). f s.stored) settles.meets.storing

    disk_is : round.disk ≡ false → mid.storing.stored.disk ≡ false
    disk_is is = sym (stored_is (λ (s : Stored). s.disk)) ∙ sym (ap (λ (r : Round). r.disk) settles.answer) ∙ is

    memory_is : round.memory ≡ false → mid.storing.stored.memory ≡ false
    memory_is is = sym (stored_is (λ (s : Stored). s.memory)) ∙ sym (ap (λ (r : Round). r.memory) settles.answer) ∙ is

    able_again : IsAble words.tails queue.id desk.id new
    able_again =
        let met = settles.meets.met in
        let lanes_some = some_still (LaneHandedOn desk.capacity) (lanings old.lanes.items) (lanings mid.lanes.items) settles.handed.lanes (mapped_some _ old.lanes.items ready.able.some_lanes) in
        let carriers_some = some_still _ old.carriers.items mid.carriers.items settles.handed.carriers ready.able.some_carriers in
        record {
          some_lanes = some_mapped _ new.lanes.items (some_as _ (lanings mid.lanes.items) (lanings new.lanes.items) met.lanes_same lanes_some);
          some_carriers = some_as _ mid.carriers.items new.carriers.items met.carriers_same carriers_some;
          have = met.have;
          lanes = with_passes words.tails queue.id desk.id (lanings new.lanes.items)
              (from_bare words.tails (lanings new.lanes.items) (subst (λ (ls : List (Laning T)). AllByRecursion (IsBareReady words.tails) ls) (sym met.lanes_same)
              (to_bare words.tails (lanings mid.lanes.items) (lanes_are.ready ready.able.lanes))))
              met.have.lanes_have;
          pass = ap (λ (s : Storing D). s.keeper.now.pass.desk) settles.meets.storing ∙ pass_ran words.disks old.storing mid.storing settles.storing ∙ ready.able.pass;
        }

    ready_again : round.memory ≡ false → round.disk ≡ false → IsReady words.tails queue.id desk.id new
    ready_again memory disk = record {
      able = able_again;
      is_open = ap (λ (s : Storing D). s.keeper.now.store.closed) settles.meets.storing ∙ opened_ran words.disks old.storing mid.storing settles.storing (disk_is disk) (memory_is memory) ready.is_open;
    }

    placed_once : (told : Told) → AreBooked words.links words.wires told (lanings old.lanes.items) old.carriers.items → IsPlacedOnceSettled words told new
    placed_once told booked =
        let met = settles.meets.met in
        let got = mid.storing.keeper.now.pass.got in
        let carriers = carriers_settled words.links words.wires desk.capacity queue.id desk.id told.acknowledged old.carriers.items mid.carriers.items settles.handed.carriers ready.able.have.carriers_have booked.acknowledged in
        let later = told_on told [] carriers.after in
        let booked_then = booked_on words.links words.wires told [] carriers.after (lanings old.lanes.items) (lanings mid.lanes.items) old.carriers.items mid.carriers.items lanes_are.kept carriers.kept booked in
        record {
          acknowledged = carriers.after;
          acknowledged_more = carriers.more;
          booked = booked_met words.links words.wires queue.id desk.id got later (lanings mid.lanes.items) (lanings new.lanes.items) mid.carriers.items new.carriers.items met booked_then;
          queued = met.queued;
          boxed = notes met.boxed;
          placed = subst (λ (s : Storing D). ArePlaced later (lanings new.lanes.items) new.carriers.items met.queued (notes s.keeper.now.pass.got) (notes met.boxed)) (sym settles.meets.storing)
              (placed_met words.links words.wires queue.id desk.id got later (lanings mid.lanes.items) (lanings new.lanes.items) mid.carriers.items new.carriers.items met booked_then);
        }

    images_are : AreAtRest words.disks old.storing → AreOrderly new.storing.keeper.now.tracked.notes → ImagesAreFronts words.disks old.storing new.storing
    unfolding StoringHasRun
    images_are kept orderly =
        subst (λ (s : Storing D). ImagesAreFronts words.disks old.storing s) (sym settles.meets.storing)
        (images_are_fronts words.disks old.storing mid.storing settles.storing kept (subst (λ (s : Storing D). AreOrderly s.keeper.now.tracked.notes) settles.meets.storing orderly))

    rest_again : round.memory ≡ false → round.disk ≡ false → AreAtRest words.disks old.storing → AreAtRest words.disks new.storing
    unfolding StoringHasRun
    rest_again memory disk kept =
        subst (λ (s : Storing D). AreAtRest words.disks s) (sym settles.meets.storing)
        (kept_still words.disks old.storing mid.storing settles.storing (disk_is disk) (memory_is memory) kept)

    causes : SettlingCauses words old new round
    causes = record {
      disk = λ is. subst (λ (s : Storing D). Rose (words.disks.faults old.storing.a.now) (words.disks.faults s.a.now) ⊎ Rose (words.disks.faults old.storing.b.now) (words.disks.faults s.b.now)) (sym settles.meets.storing)
          (rose_ran words.disks old.storing mid.storing settles.storing (sym (stored_is (λ (s : Stored). s.disk)) ∙ sym (ap (λ (r : Round). r.disk) settles.answer) ∙ is));
      a_faults = subst (λ (s : Storing D). words.disks.faults old.storing.a.now ≤ words.disks.faults s.a.now) (sym settles.meets.storing) (a_faults_ran words.disks old.storing mid.storing settles.storing);
      b_faults = subst (λ (s : Storing D). words.disks.faults old.storing.b.now ≤ words.disks.faults s.b.now) (sym settles.meets.storing) (b_faults_ran words.disks old.storing mid.storing settles.storing);
      wires = faults_met words.wires old.carriers.items mid.carriers.items new.carriers.items (wires_handed words.links words.wires desk.capacity old.carriers.items mid.carriers.items settles.handed.carriers) settles.meets.met.carriers_same;
    }

    files : Pairs KeepsFiles (lanings old.lanes.items) (lanings new.lanes.items)
    files = from_bare_files words.tails desk.capacity (lanings old.lanes.items) (lanings new.lanes.items)
        (subst (λ (ls : List (Laning T)). Pairs KeepsFiles (lanings old.lanes.items) ls) (sym settles.meets.met.lanes_same) lanes_are.files)

    pub settling_keeps : SettlingKeeps words queue desk old new round
    settling_keeps = record {
      ready = ready_again;
      lanes = files;
      placed = placed_once;
      counted = posts_counted queue.id desk.id mid new settles.meets;
      images = images_are;
      at_rest = rest_again;
      collects = subst (λ (s : Storing D). Collects old.storing.keeper.now s.keeper.now) (sym settles.meets.storing) (collects_ran words.disks old.storing mid.storing settles.storing);
      able = able_again;
      stored = λ stores. subst (λ (s : Storing D). Stores s.keeper.now.tracked s.keeper.now.store) (sym settles.meets.storing) (stores_ran words.disks old.storing mid.storing settles.storing stores);
      in_full = λ memory disk. subst (λ (s : Storing D). IsStoredInFull s.keeper.now) (sym settles.meets.storing) (in_full_ran words.disks old.storing mid.storing settles.storing (disk_is disk) (memory_is memory));
      causes = causes;
      as_many = crew_as_many old mid new
          (paired_many _ (lanings old.lanes.items) (lanings mid.lanes.items) settles.handed.lanes)
          (paired_many _ old.carriers.items mid.carriers.items settles.handed.carriers)
          settles.meets.met.lanes_same settles.meets.met.carriers_same;
      slots = begins_settled (lanings old.lanes.items) (lanings new.lanes.items) files;
      same_objects = subst (λ (s : Storing D). SameObjects old.storing s) (sym settles.meets.storing) (same_ran words.disks old.storing mid.storing settles.storing);
      still_tell = subst (λ (s : Storing D). StillTell words.disks.contents old.storing s) (sym settles.meets.storing) (tells_ran words.disks old.storing mid.storing settles.storing);
    }
