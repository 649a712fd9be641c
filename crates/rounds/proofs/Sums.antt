-- What lanes and workers put, took, posted and hold, added up over all of them.
use Rattle.std.proofs.Common.{◌≡◌, ℕ, ◌+◌, List, [], ◌∷◌, ◌++◌, Option, Some, None, refl, sym, ap, ◌∙◌, append_assoc, arith}
use Rattle.std.proofs.lemmas.List.{map-append}
use Rattle.atomic_table.specs.Seated.{TableId}
use Rattle.batch_worker.specs.Held.{carried_in, note_of, notes_of, owed_by}
use Rattle.batch_worker.specs.Keeping.{Keeps, with_posted, with_taken}
use Rattle.batch_worker.specs.Standing.{StandsFor}
use Rattle.batch_worker.specs.Steps.{PostsOf}
use Rattle.lanes.specs.Giving.{notes_in, parcels_in}
use Rattle.lanes.specs.Handing.{with_put}
use Rattle.lanes.specs.Keeping.{LaneKeeps}
use Rattle.lanes.specs.Laning.{Laning}
use Rattle.lanes.specs.Step.{Step, issued_in, noted_in}
use Rattle.mem_queue.specs.Entries.{parcels}
use Rattle.mem_queue.specs.Known.{Known}
use Rattle.mem_queue.specs.declared.entry.Entry.{Entry}
use Rattle.pass_sums.specs.Weight.{AsOften, weigh}
use Rattle.pass_sums.proofs.Weights.{weigh-append, weigh-map}
use Rattle.settle_box.specs.Poster.{Poster}
use Rattle.settle_box.specs.Senders.{posted_by}
use Rattle.settle_box.specs.declared.sender.Sender.{Sender}
use Rattle.wire_base.specs.declared.note.Note.{Note}
use Rattle.wire_base.specs.declared.parcel.Parcel.{Parcel}
use Rattle.rounds.specs.Books.{Acknowledges, AreBooked, Heard, Told, carried_by, flat, held_notes, held_parcels, owed_notes, told_on}
use Rattle.rounds.specs.CarrierTurns.{seen_of}
use Rattle.rounds.specs.Crewed.{carrier_passes, carriers_passes, lane_passes, lanes_passes}
use Rattle.rounds.specs.Pairs.{Pairs}
use Rattle.rounds.specs.Passes.{AreOf, IsOfQueue, entries, entries_in, senders, senders_in}
use Rattle.rounds.specs.Words.{LinkWords, TailWords, WireWords}
use Rattle.rounds.specs.declared.carrier.Carrier.{Carrier}

-- ---- steps

issued_on : (first then : List Step) → issued_in (first ++ then) ≡ issued_in first ++ issued_in then
issued_on [] then = refl
issued_on (s ∷ ss) then = ap (λ (l : List Parcel). parcels_in s.given ++ l) (issued_on ss then) ∙ sym (append_assoc (parcels_in s.given) (issued_in ss) (issued_in then))

noted_on : (first then : List Step) → noted_in (first ++ then) ≡ noted_in first ++ noted_in then
noted_on [] then = refl
noted_on (s ∷ ss) then = ap (λ (l : List Note). notes_in s.given ++ l) (noted_on ss then) ∙ sym (append_assoc (notes_in s.given) (noted_in ss) (noted_in then))

-- ---- passes that are there

entries_on : (q : TableId) (put : Option Known) (entries : List Entry) → IsOfQueue q put → entries_in (with_put put entries) ≡ entries_in put ++ entries
entries_on q None entries of = absurd of
entries_on q (Some k) entries of = refl

taken_on : (q : TableId) (take : Option Known) (entries : List Entry) → IsOfQueue q take → entries_in (with_taken take entries) ≡ entries_in take ++ entries
taken_on q None entries of = absurd of
taken_on q (Some k) entries of = refl

posted_on : (b : TableId) (h : Note → ℕ) (post : Option Poster) (notes : List Note) → PostsOf b post → weigh h (posted_by (senders_in (with_posted post notes))) ≡ weigh h (posted_by (senders_in post)) + weigh h notes
posted_on b h None notes of = absurd of
posted_on b h (Some p) notes of =
    omega (arith, weigh-append h (p.mine.posted ++ notes) (posted_by p.joined), weigh-append h p.mine.posted notes, weigh-append h p.mine.posted (posted_by p.joined))

pub posted_both : (h : Note → ℕ) (xs ys : List Sender) → weigh h (posted_by (xs ++ ys)) ≡ weigh h (posted_by xs) + weigh h (posted_by ys)
posted_both h [] ys = omega arith
posted_both h (x ∷ xs) ys = omega (arith, weigh-append h x.posted (posted_by (xs ++ ys)), weigh-append h x.posted (posted_by xs), posted_both h xs ys)

parcels_both : (h : Parcel → ℕ) (xs ys : List Entry) → weigh h (parcels (xs ++ ys)) ≡ weigh h (parcels xs) + weigh h (parcels ys)
parcels_both h xs ys = ap (weigh h) (map-append (λ (e : Entry). e.parcel) xs ys) ∙ weigh-append h (parcels xs) (parcels ys)

-- ---- lanes

module _ {T : Type 0} where
  -- what all of them were given since
  pub record LanesKept (steps : List Step) (xs ys : List (Laning T)) : Type 0 where
    pub parcels_are : (h : Parcel → ℕ) → weigh h (parcels (entries (lanes_passes ys))) + weigh h (held_parcels ys) ≡ (weigh h (parcels (entries (lanes_passes xs))) + weigh h (held_parcels xs)) + weigh h (issued_in steps)
    pub notes_are : (h : Note → ℕ) → weigh h (posted_by (senders (lanes_passes ys))) + weigh h (held_notes ys) ≡ (weigh h (posted_by (senders (lanes_passes xs))) + weigh h (held_notes xs)) + weigh h (noted_in steps)

  pub none_kept : LanesKept [] [] []
  none_kept = record { parcels_are = λ h. refl; notes_are = λ h. refl }

  module _ (queue desk : TableId) (tails : TailWords T) where
    one_parcels : (old new : Laning T) (h : Parcel → ℕ) → AreOf queue desk (lane_passes old) → (k : LaneKeeps tails.numbers tails.told tails.faults old new)
        → weigh h (parcels (entries_in new.put)) + weigh h (parcels_in new.held) ≡ (weigh h (parcels (entries_in old.put)) + weigh h (parcels_in old.held)) + weigh h (issued_in k.steps)
    one_parcels old new h of k =
        let put = ap (λ (p : Option Known). weigh h (parcels (entries_in p))) k.put in
        let on = ap (λ (es : List Entry). weigh h (parcels es)) (entries_on queue old.put k.entries of.moves) in
        let are = ap (weigh h) k.parcels_are in
        omega (arith, put, on, are, parcels_both h (entries_in old.put) k.entries, weigh-append h (parcels_in old.held) (issued_in k.steps), weigh-append h (parcels k.entries) (parcels_in new.held))

    one_notes : (old new : Laning T) (h : Note → ℕ) → AreOf queue desk (lane_passes old) → (k : LaneKeeps tails.numbers tails.told tails.faults old new)
        → weigh h (posted_by (senders_in new.post)) + weigh h (notes_in new.held) ≡ (weigh h (posted_by (senders_in old.post)) + weigh h (notes_in old.held)) + weigh h (noted_in k.steps)
    one_notes old new h of k =
        let post = ap (λ (p : Option Poster). weigh h (posted_by (senders_in p))) k.post in
        let are = ap (weigh h) k.notes_are in
        omega (arith, post, are, posted_on desk h old.post k.posted of.post, weigh-append h (notes_in old.held) (noted_in k.steps), weigh-append h k.posted (notes_in new.held))

    -- one more of them
    pub lane_kept : (x y : Laning T) (xs ys : List (Laning T)) (steps : List Step) → AreOf queue desk (lane_passes x) → (k : LaneKeeps tails.numbers tails.told tails.faults x y)
        → LanesKept steps xs ys → LanesKept (k.steps ++ steps) (x ∷ xs) (y ∷ ys)
    lane_kept x y xs ys steps of k rest = record {
      parcels_are = λ h. omega (
        arith,
        one_parcels x y h of k,
        rest.parcels_are h,
        parcels_both h (entries_in x.put) (entries (lanes_passes xs)),
        parcels_both h (entries_in y.put) (entries (lanes_passes ys)),
        weigh-append h (parcels_in x.held) (held_parcels xs),
        weigh-append h (parcels_in y.held) (held_parcels ys),
        ap (weigh h) (issued_on k.steps steps),
        weigh-append h (issued_in k.steps) (issued_in steps),
      );
      notes_are = λ h. omega (
        arith,
        one_notes x y h of k,
        rest.notes_are h,
        posted_both h (senders_in x.post) (senders (lanes_passes xs)),
        posted_both h (senders_in y.post) (senders (lanes_passes ys)),
        weigh-append h (notes_in x.held) (held_notes xs),
        weigh-append h (notes_in y.held) (held_notes ys),
        ap (weigh h) (noted_on k.steps steps),
        weigh-append h (noted_in k.steps) (noted_in steps),
      );
    }

-- ---- workers

-- with these parcels, too
abbrev pub heard_more : Heard → List Parcel → Heard
heard_more heard more = record heard { parcels = heard.parcels ++ more }

module _ {W L : Type 0} (links : LinkWords L) (wires : WireWords W) where
  -- what one carrier keeps
  abbrev pub CarrierKeeps : Carrier W L → Carrier W L → Type 0
  CarrierKeeps old new = Keeps (λ start. StandsFor links.told start old.worker (wires.outcomes old.wire)) (λ start. StandsFor links.told start new.worker (wires.outcomes new.wire)) (seen_of wires old.wire) (seen_of wires new.wire) old.worker new.worker

  pub record CarriersKept (before after : List Heard) (xs ys : List (Carrier W L)) : Type 0 where
    pub acknowledged : List Parcel
    pub are : AsOften (flat after) (flat before ++ acknowledged)
    pub parcels_are : (h : Parcel → ℕ) → weigh h (parcels (entries (carriers_passes ys))) + weigh h (carried_by xs) ≡ weigh h (parcels (entries (carriers_passes xs))) + (weigh h acknowledged + weigh h (carried_by ys))
    pub notes_are : (h : Note → ℕ) → weigh h (posted_by (senders (carriers_passes ys))) + weigh h (owed_notes ys) ≡ (weigh h (posted_by (senders (carriers_passes xs))) + weigh h (owed_notes xs)) + weigh h (notes_of acknowledged)
    pub stand : Pairs (Acknowledges links wires) after ys

  pub none_carried : CarriersKept [] [] [] []
  none_carried = record { acknowledged = []; are = λ h. refl; parcels_are = λ h. refl; notes_are = λ h. refl; stand = tt }

  module _ (queue desk : TableId) where
    one_taken : (old new : Carrier W L) (h : Parcel → ℕ) → AreOf queue desk (carrier_passes old) → (k : CarrierKeeps old new)
        → weigh h (parcels (entries_in new.worker.take)) + weigh h (carried_in old.worker.window) ≡ weigh h (parcels (entries_in old.worker.take)) + (weigh h k.acknowledged + weigh h (carried_in new.worker.window))
    one_taken old new h of k =
        let take = ap (λ (p : Option Known). weigh h (parcels (entries_in p))) k.take in
        let on = ap (λ (es : List Entry). weigh h (parcels es)) (taken_on queue old.worker.take k.taken of.moves) in
        let are = ap (weigh h) k.parcels_are in
        omega (arith, take, on, are, parcels_both h (entries_in old.worker.take) k.taken, weigh-append h (carried_in old.worker.window) (parcels k.taken), weigh-append h k.acknowledged (carried_in new.worker.window))

    one_owed : (old new : Carrier W L) (h : Note → ℕ) → AreOf queue desk (carrier_passes old) → (k : CarrierKeeps old new)
        → weigh h (posted_by (senders_in new.worker.post)) + weigh h (owed_by new.worker) ≡ (weigh h (posted_by (senders_in old.worker.post)) + weigh h (owed_by old.worker)) + weigh h (notes_of k.acknowledged)
    one_owed old new h of k =
        let post = ap (λ (p : Option Poster). weigh h (posted_by (senders_in p))) k.post in
        let are = ap (weigh h) k.notes_are in
        omega (arith, post, are, posted_on desk h old.worker.post k.posted of.post, weigh-append h (owed_by old.worker) (notes_of k.acknowledged), weigh-append h k.posted (owed_by new.worker))

    -- one more of them
    pub carrier_kept : (x y : Carrier W L) (xs ys : List (Carrier W L)) (first : Heard) (before after : List Heard) → AreOf queue desk (carrier_passes x) → (k : CarrierKeeps x y)
        → Acknowledges links wires first x → CarriersKept before after xs ys → CarriersKept (first ∷ before) (heard_more first k.acknowledged ∷ after) (x ∷ xs) (y ∷ ys)
    carrier_kept x y xs ys first before after of k stands rest =
        let acks = k.acknowledged in
        record {
          acknowledged = acks ++ rest.acknowledged;
          are = λ h. omega (
            arith,
            rest.are h,
            weigh-append h (first.parcels ++ acks) (flat after),
            weigh-append h first.parcels acks,
            weigh-append h (first.parcels ++ flat before) (acks ++ rest.acknowledged),
            weigh-append h first.parcels (flat before),
            weigh-append h (flat before) rest.acknowledged,
            weigh-append h acks rest.acknowledged,
          );
          parcels_are = λ h. omega (
            arith,
            one_taken x y h of k,
            rest.parcels_are h,
            parcels_both h (entries_in x.worker.take) (entries (carriers_passes xs)),
            parcels_both h (entries_in y.worker.take) (entries (carriers_passes ys)),
            weigh-append h (carried_in x.worker.window) (carried_by xs),
            weigh-append h (carried_in y.worker.window) (carried_by ys),
            weigh-append h acks rest.acknowledged,
          );
          notes_are = λ h. omega (
            arith,
            one_owed x y h of k,
            rest.notes_are h,
            posted_both h (senders_in x.worker.post) (senders (carriers_passes xs)),
            posted_both h (senders_in y.worker.post) (senders (carriers_passes ys)),
            weigh-append h (owed_by x.worker) (owed_notes xs),
            weigh-append h (owed_by y.worker) (owed_notes ys),
            ap (weigh h) (map-append note_of acks rest.acknowledged),
            weigh-append h (notes_of acks) (notes_of rest.acknowledged),
          );
          stand = (k.stands first.start first.parcels stands, rest.stand);
        }

-- ---- both: what was reported since is booked, too

noted_both : (h : Note → ℕ) (xs ys : List Parcel) → AsOften xs ys → weigh h (notes_of xs) ≡ weigh h (notes_of ys)
noted_both h xs ys often = omega (arith, weigh-map h note_of xs, weigh-map h note_of ys, often (λ (p : Parcel). h (note_of p)))

module _ {T W L : Type 0} (links : LinkWords L) (wires : WireWords W) where
  pub booked_on : (told : Told) (steps : List Step) (after : List Heard) (lanes later : List (Laning T)) (carriers new : List (Carrier W L)) → LanesKept steps lanes later → CarriersKept links wires told.acknowledged after carriers new
      → AreBooked links wires told lanes carriers → AreBooked links wires (told_on told steps after) later new
  booked_on told steps after lanes later carriers new l w b = record {
    put = λ h. omega (
      arith,
      b.put h,
      l.parcels_are h,
      weigh-append h told.issued (issued_in steps),
      weigh-append h (parcels (entries (lanes_passes lanes))) (held_parcels lanes),
      weigh-append h (parcels (entries (lanes_passes later))) (held_parcels later),
    );
    taken = λ h. omega (
      arith,
      b.taken h,
      w.parcels_are h,
      w.are h,
      weigh-append h (flat told.acknowledged) (carried_by carriers),
      weigh-append h (flat after) (carried_by new),
      weigh-append h (flat told.acknowledged) w.acknowledged,
    );
    posted = λ h. omega (
      arith,
      b.posted h,
      l.notes_are h,
      w.notes_are h,
      noted_both h (flat after) (flat told.acknowledged ++ w.acknowledged) w.are,
      weigh-append h told.noted (notes_of (flat told.acknowledged)),
      weigh-append h (told.noted ++ noted_in steps) (notes_of (flat after)),
      weigh-append h told.noted (noted_in steps),
      ap (weigh h) (map-append note_of (flat told.acknowledged) w.acknowledged),
      weigh-append h (notes_of (flat told.acknowledged)) (notes_of w.acknowledged),
      weigh-append h (posted_by (senders (lanes_passes lanes) ++ senders (carriers_passes carriers))) (held_notes lanes ++ owed_notes carriers),
      weigh-append h (posted_by (senders (lanes_passes later) ++ senders (carriers_passes new))) (held_notes later ++ owed_notes new),
      posted_both h (senders (lanes_passes lanes)) (senders (carriers_passes carriers)),
      posted_both h (senders (lanes_passes later)) (senders (carriers_passes new)),
      weigh-append h (held_notes lanes) (owed_notes carriers),
      weigh-append h (held_notes later) (owed_notes new),
    );
    acknowledged = w.stand;
  }
