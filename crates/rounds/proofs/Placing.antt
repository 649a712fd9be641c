-- What was reported is booked and placed, as a round ends.
use Rattle.std.proofs.Common.{◌≡◌, ℕ, List, [], ◌∷◌, ◌++◌, refl, sym, ap, subst, ◌∙◌}
use Rattle.atomic_table.specs.Seated.{TableId}
use Rattle.batch_worker.specs.Held.{carried_in, notes_of, owed_by}
use Rattle.lanes.specs.Giving.{notes_in, parcels_in}
use Rattle.lanes.specs.Laning.{Laning}
use Rattle.lanes.specs.Step.{Step}
use Rattle.lanes.specs.declared.run.When.{When}
use Rattle.mem_queue.specs.Conserved.{IsConserved}
use Rattle.mem_queue.specs.Entries.{parcels}
use Rattle.mem_queue.specs.declared.entry.Entry.{Entry}
use Rattle.pass_sums.specs.Weight.{AsOften}
use Rattle.settle_box.specs.Senders.{notes, posted_by}
use Rattle.settle_box.specs.declared.sender.Sent.{Sent}
use Rattle.wire_base.specs.declared.note.Note.{Note}
use Rattle.wire_base.specs.declared.numbers.Moment.{Moment}
use Rattle.wire_base.specs.declared.parcel.Parcel.{Parcel}
use Rattle.rounds.specs.Books.{Acknowledges, AreBooked, ArePlaced, Heard, Told, carried_by, flat, held_notes, held_parcels, owed_notes}
use Rattle.rounds.specs.Crewed.{bare_carrier, bare_carriers, bare_lanes, carriers_passes, lanes_passes}
use Rattle.rounds.specs.Meeting.{HaveMet}
use Rattle.rounds.specs.Pairs.{Pairs}
use Rattle.rounds.specs.Passes.{AreAllOf, entries, senders}
use Rattle.rounds.specs.Placed.{AreStepsOf, GoesOn}
use Rattle.rounds.specs.Running.{CarrierHasRun, LaneHasRun}
use Rattle.rounds.specs.Words.{LinkWords, TailWords, WireWords}
use Rattle.rounds.specs.declared.carrier.Carrier.{Carrier}
use Rattle.rounds.proofs.Books.{placed}
use Rattle.rounds.proofs.CarrierSteps.{carrier_keeps}
use Rattle.rounds.proofs.Sums.{CarriersKept, LanesKept, carrier_kept, heard_more, lane_kept, none_carried, none_kept}

-- ---- turns of all

module _ {T : Type 0} (tails : TailWords T) (queue_size box_size : ℕ) (when : When) (queue desk : TableId) where
  pub record LanesStepped (xs ys : List (Laning T)) : Type 0 where
    pub steps : List Step
    pub are : AreStepsOf tails queue_size box_size when steps xs ys
    pub kept : LanesKept steps xs ys

  pub lanes_stepped : (xs ys : List (Laning T)) → Pairs (LaneHasRun tails queue_size box_size when) xs ys → AreAllOf queue desk (lanes_passes xs) → LanesStepped xs ys
  unfolding LaneHasRun
  lanes_stepped [] [] ran of = record { steps = []; are = refl; kept = none_kept }
  lanes_stepped [] (y ∷ ys) ran of = absurd ran
  lanes_stepped (x ∷ xs) [] ran of = absurd ran
  lanes_stepped (x ∷ xs) (y ∷ ys) ran of =
      let rest = lanes_stepped xs ys ran.1 of.1 in
      record {
        steps = ran.0.keeps.steps ++ rest.steps;
        are = (ran.0, rest.steps, refl, rest.are);
        kept = lane_kept queue desk tails x y xs ys rest.steps of.0 ran.0.keeps rest.kept;
      }

module _ {W L : Type 0} (links : LinkWords L) (wires : WireWords W) (box : ℕ) (now : Moment) (queue desk : TableId) where
  pub record CarriersStepped (before : List Heard) (xs ys : List (Carrier W L)) : Type 0 where
    pub after : List Heard
    pub more : Pairs GoesOn before after
    pub kept : CarriersKept links wires before after xs ys

  pub carriers_stepped : (before : List Heard) (xs ys : List (Carrier W L)) → Pairs (CarrierHasRun links wires box now) xs ys → AreAllOf queue desk (carriers_passes xs) → Pairs (Acknowledges links wires) before xs → CarriersStepped before xs ys
  unfolding CarrierHasRun
  carriers_stepped [] [] [] ran of stand = record { after = []; more = tt; kept = none_carried links wires }
  carriers_stepped (a ∷ others) [] ys ran of stand = absurd stand
  carriers_stepped [] (x ∷ xs) ys ran of stand = absurd stand
  carriers_stepped [] [] (y ∷ ys) ran of stand = absurd ran
  carriers_stepped (a ∷ others) (x ∷ xs) [] ran of stand = absurd ran
  carriers_stepped (a ∷ others) (x ∷ xs) (y ∷ ys) ran of stand =
      let rest = carriers_stepped others xs ys ran.1 of.1 stand.1 in
      let keeps = carrier_keeps links wires box now x y ran.0 in
      record {
        after = heard_more a keeps.acknowledged ∷ rest.after;
        more = (record { more = keeps.acknowledged; start = refl; is = refl }, rest.more);
        kept = carrier_kept links wires queue desk x y xs ys a others rest.after of.0 keeps stand.0 rest.kept;
      }

-- ---- passes apart, everything is the same as they met

bare_parcels : {T : Type 0} (lanes : List (Laning T)) → held_parcels (bare_lanes lanes) ≡ held_parcels lanes
bare_parcels [] = refl
bare_parcels (l ∷ ls) = ap (λ (r : List Parcel). parcels_in l.held ++ r) (bare_parcels ls)

bare_notes : {T : Type 0} (lanes : List (Laning T)) → held_notes (bare_lanes lanes) ≡ held_notes lanes
bare_notes [] = refl
bare_notes (l ∷ ls) = ap (λ (r : List Note). notes_in l.held ++ r) (bare_notes ls)

bare_carried : {W L : Type 0} (carriers : List (Carrier W L)) → carried_by (bare_carriers carriers) ≡ carried_by carriers
bare_carried [] = refl
bare_carried (c ∷ cs) = ap (λ (r : List Parcel). carried_in c.worker.window ++ r) (bare_carried cs)

bare_owed : {W L : Type 0} (carriers : List (Carrier W L)) → owed_notes (bare_carriers carriers) ≡ owed_notes carriers
bare_owed [] = refl
bare_owed (c ∷ cs) = ap (λ (r : List Note). owed_by c.worker ++ r) (bare_owed cs)

module _ {W L : Type 0} (links : LinkWords L) (wires : WireWords W) where
  -- a worker without its passes stands for the same
  of_bare_worker : (heard : Heard) (carrier : Carrier W L) → Acknowledges links wires heard carrier → Acknowledges links wires heard (bare_carrier carrier)
  of_bare_worker heard carrier s = record { exchange = s.exchange; window = s.window; talk = s.talk; small = s.small; are = s.are; reached = s.reached; finished = s.finished; sent = s.sent }

  of_worker : (heard : Heard) (carrier : Carrier W L) → Acknowledges links wires heard (bare_carrier carrier) → Acknowledges links wires heard carrier
  of_worker heard carrier s = record { exchange = s.exchange; window = s.window; talk = s.talk; small = s.small; are = s.are; reached = s.reached; finished = s.finished; sent = s.sent }

  to_bare : (acknowledged : List Heard) (carriers : List (Carrier W L)) → Pairs (Acknowledges links wires) acknowledged carriers → Pairs (Acknowledges links wires) acknowledged (bare_carriers carriers)
  to_bare [] [] stand = tt
  to_bare [] (c ∷ cs) stand = absurd stand
  to_bare (a ∷ others) [] stand = absurd stand
  to_bare (a ∷ others) (c ∷ cs) stand = (of_bare_worker a c stand.0, to_bare others cs stand.1)

  from_bare : (acknowledged : List Heard) (carriers : List (Carrier W L)) → Pairs (Acknowledges links wires) acknowledged (bare_carriers carriers) → Pairs (Acknowledges links wires) acknowledged carriers
  from_bare [] [] stand = tt
  from_bare [] (c ∷ cs) stand = absurd stand
  from_bare (a ∷ others) [] stand = absurd stand
  from_bare (a ∷ others) (c ∷ cs) stand = (of_worker a c stand.0, from_bare others cs stand.1)

module _ {T W L : Type 0} (links : LinkWords L) (wires : WireWords W) (queue desk : TableId) (got : List Sent) where
  pub booked_met : (told : Told) (lanes later : List (Laning T)) (carriers after : List (Carrier W L)) → HaveMet queue desk got lanes later carriers after → AreBooked links wires told lanes carriers → AreBooked links wires told later after
  booked_met told lanes later carriers after met b =
      let parcels_same : held_parcels lanes ≡ held_parcels later = sym (bare_parcels lanes) ∙ ap (λ (ls : List (Laning T)). held_parcels ls) (sym met.lanes_same) ∙ bare_parcels later in
      let notes_same : held_notes lanes ≡ held_notes later = sym (bare_notes lanes) ∙ ap (λ (ls : List (Laning T)). held_notes ls) (sym met.lanes_same) ∙ bare_notes later in
      let carried_same : carried_by carriers ≡ carried_by after = sym (bare_carried carriers) ∙ ap (λ (cs : List (Carrier W L)). carried_by cs) (sym met.carriers_same) ∙ bare_carried after in
      let owed_same : owed_notes carriers ≡ owed_notes after = sym (bare_owed carriers) ∙ ap (λ (cs : List (Carrier W L)). owed_notes cs) (sym met.carriers_same) ∙ bare_owed after in
      record {
        put = subst (λ (es : List Entry). AsOften told.issued (parcels es ++ held_parcels later)) (sym met.put)
            (subst (λ (held : List Parcel). AsOften told.issued (parcels (entries (lanes_passes lanes)) ++ held)) parcels_same b.put);
        taken = subst (λ (es : List Entry). AsOften (parcels es) (flat told.acknowledged ++ carried_by after)) (sym met.taken)
            (subst (λ (carried : List Parcel). AsOften (parcels (entries (carriers_passes carriers))) (flat told.acknowledged ++ carried)) carried_same b.taken);
        posted = subst (λ (posted : List Note). AsOften (told.noted ++ notes_of (flat told.acknowledged)) (posted ++ (held_notes later ++ owed_notes after))) (sym met.posted)
            (subst (λ (owed : List Note). AsOften (told.noted ++ notes_of (flat told.acknowledged)) (posted_by (senders (lanes_passes lanes) ++ senders (carriers_passes carriers)) ++ (held_notes later ++ owed))) owed_same
            (subst (λ (held : List Note). AsOften (told.noted ++ notes_of (flat told.acknowledged)) (posted_by (senders (lanes_passes lanes) ++ senders (carriers_passes carriers)) ++ (held ++ owed_notes carriers))) notes_same b.posted));
        acknowledged = from_bare links wires told.acknowledged after (subst (λ (cs : List (Carrier W L)). Pairs (Acknowledges links wires) told.acknowledged cs) (sym met.carriers_same) (to_bare links wires told.acknowledged carriers b.acknowledged));
      }

  pub placed_met : (told : Told) (lanes later : List (Laning T)) (carriers after : List (Carrier W L)) → (met : HaveMet queue desk got lanes later carriers after) → AreBooked links wires told lanes carriers
      → ArePlaced told later after met.queued (notes got) (notes met.boxed)
  placed_met told lanes later carriers after met b =
      placed links wires told later after met.queued got met.boxed (booked_met told lanes later carriers after met b)
      (subst (λ (es : List Entry). IsConserved es (entries (carriers_passes after)) met.queued) (sym met.put)
      (subst (λ (es : List Entry). IsConserved (entries (lanes_passes lanes)) es met.queued) (sym met.taken) met.conserved))
      (subst (λ (posted : List Note). AsOften posted (notes got ++ notes met.boxed)) (sym met.posted) met.in_order.all)
