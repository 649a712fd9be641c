-- Where everything is that was reported (this project's profile): what harvesters reported to be sent is held by a lane, is in the
-- queue, is carried by a worker or is acknowledged; and what lanes and workers noted is held or owed by them, is in the box
-- or was collected.
use Rattle.std.specs.Prelude.{ℕ, List, ◌++◌}
use Rattle.std.specs.List.{flat_map}
use Rattle.batch_worker.specs.Held.{carried_in, notes_of, owed_by}
use Rattle.batch_worker.specs.Standing.{StandsFor}
use Rattle.lanes.specs.Giving.{notes_in, parcels_in}
use Rattle.lanes.specs.Laning.{Laning}
use Rattle.lanes.specs.Step.{Step, issued_in, noted_in}
use Rattle.mem_queue.specs.Entries.{parcels}
use Rattle.pass_sums.specs.Weight.{AsOften}
use Rattle.settle_box.specs.Senders.{posted_by}
use Rattle.wire_base.specs.declared.note.Note.{Note}
use Rattle.wire_base.specs.declared.parcel.Parcel.{Parcel}
use Rattle.rounds.specs.Crewed.{carriers_passes, lanes_passes}
use Rattle.rounds.specs.Pairs.{Pairs}
use Rattle.rounds.specs.Passes.{entries, senders}
use Rattle.rounds.specs.Words.{LinkWords, WireWords}
use Rattle.rounds.specs.declared.carrier.Carrier.{Carrier}

-- the parcels that a wire's talks acknowledged, in order, from this place among its outcomes on
pub record Heard : Type 0 where
  pub start : ℕ
  pub parcels : List Parcel

-- all that was reported so far: the parcels that harvesters issued, the notes that they gave, and of each worker what its wire's
-- talks acknowledged since it began
pub record Told : Type 0 where
  pub issued : List Parcel
  pub noted : List Note
  pub acknowledged : List Heard

-- with what these turns of files gave, and with what was acknowledged by now
abbrev pub told_on : Told → List Step → List Heard → Told
told_on told steps acknowledged = record {
  issued = told.issued ++ issued_in steps;
  noted = told.noted ++ noted_in steps;
  acknowledged = acknowledged;
}

abbrev pub flat : List Heard → List Parcel
flat heard = flat_map (λ (h : Heard). h.parcels) heard

-- what was refused, and is handed on later
abbrev pub held_parcels : {T : Type 0} → List (Laning T) → List Parcel
held_parcels {T} lanes = flat_map (λ (l : Laning T). parcels_in l.held) lanes

abbrev pub held_notes : {T : Type 0} → List (Laning T) → List Note
held_notes {T} lanes = flat_map (λ (l : Laning T). notes_in l.held) lanes

-- what is not acknowledged, and the notes that are not posted
abbrev pub carried_by : {W L : Type 0} → List (Carrier W L) → List Parcel
carried_by {W} {L} carriers = flat_map (λ (c : Carrier W L). carried_in c.worker.window) carriers

abbrev pub owed_notes : {W L : Type 0} → List (Carrier W L) → List Note
owed_notes {W} {L} carriers = flat_map (λ (c : Carrier W L). owed_by c.worker) carriers

-- the talks of a worker's wire acknowledge just these
abbrev pub Acknowledges : {W L : Type 0} → LinkWords L → WireWords W → Heard → Carrier W L → Type 0
Acknowledges links wires heard carrier = StandsFor links.told heard.start carrier.worker (wires.outcomes carrier.wire) heard.parcels

-- what the passes know and what is held accounts for all that was reported
pub record AreBooked {T W L : Type 0} (links : LinkWords L) (wires : WireWords W) (told : Told) (lanes : List (Laning T)) (carriers : List (Carrier W L)) : Type 0 where
  pub put : AsOften told.issued (parcels (entries (lanes_passes lanes)) ++ held_parcels lanes)
  pub taken : AsOften (parcels (entries (carriers_passes carriers))) (flat told.acknowledged ++ carried_by carriers)
  pub posted : AsOften (told.noted ++ notes_of (flat told.acknowledged))
      (posted_by (senders (lanes_passes lanes) ++ senders (carriers_passes carriers)) ++ (held_notes lanes ++ owed_notes carriers))
  pub acknowledged : Pairs (Acknowledges links wires) told.acknowledged carriers

-- each is in one place, with these parcels in the queue, and these notes collected and in the box
pub record ArePlaced {T W L : Type 0} (told : Told) (lanes : List (Laning T)) (carriers : List (Carrier W L)) (queued : List Parcel) (collected boxed : List Note) : Type 0 where
  pub parcels : AsOften told.issued (held_parcels lanes ++ (queued ++ (carried_by carriers ++ flat told.acknowledged)))
  pub notes : AsOften (told.noted ++ notes_of (flat told.acknowledged)) (collected ++ (boxed ++ (held_notes lanes ++ owed_notes carriers)))
