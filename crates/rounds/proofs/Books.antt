-- Where everything is, from what queue and box hold.
use Rattle.std.proofs.Common.{◌≡◌, ℕ, suc, ◌+◌, List, [], ◌∷◌, ◌++◌, refl, ap, ◌∙◌, arith}
use Rattle.lanes.specs.Laning.{Laning}
use Rattle.mem_queue.specs.Conserved.{IsConserved}
use Rattle.mem_queue.specs.Entries.{numbered, parcels}
use Rattle.mem_queue.specs.declared.entry.Entry.{Entry}
use Rattle.pass_sums.specs.Weight.{AsOften, weigh}
use Rattle.pass_sums.proofs.Weights.{weigh-append, weigh-map}
use Rattle.settle_box.specs.Senders.{notes, posted_by}
use Rattle.settle_box.specs.declared.sender.Sent.{Sent}
use Rattle.wire_base.specs.declared.parcel.Parcel.{Parcel}
use Rattle.rounds.specs.Books.{AreBooked, ArePlaced, Told, carried_by, flat, held_notes, held_parcels, owed_notes}
use Rattle.rounds.specs.Crewed.{carriers_passes, lanes_passes}
use Rattle.rounds.specs.Passes.{entries, senders}
use Rattle.rounds.specs.Words.{LinkWords, WireWords}
use Rattle.rounds.specs.declared.carrier.Carrier.{Carrier}

numbered_parcels : (first : ℕ) (ps : List Parcel) → parcels (numbered first ps) ≡ ps
numbered_parcels first [] = refl
numbered_parcels first (p ∷ ps) = ap (λ (l : List Parcel). p ∷ l) (numbered_parcels (suc first) ps)

-- the parcels of as many entries
as_parcels : (xs ys : List Entry) → AsOften xs ys → AsOften (parcels xs) (parcels ys)
as_parcels xs ys often h =
    let g : Entry → ℕ = λ (e : Entry). h e.parcel in
    omega (arith, weigh-map h (λ (e : Entry). e.parcel) xs, weigh-map h (λ (e : Entry). e.parcel) ys, often g)

module _ {T W L : Type 0} (links : LinkWords L) (wires : WireWords W) where
  pub placed : (told : Told) (lanes : List (Laning T)) (carriers : List (Carrier W L)) (queued : List Parcel) (got boxed : List Sent)
      → AreBooked links wires told lanes carriers → IsConserved (entries (lanes_passes lanes)) (entries (carriers_passes carriers)) queued
      → AsOften (posted_by (senders (lanes_passes lanes) ++ senders (carriers_passes carriers))) (notes got ++ notes boxed)
      → ArePlaced told lanes carriers queued (notes got) (notes boxed)
  placed told lanes carriers queued got boxed booked conserved all_posted = record {
    parcels = λ h.
        let put = as_parcels (entries (lanes_passes lanes)) (numbered 0 (conserved.gone ++ queued)) conserved.all_put h in
        let taken = as_parcels (entries (carriers_passes carriers)) (numbered 0 conserved.gone) conserved.all_taken h in
        let all : weigh h (parcels (numbered 0 (conserved.gone ++ queued))) ≡ weigh h conserved.gone + weigh h queued = ap (weigh h) (numbered_parcels 0 (conserved.gone ++ queued)) ∙ weigh-append h conserved.gone queued in
        let gone : weigh h (parcels (numbered 0 conserved.gone)) ≡ weigh h conserved.gone = ap (weigh h) (numbered_parcels 0 conserved.gone) in
        let acknowledged = flat told.acknowledged in
        omega (
          arith,
          booked.put h,
          booked.taken h,
          put,
          taken,
          all,
          gone,
          weigh-append h (parcels (entries (lanes_passes lanes))) (held_parcels lanes),
          weigh-append h acknowledged (carried_by carriers),
          weigh-append h (held_parcels lanes) (queued ++ (carried_by carriers ++ acknowledged)),
          weigh-append h queued (carried_by carriers ++ acknowledged),
          weigh-append h (carried_by carriers) acknowledged,
        );
    notes = λ h.
        let owed = held_notes lanes ++ owed_notes carriers in
        let posted = posted_by (senders (lanes_passes lanes) ++ senders (carriers_passes carriers)) in
        omega (
          arith,
          booked.posted h,
          all_posted h,
          weigh-append h posted owed,
          weigh-append h (notes got) (notes boxed),
          weigh-append h (notes got) (notes boxed ++ owed),
          weigh-append h (notes boxed) owed,
        );
  }
