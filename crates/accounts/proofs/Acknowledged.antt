-- What the talks of workers' wires acknowledged is what files reported, and nothing of it twice.
use Rattle.std.proofs.Common.{List, ◌++◌, Contains, arith}
use Rattle.std.specs.List.{flat_map}
use Rattle.pass_sums.proofs.Weights.{weigh-append}
use Rattle.pass_sums.specs.Weight.{AsOften}
use Rattle.wire_base.specs.declared.note.Note.{Note}
use Rattle.wire_base.specs.declared.parcel.Parcel.{Parcel}
use Rattle.accounts.specs.Once.{AreOnce}
use Rattle.accounts.specs.Same.{same_parcel}
use Rattle.accounts.specs.Taken.{FitBooks, Taken, acknowledged_in, carried_in, taken_in}
use Rattle.accounts.specs.Turned.{Turned, parcels_told}
use Rattle.accounts.proofs.Lists.{behind_there}
use Rattle.accounts.proofs.Often.{often_contains, once_in}
use Rattle.accounts.proofs.Same.{tells_parcels}
use Rattle.accounts.proofs.Settling.{taken_weighs}

module _ (files : List Turned) (workers : List Taken) (collected : List Note) (fits : FitBooks files workers collected) where
  abbrev pub elsewhere_in : List Parcel
  elsewhere_in = fits.parcels ++ carried_in workers

  -- what files reported is acknowledged or elsewhere
  pub often_told : AsOften (flat_map parcels_told files) (elsewhere_in ++ acknowledged_in workers)
  often_told h =
      let issued = fits.issued_are h in
      let sums = fits.parcels_are h in
      let taken = taken_weighs h workers in
      let all = weigh-append h fits.parcels (taken_in workers) in
      let own = weigh-append h fits.parcels (carried_in workers) in
      let both = weigh-append h elsewhere_in (acknowledged_in workers) in
      omega (arith, issued, sums, taken, all, own, both)

  pub told_there : (parcel : Parcel) → Contains (acknowledged_in workers) parcel → Contains (flat_map parcels_told files) parcel
  told_there parcel there =
      often_contains same_parcel tells_parcels (flat_map parcels_told files) (elsewhere_in ++ acknowledged_in workers) parcel often_told
      (behind_there elsewhere_in (acknowledged_in workers) parcel there)

  pub acknowledged_once : AreOnce same_parcel (flat_map parcels_told files) → AreOnce same_parcel (acknowledged_in workers)
  acknowledged_once = once_in same_parcel tells_parcels (flat_map parcels_told files) elsewhere_in (acknowledged_in workers) often_told
