-- Where all is that files reported (this project's profile): what of it workers took, and which notes were collected.
use Rattle.std.specs.Prelude.{ℕ, List, ◌++◌}
use Rattle.std.specs.List.{flat_map}
use Rattle.batch_worker.specs.Held.{notes_of}
use Rattle.pass_sums.specs.Weight.{AsOften}
use Rattle.wire_base.specs.declared.note.Note.{Note}
use Rattle.wire_base.specs.declared.note.Note.TheVariants.{Announce, Begin, Forget, Rename, Seen, Settle}
use Rattle.wire_base.specs.declared.parcel.Parcel.{Parcel}
use Rattle.accounts.specs.Turned.{Turned, notes_told, parcels_told}

-- what a worker took: what the talks of its wire acknowledged, in order, and what it carries still
pub record Taken : Type 0 where
  pub acknowledged : List Parcel
  pub carried : List Parcel

abbrev pub taken_by : Taken → List Parcel
taken_by taken = taken.acknowledged ++ taken.carried

abbrev pub taken_in : List Taken → List Parcel
taken_in workers = flat_map taken_by workers

abbrev pub acknowledged_in : List Taken → List Parcel
acknowledged_in workers = flat_map (λ (taken : Taken). taken.acknowledged) workers

abbrev pub carried_in : List Taken → List Parcel
carried_in workers = flat_map (λ (taken : Taken). taken.carried) workers

-- a note settles one event, or none
abbrev pub settles : Note → ℕ
settles (Begin slot key path epoch base changed) = 0
settles (Announce slot epoch) = 0
settles (Settle slot epoch span cause) = 1
settles (Rename slot scan path) = 0
settles (Seen slot changed) = 0
settles (Forget slot epoch end) = 0

-- what was issued and noted is what files reported; each parcel was taken by a worker or is elsewhere, and each note was collected or is
-- elsewhere. Where each is, the rounds know as their passes meet; what files reported fits it turn by turn
pub record FitBooks (files : List Turned) (workers : List Taken) (collected : List Note) : Type 0 where
  pub issued : List Parcel
  pub noted : List Note
  pub issued_are : AsOften issued (flat_map parcels_told files)
  pub noted_are : AsOften noted (flat_map notes_told files)
  pub parcels : List Parcel
  pub parcels_are : AsOften issued (parcels ++ taken_in workers)
  pub notes : List Note
  pub notes_are : AsOften (noted ++ notes_of (acknowledged_in workers)) (collected ++ notes)
