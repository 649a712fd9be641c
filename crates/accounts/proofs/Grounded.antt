-- What was collected has its ground in what files reported, and what was acknowledged is of their events.
use Rattle.std.proofs.Common.{◌≡◌, ◌⊎◌, inl, inr, List, [], ◌∷◌, ◌++◌, Contains, map, sym}
use Rattle.std.specs.List.{AllByRecursion, flat_map}
use Rattle.std.proofs.lemmas.List.Elements.{Contains-append_cases, Contains-append_left, Contains-append_right}
use Rattle.batch_worker.specs.Held.{note_of, notes_of}
use Rattle.ship_core.proofs.Members.{first_there, later_there, none_there, there_cases}
use Rattle.wire_base.specs.declared.note.Note.{Note}
use Rattle.wire_base.specs.declared.parcel.Parcel.{Parcel}
use Rattle.accounts.specs.Ground.{HasGround, IsParcelOf}
use Rattle.accounts.specs.Same.{same_note, same_parcel}
use Rattle.accounts.specs.Taken.{FitBooks, Taken, acknowledged_in, taken_by, taken_in}
use Rattle.accounts.specs.Turned.{Turned, notes_told, parcels_told}
use Rattle.accounts.proofs.Ground.{notes_have_ground, parcels_have_ground}
use Rattle.accounts.proofs.Often.{often_back, often_contains}
use Rattle.accounts.proofs.Same.{tells_notes, tells_parcels}

-- ---- lists

-- each item of a list of which each item has it
pub each_member : {A : Type 0} (P : A → Type 0) (xs : List A) → ((x : A) → Contains xs x → P x) → AllByRecursion P xs
each_member P [] each = tt
each_member P (x ∷ xs) each = (each x (first_there x xs), each_member P xs (λ y there. each y (later_there x y xs there)))

pub record IsMapped {A B : Type 0} (f : A → B) (xs : List A) (y : B) : Type 0 where
  pub item : A
  pub among : Contains xs item
  pub is : f item ≡ y

pub of_map : {A B : Type 0} (f : A → B) (xs : List A) (y : B) → Contains (map f xs) y → IsMapped f xs y
of_map f [] y there = absurd (none_there y there)
of_map f (x ∷ xs) y there = by_case (there_cases (f x) y (map f xs) there) (of_map f xs y)
  where
    by_case : (f x ≡ y) ⊎ Contains (map f xs) y → (Contains (map f xs) y → IsMapped f xs y) → IsMapped f (x ∷ xs) y
    by_case (inl same) later = record { item = x; among = first_there x xs; is = same }
    by_case (inr behind) later = let of = later behind in record { item = of.item; among = later_there x of.item xs of.among; is = of.is }

-- what was acknowledged was taken
pub acknowledged_taken : (workers : List Taken) (parcel : Parcel) → Contains (acknowledged_in workers) parcel → Contains (taken_in workers) parcel
acknowledged_taken [] parcel there = absurd (none_there parcel there)
acknowledged_taken (taken ∷ workers) parcel there =
    by_case (Contains-append_cases taken.acknowledged (acknowledged_in workers) parcel there) (acknowledged_taken workers parcel)
  where
    by_case : Contains taken.acknowledged parcel ⊎ Contains (acknowledged_in workers) parcel → (Contains (acknowledged_in workers) parcel → Contains (taken_in workers) parcel) →
        Contains (taken_by taken ++ taken_in workers) parcel
    by_case (inl here) later = Contains-append_left (taken_by taken) (taken_in workers) parcel (Contains-append_left taken.acknowledged taken.carried parcel here)
    by_case (inr behind) later = Contains-append_right (taken_by taken) (taken_in workers) parcel (later behind)

-- ---- ground

module _ (files : List Turned) (workers : List Taken) (collected : List Note) (fits : FitBooks files workers collected) where
  -- what a worker took is of an event
  pub taken_has_ground : (parcel : Parcel) → Contains (taken_in workers) parcel → IsParcelOf files parcel
  taken_has_ground parcel there =
      let among : Contains fits.issued parcel =
      often_contains same_parcel tells_parcels fits.issued (fits.parcels ++ taken_in workers) parcel fits.parcels_are
      (Contains-append_right fits.parcels (taken_in workers) parcel there) in
      parcels_have_ground files parcel
      (often_contains same_parcel tells_parcels (flat_map parcels_told files) fits.issued parcel (often_back fits.issued (flat_map parcels_told files) fits.issued_are) among)

  noted_has_ground : (note : Note) → Contains fits.noted note → HasGround files (acknowledged_in workers) note
  noted_has_ground note there =
      inl (notes_have_ground files note
      (often_contains same_note tells_notes (flat_map notes_told files) fits.noted note (often_back fits.noted (flat_map notes_told files) fits.noted_are) there))

  acknowledgement_has_ground : (note : Note) → Contains (notes_of (acknowledged_in workers)) note → HasGround files (acknowledged_in workers) note
  acknowledgement_has_ground note there =
      let of = of_map note_of (acknowledged_in workers) note there in
      inr (record { parcel = of.item; among = of.among; of = taken_has_ground of.item (acknowledged_taken workers of.item of.among); is = sym of.is })

  pub collected_has_ground : (note : Note) → Contains collected note → HasGround files (acknowledged_in workers) note
  collected_has_ground note there =
      by_case (Contains-append_cases fits.noted (notes_of (acknowledged_in workers)) note
      (often_contains same_note tells_notes (fits.noted ++ notes_of (acknowledged_in workers)) (collected ++ fits.notes) note fits.notes_are
      (Contains-append_left collected fits.notes note there)))
    where
      by_case : Contains fits.noted note ⊎ Contains (notes_of (acknowledged_in workers)) note → HasGround files (acknowledged_in workers) note
      by_case (inl told) = noted_has_ground note told
      by_case (inr acknowledged) = acknowledgement_has_ground note acknowledged

  pub each_has_ground : AllByRecursion (HasGround files (acknowledged_in workers)) collected
  each_has_ground = each_member (HasGround files (acknowledged_in workers)) collected collected_has_ground
