-- Each note has its ground in what was told of the files, in whatever order they are taken, or in what was acknowledged.
use Rattle.std.proofs.Common.{◌≡◌, List, [], ◌∷◌, ◌++◌, map, append_assoc, append-nil, refl, sym, ap, subst, ◌∙◌, arith}
use Rattle.std.specs.List.{AllByRecursion, flat_map}
use Rattle.accounts.specs.Ground.{HasGround}
use Rattle.accounts.specs.Taken.{FitBooks, Taken, acknowledged_in, taken_in}
use Rattle.accounts.specs.Turned.{Turned, notes_told, parcels_told}
use Rattle.accounts.proofs.Grounded.{each_has_ground}
use Rattle.accounts.proofs.Often.{often_then}
use Rattle.batch_worker.specs.Held.{notes_of}
use Rattle.lanes.specs.Laning.{Laning}
use Rattle.pass_sums.specs.Weight.{AsOften, weigh}
use Rattle.pass_sums.proofs.Weights.{weigh-append}
use Rattle.rounds.specs.Books.{ArePlaced, Heard, Told, carried_by, flat, held_notes, held_parcels, owed_notes}
use Rattle.rounds.specs.declared.carrier.Carrier.{Carrier}
use Rattle.wire_base.specs.declared.note.Note.{Note}
use Rattle.wire_base.specs.declared.parcel.Parcel.{Parcel}
use Rattle.run_steps.specs.Stands.{AreAllBacked, HaveGiven}
use Rattle.accounts.proofs.Joining.{told_as_often}

-- ---- what workers took

-- what was acknowledged, worker by worker, with nothing that is carried
abbrev pub heard_only : List Heard → List Taken
heard_only heard = map (λ (h : Heard). record { acknowledged = h.parcels; carried = [] }) heard

pub acknowledged_same : (heard : List Heard) → acknowledged_in (heard_only heard) ≡ flat heard
acknowledged_same [] = refl
acknowledged_same (h ∷ heard) = ap (λ (l : List Parcel). h.parcels ++ l) (acknowledged_same heard)

taken_same : (heard : List Heard) → taken_in (heard_only heard) ≡ flat heard
taken_same [] = refl
taken_same (h ∷ heard) = append_assoc h.parcels [] (taken_in (heard_only heard)) ∙ ap (λ (l : List Parcel). h.parcels ++ l) (taken_same heard)

-- ---- ground

module _ {T W L : Type 0} (lanes : List (Laning T)) (carriers : List (Carrier W L)) (queued : List Parcel) (got boxed : List Note) (told : Told) (files : List Turned)
    (gave : HaveGiven told files) (placed : ArePlaced told lanes carriers queued got boxed) where
  -- all that was collected, is in the box, or is held or owed
  abbrev all_notes : List Note
  all_notes = got ++ (boxed ++ (held_notes lanes ++ owed_notes carriers))

  module _ (turned : List Turned) (same : AsOften files turned) where
    fits : FitBooks turned (heard_only told.acknowledged) all_notes
    fits = record {
      issued = told.issued;
      noted = told.noted;
      issued_are = often_then told.issued (flat_map parcels_told files) (flat_map parcels_told turned) gave.parcels (told_as_often parcels_told files turned same);
      noted_are = often_then told.noted (flat_map notes_told files) (flat_map notes_told turned) gave.notes_are (told_as_often notes_told files turned same);
      parcels = held_parcels lanes ++ (queued ++ carried_by carriers);
      parcels_are = λ h. omega (
        arith,
        placed.parcels h,
        weigh-append h (held_parcels lanes) (queued ++ (carried_by carriers ++ flat told.acknowledged)),
        weigh-append h queued (carried_by carriers ++ flat told.acknowledged),
        weigh-append h (carried_by carriers) (flat told.acknowledged),
        weigh-append h (held_parcels lanes ++ (queued ++ carried_by carriers)) (taken_in (heard_only told.acknowledged)),
        weigh-append h (held_parcels lanes) (queued ++ carried_by carriers),
        weigh-append h queued (carried_by carriers),
        ap (weigh h) (taken_same told.acknowledged),
      );
      notes = [];
      notes_are = subst (λ (l : List Note). AsOften (told.noted ++ notes_of (acknowledged_in (heard_only told.acknowledged))) l) (sym (append-nil all_notes))
          (subst (λ (l : List Parcel). AsOften (told.noted ++ notes_of l) all_notes) (sym (acknowledged_same told.acknowledged)) placed.notes);
    }

    all_have_ground : AllByRecursion (HasGround turned (flat told.acknowledged)) all_notes
    all_have_ground =
        subst (λ (l : List Parcel). AllByRecursion (HasGround turned l) all_notes) (acknowledged_same told.acknowledged) (each_has_ground turned (heard_only told.acknowledged) all_notes fits)

    -- of the first ones of what was collected
    pub have_ground : (collected held : List Note) → got ≡ collected ++ held → AllByRecursion (HasGround turned (flat told.acknowledged)) collected
    have_ground collected held are =
        let rest = boxed ++ (held_notes lanes ++ owed_notes carriers) in
        first collected (held ++ rest)
        (subst (λ (l : List Note). AllByRecursion (HasGround turned (flat told.acknowledged)) l) (ap (λ (l : List Note). l ++ rest) are ∙ append_assoc collected held rest) all_have_ground)
      where
        first : (xs ys : List Note) → AllByRecursion (HasGround turned (flat told.acknowledged)) (xs ++ ys) → AllByRecursion (HasGround turned (flat told.acknowledged)) xs
        first [] ys each = tt
        first (x ∷ xs) ys each = (each.0, first xs ys each.1)

  pub all_backed : AreAllBacked (record { lanes = lanes; carriers = carriers; got = got }) (record { files = files; told = told; queued = queued; boxed = boxed })
  all_backed = all_have_ground files (λ h. refl)
