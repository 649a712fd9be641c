-- The notes that a run told, by its files and hidden rows, and how the books of its rounds fit what files told.
use Rattle.std.proofs.Common.{◌≡◌, inl, inr, ℕ, ◌≤◌, Contains, List, [], ◌++◌, append_assoc, Option, refl, sym, ap, subst, ◌∙◌, arith}
use Rattle.std.specs.Option.{option_map_or}
use Rattle.accounts.proofs.Lists.{each_then}
use Rattle.accounts.specs.Hidden.{Hidden}
use Rattle.accounts.specs.ToldNotes.{AreToldNotesAs, IsNotedAs, MayTellAs}
use Rattle.accounts.specs.Opened.{Opened}
use Rattle.accounts.specs.Taken.{FitBooks, Taken, acknowledged_in, carried_in, taken_in}
use Rattle.batch_worker.specs.Held.{notes_of}
use Rattle.keeper.specs.Keeping.{Keeping, held_in}
use Rattle.lanes.specs.Laning.{Laning}
use Rattle.pass_sums.proofs.Weights.{weigh-append}
use Rattle.pass_sums.specs.Weight.{AsOften, weigh}
use Rattle.prospect.specs.declared.listed.Listed.{Listed}
use Rattle.rounds.specs.Books.{ArePlaced, carried_by, flat, held_notes, held_parcels, owed_notes}
use Rattle.rounds.specs.declared.carrier.Carrier.{Carrier}
use Rattle.settle_box.specs.Senders.{notes}
use Rattle.wire_base.specs.declared.note.Note.{Note}
use Rattle.wire_base.specs.declared.parcel.Parcel.{Parcel}
use Rattle.wire_base.specs.declared.row.Row.{Row}
use Rattle.run_steps.specs.Telling.{moment_noted}
use Rattle.run_steps.specs.Begun.{AreBeginNotes, MayBegin, noted_begin}
use Rattle.run_steps.specs.LaterScans.{LaterScan}
use Rattle.run_steps.specs.SoFar.{SoFar, files_in}
use Rattle.run_steps.specs.Stands.{AreNoted, HaveGiven}
use Rattle.run_steps.proofs.LaterScans.{none_named}
use Rattle.run_steps.proofs.ListedLater.{first_entry}
use Rattle.run_steps.proofs.RunFiles.{moment_listed}
use Rattle.accounts.proofs.Settling.{taken_weighs}

-- ---- notes that it told

module _ (rows : List Row) (listed : List Listed) where
  abbrev changed : Opened → ℕ
  changed = moment_listed rows listed

  module _ (scans : List LaterScan) (none : scans ≡ []) (opened : List Opened) (hiddens : List Hidden) (begun : List Note) (are : AreBeginNotes scans rows listed opened hiddens begun) where
    may_tell : (note : Note) → MayBegin scans rows listed opened hiddens note → MayTellAs changed opened hiddens note
    may_tell note (inl of) =
        inl (record { opened = of.file; of_files = of.among; begins = record { path = of.file.begin.path; moment = record { 0 = 0 }; is = of.is; within = omega arith } })
    may_tell note (inr (inl of)) = inr (inl (record {
      opened = of.file;
      of_files = of.among;
      moment = moment_noted rows of.one;
      is = of.is;
      within = within (ap (λ (o : Option Listed). option_map_or (λ (entry : Listed). (moment_noted rows entry).0) o 0) (first_entry scans listed of.file of.one none of.listed_there));
    }))
      where
        within : changed of.file ≡ (moment_noted rows of.one).0 → (moment_noted rows of.one).0 ≤ changed of.file
        within is = omega (arith, is)
    may_tell note (inr (inr (inl of))) = inr (inr of)
    may_tell note (inr (inr (inr of))) = absurd (none_named scans none of.file of.name of.named)

    pub told_notes : AreToldNotesAs changed opened hiddens begun
    told_notes = record {
      each = each_then (MayBegin scans rows listed opened hiddens) (MayTellAs changed opened hiddens) begun may_tell are.each;
      begun = each_then (λ (one : Opened). Contains begun (noted_begin one.begin)) (IsNotedAs begun) opened (λ one there. record { path = one.begin.path; moment = record { 0 = 0 }; there = there }) are.begun;
      hidden_begun = are.hidden_begun;
    }

-- ---- the books

-- what is noted and neither collected nor settled
abbrev pub others_in : {T W L : Type 0} → List (Laning T) → List (Carrier W L) → Keeping → List Note → List Note
others_in lanes carriers keeper boxed = held_in keeper.held ++ (boxed ++ (held_notes lanes ++ owed_notes carriers))

module _ {T W L : Type 0} (lanes : List (Laning T)) (carriers : List (Carrier W L)) (keeper : Keeping) (so_far : SoFar) (gave : HaveGiven so_far.told (files_in so_far))
    (placed : ArePlaced so_far.told lanes carriers so_far.queued (notes keeper.pass.got) so_far.boxed) (opening : List Row) (noted : AreNoted opening keeper so_far.begun so_far.collected)
    (workers : List Taken) (acknowledged : acknowledged_in workers ≡ flat so_far.told.acknowledged) (carried : carried_in workers ≡ carried_by carriers) where
  abbrev others : List Note
  others = others_in lanes carriers keeper so_far.boxed

  in_turn : notes keeper.pass.got ++ (so_far.boxed ++ (held_notes lanes ++ owed_notes carriers)) ≡ so_far.collected ++ others
  in_turn =
      ap (λ (l : List Note). l ++ (so_far.boxed ++ (held_notes lanes ++ owed_notes carriers))) noted.got
      ∙ append_assoc so_far.collected (held_in keeper.held) (so_far.boxed ++ (held_notes lanes ++ owed_notes carriers))

  parcels_placed : AsOften so_far.told.issued ((held_parcels lanes ++ so_far.queued) ++ taken_in workers)
  parcels_placed h =
      let sums = placed.parcels h in
      let one = weigh-append h (held_parcels lanes) (so_far.queued ++ (carried_by carriers ++ flat so_far.told.acknowledged)) in
      let two = weigh-append h so_far.queued (carried_by carriers ++ flat so_far.told.acknowledged) in
      let three = weigh-append h (carried_by carriers) (flat so_far.told.acknowledged) in
      let taken = taken_weighs h workers in
      let got : weigh h (acknowledged_in workers) ≡ weigh h (flat so_far.told.acknowledged) = ap (weigh h) acknowledged in
      let kept : weigh h (carried_in workers) ≡ weigh h (carried_by carriers) = ap (weigh h) carried in
      let both = weigh-append h (held_parcels lanes ++ so_far.queued) (taken_in workers) in
      let own = weigh-append h (held_parcels lanes) so_far.queued in
      omega (arith, sums, one, two, three, taken, got, kept, both, own)

  -- each parcel and each note has its place
  pub record FitWith : Type 0 where
    pub fits : FitBooks (files_in so_far) workers so_far.collected
    pub others_are : fits.notes ≡ others

  pub books_fit : FitWith
  books_fit = record {
    fits = record {
      issued = so_far.told.issued;
      noted = so_far.told.noted;
      issued_are = gave.parcels;
      noted_are = gave.notes_are;
      parcels = held_parcels lanes ++ so_far.queued;
      parcels_are = parcels_placed;
      notes = others;
      notes_are =
          subst (λ (l : List Parcel). AsOften (so_far.told.noted ++ notes_of l) (so_far.collected ++ others)) (sym acknowledged)
          (subst (λ (l : List Note). AsOften (so_far.told.noted ++ notes_of (flat so_far.told.acknowledged)) l) in_turn placed.notes);
    };
    others_are = refl;
  }
