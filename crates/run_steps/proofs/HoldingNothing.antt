-- Lanes that hold nothing hold nothing still as what was noted is stored.
use Rattle.std.proofs.Common.{◌≡◌, ℕ, List, [], ◌∷◌, ◌++◌, refl, sym, ap, ◌∙◌}
use Rattle.lanes.specs.Giving.{notes_in, parcels_in}
use Rattle.lanes.specs.Laning.{Laning, without_passes}
use Rattle.lanes.specs.declared.given.Given.{Given}
use Rattle.lanes.specs.declared.given.Given.TheVariants as given
use Rattle.mem_queue.specs.BoundedQueue.{BoundedQueue}
use Rattle.rounds.specs.Crewed.{bare_lanes, lanings}
use Rattle.rounds.specs.Crewing.{Crewing}
use Rattle.rounds.specs.Pairs.{Pairs}
use Rattle.rounds.specs.Settling.{LaneHandedOn, Settles}
use Rattle.rounds.specs.Words.{Words}
use Rattle.rounds.specs.declared.answer.Round.{Round}
use Rattle.settle_box.specs.BoundedBox.{BoundedBox}
use Rattle.run_steps.specs.Looking.{HoldNothing}

pub rest_none : {A : Type 0} (xs ys : List A) → xs ++ ys ≡ [] → ys ≡ []
rest_none [] ys none = none
rest_none (x ∷ xs) ys none = absurd (let no : x ∷ (xs ++ ys) ≡ [] = none in cc)

pub holds_nothing : (what : Given) → parcels_in what ≡ [] → notes_in what ≡ [] → what ≡ given.Nothing
holds_nothing (given.Parcel parcel) none other = absurd (let no : parcel ∷ [] ≡ [] = none in cc)
holds_nothing (given.Note note) none other = absurd (let no : note ∷ [] ≡ [] = other in cc)
holds_nothing given.Nothing none other = refl

module _ {T : Type 0} where
  nothing_handed_on : (box : ℕ) (olds news : List (Laning T)) → Pairs (LaneHandedOn box) olds news → HoldNothing olds → HoldNothing news
  nothing_handed_on box [] [] handed nothing = tt
  nothing_handed_on box [] (new ∷ news) handed nothing = absurd handed
  nothing_handed_on box (old ∷ olds) [] handed nothing = absurd handed
  nothing_handed_on box (old ∷ olds) (new ∷ news) handed nothing = (
    holds_nothing new.held (handed.0.parcels_are ∙ ap parcels_in nothing.0) (rest_none handed.0.posted (notes_in new.held) (sym handed.0.notes_are ∙ ap notes_in nothing.0)),
    nothing_handed_on box olds news handed.1 nothing.1,
  )

  nothing_met : (lanes later : List (Laning T)) → bare_lanes later ≡ bare_lanes lanes → HoldNothing lanes → HoldNothing later
  nothing_met [] [] same nothing = tt
  nothing_met [] (other ∷ later) same nothing = absurd cc
  nothing_met (lane ∷ lanes) [] same nothing = absurd cc
  nothing_met (lane ∷ lanes) (other ∷ later) same nothing =
      let bare : without_passes other ≡ without_passes lane = cc in
      let here : other.held ≡ lane.held = ap (λ (l : Laning T). l.held) bare in
      let rest : bare_lanes later ≡ bare_lanes lanes = cc in
      (here ∙ nothing.0, nothing_met lanes later rest nothing.1)

module _ {T W L D : Type 0} (words : Words T W L D) (queue : BoundedQueue) (desk : BoundedBox) (old new : Crewing T W L D) (round : Round) (settles : Settles words queue desk old new round) where
  pub nothing_by_settling : HoldNothing (lanings old.lanes.items) → HoldNothing (lanings new.lanes.items)
  nothing_by_settling nothing =
      nothing_met (lanings settles.mid.lanes.items) (lanings new.lanes.items) settles.meets.met.lanes_same
      (nothing_handed_on desk.capacity (lanings old.lanes.items) (lanings settles.mid.lanes.items) settles.handed.lanes nothing)
