-- How many tails are open: one for each harvester more.
use Rattle.std.proofs.Common.{◌≡◌, inl, inr, ℕ, ◌+◌, ◌-◌, ◌^◌, ◌<◌, List, [], ◌∷◌, ◌++◌, length, Result, Ok, Err, ap, arith}
use Rattle.std.proofs.lemmas.List.{length-append}
use Rattle.event_tree.specs.declared.settings.Settings.{Settings}
use Rattle.harvester.specs.declared.harvester.Harvester.{Harvester}
use Rattle.lanes.specs.Laning.{Laning}
use Rattle.report.specs.declared.passing.Why.{Why}
use Rattle.report.specs.declared.passing.Why.TheVariants.{Doubled, Gone, Moved, Old, Small}
use Rattle.rounds.specs.Crewed.{lanings}
use Rattle.rounds.specs.Words.{TailWords}
use Rattle.rounds.specs.declared.crew.Crew.{Crew}
use Rattle.run_steps.specs.Beginning.{AdmitsAt, Beginning, BeginsOne, ClosesFile, ListedFile}
use Rattle.run_steps.specs.OpeningKeeps.{followed_by}
use Rattle.run_steps.specs.Releasing.{harvesters_of}
use Rattle.run_steps.specs.declared.begin_error.BeginError.{BeginError}
use Rattle.run_steps.specs.declared.begin_error.BeginError.TheVariants.{FolderFault, NoMemory, NoNative}
use Rattle.run_steps.specs.declared.begin.Admission.{Admission}
use Rattle.run_steps.specs.declared.begin.Admission.TheVariants.{Failed, Followed, Skipped}

many_in : {T : Type 0} (front back : List (Laning T)) (lane : Laning T) → length (harvesters_of (front ++ lane ∷ back)) ≡ length (harvesters_of front) + (length lane.harvesters + length (harvesters_of back))
many_in [] back lane = omega (arith, length-append lane.harvesters (harvesters_of back))
many_in (first ∷ front) back lane =
    omega (arith, length-append first.harvesters (harvesters_of (front ++ lane ∷ back)), length-append first.harvesters (harvesters_of front), many_in front back lane)

pub one_harvester_more : {T : Type 0} (number : ℕ) (harvester : Harvester T) (old new : List (Laning T)) → AdmitsAt number harvester old new → length (harvesters_of new) ≡ length (harvesters_of old) + 1
one_harvester_more number harvester old new admits =
    let lane = admits.lane in
    let after : Laning _ = record lane { harvesters = lane.harvesters ++ harvester ∷ [] } in
    omega (
      arith,
      ap (λ l. length (harvesters_of l)) admits.were,
      ap (λ l. length (harvesters_of l)) admits.are,
      many_in admits.front admits.back lane,
      many_in admits.front admits.back after,
      length-append lane.harvesters (harvester ∷ []),
    )

module _ {T W L : Type 0} (tails : TailWords T) (settings : Settings) (file : ListedFile) where
  as_many_closed : (Why : T → T → Type 0) (old new : Beginning T W L) → ClosesFile tails settings file Why old new → length (harvesters_of (lanings new.crew.lanes.items)) ≡ length (harvesters_of (lanings old.crew.lanes.items)) + 0
  as_many_closed Why old new closed = omega (
    arith,
    ap (λ (c : Crew T W L). length (harvesters_of (lanings c.lanes.items))) closed.opened.crew,
    ap (λ (c : Crew T W L). length (harvesters_of (lanings c.lanes.items))) closed.closed.closed.crew,
  )

  pub as_many_harvesters : (result : Result Admission BeginError) (old new : Beginning T W L) → BeginsOne tails settings file result old new
      → length (harvesters_of (lanings new.crew.lanes.items)) ≡ length (harvesters_of (lanings old.crew.lanes.items)) + followed_by result
  as_many_harvesters (Ok Followed) old new begins =
      omega (
        arith,
        ap (λ (c : Crew T W L). length (harvesters_of (lanings c.lanes.items))) begins.opened.crew,
        one_harvester_more _ begins.follows.harvester (lanings begins.mid.crew.lanes.items) (lanings new.crew.lanes.items) begins.follows.taken.admits,
      )
  as_many_harvesters (Ok (Skipped Gone)) old new begins = omega (arith, ap (λ (c : Crew T W L). length (harvesters_of (lanings c.lanes.items))) begins.crew)
  as_many_harvesters (Ok (Skipped Moved)) old new begins = as_many_closed _ old new begins
  as_many_harvesters (Ok (Skipped Doubled)) old new begins = absurd begins
  as_many_harvesters (Ok (Skipped Old)) old new begins = absurd begins
  as_many_harvesters (Ok (Skipped Small)) old new begins = as_many_closed _ old new begins
  as_many_harvesters (Ok Failed) old new (inr begins) = as_many_closed _ old new begins
  as_many_harvesters (Ok Failed) old new (inl begins) = omega (arith, ap (λ (c : Crew T W L). length (harvesters_of (lanings c.lanes.items))) begins.crew)
  as_many_harvesters (Err FolderFault) old new begins = absurd begins
  as_many_harvesters (Err NoMemory) old new (inl begins) = omega (arith, ap (λ (c : Crew T W L). length (harvesters_of (lanings c.lanes.items))) begins.crew)
  as_many_harvesters (Err (NoNative slot)) old new begins = as_many_closed _ old new begins.1
  as_many_harvesters (Err NoMemory) old new (inr (inr begins)) = as_many_closed _ old new begins
  as_many_harvesters (Err NoMemory) old new (inr (inl begins)) =
      omega (arith, ap (λ (c : Crew T W L). length (harvesters_of (lanings c.lanes.items))) begins.opened.crew, ap (λ l. length (harvesters_of l)) begins.gives_up.lanes.lanes)

  -- where the count of open tails does not stand at its end
  none_more_open : (Why : T → T → Type 0) (old new : Beginning T W L) → old.folder.open_tails < 2 ^ 64 - 1 → ClosesFile tails settings file Why old new → new.folder.open_tails ≡ old.folder.open_tails + 0
  none_more_open Why old new below closed = omega (arith, below, closed.opened.opens.open_tails, closed.closed.closed.closes.open_tails)

  pub as_many_open : (result : Result Admission BeginError) (old new : Beginning T W L) → old.folder.open_tails < 2 ^ 64 - 1 → BeginsOne tails settings file result old new
      → new.folder.open_tails ≡ old.folder.open_tails + followed_by result
  as_many_open (Ok Followed) old new below begins = omega (arith, below, begins.opened.opens.open_tails, ap (λ f. f.open_tails) begins.follows.taken.folder)
  as_many_open (Ok (Skipped Gone)) old new below begins = omega (arith, begins.opens.open_tails)
  as_many_open (Ok (Skipped Moved)) old new below begins = none_more_open _ old new below begins
  as_many_open (Ok (Skipped Doubled)) old new below begins = absurd begins
  as_many_open (Ok (Skipped Old)) old new below begins = absurd begins
  as_many_open (Ok (Skipped Small)) old new below begins = none_more_open _ old new below begins
  as_many_open (Ok Failed) old new below (inr begins) = none_more_open _ old new below begins
  as_many_open (Ok Failed) old new below (inl begins) = omega (arith, begins.opens.open_tails)
  as_many_open (Err FolderFault) old new below begins = absurd begins
  as_many_open (Err NoMemory) old new below (inl begins) = omega (arith, begins.opens.open_tails)
  as_many_open (Err (NoNative slot)) old new below begins = none_more_open _ old new below begins.1
  as_many_open (Err NoMemory) old new below (inr (inr begins)) = none_more_open _ old new below begins
  as_many_open (Err NoMemory) old new below (inr (inl begins)) = omega (arith, below, begins.opened.opens.open_tails, begins.gives_up.closes.open_tails)
