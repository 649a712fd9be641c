-- Where all lanes are done, each file is read through: it is told to its end, or was found to have another key.
use Rattle.std.proofs.Common.{◌≢◌, ◌≡◌, inl, inr, ⊎_elim, ℕ, Bool, true, ◌||◌, List, [], ◌∷◌, ◌++◌, Contains, Option, sym, ap, ◌∙◌}
use Rattle.std.proofs.lemmas.List.Elements.{All-contains}
use Rattle.std.specs.List.{AllByRecursion, flat_map}
use Rattle.accounts.specs.Opened.{Opened}
use Rattle.accounts.specs.ToldFile.{IsReadThrough}
use Rattle.accounts.specs.Turned.{Turned}
use Rattle.accounts.specs.Turning.{IsTurnedSo, Pairs}
use Rattle.accounts.specs.Watch.{Watch}
use Rattle.harvester.specs.Standing.{stage_of}
use Rattle.harvester.specs.declared.harvester.Harvester.{Harvester}
use Rattle.harvester.specs.declared.stage.Stage.TheVariants as stage
use Rattle.lanes.specs.Done.{IsDone, IsThrough}
use Rattle.lanes.specs.Laning.{Laning}
use Rattle.outside.specs.Tails.{TailHistory}
use Rattle.ship_core.proofs.Members.{first_there, later_there}

-- ---- one by one

module _ {T : Type 0} (numbers : T → Option (ℕ × ℕ)) (told : T → Option TailHistory) (watch : Watch) (files : List Opened) (moments : List ℕ) (once : watch.once ≡ true) where
  abbrev Stands : Turned → Harvester T → Type 0
  Stands = IsTurnedSo numbers told watch files moments

  abbrev ReadThrough : Turned → Type 0
  ReadThrough turned = IsReadThrough turned.history

  -- one that rests is told to its end, and one that is changed is read no further
  one_ends : (turned : Turned) (harvester : Harvester T) → Stands turned harvester → harvester.reader.stage ≢ stage.Over → IsThrough harvester → ReadThrough turned
  one_ends turned harvester stands not_over through =
      ⊎_elim (λ rests. inl ((stands.rests rests.rests).told (ap (λ (b : Bool). b || turned.history.ends) once)))
      (λ changed. ⊎_elim (λ other. inr (sym stands.has_told.held.holds.follows.stage ∙ ap stage_of other)) (λ over. absurd (not_over over)) changed) through

  each_ends : (ts : List Turned) (harvesters : List (Harvester T)) → Pairs Stands ts harvesters →
      AllByRecursion (λ (h : Harvester T). h.reader.stage ≢ stage.Over) harvesters → ((h : Harvester T) → Contains harvesters h → IsThrough h) → AllByRecursion ReadThrough ts
  each_ends [] harvesters stand over through = tt
  each_ends (turned ∷ ts) [] stand over through = absurd stand
  each_ends (turned ∷ ts) (harvester ∷ harvesters) stand over through = (
    one_ends turned harvester stand.0 over.0 (through harvester (first_there harvester harvesters)),
    each_ends ts harvesters stand.1 over.1 (λ h there. through h (later_there harvester h harvesters there)),
  )

  each_both : (first second : List Turned) → AllByRecursion ReadThrough first → AllByRecursion ReadThrough second → AllByRecursion ReadThrough (first ++ second)
  each_both [] second one other = other
  each_both (turned ∷ first) second one other = (one.0, each_both first second one.1 other)

  -- ---- lane by lane

  abbrev LaneStands : List Turned → Laning T → Type 0
  LaneStands turned lane = Pairs Stands turned lane.harvesters

  pub all_end : (files_by_lane : List (List Turned)) (lanes : List (Laning T)) → Pairs LaneStands files_by_lane lanes →
      AllByRecursion (λ (lane : Laning T). AllByRecursion (λ (h : Harvester T). h.reader.stage ≢ stage.Over) lane.harvesters) lanes →
      AllByRecursion IsDone lanes → AllByRecursion ReadThrough (flat_map (λ (turned : List Turned). turned) files_by_lane)
  all_end [] lanes stand over done = tt
  all_end (turned ∷ others) [] stand over done = absurd stand
  all_end (turned ∷ others) (lane ∷ lanes) stand over done =
      each_both turned (flat_map (λ (ts : List Turned). ts) others)
      (each_ends turned lane.harvesters stand.0 over.0 (λ h there. All-contains IsThrough lane.harvesters h done.0.through there))
      (all_end others lanes stand.1 over.1 done.1)
