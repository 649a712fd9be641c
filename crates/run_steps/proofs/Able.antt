-- Lanes of which one has one more harvester: what holds of each harvester, and that rounds may follow.
use Rattle.std.specs.List.{AllByRecursion}
use Rattle.std.proofs.Common.{◌≡◌, ◌≢◌, ◌⊎◌, inl, inr, All, List, [], ◌∷◌, ◌++◌, sym, ap, subst, ◌∙◌}
use Rattle.std.proofs.lemmas.List.{map-append}
use Rattle.std.proofs.lemmas.List.Elements.{All-append, All-cons, All-from_recursion, All-nil, recursion_from_All}
use Rattle.atomic_table.specs.Seated.{TableId}
use Rattle.event_tree.specs.declared.settings.Settings.{Settings}
use Rattle.harvester.specs.declared.harvester.Harvester.{Harvester}
use Rattle.lanes.specs.Laning.{Laning}
use Rattle.lanes.specs.Turned.{IsKnown}
use Rattle.rounds.specs.Crewed.{lane_passes, lanes_passes, lanings}
use Rattle.rounds.specs.Crewing.{crewing}
use Rattle.rounds.specs.Rounds.{IsAble}
use Rattle.rounds.specs.Running.{IsLaneReady}
use Rattle.rounds.specs.Words.{TailWords}
use Rattle.rounds.specs.declared.carrier.Carrier.{Carrier}
use Rattle.rounds.specs.declared.storing.Storing.{Storing}
use Rattle.run_steps.specs.Beginning.{Beginning, IsOpenedFor, ListedFile}
use Rattle.run_steps.proofs.Having.{have_still, some_still}
use Rattle.run_steps.proofs.Keeps.{BeginKeeps, TakesOne, as_many_lanes, carriers_kept}

-- one of a list in another's place
one_changed : {A : Type 0} (P : A → Type 0) (front back : List A) (x y : A) → (P x → P y) → AllByRecursion P (front ++ x ∷ back) → AllByRecursion P (front ++ y ∷ back)
one_changed P [] back x y then each = (then each.0, each.1)
one_changed P (z ∷ front) back x y then each = (each.0, one_changed P front back x y then each.1)

module _ {T : Type 0} (tails : TailWords T) (settings : Settings) (file : ListedFile) (old new : List (Laning T)) where
  -- what holds of each lane still does, where one more harvester leaves it so
  each_lane_on : (P : Laning T → Type 0)
      → ((lane : Laning T) (tail : T) (harvester : Harvester T) → IsOpenedFor tails settings file tail harvester → P lane → P (record lane { harvesters = lane.harvesters ++ harvester ∷ [] }))
      → (new ≡ old) ⊎ TakesOne tails settings file old new → All P old → All P new
  each_lane_on P then (inl same) each = subst (All P) (sym same) each
  each_lane_on P then (inr one) each =
      let lane = one.admits.lane in
      subst (All P) (sym one.admits.are)
      (All-from_recursion P (one.admits.front ++ (record lane { harvesters = lane.harvesters ++ one.harvester ∷ [] }) ∷ one.admits.back)
      (one_changed P one.admits.front one.admits.back lane (record lane { harvesters = lane.harvesters ++ one.harvester ∷ [] }) (then lane one.tail one.harvester one.opened)
      (recursion_from_All P (one.admits.front ++ lane ∷ one.admits.back) (subst (All P) one.admits.were each))))

  -- what holds of each harvester still does, where it holds of the one that came
  pub each_harvester_on : (P : Harvester T → Type 0) → ((tail : T) (harvester : Harvester T) → IsOpenedFor tails settings file tail harvester → P harvester)
      → (new ≡ old) ⊎ TakesOne tails settings file old new → All (λ (lane : Laning T). All P lane.harvesters) old → All (λ (lane : Laning T). All P lane.harvesters) new
  each_harvester_on P then = each_lane_on (λ (lane : Laning T). All P lane.harvesters)
      (λ lane tail harvester opened each. All-append P lane.harvesters (harvester ∷ []) each (All-cons P harvester [] (then tail harvester opened) (All-nil P)))

  passes_kept : (new ≡ old) ⊎ TakesOne tails settings file old new → lanes_passes new ≡ lanes_passes old
  passes_kept (inl same) = ap lanes_passes same
  passes_kept (inr one) =
      let lane = one.admits.lane in
      ap lanes_passes one.admits.are
      ∙ map-append lane_passes one.admits.front ((record lane { harvesters = lane.harvesters ++ one.harvester ∷ [] }) ∷ one.admits.back)
      ∙ sym (map-append lane_passes one.admits.front (lane ∷ one.admits.back))
      ∙ sym (ap lanes_passes one.admits.were)

  lanes_ready_on : (queue desk : TableId) → (new ≡ old) ⊎ TakesOne tails settings file old new → All (IsLaneReady tails queue desk) old → All (IsLaneReady tails queue desk) new
  lanes_ready_on queue desk = each_lane_on (IsLaneReady tails queue desk) (λ lane tail harvester opened ready. record {
    passes = ready.passes;
    in_range = ready.in_range;
    known = All-append (IsKnown tails.numbers tails.told) lane.harvesters (harvester ∷ []) ready.known
        (All-cons (IsKnown tails.numbers tails.told) harvester [] (_, opened.told) (All-nil (IsKnown tails.numbers tails.told)));
  })

-- a crew that may make rounds still may
pub able_on : {T W L D : Type 0} (tails : TailWords T) (settings : Settings) (file : ListedFile) (old new : Beginning T W L) → BeginKeeps tails settings file old new → (queue desk : TableId) (storing later : Storing D)
    → later.keeper.now.pass ≡ storing.keeper.now.pass → IsAble tails queue desk (crewing old.crew storing) → IsAble tails queue desk (crewing new.crew later)
able_on {T} {W} {L} tails settings file old new keeps queue desk storing later pass able =
    let passes : lanes_passes (lanings new.crew.lanes.items) ≡ lanes_passes (lanings old.crew.lanes.items) = passes_kept tails settings file (lanings old.crew.lanes.items) (lanings new.crew.lanes.items) keeps.lanes in
    let items : new.crew.carriers.items ≡ old.crew.carriers.items = ap (λ v. v.items) (carriers_kept tails settings file old new keeps) in
    record {
      some_lanes = some_still old.crew.lanes.items new.crew.lanes.items (as_many_lanes tails settings file old new keeps) able.some_lanes;
      some_carriers = subst (λ (l : List (Carrier W L)). l ≢ []) (sym items) able.some_carriers;
      have = have_still queue desk (lanings old.crew.lanes.items) (lanings new.crew.lanes.items) old.crew.carriers.items new.crew.carriers.items passes items able.have;
      lanes = lanes_ready_on tails settings file (lanings old.crew.lanes.items) (lanings new.crew.lanes.items) queue desk keeps.lanes able.lanes;
      pass = ap (λ p. p.desk) pass ∙ able.pass;
    }
