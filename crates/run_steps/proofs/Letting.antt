-- A crew whose harvesters were let go may end, and may be settled before.
use Rattle.std.specs.List.{AllByRecursion}
use Rattle.std.specs.Vec.{with_items}
use Rattle.std.proofs.Common.{◌≡◌, ◌≢◌, ℕ, Bool, All, List, [], ◌∷◌, ◌++◌, Vec, length, Option, Some, None, IsSome, refl, sym, ap, subst, ◌∙◌, arith}
use Rattle.std.proofs.lemmas.List.{length-append, length-map, with_items_is}
use Rattle.std.proofs.lemmas.List.Elements.{All-from_recursion, recursion_from_All}
use Rattle.atomic_table.specs.Seated.{TableId}
use Rattle.harvester.specs.declared.harvester.Harvester.{Harvester}
use Rattle.lanes.specs.Laning.{Laning, laning}
use Rattle.lanes.specs.Turned.{IsKnown}
use Rattle.lanes.specs.declared.lane.Lane.{Lane}
use Rattle.mem_queue.specs.Known.{Known}
use Rattle.settle_box.specs.Poster.{Poster}
use Rattle.rounds.specs.Crewed.{carriers_passes, lanes_passes, lanings}
use Rattle.rounds.specs.Crewing.{Crewing}
use Rattle.rounds.specs.Passes.{AreAllOf, IsOfBox, IsOfQueue}
use Rattle.rounds.specs.Rounds.{IsAble}
use Rattle.rounds.specs.Running.{IsLaneReady}
use Rattle.rounds.specs.Settled.{spans_told}
use Rattle.rounds.specs.Words.{TailWords}
use Rattle.rounds.specs.declared.carrier.Carrier.{Carrier}
use Rattle.run_steps.specs.CarriersEnd.{HasCarrierPasses, HasLanePasses}
use Rattle.run_steps.specs.ClosesTail.{ClosesFailed, ClosesSome, ClosesTails, Readers}
use Rattle.run_steps.specs.FolderSeen.{FolderSeen}
use Rattle.run_steps.specs.Releasing.{HasNoHarvesters, harvesters_of}
use Rattle.run_steps.proofs.Having.{have_still, some_still}
use Rattle.run_steps.proofs.LessOne.{each_less, less}
use Rattle.run_steps.proofs.LettingGo.{as_many_lanes, new_is, passes_kept, spans_kept, with_these}

-- ---- the passes are there

there : (queue : TableId) (pass : Option Known) → IsOfQueue queue pass → IsSome pass
there queue None is = absurd is
there queue (Some pass) is = refl

there_too : (desk : TableId) (pass : Option Poster) → IsOfBox desk pass → IsSome pass
there_too desk None is = absurd is
there_too desk (Some pass) is = refl

module _ (queue desk : TableId) where
  lanes_each : {T : Type 0} (tails : TailWords T) (lanes : List (Laning T)) → AllByRecursion (IsLaneReady tails queue desk) lanes → AllByRecursion HasLanePasses lanes
  lanes_each tails [] ready = tt
  lanes_each tails (lane ∷ lanes) ready =
      (record { put = there queue lane.put ready.0.passes.moves; post = there_too desk lane.post ready.0.passes.post }, lanes_each tails lanes ready.1)

  carriers_each : {W L : Type 0} (carriers : List (Carrier W L)) → AreAllOf queue desk (carriers_passes carriers) → AllByRecursion HasCarrierPasses carriers
  carriers_each [] have = tt
  carriers_each (carrier ∷ carriers) have =
      (record { take = there queue carrier.worker.take have.0.moves; post = there_too desk carrier.worker.post have.0.post }, carriers_each carriers have.1)

  module _ {T W L D : Type 0} (tails : TailWords T) (crew : Crewing T W L D) (able : IsAble tails queue desk crew) where
    pub lanes_have_passes : All HasLanePasses (lanings crew.lanes.items)
    lanes_have_passes = All-from_recursion HasLanePasses (lanings crew.lanes.items) (lanes_each tails (lanings crew.lanes.items) (recursion_from_All (IsLaneReady tails queue desk) (lanings crew.lanes.items) able.lanes))

    pub carriers_have_passes : All HasCarrierPasses crew.carriers.items
    carriers_have_passes = All-from_recursion HasCarrierPasses crew.carriers.items (carriers_each crew.carriers.items able.have.carriers_have)

-- ---- once harvesters were let go

module _ {T : Type 0} (tails : TailWords T) where
  pub many_by_some : (closed : List (Harvester T)) (old new : Readers T) → ClosesTails tails closed old new → length new.lanes ≡ length old.lanes
  many_by_some [] old new same = ap (λ (r : Readers T). length r.lanes) same
  many_by_some (one ∷ more) old new closes = many_by_some more closes.0 new closes.2 ∙ as_many_lanes one old.lanes closes.0.lanes closes.1.lets_go

  passes_by_some : (closed : List (Harvester T)) (old new : Readers T) → ClosesTails tails closed old new → lanes_passes new.lanes ≡ lanes_passes old.lanes
  passes_by_some [] old new same = ap (λ (r : Readers T). lanes_passes r.lanes) same
  passes_by_some (one ∷ more) old new closes = passes_by_some more closes.0 new closes.2 ∙ passes_kept one old.lanes closes.0.lanes closes.1.lets_go

  pub spans_by_some : (closed : List (Harvester T)) (old new : Readers T) → ClosesTails tails closed old new → spans_told new.lanes ≡ spans_told old.lanes
  spans_by_some [] old new same = ap (λ (r : Readers T). spans_told r.lanes) same
  spans_by_some (one ∷ more) old new closes = spans_by_some more closes.0 new closes.2 ∙ spans_kept one old.lanes closes.0.lanes closes.1.lets_go

  module _ (queue desk : TableId) where
    abbrev Ready : Laning T → Type 0
    Ready = IsLaneReady tails queue desk

    ready_at : (front : List (Laning T)) (lane : Laning T) (k : ℕ) (back : List (Laning T)) → AllByRecursion Ready (front ++ lane ∷ back) → AllByRecursion Ready (front ++ with_these (less lane.harvesters k) lane ∷ back)
    ready_at [] lane k back ready = (
      record {
        passes = ready.0.passes;
        in_range = ready.0.in_range;
        known = All-from_recursion (IsKnown tails.numbers tails.told) (less lane.harvesters k) (each_less (IsKnown tails.numbers tails.told) lane.harvesters k (recursion_from_All (IsKnown tails.numbers tails.told) lane.harvesters ready.0.known));
      },
      ready.1,
    )
    ready_at (first ∷ front) lane k back ready = (ready.0, ready_at front lane k back ready.1)

    ready_by_some : (closed : List (Harvester T)) (old new : Readers T) → ClosesTails tails closed old new → AllByRecursion Ready old.lanes → AllByRecursion Ready new.lanes
    ready_by_some [] old new same ready = subst (λ (r : Readers T). AllByRecursion Ready r.lanes) (sym same) ready
    ready_by_some (one ∷ more) old new closes ready =
        let go = closes.1.lets_go in
        ready_by_some more closes.0 new closes.2 (subst (AllByRecursion Ready) (sym (new_is one old.lanes closes.0.lanes go))
        (ready_at go.front go.lane go.seat go.back (subst (AllByRecursion Ready) go.were ready)))

-- what was done to the slice of the crew's lanes is done to these
pub closed_in : {T Z : Type 0} (tails : TailWords T) (closed : List (Harvester T)) (old new : FolderSeen) (lanes : Vec (Lane T) Z) (later : List (Lane T)) →
    ClosesTails tails closed (record { folder = old; lanes = lanings lanes.items }) (record { folder = new; lanes = lanings later }) → lanings (with_items lanes later).items ≡ lanings later
closed_in {T} tails closed old new lanes later closes =
    ap lanings (with_items_is lanes later (sym (length-map later laning)
    ∙ many_by_some tails closed (record { folder = old; lanes = lanings lanes.items }) (record { folder = new; lanes = lanings later }) closes ∙ length-map lanes.items laning ∙ sym lanes.ok.0))

-- and they closed the same
pub failed_in : {T Z : Type 0} (tails : TailWords T) (failed : Bool) (old new : FolderSeen) (lanes : Vec (Lane T) Z) (given later : List (Lane T)) → given ≡ lanes.items →
    ClosesFailed tails failed (record { folder = old; lanes = lanings given }) (record { folder = new; lanes = lanings later }) →
    ClosesFailed tails failed (record { folder = old; lanes = lanings lanes.items }) (record { folder = new; lanes = lanings (with_items lanes later).items })
failed_in {T} tails failed old new lanes given later same closes =
    let here : ClosesFailed tails failed (record { folder = old; lanes = lanings lanes.items }) (record { folder = new; lanes = lanings later }) =
    subst (λ (l : List (Lane T)). ClosesFailed tails failed (record { folder = old; lanes = lanings l }) (record { folder = new; lanes = lanings later })) same closes in
    subst (λ (l : List (Laning T)). ClosesFailed tails failed (record { folder = old; lanes = lanings lanes.items }) (record { folder = new; lanes = l }))
    (sym (closed_in tails here.closes.closed old new lanes later here.closes.each)) here

pub some_in : {T Z : Type 0} (tails : TailWords T) (old new : FolderSeen) (lanes : Vec (Lane T) Z) (given later : List (Lane T)) → given ≡ lanes.items →
    ClosesSome tails (record { folder = old; lanes = lanings given }) (record { folder = new; lanes = lanings later }) →
    ClosesSome tails (record { folder = old; lanes = lanings lanes.items }) (record { folder = new; lanes = lanings (with_items lanes later).items })
some_in {T} tails old new lanes given later same closes =
    let here : ClosesSome tails (record { folder = old; lanes = lanings lanes.items }) (record { folder = new; lanes = lanings later }) =
    subst (λ (l : List (Lane T)). ClosesSome tails (record { folder = old; lanes = lanings l }) (record { folder = new; lanes = lanings later })) same closes in
    subst (λ (l : List (Laning T)). ClosesSome tails (record { folder = old; lanes = lanings lanes.items }) (record { folder = new; lanes = l }))
    (sym (closed_in tails here.closed old new lanes later here.each)) here

-- where none of them has a harvester more
pub none_in : {T Z : Type 0} (tails : TailWords T) (old new : FolderSeen) (lanes : Vec (Lane T) Z) (given later : List (Lane T)) → All HasNoHarvesters (lanings later) → given ≡ lanes.items →
    ClosesSome tails (record { folder = old; lanes = lanings given }) (record { folder = new; lanes = lanings later }) → All HasNoHarvesters (lanings (with_items lanes later).items)
none_in {T} tails old new lanes given later none same closes =
    let here : ClosesSome tails (record { folder = old; lanes = lanings lanes.items }) (record { folder = new; lanes = lanings later }) =
    subst (λ (l : List (Lane T)). ClosesSome tails (record { folder = old; lanes = lanings l }) (record { folder = new; lanes = lanings later })) same closes in
    subst (All HasNoHarvesters) (sym (closed_in tails here.closed old new lanes later here.each)) none

pub none_many : {T : Type 0} (lanes : List (Laning T)) → All HasNoHarvesters lanes → length (harvesters_of lanes) ≡ 0
none_many {T} lanes none = by_each lanes (recursion_from_All HasNoHarvesters lanes none)
  where
    by_each : (l : List (Laning T)) → AllByRecursion HasNoHarvesters l → length (harvesters_of l) ≡ 0
    by_each [] each = refl
    by_each (lane ∷ l) each =
        let both = length-append lane.harvesters (harvesters_of l) in
        let here = ap (λ (hs : List (Harvester T)). length hs) each.0 in
        let rest = by_each l each.1 in
        omega (arith, both, here, rest)

pub able_closed : {T W L D : Type 0} (tails : TailWords T) (queue desk : TableId) (closed : List (Harvester T)) (seen later : FolderSeen) (old new : Crewing T W L D) → IsAble tails queue desk old →
    ClosesTails tails closed (record { folder = seen; lanes = lanings old.lanes.items }) (record { folder = later; lanes = lanings new.lanes.items }) →
    new.carriers ≡ old.carriers → new.storing.keeper.now.pass ≡ old.storing.keeper.now.pass → IsAble tails queue desk new
able_closed {T} {W} {L} tails queue desk closed seen later old new able closes carriers pass =
    let before : Readers T = record { folder = seen; lanes = lanings old.lanes.items } in
    let after : Readers T = record { folder = later; lanes = lanings new.lanes.items } in
    let items : new.carriers.items ≡ old.carriers.items = ap (λ v. v.items) carriers in
    record {
      some_lanes = some_still old.lanes.items new.lanes.items (sym (length-map new.lanes.items laning) ∙ many_by_some tails closed before after closes ∙ length-map old.lanes.items laning) able.some_lanes;
      some_carriers = subst (λ (l : List (Carrier W L)). l ≢ []) (sym items) able.some_carriers;
      have = have_still queue desk (lanings old.lanes.items) (lanings new.lanes.items) old.carriers.items new.carriers.items (passes_by_some tails closed before after closes) items able.have;
      lanes = All-from_recursion (IsLaneReady tails queue desk) (lanings new.lanes.items)
          (ready_by_some tails queue desk closed before after closes (recursion_from_All (IsLaneReady tails queue desk) (lanings old.lanes.items) able.lanes));
      pass = ap (λ p. p.desk) pass ∙ able.pass;
    }
