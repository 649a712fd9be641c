-- How a run sets out is known from its first steps: the registry was opened, the clock gave its moment, one scan listed the files, and
-- the keeper was made over the store.
use Rattle.std.proofs.Common.{◌≡◌, All, List, [], ◌∷◌, refl, sym, subst}
use Rattle.std.specs.List.{AllByRecursion}
use Rattle.beat_config.specs.InRange.{AreInRange}
use Rattle.event_tree.specs.declared.settings.Settings.{Settings}
use Rattle.keeper.specs.Keeping.{Keeping, begun_with}
use Rattle.outside.specs.Times.{GivesMoment}
use Rattle.prospect.specs.declared.listed.Listed.{Listed}
use Rattle.registry_store.specs.Settled.{AreAtRest, AreSettled}
use Rattle.registry_store.specs.Standing.{Standing, chosen_by}
use Rattle.rounds.specs.Words.{DiskWords, WireWords}
use Rattle.settle_box.specs.Collector.{Collector}
use Rattle.run_steps.specs.Areas.{GiveTheRows, HaveHeldFronts, IsAtRest}
use Rattle.run_steps.specs.BeginsAll.{IsOfInputs, IsOfRuledInput}
use Rattle.run_steps.specs.Outset.{Earlier, Outset, SetsOut, began_with}
use Rattle.told_scans.proofs.Members.{each_of}
use Rattle.run_steps.proofs.OfInputs.{of_ruled_input}

-- ---- the keeper

-- a keeper to which nothing was told is at rest where its store is
pub first_at_rest : {D : Type 0} (disks : DiskWords D) (keeper : Keeping) (a b : D) (store : Standing) (pass : Collector) → keeper ≡ begun_with store pass →
    AreSettled disks.contents disks.images a b (chosen_by store) → IsAtRest disks keeper a b
first_at_rest disks keeper a b store pass made settled =
    subst (λ (k : Keeping). IsAtRest disks k a b) (sym made) (record { settled = settled; committed = record { rest = []; are = refl } })

-- ---- the scan

module _ (settings : Settings) (in_range : AreInRange settings) where
  of_ruled_each : (listed : List Listed) → AllByRecursion (IsOfInputs settings) listed → AllByRecursion (IsOfRuledInput settings) listed
  of_ruled_each [] inside = tt
  of_ruled_each (one ∷ listed) inside = (of_ruled_input settings one in_range inside.0, of_ruled_each listed inside.1)

  -- what a scan told is of inputs whose rules are in their ranges
  pub of_ruled_inputs : (listed : List Listed) → All (IsOfInputs settings) listed → AllByRecursion (IsOfRuledInput settings) listed
  of_ruled_inputs listed inside = of_ruled_each listed (each_of (IsOfInputs settings) listed inside)

-- ---- all of it

module _ {W D : Type 0} (disks : DiskWords D) (wires : WireWords W) (outset : Outset W D) (earlier : Earlier D) where
  pub sets_out : (store : Standing) (pass : Collector) → outset.keeper ≡ begun_with store pass → GivesMoment earlier.moments outset.moment outset.moments →
      GiveTheRows disks earlier.a earlier.b outset.keeper.store.rows →
      (AreAtRest disks.contents disks.images earlier.a earlier.b → HaveHeldFronts disks outset.keeper.store.rows [] earlier.a earlier.b outset.a outset.b) →
      (AreAtRest disks.contents disks.images earlier.a earlier.b → AreSettled disks.contents disks.images outset.a outset.b (chosen_by store)) →
      AreInRange outset.settings → All (IsOfInputs outset.settings) outset.listed →
      SetsOut disks (began_with wires outset earlier) outset
  sets_out store pass made gives gave areas settled in_range inside = record {
    gives = gives;
    gave = gave;
    areas = areas;
    at_rest = λ rest. first_at_rest disks outset.keeper outset.a outset.b store pass made (settled rest);
    of_inputs = of_ruled_inputs outset.settings in_range outset.listed inside;
  }
