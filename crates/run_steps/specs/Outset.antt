-- How a run sets out (this project's profile): its settings, what its one scan listed and at which moment, what its objects reported by
-- then, and a keeper to which nothing was noted over the opened store.
use Rattle.std.specs.Prelude.{◌≡◌, ℕ, Bool, List, [], Option, false, map, take}
use Rattle.std.specs.List.{AllByRecursion}
use Rattle.atomic_table.specs.Seated.{TableId}
use Rattle.batch_worker.specs.Standing.{length_of}
use Rattle.event_tree.specs.declared.settings.Settings.{Settings}
use Rattle.keeper.specs.Keeping.{Keeping, begun_with}
use Rattle.outside.specs.Folders.{FolderHistory}
use Rattle.outside.specs.Times.{GivesMoment}
use Rattle.prospect.specs.declared.listed.Listed.{Listed}
use Rattle.registry_store.specs.Standing.{Standing}
use Rattle.rounds.specs.Words.{DiskWords, WireWords}
use Rattle.settle_box.specs.Collector.{Collector}
use Rattle.ship_core.specs.Rows.{IsInOrder}
use Rattle.run_steps.specs.Areas.{BeganAtRest, GaveRows, HaveHeldFronts, IsAtRest}
use Rattle.run_steps.specs.Began.{Began}
use Rattle.run_steps.specs.BeginsAll.{IsOfRuledInput}

pub record Outset (W D : Type 0) : Type 0 where
  pub settings : Settings
  pub once : Bool
  pub listed : List Listed
  pub doubled : List Listed
  pub moment : ℕ
  pub shown : Option FolderHistory
  pub moments : Option (List ℕ)
  pub wires : List W
  pub keeper : Keeping
  pub a : D
  pub b : D

-- before the clock gave the run's first moment, and before its areas were opened
pub record Earlier (D : Type 0) : Type 0 where
  pub moments : Option (List ℕ)
  -- how often the clock was asked
  pub asked : ℕ
  pub a : D
  pub b : D

-- the first wires are those of the workers
abbrev pub began_with : {W D : Type 0} → WireWords W → Outset W D → Earlier D → Began D
began_with {W} wires outset earlier = record {
  settings = outset.settings;
  once = outset.once;
  opening = outset.keeper.store.rows;
  listed = outset.listed;
  doubled = outset.doubled;
  moment = outset.moment;
  shown = outset.shown;
  moments = earlier.moments;
  heard = map (λ (w : W). length_of (wires.outcomes w)) (take outset.settings.output.workers outset.wires);
  a = earlier.a;
  b = earlier.b;
}

-- the clock gave its moment, its areas gave the rows of its store and, if they were at rest, have held no others since, and each listed file is of an input
-- whose rules are in their ranges
pub record SetsOut {W D : Type 0} (disks : DiskWords D) (start : Began D) (outset : Outset W D) : Type 0 where
  pub gives : GivesMoment start.moments start.moment outset.moments
  pub areas : BeganAtRest disks start → HaveHeldFronts disks start.opening [] start.a start.b outset.a outset.b
  pub gave : GaveRows disks start
  pub at_rest : BeganAtRest disks start → IsAtRest disks outset.keeper outset.a outset.b
  pub of_inputs : AllByRecursion (IsOfRuledInput start.settings) start.listed

-- it was made over an open store, and its pass collected nothing
pub record IsFirstKeeper (desk : TableId) (keeper : Keeping) : Type 0 where
  pub store : Standing
  pub pass : Collector
  pub is : keeper ≡ begun_with store pass
  pub in_order : IsInOrder store.rows
  pub is_open : store.closed ≡ false
  pub none_got : pass.got ≡ []
  pub of_box : pass.desk ≡ desk
