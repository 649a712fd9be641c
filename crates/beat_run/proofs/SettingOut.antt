-- A run sets out over its scan, the store that was opened and a keeper made over it.
use Rattle.std.proofs.Common.{◌≡◌, ℕ, true, All, List, [], Option, sym, ap, subst, ◌∙◌}
use Rattle.atomic_table.specs.Seated.{TableId}
use Rattle.beat_config.specs.InRange.{AreInRange}
use Rattle.event_tree.specs.declared.settings.Settings.{Settings}
use Rattle.keeper.specs.Keeping.{Keeping}
use Rattle.outside.specs.Folders.{FolderHistory}
use Rattle.outside.specs.Times.{GivesMoment}
use Rattle.prospect.specs.declared.listed.Listed.{Listed}
use Rattle.registry_store.specs.Settled.{AreSettled}
use Rattle.registry_store.specs.Standing.{Standing, chosen_by}
use Rattle.rounds.specs.Words.{DiskWords, WireWords}
use Rattle.wire_base.specs.declared.row.Row.{Row}
use Rattle.run_steps.specs.Areas.{GiveTheRows, HaveHeldFronts}
use Rattle.run_steps.specs.BeginsAll.{IsOfInputs}
use Rattle.run_steps.specs.Outset.{Earlier, IsFirstKeeper, Outset, SetsOut, began_with}
use Rattle.run_steps.proofs.OutsetMade.{sets_out}
use Rattle.run_steps.specs.Together.{Areas}
use Rattle.beat_run.specs.Accounted.{IsOpenedFrom}

module _ {W D : Type 0} (disks : DiskWords D) (wires : WireWords W) (settings : Settings) (in_range : AreInRange settings)
    (desk : TableId) (keeper : Keeping) (store : Standing) (first : IsFirstKeeper desk keeper) (over : keeper.store ≡ store) (items : List W) (from : Areas D) (a b : D) (opened : IsOpenedFrom disks from store a b)
    (listed doubled : List Listed) (moment asked : ℕ) (before later : Option (List ℕ)) (gives : GivesMoment before moment later) (scanned : Option FolderHistory)
    (of_inputs : All (IsOfInputs settings) listed) where
  abbrev pub outset : Outset W D
  outset = record { settings = settings; once = true; listed = listed; doubled = doubled; moment = moment; shown = scanned; moments = later; wires = items; keeper = keeper; a = a; b = b }

  abbrev pub earlier : Earlier D
  earlier = record { moments = before; asked = asked; a = from.a; b = from.b }

  its_store : store ≡ first.store
  its_store = sym over ∙ ap (λ (k : Keeping). k.store) first.is

  its_rows : store.rows ≡ keeper.store.rows
  its_rows = ap (λ (s : Standing). s.rows) (sym over)

  pub set_out : SetsOut disks (began_with wires outset earlier) outset
  set_out = sets_out disks wires outset earlier first.store first.pass first.is gives (subst (GiveTheRows disks from.a from.b) its_rows opened.gave) (λ rest. subst (λ (rows : List Row). HaveHeldFronts disks rows [] from.a from.b a b) its_rows (opened.held rest))
      (λ rest. subst (λ (s : Standing). AreSettled disks.contents disks.images a b (chosen_by s)) its_store (opened.settled rest))
      in_range of_inputs
