-- What holds of any keeper (this project's profile).
use Rattle.std.specs.Prelude.{◌≡◌, Bool, true, false, All, List, [], ◌∷◌, ◌++◌, Option}
use Rattle.ack_tracker.specs.Tracked.{Tracked}
use Rattle.registry_store.specs.Standing.{Standing}
use Rattle.settle_box.specs.Notes.{IsPostable}
use Rattle.ship_core.specs.Rows.{IsInOrder}
use Rattle.wire_base.specs.Ranges.{IsNote}
use Rattle.wire_base.specs.declared.note.Note.{Note}
use Rattle.keeper.specs.FewKeys.{AreFewKeys}
use Rattle.keeper.specs.Keeping.{held_in}
use Rattle.keeper.specs.Storing.{Stores}

-- whether there are any
abbrev pub are_some : List Note → Bool
are_some [] = false
are_some (note ∷ notes) = true

-- `pending` says whether something was noted since the last commit
pub record IsSound (tracked : Tracked) (store : Standing) (held : Option Note) (pending : Bool) : Type 0 where
  pub opening : IsInOrder tracked.opening
  pub in_order : IsInOrder store.rows
  pub stored : Stores tracked store
  pub few : AreFewKeys store.rows tracked.notes tracked.gone
  pub rest : List Note
  pub notes_are : tracked.notes ≡ tracked.committed ++ rest
  pub pending_is : pending ≡ are_some rest
  pub held_kind : All IsPostable (held_in held)
  pub held_range : All IsNote (held_in held)
