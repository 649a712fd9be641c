-- What a world keeps beside its state (this project's profile): what is stored, the rows, and what leads there.
use Rattle.std.specs.Prelude.{◌≡◌, All, List}
use Rattle.wire_base.specs.Ranges.{IsNote, IsOp}
use Rattle.wire_base.specs.declared.row.Row.{Row}
use Rattle.wire_base.specs.declared.row.Op.{Op}
use Rattle.ship_core.specs.Changes.{LeadTo}
use Rattle.ship_core.specs.Machine.{Core, AreRowsOf}
use Rattle.ship_core.specs.Orderly.{AreOrderly}
use Rattle.ship_core.specs.Replay.{replay}
use Rattle.ship_core.specs.Rows.{IsInOrder}

pub record IsWorld (core : Core) (durable rows : List Row) (pending : List Op) : Type 0 where
  pub opening : IsInOrder core.opening
  pub orderly : AreOrderly core.notes
  pub notes : All IsNote core.notes
  pub stored : durable ≡ replay core.updates
  pub are : AreRowsOf core rows
  pub lead : LeadTo durable rows pending
  pub ops : All IsOp pending
