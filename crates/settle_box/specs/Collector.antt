-- What contracts see of the pass that collects (this project's profile).
use Rattle.std.specs.Prelude.{List}
use Rattle.atomic_table.specs.Seated.{TableId}
use Rattle.settle_box.specs.declared.sender.Sent.{Sent}

-- of which box it is, and what was collected by it, in order, each note with its sender's name
pub record Collector : Type 0 where
  pub desk : TableId
  pub got : List Sent

abbrev pub collector : TableId → List Sent → Collector
collector desk got = record { desk = desk; got = got }
