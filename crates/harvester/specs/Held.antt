-- What a harvester holds beside its tail.
use Rattle.std.specs.Prelude.{ℕ, Bool, List, Option}
use Rattle.event_tree.specs.declared.input_rule.IdentityRule.{IdentityRule}
use Rattle.wire_base.specs.declared.note.Begin.{Begin}
use Rattle.wire_base.specs.declared.numbers.Epoch.{Epoch}
use Rattle.wire_base.specs.declared.numbers.Moment.{Moment}
use Rattle.harvester.specs.declared.events.Events.{Events}
use Rattle.harvester.specs.declared.stage.Stage.{Stage}

pub record Held : Type 0 where
  pub begin : Begin
  pub input : List ℕ
  pub identity : IdentityRule
  pub renamed : Option (List ℕ)
  pub epoch : Epoch
  pub told_to : ℕ
  pub events : Events
  pub position : ℕ
  pub buffer : List ℕ
  pub filled : ℕ
  pub read_at : Moment
  pub stage : Stage
  pub ends : Bool
  pub forgets : Bool
