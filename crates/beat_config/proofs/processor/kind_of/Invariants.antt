use Rattle.std.proofs.Common.{◌≡◌, drop}
use Rattle.std.specs.Prelude.{find, is_some}
use Rattle.toml.specs.Data.{get_member}
use Rattle.toml.specs.View.{members_view}
use Rattle.beat_config.specs.Processors.{key_of, kinds}
use Rattle.beat_config.proofs.processor.kind_of.Given as goal

abbrev pub invariant-loop-kind : goal.invariant-loop-kind
invariant-loop-kind l =
    find (λ kind. is_some (get_member (key_of kind) (members_view l.table.entries))) (drop l.kind-index kinds)
    ≡ find (λ kind. is_some (get_member (key_of kind) (members_view l.table.entries))) kinds
