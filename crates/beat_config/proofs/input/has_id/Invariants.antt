use Rattle.std.proofs.Common.{◌≡◌, drop}
use Rattle.std.specs.List.{list_any}
use Rattle.std.specs.Str.{bytes_eq}
use Rattle.beat_config.specs.Input.{ids_of}
use Rattle.beat_config.proofs.input.has_id.Given as goal

abbrev pub invariant-loop-rule : goal.invariant-loop-rule
invariant-loop-rule l =
    list_any (λ earlier. bytes_eq earlier l.id) (ids_of (drop l.rule-index l.rules))
    ≡ list_any (λ earlier. bytes_eq earlier l.id) (ids_of l.rules)
