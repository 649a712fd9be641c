use Rattle.std.proofs.Common.{◌≡◌, drop, map}
use Rattle.std.specs.List.{position_from}
use Rattle.std.specs.Str.{bytes_eq}
use Rattle.beat_config.proofs.names.name_place.Given as goal

abbrev pub invariant-loop-place : goal.invariant-loop-place
invariant-loop-place l =
    position_from (λ name. bytes_eq name l.text) l.place (map (λ name. name.now) (drop l.place l.names))
    ≡ position_from (λ name. bytes_eq name l.text) 0 (map (λ name. name.now) l.names)
