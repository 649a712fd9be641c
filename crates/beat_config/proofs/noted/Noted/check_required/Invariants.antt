use Rattle.std.proofs.Common.{◌≡◌, map, drop}
use Rattle.toml.specs.View.{members_view}
use Rattle.beat_config.specs.Finding.{seen_of, note_all}
use Rattle.beat_config.specs.Table.{missing_findings}
use Rattle.beat_config.proofs.noted.Noted.check_required.Given as goal

abbrev pub invariant-loop-key : goal.invariant-loop-key
invariant-loop-key l =
    note_all (seen_of l.self) (missing_findings l.path (map (λ key. key.now) (drop l.key-index l.required)) (members_view l.table.entries))
    ≡ note_all (seen_of l.fn.self) (missing_findings l.path (map (λ key. key.now) l.required) (members_view l.table.entries))
