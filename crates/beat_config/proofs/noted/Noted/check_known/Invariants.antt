use Rattle.std.proofs.Common.{◌≡◌, map}
use Rattle.toml.specs.View.{members_view}
use Rattle.beat_config.specs.Finding.{seen_of, note_all}
use Rattle.beat_config.specs.Table.{unknown_findings}
use Rattle.beat_config.proofs.noted.Noted.check_known.Given as goal

abbrev pub invariant-loop-key : goal.invariant-loop-key
invariant-loop-key l =
    let known = map (λ key. key.now) l.known in
    note_all (seen_of l.self) (unknown_findings l.path known (members_view l.key-iterator))
    ≡ note_all (seen_of l.fn.self) (unknown_findings l.path known (members_view l.table.entries))
