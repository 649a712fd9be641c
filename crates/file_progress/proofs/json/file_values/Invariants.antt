use Rattle.std.proofs.Common.{◌≡◌, map, take}
use Rattle.serde_json.specs.View.{view}
use Rattle.file_progress.specs.Json.{file_data}
use Rattle.file_progress.proofs.json.file_values.Given as goal

abbrev pub invariant-loop-one : goal.invariant-loop-one
invariant-loop-one l = map view l.values.items ≡ map file_data (take l.one-index l.files)
