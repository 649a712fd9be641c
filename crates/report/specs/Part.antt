-- What is in a line for one of its parts (this project's profile).
use Rattle.std.specs.Prelude.{ℕ, List, decimal}
use Rattle.std.specs.Fmt.{signed_decimal}
use Rattle.event_json.specs.Json.{quoted}
use Rattle.report.specs.declared.part.Part.{Part}
use Rattle.report.specs.declared.part.Part.TheVariants.{Plain, Quoted, Number, Signed}

abbrev pub part_bytes : Part → List ℕ
part_bytes (Plain bytes) = bytes.now
part_bytes (Quoted text) = quoted text.now
part_bytes (Number number) = decimal number
part_bytes (Signed number) = signed_decimal number
