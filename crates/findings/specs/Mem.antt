-- What is known of a system in memory (this project's profile): what its tables have.
use Rattle.std.specs.Prelude.{List, [], Option, None, Some, Vec}
use Rattle.std.specs.BTreeMap.{get}
use Rattle.std.specs.declared.alloc.Global.{Global}
use Rattle.glob_paths.specs.Root.{root_of}
use Rattle.wire_base.specs.KeyOrder.{compare}
use Rattle.findings.specs.System.{SystemTold}
use Rattle.findings.specs.declared.mem.MemSystem.{MemSystem}
use Rattle.findings.specs.declared.place.Place.{Place}
use Rattle.findings.specs.declared.place.Place.TheVariants.{Nothing}
use Rattle.findings.specs.declared.skipped.Skipped.{Skipped}

abbrev pub place_or_nothing : Option Place → Place
place_or_nothing None = Nothing
place_or_nothing (Some place) = place

abbrev pub items_or_none : Option (Vec Skipped Global) → List Skipped
items_or_none None = []
items_or_none (Some skipped) = skipped.items

abbrev pub told_by : MemSystem → SystemTold
told_by system = record {
  place = λ path. place_or_nothing (get compare system.places path);
  skipped = λ glob. items_or_none (get compare system.skipped (root_of glob));
  refusal = λ path. get compare system.refusals path;
  write_refusal = λ folder. get compare system.write_refusals folder;
  open_limit = system.open_limit;
}
