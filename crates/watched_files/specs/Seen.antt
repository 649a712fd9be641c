-- The listed files whose keys are known, as a prospector sees them.
use Rattle.std.specs.Prelude.{ℕ, List, [], ◌∷◌, flat_map, Option, Some, None}
use Rattle.prospect.specs.declared.listed.Listed.{Listed}
use Rattle.prospector_core.specs.declared.seen.Seen.{Seen}

abbrev pub seen_with : Listed → Option (List ℕ) → List Seen
seen_with one None = []
seen_with one (Some key) = record { input = one.input; key = key; path = one.path; size = one.size } ∷ []

abbrev pub seen_one : Listed → List Seen
seen_one one = seen_with one one.key

abbrev pub seen_in : List Listed → List Seen
seen_in listed = flat_map seen_one listed
