-- What one epoch of a harvester's history reported, as a part of its slot.
use Rattle.std.specs.Prelude.{◌≡◌, ℕ, ◌+◌, List, [], ◌∷◌, ◌++◌}
use Rattle.event_tree.specs.declared.group_rule.GroupRule.{GroupRule}
use Rattle.event_tree.specs.declared.group_rule.GroupRule.TheVariants.{Count, Pattern, Single}
use Rattle.file_looks.specs.Segment.{Segment}
use Rattle.harvester.specs.History.{History, Telling}
use Rattle.harvester.specs.Looked.{IsReadBy}
use Rattle.outside.specs.Files.{File}
use Rattle.told_events.specs.Told.{ToldEvent}
use Rattle.slot_parts.specs.Parts.{Part}

-- without a rule for events each complete line is one, and none is flushed
abbrev pub licences_by : GroupRule → List ℕ → List ℕ
licences_by (Single message_max_bytes) licences = []
licences_by (Count count_lines max_lines timeout skip_newline message_max_bytes) licences = licences
licences_by (Pattern pattern negate side flush max_lines timeout skip_newline message_max_bytes) licences = licences

-- nor if nothing was reported
abbrev pub licences_where : List ToldEvent → List ℕ → List ℕ
licences_where [] licences = []
licences_where (one ∷ told) licences = licences

abbrev pub part_of : ℕ → GroupRule → Telling → Segment → Part
part_of opening rule telling segment = record {
  opening = opening;
  epoch = telling.epoch;
  segment = segment;
  licences = licences_where telling.told (licences_by rule telling.licences);
  told = telling.told;
}

-- of a segment by which nothing was reported
abbrev pub untold_part : ℕ → ℕ → Segment → Part
untold_part opening epoch segment = record { opening = opening; epoch = epoch; segment = segment; licences = []; told = [] }

abbrev pub untold_parts : ℕ → ℕ → List Segment → List Part
untold_parts opening before [] = []
untold_parts opening before (segment ∷ segments) = untold_part opening (before + 1) segment ∷ untold_parts opening (before + 1) segments

-- the parts of one tail: a segment for each epoch that was reported, and those by which nothing was reported
abbrev pub parts_of : ℕ → GroupRule → ℕ → List Telling → List Segment → List Part
parts_of opening rule before [] segments = untold_parts opening before segments
parts_of opening rule before (telling ∷ tellings) [] = []
parts_of opening rule before (telling ∷ tellings) (segment ∷ segments) = part_of opening rule telling segment ∷ parts_of opening rule telling.epoch tellings segments

-- ---- what a history gives

-- its epochs, the present one last
abbrev pub tellings_in : History → List Telling
tellings_in history = history.past ++ history.present ∷ []

-- the first of the segments read these
abbrev pub AreReadFirst : History → File → List Telling → List Segment → Type 0
AreReadFirst h file [] segments = Unit {0}
AreReadFirst h file (telling ∷ tellings) [] = ⊥
AreReadFirst h file (telling ∷ tellings) (segment ∷ segments) = IsReadBy h file telling segment × AreReadFirst h file tellings segments

-- each one after this epoch is the next one, and is reported from the file's first byte on
abbrev pub AreNumberedFrom : ℕ → List Telling → Type 0
AreNumberedFrom before [] = Unit {0}
AreNumberedFrom before (telling ∷ later) = (telling.epoch ≡ before + 1) × (telling.start ≡ 0) × AreNumberedFrom (before + 1) later
