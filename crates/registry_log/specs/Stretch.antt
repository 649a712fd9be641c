-- For private clauses: a stretch of an area that was read.
use Rattle.std.specs.Prelude.{ℕ, List, drop}
use Rattle.registry_log.specs.declared.stretch.Stretch.{Stretch}
use Rattle.registry_log.specs.RecordReading.{IsFront}

-- the bytes that were not yet passed over
abbrev pub unread : Stretch → List ℕ
unread stretch = drop stretch.passed stretch.bytes.items

-- they are those of the area from their place on
abbrev pub IsStretchOf : List ℕ → Stretch → Type 0
IsStretchOf area stretch = IsFront (unread stretch) (drop stretch.place area)
