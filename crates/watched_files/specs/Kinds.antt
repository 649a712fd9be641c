-- What a change says of the slot that it names. Only private calls cite it.
use Rattle.std.specs.Prelude.{Bool, false, List, Option, Some, None}
use Rattle.prospector_core.specs.declared.change.Change.{Change}
use Rattle.prospector_core.specs.declared.change.Change.TheVariants as change
use Rattle.prospector_core.specs.declared.known.Known.{Known}
use Rattle.wire_base.specs.declared.numbers.Slot.{Slot}
use Rattle.watched_files.specs.Telling.{cleans_at}

-- the slot of a known file of which the change is
abbrev pub news_slot : Change → Option Slot
news_slot (change.Created slot input key path size) = None
news_slot (change.Returned slot path size) = Some slot
news_slot (change.Renamed slot from to) = Some slot
news_slot (change.Written slot size) = Some slot
news_slot (change.Truncated slot size) = Some slot
news_slot (change.Removed slot) = Some slot
news_slot (change.Doubled path) = None

-- whether the file is to be forgotten if it was removed
abbrev pub cleans_by : List Bool → List Known → Change → Bool
cleans_by clean files (change.Created slot input key path size) = false
cleans_by clean files (change.Returned slot path size) = false
cleans_by clean files (change.Renamed slot from to) = false
cleans_by clean files (change.Written slot size) = false
cleans_by clean files (change.Truncated slot size) = false
cleans_by clean files (change.Removed slot) = cleans_at clean files slot.0
cleans_by clean files (change.Doubled path) = false
