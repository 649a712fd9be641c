-- What a folder in memory reports of one thing that was done with it, and of a row of them (this project's profile).
use Rattle.std.specs.Prelude.{◌+◌, List, [], ◌∷◌, ◌++◌, replicate}
use Rattle.outside.specs.Folders.{Event, Listed, ListingFailed, Opened, NotThere, OpeningFailed, Closed}
use Rattle.outside_mem.specs.declared.log.Happened.{Happened}
use Rattle.outside_mem.specs.declared.log.Happened.TheVariants.{Listed as WasListed, Opened as WasOpened, NotThere as WasNotThere, OpeningFailed as WasOpeningFailed, Closed as WasClosed}
use Rattle.outside_mem.specs.declared.log.Link.{Link, Start, After'}

abbrev pub event_of : Happened → Event
event_of (WasListed root depth shown) = Listed root depth shown.items
event_of (WasOpened path file sight) = Opened path file sight
event_of (WasNotThere path) = NotThere path
event_of (WasOpeningFailed path) = OpeningFailed path
event_of (WasClosed opening looks faults) = Closed (opening.noted + opening.failed) looks.items faults

-- oldest first, with the failed listings between them
abbrev pub events_of : Link → List Event
events_of Start = []
events_of (After' pointer before failed_before happened) = events_of before ++ replicate failed_before ListingFailed ++ event_of happened ∷ []
