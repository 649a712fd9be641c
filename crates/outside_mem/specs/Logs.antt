-- What a folder's log in memory reports (this project's profile).
use Rattle.std.specs.Prelude.{List, ◌++◌, replicate}
use Rattle.outside.specs.Folders.{Event, ListingFailed}
use Rattle.outside_mem.specs.declared.log.Happened.{Happened}
use Rattle.outside_mem.specs.declared.log.Log.{Log}
use Rattle.outside_mem.specs.declared.log.Room.{Room}
use Rattle.outside_mem.specs.Happenings.{events_of}

-- all that was done, in order
abbrev pub log_events : Log → List Event
log_events log = events_of log.last ++ replicate log.failed ListingFailed

-- what the room is for
abbrev pub happened_in : Room → Happened
happened_in room = room.node.value.happened
