-- The listings of one scan (Filebeat reference, filestream input; this project's profile): the root of each glob is listed
-- once, in the order of the settings, and what the listings showed together decides which files are reported.
use Rattle.std.specs.Prelude.{◌≡◌, ℕ, List, ◌++◌, map, Option, Some}
use Rattle.glob_paths.specs.Root.{root_of, depth_of}
use Rattle.outside.specs.declared.failed.FolderError.{FolderError}
use Rattle.outside.specs.declared.failed.FolderError.TheVariants.{Failed, NoMemory}
use Rattle.outside.specs.declared.history.Shown.{Shown}
use Rattle.outside.specs.Folders.{FolderHistory, Event, Listed}
use Rattle.wire_base.specs.Ranges.{IsPath}
use Rattle.prospect.specs.declared.scan_error.ScanError.{ScanError}
use Rattle.prospect.specs.declared.scan_error.ScanError.TheVariants.{Failed as ScanFailed, NoMemory as ScanNoMemory, NoNative}

-- a listing of the root of a glob with its depth, and what it showed
pub record Listing : Type 0 where
  pub glob : List ℕ
  pub shown : List Shown

abbrev pub event_of : Listing → Event
event_of listing = Listed (root_of listing.glob) (depth_of listing.glob) listing.shown

-- the history with these things done
abbrev pub with_events : FolderHistory → List Event → FolderHistory
with_events told more = record told { events = told.events ++ more }

-- the listings were made one after the other, one for each glob, and nothing else was done
pub record AreListed (globs : List (List ℕ)) (told : FolderHistory) (listings : List Listing) (after : Option FolderHistory) : Type 0 where
  pub one_for_each_glob : map (λ listing. listing.glob) listings ≡ globs
  pub kept : after ≡ Some (with_events told (map event_of listings))

-- a path that is reported has the length of one
abbrev pub TellsPath : ScanError → Type 0
TellsPath ScanFailed = Unit {0}
TellsPath ScanNoMemory = Unit {0}
TellsPath (NoNative path) = IsPath path

-- what a scan answers if a listing answers this
abbrev pub IsErrorOf : FolderError → ScanError → Type 0
IsErrorOf Failed error = error ≡ ScanFailed
IsErrorOf NoMemory error = error ≡ ScanNoMemory
