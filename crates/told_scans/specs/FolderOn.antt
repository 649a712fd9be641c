-- A folder goes on (this project's profile): its files are the same, and what it reported stays the front of what it reports.
use Rattle.std.specs.Prelude.{◌≡◌, List, ◌++◌}
use Rattle.outside.specs.Folders.{Event, FolderHistory}

pub record FolderGoesOn (before after : FolderHistory) : Type 0 where
  pub files : after.files ≡ before.files
  pub more : List Event
  pub events : after.events ≡ before.events ++ more
