-- How a run scanned that ended before it followed a file (this project's profile): some of its globs were listed, in their order, or all
-- of them; a listing that failed is the last. After these, files may have been opened that were only asked for their keys, and nothing
-- else was done with the folder.
use Rattle.std.specs.Prelude.{Some}
use Rattle.beat_config.specs.InRange.{AreInRange}
use Rattle.event_tree.specs.declared.settings.Settings.{Settings}
use Rattle.prospect.specs.Members.{globs_of}
use Rattle.prospect.specs.Unfinished.{ListsSome}
use Rattle.told_scans.specs.OnlyAsked.{HasOnlyAsked}
use Rattle.run_steps.specs.RunOf.{FolderTold}

pub record HasScannedSome (settings : Settings) (folder : FolderTold) : Type 0 where
  pub in_range : AreInRange settings
  pub lists : ListsSome (globs_of settings.inputs) folder.earlier (Some folder.listed)
  pub asks : HasOnlyAsked folder.listed folder.scanned
