-- A disk's changes made again, with the image that a crash leaves after each (this project's profile).
use Rattle.std.specs.Prelude.{◌≡◌}
use Rattle.outside_mem.specs.declared.crash.Filler.{Filler}
use Rattle.outside_mem.specs.declared.crash.Replay.{Replay}
use Rattle.outside_mem.specs.declared.change.Change.{Change}
use Rattle.outside_mem.specs.Filled.{fills}
use Rattle.outside_mem.specs.Images.{Reading, after_change, IsImageOf}

-- the replay has what a read gives, and the image by the filler, which is one of the images
pub record StandsFor (filler : Filler) (r : Reading) (replay : Replay) : Type 0 where
  pub reads : replay.reads.items ≡ r.bytes
  pub image : IsImageOf r replay.image.items
  pub filled : replay.image.items ≡ fills filler r.pending r.synced

-- whatever it stood for, it stands for that after one change more
pub record Follows (filler : Filler) (old new : Replay) (change : Change) : Type 0 where
  pub each : (r : Reading) → StandsFor filler r old → StandsFor filler (after_change r change) new
