use Rattle.std.proofs.Common.{length}
use Rattle.outside_mem.specs.Torn.{Torn-refl}
use Rattle.outside_mem.proofs.disk.MemDiskDisk.write_at.Goals as goal

pub returns-then-is_empty-clause-images : goal.returns-then-is_empty-clause-images
returns-then-is_empty-clause-images c = λ image left. (image, left, Torn-refl c.args.at (length c.args.bytes.now) image)

pub returns-in-Err-clause-images : goal.returns-in-Err-clause-images
returns-in-Err-clause-images c = λ image left.
    (image, c.in-Err.ensures.err.images image left, Torn-refl c.args.at (length c.args.bytes.now) image)
