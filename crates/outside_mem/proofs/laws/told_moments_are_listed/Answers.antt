use Rattle.outside_mem.proofs.Telling.{all_dated}
use Rattle.outside_mem.proofs.laws.told_moments_are_listed.Goals as goal

pub returns : goal.returns
returns c = all_dated c.args.folder.now.moments.items 0 c.args.folder.now.listings c.args.folder.now.files.items
