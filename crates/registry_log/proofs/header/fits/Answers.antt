use Rattle.std.proofs.Common.{rules}
use Rattle.registry_log.proofs.Headers.{by_byte}
use Rattle.registry_log.proofs.header.fits.Goals as goal

pub returns : goal.returns
returns c = by_byte c.args.front.now c.args.place c.get.result c.is_some_and.result c.get.ensures.lookup (search rules)
