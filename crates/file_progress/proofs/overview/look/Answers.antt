use Rattle.std.proofs.Common.{refl}
use Rattle.file_progress.proofs.overview.look.Goals as goal

pub returns-clause-shown : goal.returns-clause-shown
returns-clause-shown g c = record {
  settings = c.in_ok-settings.settings;
  named = c.in_ok-settings.ensures.settings;
  registry = c.in_ok-registry.registry;
  given = c.in_ok-registry.ensures.given;
  scan = c.in_ok-scan.scan;
  scanned = rw c.as_slice.ensures at c.in_ok-scan.ensures.scanned;
  files = c.in_ok-files.ensures;
  generation = refl;
  moment = rw c.in_ok-registry.ensures.moments_kept at c.now-moment.ensures.told;
}
