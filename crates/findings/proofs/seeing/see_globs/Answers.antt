use Rattle.findings.specs.Seeing.{SeesGlob}
use Rattle.findings.proofs.Eaches.{each_next}
use Rattle.findings.proofs.seeing.see_globs.Goals as goal

pub loop-one-preserved : goal.loop-one-preserved
loop-one-preserved g c =
    each_next (SeesGlob (g.Y.System.told c.args.system.now) c.args.listed.now) c.loop-one.yielded c.loop-one.seen.items c.push.new.self.items c.in-Some.one c.in_ok-see_glob.field-0
    c.loop-one.invariant c.in_ok-see_glob.ensures c.in_ok-push.ensures.items
