use Rattle.batch_worker.specs.Held.{carried_in}
use Rattle.batch_worker.specs.Ending.{EndsLink}
use Rattle.std.proofs.Common.{◌++◌, subst}
use Rattle.batch_worker.specs.Working.{Working}
use Rattle.batch_worker.specs.Seen.{seen}
use Rattle.batch_worker.proofs.Finishing.{ended_talks, may_end}
use Rattle.batch_worker.proofs.worker.Worker.end.Goals as goal

pub returns-clause-talks : goal.returns-clause-talks
returns-clause-talks g c = λ start acknowledged s.
    let w = c.args.self in
    let old = c.args.wire.now in
    let new = c.finish_link.new.wire in
    let before = seen (g.W.Wire.outcomes old) (g.W.Wire.open_links old) (g.W.Wire.faults old) (g.W.Wire.idles old) in
    let after = seen (g.W.Wire.outcomes new) (g.W.Wire.open_links new) (g.W.Wire.faults new) (g.W.Wire.idles new) in
    let ends = subst (λ (v : Working g.row.L.Denot). EndsLink g.L.Link.told g.L.Link.faults g.L.Link.idles v.link before after) c.self.view_is c.finish_link.ensures in
    ended_talks g.L.Link.told g.L.Link.faults g.L.Link.idles w.link
    before after
    start w.window.most acknowledged (acknowledged ++ carried_in w.window) ends s.reached (may_end g.L.Link.told start w (g.W.Wire.outcomes old) acknowledged s).finishing
