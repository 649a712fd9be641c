use Rattle.std.proofs.Common.{◌≡◌, List, Some, All, ap, subst, rules}
use Rattle.outside_mem.specs.declared.tracked.Tracked.{Tracked}
use Rattle.outside_mem.specs.Tracking.{path_of}
use Rattle.outside_mem.proofs.Opening.{none_present}
use Rattle.outside_mem.proofs.folder.MemFolder.try_open.Goals as goal

pub returns-in_ok-note-in-None-clause-ok : goal.returns-in_ok-note-in-None-clause-ok
returns-in_ok-note-in-None-clause-ok c =
    let none = subst (λ (files : List Tracked). All (λ one. ¬ (path_of c.args.self.now.listings one ≡ Some c.args.path.now)) files) c.deref.ensures.value c.in-None.ensures.none in
    (none_present c.args.self.now.moments.items c.args.self.now.files.items 0 c.args.self.now.listings c.args.path.now none, rw (c.in_ok-path-in-None.ensures) at c.in_ok-note-in-None.ensures.ok)
