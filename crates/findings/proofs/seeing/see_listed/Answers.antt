use Rattle.std.proofs.Common.{refl, rules}
use Rattle.std.proofs.lemmas.Option.{IfSome_then}
use Rattle.findings.proofs.seeing.see_listed.Goals as goal

pub returns-clause-seen : goal.returns-clause-seen
returns-clause-seen g c =
    IfSome_then (g.F.Folder.told c.args.folder.now) c.in_ok-marks.ensures.marked (λ told marked. record {
      count = search rules;
      unread = rw c.deref.ensures.value at c.in_ok-unread.ensures;
      marks = c.in_ok-marks.marks;
      marked = marked;
      small = refl;
      doubled = refl;
      failed = refl;
    })
