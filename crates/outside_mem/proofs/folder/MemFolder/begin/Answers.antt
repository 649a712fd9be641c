use Rattle.std.proofs.Common.{Some, refl, sym, ◌∙◌, ap}
use Rattle.std.proofs.lemmas.Option.{slice_get-get_or}
use Rattle.outside_mem.proofs.folder.MemFolder.begin.Goals as goal

pub returns-clause-ok : goal.returns-clause-ok
returns-clause-ok c =
    let tracked = c.index-tracked.result.now in
    record {
      tracked = tracked;
      there = slice_get-get_or c.args.self.now.files.items c.args.number tracked c.requires ∙ ap Some (sym c.index-tracked.ensures);
      notes = rw (c.in_ok-path.ensures, c.sight-begun.ensures) at c.in_ok-note.ensures.ok;
      script = c.in_ok-script.ensures;
      number_is = refl;
      opening = c.in-Some.ensures;
      begun = c.sight-begun.ensures;
      looks = c.new-looks.ensures.items;
      faults = c.in_ok-failures.ensures;
    }
