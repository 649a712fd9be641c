use Rattle.std.proofs.Common.{inl, refl, sym, ◌∙◌}
use Rattle.rounds.specs.Words.{disk_words}
use Rattle.rounds.proofs.Having.{storing_shut}
use Rattle.rounds.proofs.crew.Crew.store_where_still.Goals as goal

pub returns-else-have_others_moved : goal.returns-else-have_others_moved
returns-else-have_others_moved g c = record {
  stores = record {
    storing = inl (record {
      why = sym c.have_others_moved.ensures ∙ c.if-have_others_moved.false;
      ran = storing_shut (disk_words g.D.Disk.contents g.D.Disk.images g.D.Disk.moment g.D.Disk.images_since g.D.Disk.faults) c.args.storing.now c.run.new.self c.run.ensures;
      without = refl;
    });
    others = refl;
  };
}
