use Rattle.std.proofs.Common.{◌∙◌}
use Rattle.watched_files.specs.Seen.{seen_in}
use Rattle.watched_files.proofs.Composing.{takes_scan_by}
use Rattle.watched_files.proofs.Slots.{watched_later}
use Rattle.watched_files.proofs.watched_files.WatchedFiles.take_scan.Goals as goal

pub invariant_of-self-in-Break-branch-3 : goal.invariant_of-self-in-Break-branch-3
invariant_of-self-in-Break-branch-3 c = record {
  in_step = watched_later c.compare_created.new.prospector c.compare_created.new.table c.take_changes.new.table c.compare_created.ensures.watched c.take_changes.ensures.same_slots;
}

pub miss_unshown-requires : goal.miss_unshown-requires
miss_unshown-requires c =
    watched_later c.compare_created.new.prospector c.take_changes.new.table c.show_all.new.table
    (watched_later c.compare_created.new.prospector c.compare_created.new.table c.take_changes.new.table c.compare_created.ensures.watched c.take_changes.ensures.same_slots) c.show_all.ensures.same_slots

pub invariant_of-self-2 : goal.invariant_of-self-2
invariant_of-self-2 c = record {
  in_step = watched_later c.compare_created.new.prospector c.show_all.new.table c.miss_unshown.new.table
      (watched_later c.compare_created.new.prospector c.take_changes.new.table c.show_all.new.table
      (watched_later c.compare_created.new.prospector c.compare_created.new.table c.take_changes.new.table c.compare_created.ensures.watched c.take_changes.ensures.same_slots) c.show_all.ensures.same_slots)
      c.miss_unshown.ensures.same_slots;
}

pub returns-clause-taken : goal.returns-clause-taken
returns-clause-taken c =
    takes_scan_by c.args.scan.now.number c.args.scan.now.clean.now c.args.scan.now.whole (seen_in c.args.scan.now.listed.now) c.args.self.now.prospector c.compare_created.new.prospector c.args.self.now.table
    c.compare_created.new.table c.take_changes.new.table c.show_all.new.table c.miss_unshown.new.table c.deref-2.result.now c.take_changes.new.deeds.items c.miss_unshown.new.deeds.items
    c.deref.result.now c.deref-3.result.now c.new-deeds.result.items
    (c.deref.ensures.value ∙ c.in_ok-seen.ensures) (c.deref-3.ensures.value ∙ c.in_ok-seen.ensures) c.new-deeds.ensures.items
    c.in_ok-changes.ensures.remembered (c.deref-2.ensures.value ∙ c.in_ok-changes.ensures.told) c.in_ok-changes.ensures.created
    c.in_ok-take_changes.ensures.taken c.show_all.ensures.shown c.in_ok-miss_unshown.ensures.missed
