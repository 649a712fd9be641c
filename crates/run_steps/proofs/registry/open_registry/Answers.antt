use Rattle.run_steps.proofs.HeldRows.{never_opened, not_fresh, rows_held_as_opened, store_gives}
use Rattle.run_steps.proofs.registry.open_registry.Goals as goal
use Rattle.rounds.specs.WordsOf.{disks_of}

pub returns-in-Ok-clause-gives : goal.returns-in-Ok-clause-gives
returns-in-Ok-clause-gives g c = λ first second a_is b_is. store_gives first second c.in-Ok.store (rw c.in-Ok.is at c.open.ensures.chosen first second a_is b_is)

pub returns-in-Ok-clause-refused_so : goal.returns-in-Ok-clause-refused_so
returns-in-Ok-clause-refused_so g c = λ first second area at a_is b_is refused.
    never_opened c.one_choice.ensures first second area at c.in-Ok.store refused (rw c.in-Ok.is at c.open.ensures.chosen first second a_is b_is)

pub returns-in-Ok-clause-held : goal.returns-in-Ok-clause-held
returns-in-Ok-clause-held g c = λ first second rows rest a_is b_is gives.
    rows_held_as_opened (disks_of g.D.Disk) c.args.a.now c.args.b.now rest first second rows a_is b_is gives
    c.disk_images_are_counted.ensures.reads c.disk_images_are_counted.ensures.counts c.one_choice.ensures c.open.new.a c.open.new.b
    c.open.ensures.b_only_read c.open.ensures.a_only_read c.open.ensures.each_moment

pub returns-in-Err-clause-held : goal.returns-in-Err-clause-held
returns-in-Err-clause-held g c = λ first second rows rest a_is b_is gives.
    rows_held_as_opened (disks_of g.D.Disk) c.args.a.now c.args.b.now rest first second rows a_is b_is gives
    c.disk_images_are_counted.ensures.reads c.disk_images_are_counted.ensures.counts c.one_choice.ensures c.open.new.a c.open.new.b
    c.open.ensures.b_only_read c.open.ensures.a_only_read c.open.ensures.each_moment

pub returns-in-Ok-clause-a_only_read : goal.returns-in-Ok-clause-a_only_read
returns-in-Ok-clause-a_only_read g c = λ first second area at a_is b_is refused.
    c.open.ensures.a_only_read first second a_is b_is (not_fresh c.one_choice.ensures first second area at refused)

pub returns-in-Err-clause-a_only_read : goal.returns-in-Err-clause-a_only_read
returns-in-Err-clause-a_only_read g c = λ first second area at a_is b_is refused.
    c.open.ensures.a_only_read first second a_is b_is (not_fresh c.one_choice.ensures first second area at refused)
