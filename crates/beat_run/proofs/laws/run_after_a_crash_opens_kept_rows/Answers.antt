use Rattle.rounds.specs.WordsOf.{disks_of}
use Rattle.beat_run.proofs.CrashedRuns.{end_is_a_moment, opens_image_rows}
use Rattle.beat_run.proofs.laws.run_after_a_crash_opens_kept_rows.Goals as goal

pub returns-clause-opening : goal.returns-clause-opening
returns-clause-opening g c = λ earlier later found.
    let disks = disks_of g.D.Disk in
    (opens_image_rows disks c.one_choice.ensures earlier later found).kept

pub returns-clause-keys : goal.returns-clause-keys
returns-clause-keys g c = λ earlier later found.
    let disks = disks_of g.D.Disk in
    (opens_image_rows disks c.one_choice.ensures earlier later found).stay

pub returns-clause-end_is_such_a_moment : goal.returns-clause-end_is_such_a_moment
returns-clause-end_is_such_a_moment g c = λ earlier later as_left.
    let disks = disks_of g.D.Disk in
    end_is_a_moment disks c.disk_images_are_counted.ensures.reads earlier later as_left
