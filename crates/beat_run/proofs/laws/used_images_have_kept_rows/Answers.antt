use Rattle.rounds.specs.WordsOf.{disks_of}
use Rattle.beat_run.proofs.CrashedRuns.{keeps_used_images}
use Rattle.beat_run.proofs.laws.used_images_have_kept_rows.Goals as goal

pub returns : goal.returns
returns g c = λ run.
    let disks = disks_of g.D.Disk in
    keeps_used_images disks c.one_choice.ensures run
