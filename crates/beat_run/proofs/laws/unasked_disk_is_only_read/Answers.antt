use Rattle.std.proofs.Common.{refl, arith}
use Rattle.outside.specs.Moments.{started}
use Rattle.beat_run.proofs.laws.unasked_disk_is_only_read.Goals as goal

pub returns : goal.returns
returns g c = λ disk. record {
  contents_kept = refl;
  images_kept = λ image is. is;
  each_moment = started g.D.Disk.moment g.D.Disk.images_since disk (g.D.Disk.images disk) (g.met.D.Disk.only_now disk);
  faults_kept = omega arith;
}
