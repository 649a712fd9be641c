use Rattle.std.proofs.Common.{◌∙◌}
use Rattle.registry_log.proofs.OnlyReads.{both}
use Rattle.registry_log.proofs.records.read_records.Goals as goal

pub returns-in-Some-clause-ends : goal.returns-in-Some-clause-ends
returns-in-Some-clause-ends g c = λ area generation told of so_far.
    let now = c.records.invariant.reads area generation told of so_far in
    rw c.in-Some.is at (c.in_ok-end.ensures.record area generation (c.records.invariant.only_read.contents_kept ∙ told) now.0 now.1)

pub records-preserved : goal.records-preserved
records-preserved g c = record {
  reads = λ area generation told of so_far.
      let now = c.records.invariant.reads area generation told of so_far in
      rw c.in_default.is at (c.in_ok-end.ensures.record area generation (c.records.invariant.only_read.contents_kept ∙ told) now.0 now.1);
  within = λ few. rw c.in_default.is at (c.in_ok-end.ensures.within (c.records.invariant.within few));
  only_read = both g.D.Disk.contents g.D.Disk.images g.D.Disk.moment g.D.Disk.images_since g.D.Disk.faults c.args.disk.now c.records.disk c.read_record.new.disk c.records.invariant.only_read c.in_ok-end.ensures.only_read;
}
