use Rattle.prospect.proofs.Doubled.{keys_apart}
use Rattle.beat_run.proofs.scan.part_files.Goals as goal

pub starts_by_rows-requires-clause-apart : goal.starts_by_rows-requires-clause-apart
starts_by_rows-requires-clause-apart c =
    rw c.as_slice.ensures.value (keys_apart c.args.keyed.files.items c.in-Ok.parted.files.items c.in-Ok.parted.doubled.items c.in-Ok.ensures.parted)
