use Rattle.std.proofs.Common.{◌≡◌, ◌++◌, flat_map, take}
use Rattle.file_progress.specs.Prometheus.{head_of, sample_of}
use Rattle.file_progress.proofs.prometheus.put_files.Given as goal

abbrev pub invariant-loop-one : goal.invariant-loop-one
invariant-loop-one l = l.page.items ≡ l.initial.page.items ++ flat_map (sample_of l.family) (take l.one-index l.files)
