use Rattle.std.proofs.Common.{◌≡◌, ◌++◌, map, take}
use Rattle.findings.specs.Findings.{trial_finding}
use Rattle.findings.proofs.finding_list.put_trials.Given as goal

abbrev pub invariant-loop-trial : goal.invariant-loop-trial
invariant-loop-trial l = l.found.items ≡ l.initial.found.items ++ map trial_finding (take l.trial-index l.trials)
