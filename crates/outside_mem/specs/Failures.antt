-- How the counts of an object in memory change (this project's profile).
use Rattle.std.specs.Prelude.{◌≡◌, ◌≤◌}
use Rattle.outside.specs.Counts.{Rose, next_count}
use Rattle.outside_mem.specs.declared.failures.Failures.{Failures}

-- no fault was counted
pub record Stays (old new : Failures) : Type 0 where
  pub faults : new.faults ≡ old.faults
  pub starved : new.starved ≡ old.starved
  pub asked : new.asked ≡ old.asked

-- one fault was counted, for a list that asked for it
pub record Fails (old new : Failures) : Type 0 where
  pub faults : new.faults ≡ next_count old.faults
  pub no_less : old.faults ≤ new.faults
  pub rose : Rose old.faults new.faults
  pub starved : new.starved ≡ old.starved
  pub asked : new.asked ≡ next_count old.asked

-- one fault was counted, because it was out of memory
pub record Starves (old new : Failures) : Type 0 where
  pub faults : new.faults ≡ next_count old.faults
  pub no_less : old.faults ≤ new.faults
  pub rose : Rose old.faults new.faults
  pub starved : new.starved ≡ next_count old.starved
  pub asked : new.asked ≡ old.asked
