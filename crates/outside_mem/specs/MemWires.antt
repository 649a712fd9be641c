-- A wire in memory that only learns what is to fail (this project's profile).
use Rattle.std.specs.Prelude.{◌≡◌}
use Rattle.outside_mem.specs.declared.wire.MemWire.{MemWire}
use Rattle.outside_mem.specs.Outcomes.{told}

-- what it reports and all its counts stay
pub record IsSame (old new : MemWire) : Type 0 where
  pub outcomes : told new.outcomes ≡ told old.outcomes
  pub open_links : new.unfinished ≡ old.unfinished
  pub faults : new.failures.faults ≡ old.failures.faults
  pub starved : new.failures.starved ≡ old.failures.starved
  pub asked : new.failures.asked ≡ old.failures.asked
  pub idles : new.idles ≡ old.idles
