-- How the registry of a run is opened (this project's profile): by what its areas choose.
use Rattle.std.specs.Prelude.{ℕ, List}
use Rattle.registry_store.specs.Choice.{IsChoice, Refused}
use Rattle.wire_base.specs.declared.limits.Which.{Which}
use Rattle.run_steps.specs.declared.registry_error.RegistryError.{RegistryError}
use Rattle.run_steps.specs.declared.registry_error.RegistryError.TheVariants.{Bad, DiskFault, NoMemory}

-- the bytes of A and B are refused, by this area at this place
abbrev pub AreRefusedAt : List ℕ → List ℕ → Which → ℕ → Type 0
AreRefusedAt first second area at = IsChoice first second (Refused area at)

-- the opening of such ends so
abbrev pub RefusesAreas : List ℕ → List ℕ → RegistryError → Type 0
RefusesAreas first second (Bad area at) = AreRefusedAt first second area at
RefusesAreas first second DiskFault = Unit {0}
RefusesAreas first second NoMemory = Unit {0}
