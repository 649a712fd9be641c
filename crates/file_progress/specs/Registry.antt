-- What two registry areas give a look (this project's profile): the rows of the area that is used, and its generation; no
-- row and no generation if the registry is empty.
use Rattle.std.specs.Prelude.{◌≡◌, ℕ, List, [], None, Some, Result, Ok, Err}
use Rattle.registry_store.specs.Answer.{choice_of}
use Rattle.registry_store.specs.Choice.{Choice, Chosen, Fresh, IsChoice, Refused}
use Rattle.registry_store.specs.declared.choice.Pick.{Pick}
use Rattle.registry_store.specs.declared.pick_error.PickError.{PickError}
use Rattle.report.specs.declared.status.Status.{Status}
use Rattle.report.specs.declared.status.Status.TheVariants.{DiskFault, NoMemory, RegistryBad}
use Rattle.file_progress.specs.Causes.{StandsForPick}
use Rattle.file_progress.specs.declared.registry.Registry.{Registry}

abbrev pub IsGivenBy : Choice → Registry → Type 0
IsGivenBy Fresh registry = (registry.rows ≡ []) × (registry.generation ≡ None)
IsGivenBy (Chosen area generation rows start end) registry = (registry.rows ≡ rows) × (registry.generation ≡ Some generation)
IsGivenBy (Refused area at) registry = ⊥

-- the bytes of A and B give this
pub record GivesRegistry (first second : List ℕ) (registry : Registry) : Type 0 where
  pub choice : Choice
  pub chosen : IsChoice first second choice
  pub given : IsGivenBy choice registry

-- a status that blames an area is that of the choice
abbrev pub IsRefusedAs : List ℕ → List ℕ → Status → Type 0
IsRefusedAs first second (RegistryBad area at) = IsChoice first second (Refused area at)
IsRefusedAs first second _ = Unit {0}

-- reading the registry
abbrev pub IsRegistryEnd : Status → Type 0
IsRegistryEnd (RegistryBad area at) = Unit {0}
IsRegistryEnd DiskFault = Unit {0}
IsRegistryEnd NoMemory = Unit {0}
IsRegistryEnd _ = ⊥

-- ---- for private clauses

abbrev pub StandsForPicked : Result Pick PickError → Result Registry Status → Type 0
StandsForPicked (Ok picked) (Ok registry) = IsGivenBy (choice_of picked) registry
StandsForPicked (Ok picked) (Err status) = ⊥
StandsForPicked (Err error) (Ok registry) = ⊥
StandsForPicked (Err error) (Err status) = StandsForPick error status
