-- What an error of the store is to the opening of a run's registry (this project's profile).
use Rattle.std.specs.Prelude.{◌≡◌}
use Rattle.registry_store.specs.declared.store_error.StoreError.{StoreError}
use Rattle.registry_store.specs.declared.store_error.StoreError.TheVariants.{Bad as StoreBad, DiskFault as StoreDiskFault, Closed, NoMemory as StoreNoMemory}
use Rattle.run_steps.specs.declared.registry_error.RegistryError.{RegistryError}
use Rattle.run_steps.specs.declared.registry_error.RegistryError.TheVariants.{Bad, DiskFault, NoMemory}

abbrev pub IsErrorOfStore : StoreError → RegistryError → Type 0
IsErrorOfStore (StoreBad area at) error = error ≡ Bad area at
IsErrorOfStore StoreDiskFault error = error ≡ DiskFault
IsErrorOfStore Closed error = error ≡ NoMemory
IsErrorOfStore StoreNoMemory error = error ≡ NoMemory
