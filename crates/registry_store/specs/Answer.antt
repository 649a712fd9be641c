-- What the answer of a choice says.
use Rattle.std.specs.Prelude.{◌≡◌, ◌<◌, ◌≤◌, length}
use Rattle.wire_base.specs.declared.numbers.TheConstants.{MAX_PLACE}
use Rattle.registry_log.specs.declared.log_error.LogError.{LogError}
use Rattle.registry_log.specs.declared.log_error.LogError.TheVariants as log
use Rattle.registry_store.specs.declared.choice.Pick.{Pick}
use Rattle.registry_store.specs.declared.choice.Pick.TheVariants as answers
use Rattle.registry_store.specs.declared.pick_error.PickError.{PickError}
use Rattle.registry_store.specs.declared.pick_error.PickError.TheVariants as picking
use Rattle.registry_store.specs.declared.store_error.StoreError.{StoreError}
use Rattle.registry_store.specs.declared.store_error.StoreError.TheVariants as storing
use Rattle.registry_store.specs.Choice.{Choice, Fresh, Chosen}

abbrev pub choice_of : Pick → Choice
choice_of answers.Fresh = Fresh
choice_of (answers.Chosen area generation rows start end) = Chosen area generation rows start end

-- the places of the gates and the number of rows are those of an area
abbrev pub IsPickWithin : Pick → Type 0
IsPickWithin answers.Fresh = Unit {0}
IsPickWithin (answers.Chosen area generation rows start end) = (start ≡ 29) × (end < MAX_PLACE) × (length rows ≤ 65_536)

-- what is reported of a refusal of one area; reading never hits a record that is too long
abbrev pub pick_error_of : LogError → PickError
pick_error_of log.DiskFault = picking.DiskFault
pick_error_of log.RecordTooLong = picking.NoMemory
pick_error_of log.NoMemory = picking.NoMemory

abbrev pub store_error_of_pick : PickError → StoreError
store_error_of_pick (picking.Bad area at) = storing.Bad area at
store_error_of_pick picking.DiskFault = storing.DiskFault
store_error_of_pick picking.NoMemory = storing.NoMemory

-- what is reported of a refusal of one area; the operations of a record always fit
abbrev pub store_error_of : LogError → StoreError
store_error_of log.DiskFault = storing.DiskFault
store_error_of log.RecordTooLong = storing.NoMemory
store_error_of log.NoMemory = storing.NoMemory
