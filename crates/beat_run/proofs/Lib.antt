pub mod Accounts
pub mod Causes
pub mod Cleaned
pub mod Complete
pub mod CrashedRuns
pub mod Endings
pub mod EpochsOut
pub mod FirstLacks
pub mod Numbered
pub mod PathsListed
pub mod PrintedEnds
pub mod Printings
pub mod Refusals
pub mod ReportEnds
pub mod ScanShown
pub mod SettingOut
pub mod SettingsBytes
pub mod Skipping
mod StartEnds
pub mod Untroubled
pub mod WiresFailed
mod Worked
mod WorkedAccount
mod WorkedEpochs
