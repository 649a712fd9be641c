-- A file that had no native numbers as it was opened, while its input recognizes files by these (Filebeat reference, file identity; this
-- project's profile): by what the folder reported since then.
use Rattle.std.specs.Prelude.{◌≡◌, ℕ, ◌≤◌, List, length, slice_get, Option, None, Some, IfSome}
use Rattle.event_tree.specs.declared.input_rule.IdentityRule.TheVariants.{Native}
use Rattle.event_tree.specs.declared.input_rule.InputRule.{InputRule}
use Rattle.event_tree.specs.declared.settings.Settings.{Settings}
use Rattle.outside.specs.Files.{File}
use Rattle.outside.specs.Folders.{FolderHistory, Opened}
use Rattle.outside.specs.declared.history.Sight.{Sight}
use Rattle.prospect.specs.declared.listed.Listed.{Listed}
use Rattle.run_steps.specs.declared.met.Met.{Met}
use Rattle.run_steps.specs.declared.met.Met.TheVariants.{DiskFault, Done, Epochs, FolderFault, NoMemory, NoNative, Stopped, Unreachable}

-- a file of the path was opened since then, and has none
pub record WasOpenedUnnumbered (path : List ℕ) (before after : FolderHistory) : Type 0 where
  pub opening : ℕ
  pub since : length before.events ≤ opening
  pub number : ℕ
  pub begun : Sight
  pub is : slice_get after.events opening ≡ Some (Opened path number begun)
  pub file : File
  pub file_is : slice_get after.files number ≡ Some file
  pub none : file.numbers ≡ None

-- the same of the listed file of this slot, if the folder is known
pub record IsUnnumbered (settings : Settings) (listed : List Listed) (slot : ℕ) (before after : Option FolderHistory) : Type 0 where
  pub one : Listed
  pub listed_there : slice_get listed slot ≡ Some one
  pub rule : InputRule
  pub rule_is : slice_get settings.inputs one.input ≡ Some rule
  pub by_numbers : rule.file_identity ≡ Native
  pub opened : IfSome before (λ earlier. IfSome after (λ later. WasOpenedUnnumbered one.path earlier later))

abbrev pub IsMetUnnumbered : Settings → List Listed → Option FolderHistory → Option FolderHistory → Met → Type 0
IsMetUnnumbered settings listed before after (NoNative slot) = IsUnnumbered settings listed slot.0 before after
IsMetUnnumbered settings listed before after Done = Unit {0}
IsMetUnnumbered settings listed before after Stopped = Unit {0}
IsMetUnnumbered settings listed before after NoMemory = Unit {0}
IsMetUnnumbered settings listed before after DiskFault = Unit {0}
IsMetUnnumbered settings listed before after FolderFault = Unit {0}
IsMetUnnumbered settings listed before after (Unreachable worker) = Unit {0}
IsMetUnnumbered settings listed before after (Epochs slot) = Unit {0}
