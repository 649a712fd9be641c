-- What a run that gives a report kept within (this project's profile): each file that it listed has the native numbers that its input asks
-- for; those that are followed, one for each key, are with the rows that its areas gave no more than there may be; and each of them could
-- be started, in an epoch that there is.
use Rattle.std.specs.Prelude.{◌≡◌, ℕ, List, ◌++◌, length, slice_get, IsSome, Option, Some}
use Rattle.std.specs.List.{AllByRecursion}
use Rattle.event_tree.specs.declared.input_rule.IdentityRule.TheVariants.{Native}
use Rattle.event_tree.specs.declared.input_rule.InputRule.{InputRule}
use Rattle.event_tree.specs.declared.settings.Settings.{Settings}
use Rattle.kept_rows.specs.Account.{FollowedTail, SlotAccount}
use Rattle.kept_rows.specs.Run.{Run}
use Rattle.outside.specs.Files.{File}
use Rattle.outside.specs.Folders.{Event, FolderHistory, Opened}
use Rattle.outside.specs.declared.history.Sight.{Sight}
use Rattle.prospect.specs.declared.listed.Listed.{Listed}
use Rattle.rounds.specs.Words.{DiskWords}
use Rattle.run_steps.specs.AccountedFor.{RunObjects}
use Rattle.run_steps.specs.Areas.{GiveTheRows}
use Rattle.run_steps.specs.Starting.{AreFewFiles, HaveRoomBefore}
use Rattle.wire_base.specs.declared.row.Row.{Row}
use Rattle.beat_run.specs.Scanning.{ScansParted}

-- beside these rows; the folder did more after the scan. That each listed file has its numbers is `keyed` of what the scan parted
pub record IsWithinLimits (inputs : List InputRule) (rows : List Row) (told : FolderHistory) (after : Option FolderHistory) : Type 0 where
  pub files : List Listed
  pub doubled : List Listed
  pub scanned : FolderHistory
  pub scans : ScansParted inputs told files doubled (Some scanned)
  pub later : List Event
  pub after_is : after ≡ Some (record scanned { events = scanned.events ++ later })
  pub few_known : AreFewFiles rows files
  pub room : HaveRoomBefore rows files (length files)

-- beside the rows that its areas gave as it began
pub record StaysWithinLimits {D : Type 0} (disks : DiskWords D) (settings : Settings) (objects : RunObjects D) (told : FolderHistory) : Type 0 where
  pub rows : List Row
  pub given : GiveTheRows disks objects.before.a objects.before.b rows
  pub within : IsWithinLimits settings.inputs rows told objects.after.folder

-- ---- as files are opened

-- a file that a tail of this input follows has native numbers, if the input recognizes its files by these
abbrev pub HasItsNumbers : Run → ℕ → FollowedTail → Type 0
HasItsNumbers run input tail = (rule : InputRule) (path : List ℕ) (number : ℕ) (begun : Sight) (file : File) → slice_get run.settings.inputs input ≡ Some rule →
    rule.file_identity ≡ Native → slice_get run.trace.events tail.opening ≡ Some (Opened path number begun) → slice_get run.trace.files number ≡ Some file → IsSome file.numbers

-- so has each file that the account follows
abbrev pub AllHaveNumbers : Run → List SlotAccount → Type 0
AllHaveNumbers run account = AllByRecursion (λ one. AllByRecursion (HasItsNumbers run one.following.input) one.following.tails) account
