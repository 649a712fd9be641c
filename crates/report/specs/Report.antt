-- What a run prints (this project's profile): the report, with a line for each row of the registry, for each path and
-- reason for which it was skipped, for the counts and for the status; or the status line only. Keys and paths of
-- files are JSON texts.
use Rattle.std.specs.Prelude.{◌≡◌, ℕ, List, [], ◌++◌, codes, decimal}
use Rattle.std.specs.List.{flat_map}
use Rattle.std.specs.Fmt.{signed_decimal}
use Rattle.wire_base.specs.declared.limits.Full.{Full}
use Rattle.wire_base.specs.declared.limits.Full.TheVariants.{Files, Epochs, Slots}
use Rattle.wire_base.specs.declared.limits.Which.{Which}
use Rattle.wire_base.specs.declared.limits.Which.TheVariants.{A, B}
use Rattle.wire_base.specs.declared.row.Row.{Row}
use Rattle.event_json.specs.Json.{quoted}
use Rattle.beat_config.specs.declared.settings_error.SettingsError.{SettingsError}
use Rattle.beat_config.specs.declared.settings_error.SettingsError.TheVariants as settings
use Rattle.report.specs.declared.passing.Passing.{Passing}
use Rattle.report.specs.declared.status.Lack.{Lack}
use Rattle.report.specs.declared.status.Lack.TheVariants.{Key, Follow}
use Rattle.report.specs.declared.status.Status.{Status}
use Rattle.report.specs.declared.status.Status.TheVariants.{Done, Stopped, Usage, Settings, RegistryBad, DiskFault, FolderFault, Unreachable, OutFault, SourceFault, TooMany, NoNative, NoMemory, Unbuilt}
use Rattle.report.specs.Passings.{ArePassings, why_text}

-- `file KEY EPOCH OFFSET PATH`
abbrev pub file_line : Row → List ℕ
file_line row =
    codes "file " ++ (quoted row.key ++ (codes " " ++ (decimal row.epoch.0 ++ (codes " " ++ (decimal row.offset
    ++ (codes " " ++ (quoted row.path ++ codes "\n")))))))

-- `passed PATH WHY`
abbrev pub passed_line : Passing → List ℕ
passed_line passing = codes "passed " ++ (quoted passing.path ++ (codes " " ++ (why_text passing.why ++ codes "\n")))

-- `shipped N dropped M`
abbrev pub counts_line : ℕ → ℕ → List ℕ
counts_line shipped dropped =
    codes "shipped " ++ (decimal shipped ++ (codes " dropped " ++ (decimal dropped ++ codes "\n")))

-- a key is as it is
abbrev pub settings_text : SettingsError → List ℕ
settings_text settings.TooLong = codes "too long"
settings_text settings.NotToml = codes "not toml"
settings_text (settings.Unknown key) = codes "unknown " ++ key
settings_text (settings.Missing key) = codes "missing " ++ key
settings_text (settings.WrongKind key) = codes "wrong kind " ++ key
settings_text (settings.BadText key) = codes "bad text " ++ key
settings_text (settings.OutOfRange key value) = codes "out of range " ++ (key ++ (codes " " ++ signed_decimal value))
settings_text (settings.BadGlob key fault) = codes "bad glob " ++ key
settings_text (settings.BadPattern key) = codes "bad pattern " ++ key
settings_text (settings.CleanTooSoon key) = codes "clean too soon " ++ key
settings_text settings.NoMemory = codes "no memory"

abbrev pub settings_line : List ℕ → List ℕ
settings_line text = codes "status 3 settings " ++ (text ++ codes "\n")

abbrev pub area_letter : Which → List ℕ
area_letter A = codes "A"
area_letter B = codes "B"

abbrev pub full_name : Full → List ℕ
full_name Files = codes "files"
full_name Epochs = codes "epochs"
full_name Slots = codes "slots"

-- a key is as it is
abbrev pub lack_text : Lack → List ℕ
lack_text (Key key) = codes "key " ++ key
lack_text Follow = codes "follow"

abbrev pub unbuilt_line : List ℕ → List ℕ
unbuilt_line text = codes "status 13 unbuilt " ++ (text ++ codes "\n")

-- the status line of each end; of a sink that failed nothing is promised
abbrev pub status_bytes : Status → List ℕ
status_bytes Done = codes "status 0 done\n"
status_bytes Stopped = codes "status 1 stopped\n"
status_bytes Usage = codes "status 2 usage: beat_main -c FILE [--once] [--data DIR] [--generate N]\n"
status_bytes (Settings fault) = settings_line (settings_text fault)
status_bytes (RegistryBad area at) =
    codes "status 4 registry bad area " ++ (area_letter area ++ (codes " at " ++ (decimal at ++ codes "\n")))
status_bytes DiskFault = codes "status 5 disk fault\n"
status_bytes FolderFault = codes "status 6 folder fault\n"
status_bytes (Unreachable worker failures) =
    codes "status 7 unreachable worker " ++ (decimal worker ++ (codes " failures " ++ (decimal failures ++ codes "\n")))
status_bytes OutFault = []
status_bytes SourceFault = codes "status 9 source fault\n"
status_bytes (TooMany what path) =
    codes "status 10 too many " ++ (full_name what ++ (codes " " ++ (quoted path ++ codes "\n")))
status_bytes (NoNative path) = codes "status 11 no native numbers " ++ (quoted path ++ codes "\n")
status_bytes NoMemory = codes "status 12 no memory\n"
status_bytes (Unbuilt what) = unbuilt_line (lack_text what)

-- the lines of the rows, of the skipped paths, of the counts and of the status, in this order
abbrev pub report_bytes : List Row → List Passing → ℕ → ℕ → Status → List ℕ
report_bytes rows ordered shipped dropped status =
    flat_map file_line rows ++ (flat_map passed_line ordered ++ (counts_line shipped dropped ++ status_bytes status))

-- the text is the report, in which the skipped paths are a set and reported in their order
pub record IsReport (rows : List Row) (passed : List Passing) (shipped dropped : ℕ) (status : Status) (text : List ℕ) : Type 0 where
  pub ordered : List Passing
  pub passings : ArePassings passed ordered
  pub spelled : text ≡ report_bytes rows ordered shipped dropped status
