-- Why a scan after the first one is cut off (this project's profile), by why it reported no files: its listings are refused only for native
-- numbers that are missing.
use Rattle.std.specs.Prelude.{◌≡◌}
use Rattle.prospect.specs.declared.scan_error.ScanError.{ScanError}
use Rattle.prospect.specs.declared.scan_error.ScanError.TheVariants as scan_error
use Rattle.run_steps.specs.declared.rescan_error.RescanError.{RescanError}
use Rattle.run_steps.specs.declared.rescan_error.RescanError.TheVariants.{NoMemory, NoNative}

abbrev pub cut_off_by : ScanError → RescanError
cut_off_by scan_error.Failed = NoMemory
cut_off_by scan_error.NoMemory = NoMemory
cut_off_by (scan_error.NoNative path) = NoNative path

abbrev pub IsCutOffBy : ScanError → RescanError → Type 0
IsCutOffBy error made = made ≡ cut_off_by error

abbrev pub IsOutOfMemory : RescanError → Type 0
IsOutOfMemory error = error ≡ NoMemory
