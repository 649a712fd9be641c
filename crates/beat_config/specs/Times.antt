-- The times of an input: the pause between two scans, how long a file without news stays open, which files are skipped
-- for their age, and when a row is cleaned (Filebeat reference, filestream input; the ranges and the defaults that the
-- reference does not fix are this project's profile).
use Rattle.std.specs.Prelude.{ℕ, Bool, ◌+◌, ◌==◌, ◌&&◌, not, nat_le, List, [], ◌∷◌, ◌++◌, codes, if◌then◌else◌}
use Rattle.toml.specs.Data.{Members, get_member}
use Rattle.beat_config.specs.declared.settings_error.SettingsError.{SettingsError}
use Rattle.beat_config.specs.declared.settings_error.SettingsError.TheVariants.{CleanTooSoon}
use Rattle.beat_config.specs.declared.times.Times.{Times}
use Rattle.beat_config.specs.Path.{key_path}
use Rattle.beat_config.specs.Single.{limits, duration_of, duration_findings}

-- the values at the keys of the times, in milliseconds
unfoldable pub times_in : Members → Times
times_in members = record {
  check_interval = duration_of (limits 1 86400000) 10000 (get_member (codes "check_interval") members);
  close_inactive = duration_of (limits 1 86400000) 300000 (get_member (codes "close_inactive") members);
  ignore_older = duration_of (limits 0 31536000000) 0 (get_member (codes "ignore_older") members);
  clean_inactive = duration_of (limits 0 31536000000) 0 (get_member (codes "clean_inactive") members);
}

-- rows are cleaned, and the row of a file could be before a scan has passed the file over for its age
abbrev pub is_too_soon : Times → Bool
is_too_soon times = not (times.clean_inactive == 0) && nat_le times.clean_inactive (times.ignore_older + times.check_interval)

unfoldable pub clean_findings : List ℕ → Times → List SettingsError
clean_findings path times = if is_too_soon times then CleanTooSoon path ∷ [] else []

unfoldable pub times_findings : List ℕ → Members → List SettingsError
times_findings path members =
    duration_findings (limits 1 86400000) (key_path path (codes "check_interval")) (get_member (codes "check_interval") members)
    ++ (duration_findings (limits 1 86400000) (key_path path (codes "close_inactive")) (get_member (codes "close_inactive") members)
    ++ (duration_findings (limits 0 31536000000) (key_path path (codes "ignore_older")) (get_member (codes "ignore_older") members)
    ++ (duration_findings (limits 0 31536000000) (key_path path (codes "clean_inactive")) (get_member (codes "clean_inactive") members)
    ++ clean_findings path (times_in members))))
