-- Settings within the ranges of their table: counts, numbers, ids, hosts, globs, patterns and processors (Filebeat
-- reference, filestream input, multiline messages and Logstash output; the ranges are this project's profile).
use Rattle.std.specs.Prelude.{◌≡◌, ◌≢◌, ℕ, ◌+◌, ◌<◌, ◌≤◌, List, length, All, IfSome, None}
use Rattle.std.specs.Int.{IsInRange}
use Rattle.std.specs.List.{AllPairs}
use Rattle.event_tree.specs.declared.group_rule.GroupRule.{GroupRule}
use Rattle.event_tree.specs.declared.group_rule.GroupRule.TheVariants.{Single, Count, Pattern}
use Rattle.event_tree.specs.declared.input_rule.IdentityRule.{IdentityRule}
use Rattle.event_tree.specs.declared.input_rule.IdentityRule.TheVariants.{Fingerprint, Native, Path}
use Rattle.event_tree.specs.declared.input_rule.InputRule.{InputRule}
use Rattle.event_tree.specs.declared.output_rule.OutputRule.{OutputRule}
use Rattle.event_tree.specs.declared.settings.Settings.{Settings}
use Rattle.glob_paths.specs.Fault.{fault_of}
use Rattle.patterns.specs.Pattern.{IsLinePattern}
use Rattle.wire_base.specs.declared.host.Host.{Host}
use Rattle.beat_config.specs.Name.{IsName}
use Rattle.rules_in_range.specs.Processors.{IsProcessorInRange}

-- the most bytes of a message that are kept
abbrev pub IsMessageLimit : ℕ → Type 0
IsMessageLimit bytes = IsInRange 1 16777216 bytes

-- a time, in milliseconds, of at most a day
abbrev pub IsInterval : ℕ → Type 0
IsInterval milliseconds = IsInRange 1 86400000 milliseconds

-- an age, in milliseconds, of at most 365 days; 0 turns off what it is for
abbrev pub IsAge : ℕ → Type 0
IsAge milliseconds = milliseconds ≤ 31536000000

abbrev pub IsLineCount : ℕ → Type 0
IsLineCount lines = IsInRange 1 1000000 lines

-- a text that is a glob
abbrev pub IsGlob : List ℕ → Type 0
IsGlob text = fault_of text ≡ None

abbrev pub IsIdentityInRange : IdentityRule → Type 0
IsIdentityInRange (Fingerprint offset count) = (offset ≤ 1048576) × IsInRange 64 1048576 count
IsIdentityInRange Native = Unit {0}
IsIdentityInRange Path = Unit {0}

abbrev pub IsGroupInRange : GroupRule → Type 0
IsGroupInRange (Single message_max_bytes) = IsMessageLimit message_max_bytes
IsGroupInRange (Count count_lines max_lines timeout skip_newline message_max_bytes) =
    IsMessageLimit message_max_bytes × IsLineCount max_lines × IsInterval timeout × IsLineCount count_lines
IsGroupInRange (Pattern pattern negate side flush_pattern max_lines timeout skip_newline message_max_bytes) =
    IsMessageLimit message_max_bytes × IsLineCount max_lines × IsInterval timeout × IsLinePattern pattern × IfSome flush_pattern IsLinePattern

pub record IsInputInRange (rule : InputRule) : Type 0 where
  pub id : IsName 64 rule.id
  pub path_count : IsInRange 1 64 (length rule.paths)
  pub paths : All IsGlob rule.paths
  pub file_identity : IsIdentityInRange rule.file_identity
  pub check_interval : IsInterval rule.check_interval
  pub close_inactive : IsInterval rule.close_inactive
  pub ignore_older : IsAge rule.ignore_older
  pub clean_inactive : IsAge rule.clean_inactive
  pub cleaned_late : rule.clean_inactive ≢ 0 → rule.ignore_older + rule.check_interval < rule.clean_inactive
  pub message_max_bytes : IsMessageLimit rule.lines.message_max_bytes
  pub include_count : length rule.include_lines ≤ 64
  pub include_lines : All IsLinePattern rule.include_lines
  pub exclude_count : length rule.exclude_lines ≤ 64
  pub exclude_lines : All IsLinePattern rule.exclude_lines
  pub multiline : IsGroupInRange rule.multiline

pub record IsHostInRange (host : Host) : Type 0 where
  pub name : IsName 253 host.name
  pub port : IsInRange 1 65535 host.port

pub record IsOutputInRange (rule : OutputRule) : Type 0 where
  pub host_count : IsInRange 1 16 (length rule.hosts)
  pub hosts : All IsHostInRange rule.hosts
  pub workers : IsInRange 1 16 rule.workers
  pub bulk_max_size : IsInRange 1 65536 rule.bulk_max_size
  pub pipelining : IsInRange 1 8 rule.pipelining
  pub timeout : IsInRange 1 3600000 rule.timeout
  pub attempts : IsInRange 1 1000 rule.attempts

-- the settings are within the ranges of their table, and no two inputs have the same id
pub record AreInRange (settings : Settings) : Type 0 where
  pub input_count : IsInRange 1 64 (length settings.inputs)
  pub inputs : All IsInputInRange settings.inputs
  pub ids_differ : AllPairs (λ earlier later. earlier.id ≢ later.id) settings.inputs
  pub output : IsOutputInRange settings.output
  pub processor_count : length settings.processors ≤ 64
  pub processors : All IsProcessorInRange settings.processors
  pub events : IsInRange 32 65536 settings.events
  pub lanes : IsInRange 1 8 settings.lanes
