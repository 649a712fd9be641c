-- The text format of Prometheus, for the textfile collector of node_exporter (Prometheus exposition formats, text format;
-- the names are this project's profile). A family is its HELP line, its TYPE line and its samples. A file with a row or a
-- new one has a sample in the families of files, with its key and its path as labels. Files that are doubled or small are
-- counted alone, so that no two samples have one key.
use Rattle.std.specs.Prelude.{ℕ, ◌/◌, List, [], ◌∷◌, ◌++◌, codes, decimal, Option, None, Some}
use Rattle.std.specs.List.{flat_map}
use Rattle.wire_base.specs.declared.numbers.Moment.{Moment}
use Rattle.file_progress.specs.Parts.{label_escape}
use Rattle.file_progress.specs.Texts.{state_text}
use Rattle.file_progress.specs.Totals.{behind_in, count_in}
use Rattle.file_progress.specs.declared.overview.Overview.{Overview}
use Rattle.file_progress.specs.declared.progress.Progress.{Progress}
use Rattle.file_progress.specs.declared.family.Family.{Family}
use Rattle.file_progress.specs.declared.family.Family.TheVariants.{Behind, FileBehind, FileOffset, FileRestarts, FileSize, Files, Generation, Written}
use Rattle.file_progress.specs.declared.state.State.{State}
use Rattle.file_progress.specs.declared.state.State.TheVariants.{Doubled, Gone, New, Present, Shorter, Small}

abbrev pub name_of : Family → List ℕ
name_of FileBehind = codes "beat_file_behind_bytes"
name_of FileOffset = codes "beat_file_offset_bytes"
name_of FileSize = codes "beat_file_size_bytes"
name_of FileRestarts = codes "beat_file_restarts_total"
name_of Files = codes "beat_files"
name_of Behind = codes "beat_behind_bytes"
name_of Generation = codes "beat_registry_generation"
name_of Written = codes "beat_registry_written_timestamp_seconds"

abbrev pub help_of : Family → List ℕ
help_of FileBehind = codes "Bytes of the file that are neither acknowledged nor dropped yet."
help_of FileOffset = codes "Place in the file up to which all is acknowledged or dropped."
help_of FileSize = codes "Size of the file."
help_of FileRestarts = codes "How often the file was begun again from its start."
help_of Files = codes "Files by how they and their rows go together."
help_of Behind = codes "Bytes of all files that are neither acknowledged nor dropped yet."
help_of Generation = codes "Generation of the registry area that is used."
help_of Written = codes "When the registry was last written, in Unix time."

abbrev pub kind_of : Family → List ℕ
kind_of FileBehind = codes "gauge"
kind_of FileOffset = codes "gauge"
kind_of FileSize = codes "gauge"
kind_of FileRestarts = codes "counter"
kind_of Files = codes "gauge"
kind_of Behind = codes "gauge"
kind_of Generation = codes "gauge"
kind_of Written = codes "gauge"

-- the HELP line and the TYPE line
abbrev pub head_of : Family → List ℕ
head_of family =
    codes "# HELP " ++ (name_of family ++ (codes " " ++ (help_of family ++ (codes "\n# TYPE "
    ++ (name_of family ++ (codes " " ++ (kind_of family ++ codes "\n")))))))

-- what a file has in a family of files
abbrev pub value_in : Family → Progress → Option ℕ
value_in FileBehind one = one.behind
value_in FileOffset one = Some one.offset
value_in FileSize one = one.size
value_in FileRestarts one = Some one.epoch
value_in Files one = None
value_in Behind one = None
value_in Generation one = None
value_in Written one = None

-- the key by which it has samples: those of a file with a row, and of a new one
abbrev pub sampled_key : State → Option (List ℕ) → Option (List ℕ)
sampled_key Present key = key
sampled_key Shorter key = key
sampled_key Gone key = key
sampled_key New key = key
sampled_key Doubled key = None
sampled_key Small key = None

abbrev pub sample_by : List ℕ → List ℕ → Option (List ℕ) → Option ℕ → List ℕ
sample_by name path None value = []
sample_by name path (Some key) None = []
sample_by name path (Some key) (Some value) =
    name ++ (codes "{key=\"" ++ (flat_map label_escape key ++ (codes "\",path=\"" ++ (flat_map label_escape path
    ++ (codes "\"} " ++ (decimal value ++ codes "\n"))))))

abbrev pub sample_of : Family → Progress → List ℕ
sample_of family one = sample_by (name_of family) one.path (sampled_key one.state one.key) (value_in family one)

abbrev pub files_family : Family → List Progress → List ℕ
files_family family files = head_of family ++ flat_map (sample_of family) files

abbrev pub count_line : List Progress → State → List ℕ
count_line files state =
    codes "beat_files{state=\"" ++ (state_text state ++ (codes "\"} " ++ (decimal (count_in state files) ++ codes "\n")))

abbrev pub counts_family : List Progress → List ℕ
counts_family files =
    head_of Files ++ (count_line files Present ++ (count_line files Shorter ++ (count_line files Gone
    ++ (count_line files New ++ (count_line files Doubled ++ count_line files Small)))))

-- a family of one sample; none if there is no number
abbrev pub single_family : Family → Option ℕ → List ℕ
single_family family None = []
single_family family (Some value) = head_of family ++ (name_of family ++ (codes " " ++ (decimal value ++ codes "\n")))

abbrev pub seconds_of : Option Moment → Option ℕ
seconds_of None = None
seconds_of (Some moment) = Some (moment.0 / 1000)

abbrev pub prometheus_text : Overview → List ℕ
prometheus_text overview =
    files_family FileBehind overview.files.items ++ (files_family FileOffset overview.files.items
    ++ (files_family FileSize overview.files.items ++ (files_family FileRestarts overview.files.items
    ++ (counts_family overview.files.items ++ (single_family Behind (Some (behind_in overview.files.items))
    ++ (single_family Generation overview.generation ++ single_family Written (seconds_of overview.committed)))))))
