-- What a check finds in what it saw (this project's profile).
use Rattle.std.specs.Prelude.{ℕ, ◌+◌, ◌-◌, ◌^◌, min, ◌==◌, ◌||◌, nat_lt, Bool, true, false, if◌then◌else◌, List, [], ◌∷◌, ◌++◌, drop, map, codes, slice_get, Option, None, Some}
use Rattle.std.specs.List.{flat_map}
use Rattle.event_tree.specs.declared.input_rule.IdentityRule.{IdentityRule}
use Rattle.event_tree.specs.declared.input_rule.IdentityRule.TheVariants.{Fingerprint, Native, Path}
use Rattle.event_tree.specs.declared.input_rule.InputRule.{InputRule}
use Rattle.event_tree.specs.declared.settings.Settings.{Settings}
use Rattle.prospect.specs.declared.listed.Listed.{Listed}
use Rattle.wire_base.specs.declared.host.Host.{Host}
use Rattle.findings.specs.Globs.{ends_with_star, is_foreign}
use Rattle.findings.specs.Texts.{host_text}
use Rattle.findings.specs.declared.finding.Finding.{Finding}
use Rattle.findings.specs.declared.finding.Note.{Note}
use Rattle.findings.specs.declared.finding.Note.TheVariants.{Bytes, Files, Nothing, Reason}
use Rattle.findings.specs.declared.finding_list.TheConstants.{BESIDE_FILES}
use Rattle.findings.specs.declared.kind.Kind.{Kind}
use Rattle.findings.specs.declared.kind.Kind.TheVariants.{Connected, Doubled, Foreign, Fruitless, Idle, Link, ManyFiles, NoText, Rootless, Rotated, Small, Unconnected, Unreadable, Unwritable}
use Rattle.findings.specs.declared.place.Place.{Place}
use Rattle.findings.specs.declared.place.Place.TheVariants.{Folder, Other, Nothing as Absent}
use Rattle.findings.specs.declared.seen.GlobSeen.{GlobSeen}
use Rattle.findings.specs.declared.seen.Seen.{Seen}
use Rattle.findings.specs.declared.seen.Unread.{Unread}
use Rattle.findings.specs.declared.skipped.Skipped.{Skipped}
use Rattle.findings.specs.declared.skipped.Why.{Why}
use Rattle.findings.specs.declared.skipped.Why.TheVariants as why
use Rattle.findings.specs.declared.trial.Trial.{Trial}

abbrev pub finding_of : Kind → List ℕ → Note → Finding
finding_of kind name note = record { kind = kind; name = name; note = note }

-- the finding, if the test is true
abbrev pub only_if : Bool → Kind → List ℕ → List Finding
only_if true kind name = finding_of kind name Nothing ∷ []
only_if false kind name = []

abbrev pub skipped_as : List ℕ → Why → Finding
skipped_as path why.Link = finding_of Link path Nothing
skipped_as path why.NoText = finding_of NoText path Nothing
skipped_as path (why.Unreadable reason) = finding_of Unreadable path (Reason reason)

abbrev pub skipped_finding : Skipped → Finding
skipped_finding one = skipped_as one.path one.why

-- a glob whose root is absent, or that finds no file
abbrev pub is_zero : Option ℕ → Bool
is_zero None = false
is_zero (Some files) = files == 0

abbrev pub fruit_findings : Place → Option ℕ → List ℕ → List Finding
fruit_findings Absent files glob = finding_of Rootless glob Nothing ∷ []
fruit_findings Folder files glob = only_if (is_zero files) Fruitless glob
fruit_findings Other files glob = only_if (is_zero files) Fruitless glob

abbrev pub is_folder : Place → Bool
is_folder Absent = false
is_folder Folder = true
is_folder Other = false

-- it has what other tools read otherwise, or names a folder, whose files they read
abbrev pub foreign_findings : Place → List ℕ → List Finding
foreign_findings spelled glob = only_if (is_foreign glob || is_folder spelled) Foreign glob

abbrev pub rotated_findings : IdentityRule → List ℕ → List Finding
rotated_findings (Fingerprint offset count) glob = []
rotated_findings Native glob = []
rotated_findings Path glob = only_if (ends_with_star glob) Rotated glob

abbrev pub glob_findings : GlobSeen → List Finding
glob_findings one =
    map skipped_finding one.skipped.items
    ++ (fruit_findings one.root one.files one.asked.text
    ++ (foreign_findings one.spelled one.asked.text ++ rotated_findings one.asked.identity one.asked.text))

abbrev pub unread_finding : Unread → Finding
unread_finding one = finding_of Unreadable one.path (Reason one.refusal)

-- so many bytes the fingerprint of a file of the input reads
abbrev pub wanted_by : IdentityRule → ℕ
wanted_by (Fingerprint offset count) = min (offset + count) (2 ^ 64 - 1)
wanted_by Native = 0
wanted_by Path = 0

abbrev pub wanted_of : Option InputRule → ℕ
wanted_of None = 0
wanted_of (Some rule) = wanted_by rule.file_identity

abbrev pub small_finding : List InputRule → Listed → Finding
small_finding inputs one = finding_of Small one.path (Bytes one.size (wanted_of (slice_get inputs one.input)))

abbrev pub doubled_finding : Listed → Finding
doubled_finding one = finding_of Doubled one.path Nothing

abbrev pub idle_finding : Host → Finding
idle_finding host = finding_of Idle (host_text host) Nothing

-- a run has each file open, and some others beside them
abbrev pub many_findings : ℕ → Option ℕ → List Finding
many_findings files None = []
many_findings files (Some limit) =
    if nat_lt limit (min (files + BESIDE_FILES) (2 ^ 64 - 1)) then finding_of ManyFiles (codes "ulimit -n") (Files files limit) ∷ [] else []

abbrev pub write_findings : List ℕ → Option (List ℕ) → List Finding
write_findings folder None = []
write_findings folder (Some reason) = finding_of Unwritable folder (Reason reason) ∷ []

abbrev pub tried_as : List ℕ → Option (List ℕ) → Finding
tried_as host None = finding_of Connected host Nothing
tried_as host (Some reason) = finding_of Unconnected host (Reason reason)

abbrev pub trial_finding : Trial → Finding
trial_finding trial = tried_as (host_text trial.host) trial.refusal

-- those of the files
abbrev pub file_findings : List InputRule → Seen → List Finding
file_findings inputs seen =
    flat_map glob_findings seen.files.globs.items
    ++ (map unread_finding seen.files.unread.items
    ++ (map (small_finding inputs) seen.files.small.items ++ map doubled_finding seen.files.doubled.items))

-- all, for the registry of this folder
abbrev pub findings_of : List ℕ → Settings → Seen → List Finding
findings_of folder settings seen =
    file_findings settings.inputs seen
    ++ (map idle_finding (drop settings.output.workers settings.output.hosts)
    ++ (many_findings seen.files.files seen.open_limit
    ++ (write_findings folder seen.write_refusal ++ map trial_finding seen.trials.items)))
