-- The words of a check, and the line of a finding (this project's profile): names are JSON texts (RFC 8259).
use Rattle.std.specs.Prelude.{ℕ, List, [], ◌++◌, codes, decimal, Option, None, Some}
use Rattle.serde_json.specs.Data.{string}
use Rattle.serde_json.specs.Written.{compact_text}
use Rattle.event_tree.specs.declared.input_rule.IdentityRule.{IdentityRule}
use Rattle.event_tree.specs.declared.input_rule.IdentityRule.TheVariants.{Fingerprint, Native, Path}
use Rattle.wire_base.specs.declared.host.Host.{Host}
use Rattle.findings.specs.declared.finding.Finding.{Finding}
use Rattle.findings.specs.declared.finding.Note.{Note}
use Rattle.findings.specs.declared.finding.Note.TheVariants.{Bytes, Files, Nothing, Reason}
use Rattle.findings.specs.declared.kind.Kind.{Kind}
use Rattle.findings.specs.declared.kind.Kind.TheVariants.{Connected, Doubled, Foreign, Fruitless, Idle, Link, ManyFiles, NoText, Rootless, Rotated, Small, Unconnected, Unreadable, Unwritable}
use Rattle.findings.specs.declared.seen.GlobSeen.{GlobSeen}

abbrev pub kind_text : Kind → List ℕ
kind_text Unreadable = codes "unreadable"
kind_text Small = codes "too small for a fingerprint"
kind_text Doubled = codes "doubled by a file before it"
kind_text Link = codes "symbolic link"
kind_text NoText = codes "folder of a name that is not UTF-8"
kind_text Rootless = codes "glob whose folder is absent"
kind_text Fruitless = codes "glob that finds no file"
kind_text Foreign = codes "glob as another tool reads it"
kind_text Rotated = codes "warning, known by path and rotated names are covered"
kind_text Idle = codes "warning, host that no worker uses"
kind_text ManyFiles = codes "warning, more files than may be open"
kind_text Unwritable = codes "warning, registry that cannot be written"
kind_text Connected = codes "host that connects"
kind_text Unconnected = codes "host that does not connect"

abbrev pub number_of : Kind → ℕ
number_of Unreadable = 0
number_of Small = 1
number_of Doubled = 2
number_of Link = 3
number_of NoText = 4
number_of Rootless = 5
number_of Fruitless = 6
number_of Foreign = 7
number_of Rotated = 8
number_of Idle = 9
number_of ManyFiles = 10
number_of Unwritable = 11
number_of Connected = 12
number_of Unconnected = 13

abbrev pub host_text : Host → List ℕ
host_text host = host.name ++ (codes ":" ++ decimal host.port)

abbrev pub quoted : List ℕ → List ℕ
quoted name = compact_text (string name)

abbrev pub note_text : Note → List ℕ
note_text Nothing = []
note_text (Bytes size wanted) = codes ": " ++ (decimal size ++ (codes " of " ++ (decimal wanted ++ codes " bytes")))
note_text (Reason words) = codes ": " ++ words
note_text (Files found limit) = codes ": " ++ (decimal found ++ (codes " files, limit " ++ decimal limit))

abbrev pub finding_line : Finding → List ℕ
finding_line finding = codes "  " ++ (quoted finding.name ++ (note_text finding.note ++ codes "\n"))

-- why the name is a fault
abbrev pub reason_line : Finding → List ℕ
reason_line finding = quoted finding.name ++ (note_text finding.note ++ codes "\n")

abbrev pub identity_text : IdentityRule → List ℕ
identity_text (Fingerprint offset count) = codes "fingerprint of " ++ (decimal count ++ (codes " bytes from " ++ decimal offset))
identity_text Native = codes "native"
identity_text Path = codes "path"

abbrev pub files_text : Option ℕ → List ℕ
files_text None = codes "not counted"
files_text (Some files) = decimal files ++ codes " files"

abbrev pub glob_line : GlobSeen → List ℕ
glob_line one =
    codes "input " ++ (one.asked.id ++ (codes ", " ++ (identity_text one.asked.identity ++ (codes ": " ++ (files_text one.files
    ++ (codes " " ++ (quoted one.asked.text ++ codes "\n")))))))
