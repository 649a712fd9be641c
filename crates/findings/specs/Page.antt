-- What a check prints (this project's profile): to standard output a line for each glob, and then for each kind of which
-- something was found how often, the names and, of more than 20, how many more; to standard error why it ends as it does.
use Rattle.std.specs.Prelude.{ℕ, ◌-◌, ◌==◌, ◌||◌, nat_lt, Bool, if◌then◌else◌, List, [], ◌∷◌, ◌++◌, codes, decimal, filter, length, take}
use Rattle.std.specs.List.{flat_map, list_any}
use Rattle.findings.specs.Texts.{finding_line, glob_line, kind_text, number_of, reason_line}
use Rattle.findings.specs.declared.ending.Ending.{Ending}
use Rattle.findings.specs.declared.ending.Ending.TheVariants as ending
use Rattle.findings.specs.declared.finding.Finding.{Finding}
use Rattle.findings.specs.declared.kind.Kind.{Kind}
use Rattle.findings.specs.declared.kind.Kind.TheVariants.{Connected, Doubled, Foreign, Fruitless, Idle, Link, ManyFiles, NoText, Rootless, Rotated, Small, Unconnected, Unreadable, Unwritable}
use Rattle.findings.specs.declared.page.TheConstants.{SHOWN}
use Rattle.findings.specs.declared.seen.GlobSeen.{GlobSeen}

abbrev pub is_kind : Kind → Finding → Bool
is_kind kind finding = number_of finding.kind == number_of kind

-- those of this kind, in the order in which they were found
abbrev pub of_kind : Kind → List Finding → List Finding
of_kind kind found = filter (is_kind kind) found

abbrev pub more_text : ℕ → List ℕ
more_text count = if nat_lt SHOWN count then codes "  and " ++ (decimal (count - SHOWN) ++ codes " more\n") else []

-- so many of a kind
abbrev pub head_line : Kind → ℕ → List ℕ
head_line kind count = kind_text kind ++ (codes ": " ++ (decimal count ++ codes "\n"))

abbrev pub section_text : Kind → List Finding → List ℕ
section_text kind [] = []
section_text kind (one ∷ others) =
    head_line kind (length (one ∷ others))
    ++ (flat_map finding_line (take SHOWN (one ∷ others)) ++ more_text (length (one ∷ others)))

abbrev pub section : List Finding → Kind → List ℕ
section found kind = section_text kind (of_kind kind found)

abbrev pub kinds : List Kind
kinds =
    Unreadable ∷ Small ∷ Doubled ∷ Link ∷ NoText ∷ Rootless ∷ Fruitless ∷ Foreign ∷ Rotated ∷ Idle ∷ ManyFiles ∷ Unwritable
    ∷ Connected ∷ Unconnected ∷ []

abbrev pub page_of : List GlobSeen → List Finding → List ℕ
page_of globs found = flat_map glob_line globs ++ flat_map (section found) kinds

-- ---- standard error

abbrev pub reason_lines : List Finding → List ℕ
reason_lines of = flat_map reason_line (take SHOWN of) ++ more_text (length of)

abbrev pub reasons_of : List Finding → List ℕ
reasons_of found = reason_lines (of_kind Unreadable found) ++ reason_lines (of_kind Unconnected found)

-- ---- the end

abbrev pub ending_of : Bool → List Finding → Ending
ending_of failed found =
    if failed || list_any (is_kind Unreadable) found then ending.Unreadable
    else (if list_any (is_kind Unconnected) found then ending.Unreachable else ending.Well)
