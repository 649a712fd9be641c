-- For private clauses: listing and asking past what fails, one call after the other (this project's profile).
use Rattle.std.specs.Prelude.{◌≡◌, ◌⊎◌, ℕ, List, ◌++◌, flat_map, map, All, Option, Some, IfSome}
use Rattle.event_tree.specs.declared.input_rule.InputRule.{InputRule}
use Rattle.outside.specs.Counts.{Rose}
use Rattle.outside.specs.declared.entry.Entry.{Entry}
use Rattle.outside.specs.Folders.{FolderHistory, IsListable}
use Rattle.prospect.specs.declared.askings.Askings.{Askings}
use Rattle.prospect.specs.declared.listed.Listed.{Listed}
use Rattle.prospect.specs.declared.listings.Tried.{Tried}
use Rattle.prospect.specs.AskedFiles.{gone_by, keyed_by, small_by}
use Rattle.prospect.specs.Entries.{Adds}
use Rattle.prospect.specs.ListedFiles.{shown_in}
use Rattle.prospect.specs.PastFaults.{TriesGlobs, TriesOne, Trial, answered_by, faulted_by, file_tried, served_in}

-- the entries are those that the served listings showed
pub record ServeEntries (globs failed : List (List ℕ)) (entries : List Entry) (told : FolderHistory) (faults : ℕ) (after : Option FolderHistory) : Type 0 where
  pub tries : TriesGlobs globs told failed faults after
  pub entries_are : entries ≡ map (λ one. one.entry) (shown_in (served_in tries.attempts))

-- a listing was tried for each glob: what it showed was added, or its root was
pub record TriesMore (globs : List (List ℕ)) (told : Option FolderHistory) (old new : Tried) (faults : ℕ) (after : Option FolderHistory) : Type 0 where
  pub entries : List Entry
  pub in_range : All IsListable entries
  pub added : Adds entries old.entries new.entries
  pub failed : List (List ℕ)
  pub failed_more : new.failed.items ≡ old.failed.items ++ failed
  pub served : IfSome told (λ history. ServeEntries globs failed entries history faults after)

-- no more failed than before, unless a count of faults rose
abbrev pub FailMoreOnlyByFaults : {A : Type 0} → List A → List A → ℕ → ℕ → Type 0
FailMoreOnlyByFaults old new before now = (new ≡ old) ⊎ Rose before now

-- the file was tried, and put where its answer belongs
pub record TriesNext (inputs : List InputRule) (told : FolderHistory) (one : Listed) (old new : Askings) (after : Option FolderHistory) : Type 0 where
  pub trial : Trial
  pub listed_is : file_tried trial ≡ one
  pub last : FolderHistory
  pub tries : TriesOne inputs trial told last
  pub after_is : after ≡ Some last
  pub files : new.keyed.files.items ≡ old.keyed.files.items ++ flat_map keyed_by (answered_by trial)
  pub gone : new.keyed.gone.items ≡ old.keyed.gone.items ++ flat_map gone_by (answered_by trial)
  pub small : new.keyed.small.items ≡ old.keyed.small.items ++ flat_map small_by (answered_by trial)
  pub failed : new.failed.items ≡ old.failed.items ++ faulted_by trial
