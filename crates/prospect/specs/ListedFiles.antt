-- The files of one scan (Filebeat reference, filestream paths and file identity; this project's profile): each path that
-- its listings showed is a file once for each input that has a glob which covers it, in byte order of the paths and then
-- by the inputs' places in the settings. If two listings showed one path with other native numbers, as of a file that took
-- another's name meanwhile, it is a file of each of them to an input that knows files by these.
use Rattle.std.specs.Prelude.{◌≡◌, ◌≢◌, ℕ, List, [], ◌∷◌, flat_map, slice_get, All, Any, Contains, Option, None, Some, IfSome, IsSome}
use Rattle.std.specs.List.{AllByRecursion}
use Rattle.std.specs.Ordering.{nat_cmp, ordering_then}
use Rattle.std.specs.declared.cmp.Ordering.{Ordering}
use Rattle.std.specs.declared.cmp.Ordering.TheVariants.{Less}
use Rattle.event_tree.specs.declared.input_rule.IdentityRule.{IdentityRule}
use Rattle.event_tree.specs.declared.input_rule.IdentityRule.TheVariants.{Fingerprint, Native, Path}
use Rattle.event_tree.specs.declared.input_rule.InputRule.{InputRule}
use Rattle.file_identity.specs.Key.{named_key}
use Rattle.outside.specs.declared.history.Shown.{Shown}
use Rattle.outside.specs.Folders.{FolderHistory}
use Rattle.wire_base.specs.KeyOrder.{compare}
use Rattle.wire_base.specs.Ranges.{IsKey, IsPath, IsPlace}
use Rattle.prospect.specs.declared.listed.Listed.{Listed}
use Rattle.prospect.specs.declared.scan_error.ScanError.{ScanError}
use Rattle.prospect.specs.declared.scan_error.ScanError.TheVariants.{Failed, NoMemory, NoNative}
use Rattle.prospect.specs.Members.{IsCovered, globs_of}
use Rattle.prospect.specs.Scan.{AreListed, Listing}
use Rattle.prospect.specs.Unfinished.{ListsSome}

-- what the listings showed, one after another
abbrev pub shown_in : List Listing → List Shown
shown_in listings = flat_map (λ listing. listing.shown) listings

-- the file is the shown one, for the input of its number, which covers it
pub record IsListedBy (inputs : List InputRule) (listed : Listed) (shown : Shown) : Type 0 where
  pub rule : InputRule
  pub rule_is : slice_get inputs listed.input ≡ Some rule
  pub covered : IsCovered rule.paths listed.path
  pub path_is : listed.path ≡ shown.entry.path
  pub size_is : listed.size ≡ shown.entry.size
  pub changed_is : listed.changed ≡ shown.entry.changed
  pub key_is : listed.key ≡ named_key rule.id rule.file_identity shown.entry.path shown.entry.native

-- each is by what the listings showed
abbrev pub AreOfShown : List InputRule → List Listing → List Listed → Type 0
AreOfShown inputs listings listed = All (λ one. Any (λ shown. IsListedBy inputs one shown) (shown_in listings)) listed

-- the place of a file in the order: a path, and an input's place
pub record Place : Type 0 where
  pub path : List ℕ
  pub input : ℕ

abbrev pub place_of : Listed → Place
place_of listed = record { path = listed.path; input = listed.input }

-- by path, and then by input
abbrev pub place_order : Place → Place → Ordering
place_order one other = ordering_then (compare one.path other.path) (nat_cmp one.input other.input)

-- what distinguishes files of one place is the key that the entry gave
pub record Name : Type 0 where
  pub place : Place
  pub key : Option (List ℕ)

abbrev pub name_of : Listed → Name
name_of listed = record { place = place_of listed; key = listed.key }

-- a file has the name
abbrev pub HasFile : List Listed → Name → Type 0
HasFile listed name = Any (λ one. name_of one ≡ name) listed

-- no two files have one name
abbrev pub AreApart : List Listed → Type 0
AreApart [] = Unit {0}
AreApart (one ∷ others) = (¬ (HasFile others (name_of one))) × AreApart others

-- none comes before one that is ahead of it in the order
abbrev pub AreInOrder : List Listed → Type 0
AreInOrder [] = Unit {0}
AreInOrder (one ∷ others) = AllByRecursion (λ later. place_order (place_of later) (place_of one) ≢ Less) others × AreInOrder others

abbrev pub place_at : Shown → ℕ → Place
place_at shown input = record { path = shown.entry.path; input = input }

-- the name of the entry's file, for the input of this number and rule
abbrev pub name_at : InputRule → Shown → ℕ → Name
name_at rule shown input = record {
  place = place_at shown input;
  key = named_key rule.id rule.file_identity shown.entry.path shown.entry.native;
}

-- the input of this place has a glob that covers what was shown
pub record IsCoveredBy (inputs : List InputRule) (listings : List Listing) (shown : Shown) (input : ℕ) : Type 0 where
  pub among : Contains (shown_in listings) shown
  pub rule : InputRule
  pub rule_is : slice_get inputs input ≡ Some rule
  pub covered : IsCovered rule.paths shown.entry.path

-- the files are those that the inputs cover of what these listings showed, each once
pub record AreFilesShown (inputs : List InputRule) (listings : List Listing) (listed : List Listed) : Type 0 where
  pub only : AreOfShown inputs listings listed
  pub every : (shown : Shown) (input : ℕ) (of : IsCoveredBy inputs listings shown input) → HasFile listed (name_at of.rule shown input)
  pub in_order : AreInOrder listed
  pub apart : AreApart listed

-- by one listing for each glob
pub record ScansFiles (inputs : List InputRule) (told : FolderHistory) (listed : List Listed) (after : Option FolderHistory) : Type 0 where
  pub listings : List Listing
  pub listed_is : AreListed (globs_of inputs) told listings after
  pub shown : AreFilesShown inputs listings listed

-- the key is known if the identity does not read the file
abbrev pub KeyIsTold : IdentityRule → Option (List ℕ) → Type 0
KeyIsTold (Fingerprint offset count) key = Unit {0}
KeyIsTold Native key = IsSome key
KeyIsTold Path key = IsSome key

-- an input that does not read its files has the key of each
abbrev pub IsKeyed : List InputRule → Listed → Type 0
IsKeyed inputs listed = (rule : InputRule) → slice_get inputs listed.input ≡ Some rule → KeyIsTold rule.file_identity listed.key

-- the listings showed a path for which an input asks for native numbers without them, the first such in the order
pub record LacksNumbersFirst (inputs : List InputRule) (listings : List Listing) (path : List ℕ) : Type 0 where
  pub shown : Shown
  pub input : ℕ
  pub covered : IsCoveredBy inputs listings shown input
  pub by_numbers : covered.rule.file_identity ≡ Native
  pub path_is : shown.entry.path ≡ path
  pub none : shown.entry.native ≡ None
  pub first : (other : Shown) (at : ℕ) (of : IsCoveredBy inputs listings other at) →
      of.rule.file_identity ≡ Native → other.entry.native ≡ None → place_order (place_at other at) (place_at shown input) ≢ Less

-- by one listing for each glob
pub record FindsNoNumbers (inputs : List InputRule) (told : FolderHistory) (path : List ℕ) (after : Option FolderHistory) : Type 0 where
  pub listings : List Listing
  pub listed_is : AreListed (globs_of inputs) told listings after
  pub lacks : LacksNumbersFirst inputs listings path

-- what was done when a scan gives no file
abbrev pub EndsAs : List InputRule → FolderHistory → ScanError → Option FolderHistory → Type 0
EndsAs inputs told Failed after = ListsSome (globs_of inputs) told after
EndsAs inputs told NoMemory after = ListsSome (globs_of inputs) told after
EndsAs inputs told (NoNative path) after = FindsNoNumbers inputs told path after

-- a file within the ranges of a begin
pub record IsListedInRange (listed : Listed) : Type 0 where
  pub key : IfSome listed.key IsKey
  pub path : IsPath listed.path
  pub size : IsPlace listed.size
