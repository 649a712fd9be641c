-- The scans of a run (Filebeat reference, filestream input, prospector; this project's profile): its listings, failed ones
-- among them, fall in their order into scans of one listing for each glob of the settings; the last may be cut off. A scan
-- is whole if it is not cut off, none of its listings failed, each covered entry was asked for its key, and no asking
-- hit a fault. It shows a file with a key under a path if one of its listings has the entry, a glob of the input covers
-- the path, the asking gave that key, and the file is the one that was opened for the asking, or the entry's if none
-- was.
use Rattle.std.specs.Prelude.{◌≡◌, ◌≢◌, ◌⊎◌, ℕ, suc, ◌-◌, ◌<◌, ◌≤◌, min, List, [], ◌∷◌, ◌++◌, flat_map, length, map, drop, Any, Contains, slice_get, Option, Some, None}
use Rattle.std.specs.List.{AllByRecursion}
use Rattle.std.specs.declared.cmp.Ordering.TheVariants.{Less}
use Rattle.event_tree.specs.declared.input_rule.IdentityRule.{IdentityRule}
use Rattle.event_tree.specs.declared.input_rule.IdentityRule.TheVariants.{Fingerprint, Native, Path}
use Rattle.event_tree.specs.declared.input_rule.InputRule.{InputRule}
use Rattle.file_identity.specs.Asking.{IsAsking, given_key}
use Rattle.file_identity.specs.Key.{named_key}
use Rattle.glob_paths.specs.Cover.{Covers}
use Rattle.glob_paths.specs.Root.{depth_of, root_of}
use Rattle.outside.specs.declared.history.Look.{Look}
use Rattle.outside.specs.declared.history.Shown.{Shown}
use Rattle.outside.specs.declared.history.Sight.{Sight}
use Rattle.outside.specs.Files.{File}
use Rattle.outside.specs.Folders.{Event, Listed, ListingFailed, Opened, NotThere, OpeningFailed, Closed}
use Rattle.wire_base.specs.declared.numbers.TheConstants.{MAX_MOMENT}
use Rattle.wire_base.specs.KeyOrder.{compare}
use Rattle.kept_rows.specs.Run.{Asking, Run, Scan}
use Rattle.kept_rows.specs.Trace.{IsTail, Trace, WasGone, closing_of}

abbrev pub IsCovered : List (List ℕ) → List ℕ → Type 0
IsCovered globs path = Any (λ glob. Covers glob path) globs

abbrev pub globs_in : List InputRule → List (List ℕ)
globs_in inputs = flat_map (λ input. input.paths) inputs

-- no two of them are the same
abbrev pub AreDistinct : {A : Type 0} → List A → Type 0
AreDistinct [] = Unit {0}
AreDistinct (one ∷ others) = (¬ (Contains others one)) × AreDistinct others

-- ---- how listings fall into scans

-- the places of listings in a list whose first thing has this place
abbrev pub listings_from : ℕ → List Event → List ℕ
listings_from place [] = []
listings_from place (Listed root depth shown ∷ events) = place ∷ listings_from (suc place) events
listings_from place (ListingFailed ∷ events) = place ∷ listings_from (suc place) events
listings_from place (Opened path number begun ∷ events) = listings_from (suc place) events
listings_from place (NotThere path ∷ events) = listings_from (suc place) events
listings_from place (OpeningFailed path ∷ events) = listings_from (suc place) events
listings_from place (Closed opening looks faults ∷ events) = listings_from (suc place) events

abbrev pub listings_of : Trace → List ℕ
listings_of trace = listings_from trace.began (drop trace.began trace.events)

-- the root of the glob was listed there with its depth, or that failed
abbrev pub ListsGlob : Trace → List ℕ → ℕ → Type 0
ListsGlob trace glob listing =
    ((shown : List Shown) × (slice_get trace.events listing ≡ Some (Listed (root_of glob) (depth_of glob) shown)))
    ⊎ (slice_get trace.events listing ≡ Some ListingFailed)

-- one listing for each glob, in their order; a scan that is cut off has fewer
abbrev pub ListGlobs : Trace → List (List ℕ) → List ℕ → Type 0
ListGlobs trace globs [] = Unit {0}
ListGlobs trace [] (listing ∷ listings) = ⊥
ListGlobs trace (glob ∷ globs) (listing ∷ listings) = ListsGlob trace glob listing × ListGlobs trace globs listings

-- the moments are among these, in this order; scans in sequence may have the same
abbrev pub StandInOrder : List ℕ → List ℕ → Type 0
StandInOrder [] moments = Unit {0}
StandInOrder (one ∷ ones) moments =
    (before : List ℕ) × (behind : List ℕ) × (moments ≡ before ++ one ∷ behind) × StandInOrder ones (one ∷ behind)

abbrev pub AllButTheLast : {A : Type 0} → (A → Type 0) → List A → Type 0
AllButTheLast P [] = Unit {0}
AllButTheLast P (last ∷ []) = Unit {0}
AllButTheLast P (one ∷ next ∷ others) = P one × AllButTheLast P (next ∷ others)

-- all listings of the run, in their order, are those of its scans
pub record AreScans (run : Run) : Type 0 where
  pub together : flat_map (λ scan. scan.listings) run.scans ≡ listings_of run.trace
  pub by_globs : AllByRecursion (λ scan. ListGlobs run.trace (globs_in run.settings.inputs) scan.listings) run.scans
  pub full : AllButTheLast (λ scan. length scan.listings ≡ length (globs_in run.settings.inputs)) run.scans
  pub moments : StandInOrder (map (λ scan. scan.moment) run.scans) run.trace.moments

-- the scan was made before this place of the folder's list, and after it
abbrev pub IsBefore : ℕ → Scan → Type 0
IsBefore place scan = AllByRecursion (λ listing. listing < place) scan.listings

abbrev pub IsBehind : ℕ → Scan → Type 0
IsBehind place scan = AllByRecursion (λ listing. place < listing) scan.listings

-- ---- what a scan shows

-- one of its listings has the entry
pub record ShowsEntry (trace : Trace) (scan : Scan) (shown : Shown) : Type 0 where
  pub listing : ℕ
  pub of_scan : Contains scan.listings listing
  pub root : List ℕ
  pub depth : ℕ
  pub entries : List Shown
  pub listed : slice_get trace.events listing ≡ Some (Listed root depth entries)
  pub among : Contains entries shown

abbrev pub IsNoFingerprint : IdentityRule → Type 0
IsNoFingerprint (Fingerprint offset count) = ⊥
IsNoFingerprint Native = Unit {0}
IsNoFingerprint Path = Unit {0}

-- the tail that was opened gave this key, or none, of the file of this number; one that hit a fault gives neither
pub record GaveByTail (trace : Trace) (rule : InputRule) (path : List ℕ) (opening : ℕ) (key : Option (List ℕ)) (number : ℕ) : Type 0 where
  pub looks : List Look
  pub file : File
  pub tail : IsTail trace opening path number looks
  pub closed : closing_of trace opening ≡ Some (record { looks = looks; faults = 0 })
  pub file_is : slice_get trace.files number ≡ Some file
  pub asking : IsAsking rule.file_identity looks
  pub gave : key ≡ given_key rule.id rule.file_identity path file looks

-- the entry itself gave it, if no tail is wanted
pub record GaveByEntry (rule : InputRule) (shown : Shown) (key : Option (List ℕ)) (number : ℕ) : Type 0 where
  pub no_bytes : IsNoFingerprint rule.file_identity
  pub number_is : number ≡ shown.file
  pub gave : key ≡ named_key rule.id rule.file_identity shown.entry.path shown.entry.native

abbrev pub Gave : Trace → InputRule → Shown → Option ℕ → Option (List ℕ) → ℕ → Type 0
Gave trace rule shown None key number = GaveByEntry rule shown key number
Gave trace rule shown (Some opening) key number = GaveByTail trace rule shown.entry.path opening key number

-- the opening was made for the scan: after its listings, and before the next scan
pub record IsMadeFor (run : Run) (scan : Scan) (opening : ℕ) : Type 0 where
  pub before : List Scan
  pub behind : List Scan
  pub scans_are : run.scans ≡ before ++ scan ∷ behind
  pub since : IsBefore opening scan
  pub until : AllByRecursion (IsBehind opening) behind

abbrev pub IsAskedIn : Run → Scan → Option ℕ → Type 0
IsAskedIn run scan None = Unit {0}
IsAskedIn run scan (Some opening) = IsMadeFor run scan opening

-- this input asked for the key of this entry
pub record AsksFor (run : Run) (scan : Scan) (shown : Shown) (input : ℕ) (asking : Asking) : Type 0 where
  pub entry : ShowsEntry run.trace scan shown
  pub asked_in : IsAskedIn run scan asking.opening
  pub of_scan : Contains scan.askings asking
  pub input_is : asking.input ≡ input
  pub path_is : asking.path ≡ shown.entry.path

-- the scan shows the file of this number with the key to this input, under the path of this entry
pub record ShowsFileTo (run : Run) (scan : Scan) (input : ℕ) (key : List ℕ) (number : ℕ) (shown : Shown) : Type 0 where
  pub asking : Asking
  pub asks : AsksFor run scan shown input asking
  pub rule : InputRule
  pub rule_is : slice_get run.settings.inputs input ≡ Some rule
  pub covered : IsCovered rule.paths shown.entry.path
  pub gave : Gave run.trace rule shown asking.opening (Some key) number

-- to the input whose key it is
abbrev pub ShowsFileAt : Run → Scan → List ℕ → ℕ → Shown → Type 0
ShowsFileAt run scan key number shown = (input : ℕ) × ShowsFileTo run scan input key number shown

-- under some path
pub record ShowsFile (run : Run) (scan : Scan) (key : List ℕ) (number : ℕ) (path : List ℕ) : Type 0 where
  pub shown : Shown
  pub path_is : shown.entry.path ≡ path
  pub shows : ShowsFileAt run scan key number shown

-- some file
pub record ShowsKey (run : Run) (scan : Scan) (key : List ℕ) : Type 0 where
  pub number : ℕ
  pub path : List ℕ
  pub shows : ShowsFile run scan key number path

-- the path is the first, in byte order, under which it shows the file with the key
pub record IsFirstPath (run : Run) (scan : Scan) (key : List ℕ) (number : ℕ) (path : List ℕ) : Type 0 where
  pub shows : ShowsFile run scan key number path
  pub first : (other : List ℕ) → ShowsFile run scan key number other → compare other path ≢ Less

-- ---- whole scans

-- a tail was opened if the identity reads the file, and only then: it reported one whole asking, and was closed without
-- a fault; or nothing was there by the path
pub record WasAskedByTail (trace : Trace) (rule : IdentityRule) (path : List ℕ) (opening : ℕ) : Type 0 where
  pub number : ℕ
  pub looks : List Look
  pub tail : IsTail trace opening path number looks
  pub asking : IsAsking rule looks
  pub closed : closing_of trace opening ≡ Some (record { looks = looks; faults = 0 })

abbrev pub MetNoFault : Trace → IdentityRule → List ℕ → Option ℕ → Type 0
MetNoFault trace rule path None = IsNoFingerprint rule
MetNoFault trace rule path (Some opening) = (¬ (IsNoFingerprint rule)) × (WasAskedByTail trace rule path opening ⊎ WasGone trace opening path)

pub record WasAskedWell (run : Run) (scan : Scan) (asking : Asking) : Type 0 where
  pub asked_in : IsAskedIn run scan asking.opening
  pub rule : InputRule
  pub rule_is : slice_get run.settings.inputs asking.input ≡ Some rule
  pub well : MetNoFault run.trace rule.file_identity asking.path asking.opening

-- the file was opened there by the path, and its tail was closed with faults
pub record WasClosedWithFaults (trace : Trace) (path : List ℕ) (opening : ℕ) : Type 0 where
  pub number : ℕ
  pub begun : Sight
  pub opened : slice_get trace.events opening ≡ Some (Opened path number begun)
  pub looks : List Look
  pub faults : ℕ
  pub some : 0 < faults
  pub closing : closing_of trace opening ≡ Some (record { looks = looks; faults = faults })

-- opening the file by the path failed, or reading it did
abbrev pub MetFault : Trace → List ℕ → ℕ → Type 0
MetFault trace path opening = (slice_get trace.events opening ≡ Some (OpeningFailed path)) ⊎ WasClosedWithFaults trace path opening

-- it was opened in the scan to be asked for its key
pub record WasAskedInVain (run : Run) (scan : Scan) (asking : Asking) : Type 0 where
  pub opening : ℕ
  pub opening_is : asking.opening ≡ Some opening
  pub asked_in : IsMadeFor run scan opening
  pub failed : MetFault run.trace asking.path opening

-- each asking of a scan is reported this way
abbrev pub WasAskedSo : Run → Scan → Asking → Type 0
WasAskedSo run scan asking = WasAskedWell run scan asking ⊎ WasAskedInVain run scan asking

-- the input asked for the key of the entry
pub record IsAsked (run : Run) (scan : Scan) (shown : Shown) (input : ℕ) : Type 0 where
  pub asking : Asking
  pub asks : AsksFor run scan shown input asking

-- each entry that a glob of an input covers was asked for its key
abbrev pub AreAsked : Run → Scan → Type 0
AreAsked run scan = (shown : Shown) (input : ℕ) (rule : InputRule) → ShowsEntry run.trace scan shown →
    slice_get run.settings.inputs input ≡ Some rule → IsCovered rule.paths shown.entry.path → IsAsked run scan shown input

-- it did not fail
pub record IsGoodListing (trace : Trace) (listing : ℕ) : Type 0 where
  pub root : List ℕ
  pub depth : ℕ
  pub entries : List Shown
  pub listed : slice_get trace.events listing ≡ Some (Listed root depth entries)

pub record IsWhole (run : Run) (scan : Scan) : Type 0 where
  pub not_cut_off : length scan.listings ≡ length (globs_in run.settings.inputs)
  pub none_failed : AllByRecursion (IsGoodListing run.trace) scan.listings
  pub each_asked : AreAsked run scan
  pub none_faulty : AllByRecursion (WasAskedWell run scan) scan.askings

-- ---- moments of change

-- what a listing reports of the moment of the last change; a later one is taken as the last that there is
abbrev pub moment_in : Shown → ℕ
moment_in shown = min shown.entry.changed.0 MAX_MOMENT

-- `ignore_older` passes the entry over in this scan
pub record IsOld (rule : InputRule) (scan : Scan) (shown : Shown) : Type 0 where
  pub asked : 0 < rule.ignore_older
  pub long_ago : rule.ignore_older ≤ scan.moment - moment_in shown
