-- The askings of a scan (this project's profile): each is for an entry of its listings that a glob of its input covers. They
-- are in byte order of their paths, and of one path by the inputs' places in the settings. An input that reads its files to
-- know them has an opening for each, and no other has one; these openings come right after the scan's listings, one after
-- the other, and each tail is closed before the next file is opened.
use Rattle.std.specs.Prelude.{◌≡◌, ◌⊎◌, ℕ, suc, ◌<◌, List, [], ◌∷◌, slice_get, Option, Some, None}
use Rattle.std.specs.List.{AllByRecursion}
use Rattle.std.specs.declared.cmp.Ordering.TheVariants.{Less}
use Rattle.event_tree.specs.declared.input_rule.IdentityRule.{IdentityRule}
use Rattle.event_tree.specs.declared.input_rule.InputRule.{InputRule}
use Rattle.outside.specs.declared.history.Look.{Look}
use Rattle.outside.specs.declared.history.Shown.{Shown}
use Rattle.outside.specs.declared.history.Sight.{Sight}
use Rattle.outside.specs.Folders.{Closed, Event, NotThere, Opened, OpeningFailed}
use Rattle.wire_base.specs.KeyOrder.{compare}
use Rattle.kept_rows.specs.Run.{Asking, Run, Scan}
use Rattle.kept_rows.specs.Scans.{IsCovered, IsNoFingerprint, ShowsEntry}

-- ---- what each is for

-- it has an opening if the input reads the file, and only then
abbrev pub HasItsOpening : IdentityRule → Option ℕ → Type 0
HasItsOpening rule None = IsNoFingerprint rule
HasItsOpening rule (Some opening) = ¬ (IsNoFingerprint rule)

pub record IsForAnEntry (run : Run) (scan : Scan) (asking : Asking) : Type 0 where
  pub shown : Shown
  pub entry : ShowsEntry run.trace scan shown
  pub path_is : asking.path ≡ shown.entry.path
  pub rule : InputRule
  pub rule_is : slice_get run.settings.inputs asking.input ≡ Some rule
  pub covered : IsCovered rule.paths asking.path
  pub opening : HasItsOpening rule.file_identity asking.opening

-- ---- in which order

-- one input asks twice for one path only if it opens no file: two listings may show it with other native numbers
abbrev pub ComesBehind : Asking → Asking → Type 0
ComesBehind one later =
    (compare one.path later.path ≡ Less)
    ⊎ ((one.path ≡ later.path) × ((one.input < later.input) ⊎ ((one.input ≡ later.input) × (later.opening ≡ None))))

abbrev pub AreInOrder : List Asking → Type 0
AreInOrder [] = Unit {0}
AreInOrder (one ∷ others) = AllByRecursion (ComesBehind one) others × AreInOrder others

-- ---- where their openings are

-- the file was opened there by the path, and its tail was closed before anything else was done
pub record OpensAndCloses (events : List Event) (path : List ℕ) (opening : ℕ) : Type 0 where
  pub number : ℕ
  pub begun : Sight
  pub opened : slice_get events opening ≡ Some (Opened path number begun)
  pub looks : List Look
  pub faults : ℕ
  pub closed : slice_get events (suc opening) ≡ Some (Closed opening looks faults)

-- nothing had the path there, or opening it failed
abbrev pub OpensNothing : List Event → List ℕ → ℕ → Type 0
OpensNothing events path opening = (slice_get events opening ≡ Some (NotThere path)) ⊎ (slice_get events opening ≡ Some (OpeningFailed path))

-- so one was made at this place, and the next one is made at that
abbrev pub IsMadeAt : List Event → List ℕ → Option ℕ → ℕ → ℕ → Type 0
IsMadeAt events path None place next = next ≡ place
IsMadeAt events path (Some opening) place next =
    (opening ≡ place) × ((OpensAndCloses events path opening × (next ≡ suc (suc place))) ⊎ (OpensNothing events path opening × (next ≡ suc place)))

abbrev pub AreMadeFrom : List Event → ℕ → List Asking → Type 0
AreMadeFrom events place [] = Unit {0}
AreMadeFrom events place (asking ∷ askings) = (next : ℕ) × IsMadeAt events asking.path asking.opening place next × AreMadeFrom events next askings

-- the place right after the last of these, or this one if there is none
abbrev pub behind_all : ℕ → List ℕ → ℕ
behind_all place [] = place
behind_all place (listing ∷ listings) = behind_all (suc listing) listings

-- ---- together

pub record AsksInOrder (run : Run) (scan : Scan) : Type 0 where
  pub each : AllByRecursion (IsForAnEntry run scan) scan.askings
  pub in_order : AreInOrder scan.askings
  pub made : AreMadeFrom run.trace.events (behind_all run.trace.began scan.listings) scan.askings
