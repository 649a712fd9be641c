-- Scans one after another: the folder's list goes on through them, one more may come at the end, and what is done without a listing; which scans
-- come before one of them, and which after it; their listings.
use Rattle.std.proofs.Common.{◌≡◌, ℕ, suc, ◌+◌, ◌<◌, ◌≤◌, List, [], ◌∷◌, ◌++◌, drop, length, map, append_assoc, append-nil, length-append, refl, sym, ap, ◌∙◌, arith}
use Rattle.std.proofs.Math.Seq.{drop-append_seam}
use Rattle.std.specs.List.{AllByRecursion, flat_map}
use Rattle.event_tree.specs.declared.settings.Settings.{Settings}
use Rattle.kept_rows.proofs.Showing.{both}
use Rattle.kept_rows.specs.Run.{Scan}
use Rattle.kept_rows.specs.Scans.{IsBehind, listings_from}
use Rattle.outside.specs.Folders.{Closed, Event, FolderHistory, Listed, ListingFailed, NotThere, Opened, OpeningFailed}
use Rattle.told_scans.proofs.AskedEvents.{all_tried, goes_on_asking, goes_on_further, longer}
use Rattle.told_scans.proofs.Scanning.{no_more_listings}
use Rattle.told_scans.specs.FolderOn.{FolderGoesOn}
use Rattle.told_scans.specs.OnlyAsked.{HasOnlyAsked, IsNoListing}
use Rattle.told_scans.specs.ToldScan.{IsTold, ToldScan, event_tried, scan_by}
use Rattle.told_scans.specs.ToldScans.{AreToldFrom, NothingListed}

-- ---- what is done without a listing

pub nothing_done : (told : FolderHistory) → NothingListed told told
nothing_done told = record { files = refl; more = []; events = sym (append-nil told.events); no_listing = tt }

pub nothing_further : (one two three : FolderHistory) → NothingListed one two → NothingListed two three → NothingListed one three
nothing_further one two three first next = record {
  files = next.files ∙ first.files;
  more = first.more ++ next.more;
  events = next.events ∙ ap (λ (l : List Event). l ++ next.more) first.events ∙ append_assoc one.events first.more next.more;
  no_listing = both IsNoListing first.more next.more first.no_listing next.no_listing;
}

pub goes_on_unlisted : (before after : FolderHistory) → NothingListed before after → FolderGoesOn before after
goes_on_unlisted before after nothing = record { files = nothing.files; more = nothing.more; events = nothing.events }

-- asking for keys lists nothing
asked_unlisted : (before after : FolderHistory) → HasOnlyAsked before after → NothingListed before after
asked_unlisted before after asks = record { files = asks.files; more = asks.more; events = asks.events; no_listing = asks.no_listing }

-- ---- one scan

module _ (told : ToldScan) (has : IsTold told) where
  pub asks_alone : HasOnlyAsked told.listed told.scanned
  asks_alone = all_tried told.settings.inputs has.trials told.askings told.listed told.scanned has.asks

  lists_on : FolderGoesOn told.earlier told.listed
  lists_on = record {
    files = ap (λ (h : FolderHistory). h.files) has.listed_is;
    more = map event_tried has.attempts;
    events = ap (λ (h : FolderHistory). h.events) has.listed_is;
  }

  pub since_listings : length told.earlier.events ≤ length told.listed.events
  since_listings = longer told.earlier told.listed lists_on

  asks_on : FolderGoesOn told.listed told.scanned
  asks_on = goes_on_asking told.listed told.scanned asks_alone

  pub scan_goes_on : FolderGoesOn told.earlier told.scanned
  scan_goes_on = goes_on_further told.earlier told.listed told.scanned lists_on asks_on

-- ---- all of them

module _ (settings : Settings) where
  pub go_on : (before : FolderHistory) (scans : List ToldScan) (now : FolderHistory) → AreToldFrom settings before scans now → FolderGoesOn before now
  go_on before [] now are = goes_on_unlisted before now are
  go_on before (told ∷ scans) now are =
      goes_on_further before told.earlier now (goes_on_unlisted before told.earlier are.0.between)
      (goes_on_further told.earlier told.scanned now (scan_goes_on told are.0.is) (go_on told.scanned scans now are.1))

  -- one more scan
  pub scan_appended : (before : FolderHistory) (scans : List ToldScan) (told : ToldScan) → AreToldFrom settings before scans told.earlier → told.settings ≡ settings → IsTold told →
      AreToldFrom settings before (scans ++ told ∷ []) told.scanned
  scan_appended before [] told are same is = (record { between = are; settings_are = same; is = is }, nothing_done told.scanned)
  scan_appended before (first ∷ scans) told are same is = (are.0, scan_appended first.scanned scans told are.1 same is)

  -- more is done without a listing
  pub nothing_appended : (before : FolderHistory) (scans : List ToldScan) (now later : FolderHistory) → AreToldFrom settings before scans now → NothingListed now later →
      AreToldFrom settings before scans later
  nothing_appended before [] now later are nothing = nothing_further before now later are nothing
  nothing_appended before (told ∷ scans) now later are nothing = (are.0, nothing_appended told.scanned scans now later are.1 nothing)

  -- ---- one of them

  pub record IsToldBetween (before : FolderHistory) (front : List ToldScan) (told : ToldScan) (behind : List ToldScan) (now : FolderHistory) : Type 0 where
    pub front_told : AreToldFrom settings before front told.earlier
    pub settings_are : told.settings ≡ settings
    pub is : IsTold told
    pub behind_told : AreToldFrom settings told.scanned behind now

  pub told_between : (before : FolderHistory) (front : List ToldScan) (told : ToldScan) (behind : List ToldScan) (now : FolderHistory) →
      AreToldFrom settings before (front ++ told ∷ behind) now → IsToldBetween before front told behind now
  told_between before [] told behind now are = record { front_told = are.0.between; settings_are = are.0.settings_are; is = are.0.is; behind_told = are.1 }
  told_between before (first ∷ front) told behind now are =
      let rest = told_between first.scanned front told behind now are.1 in
      record { front_told = (are.0, rest.front_told); settings_are = rest.settings_are; is = rest.is; behind_told = rest.behind_told }

-- ---- their listings

listings_later : (place start : ℕ) (events : List Event) → place < start → AllByRecursion (λ (listing : ℕ). place < listing) (listings_from start events)
listings_later place start [] less = tt
listings_later place start (Listed root depth shown ∷ events) less = (less, listings_later place (suc start) events (omega (arith, less)))
listings_later place start (ListingFailed ∷ events) less = (less, listings_later place (suc start) events (omega (arith, less)))
listings_later place start (Opened path number begun ∷ events) less = listings_later place (suc start) events (omega (arith, less))
listings_later place start (NotThere path ∷ events) less = listings_later place (suc start) events (omega (arith, less))
listings_later place start (OpeningFailed path ∷ events) less = listings_later place (suc start) events (omega (arith, less))
listings_later place start (Closed opening looks faults ∷ events) less = listings_later place (suc start) events (omega (arith, less))

-- a scan that was made after this place lists after it
pub scan_later : (place : ℕ) (told : ToldScan) → place < length told.earlier.events → IsBehind place (scan_by told)
scan_later place told less = listings_later place (length told.earlier.events) (drop (length told.earlier.events) told.listed.events) less

pub scans_later : (settings : Settings) (place : ℕ) (before : FolderHistory) (scans : List ToldScan) (now : FolderHistory) → AreToldFrom settings before scans now → place < length before.events →
    AllByRecursion (IsBehind place) (map scan_by scans)
scans_later settings place before [] now are less = tt
scans_later settings place before (told ∷ scans) now are less =
    let first = longer before told.earlier (goes_on_unlisted before told.earlier are.0.between) in
    let its = longer told.earlier told.scanned (scan_goes_on told are.0.is) in
    (scan_later place told (omega (arith, first, less)), scans_later settings place told.scanned scans now are.1 (omega (arith, first, its, less)))

-- those between two of its states
abbrev pub listings_between : FolderHistory → FolderHistory → List ℕ
listings_between before after = listings_from (length before.events) (drop (length before.events) after.events)

listings_both : (first second : List Event) (place end : ℕ) → end ≡ place + length first → listings_from place (first ++ second) ≡ listings_from place first ++ listings_from end second
listings_both [] second place end at = let same : place ≡ end = omega (arith, at) in ap (λ (n : ℕ). listings_from n second) same
listings_both (Listed root depth shown ∷ first) second place end at = ap (λ (l : List ℕ). place ∷ l) (listings_both first second (suc place) end (omega (arith, at)))
listings_both (ListingFailed ∷ first) second place end at = ap (λ (l : List ℕ). place ∷ l) (listings_both first second (suc place) end (omega (arith, at)))
listings_both (Opened path number begun ∷ first) second place end at = listings_both first second (suc place) end (omega (arith, at))
listings_both (NotThere path ∷ first) second place end at = listings_both first second (suc place) end (omega (arith, at))
listings_both (OpeningFailed path ∷ first) second place end at = listings_both first second (suc place) end (omega (arith, at))
listings_both (Closed opening looks faults ∷ first) second place end at = listings_both first second (suc place) end (omega (arith, at))

since_before : (before after : FolderHistory) (more : List Event) → after.events ≡ before.events ++ more → drop (length before.events) after.events ≡ more
since_before before after more are = ap (drop (length before.events)) are ∙ drop-append_seam before.events more

listings_then : (one two three : FolderHistory) → FolderGoesOn one two → FolderGoesOn two three → listings_between one three ≡ listings_between one two ++ listings_between two three
listings_then one two three first next =
    let long : length two.events ≡ length one.events + length first.more = ap length first.events ∙ length-append one.events first.more in
    let all : three.events ≡ one.events ++ (first.more ++ next.more) =
    next.events ∙ ap (λ (l : List Event). l ++ next.more) first.events ∙ append_assoc one.events first.more next.more in
    ap (listings_from (length one.events)) (since_before one three (first.more ++ next.more) all)
    ∙ listings_both first.more next.more (length one.events) (length two.events) long
    ∙ ap (λ (l : List ℕ). l ++ listings_from (length two.events) next.more) (ap (listings_from (length one.events)) (sym (since_before one two first.more first.events)))
    ∙ ap (λ (l : List ℕ). listings_between one two ++ l) (ap (listings_from (length two.events)) (sym (since_before two three next.more next.events)))

none_between : (before after : FolderHistory) → NothingListed before after → listings_between before after ≡ []
none_between before after nothing =
    ap (listings_from (length before.events)) (since_before before after nothing.more nothing.events) ∙ no_more_listings [] nothing.more (length before.events) nothing.no_listing

none_first : (before mid after : FolderHistory) → NothingListed before mid → FolderGoesOn mid after → listings_between before after ≡ listings_between mid after
none_first before mid after nothing on =
    listings_then before mid after (goes_on_unlisted before mid nothing) on ∙ ap (λ (l : List ℕ). l ++ listings_between mid after) (none_between before mid nothing)

none_last : (before mid after : FolderHistory) → FolderGoesOn before mid → NothingListed mid after → listings_between before after ≡ listings_between before mid
none_last before mid after on nothing =
    listings_then before mid after on (goes_on_unlisted mid after nothing) ∙ ap (λ (l : List ℕ). listings_between before mid ++ l) (none_between mid after nothing)
    ∙ append-nil (listings_between before mid)

-- all listings are those of the scans
pub listings_together : (settings : Settings) (before : FolderHistory) (scans : List ToldScan) (now : FolderHistory) → AreToldFrom settings before scans now →
    flat_map (λ (scan : Scan). scan.listings) (map scan_by scans) ≡ listings_between before now
listings_together settings before [] now are = sym (none_between before now are)
listings_together settings before (told ∷ scans) now are =
    let has = are.0.is in
    let rest = go_on settings told.scanned scans now are.1 in
    let whole = scan_goes_on told has in
    ap (λ (l : List ℕ). listings_between told.earlier told.listed ++ l) (listings_together settings told.scanned scans now are.1)
    ∙ sym (
    none_first before told.earlier now are.0.between (goes_on_further told.earlier told.scanned now whole rest)
    ∙ listings_then told.earlier told.scanned now whole rest
    ∙ ap (λ (l : List ℕ). l ++ listings_between told.scanned now)
    (none_last told.earlier told.listed told.scanned (lists_on told has) (asked_unlisted told.listed told.scanned (asks_alone told has)))
    )
