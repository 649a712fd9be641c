-- What a scan shows: which files it listed, asked for their keys and parted, and, where it told no files, how far it came.
use Rattle.std.proofs.Common.{◌≡◌, inl, inr, List, [], map, All, append-nil, Option, Some, None, IfSome, Result, Ok, Err, IfErr, IfOk, OnErr, refl, sym, ap, subst, ◌∙◌}
use Rattle.beat_config.specs.InRange.{AreInRange}
use Rattle.event_tree.specs.declared.input_rule.InputRule.{InputRule}
use Rattle.event_tree.specs.declared.settings.Settings.{Settings as SettingsOf}
use Rattle.outside.specs.Folders.{Event, FolderHistory}
use Rattle.outside.specs.declared.failed.FolderError.{FolderError}
use Rattle.outside.specs.declared.failed.FolderError.TheVariants.{Failed, NoMemory as WithoutMemory}
use Rattle.prospect.proofs.Doubled.{each_file}
use Rattle.prospect.specs.AskedFiles.{AskedFile, AsksFiles, AsksSome}
use Rattle.prospect.specs.Doubled.{PartsDoubled}
use Rattle.prospect.specs.ListedFiles.{EndsAs, IsKeyed, ScansFiles}
use Rattle.prospect.specs.Members.{globs_of}
use Rattle.prospect.specs.Scan.{AreListed, Listing, event_of, with_events}
use Rattle.prospect.specs.Unfinished.{ListsSome}
use Rattle.prospect.specs.declared.asking.Keyed.{Keyed}
use Rattle.prospect.specs.declared.listed.Listed.{Listed}
use Rattle.prospect.specs.declared.scan_error.ScanError.{ScanError}
use Rattle.prospect.specs.declared.scan_error.ScanError.TheVariants as scan_error
use Rattle.report.specs.declared.status.Status.{Status}
use Rattle.report.specs.declared.status.Status.TheVariants.{Done, Stopped, Usage, Settings, RegistryBad, DiskFault, FolderFault, Unreachable, OutFault, SourceFault, TooMany, NoNative, NoMemory, Unbuilt}
use Rattle.run_steps.specs.RunOf.{FolderTold}
use Rattle.run_steps.specs.ScannedSome.{HasScannedSome}
use Rattle.run_steps.specs.declared.beginning.Scanned.{Scanned}
use Rattle.told_scans.proofs.AskedEvents.{asked_none}
use Rattle.run_steps.proofs.RunEarly.{asked_scan, cut_scan, listed_all}
use Rattle.wire_base.specs.declared.limits.Full.TheVariants.{Epochs, Files, Slots}
use Rattle.wire_base.specs.declared.row.Row.{Row}
use Rattle.beat_run.specs.Ended.{StandsForAsking, StandsForScan}
use Rattle.beat_run.specs.Ends.{IsPartedEnd, IsStartEnd, ShowsScanEnd}
use Rattle.beat_run.specs.Scanning.{ScansAndAsks, ScansParted, TellsScanned}

pub each_some : {A : Type 0} (o : Option A) (P Q : A → Type 0) → ((x : A) → P x → Q x) → IfSome o P → IfSome o Q
each_some None P Q then is = tt
each_some (Some x) P Q then is = then x is

pub whatever_came : {A E : Type 0} {P : Type 0} (result : Result A E) → P → OnErr result P
whatever_came (Ok done) is = tt
whatever_came (Err error) is = is

-- ---- a scan that told no files

-- it did nothing more with the folder
abbrev pub scanned_folder : FolderHistory → FolderHistory → FolderHistory → FolderTold
scanned_folder told listed scanned = record { earlier = told; listed = listed; scanned = scanned; ended = scanned; asked = [] }

-- so far it came
pub record ScannedSome (settings : SettingsOf) (told : FolderHistory) (after : Option FolderHistory) : Type 0 where
  pub listed : FolderHistory
  pub scanned : FolderHistory
  pub after_is : after ≡ Some scanned
  pub has : HasScannedSome settings (scanned_folder told listed scanned)

module _ (settings : SettingsOf) (in_range : AreInRange settings) (told : FolderHistory) where
  listings_alone : (after : Option FolderHistory) → ListsSome (globs_of settings.inputs) told after → ScannedSome settings told after
  listings_alone after lists =
      let listed : FolderHistory = with_events told lists.more in
      record {
        listed = listed;
        scanned = listed;
        after_is = lists.kept;
        has = record { in_range = in_range; lists = record { more = lists.more; in_order = lists.in_order; kept = refl }; asks = asked_none listed };
      }

  all_listings_alone : (listings : List Listing) (after : Option FolderHistory) → AreListed (globs_of settings.inputs) told listings after → ScannedSome settings told after
  all_listings_alone listings after are = listings_alone after (listed_all (globs_of settings.inputs) told listings after are)

  some_asked : (after : Option FolderHistory) → ScansAndAsks settings.inputs told after → ScannedSome settings told after
  some_asked after scans =
      let scanned : FolderHistory = with_events scans.asks.mid scans.asks.last in
      record {
        listed = scans.listed;
        scanned = scanned;
        after_is = scans.asks.after_is;
        has = cut_scan settings (scanned_folder told scans.listed scanned) in_range scans.all scans.scans (record {
          asked = scans.asks.asked;
          others = scans.asks.others;
          are = scans.asks.are;
          mid = scans.asks.mid;
          asks = scans.asks.asks;
          last = scans.asks.last;
          ends = scans.asks.ends;
          after_is = refl;
        });
      }

  -- it came to its end
  pub scanned_whole : (files doubled : List Listed) (after : Option FolderHistory) → ScansParted settings.inputs told files doubled after → ScannedSome settings told after
  scanned_whole files doubled after scans = record {
    listed = scans.listed;
    scanned = scans.scanned;
    after_is = scans.after_is;
    has = asked_scan settings (scanned_folder told scans.listed scans.scanned) in_range scans.all scans.scans scans.asked scans.asks;
  }

  -- however it ended
  pub scanned_some : (rows : List Row) (after : Option FolderHistory) (status : Status) → ShowsScanEnd settings.inputs told rows after status → ScannedSome settings told after
  scanned_some rows after Done shows = absurd shows
  scanned_some rows after Stopped shows = absurd shows
  scanned_some rows after Usage shows = absurd shows
  scanned_some rows after (Settings fault) shows = absurd shows
  scanned_some rows after (RegistryBad area at) shows = absurd shows
  scanned_some rows after DiskFault shows = absurd shows
  scanned_some rows after FolderFault (inl lists) = listings_alone after lists
  scanned_some rows after FolderFault (inr asks) = some_asked after asks
  scanned_some rows after (Unreachable worker failures) shows = absurd shows
  scanned_some rows after OutFault shows = absurd shows
  scanned_some rows after SourceFault shows = absurd shows
  scanned_some rows after (TooMany Files path) lists = scanned_whole lists.files lists.doubled after lists.scans
  scanned_some rows after (TooMany Epochs path) lists = scanned_whole lists.files lists.doubled after lists.scans
  scanned_some rows after (TooMany Slots path) shows = absurd shows
  scanned_some rows after (NoNative path) finds = all_listings_alone finds.listings after finds.listed_is
  scanned_some rows after NoMemory (inl lists) = listings_alone after lists
  scanned_some rows after NoMemory (inr asks) = some_asked after asks
  scanned_some rows after (Unbuilt what) shows = absurd shows

-- ---- what its end shows

-- a listing failed, or told what cannot be followed
listing_shows_one : (inputs : List InputRule) (told : FolderHistory) (rows : List Row) (after : Option FolderHistory) (error : ScanError) (status : Status) → StandsForScan error status → EndsAs inputs told error after → ShowsScanEnd inputs told rows after status
listing_shows_one inputs told rows after scan_error.Failed status stands ends = subst (ShowsScanEnd inputs told rows after) (sym stands) (inl ends)
listing_shows_one inputs told rows after scan_error.NoMemory status stands ends = subst (ShowsScanEnd inputs told rows after) (sym stands) (inl ends)
listing_shows_one inputs told rows after (scan_error.NoNative path) status stands ends = subst (ShowsScanEnd inputs told rows after) (sym stands) ends

pub listing_shows : (inputs : List InputRule) (rows : List Row) (before after : Option FolderHistory) (error : ScanError) (status : Status) → StandsForScan error status → IfSome before (λ told. EndsAs inputs told error after) →
    IfSome before (λ told. ShowsScanEnd inputs told rows after status)
listing_shows inputs rows before after error status stands ends =
    each_some before (λ told. EndsAs inputs told error after) (λ told. ShowsScanEnd inputs told rows after status) (λ told is. listing_shows_one inputs told rows after error status stands is) ends

-- ---- its askings

-- what the folder told behind all listings was told before the askings
behind_listings : (inputs : List InputRule) (before mid : Option FolderHistory) (listed : List Listed) (P : FolderHistory → Type 0) → IfSome before (λ told. ScansFiles inputs told listed mid) → IfSome mid P →
    IfSome before (λ told. (behind : FolderHistory) × ScansFiles inputs told listed (Some behind) × P behind)
behind_listings inputs before mid listed P scans then = each_some before (λ told. ScansFiles inputs told listed mid) (λ told. (behind : FolderHistory) × ScansFiles inputs told listed (Some behind) × P behind) (λ told is. by_one told is) scans
  where
    by_one : (told : FolderHistory) → ScansFiles inputs told listed mid → (behind : FolderHistory) × ScansFiles inputs told listed (Some behind) × P behind
    by_one told is =
        let behind : FolderHistory = with_events told (map event_of is.listings) in
        (behind, subst (ScansFiles inputs told listed) is.listed_is.kept is, subst (λ (o : Option FolderHistory). IfSome o P) is.listed_is.kept then)

-- they were cut off
asking_shows_one : (inputs : List InputRule) (told : FolderHistory) (rows : List Row) (after : Option FolderHistory) (error : FolderError) (status : Status) → StandsForAsking error status → ScansAndAsks inputs told after → ShowsScanEnd inputs told rows after status
asking_shows_one inputs told rows after Failed status stands asks = subst (ShowsScanEnd inputs told rows after) (sym stands) (inr asks)
asking_shows_one inputs told rows after WithoutMemory status stands asks = subst (ShowsScanEnd inputs told rows after) (sym stands) (inr asks)

pub asking_shows : (inputs : List InputRule) (rows : List Row) (before mid after : Option FolderHistory) (listed : List Listed) (error : FolderError) (status : Status) → StandsForAsking error status →
    IfSome before (λ told. ScansFiles inputs told listed mid) → IfSome mid (λ told. AsksSome inputs told listed after) → IfSome before (λ told. ShowsScanEnd inputs told rows after status)
asking_shows inputs rows before mid after listed error status stands scans asks =
    each_some before (λ told. (behind : FolderHistory) × ScansFiles inputs told listed (Some behind) × AsksSome inputs behind listed after) (λ told. ShowsScanEnd inputs told rows after status)
    (λ told is. asking_shows_one inputs told rows after error status stands (record { all = listed; listed = is.0; scans = is.1; asks = is.2 }))
    (behind_listings inputs before mid listed (λ told. AsksSome inputs told listed after) scans asks)

-- each listed file was asked
pub record HasAsked (inputs : List InputRule) (told : FolderHistory) (listed : List Listed) (keyed : Keyed) (after : Option FolderHistory) : Type 0 where
  pub behind : FolderHistory
  pub scans : ScansFiles inputs told listed (Some behind)
  pub by_entries : All (IsKeyed inputs) listed
  pub asks : AsksFiles inputs behind listed keyed after

pub has_asked : (inputs : List InputRule) (before mid after : Option FolderHistory) (listed : List Listed) (keyed : Keyed) → IfSome before (λ told. ScansFiles inputs told listed mid) → All (IsKeyed inputs) listed →
    IfSome mid (λ told. AsksFiles inputs told listed keyed after) → IfSome before (λ told. HasAsked inputs told listed keyed after)
has_asked inputs before mid after listed keyed scans by_entries asks =
    each_some before (λ told. (behind : FolderHistory) × ScansFiles inputs told listed (Some behind) × AsksFiles inputs behind listed keyed after) (λ told. HasAsked inputs told listed keyed after)
    (λ told is. record { behind = is.0; scans = is.1; by_entries = by_entries; asks = is.2 })
    (behind_listings inputs before mid listed (λ told. AsksFiles inputs told listed keyed after) scans asks)

module _ (inputs : List InputRule) (told : FolderHistory) (listed : List Listed) (keyed : Keyed) (after : Option FolderHistory) (has : HasAsked inputs told listed keyed after) where
  abbrev parts_asked : (files doubled : List Listed) → PartsDoubled keyed.files.items files doubled → ScansParted inputs told files doubled after
  parts_asked files doubled parts = record {
    all = listed;
    listed = has.behind;
    scanned = has.asks.last;
    scans = has.scans;
    keyed = has.by_entries;
    asked = has.asks.asked;
    asked_are = has.asks.are;
    asks = has.asks.asks;
    after_is = has.asks.after_is;
    parts = subst (λ (l : List Listed). PartsDoubled l files doubled) has.asks.files parts;
  }

  -- and nothing more was done
  nothing_more : ScansAndAsks inputs told after
  nothing_more = record {
    all = listed;
    listed = has.behind;
    scans = has.scans;
    asks = record {
      asked = has.asks.asked;
      others = [];
      are = sym has.asks.are ∙ sym (append-nil (map (λ (one : AskedFile). one.listed) has.asks.asked));
      mid = has.asks.last;
      asks = has.asks.asks;
      last = [];
      ends = inl refl;
      after_is = has.asks.after_is ∙ ap (λ (l : List Event). Some (record { files = has.asks.last.files; events = l })) (sym (append-nil has.asks.last.events));
    };
  }

  -- files that were parted, and could not all be started
  start_shows : (rows : List Row) (files doubled : List Listed) → PartsDoubled keyed.files.items files doubled → (status : Status) → IsStartEnd rows files status → ShowsScanEnd inputs told rows after status
  start_shows rows files doubled parts Done ends = absurd ends
  start_shows rows files doubled parts Stopped ends = absurd ends
  start_shows rows files doubled parts Usage ends = absurd ends
  start_shows rows files doubled parts (Settings fault) ends = absurd ends
  start_shows rows files doubled parts (RegistryBad area at) ends = absurd ends
  start_shows rows files doubled parts DiskFault ends = absurd ends
  start_shows rows files doubled parts FolderFault ends = absurd ends
  start_shows rows files doubled parts (Unreachable worker failures) ends = absurd ends
  start_shows rows files doubled parts OutFault ends = absurd ends
  start_shows rows files doubled parts SourceFault ends = absurd ends
  start_shows rows files doubled parts (TooMany Files path) ends = record { files = files; doubled = doubled; scans = parts_asked files doubled parts; first = ends }
  start_shows rows files doubled parts (TooMany Epochs path) ends = record { files = files; doubled = doubled; scans = parts_asked files doubled parts; first = ends }
  start_shows rows files doubled parts (TooMany Slots path) ends = absurd ends
  start_shows rows files doubled parts (NoNative path) ends = absurd ends
  start_shows rows files doubled parts NoMemory ends = inr nothing_more
  start_shows rows files doubled parts (Unbuilt what) ends = absurd ends

  -- or could not be parted
  parted_shows_one : (rows : List Row) → (status : Status) → IsPartedEnd rows keyed.files.items status → ShowsScanEnd inputs told rows after status
  parted_shows_one rows status (inl memory) = subst (ShowsScanEnd inputs told rows after) (sym memory) (inr nothing_more)
  parted_shows_one rows status (inr end) = start_shows rows end.files end.doubled end.parts status end.ends

  tells_scanned : (scanned : Scanned) → PartsDoubled keyed.files.items scanned.listed.items scanned.doubled.items → scanned.gone ≡ keyed.gone → scanned.small ≡ keyed.small → TellsScanned inputs told scanned after
  tells_scanned scanned parts gone small = record {
    parted = parts_asked scanned.listed.items scanned.doubled.items parts;
    gone = ap (λ v. v.items) gone ∙ has.asks.gone;
    small = ap (λ v. v.items) small ∙ has.asks.small;
  }

pub parted_shows : {A : Type 0} (inputs : List InputRule) (rows : List Row) (before after : Option FolderHistory) (listed : List Listed) (keyed : Keyed) → (result : Result A Status) →
    IfSome before (λ told. HasAsked inputs told listed keyed after) → IfErr result (IsPartedEnd rows keyed.files.items) → IfErr result (λ status. IfSome before (λ told. ShowsScanEnd inputs told rows after status))
parted_shows inputs rows before after listed keyed (Ok scanned) has ends = tt
parted_shows inputs rows None after listed keyed (Err status) has ends = tt
parted_shows inputs rows (Some told) after listed keyed (Err status) has ends = parted_shows_one inputs told listed keyed after has rows status ends

-- which files are followed, of what a scan tells
pub parted_told : (inputs : List InputRule) (before after : Option FolderHistory) (scanned : Scanned) → IfSome before (λ told. TellsScanned inputs told scanned after) →
    IfSome before (λ told. ScansParted inputs told scanned.listed.items scanned.doubled.items after)
parted_told inputs before after scanned tells =
    each_some before (λ told. TellsScanned inputs told scanned after) (λ told. ScansParted inputs told scanned.listed.items scanned.doubled.items after) (λ told is. is.parted) tells

-- ---- what is known of parted files

pub refused_parted : {A : Type 0} (rows : List Row) (listed files doubled : List Listed) → PartsDoubled listed files doubled → (result : Result A Status) → IfErr result (IsStartEnd rows files) → IfErr result (IsPartedEnd rows listed)
refused_parted rows listed files doubled parts (Ok scanned) ends = tt
refused_parted rows listed files doubled parts (Err status) ends = inr (record { files = files; doubled = doubled; parts = parts; ends = ends })

module _ (result : Result Scanned Status) (keyed : Keyed) (parts : IfOk result (λ scanned. PartsDoubled keyed.files.items scanned.listed.items scanned.doubled.items)) where
  pub scanned_parts : (inputs : List InputRule) (before after : Option FolderHistory) (listed : List Listed) → IfSome before (λ told. HasAsked inputs told listed keyed after) →
      IfOk result (λ scanned. scanned.gone ≡ keyed.gone) → IfOk result (λ scanned. scanned.small ≡ keyed.small) → IfOk result (λ scanned. IfSome before (λ told. TellsScanned inputs told scanned after))
  scanned_parts inputs before after listed has gone small = by_result result parts gone small
    where
      by_result : (r : Result Scanned Status) → IfOk r (λ scanned. PartsDoubled keyed.files.items scanned.listed.items scanned.doubled.items) → IfOk r (λ scanned. scanned.gone ≡ keyed.gone) →
          IfOk r (λ scanned. scanned.small ≡ keyed.small) → IfOk r (λ scanned. IfSome before (λ told. TellsScanned inputs told scanned after))
      by_result (Ok scanned) parted none few =
          each_some before (λ told. HasAsked inputs told listed keyed after) (λ told. TellsScanned inputs told scanned after) (λ told is. tells_scanned inputs told listed keyed after is scanned parted none few) has
      by_result (Err status) parted none few = tt

  pub parted_each : (P : Listed → Type 0) → All P keyed.files.items → IfOk result (λ scanned. All P scanned.listed.items)
  parted_each P each = by_result result parts
    where
      by_result : (r : Result Scanned Status) → IfOk r (λ scanned. PartsDoubled keyed.files.items scanned.listed.items scanned.doubled.items) → IfOk r (λ scanned. All P scanned.listed.items)
      by_result (Ok scanned) parted = each_file keyed.files.items scanned.listed.items scanned.doubled.items parted P each
      by_result (Err status) parted = tt
