-- A scan that goes on past what fails, as its calls report it, is one more scan of a run, and what it answers is what it showed; and how far one came that
-- was cut off.
use Rattle.std.proofs.Common.{◌≡◌, ◌≢◌, ◌⊎◌, ◌↔◌, inl, inr, ⊎_elim, ℕ, ◌-◌, ◌^◌, ◌<◌, ◌≤◌, false, All, IfErr, IfSome, IsErrAnd, IsTrue, List, [], ◌∷◌, ◌++◌, map, append_assoc, append-nil, Option, None, Some, Result, Ok, Err, Vec, refl, sym, ap, subst, ◌∙◌, arith}
use Rattle.std.proofs.lemmas.Bool.{both_ways}
use Rattle.std.specs.declared.alloc.Global.{Global}
use Rattle.beat_config.specs.InRange.{AreInRange}
use Rattle.event_tree.specs.declared.input_rule.InputRule.{InputRule}
use Rattle.event_tree.specs.declared.settings.Settings.{Settings}
use Rattle.outside.specs.Counts.{IsAtEnd, Rose}
use Rattle.outside.specs.Folders.{Event, FolderHistory}
use Rattle.prospect.specs.Doubled.{PartsDoubled}
use Rattle.prospect.specs.ListedFiles.{IsKeyed}
use Rattle.prospect.specs.Members.{HaveShortIds, globs_of}
use Rattle.prospect.specs.PastFaults.{ServesFiles, ServesNoFiles, TriesFiles, TriesSome, TriesSomeFiles, file_tried}
use Rattle.prospect.specs.Scan.{with_events as then_done}
use Rattle.prospect.specs.Trying.{FailMoreOnlyByFaults}
use Rattle.prospect.specs.declared.askings.Askings.{Askings}
use Rattle.prospect.specs.declared.listed.Listed.{Listed}
use Rattle.prospect.specs.declared.scan_error.ScanError.{ScanError}
use Rattle.prospect.specs.declared.scan_error.ScanError.TheVariants as scan_error
use Rattle.told_scans.proofs.PastFaults.{is_told, shows_exactly, told_past_faults, told_with_fault, told_without_fault, tries_on}
use Rattle.told_scans.specs.ToldScan.{IsTold, ToldScan}
use Rattle.run_steps.specs.FolderSeen.{FolderSeen}
use Rattle.run_steps.specs.LaterScans.{IsNextScan}
use Rattle.run_steps.specs.Releasing.{with_events}
use Rattle.run_steps.specs.RescanErrors.{cut_off_by}
use Rattle.run_steps.specs.ScansAgain.{CutsOffSo, CutsScanOff, IsCounted, IsRescan, KeepsFolder, ScansAgain, TellsCutOff, TellsRescan, later_scan}
use Rattle.run_steps.specs.declared.rescan_error.RescanError.TheVariants.{NoMemory}
use Rattle.run_steps.specs.declared.scanning.Rescan.{Rescan}
use Rattle.run_steps.proofs.ReadersGo.{added_behind, rose_on, rose_since}

-- ---- the folder's list grows

-- of a folder that tells, and of any
abbrev GrewTo : FolderHistory → Option FolderHistory → Type 0
GrewTo told after = (more : List Event) × (after ≡ Some (record told { events = told.events ++ more }))

abbrev Grows : Option FolderHistory → Option FolderHistory → Type 0
Grows told after = (more : List Event) × (after ≡ with_events more told)

grows_then : (first mid last : Option FolderHistory) → Grows first mid → Grows mid last → Grows first last
grows_then first mid last one then = (one.0 ++ then.0, then.1 ∙ ap (with_events then.0) one.1 ∙ added_behind one.0 then.0 first)

grows_where_told : (told after : Option FolderHistory) (P : FolderHistory → Type 0) → ((history : FolderHistory) → P history → GrewTo history after) → IfSome told P →
    (told ≡ None → after ≡ None) → Grows told after
grows_where_told None after P step is untold = ([], untold refl)
grows_where_told (Some told) after P step is untold = step told is

module _ (inputs : List InputRule) (told : FolderHistory) (all : List Listed) (after : Option FolderHistory) where
  asked_grows : (asked : Askings) → TriesFiles inputs told all asked after → GrewTo told after
  asked_grows asked tries =
      let on = tries_on inputs tries.trials told tries.last tries.tries in
      let last_is : tries.last ≡ record { files = told.files; events = told.events ++ on.more } = λ k. record { files = on.files k; events = on.events k } in
      (on.more, tries.after_is ∙ ap (λ (h : FolderHistory). Some h) last_is)

  some_asked_grows : TriesSomeFiles inputs told all after → GrewTo told after
  some_asked_grows some =
      let on = tries_on inputs some.trials told some.mid some.tries in
      let mid_is : some.mid ≡ record { files = told.files; events = told.events ++ on.more } = λ k. record { files = on.files k; events = on.events k } in (
        on.more ++ some.last,
        some.after_is ∙ ap (λ (h : FolderHistory). Some (then_done h some.last)) mid_is
            ∙ ap (λ (l : List Event). Some (record told { events = l })) (append_assoc told.events on.more some.last),
      )

  -- all of them were asked, and nothing more was done
  all_asked : (asked : Askings) → TriesFiles inputs told all asked after → TriesSomeFiles inputs told all after
  all_asked asked tries = record {
    trials = tries.trials;
    others = [];
    are = sym tries.are ∙ sym (append-nil (map file_tried tries.trials));
    mid = tries.last;
    tries = tries.tries;
    last = [];
    ends = inl refl;
    after_is = tries.after_is ∙ ap (λ (l : List Event). Some (record { files = tries.last.files; events = l })) (sym (append-nil tries.last.events));
  }

-- ---- what it showed

some_fault : {A B : Type 0} (xs : List A) (ys : List B) → ¬ ((xs ≡ []) × (ys ≡ [])) → (xs ≢ []) ⊎ (ys ≢ [])
some_fault [] ys some = inr (λ none. some (refl, none))
some_fault (x ∷ xs) ys some = inl (λ none. cc)

-- what part_asked says of it
pub record IsPartedInto (failed : List (List ℕ)) (asked : Askings) (scan : Rescan) : Type 0 where
  pub parts : PartsDoubled asked.keyed.files.items scan.listed.items scan.doubled.items
  pub gone : scan.gone ≡ asked.keyed.gone
  pub small : scan.small ≡ asked.keyed.small
  pub whole : IsTrue scan.whole ↔ ((failed ≡ []) × (asked.failed.items ≡ []))

module _ (settings : Settings) (before : FolderHistory) (mid after : Option FolderHistory) (faults : ℕ) (failed : List (List ℕ)) (all : List Listed) (asked : Askings) (scan : Rescan)
    (serves : ServesFiles settings.inputs before failed all faults mid) (tries : IfSome mid (λ history. TriesFiles settings.inputs history all asked after))
    (keyed : All (IsKeyed settings.inputs) all) (parted : IsPartedInto failed asked scan) (counts : IsAtEnd faults → failed ≡ []) where
  abbrev listed : FolderHistory
  listed = then_done before serves.tries.makes.more

  serves_so : ServesFiles settings.inputs before failed all faults (Some listed)
  serves_so = subst (ServesFiles settings.inputs before failed all faults) serves.tries.makes.kept serves

  tries_so : TriesFiles settings.inputs listed all asked after
  tries_so = subst (λ (o : Option FolderHistory). IfSome o (λ history. TriesFiles settings.inputs history all asked after)) serves.tries.makes.kept tries

  abbrev scanned : FolderHistory
  scanned = tries_so.last

  tries_then : TriesFiles settings.inputs listed all asked (Some scanned)
  tries_then = subst (TriesFiles settings.inputs listed all asked) tries_so.after_is tries_so

  abbrev its_scan : ToldScan
  its_scan = told_past_faults settings scan.now.0 before listed scanned failed all faults asked scan.listed.items scan.doubled.items serves_so counts tries_then

  its_told : IsTold its_scan
  its_told = is_told settings scan.now.0 before listed scanned failed all faults asked scan.listed.items scan.doubled.items serves_so counts tries_then keyed parted.parts

  next : IsNextScan settings before (later_scan scan (Some its_scan)) scanned
  next = record {
    known = record {
      told = its_scan;
      told_is = refl;
      moment_is = refl;
      files_are = refl;
      doubled_are = refl;
      whole = λ is. let none = parted.whole.0 is in
          told_without_fault settings scan.now.0 before listed scanned failed all faults asked scan.listed.items scan.doubled.items serves_so counts tries_then keyed parted.parts none.0 none.1;
      partial = λ is.
          told_with_fault settings scan.now.0 before listed scanned failed all faults asked scan.listed.items scan.doubled.items serves_so counts tries_then keyed parted.parts
          (some_fault failed asked.failed.items (λ none. both_ways scan.whole is (parted.whole.1 none)));
    };
    settings_are = refl;
    is = its_told;
    earlier_is = refl;
    scanned_is = refl;
  }

  is_rescan : IsRescan settings before scan scanned
  is_rescan = record {
    told = its_scan;
    next = next;
    gone_are = ap (λ (v : Vec Listed Global). v.items) parted.gone ∙ tries_then.gone;
    small_are = ap (λ (v : Vec Listed Global). v.items) parted.small ∙ tries_then.small;
    shows = λ around on. shows_exactly its_scan its_told around on;
  }

  tells_where_told : TellsRescan settings (Some before) scan after
  tells_where_told = subst (TellsRescan settings (Some before) scan) (sym tries_so.after_is) is_rescan

-- where only this error is returned
pub if_err_by : {A E : Type 0} (P : E → Type 0) (error : E) (result : Result A E) → IsErrAnd result (λ other. other ≡ error) → P error → IfErr result P
if_err_by P error (Ok done) is holds = tt
if_err_by P error (Err other) is holds = subst P (sym is) holds

pub ids_are_short : (settings : Settings) → AreInRange settings → HaveShortIds settings.inputs
ids_are_short settings in_range k d within = let count = (in_range.inputs k d within).id.count in omega (arith, count)

-- ---- all of it, by what the folder shows before its listings, after them and after the askings

module _ (old new : FolderSeen) (grows : Grows old.told new.told) (tails : old.open_tails < 2 ^ 64 - 1 → new.open_tails ≡ old.open_tails) (faults : old.faults ≤ new.faults) where
  keeps_folder : KeepsFolder old new
  keeps_folder = record { more = grows.0; told = grows.1; open_tails = tails; faults_never_fall = faults }

-- what its listings did with the folder whatever they came to
pub record ListsRoots (old mid : FolderSeen) : Type 0 where
  pub untold : old.told ≡ None → mid.told ≡ None
  pub open_tails : mid.open_tails ≡ old.open_tails
  pub faults : old.faults ≤ mid.faults

-- and its askings
pub record AsksKeys (mid new : FolderSeen) : Type 0 where
  pub untold : mid.told ≡ None → new.told ≡ None
  pub open_tails : mid.open_tails < 2 ^ 64 - 1 → new.open_tails ≡ mid.open_tails
  pub faults : mid.faults ≤ new.faults

module _ (inputs : List InputRule) (old mid new : FolderSeen) (all : List Listed) (failed : List (List ℕ)) (lists : ListsRoots old mid) (asks : AsksKeys mid new)
    (served : IfSome old.told (λ history. ServesFiles inputs history failed all mid.faults mid.told)) where
  listed_grows : Grows old.told mid.told
  listed_grows = grows_where_told old.told mid.told (λ history. ServesFiles inputs history failed all mid.faults mid.told)
      (λ history serves. (serves.tries.makes.more, serves.tries.makes.kept)) served lists.untold

  tails_kept : old.open_tails < 2 ^ 64 - 1 → new.open_tails ≡ old.open_tails
  tails_kept few = let same = lists.open_tails in asks.open_tails (omega (arith, few, same)) ∙ same

  keeps_by_two : Grows mid.told new.told → KeepsFolder old new
  keeps_by_two then = keeps_folder old new (grows_then old.told mid.told new.told listed_grows then) tails_kept (let one = lists.faults in let other = asks.faults in omega (arith, one, other))

  -- the askings were cut off
  pub cut_asking : IfSome mid.told (λ history. TriesSomeFiles inputs history all new.told) → CutsScanOff inputs NoMemory old new
  cut_asking some = record {
    keeps = keeps_by_two (grows_where_told mid.told new.told (λ history. TriesSomeFiles inputs history all new.told) (λ history cut. some_asked_grows inputs history all new.told cut) some asks.untold);
    tells = by_told old.told mid.told served lists.untold asks.untold some;
  } where
    by_told : (told between : Option FolderHistory) → IfSome told (λ history. ServesFiles inputs history failed all mid.faults between) → (told ≡ None → between ≡ None) →
        (between ≡ None → new.told ≡ None) → IfSome between (λ history. TriesSomeFiles inputs history all new.told) → TellsCutOff inputs told NoMemory new.faults new.told
    by_told None between serves untold then cut = then (untold refl)
    by_told (Some told) between serves untold then cut = inr (record {
      failed = failed;
      all = all;
      faults = mid.faults;
      listed = then_done told serves.tries.makes.more;
      serves = subst (ServesFiles inputs told failed all mid.faults) serves.tries.makes.kept serves;
      asks = subst (λ (o : Option FolderHistory). IfSome o (λ history. TriesSomeFiles inputs history all new.told)) serves.tries.makes.kept cut;
    })

  -- after the askings
  pub cut_after_askings : (asked : Askings) → IfSome mid.told (λ history. TriesFiles inputs history all asked new.told) → CutsScanOff inputs NoMemory old new
  cut_after_askings asked tried = cut_asking (by_told mid.told tried)
    where
      by_told : (between : Option FolderHistory) → IfSome between (λ history. TriesFiles inputs history all asked new.told) → IfSome between (λ history. TriesSomeFiles inputs history all new.told)
      by_told None tries = tt
      by_told (Some history) tries = all_asked inputs history all new.told asked tries

-- nothing was asked
module _ (inputs : List InputRule) (old new : FolderSeen) (lists : ListsRoots old new) where
  keeps_listing : Grows old.told new.told → KeepsFolder old new
  keeps_listing grows = keeps_folder old new grows (λ few. lists.open_tails) lists.faults

  -- memory was out
  pub cut_listing : IfSome old.told (λ history. TriesSome (globs_of inputs) history new.faults new.told) → CutsScanOff inputs NoMemory old new
  cut_listing some = record {
    keeps = keeps_listing (grows_where_told old.told new.told (λ history. TriesSome (globs_of inputs) history new.faults new.told)
        (λ history cut. (cut.makes.more, cut.makes.kept)) some lists.untold);
    tells = by_told old.told some lists.untold;
  } where
    by_told : (told : Option FolderHistory) → IfSome told (λ history. TriesSome (globs_of inputs) history new.faults new.told) → (told ≡ None → new.told ≡ None) →
        TellsCutOff inputs told NoMemory new.faults new.told
    by_told None cut untold = untold refl
    by_told (Some told) cut untold = inl cut

  -- what was listed is refused
  pub refused_listing : (why : ScanError) (failed : List (List ℕ)) → IfSome old.told (λ history. ServesNoFiles inputs history failed why new.faults new.told) →
      CutsScanOff inputs (cut_off_by why) old new
  refused_listing why failed refused = record {
    keeps = keeps_listing (grows_where_told old.told new.told (λ history. ServesNoFiles inputs history failed why new.faults new.told)
        (λ history serves. (serves.tries.makes.more, serves.tries.makes.kept)) refused lists.untold);
    tells = by_told old.told refused lists.untold;
  } where
    by_error : (told : FolderHistory) (e : ScanError) → ServesNoFiles inputs told failed e new.faults new.told → CutsOffSo inputs told (cut_off_by e) new.faults new.told
    by_error told scan_error.Failed serves = absurd serves.refuses
    by_error told scan_error.NoMemory serves = absurd serves.refuses
    by_error told (scan_error.NoNative path) serves = (failed, serves)

    by_told : (told : Option FolderHistory) → IfSome told (λ history. ServesNoFiles inputs history failed why new.faults new.told) → (told ≡ None → new.told ≡ None) →
        TellsCutOff inputs told (cut_off_by why) new.faults new.told
    by_told None serves untold = untold refl
    by_told (Some told) serves untold = by_error told why serves

-- ---- a scan that was made

module _ (settings : Settings) (old mid new : FolderSeen) (all : List Listed) (failed : List (List ℕ)) (lists : ListsRoots old mid) (asks : AsksKeys mid new)
    (served : IfSome old.told (λ history. ServesFiles settings.inputs history failed all mid.faults mid.told)) (asked : Askings)
    (tried : IfSome mid.told (λ history. TriesFiles settings.inputs history all asked new.told)) (keyed : All (IsKeyed settings.inputs) all) (scan : Rescan) (parted : IsPartedInto failed asked scan)
    (listing_failed : FailMoreOnlyByFaults [] failed old.faults mid.faults) (asking_failed : FailMoreOnlyByFaults [] asked.failed.items mid.faults new.faults) where
  by_a_fault : scan.whole ≡ false → Rose old.faults new.faults
  by_a_fault partial = ⊎_elim
      (λ some. ⊎_elim (λ none. absurd (some none)) (λ rose. rose_on old.faults mid.faults new.faults rose asks.faults) listing_failed)
      (λ some. ⊎_elim (λ none. absurd (some none)) (λ rose. rose_since old.faults mid.faults new.faults lists.faults rose) asking_failed)
      (some_fault failed asked.failed.items (λ none. both_ways scan.whole partial (parted.whole.1 none)))

  -- the count of faults is not at its end before the askings if it is not after them
  none_failed : IsCounted scan new.faults → IsAtEnd mid.faults → failed ≡ []
  none_failed counted at_end = (parted.whole.0 (counted (let more = asks.faults in omega (arith, at_end, more)))).0

  tells : IsCounted scan new.faults → TellsRescan settings old.told scan new.told
  tells counted = by_told old.told mid.told served lists.untold asks.untold tried
    where
      by_told : (told between : Option FolderHistory) → IfSome told (λ history. ServesFiles settings.inputs history failed all mid.faults between) → (told ≡ None → between ≡ None) →
          (between ≡ None → new.told ≡ None) → IfSome between (λ history. TriesFiles settings.inputs history all asked new.told) → TellsRescan settings told scan new.told
      by_told None between serves untold then tries = then (untold refl)
      by_told (Some told) between serves untold then tries =
          tells_where_told settings told between new.told mid.faults failed all asked scan serves tries keyed parted (none_failed counted)

  pub scans_again : ScansAgain settings scan old new
  scans_again = record {
    keeps = keeps_by_two settings.inputs old mid new all failed lists asks served
        (grows_where_told mid.told new.told (λ history. TriesFiles settings.inputs history all asked new.told) (λ history tries. asked_grows settings.inputs history all new.told asked tries) tried asks.untold);
    tells = tells;
    partial_only_by_a_fault = by_a_fault;
  }
