-- A file that a scan listed and that was opened after it, before the next one: that scan is the last before the opening that showed its key; later ones
-- tell that it was removed or has another path; its start and the moment of its last change are by the entries.
use Rattle.std.proofs.Common.{◌≡◌, ◌≢◌, ◌⊎◌, inl, inr, ⊎_elim, ℕ, ◌+◌, ◌≤◌, ◌<◌, max, min, List, [], ◌∷◌, ◌++◌, Contains, length, map, Some, sym, ap, subst, ◌∙◌, append_assoc, arith}
use Rattle.std.proofs.lemmas.Bool.{cases_lt}
use Rattle.std.proofs.lemmas.List.{length-map}
use Rattle.std.specs.Prelude.{slice_get}
use Rattle.std.specs.List.{AllByRecursion}
use Rattle.accounts.proofs.Following.{got_there}
use Rattle.accounts.proofs.Lists.{each_last, got_behind}
use Rattle.accounts.specs.Filed.{Filed, following_of}
use Rattle.accounts.specs.FollowedFile.{BeganEarlier, BeginsAs, BeginsThere, IsListedAs, IsMomentOf, ShrankBefore, WasShownLast, begins_by, start_in}
use Rattle.accounts.specs.Opened.{Opened}
use Rattle.accounts.specs.RunsInARow.{HaveOwnIds}
use Rattle.accounts.specs.Watch.{Name}
use Rattle.accounts.specs.Watched.{WasRemovedSince, WasRenamedSince}
use Rattle.kept_rows.specs.Followed.{IsBegun, Start}
use Rattle.kept_rows.specs.Run.{Run, Scan}
use Rattle.kept_rows.specs.Scans.{IsBefore, IsBehind, IsFirstPath, ShowsFileTo, ShowsKey}
use Rattle.kept_rows.specs.Telling.{begun_moment}
use Rattle.prospect.proofs.Lists.{all_map}
use Rattle.prospect.specs.declared.listed.Listed.{Listed}
use Rattle.ship_core.specs.Rows.{find}
use Rattle.told_scans.proofs.ExactScans.{in_the_run, is_whole_in_run, listings_ended, made_before, scans_around, shows_listed}
use Rattle.told_scans.proofs.Members.{mapped_there, member_is, some_is}
use Rattle.told_scans.proofs.ToldScans.{scan_later}
use Rattle.told_scans.specs.Exact.{IsShownAs}
use Rattle.told_scans.specs.ToldScan.{ToldScan, scan_by}
use Rattle.told_scans.specs.ToldScans.{AreToldIn, ToldRun, run_by}
use Rattle.wire_base.specs.declared.numbers.Moment.{Moment}
use Rattle.wire_base.specs.declared.numbers.TheConstants.{MAX_MOMENT}
use Rattle.scanned_files.proofs.Entries.{entry_shown, exact, files_apart, hidden_by_whole, one_of_key, parted, same_input, scan_there}
use Rattle.scanned_files.proofs.Lists.{each_later}
use Rattle.scanned_files.specs.Listings.{AreShownBy, HasEntry, HasNoMore, WasListedBy}

-- one more scan, which was made after the opening
pub still_listed : (scans : List ToldScan) (opened : Opened) (told : ToldScan) → WasListedBy scans opened → opened.opening < length told.earlier.events → WasListedBy (scans ++ told ∷ []) opened
still_listed scans opened told listed less = record {
  front = listed.front;
  told = listed.told;
  behind = listed.behind ++ told ∷ [];
  scans_are = ap (λ (l : List ToldScan). l ++ told ∷ []) listed.scans_are ∙ append_assoc listed.front (listed.told ∷ listed.behind) (told ∷ []);
  entry = listed.entry;
  there = listed.there;
  keyed = listed.keyed;
  path_is = listed.path_is;
  input_is = listed.input_is;
  since = listed.since;
  until = each_last (λ (later : ToldScan). opened.opening < length later.earlier.events) listed.behind told listed.until less;
}

module _ (run : ToldRun) (are : AreToldIn run) where
  abbrev its_run : Run
  its_run = run_by run

  module _ (opened : Opened) (listed : WasListedBy run.scans opened) where
    abbrev key : List ℕ
    key = opened.begin.key

    -- the scan was made after the opening
    abbrev IsLater : ToldScan → Type 0
    IsLater later = opened.opening < length later.earlier.events

    pub shown_as : IsShownAs its_run (scan_by listed.told) listed.entry key
    shown_as = (shows_listed run are listed.front listed.told listed.behind listed.scans_are).each listed.entry key listed.there listed.keyed

    pub not_nearer : (later : ToldScan) → IsLater later → ShowsKey its_run (scan_by later) key → IsBefore opened.opening (scan_by later) → ⊥
    not_nearer later less shows before =
        let entry = shows.shows.shows.1.asks.entry in
        let behind = member_is (λ (l : ℕ). opened.opening < l) (scan_by later).listings entry.listing (scan_later opened.opening later less) entry.of_scan in
        let ahead = member_is (λ (l : ℕ). l < opened.opening) (scan_by later).listings entry.listing before entry.of_scan in
        omega (arith, behind, ahead)

    pub after_listings : length listed.told.listed.events ≤ opened.opening
    after_listings = listings_ended run are listed.front listed.told listed.behind listed.scans_are opened.opening listed.since

    pub in_this_run : length run.earlier.events ≤ opened.opening
    in_this_run = in_the_run run are listed.front listed.told listed.behind listed.scans_are opened.opening after_listings

    abbrev pub shown_last : WasShownLast its_run opened
    shown_last = record {
      front = map scan_by listed.front;
      scan = scan_by listed.told;
      behind = map scan_by listed.behind;
      scans_are = scans_around run are listed.front listed.told listed.behind listed.scans_are;
      made_before = made_before run are listed.front listed.told listed.behind listed.scans_are opened.opening after_listings;
      none_nearer = all_map (λ (other : Scan). ShowsKey its_run other key → ¬ (IsBefore opened.opening other)) IsLater scan_by not_nearer listed.behind listed.until;
      number = shown_as.number;
      shown = shown_as.shown;
      shows = subst (λ (input : ℕ). ShowsFileTo its_run (scan_by listed.told) input key shown_as.number shown_as.shown) (sym listed.input_is) shown_as.shows;
      path_is = shown_as.path_is ∙ sym listed.path_is;
      first = subst (IsFirstPath its_run (scan_by listed.told) key shown_as.number) (sym listed.path_is) shown_as.first;
    }

    -- ---- later scans

    later_ones : (number : ℕ) (told : ToldScan) (told_is : slice_get run.scans number ≡ Some told) → length listed.front < number →
        AllByRecursion IsLater (told ∷ (parted run are number told told_is).behind)
    later_ones number told told_is later =
        let part = parted run are number told told_is in
        let is = part.number_is in
        each_later IsLater listed.front listed.told listed.behind part.front told part.behind (sym listed.scans_are ∙ part.are) (omega (arith, is, later)) listed.until

    pub removed_since : (number : ℕ) → length listed.front < number → HasNoMore run.scans number key → WasRemovedSince its_run opened
    removed_since number later has =
        let told = has.is.told in
        let part = parted run are number told has.is.told_is in
        record {
          scan = scan_by told;
          of_run = mapped_there scan_by run.scans told (got_there run.scans number told has.is.told_is);
          whole = is_whole_in_run run are part.front told part.behind part.are has.whole;
          later = scan_later opened.opening told (later_ones number told has.is.told_is later).0;
          hidden = λ path shows. has.is.none ((exact run are number told has.is.told_is).only key (record { number = opened.number; path = path; shows = shows }));
        }

    pub renamed_since : (name : Name) (entry : Listed) → length listed.front < name.scan → HasEntry run.scans name.scan key entry → name.path ≡ entry.path → WasRenamedSince its_run opened name
    renamed_since name entry later has path_is =
        let told = has.told in
        let part = parted run are name.scan told has.told_is in
        let shown = entry_shown run are name.scan key entry has in
        record {
          front = map scan_by part.front;
          scan = scan_by told;
          behind = map scan_by part.behind;
          scans_are = scans_around run are part.front told part.behind part.are;
          number_is = part.number_is ∙ sym (length-map part.front scan_by);
          later = all_map (IsBehind opened.opening) IsLater scan_by (λ other less. scan_later opened.opening other less) (told ∷ part.behind) (later_ones name.scan told has.told_is later);
          number = shown.number;
          first = subst (IsFirstPath its_run (scan_by told) key shown.number) (sym path_is) shown.first;
        }

  pub are_shown : AreShownBy run
  are_shown = record {
    hidden = hidden_by_whole run are;
    last = λ opened listed. shown_last opened listed;
    removed = λ opened listed number later has. removed_since opened listed number later has;
    renamed = λ opened listed name entry later has path_is. renamed_since opened listed name entry later has path_is;
  }

  -- ---- as it was listed

  module _ (file : Filed) (listed : WasListedBy run.scans file.opened) where
    abbrev its_key : List ℕ
    its_key = file.opened.begin.key

    abbrev last : WasShownLast its_run file.opened
    last = shown_last file.opened listed

    pub begins_there : file.known_from ≡ length listed.front → start_in file.opened ≡ begins_by file.known_from (find its_key run.opening) listed.entry.size → BeginsThere its_run file last
    begins_there known starts = record {
      number_is = known ∙ sym (length-map listed.front scan_by);
      starts = starts ∙ ap (begins_by file.known_from (find its_key run.opening)) (sym (shown_as file.opened listed).size_is);
    }

    pub began_earlier : file.known_from < length listed.front → IsBegun its_run (following_of file) → file.opened.begin.base ≤ listed.entry.size → BeganEarlier its_run file last
    began_earlier earlier begun within = record {
      earlier = let same = length-map listed.front scan_by in omega (arith, earlier, same);
      begun = begun;
      within = let same = (shown_as file.opened listed).size_is in omega (arith, within, same);
    }

    pub shrank_before : (start : Start) → file.known_from < length listed.front → IsBegun its_run (following_of file) → listed.entry.size < start.base →
        start_in file.opened ≡ record { epoch = start.epoch + 1; base = 0 } → ShrankBefore its_run file last start
    shrank_before start earlier begun below starts = record {
      earlier = let same = length-map listed.front scan_by in omega (arith, earlier, same);
      begun = begun;
      below = let same = (shown_as file.opened listed).size_is in omega (arith, below, same);
      starts = starts;
    }

    module _ (own : HaveOwnIds run.settings.inputs) (begins : BeginsAs its_run file last file.shrank_from) where
      abbrev pub listed_as : IsListedAs its_run file
      listed_as = record { last = last; begins = begins }

      -- an entry of the scan that listed it is the one by which it was listed
      same_entry : (entry : Listed) → HasEntry run.scans (length listed.front) its_key entry → entry ≡ listed.entry
      same_entry entry has =
          let there : slice_get run.scans (length listed.front) ≡ Some listed.told =
          ap (λ (l : List ToldScan). slice_get l (length listed.front)) listed.scans_are ∙ got_behind listed.front listed.told listed.behind in
          let same : has.told ≡ listed.told = some_is has.told listed.told (sym has.told_is ∙ there) in
          one_of_key listed.told.files entry listed.entry its_key (files_apart run are (length listed.front) listed.told there)
          (subst (λ (t : ToldScan). Contains t.files entry) same has.there) listed.there has.keyed listed.keyed

      -- the greater of the moment with which it begins and that of an entry, of any scan since its key is known
      pub moment_of : (number : ℕ) (entry : Listed) → HasEntry run.scans number its_key entry → file.known_from ≤ number →
          file.changed ≡ max (begun_moment its_run (following_of file)) (min entry.changed.0 MAX_MOMENT) → IsMomentOf its_run file listed_as
      moment_of number entry has known changed =
          ⊎_elim (λ less. another (λ same. omega (arith, less, same)))
          (λ most. ⊎_elim (λ less. another (λ same. omega (arith, less, same))) (λ least. here (omega (arith, most, least))) (cases_lt (length listed.front) number))
          (cases_lt number (length listed.front))
        where
          by_entry : (shown : Moment) → shown ≡ entry.changed → file.changed ≡ max (begun_moment its_run (following_of file)) (min shown.0 MAX_MOMENT)
          by_entry shown same = changed ∙ ap (λ (m : Moment). max (begun_moment its_run (following_of file)) (min m.0 MAX_MOMENT)) (sym same)

          here : number ≡ length listed.front → IsMomentOf its_run file listed_as
          here same =
              let is = same_entry entry (subst (λ (n : ℕ). HasEntry run.scans n its_key entry) same has) in
              inr (inl (by_entry (shown_as file.opened listed).shown.entry.changed ((shown_as file.opened listed).changed_is ∙ ap (λ (l : Listed). l.changed) (sym is))))

          another : number ≢ length listed.front → IsMomentOf its_run file listed_as
          another other =
              let shown = entry_shown run are number its_key entry has in
              let input_is = same_input run are own (scan_by has.told) (scan_by listed.told) entry listed.entry its_key shown (shown_as file.opened listed) ∙ sym listed.input_is in
              inr (inr (
                shown.shown,
                record {
                  place = number;
                  scan = scan_by has.told;
                  scan_is = scan_there run are number has.told has.told_is;
                  since = known;
                  another = λ same. other (same ∙ length-map listed.front scan_by);
                  number = shown.number;
                  shows = subst (λ (input : ℕ). ShowsFileTo its_run (scan_by has.told) input its_key shown.number shown.shown) input_is shown.shows;
                  first = subst (IsFirstPath its_run (scan_by has.told) its_key shown.number) (sym shown.path_is) shown.first;
                },
                by_entry shown.shown.entry.changed shown.changed_is,
              ))
