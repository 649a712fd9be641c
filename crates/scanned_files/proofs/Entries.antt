-- What the entries of a run's scans say of a key: a scan that gave an entry of it shows it, one that gave none does not; so a file is begun by its
-- entry or its row, and its key is newly known if no scan gave it since it was not known.
use Rattle.std.proofs.Common.{◌≡◌, inl, inr, ⊎_elim, ℕ, zero, suc, List, [], ◌∷◌, Contains, None, Some, refl, sym, ap, subst, ◌∙◌}
use Rattle.std.proofs.lemmas.Option.{slice_get-map}
use Rattle.std.specs.Prelude.{flat_map, option_map, slice_get}
use Rattle.accounts.proofs.InARow.{input_of_key}
use Rattle.accounts.proofs.NamedKeys.{key_of_entry}
use Rattle.accounts.specs.FollowedFile.{begins_by}
use Rattle.accounts.specs.RunsInARow.{HaveOwnIds}
use Rattle.event_tree.specs.declared.input_rule.InputRule.{InputRule}
use Rattle.kept_rows.specs.Account.{Following}
use Rattle.kept_rows.specs.Followed.{HadNoRow, IsBegun, IsKeyOf, IsNewlyKnown, IsUnknownFrom, StartsAt, WasHidden, WasHiddenByWhole, start_by, start_of, start_unlisted}
use Rattle.kept_rows.specs.Run.{Run, Scan}
use Rattle.kept_rows.specs.Scans.{IsFirstPath, ShowsKey}
use Rattle.prospect.proofs.Doubled.{keys_apart}
use Rattle.prospect.specs.AskedFiles.{keyed_by}
use Rattle.prospect.specs.Doubled.{AreKeysApart, HaveKey}
use Rattle.prospect.specs.declared.listed.Listed.{Listed}
use Rattle.ship_core.proofs.Members.{none_there, there_cases}
use Rattle.ship_core.specs.Rows.{find}
use Rattle.told_scans.proofs.ExactScans.{between, is_whole_in_run, shows_listed}
use Rattle.told_scans.specs.Exact.{IsShownAs, ShowsExactly}
use Rattle.told_scans.specs.ToldScan.{ToldScan, scan_by}
use Rattle.told_scans.specs.ToldScans.{AreToldIn, ToldRun, run_by}
use Rattle.wire_base.specs.declared.row.Row.{Row}
use Rattle.scanned_files.proofs.Lists.{IsPartedAt, got_of_map, parted_at}
use Rattle.scanned_files.specs.Listings.{AreBegunBy, HasEntry, HasNoEntry, HasNoEntryFrom, HasNoMore, NoneHasEntry}

-- ---- one entry a key

no_other : (files : List Listed) (one other : Listed) (key : List ℕ) → ¬ (HaveKey files one.key) → Contains files other → one.key ≡ Some key → other.key ≡ Some key → ⊥
no_other files one other key none there keyed same = none (subst (HaveKey files) (sym keyed) (there.0, other, there.1, there.2, same))

pub one_of_key : (files : List Listed) (one other : Listed) (key : List ℕ) → AreKeysApart files → Contains files one → Contains files other → one.key ≡ Some key → other.key ≡ Some key → one ≡ other
one_of_key [] one other key apart there also keyed same = absurd (none_there one there)
one_of_key (first ∷ files) one other key apart there also keyed same =
    ⊎_elim
    (λ here. ⊎_elim (λ too. sym here ∙ too)
    (λ later. absurd (no_other files first other key apart.0 later (ap (λ (l : Listed). l.key) here ∙ keyed) same)) (there_cases first other files also))
    (λ later. ⊎_elim (λ too. absurd (no_other files first one key apart.0 later (ap (λ (l : Listed). l.key) too ∙ same) keyed))
    (λ behind. one_of_key files one other key apart.1 later behind keyed same) (there_cases first other files also))
    (there_cases first one files there)

module _ (run : ToldRun) (are : AreToldIn run) where
  abbrev its_run : Run
  its_run = run_by run

  -- ---- the scan of this number

  module _ (number : ℕ) (told : ToldScan) (told_is : slice_get run.scans number ≡ Some told) where
    abbrev pub parted : IsPartedAt run.scans number told
    parted = parted_at run.scans number told told_is

    pub exact : ShowsExactly its_run (scan_by told) told.files
    exact = shows_listed run are parted.front told parted.behind parted.are

    pub scan_there : slice_get its_run.scans number ≡ Some (scan_by told)
    scan_there = slice_get-map scan_by run.scans number ∙ ap (option_map scan_by) told_is

    pub not_shown : (key : List ℕ) → ¬ (HaveKey told.files (Some key)) → ¬ (ShowsKey its_run (scan_by told) key)
    not_shown key none shows = none (exact.only key shows)

    pub files_apart : AreKeysApart told.files
    files_apart = keys_apart (flat_map keyed_by told.asked) told.files told.doubled (between run are parted.front told parted.behind parted.are).is.parts

  module _ (number : ℕ) (key : List ℕ) (entry : Listed) (has : HasEntry run.scans number key entry) where
    pub entry_shown : IsShownAs its_run (scan_by has.told) entry key
    entry_shown = (exact number has.told has.told_is).each entry key has.there has.keyed

    key_shown : ShowsKey its_run (scan_by has.told) key
    key_shown = record { number = entry_shown.number; path = entry.path; shows = entry_shown.first.shows }

  -- ---- a key is of one input

  record IsOfInput (input : ℕ) (key : List ℕ) : Type 0 where
    rule : InputRule
    rule_is : slice_get run.settings.inputs input ≡ Some rule
    of_input : IsKeyOf rule.id key

  of_input : (scan : Scan) (one : Listed) (key : List ℕ) → IsShownAs its_run scan one key → IsOfInput one.input key
  of_input scan one key is = record {
    rule = is.shows.rule;
    rule_is = is.shows.rule_is;
    of_input = key_of_entry its_run.trace is.shows.rule is.shown is.shows.asking.opening key is.number is.shows.gave;
  }

  -- so two entries that have it are of one
  pub same_input : HaveOwnIds run.settings.inputs → (scan another : Scan) (one other : Listed) (key : List ℕ) → IsShownAs its_run scan one key → IsShownAs its_run another other key → one.input ≡ other.input
  same_input own scan another one other key is also =
      let first = of_input scan one key is in
      let second = of_input another other key also in
      input_of_key run.settings.inputs one.input other.input first.rule second.rule key own first.rule_is second.rule_is first.of_input second.of_input

  -- ---- a key that no scan gave

  pub was_hidden : (key : List ℕ) (since until : ℕ) → NoneHasEntry run.scans key since until → WasHidden its_run key since until
  was_hidden key since until none number scan least less is =
      let of = got_of_map scan_by run.scans number scan is in
      subst (λ (s : Scan). ¬ (ShowsKey its_run s key)) of.same (not_shown number of.item of.there key (none number of.item least less of.there))

  -- a whole scan that gave no entry hides it
  pub hidden_by_whole : (number : ℕ) (key : List ℕ) → HasNoMore run.scans number key → WasHiddenByWhole its_run key number
  hidden_by_whole number key has =
      let told = has.is.told in
      let part = parted_at run.scans number told has.is.told_is in
      record {
        scan = scan_by told;
        scan_is = scan_there number told has.is.told_is;
        whole = is_whole_in_run run are part.front told part.behind part.are has.whole;
        hidden = not_shown number told has.is.told_is key has.is.none;
      }

  newly_known : (followings : List Following) (following : Following) (since : ℕ) → HadNoRow its_run followings following →
      HasNoEntryFrom run.scans followings following since → NoneHasEntry run.scans following.key since following.known_from → IsNewlyKnown its_run followings following
  newly_known followings following since no_row unknown none = λ later. record {
    no_row = no_row;
    since = since;
    unknown = by_case unknown;
    hidden = was_hidden following.key since following.known_from none;
  }
    where
      by_case : HasNoEntryFrom run.scans followings following since → IsUnknownFrom its_run followings following since
      by_case (inl first) = inl first
      by_case (inr (inl went)) = inr (inl went)
      by_case (inr (inr more)) = inr (inr (hidden_by_whole since following.key more))

  -- ---- how a file is begun

  begun_by_entry : (following : Following) (entry : Listed) → HasEntry run.scans following.known_from following.key entry →
      start_of following ≡ begins_by following.known_from (find following.key run.opening) entry.size → IsBegun its_run following
  begun_by_entry following entry has starts = record {
    scan = scan_by has.told;
    scan_is = scan_there following.known_from has.told has.told_is;
    starts = by_number following.known_from starts;
  }
    where
      shown : IsShownAs its_run (scan_by has.told) entry following.key
      shown = entry_shown following.known_from following.key entry has

      by_number : (number : ℕ) → start_of following ≡ begins_by number (find following.key run.opening) entry.size → StartsAt number its_run (scan_by has.told) following
      by_number zero starts = inl (record {
        number = shown.number;
        shown = shown.shown;
        shows = (entry.input, shown.shows);
        first = subst (IsFirstPath its_run (scan_by has.told) following.key shown.number) (sym shown.path_is) shown.first;
        starts = starts ∙ ap (start_by (find following.key run.opening)) (sym shown.size_is);
      })
      by_number (suc earlier) starts = record { shows = key_shown following.known_from following.key entry has; starts = starts }

  begun_by_row : (following : Following) (row : Row) → following.known_from ≡ 0 → HasNoEntry run.scans 0 following.key → find following.key run.opening ≡ Some row →
      start_of following ≡ start_unlisted row → IsBegun its_run following
  begun_by_row following row first has found starts = record {
    scan = scan_by has.told;
    scan_is = ap (slice_get its_run.scans) first ∙ scan_there 0 has.told has.told_is;
    starts = subst (λ (n : ℕ). StartsAt n its_run (scan_by has.told) following) (sym first)
        (inr (record { hidden = not_shown 0 has.told has.told_is following.key has.none; row = row; found = found; starts = starts }));
  }

  pub are_begun : AreBegunBy run
  are_begun = record { by_entry = begun_by_entry; by_row = begun_by_row; newly_known = newly_known }
