-- The scans of a run, the first one and those after it, in the terms of its account: the run is one by these scans, and what later scans say of a file that
-- was opened is what the account of it asks for.
use Rattle.std.proofs.Common.{◌≡◌, ⊎_elim, ℕ, zero, suc, ◌≤◌, ◌<◌, List, [], ◌∷◌, ◌++◌, Contains, length, map, IfSome, IsSome, inl, inr, None, Option, Some, refl, sym, ap, subst, ◌∙◌, arith}
use Rattle.std.proofs.lemmas.Bool.{cases_lt}
use Rattle.std.specs.Prelude.{slice_get}
use Rattle.std.specs.List.{AllByRecursion, cons_option}
use Rattle.accounts.proofs.Lists.{got_behind}
use Rattle.accounts.proofs.Onward.{told_by_other}
use Rattle.accounts.specs.ByScans.{IsByScans}
use Rattle.accounts.specs.Opened.{Opened}
use Rattle.accounts.specs.RunsInARow.{HaveOwnIds}
use Rattle.accounts.specs.ToldFile.{IsToldFile}
use Rattle.accounts.specs.Turned.{Turned}
use Rattle.accounts.specs.Watch.{Name}
use Rattle.accounts.specs.Watched.{WasRemovedSince, WasRenamedSince, watch_in}
use Rattle.event_tree.specs.declared.settings.Settings.{Settings}
use Rattle.kept_rows.specs.Scans.{StandInOrder}
use Rattle.kept_rows.specs.Trace.{WireTold}
use Rattle.outside.specs.Folders.{FolderHistory}
use Rattle.outside.specs.Tails.{TailHistory}
use Rattle.prospect.specs.Doubled.{HaveKey}
use Rattle.prospect.specs.declared.listed.Listed.{Listed}
use Rattle.scanned_files.proofs.Accounted.{is_by_scans}
use Rattle.scanned_files.proofs.Listings.{removed_since, renamed_since}
use Rattle.scanned_files.specs.Listings.{WasListedBy}
use Rattle.ship_core.proofs.Members.{none_there, there_cases}
use Rattle.told_scans.proofs.AskedEvents.{longer}
use Rattle.told_scans.proofs.Members.{some_is}
use Rattle.told_scans.proofs.ToldScans.{go_on, nothing_done, scan_goes_on, told_between}
use Rattle.told_scans.specs.ToldScan.{IsTold, ToldScan}
use Rattle.told_scans.specs.ToldScans.{AreToldFrom, AreToldIn, ToldRun, moments_in, run_by}
use Rattle.run_steps.specs.Began.{Began}
use Rattle.run_steps.specs.LaterScans.{AreLaterScans, IsKnownScan, LaterScan, WasMadeAfter, WasMissed, WasNamed, told_in}
use Rattle.run_steps.specs.RunOf.{FolderTold, told_scan}
use Rattle.run_steps.specs.Stands.{watch_of}

-- ---- scans of which the folder is known

first_told : (scan : LaterScan) (scans : List LaterScan) (known : IsKnownScan scan) → told_in (scan ∷ scans) ≡ known.told ∷ told_in scans
first_told scan scans known = ap (λ (o : Option ToldScan). cons_option o (told_in scans)) known.told_is

told_moments : (scans : List LaterScan) → AllByRecursion IsKnownScan scans → moments_in (told_in scans) ≡ map (λ (scan : LaterScan). scan.moment) scans
told_moments [] known = refl
told_moments (scan ∷ scans) known =
    ap moments_in (first_told scan scans known.0) ∙ ap (λ (m : ℕ). m ∷ moments_in (told_in scans)) known.0.moment_is ∙ ap (λ (l : List ℕ). scan.moment ∷ l) (told_moments scans known.1)

-- the one of this number, as the folder reported it
record IsKnownAt (scans : List LaterScan) (number : ℕ) (scan : LaterScan) : Type 0 where
  known : IsKnownScan scan
  told_there : slice_get (told_in scans) number ≡ Some known.told

known_at : (scans : List LaterScan) → AllByRecursion IsKnownScan scans → (number : ℕ) (scan : LaterScan) → slice_get scans number ≡ Some scan → IsKnownAt scans number scan
known_at [] known number scan is = absurd (let q : None ≡ Some scan = is in cc)
known_at (first ∷ scans) known zero scan is =
    subst (IsKnownAt (first ∷ scans) zero) (some_is first scan is)
    (record { known = known.0; told_there = ap (λ (l : List ToldScan). slice_get l zero) (first_told first scans known.0) })
known_at (first ∷ scans) known (suc number) scan is =
    let rest = known_at scans known.1 number scan is in
    record { known = rest.known; told_there = ap (λ (l : List ToldScan). slice_get l (suc number)) (first_told first scans known.0) ∙ rest.told_there }

record IsNumbered (scans : List LaterScan) (scan : LaterScan) : Type 0 where
  number : ℕ
  is : slice_get scans number ≡ Some scan

numbered : (scans : List LaterScan) (scan : LaterScan) → Contains scans scan → IsNumbered scans scan
numbered [] scan there = absurd (none_there scan there)
numbered (first ∷ scans) scan there =
    ⊎_elim (λ here. record { number = zero; is = ap Some here })
    (λ later. let rest = numbered scans scan later in record { number = suc rest.number; is = rest.is })
    (there_cases first scan scans there)

-- ---- in their order

-- a scan that was not made after another one began before that one ended
began_before : (settings : Settings) (before : FolderHistory) (front : List ToldScan) (told : ToldScan) (behind : List ToldScan) (now : FolderHistory) →
    AreToldFrom settings before (front ++ told ∷ behind) now → (number : ℕ) (other : ToldScan) → slice_get (front ++ told ∷ behind) number ≡ Some other →
    number ≤ length front → length other.earlier.events ≤ length told.scanned.events
began_before settings before [] told behind now are zero other is within =
    subst (λ (t : ToldScan). length t.earlier.events ≤ length told.scanned.events) (some_is told other is) (longer told.earlier told.scanned (scan_goes_on told are.0.is))
began_before settings before [] told behind now are (suc number) other is within = absurd (omega (arith, within))
began_before settings before (first ∷ front) told behind now are zero other is within =
    let rest = told_between settings first.scanned front told behind now are.1 in
    let one = longer first.earlier first.scanned (scan_goes_on first are.0.is) in
    let two = longer first.scanned told.earlier (go_on settings first.scanned front told.earlier rest.front_told) in
    let three = longer told.earlier told.scanned (scan_goes_on told rest.is) in
    subst (λ (t : ToldScan). length t.earlier.events ≤ length told.scanned.events) (some_is first other is) (omega (arith, one, two, three))
began_before settings before (first ∷ front) told behind now are (suc number) other is within =
    began_before settings first.scanned front told behind now are.1 number other is (omega (arith, within))

-- ---- the run

-- all of them, as the folder reported them
abbrev pub all_told : {D : Type 0} → Began D → FolderTold → List LaterScan → List ToldScan
all_told start folder scans = told_scan start folder ∷ told_in scans

abbrev pub told_run : {D : Type 0} → Began D → FolderTold → List LaterScan → List ℕ → List WireTold → ToldRun
told_run start folder scans moments wires = record {
  settings = start.settings;
  once = start.once;
  opening = start.opening;
  earlier = folder.earlier;
  ended = folder.ended;
  scans = all_told start folder scans;
  open_tails = [];
  moments = moments;
  wires = wires;
}

module _ {D : Type 0} (start : Began D) (folder : FolderTold) (scans : List LaterScan) (moments : List ℕ) (wires : List WireTold) (first : IsTold (told_scan start folder))
    (later : AreToldFrom start.settings folder.scanned (told_in scans) folder.ended) (are : AreLaterScans start moments scans) (tells : IsSome start.shown) where
  abbrev its_run : ToldRun
  its_run = told_run start folder scans moments wires

  pub are_told : AreToldIn its_run
  are_told = (record { between = nothing_done folder.earlier; settings_are = refl; is = first }, later)

  known : AllByRecursion IsKnownScan scans
  known = are.known tells

  in_order : StandInOrder (moments_in (all_told start folder scans)) moments
  in_order = subst (λ (l : List ℕ). StandInOrder (start.moment ∷ l) moments) (sym (told_moments scans known)) are.timed

  pub by_all_scans : HaveOwnIds start.settings.inputs → IsByScans (run_by its_run)
  by_all_scans own = is_by_scans its_run are_told in_order own

  -- ---- what later scans say of a file

  module _ (opened : Opened) (listed : WasListedBy (all_told start folder scans) opened) where
    -- a scan that was made after the opening is none of those up to the one that listed it
    listed_before : (number : ℕ) (told : ToldScan) → slice_get (told_in scans) number ≡ Some told → opened.opening < length told.earlier.events → length listed.front < suc number
    listed_before number told is after =
        ⊎_elim (λ less. less)
        (λ most.
        let began = began_before start.settings folder.earlier listed.front listed.told listed.behind folder.ended
        (subst (λ (l : List ToldScan). AreToldFrom start.settings folder.earlier l folder.ended) listed.scans_are are_told) (suc number) told
        (subst (λ (l : List ToldScan). slice_get l (suc number) ≡ Some told) listed.scans_are is) most in
        let since = listed.since in absurd (omega (arith, began, since, after)))
        (cases_lt (length listed.front) (suc number))

    made_after : (scan : LaterScan) (is : IsKnownScan scan) → WasMadeAfter opened.opening scan → opened.opening < length is.told.earlier.events
    made_after scan is after = subst (λ (o : Option ToldScan). IfSome o (λ told. opened.opening < length told.earlier.events)) is.told_is after

    pub missed_is_removed : WasMissed scans opened → WasRemovedSince (run_by its_run) opened
    missed_is_removed missed =
        let at = numbered scans missed.scan missed.of_scans in
        let so = known_at scans known at.number missed.scan at.is in
        removed_since its_run are_told opened listed (suc at.number)
        (listed_before at.number so.known.told so.told_there (made_after missed.scan so.known missed.after))
        (record {
          is = record {
            told = so.known.told;
            told_is = so.told_there;
            none = subst (λ (files : List Listed). ¬ (HaveKey files (Some opened.begin.key))) (sym so.known.files_are) missed.not_listed;
          };
          whole = so.known.whole missed.whole;
        })

    pub named_is_renamed : (name : Name) → WasNamed scans opened name → WasRenamedSince (run_by its_run) opened name
    named_is_renamed name named =
        let there : slice_get scans (length named.before) ≡ Some named.scan =
        ap (λ (l : List LaterScan). slice_get l (length named.before)) named.scans_are ∙ got_behind named.before named.scan named.later in
        let so = known_at scans known (length named.before) named.scan there in
        renamed_since its_run are_told opened listed name named.one
        (subst (λ (n : ℕ). length listed.front < n) (sym named.number_is) (listed_before (length named.before) so.known.told so.told_there (made_after named.scan so.known named.after)))
        (record {
          told = so.known.told;
          told_is = subst (λ (n : ℕ). slice_get (all_told start folder scans) n ≡ Some so.known.told) (sym named.number_is) so.told_there;
          there = subst (λ (files : List Listed). Contains files named.one) (sym so.known.files_are) named.listed;
          keyed = named.keyed;
        })
        (sym named.path_is)

    -- so what was told of it as the run watched it was told as the account has it
    pub watched_in_run : (turned : Turned) (told : Option TailHistory) → IsToldFile (watch_of start scans) opened moments turned told →
        IsToldFile (watch_in (run_by its_run)) opened moments turned told
    watched_in_run turned told is = told_by_other (watch_of start scans) (watch_in (run_by its_run)) opened moments turned told refl named_is_renamed
        (λ may. ⊎_elim inl (λ missed. inr (missed_is_removed missed)) may) is
