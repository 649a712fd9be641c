-- What the folder showed once a file was opened first: its opening is among the others in the order of the slots.
use Rattle.std.proofs.Common.{◌≡◌, ◌⊎◌, inl, inr, ⊎_elim, ℕ, ◌≤◌, List, [], ◌∷◌, ◌++◌, Contains, length, sym, ap, subst, ◌∙◌, arith}
use Rattle.std.proofs.lemmas.List.Elements.{Contains-append_cases, Contains-append_left, Contains-append_right}
use Rattle.std.specs.List.{AllByRecursion}
use Rattle.accounts.proofs.Backing.{mapped_there}
use Rattle.accounts.proofs.Grounded.{of_map}
use Rattle.accounts.specs.Opened.{Opened as OpenedFile}
use Rattle.event_tree.specs.declared.settings.Settings.{Settings}
use Rattle.kept_rows.specs.Scans.{AreDistinct}
use Rattle.outside.specs.Folders.{Event, FolderHistory}
use Rattle.ship_core.proofs.Members.{first_there, none_there, there_cases}
use Rattle.told_scans.proofs.AskedEvents.{longer}
use Rattle.told_scans.proofs.ToldScans.{go_on}
use Rattle.told_scans.specs.ToldScan.{ToldScan}
use Rattle.told_scans.specs.ToldScans.{AreToldFrom}
use Rattle.run_steps.specs.LaterScans.{told_in}
use Rattle.run_steps.specs.OpenedFirst.{put_opened}
use Rattle.run_steps.specs.Shown.{HasDone, IsStillOpen, IsTurnedIn, WasClosedAs, WasClosedInTurn, openings_of}
use Rattle.run_steps.specs.SoFar.{Earlier, FilesSoFar, SoFar, files_of, opened_before, openings_within}
use Rattle.run_steps.proofs.Openings.{Adds, AreThose, below_all, done_on, earlier_stays, openings_below, still_stays, with_more}
use Rattle.run_steps.proofs.PutOpened.{put_apart, put_cases, put_others, put_there}

-- all of its scans were told by now
pub scanned_within : (settings : Settings) (before : FolderHistory) (scans : List ToldScan) (now : FolderHistory) → AreToldFrom settings before scans now → (told : ToldScan) → Contains scans told →
    length told.scanned.events ≤ length now.events
scanned_within settings before [] now are told there = absurd (none_there told there)
scanned_within settings before (first ∷ scans) now are told there = by_case (there_cases first told scans there) (scanned_within settings first.scanned scans now are.1 told)
  where
    by_case : (first ≡ told) ⊎ Contains scans told → (Contains scans told → length told.scanned.events ≤ length now.events) → length told.scanned.events ≤ length now.events
    by_case (inl same) later = subst (λ (t : ToldScan). length t.scanned.events ≤ length now.events) same (longer first.scanned now (go_on settings first.scanned scans now are.1))
    by_case (inr behind) later = later behind

module _ (settings : Settings) (first now : FolderHistory) (so_far : SoFar) (done : HasDone settings first now (files_of so_far)) (one : OpenedFile) (at : one.opening ≡ length now.events)
    (more : List Event) (adds : Adds now more (one ∷ [])) (after : FilesSoFar) (scans_are : after.scans ≡ so_far.scans) (earlier_are : after.earlier ≡ so_far.earlier)
    (opened_are : after.opened ≡ put_opened one so_far.opened) where
  abbrev before : List OpenedFile
  before = opened_before so_far.earlier

  within_are : openings_within after ≡ before ++ put_opened one so_far.opened
  within_are = ap (λ (l : List Earlier). opened_before l ++ after.opened) earlier_are ∙ ap (λ (l : List OpenedFile). before ++ l) opened_are

  here : (x : OpenedFile) → Contains (before ++ put_opened one so_far.opened) x → Contains (before ++ so_far.opened) x ⊎ Contains (one ∷ []) x
  here x there =
      ⊎_elim (λ early. inl (Contains-append_left before so_far.opened x early))
      (λ late. ⊎_elim (λ same. inr (subst (Contains (one ∷ [])) (sym same) (first_there one []))) (λ old. inl (Contains-append_right before so_far.opened x old)) (put_cases one so_far.opened x late))
      (Contains-append_cases before (put_opened one so_far.opened) x there)

  old_there : (x : OpenedFile) → Contains (before ++ so_far.opened) x → Contains (before ++ put_opened one so_far.opened) x
  old_there x there =
      ⊎_elim (Contains-append_left before (put_opened one so_far.opened) x)
      (λ late. Contains-append_right before (put_opened one so_far.opened) x (put_others one so_far.opened x late)) (Contains-append_cases before so_far.opened x there)

  number_there : (x : OpenedFile) (opening : ℕ) → x.opening ≡ opening → Contains (before ++ put_opened one so_far.opened) x → Contains (openings_of (before ++ put_opened one so_far.opened)) opening
  number_there x opening is among = subst (Contains (openings_of (before ++ put_opened one so_far.opened))) is (mapped_there (λ (o : OpenedFile). o.opening) (before ++ put_opened one so_far.opened) x among)

  numbers_there : (opening : ℕ) → Contains (openings_of (before ++ so_far.opened)) opening ⊎ Contains (openings_of (one ∷ [])) opening →
      Contains (openings_of (before ++ put_opened one so_far.opened)) opening
  numbers_there opening (inl old) = let of = of_map (λ (o : OpenedFile). o.opening) (before ++ so_far.opened) opening old in number_there of.item opening of.is (old_there of.item of.among)
  numbers_there opening (inr new) = ⊎_elim
      (λ (is : one.opening ≡ opening). number_there one opening is (Contains-append_right before (put_opened one so_far.opened) one (put_there one so_far.opened)))
      (λ none. absurd (none_there opening none)) (there_cases one.opening opening [] new)

  are_those : AreThose settings first now so_far done more (one ∷ []) adds after
  are_those = record {
    scans_are = scans_are;
    opened = λ x there. here x (subst (λ (l : List OpenedFile). Contains l x) within_are there);
    there = λ opening there. subst (λ (l : List OpenedFile). Contains (openings_of l) opening) (sym within_are) (numbers_there opening there);
    apart = subst (λ (l : List OpenedFile). AreDistinct (openings_of l)) (sym within_are)
        (put_apart one before so_far.opened done.apart (λ n there. let below = openings_below first (told_in so_far.scans) now (before ++ so_far.opened) done.opened n there in omega (arith, below, at)));
  }

  pub opened_first_done : AllByRecursion (WasClosedAs (with_more now more)) after.left → ((other : OpenedFile) → Contains so_far.opened other → IsTurnedIn after other → IsTurnedIn (files_of so_far) other) →
      (IsTurnedIn after one → IsStillOpen (with_more now more) one.opening) → HasDone settings first (with_more now more) after
  opened_first_done left_closed turned_before itself = done_on settings first now so_far done more (one ∷ []) adds after are_those left_closed
      (subst (AllByRecursion (WasClosedInTurn (with_more now more))) (sym earlier_are) (earlier_stays settings first now so_far done more so_far.earlier done.closed_before))
      (λ x there turned. ⊎_elim
      (λ (is : x ≡ one). subst (λ (o : OpenedFile). IsStillOpen (with_more now more) o.opening) (sym is) (itself (subst (IsTurnedIn after) is turned)))
      (λ old.
      let below = below_all settings first now so_far done x old in
      still_stays settings first now so_far done more x.opening below (adds.closes_none x.opening below) (done.still_open x old (turned_before x old turned)))
      (put_cases one so_far.opened x (subst (λ (l : List OpenedFile). Contains l x) opened_are there)))
