-- What a folder tells as files are opened, and as tails are closed that were only asked for their keys.
use Rattle.std.proofs.Common.{◌≡◌, ◌⊎◌, inl, inr, ⊎_elim, ℕ, zero, suc, ◌+◌, ◌≤◌, ◌<◌, drop, List, [], ◌∷◌, ◌++◌, Contains, length, append-nil, append_assoc, Option, Some, None, IfSome, refl, sym, ap, subst, ◌∙◌, arith}
use Rattle.std.proofs.lemmas.List.{drop-append-le, length-append, map-append}
use Rattle.std.proofs.lemmas.List.Elements.{Contains-append_cases, Contains-append_left, Contains-append_right}
use Rattle.std.proofs.lemmas.Option.{slice_get_within}
use Rattle.std.specs.Prelude.{slice_get}
use Rattle.std.specs.List.{AllByRecursion}
use Rattle.accounts.specs.Opened.{Opened as OpenedFile}
use Rattle.accounts.proofs.Lists.{each_then}
use Rattle.event_tree.specs.declared.settings.Settings.{Settings}
use Rattle.file_identity.specs.AskedAgain.{IsRead}
use Rattle.kept_rows.specs.Scans.{AreDistinct}
use Rattle.kept_rows.specs.Trace.{Closing, closing_by, closing_in, first_of_two}
use Rattle.kept_rows.proofs.Acknowledging.{got_in_front}
use Rattle.outside.specs.Folders.{Closed, Event, FolderHistory, NotThere, Opened, OpeningFailed}
use Rattle.outside.specs.Tails.{TailHistory}
use Rattle.outside.specs.declared.history.Look.{Look}
use Rattle.outside.specs.declared.history.Sight.{Sight}
use Rattle.ship_core.proofs.Members.{first_there, later_there, none_there, there_cases}
use Rattle.told_scans.proofs.ScanAdds.{closes_another}
use Rattle.told_scans.proofs.ScansPlaced.{between_last, between_on, between_since}
use Rattle.told_scans.proofs.ToldScans.{nothing_appended}
use Rattle.told_scans.specs.ToldScan.{ToldScan}
use Rattle.told_scans.specs.ToldScans.{AreToldFrom}
use Rattle.told_scans.specs.OnlyAsked.{IsNoListing, WasClosedWith, WasOnlyAsked}
use Rattle.run_steps.specs.Shown.{HasDone, IsStillOpen, IsTurnedIn, WasClosedAs, WasClosedInTurn, WasOpenedSince, openings_of}
use Rattle.run_steps.specs.LaterScans.{LaterScan, told_in}
use Rattle.run_steps.specs.SoFar.{Earlier, FilesSoFar, Left, SoFar, files_of, opened_before, openings_within}
use Rattle.accounts.proofs.Grounded.{each_member}
use Rattle.accounts.proofs.Orderly.{member_is}
use Rattle.run_steps.proofs.Closing.{closes_its, in_turn_still}
use Rattle.told_scans.proofs.Events.{got_at_end}

-- ---- closings

pub closing_stays : (opening : ℕ) (events more : List Event) (closing : Closing) → closing_in opening events ≡ Some closing → closing_in opening (events ++ more) ≡ Some closing
closing_stays opening [] more closing is = absurd (let q : None ≡ Some closing = is in cc)
closing_stays opening (event ∷ events) more closing is = go (closing_by opening event) is (λ e. closing_stays opening events more closing e)
  where
    go : (o : Option Closing) → first_of_two o (closing_in opening events) ≡ Some closing →
        (closing_in opening events ≡ Some closing → closing_in opening (events ++ more) ≡ Some closing) → first_of_two o (closing_in opening (events ++ more)) ≡ Some closing
    go None e again = again e
    go (Some first) e again = e

closing_stays_behind : (count opening : ℕ) (events more : List Event) (closing : Closing) → closing_in opening (drop count events) ≡ Some closing → closing_in opening (drop count (events ++ more)) ≡ Some closing
closing_stays_behind zero opening events more closing is = closing_stays opening events more closing is
closing_stays_behind (suc count) opening [] more closing is = absurd (let q : None ≡ Some closing = is in cc)
closing_stays_behind (suc count) opening (event ∷ events) more closing is = closing_stays_behind count opening events more closing is

none_in_both : (opening : ℕ) (events more : List Event) → closing_in opening events ≡ None → closing_in opening more ≡ None → closing_in opening (events ++ more) ≡ None
none_in_both opening [] more none later = later
none_in_both opening (event ∷ events) more none later = go (closing_by opening event) none (λ e. none_in_both opening events more e later)
  where
    go : (o : Option Closing) → first_of_two o (closing_in opening events) ≡ None →
        (closing_in opening events ≡ None → closing_in opening (events ++ more) ≡ None) → first_of_two o (closing_in opening (events ++ more)) ≡ None
    go None e again = again e
    go (Some first) e again = e

-- ---- places

-- it stands in the first list, or so far behind it in the second
pub record StandsBehind {A : Type 0} (xs ys : List A) (k : ℕ) (x : A) : Type 0 where
  pub place : ℕ
  pub at : k ≡ length xs + place
  pub stands : slice_get ys place ≡ Some x

got_cases : {A : Type 0} (xs ys : List A) (k : ℕ) (x : A) → slice_get (xs ++ ys) k ≡ Some x → (slice_get xs k ≡ Some x) ⊎ StandsBehind xs ys k x
got_cases [] ys k x is = inr (record { place = k; at = omega arith; stands = is })
got_cases (first ∷ xs) ys zero x is = inl is
got_cases (first ∷ xs) ys (suc k) x is =
    ⊎_elim inl (λ of. inr (record { place = of.place; at = omega (arith, of.at); stands = of.stands })) (got_cases xs ys k x is)

behind_all : (events more : List Event) → drop (suc (length events)) (events ++ more) ≡ drop 1 more
behind_all [] more = refl
behind_all (event ∷ events) more = behind_all events more

-- ---- one behind others, in lists without doubles

distinct_then : (xs : List ℕ) (x : ℕ) → AreDistinct xs → ((one : ℕ) → Contains xs one → one < x) → AreDistinct (xs ++ x ∷ [])
distinct_then [] x apart less = ((λ there. none_there x there), tt)
distinct_then (first ∷ xs) x apart less = (
  (λ there. by_case (parted xs first there)),
  distinct_then xs x apart.1 (λ one there. less one (later_there first one xs there)),
)
  where
    parted : (l : List ℕ) (one : ℕ) → Contains (l ++ x ∷ []) one → Contains l one ⊎ (x ≡ one)
    parted [] one there = from (there_cases x one [] there)
      where
        from : (x ≡ one) ⊎ Contains [] one → Contains [] one ⊎ (x ≡ one)
        from (inl same) = inr same
        from (inr none) = inl none
    parted (other ∷ l) one there = from (there_cases other one (l ++ x ∷ []) there) (parted l one)
      where
        from : (other ≡ one) ⊎ Contains (l ++ x ∷ []) one → (Contains (l ++ x ∷ []) one → Contains l one ⊎ (x ≡ one)) → Contains (other ∷ l) one ⊎ (x ≡ one)
        from (inl same) behind = inl (subst (λ (n : ℕ). Contains (other ∷ l) n) same (first_there other l))
        from (inr later) behind = ⊎_elim (λ is. inl (later_there other one l is)) inr (behind later)

    by_case : Contains xs first ⊎ (x ≡ first) → ⊥
    by_case (inl there) = apart.0 there
    by_case (inr same) = let less_here = less first (first_there first xs) in omega (arith, less_here, same)

-- ---- the folder's list with more behind it

abbrev pub with_more : FolderHistory → List Event → FolderHistory
with_more now more = record { files = now.files; events = now.events ++ more }

-- what is added, with these files opened among it
pub record Adds (now : FolderHistory) (more : List Event) (news : List OpenedFile) : Type 0 where
  pub no_listing : AllByRecursion IsNoListing more
  pub closes_none : (opening : ℕ) → opening < length now.events → closing_in opening more ≡ None
  pub stand : AllByRecursion (WasOpenedSince now [] (with_more now more)) news
  pub behind : AllByRecursion (λ (one : OpenedFile). one.opening ≡ length now.events) news
  pub serve : (place : ℕ) (path : List ℕ) (number : ℕ) (begun : Sight) → slice_get more place ≡ Some (Opened path number begun) →
      Contains (openings_of news) (length now.events + place) ⊎ WasOnlyAsked (with_more now more) (length now.events + place)

pub openings_below : (before : FolderHistory) (scans : List ToldScan) (now : FolderHistory) (files : List OpenedFile) → AllByRecursion (WasOpenedSince before scans now) files → (opening : ℕ) → Contains (openings_of files) opening → opening < length now.events
openings_below before scans now [] each opening there = absurd (none_there opening there)
openings_below before scans now (one ∷ files) each opening there = from (there_cases one.opening opening (openings_of files) there) (openings_below before scans now files each.1 opening)
  where
    from : (one.opening ≡ opening) ⊎ Contains (openings_of files) opening → (Contains (openings_of files) opening → opening < length now.events) → opening < length now.events
    from (inl same) later = let less = slice_get_within now.events one.opening (Opened one.begin.path one.number one.begun) each.0.stands in omega (arith, less, same)
    from (inr behind) later = later behind

pub below_all : (settings : Settings) (before now : FolderHistory) (so_far : SoFar) → HasDone settings before now (files_of so_far) → (one : OpenedFile) → Contains so_far.opened one → one.opening < length now.events
below_all settings before now so_far done one there =
    slice_get_within now.events one.opening (Opened one.begin.path one.number one.begun) (member_is (WasOpenedSince before (told_in so_far.scans) now) (openings_within (files_of so_far)) one done.opened
    (Contains-append_right (opened_before so_far.earlier) so_far.opened one there)).stands

pub since_all : (settings : Settings) (before now : FolderHistory) (so_far : FilesSoFar) → HasDone settings before now so_far → (one : OpenedFile) → Contains so_far.opened one → length before.events ≤ one.opening
since_all settings before now so_far done one there =
    between_since settings one.opening before (told_in so_far.scans) now done.scans (member_is (WasOpenedSince before (told_in so_far.scans) now) (openings_within so_far) one done.opened
    (Contains-append_right (opened_before so_far.earlier) so_far.opened one there)).between

module _ (settings : Settings) (before now : FolderHistory) (so_far : SoFar) (done : HasDone settings before now (files_of so_far)) (more : List Event) where
  pub closed_stays : (opening : ℕ) (looks : List Look) → WasClosedWith now opening looks → WasClosedWith (with_more now more) opening looks
  closed_stays opening looks was = record {
    faults = was.faults;
    closing = closing_stays_behind (suc opening) opening now.events more (record { looks = looks; faults = was.faults }) was.closing;
  }

  only_asked_stays : (opening : ℕ) → WasOnlyAsked now opening → WasOnlyAsked (with_more now more) opening
  only_asked_stays opening was = record { looks = was.looks; closed = closed_stays opening was.looks was.closed; reads = was.reads }

  pub still_stays : (opening : ℕ) → opening < length now.events → closing_in opening more ≡ None → IsStillOpen now opening → IsStillOpen (with_more now more) opening
  still_stays opening less none is_open =
      ap (λ (l : List Event). closing_in opening l) (drop-append-le (suc opening) now.events more less) ∙ none_in_both opening (drop (suc opening) now.events) more is_open none

  pub left_stays : (left : List Left) → AllByRecursion (WasClosedAs now) left → AllByRecursion (WasClosedAs (with_more now more)) left
  left_stays [] each = tt
  left_stays (one ∷ left) each = (go one.told each.0, left_stays left each.1)
    where
      go : (told : Option TailHistory) → IfSome told (λ tail. WasClosedWith now tail.opening tail.looks) → IfSome told (λ tail. WasClosedWith (with_more now more) tail.opening tail.looks)
      go None was = tt
      go (Some tail) was = closed_stays tail.opening tail.looks was

  pub earlier_stays : (earlier : List Earlier) → AllByRecursion (WasClosedInTurn now) earlier → AllByRecursion (WasClosedInTurn (with_more now more)) earlier
  earlier_stays [] each = tt
  earlier_stays (one ∷ earlier) each = (
    in_turn_still now more one each.0 (left_stays (one.left ∷ []) (each.0.closed, tt)).0,
    earlier_stays earlier each.1,
  )

  grown : length now.events ≤ length (with_more now more).events
  grown = let is = length-append now.events more in omega (arith, is)

  pub opened_stays : (files : List OpenedFile) → AllByRecursion (WasOpenedSince before (told_in so_far.scans) now) files →
      AllByRecursion (WasOpenedSince before (told_in so_far.scans) (with_more now more)) files
  opened_stays files each = each_then (WasOpenedSince before (told_in so_far.scans) now) (WasOpenedSince before (told_in so_far.scans) (with_more now more)) files
      (λ one was. record {
        between = between_on one.opening before (told_in so_far.scans) now (with_more now more) grown was.between;
        stands = got_in_front now.events more one.opening (Opened one.begin.path one.number one.begun) was.stands;
        file_is = was.file_is;
      }) each

  longer : length before.events ≤ length now.events
  longer = let is = ap (λ (l : List Event). length l) done.events ∙ length-append before.events done.more in omega (arith, is)

  abbrev pub all_opened : List OpenedFile
  all_opened = openings_within (files_of so_far)

  module _ (news : List OpenedFile) (adds : Adds now more news) where
    news_stand : AllByRecursion (WasOpenedSince before (told_in so_far.scans) (with_more now more)) news
    news_stand = each_then (WasOpenedSince now [] (with_more now more)) (WasOpenedSince before (told_in so_far.scans) (with_more now more)) news
        (λ one was. record {
          between = between_last settings one.opening before (told_in so_far.scans) now (with_more now more) done.scans was.between.0 was.between.1;
          stands = was.stands;
          file_is = was.file_is;
        }) adds.stand

    serve : (opening : ℕ) (path : List ℕ) (number : ℕ) (begun : Sight) → length before.events ≤ opening → slice_get (now.events ++ more) opening ≡ Some (Opened path number begun) →
        (Contains (openings_of all_opened) opening ⊎ Contains (openings_of news) opening) ⊎ WasOnlyAsked (with_more now more) opening
    serve opening path number begun least is = from (got_cases now.events more opening (Opened path number begun) is)
      where
        new : (place : ℕ) → opening ≡ length now.events + place → Contains (openings_of news) (length now.events + place) ⊎ WasOnlyAsked (with_more now more) (length now.events + place) →
            (Contains (openings_of all_opened) opening ⊎ Contains (openings_of news) opening) ⊎ WasOnlyAsked (with_more now more) opening
        new place at (inl there) = inl (inr (subst (λ (n : ℕ). Contains (openings_of news) n) (sym at) there))
        new place at (inr was) = inr (subst (λ (n : ℕ). WasOnlyAsked (with_more now more) n) (sym at) was)

        from : (slice_get now.events opening ≡ Some (Opened path number begun)) ⊎ StandsBehind now.events more opening (Opened path number begun) →
            (Contains (openings_of all_opened) opening ⊎ Contains (openings_of news) opening) ⊎ WasOnlyAsked (with_more now more) opening
        from (inl there) = ⊎_elim (λ old. inl (inl old)) (λ was. inr (only_asked_stays opening was)) (done.serve opening path number begun least there)
        from (inr of) = new of.place of.at (adds.serve of.place path number begun of.stands)

    -- the openings are those, in whichever order
    pub record AreThose (after : FilesSoFar) : Type 0 where
      pub scans_are : after.scans ≡ so_far.scans
      pub opened : (one : OpenedFile) → Contains (openings_within after) one → Contains all_opened one ⊎ Contains news one
      pub there : (opening : ℕ) → Contains (openings_of all_opened) opening ⊎ Contains (openings_of news) opening → Contains (openings_of (openings_within after)) opening
      pub apart : AreDistinct (openings_of (openings_within after))

    pub done_on : (after : FilesSoFar) → AreThose after → AllByRecursion (WasClosedAs (with_more now more)) after.left →
        AllByRecursion (WasClosedInTurn (with_more now more)) after.earlier →
        ((one : OpenedFile) → Contains after.opened one → IsTurnedIn after one → IsStillOpen (with_more now more) one.opening) → HasDone settings before (with_more now more) after
    done_on after are closed closed_before still = record {
      files = done.files;
      more = done.more ++ more;
      events = ap (λ (l : List Event). l ++ more) done.events ∙ append_assoc before.events done.more more;
      scans = subst (λ (scans : List LaterScan). AreToldFrom settings before (told_in scans) (with_more now more)) (sym are.scans_are)
          (nothing_appended settings before (told_in so_far.scans) now (with_more now more) done.scans
          (record { files = refl; more = more; events = refl; no_listing = adds.no_listing }));
      opened = subst (λ (scans : List LaterScan). AllByRecursion (WasOpenedSince before (told_in scans) (with_more now more)) (openings_within after)) (sym are.scans_are)
          (each_member (WasOpenedSince before (told_in so_far.scans) (with_more now more)) (openings_within after) (λ one there.
          ⊎_elim (member_is (WasOpenedSince before (told_in so_far.scans) (with_more now more)) all_opened one (opened_stays all_opened done.opened))
          (member_is (WasOpenedSince before (told_in so_far.scans) (with_more now more)) news one news_stand) (are.opened one there)));
      apart = are.apart;
      serve = λ opening path number begun least is. ⊎_elim (λ there. inl (are.there opening there)) inr (serve opening path number begun least is);
      closed = closed;
      closed_before = closed_before;
      still_open = still;
    }

    -- they are appended
    pub are_appended : (after : FilesSoFar) → after.scans ≡ so_far.scans → after.earlier ≡ so_far.earlier → after.opened ≡ so_far.opened ++ news →
        AreDistinct (openings_of all_opened ++ openings_of news) → AreThose after
    are_appended after scans_are earlier_are opened_are apart = record {
      scans_are = scans_are;
      opened = λ one there. Contains-append_cases all_opened news one (subst (λ (l : List OpenedFile). Contains l one) within_are there);
      there = λ opening there. subst (λ (l : List ℕ). Contains l opening) (sym numbers_are)
          (⊎_elim (Contains-append_left (openings_of all_opened) (openings_of news) opening) (Contains-append_right (openings_of all_opened) (openings_of news) opening) there);
      apart = subst AreDistinct (sym numbers_are) apart;
    }
      where
        within_are : openings_within after ≡ all_opened ++ news
        within_are = ap (λ (earlier : List Earlier). opened_before earlier ++ after.opened) earlier_are ∙ ap (λ (l : List OpenedFile). opened_before so_far.earlier ++ l) opened_are
            ∙ sym (append_assoc (opened_before so_far.earlier) so_far.opened news)

        numbers_are : openings_of (openings_within after) ≡ openings_of all_opened ++ openings_of news
        numbers_are = ap openings_of within_are ∙ map-append (λ (one : OpenedFile). one.opening) all_opened news

  pub apart_with : (one : OpenedFile) → one.opening ≡ length now.events → AreDistinct (openings_of all_opened ++ openings_of (one ∷ []))
  apart_with one at = distinct_then (openings_of all_opened) one.opening done.apart
      (λ opening there. let less = openings_below before (told_in so_far.scans) now all_opened done.opened opening there in omega (arith, less, at))

  pub apart_without : AreDistinct (openings_of all_opened ++ [])
  apart_without = subst AreDistinct (sym (append-nil (openings_of all_opened))) done.apart

-- ---- what is added

module _ (now : FolderHistory) where
  -- one thing that is no listing, no opening and no closing
  pub adds_none_there : (path : List ℕ) → Adds now (NotThere path ∷ []) []
  adds_none_there path = record {
    no_listing = (tt, tt);
    closes_none = λ opening less. refl;
    stand = tt;
    behind = tt;
    serve = none;
  }
    where
      none : (place : ℕ) (other : List ℕ) (number : ℕ) (begun : Sight) → slice_get (NotThere path ∷ []) place ≡ Some (Opened other number begun) →
          Contains [] (length now.events + place) ⊎ WasOnlyAsked (with_more now (NotThere path ∷ [])) (length now.events + place)
      none zero other number begun is = absurd (let q : Some (NotThere path) ≡ Some (Opened other number begun) = is in cc)
      none (suc place) other number begun is = absurd (let q : None ≡ Some (Opened other number begun) = is in cc)

  pub adds_failed : (path : List ℕ) → Adds now (OpeningFailed path ∷ []) []
  adds_failed path = record {
    no_listing = (tt, tt);
    closes_none = λ opening less. refl;
    stand = tt;
    behind = tt;
    serve = none;
  }
    where
      none : (place : ℕ) (other : List ℕ) (number : ℕ) (begun : Sight) → slice_get (OpeningFailed path ∷ []) place ≡ Some (Opened other number begun) →
          Contains [] (length now.events + place) ⊎ WasOnlyAsked (with_more now (OpeningFailed path ∷ [])) (length now.events + place)
      none zero other number begun is = absurd (let q : Some (OpeningFailed path) ≡ Some (Opened other number begun) = is in cc)
      none (suc place) other number begun is = absurd (let q : None ≡ Some (Opened other number begun) = is in cc)

  module _ (one : OpenedFile) (at : one.opening ≡ length now.events) (file_is : slice_get now.files one.number ≡ Some one.file) where
    abbrev opening_of_it : Event
    opening_of_it = Opened one.begin.path one.number one.begun

    was_opened : (others : List Event) → WasOpenedSince now [] (with_more now (opening_of_it ∷ others)) one
    was_opened others = record {
      between = let long = length-append now.events (opening_of_it ∷ others) in (omega (arith, at), omega (arith, at, long));
      stands = ap (λ (k : ℕ). slice_get (now.events ++ opening_of_it ∷ others) k) at ∙ got_at_end now.events opening_of_it others;
      file_is = file_is;
    }

    there_at : (place : ℕ) → place ≡ 0 → Contains (openings_of (one ∷ [])) (length now.events + place)
    there_at place is = subst (λ (n : ℕ). Contains (openings_of (one ∷ [])) n) (omega (arith, at, is)) (first_there one.opening [])

    pub adds_opening : Adds now (opening_of_it ∷ []) (one ∷ [])
    adds_opening = record {
      no_listing = (tt, tt);
      closes_none = λ opening less. refl;
      stand = (was_opened [], tt);
      behind = (at, tt);
      serve = it;
    }
      where
        it : (place : ℕ) (path : List ℕ) (number : ℕ) (begun : Sight) → slice_get (opening_of_it ∷ []) place ≡ Some (Opened path number begun) →
            Contains (openings_of (one ∷ [])) (length now.events + place) ⊎ WasOnlyAsked (with_more now (opening_of_it ∷ [])) (length now.events + place)
        it zero path number begun is = inl (there_at zero refl)
        it (suc place) path number begun is = absurd (let q : None ≡ Some (Opened path number begun) = is in cc)

    pub still_open_now : IsStillOpen (with_more now (opening_of_it ∷ [])) one.opening
    still_open_now = ap (λ (k : ℕ). closing_in one.opening (drop (suc k) (now.events ++ opening_of_it ∷ []))) at
        ∙ ap (λ (l : List Event). closing_in one.opening l) (behind_all now.events (opening_of_it ∷ []))

    -- and closed again, with what it told as it was asked for its key
    module _ (reads : AllByRecursion (λ (look : Look). IsRead look.question) one.asked) (faults : ℕ) where
      abbrev both_events : List Event
      both_events = opening_of_it ∷ Closed one.opening one.asked faults ∷ []

      pub closed_at_once : WasClosedWith (with_more now both_events) one.opening one.asked
      closed_at_once = record {
        faults = faults;
        closing = ap (λ (k : ℕ). closing_in one.opening (drop (suc k) (now.events ++ both_events))) at
            ∙ ap (λ (l : List Event). closing_in one.opening l) (behind_all now.events both_events)
            ∙ closes_its one.opening one.asked faults;
      }

      none_closed : (opening : ℕ) → opening < length now.events → closing_in opening both_events ≡ None
      none_closed opening less = closes_another opening one.opening one.asked faults (omega (arith, less, at))

      closes_here : (place : ℕ) → place ≡ 0 → WasOnlyAsked (with_more now both_events) (length now.events + place)
      closes_here place is = subst (WasOnlyAsked (with_more now both_events)) (omega (arith, at, is)) (record { looks = one.asked; closed = closed_at_once; reads = reads })

      pub adds_unread : Adds now both_events []
      adds_unread = record {
        no_listing = (tt, (tt, tt));
        closes_none = none_closed;
        stand = tt;
        behind = tt;
        serve = it;
      }
        where
          it : (place : ℕ) (path : List ℕ) (number : ℕ) (begun : Sight) → slice_get both_events place ≡ Some (Opened path number begun) →
              Contains [] (length now.events + place) ⊎ WasOnlyAsked (with_more now both_events) (length now.events + place)
          it zero path number begun is = inr (closes_here zero refl)
          it (suc zero) path number begun is = absurd (let q : Some (Closed one.opening one.asked faults) ≡ Some (Opened path number begun) = is in cc)
          it (suc (suc place)) path number begun is = absurd (let q : None ≡ Some (Opened path number begun) = is in cc)

      pub adds_left : Adds now both_events (one ∷ [])
      adds_left = record {
        no_listing = (tt, (tt, tt));
        closes_none = none_closed;
        stand = (was_opened (Closed one.opening one.asked faults ∷ []), tt);
        behind = (at, tt);
        serve = it;
      }
        where
          it : (place : ℕ) (path : List ℕ) (number : ℕ) (begun : Sight) → slice_get both_events place ≡ Some (Opened path number begun) →
              Contains (openings_of (one ∷ [])) (length now.events + place) ⊎ WasOnlyAsked (with_more now both_events) (length now.events + place)
          it zero path number begun is = inl (there_at zero refl)
          it (suc zero) path number begun is = absurd (let q : Some (Closed one.opening one.asked faults) ≡ Some (Opened path number begun) = is in cc)
          it (suc (suc place)) path number begun is = absurd (let q : None ≡ Some (Opened path number begun) = is in cc)
