-- What stands of a run stands once it has scanned again: its folder's list has the scan, and nothing else changes.
use Rattle.std.proofs.Common.{◌≡◌, ◌⊎◌, inl, inr, ⊎_elim, ℕ, ◌<◌, ◌≤◌, false, true, List, [], ◌∷◌, ◌++◌, Contains, append_assoc, length, map, Option, Some, None, IfSome, IsSome, refl, sym, ap, subst, ◌∙◌}
use Rattle.std.proofs.lemmas.Bool.{cases_lt}
use Rattle.std.proofs.lemmas.List.{map-append}
use Rattle.std.proofs.lemmas.List.Elements.{Contains-append_left}
use Rattle.std.proofs.lemmas.Option.{slice_get_within}
use Rattle.std.specs.Prelude.{slice_get}
use Rattle.std.specs.List.{AllByRecursion}
use Rattle.accounts.proofs.Grounded.{each_member}
use Rattle.accounts.proofs.Lists.{each_last, each_then, in_order_then}
use Rattle.accounts.proofs.Orderly.{member_is}
use Rattle.accounts.proofs.Onward.{stands_with_more, told_by_other}
use Rattle.accounts.specs.Hidden.{Hidden}
use Rattle.accounts.specs.Opened.{Opened}
use Rattle.accounts.specs.Turned.{Turned}
use Rattle.accounts.specs.Turning.{IsTurnedSo, Pairs}
use Rattle.accounts.specs.Watch.{MayFindEnd, Name}
use Rattle.harvester.specs.Standing.{EndsAt}
use Rattle.harvester.specs.declared.harvester.Harvester.{Harvester}
use Rattle.keeper.specs.Keeping.{Keeping}
use Rattle.kept_rows.proofs.Acknowledging.{got_in_front}
use Rattle.kept_rows.specs.Scans.{StandInOrder}
use Rattle.lanes.specs.Laning.{Laning}
use Rattle.outside.specs.Files.{File}
use Rattle.outside.specs.Folders.{Event, FolderHistory}
use Rattle.outside.specs.Folders as folders
use Rattle.outside.specs.Tails.{TailHistory}
use Rattle.outside.specs.declared.history.Sight.{Sight}
use Rattle.prospect.specs.declared.listed.Listed.{Listed}
use Rattle.rounds.specs.Crewed.{lanings}
use Rattle.rounds.specs.Words.{Words}
use Rattle.rounds.specs.declared.crew.Crew.{Crew}
use Rattle.told_scans.proofs.AskedEvents.{event_was, only_asked_still}
use Rattle.told_scans.proofs.ScanAdds.{AddsClosingNone, asked_in_scan, scan_adds}
use Rattle.told_scans.proofs.ScansPlaced.{between_scanned}
use Rattle.told_scans.proofs.ToldScans.{scan_appended}
use Rattle.told_scans.specs.FolderOn.{FolderGoesOn}
use Rattle.told_scans.specs.OnlyAsked.{WasOnlyAsked}
use Rattle.told_scans.specs.ToldScan.{ToldScan}
use Rattle.told_scans.specs.ToldScans.{AreToldFrom, LiesBetween}
use Rattle.wire_base.specs.declared.note.Note.{Note}
use Rattle.wire_base.specs.declared.row.Row.{Row}
use Rattle.run_steps.specs.Began.{Began}
use Rattle.run_steps.specs.Begun.{MayBegin}
use Rattle.run_steps.specs.LastEpoch.{IsAnswered}
use Rattle.run_steps.specs.LaterScans.{AreLaterScans, IsKnownScan, IsNextScan, LaterScan, ScansOn, WasMissed, WasNamed, told_in}
use Rattle.run_steps.specs.ListedSo.{WasListedSo}
use Rattle.run_steps.specs.ReadBehind.{ReadsBehind}
use Rattle.run_steps.specs.RunState.{Phase, RunState}
use Rattle.run_steps.specs.Shown.{HasDone, HasShown, IsStillOpen, WasClosedAs, WasClosedInTurn, WasOpenedSince, openings_of}
use Rattle.run_steps.specs.SoFar.{Left, SoFar, files_of, first_opened, openings_within}
use Rattle.run_steps.specs.Stands.{AreTurnedIn, HoldsWhereNoFault, IsLeftSo, Stands, watch_of}
use Rattle.run_steps.proofs.EarlierOn.{earlier_watched}
use Rattle.run_steps.proofs.LeftStill.{left_still}
use Rattle.run_steps.proofs.ListedSo.{listed_on}
use Rattle.run_steps.proofs.ListedLater.{all_listed_on, entry_on}
use Rattle.run_steps.proofs.ForgottenOn.{forgotten_scanned}
use Rattle.run_steps.proofs.Openings.{below_all, earlier_stays, left_stays, still_stays, with_more}

-- ---- what it says of files is said still

module _ (scans : List LaterScan) (scan : LaterScan) where
  missed_on : (opened : Opened) → WasMissed scans opened → WasMissed (scans ++ scan ∷ []) opened
  missed_on opened was = record {
    scan = was.scan;
    of_scans = Contains-append_left scans (scan ∷ []) was.scan was.of_scans;
    whole = was.whole;
    after = was.after;
    not_listed = was.not_listed;
  }

  named_on : (opened : Opened) (name : Name) → WasNamed scans opened name → WasNamed (scans ++ scan ∷ []) opened name
  named_on opened name was = record {
    before = was.before;
    scan = was.scan;
    later = was.later ++ scan ∷ [];
    scans_are = ap (λ (l : List LaterScan). l ++ scan ∷ []) was.scans_are ∙ append_assoc was.before (was.scan ∷ was.later) (scan ∷ []);
    number_is = was.number_is;
    after = was.after;
    one = was.one;
    listed = was.listed;
    keyed = was.keyed;
    path_is = was.path_is;
  }

  may_begin_on : (rows : List Row) (listed : List Listed) (opened : List Opened) (hiddens : List Hidden) (note : Note) → MayBegin scans rows listed opened hiddens note →
      MayBegin (scans ++ scan ∷ []) rows listed opened hiddens note
  may_begin_on rows listed opened hiddens note (inl of) = inl of
  may_begin_on rows listed opened hiddens note (inr (inl of)) =
      inr (inl (record { file = of.file; among = of.among; one = of.one; listed_there = entry_on scans scan listed of.file of.one of.listed_there; is = of.is }))
  may_begin_on rows listed opened hiddens note (inr (inr (inl of))) = inr (inr (inl of))
  may_begin_on rows listed opened hiddens note (inr (inr (inr of))) =
      inr (inr (inr (record { file = of.file; among = of.among; name = of.name; named = named_on of.file of.name of.named; is = of.is })))

  told_last : (told : ToldScan) → scan.told ≡ Some told → (some : List LaterScan) → told_in (some ++ scan ∷ []) ≡ told_in some ++ told ∷ []
  told_last told is [] = ap (λ (o : Option ToldScan). told_in (record scan { told = o } ∷ [])) is
  told_last told is (one ∷ some) = by_told one.told refl (told_last told is some)
    where
      by_told : (o : Option ToldScan) → one.told ≡ o → told_in (some ++ scan ∷ []) ≡ told_in some ++ told ∷ [] → told_in (one ∷ (some ++ scan ∷ [])) ≡ told_in (one ∷ some) ++ told ∷ []
      by_told None none rest =
          ap (λ (o : Option ToldScan). told_in (record one { told = o } ∷ (some ++ scan ∷ []))) none ∙ rest
          ∙ sym (ap (λ (o : Option ToldScan). told_in (record one { told = o } ∷ some) ++ told ∷ []) none)
      by_told (Some first) some_told rest =
          ap (λ (o : Option ToldScan). told_in (record one { told = o } ∷ (some ++ scan ∷ []))) some_told ∙ ap (λ (l : List ToldScan). first ∷ l) rest
          ∙ sym (ap (λ (o : Option ToldScan). told_in (record one { told = o } ∷ some) ++ told ∷ []) some_told)

module _ {D : Type 0} (start : Began D) where
  scans_then : (moments : List ℕ) (scans : List LaterScan) (scan : LaterScan) → start.once ≡ false → EndsAt moments scan.moment → (IsSome start.shown → IsKnownScan scan) →
      AreLaterScans start moments scans → AreLaterScans start moments (scans ++ scan ∷ [])
  scans_then moments scans scan follows ends known are = record {
    none_with_once = λ once. absurd (let no : true ≡ false = sym once ∙ follows in cc);
    timed = subst (λ (l : List ℕ). StandInOrder (start.moment ∷ l) moments) (sym (map-append (λ (one : LaterScan). one.moment) scans (scan ∷ [])))
        (in_order_then (start.moment ∷ map (λ (one : LaterScan). one.moment) scans) moments scan.moment ends are.timed);
    known = λ some. each_last IsKnownScan scans scan (are.known some) (known some);
  }

module _ {T W L D : Type 0} (words : Words T W L D) (start : Began D) (moments : Option (List ℕ)) (crew : Crew T W L) (keeper : Keeping) (a b : D) (phase : Phase) (so_far : SoFar) (scan : LaterScan) where
  abbrev at : Option FolderHistory → RunState T W L D
  at shown = record { shown = shown; moments = moments; crew = crew; keeper = keeper; a = a; b = b; phase = phase }

  abbrev pub scanned_too : SoFar
  scanned_too = record so_far { scans = so_far.scans ++ scan ∷ [] }

  -- ---- the folder

  module _ (before now after : FolderHistory) (next : IsNextScan start.settings now scan after) (done : HasDone start.settings before now (files_of so_far)) where
    adds : AddsClosingNone now after
    adds = subst (λ (h : FolderHistory). AddsClosingNone h after) next.earlier_is
        (subst (AddsClosingNone next.known.told.earlier) next.scanned_is (scan_adds next.known.told next.is))

    after_is : after ≡ with_more now adds.more
    after_is = λ k. record { files = adds.files k; events = adds.events k }

    on : FolderGoesOn now after
    on = record { files = adds.files; more = adds.more; events = adds.events }

    goes_on : AreToldFrom start.settings before (told_in scanned_too.scans) after
    goes_on = subst (λ (l : List ToldScan). AreToldFrom start.settings before l after) (sym (told_last so_far.scans scan next.known.told next.known.told_is so_far.scans))
        (subst (AreToldFrom start.settings before (told_in so_far.scans ++ next.known.told ∷ [])) next.scanned_is
        (scan_appended start.settings before (told_in so_far.scans) next.known.told
        (subst (AreToldFrom start.settings before (told_in so_far.scans)) (sym next.earlier_is) done.scans) next.settings_are next.is))

    serve : (opening : ℕ) (path : List ℕ) (number : ℕ) (begun : Sight) → length before.events ≤ opening →
        slice_get after.events opening ≡ Some (folders.Opened path number begun) → Contains (openings_of (openings_within (files_of so_far))) opening ⊎ WasOnlyAsked after opening
    serve opening path number begun since is = by_place (cases_lt opening (length now.events))
      where
        by_place : (opening < length now.events) ⊎ (length now.events ≤ opening) → Contains (openings_of (openings_within (files_of so_far))) opening ⊎ WasOnlyAsked after opening
        by_place (inl within) =
            ⊎_elim inl (λ was. inr (only_asked_still now after on opening within was))
            (done.serve opening path number begun since (event_was now after on opening (folders.Opened path number begun) within is))
        by_place (inr behind) = inr (subst (λ (h : FolderHistory). WasOnlyAsked h opening) next.scanned_is (asked_in_scan next.known.told next.is opening path number begun
            (subst (λ (h : FolderHistory). length h.events ≤ opening) (sym next.earlier_is) behind)
            (subst (λ (h : FolderHistory). slice_get h.events opening ≡ Some (folders.Opened path number begun)) (sym next.scanned_is) is)))

    still_opened : AllByRecursion (WasOpenedSince before (told_in scanned_too.scans) after) (openings_within (files_of so_far))
    still_opened = subst (λ (l : List ToldScan). AllByRecursion (WasOpenedSince before l after) (openings_within (files_of so_far))) (sym (told_last so_far.scans scan next.known.told next.known.told_is so_far.scans))
        (each_then (WasOpenedSince before (told_in so_far.scans) now) (WasOpenedSince before (told_in so_far.scans ++ next.known.told ∷ []) after) (openings_within (files_of so_far))
        (λ one was. record {
          between = subst (LiesBetween one.opening before (told_in so_far.scans ++ next.known.told ∷ [])) next.scanned_is
              (between_scanned one.opening before (told_in so_far.scans) next.known.told (subst (LiesBetween one.opening before (told_in so_far.scans)) (sym next.earlier_is) was.between));
          stands = subst (λ (h : FolderHistory). slice_get h.events one.opening ≡ Some (folders.Opened one.begin.path one.number one.begun)) (sym after_is)
              (got_in_front now.events adds.more one.opening (folders.Opened one.begin.path one.number one.begun) was.stands);
          file_is = ap (λ (l : List File). slice_get l one.number) adds.files ∙ was.file_is;
        }) done.opened)

    has_done : HasDone start.settings before after (files_of scanned_too)
    has_done = record {
      files = adds.files ∙ done.files;
      more = done.more ++ adds.more;
      events = adds.events ∙ ap (λ (l : List Event). l ++ adds.more) done.events ∙ append_assoc before.events done.more adds.more;
      scans = goes_on;
      opened = still_opened;
      apart = done.apart;
      serve = serve;
      closed = subst (λ (h : FolderHistory). AllByRecursion (WasClosedAs h) so_far.left) (sym after_is) (left_stays start.settings before now so_far done adds.more so_far.left done.closed);
      closed_before = subst (λ (h : FolderHistory). AllByRecursion (WasClosedInTurn h) so_far.earlier) (sym after_is)
          (earlier_stays start.settings before now so_far done adds.more so_far.earlier done.closed_before);
      still_open = λ one among turned.
          let below = below_all start.settings before now so_far done one among in
          subst (λ (h : FolderHistory). IsStillOpen h one.opening) (sym after_is)
          (still_stays start.settings before now so_far done adds.more one.opening below (adds.closes_none one.opening below) (done.still_open one among turned));
    }

    -- what held of tails that were closed holds of them still
    left_then : (Holds : Left → TailHistory → Type 0) → AllByRecursion (HoldsWhereNoFault Holds now) so_far.left → AllByRecursion (IsLeftSo (watch_of start so_far.scans) so_far.opened so_far.moments) so_far.left →
        AllByRecursion (HoldsWhereNoFault Holds after) so_far.left
    left_then Holds holds so = subst (λ (h : FolderHistory). AllByRecursion (HoldsWhereNoFault Holds h) so_far.left) (sym after_is)
        (left_still start.settings before now so_far done (watch_of start so_far.scans) so adds.more Holds holds)

  -- ---- all that stands

  module _ (shown later : Option FolderHistory) (stands : Stands words start (at shown) so_far) (on : ScansOn start.settings shown scan later)
      (follows : start.once ≡ false) (ends : EndsAt so_far.moments scan.moment) where
    has_shown : HasShown start.settings start.shown later (files_of scanned_too)
    has_shown = by_case start.shown shown later stands.files.shown on
      where
        by_case : (before now after : Option FolderHistory) → HasShown start.settings before now (files_of so_far) → ScansOn start.settings now scan after → HasShown start.settings before after (files_of scanned_too)
        by_case None None after done scans = scans
        by_case None (Some now) after done scans = absurd (let no : Some now ≡ None = done in cc)
        by_case (Some before) None after done scans = absurd done
        by_case (Some before) (Some now) None done scans = absurd scans
        by_case (Some before) (Some now) (Some after) done scans = has_done before now after scans done

    is_known : IsSome start.shown → IsKnownScan scan
    is_known some = by_case start.shown shown later stands.files.shown on some
      where
        by_case : (before now after : Option FolderHistory) → HasShown start.settings before now (files_of so_far) → ScansOn start.settings now scan after → IsSome before → IsKnownScan scan
        by_case None now after done scans some = absurd (let no : false ≡ true = some in cc)
        by_case (Some before) None after done scans some = absurd done
        by_case (Some before) (Some now) None done scans some = absurd scans
        by_case (Some before) (Some now) (Some after) done scans some = scans.known

    holds_later : (Holds : Left → TailHistory → Type 0) → IfSome shown (λ now. AllByRecursion (HoldsWhereNoFault Holds now) so_far.left) → IsSome start.shown →
        IfSome later (λ now. AllByRecursion (HoldsWhereNoFault Holds now) so_far.left)
    holds_later Holds holds some = by_case start.shown shown later stands.files.shown on holds some
      where
        by_case : (before now after : Option FolderHistory) → HasShown start.settings before now (files_of so_far) → ScansOn start.settings now scan after →
            IfSome now (λ folder. AllByRecursion (HoldsWhereNoFault Holds folder) so_far.left) → IsSome before → IfSome after (λ folder. AllByRecursion (HoldsWhereNoFault Holds folder) so_far.left)
        by_case None now after done scans held some = absurd (let no : false ≡ true = some in cc)
        by_case (Some before) None after done scans held some = absurd done
        by_case (Some before) (Some now) None done scans held some = absurd scans
        by_case (Some before) (Some now) (Some after) done scans held some = left_then before now after scans done Holds held stands.files.left

    -- each opening was made before this scan
    listed : IsSome start.shown → AllByRecursion (WasListedSo start.listed scanned_too.scans) (openings_within (files_of so_far))
    listed some = by_case start.shown shown later stands.files.shown on some
      where
        by_case : (before now after : Option FolderHistory) → HasShown start.settings before now (files_of so_far) → ScansOn start.settings now scan after → IsSome before →
            AllByRecursion (WasListedSo start.listed scanned_too.scans) (openings_within (files_of so_far))
        by_case None now after done scans some_told = absurd (let no : false ≡ true = some_told in cc)
        by_case (Some before) None after done scans some_told = absurd done
        by_case (Some before) (Some now) None done scans some_told = absurd scans
        by_case (Some before) (Some now) (Some after) done next some_told =
            each_member (WasListedSo start.listed scanned_too.scans) (openings_within (files_of so_far)) (λ one there. listed_on start.listed so_far.scans scan one
            (subst (λ (o : Option ToldScan). IfSome o (λ told. one.opening < length told.earlier.events)) (sym next.known.told_is)
            (subst (λ (h : FolderHistory). one.opening < length h.events) (sym next.earlier_is)
            (slice_get_within now.events one.opening (folders.Opened one.begin.path one.number one.begun)
            (member_is (WasOpenedSince before (told_in so_far.scans) now) (openings_within (files_of so_far)) one done.opened there).stands)))
            (member_is (WasListedSo start.listed so_far.scans) (openings_within (files_of so_far)) one (stands.files.listed some) there))

    turned : Pairs (AreTurnedIn words.tails (watch_of start scanned_too.scans) so_far.opened so_far.moments) so_far.lanes (lanings crew.lanes.items)
    turned = each_lane so_far.lanes (lanings crew.lanes.items) stands.files.turned
      where
        each_one : (ts : List Turned) (hs : List (Harvester T)) → Pairs (IsTurnedSo words.tails.numbers words.tails.told (watch_of start so_far.scans) so_far.opened so_far.moments) ts hs →
            Pairs (IsTurnedSo words.tails.numbers words.tails.told (watch_of start scanned_too.scans) so_far.opened so_far.moments) ts hs
        each_one [] [] pairs = tt
        each_one [] (h ∷ hs) pairs = absurd pairs
        each_one (t ∷ ts) [] pairs = absurd pairs
        each_one (t ∷ ts) (h ∷ hs) pairs = (
          stands_with_more words.tails.numbers words.tails.told (watch_of start so_far.scans) so_far.opened so_far.moments (watch_of start scanned_too.scans) t h refl refl
              (named_on so_far.scans scan) (missed_on so_far.scans scan) pairs.0,
          each_one ts hs pairs.1,
        )

        each_lane : (files : List (List Turned)) (lanes : List (Laning T)) → Pairs (AreTurnedIn words.tails (watch_of start so_far.scans) so_far.opened so_far.moments) files lanes →
            Pairs (AreTurnedIn words.tails (watch_of start scanned_too.scans) so_far.opened so_far.moments) files lanes
        each_lane [] [] pairs = tt
        each_lane [] (lane ∷ lanes) pairs = absurd pairs
        each_lane (ts ∷ files) [] pairs = absurd pairs
        each_lane (ts ∷ files) (lane ∷ lanes) pairs = (each_one ts lane.harvesters pairs.0, each_lane files lanes pairs.1)

    may : (opened : Opened) → MayFindEnd (watch_of start so_far.scans) opened → MayFindEnd (watch_of start scanned_too.scans) opened
    may opened (inl once) = inl once
    may opened (inr removed) = inr (missed_on so_far.scans scan opened removed)

    left : AllByRecursion (IsLeftSo (watch_of start scanned_too.scans) so_far.opened so_far.moments) so_far.left
    left = each_then (IsLeftSo (watch_of start so_far.scans) so_far.opened so_far.moments) (IsLeftSo (watch_of start scanned_too.scans) so_far.opened so_far.moments) so_far.left
        (λ one so. record {
          file = so.file;
          among = so.among;
          is_told = told_by_other (watch_of start so_far.scans) (watch_of start scanned_too.scans) so.file so_far.moments one.turned one.told refl
              (named_on so_far.scans scan so.file) (may so.file) so.is_told;
          in_epochs = so.in_epochs;
        }) stands.files.left

    pub stands_scanned : Stands words start (at later) scanned_too
    stands_scanned = record {
      files = record {
        opened = all_listed_on start.settings start.shown start.opening start.listed so_far.scans scan (first_opened so_far.earlier so_far.opened) stands.files.opened;
        ruled = stands.files.ruled;
        keyed = stands.files.keyed;
        each_once = stands.files.each_once;
        turned = turned;
        left = left;
        earlier = earlier_watched (watch_of start so_far.scans) (watch_of start scanned_too.scans) start.shown so_far.opened so_far.moments so_far.earlier refl refl (named_on so_far.scans scan) may
            stands.files.earlier;
        forgotten = forgotten_scanned so_far.scans scan so_far.opened so_far.left so_far.forgotten stands.files.forgotten;
        reading = λ is. let was = stands.files.reading is in record { none_left = was.none_left; none_over = was.none_over };
        finished = stands.files.finished;
        over = stands.files.over;
        read = λ yet some. let read = stands.files.read yet some in record {
          in_lanes = read.in_lanes;
          in_left = holds_later (λ (l : Left) (tail : TailHistory). ReadsBehind false l.turned.history.begin.base tail.looks) read.in_left some;
        };
        answered = stands.files.answered;
        following = λ follows. let were = stands.files.following follows in record {
          none_over = were.none_over;
          may = were.may;
          in_lanes = were.in_lanes;
          in_left = λ some. holds_later (λ (l : Left) (tail : TailHistory). IsAnswered l.turned.history) (were.in_left some) some;
        };
        tell = stands.files.tell;
        left_tell = stands.files.left_tell;
        listed = listed;
        scans = scans_then start so_far.moments so_far.scans scan follows ends is_known stands.files.scans;
        shown = has_shown;
        given = stands.files.given;
      };
      books = stands.books;
      notes = record {
        counted = stands.notes.counted;
        begun = record {
          each = each_then (MayBegin so_far.scans start.opening start.listed (first_opened so_far.earlier so_far.opened) so_far.hidden) (MayBegin scanned_too.scans start.opening start.listed (first_opened so_far.earlier so_far.opened) so_far.hidden) so_far.begun
              (may_begin_on so_far.scans scan start.opening start.listed (first_opened so_far.earlier so_far.opened) so_far.hidden) stands.notes.begun.each;
          begun = stands.notes.begun.begun;
          hidden_begun = stands.notes.begun.hidden_begun;
        };
        hidden = stands.notes.hidden;
        noted = stands.notes.noted;
        stores = stands.notes.stores;
      };
      areas = stands.areas;
    }
