-- A run that ended before it followed a file is accounted for, too: what it opened it only asked for keys, it sent nothing, and its areas
-- give the rows that they gave before.
use Rattle.std.proofs.Common.{◌≡◌, ◌⊎◌, inl, inr, ℕ, zero, suc, ◌≤◌, ◌<◌, true, List, [], ◌∷◌, ◌++◌, Contains, drop, length, map, append_assoc, append-nil, Option, Some, None, IsSome, refl, sym, ap, subst, ◌∙◌, arith}
use Rattle.std.proofs.Math.Seq.{drop-append_seam, drop-length}
use Rattle.std.proofs.lemmas.Bool.{cases_lt}
use Rattle.std.proofs.lemmas.Option.{slice_get_past}
use Rattle.std.specs.Prelude.{option_map, slice_get}
use Rattle.std.specs.List.{AllByRecursion}
use Rattle.accounts.proofs.AccountingFor.{is_accounted_for}
use Rattle.accounts.proofs.Ordered.{none_orderly}
use Rattle.accounts.proofs.Unscanned.{unscanned_is_accounted_for}
use Rattle.accounts.proofs.Turns.{apart_take_turns}
use Rattle.accounts.specs.AccountedFor.{AccountsFor}
use Rattle.accounts.specs.FollowedFile.{EachOpeningIsOne}
use Rattle.accounts.specs.ByScans.{IsByScans}
use Rattle.accounts.specs.Places.{AreOfWorkers}
use Rattle.accounts.specs.RunTold.{RunNotes, RunTold}
use Rattle.accounts.specs.Taken.{taken_in}
use Rattle.accounts.specs.Unscanned.{IsSilent, IsUnscanned}
use Rattle.batch_worker.specs.Held.{notes_of}
use Rattle.batch_worker.specs.Standing.{length_of}
use Rattle.beat_config.specs.InRange.{AreInRange}
use Rattle.event_tree.specs.declared.input_rule.InputRule.{InputRule}
use Rattle.event_tree.specs.declared.settings.Settings.{Settings}
use Rattle.kept_rows.specs.Backed.{AreRowsOverFronts}
use Rattle.kept_rows.specs.Followed.{OnlyReads}
use Rattle.kept_rows.specs.Run.{Run, Scan}
use Rattle.kept_rows.specs.Scans.{ListGlobs, globs_in, listings_from, listings_of}
use Rattle.kept_rows.specs.Stored.{IsStored}
use Rattle.kept_rows.specs.Trace.{Closing, Trace, WireTold, first_of_two, open_looks_in}
use Rattle.outside.specs.Folders.{Event, FolderHistory, Opened}
use Rattle.outside.specs.Wires.{Outcome}
use Rattle.outside.specs.declared.history.Sight.{Sight}
use Rattle.pass_sums.specs.Weight.{weigh}
use Rattle.prospect.specs.AskedFiles.{AskedFile, AsksFiles, AsksFrom, AsksSome}
use Rattle.prospect.specs.ListedFiles.{EndsAs, ScansFiles}
use Rattle.prospect.specs.Members.{globs_of}
use Rattle.prospect.specs.Scan.{AreListed, Listing, event_of}
use Rattle.prospect.specs.Unfinished.{ListSome, ListsSome}
use Rattle.prospect.specs.declared.asking.Keyed.{Keyed}
use Rattle.prospect.specs.declared.listed.Listed.{Listed as ListedFile}
use Rattle.prospect.specs.declared.scan_error.ScanError.{ScanError}
use Rattle.prospect.specs.declared.scan_error.ScanError.TheVariants.{Failed, NoMemory, NoNative}
use Rattle.registry_store.specs.Choice.{GivesRows}
use Rattle.registry_store.specs.Settled.{AreAtRest}
use Rattle.rounds.specs.Images.{GivesFronts}
use Rattle.rounds.specs.Words.{DiskWords}
use Rattle.ship_core.proofs.Members.{none_there}
use Rattle.ship_core.specs.Rows.{IsInOrder}
use Rattle.ship_core.specs.RowsOver.{AreRowsOver, row_for}
use Rattle.wire_base.specs.declared.note.Note.{Note}
use Rattle.wire_base.specs.declared.row.Row.{Row}
use Rattle.run_steps.specs.AccountedFor.{Absences, AccountedFor, AreImageRows, LostInImage, LostKey, RowsBy, RunObjects}
use Rattle.run_steps.specs.Areas.{BeganAtRest, GaveRows, GiveTheRows, HaveHeldFronts}
use Rattle.run_steps.specs.Began.{Began}
use Rattle.told_scans.specs.FolderOn.{FolderGoesOn}
use Rattle.run_steps.specs.Met.{IsTelling}
use Rattle.run_steps.specs.Questions.{Questions}
use Rattle.run_steps.specs.RunOf.{FolderTold, run_of, scan_of, wires_behind}
use Rattle.told_scans.specs.OnlyAsked.{HasOnlyAsked}
use Rattle.run_steps.specs.ScannedSome.{HasScannedSome}
use Rattle.run_steps.specs.Shown.{HasGiven}
use Rattle.run_steps.specs.declared.met.Met.{Met}
use Rattle.told_scans.proofs.AskedEvents.{all_asked, asked_none, event_was, goes_on_asking, some_asked, goes_on_further}
use Rattle.run_steps.proofs.NamedInputs.{inputs_have_own_ids}
use Rattle.run_steps.proofs.ImagesHold.{images_hold, ordered_at_rest, together_hold}
use Rattle.told_scans.proofs.Members.{some_is}
use Rattle.run_steps.proofs.RowsStay.{KeepsItsSlots, rows_stay}
use Rattle.run_steps.proofs.RunFits.{first_since, moments_since}
use Rattle.run_steps.proofs.RunRows.{OneChoice, given_over_fronts}
use Rattle.run_steps.proofs.RunWires.{acknowledged_none, of_no_worker, took_none}
use Rattle.told_scans.proofs.Scanning.{are_at, no_more_listings}
use Rattle.told_scans.specs.Partial.{AreAt}
use Rattle.run_steps.proofs.Unbegun.{unbegun_stand}
use Rattle.run_steps.proofs.WireOn.{all_told_stay}

-- no key was begun
none_begun : (wires : List WireTold) (rows : List Row) → AllByRecursion (IsStored [] wires) rows
none_begun wires [] = tt
none_begun wires (row ∷ rows) = (inr tt, none_begun wires rows)

-- ---- its listings

pub some_globs : (trace : Trace) (globs : List (List ℕ)) (place : ℕ) (more : List Event) → AreAt trace.events place more → ListSome globs more → ListGlobs trace globs (listings_from place more)
some_globs trace globs place [] at some = tt
some_globs trace [] place (event ∷ more) at some = absurd some
some_globs trace (glob ∷ globs) place (event ∷ more) at (inl one) =
    subst (λ (e : Event). ListGlobs trace (glob ∷ globs) (listings_from place (e ∷ more))) (sym one.0.1)
    (inl (one.0.0, at.0 ∙ ap (λ (e : Event). Some e) one.0.1), some_globs trace globs (suc place) more at.1 one.1)
some_globs trace (glob ∷ globs) place (event ∷ more) at (inr failed) =
    subst (λ (e : Event). ListGlobs trace (glob ∷ globs) (listings_from place (e ∷ more))) (sym failed.0)
    (subst (λ (l : List Event). ListGlobs trace (glob ∷ globs) (place ∷ listings_from (suc place) l)) (sym failed.1)
    (inr (at.0 ∙ ap (λ (e : Event). Some e) failed.0), tt))

lists_each : (listings : List Listing) → ListSome (map (λ listing. listing.glob) listings) (map event_of listings)
lists_each [] = tt
lists_each (listing ∷ listings) = inl ((listing.shown, refl), lists_each listings)

-- all listings of a scan are some
pub listed_all : (globs : List (List ℕ)) (told : FolderHistory) (listings : List Listing) (after : Option FolderHistory) → AreListed globs told listings after → ListsSome globs told after
listed_all globs told listings after are = record {
  more = map event_of listings;
  in_order = subst (λ (g : List (List ℕ)). ListSome g (map event_of listings)) are.one_for_each_glob (lists_each listings);
  kept = are.kept;
}

-- however a scan ended that tells no files
pub ended_some : (inputs : List InputRule) (told : FolderHistory) (error : ScanError) (after : Option FolderHistory) → EndsAs inputs told error after → ListsSome (globs_of inputs) told after
ended_some inputs told Failed after ends = ends
ended_some inputs told NoMemory after ends = ends
ended_some inputs told (NoNative path) after ends = listed_all (globs_of inputs) told ends.listings after ends.listed_is

-- none of them is an opening
none_is_opening : (globs : List (List ℕ)) (more : List Event) (k : ℕ) (path : List ℕ) (number : ℕ) (begun : Sight) → ListSome globs more → slice_get more k ≡ Some (Opened path number begun) → ⊥
none_is_opening globs [] k path number begun some at = let q : None ≡ Some (Opened path number begun) = at in cc
none_is_opening [] (event ∷ more) k path number begun some at = some
none_is_opening (glob ∷ globs) (event ∷ more) zero path number begun (inl one) at =
    let q : Some event ≡ Some (Opened path number begun) = at in let listed = one.0.1 in cc
none_is_opening (glob ∷ globs) (event ∷ more) (suc k) path number begun (inl one) at = none_is_opening globs more k path number begun one.1 at
none_is_opening (glob ∷ globs) (event ∷ more) zero path number begun (inr failed) at =
    let q : Some event ≡ Some (Opened path number begun) = at in let is = failed.0 in cc
none_is_opening (glob ∷ globs) (event ∷ more) (suc k) path number begun (inr failed) at =
    let q : None ≡ Some (Opened path number begun) = sym (ap (λ (l : List Event). slice_get l k) failed.1) ∙ at in cc

-- what stands behind the front stands in the rest
got_in_rest : {A : Type 0} (front rest : List A) (place : ℕ) (x : A) → length front ≤ place → slice_get (front ++ rest) place ≡ Some x → (k : ℕ) × (slice_get rest k ≡ Some x)
got_in_rest [] rest place x since at = (place, at)
got_in_rest (y ∷ front) rest zero x since at = absurd (omega (arith, since))
got_in_rest (y ∷ front) rest (suc place) x since at = got_in_rest front rest place x (omega (arith, since)) at

-- ---- how it scanned

module _ (settings : Settings) (folder : FolderTold) (in_range : AreInRange settings) where
  -- the scan told no files, so none was asked for its key
  pub ended_scan : (error : ScanError) → EndsAs settings.inputs folder.earlier error (Some folder.listed) → folder.scanned ≡ folder.listed → HasScannedSome settings folder
  ended_scan error ends same = record {
    in_range = in_range;
    lists = ended_some settings.inputs folder.earlier error (Some folder.listed) ends;
    asks = subst (HasOnlyAsked folder.listed) (sym same) (asked_none folder.listed);
  }

  module _ (all : List ListedFile) (scans : ScansFiles settings.inputs folder.earlier all (Some folder.listed)) where
    lists : ListsSome (globs_of settings.inputs) folder.earlier (Some folder.listed)
    lists = listed_all (globs_of settings.inputs) folder.earlier scans.listings (Some folder.listed) scans.listed_is

    -- it told them, and asking them for their keys was cut off
    pub cut_scan : AsksSome settings.inputs folder.listed all (Some folder.scanned) → HasScannedSome settings folder
    cut_scan asks = record { in_range = in_range; lists = lists; asks = some_asked settings.inputs folder.listed all folder.scanned asks }

    -- each was asked
    pub asked_scan : (asked : List AskedFile) → AsksFrom settings.inputs asked folder.listed folder.scanned → HasScannedSome settings folder
    asked_scan asked asks = record { in_range = in_range; lists = lists; asks = all_asked settings.inputs asked folder.listed folder.scanned asks }

    pub full_scan : (keyed : Keyed) → AsksFiles settings.inputs folder.listed all keyed (Some folder.scanned) → HasScannedSome settings folder
    full_scan keyed asks =
        asked_scan asks.asked (subst (AsksFrom settings.inputs asks.asked folder.listed) (some_is asks.last folder.scanned (sym asks.after_is)) asks.asks)

-- ---- its wires and its books

silent_wires : (outcomes : List (Option (List Outcome))) → AreOfWorkers (took_none outcomes) (wires_behind (map length_of outcomes) outcomes)
silent_wires [] = tt
silent_wires (o ∷ outcomes) = (of_no_worker o, silent_wires outcomes)

none_taken : {A : Type 0} (wires : List A) → taken_in (took_none wires) ≡ []
none_taken [] = refl
none_taken (wire ∷ wires) = none_taken wires

-- ---- its rows

nil_front : {A : Type 0} (front rest : List A) → [] ≡ front ++ rest → front ≡ []
nil_front [] rest are = refl
nil_front (x ∷ front) rest are = absurd cc

over_no_notes : (opening rows : List Row) → AreRowsOverFronts opening [] rows → AreRowsOver opening [] rows
over_no_notes opening rows over = record {
  in_order = over.in_order;
  each = λ key. let of = over.each key in of.is ∙ ap (λ (l : List Note). row_for opening l key) (nil_front of.front of.rest of.notes_are);
}

given_by : {opening : List Row} {first second : List ℕ} → GivesFronts opening [] first second → (rows : List Row) × GivesRows first second rows
given_by fronts = (fronts.rows, fronts.given)

-- ---- the run

-- listed nothing that it kept
abbrev pub scanned_some : {D : Type 0} → Began D → Began D
scanned_some start = record start { listed = []; doubled = [] }

-- and did nothing more with the folder; which files it asked for their keys is not told
abbrev pub folder_scanned : FolderTold → FolderTold
folder_scanned folder = record folder { ended = folder.scanned; asked = [] }

-- without notes no slot is begun
none_begins : (key : List ℕ) → KeepsItsSlots [] key
none_begins key slot there = absurd (none_there slot there)

module _ {D : Type 0} (disks : DiskWords D) (start : Began D) (folder : FolderTold) (has : HasScannedSome start.settings folder) (moments : List ℕ) (later : Option (List ℕ))
    (given : HasGiven start.moments later start.moment moments) (clock_tells : IsSome later) (outcomes : List (Option (List Outcome))) where
  abbrev wires : List WireTold
  wires = wires_behind (map length_of outcomes) outcomes

  abbrev pub early_run : Run
  early_run = run_of (scanned_some start) (folder_scanned folder) moments wires

  abbrev pub early_scan : Scan
  early_scan = scan_of (scanned_some start) (folder_scanned folder)

  abbrev began : ℕ
  began = length folder.earlier.events

  listed_is : folder.listed ≡ record folder.earlier { events = folder.earlier.events ++ has.lists.more }
  listed_is = some_is folder.listed (record folder.earlier { events = folder.earlier.events ++ has.lists.more }) has.lists.kept

  listed_events : folder.listed.events ≡ folder.earlier.events ++ has.lists.more
  listed_events = ap (λ (h : FolderHistory). h.events) listed_is

  folder_goes_on : FolderGoesOn folder.earlier folder.scanned
  folder_goes_on =
      goes_on_further folder.earlier folder.listed folder.scanned (record { files = ap (λ (h : FolderHistory). h.files) listed_is; more = has.lists.more; events = listed_events })
      (goes_on_asking folder.listed folder.scanned has.asks)

  events_are : folder.scanned.events ≡ folder.earlier.events ++ (has.lists.more ++ has.asks.more)
  events_are = has.asks.events ∙ ap (λ (l : List Event). l ++ has.asks.more) listed_events ∙ append_assoc folder.earlier.events has.lists.more has.asks.more

  listings_are : early_scan.listings ≡ listings_from began has.lists.more
  listings_are = ap (λ (l : List Event). listings_from began (drop began l)) listed_events ∙ ap (listings_from began) (drop-append_seam folder.earlier.events has.lists.more)

  all_listings : listings_of early_run.trace ≡ listings_from began has.lists.more
  all_listings =
      ap (λ (l : List Event). listings_from began (drop began l)) events_are ∙ ap (listings_from began) (drop-append_seam folder.earlier.events (has.lists.more ++ has.asks.more))
      ∙ no_more_listings has.lists.more has.asks.more began has.asks.no_listing

  at : AreAt early_run.trace.events began has.lists.more
  at = subst (λ (l : List Event). AreAt l began has.lists.more) (sym events_are) (are_at has.lists.more folder.earlier.events has.asks.more)

  by_scans : IsByScans early_run
  by_scans = record {
    scans = record {
      together = append-nil early_scan.listings ∙ listings_are ∙ sym all_listings;
      by_globs = (
        subst (λ (l : List ℕ). ListGlobs early_run.trace (globs_in start.settings.inputs) l) (sym listings_are)
            (some_globs early_run.trace (globs_in start.settings.inputs) began has.lists.more at has.lists.in_order),
        tt,
      );
      full = tt;
      moments = (given.among.0, given.among.1, given.among.2, tt);
    };
    asked = tt;
    each = (record { asked_so = tt; asks_in_order = record { each = tt; in_order = tt; made = tt } }, tt);
    own_ids = inputs_have_own_ids start.settings has.in_range;
  }

  -- what it opened it only asked
  no_opening : EachOpeningIsOne early_run []
  no_opening opening path number begun since is = by_order (cases_lt opening (length folder.listed.events))
    where
      by_order : (opening < length folder.listed.events) ⊎ (length folder.listed.events ≤ opening) → Contains [] opening ⊎ OnlyReads early_run.trace opening
      by_order (inl within) =
          let here = event_was folder.listed folder.scanned (goes_on_asking folder.listed folder.scanned has.asks) opening (Opened path number begun) within is in
          let of = got_in_rest folder.earlier.events has.lists.more opening (Opened path number begun) since (sym (ap (λ (l : List Event). slice_get l opening) listed_events) ∙ here) in
          absurd (none_is_opening (globs_in start.settings.inputs) has.lists.more of.0 path number begun has.lists.in_order of.1)
      by_order (inr behind) =
          let was = has.asks.only_asked opening path number begun behind is in
          inr (record {
            looks = was.looks;
            tells = ap (λ (o : Option Closing). first_of_two (option_map (λ (c : Closing). c.looks) o) (open_looks_in opening [])) was.closed.closing;
            none_at_length = was.reads;
          })

  abbrev no_notes : RunNotes
  no_notes = record { told = []; collected = []; all = [] }

  early_told : RunTold early_run [] [] (took_none outcomes) no_notes
  early_told = record {
    by = by_scans;
    followed = record { each = tt; slots = tt; openings_apart = tt; openings_serve = no_opening };
    talks = silent_wires outcomes;
    may_go = record { each = tt; apart = tt };
    beside = record { slots = tt; other_slots = λ file none. absurd (none_there file none) };
    turns = apart_take_turns early_run [] [] [] tt tt (λ file none. absurd (none_there file none)) tt;
    told = record { each = tt; begun = tt; hidden_begun = tt };
    mixed = record { often = λ h. refl; orderly = none_orderly };
    fits = record {
      issued = [];
      noted = [];
      issued_are = λ h. refl;
      noted_are = λ h. refl;
      parcels = [];
      parcels_are = λ h. sym (ap (weigh h) (none_taken outcomes));
      notes = [];
      notes_are = λ h. ap (λ l. weigh h (notes_of l)) (acknowledged_none outcomes);
    };
    gone = tt;
  }

  early_accounts : AccountsFor early_run [] []
  early_accounts = (is_accounted_for early_run [] [] (took_none outcomes) no_notes early_told).accounts

  module _ (a b : D) (asked then_asked : Questions) (one : OneChoice) (gave : GaveRows disks start) (areas : BeganAtRest disks start → HaveHeldFronts disks start.opening [] start.a start.b a b) where
    abbrev pub early_objects : RunObjects D
    early_objects = record {
      before = record { folder = Some folder.earlier; moments = start.moments; questions = asked; outcomes = outcomes; a = start.a; b = start.b };
      after = record { folder = Some folder.scanned; moments = later; questions = then_asked; outcomes = outcomes; a = a; b = b };
    }

    image_rows : (Absent : Absences) → IsInOrder start.opening → (rows : List Row) → AreRowsOverFronts start.opening [] rows → AreImageRows early_run [] Absent rows
    image_rows Absent ordered rows over = record {
      kept = early_accounts.images rows over;
      stay = rows_stay start.opening [] rows ordered over Absent early_run [] (λ row there. inl (none_begins row.key));
      unbegun = unbegun_stand start.opening [] rows ordered over [] (λ key none. refl);
    }

    rows_by : IsInOrder start.opening → (met : Met) (rows : List Row) → AreRowsOverFronts start.opening [] rows → RowsBy early_run [] met rows
    rows_by ordered met rows over = record {
      in_image = image_rows LostKey ordered rows over;
      kept = λ left. early_accounts.ends rows (over_no_notes start.opening rows over);
      begun = λ left. tt;
      stored = λ left. none_begun early_run.trace.wires rows;
    }

    pub early_is_accounted_for : (met : Met) → ¬ (IsTelling met) → AccountedFor disks start.settings early_objects met
    early_is_accounted_for met not_telling = record {
      run = early_run;
      by_settings = refl;
      account = [];
      fits = record {
        once = refl;
        one_scan = omega arith;
        folder = record { goes_on = folder_goes_on; files = refl; events = refl; began = refl; none_open = refl };
        moments = moments_since start.moments later start.moment moments given clock_tells;
        scan_first = (first_since start.moments later start.moment moments given clock_tells, tt);
        wires_go_on = all_told_stay outcomes;
        wires = refl;
      };
      followed = early_accounts.followed;
      slots = early_accounts.slots;
      sent = early_accounts.sent;
      opened = gave;
      given = λ at_rest first second a_is b_is. given_by ((areas at_rest).both first second a_is b_is);
      rows = λ at_rest first second rows a_is b_is gives. rows_by (ordered_at_rest disks start.a start.b start.opening at_rest gave) met rows (given_over_fronts one start.opening [] first second rows ((areas at_rest).both first second a_is b_is) gives);
      images = λ at_rest. images_hold one early_run [] disks early_objects at_rest start.opening gave [] (areas at_rest) (image_rows LostInImage (ordered_at_rest disks start.a start.b start.opening at_rest gave));
      together = λ at_rest. together_hold one early_run [] disks early_objects at_rest start.opening gave [] (areas at_rest) (image_rows LostInImage (ordered_at_rest disks start.a start.b start.opening at_rest gave));
      drained = λ at_rest is_done. absurd (not_telling (subst IsTelling (sym is_done) tt));
      taken_up = λ telling. absurd (not_telling telling);
      read = λ stopped. tt;
      looked = λ stopped twice. absurd (not_telling (subst IsTelling (sym stopped) tt));
      told_in_epochs = tt;
      epochs = λ telling. tt;
    }

    -- by these moments
    pub early_moments : (met : Met) (not_telling : ¬ (IsTelling met)) → (early_is_accounted_for met not_telling).run.trace.moments ≡ moments
    unfolding early_is_accounted_for
    early_moments met not_telling = refl

-- ---- a run that made no scan

-- it ended before: its folder, its clock and its wires tell what they told before
abbrev pub unscanned_run : Settings → List Row → FolderHistory → List (Option (List Outcome)) → Run
unscanned_run settings opening told outcomes = record {
  settings = settings;
  once = true;
  opening = opening;
  trace = record {
    files = told.files;
    events = told.events;
    began = length told.events;
    open_tails = [];
    moments = [];
    wires = wires_behind (map length_of outcomes) outcomes;
  };
  scans = [];
}

silent_each : (outcomes : List (Option (List Outcome))) → AllByRecursion IsSilent (wires_behind (map length_of outcomes) outcomes)
silent_each [] = tt
silent_each (None ∷ outcomes) = (record { none_made = refl; none_open = refl }, silent_each outcomes)
silent_each (Some list ∷ outcomes) = (record { none_made = drop-length list; none_open = refl }, silent_each outcomes)

module _ {D : Type 0} (disks : DiskWords D) (settings : Settings) (opening : List Row) (told : FolderHistory) (before : List ℕ) (outcomes : List (Option (List Outcome))) where
  abbrev pub still_run : Run
  still_run = unscanned_run settings opening told outcomes

  is_unscanned : IsUnscanned still_run
  is_unscanned = record {
    no_scan = refl;
    no_listing = ap (listings_from (length told.events)) (drop-length told.events);
    no_opening = λ opening path number begun since at. let q : None ≡ Some (Opened path number begun) = sym (slice_get_past told.events opening since) ∙ at in cc;
    silent = silent_each outcomes;
  }

  still_accounts : AccountsFor still_run [] []
  still_accounts = unscanned_is_accounted_for still_run is_unscanned

  module _ (from_a from_b a b : D) (asked : Questions) (one : OneChoice) (gave : GiveTheRows disks from_a from_b opening)
      (areas : AreAtRest disks.contents disks.images from_a from_b → HaveHeldFronts disks opening [] from_a from_b a b) where
    abbrev pub still_objects : RunObjects D
    still_objects = record {
      before = record { folder = Some told; moments = Some before; questions = asked; outcomes = outcomes; a = from_a; b = from_b };
      after = record { folder = Some told; moments = Some before; questions = asked; outcomes = outcomes; a = a; b = b };
    }

    still_image_rows : (Absent : Absences) → IsInOrder opening → (rows : List Row) → AreRowsOverFronts opening [] rows → AreImageRows still_run [] Absent rows
    still_image_rows Absent ordered rows over = record {
      kept = still_accounts.images rows over;
      stay = rows_stay opening [] rows ordered over Absent still_run [] (λ row there. inl (none_begins row.key));
      unbegun = unbegun_stand opening [] rows ordered over [] (λ key none. refl);
    }

    still_rows : IsInOrder opening → (met : Met) (rows : List Row) → AreRowsOverFronts opening [] rows → RowsBy still_run [] met rows
    still_rows ordered met rows over = record {
      in_image = still_image_rows LostKey ordered rows over;
      kept = λ left. still_accounts.ends rows (over_no_notes opening rows over);
      begun = λ left. tt;
      stored = λ left. none_begun still_run.trace.wires rows;
    }

    pub still_is_accounted_for : (met : Met) → ¬ (IsTelling met) → AccountedFor disks settings still_objects met
    still_is_accounted_for met not_telling = record {
      run = still_run;
      by_settings = refl;
      account = [];
      fits = record {
        once = refl;
        one_scan = omega arith;
        folder = record { goes_on = record { files = refl; more = []; events = sym (append-nil told.events) }; files = refl; events = refl; began = refl; none_open = refl };
        moments = inl (refl, refl);
        scan_first = tt;
        wires_go_on = all_told_stay outcomes;
        wires = refl;
      };
      followed = still_accounts.followed;
      slots = still_accounts.slots;
      sent = still_accounts.sent;
      opened = gave;
      given = λ at_rest first second a_is b_is. given_by ((areas at_rest).both first second a_is b_is);
      rows = λ at_rest first second rows a_is b_is gives. still_rows (ordered_at_rest disks from_a from_b opening at_rest gave) met rows (given_over_fronts one opening [] first second rows ((areas at_rest).both first second a_is b_is) gives);
      images = λ at_rest. images_hold one still_run [] disks still_objects at_rest opening gave [] (areas at_rest) (still_image_rows LostInImage (ordered_at_rest disks from_a from_b opening at_rest gave));
      together = λ at_rest. together_hold one still_run [] disks still_objects at_rest opening gave [] (areas at_rest) (still_image_rows LostInImage (ordered_at_rest disks from_a from_b opening at_rest gave));
      drained = λ at_rest is_done. absurd (not_telling (subst IsTelling (sym is_done) tt));
      taken_up = λ telling. absurd (not_telling telling);
      read = λ stopped. tt;
      looked = λ stopped twice. absurd (not_telling (subst IsTelling (sym stopped) tt));
      told_in_epochs = tt;
      epochs = λ telling. tt;
    }

    -- by no moment
    pub still_moments : (met : Met) (not_telling : ¬ (IsTelling met)) → (still_is_accounted_for met not_telling).run.trace.moments ≡ []
    unfolding still_is_accounted_for
    still_moments met not_telling = refl
