-- A scan after the first one is a step of a run: the moment that its clock gave last is one of the run's, and what stands of it stands with one more scan.
use Rattle.std.proofs.Common.{◌≡◌, inl, inr, ⊎_elim, ℕ, ◌-◌, List, [], ◌∷◌, ◌++◌, length, length-append, Option, None, Some, refl, sym, subst, ◌∙◌, arith}
use Rattle.std.specs.Prelude.{slice_get}
use Rattle.accounts.proofs.Lists.{each_then, got_behind}
use Rattle.accounts.proofs.Onward.{told_later}
use Rattle.event_tree.specs.declared.settings.Settings.{Settings}
use Rattle.harvester.specs.Standing.{EndsAt}
use Rattle.keeper.proofs.InARow.{collects_none}
use Rattle.keeper.specs.Collecting.{Collects}
use Rattle.keeper.specs.Keeping.{Keeping}
use Rattle.outside.specs.Folders.{FolderHistory}
use Rattle.outside.specs.Times.{EndsWith, GivesMoment}
use Rattle.rounds.specs.Crewed.{lanings}
use Rattle.rounds.specs.Words.{Words}
use Rattle.rounds.specs.declared.crew.Crew.{Crew}
use Rattle.told_scans.specs.ToldScan.{ToldScan}
use Rattle.run_steps.specs.Began.{Began}
use Rattle.run_steps.specs.CarriersFail.{sending}
use Rattle.run_steps.specs.Goes.{Goes, Keeps, StepWords, Stop, moments_at, state_at}
use Rattle.run_steps.specs.LaterScans.{ScansOn}
use Rattle.run_steps.specs.Onward.{BeganBy, Onward, rules_of}
use Rattle.run_steps.specs.RunState.{Phase, RunState}
use Rattle.run_steps.specs.ScanSteps.{IsScanStep, MayScanAgain, StandsOneMore, with_folder}
use Rattle.run_steps.specs.ScansAgain.{TellsRescan, later_scan}
use Rattle.run_steps.specs.Shown.{HasShown}
use Rattle.run_steps.specs.SoFar.{SoFar, files_of}
use Rattle.run_steps.specs.Stands.{IsLeftSo, Stands, watch_of}
use Rattle.run_steps.specs.declared.context.Context.{Context}
use Rattle.run_steps.specs.declared.scanning.Rescan.{Rescan}
use Rattle.run_steps.proofs.CarriersGoOn.{carriers_by_nothing}
use Rattle.run_steps.proofs.Clocks.{clock_stays}
use Rattle.run_steps.proofs.FailingRounds.{fail_by_nothing}
use Rattle.run_steps.proofs.Giving.{GivenOn, given_on}
use Rattle.run_steps.proofs.Growing.{grown_scanning}
use Rattle.run_steps.proofs.Lanes.{lanes_later}
use Rattle.run_steps.proofs.EarlierOn.{earlier_later}
use Rattle.run_steps.proofs.LaterScans.{scans_on}
use Rattle.run_steps.proofs.ReadersGo.{rose_on}
use Rattle.run_steps.proofs.ScanStands.{stands_scanned}

-- ---- the moment

ends_with_last : (moments : List ℕ) (moment : ℕ) → EndsWith (moments ++ moment ∷ []) moment
ends_with_last moments moment =
    let long : length (moments ++ moment ∷ []) - 1 ≡ length moments = let sum = length-append moments (moment ∷ []) in omega (arith, sum) in
    subst (λ (place : ℕ). slice_get (moments ++ moment ∷ []) place ≡ Some moment) (sym long) (got_behind moments moment [])

-- a clock that gave it would give it again
pub gives_again : (before after : Option (List ℕ)) (moment : ℕ) → GivesMoment before moment after → GivesMoment after moment after
gives_again None after moment gives = subst (λ (o : Option (List ℕ)). GivesMoment o moment o) (sym gives) refl
gives_again (Some moments) after moment (inl same) = subst (λ (o : Option (List ℕ)). GivesMoment o moment o) (sym same.1) (inl (same.0, refl))
gives_again (Some moments) after moment (inr grows) = subst (λ (o : Option (List ℕ)). GivesMoment o moment o) (sym grows.1) (inl (ends_with_last moments moment, refl))

-- ---- what stands, with the moment among those of the run

module _ {T W L D : Type 0} (words : Words T W L D) (start : Began D) (moments : Option (List ℕ)) (crew : Crew T W L) (keeper : Keeping) (a b : D) (phase : Phase)
    (shown : Option FolderHistory) (so_far : SoFar) (now : ℕ) where
  abbrev pub here : RunState T W L D
  here = record { shown = shown; moments = moments; crew = crew; keeper = keeper; a = a; b = b; phase = phase }

  -- it ends with it
  pub record StandsAt : Type 0 where
    pub more : List ℕ
    pub ends : EndsAt (so_far.moments ++ more) now
    pub stands : Stands words start here (record so_far { moments = so_far.moments ++ more })

  pub stands_at : Stands words start here so_far → GivesMoment moments now moments → StandsAt
  stands_at stands gives = record {
    more = given.more;
    ends = given.ends;
    stands = record {
      files = record {
        opened = stands.files.opened;
        ruled = stands.files.ruled;
        keyed = stands.files.keyed;
        each_once = stands.files.each_once;
        turned = lanes_later words.tails (watch_of start so_far.scans) so_far.opened so_far.moments given.more so_far.lanes (lanings crew.lanes.items) stands.files.turned;
        left = each_then (IsLeftSo (watch_of start so_far.scans) so_far.opened so_far.moments) (IsLeftSo (watch_of start so_far.scans) so_far.opened (so_far.moments ++ given.more)) so_far.left
            (λ one so. record {
              file = so.file;
              among = so.among;
              is_told = told_later (watch_of start so_far.scans) so.file so_far.moments given.more one.turned one.told so.is_told;
              in_epochs = so.in_epochs;
            }) stands.files.left;
        earlier = earlier_later (watch_of start so_far.scans) start.shown so_far.opened so_far.moments given.more so_far.earlier stands.files.earlier;
        forgotten = stands.files.forgotten;
        reading = λ is. let was = stands.files.reading is in record { none_left = was.none_left; none_over = was.none_over };
        finished = stands.files.finished;
        over = stands.files.over;
        read = stands.files.read;
        answered = stands.files.answered;
        following = stands.files.following;
        tell = stands.files.tell;
        left_tell = stands.files.left_tell;
        listed = stands.files.listed;
        scans = scans_on start so_far.moments given.more so_far.scans stands.files.scans;
        shown = by_case start.shown shown stands.files.shown;
        given = given.given;
      };
      books = stands.books;
      notes = stands.notes;
      areas = stands.areas;
    };
  }
    where
      given : GivenOn start.moments moments start.moment now so_far.moments
      given = given_on start.moment now so_far.moments start.moments moments moments stands.files.given gives

      by_case : (before after : Option FolderHistory) → HasShown start.settings before after (files_of so_far) →
          HasShown start.settings before after (files_of (record so_far { moments = so_far.moments ++ given.more }))
      by_case None after is = is
      by_case (Some before) None is = absurd is
      by_case (Some before) (Some after) is = record {
        files = is.files;
        more = is.more;
        events = is.events;
        scans = is.scans;
        opened = is.opened;
        apart = is.apart;
        serve = is.serve;
        closed = is.closed;
        closed_before = is.closed_before;
        still_open = is.still_open;
      }

-- ---- the scan

-- as a run knows it
record KnownOn (settings : Settings) (shown : Option FolderHistory) (scan : Rescan) (later : Option FolderHistory) : Type 0 where
  told : Option ToldScan
  on : ScansOn settings shown (later_scan scan told) later

known_on : (settings : Settings) (scan : Rescan) (shown later : Option FolderHistory) → TellsRescan settings shown scan later → KnownOn settings shown scan later
known_on settings scan None later tells = record { told = None; on = tells }
known_on settings scan (Some before) None tells = absurd tells
known_on settings scan (Some before) (Some after) tells = record { told = Some tells.told; on = tells.next }

-- ---- the step

module _ {T W L D F K B : Type 0} (words : StepWords T W L D F K B) (context : Context) (scan : Rescan) (now : Stop T W L D F K B) (folder : F) (may : MayScanAgain words context scan now folder) where
  abbrev after : Stop T W L D F K B
  after = with_folder now folder

  one_more : (start : Began D) (so_far : SoFar) → BeganBy (rules_of context) start → Stands words.all start (state_at words now) so_far → StandsOneMore words context scan start after so_far
  one_more start so_far by stands =
      let at = stands_at words.all start (moments_at words now) now.crew now.storing.keeper.now now.storing.a.now now.storing.b.now now.phase (words.seen now.system.folder.now).told so_far scan.now.0
      stands may.moment in
      let known = subst (λ (s : Settings). KnownOn s (words.seen now.system.folder.now).told scan (words.seen folder).told) (sym by.settings)
      (known_on context.settings.now scan (words.seen now.system.folder.now).told (words.seen folder).told (may.scans.tells may.counted)) in
      record {
        told = known.told;
        more = at.more;
        stands = stands_scanned words.all start (moments_at words now) now.crew now.storing.keeper.now now.storing.a.now now.storing.b.now now.phase
            (record so_far { moments = so_far.moments ++ at.more }) (later_scan scan known.told) (words.seen now.system.folder.now).told (words.seen folder).told at.stands known.on
            (by.once ∙ may.follows) at.ends;
      }

  keeps : Keeps words context Collects None now after
  keeps = record {
    at_rest = λ goes rest. rest;
    ready = λ goes. may.ready;
    able = may.ready.able;
    failing = fail_by_nothing words.all.links words.all.wires context.settings.now.output.attempts (sending (moments_at words now) now.crew.carriers.items);
    none_failed = λ none. none;
    carriers_go_on = carriers_by_nothing words.all.wires now.crew.carriers.items;
    as_many = record { lanes = refl; carriers = refl };
    a_faults_never_fall = omega arith;
    b_faults_never_fall = omega arith;
    rings_never_fall = omega arith;
    clock_goes_on = clock_stays (moments_at words now);
    keeper = collects_none now.storing.keeper.now;
    same_objects = record { keeper = refl; a = refl; b = refl };
    still_tell = record { a = λ told. told; b = λ told. told };
    readers = record {
      more = may.scans.keeps.more;
      told = may.scans.keeps.told;
      faults_never_fall = may.scans.keeps.faults_never_fall;
      fewer = omega arith;
      open_tails = let same = may.scans.keeps.open_tails may.open_tails in omega (arith, same);
      slots = λ slot have. have;
      fault_stays = λ since le met. ⊎_elim
          (λ rose. inl (rose_on since (words.seen now.system.folder.now).faults (words.seen folder).faults rose may.scans.keeps.faults_never_fall)) (λ some. inr some) met;
    };
    same_folder = refl;
    same_clock = refl;
    same_bell = refl;
  }

  onward : Onward words.all (rules_of context) (state_at words now) (state_at words after)
  unfolding Onward
  onward start so_far by stands began = let one = one_more start so_far by stands in record { so_far = _; stands = one.stands; grown = grown_scanning so_far one.more (later_scan scan one.told) }

  pub goes_scanning : Goes words context None now after
  goes_scanning = record { keeps = keeps; onward = onward }

  pub is_scan_step : IsScanStep words context scan now after
  is_scan_step = record { goes = goes_scanning; one_more = one_more }
