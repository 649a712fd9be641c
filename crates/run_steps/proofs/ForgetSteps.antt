-- Telling the keeper that a removed file is forgotten keeps what stands of a run, with one more file that is forgotten.
use Rattle.std.proofs.Common.{ℕ, ◌≤◌, List, [], ◌∷◌, ◌++◌, Option, None, Some, IfSome, sym, ap, subst, arith}
use Rattle.std.proofs.lemmas.List.{map-append}
use Rattle.accounts.proofs.Lists.{each_last}
use Rattle.accounts.proofs.Ordered.{one_more_orderly}
use Rattle.keeper.specs.Keeping.{Keeping}
use Rattle.outside.specs.Folders.{FolderHistory}
use Rattle.pass_sums.specs.Weight.{weigh}
use Rattle.pass_sums.proofs.Weights.{weigh-append}
use Rattle.rounds.specs.Crewed.{lanings}
use Rattle.rounds.specs.Words.{Words}
use Rattle.rounds.specs.declared.crew.Crew.{Crew}
use Rattle.ship_core.specs.Orderly.{IsBegun}
use Rattle.ship_core.specs.RowOver.{slot_of}
use Rattle.wire_base.specs.declared.note.Note.{Note}
use Rattle.run_steps.specs.Began.{Began}
use Rattle.run_steps.specs.ChangeSteps.{IsReadyAt, with_keeper}
use Rattle.run_steps.specs.ForgetSteps.{ForgetsAreSteps, IsForgetting, IsToForget, with_forgotten}
use Rattle.run_steps.specs.Forgetting.{ForgetsFile, forget_note}
use Rattle.run_steps.specs.Forgotten.{IsForgottenSo}
use Rattle.run_steps.specs.Goes.{StepWords, Stop, moments_at}
use Rattle.run_steps.specs.RunState.{Phase}
use Rattle.run_steps.specs.Shown.{HasShown}
use Rattle.run_steps.specs.SoFar.{Forgotten, SoFar, announced_in, books_of, files_of, forget_of, forgets_in, noted_since}
use Rattle.run_steps.specs.Stands.{AreNoted, Books, Stands}
use Rattle.run_steps.specs.Telling.{TellsNotes}
use Rattle.run_steps.specs.declared.context.Context.{Context}
use Rattle.run_steps.specs.declared.forgetting.RemovedFile.{RemovedFile}
use Rattle.run_steps.proofs.BeginningOne.{at_phase}
use Rattle.run_steps.proofs.BegunNotes.{areas_more, counted_more, got_same, noted_more, stores_more}
use Rattle.run_steps.proofs.ChangeSteps.{hear_nothing, keeps_heard}

module _ {T W L D : Type 0} (words : Words T W L D) (reads : (disk : D) → IfSome (words.disks.contents disk) (words.disks.images disk))
    (counts : (disk : D) (at : ℕ) (image : List ℕ) → at ≤ words.disks.moment disk → words.disks.images disk image → words.disks.images_since disk at image)
    (start : Began D) (moments : Option (List ℕ)) (a b : D) (shown : Option FolderHistory) (crew : Crew T W L) (phase : Phase) (file : RemovedFile) (old new : Keeping) (forgets : ForgetsFile file old new)
    (so_far : SoFar) (one : Forgotten) (may : IsToForget file so_far one) (stands : Stands words start (at_phase words start moments a b shown crew old phase) so_far) where
  abbrev later : SoFar
  later = with_forgotten one so_far

  abbrev told : List Note
  told = forget_of one ∷ []

  tells : TellsNotes told old new
  tells = subst (λ (n : Note). TellsNotes (n ∷ []) old new) (sym may.is) forgets.tells

  its_begin : IsBegun one.opened.begin.slot.0 old.tracked.notes
  its_begin = subst (λ (n : ℕ). IsBegun n old.tracked.notes) (sym (ap slot_of may.is)) forgets.followed.begun

  abbrev since : List Note
  since = noted_since so_far.earlier so_far.forgotten

  noted : AreNoted start.opening new (noted_since so_far.earlier later.forgotten ++ so_far.begun) so_far.collected
  noted = record {
    opening_is = more.opening_is;
    mixed = record {
      often = λ h. omega (
        arith,
        more.mixed.often h,
        weigh-append h ((since ++ so_far.begun) ++ told) so_far.collected,
        weigh-append h (since ++ so_far.begun) told,
        weigh-append h since so_far.begun,
        weigh-append h (announced_in so_far.earlier) (forgets_in so_far.forgotten),
        weigh-append h (noted_since so_far.earlier later.forgotten ++ so_far.begun) so_far.collected,
        weigh-append h (noted_since so_far.earlier later.forgotten) so_far.begun,
        weigh-append h (announced_in so_far.earlier) (forgets_in later.forgotten),
        ap (weigh h) (map-append forget_of so_far.forgotten (one ∷ [])),
        weigh-append h (forgets_in so_far.forgotten) told,
      );
      orderly = more.mixed.orderly;
    };
    got = more.got;
  }
    where
      more : AreNoted start.opening new ((since ++ so_far.begun) ++ told) so_far.collected
      more = noted_more told old new tells start.opening (since ++ so_far.begun) so_far.collected (one_more_orderly old.tracked.notes (forget_of one) stands.notes.noted.mixed.orderly its_begin)
          stands.notes.noted

  has_shown : (first folder : Option FolderHistory) → HasShown start.settings first folder (files_of so_far) → HasShown start.settings first folder (files_of later)
  has_shown None folder is = is
  has_shown (Some first) None is = absurd is
  has_shown (Some first) (Some folder) is = record {
    files = is.files;
    more = is.more;
    events = is.events;
    scans = is.scans;
    opened = is.opened;
    apart = is.apart;
    serve = is.serve;
    closed = is.closed;
    closed_before = is.closed_before;
    still_open = is.still_open;
  }

  pub stands_forgotten : Stands words start (at_phase words start moments a b shown crew new phase) later
  stands_forgotten = record {
    files = record {
      opened = stands.files.opened;
      ruled = stands.files.ruled;
      keyed = stands.files.keyed;
      each_once = stands.files.each_once;
      turned = stands.files.turned;
      left = stands.files.left;
      earlier = stands.files.earlier;
      forgotten = each_last (IsForgottenSo so_far.scans so_far.opened so_far.left) so_far.forgotten one stands.files.forgotten may.so;
      reading = λ is. let was = stands.files.reading is in record { none_left = was.none_left; none_over = was.none_over };
      finished = stands.files.finished;
      over = stands.files.over;
      read = stands.files.read;
      answered = stands.files.answered;
      following = λ follows. let were = stands.files.following follows in record { none_over = were.none_over; may = were.may; in_lanes = were.in_lanes; in_left = were.in_left };
      listed = stands.files.listed;
      tell = stands.files.tell;
      left_tell = stands.files.left_tell;
      scans = stands.files.scans;
      shown = has_shown start.shown shown stands.files.shown;
      given = stands.files.given;
    };
    books = subst (λ (got : List Note). Books words.links words.wires start.heard (record { lanes = lanings crew.lanes.items; carriers = crew.carriers.items; got = got }) (books_of so_far)) (sym (got_same told old new tells))
        stands.books;
    notes = record {
      counted = counted_more told old new tells stands.notes.counted;
      begun = stands.notes.begun;
      hidden = stands.notes.hidden;
      noted = noted;
      stores = stores_more told old new tells stands.notes.stores;
    };
    areas = λ began. areas_more told old new tells words.disks reads counts start.opening start.a start.b a b (stands.areas began);
  }

module _ {T W L D F K B : Type 0} (words : StepWords T W L D F K B) (reads : (disk : D) → IfSome (words.all.disks.contents disk) (words.all.disks.images disk))
    (counts : (disk : D) (at : ℕ) (image : List ℕ) → at ≤ words.all.disks.moment disk → words.all.disks.images disk image → words.all.disks.images_since disk at image) where
  module _ (context : Context) (file : RemovedFile) (now : Stop T W L D F K B) (keeper : Keeping) (ready : IsReadyAt words context now) (forgets : ForgetsFile file now.storing.keeper.now keeper) where
    forgetting : IsForgetting words context file now (with_keeper now keeper)
    forgetting = record {
      keeps = keeps_heard words context now now.crew.lanes keeper (forget_note file ∷ []) (hear_nothing words.all.tails (lanings now.crew.lanes.items)) forgets.tells ready
          {Keepers = TellsNotes (forget_note file ∷ [])} forgets.tells;
      forgotten = λ start so_far one by stands may.
          stands_forgotten words.all reads counts start (moments_at words now) now.storing.a.now now.storing.b.now (words.seen now.system.folder.now).told now.crew now.phase file now.storing.keeper.now keeper forgets
          so_far one may stands;
    }

  pub forgets_are_steps : ForgetsAreSteps words
  forgets_are_steps context file now keeper ready forgets = forgetting context file now keeper ready forgets
