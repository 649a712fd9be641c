-- Files that a run follows: as it begins to, and of those whose tails it closes.
use Rattle.std.proofs.Common.{◌≡◌, ◌≢◌, ◌⊎◌, inl, inr, ℕ, suc, drop, List, [], ◌∷◌, Bool, true, false, Option, Some, None, IfSome, IsNone, IsSome, IsTrue, refl, sym, subst, ◌∙◌}
use Rattle.std.specs.Prelude.{slice_get}
use Rattle.std.specs.List.{AllByRecursion}
use Rattle.accounts.specs.FollowedFile.{MayReopenAt}
use Rattle.accounts.specs.Opened.{Opened}
use Rattle.accounts.specs.Turned.{Turned}
use Rattle.accounts.specs.Turning.{IsTurnedSo}
use Rattle.accounts.specs.Watch.{Watch}
use Rattle.harvester.specs.Standing.{stage_of}
use Rattle.harvester.specs.declared.harvester.Harvester.{Harvester}
use Rattle.harvester.specs.declared.stage.Stage.{Stage as ReaderStage}
use Rattle.harvester.specs.declared.stage.Stage.TheVariants as stage
use Rattle.kept_rows.specs.Trace.{closing_in}
use Rattle.lanes.specs.Changing.{LooksAt}
use Rattle.lanes.specs.Laning.{Laning}
use Rattle.lanes.specs.declared.seat_look.SeatLook.{SeatLook}
use Rattle.outside.specs.Folders.{FolderHistory}
use Rattle.outside.specs.Tails.{TailHistory}
use Rattle.rounds.specs.Words.{TailWords}
use Rattle.wire_base.specs.declared.numbers.Moment.{Moment}
use Rattle.run_steps.specs.Began.{Began}
use Rattle.run_steps.specs.ClosesTail.{IsResting, RestsAt}
use Rattle.run_steps.specs.LastEpoch.{HasAnswered, HasAnsweredWhereNoFault, IsAnswered}
use Rattle.run_steps.specs.RunState.{Phase, Reading}
use Rattle.run_steps.specs.SoFar.{FilesSoFar, Left}
use Rattle.run_steps.specs.Stands.{Files, FilesNow, IsFollowing, IsLeftAnswered}
use Rattle.run_steps.proofs.Answered.{answered_quiet}
use Rattle.run_steps.proofs.AreRead.{none_left_so}

-- ---- a tail that may be closed

-- of a file that is at rest, or that changed, each fall of the length was answered
pub answered_resting : {T : Type 0} (tails : TailWords T) (watch : Watch) (files : List Opened) (moments : List ℕ) (turned : Turned) (one : Harvester T) →
    IsTurnedSo tails.numbers tails.told watch files moments turned one → one.reader.stage ≢ stage.Over → IsResting one → MayReopenAt turned.history.stage
answered_resting tails watch files moments turned one is not_over (inl rests) = answered_quiet turned.history.stage (is.rests rests).asks_nothing
answered_resting tails watch files moments turned one is not_over (inr (inl changed)) =
    subst MayReopenAt is.has_told.held.holds.follows.stage (subst (λ (s : ReaderStage). MayReopenAt (stage_of s)) (sym changed) tt)
answered_resting tails watch files moments turned one is not_over (inr (inr over)) = absurd (not_over over)

-- the harvester of the seat is the one of which that is said
pub rests_there : {T : Type 0} (seat : ℕ) (harvesters : List (Harvester T)) (one : Harvester T) → RestsAt seat harvesters → slice_get harvesters seat ≡ Some one → IsResting one
rests_there seat harvesters one at is = let same : at.one ≡ one = let got : Some at.one ≡ Some one = sym at.is ∙ is in cc in subst IsResting same at.rests

-- a look that says so
pub looks_resting : {T : Type 0} {numbers : T → Option (ℕ × ℕ)} {told : T → Option TailHistory} (seat : ℕ) (harvesters : List (Harvester T)) (look : SeatLook) → LooksAt numbers told seat harvesters look →
    IsTrue look.changed ⊎ IsSome look.idle_since → RestsAt seat harvesters
looks_resting seat harvesters look looks (inl changed) = record { one = looks.one; is = looks.is; rests = inr (looks.changed.0 changed) }
looks_resting seat harvesters look looks (inr idle) = record { one = looks.one; is = looks.is; rests = inl (at_work looks.one.rests refl) }
  where
    at_work : (b : Bool) → looks.one.rests ≡ b → IsTrue looks.one.rests
    at_work true is = is
    at_work false is = absurd (never look.idle_since idle (looks.not_idle.1 (inr is)))
      where
        never : (o : Option Moment) → IsSome o → IsNone o → ⊥
        never None some none = absurd cc
        never (Some moment) some none = absurd cc

-- ---- those that are turned, and those that were closed

module _ {T : Type 0} (faults : T → ℕ) where
  answered_one : (hs : List (Harvester T)) → AllByRecursion HasAnswered hs → AllByRecursion (HasAnsweredWhereNoFault faults) hs
  answered_one [] each = tt
  answered_one (h ∷ hs) each = ((λ none. each.0), answered_one hs each.1)

  pub answered_in : (lanes : List (Laning T)) → AllByRecursion (λ (lane : Laning T). AllByRecursion HasAnswered lane.harvesters) lanes →
      AllByRecursion (λ (lane : Laning T). AllByRecursion (HasAnsweredWhereNoFault faults) lane.harvesters) lanes
  answered_in [] each = tt
  answered_in (lane ∷ lanes) each = (answered_one lane.harvesters each.0, answered_in lanes each.1)

pub left_answered : (shown : Option FolderHistory) (left : List Left) → AllByRecursion (λ (one : Left). IsAnswered one.turned.history) left →
    IfSome shown (λ folder. AllByRecursion (IsLeftAnswered folder) left)
left_answered None left each = tt
left_answered (Some folder) left each = of_each left each
  where
    of_told : (one : Left) → IsAnswered one.turned.history → IsLeftAnswered folder one
    of_told one is = by_told one.told
      where
        by_told : (o : Option TailHistory) →
            IfSome o (λ tail. closing_in tail.opening (drop (suc tail.opening) folder.events) ≡ Some (record { looks = tail.looks; faults = 0 }) → IsAnswered one.turned.history)
        by_told None = tt
        by_told (Some tail) = λ closed. is

    of_each : (l : List Left) → AllByRecursion (λ (one : Left). IsAnswered one.turned.history) l → AllByRecursion (IsLeftAnswered folder) l
    of_each [] all = tt
    of_each (one ∷ l) all = (of_told one all.0, of_each l all.1)

-- ---- as a run that reads begins to follow

module _ {T D : Type 0} (tails : TailWords T) (start : Began D) (shown later : Option FolderHistory) (moments : Option (List ℕ)) (lanes : List (Laning T)) (phase : Phase) (so_far : FilesSoFar) where
  abbrev files_in_phase : Option FolderHistory → Phase → FilesNow T
  files_in_phase folder at = record { shown = folder; moments = moments; lanes = lanes; phase = at }

  pub begins_to_follow : Files tails start (files_in_phase shown Reading) so_far → IsFollowing tails start.shown (files_in_phase later phase) so_far.left
  begins_to_follow files =
      let reading = files.reading refl in
      record {
        none_over = reading.none_over;
        may = λ is. subst (λ (l : List Left). AllByRecursion (λ (one : Left). IsAnswered one.turned.history) l) (sym reading.none_left) tt;
        in_lanes = λ some. answered_in tails.faults lanes (files.answered tt some).in_lanes;
        in_left = λ some. none_left_so (λ (one : Left) (tail : TailHistory). IsAnswered one.turned.history) later so_far.left reading.none_left;
      }
