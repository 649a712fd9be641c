-- A run that reads its files may follow them, and close the tail of a file that is at rest, or that changed.
use Rattle.std.proofs.Common.{◌≡◌, [], ◌∷◌, ℕ, List, None, Option, Vec, refl}
use Rattle.std.specs.declared.alloc.Global.{Global}
use Rattle.lanes.specs.declared.lane.Lane.{Lane}
use Rattle.outside.specs.Folders.{FolderHistory}
use Rattle.rounds.specs.Crewing.{crewing}
use Rattle.rounds.specs.Words.{Words}
use Rattle.rounds.specs.declared.crew.Crew.{Crew}
use Rattle.rounds.specs.declared.storing.Storing.{Storing}
use Rattle.run_steps.specs.ClosesTail.{ClosesResting}
use Rattle.run_steps.specs.FollowingSteps.{following, reading, with_closed}
use Rattle.run_steps.specs.Goes.{Goes, StepWords, Stop, moments_at, readers_at, state_at}
use Rattle.run_steps.specs.Onward.{rules_of}
use Rattle.run_steps.specs.Readiness.{IsReadyIn}
use Rattle.run_steps.specs.RunState.{Finished, Following, Reading, within}
use Rattle.run_steps.specs.declared.context.Context.{Context}
use Rattle.run_steps.proofs.BeginningOne.{stands_at}
use Rattle.run_steps.proofs.Growing.{grown_by_nothing}
use Rattle.run_steps.proofs.GoesOn.{goes_by_nothing, keeps_at, keeps_closing}
use Rattle.run_steps.proofs.Onward.{onward_by_nothing}
use Rattle.run_steps.proofs.TailsLeft.{GoesOnStanding, onward_then, resting_onward}

begins_onward : {T W L D : Type 0} (words : Words T W L D) (shown : Option FolderHistory) (moments : Option (List ℕ)) (crew : Crew T W L) (storing : Storing D) →
    GoesOnStanding words (within shown moments crew storing Reading) (within shown moments crew storing Following)
begins_onward words shown moments crew storing start so_far stands = record {
  so_far = so_far;
  grown = grown_by_nothing so_far;
  stands = stands_at words start moments storing.a.now storing.b.now shown shown crew storing.keeper.now Following so_far (λ is. let no : Following ≡ Finished = is in cc) tt stands.files.shown stands;
}

module _ {T W L D F K B : Type 0} (words : StepWords T W L D F K B) (context : Context) (now : Stop T W L D F K B) (ready : IsReadyIn words.all.tails context (crewing now.crew now.storing)) where
  pub begins_to_follow_on : Goes words context None (reading now) (following now)
  begins_to_follow_on = record {
    keeps = keeps_at Reading Following (goes_by_nothing None now ready).keeps;
    onward = onward_then words.all (rules_of context) (state_at words (reading now)) (state_at words (reading now)) (state_at words (following now))
        (onward_by_nothing words.all (rules_of context) (state_at words (reading now))) (begins_onward words.all (words.seen now.system.folder.now).told (moments_at words now) now.crew now.storing);
  }

  pub closing_goes : (folder : F) (lanes : Vec (Lane T) Global) → ClosesResting words.all.tails (readers_at words now) (readers_at words (with_closed now folder lanes)) →
      Goes words context None (following now) (following (with_closed now folder lanes))
  closing_goes folder lanes closes = record {
    keeps = keeps_closing Following (closes.one ∷ []) (record now.system.folder { now = folder }) lanes (goes_by_nothing None (following now) ready).keeps
        (readers_at words (with_closed now folder lanes), closes.closes, refl) refl;
    onward = onward_then words.all (rules_of context) (state_at words (following now)) (state_at words (following now)) (state_at words (following (with_closed now folder lanes)))
        (onward_by_nothing words.all (rules_of context) (state_at words (following now)))
        (resting_onward words.all closes.one (words.seen now.system.folder.now) (words.seen folder) (moments_at words now) now.crew lanes now.storing closes.rests
        (readers_at words (with_closed now folder lanes), closes.closes, refl));
  }
