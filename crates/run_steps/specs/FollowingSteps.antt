-- Steps of a run that follows its files (this project's profile): a run that reads them begins to follow them, and between two rounds the tail of a file
-- that is at rest, or that changed, is closed. What was known of the run before is known of it after.
use Rattle.std.specs.Prelude.{None, Vec}
use Rattle.std.specs.declared.alloc.Global.{Global}
use Rattle.lanes.specs.declared.lane.Lane.{Lane}
use Rattle.rounds.specs.Crewing.{crewing}
use Rattle.run_steps.specs.ClosesTail.{ClosesResting}
use Rattle.run_steps.specs.Goes.{Goes, StepWords, Stop, readers_at}
use Rattle.run_steps.specs.Readiness.{IsReadyIn}
use Rattle.run_steps.specs.RunState.{Following, Reading}
use Rattle.run_steps.specs.declared.context.Context.{Context}

module _ {T W L D F K B : Type 0} where
  -- where files are read, and where they are followed
  abbrev pub reading : Stop T W L D F K B → Stop T W L D F K B
  reading stop = record stop { phase = Reading }

  abbrev pub following : Stop T W L D F K B → Stop T W L D F K B
  following stop = record stop { phase = Following }

  -- all else is as it was
  abbrev pub with_closed : Stop T W L D F K B → F → Vec (Lane T) Global → Stop T W L D F K B
  with_closed stop folder lanes = record stop {
    crew = record stop.crew { lanes = lanes };
    system = record stop.system { folder = record stop.system.folder { now = folder } };
  }

module _ {T W L D F K B : Type 0} (words : StepWords T W L D F K B) where
  -- a run that reads its files may follow them from then on
  abbrev pub BeginsToFollow : Type 0
  BeginsToFollow = (context : Context) (now : Stop T W L D F K B) → IsReadyIn words.all.tails context (crewing now.crew now.storing) →
      Goes words context None (reading now) (following now)

  -- the tail of a file that is at rest, or that changed, is closed
  abbrev pub ClosingsAreSteps : Type 0
  ClosingsAreSteps = (context : Context) (now : Stop T W L D F K B) (folder : F) (lanes : Vec (Lane T) Global) → IsReadyIn words.all.tails context (crewing now.crew now.storing) →
      ClosesResting words.all.tails (readers_at words now) (readers_at words (with_closed now folder lanes)) → Goes words context None (following now) (following (with_closed now folder lanes))
