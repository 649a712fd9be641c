-- Whether another step may follow, in a run whose context has the queue and the box.
use Rattle.rounds.specs.Crewing.{Crewing}
use Rattle.rounds.specs.Rounds.{IsAble, IsReady}
use Rattle.rounds.specs.Words.{TailWords}
use Rattle.run_steps.specs.declared.context.Context.{Context}

-- another round may follow
abbrev pub IsReadyIn : {T W L D : Type 0} → TailWords T → Context → Crewing T W L D → Type 0
IsReadyIn tails context now = IsReady tails context.outlets.queue.now.id context.outlets.desk.now.id now

-- at least the crew may be taken apart
abbrev pub IsAbleIn : {T W L D : Type 0} → TailWords T → Context → Crewing T W L D → Type 0
IsAbleIn tails context now = IsAble tails context.outlets.queue.now.id context.outlets.desk.now.id now
