-- What the keeper's turns of a round keep: what was collected, what is stored, that its areas still tell, and that all is stored
-- where memory was found and the disk went well.
use Rattle.std.proofs.Common.{◌≡◌, ℕ, ◌<◌, Bool, true, false, List, [], ◌∷◌, IsSome, Option, length, sym, ap, subst, ◌∙◌, arith}
use Rattle.keeper.specs.Collecting.{Collects}
use Rattle.keeper.specs.Keeping.{Keeping}
use Rattle.keeper.specs.Storing.{IsStoredInFull, Stores}
use Rattle.keeper.specs.declared.turn.KeeperTurn.{KeeperTurn}
use Rattle.keeper.specs.declared.turn.KeeperTurn.TheVariants.{Kept, Empty, DiskFault, NoMemory}
use Rattle.keeper.proofs.InARow.{collects_more, collects_none}
use Rattle.rounds.specs.KeeperTurns.{KeeperRan, KeeperRun, KeeperTurned, StillTell, StoringState, begun_stored, stored_of, stored_with, storing_state}
use Rattle.rounds.specs.Running.{StoringHasRun}
use Rattle.rounds.specs.Words.{DiskWords}
use Rattle.rounds.specs.declared.storing.Stored.{Stored}
use Rattle.rounds.specs.declared.storing.Storing.{Storing}

abbrev IsSet : Bool → Type 0
IsSet true = Unit {0}
IsSet false = ⊥

apart : {P : Type 0} → true ≡ false → P
apart is = absurd (subst IsSet is tt)

pub collects_same : (old new : Keeping) → new ≡ old → Collects old new
collects_same old new is = subst (Collects old) (sym is) (collects_none old)

pub tells_same : {D : Type 0} (contents : D → Option (List ℕ)) (stored : Stored) (old new : Storing D) → new ≡ record old { stored = stored } → StillTell contents old new
tells_same {D} contents stored old new is = record {
  a = λ told. subst (λ (s : Storing D). IsSome (contents s.a.now)) (sym is) told;
  b = λ told. subst (λ (s : Storing D). IsSome (contents s.b.now)) (sym is) told;
}

module _ {D : Type 0} (disks : DiskWords D) where
  collects_by : (turns : List KeeperTurn) (old new : StoringState D) → KeeperRun disks turns old new → Collects old.keeper new.keeper
  collects_by [] old new is = collects_same old.keeper new.keeper (ap (λ (s : StoringState D). s.keeper) is)
  collects_by (t ∷ ts) old new run = collects_more old.keeper run.0.keeper new.keeper run.1.collected (collects_by ts run.0 new run.2)

  pub collects_ran : (old new : Storing D) → StoringHasRun disks old new → Collects old.keeper.now new.keeper.now
  unfolding StoringHasRun
  collects_ran old new ran = collects_by ran.turns (storing_state old) (storing_state new) ran.ran

  IsStored : Keeping → Type 0
  IsStored keeper = Stores keeper.tracked keeper.store

  stores_by : (turns : List KeeperTurn) (old new : StoringState D) → KeeperRun disks turns old new → IsStored old.keeper → IsStored new.keeper
  unfolding IsStored
  stores_by [] old new is stores = subst (λ (s : StoringState D). Stores s.keeper.tracked s.keeper.store) (sym is) stores
  stores_by (t ∷ ts) old new run stores = stores_by ts run.0 new run.2 run.1.stored

  pub stores_ran : (old new : Storing D) → StoringHasRun disks old new → Stores old.keeper.now.tracked old.keeper.now.store → Stores new.keeper.now.tracked new.keeper.now.store
  unfolding StoringHasRun IsStored
  stores_ran old new ran stores = stores_by ran.turns (storing_state old) (storing_state new) ran.ran stores

  a_tells_by : (turns : List KeeperTurn) (old new : StoringState D) → KeeperRun disks turns old new → IsSome (disks.contents old.a) → IsSome (disks.contents new.a)
  a_tells_by [] old new is told = subst (λ (s : StoringState D). IsSome (disks.contents s.a)) (sym is) told
  a_tells_by (t ∷ ts) old new run told = a_tells_by ts run.0 new run.2 (run.1.a_told told)

  b_tells_by : (turns : List KeeperTurn) (old new : StoringState D) → KeeperRun disks turns old new → IsSome (disks.contents old.b) → IsSome (disks.contents new.b)
  b_tells_by [] old new is told = subst (λ (s : StoringState D). IsSome (disks.contents s.b)) (sym is) told
  b_tells_by (t ∷ ts) old new run told = b_tells_by ts run.0 new run.2 (run.1.b_told told)

  pub tells_ran : (old new : Storing D) → StoringHasRun disks old new → StillTell disks.contents old new
  unfolding StoringHasRun
  tells_ran old new ran = record {
    a = λ told. a_tells_by ran.turns (storing_state old) (storing_state new) ran.ran told;
    b = λ told. b_tells_by ran.turns (storing_state old) (storing_state new) ran.ran told;
  }

  -- ---- after turns that found memory, and whose disk went well, nothing is left to store

  full_after : (turn : KeeperTurn) (stored : Stored) (old new : StoringState D) → KeeperTurned disks turn old new → (stored_with turn stored).disk ≡ false → (stored_with turn stored).memory ≡ false → IsStoredInFull new.keeper
  full_after (Kept count) stored old new turned disk memory = turned.stored_in_full
  full_after Empty stored old new turned disk memory = subst IsStoredInFull (sym turned.kept_where_empty) turned.nothing_to_store
  full_after DiskFault stored old new turned disk memory = apart disk
  full_after NoMemory stored old new turned disk memory = apart memory

  full_run : (turns : List KeeperTurn) (stored : Stored) (old new : StoringState D) → KeeperRun disks turns old new → 0 < length turns → (stored_of stored turns).disk ≡ false → (stored_of stored turns).memory ≡ false → IsStoredInFull new.keeper
  full_run [] stored old new is some disk memory = absurd (omega (arith, some))
  full_run (t ∷ []) stored old new run some disk memory =
      subst (λ (s : StoringState D). IsStoredInFull s.keeper) (sym run.2) (full_after t stored old run.0 run.1 disk memory)
  full_run (t ∷ u ∷ us) stored old new run some disk memory = full_run (u ∷ us) (stored_with t stored) run.0 new run.2 (omega arith) disk memory

  pub in_full_by : (old new : Storing D) → KeeperRan disks old new → new.stored.disk ≡ false → new.stored.memory ≡ false → IsStoredInFull new.keeper.now
  in_full_by old new ran disk memory =
      full_run ran.turns begun_stored (storing_state old) (storing_state new) ran.ran ran.some
      (sym (ap (λ (s : Stored). s.disk) ran.stored) ∙ disk) (sym (ap (λ (s : Stored). s.memory) ran.stored) ∙ memory)

  pub in_full_ran : (old new : Storing D) → StoringHasRun disks old new → new.stored.disk ≡ false → new.stored.memory ≡ false → IsStoredInFull new.keeper.now
  unfolding StoringHasRun
  in_full_ran old new ran disk memory = in_full_by old new ran disk memory
