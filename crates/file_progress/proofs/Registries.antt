-- What is given by areas that were picked.
use Rattle.std.proofs.Common.{◌≡◌, ℕ, List, Result, Ok, Err, IfOk}
use Rattle.registry_store.specs.Answer.{choice_of}
use Rattle.registry_store.specs.Choice.{IsChoice}
use Rattle.registry_store.specs.declared.choice.Pick.{Pick}
use Rattle.registry_store.specs.declared.pick_error.PickError.{PickError}
use Rattle.report.specs.declared.status.Status.{Status}
use Rattle.file_progress.specs.Registry.{GivesRegistry, StandsForPicked}
use Rattle.file_progress.specs.declared.registry.Registry.{Registry}

pub gives : (picked : Result Pick PickError) (result : Result Registry Status) (first second : List ℕ) → StandsForPicked picked result
    → IfOk picked (λ one. IsChoice first second (choice_of one)) → IfOk result (GivesRegistry first second)
gives (Ok picked) (Ok registry) first second stands chosen = record { choice = choice_of picked; chosen = chosen; given = stands }
gives (Ok picked) (Err status) first second stands chosen = tt
gives (Err error) (Ok registry) first second stands chosen = absurd stands
gives (Err error) (Err status) first second stands chosen = tt
