-- What the keeper is told of a removed file whose last tail is closed (this project's profile): that it is forgotten, and where all that was told of
-- it ends.
use Rattle.std.specs.Prelude.{◌≡◌, Bool, true, false, [], ◌∷◌}
use Rattle.keeper.specs.Keeping.{Keeping}
use Rattle.wire_base.specs.declared.note.Note.{Note}
use Rattle.wire_base.specs.declared.note.Note.TheVariants.{Forget}
use Rattle.run_steps.specs.Telling.{IsFollowed, IsNotFollowed, TellsNotes}
use Rattle.run_steps.specs.declared.forgetting.RemovedFile.{RemovedFile}

abbrev pub forget_note : RemovedFile → Note
forget_note file = Forget file.slot file.epoch file.end

module _ (file : RemovedFile) (old new : Keeping) where
  pub record ForgetsFile : Type 0 where
    pub followed : IsFollowed file.slot.0 old.tracked
    pub tells : TellsNotes (forget_note file ∷ []) old new

  -- a slot without a Begin, or whose row is gone, has no note
  pub record ForgetsNothing : Type 0 where
    pub not_followed : IsNotFollowed file.slot.0 old.tracked
    pub same : new ≡ old

  -- by whether the keeper was told
  abbrev pub ForgetsBy : Bool → Type 0
  ForgetsBy true = ForgetsFile
  ForgetsBy false = ForgetsNothing
