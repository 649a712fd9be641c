-- The epochs of a chain of parts: each is reported together.
use Rattle.std.proofs.Common.{◌≡◌, inl, inr, ℕ, Bool, true, false, List, [], ◌∷◌, refl, sym, subst, ◌∙◌, arith, eqb, if◌then◌else◌}
use Rattle.std.specs.List.{AllByRecursion}
use Rattle.std.proofs.lemmas.Bool.{eqb-true, eq-eqb}
use Rattle.file_looks.specs.Reading.{EachReadsLife, last_life}
use Rattle.file_looks.specs.Segment.{steps_in}
use Rattle.multiline_core.specs.Rule.{IsGroupRule}
use Rattle.outside.specs.Files.{File}
use Rattle.told_events.specs.Rules.{Rules}
use Rattle.slot_parts.specs.Parts.{AreChained, EpochParts, GoOnWithin, GoesOn, IsToldEpoch, IsToldPart, Part, Runs, epochs_of, runs_from, segments_in, told_to, with_epoch, with_part}
use Rattle.slot_parts.proofs.Together.{told_together}

module _ (rules : Rules) (file : File) (MayEnd : ℕ → Type 0) (HasWaited : Type 0) where
  abbrev IsTold : Part → Type 0
  IsTold part = IsToldPart rules file MayEnd HasWaited part

  -- parts of one epoch from this place on, after this life
  record AreOfOne (place life : ℕ) (parts : List Part) : Type 0 where
    on : GoOnWithin place parts
    reads : EachReadsLife file life (segments_in parts)
    told : AllByRecursion IsTold parts

  record IsOfOne (one : EpochParts) : Type 0 where
    life : ℕ
    are : AreOfOne one.start life one.parts

  record AreRuns (place life : ℕ) (runs : Runs) : Type 0 where
    present : AreOfOne place life runs.present
    later : AllByRecursion IsOfOne runs.later

  are_runs : (epoch place life : ℕ) (parts : List Part) → AreChained epoch place parts → EachReadsLife file life (segments_in parts) → AllByRecursion IsTold parts →
      AreRuns place life (runs_from epoch parts)
  are_runs epoch place life [] chained reads told = record { present = record { on = tt; reads = tt; told = tt }; later = tt }
  are_runs epoch place life (part ∷ parts) chained reads told =
      by_case (eqb part.epoch epoch) refl chained.0
      (are_runs part.epoch (told_to part) (last_life life (steps_in part.segment)) parts chained.1 reads.2 told.1)
    where
      by_case : (b : Bool) → eqb part.epoch epoch ≡ b → GoesOn epoch place part →
          AreRuns (told_to part) (last_life life (steps_in part.segment)) (runs_from part.epoch parts) →
          AreRuns place life (if b then with_part part (runs_from epoch parts) else with_epoch part (runs_from part.epoch parts))
      by_case true is (inl same) later =
          let here : AreRuns (told_to part) (last_life life (steps_in part.segment)) (runs_from epoch parts) =
          subst (λ (n : ℕ). AreRuns (told_to part) (last_life life (steps_in part.segment)) (runs_from n parts)) same.0 later in
          record {
            present = record { on = (same.1, here.present.on); reads = (reads.0, reads.1, here.present.reads); told = (told.0, here.present.told) };
            later = here.later;
          }
      by_case true is (inr next) later = absurd (let n = next.0 in let e : part.epoch ≡ epoch = eqb-true part.epoch epoch is in omega (arith, n, e))
      by_case false is (inl same) later = absurd (let e : true ≡ false = sym (eq-eqb part.epoch epoch same.0) ∙ is in cc)
      by_case false is (inr next) later = record {
        present = record { on = tt; reads = tt; told = tt };
        later = (
          record {
            life = life;
            are = record { on = (next.1, later.present.on); reads = (reads.0, reads.1, later.present.reads); told = (told.0, later.present.told) };
          },
          later.later,
        );
      }

  module _ (in_range : IsGroupRule rules.events) where
    each_together : (epochs : List EpochParts) → AllByRecursion IsOfOne epochs → AllByRecursion (IsToldEpoch rules file MayEnd HasWaited) epochs
    each_together [] all = tt
    each_together (one ∷ epochs) all = (
      told_together rules file MayEnd HasWaited in_range one.start all.0.life one.parts all.0.are.on all.0.are.reads all.0.are.told,
      each_together epochs all.1,
    )

    pub epochs_together : (epoch base life : ℕ) (parts : List Part) → AreChained epoch base parts → EachReadsLife file life (segments_in parts) →
        AllByRecursion IsTold parts → AllByRecursion (IsToldEpoch rules file MayEnd HasWaited) (epochs_of epoch base parts)
    epochs_together epoch base life parts chained reads told =
        let runs = are_runs epoch base life parts chained reads told in
        each_together (epochs_of epoch base parts) (record { life = life; are = runs.present }, runs.later)
