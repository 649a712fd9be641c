-- What the beginning of a file keeps, whatever it answers.
use Rattle.std.proofs.Common.{◌≡◌, ◌⊎◌, inl, inr, ⊎_elim, ℕ, ◌+◌, ◌≤◌, ◌%◌, List, [], ◌∷◌, ◌++◌, length, Result, Ok, Err, sym, ap, subst, ◌∙◌, arith}
use Rattle.std.proofs.lemmas.List.{length-append, length-map}
use Rattle.event_tree.specs.declared.settings.Settings.{Settings}
use Rattle.harvester.specs.declared.harvester.Harvester.{Harvester}
use Rattle.keeper.specs.Keeping.{Keeping}
use Rattle.lanes.specs.Laning.{Laning, laning}
use Rattle.report.specs.declared.passing.Why.{Why}
use Rattle.report.specs.declared.passing.Why.TheVariants.{Doubled, Gone, Moved, Old, Small}
use Rattle.rounds.specs.Crewed.{lanings}
use Rattle.rounds.specs.Words.{TailWords}
use Rattle.rounds.specs.declared.crew.Crew.{Crew}
use Rattle.run_steps.specs.Beginning.{AdmitsAt, Beginning, BeginsOne, ClosesFile, GivesUp, HasOpened, IsOpenedFor, ListedFile, TakesIn}
use Rattle.run_steps.specs.Telling.{TellsBegin, begin_note}
use Rattle.run_steps.specs.declared.begin_error.BeginError.{BeginError}
use Rattle.run_steps.specs.declared.begin_error.BeginError.TheVariants.{FolderFault, NoMemory, NoNative}
use Rattle.run_steps.specs.declared.begin.Admission.{Admission}
use Rattle.run_steps.specs.declared.begin.Admission.TheVariants.{Failed, Followed, Skipped}

-- the lanes have the same harvesters, or one of them has one more
pub record TakesOne {T : Type 0} (tails : TailWords T) (settings : Settings) (file : ListedFile) (old new : List (Laning T)) : Type 0 where
  pub tail : T
  pub harvester : Harvester T
  pub opened : IsOpenedFor tails settings file tail harvester
  pub number : ℕ
  pub admits : AdmitsAt number harvester old new

pub record BeginKeeps {T W L : Type 0} (tails : TailWords T) (settings : Settings) (file : ListedFile) (old new : Beginning T W L) : Type 0 where
  pub lanes : (lanings new.crew.lanes.items ≡ lanings old.crew.lanes.items) ⊎ TakesOne tails settings file (lanings old.crew.lanes.items) (lanings new.crew.lanes.items)
  pub others : new.crew ≡ record old.crew { lanes = new.crew.lanes }
  pub keeper : (new.keeper ≡ old.keeper) ⊎ TellsBegin file.slot file.listed file.start old.keeper new.keeper
  pub faults_never_fall : old.folder.faults ≤ new.folder.faults

admitted_many : {U : Type 0} (number : ℕ) (harvester : Harvester U) (old new : List (Laning U)) → AdmitsAt number harvester old new → length new ≡ length old
admitted_many number harvester old new admits = omega (
  arith,
  ap length admits.were,
  ap length admits.are,
  length-append admits.front (admits.lane ∷ admits.back),
  length-append admits.front ((record admits.lane { harvesters = admits.lane.harvesters ++ harvester ∷ [] }) ∷ admits.back),
)

module _ {T W L : Type 0} (tails : TailWords T) (settings : Settings) (file : ListedFile) where
  none_opened : (old new : Beginning T W L) → new.crew ≡ old.crew → new.keeper ≡ old.keeper → old.folder.faults ≤ new.folder.faults → BeginKeeps tails settings file old new
  none_opened old new crew keeper faults = record {
    lanes = inl (ap (λ (c : Crew T W L). lanings c.lanes.items) crew);
    others = crew ∙ ap (λ (c : Crew T W L). record old.crew { lanes = c.lanes }) (sym crew);
    keeper = inl keeper;
    faults_never_fall = faults;
  }

  -- behind an opening, which changed the folder alone
  behind_opening : (tail : T) (old mid new : Beginning T W L) → HasOpened tails file tail old mid → BeginKeeps tails settings file mid new → BeginKeeps tails settings file old new
  behind_opening tail old mid new opened keeps = record {
    lanes = subst (λ (c : Crew T W L). (lanings new.crew.lanes.items ≡ lanings c.lanes.items) ⊎ TakesOne tails settings file (lanings c.lanes.items) (lanings new.crew.lanes.items)) opened.crew keeps.lanes;
    others = subst (λ (c : Crew T W L). new.crew ≡ record c { lanes = new.crew.lanes }) opened.crew keeps.others;
    keeper = subst (λ (k : Keeping). (new.keeper ≡ k) ⊎ TellsBegin file.slot file.listed file.start k new.keeper) opened.keeper keeps.keeper;
    faults_never_fall = omega (arith, opened.opens.faults_never_fall, keeps.faults_never_fall);
  }

  follows_keeps : (tail : T) (harvester : Harvester T) (old new : Beginning T W L) → IsOpenedFor tails settings file tail harvester → TakesIn file harvester old new → BeginKeeps tails settings file old new
  follows_keeps tail harvester old new opened taken = record {
    lanes = inr (record { tail = tail; harvester = harvester; opened = opened; number = file.slot.0 % length old.crew.lanes.items; admits = taken.admits });
    others = taken.others;
    keeper = inr taken.tells;
    faults_never_fall = omega (arith, ap (λ f. f.faults) taken.folder);
  }

  gives_up_keeps : (tail : T) (old new : Beginning T W L) → GivesUp tails file tail old new → BeginKeeps tails settings file old new
  gives_up_keeps tail old new gives_up = record {
    lanes = inl gives_up.lanes.lanes;
    others = gives_up.lanes.others;
    keeper = gives_up.keeper;
    faults_never_fall = omega (arith, gives_up.closes.counts_faults);
  }

  closes_keeps : (Why : T → T → Type 0) (old new : Beginning T W L) → ClosesFile tails settings file Why old new → BeginKeeps tails settings file old new
  closes_keeps Why old new closed = behind_opening closed.fresh old closed.mid new closed.opened
      (none_opened closed.mid new closed.closed.closed.crew closed.closed.closed.keeper (omega (arith, closed.closed.closed.closes.counts_faults)))

  pub begin_keeps : (result : Result Admission BeginError) (old new : Beginning T W L) → BeginsOne tails settings file result old new → BeginKeeps tails settings file old new
  begin_keeps (Ok Followed) old new begins = behind_opening begins.fresh old begins.mid new begins.opened (follows_keeps begins.tail begins.follows.harvester begins.mid new begins.follows.opened begins.follows.taken)
  begin_keeps (Ok (Skipped Gone)) old new begins = none_opened old new begins.crew begins.keeper begins.opens.faults_never_fall
  begin_keeps (Ok (Skipped Moved)) old new begins = closes_keeps _ old new begins
  begin_keeps (Ok (Skipped Doubled)) old new begins = absurd begins
  begin_keeps (Ok (Skipped Old)) old new begins = absurd begins
  begin_keeps (Ok (Skipped Small)) old new begins = closes_keeps _ old new begins
  begin_keeps (Ok Failed) old new (inr begins) = closes_keeps _ old new begins
  begin_keeps (Ok Failed) old new (inl begins) = none_opened old new begins.crew begins.keeper begins.opens.faults_never_fall
  begin_keeps (Err FolderFault) old new begins = absurd begins
  begin_keeps (Err NoMemory) old new (inl begins) = none_opened old new begins.crew begins.keeper begins.opens.faults_never_fall
  begin_keeps (Err NoMemory) old new (inr (inl begins)) = behind_opening begins.fresh old begins.mid new begins.opened (gives_up_keeps begins.tail begins.mid new begins.gives_up)
  begin_keeps (Err NoMemory) old new (inr (inr begins)) = closes_keeps _ old new begins
  begin_keeps (Err (NoNative slot)) old new begins = closes_keeps _ old new begins.1

  -- ---- in numbers

  module _ (old new : Beginning T W L) (keeps : BeginKeeps tails settings file old new) where
    pub as_many_lanes : length new.crew.lanes.items ≡ length old.crew.lanes.items
    as_many_lanes =
        let many : length (lanings new.crew.lanes.items) ≡ length (lanings old.crew.lanes.items) =
        ⊎_elim (ap length) (λ one. admitted_many one.number one.harvester (lanings old.crew.lanes.items) (lanings new.crew.lanes.items) one.admits) keeps.lanes in
        sym (length-map new.crew.lanes.items laning) ∙ many ∙ length-map old.crew.lanes.items laning

    pub carriers_kept : new.crew.carriers ≡ old.crew.carriers
    carriers_kept = ap (λ (c : Crew T W L). c.carriers) keeps.others

    pub pace_kept : new.crew.pace ≡ old.crew.pace
    pace_kept = ap (λ (c : Crew T W L). c.pace) keeps.others

    pub keeper_others : new.keeper ≡ record old.keeper { tracked = new.keeper.tracked }
    keeper_others = ⊎_elim (λ same. same ∙ ap (λ (k : Keeping). record old.keeper { tracked = k.tracked }) (sym same)) (λ tells. tells.tells.others_stay) keeps.keeper

    pub one_note_more : length new.keeper.tracked.notes ≤ length old.keeper.tracked.notes + 1
    one_note_more = ⊎_elim (λ same. omega (arith, ap (λ (k : Keeping). length k.tracked.notes) same))
        (λ tells. omega (arith, ap length tells.tells.told, length-append old.keeper.tracked.notes (begin_note file.slot file.listed tells.key file.start ∷ []))) keeps.keeper
