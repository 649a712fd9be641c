-- Once files were begun, rounds may follow as before, and the areas are at rest still.
use Rattle.std.proofs.Common.{◌≡◌, ◌⊎◌, inl, inr, ℕ, suc, List, [], ◌∷◌, ◌++◌, take, Result, Ok, Err, IfOk, IfErr, sym, ap, subst, ◌∙◌, append_assoc}
use Rattle.std.specs.Borrow.{MutBor}
use Rattle.atomic_table.specs.Seated.{TableId}
use Rattle.event_tree.specs.declared.settings.Settings.{Settings}
use Rattle.keeper.specs.Keeping.{Keeping}
use Rattle.prospect.specs.declared.listed.Listed.{Listed}
use Rattle.registry_store.specs.Settled.{AreSettled}
use Rattle.registry_store.specs.Standing.{chosen_by}
use Rattle.rounds.specs.Crewing.{crewing}
use Rattle.rounds.specs.Rounds.{IsReady}
use Rattle.rounds.specs.Words.{DiskWords, TailWords}
use Rattle.wire_base.specs.declared.note.Note.{Note}
use Rattle.wire_base.specs.declared.numbers.Moment.{Moment}
use Rattle.wire_base.specs.declared.row.Row.{Row}
use Rattle.run_steps.specs.BeginFor.{start_among}
use Rattle.run_steps.specs.Areas.{IsAtRest}
use Rattle.run_steps.specs.Beginning.{Beginning, BeginsOne}
use Rattle.run_steps.specs.BeginsAll.{BeginsAll, BeginsFrom, BeginsSome, Came, came_of, file_at}
use Rattle.run_steps.specs.Telling.{TellsBegin, TellsNotes}
use Rattle.run_steps.specs.Worked.{lent}
use Rattle.run_steps.specs.declared.begin_error.BeginError.{BeginError}
use Rattle.run_steps.specs.declared.beginning.BegunFiles.{BegunFiles}
use Rattle.run_steps.proofs.Able.{able_on}
use Rattle.run_steps.proofs.Keeps.{begin_keeps, keeper_others}
use Rattle.run_steps.proofs.Notes.{moments_are_told}
use Rattle.run_steps.specs.declared.begin.Admission.{Admission}

pub rests_on : {D : Type 0} (disks : DiskWords D) (a b : D) (more : List Note) (old new : Keeping) → TellsNotes more old new → IsAtRest disks old a b → IsAtRest disks new a b
rests_on disks a b more old new tells rests = record {
  settled = subst (λ (k : Keeping). AreSettled disks.contents disks.images a b (chosen_by k.store)) (sym tells.others_stay) rests.settled;
  committed = record {
    rest = rests.committed.rest ++ more;
    are = tells.told ∙ ap (λ (l : List Note). l ++ more) rests.committed.are ∙ append_assoc old.tracked.committed rests.committed.rest more
        ∙ ap (λ (l : List Note). l ++ (rests.committed.rest ++ more)) (sym tells.committed_stays);
  };
}

module _ {T W L : Type 0} (tails : TailWords T) (settings : Settings) (rows : List Row) (now : Moment) where
  -- what each step keeps, all of them keep
  module _ (P : Beginning T W L → Type 0) (one : (slot : ℕ) (listed : Listed) (result : Result Admission BeginError) (old new : Beginning T W L) → BeginsOne tails settings (file_at rows slot listed now) result old new → P old → P new)
      (told : (mid new : Beginning T W L) (more : List Note) → TellsNotes more mid.keeper new.keeper → new ≡ record mid { keeper = new.keeper } → P mid → P new) where
    through_files : (slot : ℕ) (listed : List Listed) (came : Came) (old new : Beginning T W L) → BeginsFrom tails settings rows now slot listed came old new → P old → P new
    through_files slot [] came old new is holds = subst P (sym is.1) holds
    through_files slot (first ∷ listed) came old new is holds =
        through_files (suc slot) listed is.later is.mid new is.rest (one slot first (Ok is.begun) old is.mid is.first holds)

    pub through : (listed : List Listed) (result : Result BegunFiles BeginError) (old new : Beginning T W L) → IfOk result (λ files. BeginsAll tails settings rows now listed (came_of files) old new) →
        IfErr result (λ what. BeginsSome tails settings rows now listed what old new) → P old → P new
    through listed (Ok files) old new is ended holds =
        let more = moments_are_told rows 0 listed is.mid.keeper new.keeper is.tell in
        told is.mid new more.more more.tells is.others (through_files 0 listed (came_of files) old is.mid is.begins holds)
    through listed (Err what) old new begun (inl is) holds =
        one is.count is.one (Err is.ended.what) is.mid new is.ended.begins (through_files 0 (take is.count listed) is.came old is.mid is.begins holds)
    through listed (Err what) old new begun (inr (memory, inl is)) holds = through_files 0 (take is.count listed) is.came old new is.begins holds
    through listed (Err what) old new begun (inr (memory, inr is)) holds =
        let more = moments_are_told rows 0 (take is.tell.count listed) is.mid.keeper new.keeper is.tell.tell in
        told is.mid new more.more more.tells is.others (through_files 0 listed is.came old is.mid is.begins holds)

  -- ---- rounds may follow

  module _ {D : Type 0} (queue desk : TableId) (loan : MutBor Keeping) (a b : MutBor D) where
    abbrev pub MayRun : Beginning T W L → Type 0
    MayRun state = IsReady tails queue desk (crewing state.crew (lent loan state.keeper a b))

    one_runs : (slot : ℕ) (listed : Listed) (result : Result Admission BeginError) (old new : Beginning T W L) → BeginsOne tails settings (file_at rows slot listed now) result old new → MayRun old → MayRun new
    one_runs slot listed result old new is ready =
        let keeps = begin_keeps tails settings (file_at rows slot listed now) result old new is in
        let others = keeper_others tails settings (file_at rows slot listed now) old new keeps in
        record {
          able = able_on tails settings (file_at rows slot listed now) old new keeps queue desk (lent loan old.keeper a b) (lent loan new.keeper a b) (ap (λ (k : Keeping). k.pass) others) ready.able;
          is_open = ap (λ (k : Keeping). k.store.closed) others ∙ ready.is_open;
        }

    pub told_runs : (mid new : Beginning T W L) (more : List Note) → TellsNotes more mid.keeper new.keeper → new ≡ record mid { keeper = new.keeper } → MayRun mid → MayRun new
    told_runs mid new more tells others ready = subst MayRun (sym others) (record {
      able = record {
        some_lanes = ready.able.some_lanes;
        some_carriers = ready.able.some_carriers;
        have = ready.able.have;
        lanes = ready.able.lanes;
        pass = ap (λ (k : Keeping). k.pass.desk) tells.others_stay ∙ ready.able.pass;
      };
      is_open = ap (λ (k : Keeping). k.store.closed) tells.others_stay ∙ ready.is_open;
    })

    pub ready_begun : (listed : List Listed) (result : Result BegunFiles BeginError) (old new : Beginning T W L) → IfOk result (λ files. BeginsAll tails settings rows now listed (came_of files) old new) →
        IfErr result (λ what. BeginsSome tails settings rows now listed what old new) → MayRun old → MayRun new
    ready_begun listed result old new begun ended ready = through MayRun one_runs told_runs listed result old new begun ended ready

  -- ---- at rest

  module _ {D : Type 0} (disks : DiskWords D) (a b : D) where
    abbrev pub Rests : Beginning T W L → Type 0
    Rests state = IsAtRest disks state.keeper a b

    one_rests : (slot : ℕ) (listed : Listed) (result : Result Admission BeginError) (old new : Beginning T W L) → BeginsOne tails settings (file_at rows slot listed now) result old new → Rests old → Rests new
    one_rests slot listed result old new is rests = by_case (begin_keeps tails settings (file_at rows slot listed now) result old new is).keeper
      where
        by_case : (new.keeper ≡ old.keeper) ⊎ TellsBegin (record { 0 = slot }) listed (start_among rows listed) old.keeper new.keeper → IsAtRest disks new.keeper a b
        by_case (inl same) = subst (λ (k : Keeping). IsAtRest disks k a b) (sym same) rests
        by_case (inr told) = rests_on disks a b _ old.keeper new.keeper told.tells rests

    told_rests : (mid new : Beginning T W L) (more : List Note) → TellsNotes more mid.keeper new.keeper → new ≡ record mid { keeper = new.keeper } → Rests mid → Rests new
    told_rests mid new more tells others rests = rests_on disks a b more mid.keeper new.keeper tells rests

    pub rest_begun : (listed : List Listed) (result : Result BegunFiles BeginError) (old new : Beginning T W L) → IfOk result (λ files. BeginsAll tails settings rows now listed (came_of files) old new) →
        IfErr result (λ what. BeginsSome tails settings rows now listed what old new) → Rests old → Rests new
    rest_begun listed result old new begun ended rests = through Rests one_rests told_rests listed result old new begun ended rests
