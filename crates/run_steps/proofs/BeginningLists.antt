-- Files begun one behind the other, in the order of their slots: one more, and what stays over all of them.
use Rattle.std.proofs.Common.{◌≡◌, ◌⊎◌, ◌||◌, inl, inr, ⊎_elim, ℕ, zero, suc, ◌+◌, ◌-◌, ◌^◌, ◌≤◌, ◌<◌, Bool, true, false, List, [], ◌∷◌, ◌++◌, length, take, append-nil, append_assoc, Some, Result, Ok, Err, IfOk, IfErr, IsErrAnd, refl, sym, ap, subst, ◌∙◌, arith}
use Rattle.std.proofs.Math.Bool.{or-false, or-true, or_assoc}
use Rattle.std.proofs.lemmas.Bool.{cases_lt}
use Rattle.std.proofs.lemmas.Option.{slice_get_within}
use Rattle.std.specs.List.{AllByRecursion}
use Rattle.std.specs.Prelude.{slice_get}
use Rattle.event_tree.specs.declared.settings.Settings.{Settings}
use Rattle.keeper.specs.Keeping.{Keeping}
use Rattle.outside.specs.Counts.{Rose, added_counts}
use Rattle.prospect.specs.declared.listed.Listed.{Listed}
use Rattle.report.specs.declared.passing.Passing.{Passing}
use Rattle.report.specs.declared.passing.Why.{Why}
use Rattle.rounds.specs.Crewed.{lanings}
use Rattle.rounds.specs.Words.{TailWords}
use Rattle.wire_base.specs.declared.note.Begin.{Begin}
use Rattle.wire_base.specs.declared.note.Note.{Note}
use Rattle.wire_base.specs.declared.numbers.Moment.{Moment}
use Rattle.wire_base.specs.declared.numbers.Slot.{Slot}
use Rattle.wire_base.specs.declared.row.Row.{Row}
use Rattle.run_steps.specs.BeginErrors.{ended_behind}
use Rattle.run_steps.specs.Beginning.{Beginning, BeginsOne, ListedFile}
use Rattle.run_steps.specs.BeginsAll.{AreSlotsBelow, BeginsAll, BeginsFrom, BeginsOrPasses, BeginsSome, Came, EndsBeginning, EndsInFiles, EndsInOne, IsSlotBelow, KeepsOthers, both_came, came_by, came_of, file_at, has_failed, many_harvesters, none_came, passed_by}
use Rattle.run_steps.specs.BeginFor.{start_among}
use Rattle.run_steps.specs.KnownKeys.{KnowsAmong}
use Rattle.run_steps.specs.Telling.{TellMoments, TellSomeMoments, TellsNotes}
use Rattle.run_steps.specs.declared.begin_error.BeginError.{BeginError}
use Rattle.run_steps.specs.declared.begin_error.BeginError.TheVariants as begin
use Rattle.run_steps.specs.declared.begin_error.BeginError.TheVariants.{NoMemory}
use Rattle.run_steps.proofs.Admitting.{each_still}
use Rattle.run_steps.proofs.Keeps.{BeginKeeps, TakesOne, as_many_lanes, begin_keeps, carriers_kept, keeper_others, one_note_more, pace_kept}
use Rattle.run_steps.proofs.KnownKeys.{IsOfKeys, of_front, told_knows}
use Rattle.run_steps.proofs.Notes.{moments_are_told}
use Rattle.run_steps.specs.OpeningKeeps.{followed_by}
use Rattle.run_steps.proofs.Tails.{as_many_harvesters, as_many_open}
use Rattle.run_steps.proofs.ReadersGo.{rose_on, rose_since}
use Rattle.run_steps.specs.declared.begin.Admission.{Admission}
use Rattle.run_steps.specs.declared.begin.Admission.TheVariants.{Failed, Followed, Skipped}
use Rattle.run_steps.specs.declared.beginning.BegunFiles.{BegunFiles}

pub take_one : (listed : List Listed) (count : ℕ) (one : Listed) → slice_get listed count ≡ Some one → take (suc count) listed ≡ take count listed ++ one ∷ []
take_one [] count one is = absurd cc
take_one (first ∷ listed) zero one is = let same : first ≡ one = cc in ap (λ (l : Listed). l ∷ []) same
take_one (first ∷ listed) (suc count) one is = ap (λ (l : List Listed). first ∷ l) (take_one listed count one is)

take_short : (count : ℕ) (listed : List Listed) → length (take count listed) ≤ count
take_short zero listed = omega arith
take_short (suc count) [] = omega arith
take_short (suc count) (one ∷ listed) = let rest = take_short count listed in omega (arith, rest)

-- ---- what came of some, and then of others

abbrev pub came_so : List Passing → Bool → Came
came_so passed faulty = record { passed = passed; faulty = faulty }

came_none : (came : Came) → both_came came none_came ≡ came
came_none came = ap (λ (l : List Passing). came_so l (came.faulty || false)) (append-nil came.passed) ∙ ap (came_so came.passed) (or-false came.faulty)

came_assoc : (one two three : Came) → both_came (both_came one two) three ≡ both_came one (both_came two three)
came_assoc one two three =
    ap (λ (l : List Passing). came_so l ((one.faulty || two.faulty) || three.faulty)) (append_assoc one.passed two.passed three.passed)
    ∙ ap (came_so (one.passed ++ (two.passed ++ three.passed))) (or_assoc one.faulty two.faulty three.faulty)

-- a tail that met a fault leaves it with the folder
closing_rose : (count faults now : ℕ) → Rose 0 faults → added_counts count faults ≤ now → Rose count now
closing_rose count faults now rose le = by_case rose (cases_lt count (2 ^ 64 - 1))
  where
    by_case : Rose 0 faults → (count < 2 ^ 64 - 1) ⊎ (2 ^ 64 - 1 ≤ count) → Rose count now
    by_case (inl some) (inl less) = inl (omega (arith, some, less, le))
    by_case (inr full) (inl less) = inl (omega (arith, full, less, le))
    by_case some (inr end) = inr (omega (arith, end, le))

take_shorter : (count : ℕ) (listed : List Listed) → length (take count listed) ≤ length listed
take_shorter zero listed = omega arith
take_shorter (suc count) [] = omega arith
take_shorter (suc count) (one ∷ listed) = let rest = take_shorter count listed in omega (arith, rest)

module _ {T W L : Type 0} (tails : TailWords T) (settings : Settings) (rows : List Row) (now : Moment) where
  -- what some steps keep, in slots below this one, of which at most so many opened a file
  pub record KeepsSteps (top count : ℕ) (old new : Beginning T W L) : Type 0 where
    pub carriers : new.crew.carriers ≡ old.crew.carriers
    pub pace : new.crew.pace ≡ old.crew.pace
    pub as_many_lanes : length new.crew.lanes.items ≡ length old.crew.lanes.items
    pub keeper : new.keeper ≡ record old.keeper { tracked = new.keeper.tracked }
    pub faults_never_fall : old.folder.faults ≤ new.folder.faults
    pub notes : length new.keeper.tracked.notes ≤ length old.keeper.tracked.notes + count
    pub slots : (most : ℕ) → top ≤ most → AreSlotsBelow most (lanings old.crew.lanes.items) → AreSlotsBelow most (lanings new.crew.lanes.items)
    pub few_open : old.folder.open_tails + count < 2 ^ 64 - 1 → new.folder.open_tails ≤ old.folder.open_tails + count
    pub open_tails : old.folder.open_tails + count < 2 ^ 64 - 1 → new.folder.open_tails + many_harvesters old ≡ old.folder.open_tails + many_harvesters new

  none_keeps : (top : ℕ) (old new : Beginning T W L) → new ≡ old → KeepsSteps top 0 old new
  none_keeps top old new same = subst (λ (s : Beginning T W L). KeepsSteps top 0 old s) (sym same) (record {
    carriers = refl;
    pace = refl;
    as_many_lanes = refl;
    keeper = refl;
    faults_never_fall = omega arith;
    notes = omega arith;
    slots = λ most le below. below;
    few_open = λ below. omega arith;
    open_tails = λ below. refl;
  })

  keeps_then : (top first then : ℕ) (old mid new : Beginning T W L) → KeepsSteps top first old mid → KeepsSteps top then mid new → KeepsSteps top (first + then) old new
  keeps_then top first then old mid new one two = record {
    carriers = two.carriers ∙ one.carriers;
    pace = two.pace ∙ one.pace;
    as_many_lanes = two.as_many_lanes ∙ one.as_many_lanes;
    keeper = two.keeper ∙ ap (λ (k : Keeping). record k { tracked = new.keeper.tracked }) one.keeper;
    faults_never_fall = omega (arith, one.faults_never_fall, two.faults_never_fall);
    notes = omega (arith, one.notes, two.notes);
    slots = λ most le below. two.slots most le (one.slots most le below);
    few_open = λ below. let few = one.few_open (omega (arith, below)) in let last = two.few_open (omega (arith, below, few)) in omega (arith, few, last);
    open_tails = λ below. let few = one.few_open (omega (arith, below)) in let were = one.open_tails (omega (arith, below)) in let are = two.open_tails (omega (arith, below, few)) in omega (arith, were, are);
  }

  higher : (low top count : ℕ) (old new : Beginning T W L) → low ≤ top → KeepsSteps low count old new → KeepsSteps top count old new
  higher low top count old new under keeps = record {
    carriers = keeps.carriers;
    pace = keeps.pace;
    as_many_lanes = keeps.as_many_lanes;
    keeper = keeps.keeper;
    faults_never_fall = keeps.faults_never_fall;
    notes = keeps.notes;
    slots = λ most le below. keeps.slots most (omega (arith, under, le)) below;
    few_open = keeps.few_open;
    open_tails = keeps.open_tails;
  }

  one_keeps : (slot : ℕ) (listed : Listed) (result : Result Admission BeginError) (old new : Beginning T W L) → BeginsOne tails settings (file_at rows slot listed now) result old new → KeepsSteps (suc slot) 1 old new
  one_keeps slot listed result old new is = record {
    carriers = carriers_kept tails settings (file_at rows slot listed now) old new keeps;
    pace = pace_kept tails settings (file_at rows slot listed now) old new keeps;
    as_many_lanes = as_many_lanes tails settings (file_at rows slot listed now) old new keeps;
    keeper = keeper_others tails settings (file_at rows slot listed now) old new keeps;
    faults_never_fall = keeps.faults_never_fall;
    notes = one_note_more tails settings (file_at rows slot listed now) old new keeps;
    slots = λ most le below. by_lanes most le below keeps.lanes;
    few_open = λ below. let opened = as_many_open tails settings (file_at rows slot listed now) result old new (omega (arith, below)) is in let few = at_most_one result in omega (arith, opened, few);
    open_tails = λ below.
        let opened = as_many_open tails settings (file_at rows slot listed now) result old new (omega (arith, below)) is in
        let many = as_many_harvesters tails settings (file_at rows slot listed now) result old new is in
        omega (arith, opened, many);
  }
    where
      keeps : BeginKeeps tails settings (file_at rows slot listed now) old new
      keeps = begin_keeps tails settings (file_at rows slot listed now) result old new is

      at_most_one : (r : Result Admission BeginError) → followed_by r ≤ 1
      at_most_one (Ok Followed) = omega arith
      at_most_one (Ok (Skipped why)) = omega arith
      at_most_one (Ok Failed) = omega arith
      at_most_one (Err what) = omega arith

      by_lanes : (most : ℕ) → suc slot ≤ most → AreSlotsBelow most (lanings old.crew.lanes.items) →
          (lanings new.crew.lanes.items ≡ lanings old.crew.lanes.items) ⊎ TakesOne tails settings (file_at rows slot listed now) (lanings old.crew.lanes.items) (lanings new.crew.lanes.items) → AreSlotsBelow most (lanings new.crew.lanes.items)
      by_lanes most le below (inl same) = subst (AreSlotsBelow most) (sym same) below
      by_lanes most le below (inr takes) =
          let its = ap (λ (g : Begin). g.slot.0) (takes.opened.begun ∙ takes.opened.begins.is) in
          each_still takes.harvester takes.number (lanings old.crew.lanes.items) (lanings new.crew.lanes.items) takes.admits (IsSlotBelow most) (omega (arith, its, le)) below

  pub from_keeps : (slot : ℕ) (listed : List Listed) (came : Came) (old new : Beginning T W L) → BeginsFrom tails settings rows now slot listed came old new → KeepsSteps (length listed + slot) (length listed) old new
  from_keeps slot [] came old new is = none_keeps (0 + slot) old new is.1
  from_keeps slot (one ∷ listed) came old new is =
      subst (λ (n : ℕ). KeepsSteps (suc (length listed) + slot) n old new) (one_first (length listed))
      (keeps_then (suc (length listed) + slot) 1 (length listed) old is.mid new
      (higher (suc slot) (suc (length listed) + slot) 1 old is.mid (omega arith) (one_keeps slot one (Ok is.begun) old is.mid is.first))
      (higher (length listed + suc slot) (suc (length listed) + slot) (length listed) is.mid new (omega arith) (from_keeps (suc slot) listed is.later is.mid new is.rest)))
    where
      one_first : (n : ℕ) → 1 + n ≡ suc n
      one_first n = omega arith

  -- ---- faults

  -- a file whose opening failed, or of which a read did, leaves its fault with the folder
  failed_rose : (file : ListedFile) (old new : Beginning T W L) → BeginsOne tails settings file (Ok Failed) old new → Rose old.folder.faults new.folder.faults
  failed_rose file old new (inl none) = none.opens.failed_only_where_faults_rose refl
  failed_rose file old new (inr closed) =
      let asks = closed.closed.why.asks in
      let rose : Rose 0 (tails.faults closed.closed.asked) =
      subst (λ (n : ℕ). Rose n (tails.faults closed.closed.asked)) closed.opened.opens.fresh (asks.failed_only_where_faults_rose refl) in
      rose_since old.folder.faults closed.mid.folder.faults new.folder.faults closed.opened.opens.faults_never_fall
      (closing_rose closed.mid.folder.faults (tails.faults closed.closed.asked) new.folder.faults rose closed.closed.closed.closes.counts_faults)

  pub from_rose : (slot : ℕ) (listed : List Listed) (came : Came) (old new : Beginning T W L) → BeginsFrom tails settings rows now slot listed came old new → came.faulty ≡ true → Rose old.folder.faults new.folder.faults
  from_rose slot [] came old new is faulty = absurd (let q : false ≡ true = sym (ap (λ (c : Came). c.faulty) is.0) ∙ faulty in cc)
  from_rose slot (one ∷ listed) came old new is faulty =
      by_begun is.begun is.first (sym (ap (λ (c : Came). c.faulty) is.came_is) ∙ faulty) (from_rose (suc slot) listed is.later is.mid new is.rest)
    where
      behind_first : Rose is.mid.folder.faults new.folder.faults → Rose old.folder.faults new.folder.faults
      behind_first rose = rose_since old.folder.faults is.mid.folder.faults new.folder.faults (one_keeps slot one (Ok is.begun) old is.mid is.first).faults_never_fall rose

      by_begun : (begun : Admission) → BeginsOne tails settings (file_at rows slot one now) (Ok begun) old is.mid → (has_failed begun || is.later.faulty) ≡ true →
          (is.later.faulty ≡ true → Rose is.mid.folder.faults new.folder.faults) → Rose old.folder.faults new.folder.faults
      by_begun Followed first some rest = behind_first (rest some)
      by_begun (Skipped why) first some rest = behind_first (rest some)
      by_begun Failed first some rest = rose_on old.folder.faults is.mid.folder.faults new.folder.faults (failed_rose (file_at rows slot one now) old is.mid first)
          (from_keeps (suc slot) listed is.later is.mid new is.rest).faults_never_fall

  pub begun_rose : (listed : List Listed) (result : Result BegunFiles BeginError) (old new : Beginning T W L) → IfOk result (λ files. BeginsAll tails settings rows now listed (came_of files) old new) →
      IfOk result (λ files. files.faulty ≡ true → Rose old.folder.faults new.folder.faults)
  begun_rose listed (Err what) old new begins = tt
  begun_rose listed (Ok files) old new begins = λ faulty. subst (λ (s : Beginning T W L). Rose old.folder.faults s.folder.faults) (sym begins.others) (from_rose 0 listed (came_of files) old begins.mid begins.begins faulty)

  -- ---- keys

  one_knows : (keys : List (List ℕ)) (slot : ℕ) (listed : Listed) (result : Result Admission BeginError) (old new : Beginning T W L) → IsOfKeys keys listed → BeginsOne tails settings (file_at rows slot listed now) result old new →
      KnowsAmong keys old.keeper → KnowsAmong keys new.keeper
  one_knows keys slot listed result old new of is knows =
      ⊎_elim (λ same. subst (KnowsAmong keys) (sym same) knows)
      (λ tells. told_knows keys (record { 0 = slot }) listed (start_among rows listed) old.keeper new.keeper of tells knows)
      (begin_keeps tails settings (file_at rows slot listed now) result old new is).keeper

  pub from_knows : (keys : List (List ℕ)) (slot : ℕ) (listed : List Listed) (came : Came) (old new : Beginning T W L) → AllByRecursion (IsOfKeys keys) listed →
      BeginsFrom tails settings rows now slot listed came old new → KnowsAmong keys old.keeper → KnowsAmong keys new.keeper
  from_knows keys slot [] came old new of is knows = subst (λ (s : Beginning T W L). KnowsAmong keys s.keeper) (sym is.1) knows
  from_knows keys slot (one ∷ listed) came old new of is knows =
      from_knows keys (suc slot) listed is.later is.mid new of.1 is.rest (one_knows keys slot one (Ok is.begun) old is.mid of.0 is.first knows)

  keep_others : (most top count : ℕ) (old new : Beginning T W L) → top ≤ most → count ≤ most → KeepsSteps top count old new → KeepsOthers most old new
  keep_others most top count old new under few keeps = record {
    carriers = keeps.carriers;
    pace = keeps.pace;
    as_many_lanes = keeps.as_many_lanes;
    keeper = keeps.keeper;
    faults_never_fall = keeps.faults_never_fall;
    slots = keeps.slots most under;
    open_tails = λ below. keeps.open_tails (omega (arith, below, few));
  }

  -- the moments of files are told to the keeper alone
  moments_keep : (most : ℕ) (more : List Note) (old mid new : Beginning T W L) → KeepsOthers most old mid → TellsNotes more mid.keeper new.keeper → new ≡ record mid { keeper = new.keeper } → KeepsOthers most old new
  moments_keep most more old mid new keeps tells others = subst (KeepsOthers most old) (sym others) (record {
    carriers = keeps.carriers;
    pace = keeps.pace;
    as_many_lanes = keeps.as_many_lanes;
    keeper = tells.others_stay ∙ ap (λ (k : Keeping). record k { tracked = new.keeper.tracked }) keeps.keeper;
    faults_never_fall = keeps.faults_never_fall;
    slots = keeps.slots;
    open_tails = keeps.open_tails;
  })

  module _ (listed : List Listed) (old new : Beginning T W L) where
    some_keep : (count : ℕ) (came : Came) (mid : Beginning T W L) → BeginsFrom tails settings rows now 0 (take count listed) came old mid → KeepsOthers (length listed) old mid
    some_keep count came mid begins =
        let few = take_shorter count listed in
        keep_others (length listed) (length (take count listed) + 0) (length (take count listed)) old mid (omega (arith, few)) few (from_keeps 0 (take count listed) came old mid begins)

    pub files_keep : (what : BeginError) → EndsInFiles tails settings rows now listed what old new → KeepsOthers (length listed) old new
    files_keep what (inl is) =
        let inside = slice_get_within listed is.count is.one is.is in
        let short = take_short is.count listed in
        keep_others (length listed) (suc is.count) (length (take is.count listed) + 1) old new (omega (arith, inside)) (omega (arith, inside, short))
        (keeps_then (suc is.count) (length (take is.count listed)) 1 old is.mid new
        (higher (length (take is.count listed) + 0) (suc is.count) (length (take is.count listed)) old is.mid (omega (arith, short)) (from_keeps 0 (take is.count listed) is.came old is.mid is.begins))
        (one_keeps is.count is.one (Err is.ended.what) is.mid new is.ended.begins))
    files_keep what (inr (memory, is)) = some_keep is.count is.came new is.begins

    pub all_keep : (came : Came) → BeginsAll tails settings rows now listed came old new → KeepsOthers (length listed) old new
    all_keep came is =
        let more = moments_are_told rows 0 listed is.mid.keeper new.keeper is.tell in
        moments_keep (length listed) more.more old is.mid new
        (keep_others (length listed) (length listed + 0) (length listed) old is.mid (omega arith) (omega arith) (from_keeps 0 listed came old is.mid is.begins)) more.tells is.others

    pub some_keeps : (what : BeginError) → BeginsSome tails settings rows now listed what old new → KeepsOthers (length listed) old new
    some_keeps what (inl is) = files_keep what (inl is)
    some_keeps what (inr (memory, inl is)) = files_keep what (inr (memory, is))
    some_keeps what (inr (memory, inr is)) =
        let more = moments_are_told rows 0 (take is.tell.count listed) is.mid.keeper new.keeper is.tell.tell in
        moments_keep (length listed) more.more old is.mid new
        (keep_others (length listed) (length listed + 0) (length listed) old is.mid (omega arith) (omega arith) (from_keeps 0 listed is.came old is.mid is.begins)) more.tells is.others

    -- why it ended early
    pub begin_ends : (what : BeginError) → BeginsSome tails settings rows now listed what old new → EndsBeginning (length listed) what old new
    begin_ends what (inr is) = subst (λ (m : BeginError). EndsBeginning (length listed) m old new) (sym is.0) tt
    begin_ends what (inl is) = subst (λ (m : BeginError). EndsBeginning (length listed) m old new) (sym is.ended.error_is) (by_case is.came.faulty refl is.ended.what is.ended.begins)
      where
        by_case : (faulty : Bool) → is.came.faulty ≡ faulty → (met : BeginError) → BeginsOne tails settings (file_at rows is.count is.one now) (Err met) is.mid new → EndsBeginning (length listed) (ended_behind faulty met) old new
        by_case false is_faulty begin.NoMemory ended = tt
        by_case false is_faulty begin.FolderFault ended = absurd ended
        by_case false is_faulty (begin.NoNative other) ended =
            let inside = slice_get_within listed is.count is.one is.is in
            let its = ap (λ (s : Slot). s.0) ended.0 in
            omega (arith, inside, its)
        by_case true is_faulty begin.NoMemory ended = tt
        by_case true is_faulty begin.FolderFault ended = absurd ended
        by_case true is_faulty (begin.NoNative other) ended = rose_on old.folder.faults is.mid.folder.faults new.folder.faults
            (from_rose 0 (take is.count listed) is.came old is.mid is.begins is_faulty)
            (one_keeps is.count is.one (Err (begin.NoNative other)) is.mid new ended).faults_never_fall

    pub files_end : {A : Type 0} (result : Result A BeginError) (what : BeginError) → IsErrAnd result (λ other. other ≡ what) → EndsInFiles tails settings rows now listed what old new →
        IfErr result (λ other. EndsBeginning (length listed) other old new)
    files_end (Ok value) what is ended = tt
    files_end (Err other) what is (inl ended) = subst (λ (m : BeginError). EndsBeginning (length listed) m old new) (sym is) (begin_ends what (inl ended))
    files_end (Err other) what is (inr ended) = subst (λ (m : BeginError). EndsBeginning (length listed) m old new) (sym (is ∙ ended.0)) tt

    pub memory_ends : {A : Type 0} (result : Result A BeginError) → IsErrAnd result (λ other. other ≡ NoMemory) → IfErr result (λ other. EndsBeginning (length listed) other old new)
    memory_ends (Ok value) is = tt
    memory_ends (Err other) is = subst (λ (m : BeginError). EndsBeginning (length listed) m old new) (sym is) tt

  -- ---- one more

  pub from_then : (slot : ℕ) (listed : List Listed) (one : Listed) (came more : Came) (old mid new : Beginning T W L) → BeginsFrom tails settings rows now slot listed came old mid →
      BeginsOrPasses tails settings (file_at rows (length listed + slot) one now) more mid new → BeginsFrom tails settings rows now slot (listed ++ one ∷ []) (both_came came more) old new
  from_then slot [] one came more old mid new is then = record {
    begun = then.begun;
    mid = new;
    first = subst (λ (n : ℕ). BeginsOne tails settings (file_at rows n one now) (Ok then.begun) old new) (none_longer slot)
        (subst (λ (s : Beginning T W L). BeginsOne tails settings (file_at rows (0 + slot) one now) (Ok then.begun) s new) is.1 then.begins);
    later = none_came;
    came_is = ap (λ (c : Came). both_came c more) is.0 ∙ then.more_is ∙ sym (came_none (came_by then.begun one));
    rest = (refl, refl);
  }
    where
      none_longer : (n : ℕ) → 0 + n ≡ n
      none_longer n = omega arith
  from_then slot (first ∷ listed) one came more old mid new is then = record {
    begun = is.begun;
    mid = is.mid;
    first = is.first;
    later = both_came is.later more;
    came_is = ap (λ (c : Came). both_came c more) is.came_is ∙ came_assoc (came_by is.begun first) is.later more;
    rest = from_then (suc slot) listed one is.later more is.mid mid new is.rest
        (subst (λ (n : ℕ). BeginsOrPasses tails settings (file_at rows n one now) more mid new) (one_longer (length listed)) then);
  }
    where
      one_longer : (n : ℕ) → suc n + slot ≡ n + suc slot
      one_longer n = omega arith

  module _ (listed : List Listed) (count : ℕ) (one : Listed) (there : slice_get listed count ≡ Some one) (came : Came) (old mid : Beginning T W L)
      (begins : BeginsFrom tails settings rows now 0 (take count listed) came old mid) where
    at_count : length (take count listed) + 0 ≡ count
    at_count = let long = front_long listed count one there in omega (arith, long)
      where
        front_long : (all : List Listed) (n : ℕ) (x : Listed) → slice_get all n ≡ Some x → length (take n all) ≡ n
        front_long [] n x is = absurd cc
        front_long (first ∷ all) zero x is = refl
        front_long (first ∷ all) (suc n) x is = ap suc (front_long all n x is)

    pub begins_next : (more : Came) (new : Beginning T W L) → BeginsOrPasses tails settings (file_at rows count one now) more mid new →
        BeginsFrom tails settings rows now 0 (take (suc count) listed) (both_came came more) old new
    begins_next more new then = subst (λ (l : List Listed). BeginsFrom tails settings rows now 0 l (both_came came more) old new) (sym (take_one listed count one there))
        (from_then 0 (take count listed) one came more old mid new begins
        (subst (λ (n : ℕ). BeginsOrPasses tails settings (file_at rows n one now) more mid new) (sym at_count) then))

    pub ends_here : (what : BeginError) (new : Beginning T W L) → EndsInOne tails settings (file_at rows count one now) came.faulty what mid new → EndsInFiles tails settings rows now listed what old new
    ends_here what new (inl ended) = inl (record { count = count; came = came; mid = mid; begins = begins; one = one; is = there; ended = ended })
    ends_here what new (inr (memory, why, skipped)) = inr (
      memory,
      record {
        count = suc count;
        came = both_came came (came_by (Skipped why) one);
        begins = begins_next (came_by (Skipped why) one) new (record { begun = Skipped why; begins = skipped; more_is = refl });
      },
    )

    pub after_next : (later more : Came) (new : Beginning T W L) → later ≡ both_came came more → BeginsOrPasses tails settings (file_at rows count one now) more mid new →
        BeginsFrom tails settings rows now 0 (take (count + 1) listed) later old new
    after_next later more new is then = subst (λ (n : ℕ). BeginsFrom tails settings rows now 0 (take n listed) later old new) next
        (subst (λ (c : Came). BeginsFrom tails settings rows now 0 (take (suc count) listed) c old new) (sym is) (begins_next more new then))
      where
        next : suc count ≡ count + 1
        next = omega arith

    pub ends_as : {A : Type 0} (result : Result A BeginError) (what : BeginError) (new : Beginning T W L) → IsErrAnd result (λ other. other ≡ what) → EndsInOne tails settings (file_at rows count one now) came.faulty what mid new →
        IfErr result (λ other. EndsInFiles tails settings rows now listed other old new)
    ends_as (Ok value) what new is ended = tt
    ends_as (Err other) what new is ended = subst (λ (m : BeginError). EndsInFiles tails settings rows now listed m old new) (sym is) (ends_here what new ended)

  -- ---- what stays over so many of them

  module _ (count : ℕ) (listed : List Listed) (came : Came) (old new : Beginning T W L) (begins : BeginsFrom tails settings rows now 0 (take count listed) came old new) where
    pub lanes_still : 0 < length old.crew.lanes.items → 0 < length new.crew.lanes.items
    lanes_still some = let keeps = from_keeps 0 (take count listed) came old new begins in let many = keeps.as_many_lanes in omega (arith, some, many)

    pub rows_still : new.keeper.store.rows ≡ old.keeper.store.rows
    rows_still = let keeps = from_keeps 0 (take count listed) came old new begins in ap (λ (k : Keeping). k.store.rows) keeps.keeper

    -- the keys of all of them are known
    pub knows_still : (keys : List (List ℕ)) → AllByRecursion (IsOfKeys keys) listed → KnowsAmong keys old.keeper → KnowsAmong keys new.keeper
    knows_still keys of knows = from_knows keys 0 (take count listed) came old new (of_front keys count listed of) begins knows

  pub rows_kept : (listed : List Listed) (came : Came) (old mid : Beginning T W L) → BeginsFrom tails settings rows now 0 listed came old mid → mid.keeper.store.rows ≡ old.keeper.store.rows
  rows_kept listed came old mid begins = let keeps = from_keeps 0 listed came old mid begins in ap (λ (k : Keeping). k.store.rows) keeps.keeper

  -- ---- and the moments

  module _ (listed : List Listed) (old mid new : Beginning T W L) where
    pub ends_so : (what : BeginError) → EndsInFiles tails settings rows now listed what old new → BeginsSome tails settings rows now listed what old new
    ends_so what (inl ended) = inl ended
    ends_so what (inr (memory, behind)) = inr (memory, inl behind)

    pub all_so : (came : Came) (slice : List Listed) → slice ≡ listed → BeginsFrom tails settings rows now 0 listed came old mid → TellMoments rows 0 slice mid.keeper new.keeper →
        new ≡ record mid { keeper = new.keeper } → BeginsAll tails settings rows now listed came old new
    all_so came slice same begins tell others =
        record { mid = mid; begins = begins; tell = subst (λ (l : List Listed). TellMoments rows 0 l mid.keeper new.keeper) same tell; others = others }

    pub ends_told : {A : Type 0} (result : Result A BeginError) (came : Came) (slice : List Listed) → IsErrAnd result (λ error. error ≡ NoMemory) → slice ≡ listed →
        BeginsFrom tails settings rows now 0 listed came old mid → TellSomeMoments rows slice mid.keeper new.keeper → new ≡ record mid { keeper = new.keeper } →
        IfErr result (λ error. BeginsSome tails settings rows now listed error old new)
    ends_told (Ok value) came slice memory same begins tell others = tt
    ends_told (Err what) came slice memory same begins tell others = inr (
      memory,
      inr (record {
        came = came;
        mid = mid;
        begins = begins;
        tell = subst (λ (l : List Listed). TellSomeMoments rows l mid.keeper new.keeper) same tell;
        others = others;
      }),
    )

    pub some_told_keep : (came : Came) (slice : List Listed) → slice ≡ listed → BeginsFrom tails settings rows now 0 listed came old mid → TellSomeMoments rows slice mid.keeper new.keeper →
        new ≡ record mid { keeper = new.keeper } → KeepsOthers (length listed) old new
    some_told_keep came slice same begins tell others = some_keeps listed old new NoMemory (inr (
      refl,
      inr (record {
        came = came;
        mid = mid;
        begins = begins;
        tell = subst (λ (l : List Listed). TellSomeMoments rows l mid.keeper new.keeper) same tell;
        others = others;
      }),
    ))

-- ---- one

module _ {T W L : Type 0} (tails : TailWords T) (settings : Settings) (file : ListedFile) (before : Came) (old new : Beginning T W L) where
  abbrev AddsOne : Came → Type 0
  AddsOne after = (more : Came) × (after ≡ both_came before more) × BeginsOrPasses tails settings file more old new

  pub followed_one : BeginsOne tails settings file (Ok Followed) old new → AddsOne before
  followed_one begins = (came_by Followed file.listed, sym (came_none before), record { begun = Followed; begins = begins; more_is = refl })

  pub skipped_one : (why : Why) (passed : List Passing) → passed ≡ before.passed ++ passed_by (Skipped why) file.listed → BeginsOne tails settings file (Ok (Skipped why)) old new → AddsOne (came_so passed before.faulty)
  skipped_one why passed is begins = (
    came_by (Skipped why) file.listed,
    ap (λ (l : List Passing). came_so l before.faulty) is ∙ ap (came_so (before.passed ++ passed_by (Skipped why) file.listed)) (sym (or-false before.faulty)),
    record { begun = Skipped why; begins = begins; more_is = refl },
  )

  pub failed_one : BeginsOne tails settings file (Ok Failed) old new → AddsOne (came_so before.passed true)
  failed_one begins = (
    came_by Failed file.listed,
    ap (λ (l : List Passing). came_so l true) (sym (append-nil before.passed)) ∙ ap (came_so (before.passed ++ [])) (sym (or-true before.faulty)),
    record { begun = Failed; begins = begins; more_is = refl },
  )

  pub ends_one : (what : BeginError) → BeginsOne tails settings file (Err what) old new → (error : BeginError) → error ≡ ended_behind before.faulty what → EndsInOne tails settings file before.faulty error old new
  ends_one what begins error is = inl (record { what = what; begins = begins; error_is = is })
