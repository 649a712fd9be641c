-- Where each look at the length is followed by a read, a turn leaves it so that met no fault and found memory.
use Rattle.std.proofs.Common.{◌≡◌, ◌≢◌, inl, inr, ℕ, ◌||◌, false, List, [], ◌∷◌, ◌++◌, append-nil, Option, Some, None, IfSome, refl, sym, ap, subst, ◌∙◌, arith}
use Rattle.accounts.proofs.Askings.{asking_reads}
use Rattle.harvester.specs.HasTold.{HasTold, begin_of}
use Rattle.harvester.specs.Held.{Held}
use Rattle.harvester.specs.History.{History, Reads, Stage}
use Rattle.harvester.specs.Looked.{IsLookedAt, StandBehind}
use Rattle.harvester.specs.Standing.{stage_of}
use Rattle.harvester.specs.TurnLooks.{AreOfReading, AreOfTurn, AskForKey, IsReadAt, LooksOn, StandBehindLength}
use Rattle.harvester.specs.Turned.{with_turn}
use Rattle.harvester.specs.Turns.{Did, Goes, after_did}
use Rattle.harvester.specs.declared.harvester.Harvester.{Harvester}
use Rattle.harvester.specs.declared.stage.Stage.{Stage as ReaderStage}
use Rattle.harvester.specs.declared.stage.Stage.TheVariants as stage
use Rattle.harvester.specs.declared.turn.Turn.{Turn}
use Rattle.harvester.specs.declared.turn.Turn.TheVariants as turn
use Rattle.file_identity.specs.Answers.{with_numbers}
use Rattle.lanes.specs.Step.{Step}
use Rattle.outside.specs.Counts.{Rose}
use Rattle.outside.specs.Files.{File}
use Rattle.outside.specs.Tails.{TailHistory}
use Rattle.outside.specs.declared.history.Look.{Look}
use Rattle.outside.specs.declared.history.Question.TheVariants.{Length}
use Rattle.wire_base.specs.declared.note.Begin.{Begin}
use Rattle.run_steps.specs.ReadBehind.{ReadsBehind, ReadsWhereNoFault}
use Rattle.run_steps.proofs.ReadPlaces.{OnlyRead, behind_a_fall, behind_the_length, only_reads, place_after, read_up_to, reads_then, stays_there}
use Rattle.run_steps.proofs.Turning.{EachTurnKeeps}

-- the turn found memory
abbrev pub FoundMemory : Step → Type 0
FoundMemory step = step.turn ≢ turn.NoMemory

-- ---- the looks of a turn that was not refused

module _ (held : Held) (answer : Turn) (no_fault : answer ≢ turn.ReadFault) (memory : answer ≢ turn.NoMemory) (file : File) where
  asks_by_reads : (looks : List Look) → AskForKey held answer file looks → OnlyRead looks
  asks_by_reads looks asks = by_answer answer refl asks
    where
      by_answer : (t : Turn) → answer ≡ t → AskForKey held t file looks → OnlyRead looks
      by_answer (turn.NewLife epoch) is asks = asking_reads held.identity looks asks.0
      by_answer turn.EpochsOut is asks = asking_reads held.identity looks asks.0
      by_answer turn.Changed is asks = asking_reads held.identity looks asks.0
      by_answer turn.ReadFault is asks = absurd (no_fault is)
      by_answer turn.NoMemory is asks = absurd (memory is)
      by_answer (turn.Issued parcel) is asks = absurd asks
      by_answer (turn.Passed span rule) is asks = absurd asks
      by_answer turn.More is asks = absurd asks
      by_answer turn.AtEnd is asks = absurd asks

  not_refused : (place : ℕ) → IsReadAt answer place [] → ⊥
  not_refused place refused = by_answer answer refl refused
    where
      by_answer : (t : Turn) → answer ≡ t → IsReadAt t place [] → ⊥
      by_answer turn.ReadFault is refused = no_fault is
      by_answer turn.NoMemory is refused = memory is
      by_answer (turn.NewLife epoch) is refused = refused
      by_answer turn.EpochsOut is refused = refused
      by_answer turn.Changed is refused = refused
      by_answer (turn.Issued parcel) is refused = refused
      by_answer (turn.Passed span rule) is refused = refused
      by_answer turn.More is refused = refused
      by_answer turn.AtEnd is refused = refused

  behind_length : (look : Look) (looks : List Look) → look.question ≡ Length → StandBehindLength held file answer look.sight.length looks → ReadsBehind false held.position (look ∷ looks)
  behind_length look looks asks (inl fell) = behind_a_fall held.position look looks asks fell.0 (asks_by_reads looks fell.1)
  behind_length look [] asks (inr reached) = absurd (not_refused held.position reached.1)
  behind_length look (read ∷ []) asks (inr reached) = behind_the_length held.position look read reached.1.0 asks reached.0 reached.1.1
  behind_length look (read ∷ other ∷ looks) asks (inr reached) = absurd reached.1

  of_reading : (looks : List Look) → AreOfReading held answer file looks → ReadsBehind false held.position looks
  of_reading [] are = refl
  of_reading (look ∷ looks) are = behind_length look looks are.0 are.1

  pub of_turn : (at : ReaderStage) (place : ℕ) (looks : List Look) → (at ≡ stage.Reading → place ≡ held.position) → AreOfTurn at held answer file looks → ReadsBehind false place looks
  of_turn stage.Reading place looks same are = subst (λ (n : ℕ). ReadsBehind false n looks) (sym (same refl)) (of_reading looks are)
  of_turn stage.Asking place looks same are = only_reads place looks (asks_by_reads looks are)
  of_turn stage.Ended place looks same are = subst (ReadsBehind false place) (sym are) refl
  of_turn stage.Changed place looks same are = subst (ReadsBehind false place) (sym are) refl
  of_turn stage.Over place looks same are = subst (ReadsBehind false place) (sym are) refl

-- ---- a harvester

-- a count that rose is not 0
pub not_risen : (before now : ℕ) → now ≡ 0 → Rose before now → ⊥
not_risen before now none (inl more) = omega (arith, none, more)
not_risen before now none (inr end) = omega (arith, none, end)

-- the history goes on from what was asked before
pub before_stays : (now : ℕ) (t : Turn) (did : Did) (h : History) → (after_did now t did h).before ≡ h.before
before_stays now (turn.Issued parcel) did h = refl
before_stays now (turn.Passed span rule) did h = refl
before_stays now turn.More did h = refl
before_stays now turn.AtEnd did h = refl
before_stays now (turn.NewLife epoch) did h = refl
before_stays now turn.Changed did h = refl
before_stays now turn.EpochsOut did h = refl
before_stays now turn.ReadFault did h = refl
before_stays now turn.NoMemory did h = refl

module _ {T : Type 0} (numbers : T → Option (ℕ × ℕ)) (told : T → Option TailHistory) (faults : T → ℕ) where
  -- what it told is known, and it was asked for its key by reads alone
  pub record IsReadSo (harvester : Harvester T) : Type 0 where
    pub history : History
    pub has_told : HasTold numbers told history harvester
    pub only_asked : OnlyRead history.before
    pub reads : ReadsWhereNoFault told faults harvester

  -- where it reads on, its looks lead to its position
  stands_at : (harvester : Harvester T) (history : History) → HasTold numbers told history harvester → OnlyRead history.before → (tail : TailHistory) → told harvester.tail ≡ Some tail →
      harvester.reader.stage ≡ stage.Reading → place_after false (begin_of harvester).base tail.looks ≡ harvester.reader.position
  stands_at harvester history has_told only tail tells reading =
      let follows = has_told.held.holds.follows in
      let looked : IsLookedAt (numbers harvester.tail) history tail =
      subst (λ (o : Option TailHistory). IfSome o (IsLookedAt (numbers harvester.tail) history)) tells has_told.looked in
      let stage_is : history.stage ≡ Reads = sym follows.stage ∙ ap stage_of reading in
      let none : looked.beyond ≡ [] =
      subst (λ (s : Stage). StandBehind history (with_numbers (numbers harvester.tail) tail.file) s looked.beyond) stage_is looked.stand_behind in
      let looks_are : tail.looks ≡ history.before ++ looked.since =
      looked.looks_are ∙ ap (λ (l : List Look). history.before ++ (looked.since ++ l)) none ∙ ap (λ (l : List Look). history.before ++ l) (append-nil looked.since) in
      let base : (begin_of harvester).base ≡ history.begin.base = ap (λ (b : Begin). b.base) follows.begin in
      ap (λ (n : ℕ). place_after false n tail.looks) base
      ∙ ap (place_after false history.begin.base) looks_are
      ∙ stays_there history.begin.base history.before looked.since only
      ∙ read_up_to history.begin.base looked.since looked.front looked.last looked.segments
      ∙ looked.present.to
      ∙ sym has_told.held.holds.position.position

  pub reads_on : EachTurnKeeps numbers told faults FoundMemory IsReadSo
  reads_on step before after memory goes_on turned was = record {
    history = after_did step.now.0 step.turn g.did h;
    has_told = g.has_told;
    only_asked = subst OnlyRead (sym (before_stays step.now.0 step.turn g.did h)) was.only_asked;
    reads = reads;
  }
    where
      h : History
      h = with_turn step.now.0 step.last was.history

      g : Goes numbers told 16_384 step.now.0 (step.last || was.history.ends) h before step.turn after
      g = turned.goes was.history was.has_told

      reads : ReadsWhereNoFault told faults after
      reads none = by_case (told before.tail) refl turned.looks
        where
          none_before : faults before.tail ≡ 0
          none_before = let never_fall = turned.faults_never_fall in omega (arith, none, never_fall)

          no_fault : step.turn ≢ turn.ReadFault
          no_fault is = not_risen (faults before.tail) (faults after.tail) none (turned.read_fault_only_where_faults_rose was.history was.has_told is)

          Are : File → List Look → Type 0
          Are = AreOfTurn before.reader.stage before.reader step.turn

          by_case : (o : Option TailHistory) → told before.tail ≡ o → LooksOn Are (numbers before.tail) o (told after.tail) →
              IfSome (told after.tail) (λ tail. ReadsBehind false (begin_of after).base tail.looks)
          by_case None tells looks = subst (λ (o : Option TailHistory). IfSome o (λ tail. ReadsBehind false (begin_of after).base tail.looks)) (sym looks) tt
          by_case (Some tail) tells looks =
              let file = with_numbers (numbers before.tail) tail.file in
              let so_far : ReadsBehind false (begin_of before).base tail.looks =
              subst (λ (o : Option TailHistory). IfSome o (λ (t : TailHistory). ReadsBehind false (begin_of before).base t.looks)) tells (was.reads none_before) in
              let more : ReadsBehind false (place_after false (begin_of before).base tail.looks) looks.looks =
              of_turn before.reader step.turn no_fault memory file before.reader.stage (place_after false (begin_of before).base tail.looks) looks.looks
              (stands_at before was.history was.has_told was.only_asked tail tells) looks.are in
              subst (λ (o : Option TailHistory). IfSome o (λ (t : TailHistory). ReadsBehind false (begin_of after).base t.looks)) (sym looks.added.kept)
              (subst (λ (b : Begin). ReadsBehind false b.base (tail.looks ++ looks.looks)) (sym turned.begin_kept)
              (reads_then false (begin_of before).base tail.looks looks.looks so_far more))
