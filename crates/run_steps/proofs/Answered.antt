-- A turn that was not refused, and behind which the last epoch is not over, leaves no fall of the length without an answer: where the key was
-- asked, a next epoch began or the key is another one.
use Rattle.std.proofs.Common.{◌≡◌, ◌≢◌, ◌⊎◌, inl, inr, ℕ, ◌+◌, ◌≤◌, ◌||◌, false, List, [], ◌∷◌, ◌++◌, append-nil, length, Option, Some, None, IsSome, IfSome, refl, sym, ap, subst, ◌∙◌, arith}
use Rattle.accounts.proofs.Joined.{joined}
use Rattle.accounts.proofs.Parting.{before_fall, from_fall}
use Rattle.accounts.specs.FollowedFile.{MayReopenAt}
use Rattle.accounts.specs.Parted.{before_last_length, from_last_length}
use Rattle.file_identity.specs.Answers.{with_numbers}
use Rattle.file_identity.specs.AskedAgain.{IsRead}
use Rattle.file_looks.specs.Segment.{read_to}
use Rattle.harvester.specs.HasTold.{HasTold, IsChanged}
use Rattle.harvester.specs.Held.{Held}
use Rattle.harvester.specs.History.{Asks, Changed, Ended, History, Over, Reads, Stage}
use Rattle.harvester.specs.Looked.{HasFallen, IsLookedAt, StandBehind}
use Rattle.harvester.specs.Standing.{stage_of}
use Rattle.harvester.specs.TurnLooks.{AreOfReading, AreOfTurn, AskForKey, HasRead, IsReadAt, IsRefused, LooksOn, StandBehindLength}
use Rattle.harvester.specs.Turned.{events_told, with_turn}
use Rattle.harvester.specs.Turns.{AsksNothing, Goes, IsCaused, MayTurn, after_did, did_with}
use Rattle.harvester.specs.declared.harvester.Harvester.{Harvester}
use Rattle.harvester.specs.declared.stage.Stage.{Stage as ReaderStage}
use Rattle.harvester.specs.declared.stage.Stage.TheVariants as stage
use Rattle.harvester.specs.declared.turn.Turn.{Turn}
use Rattle.harvester.specs.declared.turn.Turn.TheVariants as turn
use Rattle.lanes.specs.Step.{Step}
use Rattle.lanes.specs.Turned.{HasTurned}
use Rattle.outside.specs.Files.{File}
use Rattle.outside.specs.Tails.{TailHistory}
use Rattle.outside.specs.declared.history.Look.{Look}
use Rattle.outside.specs.declared.history.Question.TheVariants.{Length}
use Rattle.run_steps.specs.LastEpoch.{HasAnswered, falls_in}
use Rattle.run_steps.proofs.FallsCounted.{falls_are, unanswered_at}
use Rattle.run_steps.proofs.FaultTurns.{MetNoFault}
use Rattle.run_steps.proofs.ReadBehind.{FoundMemory, before_stays}
use Rattle.run_steps.proofs.ReadPlaces.{OnlyRead, place_after, read_up_to}
use Rattle.run_steps.proofs.Turning.{EachTurnKeeps, NotOut}

-- the turn was not refused, and no last epoch is over by it
pub record WentOn (step : Step) : Type 0 where
  pub memory : FoundMemory step
  pub no_fault : MetNoFault step
  pub not_out : NotOut step

-- ---- by where the file stands

pub answered_quiet : (stage : Stage) → AsksNothing stage → MayReopenAt stage
answered_quiet Reads nothing = tt
answered_quiet Asks nothing = absurd nothing
answered_quiet Ended nothing = tt
answered_quiet Changed nothing = absurd nothing
answered_quiet Over nothing = absurd nothing

-- it may be turned on, and the key is not asked
answered_turned : (stage : Stage) → MayTurn stage → stage ≢ Asks → MayReopenAt stage
answered_turned Reads may other = tt
answered_turned Asks may other = absurd (other refl)
answered_turned Ended may other = tt
answered_turned Changed may other = absurd may
answered_turned Over may other = absurd may

-- ---- the looks of a turn that told an event, or read more

module _ (held : Held) (answer : Turn) (file : File) (no_key : (looks : List Look) → AskForKey held answer file looks → ⊥) (not_refused : IsRefused answer → ⊥) where
  read_there : (look : Look) (looks : List Look) → look.question ≡ Length → held.position ≤ look.sight.length → IsReadAt answer held.position looks → HasRead held.position (look ∷ looks)
  read_there look [] asks reached refused = absurd (not_refused refused)
  read_there look (read ∷ []) asks reached there = record { asked = look; read = read; count = there.0; are = refl; asks = asks; reached = reached; reads = there.1 }
  read_there look (read ∷ other ∷ looks) asks reached there = absurd there

  -- none, or the length and a read
  none_or_read : (looks : List Look) → AreOfReading held answer file looks → (looks ≡ []) ⊎ HasRead held.position looks
  none_or_read [] are = inl refl
  none_or_read (look ∷ looks) are = by_length are.1
    where
      by_length : StandBehindLength held file answer look.sight.length looks → (look ∷ looks ≡ []) ⊎ HasRead held.position (look ∷ looks)
      by_length (inl fell) = absurd (no_key looks fell.1)
      by_length (inr reached) = inr (read_there look looks are.0 reached.0 reached.1)

-- ---- they ask for no key

-- of a file that was read on, and is now asked for its key, though these looks were told in addition
module _ (numbers later_numbers : Option (ℕ × ℕ)) (before after : History) (tail : TailHistory) (added : List Look) (place : ℕ)
    (only : OnlyRead before.before) (later_only : OnlyRead after.before) (looked : IsLookedAt numbers before tail)
    (now_looked : IsLookedAt later_numbers after (record tail { looks = tail.looks ++ added })) (reads : before.stage ≡ Reads) (asks : after.stage ≡ Asks)
    (same_base : after.begin.base ≡ before.begin.base) (same_past : after.past ≡ before.past) where
  abbrev first : IsLookedAt numbers (record before { before = [] }) tail
  first = joined numbers before tail only looked

  abbrev then : IsLookedAt later_numbers (record after { before = [] }) (record tail { looks = tail.looks ++ added })
  then = joined later_numbers after (record tail { looks = tail.looks ++ added }) later_only now_looked

  -- as often as before
  none_added : added ≡ [] → ⊥
  none_added none =
      let was = falls_are numbers (record before { before = [] }) tail first refl ∙ ap (λ (s : Stage). length before.past + unanswered_at s) reads in
      let now = falls_are later_numbers (record after { before = [] }) (record tail { looks = tail.looks ++ added }) then refl ∙ ap (λ (s : Stage). length after.past + unanswered_at s) asks in
      let past = ap length same_past in
      let same : falls_in after.begin.base (tail.looks ++ added) ≡ falls_in before.begin.base tail.looks =
      (λ k. falls_in (same_base k) (tail.looks ++ none k)) ∙ ap (falls_in before.begin.base) (append-nil tail.looks) in
      omega (arith, was, now, past, same)

  fell : HasFallen (record after { before = [] }) then.beyond
  fell = (subst (λ (s : Stage). StandBehind (record after { before = [] }) (with_numbers later_numbers tail.file) s then.beyond) asks then.stand_behind).fallen

  looks_were : tail.looks ≡ first.since
  looks_were =
      let nothing : first.beyond ≡ [] =
      subst (λ (s : Stage). StandBehind (record before { before = [] }) (with_numbers numbers tail.file) s first.beyond) reads first.stand_behind in
      first.looks_are ∙ ap (λ (l : List Look). first.since ++ l) nothing ∙ append-nil first.since

  looks_now : tail.looks ++ added ≡ then.since ++ fell.fall ∷ fell.later
  looks_now = then.looks_are ∙ ap (λ (l : List Look). then.since ++ l) fell.looks_are

  -- the length was not below the place up to which was read
  none_read : HasRead place added → place ≡ read_to first.last → ⊥
  none_read there place_is =
      let only_read : OnlyRead (there.read ∷ []) = (subst IsRead (sym there.reads) tt, tt) in
      let parted : tail.looks ++ added ≡ tail.looks ++ there.asked ∷ there.read ∷ [] = ap (λ (l : List Look). tail.looks ++ l) there.are in
      let since : tail.looks ≡ then.since =
      sym (before_fall tail.looks there.asked (there.read ∷ []) there.asks only_read)
      ∙ ap before_last_length (sym parted ∙ looks_now)
      ∙ before_fall then.since fell.fall fell.later fell.asks fell.only_reads in
      let from : there.asked ∷ there.read ∷ [] ≡ fell.fall ∷ fell.later =
      sym (from_fall tail.looks there.asked (there.read ∷ []) there.asks only_read)
      ∙ ap from_last_length (sym parted ∙ looks_now)
      ∙ from_fall then.since fell.fall fell.later fell.asks fell.only_reads in
      let asked : there.asked ≡ fell.fall = cc in
      let length_is = ap (λ (look : Look). look.sight.length) asked in
      let up_to : read_to first.last ≡ read_to then.last =
      sym (read_up_to before.begin.base first.since first.front first.last first.segments)
      ∙ (λ k. place_after false (sym same_base k) ((sym looks_were ∙ since) k))
      ∙ read_up_to after.begin.base then.since then.front then.last then.segments in
      let to = then.present.to in
      let below = fell.below in
      let reached = there.reached in
      omega (arith, place_is, up_to, to, below, reached, length_is)

-- ---- a harvester

module _ {T : Type 0} (numbers : T → Option (ℕ × ℕ)) (told : T → Option TailHistory) (faults : T → ℕ) where
  -- what it told is known, its tail tells, it was asked for its key by reads alone, and each fall of its length was answered
  pub record IsAnsweredSo (harvester : Harvester T) : Type 0 where
    pub history : History
    pub has_told : HasTold numbers told history harvester
    pub only_asked : OnlyRead history.before
    pub tells : IsSome (told harvester.tail)
    pub answered : HasAnswered harvester

  module _ (step : Step) (before after : Harvester T) (went_on : WentOn step) (goes_on : ¬ (IsChanged before)) (turned : HasTurned numbers told faults step.now step.last before step.turn after)
      (was : IsAnsweredSo before) where
    abbrev history : History
    history = was.history

    abbrev h : History
    h = with_turn step.now.0 step.last history

    g : Goes numbers told 16_384 step.now.0 (step.last || history.ends) h before step.turn after
    g = turned.goes history was.has_told

    abbrev later : History
    later = after_did step.now.0 step.turn g.did h

    -- the tail tells still
    tells : IsSome (told after.tail)
    tells = by_case (told before.tail) was.tells turned.looks
      where
        by_case : (o : Option TailHistory) → IsSome o → LooksOn (AreOfTurn before.reader.stage before.reader step.turn) (numbers before.tail) o (told after.tail) → IsSome (told after.tail)
        by_case None some looks = absurd (cc)
        by_case (Some tail) some looks = subst (λ (o : Option TailHistory). IsSome o) (sym looks.added.kept) refl

    by_stage : MayReopenAt later.stage → HasAnswered after
    by_stage answered = subst MayReopenAt (sym g.has_told.held.holds.follows.stage) answered

    caused_by : (t : Turn) → step.turn ≡ t → IsCaused told step.now.0 (step.last || history.ends) h g.did (after_did step.now.0 t g.did h) before t after
    caused_by t is = subst (λ (x : Turn). IsCaused told step.now.0 (step.last || history.ends) h g.did (after_did step.now.0 x g.did h) before x after) is g.caused

    at : (t : Turn) → step.turn ≡ t → MayReopenAt (after_did step.now.0 t g.did h).stage → HasAnswered after
    at t is answered = by_stage (subst (λ (x : Turn). MayReopenAt (after_did step.now.0 x g.did h).stage) (sym is) answered)

    -- ---- it told an event, or read more

    module _ (t : Turn) (later_is : later ≡ did_with step.now.0 (events_told h.path step.now.0 t) g.did h) (no_key : (file : File) (looks : List Look) → AskForKey before.reader step.turn file looks → ⊥)
        (not_refused : IsRefused step.turn → ⊥) (may : MayTurn g.did.stage) where
      abbrev now : History
      now = did_with step.now.0 (events_told h.path step.now.0 t) g.did h

      has_told : HasTold numbers told now after
      has_told = subst (λ (x : History). HasTold numbers told x after) later_is g.has_told

      asks_nothing : before.reader.stage ≡ stage.Reading → g.did.stage ≡ Asks → ⊥
      asks_nothing reading asks = by_case (told before.tail) refl was.tells turned.looks
        where
          reads : history.stage ≡ Reads
          reads = sym was.has_told.held.holds.follows.stage ∙ ap stage_of reading

          by_case : (o : Option TailHistory) → told before.tail ≡ o → IsSome o → LooksOn (AreOfTurn before.reader.stage before.reader step.turn) (numbers before.tail) o (told after.tail) → ⊥
          by_case None told_is some looks = absurd (cc)
          by_case (Some tail) told_is some looks = by_looks (none_or_read before.reader step.turn file (no_key file) not_refused looks.looks are)
            where
              file : File
              file = with_numbers (numbers before.tail) tail.file

              are : AreOfReading before.reader step.turn file looks.looks
              are = subst (λ (s : ReaderStage). AreOfTurn s before.reader step.turn file looks.looks) reading looks.are

              looked : IsLookedAt (numbers before.tail) history tail
              looked = subst (λ (o : Option TailHistory). IfSome o (IsLookedAt (numbers before.tail) history)) told_is was.has_told.looked

              now_looked : IsLookedAt (numbers after.tail) now (record tail { looks = tail.looks ++ looks.looks })
              now_looked = subst (λ (o : Option TailHistory). IfSome o (IsLookedAt (numbers after.tail) now)) looks.added.kept has_told.looked

              place_is : before.reader.position ≡ read_to (joined (numbers before.tail) history tail was.only_asked looked).last
              place_is = was.has_told.held.holds.position.position ∙ sym (joined (numbers before.tail) history tail was.only_asked looked).present.to

              by_looks : (looks.looks ≡ []) ⊎ HasRead before.reader.position looks.looks → ⊥
              by_looks (inl none) =
                  none_added (numbers before.tail) (numbers after.tail) history now tail looks.looks before.reader.position was.only_asked was.only_asked looked now_looked reads asks refl refl none
              by_looks (inr there) =
                  none_read (numbers before.tail) (numbers after.tail) history now tail looks.looks before.reader.position was.only_asked was.only_asked looked now_looked reads asks refl refl there place_is

      told_more : HasAnswered after
      told_more = by_stage (subst (λ (x : History). MayReopenAt x.stage) (sym later_is) (by_reader before.reader.stage refl))
        where
          by_reader : (s : ReaderStage) → before.reader.stage ≡ s → MayReopenAt g.did.stage
          by_reader stage.Reading is = answered_turned g.did.stage may (asks_nothing is)
          by_reader stage.Asking is = absurd (subst (λ (s : ReaderStage). MayReopenAt (stage_of s)) is was.answered)
          by_reader stage.Ended is = subst MayReopenAt (sym (g.stays_ended (sym was.has_told.held.holds.follows.stage ∙ ap stage_of is))) tt
          by_reader stage.Changed is = absurd (goes_on (inl is))
          by_reader stage.Over is = absurd (goes_on (inr is))

    -- ---- by its answer

    answered_by : (t : Turn) → step.turn ≡ t → HasAnswered after
    answered_by (turn.Issued parcel) is =
        told_more (turn.Issued parcel) (ap (λ (x : Turn). after_did step.now.0 x g.did h) is)
        (λ file looks asks. subst (λ (x : Turn). AskForKey before.reader x file looks) is asks) (λ refused. subst IsRefused is refused) (caused_by (turn.Issued parcel) is)
    answered_by (turn.Passed span rule) is =
        told_more (turn.Passed span rule) (ap (λ (x : Turn). after_did step.now.0 x g.did h) is)
        (λ file looks asks. subst (λ (x : Turn). AskForKey before.reader x file looks) is asks) (λ refused. subst IsRefused is refused) (caused_by (turn.Passed span rule) is)
    answered_by turn.More is =
        told_more turn.More (ap (λ (x : Turn). after_did step.now.0 x g.did h) is)
        (λ file looks asks. subst (λ (x : Turn). AskForKey before.reader x file looks) is asks) (λ refused. subst IsRefused is refused) (caused_by turn.More is).1
    answered_by turn.AtEnd is = at turn.AtEnd is (answered_quiet g.did.stage (caused_by turn.AtEnd is).none_asked)
    answered_by (turn.NewLife epoch) is = at (turn.NewLife epoch) is tt
    answered_by turn.Changed is = at turn.Changed is (subst MayReopenAt (sym (caused_by turn.Changed is)) tt)
    answered_by turn.EpochsOut is = absurd (went_on.not_out is)
    answered_by turn.ReadFault is = absurd (went_on.no_fault is)
    answered_by turn.NoMemory is = absurd (went_on.memory is)

    answers : IsAnsweredSo after
    answers = record {
      history = later;
      has_told = g.has_told;
      only_asked = subst OnlyRead (sym (before_stays step.now.0 step.turn g.did h)) was.only_asked;
      tells = tells;
      answered = answered_by step.turn refl;
    }

  pub answers_on : EachTurnKeeps numbers told faults WentOn IsAnsweredSo
  answers_on step before after went_on goes_on turned was = answers step before after went_on goes_on turned was
