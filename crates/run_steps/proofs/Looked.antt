-- A turn that is not refused leaves a file asked for its length, by this turn or by an earlier one.
use Rattle.std.proofs.Common.{◌≡◌, ◌≢◌, ◌⊎◌, inl, inr, ⊎_elim, ℕ, ◌+◌, List, [], ◌∷◌, ◌++◌, length, Option, Some, None, IfSome, refl, sym, subst, ◌∙◌, arith}
use Rattle.file_identity.specs.AskedAgain.{IsRead}
use Rattle.file_identity.specs.Answers.{with_numbers}
use Rattle.file_looks.specs.EndLook.{HasEndLook}
use Rattle.harvester.specs.HasTold.{HasTold, IsChanged}
use Rattle.harvester.specs.Held.{Held}
use Rattle.harvester.specs.History.{Asks, Changed, Ended, History, Over, Reads, Stage, rules_in}
use Rattle.harvester.specs.History as history
use Rattle.harvester.specs.Looked.{HasFallen, IsLookedAt, StandBehind}
use Rattle.harvester.specs.Standing.{StandsFor, stage_of}
use Rattle.harvester.specs.TurnLooks.{AreOfReading, AreOfTurn, IsRefused, LooksOn, TellsOrFails}
use Rattle.harvester.specs.Turned.{HasOneEvent, events_told, with_turn}
use Rattle.harvester.specs.Turns.{Did, after_did}
use Rattle.harvester.specs.declared.harvester.Harvester.{Harvester}
use Rattle.harvester.specs.declared.stage.Stage.{Stage as ReaderStage}
use Rattle.harvester.specs.declared.stage.Stage.TheVariants as stage
use Rattle.harvester.specs.declared.turn.Turn.{Turn}
use Rattle.harvester.specs.declared.turn.Turn.TheVariants as turn
use Rattle.lanes.specs.Step.{Step}
use Rattle.lanes.specs.Steps.{IsMade}
use Rattle.lanes.specs.Turned.{IsKnown}
use Rattle.outside.specs.Files.{File}
use Rattle.outside.specs.Tails.{TailHistory}
use Rattle.outside.specs.declared.history.Look.{Look}
use Rattle.outside.specs.declared.history.Question.{Question}
use Rattle.outside.specs.declared.history.Question.TheVariants.{Length, ReadAt}
use Rattle.rounds.specs.Pairs.{SomeOf}
use Rattle.slot_parts.proofs.Within.{none_of_nothing}
use Rattle.run_steps.specs.FirstLook.{IsLengthLook}
use Rattle.run_steps.specs.Looking.{HasLooked}
use Rattle.run_steps.proofs.Causing.{Shows}
use Rattle.run_steps.proofs.Ended.{nil_by}
use Rattle.run_steps.proofs.LastOver.{some_behind, some_first}
use Rattle.run_steps.proofs.ReadPlaces.{OnlyRead, begins_there, only_read_in, read_up_to, stays_put}

-- ---- looks

-- one asked the length, or each is a read
asks_or_reads : (looks : List Look) → SomeOf IsLengthLook looks ⊎ OnlyRead looks
asks_or_reads [] = inr tt
asks_or_reads (look ∷ looks) = by_question look.question refl (asks_or_reads looks)
  where
    by_question : (question : Question) → look.question ≡ question → SomeOf IsLengthLook looks ⊎ OnlyRead looks → SomeOf IsLengthLook (look ∷ looks) ⊎ OnlyRead (look ∷ looks)
    by_question Length is others = inl (inl is)
    by_question (ReadAt at count) is others = ⊎_elim (λ later. inl (inr later)) (λ reads. inr (subst IsRead (sym is) tt, reads)) others

-- not both
pub none_asks : (looks : List Look) → OnlyRead looks → SomeOf IsLengthLook looks → ⊥
none_asks [] only some = some
none_asks (look ∷ looks) only some = ⊎_elim (λ asks. subst IsRead asks only.0) (λ later. none_asks looks only.1 later) some

first_only : (xs ys : List Look) → OnlyRead (xs ++ ys) → OnlyRead xs
first_only [] ys only = tt
first_only (x ∷ xs) ys only = (only.0, first_only xs ys only.1)

others_only : (xs ys : List Look) → OnlyRead (xs ++ ys) → OnlyRead ys
others_only [] ys only = only
others_only (x ∷ xs) ys only = others_only xs ys only.1

-- ---- a history whose looks are reads

module _ (h : History) (numbers : Option (ℕ × ℕ)) (tail : TailHistory) (looked : IsLookedAt numbers h tail) (only : OnlyRead tail.looks) where
  all_only : OnlyRead (h.before ++ (looked.since ++ looked.beyond))
  all_only = subst OnlyRead looked.looks_are only

  since_only : OnlyRead looked.since
  since_only = first_only looked.since looked.beyond (others_only h.before (looked.since ++ looked.beyond) all_only)

  beyond_only : OnlyRead looked.beyond
  beyond_only = others_only looked.since looked.beyond (others_only h.before (looked.since ++ looked.beyond) all_only)

  not_fallen : HasFallen h looked.beyond → ⊥
  not_fallen fallen = none_asks (fallen.fall ∷ fallen.later) (subst OnlyRead fallen.looks_are beyond_only) (inl fallen.asks)

  not_ended : HasEndLook looked.last (history.read_to h.present) → ⊥
  not_ended found =
      none_asks (found.asked ∷ found.read ∷ found.behind) (others_only found.front (found.asked ∷ found.read ∷ found.behind)
      (subst OnlyRead found.looks_are (only_read_in h.begin.base looked.since looked.front looked.last since_only looked.segments))) (inl found.asks)

  -- it reads on
  reads_yet : h.stage ≡ Reads
  reads_yet = by_stage h.stage refl looked.stand_behind
    where
      by_stage : (s : Stage) → h.stage ≡ s → StandBehind h (with_numbers numbers tail.file) s looked.beyond → h.stage ≡ Reads
      by_stage Reads is behind = is
      by_stage Asks is behind = absurd (not_fallen behind.fallen)
      by_stage Ended is behind = absurd (not_ended (looked.end_look is))
      by_stage Changed is behind = absurd (not_fallen behind.fallen)
      by_stage Over is behind = absurd (not_fallen behind.fallen)

  -- and nothing was read
  none_read : h.present.bytes ≡ []
  none_read = nil_by h.present.bytes none
    where
      none : length h.present.bytes ≡ 0
      none =
          let to : h.begin.base ≡ history.read_to h.present =
          sym (stays_put h.begin.base looked.since since_only) ∙ read_up_to h.begin.base looked.since looked.front looked.last looked.segments ∙ looked.present.to in
          let from : h.present.start ≡ h.begin.base =
          sym looked.present.place ∙ begins_there h.begin.base looked.since looked.front looked.last since_only looked.segments in
          let whole : h.begin.base ≡ h.present.start + length h.present.bytes = to in
          omega (arith, whole, from)

-- ---- a harvester

module _ {T : Type 0} (numbers : T → Option (ℕ × ℕ)) (told : T → Option TailHistory) where
  asked_by : (h : History) (n : Option (ℕ × ℕ)) (o : Option TailHistory) → IfSome o (IsLookedAt n h) →
      (h.stage ≢ Reads) ⊎ (h.present.bytes ≢ []) → HasLooked o
  asked_by h n None looked some = tt
  asked_by h n (Some tail) looked some =
      ⊎_elim (λ asks. asks) (λ only. absurd (⊎_elim (λ not. not (reads_yet h n tail looked only)) (λ not. not (none_read h n tail looked only)) some)) (asks_or_reads tail.looks)

  -- one that does not read on was asked
  not_reading_looked : (harvester : Harvester T) → IsKnown numbers told harvester → harvester.reader.stage ≢ stage.Reading → HasLooked (told harvester.tail)
  not_reading_looked harvester known not =
      asked_by known.0 (numbers harvester.tail) (told harvester.tail) known.1.looked (inl (λ reads. not (reads_only harvester.reader.stage (known.1.held.holds.follows.stage ∙ reads))))
    where
      reads_only : (s : ReaderStage) → stage_of s ≡ Reads → s ≡ stage.Reading
      reads_only stage.Reading is = refl
      reads_only stage.Asking is = absurd (let no : Asks ≡ Reads = is in cc)
      reads_only stage.Ended is = absurd (let no : Ended ≡ Reads = is in cc)
      reads_only stage.Changed is = absurd (let no : Changed ≡ Reads = is in cc)
      reads_only stage.Over is = absurd (let no : Over ≡ Reads = is in cc)

  pub changed_looked : (harvester : Harvester T) → IsKnown numbers told harvester → IsChanged harvester → HasLooked (told harvester.tail)
  changed_looked harvester known changed =
      not_reading_looked harvester known (λ reads. ⊎_elim (λ (is : harvester.reader.stage ≡ stage.Changed). let no : stage.Reading ≡ stage.Changed = sym reads ∙ is in cc)
      (λ (is : harvester.reader.stage ≡ stage.Over). let no : stage.Reading ≡ stage.Over = sym reads ∙ is in cc) changed)

  -- what was told of nothing is nothing
  nothing_told : (h : History) (held : Held) → StandsFor h held → h.present.bytes ≡ [] → h.present.told ≡ []
  nothing_told h held stands none =
      none_of_nothing (rules_in h) h.present stands.holds.has.gathered.gathers.in_range none stands.holds.present

  -- and so was one that told a span
  told_looked : (h : History) (harvester : Harvester T) → HasTold numbers told h harvester → h.present.told ≢ [] → HasLooked (told harvester.tail)
  told_looked h harvester has_told some =
      asked_by h (numbers harvester.tail) (told harvester.tail) has_told.looked (inr (λ none. some (nothing_told h harvester.reader has_told.held none)))

-- ---- a turn

-- it met no read fault, and memory was not out
abbrev pub NotRefused : Step → Type 0
NotRefused step = ¬ (IsRefused step.turn)

tells_span : (t : Turn) → TellsOrFails t → ¬ (IsRefused t) → HasOneEvent t
tells_span (turn.Issued parcel) tells not = tt
tells_span (turn.Passed span rule) tells not = tt
tells_span turn.More tells not = absurd tells
tells_span turn.AtEnd tells not = absurd tells
tells_span (turn.NewLife epoch) tells not = absurd tells
tells_span turn.Changed tells not = absurd tells
tells_span turn.EpochsOut tells not = absurd tells
tells_span turn.ReadFault tells not = absurd (not tt)
tells_span turn.NoMemory tells not = absurd (not tt)

some_more : {A : Type 0} (xs ys : List A) → ys ≢ [] → xs ++ ys ≢ []
some_more [] ys some is = some is
some_more (x ∷ xs) ys some is = let no : x ∷ (xs ++ ys) ≡ [] = is in cc

has_told_one : (now : ℕ) (t : Turn) (did : Did) (h : History) → HasOneEvent t → (after_did now t did h).present.told ≢ []
has_told_one now (turn.Issued parcel) did h one = some_more h.present.told (events_told h.path now (turn.Issued parcel)) (λ is. cc is)
has_told_one now (turn.Passed span rule) did h one = some_more h.present.told (events_told h.path now (turn.Passed span rule)) (λ is. cc is)
has_told_one now turn.More did h one = absurd one
has_told_one now turn.AtEnd did h one = absurd one
has_told_one now (turn.NewLife epoch) did h one = absurd one
has_told_one now turn.Changed did h one = absurd one
has_told_one now turn.EpochsOut did h one = absurd one
has_told_one now turn.ReadFault did h one = absurd one
has_told_one now turn.NoMemory did h one = absurd one

-- what was asked stays asked
still_looked : (Are : File → List Look → Type 0) (n : Option (ℕ × ℕ)) (o after : Option TailHistory) → LooksOn Are n o after → HasLooked o → HasLooked after
still_looked Are n None after on looked = subst HasLooked (sym on) looked
still_looked Are n (Some tail) after on looked = subst HasLooked (sym on.added.kept) (some_first IsLengthLook tail.looks on.looks looked)

-- a turn that reads on asks, or tells a span of what was read
reading_looks : (held : Held) (t : Turn) (n : Option (ℕ × ℕ)) (o after : Option TailHistory) → LooksOn (AreOfReading held t) n o after → ¬ (IsRefused t) → (HasOneEvent t → HasLooked after) →
    HasLooked after
reading_looks held t n None after on not tells = subst HasLooked (sym on) tt
reading_looks held t n (Some tail) after on not tells = by_looks on.looks refl on.are
  where
    by_looks : (looks : List Look) → on.looks ≡ looks → AreOfReading held t (with_numbers n tail.file) looks → HasLooked after
    by_looks [] is are = tells (tells_span t are not)
    by_looks (look ∷ looks) is are =
        subst HasLooked (sym on.added.kept) (some_behind IsLengthLook tail.looks on.looks (subst (SomeOf IsLengthLook) (sym is) (inl are.0)))

abbrev pub Looked : {T : Type 0} → (T → Option TailHistory) → Harvester T → Type 0
Looked told harvester = HasLooked (told harvester.tail)

module _ {T : Type 0} (numbers : T → Option (ℕ × ℕ)) (told : T → Option TailHistory) (faults : T → ℕ) where
  pub looks_show : Shows numbers told faults NotRefused (Looked told)
  looks_show = record {
    shows = λ step olds news made not known. by_stage step olds news made not known made.before.reader.stage refl made.turned.looks;
    stays = λ step olds news made was.
        still_looked (AreOfTurn made.before.reader.stage made.before.reader step.turn) (numbers made.before.tail) (told made.before.tail) (told made.after.tail) made.turned.looks was;
  }
    where
      still : (step : Step) (olds news : List (Harvester T)) (made : IsMade numbers told faults step olds news) → IsKnown numbers told made.before →
          made.before.reader.stage ≢ stage.Reading → Looked told made.after
      still step olds news made known not =
          still_looked (AreOfTurn made.before.reader.stage made.before.reader step.turn) (numbers made.before.tail) (told made.before.tail) (told made.after.tail) made.turned.looks
          (not_reading_looked numbers told made.before known not)

      tells : (step : Step) (olds news : List (Harvester T)) (made : IsMade numbers told faults step olds news) → IsKnown numbers told made.before → HasOneEvent step.turn → Looked told made.after
      tells step olds news made known one =
          let h = with_turn step.now.0 step.last known.0 in
          let g = made.turned.goes known.0 known.1 in
          told_looked numbers told (after_did step.now.0 step.turn g.did h) made.after g.has_told (has_told_one step.now.0 step.turn g.did h one)

      by_stage : (step : Step) (olds news : List (Harvester T)) (made : IsMade numbers told faults step olds news) → NotRefused step → IsKnown numbers told made.before →
          (s : ReaderStage) → made.before.reader.stage ≡ s → LooksOn (AreOfTurn s made.before.reader step.turn) (numbers made.before.tail) (told made.before.tail) (told made.after.tail) →
          Looked told made.after
      by_stage step olds news made not known stage.Reading is looks =
          reading_looks made.before.reader step.turn (numbers made.before.tail) (told made.before.tail) (told made.after.tail) looks not (tells step olds news made known)
      by_stage step olds news made not known stage.Asking is looks = still step olds news made known (λ reads. let no : stage.Reading ≡ stage.Asking = sym reads ∙ is in cc)
      by_stage step olds news made not known stage.Ended is looks = still step olds news made known (λ reads. let no : stage.Reading ≡ stage.Ended = sym reads ∙ is in cc)
      by_stage step olds news made not known stage.Changed is looks = still step olds news made known (λ reads. let no : stage.Reading ≡ stage.Changed = sym reads ∙ is in cc)
      by_stage step olds news made not known stage.Over is looks = still step olds news made known (λ reads. let no : stage.Reading ≡ stage.Over = sym reads ∙ is in cc)
