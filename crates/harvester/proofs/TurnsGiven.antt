-- What the steps of a turn give, as contracts tell it.
use Rattle.std.proofs.Common.{◌≡◌, ◌⊎◌, inl, inr, ℕ, ◌<◌, ◌≤◌, Bool, true, false, List, [], ◌∷◌, ◌++◌, length, Contains, Option, Some, None, ◌↔◌, ◌||◌, IfOk, IfSome, IsSome, IsErr, IsErrOf, Result, Ok, Err, refl, sym, ap, subst, ◌∙◌, append-nil, arith}
use Rattle.std.specs.List.{AllByRecursion}
use Rattle.std.proofs.lemmas.Bool.{or_left}
use Rattle.std.proofs.lemmas.List.Elements.{Contains-append_right}
use Rattle.line_cutter.specs.declared.line.Line.{Line}
use Rattle.multiline_core.specs.Gathering.{MayGoOn}
use Rattle.outside.specs.Tails.{TailHistory}
use Rattle.told_events.specs.Licence.{LieApart}
use Rattle.told_events.specs.Told.{ToldEvent}
use Rattle.wire_base.specs.declared.note.Begin.{Begin}
use Rattle.wire_base.specs.declared.numbers.Epoch.{Epoch}
use Rattle.wire_base.specs.declared.numbers.Slot.{Slot}
use Rattle.wire_base.specs.declared.memory.NoMemory.{NoMemory}
use Rattle.harvester.specs.declared.events.Events.{Events}
use Rattle.harvester.specs.declared.harvester.Harvester.{Harvester}
use Rattle.harvester.specs.declared.look.Found.{Found}
use Rattle.harvester.specs.declared.look.Found.TheVariants.{End, Less}
use Rattle.harvester.specs.declared.stage.Stage.{Stage as ReaderStage}
use Rattle.harvester.specs.declared.stage.Stage.TheVariants as reader
use Rattle.harvester.specs.declared.stage.Stage.TheVariants.{Reading}
use Rattle.harvester.specs.declared.turn.Turn.{Turn}
use Rattle.harvester.specs.declared.turn.Turn.TheVariants as turn
use Rattle.harvester.specs.declared.turn_error.TurnError.{TurnError}
use Rattle.harvester.specs.declared.turn_error.TurnError.TheVariants as error
use Rattle.harvester.specs.Asked.{HasAsked}
use Rattle.harvester.specs.Found.{FoundEnd, HasLooked, LooksAtEnd}
use Rattle.harvester.specs.HasTold.{HasTold, IsChanged}
use Rattle.harvester.specs.Held.{Held}
use Rattle.harvester.specs.History.{Asks, Changed, Ended, History, IsPast, Over, Reads, Stage, left_to_tell, read_to, timeout_in, with_bytes, with_epoch, with_events, with_licences, with_present, with_read, with_stage}
use Rattle.harvester.specs.Looked.{AreLookedAt}
use Rattle.harvester.specs.Standing.{EndsAt, EndsLines, StandsFor, WasClosed, stage_behind_end, stage_of}
use Rattle.harvester.specs.Turned.{HasOneEvent, IsAskedIn, IsByKey, IsAnswerFor, IsOfFile, events_told, with_turn}
use Rattle.harvester.specs.Turns.{AsksNothing, Did, EndsHere, EndsNow, Goes, IsCaused, IsSettled, MayBeEnded, MayTurn, IsLast, NoneCloses, NoneDue, MayFlush, Settled, after_did, answer_of, did_with, events_of, last_line_of, with_told}
use Rattle.harvester.proofs.Did.{did_both, did_bytes, did_events, did_licences, did_nothing, did_stage}
use Rattle.harvester.proofs.Lasting.{same_read, turns_on}
use Rattle.harvester.proofs.Looking.{apart_stays}
use Rattle.harvester.proofs.LookingOn.{flushes, flushes_at_end, other_turn}

-- where the file is after an end that may be found
abbrev pub behind_end : Bool → Stage
behind_end ended = stage_of (stage_behind_end ended)

behind_ended : (ended : Bool) → behind_end ended ≡ Ended → ended ≡ true
behind_ended true is = refl
behind_ended false is = absurd (let no : Reads ≡ Ended = is in cc)

behind_goes_on : (ended : Bool) → MayTurn (behind_end ended)
behind_goes_on true = tt
behind_goes_on false = tt

behind_asks_nothing : (ended : Bool) → AsksNothing (behind_end ended)
behind_asks_nothing true = tt
behind_asks_nothing false = tt

may_turn_then : (stage : Stage) → AsksNothing stage → MayTurn stage
may_turn_then Reads nothing = tt
may_turn_then Asks nothing = absurd nothing
may_turn_then Ended nothing = tt
may_turn_then Changed nothing = absurd nothing
may_turn_then Over nothing = absurd nothing

pub reads_of : (h : History) (held : Held) → StandsFor h held → held.stage ≡ Reading → h.stage ≡ Reads
reads_of h held t reading = sym t.holds.follows.stage ∙ ap stage_of reading

-- the same, if what is held changed
pub with_reader : {T : Type 0} (numbers : T → Option (ℕ × ℕ)) (told : T → Option TailHistory) (h : History) (old : Harvester T) → HasTold numbers told h old →
    (reader : Held) → StandsFor h reader → HasTold numbers told h (record old { reader = reader })
with_reader numbers told h old has reader stands = record { held = stands; decides = has.decides; looked = has.looked }

-- of the same file and epoch
pub of_same : (held old : Held) (answer : Turn) → held.begin ≡ old.begin → held.epoch ≡ old.epoch → IsAnswerFor held.begin.slot held.epoch answer →
    IsAnswerFor old.begin.slot old.epoch answer
of_same held old answer begin epoch is =
    subst (λ (b : Begin). IsAnswerFor b.slot old.epoch answer) begin (subst (λ (e : Epoch). IsAnswerFor held.begin.slot e answer) epoch is)

module _ {T : Type 0} (numbers : T → Option (ℕ × ℕ)) (told : T → Option TailHistory) (now : ℕ) (ended : Bool) (h : History) (reads : h.stage ≡ Reads) (new : Harvester T) where
  -- ---- settling

  pub settles_refused : (result : Result (Option Turn) NoMemory) → IsErr result → HasTold numbers told h new → Settled numbers told now ended h result new
  settles_refused (Ok answer) err has = absurd (let no : false ≡ true = err in cc)
  settles_refused (Err error) err has = record {
    licences = [];
    stage = Reads;
    goes_on = tt;
    ends = λ is. absurd (let no : Reads ≡ Ended = is in cc);
    at_none = λ is. absurd cc;
    has_told = subst (λ (g : History). HasTold numbers told g new) (sym (did_nothing now h Reads reads)) has;
    one = tt;
    flushed = inl refl;
    at_rest = λ is. absurd cc;
  }

  pub settles_told : (answer : Turn) → HasOneEvent answer → HasTold numbers told (with_present (with_events (events_told h.path now answer) h.present) h) new →
      Settled numbers told now ended h (Ok (Some answer)) new
  settles_told answer one has = record {
    licences = [];
    stage = Reads;
    goes_on = tt;
    ends = λ is. absurd (let no : Reads ≡ Ended = is in cc);
    at_none = λ is. absurd cc;
    has_told = subst (λ (g : History). HasTold numbers told g new) (sym (did_events now h Reads reads (events_told h.path now answer))) has;
    one = one;
    flushed = inl refl;
    at_rest = λ is. absurd cc;
  }

  module _ (licences : List ℕ) (due : (licences ≡ []) ⊎ ((ended ≡ true) ⊎ IsPast h now)) (none : NoneCloses h) (lines : AllByRecursion (EndsLines h) licences) where
    why : (e : Bool) → (e ≡ true) ⊎ IsPast h now → (behind_end e ≡ Ended) ⊎ IsPast h now
    why true cause = inl refl
    why false (inl never) = absurd (let no : false ≡ true = never in cc)
    why false (inr past) = inr past

    may_flush : (licences ≡ []) ⊎ ((ended ≡ true) ⊎ IsPast h now) → (licences ≡ []) ⊎ MayFlush now (behind_end ended) licences h
    may_flush (inl none_flushed) = inl none_flushed
    may_flush (inr cause) = inr (record { why = why ended cause; none_closes = none; end_lines = lines })

    pub closes_none : HasTold numbers told (with_stage (behind_end ended) (with_present (with_licences licences h.present) h)) new → IsSettled now ended h new →
        Settled numbers told now ended h (Ok None) new
    closes_none has settled = record {
      licences = licences;
      stage = behind_end ended;
      goes_on = behind_goes_on ended;
      ends = behind_ended ended;
      at_none = λ is. refl;
      has_told = subst (λ (g : History). HasTold numbers told g new) (sym (did_licences now h (behind_end ended) licences)) has;
      one = tt;
      flushed = may_flush due;
      at_rest = λ is. settled;
    }

    pub closes_refused : (result : Result (Option Turn) NoMemory) → IsErr result →
        HasTold numbers told (with_stage (behind_end ended) (with_present (with_licences licences h.present) h)) new → Settled numbers told now ended h result new
    closes_refused (Ok answer) err has = absurd (let no : false ≡ true = err in cc)
    closes_refused (Err error) err has = record {
      licences = licences;
      stage = behind_end ended;
      goes_on = behind_goes_on ended;
      ends = behind_ended ended;
      at_none = λ is. absurd cc;
      has_told = subst (λ (g : History). HasTold numbers told g new) (sym (did_licences now h (behind_end ended) licences)) has;
      one = tt;
      flushed = may_flush due;
      at_rest = λ is. absurd cc;
    }

    pub closes_told : (answer : Turn) → HasOneEvent answer →
        HasTold numbers told (with_stage (behind_end ended) (with_present (with_events (events_told h.path now answer) (with_licences licences h.present)) h)) new →
        Settled numbers told now ended h (Ok (Some answer)) new
    closes_told answer one has = record {
      licences = licences;
      stage = behind_end ended;
      goes_on = behind_goes_on ended;
      ends = behind_ended ended;
      at_none = λ is. absurd cc;
      has_told = subst (λ (g : History). HasTold numbers told g new) (sym (did_both now h (behind_end ended) licences (events_told h.path now answer))) has;
      one = one;
      flushed = may_flush due;
      at_rest = λ is. absurd cc;
    }

-- the event that waited was closed, and the file ended where its end was found
module _ {T : Type 0} (numbers : T → Option (ℕ × ℕ)) (told : T → Option TailHistory) (now : ℕ) (h : History) (reads : h.stage ≡ Reads) (old : Harvester T)
    (has : HasTold numbers told h old) (closed : Held) where
  pub closed_told : (ended : Bool) (w : WasClosed h now ended closed) → (ended ≡ true → MayBeEnded numbers told h old) → (reader : Held) →
      StandsFor (with_stage (behind_end ended) (with_present (with_licences w.licences h.present) h)) reader →
      HasTold numbers told (with_stage (behind_end ended) (with_present (with_licences w.licences h.present) h)) (record old { reader = reader })
  closed_told ended w may reader stands = record { held = stands; decides = has.decides; looked = looked_by ended w may }
    where
      at_end : (w : WasClosed h now true closed) (may_end : h.may_end ≡ true) (o : Option TailHistory) → IfSome o (FoundEnd (numbers old.tail) h) →
          AreLookedAt (numbers old.tail) (with_stage Ended (with_present (with_licences w.licences h.present) h)) o
      at_end w may_end None found = tt
      at_end w may_end (Some earlier) found = flushes_at_end (numbers old.tail) h earlier found.looked reads found.end_look may_end w.licences w.end_lines

      waited : (w : WasClosed h now false closed) → (w.licences ≡ []) ⊎ LieApart h.moments (timeout_in h)
      waited w = go w.why
        where
          go : (w.licences ≡ []) ⊎ ((false ≡ true) ⊎ LieApart h.moments (timeout_in h)) → (w.licences ≡ []) ⊎ LieApart h.moments (timeout_in h)
          go (inl none) = inl none
          go (inr (inl never)) = absurd cc
          go (inr (inr apart)) = inr apart

      by_timeout : (w : WasClosed h now false closed) (o : Option TailHistory) → AreLookedAt (numbers old.tail) h o →
          AreLookedAt (numbers old.tail) (with_present (with_licences w.licences h.present) h) o
      by_timeout w None looked = tt
      by_timeout w (Some earlier) looked = flushes (numbers old.tail) h earlier looked w.licences w.end_lines (waited w)

      looked_by : (ended : Bool) (w : WasClosed h now ended closed) → (ended ≡ true → MayBeEnded numbers told h old) →
          AreLookedAt (numbers old.tail) (with_stage (behind_end ended) (with_present (with_licences w.licences h.present) h)) (told old.tail)
      looked_by true w may = at_end w (may refl).may (told old.tail) (may refl).found
      looked_by false w may =
          subst (λ (s : Stage). AreLookedAt (numbers old.tail) (with_stage s (with_present (with_licences w.licences h.present) h)) (told old.tail)) reads
          (by_timeout w (told old.tail) has.looked)

-- ---- a whole turn

module _ {T : Type 0} (numbers : T → Option (ℕ × ℕ)) (told : T → Option TailHistory) (most now : ℕ) (may_end : Bool) (h : History) (old : Harvester T) (new : Harvester T) where
  module _ (did : Did) (may : MayTurn did.stage) (few : length did.bytes ≤ most) (none : 0 < length did.bytes → NoneCloses h)
      (ends : did.stage ≡ Ended → EndsHere told may_end h old new)
      (due : (did.licences ≡ []) ⊎ MayFlush now did.stage did.licences (with_read now did.bytes h))
      (still : h.stage ≡ Ended → did.stage ≡ Ended) (asks : h.stage ≡ Reads → did.stage ≡ Asks → NoneCloses h) where
    -- a fault, or out of memory
    pub goes_refused : HasTold numbers told (did_with now [] did h) new → (result : Result Turn TurnError) → IsErr result →
        Goes numbers told most now may_end h old (answer_of result) new
    goes_refused has (Ok answer) err = absurd (let no : false ≡ true = err in cc)
    goes_refused has (Err error.ReadFault) err = record { did = did; has_told = has; few = few; reads_where_none_closes = none; no_event_left = λ reads quiet. absurd quiet; ends_where_found = ends; stays_ended = still; asks_where_none_closes = asks; flushed = due; caused = may }
    goes_refused has (Err error.NoMemory) err = record { did = did; has_told = has; few = few; reads_where_none_closes = none; no_event_left = λ reads quiet. absurd quiet; ends_where_found = ends; stays_ended = still; asks_where_none_closes = asks; flushed = due; caused = may }

    -- an event was reported
    pub goes_told : (answer : Turn) → HasOneEvent answer → HasTold numbers told (did_with now (events_told h.path now answer) did h) new →
        Goes numbers told most now may_end h old answer new
    goes_told (turn.Issued parcel) one has = record { did = did; has_told = has; few = few; reads_where_none_closes = none; no_event_left = λ reads quiet. absurd quiet; ends_where_found = ends; stays_ended = still; asks_where_none_closes = asks; flushed = due; caused = may }
    goes_told (turn.Passed span rule) one has = record { did = did; has_told = has; few = few; reads_where_none_closes = none; no_event_left = λ reads quiet. absurd quiet; ends_where_found = ends; stays_ended = still; asks_where_none_closes = asks; flushed = due; caused = may }
    goes_told turn.More one has = absurd one
    goes_told turn.AtEnd one has = absurd one
    goes_told (turn.NewLife epoch) one has = absurd one
    goes_told turn.Changed one has = absurd one
    goes_told turn.EpochsOut one has = absurd one
    goes_told turn.ReadFault one has = absurd one
    goes_told turn.NoMemory one has = absurd one

  no_more : (most : ℕ) → 0 ≤ most
  no_more most = omega arith

  never : 0 < 0 → NoneCloses h
  never some = absurd (omega (arith, some))

  -- where nothing was read
  module _ (stage : Stage) (stands : h.stage ≡ stage) (may : MayTurn stage) where
    pub turn_refused : HasTold numbers told h new → (result : Result Turn TurnError) → IsErr result → Goes numbers told most now may_end h old (answer_of result) new
    turn_refused has =
        goes_refused (record { bytes = []; licences = []; stage = stage }) may (no_more most) never (λ is. inl (stands ∙ is)) (inl refl) (λ is. sym stands ∙ is)
        (λ reads is. absurd (let no : Reads ≡ Asks = sym reads ∙ stands ∙ is in cc))
        (subst (λ (g : History). HasTold numbers told g new) (sym (did_nothing now h stage stands)) has)

    pub turn_told : (answer : Turn) → HasOneEvent answer → HasTold numbers told (with_present (with_events (events_told h.path now answer) h.present) h) new →
        Goes numbers told most now may_end h old answer new
    turn_told answer one has =
        goes_told (record { bytes = []; licences = []; stage = stage }) may (no_more most) never (λ is. inl (stands ∙ is)) (inl refl) (λ is. sym stands ∙ is)
        (λ reads is. absurd (let no : Reads ≡ Asks = sym reads ∙ stands ∙ is in cc)) answer one
        (subst (λ (g : History). HasTold numbers told g new) (sym (did_events now h stage stands (events_told h.path now answer))) has)

  -- the end was found before
  pub turn_ended : h.stage ≡ Ended → HasTold numbers told h new → left_to_tell h ≡ [] → last_line_of new ≡ h.last_line → Goes numbers told most now may_end h old turn.AtEnd new
  turn_ended stands has none last =
      let same = did_nothing now h Ended stands in
      record {
        did = record { bytes = []; licences = []; stage = Ended };
        has_told = subst (λ (g : History). HasTold numbers told g new) (sym same) has;
        few = no_more most;
        reads_where_none_closes = never;
        no_event_left = λ reads quiet. absurd (let no : Reads ≡ Ended = sym reads ∙ stands in cc);
        ends_where_found = λ is. inl stands;
        stays_ended = λ is. refl;
        asks_where_none_closes = λ reads is. absurd cc;
        flushed = inl refl;
        caused = record {
          none_read = refl;
          none_asked = tt;
          all_told = λ is. subst (λ (g : History). left_to_tell g ≡ []) (sym same) none;
          none_waits = λ is. subst (λ (g : History). left_to_tell g ≡ []) (sym same) none;
          last_line = last ∙ ap (λ (g : History). g.last_line) (sym same);
          which = inl stands;
        };
      }

  -- the key was asked, if the history is this one but for the stage
  module _ (was : History) (is : with_stage Asks was ≡ with_stage Asks h) (left : h.stage ≡ Reads → NoneCloses h) (goes_on : ¬ (h.stage ≡ Ended)) where
    at_stage : (stage : Stage) → with_stage stage was ≡ with_stage stage h
    at_stage stage = ap (λ (g : History). with_stage stage g) is

    pub turn_asked : (result : Result Turn TurnError) → HasAsked numbers told (with_stage Asks was) result new → Goes numbers told most now may_end h old (answer_of result) new
    turn_asked (Ok (turn.NewLife epoch)) asked = record {
      did = record { bytes = []; licences = []; stage = Reads };
      has_told = subst (λ (g : History). HasTold numbers told (with_epoch g) new) is asked.has_told;
      few = no_more most;
      reads_where_none_closes = never;
      no_event_left = λ reads quiet. left reads;
      ends_where_found = λ ended. absurd cc;
      stays_ended = λ ended. absurd (goes_on ended);
      asks_where_none_closes = λ reads asks. left reads;
      flushed = inl refl;
      caused = subst (λ (g : History). IsAskedIn g.present.epoch (turn.NewLife epoch)) is asked.asked_in;
    }
    turn_asked (Ok turn.Changed) asked = record {
      did = record { bytes = []; licences = []; stage = Changed };
      has_told = subst (λ (g : History). HasTold numbers told g new) (at_stage Changed ∙ sym (did_stage now h Changed)) asked.has_told;
      few = no_more most;
      reads_where_none_closes = never;
      no_event_left = λ reads quiet. left reads;
      ends_where_found = λ ended. absurd cc;
      stays_ended = λ ended. absurd (goes_on ended);
      asks_where_none_closes = λ reads asks. left reads;
      flushed = inl refl;
      caused = refl;
    }
    turn_asked (Ok turn.EpochsOut) asked = record {
      did = record { bytes = []; licences = []; stage = Over };
      has_told = subst (λ (g : History). HasTold numbers told g new) (at_stage Over ∙ sym (did_stage now h Over)) asked.has_told;
      few = no_more most;
      reads_where_none_closes = never;
      no_event_left = λ reads quiet. left reads;
      ends_where_found = λ ended. absurd cc;
      stays_ended = λ ended. absurd (goes_on ended);
      asks_where_none_closes = λ reads asks. left reads;
      flushed = inl refl;
      caused = (refl, subst (λ (g : History). IsAskedIn g.present.epoch turn.EpochsOut) is asked.asked_in);
    }
    turn_asked (Ok (turn.Issued parcel)) asked = absurd asked.asked_in
    turn_asked (Ok (turn.Passed span rule)) asked = absurd asked.asked_in
    turn_asked (Ok turn.More) asked = absurd asked.asked_in
    turn_asked (Ok turn.AtEnd) asked = absurd asked.asked_in
    turn_asked (Ok turn.ReadFault) asked = absurd asked.asked_in
    turn_asked (Ok turn.NoMemory) asked = absurd asked.asked_in
    turn_asked (Err error) asked =
        goes_refused (record { bytes = []; licences = []; stage = Asks }) tt (no_more most) never (λ ended. absurd cc) (inl refl) (λ ended. absurd (goes_on ended)) (λ reads asks. left reads)
        (subst (λ (g : History). HasTold numbers told g new) (is ∙ sym (did_stage now h Asks)) asked.has_told) (Err error) refl

  -- bytes were read, or the end was found, and it was settled
  module _ (reads : h.stage ≡ Reads) (ended : Bool) (bytes : List ℕ) (few : length bytes ≤ most) (none : NoneCloses h) (found : ended ≡ true → EndsHere told may_end h old new) where
    no_end : {stage : Stage} → h.stage ≡ Ended → stage ≡ Ended
    no_end ended = absurd (let no : Reads ≡ Ended = sym reads ∙ ended in cc)

    through : (events : List ToldEvent) (licences : List ℕ) (stage : Stage) →
        did_with now events (record { bytes = []; licences = licences; stage = stage }) (with_stage Reads (with_read now bytes h))
        ≡ did_with now events (record { bytes = bytes; licences = licences; stage = stage }) h
    through events licences stage =
        ap (λ (g : History). with_stage stage (with_told licences events g)) (same_read now (with_stage Reads (with_read now bytes h)))

    flushed_then : (licences : List ℕ) (stage : Stage) → (licences ≡ []) ⊎ MayFlush now stage licences (with_stage Reads (with_read now bytes h)) →
        (licences ≡ []) ⊎ MayFlush now stage licences (with_read now bytes h)
    flushed_then licences stage is =
        subst (λ (s : Stage). (licences ≡ []) ⊎ MayFlush now stage licences (with_stage s (with_read now bytes h))) (sym reads) is

    pub settled_told : (answer : Turn) →
        Settled numbers told now ended (with_stage Reads (with_read now bytes h)) (Ok (Some answer)) new → Goes numbers told most now may_end h old answer new
    settled_told answer s =
        goes_told (record { bytes = bytes; licences = s.licences; stage = s.stage }) s.goes_on few (λ some. none) (λ is. found (s.ends is)) (flushed_then s.licences s.stage s.flushed) no_end (λ is asks. none) answer s.one
        (subst (λ (g : History). HasTold numbers told g new) (through (events_told h.path now answer) s.licences s.stage) s.has_told)

    nothing_told : (result : Result (Option Turn) NoMemory) (settled : Settled numbers told now ended (with_stage Reads (with_read now bytes h)) result new) →
        events_of h.path now result ≡ [] →
        HasTold numbers told (did_with now [] (record { bytes = bytes; licences = settled.licences; stage = settled.stage }) h) new
    nothing_told result settled is =
        subst (λ (g : History). HasTold numbers told g new)
        (ap (λ (e : List ToldEvent). did_with now e (record { bytes = []; licences = settled.licences; stage = settled.stage }) (with_stage Reads (with_read now bytes h))) is
        ∙ through [] settled.licences settled.stage) settled.has_told

    pub settled_refused : (error : NoMemory) → Settled numbers told now ended (with_stage Reads (with_read now bytes h)) (Err error) new →
        (result : Result Turn TurnError) → IsErr result → Goes numbers told most now may_end h old (answer_of result) new
    settled_refused error s =
        goes_refused (record { bytes = bytes; licences = s.licences; stage = s.stage }) s.goes_on few (λ some. none) (λ is. found (s.ends is)) (flushed_then s.licences s.stage s.flushed) no_end (λ is asks. none)
        (nothing_told (Err error) s refl)

    -- what was left is left where nothing was reported
    left_then : (licences : List ℕ) (stage : Stage) →
        left_to_tell (did_with now [] (record { bytes = bytes; licences = licences; stage = stage }) h) ≡ left_to_tell (with_stage Reads (with_read now bytes h))
    left_then licences stage =
        ap (λ (t : List ToldEvent). left_to_tell (with_present (record (with_licences licences (with_bytes bytes h.present)) { told = t }) h)) (append-nil h.present.told)

    none_closes_then : (licences : List ℕ) (stage : Stage) → NoneCloses (with_stage Reads (with_read now bytes h)) →
        NoneCloses (did_with now [] (record { bytes = bytes; licences = licences; stage = stage }) h)
    none_closes_then licences stage closes = subst (λ (l : List Line). MayGoOn h.rule.multiline l) (sym (left_then licences stage)) closes

    none_due_then : (licences : List ℕ) (stage : Stage) → NoneDue (with_stage Reads (with_read now bytes h)) now →
        NoneDue (did_with now [] (record { bytes = bytes; licences = licences; stage = stage }) h) now
    none_due_then licences stage (inl left) = inl (left_then licences stage ∙ left)
    none_due_then licences stage (inr past) = inr past

    pub settled_more : 0 < length bytes → Settled numbers told now ended (with_stage Reads (with_read now bytes h)) (Ok None) new →
        Goes numbers told most now may_end h old turn.More new
    settled_more some s = record {
      did = record { bytes = bytes; licences = s.licences; stage = s.stage };
      has_told = nothing_told (Ok None) s refl;
      few = few;
      reads_where_none_closes = λ more. none;
      no_event_left = λ reads quiet. none;
      ends_where_found = λ is. found (s.ends is);
      stays_ended = no_end;
      asks_where_none_closes = λ is asks. none;
      flushed = flushed_then s.licences s.stage s.flushed;
      caused = (some, s.goes_on, none_closes_then s.licences s.stage (s.at_rest refl).none_closes, none_due_then s.licences s.stage (s.at_rest refl).none_due);
    }

    pub settled_end : (may_end ≡ true → ended ≡ true) → bytes ≡ [] → (mid : Harvester T) → Settled numbers told now ended (with_stage Reads (with_read now bytes h)) (Ok None) mid →
        ((g : History) → HasTold numbers told g mid → HasTold numbers told g new) → new.reader.events ≡ mid.reader.events →
        IfSome (told old.tail) (λ earlier. LooksAtEnd (read_to h.present) earlier (told new.tail)) → Goes numbers told most now may_end h old turn.AtEnd new
    settled_end then_ended no_byte mid s then same looks =
        let rest = s.at_rest refl in
        record {
          did = record { bytes = bytes; licences = s.licences; stage = s.stage };
          has_told = then _ (nothing_told_mid mid s);
          few = few;
          reads_where_none_closes = λ more. none;
          no_event_left = λ reads quiet. none;
          ends_where_found = λ is. found (s.ends is);
          stays_ended = no_end;
          asks_where_none_closes = λ is asks. none;
          flushed = flushed_then s.licences s.stage s.flushed;
          caused = record {
            none_read = no_byte;
            none_asked = subst AsksNothing (sym (s.at_none refl)) (behind_asks_nothing ended);
            all_told = λ is. left_then s.licences s.stage ∙ rest.all_told (s.ends is);
            none_waits = λ is. left_then s.licences s.stage ∙ rest.none_waits (λ waits. is (subst (λ (e : Events). IsSome e.grouper.gathered) (sym same) waits));
            last_line = ap (λ (e : Events). e.last_line.0) same ∙ rest.last_line;
            which = inr (record {
              none_closes = none_closes_then s.licences s.stage rest.none_closes;
              none_due = none_due_then s.licences s.stage rest.none_due;
              ends = λ may. s.at_none refl ∙ ap (λ (b : Bool). behind_end b) (then_ended may);
              found = looks;
            });
          };
        }
      where
        nothing_told_mid : (mid : Harvester T) (settled : Settled numbers told now ended (with_stage Reads (with_read now bytes h)) (Ok None) mid) →
            HasTold numbers told (did_with now [] (record { bytes = bytes; licences = settled.licences; stage = settled.stage }) h) mid
        nothing_told_mid mid settled = subst (λ (g : History). HasTold numbers told g mid) (through [] settled.licences settled.stage) settled.has_told

-- ---- after a look

pub ends_given : (moments : List ℕ) (now : ℕ) → EndsAt moments now → Contains moments now
ends_given moments now ends = subst (λ (l : List ℕ). Contains l now) (sym ends.are) (Contains-append_right ends.earlier (now ∷ []) now (0, omega arith, refl))

-- where the key was asked no event is of any file
pub no_event : (result : Result Turn TurnError) (slot : Slot) (epoch : Epoch) → IfOk result IsByKey → IfOk result (IsAnswerFor slot epoch)
no_event (Ok (turn.Issued parcel)) slot epoch is = absurd is
no_event (Ok (turn.Passed span rule)) slot epoch is = absurd is
no_event (Ok turn.More) slot epoch is = absurd is
no_event (Ok turn.AtEnd) slot epoch is = absurd is
no_event (Ok (turn.NewLife other)) slot epoch is = tt
no_event (Ok turn.Changed) slot epoch is = tt
no_event (Ok turn.EpochsOut) slot epoch is = tt
no_event (Ok turn.ReadFault) slot epoch is = absurd is
no_event (Ok turn.NoMemory) slot epoch is = absurd is
no_event (Err error) slot epoch is = tt

pub some_of : (found : Option Turn) (answer : Turn) (slot : Slot) (epoch : Epoch) → found ≡ Some answer → IfSome found (IsAnswerFor slot epoch) → IsAnswerFor slot epoch answer
some_of found answer slot epoch is of = subst (λ (o : Option Turn). IfSome o (IsAnswerFor slot epoch)) is of

module _ {T : Type 0} (numbers : T → Option (ℕ × ℕ)) (told : T → Option TailHistory) (most now : ℕ) (may_end : Bool) (h : History) (reads : h.stage ≡ Reads) (old gathered mid : Harvester T) where
  pub found_as : (found other : Found) → found ≡ other → HasLooked numbers told most now h gathered (Ok found) mid → HasLooked numbers told most now h gathered (Ok other) mid
  found_as found other is looked = subst (λ (f : Found). HasLooked numbers told most now h gathered (Ok f) mid) is looked

  pub look_refused : (error : TurnError) → HasLooked numbers told most now h gathered (Err error) mid → (result : Result Turn TurnError) → IsErr result →
      Goes numbers told most now may_end h old (answer_of result) mid
  look_refused error looked =
      goes_refused numbers told most now may_end h old mid (record { bytes = looked.bytes; licences = []; stage = Reads }) tt
      (let long : length looked.bytes ≡ 0 = ap (λ (l : List ℕ). length l) looked.gave in omega (arith, long))
      (λ some. absurd (let long : length looked.bytes ≡ 0 = ap (λ (l : List ℕ). length l) looked.gave in omega (arith, long, some))) (λ is. absurd cc) (inl refl)
      (λ ended. absurd (let no : Reads ≡ Ended = sym reads ∙ ended in cc)) (λ is asks. absurd cc)
      (subst (λ (g : History). HasTold numbers told g mid) (sym (did_bytes now h Reads looked.bytes)) looked.has_told)

  pub look_asked : NoneCloses h → HasLooked numbers told most now h gathered (Ok Less) mid → (new : Harvester T) (result : Result Turn TurnError) →
      ((g : History) → HasTold numbers told g mid → HasAsked numbers told g result new) → Goes numbers told most now may_end h old (answer_of result) new
  look_asked none looked new result asks =
      turn_asked numbers told most now may_end h old new (with_read now looked.bytes h)
      (ap (λ (l : List ℕ). with_stage Asks (with_read now l h)) looked.gave
      ∙ ap (λ (g : History). with_stage Asks g) (same_read now h)) (λ reading. none) (λ ended. let no : Reads ≡ Ended = sym reads ∙ ended in cc) result (asks _ looked.has_told)

  -- if the end was found, the file may be ended
  pub may_be_ended : (looked : HasLooked numbers told most now h gathered (Ok End) mid) → h.may_end ≡ true →
      MayBeEnded numbers told (with_stage Reads (with_read now looked.bytes h)) mid
  may_be_ended looked may = record {
    may = may;
    found = subst (λ (g : History). IfSome (told mid.tail) (FoundEnd (numbers mid.tail) g))
        (ap (λ (s : Stage). with_stage s (with_read now looked.bytes h)) reads) (looked.at_end refl).found;
  }

  pub few_at_end : (looked : HasLooked numbers told most now h gathered (Ok End) mid) → length looked.bytes ≤ most
  few_at_end looked = let long : length looked.bytes ≡ 0 = ap (λ (l : List ℕ). length l) looked.gave in omega (arith, long)

module _ {T : Type 0} (numbers : T → Option (ℕ × ℕ)) (told : T → Option TailHistory) where
  pub settled_as : (now : ℕ) (ended : Bool) (h : History) (new : Harvester T) (found other : Option Turn) → found ≡ other → Settled numbers told now ended h (Ok found) new →
      Settled numbers told now ended h (Ok other) new
  settled_as now ended h new found other is settled = subst (λ (o : Option Turn). Settled numbers told now ended h (Ok o) new) is settled

  pub looks_kept : (place : ℕ) (old mid new : T) → new ≡ mid → IfSome (told old) (λ earlier. LooksAtEnd place earlier (told mid)) →
      IfSome (told old) (λ earlier. LooksAtEnd place earlier (told new))
  looks_kept place old mid new same looks = subst (λ (t : T). IfSome (told old) (λ earlier. LooksAtEnd place earlier (told t))) (sym same) looks

  -- the key is asked in the turn after the look
  pub asked_here : (most now : ℕ) (may_end : Bool) (h : History) (old new : Harvester T) (result : Result Turn TurnError) → h.stage ≡ Asks →
      HasAsked numbers told h result new → Goes numbers told most now may_end h old (answer_of result) new
  asked_here most now may_end h old new result asks asked =
      turn_asked numbers told most now may_end h old new h refl (λ reading. absurd (let no : Reads ≡ Asks = sym reading ∙ asks in cc))
      (λ ended. let no : Ended ≡ Asks = sym ended ∙ asks in cc) result
      (subst (λ (g : History). HasAsked numbers told g result new) (ap (λ (s : Stage). with_stage s h) asks) asked)

  -- with the moment of a turn
  pub turned_told : (h : History) (old : Harvester T) (now : ℕ) (last : Bool) → HasTold numbers told h old → HasTold numbers told (with_turn now last h) old
  turned_told h old now last has = record {
    held = turns_on h old.reader has.held now (h.may_end || (last || h.ends));
    decides = has.decides;
    looked = go (told old.tail) has.looked;
  }
    where
      or_still : h.may_end ≡ true → (h.may_end || (last || h.ends)) ≡ true
      or_still may = or_left h.may_end (last || h.ends) may

      go : (o : Option TailHistory) → AreLookedAt (numbers old.tail) h o → AreLookedAt (numbers old.tail) (with_turn now last h) o
      go None looked = tt
      go (Some earlier) looked =
          other_turn (numbers old.tail) h earlier looked h.path (h.moments ++ now ∷ []) h.last_line h.ends (h.may_end || (last || h.ends)) h.forgets or_still
          (λ distance apart. apart_stays h.moments now distance apart)

-- ---- what follows for the answer

pub is_of_file : (result : Result Turn TurnError) (slot : Slot) (epoch : Epoch) → IfOk result (IsAnswerFor slot epoch) → IsOfFile slot epoch (answer_of result)
is_of_file (Ok (turn.Issued parcel)) slot epoch is = is
is_of_file (Ok (turn.Passed span rule)) slot epoch is = is
is_of_file (Ok turn.More) slot epoch is = tt
is_of_file (Ok turn.AtEnd) slot epoch is = tt
is_of_file (Ok (turn.NewLife other)) slot epoch is = tt
is_of_file (Ok turn.Changed) slot epoch is = tt
is_of_file (Ok turn.EpochsOut) slot epoch is = tt
is_of_file (Ok turn.ReadFault) slot epoch is = tt
is_of_file (Ok turn.NoMemory) slot epoch is = tt
is_of_file (Err error.ReadFault) slot epoch is = tt
is_of_file (Err error.NoMemory) slot epoch is = tt

pub is_fault : (result : Result Turn TurnError) (slot : Slot) (epoch : Epoch) → IfOk result (IsAnswerFor slot epoch) → answer_of result ≡ turn.ReadFault →
    IsErrOf result error.ReadFault
is_fault (Ok (turn.Issued parcel)) slot epoch is same = absurd cc
is_fault (Ok (turn.Passed span rule)) slot epoch is same = absurd cc
is_fault (Ok turn.More) slot epoch is same = absurd cc
is_fault (Ok turn.AtEnd) slot epoch is same = absurd cc
is_fault (Ok (turn.NewLife other)) slot epoch is same = absurd cc
is_fault (Ok turn.Changed) slot epoch is same = absurd cc
is_fault (Ok turn.EpochsOut) slot epoch is same = absurd cc
is_fault (Ok turn.ReadFault) slot epoch is same = absurd is
is_fault (Ok turn.NoMemory) slot epoch is same = absurd is
is_fault (Err error.ReadFault) slot epoch is same = refl
is_fault (Err error.NoMemory) slot epoch is same = absurd cc

changed_by : (stage : ReaderStage) → stage_of stage ≡ Changed → (stage ≡ reader.Changed) ⊎ (stage ≡ reader.Over)
changed_by reader.Reading is = absurd cc
changed_by reader.Asking is = absurd cc
changed_by reader.Ended is = absurd cc
changed_by reader.Changed is = inl refl
changed_by reader.Over is = absurd cc

over_by : (stage : ReaderStage) → stage_of stage ≡ Over → (stage ≡ reader.Changed) ⊎ (stage ≡ reader.Over)
over_by reader.Reading is = absurd cc
over_by reader.Asking is = absurd cc
over_by reader.Ended is = absurd cc
over_by reader.Changed is = absurd cc
over_by reader.Over is = inr refl

not_changed : (stage : ReaderStage) (now : Stage) → stage_of stage ≡ now → MayTurn now → (stage ≡ reader.Changed) ⊎ (stage ≡ reader.Over) → ⊥
not_changed stage now is may (inl changed) = subst (λ (s : Stage). MayTurn s) (sym is ∙ ap stage_of changed) may
not_changed stage now is may (inr over) = subst (λ (s : Stage). MayTurn s) (sym is ∙ ap stage_of over) may

module _ {T : Type 0} (numbers : T → Option (ℕ × ℕ)) (told : T → Option TailHistory) (most now : ℕ) (may_end : Bool) (h : History) (old new : Harvester T) where
  -- whether it rests is no part of what was reported
  pub rested : (rests : Bool) (answer : Turn) {other : Turn} → other ≡ answer → Goes numbers told most now may_end h old other new →
      Goes numbers told most now may_end h old answer (record new { rests = rests })
  rested rests answer same goes =
      let there = subst (λ (a : Turn). Goes numbers told most now may_end h old a new) same goes in
      record {
        did = there.did;
        has_told = record { held = there.has_told.held; decides = there.has_told.decides; looked = there.has_told.looked };
        few = there.few;
        reads_where_none_closes = there.reads_where_none_closes;
        no_event_left = there.no_event_left;
        ends_where_found = there.ends_where_found;
        stays_ended = there.stays_ended;
        asks_where_none_closes = there.asks_where_none_closes;
        flushed = there.flushed;
        caused = as_caused answer there.did (after_did now answer there.did h) there.caused;
      }
    where
      as_caused : (answer : Turn) (did : Did) (after : History) → IsCaused told now may_end h did after old answer new → IsCaused told now may_end h did after old answer (record new { rests = rests })
      as_caused (turn.Issued parcel) did after is = is
      as_caused (turn.Passed span rule) did after is = is
      as_caused turn.More did after is = is
      as_caused turn.AtEnd did after is =
          record { none_read = is.none_read; none_asked = is.none_asked; all_told = is.all_told; none_waits = is.none_waits; last_line = is.last_line; which = which is.which }
        where
          which : (h.stage ≡ Ended) ⊎ EndsNow told now may_end h did after old new → (h.stage ≡ Ended) ⊎ EndsNow told now may_end h did after old (record new { rests = rests })
          which (inl ended) = inl ended
          which (inr here) = inr (record { none_closes = here.none_closes; none_due = here.none_due; ends = here.ends; found = here.found })
      as_caused (turn.NewLife epoch) did after is = is
      as_caused turn.Changed did after is = is
      as_caused turn.EpochsOut did after is = is
      as_caused turn.ReadFault did after is = is
      as_caused turn.NoMemory did after is = is

  pub changed_with : (answer : Turn) → Goes numbers told most now may_end h old answer new → (IsChanged new ↔ IsLast answer)
  changed_with (turn.Issued parcel) goes = ((λ is. not_changed new.reader.stage goes.did.stage goes.has_told.held.holds.follows.stage goes.caused is), (λ no_last. absurd no_last))
  changed_with (turn.Passed span rule) goes = ((λ is. not_changed new.reader.stage goes.did.stage goes.has_told.held.holds.follows.stage goes.caused is), (λ no_last. absurd no_last))
  changed_with turn.More goes = ((λ is. not_changed new.reader.stage goes.did.stage goes.has_told.held.holds.follows.stage goes.caused.1 is), (λ no_last. absurd no_last))
  changed_with turn.AtEnd goes = ((λ is. not_changed new.reader.stage goes.did.stage goes.has_told.held.holds.follows.stage (may_turn_then goes.did.stage goes.caused.none_asked) is), (λ no_last. absurd no_last))
  changed_with (turn.NewLife epoch) goes = ((λ is. not_changed new.reader.stage Reads goes.has_told.held.holds.follows.stage tt is), (λ no_last. absurd no_last))
  changed_with turn.Changed goes = ((λ is. tt), (λ last. changed_by new.reader.stage (goes.has_told.held.holds.follows.stage ∙ goes.caused)))
  changed_with turn.EpochsOut goes = ((λ is. tt), (λ last. over_by new.reader.stage (goes.has_told.held.holds.follows.stage ∙ goes.caused.0)))
  changed_with turn.ReadFault goes = ((λ is. not_changed new.reader.stage goes.did.stage goes.has_told.held.holds.follows.stage goes.caused is), (λ no_last. absurd no_last))
  changed_with turn.NoMemory goes = ((λ is. not_changed new.reader.stage goes.did.stage goes.has_told.held.holds.follows.stage goes.caused is), (λ no_last. absurd no_last))
