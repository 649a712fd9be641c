-- One turn of a harvester, and turns of several, by what was reported of their files.
use Rattle.std.proofs.Common.{◌≡◌, ◌⊎◌, inl, inr, ℕ, zero, suc, ◌+◌, Bool, true, false, ◌||◌, List, [], ◌∷◌, ◌++◌, length, map, Option, Some, refl, sym, ap, subst, ◌∙◌, arith}
use Rattle.std.specs.Prelude.{slice_get, slice_set}
use Rattle.std.specs.List.{AllByRecursion, flat_map}
use Rattle.harvester.specs.HasTold.{begin_of}
use Rattle.harvester.specs.History.{History}
use Rattle.harvester.specs.Standing.{EndsAt}
use Rattle.harvester.specs.TurnLooks.{AreOfTurn}
use Rattle.harvester.specs.Turned.{IsOfFile, events_told, with_turn}
use Rattle.harvester.specs.Turns.{Goes, after_did}
use Rattle.harvester.specs.declared.harvester.Harvester.{Harvester}
use Rattle.harvester.specs.declared.turn.Turn.{Turn}
use Rattle.harvester.specs.declared.turn.Turn.TheVariants as turn
use Rattle.lanes.specs.Giving.{Gives, GivesForget, GivesNone, spans_of}
use Rattle.lanes.specs.Giving as lane
use Rattle.lanes.specs.Step.{IsAt, Step, issued_in, noted_in}
use Rattle.lanes.specs.Step as steps
use Rattle.lanes.specs.Steps.{IsMade, Run}
use Rattle.lanes.specs.Turned.{HasTurned}
use Rattle.lanes.specs.declared.given.Given.{Given}
use Rattle.lanes.specs.declared.run.When.{When}
use Rattle.outside.specs.Tails.{TailHistory}
use Rattle.wire_base.specs.declared.note.Cause.TheVariants.{Dropped}
use Rattle.wire_base.specs.declared.note.Note.{Note}
use Rattle.wire_base.specs.declared.note.Note.TheVariants.{Announce, Settle}
use Rattle.wire_base.specs.declared.note.Begin.{Begin}
use Rattle.wire_base.specs.declared.numbers.Epoch.{Epoch}
use Rattle.wire_base.specs.declared.numbers.Moment.{Moment}
use Rattle.wire_base.specs.declared.numbers.Slot.{Slot}
use Rattle.wire_base.specs.declared.parcel.Parcel.{Parcel}
use Rattle.accounts.specs.Opened.{Opened}
use Rattle.accounts.specs.Turned.{Turned, notes_told, parcels_of, parcels_told, spans_told}
use Rattle.accounts.specs.Turning.{IsAtItsEnd, IsTurnedSo, Pairs, TellOn}
use Rattle.accounts.specs.Watch.{Watch}
use Rattle.accounts.proofs.Given.{notes_by, notes_on, of_slot, parcels_on, spans_on}
use Rattle.accounts.proofs.Histories.{at_end, history_on, numbers_on, tail_on, tells_on, told_file}
use Rattle.accounts.proofs.Often.{behind_more, front_more, more_then, none_more}

module _ (watch : Watch) (moments : List ℕ) where
  module _ {T : Type 0} (numbers : T → Option (ℕ × ℕ)) (told : T → Option TailHistory) where
    -- ---- what it gave

    module _ (slot : Slot) (epoch : ℕ) (path : List ℕ) (now : ℕ) (old new : Harvester T) (slot_is : slot ≡ (begin_of old).slot) (epoch_is : old.reader.epoch.0 ≡ epoch) where
      given_parcels : (answer : Turn) (what : Given) → IsOfFile (begin_of old).slot old.reader.epoch answer → Gives numbers told new answer what →
          parcels_of slot epoch (events_told path now answer) ≡ lane.parcels_in what
      given_parcels (turn.Issued parcel) what of gives =
          let slots : slot ≡ parcel.slot = slot_is ∙ sym of.0 in
          let epochs : epoch ≡ parcel.epoch.0 = sym epoch_is ∙ ap (λ (e : Epoch). e.0) (sym of.1) in
          let same : parcels_of slot epoch (events_told path now (turn.Issued parcel)) ≡ parcel ∷ [] =
          λ k. record { slot = slots k; epoch = record { 0 = epochs k }; span = parcel.span; payload = parcel.payload } ∷ [] in
          same ∙ ap lane.parcels_in (sym gives)
      given_parcels (turn.Passed span rule) what of gives = ap lane.parcels_in (sym gives.1)
      given_parcels (turn.NewLife life) what of gives = ap lane.parcels_in (sym gives)
      given_parcels turn.AtEnd what of gives = by_case gives
        where
          by_case : GivesForget numbers told new what ⊎ GivesNone numbers told new what → [] ≡ lane.parcels_in what
          by_case (inl forget) = ap lane.parcels_in (sym forget.is)
          by_case (inr none) = ap lane.parcels_in (sym none.is)
      given_parcels answer what of gives = ap lane.parcels_in (sym gives)

      given_spans : (answer : Turn) (what : Given) → Gives numbers told new answer what → length (events_told path now answer) ≡ spans_of what
      given_spans (turn.Issued parcel) what gives = ap spans_of (sym gives)
      given_spans (turn.Passed span rule) what gives = ap spans_of (sym gives.1)
      given_spans (turn.NewLife life) what gives = ap spans_of (sym gives)
      given_spans turn.AtEnd what gives = by_case gives
        where
          by_case : GivesForget numbers told new what ⊎ GivesNone numbers told new what → 0 ≡ spans_of what
          by_case (inl forget) = ap spans_of (sym forget.is)
          by_case (inr none) = ap spans_of (sym none.is)
      given_spans answer what gives = ap spans_of (sym gives)

    module _ (slot : Slot) (now : ℕ) (h : History) (old new : Harvester T) (slot_is : slot ≡ (begin_of new).slot) where
      given_notes : (answer : Turn) (what : Given) (may_end : Bool) (g : Goes numbers told 16_384 now may_end h old answer new) →
          (after_did now answer g.did h).forgets ≡ false → Gives numbers told new answer what → notes_by slot now g.did h answer ≡ lane.notes_in what
      given_notes (turn.Issued parcel) what may_end g kept gives = ap lane.notes_in (sym gives)
      given_notes (turn.Passed span rule) what may_end g kept gives =
          let epochs : h.present.epoch ≡ gives.0.0 = sym (gives.2 (after_did now (turn.Passed span rule) g.did h) g.has_told) in
          let same : notes_by slot now g.did h (turn.Passed span rule) ≡ Settle (begin_of new).slot gives.0 span (Dropped rule) ∷ [] =
          λ k. Settle (slot_is k) (record { 0 = epochs k }) span (Dropped rule) ∷ [] in
          same ∙ ap lane.notes_in (sym gives.1)
      given_notes (turn.NewLife life) what may_end g kept gives =
          let epochs : h.present.epoch + 1 ≡ life.0 = sym g.caused in
          let same : notes_by slot now g.did h (turn.NewLife life) ≡ Announce (begin_of new).slot life ∷ [] =
          λ k. Announce (slot_is k) (record { 0 = epochs k }) ∷ [] in
          same ∙ ap lane.notes_in (sym gives)
      given_notes turn.AtEnd what may_end g kept gives = by_case gives
        where
          by_case : GivesForget numbers told new what ⊎ GivesNone numbers told new what → [] ≡ lane.notes_in what
          by_case (inl forget) =
              absurd (let no : true ≡ false = sym (forget.forgets (after_did now turn.AtEnd g.did h) g.has_told) ∙ kept in cc)
          by_case (inr none) = ap lane.notes_in (sym none.is)
      given_notes answer what may_end g kept gives = ap lane.notes_in (sym gives)

    -- ---- one turn

    module _ (files : List Opened) where
      abbrev Stands : Turned → Harvester T → Type 0
      Stands = IsTurnedSo numbers told watch files moments

      pub record TurnsOn (before : Turned) (new : Harvester T) (what : Given) : Type 0 where
        pub after : Turned
        pub stands : Stands after new
        pub slot : after.slot ≡ before.slot
        pub parcels : parcels_told after ≡ parcels_told before ++ lane.parcels_in what
        pub notes : notes_told after ≡ notes_told before ++ lane.notes_in what
        pub spans : spans_told after ≡ spans_told before + spans_of what

      turns_on : (faults : T → ℕ) (now : Moment) (last : Bool) (before : Turned) (old : Harvester T) (answer : Turn) (new : Harvester T) (what : Given) →
          last ≡ watch.once → EndsAt moments now.0 → HasTurned numbers told faults now last old answer new → Gives numbers told new answer what →
          Stands before old → TurnsOn before new what
      turns_on faults now last before old answer new what same ends t gives stands =
          let h = before.history in
          let g = t.goes h stands.has_told in
          let of = t.of_file h stands.has_told in
          let turned = with_turn now.0 last h in
          let next = of_slot before.slot (after_did now.0 answer g.did turned) in
          let history = history_on watch moments stands.opened now.0 last answer g.did h same ends stands.is_told.history in
          let follows = stands.has_told.held.holds.follows in
          let slot_is : before.slot ≡ (begin_of old).slot =
          stands.is_told.slot ∙ ap (λ (b : Begin). b.slot) (sym stands.is_told.history.begin ∙ sym follows.begin) in
          let slot_then : before.slot ≡ (begin_of new).slot = slot_is ∙ ap (λ (b : Begin). b.slot) (sym t.begin_kept) in
          let Are = AreOfTurn old.reader.stage old.reader answer in
          let numbers_are = numbers_on Are (numbers old.tail) (numbers old.tail) (numbers new.tail) stands.opened.file.numbers (told old.tail) (told new.tail) t.numbers_kept t.looks stands.numbers_are in
          record {
            after = next;
            stands = record {
              has_told = g.has_told;
              opened = stands.opened;
              of_files = stands.of_files;
              is_told = told_file watch moments numbers told stands.opened next new g.has_told stands.is_told.slot history
                  (tail_on Are (numbers old.tail) stands.opened (told old.tail) (told new.tail) t.looks stands.is_told.tail)
                  (tells_on Are (numbers old.tail) (told old.tail) (told new.tail) t.looks stands.is_told.tells) numbers_are;
              numbers_are = numbers_are;
              rests = λ rests. subst (λ (once : Bool). IsAtItsEnd once next.history) same (at_end watch moments numbers told now.0 last h old new answer (t.rests.0 rests) g);
            };
            slot = refl;
            parcels = parcels_on before.slot now.0 g.did turned answer
                ∙ ap (λ (l : List Parcel). parcels_told before ++ l) (given_parcels before.slot h.present.epoch h.path now.0 old new slot_is follows.epoch answer what of gives);
            notes = notes_on before.slot now.0 g.did turned answer
                ∙ ap (λ (l : List Note). notes_told before ++ l) (given_notes before.slot now.0 turned old new slot_then answer what (last || h.ends) g history.not_forgotten gives);
            spans = spans_on before.slot now.0 g.did turned answer
                ∙ ap (λ (n : ℕ). spans_told before + n) (given_spans before.slot h.present.epoch h.path now.0 old new slot_is follows.epoch answer what gives);
          }

      -- ---- one of several

      front_turns : (turned : Turned) (before : List Turned) (olds : List (Harvester T)) (new : Harvester T) (what : Given) → TurnsOn turned new what → Pairs Stands before olds →
          TellOn numbers told watch files moments (turned ∷ before) (new ∷ olds) (lane.parcels_in what) (lane.notes_in what) (spans_of what)
      front_turns turned before olds new what on others = record {
        after = on.after ∷ before;
        stand = (on.stands, others);
        gave = record {
          slots = ap (λ (s : Slot). s ∷ map (λ (x : Turned). x.slot) before) on.slot;
          parcels_are = front_more (parcels_told turned) (parcels_told on.after) (flat_map parcels_told before) (lane.parcels_in what) on.parcels;
          notes_are = front_more (notes_told turned) (notes_told on.after) (flat_map notes_told before) (lane.notes_in what) on.notes;
          spans_are = let spans = on.spans in omega (arith, spans);
        };
      }

      pub one_turns : (before : List Turned) (olds : List (Harvester T)) (index : ℕ) (old new : Harvester T) (what : Given) → Pairs Stands before olds →
          slice_get olds index ≡ Some old → ((turned : Turned) → Stands turned old → TurnsOn turned new what) →
          TellOn numbers told watch files moments before (slice_set olds index new) (lane.parcels_in what) (lane.notes_in what) (spans_of what)
      one_turns [] [] index old new what all at turns = absurd cc
      one_turns [] (first ∷ olds) index old new what all at turns = absurd all
      one_turns (turned ∷ before) [] index old new what all at turns = absurd all
      one_turns (turned ∷ before) (first ∷ olds) zero old new what all at turns =
          let here : first ≡ old = cc in
          front_turns turned before olds new what (turns turned (subst (λ (x : Harvester T). Stands turned x) here all.0)) all.1
      one_turns (turned ∷ before) (first ∷ olds) (suc index) old new what all at turns =
          let on = one_turns before olds index old new what all.1 at turns in
          record {
            after = turned ∷ on.after;
            stand = (all.0, on.stand);
            gave = record {
              slots = ap (λ (l : List Slot). turned.slot ∷ l) on.gave.slots;
              parcels_are = behind_more (parcels_told turned) (flat_map parcels_told before) (flat_map parcels_told on.after) (lane.parcels_in what) on.gave.parcels_are;
              notes_are = behind_more (notes_told turned) (flat_map notes_told before) (flat_map notes_told on.after) (lane.notes_in what) on.gave.notes_are;
              spans_are = let spans = on.gave.spans_are in omega (arith, spans);
            };
          }

      module _ (faults : T → ℕ) where
        -- a turn of one of them
        pub step_tells : (step : Step) (before : List Turned) (olds news : List (Harvester T)) → step.last ≡ watch.once → EndsAt moments step.now.0 →
            IsMade numbers told faults step olds news → Pairs (IsTurnedSo numbers told watch files moments) before olds →
            TellOn numbers told watch files moments before news (lane.parcels_in step.given) (lane.notes_in step.given) (spans_of step.given)
        step_tells step before olds news same ends made all =
            subst (λ (l : List (Harvester T)). TellOn numbers told watch files moments before l (lane.parcels_in step.given) (lane.notes_in step.given) (spans_of step.given)) (sym made.is)
            (one_turns before olds step.index made.before made.after step.given all made.was
            (λ turned stands. turns_on faults step.now step.last turned made.before step.turn made.after step.given same ends made.turned made.gives stands))

        -- turns of some, in a round at this moment
        pub run_tells : (when : When) (ss : List Step) (before : List Turned) (olds news : List (Harvester T)) → when.last ≡ watch.once → EndsAt moments when.now.0 →
            AllByRecursion (IsAt when) ss → Run numbers told faults ss olds news → Pairs (IsTurnedSo numbers told watch files moments) before olds →
            TellOn numbers told watch files moments before news (issued_in ss) (noted_in ss) (steps.spans_in ss)
        run_tells when [] before olds news same ends at run all = record {
          after = before;
          stand = subst (λ (l : List (Harvester T)). Pairs (IsTurnedSo numbers told watch files moments) before l) (sym run) all;
          gave = record {
            slots = refl;
            parcels_are = none_more (flat_map parcels_told before);
            notes_are = none_more (flat_map notes_told before);
            spans_are = omega arith;
          };
        }
        run_tells when (step ∷ ss) before olds news same ends at run all =
            let now : step.now.0 ≡ when.now.0 = ap (λ (m : Moment). m.0) at.0.now in
            let on = step_tells step before olds run.0 (at.0.last ∙ same) (subst (λ (n : ℕ). EndsAt moments n) (sym now) ends) run.1 all in
            let then = run_tells when ss on.after run.0 news same ends at.1 run.2 on.stand in
            record {
              after = then.after;
              stand = then.stand;
              gave = record {
                slots = then.gave.slots ∙ on.gave.slots;
                parcels_are = more_then (flat_map parcels_told before) (flat_map parcels_told on.after) (flat_map parcels_told then.after)
                    (lane.parcels_in step.given) (issued_in ss) on.gave.parcels_are then.gave.parcels_are;
                notes_are = more_then (flat_map notes_told before) (flat_map notes_told on.after) (flat_map notes_told then.after)
                    (lane.notes_in step.given) (noted_in ss) on.gave.notes_are then.gave.notes_are;
                spans_are = let first = on.gave.spans_are in let second = then.gave.spans_are in omega (arith, first, second);
              };
            }
