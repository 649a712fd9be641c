-- Once files are begun, lanes hold nothing still, and where none is followed each listed file was skipped.
use Rattle.std.proofs.Common.{◌≡◌, ⊎_elim, ℕ, suc, ◌+◌, true, false, List, [], ◌∷◌, ◌++◌, length, Result, Ok, Err, IfOk, IfErr, refl, sym, ap, subst, ◌∙◌, length-append, arith}
use Rattle.std.specs.List.{AllByRecursion}
use Rattle.std.proofs.lemmas.Bool.{or_parts}
use Rattle.event_tree.specs.declared.input_rule.InputRule.{InputRule}
use Rattle.event_tree.specs.declared.settings.Settings.{Settings}
use Rattle.harvester.specs.declared.harvester.Harvester.{Harvester}
use Rattle.keeper.specs.Keeping.{Keeping}
use Rattle.lanes.specs.Laning.{Laning}
use Rattle.prospect.specs.declared.listed.Listed.{Listed}
use Rattle.report.specs.declared.passing.Passing.{Passing}
use Rattle.rounds.specs.Crewed.{lanings}
use Rattle.rounds.specs.Making.{IsBegunLane}
use Rattle.rounds.specs.Words.{TailWords}
use Rattle.wire_base.specs.declared.note.Note.{Note}
use Rattle.wire_base.specs.declared.numbers.Moment.{Moment}
use Rattle.wire_base.specs.declared.row.Row.{Row}
use Rattle.run_steps.specs.Beginning.{AdmitsAt, Beginning, BeginsOne}
use Rattle.run_steps.specs.BeginsAll.{BeginsAll, BeginsFrom, BeginsSome, Came, came_of, file_at, has_failed, passed_by}
use Rattle.run_steps.specs.HiddenRows.{HidesBegun}
use Rattle.run_steps.specs.Looking.{HoldNothing}
use Rattle.run_steps.specs.Releasing.{harvesters_of}
use Rattle.run_steps.specs.Telling.{TellsNotes}
use Rattle.run_steps.specs.Worked.{AreAllBegun, HasPassed}
use Rattle.run_steps.specs.declared.begin.Admission.{Admission}
use Rattle.run_steps.specs.declared.begin.Admission.TheVariants.{Failed, Followed, Skipped}
use Rattle.run_steps.specs.declared.begin_error.BeginError.{BeginError}
use Rattle.run_steps.specs.declared.beginning.BegunFiles.{BegunFiles}
use Rattle.run_steps.proofs.BegunReady.{through}
use Rattle.run_steps.proofs.Keeps.{begin_keeps}
use Rattle.run_steps.proofs.RunTails.{none_begun}
use Rattle.run_steps.specs.OpeningKeeps.{followed_by}
use Rattle.run_steps.proofs.Tails.{as_many_harvesters}

-- ---- lanes hold nothing

module _ {T : Type 0} where
  pub begun_hold_nothing : (lanes : List (Laning T)) → AllByRecursion IsBegunLane lanes → HoldNothing lanes
  begun_hold_nothing [] begun = tt
  begun_hold_nothing (lane ∷ lanes) begun = (ap (λ (l : Laning T). l.held) begun.0.is, begun_hold_nothing lanes begun.1)

  nothing_at : (harvesters : List (Harvester T)) (front : List (Laning T)) (lane : Laning T) (back : List (Laning T)) → HoldNothing (front ++ lane ∷ back) →
      HoldNothing (front ++ (record lane { harvesters = harvesters }) ∷ back)
  nothing_at harvesters [] lane back nothing = nothing
  nothing_at harvesters (first ∷ front) lane back nothing = (nothing.0, nothing_at harvesters front lane back nothing.1)

  nothing_admitted : (number : ℕ) (harvester : Harvester T) (old new : List (Laning T)) → AdmitsAt number harvester old new → HoldNothing old → HoldNothing new
  nothing_admitted number harvester old new admits nothing =
      subst (λ (l : List (Laning T)). HoldNothing l) (sym admits.are)
      (nothing_at (admits.lane.harvesters ++ harvester ∷ []) admits.front admits.lane admits.back (subst (λ (l : List (Laning T)). HoldNothing l) admits.were nothing))

-- of one file that did not fail
one_came : (begun : Admission) (one : Listed) → has_failed begun ≡ false → length (passed_by begun one) + followed_by (Ok begun) ≡ 1
one_came Followed one none = refl
one_came (Skipped why) one none = refl
one_came Failed one none = absurd (let no : true ≡ false = none in cc)

module _ {T W L : Type 0} (tails : TailWords T) (settings : Settings) (rows : List Row) (now : Moment) where
  abbrev HoldNone : Beginning T W L → Type 0
  HoldNone state = HoldNothing (lanings state.crew.lanes.items)

  one_holds : (slot : ℕ) (listed : Listed) (result : Result Admission BeginError) (old new : Beginning T W L) → BeginsOne tails settings (file_at rows slot listed now) result old new → HoldNone old → HoldNone new
  one_holds slot listed result old new is nothing =
      ⊎_elim (λ same. subst (λ (l : List (Laning T)). HoldNothing l) (sym same) nothing)
      (λ takes. nothing_admitted takes.number takes.harvester (lanings old.crew.lanes.items) (lanings new.crew.lanes.items) takes.admits nothing)
      (begin_keeps tails settings (file_at rows slot listed now) result old new is).lanes

  told_holds : (mid new : Beginning T W L) (more : List Note) → TellsNotes more mid.keeper new.keeper → new ≡ record mid { keeper = new.keeper } → HoldNone mid → HoldNone new
  told_holds mid new more tells others nothing = subst HoldNone (sym others) nothing

  pub nothing_begun : (listed : List Listed) (result : Result BegunFiles BeginError) (old new : Beginning T W L) → IfOk result (λ files. BeginsAll tails settings rows now listed (came_of files) old new) →
      IfErr result (λ what. BeginsSome tails settings rows now listed what old new) → HoldNone old → HoldNone new
  nothing_begun listed result old new begun ended nothing = through tails settings rows now HoldNone one_holds told_holds listed result old new begun ended nothing

  -- ---- where no file failed, each listed one is followed or skipped

  abbrev many : Beginning T W L → ℕ
  many state = length (harvesters_of (lanings state.crew.lanes.items))

  many_from : (slot : ℕ) (listed : List Listed) (came : Came) (old new : Beginning T W L) → BeginsFrom tails settings rows now slot listed came old new → came.faulty ≡ false →
      length came.passed + many new ≡ length listed + many old
  many_from slot [] came old new begins none = omega (arith, ap (λ (c : Came). length c.passed) begins.0, ap many begins.1)
  many_from slot (one ∷ listed) came old new begins none =
      let faults = or_parts (has_failed begins.begun) begins.later.faulty (sym (ap (λ (c : Came). c.faulty) begins.came_is) ∙ none) in
      omega (
        arith,
        ap (λ (c : Came). length c.passed) begins.came_is,
        length-append (passed_by begins.begun one) begins.later.passed,
        one_came begins.begun one faults.0,
        as_many_harvesters tails settings (file_at rows slot one now) (Ok begins.begun) old begins.mid begins.first,
        many_from (suc slot) listed begins.later begins.mid new begins.rest faults.1,
      )

  pub all_skipped : (inputs : List InputRule) (listed : List Listed) (begun result : Result BegunFiles BeginError) (old new : Beginning T W L) (hid : Keeping) (passed : List Passing) →
      IfOk begun (λ files. BeginsAll tails settings rows now listed (came_of files) old new) → HidesBegun inputs listed begun result new.keeper hid → HasPassed result passed → AreAllBegun result →
      AllByRecursion IsBegunLane (lanings old.crew.lanes.items) → harvesters_of (lanings new.crew.lanes.items) ≡ [] → length passed ≡ length listed
  all_skipped inputs listed (Ok files) (Ok same) old new hid passed begins hides are all first none =
      omega (
        arith,
        ap (λ (l : List Passing). length l) (are ∙ ap (λ (b : BegunFiles). b.passed.items) hides.0),
        many_from 0 listed (came_of files) old begins.mid begins.begins (ap (λ (b : BegunFiles). b.faulty) (sym hides.0) ∙ all),
        none_begun (lanings old.crew.lanes.items) first,
        ap (λ (hs : List (Harvester T)). length hs) none,
        ap many begins.others,
      )
  all_skipped inputs listed (Ok files) (Err what) old new hid passed begins hides are all first none = absurd all
  all_skipped inputs listed (Err what) (Ok files) old new hid passed begins hides are all first none = absurd hides
  all_skipped inputs listed (Err what) (Err other) old new hid passed begins hides are all first none = absurd all
