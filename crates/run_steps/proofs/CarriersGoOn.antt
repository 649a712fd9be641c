-- The wires of a run's workers go on over rounds and the last steps, and each comes back without an open link of its worker.
use Rattle.std.proofs.Common.{◌≡◌, ℕ, ◌-◌, ◌^◌, ◌<◌, List, [], ◌∷◌, ◌++◌, All, map, Option, Some, None, is_some, true, false, refl, sym, ap, subst, ◌∙◌, arith}
use Rattle.std.specs.List.{AllByRecursion}
use Rattle.std.proofs.lemmas.List.{map-append}
use Rattle.std.proofs.lemmas.List.Elements.{recursion_from_All}
use Rattle.atomic_table.specs.Seated.{TableId}
use Rattle.batch_worker.specs.Answers.{IsTurn}
use Rattle.batch_worker.specs.Ending.{EndsLink}
use Rattle.batch_worker.specs.Seen.{Seen, with_link}
use Rattle.batch_worker.specs.Working.{Working}
use Rattle.batch_worker.specs.declared.answer.Failure.TheVariants.{Connect, Send, Receive, Closed, Peer, TimedOut}
use Rattle.batch_worker.specs.declared.answer.Failure.{Failure}
use Rattle.batch_worker.specs.declared.answer.WorkerTurn.TheVariants.{Failed, Held, Idle, NotYet, Resting, Worked}
use Rattle.batch_worker.specs.declared.answer.WorkerTurn.{WorkerTurn}
use Rattle.event_tree.specs.declared.output_rule.OutputRule.{OutputRule}
use Rattle.event_tree.specs.declared.settings.Settings.{Settings}
use Rattle.lanes.specs.declared.run.When.{When}
use Rattle.mem_queue.specs.BoundedQueue.{BoundedQueue}
use Rattle.outside.specs.Counts.{IsAtEnd, next_count}
use Rattle.outside.specs.Talks.{Talk}
use Rattle.rounds.specs.CarrierTurns.{CarrierRun, CarrierState, carrier_state, seen_of}
use Rattle.rounds.specs.Crewed.{bare_carriers}
use Rattle.rounds.specs.Crewing.{Crewing}
use Rattle.rounds.specs.Making.{IsBegunCarrier, all_seen, wires_of}
use Rattle.rounds.specs.Pairs.{Pairs}
use Rattle.rounds.specs.Rounds.{Rounds}
use Rattle.rounds.specs.Running.{CarrierHasRun}
use Rattle.rounds.specs.Words.{LinkWords, WireWords, Words}
use Rattle.rounds.specs.declared.answer.Round.{Round}
use Rattle.rounds.specs.declared.carrier.Carrier.{Carrier}
use Rattle.rounds.specs.declared.crew.Crew.{Crew}
use Rattle.settle_box.specs.BoundedBox.{BoundedBox}
use Rattle.wire_base.specs.declared.numbers.Moment.{Moment}
use Rattle.run_steps.specs.BegunCrew.{IsBegunCrew}
use Rattle.run_steps.specs.CarriersEnd.{EndsCarrier, EndsCarriers}
use Rattle.run_steps.specs.CarriersFail.{KeepsLink, LinksStay}
use Rattle.run_steps.specs.CarriersGoOn.{CarrierGoesOn, CarriersGoOn, WireGoesOn, WireReturns, WiresReturn}
use Rattle.run_steps.specs.WireOn.{OutcomesGoOn}
use Rattle.run_steps.proofs.WireOn.{told_finished, told_further, told_refused, told_same, told_stays}

-- ---- by nothing, and over two steps

module _ {L : Type 0} where
  goes_by_nothing : (seen : Seen) (link : Option L) → WireGoesOn seen seen link link
  goes_by_nothing seen link = record { told = told_stays seen.outcomes; open_links = λ others few is. is }

  goes_by_two : (one two three : Seen) (first second third : Option L) → WireGoesOn one two first second → WireGoesOn two three second third → WireGoesOn one three first third
  goes_by_two one two three first second third before then = record {
    told = told_further one.outcomes two.outcomes three.outcomes before.told then.told;
    open_links = λ others few is. then.open_links others few (before.open_links others few is);
  }

  -- nothing shows, and the worker has a link where it had one
  same_links : (others : ℕ) (old new : Option L) → is_some new ≡ is_some old → with_link others old ≡ with_link others new
  same_links others None None linked = refl
  same_links others None (Some link) linked = absurd (let q : true ≡ false = linked in cc)
  same_links others (Some link) None linked = absurd (let q : false ≡ true = linked in cc)
  same_links others (Some link) (Some other) linked = refl

  pub goes_unseen : (before after : Seen) (old new : Option L) → after ≡ before → is_some new ≡ is_some old → WireGoesOn before after old new
  goes_unseen before after old new same linked = record {
    told = told_same before.outcomes after.outcomes (ap (λ (s : Seen). s.outcomes) same);
    open_links = λ others few is. ap (λ (s : Seen). s.open_links) same ∙ is ∙ same_links others old new linked;
  }

-- ---- a turn

module _ {L : Type 0} (told : L → Option Talk) (faults idles : L → ℕ) (box : ℕ) (before after : Seen) (now : Moment) (old new : Working L) where
  told_failing : (failure : Failure) → IsTurn told faults idles box before after now old new (Failed failure) → OutcomesGoOn before.outcomes after.outcomes
  told_failing Connect turn = told_refused before.outcomes after.outcomes after.faults turn.cause.kept
  told_failing Send turn = told_finished before.outcomes (told turn.cause.ended) (faults turn.cause.ended) (idles turn.cause.ended) after.outcomes turn.cause.outcome
  told_failing Receive turn = told_finished before.outcomes (told turn.cause.finishes.ended) (faults turn.cause.finishes.ended) (idles turn.cause.finishes.ended) after.outcomes turn.cause.finishes.outcome
  told_failing Closed turn = told_finished before.outcomes (told turn.cause.finishes.ended) (faults turn.cause.finishes.ended) (idles turn.cause.finishes.ended) after.outcomes turn.cause.finishes.outcome
  told_failing (Peer at) turn = told_finished before.outcomes (told turn.cause.finishes.ended) (faults turn.cause.finishes.ended) (idles turn.cause.finishes.ended) after.outcomes turn.cause.finishes.outcome
  told_failing (TimedOut since until) turn = told_finished before.outcomes (told turn.cause.finishes.ended) (faults turn.cause.finishes.ended) (idles turn.cause.finishes.ended) after.outcomes turn.cause.finishes.outcome

  goes_by_turn : (t : WorkerTurn) → IsTurn told faults idles box before after now old new t → WireGoesOn before after old.link new.link
  goes_by_turn Worked turn = record {
    told = told_same before.outcomes after.outcomes turn.outcomes;
    open_links = λ others few is. turn.goes.keeps.open_links others is few;
  }
  goes_by_turn Idle turn = goes_unseen before after old.link new.link turn.wire (ap (λ (w : Working L). is_some w.link) turn.same)
  goes_by_turn Held turn = record {
    told = told_same before.outcomes after.outcomes (ap (λ (s : Seen). s.outcomes) turn.wire);
    open_links = λ others few is. turn.goes.keeps.open_links others is few;
  }
  goes_by_turn NotYet turn = record {
    told = told_same before.outcomes after.outcomes (ap (λ (s : Seen). s.outcomes) turn.wire);
    open_links = λ others few is. turn.goes.keeps.open_links others is few;
  }
  goes_by_turn (Resting until) turn = goes_unseen before after old.link new.link turn.wire (ap (λ (w : Working L). is_some w.link) turn.same)
  goes_by_turn (Failed failure) turn = record {
    told = told_failing failure turn;
    open_links = λ others few is. turn.fails.keeps.open_links others is few;
  }

-- ---- the end

-- a link is finished, where there is one
goes_by_ending : {L : Type 0} (told : L → Option Talk) (faults idles : L → ℕ) (link : Option L) (before after : Seen) → EndsLink told faults idles link before after → WireGoesOn before after link None
goes_by_ending told faults idles None before after same = goes_unseen before after None None same refl
goes_by_ending told faults idles (Some link) before after finished = record {
  told = told_finished before.outcomes (told link) (faults link) (idles link) after.outcomes finished.outcome;
  open_links = λ others few is.
      let one_less = finished.open_links in
      let one_more : before.open_links ≡ next_count others = is in
      one_fewer others before.open_links after.open_links few one_more one_less;
}
  where
    one_fewer : (others before after : ℕ) → ¬ (IsAtEnd others) → before ≡ next_count others → after ≡ before - 1 → after ≡ others
    one_fewer others before after few more less = let below = few in omega (arith, below, more, less)

-- ---- each worker, over its turns

module _ {W L : Type 0} (links : LinkWords L) (wires : WireWords W) (box : ℕ) (now : Moment) where
  goes_by_turns : (turns : List WorkerTurn) (old new : CarrierState W L) → CarrierRun links wires box now turns old new → WireGoesOn (seen_of wires old.wire) (seen_of wires new.wire) old.worker.link new.worker.link
  goes_by_turns [] old new same = subst (λ (s : CarrierState W L). WireGoesOn (seen_of wires old.wire) (seen_of wires s.wire) old.worker.link s.worker.link) (sym same) (goes_by_nothing (seen_of wires old.wire) old.worker.link)
  goes_by_turns (t ∷ turns) old new run =
      goes_by_two (seen_of wires old.wire) (seen_of wires run.0.wire) (seen_of wires new.wire) old.worker.link run.0.worker.link new.worker.link
      (goes_by_turn links.told links.faults links.idles box (seen_of wires old.wire) (seen_of wires run.0.wire) now old.worker run.0.worker t run.1.answers)
      (goes_by_turns turns run.0 new run.2)

  goes_by_run : (old new : Carrier W L) → CarrierHasRun links wires box now old new → CarrierGoesOn wires old new
  unfolding CarrierHasRun
  goes_by_run old new ran = goes_by_turns ran.turns (carrier_state old) (carrier_state new) ran.ran

  all_run : (xs ys : List (Carrier W L)) → Pairs (CarrierHasRun links wires box now) xs ys → Pairs (CarrierGoesOn wires) xs ys
  all_run [] [] ran = tt
  all_run [] (y ∷ ys) ran = absurd ran
  all_run (x ∷ xs) [] ran = absurd ran
  all_run (x ∷ xs) (y ∷ ys) ran = (goes_by_run x y ran.0, all_run xs ys ran.1)

-- ---- all of them

module _ {W L : Type 0} (wires : WireWords W) where
  all_same : (carriers : List (Carrier W L)) → Pairs (CarrierGoesOn wires) carriers carriers
  all_same [] = tt
  all_same (x ∷ xs) = (goes_by_nothing (seen_of wires x.wire) x.worker.link, all_same xs)

  all_further : (xs ys zs : List (Carrier W L)) → Pairs (CarrierGoesOn wires) xs ys → Pairs (CarrierGoesOn wires) ys zs → Pairs (CarrierGoesOn wires) xs zs
  all_further [] [] [] first then = tt
  all_further [] [] (z ∷ zs) first then = absurd then
  all_further [] (y ∷ ys) zs first then = absurd first
  all_further (x ∷ xs) [] zs first then = absurd first
  all_further (x ∷ xs) (y ∷ ys) [] first then = absurd then
  all_further (x ∷ xs) (y ∷ ys) (z ∷ zs) first then = (
    goes_by_two (seen_of wires x.wire) (seen_of wires y.wire) (seen_of wires z.wire) x.worker.link y.worker.link z.worker.link first.0 then.0,
    all_further xs ys zs first.1 then.1,
  )

  -- whatever their passes are
  from_bare : (xs ys : List (Carrier W L)) → Pairs (CarrierGoesOn wires) xs (bare_carriers ys) → Pairs (CarrierGoesOn wires) xs ys
  from_bare [] [] on = tt
  from_bare [] (y ∷ ys) on = absurd on
  from_bare (x ∷ xs) [] on = absurd on
  from_bare (x ∷ xs) (y ∷ ys) on = (on.0, from_bare xs ys on.1)

  to_bare : (xs ys : List (Carrier W L)) → Pairs (CarrierGoesOn wires) xs ys → Pairs (CarrierGoesOn wires) xs (bare_carriers ys)
  to_bare [] [] on = tt
  to_bare [] (y ∷ ys) on = absurd on
  to_bare (x ∷ xs) [] on = absurd on
  to_bare (x ∷ xs) (y ∷ ys) on = (on.0, to_bare xs ys on.1)

  -- over the last steps
  all_stay : (xs ys : List (Carrier W L)) → Pairs KeepsLink xs ys → Pairs (CarrierGoesOn wires) xs ys
  all_stay [] [] stay = tt
  all_stay [] (y ∷ ys) stay = absurd stay
  all_stay (x ∷ xs) [] stay = absurd stay
  all_stay (x ∷ xs) (y ∷ ys) stay = (
    goes_unseen (seen_of wires x.wire) (seen_of wires y.wire) x.worker.link y.worker.link (ap (seen_of wires) stay.0.wire) stay.0.linked,
    all_stay xs ys stay.1,
  )

  pub carriers_by_nothing : (carriers : List (Carrier W L)) → CarriersGoOn wires carriers carriers
  unfolding CarriersGoOn
  carriers_by_nothing carriers = all_same carriers

  pub carriers_by_two : (one two three : List (Carrier W L)) → CarriersGoOn wires one two → CarriersGoOn wires two three → CarriersGoOn wires one three
  unfolding CarriersGoOn
  carriers_by_two one two three first then = all_further one two three first then

pub carriers_by_round : {T W L D : Type 0} (words : Words T W L D) (queue : BoundedQueue) (desk : BoundedBox) (when : When) (old new : Crewing T W L D) (round : Round) → Rounds words queue desk when old new round →
    CarriersGoOn words.wires old.carriers.items new.carriers.items
unfolding CarriersGoOn
carriers_by_round {W = W} {L = L} words queue desk when old new round ran =
    let mid = ran.mid.carriers.items in
    from_bare words.wires old.carriers.items new.carriers.items
    (subst (λ (cs : List (Carrier W L)). Pairs (CarrierGoesOn words.wires) old.carriers.items cs) (sym ran.meets.met.carriers_same)
    (to_bare words.wires old.carriers.items mid (all_run words.links words.wires desk.capacity when.now old.carriers.items mid ran.ran.others.carriers)))

-- ---- as the run ends

module _ {W L : Type 0} (links : LinkWords L) (wires : WireWords W) where
  each_returns : (xs ys zs : List (Carrier W L)) (ended : List W) → Pairs (CarrierGoesOn wires) xs ys → Pairs KeepsLink ys zs → Pairs (EndsCarrier links wires) zs ended → Pairs (WireReturns wires) xs ended
  each_returns [] [] [] [] on stay ends = tt
  each_returns [] [] [] (w ∷ ended) on stay ends = absurd ends
  each_returns [] [] (z ∷ zs) ended on stay ends = absurd stay
  each_returns [] (y ∷ ys) zs ended on stay ends = absurd on
  each_returns (x ∷ xs) [] zs ended on stay ends = absurd on
  each_returns (x ∷ xs) (y ∷ ys) [] ended on stay ends = absurd stay
  each_returns (x ∷ xs) (y ∷ ys) (z ∷ zs) [] on stay ends = absurd ends
  each_returns (x ∷ xs) (y ∷ ys) (z ∷ zs) (w ∷ ended) on stay ends = (
    goes_by_two (seen_of wires x.wire) (seen_of wires y.wire) (seen_of wires w) x.worker.link y.worker.link None on.0
        (goes_by_two (seen_of wires y.wire) (seen_of wires z.wire) (seen_of wires w) y.worker.link z.worker.link None
        (goes_unseen (seen_of wires y.wire) (seen_of wires z.wire) y.worker.link z.worker.link (ap (seen_of wires) stay.0.wire) stay.0.linked)
        (goes_by_ending links.told links.faults links.idles z.worker.link (seen_of wires z.wire) (seen_of wires w) ends.0.finished)),
    each_returns xs ys zs ended on.1 stay.1 ends.1,
  )

  pub wires_return : (one two three : List (Carrier W L)) (unused all : List W) → CarriersGoOn wires one two → LinksStay two three → EndsCarriers links wires three unused all → WiresReturn wires one unused all
  unfolding CarriersGoOn LinksStay
  wires_return one two three unused all on stay ends = record { ended = ends.ended; is = ends.is; each = each_returns one two three ends.ended on stay ends.each }

-- ---- from its begin

-- no worker has a link as the run begins
module _ {W L : Type 0} (wires : WireWords W) (rule : OutputRule) where
  as_many_links : (carriers : List (Carrier W L)) (ended : List W) → AllByRecursion (IsBegunCarrier rule) carriers → Pairs (WireReturns wires) carriers ended →
      AllByRecursion (λ (w : W). wires.open_links w < 2 ^ 64 - 1) (wires_of carriers) → map wires.open_links ended ≡ map wires.open_links (wires_of carriers)
  as_many_links [] [] begun returns few = refl
  as_many_links [] (w ∷ ended) begun returns few = absurd returns
  as_many_links (c ∷ carriers) [] begun returns few = absurd returns
  as_many_links (c ∷ carriers) (w ∷ ended) begun returns few =
      let none : c.worker.link ≡ None = ap (λ (worker : Working L). worker.link) begun.0.is in
      let all_others : wires.open_links c.wire ≡ with_link (wires.open_links c.wire) c.worker.link = ap (with_link (wires.open_links c.wire)) (sym none) in
      let same = returns.0.open_links (wires.open_links c.wire) (λ end. let below = few.0 in omega (arith, below, end)) all_others in
      ap (λ (n : ℕ). n ∷ map wires.open_links ended) same ∙ ap (λ (l : List ℕ). wires.open_links c.wire ∷ l) (as_many_links carriers ended begun.1 returns.1 few.1)

  each_tells : (carriers : List (Carrier W L)) (ended unused : List W) → Pairs (WireReturns wires) carriers ended → Pairs OutcomesGoOn (map wires.outcomes (wires_of carriers ++ unused)) (map wires.outcomes (ended ++ unused))
  each_tells [] [] [] returns = tt
  each_tells [] [] (w ∷ unused) returns = (told_stays (wires.outcomes w), each_tells [] [] unused returns)
  each_tells [] (w ∷ ended) unused returns = absurd returns
  each_tells (c ∷ carriers) [] unused returns = absurd returns
  each_tells (c ∷ carriers) (w ∷ ended) unused returns = (returns.0.told, each_tells carriers ended unused returns.1)

module _ {W : Type 0} (P : W → Type 0) where
  front_of : (xs ys : List W) → AllByRecursion P (xs ++ ys) → AllByRecursion P xs
  front_of [] ys all = tt
  front_of (x ∷ xs) ys all = (all.0, front_of xs ys all.1)

module _ {T W L : Type 0} (told : L → Option Talk) (queue desk : TableId) (settings : Settings) (old left : List W) (crew : Crew T W L) (begun : IsBegunCrew told queue desk settings old left crew)
    (wires : WireWords W) (all : List W) (returns : WiresReturn wires crew.carriers.items left all) where
  abbrev first : List W
  first = wires_of crew.carriers.items

  pub links_finished : All (λ (w : W). wires.open_links w < 2 ^ 64 - 1) old → map wires.open_links all ≡ map wires.open_links old
  links_finished few =
      ap (map wires.open_links) returns.is ∙ map-append wires.open_links returns.ended left
      ∙ ap (λ (l : List ℕ). l ++ map wires.open_links left)
      (as_many_links wires settings.output crew.carriers.items returns.ended (recursion_from_All (IsBegunCarrier settings.output) crew.carriers.items begun.carriers) returns.each
      (front_of (λ (w : W). wires.open_links w < 2 ^ 64 - 1) first left
      (subst (AllByRecursion (λ (w : W). wires.open_links w < 2 ^ 64 - 1)) begun.wires_are.in_order (recursion_from_All (λ (w : W). wires.open_links w < 2 ^ 64 - 1) old few))))
      ∙ sym (map-append wires.open_links first left) ∙ ap (map wires.open_links) (sym begun.wires_are.in_order)

  pub outcomes_go_on : Pairs OutcomesGoOn (map wires.outcomes old) (map wires.outcomes all)
  outcomes_go_on =
      subst (λ (l : List W). Pairs OutcomesGoOn (map wires.outcomes l) (map wires.outcomes all)) (sym begun.wires_are.in_order)
      (subst (λ (l : List W). Pairs OutcomesGoOn (map wires.outcomes (first ++ left)) (map wires.outcomes l)) (sym returns.is)
      (each_tells wires settings.output crew.carriers.items returns.ended left returns.each))

-- ---- where no crew could be made

-- what shows of wires tells how many links are open
pub open_links_seen : {W : Type 0} (wires : WireWords W) (new old : List W) → all_seen wires new ≡ all_seen wires old → map wires.open_links new ≡ map wires.open_links old
open_links_seen wires new old same = sym (seen_so new) ∙ ap (map (λ (s : Seen). s.open_links)) same ∙ seen_so old
  where
    seen_so : (some : List _) → map (λ (s : Seen). s.open_links) (all_seen wires some) ≡ map wires.open_links some
    seen_so [] = refl
    seen_so (w ∷ some) = ap (λ (l : List ℕ). wires.open_links w ∷ l) (seen_so some)
