-- The workers of a run fail so over a round, turn by turn.
use Rattle.std.proofs.Common.{◌≡◌, ◌⊎◌, ⊎_elim, inl, inr, ℕ, Bool, ◌<◌, ◌≤◌, List, [], ◌∷◌, ◌++◌, length, drop, Option, Some, None, IfNone, refl, sym, subst, append-nil, arith}
use Rattle.std.specs.List.{AllByRecursion}
use Rattle.std.proofs.lemmas.List.{drop-append-le, length-append}
use Rattle.std.proofs.lemmas.List.Elements.{recursion_from_All}
use Rattle.accounts.specs.Failing.{IsFailing, IsFailingSo}
use Rattle.accounts.proofs.Failing.{so_later, turn_so}
use Rattle.batch_worker.specs.Begun.{without_passes}
use Rattle.batch_worker.specs.Keeping.{failures_since}
use Rattle.batch_worker.specs.Standing.{StandsFor}
use Rattle.batch_worker.specs.Working.{Working}
use Rattle.batch_worker.specs.declared.answer.WorkerTurn.{WorkerTurn}
use Rattle.batch_worker.specs.declared.answer.WorkerTurn.TheVariants.{Failed, Held, Idle, NotYet, Resting, Worked}
use Rattle.harvester.specs.Standing.{EndsAt}
use Rattle.keeper.specs.Keeping.{Keeping}
use Rattle.lanes.specs.declared.run.When.{When}
use Rattle.mem_queue.specs.BoundedQueue.{BoundedQueue}
use Rattle.outside.specs.Times.{GivesMoment}
use Rattle.outside.specs.Wires.{Outcome}
use Rattle.rounds.specs.CarrierTurns.{AllButLastWorked, CarrierRun, CarrierState, CarrierTurned, IsWork, carrier_state, seen_of}
use Rattle.rounds.specs.Crewed.{bare_carrier, bare_carriers}
use Rattle.rounds.specs.Crewing.{Crewing}
use Rattle.rounds.specs.Pairs.{Pairs}
use Rattle.rounds.specs.Rounds.{Rounds}
use Rattle.rounds.specs.Running.{CarrierHasRun}
use Rattle.rounds.specs.Words.{LinkWords, WireWords, Words}
use Rattle.rounds.specs.declared.answer.Round.{Round}
use Rattle.rounds.specs.declared.carrier.Carrier.{Carrier}
use Rattle.rounds.specs.declared.crew.Crew.{Crew}
use Rattle.settle_box.specs.BoundedBox.{BoundedBox}
use Rattle.wire_base.specs.declared.numbers.Moment.{Moment}
use Rattle.wire_base.specs.declared.parcel.Parcel.{Parcel}
use Rattle.run_steps.specs.CarriersFail.{AreFailing, CarrierFails, FailOn, Sending, sending}
use Rattle.run_steps.specs.MetIn.{HasTriesLeft, IsMetIn, NoneFailed}
use Rattle.run_steps.specs.declared.met.Met.{Met}
use Rattle.run_steps.proofs.Giving.{ends_at, ends_behind}

-- ---- by nothing, and over two steps

module _ {W L : Type 0} (links : LinkWords L) (wires : WireWords W) (attempts : ℕ) where
  pub fail_by_nothing : (now : Sending W L) → FailOn links wires attempts now now
  unfolding FailOn
  fail_by_nothing now = λ timeout earlier starts some none failing. failing

  pub fail_by_two : (one two three : Sending W L) → FailOn links wires attempts one two → (NoneFailed attempts one.carriers → NoneFailed attempts two.carriers) → FailOn links wires attempts two three → FailOn links wires attempts one three
  unfolding FailOn
  fail_by_two one two three first still then = λ timeout earlier starts some none failing. then timeout earlier starts some (still none) (first timeout earlier starts some none failing)

-- ---- a turn

module _ {W L : Type 0} (links : LinkWords L) (wires : WireWords W) (box : ℕ) (now : Moment) where
  module _ (timeout : ℕ) (some : 0 < timeout) (start : ℕ) (moments : List ℕ) (ends : EndsAt moments now.0) where
    abbrev IsSo : CarrierState W L → Type 0
    IsSo state = IsFailing links.told timeout start moments (seen_of wires state.wire) state.worker

    run_so : (turns : List WorkerTurn) (old new : CarrierState W L) → CarrierRun links wires box now turns old new → IsSo old → IsSo new
    run_so [] old new is so = subst (λ (s : CarrierState W L). IsSo s) (sym is) so
    run_so (t ∷ turns) old new run so =
        run_so turns run.0 new run.2
        (turn_so links.told timeout start links.faults links.idles box (seen_of wires old.wire) (seen_of wires run.0.wire) moments now old.worker run.0.worker t some ends run.1.rests run.1.answers so)

  -- ---- how often it failed

  since_few : (acks : List Parcel) (failures : ℕ) → failures_since acks failures ≤ failures
  since_few [] failures = omega arith
  since_few (p ∷ acks) failures = omega arith

  -- no turn but a failure adds to it
  turn_below : (attempts : ℕ) (t : WorkerTurn) (old new : CarrierState W L) → CarrierTurned links wires box now t old new → old.worker.failures < attempts → (new.worker.failures < attempts) ⊎ (new.worker.link ≡ None)
  turn_below attempts Worked old new turned left = let few = since_few turned.answers.goes.keeps.acknowledged old.worker.failures in let is = turned.answers.goes.failures in inl (omega (arith, few, is, left))
  turn_below attempts Idle old new turned left = inl (subst (λ (w : Working L). w.failures < attempts) (sym turned.answers.same) left)
  turn_below attempts Held old new turned left = let few = since_few turned.answers.goes.keeps.acknowledged old.worker.failures in let is = turned.answers.goes.failures in inl (omega (arith, few, is, left))
  turn_below attempts NotYet old new turned left = let few = since_few turned.answers.goes.keeps.acknowledged old.worker.failures in let is = turned.answers.goes.failures in inl (omega (arith, few, is, left))
  turn_below attempts (Resting until) old new turned left = inl (subst (λ (w : Working L). w.failures < attempts) (sym turned.answers.same) left)
  turn_below attempts (Failed failure) old new turned left = inr turned.answers.fails.unlinked

  work_below : (attempts : ℕ) (t : WorkerTurn) (old new : CarrierState W L) → IsWork t → CarrierTurned links wires box now t old new → old.worker.failures < attempts → new.worker.failures < attempts
  work_below attempts Worked old new work turned left = let few = since_few turned.answers.goes.keeps.acknowledged old.worker.failures in let is = turned.answers.goes.failures in omega (arith, few, is, left)
  work_below attempts Idle old new work turned left = absurd work
  work_below attempts Held old new work turned left = absurd work
  work_below attempts NotYet old new work turned left = absurd work
  work_below attempts (Resting until) old new work turned left = absurd work
  work_below attempts (Failed failure) old new work turned left = absurd work

  run_below : (attempts : ℕ) (turns : List WorkerTurn) (old new : CarrierState W L) → AllButLastWorked turns → CarrierRun links wires box now turns old new → old.worker.failures < attempts → (new.worker.failures < attempts) ⊎ (new.worker.link ≡ None)
  run_below attempts [] old new work is left = inl (subst (λ (s : CarrierState W L). s.worker.failures < attempts) (sym is) left)
  run_below attempts (t ∷ []) old new work run left =
      subst (λ (s : CarrierState W L). (s.worker.failures < attempts) ⊎ (s.worker.link ≡ None)) (sym run.2) (turn_below attempts t old run.0 run.1 left)
  run_below attempts (t ∷ u ∷ turns) old new work run left = run_below attempts (u ∷ turns) run.0 new work.1 run.2 (work_below attempts t old run.0 work.0 run.1 left)

  -- ---- all of them

  module _ (attempts timeout : ℕ) (some : 0 < timeout) (moments : List ℕ) (ends : EndsAt moments now.0) where
    one_fails : (start : Option ℕ) (x y : Carrier W L) → CarrierHasRun links wires box now x y → HasTriesLeft attempts x → CarrierFails links wires attempts timeout moments start x → CarrierFails links wires attempts timeout moments start y
    unfolding CarrierHasRun
    one_fails None x y ran left fails = record { fails = tt; tries = run_below attempts ran.turns (carrier_state x) (carrier_state y) ran.work ran.ran left }
    one_fails (Some start) x y ran left fails = record {
      fails = run_so timeout some start moments ends ran.turns (carrier_state x) (carrier_state y) ran.ran fails.fails;
      tries = run_below attempts ran.turns (carrier_state x) (carrier_state y) ran.work ran.ran left;
    }

    all_fail : (starts : List (Option ℕ)) (xs ys : List (Carrier W L)) → Pairs (CarrierHasRun links wires box now) xs ys → AllByRecursion (HasTriesLeft attempts) xs → Pairs (CarrierFails links wires attempts timeout moments) starts xs → Pairs (CarrierFails links wires attempts timeout moments) starts ys
    all_fail [] [] [] ran left fail = tt
    all_fail [] [] (y ∷ ys) ran left fail = absurd ran
    all_fail [] (x ∷ xs) ys ran left fail = absurd fail
    all_fail (s ∷ starts) [] ys ran left fail = absurd fail
    all_fail (s ∷ starts) (x ∷ xs) [] ran left fail = absurd ran
    all_fail (s ∷ starts) (x ∷ xs) (y ∷ ys) ran left fail = (one_fails s x y ran.0 left.0 fail.0, all_fail starts xs ys ran.1 left.1 fail.1)

-- ---- whatever their passes are

module _ {W L : Type 0} (links : LinkWords L) (wires : WireWords W) (attempts timeout : ℕ) (moments : List ℕ) where
  stands_bare : (start : ℕ) (w : Working L) (outcomes : Option (List Outcome)) (acknowledged : List Parcel) → StandsFor links.told start w outcomes acknowledged → StandsFor links.told start (without_passes w) outcomes acknowledged
  stands_bare start w outcomes acknowledged s = record { exchange = s.exchange; window = s.window; talk = s.talk; small = s.small; are = s.are; reached = s.reached; finished = s.finished; sent = s.sent }

  stands_with : (start : ℕ) (w : Working L) (outcomes : Option (List Outcome)) (acknowledged : List Parcel) → StandsFor links.told start (without_passes w) outcomes acknowledged → StandsFor links.told start w outcomes acknowledged
  stands_with start w outcomes acknowledged s = record { exchange = s.exchange; window = s.window; talk = s.talk; small = s.small; are = s.are; reached = s.reached; finished = s.finished; sent = s.sent }

  so_bare : (start : ℕ) (all : List Outcome) (w : Working L) → IsFailingSo links.told timeout start moments all w → IsFailingSo links.told timeout start moments all (without_passes w)
  so_bare start all w f = record {
    acknowledged = f.acknowledged;
    stands = stands_bare start w (Some all) f.acknowledged f.stands;
    used = f.used;
    left = f.left;
    moments_are = f.moments_are;
    failures = f.failures;
    earlier = f.earlier;
    last = f.last;
    are = f.are;
    number = f.number;
    nothing_new = f.nothing_new;
    nothing_since = f.nothing_since;
    outs = f.outs;
    heard = f.heard;
    rests = f.rests;
    timeout_is = f.timeout_is;
  }

  so_with : (start : ℕ) (all : List Outcome) (w : Working L) → IsFailingSo links.told timeout start moments all (without_passes w) → IsFailingSo links.told timeout start moments all w
  so_with start all w f = record {
    acknowledged = f.acknowledged;
    stands = stands_with start w (Some all) f.acknowledged f.stands;
    used = f.used;
    left = f.left;
    moments_are = f.moments_are;
    failures = f.failures;
    earlier = f.earlier;
    last = f.last;
    are = f.are;
    number = f.number;
    nothing_new = f.nothing_new;
    nothing_since = f.nothing_since;
    outs = f.outs;
    heard = f.heard;
    rests = f.rests;
    timeout_is = f.timeout_is;
  }

  abbrev Fails : Option ℕ → Carrier W L → Type 0
  Fails start carrier = CarrierFails links wires attempts timeout moments start carrier

  one_bare : (start : Option ℕ) (x : Carrier W L) → Fails start x → Fails start (bare_carrier x)
  one_bare None x fails = record { fails = tt; tries = fails.tries }
  one_bare (Some start) x fails = record {
    fails = record { all = fails.fails.all; tells = fails.fails.tells; is = ⊎_elim (λ end. inl end) (λ so. inr (so_bare start fails.fails.all x.worker so)) fails.fails.is };
    tries = fails.tries;
  }

  one_with : (start : Option ℕ) (x : Carrier W L) → Fails start (bare_carrier x) → Fails start x
  one_with None x fails = record { fails = tt; tries = fails.tries }
  one_with (Some start) x fails = record {
    fails = record { all = fails.fails.all; tells = fails.fails.tells; is = ⊎_elim (λ end. inl end) (λ so. inr (so_with start fails.fails.all x.worker so)) fails.fails.is };
    tries = fails.tries;
  }

  to_bare : (starts : List (Option ℕ)) (xs : List (Carrier W L)) → Pairs Fails starts xs → Pairs Fails starts (bare_carriers xs)
  to_bare [] [] fail = tt
  to_bare [] (x ∷ xs) fail = absurd fail
  to_bare (s ∷ starts) [] fail = absurd fail
  to_bare (s ∷ starts) (x ∷ xs) fail = (one_bare s x fail.0, to_bare starts xs fail.1)

  from_bare : (starts : List (Option ℕ)) (xs : List (Carrier W L)) → Pairs Fails starts (bare_carriers xs) → Pairs Fails starts xs
  from_bare [] [] fail = tt
  from_bare [] (x ∷ xs) fail = absurd fail
  from_bare (s ∷ starts) [] fail = absurd fail
  from_bare (s ∷ starts) (x ∷ xs) fail = (one_with s x fail.0, from_bare starts xs fail.1)

  pub met_fail : (starts : List (Option ℕ)) (mids news : List (Carrier W L)) → bare_carriers news ≡ bare_carriers mids → Pairs Fails starts mids → Pairs Fails starts news
  met_fail starts mids news same fail = from_bare starts news (subst (λ (cs : List (Carrier W L)). Pairs Fails starts cs) (sym same) (to_bare starts mids fail))

-- ---- with more moments

module _ {W L : Type 0} (links : LinkWords L) (wires : WireWords W) (attempts timeout : ℕ) (moments more : List ℕ) where
  one_later : (start : Option ℕ) (x : Carrier W L) → CarrierFails links wires attempts timeout moments start x → CarrierFails links wires attempts timeout (moments ++ more) start x
  one_later None x fails = record { fails = tt; tries = fails.tries }
  one_later (Some start) x fails = record {
    fails = record { all = fails.fails.all; tells = fails.fails.tells; is = ⊎_elim (λ end. inl end) (λ so. inr (so_later links.told timeout start moments more fails.fails.all x.worker so)) fails.fails.is };
    tries = fails.tries;
  }

  all_later : (starts : List (Option ℕ)) (xs : List (Carrier W L)) → Pairs (CarrierFails links wires attempts timeout moments) starts xs → Pairs (CarrierFails links wires attempts timeout (moments ++ more)) starts xs
  all_later [] [] fail = tt
  all_later [] (x ∷ xs) fail = absurd fail
  all_later (s ∷ starts) [] fail = absurd fail
  all_later (s ∷ starts) (x ∷ xs) fail = (one_later s x fail.0, all_later starts xs fail.1)

-- the clock gave this moment
record GivesNow (earlier : ℕ) (moments : List ℕ) (now : ℕ) (after : Option (List ℕ)) : Type 0 where
  all : List ℕ
  is : after ≡ Some all
  more : List ℕ
  since : drop earlier all ≡ drop earlier moments ++ more
  ends : EndsAt (drop earlier all) now
  further : earlier < length all

gives_now : (earlier : ℕ) (moments : List ℕ) (now : ℕ) (after : Option (List ℕ)) → earlier < length moments → GivesMoment (Some moments) now after → GivesNow earlier moments now after
gives_now earlier moments now after within (inl same) = record {
  all = moments;
  is = same.1;
  more = [];
  since = sym (append-nil (drop earlier moments));
  ends = ends_behind moments now earlier within (ends_at moments now same.0);
  further = within;
}
gives_now earlier moments now after within (inr grows) =
    let long = length-append moments (now ∷ []) in
    let further : earlier < length (moments ++ now ∷ []) = omega (arith, within, long) in
    record {
      all = moments ++ now ∷ [];
      is = grows.1;
      more = now ∷ [];
      since = drop-append-le earlier moments (now ∷ []) (omega (arith, within));
      ends = ends_behind (moments ++ now ∷ []) now earlier further (record { earlier = moments; are = refl });
      further = further;
    }

-- ---- a round

module _ {T W L D : Type 0} (words : Words T W L D) (queue : BoundedQueue) (desk : BoundedBox) (when : When) (old new : Crewing T W L D) (round : Round) (ran : Rounds words queue desk when old new round) where
  after_round : (attempts timeout earlier : ℕ) (starts : List (Option ℕ)) (moments : List ℕ) (after : Option (List ℕ)) → 0 < timeout → NoneFailed attempts old.carriers.items → GivesMoment (Some moments) when.now.0 after →
      (earlier < length moments) × Pairs (CarrierFails words.links words.wires attempts timeout (drop earlier moments)) starts old.carriers.items →
      AreFailing words.links words.wires attempts timeout earlier starts (sending after new.carriers.items)
  after_round attempts timeout earlier starts moments after some none gives failing =
      let given = gives_now earlier moments when.now.0 after failing.0 gives in
      let later = all_later words.links words.wires attempts timeout (drop earlier moments) given.more starts old.carriers.items failing.1 in
      let before = subst (λ (l : List ℕ). Pairs (CarrierFails words.links words.wires attempts timeout l) starts old.carriers.items) (sym given.since) later in
      let mid = all_fail words.links words.wires desk.capacity when.now attempts timeout some (drop earlier given.all) given.ends starts old.carriers.items ran.mid.carriers.items ran.ran.others.carriers
      (recursion_from_All (HasTriesLeft attempts) old.carriers.items none) before in
      subst (λ (o : Option (List ℕ)). AreFailing words.links words.wires attempts timeout earlier starts (sending o new.carriers.items)) (sym given.is)
      (given.further, met_fail words.links words.wires attempts timeout (drop earlier given.all) starts ran.mid.carriers.items new.carriers.items ran.meets.met.carriers_same mid)

  pub fail_by_round : (attempts : ℕ) (moments after : Option (List ℕ)) → GivesMoment moments when.now.0 after → FailOn words.links words.wires attempts (sending moments old.carriers.items) (sending after new.carriers.items)
  unfolding FailOn
  fail_by_round attempts None after gives = λ timeout earlier starts some none failing. subst (λ (o : Option (List ℕ)). AreFailing words.links words.wires attempts timeout earlier starts (sending o new.carriers.items)) (sym gives) tt
  fail_by_round attempts (Some moments) after gives = λ timeout earlier starts some none failing. after_round attempts timeout earlier starts moments after some none gives failing

pub fail_after : {W L : Type 0} (links : LinkWords L) (wires : WireWords W) (attempts : ℕ) (before after : Sending W L) (timeout earlier : ℕ) (starts : List (Option ℕ)) → 0 < timeout → NoneFailed attempts before.carriers →
    FailOn links wires attempts before after → AreFailing links wires attempts timeout earlier starts before → AreFailing links wires attempts timeout earlier starts after
unfolding FailOn
fail_after links wires attempts before after timeout earlier starts some none on failing = on timeout earlier starts some none failing

pub none_failed_in : {T W L : Type 0} (once : Bool) (attempts : ℕ) (crew : Crew T W L) (keeper : Keeping) (round : Round) (result : Option Met) → IsMetIn once attempts crew keeper round result → IfNone result (NoneFailed attempts crew.carriers.items)
none_failed_in once attempts crew keeper round None is = is.0.none_failed
none_failed_in once attempts crew keeper round (Some met) is = tt
