-- The turns of a worker in a round, one after another.
use Rattle.std.proofs.Common.{true, false, ◌≡◌, ℕ, suc, ◌+◌, ◌<◌, Bool, List, [], ◌∷◌, ◌++◌, Option, Some, None, length, inl, inr, refl, sym, ap, subst, ◌∙◌, arith}
use Rattle.atomic_table.specs.Seated.{TableId}
use Rattle.batch_worker.specs.Keeping.{WorkerKeeps, with_posted, with_taken}
use Rattle.batch_worker.specs.Steps.{PostsOf, TakesOf}
use Rattle.mem_queue.specs.Known.{Known}
use Rattle.mem_queue.specs.declared.entry.Entry.{Entry}
use Rattle.settle_box.specs.Poster.{Poster}
use Rattle.wire_base.specs.declared.note.Note.{Note}
use Rattle.batch_worker.specs.Seen.{Seen}
use Rattle.batch_worker.specs.Working.{Working}
use Rattle.batch_worker.specs.declared.answer.WorkerTurn.{WorkerTurn}
use Rattle.batch_worker.specs.declared.answer.WorkerTurn.TheVariants.{Worked, Idle, Held, NotYet, Resting, Failed}
use Rattle.batch_worker.proofs.Keeping.{keeps_on, keeps_same}
use Rattle.batch_worker.specs.Standing.{StandsFor}
use Rattle.wire_base.specs.declared.numbers.Moment.{Moment}
use Rattle.rounds.specs.CarrierTurns.{AllButLastWorked, AllWorked, CarrierRun, CarrierState, CarrierTurned, Carries, CarriesSoFar, EndStill, HasWorked, IsWork, MakesOne, begun_carried, carried_of, carried_with, carrier_state, seen_of}
use Rattle.rounds.specs.Words.{LinkWords, WireWords}
use Rattle.rounds.specs.declared.carrier.Carried.{Carried}
use Rattle.rounds.specs.declared.carrier.Carrier.{Carrier}

all_but_last : (ts : List WorkerTurn) (t : WorkerTurn) → AllWorked ts → AllButLastWorked (ts ++ t ∷ [])
all_but_last [] t work = tt
all_but_last (s ∷ []) t work = (work.0, tt)
all_but_last (s ∷ u ∷ us) t work = (work.0, all_but_last (u ∷ us) t work.1)

all_of : (ts : List WorkerTurn) → AllWorked ts → AllButLastWorked ts
all_of [] work = tt
all_of (s ∷ []) work = tt
all_of (s ∷ u ∷ us) work = (work.0, all_of (u ∷ us) work.1)

ends_still : (ts : List WorkerTurn) (t : WorkerTurn) → ¬ (IsWork t) → EndStill (ts ++ t ∷ [])
ends_still [] t still = still
ends_still (s ∷ []) t still = still
ends_still (s ∷ u ∷ us) t still = ends_still (u ∷ us) t still

worked_on : (ts : List WorkerTurn) (t : WorkerTurn) → AllWorked ts → AllWorked (t ∷ []) → AllWorked (ts ++ t ∷ [])
worked_on [] t work one = one
worked_on (s ∷ ss) t work one = (work.0, worked_on ss t work.1 one)

carried_on : (carried : Carried) (ts : List WorkerTurn) (t : WorkerTurn) → carried_of carried (ts ++ t ∷ []) ≡ carried_with t (carried_of carried ts)
carried_on carried [] t = refl
carried_on carried (s ∷ ss) t = carried_on (carried_with s carried) ss t

one_longer : (ts : List WorkerTurn) (t : WorkerTurn) → length (ts ++ t ∷ []) ≡ suc (length ts)
one_longer [] t = refl
one_longer (s ∷ ss) t = ap suc (one_longer ss t)

takes_still : (q : TableId) (take new : Option Known) (taken : List Entry) → new ≡ with_taken take taken → TakesOf q take → TakesOf q new
takes_still q None new taken is of = absurd of
takes_still q (Some k) new taken is of = subst (TakesOf q) (sym is) of

posts_still : (b : TableId) (post new : Option Poster) (posted : List Note) → new ≡ with_posted post posted → PostsOf b post → PostsOf b new
posts_still b None new posted is of = absurd of
posts_still b (Some p) new posted is of = subst (PostsOf b) (sym is) of

module _ {W L : Type 0} (links : LinkWords L) (wires : WireWords W) (box : ℕ) (now : Moment) where
  run_on : (ts : List WorkerTurn) (t : WorkerTurn) (a b c : CarrierState W L) → CarrierRun links wires box now ts a b → CarrierTurned links wires box now t b c → CarrierRun links wires box now (ts ++ t ∷ []) a c
  run_on [] t a b c is turned = (c, subst (λ (s : CarrierState W L). CarrierTurned links wires box now t s c) is turned, refl)
  run_on (s ∷ ss) t a b c run turned = (run.0, run.1, run_on ss t run.0 b c run.2 turned)

  pub so_far_begins : (a b : Carrier W L) → b ≡ record a { carried = begun_carried } → CarriesSoFar links wires box now 0 a b
  so_far_begins a b is = record {
    turns = [];
    many = refl;
    work = tt;
    ran = ap (λ (c : Carrier W L). carrier_state c) is;
    carried = ap (λ (c : Carrier W L). c.carried) is;
  }

  pub so_far_on : (count : ℕ) (worked : Bool) (a b c : Carrier W L) → CarriesSoFar links wires box now count a b → worked ≡ true → MakesOne links wires box now worked b c → CarriesSoFar links wires box now (count + 1) a c
  so_far_on count worked a b c so is one = record {
    turns = so.turns ++ one.turn ∷ [];
    many = omega (arith, one_longer so.turns one.turn, so.many);
    work = worked_on so.turns one.turn so.work (subst (λ (w : Bool). HasWorked w one.turn) is one.worked_is, tt);
    ran = run_on so.turns one.turn (carrier_state a) (carrier_state b) (carrier_state c) so.ran one.turned;
    carried = one.carried ∙ ap (carried_with one.turn) so.carried ∙ sym (carried_on begun_carried so.turns one.turn);
  }

  pub carries_on : (count : ℕ) (worked : Bool) (a b c : Carrier W L) → CarriesSoFar links wires box now count a b → count < 256 → worked ≡ false → MakesOne links wires box now worked b c → Carries links wires box now a c
  carries_on count worked a b c so few is one = record {
    turns = so.turns ++ one.turn ∷ [];
    some = omega (arith, one_longer so.turns one.turn);
    few = omega (arith, one_longer so.turns one.turn, so.many, few);
    work = all_but_last so.turns one.turn so.work;
    over = inr (ends_still so.turns one.turn (subst (λ (w : Bool). HasWorked w one.turn) is one.worked_is));
    ran = run_on so.turns one.turn (carrier_state a) (carrier_state b) (carrier_state c) so.ran one.turned;
    carried = one.carried ∙ ap (carried_with one.turn) so.carried ∙ sym (carried_on begun_carried so.turns one.turn);
  }

  pub carries_all : (count : ℕ) (a b : Carrier W L) → count ≡ 256 → CarriesSoFar links wires box now count a b → Carries links wires box now a b
  carries_all count a b is so = record {
    turns = so.turns;
    some = omega (arith, so.many, is);
    few = omega (arith, so.many, is);
    work = all_of so.turns so.work;
    over = inl (so.many ∙ is);
    ran = so.ran;
    carried = so.carried;
  }

  -- ---- what they keep

  StateKeeps : CarrierState W L → CarrierState W L → Type 0
  StateKeeps old new = WorkerKeeps links.told (seen_of wires old.wire) (seen_of wires new.wire) old.worker new.worker

  same_keeps : (a b : Seen) (x y : Working L) → y ≡ x → b ≡ a → WorkerKeeps links.told a b x y
  same_keeps a b x y same wire =
      subst (λ (s : Seen). WorkerKeeps links.told a s x y) (sym wire)
      (subst (λ (w : Working L). WorkerKeeps links.told a a x w) (sym same) (keeps_same (λ start. StandsFor links.told start x a.outcomes) a x))

  turn_keeps : (t : WorkerTurn) (old new : CarrierState W L) → CarrierTurned links wires box now t old new → StateKeeps old new
  unfolding StateKeeps
  turn_keeps Worked old new turned = turned.answers.goes.keeps
  turn_keeps Idle old new turned = same_keeps (seen_of wires old.wire) (seen_of wires new.wire) old.worker new.worker turned.answers.same turned.answers.wire
  turn_keeps Held old new turned = turned.answers.goes.keeps
  turn_keeps NotYet old new turned = turned.answers.goes.keeps
  turn_keeps (Resting until) old new turned = same_keeps (seen_of wires old.wire) (seen_of wires new.wire) old.worker new.worker turned.answers.same turned.answers.wire
  turn_keeps (Failed failure) old new turned = turned.answers.fails.keeps

  run_keeps : (ts : List WorkerTurn) (old new : CarrierState W L) → CarrierRun links wires box now ts old new → StateKeeps old new
  unfolding StateKeeps
  run_keeps [] old new is = subst (λ (s : CarrierState W L). WorkerKeeps links.told (seen_of wires old.wire) (seen_of wires s.wire) old.worker s.worker) (sym is)
      (keeps_same (λ start. StandsFor links.told start old.worker (wires.outcomes old.wire)) (seen_of wires old.wire) old.worker)
  run_keeps (t ∷ ts) old new run =
      keeps_on (λ start. StandsFor links.told start old.worker (wires.outcomes old.wire)) (λ start. StandsFor links.told start run.0.worker (wires.outcomes run.0.wire)) (λ start. StandsFor links.told start new.worker (wires.outcomes new.wire))
      (seen_of wires old.wire) (seen_of wires run.0.wire) (seen_of wires new.wire) old.worker run.0.worker new.worker
      (turn_keeps t old run.0 run.1) (run_keeps ts run.0 new run.2)

  pub carrier_keeps : (old new : Carrier W L) → Carries links wires box now old new → WorkerKeeps links.told (seen_of wires old.wire) (seen_of wires new.wire) old.worker new.worker
  unfolding StateKeeps
  carrier_keeps old new carries = run_keeps carries.turns (carrier_state old) (carrier_state new) carries.ran

  -- ---- passes stay where they are

  pub takes_stay : (q : TableId) (worked : Bool) (a b : Carrier W L) → MakesOne links wires box now worked a b → TakesOf q a.worker.take → TakesOf q b.worker.take
  unfolding StateKeeps
  takes_stay q worked a b one of = takes_still q a.worker.take b.worker.take (turn_keeps one.turn (carrier_state a) (carrier_state b) one.turned).taken (turn_keeps one.turn (carrier_state a) (carrier_state b) one.turned).take of

  pub posts_stay : (desk : TableId) (worked : Bool) (a b : Carrier W L) → MakesOne links wires box now worked a b → PostsOf desk a.worker.post → PostsOf desk b.worker.post
  unfolding StateKeeps
  posts_stay desk worked a b one of = posts_still desk a.worker.post b.worker.post (turn_keeps one.turn (carrier_state a) (carrier_state b) one.turned).posted (turn_keeps one.turn (carrier_state a) (carrier_state b) one.turned).post of
