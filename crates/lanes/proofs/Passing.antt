-- Turns of some of a lane's harvesters, one after another.
use Rattle.std.specs.List.{AllByRecursion}
use Rattle.std.specs.Prelude.{◌==◌, IsErrAnd, OnOk, Result, Ok, Err, slice_get, slice_set}
use Rattle.std.proofs.Common.{◌≡◌, ◌≢◌, ◌⊎◌, inl, inr, ℕ, zero, suc, ◌+◌, ◌-◌, ◌<◌, ◌≤◌, min, Bool, true, false, List, [], ◌∷◌, ◌++◌, Option, length, refl, sym, ap, subst, ◌∙◌, append_assoc, append-nil, length-append, arith}
use Rattle.std.proofs.lemmas.Bool.{cases_lt, eq-eqb, ne_eqb}
use Rattle.harvester.specs.declared.harvester.Harvester.{Harvester}
use Rattle.outside.specs.Tails.{TailHistory}
use Rattle.lanes.specs.Handing.{HandsOn, WasRefused}
use Rattle.lanes.specs.Laning.{Laning}
use Rattle.lanes.specs.Passing.{EndsSo, LaneTurns, TurnsAll, TurnsEach, TurnsOn, value_or}
use Rattle.lanes.specs.Running.{IsTurnedOrChanged}
use Rattle.lanes.specs.Step.{IsAt, IsBetween, Step, one_where, tallied, turns_of}
use Rattle.lanes.specs.Steps.{ChangedAt, Run, TurnsAt}
use Rattle.lanes.specs.declared.given.Given.{Given}
use Rattle.lanes.specs.declared.given.Given.TheVariants.{Nothing}
use Rattle.lanes.specs.declared.run.When.{When}
use Rattle.lanes.proofs.Keeping.{as_many, keeps_on, keeps_same, keeps_step, step_tally, tallied_on}

-- a result of these types
abbrev pub ok_of : (A E : Type 0) → A → Result A E
ok_of A E value = Ok value

abbrev pub err_of : (A E : Type 0) → E → Result A E
err_of A E error = Err error

all_both : {A : Type 0} (P : A → Type 0) (xs ys : List A) → AllByRecursion P xs → AllByRecursion P ys → AllByRecursion P (xs ++ ys)
all_both P [] ys one other = other
all_both P (x ∷ xs) ys one other = (one.0, all_both P xs ys one.1 other)

-- ---- how often a harvester was turned

same_is_one : (i : ℕ) → one_where (i == i) ≡ 1
same_is_one i = ap one_where (eq-eqb i i refl)

pub other_is_none : (i j : ℕ) → ((i ≡ j) → ⊥) → one_where (i == j) ≡ 0
other_is_none i j apart = ap one_where (ne_eqb i j apart)

at_most_one : (b : Bool) → one_where b ≤ 1
at_most_one true = omega arith
at_most_one false = omega arith

pub turns_on : (i : ℕ) (xs ys : List Step) → turns_of i (xs ++ ys) ≡ turns_of i xs + turns_of i ys
turns_on i [] ys = omega arith
turns_on i (x ∷ xs) ys = omega (arith, turns_on i xs ys)

-- it is none of these harvesters
IsOutside : ℕ → ℕ → ℕ → Type 0
IsOutside from to i = (i < from) ⊎ (to ≤ i)

apart_by : (i j from to : ℕ) → from ≤ j → j < to → IsOutside from to i → i ≡ j → ⊥
unfolding IsOutside
apart_by i j from to low high (inl below) same = omega (arith, same)
apart_by i j from to low high (inr above) same = omega (arith, same)

none_outside : (i from to : ℕ) (ss : List Step) → AllByRecursion (IsBetween from to) ss → IsOutside from to i → turns_of i ss ≡ 0
none_outside i from to [] all out = refl
none_outside i from to (s ∷ ss) all out =
    omega (arith, other_is_none i s.index (apart_by i s.index from to all.0.low all.0.high out), none_outside i from to ss all.1 out)

-- all of one harvester are counted
all_at : (i : ℕ) (ss : List Step) → AllByRecursion (IsBetween i (i + 1)) ss → turns_of i ss ≤ 1 → length ss ≤ 1
all_at i ss all most = omega (arith, counted i ss all, most)
  where
    counted : (i : ℕ) (ss : List Step) → AllByRecursion (IsBetween i (i + 1)) ss → turns_of i ss ≡ length ss
    counted i [] all = refl
    counted i (s ∷ ss) all = let is : s.index ≡ i = omega (arith, all.0.low, all.0.high) in omega (arith, counted i ss all.1, same_is_one i, ap (λ (n : ℕ). one_where (i == n)) is)

wider : (from to low high : ℕ) (ss : List Step) → low ≤ from → to ≤ high → AllByRecursion (IsBetween from to) ss → AllByRecursion (IsBetween low high) ss
wider from to low high [] l h all = tt
wider from to low high (s ∷ ss) l h all =
    (record { low = omega (arith, all.0.low); high = omega (arith, all.0.high) }, wider from to low high ss l h all.1)

-- ---- two ranges that do not meet

outside_second : (i a b c d : ℕ) → (b ≤ c) ⊎ (d ≤ a) → a ≤ i → i < b → IsOutside c d i
unfolding IsOutside
outside_second i a b c d (inl below) low high = inl (omega arith)
outside_second i a b c d (inr above) low high = inr (omega arith)

outside_first : (i a b c d : ℕ) → (b ≤ c) ⊎ (d ≤ a) → c ≤ i → i < d → IsOutside a b i
unfolding IsOutside
outside_first i a b c d (inl below) low high = inr (omega arith)
outside_first i a b c d (inr above) low high = inl (omega arith)

sum_apart : (i a b c d n : ℕ) (xs ys : List Step) → AllByRecursion (IsBetween a b) xs → AllByRecursion (IsBetween c d) ys → (b ≤ c) ⊎ (d ≤ a) → turns_of i xs ≤ n → turns_of i ys ≤ n
    → (i < b) ⊎ (b ≤ i) → (i < d) ⊎ (d ≤ i) → turns_of i (xs ++ ys) ≤ n
unfolding IsOutside
sum_apart i a b c d n xs ys wx wy (inl below) mx my (inl low) other = omega (arith, turns_on i xs ys, none_outside i c d ys wy (inl (omega arith)), mx)
sum_apart i a b c d n xs ys wx wy (inl below) mx my (inr high) other = omega (arith, turns_on i xs ys, none_outside i a b xs wx (inr high), my)
sum_apart i a b c d n xs ys wx wy (inr above) mx my one (inl low) = omega (arith, turns_on i xs ys, none_outside i a b xs wx (inl (omega arith)), my)
sum_apart i a b c d n xs ys wx wy (inr above) mx my one (inr high) = omega (arith, turns_on i xs ys, none_outside i c d ys wy (inr high), mx)

-- each place of a range is in one of two
abbrev pub Covers : ℕ → ℕ → ℕ → ℕ → ℕ → ℕ → Type 0
Covers a b c d from to = (i : ℕ) → from ≤ i → i < to → ((a ≤ i) × (i < b)) ⊎ ((c ≤ i) × (i < d))

pub covers_behind : (from mid to : ℕ) → Covers from mid mid to from to
covers_behind from mid to i low high = by (cases_lt i mid)
  where
    by : (i < mid) ⊎ (mid ≤ i) → ((from ≤ i) × (i < mid)) ⊎ ((mid ≤ i) × (i < to))
    by (inl lt) = inl (low, lt)
    by (inr le) = inr (le, high)

pub covers_before : (from mid to : ℕ) → Covers mid to from mid from to
covers_before from mid to i low high = by (cases_lt i mid)
  where
    by : (i < mid) ⊎ (mid ≤ i) → ((mid ≤ i) × (i < to)) ⊎ ((from ≤ i) × (i < mid))
    by (inl lt) = inr (low, lt)
    by (inr le) = inl (le, high)

pub on_any : {A E : Type 0} {P : Type 0} (result : Result A E) → P → OnOk result P
on_any (Ok value) p = p
on_any (Err error) p = tt

on_ok_both : {A E : Type 0} {P Q R : Type 0} (result : Result A E) → (P → Q → R) → OnOk result P → OnOk result Q → OnOk result R
on_ok_both (Ok value) f p q = f p q
on_ok_both (Err error) f p q = tt

-- ---- harvesters that were not turned

pub other_kept : {X : Type 0} (xs : List X) (j i : ℕ) (y : X) → ((i ≡ j) → ⊥) → slice_get (slice_set xs j y) i ≡ slice_get xs i
other_kept [] j i y apart = refl
other_kept (x ∷ xs) zero zero y apart = absurd (apart refl)
other_kept (x ∷ xs) zero (suc i) y apart = refl
other_kept (x ∷ xs) (suc j) zero y apart = refl
other_kept (x ∷ xs) (suc j) (suc i) y apart = other_kept xs j i y (λ e. apart (ap suc e))

module _ {T : Type 0} (numbers : T → Option (ℕ × ℕ)) (told : T → Option TailHistory) (faults : T → ℕ) where
  untouched : (i from to : ℕ) (ss : List Step) (xs ys : List (Harvester T)) → Run numbers told faults ss xs ys → AllByRecursion (IsBetween from to) ss → IsOutside from to i → slice_get ys i ≡ slice_get xs i
  untouched i from to [] xs ys run all out = ap (λ (l : List (Harvester T)). slice_get l i) run
  untouched i from to (s ∷ ss) xs ys run all out =
      untouched i from to ss run.0 ys run.2 all.1 out
      ∙ ap (λ (l : List (Harvester T)). slice_get l i) run.1.is
      ∙ other_kept xs s.index i run.1.after (apart_by i s.index from to all.0.low all.0.high out)

  changed_before : (i : ℕ) (xs ys : List (Harvester T)) → slice_get ys i ≡ slice_get xs i → ChangedAt i ys → ChangedAt i xs
  changed_before i xs ys same c = record { one = c.one; is = sym same ∙ c.is; changed = c.changed }

  -- ---- nothing happens, and one thing after the other

  none_turned : (when : When) (from to : ℕ) (lane : Laning T) → LaneTurns numbers told faults when from to lane lane
  unfolding keeps_same
  none_turned when from to lane = record { keeps = keeps_same numbers told faults lane; at = tt; within = tt; tally = refl }

  turned_on : (when : When) (a b c d from to : ℕ) (x y z : Laning T) → from ≤ a → b ≤ to → from ≤ c → d ≤ to
      → LaneTurns numbers told faults when a b x y → LaneTurns numbers told faults when c d y z → LaneTurns numbers told faults when from to x z
  unfolding keeps_on
  turned_on when a b c d from to x y z la lb lc ld first then = record {
    keeps = keeps_on numbers told faults x y z first.keeps then.keeps;
    at = all_both (IsAt when) first.keeps.steps then.keeps.steps first.at then.at;
    within = all_both (IsBetween from to) first.keeps.steps then.keeps.steps (wider a b from to first.keeps.steps la lb first.within) (wider c d from to then.keeps.steps lc ld then.within);
    tally = then.tally ∙ ap (λ t. tallied t then.keeps.steps) first.tally ∙ sym (tallied_on x.tally first.keeps.steps then.keeps.steps);
  }

  -- ---- of two ranges that do not meet

  each_at : (i a b c d : ℕ) (xs ys : List Step) (hs js : List (Harvester T)) → AllByRecursion (IsBetween a b) xs → AllByRecursion (IsBetween c d) ys → (b ≤ c) ⊎ (d ≤ a) → Run numbers told faults xs hs js
      → (a ≤ i → i < b → IsTurnedOrChanged i xs hs) → (c ≤ i → i < d → IsTurnedOrChanged i ys js) → ((a ≤ i) × (i < b)) ⊎ ((c ≤ i) × (i < d)) → IsTurnedOrChanged i (xs ++ ys) hs
  each_at i a b c d xs ys hs js wx wy apart run one other (inl here) =
      first_only (none_outside i c d ys wy (outside_second i a b c d apart here.0 here.1)) (one here.0 here.1)
    where
      first_only : turns_of i ys ≡ 0 → IsTurnedOrChanged i xs hs → IsTurnedOrChanged i (xs ++ ys) hs
      first_only none (inl once) = inl (omega (arith, turns_on i xs ys, none, once))
      first_only none (inr never) = inr (omega (arith, turns_on i xs ys, none, never.0), never.1)
  each_at i a b c d xs ys hs js wx wy apart run one other (inr there) =
      second_only (none_outside i a b xs wx outside) (other there.0 there.1)
    where
      outside : IsOutside a b i
      outside = outside_first i a b c d apart there.0 there.1

      second_only : turns_of i xs ≡ 0 → IsTurnedOrChanged i ys js → IsTurnedOrChanged i (xs ++ ys) hs
      second_only none (inl once) = inl (omega (arith, turns_on i xs ys, none, once))
      second_only none (inr never) = inr (omega (arith, turns_on i xs ys, none, never.0), changed_before i hs js (untouched i a b xs hs js run wx outside) never.1)

  turned_one : (when : When) (index : ℕ) (old mid new : Laning T) (gift : Given) → old.held ≡ Nothing → TurnsAt numbers told faults when index old mid gift → HandsOn gift mid new → LaneTurns numbers told faults when index (index + 1) old new
  unfolding keeps_step
  turned_one when index old mid new gift none t h = record {
    keeps = keeps_step numbers told faults when index old mid new gift none t h;
    at = (t.at, tt);
    within = (record { low = omega (arith, t.of_index); high = omega (arith, t.of_index) }, tt);
    tally = step_tally numbers told faults when index old mid new gift t h;
  }

  -- ---- what is held at the end

  none_refused : (queue box : ℕ) (lane : Laning T) → lane.held ≡ Nothing → WasRefused queue box lane.held lane.put lane.post
  none_refused queue box lane none = subst (λ (g : Given). WasRefused queue box g lane.put lane.post) (sym none) tt

  ends_on : {A E : Type 0} (queue box : ℕ) (result : Result A E) (xs ys : List Step) (lane : Laning T) → EndsSo queue box result ys lane → EndsSo queue box result (xs ++ ys) lane
  ends_on queue box (Ok value) xs ys lane e = record { none_held = e.none_held; held = tt; refused = e.refused; last = tt }
  ends_on queue box (Err error) xs ys lane e = record {
    none_held = tt;
    held = e.held;
    refused = e.refused;
    last = record { before = xs ++ e.last.before; last = e.last.last; are = ap (λ (l : List Step). xs ++ l) e.last.are ∙ sym (append_assoc xs e.last.before (e.last.last ∷ [])); gave = e.last.gave };
  }

  -- ---- each once

  module _ {A E : Type 0} (queue box : ℕ) (when : When) where
    pub each_of_none : (value : A) (from : ℕ) (lane : Laning T) → lane.held ≡ Nothing → TurnsEach numbers told faults queue box when (ok_of A E value) from from lane lane
    unfolding none_turned keeps_same
    each_of_none value from lane none = record {
      turns = none_turned when from from lane;
      most = λ i. omega arith;
      each = λ i low high. absurd (omega arith);
      ends = record { none_held = none; held = tt; refused = none_refused queue box lane none; last = tt };
    }

    pub each_of_changed : (value : A) (index : ℕ) (old new : Laning T) → old.held ≡ Nothing → new ≡ old → ChangedAt index old.harvesters → TurnsEach numbers told faults queue box when (ok_of A E value) index (index + 1) old new
    unfolding none_turned keeps_same
    each_of_changed value index old new none same changed =
        let one : TurnsEach numbers told faults queue box when (ok_of A E value) index (index + 1) old old = record {
          turns = none_turned when index (index + 1) old;
          most = λ i. omega arith;
          each = λ i low high. inr (refl, let is : index ≡ i = omega arith in subst (λ (n : ℕ). ChangedAt n old.harvesters) is changed);
          ends = record { none_held = none; held = tt; refused = none_refused queue box old none; last = tt };
        } in subst (λ (l : Laning T). TurnsEach numbers told faults queue box when (ok_of A E value) index (index + 1) old l) (sym same) one

    pub each_of_one : (value : A) (index : ℕ) (old mid new : Laning T) (gift : Given) → old.held ≡ Nothing → TurnsAt numbers told faults when index old mid gift → HandsOn gift mid new → new.held ≡ Nothing → TurnsEach numbers told faults queue box when (ok_of A E value) index (index + 1) old new
    unfolding turned_one keeps_step
    each_of_one value index old mid new gift none t h through = record {
      turns = turned_one when index old mid new gift none t h;
      most = λ i. omega (arith, at_most_one (i == t.step.index));
      each = λ i low high. inl (let is : t.step.index ≡ i = omega (arith, t.of_index) in omega (arith, same_is_one i, ap (λ (n : ℕ). one_where (i == n)) is));
      ends = record { none_held = through; held = tt; refused = none_refused queue box new through; last = tt };
    }

    pub each_of_refused : (error : E) (index : ℕ) (old mid new : Laning T) (gift : Given) → old.held ≡ Nothing → TurnsAt numbers told faults when index old mid gift → HandsOn gift mid new
        → new.held ≡ gift → gift ≢ Nothing → WasRefused queue box new.held new.put new.post → TurnsEach numbers told faults queue box when (err_of A E error) index (index + 1) old new
    unfolding turned_one keeps_step
    each_of_refused error index old mid new gift none t h held some refused = record {
      turns = turned_one when index old mid new gift none t h;
      most = λ i. omega (arith, at_most_one (i == t.step.index));
      each = tt;
      ends = record { none_held = tt; held = λ e. some (sym held ∙ e); refused = refused; last = record { before = []; last = t.step; are = refl; gave = t.gave ∙ sym held } };
    }

    pub each_then : (value : A) (result : Result A E) (a b c d from to : ℕ) (x y z : Laning T) → from ≤ a → b ≤ to → from ≤ c → d ≤ to → (b ≤ c) ⊎ (d ≤ a) → OnOk result (Covers a b c d from to)
        → TurnsEach numbers told faults queue box when (ok_of A E value) a b x y → TurnsEach numbers told faults queue box when result c d y z → TurnsEach numbers told faults queue box when result from to x z
    unfolding turned_on keeps_on
    each_then value result a b c d from to x y z la lb lc ld apart cover first then =
        let xs = first.turns.keeps.steps in
        let ys = then.turns.keeps.steps in
        let turns = turned_on when a b c d from to x y z la lb lc ld first.turns then.turns in
        record {
          turns = turns;
          most = λ i. sum_apart i a b c d 1 xs ys first.turns.within then.turns.within apart (first.most i) (then.most i) (cases_lt i b) (cases_lt i d);
          each = on_ok_both result (λ all cover i low high. each_at i a b c d xs ys x.harvesters y.harvesters first.turns.within then.turns.within apart first.turns.keeps.ran (first.each i) (all i) (cover i low high)) then.each cover;
          ends = ends_on queue box result xs ys z then.ends;
        }

    pub each_refused_as : (P : E → Type 0) (result : Result A E) → IsErrAnd result P → (error : E) (a b from to : ℕ) (x y : Laning T) → from ≤ a → b ≤ to
        → TurnsEach numbers told faults queue box when (err_of A E error) a b x y → TurnsEach numbers told faults queue box when result from to x y
    each_refused_as P (Ok value) is error a b from to x y low high t = absurd is
    each_refused_as P (Err other) is error a b from to x y low high t = record {
      turns = record { keeps = t.turns.keeps; at = t.turns.at; within = wider a b from to t.turns.keeps.steps low high t.turns.within; tally = t.turns.tally };
      most = t.most;
      each = tt;
      ends = record { none_held = tt; held = t.ends.held; refused = t.ends.refused; last = t.ends.last };
    }

    -- ---- those that go on

    pub on_of_none : (value : A) (lane : Laning T) → lane.held ≡ Nothing → TurnsOn numbers told faults queue box when (ok_of A E value) 0 lane lane
    unfolding none_turned keeps_same
    on_of_none value lane none = record {
      turns = none_turned when 0 (length lane.harvesters) lane;
      few = omega arith;
      ends = record { none_held = none; held = tt; refused = none_refused queue box lane none; last = tt };
    }

    -- one turn of one of them, or none
    pub on_of_one : (result : Result A E) (index : ℕ) (x y : Laning T) → index < length x.harvesters → TurnsEach numbers told faults queue box when result index (index + 1) x y → TurnsOn numbers told faults queue box when result 1 x y
    on_of_one result index x y within t = record {
      turns = record { keeps = t.turns.keeps; at = t.turns.at; within = wider index (index + 1) 0 (length x.harvesters) t.turns.keeps.steps (omega arith) (omega arith) t.turns.within; tally = t.turns.tally };
      few = all_at index t.turns.keeps.steps t.turns.within (t.most index);
      ends = t.ends;
    }

    pub on_at_most : (result : Result A E) (few most : ℕ) (x y : Laning T) → few ≤ most → TurnsOn numbers told faults queue box when result few x y → TurnsOn numbers told faults queue box when result most x y
    on_at_most result few most x y le t = record { turns = t.turns; few = omega (arith, t.few, le); ends = t.ends }

    -- ---- all of them

    pub all_refused_as : (P : E → Type 0) (result : Result A E) → IsErrAnd result P → (error : E) (old new : Laning T) → TurnsEach numbers told faults queue box when (err_of A E error) 0 (length old.harvesters) old new → TurnsAll numbers told faults queue box when result old new
    all_refused_as P (Ok value) is error old new t = absurd is
    all_refused_as P (Err other) is error old new t = record {
      turns = t.turns;
      first = t.turns.keeps.steps;
      more = [];
      are = sym (append-nil t.turns.keeps.steps);
      once = t.most;
      few = omega arith;
      reached = inr (refl, t.ends.held);
      ends = record { none_held = tt; held = t.ends.held; refused = t.ends.refused; last = t.ends.last };
    }

    pub all_then : (value : A) (result : Result A E) (x y z : Laning T) → TurnsEach numbers told faults queue box when (ok_of A E value) 0 (length x.harvesters) x y
        → (most : ℕ) → most ≤ 256 - min (length x.harvesters) 256 → TurnsOn numbers told faults queue box when result most y z → TurnsAll numbers told faults queue box when result x z
    unfolding turned_on keeps_on
    all_then value result x y z first most le then =
        let many = as_many numbers told faults x y first.turns.keeps in
        let len = length x.harvesters in
        record {
          turns = turned_on when 0 len 0 (length y.harvesters) 0 len x y z (omega arith) (omega arith) (omega arith) (omega (arith, many)) first.turns then.turns;
          first = first.turns.keeps.steps;
          more = then.turns.keeps.steps;
          are = refl;
          once = first.most;
          few = omega (arith, then.few, le);
          reached = inl (λ i lt. first.each i (omega arith) lt);
          ends = ends_on queue box result first.turns.keeps.steps then.turns.keeps.steps z then.ends;
        }

  -- the counts and the errors of what comes first need not be those of what comes then
  module _ {A B E F : Type 0} (queue box : ℕ) (when : When) where
    pub on_then : (value : A) (result : Result B F) (n m : ℕ) (x y z : Laning T) → TurnsOn numbers told faults queue box when (ok_of A E value) n x y → TurnsOn numbers told faults queue box when result m y z → TurnsOn numbers told faults queue box when result (n + m) x z
    unfolding turned_on keeps_on
    on_then value result n m x y z first then =
        let many = as_many numbers told faults x y first.turns.keeps in
        let len = length x.harvesters in
        record {
          turns = turned_on when 0 len 0 (length y.harvesters) 0 len x y z (omega arith) (omega arith) (omega arith) (omega (arith, many)) first.turns then.turns;
          few = omega (arith, length-append first.turns.keeps.steps then.turns.keeps.steps, first.few, then.few);
          ends = ends_on queue box result first.turns.keeps.steps then.turns.keeps.steps z then.ends;
        }

    -- another value
    pub on_as : (value : A) (other : B) (n : ℕ) (x y : Laning T) → TurnsOn numbers told faults queue box when (ok_of A E value) n x y → TurnsOn numbers told faults queue box when (ok_of B F other) n x y
    on_as value other n x y t = record { turns = t.turns; few = t.few; ends = record { none_held = t.ends.none_held; held = tt; refused = t.ends.refused; last = tt } }

    pub on_refused_as : (P : F → Type 0) (result : Result B F) → IsErrAnd result P → (error : E) (n : ℕ) (x y : Laning T) → TurnsOn numbers told faults queue box when (err_of A E error) n x y → TurnsOn numbers told faults queue box when result n x y
    on_refused_as P (Ok value) is error n x y t = absurd is
    on_refused_as P (Err other) is error n x y t = record { turns = t.turns; few = t.few; ends = record { none_held = tt; held = t.ends.held; refused = t.ends.refused; last = t.ends.last } }

  module _ {A E F : Type 0} (queue box : ℕ) (when : When) where
    -- with what a pass counts
    pub on_refused_in : (P : F → Type 0) (result : Result ℕ F) → IsErrAnd result P → (error : E) (most : ℕ) (x y : Laning T) → TurnsOn numbers told faults queue box when (err_of A E error) most x y → TurnsOn numbers told faults queue box when result (value_or result most) x y
    on_refused_in P (Ok value) is error most x y t = absurd is
    on_refused_in P (Err other) is error most x y t = record { turns = t.turns; few = t.few; ends = record { none_held = tt; held = t.ends.held; refused = t.ends.refused; last = t.ends.last } }
