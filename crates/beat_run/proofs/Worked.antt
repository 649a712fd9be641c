-- A peer acknowledged the one payload of a window, and the link stood idle behind it before it was finished: the peer serves where the
-- clock gave no two moments that lie the timeout of 30 seconds apart. Where the link did not stand idle, it serves whatever the clock gave.
-- A moment that the clock had given long before counts only where it may have been given again.
use Rattle.std.proofs.Common.{◌≡◌, ◌⊎◌, inl, inr, ℕ, zero, suc, ◌≤◌, Bool, true, false, List, [], ◌∷◌, ◌++◌, length, length-append, Some, None, lit<, refl, sym, ap, subst, ◌∙◌, arith}
use Rattle.std.specs.Prelude.{slice_get}
use Rattle.std.specs.List.{AllByRecursion}
use Rattle.batch_worker.specs.Seen.{Seen, seen}
use Rattle.lumber_frame.specs.PeerFault.{HasPeerFault}
use Rattle.lumber_frame.specs.Settled.{ack_bytes}
use Rattle.lumber_frame.specs.Talk.{out_bytes}
use Rattle.lumber_frame.specs.Window.{AreWindows, window_bytes}
use Rattle.lumber_frame.proofs.Faults.{no_fault, none_begins}
use Rattle.lumber_frame.proofs.Settling.{none_in_nothing}
use Rattle.outside.specs.Counts.{Rose}
use Rattle.outside.specs.Times.{EndsWith}
use Rattle.outside.specs.Wires.{Finished}
use Rattle.run_steps.specs.AccountedFor.{AreMomentsSince}
use Rattle.told_events.specs.Licence.{LieApart}
use Rattle.wire_base.specs.declared.talk.Piece.{Piece}
use Rattle.wire_base.specs.declared.talk.Piece.TheVariants.{Out, In}
use Rattle.beat_run.specs.Cause.{MayHaveGiven, Signs}
use Rattle.beat_run.specs.Completeness.{EachSince, IsNotIdle, IsServed, OfEachWire, PeersServe}

abbrev window : List (List ℕ)
window = (0x61 ∷ []) ∷ []

abbrev talk : List Piece
talk = Out (window_bytes window) ∷ In (ack_bytes (1 ∷ [])) ∷ []

is_sent : AreWindows (out_bytes talk) (window ∷ [])
is_sent = record { each = (record { some = lit< tt; few = lit< tt; each = (omega arith, tt) }, tt); rest = []; whole = refl; cut = none_in_nothing }

no_peer_fault : HasPeerFault talk → ⊥
no_peer_fault = no_fault talk (window ∷ []) (1 ∷ []) [] is_sent refl (lit< tt, tt) refl refl none_begins

never_rose : Rose 0 0 → ⊥
never_rose (inl rose) = omega (arith, rose)
never_rose (inr at_end) = omega (arith, at_end)

-- one wire, before the run and behind it
abbrev before : Signs
before = record {
  folder = Some (record { files = []; events = [] });
  moments = Some [];
  questions = record { clock = 0; bell = 0; given = 0 };
  wires = seen (Some []) 0 0 0 ∷ [];
  counts = record { a_faults = 0; b_faults = 0; folder_faults = 0; rings = 0 };
}

abbrev behind : Bool → ℕ → Signs
behind idled later = record before {
  moments = Some (0 ∷ later ∷ []);
  questions = record { clock = 2; bell = 1; given = 2 };
  wires = seen (Some (Finished (record { pieces = talk; idled = idled }) 0 3 ∷ [])) 0 0 3 ∷ [];
}

-- what is so of the one wire is so of each
of_the_one : (P : Seen → Seen → Type 0) (old new : Seen) (place : ℕ) (one other : Seen) → P old new → slice_get (old ∷ []) place ≡ Some one → slice_get (new ∷ []) place ≡ Some other → P one other
of_the_one P old new zero one other so is also =
    let same : old ≡ one = cc in
    let too : new ≡ other = cc in
    subst (λ (s : Seen). P one s) too (subst (λ (s : Seen). P s new) same so)
of_the_one P old new (suc place) one other so is also = absurd cc

at_place : (P : ℕ → Type 0) (front back : List ℕ) (x : ℕ) → AllByRecursion P (front ++ x ∷ back) → P x
at_place P [] back x all = all.0
at_place P (y ∷ front) back x all = at_place P front back x all.1

past : (P : ℕ → Type 0) (front back : List ℕ) → AllByRecursion P (front ++ back) → AllByRecursion P back
past P [] back all = all
past P (y ∷ front) back all = past P front back all.1

not_apart : LieApart (0 ∷ 29_999 ∷ []) 30_000 → ⊥
not_apart lie =
    let all = subst (AllByRecursion (λ moment. moment ≤ 29_999)) lie.are (omega arith, (omega arith, tt)) in
    let rest = past (λ moment. moment ≤ 29_999) lie.before (lie.earlier ∷ (lie.between ++ lie.later ∷ lie.behind)) all in
    let last = at_place (λ moment. moment ≤ 29_999) lie.between lie.behind lie.later rest.1 in
    omega (arith, last, lie.apart)

-- the clock had given nothing before the run
not_apart_given : (moments : List ℕ) → AreMomentsSince (Some []) (Some (0 ∷ 29_999 ∷ [])) moments → LieApart moments 30_000 → ⊥
not_apart_given moments (inl none) lie = let q : 0 ∷ 29_999 ∷ [] ≡ [] = none.1 in cc
not_apart_given moments (inr since) lie = by_first since.first_is
  where
    by_first : (EndsWith [] since.first × (0 ∷ 29_999 ∷ [] ≡ since.later)) ⊎ ((¬ (EndsWith [] since.first)) × (0 ∷ 29_999 ∷ [] ≡ since.first ∷ since.later)) → ⊥
    by_first (inl found) = let q : None ≡ Some since.first = found.0 in cc
    by_first (inr appended) = not_apart (subst (λ (l : List ℕ). LieApart l 30_000) (since.moments_are ∙ sym appended.1) lie)

idle_for_a_while : PeersServe 30_000 before (behind true 29_999)
idle_for_a_while = record {
  wires = λ place old new is also. of_the_one (λ one other. ¬ (Rose one.faults other.faults)) _ _ place old new never_rose is also;
  served = λ place old new is also. of_the_one (EachSince IsServed) _ _ place old new ((never_rose, no_peer_fault), tt) is also;
  clock_told = refl;
  clock_tells = refl;
  in_time = inr (λ moments given. not_apart_given moments given.since);
}

never_idle : PeersServe 30_000 before (behind false 60_000)
never_idle = record {
  wires = λ place old new is also. of_the_one (λ one other. ¬ (Rose one.faults other.faults)) _ _ place old new never_rose is also;
  served = λ place old new is also. of_the_one (EachSince IsServed) _ _ place old new ((never_rose, no_peer_fault), tt) is also;
  clock_told = refl;
  clock_tells = refl;
  in_time = inl (λ place old new is also. of_the_one (EachSince IsNotIdle) _ _ place old new (refl, tt) is also);
}

-- ---- a clock that was asked long before

abbrev long_before : Signs
long_before = record before { moments = Some (0 ∷ []); questions = record { clock = 1; bell = 0; given = 1 } }

-- and so often by the end of the run, to which it gave one moment or two
abbrev much_later : ℕ → Signs
much_later asked = record (behind true 60_000) { questions = record { clock = asked; bell = 1; given = 2 } }

-- no two of the moments that were asked for in the run lie apart, where it was asked once
few_lie : (moments : List ℕ) → LieApart moments 30_000 → 2 ≤ length moments
few_lie moments lie =
    let long = ap length lie.are in
    let front = length-append lie.before (lie.earlier ∷ (lie.between ++ lie.later ∷ lie.behind)) in
    let back = length-append lie.between (lie.later ∷ lie.behind) in
    omega (arith, long, front, back)

asked_once : PeersServe 30_000 long_before (much_later 2)
asked_once = record {
  wires = λ place old new is also. of_the_one (λ one other. ¬ (Rose one.faults other.faults)) _ _ place old new never_rose is also;
  served = λ place old new is also. of_the_one (EachSince IsServed) _ _ place old new ((never_rose, no_peer_fault), tt) is also;
  clock_told = refl;
  clock_tells = refl;
  in_time = inr (λ moments given lie. let few = given.asked (lit< tt) in let many = few_lie moments lie in omega (arith, few, many));
}

-- asked twice it may have given the moment before again, so that the peer is not known to serve
both_may_be_given : MayHaveGiven long_before (much_later 3) (0 ∷ 60_000 ∷ [])
both_may_be_given = record {
  since = inr (record { first = 0; later = 60_000 ∷ []; moments_are = refl; first_is = inl (refl, refl) });
  asked = λ few. omega arith;
}

asked_twice : PeersServe 30_000 long_before (much_later 3) → ⊥
asked_twice serves = by_time serves.in_time
  where
    by_time : OfEachWire (EachSince IsNotIdle) long_before (much_later 3) ⊎ ((moments : List ℕ) → MayHaveGiven long_before (much_later 3) moments → ¬ (LieApart moments 30_000)) → ⊥
    by_time (inl not_idle) = let idle : true ≡ false = (not_idle 0 _ _ refl refl).0 in cc
    by_time (inr never) = never (0 ∷ 60_000 ∷ []) both_may_be_given (record { before = []; earlier = 0; between = []; later = 60_000; behind = []; are = refl; apart = omega arith })
