-- The turns of the keeper in a round, one after another.
use Rattle.std.proofs.Common.{◌≡◌, ℕ, suc, ◌+◌, ◌<◌, Bool, true, false, List, [], ◌∷◌, ◌++◌, length, inl, inr, refl, sym, ap, subst, ◌∙◌, arith}
use Rattle.settle_box.specs.Collector.{Collector}
use Rattle.keeper.specs.declared.turn.KeeperTurn.{KeeperTurn}
use Rattle.keeper.specs.declared.turn.KeeperTurn.TheVariants.{Kept, Empty, DiskFault, NoMemory}
use Rattle.rounds.specs.KeeperTurns.{AllButLastKept, AllKept, Counts, EndStill, HasKept, IsKeeping, KeeperRan, KeeperRun, KeeperTurned, KeepsOne, KeepsSoFar, SameObjects, StoringState, begun_stored, stored_of, stored_with, storing_state}
use Rattle.rounds.specs.Words.{DiskWords}
use Rattle.rounds.specs.declared.storing.Stored.{Stored}
use Rattle.rounds.specs.declared.storing.Storing.{Storing}

all_but_last : (ts : List KeeperTurn) (t : KeeperTurn) → AllKept ts → AllButLastKept (ts ++ t ∷ [])
all_but_last [] t kept = tt
all_but_last (s ∷ []) t kept = (kept.0, tt)
all_but_last (s ∷ u ∷ us) t kept = (kept.0, all_but_last (u ∷ us) t kept.1)

all_of : (ts : List KeeperTurn) → AllKept ts → AllButLastKept ts
all_of [] kept = tt
all_of (s ∷ []) kept = tt
all_of (s ∷ u ∷ us) kept = (kept.0, all_of (u ∷ us) kept.1)

ends_still : (ts : List KeeperTurn) (t : KeeperTurn) → ¬ (IsKeeping t) → EndStill (ts ++ t ∷ [])
ends_still [] t still = still
ends_still (s ∷ []) t still = still
ends_still (s ∷ u ∷ us) t still = ends_still (u ∷ us) t still

kept_on : (ts : List KeeperTurn) (t : KeeperTurn) → AllKept ts → AllKept (t ∷ []) → AllKept (ts ++ t ∷ [])
kept_on [] t kept one = one
kept_on (s ∷ ss) t kept one = (kept.0, kept_on ss t kept.1 one)

stored_on : (stored : Stored) (ts : List KeeperTurn) (t : KeeperTurn) → stored_of stored (ts ++ t ∷ []) ≡ stored_with t (stored_of stored ts)
stored_on stored [] t = refl
stored_on stored (s ∷ ss) t = stored_on (stored_with s stored) ss t

one_longer : (ts : List KeeperTurn) (t : KeeperTurn) → length (ts ++ t ∷ []) ≡ suc (length ts)
one_longer [] t = refl
one_longer (s ∷ ss) t = ap suc (one_longer ss t)

-- ---- the keeper and its areas

pub same_by : {D : Type 0} (stored : Stored) (a b : Storing D) → b ≡ record a { stored = stored } → SameObjects a b
same_by {D} stored a b is = record { keeper = ap (λ (s : Storing D). s.keeper.ghost_name) is; a = ap (λ (s : Storing D). s.a.ghost_name) is; b = ap (λ (s : Storing D). s.b.ghost_name) is }

pub same_on : {D : Type 0} (a b c : Storing D) → SameObjects a b → SameObjects b c → SameObjects a c
same_on a b c first second = record { keeper = second.keeper ∙ first.keeper; a = second.a ∙ first.a; b = second.b ∙ first.b }

module _ {D : Type 0} (disks : DiskWords D) where
  run_on : (ts : List KeeperTurn) (t : KeeperTurn) (a b c : StoringState D) → KeeperRun disks ts a b → KeeperTurned disks t b c → KeeperRun disks (ts ++ t ∷ []) a c
  run_on [] t a b c is turned = (c, subst (λ (s : StoringState D). KeeperTurned disks t s c) is turned, refl)
  run_on (s ∷ ss) t a b c run turned = (run.0, run.1, run_on ss t run.0 b c run.2 turned)

  pub so_far_begins : (a b : Storing D) → b ≡ record a { stored = begun_stored } → a.keeper.now.store.closed ≡ false → KeepsSoFar disks 0 a b
  so_far_begins a b is opened = record {
    turns = [];
    many = refl;
    kept = tt;
    ran = ap (λ (s : Storing D). storing_state s) is;
    same_objects = same_by begun_stored a b is;
    stored = ap (λ (s : Storing D). s.stored) is;
    is_open = ap (λ (s : Storing D). s.keeper.now.store.closed) is ∙ opened;
  }

  -- a turn that kept something leaves the store open
  open_still : (t : KeeperTurn) (a b : StoringState D) → KeeperTurned disks t a b → AllKept (t ∷ []) → b.keeper.store.closed ≡ false
  open_still (Kept count) a b turned kept = turned.open_where_kept
  open_still Empty a b turned kept = absurd kept.0
  open_still DiskFault a b turned kept = absurd kept.0
  open_still NoMemory a b turned kept = absurd kept.0

  pub so_far_on : (count : ℕ) (kept : Bool) (a b c : Storing D) → KeepsSoFar disks count a b → kept ≡ true → KeepsOne disks kept b c → KeepsSoFar disks (count + 1) a c
  so_far_on count kept a b c so is one =
      let one_kept : AllKept (one.turn ∷ []) = (subst (λ (k : Bool). HasKept k one.turn) is one.kept_is, tt) in
      record {
        turns = so.turns ++ one.turn ∷ [];
        many = omega (arith, one_longer so.turns one.turn, so.many);
        kept = kept_on so.turns one.turn so.kept one_kept;
        ran = run_on so.turns one.turn (storing_state a) (storing_state b) (storing_state c) so.ran one.turned;
        same_objects = same_on a b c so.same_objects one.same_objects;
        stored = one.stored ∙ ap (stored_with one.turn) so.stored ∙ sym (stored_on begun_stored so.turns one.turn);
        is_open = open_still one.turn (storing_state b) (storing_state c) one.turned one_kept;
      }

  pub ran_on : (count : ℕ) (kept : Bool) (a b c : Storing D) → KeepsSoFar disks count a b → count < 256 → kept ≡ false → KeepsOne disks kept b c → KeeperRan disks a c
  ran_on count kept a b c so few is one = record {
    turns = so.turns ++ one.turn ∷ [];
    some = omega (arith, one_longer so.turns one.turn);
    few = omega (arith, one_longer so.turns one.turn, so.many, few);
    kept = all_but_last so.turns one.turn so.kept;
    over = inr (ends_still so.turns one.turn (subst (λ (k : Bool). HasKept k one.turn) is one.kept_is));
    ran = run_on so.turns one.turn (storing_state a) (storing_state b) (storing_state c) so.ran one.turned;
    same_objects = same_on a b c so.same_objects one.same_objects;
    stored = one.stored ∙ ap (stored_with one.turn) so.stored ∙ sym (stored_on begun_stored so.turns one.turn);
  }

  pub ran_all : (count : ℕ) (a b : Storing D) → count ≡ 256 → KeepsSoFar disks count a b → KeeperRan disks a b
  ran_all count a b is so = record {
    turns = so.turns;
    some = omega (arith, so.many, is);
    few = omega (arith, so.many, is);
    kept = all_of so.turns so.kept;
    over = inl (so.many ∙ is);
    ran = so.ran;
    same_objects = so.same_objects;
    stored = so.stored;
  }

  -- ---- what they keep

  pub pass_stays : (ts : List KeeperTurn) (a b : StoringState D) → KeeperRun disks ts a b → b.keeper.pass.desk ≡ a.keeper.pass.desk
  pass_stays [] a b is = ap (λ (s : StoringState D). s.keeper.pass.desk) is
  pass_stays (t ∷ ts) a b run = pass_stays ts run.0 b run.2 ∙ ap (λ (p : Collector). p.desk) run.1.collected.pass

  pub pass_still : (kept : Bool) (a b : Storing D) → KeepsOne disks kept a b → b.keeper.now.pass.desk ≡ a.keeper.now.pass.desk
  pass_still kept a b one = ap (λ (p : Collector). p.desk) one.turned.collected.pass

  -- a turn, and then it is counted
  pub keeps_one : (turn : KeeperTurn) (kept : Bool) (a b c : Storing D) → KeeperTurned disks turn (storing_state a) (storing_state b) → SameObjects a b → b.stored ≡ a.stored → Counts turn kept b c → KeepsOne disks kept a c
  keeps_one turn kept a b c turned areas same counts = record {
    turn = turn;
    turned = subst (λ (s : Storing D). KeeperTurned disks turn (storing_state a) (storing_state s)) (sym counts.is) turned;
    same_objects = same_on a b c areas (same_by (stored_with turn b.stored) b c counts.is);
    stored = ap (λ (s : Storing D). s.stored) counts.is ∙ ap (stored_with turn) same;
    kept_is = counts.kept_is;
  }
