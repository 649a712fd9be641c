-- Tails that are closed in a row: none, more of one lane, and those of several lanes.
use Rattle.std.proofs.Common.{◌≡◌, ℕ, ◌||◌, Bool, true, false, List, [], ◌∷◌, ◌++◌, refl, ap, subst, ◌∙◌, append_assoc}
use Rattle.std.specs.Option.{is_some}
use Rattle.harvester.specs.declared.harvester.Harvester.{Harvester}
use Rattle.lanes.specs.Laning.{Laning, ReleasesAt}
use Rattle.rounds.specs.Words.{TailWords}
use Rattle.run_steps.specs.ClosesTail.{ClosesFailed, ClosesSome, ClosesTail, ClosesTails, Readers}
use Rattle.run_steps.specs.FolderSeen.{Closes, FolderSeen}
use Rattle.run_steps.specs.LastEpoch.{IsInEpoch}

abbrev at : {T : Type 0} → FolderSeen → List (Laning T) → Readers T
at folder lanes = record { folder = folder; lanes = lanes }

module _ {T : Type 0} (tails : TailWords T) where
  -- ---- one

  -- of a lane alone
  pub closes_at : (seat : ℕ) (one : Harvester T) (lane after : Laning T) (old new : FolderSeen) → ReleasesAt seat lane after one → Closes tails one.tail old new → IsInEpoch tails one →
      ClosesTail tails one (at old (lane ∷ [])) (at new (after ∷ []))
  closes_at seat one lane after old new released closes in_epoch = record {
    lets_go = record { front = []; lane = lane; back = []; were = refl; after = after; seat = seat; released = released; are = refl };
    closes = closes;
    in_epoch = in_epoch;
  }

  beside_one : (front : Laning T) (one : Harvester T) (old new : Readers T) → ClosesTail tails one old new → ClosesTail tails one (at old.folder (front ∷ old.lanes)) (at new.folder (front ∷ new.lanes))
  beside_one front one old new closes =
      let go = closes.lets_go in
      record {
        lets_go = record {
          front = front ∷ go.front;
          lane = go.lane;
          back = go.back;
          were = ap (λ (l : List (Laning T)). front ∷ l) go.were;
          after = go.after;
          seat = go.seat;
          released = go.released;
          are = ap (λ (l : List (Laning T)). front ∷ l) go.are;
        };
        closes = closes.closes;
        in_epoch = closes.in_epoch;
      }

  before_one : (back : List (Laning T)) (one : Harvester T) (old new : Readers T) → ClosesTail tails one old new → ClosesTail tails one (at old.folder (old.lanes ++ back)) (at new.folder (new.lanes ++ back))
  before_one back one old new closes =
      let go = closes.lets_go in
      record {
        lets_go = record {
          front = go.front;
          lane = go.lane;
          back = go.back ++ back;
          were = ap (λ (l : List (Laning T)). l ++ back) go.were ∙ append_assoc go.front (go.lane ∷ go.back) back;
          after = go.after;
          seat = go.seat;
          released = go.released;
          are = ap (λ (l : List (Laning T)). l ++ back) go.are ∙ append_assoc go.front (go.after ∷ go.back) back;
        };
        closes = closes.closes;
        in_epoch = closes.in_epoch;
      }

  -- ---- some

  beside_each : (front : Laning T) (closed : List (Harvester T)) (old new : Readers T) → ClosesTails tails closed old new → ClosesTails tails closed (at old.folder (front ∷ old.lanes)) (at new.folder (front ∷ new.lanes))
  beside_each front [] old new same = ap (λ (r : Readers T). at r.folder (front ∷ r.lanes)) same
  beside_each front (one ∷ more) old new closes =
      (at closes.0.folder (front ∷ closes.0.lanes), beside_one front one old closes.0 closes.1, beside_each front more closes.0 new closes.2)

  before_each : (back : List (Laning T)) (closed : List (Harvester T)) (old new : Readers T) → ClosesTails tails closed old new → ClosesTails tails closed (at old.folder (old.lanes ++ back)) (at new.folder (new.lanes ++ back))
  before_each back [] old new same = ap (λ (r : Readers T). at r.folder (r.lanes ++ back)) same
  before_each back (one ∷ more) old new closes =
      (at closes.0.folder (closes.0.lanes ++ back), before_one back one old closes.0 closes.1, before_each back more closes.0 new closes.2)

  both_each : (first then : List (Harvester T)) (old mid new : Readers T) → ClosesTails tails first old mid → ClosesTails tails then mid new → ClosesTails tails (first ++ then) old new
  both_each [] then old mid new same closes = subst (λ (r : Readers T). ClosesTails tails then r new) same closes
  both_each (one ∷ more) then old mid new closes others = (closes.0, closes.1, both_each more then closes.0 mid new closes.2 others)

  pub closes_none : (now : Readers T) → ClosesSome tails now now
  closes_none now = record { closed = []; each = refl }

  pub closes_by_one : (old new : Readers T) (one : Harvester T) → ClosesTail tails one old new → ClosesSome tails old new
  closes_by_one old new one closes = record { closed = one ∷ []; each = (new, closes, refl) }

  pub closes_by_two : (old mid new : Readers T) → ClosesSome tails old mid → ClosesSome tails mid new → ClosesSome tails old new
  closes_by_two old mid new first then = record { closed = first.closed ++ then.closed; each = both_each first.closed then.closed old mid new first.each then.each }

  -- of a lane, and then of the others
  pub closes_lanes : (lane after : Laning T) (lanes others : List (Laning T)) (old mid new : FolderSeen) → ClosesSome tails (at old (lane ∷ [])) (at mid (after ∷ [])) → ClosesSome tails (at mid lanes) (at new others) →
      ClosesSome tails (at old (lane ∷ lanes)) (at new (after ∷ others))
  closes_lanes lane after lanes others old mid new first then =
      closes_by_two (at old (lane ∷ lanes)) (at mid (after ∷ lanes)) (at new (after ∷ others))
      (record { closed = first.closed; each = before_each lanes first.closed (at old (lane ∷ [])) (at mid (after ∷ [])) first.each })
      (record { closed = then.closed; each = beside_each after then.closed (at mid lanes) (at new others) then.each })

  -- ---- those that failed

  pub none_failed : (folder : FolderSeen) → ClosesFailed tails false (at folder []) (at folder [])
  none_failed folder = record { closes = closes_none (at folder []); lets_go = tt; failed_is = refl; none = λ is. refl }

  pub failed_lanes : (here later : Bool) (lane after : Laning T) (lanes others : List (Laning T)) (old mid new : FolderSeen) → ClosesFailed tails here (at old (lane ∷ [])) (at mid (after ∷ [])) →
      ClosesFailed tails later (at mid lanes) (at new others) → ClosesFailed tails (here || later) (at old (lane ∷ lanes)) (at new (after ∷ others))
  failed_lanes here later lane after lanes others old mid new first then = record {
    closes = closes_lanes lane after lanes others old mid new first.closes then.closes;
    lets_go = (first.lets_go.0, then.lets_go);
    failed_is = (λ k. (first.failed_is ∙ or_none (is_some lane.tally.failed)) k || then.failed_is k);
    none = none here later first.none then.none;
  }
    where
      or_none : (one : Bool) → (one || false) ≡ one
      or_none true = refl
      or_none false = refl

      none : (one other : Bool) → (one ≡ false → at mid (after ∷ []) ≡ at old (lane ∷ [])) → (other ≡ false → at new others ≡ at mid lanes) → (one || other) ≡ false →
          at new (after ∷ others) ≡ at old (lane ∷ lanes)
      none true other its theirs is = absurd (let no : true ≡ false = is in cc)
      none false other its theirs is =
          let first_same = its refl in
          let then_same = theirs is in
          ap (λ (r : Readers T). at r.folder (after ∷ r.lanes)) then_same ∙ ap (λ (r : Readers T). at r.folder (r.lanes ++ lanes)) first_same
