-- Records that are appended one after another.
use Rattle.std.proofs.Common.{◌≡◌, inl, inr, ℕ, ◌+◌, ◌-◌, ◌<◌, ◌≤◌, List, [], ◌∷◌, ◌++◌, length, take, drop, get_or, Option, Some, Result, Ok, Err, OnErr, refl, sym, ap, ◌∙◌, subst, arith}
use Rattle.std.proofs.Math.Seq.{take-add}
use Rattle.std.proofs.lemmas.List.{length-drop, take_all, take_more}
use Rattle.outside.specs.DiskImages.{LeavesOnly, Only}
use Rattle.outside.specs.Moments.{started}
use Rattle.wire_base.specs.declared.row.Op.{Op}
use Rattle.wire_base.specs.declared.row.Row.{Row}
use Rattle.ship_core.specs.Replay.{after_op, replay_on}
use Rattle.registry_log.specs.Appending.{IsBeforeOrAfter, MayAppend, appended_bytes, gate_behind}
use Rattle.registry_log.specs.State.{IsOpened}
use Rattle.registry_store.specs.Appending.{HoldsOpened, IsOpenedWithSome}
use Rattle.registry_store.specs.Committing.{AreFewThroughout}
use Rattle.registry_store.proofs.Moments.{behind, weaker}

pub same_bytes : (a b : List ℕ) → Some a ≡ Some b → a ≡ b
same_bytes a b same = cc

pub replay_in_parts : (rows : List Row) (ops more : List Op) → replay_on rows (ops ++ more) ≡ replay_on (replay_on rows ops) more
replay_in_parts rows [] more = refl
replay_in_parts rows (op ∷ ops) more = replay_in_parts (after_op rows op) ops more

-- the operations of the next record, after those that are done
pub record IsNext (ops : List Op) (done count : ℕ) (part : List Op) : Type 0 where
  pub within : done + count ≤ length ops
  pub are : part ≡ take count (drop done ops)

pub next_part : (ops : List Op) (done count : ℕ) → done ≤ length ops → count ≤ length (take (length ops - done) (drop done ops)) → IsNext ops done count (take count (take (length ops - done) (drop done ops)))
next_part ops done count inside most =
    let left = length-drop done ops in
    let all : take (length ops - done) (drop done ops) ≡ drop done ops = take_all (length ops - done) (drop done ops) (omega (arith, left)) in
    let long : length (take (length ops - done) (drop done ops)) ≡ length ops - done = ap (λ (l : List Op). length l) all ∙ left in
    record { within = omega (arith, inside, most, long); are = ap (λ (l : List Op). take count l) all }

pub replay_further : (rows : List Row) (ops : List Op) (done count : ℕ) (part : List Op) → IsNext ops done count part → replay_on rows (take (done + count) ops) ≡ replay_on (replay_on rows (take done ops)) part
replay_further rows ops done count part next =
    ap (replay_on rows) (take-add done count ops) ∙ replay_in_parts rows (take done ops) (take count (drop done ops)) ∙ ap (replay_on (replay_on rows (take done ops))) (sym next.are)

may_append : (area : List ℕ) (generation : ℕ) (rows : List Row) (ops : List Op) (done count gate : ℕ) (part : List Op) → IsNext ops done count part → IsOpened area generation (replay_on rows (take done ops)) gate → AreFewThroughout rows ops
    → MayAppend area generation (replay_on rows (take done ops)) gate part
may_append area generation rows ops done count gate part next opened few =
    let short = few (done + count) next.within in
    let same = ap (λ (l : List Row). length l) (replay_further rows ops done count part next) in
    record { opened = opened; few = omega (arith, short, same) }

with_some : (generation : ℕ) (rows : List Row) (ops : List Op) (done count gate : ℕ) (part : List Op) (image : List ℕ) → IsNext ops done count part
    → IsBeforeOrAfter generation (replay_on rows (take done ops)) gate part image → IsOpenedWithSome generation rows ops image
with_some generation rows ops done count gate part image next (inl before) = record { count = done; end = gate; within = omega (arith, next.within); opened = before }
with_some generation rows ops done count gate part image next (inr after) = record {
  count = done + count;
  end = gate_behind gate part;
  within = next.within;
  opened = subst (λ (l : List Row). IsOpened image generation l (gate_behind gate part)) (sym (replay_further rows ops done count part next)) after;
}

module _ {D : Type 0} (contents : D → Option (List ℕ)) (images : D → List ℕ → Type 0) (moment : D → ℕ) (images_since : D → ℕ → List ℕ → Type 0) where
  -- before the first record
  pub none_appended : (disk : D) (generation : ℕ) (rows : List Row) (ops : List Op) (end : ℕ) → ((image : List ℕ) → images_since disk (moment disk) image → images disk image)
      → HoldsOpened contents images disk generation rows end → LeavesOnly moment images_since disk disk (IsOpenedWithSome generation rows ops)
  none_appended disk generation rows ops end here holds =
      started moment images_since disk (IsOpenedWithSome generation rows ops)
      (λ image left. record {
        count = 0;
        end = end;
        within = omega arith;
        opened = subst (λ (l : List ℕ). IsOpened l generation rows end) (same_bytes holds.area image (sym holds.holds ∙ holds.settled image (here image left))) holds.opened;
      })

  -- one record more
  pub one_more : (old mid new : D) (generation : ℕ) (rows : List Row) (ops : List Op) (done count gate : ℕ) (part : List Op) → IsNext ops done count part → AreFewThroughout rows ops
      → HoldsOpened contents images mid generation (replay_on rows (take done ops)) gate
      → LeavesOnly moment images_since old mid (IsOpenedWithSome generation rows ops)
      → (Only (contents mid) (images mid) → (area : List ℕ) (of : ℕ) (found : List Row) → contents mid ≡ Some area → MayAppend area of found gate part → LeavesOnly moment images_since mid new (IsBeforeOrAfter of found gate part))
      → LeavesOnly moment images_since old new (IsOpenedWithSome generation rows ops)
  one_more old mid new generation rows ops done count gate part next few holds so_far appends =
      behind moment images_since old mid new (IsOpenedWithSome generation rows ops) so_far
      (weaker moment images_since mid new (IsBeforeOrAfter generation (replay_on rows (take done ops)) gate part) (IsOpenedWithSome generation rows ops)
      (appends holds.settled holds.area generation (replay_on rows (take done ops)) holds.holds (may_append holds.area generation rows ops done count gate part next holds.opened few))
      (λ image is. with_some generation rows ops done count gate part image next is))

  pub holds_more : (mid new : D) (generation : ℕ) (rows : List Row) (ops : List Op) (done count gate next_gate : ℕ) (part : List Op) → IsNext ops done count part → AreFewThroughout rows ops
      → HoldsOpened contents images mid generation (replay_on rows (take done ops)) gate
      → ((area : List ℕ) (of : ℕ) (found : List Row) → contents mid ≡ Some area → MayAppend area of found gate part → contents new ≡ Some (appended_bytes area gate part))
      → ((area : List ℕ) (of : ℕ) (found : List Row) → MayAppend area of found gate part → IsOpened (appended_bytes area gate part) of (replay_on found part) next_gate)
      → Only (contents new) (images new)
      → HoldsOpened contents images new generation (replay_on rows (take (done + count) ops)) next_gate
  holds_more mid new generation rows ops done count gate next_gate part next few holds writes opens settled =
      let may = may_append holds.area generation rows ops done count gate part next holds.opened few in
      record {
        area = appended_bytes holds.area gate part;
        holds = writes holds.area generation (replay_on rows (take done ops)) holds.holds may;
        settled = settled;
        opened = subst (λ (l : List Row). IsOpened (appended_bytes holds.area gate part) generation l next_gate) (sym (replay_further rows ops done count part next))
            (opens holds.area generation (replay_on rows (take done ops)) may);
      }

pub applied_more : (rows : List Row) (ops : List Op) (count : ℕ) (op : Op) → count < length ops → op ≡ get_or ops count op → replay_on rows (take (count + 1) ops) ≡ after_op (replay_on rows (take count ops)) op
applied_more rows ops count op within is =
    ap (replay_on rows) (take_more ops count op within ∙ ap (λ (o : Op). take count ops ++ o ∷ []) (sym is)) ∙ replay_in_parts rows (take count ops) (op ∷ [])

pub some_refused : {T E : Type 0} (r : Result T E) (P : Type 0) → P → OnErr r P
some_refused (Ok t) P holds = tt
some_refused (Err e) P holds = holds
