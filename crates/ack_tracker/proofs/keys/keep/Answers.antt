use Rattle.std.proofs.Common.{ℕ, List, Contains, Some, IsSome, sym, ap, subst}
use Rattle.std.specs.BTreeMap.{BTreeMap}
use Rattle.ack_tracker.specs.Keys.{KeepsRows, KeepsSlots, noted_of, row_before, slots_of}
use Rattle.ack_tracker.specs.declared.keyed.Keyed.{Keyed}
use Rattle.ack_tracker.proofs.AtKey.{sets_written}
use Rattle.ack_tracker.proofs.ByKey.{keeps_own, keeps_rows, noted_here, on_ok, row_of, slots_there, with_row}
use Rattle.ack_tracker.proofs.keys.keep.Goals as goal

-- ---- a key that is there

pub returns-in-Some-clause-keeps : goal.returns-in-Some-clause-keeps
returns-in-Some-clause-keeps c =
    let old = c.args.by_key.now in
    let after = c.keep.new.self in
    let was = c.in-Some.keyed.now in
    let there = sym c.in-Some.ensures.value in
    let written = c.get_mut.follows.holds after in
    keeps_rows old (c.get_mut.follows.lender after) c.args.key.now after c.are_in_order.ensures written.4 (sets_written old (c.get_mut.follows.lender after) c.args.key.now was after there written)
    (Some was) there (row_before c.args.opening.now c.args.files.now.entries (slots_of old.entries)) c.requires
    (with_row after (Some was) _ _ (row_of c.args.opening.now c.args.files.now.entries old.entries c.args.key.now (Some was) there) c.keep.ensures.keeps)

pub returns-in-Some-clause-keeps_slots : goal.returns-in-Some-clause-keeps_slots
returns-in-Some-clause-keeps_slots c =
    let old = c.args.by_key.now in
    let after = c.keep.new.self in
    let was = c.in-Some.keyed.now in
    let there = sym c.in-Some.ensures.value in
    let written = c.get_mut.follows.holds after in
    keeps_own old (c.get_mut.follows.lender after) c.args.key.now after c.are_in_order.ensures written.4 (sets_written old (c.get_mut.follows.lender after) c.args.key.now was after there written)
    (Some was) there c.keep.ensures.slots_stay

pub returns-in-Some-clause-noted : goal.returns-in-Some-clause-noted
returns-in-Some-clause-noted c =
    let old = c.args.by_key.now in
    let after = c.keep.new.self in
    let written = c.get_mut.follows.holds after in
    on_ok c.keep.result (λ some. subst IsSome (sym (noted_here old (c.get_mut.follows.lender after) c.args.key.now after c.are_in_order.ensures written.4 (sets_written old (c.get_mut.follows.lender after) c.args.key.now c.in-Some.keyed.now after (sym c.in-Some.ensures.value) written))) some) c.keep.ensures.noted

pub returns-in-Some-clause-given : goal.returns-in-Some-clause-given
returns-in-Some-clause-given c =
    let old = c.args.by_key.now in
    let after = c.keep.new.self in
    let written = c.get_mut.follows.holds after in
    on_ok c.keep.result (λ given slot is. subst (λ (l : List ℕ). Contains l slot) (sym (slots_there old (c.get_mut.follows.lender after) c.args.key.now after c.are_in_order.ensures written.4 (sets_written old (c.get_mut.follows.lender after) c.args.key.now c.in-Some.keyed.now after (sym c.in-Some.ensures.value) written))) (given slot is)) c.keep.ensures.given

-- ---- a key that is new

pub returns-in-None-clause-keeps : goal.returns-in-None-clause-keeps
returns-in-None-clause-keeps c =
    subst (λ (e : List (List ℕ × Keyed)). KeepsRows (noted_of e) (noted_of c.keep_new.new.by_key.entries) (row_before c.args.opening.now c.args.files.now.entries (slots_of e))) (ap (λ (m : BTreeMap (List ℕ) Keyed). m.entries) c.get_mut.follows.holds-at-none) c.keep_new.ensures.keeps

pub returns-in-None-clause-keeps_slots : goal.returns-in-None-clause-keeps_slots
returns-in-None-clause-keeps_slots c =
    subst (λ (e : List (List ℕ × Keyed)). KeepsSlots (slots_of e) (slots_of c.keep_new.new.by_key.entries)) (ap (λ (m : BTreeMap (List ℕ) Keyed). m.entries) c.get_mut.follows.holds-at-none) c.keep_new.ensures.keeps_slots
