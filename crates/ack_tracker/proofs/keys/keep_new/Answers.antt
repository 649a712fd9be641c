use Rattle.std.proofs.Common.{◌≡◌, ◌⊎◌, inl, inr, ℕ, List, [], Contains, Some, None, IsSome, unwrap_or, refl, sym, ap, ◌∙◌, subst}
use Rattle.std.specs.BTreeMap.{BTreeMap, Updates}
use Rattle.wire_base.specs.KeyOrder.{compare}
use Rattle.wire_base.specs.declared.row.Row.{Row}
use Rattle.ship_core.specs.Rows.{find}
use Rattle.ack_tracker.specs.FileState.{FileState}
use Rattle.ack_tracker.specs.Keys.{at_key, row_before, row_now, slots_of}
use Rattle.ack_tracker.specs.declared.keyed.Keyed.{Keyed}
use Rattle.ack_tracker.proofs.AtKey.{Sets, sets_inserted}
use Rattle.ack_tracker.proofs.ByKey.{keeps_own, keeps_rows, noted_here, row_of, slots_there, Keeps}
use Rattle.ack_tracker.proofs.Contained.{none_there}
use Rattle.ack_tracker.proofs.keys.keep_new.Goals as goal

of_key : (old new : BTreeMap (List ℕ) Keyed) (key copy : List ℕ) (after : Keyed) → copy ≡ key → Updates compare old new copy (Some after) → Sets old.entries new.entries key after
of_key old new key copy after same updates = subst (λ (k : List ℕ). Sets old.entries new.entries k after) same (sets_inserted old new copy after updates)

-- what a new key keeps is the opening row
of_new : (opening : List Row) (files : List (ℕ × FileState)) (keys : List (List ℕ × Keyed)) (key : List ℕ) (fresh after : Keyed) → at_key keys key ≡ None → fresh.slots ≡ [] → fresh.was ≡ None
    → ((after.was ≡ fresh.was) ⊎ ((fresh.was ≡ None) × (after.was ≡ Some (unwrap_or (row_now files fresh.slots key) (find key opening))))) → Keeps after None (row_before opening files (slots_of keys) key)
of_new opening files keys key fresh after none slots was (inl same) = inl (same ∙ was)
of_new opening files keys key fresh after none slots was (inr set) =
    inr (refl, set.1 ∙ ap (λ (own : List ℕ). Some (unwrap_or (row_now files own key) (find key opening))) slots ∙ ap Some (row_of opening files keys key None none))

pub returns-clause-keeps : goal.returns-clause-keeps
returns-clause-keeps c =
    let old = c.args.by_key.now in
    let after = c.keep.new.self in
    keeps_rows old c.insert.new.self c.args.key.now after c.are_in_order.ensures c.insert.ensures.ordered (of_key old c.insert.new.self c.args.key.now _ after c.in_ok-copy.ensures c.in_ok-insert.ensures.updates)
    None c.requires.new (row_before c.args.opening.now c.args.files.now.entries (slots_of old.entries)) c.requires.in_range
    (of_new c.args.opening.now c.args.files.now.entries old.entries c.args.key.now c.new-keyed.result after c.requires.new c.new-keyed.ensures.slots c.new-keyed.ensures.was c.keep.ensures.keeps)

pub returns-clause-keeps_slots : goal.returns-clause-keeps_slots
returns-clause-keeps_slots c =
    let old = c.args.by_key.now in
    let after = c.keep.new.self in
    keeps_own old c.insert.new.self c.args.key.now after c.are_in_order.ensures c.insert.ensures.ordered (of_key old c.insert.new.self c.args.key.now _ after c.in_ok-copy.ensures c.in_ok-insert.ensures.updates)
    None c.requires.new (λ slot there. absurd (none_there slot there))

pub returns-clause-noted : goal.returns-clause-noted
returns-clause-noted c =
    let old = c.args.by_key.now in
    let after = c.keep.new.self in
    subst IsSome (sym (noted_here old c.insert.new.self c.args.key.now after c.are_in_order.ensures c.insert.ensures.ordered (of_key old c.insert.new.self c.args.key.now _ after c.in_ok-copy.ensures c.in_ok-insert.ensures.updates))) c.in_ok-keep.ensures.noted

pub returns-clause-given : goal.returns-clause-given
returns-clause-given c = λ slot is.
    let old = c.args.by_key.now in
    let after = c.keep.new.self in
    subst (λ (l : List ℕ). Contains l slot) (sym (slots_there old c.insert.new.self c.args.key.now after c.are_in_order.ensures c.insert.ensures.ordered (of_key old c.insert.new.self c.args.key.now _ after c.in_ok-copy.ensures c.in_ok-insert.ensures.updates))) (c.in_ok-keep.ensures.given slot is)
