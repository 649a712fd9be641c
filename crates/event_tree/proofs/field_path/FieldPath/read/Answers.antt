use Rattle.std.proofs.Common.{◌≡◌, ℕ, ◌+◌, Fits, w64, rules, tests, lit<, arith, ◌∙◌, ◌<◌, ◌^◌, length}
use Rattle.std.proofs.lemmas.Iterator.Consumers.{YieldsList-turn, YieldsList-end}
use Rattle.std.proofs.lemmas.Iterator.Splits.{YieldsList-from_str_split}
use Rattle.std.proofs.lemmas.List.{length_push}
use Rattle.event_tree.specs.Parts.{parts_of, empty_place}
use Rattle.event_tree.proofs.Dots.{reach-parts, some_part, from_zero, place_here, place_more, reach_more, so_far_more, named_more, read_all, none_empty}
use Rattle.event_tree.proofs.field_path.FieldPath.read.Goals as goal

pub loop-part-init : goal.loop-part-init
loop-part-init c = record {
  can_next = tt;
  is_finite = tt;
  so_far = c.new-parts.ensures.items;
  named = λ k d lt. absurd (omega (arith, c.new-parts.ensures.len));
  reaches = omega (arith, reach-parts c.args.text.now);
  place = from_zero (empty_place (parts_of c.args.text.now));
}

pub returns-then-is_empty-clause-refused : goal.returns-then-is_empty-clause-refused
returns-then-is_empty-clause-refused c =
    let empty : length c.in-Some.part.now ≡ 0 = search (rules, tests) in
    let road = YieldsList-from_str_split 46 c.args.text.now (lit< tt) (cc) (cc) (cc) in
    let turn = YieldsList-turn road c.loop-part.yielded _ c.loop-part.yielded_by _ _ c.in-Some.part c.in-Some.is c.next.ensures.steps in
    place_here (parts_of c.args.text.now) _ c.in-Some.part.now turn.0 turn.1 c.loop-part.at _ empty c.loop-part.invariant.place

fits : (at more rest n : ℕ) → at + more + rest ≡ n + 1 → n < 2 ^ 63 → Fits w64 (at + more)
fits at more rest n e bound = omega (arith, e, bound)

pub overflow_add-at-in-loop-part : goal.overflow_add-at-in-loop-part
overflow_add-at-in-loop-part c =
    let bound : length c.args.text.now < 2 ^ 63 = search rules in
    let road = YieldsList-from_str_split 46 c.args.text.now (lit< tt) (cc) (cc) (cc) in
    let turn = YieldsList-turn road c.loop-part.yielded _ c.loop-part.yielded_by _ _ c.in-Some.part c.in-Some.is c.next.ensures.steps in
    let more = reach_more (parts_of c.args.text.now) _ c.in-Some.part.now turn.0 turn.1 c.loop-part.at _ c.loop-part.invariant.reaches in
    fits c.loop-part.at _ _ _ more bound

pub loop-part-preserved : goal.loop-part-preserved
loop-part-preserved c =
    let some : 0 < length c.in-Some.part.now = grind (arith, tests) in
    let road = YieldsList-from_str_split 46 c.args.text.now (lit< tt) (cc) (cc) (cc) in
    let turn = YieldsList-turn road c.loop-part.yielded _ c.loop-part.yielded_by _ _ c.in-Some.part c.in-Some.is c.next.ensures.steps in
    let next = length_push c.loop-part.yielded c.in-Some.part in
    let all = parts_of c.args.text.now in
    let same = c.from_string.ensures ∙ c.in_ok-from_str.ensures.ok in
    record {
      can_next = tt;
      is_finite = tt;
      so_far = so_far_more all _ _ _ _ c.in-Some.part.now _ turn.0 turn.1 c.loop-part.invariant.so_far same c.in_ok-push.ensures.items next;
      named = named_more _ _ c.in-Some.part.now _ c.loop-part.invariant.named same some c.in_ok-push.ensures.items;
      reaches = rw next (reach_more all _ c.in-Some.part.now turn.0 turn.1 c.loop-part.at _ c.loop-part.invariant.reaches);
      place = rw next (place_more all _ c.in-Some.part.now turn.0 turn.1 c.loop-part.at _ some c.loop-part.invariant.place);
    }

pub invariant_of-result : goal.invariant_of-result
invariant_of-result c =
    let road = YieldsList-from_str_split 46 c.args.text.now (lit< tt) (cc) (cc) (cc) in
    let end = YieldsList-end road c.loop-part.yielded _ c.loop-part.yielded_by _ _ c.in-None.is c.next.ensures.steps in
    let whole = read_all (parts_of c.args.text.now) _ _ c.loop-part.invariant.so_far end.1 in
    record { some = rw whole (some_part c.args.text.now); named = c.loop-part.invariant.named }

pub returns-clause-parts : goal.returns-clause-parts
returns-clause-parts c =
    let road = YieldsList-from_str_split 46 c.args.text.now (lit< tt) (cc) (cc) (cc) in
    let end = YieldsList-end road c.loop-part.yielded _ c.loop-part.yielded_by _ _ c.in-None.is c.next.ensures.steps in
    read_all (parts_of c.args.text.now) _ _ c.loop-part.invariant.so_far end.1

pub returns-clause-named : goal.returns-clause-named
returns-clause-named c =
    let road = YieldsList-from_str_split 46 c.args.text.now (lit< tt) (cc) (cc) (cc) in
    let end = YieldsList-end road c.loop-part.yielded _ c.loop-part.yielded_by _ _ c.in-None.is c.next.ensures.steps in
    none_empty (parts_of c.args.text.now) c.loop-part.at _ _ c.loop-part.invariant.place end.1
