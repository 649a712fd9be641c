use Rattle.std.proofs.Common.{List, ℕ, get_or, subst}
use Rattle.std.proofs.lemmas.List.{get_or_default, take_all}
use Rattle.std.proofs.lemmas.Result.{err_from_is_err_and}
use Rattle.restart_join.proofs.Stepping.{place_joined, place_refused}
use Rattle.restart_join.specs.PathOrder.{members_at}
use Rattle.restart_join.specs.Steps.{HasJoined}
use Rattle.restart_join.proofs.join.join_members.Goals as goal

pub loop-place-preserved : goal.loop-place-preserved
loop-place-preserved c =
    let inside = c.loop-place-test.true in
    place_joined c.args.rows.now c.args.joined.now.next c.args.seen.now c.args.order.now c.loop-place.place-index
    (get_or c.args.order.now c.loop-place.place-index 0) c.index-seen-place.result c.loop-place.joined c.join_member.new.joined
    inside (get_or_default c.args.order.now c.loop-place.place-index 0 _ inside) (c.requires.places c.loop-place.place-index 0 inside)
    c.index-seen-place.is c.loop-place.invariant c.in_ok-join_member.ensures.joined

pub returns-in_err-join_member-clause-refused : goal.returns-in_err-join_member-clause-refused
returns-in_err-join_member-clause-refused c =
    let inside = c.loop-place-test.true in
    let p = err_from_is_err_and c.from_residual.result c.from_residual.ensures.1 in
    rw (p.1, p.2)
    (place_refused c.args.rows.now c.args.joined.now.next c.args.seen.now c.args.order.now c.loop-place.place-index
    (get_or c.args.order.now c.loop-place.place-index 0) c.index-seen-place.result c.loop-place.joined _
    inside (get_or_default c.args.order.now c.loop-place.place-index 0 _ inside) (c.requires.places c.loop-place.place-index 0 inside)
    c.index-seen-place.is c.loop-place.invariant c.in_err-join_member.ensures.refused)

pub returns-clause-joined : goal.returns-clause-joined
returns-clause-joined c =
    subst (λ (l : List ℕ). HasJoined c.args.rows.now c.args.joined.now.next (members_at c.args.seen.now l) c.loop-place.joined)
    (take_all c.loop-place.place-index c.args.order.now c.loop-place-test.false) c.loop-place.invariant
