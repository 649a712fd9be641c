use Rattle.std.proofs.Common.{◌≡◌, Some, sym, ◌∙◌, subst, arith, rules, length}
use Rattle.std.proofs.lemmas.Result.{on_ok_weaker}
use Rattle.serde.specs.Event.{Logs, seq_begins, map_begins}
use Rattle.event_tree.specs.Tree.{value_of}
use Rattle.event_json.proofs.JsonTexts.{items_len-of, members_len-of}
use Rattle.event_json.proofs.Sendings.{item_sent, all_items_sent, member_sent, all_members_sent}
use Rattle.event_json.proofs.json_tree.+send.Goals as goal

pub send_trees-loop-i-preserved : goal.send_trees-loop-i-preserved
send_trees-loop-i-preserved g t c = λ end more.
    c.loop-i.invariant end (item_sent c.args.trees.now c.loop-i.i (value_of c.at.result.now) _ _ end c.at.ensures.at c.in_ok-send.ensures more)

pub send_trees-returns : goal.send_trees-returns
send_trees-returns g t c =
    let vs = c.args.trees.now in
    let first = g.S.Serializer.written c.begin_seq.new.self in
    let end = g.S.Serializer.written c.end_seq.new.self in
    let len : c.len.result ≡ length vs = search rules in
    let begun = subst (λ n. Logs (g.S.Serializer.written c.args.out.now) first (seq_begins (Some n))) (len ∙ sym (items_len-of vs)) c.in_ok-begin_seq.ensures in
    on_ok_weaker c.end_seq.result (λ e. (first, begun, c.loop-i.invariant end (all_items_sent vs c.loop-i.i _ end (omega arith) e))) c.end_seq.ensures

pub send_fields-loop-i-preserved : goal.send_fields-loop-i-preserved
send_fields-loop-i-preserved g t c = λ end more.
    c.loop-i.invariant end (member_sent c.args.fields.now c.loop-i.i c.at.result.0.now (value_of c.at.result.1.now) _ _ _ end c.at.ensures.at (rw c.as_str.ensures at c.in_ok-key.ensures) c.in_ok-send.ensures more)

pub send_fields-returns : goal.send_fields-returns
send_fields-returns g t c =
    let ps = c.args.fields.now in
    let first = g.S.Serializer.written c.begin_map.new.self in
    let end = g.S.Serializer.written c.end_map.new.self in
    let len : c.len.result ≡ length ps = search rules in
    let begun = subst (λ n. Logs (g.S.Serializer.written c.args.out.now) first (map_begins (Some n))) (len ∙ sym (members_len-of ps)) c.in_ok-begin_map.ensures in
    on_ok_weaker c.end_map.result (λ e. (first, begun, c.loop-i.invariant end (all_members_sent ps c.loop-i.i _ end (omega arith) e))) c.end_map.ensures
