use Rattle.std.proofs.Common.{ℕ, ◌+◌, List, ◌++◌, take, drop, get_or, arith, ap, sym, subst, ◌∙◌}
use Rattle.std.proofs.lemmas.List.{take_more, take-append-drop, take_all}
use Rattle.lumber_client.specs.Exchange.{with_talk}
use Rattle.lumber_client.specs.Standing.{StandsFor}
use Rattle.spool_queue.specs.SendSoFar.{with_bytes}
use Rattle.spool_queue.proofs.Hearings.{fault_more, fine_still, heard_more, keeps_on}
use Rattle.spool_queue.proofs.sending.hear.Goals as goal

pub got-requires-clause-all_is_out : goal.got-requires-clause-all_is_out
got-requires-clause-all_is_out c = c.loop-byte.invariant.kept.out ∙ c.requires.all_is_out

pub got-requires-clause-no_fault : goal.got-requires-clause-no_fault
got-requires-clause-no_fault c = c.loop-byte.invariant.fine

pub loop-byte-preserved : goal.loop-byte-preserved
loop-byte-preserved c =
    let is = c.loop-byte.invariant in
    let bytes = c.args.bytes.now in
    let n = c.loop-byte.byte-index in
    record {
      kept = keeps_on c.args.window.now c.loop-byte.window c.got.new.self is.kept c.got.ensures.kept;
      more = omega (arith, is.more, c.got.ensures.acknowledged);
      fine = c.got.ensures.failed_where_a_fault_is_told ∙ fine_still c.got.result c.in_default.not-PeerFault;
      heard = λ e s. subst (λ (l : List ℕ). StandsFor c.got.new.self (with_talk e (with_bytes e.talk l))) (sym (take_more bytes n 0 c.loop-byte-test.true))
          (heard_more c.got.new.self e (take n bytes) (get_or bytes n 0) (c.got.ensures.stands (with_talk e (with_bytes e.talk (take n bytes))) (is.heard e s)));
    }

pub returns-in-PeerFault-clause-kept : goal.returns-in-PeerFault-clause-kept
returns-in-PeerFault-clause-kept c = keeps_on c.args.window.now c.loop-byte.window c.got.new.self c.loop-byte.invariant.kept c.got.ensures.kept

pub returns-in-PeerFault-clause-no_fewer : goal.returns-in-PeerFault-clause-no_fewer
returns-in-PeerFault-clause-no_fewer c = omega (arith, c.loop-byte.invariant.more, c.got.ensures.acknowledged)

pub returns-in-PeerFault-clause-hears : goal.returns-in-PeerFault-clause-hears
returns-in-PeerFault-clause-hears c = λ e s.
    let is = c.loop-byte.invariant in
    let bytes = c.args.bytes.now in
    let n = c.loop-byte.byte-index in
    let byte = get_or bytes n 0 in
    let before = with_talk e (with_bytes e.talk (take n bytes)) in
    record {
      front = take n bytes;
      byte = byte;
      rest = drop (n + 1) bytes;
      are = sym (ap (λ (l : List ℕ). l ++ drop (n + 1) bytes) (sym (take_more bytes n 0 c.loop-byte-test.true)) ∙ take-append-drop (n + 1) bytes);
      stands = heard_more c.got.new.self e (take n bytes) byte (c.got.ensures.stands before (is.heard e s));
      fault = fault_more e.talk (take n bytes) byte (c.in-PeerFault.ensures.told before (is.heard e s)).0;
    }

pub returns-clause-hears : goal.returns-clause-hears
returns-clause-hears c = λ e s.
    subst (λ (l : List ℕ). StandsFor c.loop-byte.window (with_talk e (with_bytes e.talk l))) (take_all c.loop-byte.byte-index c.args.bytes.now c.loop-byte-test.false) (c.loop-byte.invariant.heard e s)
