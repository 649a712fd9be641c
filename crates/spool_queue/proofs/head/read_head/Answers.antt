use Rattle.std.proofs.Common.{take, drop, arith}
use Rattle.spool_queue.proofs.Digits.{padded_are_digits}
use Rattle.spool_queue.proofs.Heads.{head_read, opened_head, sized_head}
use Rattle.spool_queue.proofs.head.read_head.Goals as goal

pub returns-in_default : goal.returns-in_default
returns-in_default c =
    let opened = opened_head c.args.bytes.now (omega arith) c.if-bytes-ne123.false in
    (opened.0, opened.1, λ size kind low either same. c.in_default.ensures (padded_are_digits (take 10 (drop 1 c.args.bytes.now)) size low (sized_head c.args.bytes.now size kind low same)).0)

pub returns-in-101 : goal.returns-in-101
returns-in-101 c = head_read c.args.bytes.now _ 0x65 (omega arith) c.if-bytes-ne123.false c.if-bytes-ne32.false c.in-101.is c.in-Some.ensures.0 c.in-Some.ensures.1

pub returns-in-115 : goal.returns-in-115
returns-in-115 c = head_read c.args.bytes.now _ 0x73 (omega arith) c.if-bytes-ne123.false c.if-bytes-ne32.false c.in-115.is c.in-Some.ensures.0 c.in-Some.ensures.1
