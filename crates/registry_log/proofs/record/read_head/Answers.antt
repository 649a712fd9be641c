use Rattle.std.proofs.Common.{arith}
use Rattle.registry_log.proofs.Heads.{opened_head, sized_head, spaced_head}
use Rattle.registry_log.proofs.record.read_head.Goals as goal

pub returns-then-bytes-ne32 : goal.returns-then-bytes-ne32
returns-then-bytes-ne32 c =
    let opened = opened_head c.args.bytes.now (omega arith) c.if-bytes-ne123.false in
    (opened.0, opened.1, λ size more low same. spaced_head c.args.bytes.now size more c.if-bytes-ne32.true low same)

pub returns-in-None : goal.returns-in-None
returns-in-None c =
    let opened = opened_head c.args.bytes.now (omega arith) c.if-bytes-ne123.false in
    (opened.0, opened.1, λ size more low same. c.in-None.ensures size low (sized_head c.args.bytes.now size more low same))
