use Rattle.std.proofs.Common.{arith}
use Rattle.lumber_frame.proofs.Readings.{json_front}
use Rattle.lumber_frame.proofs.read.read_json.Goals as goal

pub returns-else-bytes-end : goal.returns-else-bytes-end
returns-else-bytes-end c =
    json_front c.args.bytes.now c.in-Some-Some.sequence c.in-Some-Some.length (λ i. omega (arith, c.type_inv.bytes i)) c.requires.version c.requires.kind c.in-Some-Some.ensures'.1 c.in-Some-Some.ensures.1 (omega arith) (omega arith)
