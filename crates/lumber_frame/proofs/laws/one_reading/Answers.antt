use Rattle.std.proofs.Common.{[], sym, ap, ◌∙◌}
use Rattle.lumber_frame.specs.Talk.{in_bytes, out_bytes}
use Rattle.lumber_frame.specs.Acknowledged.{acknowledgements, answers, payloads_by}
use Rattle.lumber_frame.proofs.WindowBytes.{are_once}
use Rattle.lumber_frame.proofs.laws.one_reading.Goals as goal

pub returns : goal.returns
returns c = λ talk p q first second.
    let windows = are_once (out_bytes talk) first.windows second.windows first.sent second.sent in
    first.are ∙ ap (λ ws. payloads_by (answers ws talk [] 0 (acknowledgements (in_bytes talk))) 1 ws) windows ∙ sym second.are
