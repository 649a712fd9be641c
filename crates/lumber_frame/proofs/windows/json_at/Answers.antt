use Rattle.std.proofs.Common.{length, arith}
use Rattle.lumber_frame.specs.declared.frame.Frame.TheVariants.{Json}
use Rattle.lumber_frame.specs.Frame.{frame_bytes}
use Rattle.lumber_frame.specs.Reading.{IsWholeOf}
use Rattle.lumber_frame.proofs.Frames.{begins_from}
use Rattle.lumber_frame.proofs.windows.json_at.Goals as goal
use Rattle.lumber_frame.proofs.windows.json_at.Goals.{in_default-via-in-Whole-Json-default+else-found-sequence, in_default-via-in-Whole+in_default, in_default-via-in_default}

pub returns-in_default : goal.returns-in_default
returns-in_default c = λ payload rest fits is.
    let frame = Json c.args.sequence payload in
    let whole : IsWholeOf c.read_frame.result frame (length (frame_bytes frame)) = c.read_frame.ensures.every_frame frame (length (frame_bytes frame)) (begins_from c.args.bytes.now frame rest fits is) in
    elim c.in_default.branch [
      | in_default-via-in-Whole-Json-default+else-found-sequence w ↦ grind arith
      | in_default-via-in-Whole+in_default w ↦ grind arith
      | in_default-via-in_default w ↦ grind arith
    ]
