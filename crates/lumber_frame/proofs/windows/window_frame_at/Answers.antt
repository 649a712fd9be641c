use Rattle.std.proofs.Common.{arith}
use Rattle.lumber_frame.specs.declared.frame.Frame.TheVariants.{Window}
use Rattle.lumber_frame.specs.Reading.{IsWholeOf}
use Rattle.lumber_frame.proofs.Frames.{begins_from}
use Rattle.lumber_frame.proofs.windows.window_frame_at.Goals as goal
use Rattle.lumber_frame.proofs.windows.window_frame_at.Goals.{in_default-via-in-Whole+in_default, in_default-via-in_default}

pub returns-in_default : goal.returns-in_default
returns-in_default c = λ count rest fits is.
    let frame = Window count in
    let whole : IsWholeOf c.read_frame.result frame 6 = c.read_frame.ensures.every_frame frame 6 (begins_from c.args.bytes.now frame rest fits is) in
    elim c.in_default.branch [
      | in_default-via-in-Whole+in_default w ↦ grind arith
      | in_default-via-in_default w ↦ grind arith
    ]
