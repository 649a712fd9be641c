-- What is written and what is answered of frames that are received (Lumberjack v2; this project's profile). Each payload is
-- one line. A frame is acknowledged if its number is a multiple of 64 or the count of its window.
use Rattle.std.specs.Prelude.{◌==◌, ◌%◌, ◌||◌, ℕ, Bool, List, [], ◌∷◌, ◌++◌, if◌then◌else◌}
use Rattle.std.specs.List.{flat_map}
use Rattle.lumber_frame.specs.declared.frame.Frame.{Frame}
use Rattle.lumber_frame.specs.declared.frame.Frame.TheVariants.{Window, Json, Ack}
use Rattle.lumber_frame.specs.Frame.{frame_bytes}
use Rattle.lumber_answers.specs.Lines.{line_of}
use Rattle.lumber_server.specs.Received.{Standing, at_first, behind_frame}

-- the line of a frame; a window frame has none
abbrev pub lines_of_frame : Frame → List ℕ
lines_of_frame (Window count) = []
lines_of_frame (Json sequence payload) = line_of payload
lines_of_frame (Ack sequence) = []

abbrev pub lines_of : List Frame → List ℕ
lines_of frames = flat_map lines_of_frame frames

-- the acknowledgement of a frame that was owed where the reading was, if there is one
abbrev pub answer_of : Standing → Frame → List ℕ
answer_of here (Window count) = []
answer_of here (Json sequence payload) =
    if (sequence % 64 == 0) || (sequence == here.count) then frame_bytes (Ack sequence) else []
answer_of here (Ack sequence) = []

abbrev pub answers_from : Standing → List Frame → List ℕ
answers_from here [] = []
answers_from here (frame ∷ frames) = answer_of here frame ++ answers_from (behind_frame here frame) frames

abbrev pub answers_of : List Frame → List ℕ
answers_of frames = answers_from at_first frames

-- the JSON frame that was read last is acknowledged
abbrev pub is_answered : Standing → Bool
is_answered here = (here.taken % 64 == 0) || (here.taken == here.count)
