-- Frames that are taken from the front of bytes.
use Rattle.std.proofs.Common.{◌≡◌, inl, inr, ℕ, ◌+◌, ◌-◌, ◌<◌, ◌≤◌, List, [], ◌++◌, length, take, drop, Option, sym, ◌∙◌, ap, subst, arith}
use Rattle.std.proofs.lemmas.List.{drop-drop, length-drop, take_all}
use Rattle.outside.specs.Talks.{Talk}
use Rattle.lumber_frame.specs.declared.frame.Frame.{Frame}
use Rattle.lumber_frame.specs.declared.frame.Frame.TheVariants.{Window, Json, Ack}
use Rattle.lumber_frame.specs.declared.frame.FrameView.{FrameView}
use Rattle.lumber_frame.specs.Frame.{BeginsWithFrame, frame_bytes, frame_of}
use Rattle.lumber_frame.specs.Reading.{IsShort}
use Rattle.lumber_frame.proofs.Frames.{frame_is_good, frame_once}
use Rattle.lumber_answers.specs.HandingOn.{Told, telling}
use Rattle.lumber_answers.specs.Laying.{WritesFront}
use Rattle.lumber_server.specs.Next.{IsOwedFrame}
use Rattle.lumber_server.specs.Received.{IsOwed, Standing, StopsIn}
use Rattle.lumber_server.specs.Ends.{up_to_end}
use Rattle.lumber_server.specs.Standing.{Fails, GoesOn, state_of}
use Rattle.lumber_server.specs.Taking.{BeginsWithNoneOwed, HandsAllOn, LeavesShort, StopsBehind, TakesFrame, TakesFrames, TakesNext, TakesNone}
use Rattle.lumber_server.specs.Written.{lines_of_frame}
use Rattle.lumber_server.specs.declared.transfer.Transfer.{Transfer}
use Rattle.lumber_server.proofs.Moving.{fails_further, frame_fails, frame_taken, goes_further, stays}

pub none_at_stop : (here : Standing) (bytes : List ℕ) (place : ℕ) → StopsIn here bytes place → BeginsWithNoneOwed here bytes
none_at_stop here bytes place (inl bad) = record { none = λ frame used begins owed. frame_is_good bytes frame used place begins bad }
none_at_stop here bytes place (inr h) =
    let P : Frame → Type 0 = λ f. IsOwed here f in
    record { none = λ frame used begins owed. h.1.2.1 (subst P (frame_once bytes frame h.1.0 used h.1.1 begins h.1.2.0).0 owed) }

pub none_at_short : (here : Standing) (bytes : List ℕ) → IsShort bytes → BeginsWithNoneOwed here bytes
none_at_short here bytes short = record { none = λ frame used begins owed. short.no_frame frame used begins }

frame_some : (frame : Frame) → 0 < length (frame_bytes frame)
frame_some (Window count) = omega arith
frame_some (Json sequence payload) = omega arith
frame_some (Ack sequence) = omega arith

pub used_some : (bytes : List ℕ) (frame : Frame) (used : ℕ) → BeginsWithFrame bytes frame used → 0 < used
used_some bytes frame used begins = omega (arith, frame_some frame, begins.size)

-- room was made, and the frame is taken
pub takes_next : (a : Told) (told : Option Talk) (old mid new : Transfer) (written after : Option (List ℕ)) (bytes : List ℕ) (frame : FrameView) (used : ℕ) →
    IsOwedFrame old.reading bytes frame used → mid.reading ≡ old.reading → GoesOn a (telling told written) (state_of old bytes) (state_of mid bytes) →
    TakesFrame (frame_of frame) used mid new written after → TakesNext a (telling told after) old new bytes used
takes_next a told old mid new written after bytes frame used next same goes takes =
    let P : Standing → Type 0 = λ h. IsOwed h (frame_of frame) in
    record {
      some = used_some bytes (frame_of frame) used next.begins;
      within = next.within;
      goes_on = goes_further a (telling told written) (telling told after) (state_of old bytes) (state_of mid bytes) (state_of new (drop used bytes)) goes
          (frame_taken told mid new written after bytes (frame_of frame) used next.begins (subst P (sym same) next.owed) takes);
    }

-- room was made, and the line is not written whole
pub next_fails : (a : Told) (told : Option Talk) (old mid : Transfer) (written after : Option (List ℕ)) (bytes : List ℕ) (frame : FrameView) (used : ℕ) →
    IsOwedFrame old.reading bytes frame used → mid.reading ≡ old.reading → GoesOn a (telling told written) (state_of old bytes) (state_of mid bytes) →
    WritesFront written (mid.outgoing.lines.items ++ lines_of_frame (frame_of frame)) after → Fails a (telling told after) (state_of old bytes)
next_fails a told old mid written after bytes frame used next same goes front =
    let P : Standing → Type 0 = λ h. IsOwed h (frame_of frame) in
    fails_further a (telling told written) (telling told after) (state_of old bytes) (state_of mid bytes) goes
    (frame_fails told mid written after bytes (frame_of frame) used next.begins (subst P (sym same) next.owed) front)

pub takes_none : (a : Told) (transfer : Transfer) (bytes : List ℕ) → BeginsWithNoneOwed transfer.reading bytes → TakesNone a a transfer transfer bytes
takes_none a transfer bytes none = record { goes_on = stays a (state_of transfer bytes); none_owed = none }

-- what is left of bytes
pub record IsLeftOf (bytes left : List ℕ) : Type 0 where
  pub within : length left ≤ length bytes
  pub left_is : left ≡ drop (length bytes - length left) bytes

pub all_left : (bytes : List ℕ) → IsLeftOf bytes bytes
all_left bytes = record { within = omega arith; left_is = let none : 0 ≡ length bytes - length bytes = omega arith in ap (λ (n : ℕ). drop n bytes) none }

pub rest_is : (left : List ℕ) (used most : ℕ) → length left ≤ used + most → take most (drop used left) ≡ drop used left
rest_is left used most all = take_all most (drop used left) (omega (arith, length-drop used left))

pub left_more : (bytes left : List ℕ) (used : ℕ) → used ≤ length left → IsLeftOf bytes left → IsLeftOf bytes (drop used left)
left_more bytes left used fits was =
    let count : (length bytes - length left) + used ≡ length bytes - length (drop used left) = omega (arith, length-drop used left, was.within) in
    record {
      within = omega (arith, length-drop used left, was.within);
      left_is = ap (λ (l : List ℕ). drop used l) was.left_is ∙ drop-drop used (length bytes - length left) bytes ∙ ap (λ (n : ℕ). drop n bytes) count;
    }

pub left_then : (bytes left : List ℕ) (used most : ℕ) → used ≤ length left → length left ≤ used + most → IsLeftOf bytes left → IsLeftOf bytes (take most (drop used left))
left_then bytes left used most fits all was =
    let P : List ℕ → Type 0 = λ l. IsLeftOf bytes l in
    subst P (sym (rest_is left used most all)) (left_more bytes left used fits was)

-- the loop goes on behind a frame
pub next_taken : (a b c : Told) (start old new : Transfer) (bytes left : List ℕ) (used most : ℕ) → GoesOn a b (state_of start bytes) (state_of old left) →
    TakesNext b c old new left used → length left ≤ used + most → GoesOn a c (state_of start bytes) (state_of new (take most (drop used left)))
next_taken a b c start old new bytes left used most goes takes all =
    let P : List ℕ → Type 0 = λ l. GoesOn a c (state_of start bytes) (state_of new l) in
    subst P (sym (rest_is left used most all)) (goes_further a b c (state_of start bytes) (state_of old left) (state_of new (drop used left)) goes takes.goes_on)

pub frames_taken : (a b c : Told) (start old new : Transfer) (bytes left : List ℕ) → IsLeftOf bytes left → GoesOn a b (state_of start bytes) (state_of old left) → TakesNone b c old new left →
    TakesFrames a c start new bytes (length left)
frames_taken a b c start old new bytes left is goes none =
    let P : List ℕ → Type 0 = λ l. GoesOn a c (state_of start bytes) (state_of new l) in
    let Q : List ℕ → Type 0 = λ l. BeginsWithNoneOwed new.reading l in
    record {
      within = is.within;
      goes_on = subst P is.left_is (goes_further a b c (state_of start bytes) (state_of old left) (state_of new left) goes none.goes_on);
      none_owed = subst Q is.left_is none.none_owed;
    }

-- all that was laid is handed on
pub all_handed : (a b c : Told) (start old new : Transfer) (bytes : List ℕ) (left : ℕ) → TakesFrames a b start old bytes left → new.reading ≡ old.reading →
    GoesOn b c (state_of old (drop (length bytes - left) bytes)) (state_of new (drop (length bytes - left) bytes)) →
    new.outgoing.lines.items ≡ [] → new.outgoing.answers.items ≡ [] → HandsAllOn a c start new bytes left
all_handed a b c start old new bytes left taken same goes no_lines no_answers =
    let Q : Standing → Type 0 = λ h. BeginsWithNoneOwed h (drop (length bytes - left) bytes) in
    record {
      taken = record {
        within = taken.within;
        goes_on = goes_further a b c (state_of start bytes) (state_of old (drop (length bytes - left) bytes)) (state_of new (drop (length bytes - left) bytes)) taken.goes_on goes;
        none_owed = subst Q (sym same) taken.none_owed;
      };
      no_lines = no_lines;
      no_answers = no_answers;
    }

-- behind the frames nothing is whole yet
pub leaves_short : (a b : Told) (old new : Transfer) (bytes : List ℕ) (left most : ℕ) → HandsAllOn a b old new bytes left → IsShort (take most (drop (length bytes - left) bytes)) →
    length bytes ≤ (length bytes - left) + most → LeavesShort a b old new bytes left
leaves_short a b old new bytes left most handed short all =
    let P : List ℕ → Type 0 = λ l. IsShort l in
    record { handed = handed; short = subst P (rest_is bytes (length bytes - left) most all) short }

-- behind the frames reading stops
pub stops_behind : (a b : Told) (old new : Transfer) (bytes : List ℕ) (left most within place : ℕ) → HandsAllOn a b old new bytes left →
    StopsIn new.reading (take most (drop (length bytes - left) bytes)) within → length bytes ≤ (length bytes - left) + most → place ≡ up_to_end (new.passed + within) →
    StopsBehind a b old new bytes place
stops_behind a b old new bytes left most within place handed stop all place_is =
    let P : List ℕ → Type 0 = λ l. StopsIn new.reading l within in
    record { left = left; handed = handed; within = within; stop = subst P (rest_is bytes (length bytes - left) most all) stop; place_is = place_is }
