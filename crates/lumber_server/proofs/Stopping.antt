-- Where reading stops, and where it does not.
use Rattle.std.proofs.Common.{◌≡◌, inl, inr, ℕ, ◌+◌, List, [], ◌∷◌, ◌++◌, length, refl, sym, ◌∙◌, subst, append_assoc, arith}
use Rattle.std.specs.List.{AllByRecursion, flat_map}
use Rattle.lumber_frame.specs.declared.frame.Frame.{Frame}
use Rattle.lumber_frame.specs.Frame.{IsFrame, frame_bytes}
use Rattle.lumber_frame.specs.Reading.{IsShort}
use Rattle.lumber_frame.proofs.Frames.{begins_from, frame_is_good, frame_once, one_form}
use Rattle.lumber_server.specs.Ends.{up_to_end}
use Rattle.lumber_server.specs.Promise.{Exchange}
use Rattle.lumber_server.specs.Received.{AreOwed, IsOwed, Standing, StopsAt, StopsIn, at_first, behind_frame, behind_frames}
use Rattle.lumber_server.specs.Standing.{StandsFor, State}

-- a frame that is owed stands in front, so that reading does not stop here
goes_past : (here : Standing) (bytes rest : List ℕ) (frame : Frame) (place : ℕ) → IsFrame frame → IsOwed here frame → bytes ≡ frame_bytes frame ++ rest → StopsIn here bytes place → ⊥
goes_past here bytes rest frame place fits owed is (inl bad) = frame_is_good bytes frame (length (frame_bytes frame)) place (begins_from bytes frame rest fits is) bad
goes_past here bytes rest frame place fits owed is (inr h) =
    let P : Frame → Type 0 = λ f. IsOwed here f in
    h.1.2.1 (subst P (frame_once bytes frame h.1.0 (length (frame_bytes frame)) h.1.1 (begins_from bytes frame rest fits is) h.1.2.0).0 owed)

-- short bytes stop no reading
short_stops : (here : Standing) (bytes : List ℕ) (place : ℕ) → IsShort bytes → StopsIn here bytes place → ⊥
short_stops here bytes place short (inl bad) = short.no_fault place bad
short_stops here bytes place short (inr h) = short.no_frame h.1.0 h.1.1 h.1.2.0

-- a reading that ended in front of short bytes stops nowhere
stops_nowhere : (here : Standing) (bytes : List ℕ) (f g : List Frame) (x y : List ℕ) (place : ℕ) → AllByRecursion IsFrame f → AllByRecursion IsFrame g → AreOwed here f → AreOwed here g →
    bytes ≡ flat_map frame_bytes f ++ x → bytes ≡ flat_map frame_bytes g ++ y → IsShort x → StopsIn (behind_frames here g) y place → ⊥
stops_nowhere here bytes [] [] x y place each_f each_g owed_f owed_g is_f is_g short stop =
    let P : List ℕ → Type 0 = λ l. StopsIn here l place in
    short_stops here x place short (subst P (sym is_g ∙ is_f) stop)
stops_nowhere here bytes [] (frame ∷ g) x y place each_f each_g owed_f owed_g is_f is_g short stop =
    short.no_frame frame (length (frame_bytes frame))
    (begins_from x frame (flat_map frame_bytes g ++ y) each_g.0 (sym is_f ∙ is_g ∙ append_assoc (frame_bytes frame) (flat_map frame_bytes g) y))
stops_nowhere here bytes (frame ∷ f) [] x y place each_f each_g owed_f owed_g is_f is_g short stop =
    goes_past here y (flat_map frame_bytes f ++ x) frame place each_f.0 owed_f.0 (sym is_g ∙ is_f ∙ append_assoc (frame_bytes frame) (flat_map frame_bytes f) x) stop
stops_nowhere here bytes (frame ∷ f) (other ∷ g) x y place each_f each_g owed_f owed_g is_f is_g short stop =
    let once = one_form frame other (flat_map frame_bytes f ++ x) (flat_map frame_bytes g ++ y) each_f.0 each_g.0
    (sym (append_assoc (frame_bytes frame) (flat_map frame_bytes f) x) ∙ sym is_f ∙ is_g ∙ append_assoc (frame_bytes other) (flat_map frame_bytes g) y) in
    let P : Frame → Type 0 = λ o. AreOwed (behind_frame here o) g in
    let Q : Frame → Type 0 = λ o. StopsIn (behind_frames (behind_frame here o) g) y place in
    stops_nowhere (behind_frame here frame) (flat_map frame_bytes f ++ x) f g x y place each_f.1 each_g.1 owed_f.1 (subst P (sym once.0) owed_g.1) refl once.1 short (subst Q (sym once.0) stop)

pub no_stop : (s : State) (e : Exchange) → StandsFor s e → IsShort s.unread → (place : ℕ) → StopsAt e.received place → ⊥
no_stop s e stands short place stops =
    stops_nowhere at_first e.received stands.frames stops.frames s.unread stops.rest stops.within stands.front.each stops.front.each stands.front.owed stops.front.owed
    stands.front.whole stops.front.whole short stops.stop

end_of : (passed frames within : ℕ) → passed ≡ up_to_end frames → up_to_end (passed + within) ≡ up_to_end (frames + within)
end_of passed frames within is = omega (arith, is)

-- reading stops in what is unread
pub stops_at : (s : State) (e : Exchange) (within told : ℕ) → StandsFor s e → StopsIn s.here s.unread within → told ≡ up_to_end (s.passed + within) →
    (place : ℕ) × (StopsAt e.received place × (told ≡ up_to_end place))
stops_at s e within told stands stop is =
    let P : Standing → Type 0 = λ h. StopsIn h s.unread within in (
      length (flat_map frame_bytes stands.frames) + within,
      (
        record { frames = stands.frames; rest = s.unread; front = stands.front; within = within; stop = subst P stands.here stop; is = refl },
        is ∙ end_of s.passed (length (flat_map frame_bytes stands.frames)) within stands.passed,
      ),
    )
