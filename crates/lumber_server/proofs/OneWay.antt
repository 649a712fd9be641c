-- Bytes are received as one list of frames.
use Rattle.std.proofs.Common.{◌≡◌, ℕ, List, [], ◌∷◌, ◌++◌, length, refl, sym, ◌∙◌, ap, subst, append_assoc}
use Rattle.std.specs.List.{AllByRecursion, flat_map}
use Rattle.lumber_frame.specs.declared.frame.Frame.{Frame}
use Rattle.lumber_frame.specs.Frame.{BeginsWithFrame, IsFrame, frame_bytes}
use Rattle.lumber_frame.proofs.Frames.{begins_from, one_form}
use Rattle.lumber_server.specs.Received.{AreOwed, AreReceived, IsOwed, Standing, at_first, behind_frame, behind_frames}

-- nothing more is owed in front of these bytes
abbrev IsAll : Standing → List ℕ → Type 0
IsAll here rest = (frame : Frame) (used : ℕ) → BeginsWithFrame rest frame used → IsOwed here frame → ⊥

one_way : (here : Standing) (bytes : List ℕ) (f g : List Frame) (x y : List ℕ) → AllByRecursion IsFrame f → AllByRecursion IsFrame g → AreOwed here f → AreOwed here g →
    bytes ≡ flat_map frame_bytes f ++ x → bytes ≡ flat_map frame_bytes g ++ y → IsAll (behind_frames here f) x → IsAll (behind_frames here g) y → f ≡ g
one_way here bytes [] [] x y each_f each_g owed_f owed_g is_f is_g all_f all_g = refl
one_way here bytes [] (frame ∷ g) x y each_f each_g owed_f owed_g is_f is_g all_f all_g =
    absurd (all_f frame (length (frame_bytes frame))
    (begins_from x frame (flat_map frame_bytes g ++ y) each_g.0 (sym is_f ∙ is_g ∙ append_assoc (frame_bytes frame) (flat_map frame_bytes g) y)) owed_g.0)
one_way here bytes (frame ∷ f) [] x y each_f each_g owed_f owed_g is_f is_g all_f all_g =
    absurd (all_g frame (length (frame_bytes frame))
    (begins_from y frame (flat_map frame_bytes f ++ x) each_f.0 (sym is_g ∙ is_f ∙ append_assoc (frame_bytes frame) (flat_map frame_bytes f) x)) owed_f.0)
one_way here bytes (frame ∷ f) (other ∷ g) x y each_f each_g owed_f owed_g is_f is_g all_f all_g =
    let once = one_form frame other (flat_map frame_bytes f ++ x) (flat_map frame_bytes g ++ y) each_f.0 each_g.0
    (sym (append_assoc (frame_bytes frame) (flat_map frame_bytes f) x) ∙ sym is_f ∙ is_g ∙ append_assoc (frame_bytes other) (flat_map frame_bytes g) y) in
    let P : Frame → Type 0 = λ o. AreOwed (behind_frame here o) g in
    let Q : Frame → Type 0 = λ o. IsAll (behind_frames (behind_frame here o) g) y in
    let tails = one_way (behind_frame here frame) (flat_map frame_bytes f ++ x) f g x y each_f.1 each_g.1 owed_f.1 (subst P (sym once.0) owed_g.1) refl once.1 all_f (subst Q (sym once.0) all_g) in
    ap (λ (l : List Frame). frame ∷ l) tails ∙ ap (λ (o : Frame). o ∷ g) once.0

pub received_once : (bytes : List ℕ) (f g : List Frame) → AreReceived bytes f → AreReceived bytes g → f ≡ g
received_once bytes f g first second =
    one_way at_first bytes f g first.rest second.rest first.front.each second.front.each first.front.owed second.front.owed first.front.whole second.front.whole first.no_more second.no_more
