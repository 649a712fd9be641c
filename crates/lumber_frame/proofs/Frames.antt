-- The bytes of frames: bytes are a frame's in one way at most, and where they are.
use Rattle.std.proofs.Common.{◌≡◌, ℕ, zero, suc, ◌^◌, ◌<◌, ◌≤◌, List, [], ◌∷◌, ◌++◌, length, get_or, slice_index, slice_range, take, drop, refl, sym, ap, subst, ◌∙◌, arith, inl, inr}
use Rattle.std.specs.Int.{w32, from_be_bytes, to_be_bytes}
use Rattle.std.proofs.lemmas.List.{take_at, drop_at, take-append-drop, length-append, length-take, length-drop, take-append-le, drop-append-le, get_or_append_left}
use Rattle.std.proofs.lemmas.Nat.{be_bytes_4, from_be_bytes-to_be_bytes_4}
use Rattle.wire_base.specs.declared.parcel.TheConstants.{MAX_PAYLOAD}
use Rattle.lumber_frame.specs.declared.frame.Frame.{Frame}
use Rattle.lumber_frame.specs.declared.frame.Frame.TheVariants.{Window, Json, Ack}
use Rattle.lumber_frame.specs.Frame.{IsFrame, BeginsWithFrame, frame_bytes}
use Rattle.lumber_frame.specs.Fault.{IsBadAt}

abbrev pub IsBytes : List ℕ → Type 0
IsBytes bytes = (i : ℕ) → get_or bytes i 0 < 256

-- two numbers before bytes are one, and so is what follows them
number_once : (m n : ℕ) (x y : List ℕ) → m < 2 ^ 32 → n < 2 ^ 32 → to_be_bytes w32 m ++ x ≡ to_be_bytes w32 n ++ y → (m ≡ n) × (x ≡ y)
number_once m n x y small_m small_n same =
    let cells : to_be_bytes w32 m ≡ to_be_bytes w32 n = cc in
    (sym (from_be_bytes-to_be_bytes_4 m small_m) ∙ ap (from_be_bytes w32) cells ∙ from_be_bytes-to_be_bytes_4 n small_n, cc)

-- two payloads of one length before bytes are one, and so is what follows them
payload_once : (p q x y : List ℕ) → length p ≡ length q → p ++ x ≡ q ++ y → (p ≡ q) × (x ≡ y)
payload_once p q x y lengths same = (
  sym (take_at p x (length p) refl) ∙ ap (take (length p)) same ∙ take_at q y (length p) (sym lengths),
  sym (drop_at p x (length p) refl) ∙ ap (drop (length p)) same ∙ drop_at q y (length p) (sym lengths),
)

-- bytes that are the same have the same kind
kind_once : (x y : List ℕ) → x ≡ y → slice_index x 1 ≡ slice_index y 1
kind_once x y same = ap (λ (bytes : List ℕ). slice_index bytes 1) same

-- no frame's bytes begin another's
pub one_form : (f g : Frame) (x y : List ℕ) → IsFrame f → IsFrame g → frame_bytes f ++ x ≡ frame_bytes g ++ y → (f ≡ g) × (x ≡ y)
one_form (Window m) (Window n) x y fits_f fits_g same =
    let numbers : to_be_bytes w32 m ++ x ≡ to_be_bytes w32 n ++ y = cc in
    let once = number_once m n x y fits_f fits_g numbers in
    (ap Window once.0, once.1)
one_form (Ack m) (Ack n) x y fits_f fits_g same =
    let numbers : to_be_bytes w32 m ++ x ≡ to_be_bytes w32 n ++ y = cc in
    let once = number_once m n x y fits_f fits_g numbers in
    (ap Ack once.0, once.1)
one_form (Json s p) (Json t q) x y fits_f fits_g same =
    let numbers : to_be_bytes w32 s ++ (to_be_bytes w32 (length p) ++ (p ++ x)) ≡ to_be_bytes w32 t ++ (to_be_bytes w32 (length q) ++ (q ++ y)) = cc in
    let sequences = number_once s t _ _ fits_f.0 fits_g.0 numbers in
    let lengths = number_once (length p) (length q) _ _ (omega arith) (omega arith) sequences.1 in
    let payloads = payload_once p q x y lengths.0 lengths.1 in
    let head : s ≡ t = sequences.0 in
    let body : p ≡ q = payloads.0 in
    (cc, payloads.1)
one_form (Window m) (Json t q) x y fits_f fits_g same =
    absurd (omega (arith, kind_once (frame_bytes (Window m) ++ x) (frame_bytes (Json t q) ++ y) same))
one_form (Window m) (Ack n) x y fits_f fits_g same =
    absurd (omega (arith, kind_once (frame_bytes (Window m) ++ x) (frame_bytes (Ack n) ++ y) same))
one_form (Json s p) (Window n) x y fits_f fits_g same =
    absurd (omega (arith, kind_once (frame_bytes (Json s p) ++ x) (frame_bytes (Window n) ++ y) same))
one_form (Json s p) (Ack n) x y fits_f fits_g same =
    absurd (omega (arith, kind_once (frame_bytes (Json s p) ++ x) (frame_bytes (Ack n) ++ y) same))
one_form (Ack m) (Window n) x y fits_f fits_g same =
    absurd (omega (arith, kind_once (frame_bytes (Ack m) ++ x) (frame_bytes (Window n) ++ y) same))
one_form (Ack m) (Json t q) x y fits_f fits_g same =
    absurd (omega (arith, kind_once (frame_bytes (Ack m) ++ x) (frame_bytes (Json t q) ++ y) same))

-- what a number was read from is that number's bytes
pub number_back : (a b c d : ℕ) → a < 256 → b < 256 → c < 256 → d < 256 → to_be_bytes w32 (from_be_bytes w32 (a ∷ b ∷ c ∷ d ∷ [])) ≡ a ∷ b ∷ c ∷ d ∷ []
number_back a b c d small_a small_b small_c small_d = be_bytes_4 (a ∷ b ∷ c ∷ d ∷ []) _ refl small refl
  where
    small : (i : ℕ) → get_or (a ∷ b ∷ c ∷ d ∷ []) i 0 < 256
    small zero = small_a
    small (suc zero) = small_b
    small (suc (suc zero)) = small_c
    small (suc (suc (suc zero))) = small_d
    small (suc (suc (suc (suc i)))) = omega arith

-- what begins with a frame is its bytes, and what follows them
pub spelled : (bytes : List ℕ) (frame : Frame) (used : ℕ) → BeginsWithFrame bytes frame used → bytes ≡ frame_bytes frame ++ drop used bytes
spelled bytes frame used begins = sym (take-append-drop used bytes) ∙ ap (λ (front : List ℕ). front ++ drop used bytes) begins.front

-- bytes begin with one frame at most
pub frame_once : (bytes : List ℕ) (f g : Frame) (m n : ℕ) → BeginsWithFrame bytes f m → BeginsWithFrame bytes g n → (f ≡ g) × (m ≡ n)
frame_once bytes f g m n first second =
    let once = one_form f g (drop m bytes) (drop n bytes) first.fits second.fits (sym (spelled bytes f m first) ∙ spelled bytes g n second) in
    (once.0, first.size ∙ ap (λ (frame : Frame). length (frame_bytes frame)) once.0 ∙ sym second.size)

-- a frame's bytes begin with it, whatever follows
pub written : (frame : Frame) (rest : List ℕ) → IsFrame frame → BeginsWithFrame (frame_bytes frame ++ rest) frame (length (frame_bytes frame))
written frame rest fits = record { fits = fits; size = refl; front = take_at (frame_bytes frame) rest (length (frame_bytes frame)) refl }

-- a frame's bytes are refused nowhere
good : (frame : Frame) (rest : List ℕ) (at : ℕ) → IsFrame frame → IsBadAt (frame_bytes frame ++ rest) at → ⊥
good (Window n) rest at fits (inl h) = h.1.version refl
good (Window n) rest at fits (inr (inl h)) = h.1.no_window refl
good (Window n) rest at fits (inr (inr h)) = absurd (omega (arith, h.1.kind))
good (Ack n) rest at fits (inl h) = h.1.version refl
good (Ack n) rest at fits (inr (inl h)) = h.1.no_acknowledgement refl
good (Ack n) rest at fits (inr (inr h)) = absurd (omega (arith, h.1.kind))
good (Json s p) rest at fits (inl h) = h.1.version refl
good (Json s p) rest at fits (inr (inl h)) = h.1.no_json refl
good (Json s p) rest at fits (inr (inr h)) =
    let size : from_be_bytes w32 (to_be_bytes w32 (length p)) ≡ length p = from_be_bytes-to_be_bytes_4 (length p) (omega (arith, fits.1)) in
    let long : MAX_PAYLOAD < from_be_bytes w32 (to_be_bytes w32 (length p)) = h.1.size in
    absurd (omega (arith, fits.1))

-- what begins with a frame is refused nowhere
pub frame_is_good : (bytes : List ℕ) (frame : Frame) (used at : ℕ) → BeginsWithFrame bytes frame used → IsBadAt bytes at → ⊥
frame_is_good bytes frame used at begins bad =
    good frame (drop used bytes) at begins.fits (subst (λ (b : List ℕ). IsBadAt b at) (spelled bytes frame used begins) bad)

-- a frame lies within the bytes that begin with it
pub within : (bytes : List ℕ) (frame : Frame) (used : ℕ) → BeginsWithFrame bytes frame used → used ≤ length bytes
within bytes frame used begins =
    omega (arith, ap (λ (front : List ℕ). length front) begins.front, length-take used bytes, begins.size)

-- a whole frame stays, whatever follows
pub frame_stays : (bytes more : List ℕ) (frame : Frame) (used : ℕ) → BeginsWithFrame bytes frame used → BeginsWithFrame (bytes ++ more) frame used
frame_stays bytes more frame used begins =
    record { fits = begins.fits; size = begins.size; front = take-append-le used bytes more (within bytes frame used begins) ∙ begins.front }

-- a byte that is there stays, whatever follows
pub byte_stays : (bytes more : List ℕ) (i : ℕ) → i < length bytes → slice_index (bytes ++ more) i ≡ slice_index bytes i
byte_stays bytes more i there = get_or_append_left bytes more 0 i there

-- bytes that are there stay, whatever follows
range_stays : (bytes more : List ℕ) → 10 ≤ length bytes → slice_range (bytes ++ more) 6 10 ≡ slice_range bytes 6 10
range_stays bytes more there =
    ap (take 4) (drop-append-le 6 bytes more (omega arith)) ∙ take-append-le 4 (drop 6 bytes) more (omega (arith, length-drop 6 bytes))

-- a fault stays, whatever follows
pub fault_stays : (bytes more : List ℕ) (at : ℕ) → IsBadAt bytes at → IsBadAt (bytes ++ more) at
fault_stays bytes more at (inl h) =
    let first = byte_stays bytes more 0 h.1.there in
    inl (h.0, record { there = omega (arith, length-append bytes more, h.1.there); version = λ e. h.1.version (sym first ∙ e) })
fault_stays bytes more at (inr (inl h)) =
    let first = byte_stays bytes more 0 (omega (arith, h.1.there)) in
    let second = byte_stays bytes more 1 h.1.there in
    inr (inl (
      h.0,
      record {
        there = omega (arith, length-append bytes more, h.1.there);
        version = first ∙ h.1.version;
        no_window = λ e. h.1.no_window (sym second ∙ e);
        no_json = λ e. h.1.no_json (sym second ∙ e);
        no_acknowledgement = λ e. h.1.no_acknowledgement (sym second ∙ e);
      },
    ))
fault_stays bytes more at (inr (inr h)) =
    let first = byte_stays bytes more 0 (omega (arith, h.1.there)) in
    let second = byte_stays bytes more 1 (omega (arith, h.1.there)) in
    let number = range_stays bytes more h.1.there in
    inr (inr (
      h.0,
      record {
        there = omega (arith, length-append bytes more, h.1.there);
        version = first ∙ h.1.version;
        kind = second ∙ h.1.kind;
        size = subst (λ (four : List ℕ). MAX_PAYLOAD < from_be_bytes w32 four) (sym number) h.1.size;
      },
    ))

-- bytes that are a frame's and then a rest begin with it
pub begins_from : (bytes : List ℕ) (frame : Frame) (rest : List ℕ) → IsFrame frame → bytes ≡ frame_bytes frame ++ rest → BeginsWithFrame bytes frame (length (frame_bytes frame))
begins_from bytes frame rest fits is =
    subst (λ (all : List ℕ). BeginsWithFrame all frame (length (frame_bytes frame))) (sym is) (written frame rest fits)
