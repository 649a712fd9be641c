-- The bytes of windows: where a window is in front, and where none is.
use Rattle.std.proofs.Common.{◌≡◌, ℕ, suc, ◌+◌, ◌-◌, ◌^◌, ◌<◌, ◌≤◌, List, [], ◌∷◌, ◌++◌, length, refl, sym, ap, subst, ◌∙◌, append_assoc, arith}
use Rattle.std.specs.List.{AllByRecursion, flat_map}
use Rattle.std.proofs.lemmas.List.{length-append, append-nil}
use Rattle.wire_base.specs.declared.parcel.TheConstants.{MAX_PAYLOAD}
use Rattle.lumber_frame.specs.declared.frame.Frame.TheVariants.{Window, Json}
use Rattle.lumber_frame.specs.Frame.{IsFrame, frame_bytes}
use Rattle.lumber_frame.specs.Window.{numbered, window_bytes, IsNumbered, IsWindow, BeginsWithWindow, AreWindows}
use Rattle.lumber_frame.proofs.Frames.{one_form}

-- one more payload after others
numbered-append : (sequence : ℕ) (payloads : List (List ℕ)) (payload : List ℕ) → numbered sequence (payloads ++ payload ∷ []) ≡ numbered sequence payloads ++ frame_bytes (Json (sequence + length payloads) payload)
numbered-append sequence [] payload =
    let same : sequence ≡ sequence + 0 = omega arith in
    append-nil (frame_bytes (Json sequence payload)) ∙ ap (λ (k : ℕ). frame_bytes (Json k payload)) same
numbered-append sequence (first ∷ payloads) payload =
    let front = frame_bytes (Json sequence first) in
    let others = numbered (suc sequence) payloads in
    let same : suc sequence + length payloads ≡ sequence + suc (length payloads) = omega arith in
    ap (λ (tail : List ℕ). front ++ tail) (numbered-append (suc sequence) payloads payload) ∙ sym (append_assoc front others (frame_bytes (Json (suc sequence + length payloads) payload))) ∙ ap (λ (k : ℕ). (front ++ others) ++ frame_bytes (Json k payload)) same

all-append : {A : Type 0} (P : A → Type 0) (xs : List A) (x : A) → AllByRecursion P xs → P x → AllByRecursion P (xs ++ x ∷ [])
all-append P [] x all one = (one, all)
all-append P (y ∷ ys) x all one = (all.0, all-append P ys x all.1 one)

-- one more payload is taken
pub one_more : (before : ℕ) (bytes rest after payload : List ℕ) (payloads : List (List ℕ)) → IsNumbered 1 before bytes payloads rest → IsFrame (Json (before + 1) payload) → rest ≡ frame_bytes (Json (before + 1) payload) ++ after → IsNumbered 1 (before + 1) bytes (payloads ++ payload ∷ []) after
one_more before bytes rest after payload payloads taken fits is =
    let number : 1 + length payloads ≡ before + 1 = omega (arith, taken.counted) in
    let appended = numbered-append 1 payloads payload ∙ ap (λ (k : ℕ). numbered 1 payloads ++ frame_bytes (Json k payload)) number in
    record {
      counted = omega (arith, length-append payloads (payload ∷ []), taken.counted);
      each = all-append _ payloads payload taken.each fits.1;
      front = taken.front ∙ ap (λ (tail : List ℕ). numbered 1 payloads ++ tail) is ∙ sym (append_assoc (numbered 1 payloads) (frame_bytes (Json (before + 1) payload)) after) ∙ ap (λ (all : List ℕ). all ++ after) (sym appended);
    }

-- the next payload, if one is still wanted, is in front
pub next_of : (sequence count : ℕ) (bytes : List ℕ) (payloads : List (List ℕ)) (rest : List ℕ) → 0 < count → IsNumbered sequence count bytes payloads rest
    → (payload : List ℕ) × (others : List (List ℕ)) × (length payload ≤ MAX_PAYLOAD) × (bytes ≡ frame_bytes (Json sequence payload) ++ (numbered (suc sequence) others ++ rest)) × IsNumbered (suc sequence) (count - 1) (numbered (suc sequence) others ++ rest) others rest
next_of sequence count bytes [] rest some is = absurd (omega (arith, is.counted))
next_of sequence count bytes (payload ∷ others) rest some is =
    (payload, others, is.each.0, is.front ∙ append_assoc (frame_bytes (Json sequence payload)) (numbered (suc sequence) others) rest, record { counted = omega (arith, is.counted); each = is.each.1; front = refl })

-- if the next payload is not there, so many are not
pub not_ahead : (sequence count : ℕ) (bytes : List ℕ) (payloads : List (List ℕ)) (rest : List ℕ) → 0 < count → sequence < 2 ^ 32 → ((payload after : List ℕ) → IsFrame (Json sequence payload) → bytes ≡ frame_bytes (Json sequence payload) ++ after → ⊥) → IsNumbered sequence count bytes payloads rest → ⊥
not_ahead sequence count bytes payloads rest some small none is =
    let next = next_of sequence count bytes payloads rest some is in
    none next.0 _ (small, next.2) next.3

-- once the next payload is taken, the others are ahead
pub ahead : (sequence count : ℕ) (bytes after payload : List ℕ) (payloads : List (List ℕ)) (rest : List ℕ) → 0 < count → sequence < 2 ^ 32 → IsFrame (Json sequence payload) → bytes ≡ frame_bytes (Json sequence payload) ++ after → IsNumbered sequence count bytes payloads rest → (others : List (List ℕ)) × IsNumbered (suc sequence) (count - 1) after others rest
ahead sequence count bytes after payload payloads rest some small fits is numbered_is =
    let next = next_of sequence count bytes payloads rest some numbered_is in
    let once = one_form (Json sequence next.0) (Json sequence payload) (numbered (suc sequence) next.1 ++ rest) after (small, next.2) fits (sym next.3 ∙ is) in
    (next.1, subst (λ (there : List ℕ). IsNumbered (suc sequence) (count - 1) there next.1 rest) once.1 next.4)

-- two window frames that are one have one count
window_count : (m n : ℕ) → Window m ≡ Window n → m ≡ n
window_count m n same = cc

-- numbers that are the same number the same
pub renumbered : (a b m n : ℕ) (bytes : List ℕ) (payloads : List (List ℕ)) (rest : List ℕ) → a ≡ b → m ≡ n → IsNumbered a m bytes payloads rest → IsNumbered b n bytes payloads rest
renumbered a b m n bytes payloads rest sequences counts is =
    record { counted = is.counted ∙ counts; each = is.each; front = is.front ∙ ap (λ (k : ℕ). numbered k payloads ++ rest) sequences }

-- ---- bytes are read as windows in one way at most

-- what JSON frames of one count and the rest spell
numbered_once : (sequence : ℕ) (p q : List (List ℕ)) (x y : List ℕ) → sequence + length p ≤ 2 ^ 32 → length p ≡ length q → AllByRecursion (λ payload. length payload ≤ MAX_PAYLOAD) p → AllByRecursion (λ payload. length payload ≤ MAX_PAYLOAD) q → numbered sequence p ++ x ≡ numbered sequence q ++ y → (p ≡ q) × (x ≡ y)
numbered_once sequence [] [] x y small counts each_p each_q same = (refl, same)
numbered_once sequence [] (b ∷ q) x y small counts each_p each_q same = absurd (omega (arith, counts))
numbered_once sequence (a ∷ p) [] x y small counts each_p each_q same = absurd (omega (arith, counts))
numbered_once sequence (a ∷ p) (b ∷ q) x y small counts each_p each_q same =
    let first = sym (append_assoc (frame_bytes (Json sequence a)) (numbered (suc sequence) p) x) ∙ same ∙ append_assoc (frame_bytes (Json sequence b)) (numbered (suc sequence) q) y in
    let once = one_form (Json sequence a) (Json sequence b) (numbered (suc sequence) p ++ x) (numbered (suc sequence) q ++ y) (omega arith, each_p.0) (omega arith, each_q.0) first in
    let others = numbered_once (suc sequence) p q x y (omega arith) (omega arith) each_p.1 each_q.1 once.1 in
    let payload : a ≡ b = cc (once.0) in
    let payloads : p ≡ q = others.0 in
    (cc, others.1)

-- no window's bytes begin another's
pub window_once : (p q : List (List ℕ)) (x y : List ℕ) → IsWindow p → IsWindow q → window_bytes p ++ x ≡ window_bytes q ++ y → (p ≡ q) × (x ≡ y)
window_once p q x y is_p is_q same =
    let first = sym (append_assoc (frame_bytes (Window (length p))) (numbered 1 p) x) ∙ same ∙ append_assoc (frame_bytes (Window (length q))) (numbered 1 q) y in
    let once = one_form (Window (length p)) (Window (length q)) (numbered 1 p ++ x) (numbered 1 q ++ y) is_p.few is_q.few first in
    numbered_once 1 p q x y (omega (arith, is_p.few)) (window_count (length p) (length q) once.0) is_p.each is_q.each once.1

windows_once : (v w : List (List (List ℕ))) (x y : List ℕ) → AllByRecursion IsWindow v → AllByRecursion IsWindow w → ((p : List (List ℕ)) (more : List ℕ) → BeginsWithWindow x p more → ⊥) → ((p : List (List ℕ)) (more : List ℕ) → BeginsWithWindow y p more → ⊥) → flat_map window_bytes v ++ x ≡ flat_map window_bytes w ++ y → v ≡ w
windows_once [] [] x y each_v each_w cut_x cut_y same = refl
windows_once [] (q ∷ w) x y each_v each_w cut_x cut_y same =
    absurd (cut_x q (flat_map window_bytes w ++ y) (record { is = each_w.0; front = same ∙ append_assoc (window_bytes q) (flat_map window_bytes w) y }))
windows_once (p ∷ v) [] x y each_v each_w cut_x cut_y same =
    absurd (cut_y p (flat_map window_bytes v ++ x) (record { is = each_v.0; front = sym same ∙ append_assoc (window_bytes p) (flat_map window_bytes v) x }))
windows_once (p ∷ v) (q ∷ w) x y each_v each_w cut_x cut_y same =
    let first = sym (append_assoc (window_bytes p) (flat_map window_bytes v) x) ∙ same ∙ append_assoc (window_bytes q) (flat_map window_bytes w) y in
    let once = window_once p q (flat_map window_bytes v ++ x) (flat_map window_bytes w ++ y) each_v.0 each_w.0 first in
    let window : p ≡ q = once.0 in
    let others : v ≡ w = windows_once v w x y each_v.1 each_w.1 cut_x cut_y once.1 in
    cc

-- bytes are these windows and no others
pub are_once : (bytes : List ℕ) (v w : List (List (List ℕ))) → AreWindows bytes v → AreWindows bytes w → v ≡ w
are_once bytes v w first second = windows_once v w first.rest second.rest first.each second.each first.cut second.cut (sym first.whole ∙ second.whole)
