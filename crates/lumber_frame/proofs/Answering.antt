-- What the code reads of bytes, windows and acknowledgements, one after the other.
use Rattle.std.proofs.Common.{◌≡◌, ℕ, zero, suc, ◌+◌, ◌-◌, ◌<◌, ◌≤◌, ◌&&◌, Bool, true, false, cond, eqb, leb, max, List, [], ◌∷◌, ◌++◌, length, get_or, set, replicate, take, drop, map, sum_by, refl, sym, ap, ◌∙◌, append_assoc, arith, inl, inr, add-one}
use Rattle.std.specs.Int.{w32, from_be_bytes, to_be_bytes}
use Rattle.std.proofs.Math.Seq.{drop-cons}
use Rattle.std.proofs.lemmas.List.Sums.{sum_by-cons}
use Rattle.std.proofs.lemmas.Bool.{eqb-true, le-leb}
use Rattle.std.proofs.lemmas.Bool.Decides.{leb_tells, eqb_tells}
use Rattle.std.proofs.lemmas.List.{length-append, length-drop, length-take, drop_more, drop-drop, get_or-map, get_or-replicate, get_or-set_other, get_or-set_same, get_or-take, take_all}
use Rattle.std.proofs.lemmas.Nat.{from_be_bytes-to_be_bytes_4}
use Rattle.wire_base.specs.declared.talk.Piece.{Piece}
use Rattle.lumber_frame.specs.declared.frame.Frame.TheVariants.{Ack}
use Rattle.lumber_frame.specs.Frame.{BeginsWithFrame, frame_bytes}
use Rattle.lumber_frame.specs.Talk.{out_before}
use Rattle.lumber_frame.specs.Window.{numbered, window_bytes}
use Rattle.lumber_frame.specs.Acknowledged.{Answer, acknowledgements, answers, asked, count_at, greatest, oldest_open, payloads_by, whole_within}
use Rattle.lumber_frame.proofs.Asking.{answers_next, answers_stop, asked_most, greatest_elsewhere, greatest_here, whole_most}
use Rattle.lumber_frame.proofs.Frames.{IsBytes, within}
use Rattle.lumber_frame.proofs.Readings.{ack_front}

-- ---- the numbers

-- an acknowledgement in front is the first
pub ack_step : (bytes : List ℕ) (n used : ℕ) → BeginsWithFrame bytes (Ack n) used → (6 ≤ length bytes) × (acknowledgements bytes ≡ n ∷ acknowledgements (drop 6 bytes))
ack_step bytes n used begins = (omega (arith, within bytes (Ack n) used begins, begins.size), by_cells bytes (sym (ap (λ (k : ℕ). take k bytes) begins.size) ∙ begins.front))
  where
    by_cells : (bytes : List ℕ) → take 6 bytes ≡ frame_bytes (Ack n) → acknowledgements bytes ≡ n ∷ acknowledgements (drop 6 bytes)
    by_cells [] front = absurd cc
    by_cells (v ∷ []) front = absurd cc
    by_cells (v ∷ k ∷ []) front = absurd cc
    by_cells (v ∷ k ∷ a ∷ []) front = absurd cc
    by_cells (v ∷ k ∷ a ∷ b ∷ []) front = absurd cc
    by_cells (v ∷ k ∷ a ∷ b ∷ c ∷ []) front = absurd cc
    by_cells (v ∷ k ∷ a ∷ b ∷ c ∷ d ∷ bytes) front =
        let version : v ≡ 0x32 = cc in
        let kind : k ≡ 0x41 = cc in
        let cells : a ∷ b ∷ c ∷ d ∷ [] ≡ to_be_bytes w32 n = cc in
        let number : from_be_bytes w32 (a ∷ b ∷ c ∷ d ∷ []) ≡ n = ap (from_be_bytes w32) cells ∙ from_be_bytes-to_be_bytes_4 n begins.fits in
        rw (version, kind) (ap (λ (m : ℕ). m ∷ acknowledgements bytes) number)

pub unless : {A : Type 0} (b : Bool) (xs ys : A) → (b ≡ true → ⊥) → cond b xs ys ≡ ys
unless true xs ys never = absurd (never refl)
unless false xs ys never = refl

pub both : (a b : Bool) → (a && b) ≡ true → (a ≡ true) × (b ≡ true)
both true true is = (refl, refl)
both true false is = absurd cc
both false b is = absurd cc

-- with no acknowledgement in front there are none
pub no_ack : (bytes : List ℕ) → IsBytes bytes → ((n : ℕ) → BeginsWithFrame bytes (Ack n) 6 → ⊥) → acknowledgements bytes ≡ []
no_ack [] small none = refl
no_ack (v ∷ []) small none = refl
no_ack (v ∷ k ∷ []) small none = refl
no_ack (v ∷ k ∷ a ∷ []) small none = refl
no_ack (v ∷ k ∷ a ∷ b ∷ []) small none = refl
no_ack (v ∷ k ∷ a ∷ b ∷ c ∷ []) small none = refl
no_ack (v ∷ k ∷ a ∷ b ∷ c ∷ d ∷ bytes) small none =
    unless (eqb v 0x32 && eqb k 0x41) (from_be_bytes w32 (a ∷ b ∷ c ∷ d ∷ []) ∷ acknowledgements bytes) [] (λ is.
    let tests = both (eqb v 0x32) (eqb k 0x41) is in
    none _ (ack_front (v ∷ k ∷ a ∷ b ∷ c ∷ d ∷ bytes) _ small (omega arith) (eqb-true v 0x32 tests.0) (eqb-true k 0x41 tests.1) refl))

-- ---- windows by their lengths

length-numbered : (sequence : ℕ) (payloads : List (List ℕ)) → length (numbered sequence payloads) ≡ sum_by (λ payload. 10 + length payload) payloads
length-numbered sequence [] = refl
length-numbered sequence (payload ∷ payloads) =
    omega (arith, length-append payload (numbered (suc sequence) payloads), length-numbered (suc sequence) payloads, sum_by-cons (λ (p : List ℕ). 10 + length p) payload payloads)

-- the bytes of a window are six, and ten for each payload beside its own
pub length-window : (payloads : List (List ℕ)) → length (window_bytes payloads) ≡ 6 + sum_by (λ payload. 10 + length payload) payloads
length-window payloads = omega (arith, length-numbered 1 payloads)

-- the next window
pub whole_more : (windows : List (List (List ℕ))) (i out : ℕ) → i < length windows → whole_within (drop i windows) out ≡ cond (leb (length (window_bytes (get_or windows i []))) out) (suc (whole_within (drop (i + 1) windows) (out - length (window_bytes (get_or windows i []))))) 0
whole_more windows i out there = rw (add-one, drop-cons windows i [] there) refl

above : (a b : ℕ) → b < a → leb a b ≡ false
above a b more =
    elim (leb_tells a b) [
      | inl is ↦ absurd (omega (arith, is.1))
      | inr is ↦ is.0
    ]

-- ---- what the code reads of a list of windows

-- the item at an index, seen by f
pub item_of : {X : Type 0} (f : X → List (List ℕ)) (xs : List X) (i : ℕ) (x : X) → i < length xs → x ≡ get_or xs i x → get_or (map f xs) i [] ≡ f x
item_of f xs i x there is = get_or-map f xs i x [] there ∙ ap f (sym is)

pub whole_stops : (windows : List (List (List ℕ))) (i out : ℕ) (window : List (List ℕ)) → i < length windows → get_or windows i [] ≡ window → (length (window_bytes window) ≤ out → ⊥) → whole_within (drop i windows) out ≡ 0
whole_stops windows i out window there is short =
    let test : leb (length (window_bytes (get_or windows i []))) out ≡ false = above _ _ (omega (arith, ap (λ (w : List (List ℕ)). length (window_bytes w)) is, short)) in
    whole_more windows i out there ∙ ap (λ (b : Bool). cond b (suc (whole_within (drop (i + 1) windows) (out - length (window_bytes (get_or windows i []))))) 0) test

pub whole_next : (windows : List (List (List ℕ))) (i out after : ℕ) (window : List (List ℕ)) → i < length windows → get_or windows i [] ≡ window → length (window_bytes window) ≤ out → after ≡ out - length (window_bytes window) → whole_within (drop i windows) out ≡ suc (whole_within (drop (i + 1) windows) after)
whole_next windows i out after window there is long after_is =
    let size = ap (λ (w : List (List ℕ)). length (window_bytes w)) is in
    let test : leb (length (window_bytes (get_or windows i []))) out ≡ true = le-leb _ _ (omega (arith, size)) in
    let left : out - length (window_bytes (get_or windows i [])) ≡ after = ap (λ (n : ℕ). out - n) size ∙ sym after_is in
    whole_more windows i out there ∙ ap (λ (b : Bool). cond b (suc (whole_within (drop (i + 1) windows) (out - length (window_bytes (get_or windows i []))))) 0) test ∙ ap (λ (n : ℕ). suc (whole_within (drop (i + 1) windows) n)) left

pub count_is : (windows : List (List (List ℕ))) (number : ℕ) (window : List (List ℕ)) → (number ≡ 0 → ⊥) → get_or windows (number - 1) [] ≡ window → count_at windows number ≡ length window
count_is windows zero window some is = absurd (some refl)
count_is windows (suc before) window some is =
    let one : suc before - 1 ≡ before = omega arith in
    ap length (ap (λ (i : ℕ). get_or windows i []) (sym one) ∙ is)

-- ---- loops

-- the rest of a slice, as the code takes it
rest_is : (bytes : List ℕ) (place : ℕ) → take (length bytes - place) (drop place bytes) ≡ drop place bytes
rest_is bytes place = take_all (length bytes - place) (drop place bytes) (omega (arith, length-drop place bytes))

-- the greatest numbers that were given so far, each under its window's number, and what is still to come
pub record AreGreatest (windows : List (List (List ℕ))) (talk : List Piece) (received : List ℕ) (place : ℕ) (mosts : List ℕ) : Type 0 where
  pub given : List Answer
  pub total : answers windows talk given place (acknowledgements (drop place received)) ≡ answers windows talk [] 0 (acknowledgements received)
  pub are : (window : ℕ) → window ≤ length windows → get_or mosts window 0 ≡ greatest window given

-- none so far
pub greatest_start : (windows : List (List (List ℕ))) (talk : List Piece) (received mosts : List ℕ) → mosts ≡ replicate (length windows + 1) 0 → AreGreatest windows talk received 0 mosts
greatest_start windows talk received mosts none =
    record { given = []; total = refl; are = λ window few. ap (λ (ns : List ℕ). get_or ns window 0) none ∙ get_or-replicate (length windows + 1) window 0 0 (omega arith) }

-- one turn of the loop over the acknowledgements
pub greatest_step : (windows : List (List (List ℕ))) (talk : List Piece) (received : List ℕ) (place n : ℕ) (mosts more : List ℕ) (so_far : AreGreatest windows talk received place mosts)
    → acknowledgements (take (length received - place) (drop place received)) ≡ n ∷ acknowledgements (drop 6 (take (length received - place) (drop place received)))
    → n ≤ count_at windows (asked windows so_far.given (out_before talk place))
    → length mosts ≡ length windows + 1
    → more ≡ set mosts (asked windows so_far.given (out_before talk place)) (max (get_or mosts (asked windows so_far.given (out_before talk place)) 0) n)
    → AreGreatest windows talk received (place + 6) more
greatest_step windows talk received place n mosts more so_far reads few each is =
    let given = so_far.given in
    let window = asked windows given (out_before talk place) in
    let others = acknowledgements (drop (place + 6) received) in
    let within : window ≤ length windows = omega (arith, asked_most windows given (out_before talk place), whole_most windows (out_before talk place)) in
    let numbers = numbers_at received place n reads in
    record {
      given = given ++ record { window = window; number = n } ∷ [];
      total = sym (answers_next windows talk given place n others few) ∙ ap (λ (ns : List ℕ). answers windows talk given place ns) (sym numbers) ∙ so_far.total;
      are = λ other there.
          let old = so_far.are other there in
          let at = ap (λ (ns : List ℕ). get_or ns other 0) is in
          elim (eqb_tells window other) [
            | inl same ↦
                let new = get_or-set_same mosts window (max (get_or mosts window 0) n) 0 (omega (arith, each, within)) in
                omega (arith, at, new, old, greatest_here window n given, ap (λ (w : ℕ). get_or (set mosts window (max (get_or mosts window 0) n)) w 0) same.1, ap (λ (w : ℕ). get_or mosts w 0) same.1, ap (λ (w : ℕ). greatest w given) same.1, ap (λ (w : ℕ). greatest w (given ++ record { window = window; number = n } ∷ [])) same.1)
            | inr apart ↦
                let new = get_or-set_other mosts window other (max (get_or mosts window 0) n) 0 (λ same. apart.1 (sym same)) in
                omega (arith, at, new, old, greatest_elsewhere other window n given apart.1)
          ];
    }
  where
    numbers_at : (received : List ℕ) (place n : ℕ) → acknowledgements (take (length received - place) (drop place received)) ≡ n ∷ acknowledgements (drop 6 (take (length received - place) (drop place received))) → acknowledgements (drop place received) ≡ n ∷ acknowledgements (drop (place + 6) received)
    numbers_at received place n reads =
        let rest = rest_is received place in
        sym (ap acknowledgements rest) ∙ reads ∙ ap (λ (bytes : List ℕ). n ∷ acknowledgements (drop 6 bytes)) rest ∙ ap (λ (bytes : List ℕ). n ∷ acknowledgements bytes) (drop-drop 6 place received)

-- the loop ends at a fault
pub greatest_stop : (windows : List (List (List ℕ))) (talk : List Piece) (received : List ℕ) (place n : ℕ) (mosts : List ℕ) (so_far : AreGreatest windows talk received place mosts)
    → acknowledgements (take (length received - place) (drop place received)) ≡ n ∷ acknowledgements (drop 6 (take (length received - place) (drop place received)))
    → count_at windows (asked windows so_far.given (out_before talk place)) < n
    → (window : ℕ) → window ≤ length windows → get_or mosts window 0 ≡ greatest window (answers windows talk [] 0 (acknowledgements received))
greatest_stop windows talk received place n mosts so_far reads many window there =
    let rest = rest_is received place in
    let numbers : acknowledgements (drop place received) ≡ n ∷ acknowledgements (drop 6 (take (length received - place) (drop place received))) = sym (ap acknowledgements rest) ∙ reads in
    let stop = answers_stop windows talk so_far.given place n (acknowledgements (drop 6 (take (length received - place) (drop place received)))) many in
    so_far.are window there ∙ ap (greatest window) (sym stop ∙ ap (λ (ns : List ℕ). answers windows talk so_far.given place ns) (sym numbers) ∙ so_far.total)

-- or where no other acknowledgement is there
pub greatest_end : (windows : List (List (List ℕ))) (talk : List Piece) (received : List ℕ) (place : ℕ) (mosts : List ℕ) (so_far : AreGreatest windows talk received place mosts)
    → acknowledgements (take (length received - place) (drop place received)) ≡ []
    → (window : ℕ) → window ≤ length windows → get_or mosts window 0 ≡ greatest window (answers windows talk [] 0 (acknowledgements received))
greatest_end windows talk received place mosts so_far none window there =
    let rest = rest_is received place in
    so_far.are window there ∙ ap (greatest window) (ap (λ (ns : List ℕ). answers windows talk so_far.given place ns) (sym none ∙ ap acknowledgements rest) ∙ so_far.total)

-- the windows that are out, from the next on
out_more : (windows : List (List (List ℕ))) (whole before : ℕ) (window : List (List ℕ)) → before < whole → whole ≤ length windows → get_or windows before [] ≡ window → drop before (take whole windows) ≡ window ∷ drop (before + 1) (take whole windows)
out_more windows whole before window less within is =
    drop_more (take whole windows) before [] (omega (arith, length-take whole windows)) ∙ ap (λ (w : List (List ℕ)). w ∷ drop (before + 1) (take whole windows)) (get_or-take whole windows before [] less ∙ is)

-- the next was not acknowledged in full
pub oldest_here : (given : List Answer) (windows : List (List (List ℕ))) (whole before : ℕ) (window : List (List ℕ)) → before < whole → whole ≤ length windows → get_or windows before [] ≡ window → greatest (before + 1) given < length window → before + 1 ≡ oldest_open given before (drop before (take whole windows))
oldest_here given windows whole before window less within is fewer =
    let number : before + 1 ≡ suc before = omega arith in
    let test = above (length window) (greatest (suc before) given) (omega (arith, fewer, ap (λ (k : ℕ). greatest k given) number)) in
    number ∙ sym (ap (oldest_open given before) (out_more windows whole before window less within is) ∙ ap (λ (b : Bool). cond b (oldest_open given (suc before) (drop (before + 1) (take whole windows))) (suc before)) test)

-- the next was
pub oldest_full : (given : List Answer) (windows : List (List (List ℕ))) (whole before : ℕ) (window : List (List ℕ)) → before < whole → whole ≤ length windows → get_or windows before [] ≡ window → length window ≤ greatest (before + 1) given → oldest_open given (before + 1) (drop (before + 1) (take whole windows)) ≡ oldest_open given before (drop before (take whole windows))
oldest_full given windows whole before window less within is full =
    let number : before + 1 ≡ suc before = omega arith in
    let test = le-leb (length window) (greatest (suc before) given) (omega (arith, full, ap (λ (k : ℕ). greatest k given) number)) in
    ap (λ (k : ℕ). oldest_open given k (drop (before + 1) (take whole windows))) number ∙ sym (ap (oldest_open given before) (out_more windows whole before window less within is) ∙ ap (λ (b : Bool). cond b (oldest_open given (suc before) (drop (before + 1) (take whole windows))) (suc before)) test)

-- one turn of the loop over the windows
pub payloads_step : (given : List Answer) (windows : List (List (List ℕ))) (i most : ℕ) (window old new total : List (List ℕ)) → i < length windows → get_or windows i [] ≡ window
    → most ≡ greatest (i + 1) given → new ≡ old ++ take most window
    → old ++ payloads_by given (i + 1) (drop i windows) ≡ total → new ++ payloads_by given (i + 1 + 1) (drop (i + 1) windows) ≡ total
payloads_step given windows i most window old new total there is most_is new_is so_far =
    let after = payloads_by given (i + 1 + 1) (drop (i + 1) windows) in
    let first : payloads_by given (i + 1) (drop i windows) ≡ take most window ++ payloads_by given (suc (i + 1)) (drop (suc i) windows) = rw (drop-cons windows i [] there, is, most_is) refl in
    let number : suc (i + 1) ≡ i + 1 + 1 = omega arith in
    let index : suc i ≡ i + 1 = omega arith in
    let next = first ∙ ap (λ (k : ℕ). take most window ++ payloads_by given k (drop (suc i) windows)) number ∙ ap (λ (k : ℕ). take most window ++ payloads_by given (i + 1 + 1) (drop k windows)) index in
    ap (λ (front : List (List ℕ)). front ++ after) new_is ∙ append_assoc old (take most window) after ∙ ap (λ (tail : List (List ℕ)). old ++ tail) (sym next) ∙ so_far
