-- What goes out as a window goes on.
use Rattle.std.proofs.Common.{◌≡◌, ℕ, Bool, true, false, cond, suc, ◌+◌, ◌-◌, ◌<◌, ◌≤◌, min, List, [], ◌∷◌, ◌++◌, length, get_or, take, drop, Option, Some, None, refl, sym, ap, subst, ◌∙◌, append_assoc, arith, inl, inr}
use Rattle.std.specs.Bool.{then_some}
use Rattle.std.specs.List.{All}
use Rattle.std.specs.Option.{is_some}
use Rattle.std.proofs.lemmas.Bool.Decides.{leb_tells}
use Rattle.std.proofs.lemmas.List.Elements.{All-map, All-weaker}
use Rattle.std.proofs.lemmas.List.{drop_all, get_or-map, length-drop, length-map}
use Rattle.wire_base.specs.declared.parcel.TheConstants.{MAX_PAYLOAD}
use Rattle.wire_base.specs.declared.parcel.Parcel.{Parcel}
use Rattle.wire_base.specs.Ranges.{IsParcel}
use Rattle.lumber_frame.specs.declared.frame.Frame.TheVariants.{Json}
use Rattle.lumber_frame.specs.Frame.{frame_bytes, json_head_bytes}
use Rattle.lumber_frame.specs.Window.{window_bytes}
use Rattle.lumber_client.specs.Exchange.{payloads_of}
use Rattle.lumber_client.specs.Laying.{Laying, IsCounted, IsIdle, IsLent, behind_of, first_of, last_laid, lent_after, lent_rest, nothing_laid, passed_by, pending, piece_of, with_window}
use Rattle.lumber_client.proofs.Laid.{behind_handed, behind_offered, cleared_behind, cleared_piece, lent_handed, lent_offered, nothing_behind, passed_lent, passed_pending, piece_and_behind, piece_handed, piece_offered, window_counted, window_lent, window_pending}
use Rattle.lumber_client.proofs.Nexts.{payloads_front, payloads_more}

-- a payload that is lent is of one of the first frames too
pub lent_within : (o : Option ℕ) (to_lay most begun : ℕ) (payload : List ℕ) → most ≤ begun → IsLent o to_lay most payload → IsLent o to_lay begun payload
lent_within None to_lay most begun payload bound is = tt
lent_within (Some sent) to_lay most begun payload bound is = (omega (arith, is.0, bound), is.1)

-- ---- a window is begun

pub begun_bytes : (old mid new : Laying) (parcels : List Parcel) (begun now count most : ℕ) → IsCounted old → old.to_lay ≤ begun → count ≡ min most (length parcels - begun) → now ≡ begun + count → mid ≡ with_window old count → pending new (payloads_of parcels) now ≡ pending mid (payloads_of parcels) now
    → piece_of new (payloads_of parcels) now ++ behind_of new (payloads_of parcels) now ≡ (piece_of old (payloads_of parcels) begun ++ behind_of old (payloads_of parcels) begun) ++ window_bytes (payloads_of (take most (drop begun parcels)))
begun_bytes old mid new parcels begun now count most counted few is is_now is_mid same =
    let payloads = payloads_of parcels in
    let next = payloads_front parcels begun most count is in
    piece_and_behind new payloads now
    ∙ same
    ∙ ap (λ (l : Laying). pending l payloads now) is_mid
    ∙ ap (pending (with_window old count) payloads) is_now
    ∙ window_pending old payloads begun count counted few
    ∙ ap (λ (bytes : List ℕ). bytes ++ window_bytes (take count (drop begun payloads))) (sym (piece_and_behind old payloads begun))
    ∙ ap (λ (window : List (List ℕ)). (piece_of old payloads begun ++ behind_of old payloads begun) ++ window_bytes window) next

pub begun_lent : (old mid : Laying) (payloads : List (List ℕ)) (begun now most bound count : ℕ) → old.to_lay ≤ begun → now ≡ begun + count → bound ≡ most + count → mid ≡ with_window old count → IsLent old.lent old.to_lay most (last_laid old payloads begun) → IsLent mid.lent mid.to_lay bound (last_laid mid payloads now)
begun_lent old mid payloads begun now most bound count few is_now is_bound is_mid is =
    let lent = window_lent old payloads begun most count few is in
    let at_now = subst (λ (n : ℕ). IsLent old.lent (old.to_lay + count) (most + count) (last_laid (with_window old count) payloads n)) (sym is_now) lent in
    let in_bound = subst (λ (n : ℕ). IsLent old.lent (old.to_lay + count) n (last_laid (with_window old count) payloads now)) (sym is_bound) at_now in
    subst (λ (l : Laying). IsLent l.lent l.to_lay bound (last_laid l payloads now)) (sym is_mid) in_bound

pub begun_counted : (old mid : Laying) (count : ℕ) → mid ≡ with_window old count → IsCounted old → IsCounted mid
begun_counted old mid count is_mid counted = subst IsCounted (sym is_mid) (window_counted old count counted)

-- ---- bytes went out

pub passed_bytes : (old mid new : Laying) (payloads : List (List ℕ)) (begun n : ℕ) → n ≤ length (piece_of old payloads begun) → mid ≡ passed_by old n (last_laid old payloads begun) → pending new payloads begun ≡ pending mid payloads begun
    → piece_of new payloads begun ++ behind_of new payloads begun ≡ drop n (piece_of old payloads begun ++ behind_of old payloads begun)
passed_bytes old mid new payloads begun n few is_mid same =
    piece_and_behind new payloads begun ∙ same ∙ ap (λ (l : Laying). pending l payloads begun) is_mid ∙ passed_pending old payloads begun n few ∙ ap (drop n) (sym (piece_and_behind old payloads begun))

pub lent_passed : (old mid : Laying) (payloads : List (List ℕ)) (begun most n : ℕ) → mid ≡ passed_by old n (last_laid old payloads begun) → IsLent old.lent old.to_lay most (last_laid old payloads begun) → IsLent mid.lent mid.to_lay most (last_laid mid payloads begun)
lent_passed old mid payloads begun most n is_mid is =
    subst (λ (l : Laying). IsLent l.lent l.to_lay most (last_laid l payloads begun)) (sym is_mid) (passed_lent old payloads begun most n is)

-- ---- a parcel is offered

module _ (l : Laying) (parcels all : List Parcel) (parcel : Parcel) (begun most : ℕ) (is_all : all ≡ parcels ++ parcel ∷ []) (within : begun ≤ length parcels) (bound : most ≤ begun) (is : IsLent l.lent l.to_lay most (last_laid l (payloads_of parcels) begun)) where
  size : begun ≤ length (payloads_of parcels)
  size = omega (arith, within, length-map parcels (λ (p : Parcel). p.payload))

  more : payloads_of all ≡ payloads_of parcels ++ parcel.payload ∷ []
  more = ap payloads_of is_all ∙ payloads_more parcels parcel

  pub offered_piece : piece_of l (payloads_of all) begun ≡ piece_of l (payloads_of parcels) begun
  offered_piece = ap (λ (ps : List (List ℕ)). piece_of l ps begun) more ∙ piece_offered l (payloads_of parcels) begun most parcel.payload size bound is

  pub offered_behind : IsCounted l → l.to_lay ≤ begun → behind_of l (payloads_of all) begun ≡ behind_of l (payloads_of parcels) begun
  offered_behind counted few = ap (λ (ps : List (List ℕ)). behind_of l ps begun) more ∙ behind_offered l (payloads_of parcels) begun most parcel.payload counted few size bound is

  pub offered_lent : IsLent l.lent l.to_lay most (last_laid l (payloads_of all) begun)
  offered_lent =
      subst (λ (ps : List (List ℕ)). IsLent l.lent l.to_lay most (last_laid l ps begun)) (sym more) (lent_offered l l.lent (payloads_of parcels) begun most parcel.payload size bound is).1

-- ---- a parcel is handed out

module _ (l : Laying) (all rest : List Parcel) (parcel : Parcel) (was begun most : ℕ) (parcels : all ≡ parcel ∷ rest) (number : was ≡ suc begun) (bound : most ≤ begun) (is : IsLent l.lent l.to_lay most (last_laid l (payloads_of all) was)) where
  there : IsLent l.lent l.to_lay most (last_laid l (parcel.payload ∷ payloads_of rest) (suc begun))
  there =
      subst (λ (n : ℕ). IsLent l.lent l.to_lay most (last_laid l (parcel.payload ∷ payloads_of rest) n)) number
      (subst (λ (ps : List Parcel). IsLent l.lent l.to_lay most (last_laid l (payloads_of ps) was)) parcels is)

  pub handed_piece : piece_of l (payloads_of rest) begun ≡ piece_of l (payloads_of all) was
  handed_piece =
      piece_handed l (payloads_of rest) parcel.payload begun most bound there
      ∙ ap (piece_of l (parcel.payload ∷ payloads_of rest)) (sym number)
      ∙ ap (λ (ps : List Parcel). piece_of l (payloads_of ps) was) (sym parcels)

  pub handed_behind : l.to_lay ≤ begun → behind_of l (payloads_of rest) begun ≡ behind_of l (payloads_of all) was
  handed_behind few =
      behind_handed l (payloads_of rest) parcel.payload begun most few bound there
      ∙ ap (behind_of l (parcel.payload ∷ payloads_of rest)) (sym number)
      ∙ ap (λ (ps : List Parcel). behind_of l (payloads_of ps) was) (sym parcels)

  pub handed_lent : IsLent l.lent l.to_lay most (last_laid l (payloads_of rest) begun)
  handed_lent = (lent_handed l l.lent (payloads_of rest) parcel.payload begun most bound there).1

-- ---- the next piece

first_front : (front lent : List ℕ) → 0 < length front → first_of front lent ≡ front
first_front [] lent some = absurd (omega (arith, some))
first_front (byte ∷ front) lent some = refl

-- it is what is left of the buffer
pub piece_front : (l : Laying) (payloads : List (List ℕ)) (begun : ℕ) → l.start < length l.buffer → piece_of l payloads begun ≡ drop l.start l.buffer
unfolding piece_of
piece_front l payloads begun less = first_front (drop l.start l.buffer) (lent_rest l.lent (last_laid l payloads begun)) (omega (arith, less, length-drop l.start l.buffer))

-- or of the payload that is lent
pub piece_lent : (l : Laying) (payloads : List (List ℕ)) (begun : ℕ) → length l.buffer ≤ l.start → piece_of l payloads begun ≡ lent_rest l.lent (last_laid l payloads begun)
unfolding piece_of
piece_lent l payloads begun out = ap (λ (front : List ℕ). first_of front (lent_rest l.lent (last_laid l payloads begun))) (drop_all l.start l.buffer out)

pub last_payload : (l : Laying) (parcels : List Parcel) (begun : ℕ) (other : Parcel) → begun - l.to_lay - 1 < length parcels → last_laid l (payloads_of parcels) begun ≡ (get_or parcels (begun - l.to_lay - 1) other).payload
unfolding last_laid
last_payload l parcels begun other there = get_or-map (λ (p : Parcel). p.payload) parcels (begun - l.to_lay - 1) other [] there

-- what is lent is of this parcel's payload, and not all of it went out
pub lent_there : (l : Laying) (parcels : List Parcel) (begun sent : ℕ) (parcel : Parcel) → begun ≤ length parcels → IsLent l.lent l.to_lay begun (last_laid l (payloads_of parcels) begun) → l.lent ≡ Some sent → parcel ≡ get_or parcels (begun - l.to_lay - 1) parcel
    → (last_laid l (payloads_of parcels) begun ≡ parcel.payload) × (sent < length parcel.payload)
lent_there l parcels begun sent parcel within is lent at_place =
    let there : IsLent (Some sent) l.to_lay begun (last_laid l (payloads_of parcels) begun) = subst (λ (o : Option ℕ). IsLent o l.to_lay begun (last_laid l (payloads_of parcels) begun)) lent is in
    let same = last_payload l parcels begun parcel (omega (arith, within, there.0)) ∙ ap (λ (p : Parcel). p.payload) (sym at_place) in
    (same, omega (arith, there.1, ap length same))

-- and a parcel's payload is no larger than it may be
pub last_small : (l : Laying) (parcels : List Parcel) (begun sent : ℕ) → begun ≤ length parcels → All IsParcel parcels → IsLent l.lent l.to_lay begun (last_laid l (payloads_of parcels) begun) → l.lent ≡ Some sent
    → (sent < length (last_laid l (payloads_of parcels) begun)) × (length (last_laid l (payloads_of parcels) begun) ≤ MAX_PAYLOAD)
unfolding last_laid
last_small l parcels begun sent within all is lent =
    let place = begun - l.to_lay - 1 in
    let payloads = payloads_of parcels in
    let there : IsLent (Some sent) l.to_lay begun (get_or payloads place []) = subst (λ (o : Option ℕ). IsLent o l.to_lay begun (get_or payloads place [])) lent is in
    let each : All (λ payload. length payload ≤ MAX_PAYLOAD) payloads = All-map (λ payload. length payload ≤ MAX_PAYLOAD) (λ (parcel : Parcel). parcel.payload) parcels (All-weaker IsParcel (λ parcel. length parcel.payload ≤ MAX_PAYLOAD) (λ parcel range. range.payload) parcels all) in
    (there.1, each place [] (omega (arith, within, there.0, length-map parcels (λ (parcel : Parcel). parcel.payload))))

pub some_none : (o : Option ℕ) → o ≡ None → is_some o ≡ true → ⊥
some_none None is some = absurd cc
some_none (Some value) is some = absurd cc

pub then_lent : (test : Bool) (value : ℕ) → then_some test value ≡ cond test (Some value) None
then_lent true value = refl
then_lent false value = refl

-- this many bytes of the buffer may go out
pub front_within : (l : Laying) (payloads : List (List ℕ)) (begun n : ℕ) → l.start < length l.buffer → n ≤ length (piece_of l payloads begun) → l.start + n ≤ length l.buffer
front_within l payloads begun n less few = omega (arith, less, few, ap length (piece_front l payloads begun less), length-drop l.start l.buffer)

-- or of the payload that is lent
pub rest_within : (l : Laying) (payloads : List (List ℕ)) (begun n sent : ℕ) → length l.buffer ≤ l.start → l.lent ≡ Some sent → sent < length (last_laid l payloads begun) → n ≤ length (piece_of l payloads begun) → sent + n ≤ length (last_laid l payloads begun)
rest_within l payloads begun n sent out lent less few =
    let payload = last_laid l payloads begun in
    let is : piece_of l payloads begun ≡ drop sent payload = piece_lent l payloads begun out ∙ ap (λ (o : Option ℕ). lent_rest o payload) lent in
    omega (arith, less, few, ap length is, length-drop sent payload)

pub passed_rest : (l : Laying) (n : ℕ) (payload : List ℕ) → length l.buffer ≤ l.start → passed_by l n payload ≡ record l { lent = lent_after l.lent n payload }
passed_rest l n payload out =
    elim (leb_tells (suc l.start) (length l.buffer)) [
      | inl is ↦ absurd (omega (arith, is.1, out))
      | inr is ↦ rw (is.0) refl
    ]

-- nothing is lent where there is no next piece
pub none_lent : (l : Laying) (payloads : List (List ℕ)) (begun most : ℕ) → piece_of l payloads begun ≡ [] → IsLent l.lent l.to_lay most (last_laid l payloads begun) → l.lent ≡ None
unfolding piece_of
none_lent l payloads begun most none is = by_lent l.lent (drop l.start l.buffer) (last_laid l payloads begun) none is
  where
    by_lent : (o : Option ℕ) (front payload : List ℕ) → first_of front (lent_rest o payload) ≡ [] → IsLent o l.to_lay most payload → o ≡ None
    by_lent None front payload none is = refl
    by_lent (Some sent) [] payload none is = absurd (omega (arith, ap length none, length-drop sent payload, is.1))
    by_lent (Some sent) (byte ∷ front) payload none is = absurd cc

pub lent_nowhere : (o : Option ℕ) (to_lay most : ℕ) (payload : List ℕ) → o ≡ None → IsLent o to_lay most payload
lent_nowhere o to_lay most payload is = subst (λ (v : Option ℕ). IsLent v to_lay most payload) (sym is) tt

-- all that was laid is out where there is no next piece
pub start_all : (l : Laying) (payloads : List (List ℕ)) (begun : ℕ) → piece_of l payloads begun ≡ [] → length l.buffer ≤ l.start
unfolding piece_of
start_all l payloads begun none =
    omega (arith, first_none (drop l.start l.buffer) (lent_rest l.lent (last_laid l payloads begun)) none, length-drop l.start l.buffer)
  where
    first_none : (front lent : List ℕ) → first_of front lent ≡ [] → length front ≡ 0
    first_none [] lent none = refl
    first_none (byte ∷ front) lent none = absurd cc

-- ---- a frame is laid

-- the frame stands whole after the others
pub whole_frame : (buffer head headed all payload : List ℕ) (laid : ℕ) → head ≡ json_head_bytes (laid + 1) (length payload) → headed ≡ buffer ++ head → all ≡ headed ++ payload → all ≡ buffer ++ frame_bytes (Json (suc laid) payload)
whole_frame buffer head headed all payload laid is front back =
    let number : laid + 1 ≡ suc laid = omega arith in
    back ∙ ap (λ (bytes : List ℕ). bytes ++ payload) front ∙ append_assoc buffer head payload ∙ ap (λ (bytes : List ℕ). buffer ++ (bytes ++ payload)) (is ∙ ap (λ (n : ℕ). json_head_bytes n (length payload)) number)

-- or its head
pub head_frame : (buffer head headed : List ℕ) (laid size : ℕ) → head ≡ json_head_bytes (laid + 1) size → headed ≡ buffer ++ head → headed ≡ buffer ++ json_head_bytes (suc laid) size
head_frame buffer head headed laid size is front =
    let number : laid + 1 ≡ suc laid = omega arith in
    front ∙ ap (λ (bytes : List ℕ). buffer ++ bytes) (is ∙ ap (λ (n : ℕ). json_head_bytes n size) number)

-- ---- all is forgotten

pub cleared_out : (l : Laying) (payloads : List (List ℕ)) (begun depth : ℕ) → l ≡ nothing_laid depth → piece_of l payloads begun ≡ []
cleared_out l payloads begun depth is = ap (λ (v : Laying). piece_of v payloads begun) is ∙ cleared_piece depth payloads begun

pub cleared_rest : (l : Laying) (payloads : List (List ℕ)) (begun depth : ℕ) → l ≡ nothing_laid depth → behind_of l payloads begun ≡ []
cleared_rest l payloads begun depth is = ap (λ (v : Laying). behind_of v payloads begun) is ∙ cleared_behind depth payloads begun

-- nothing follows if there is no next piece
pub rest_none : (l : Laying) (payloads : List (List ℕ)) (begun : ℕ) → (piece_of l payloads begun ≡ [] → IsIdle l) → piece_of l payloads begun ≡ [] → behind_of l payloads begun ≡ []
rest_none l payloads begun idle none = nothing_behind l payloads begun none (idle none)
