-- The parcels of the window that is begun next.
use Rattle.std.proofs.Common.{◌≡◌, ℕ, ◌-◌, ◌^◌, ◌<◌, ◌≤◌, min, List, [], ◌∷◌, ◌++◌, length, take, drop, sym, ap, ◌∙◌, arith}
use Rattle.std.specs.List.{All}
use Rattle.std.proofs.lemmas.List.{drop-map, length-drop, length-map, length-take, map-append, take-map, take_min}
use Rattle.std.proofs.lemmas.List.Elements.{All-drop, All-map, All-take, All-weaker, recursion_from_All}
use Rattle.wire_base.specs.declared.parcel.TheConstants.{MAX_PAYLOAD}
use Rattle.wire_base.specs.declared.parcel.Parcel.{Parcel}
use Rattle.wire_base.specs.Ranges.{IsParcel}
use Rattle.lumber_frame.specs.Window.{IsWindow}
use Rattle.lumber_client.specs.Exchange.{payloads_of}

-- they are those that wait, or as many as a window has at most
pub next_count : (parcels : List Parcel) (begun most : ℕ) → length (take most (drop begun parcels)) ≡ min most (length parcels - begun)
next_count parcels begun most = length-take most (drop begun parcels) ∙ ap (min most) (length-drop begun parcels)

pub payloads_front : (parcels : List Parcel) (begun most count : ℕ) → count ≡ min most (length parcels - begun) → take count (drop begun (payloads_of parcels)) ≡ payloads_of (take most (drop begun parcels))
payloads_front parcels begun most count is =
    let payload_of : Parcel → List ℕ = λ parcel. parcel.payload in
    let number : count ≡ min most (length (drop begun parcels)) = is ∙ sym (ap (min most) (length-drop begun parcels)) in
    ap (take count) (drop-map payload_of begun parcels) ∙ take-map payload_of count (drop begun parcels) ∙ ap (λ (n : ℕ). payloads_of (take n (drop begun parcels))) number ∙ ap payloads_of (take_min most (drop begun parcels))

-- they may go out as a window
pub next_window : (parcels : List Parcel) (begun most : ℕ) → All IsParcel parcels → 0 < most → most < 2 ^ 32 → begun < length parcels → IsWindow (payloads_of (take most (drop begun parcels)))
next_window parcels begun most all some_most small some =
    let next = take most (drop begun parcels) in
    let size : length (payloads_of next) ≡ min most (length parcels - begun) = length-map next (λ (parcel : Parcel). parcel.payload) ∙ next_count parcels begun most in
    let each : All IsParcel next = All-take IsParcel most (drop begun parcels) (All-drop IsParcel begun parcels all) in record {
      some = omega (arith, size, some, some_most);
      few = omega (arith, size, small);
      each = recursion_from_All (λ payload. length payload ≤ MAX_PAYLOAD) (payloads_of next) (All-map (λ payload. length payload ≤ MAX_PAYLOAD) (λ (parcel : Parcel). parcel.payload) next (All-weaker IsParcel (λ parcel. length parcel.payload ≤ MAX_PAYLOAD) (λ parcel is. is.payload) next each));
    }

pub payloads_more : (parcels : List Parcel) (parcel : Parcel) → payloads_of (parcels ++ parcel ∷ []) ≡ payloads_of parcels ++ parcel.payload ∷ []
payloads_more parcels parcel = map-append (λ (p : Parcel). p.payload) parcels (parcel ∷ [])

pub payloads_number : (parcels : List Parcel) → length (payloads_of parcels) ≡ length parcels
payloads_number parcels = length-map parcels (λ (p : Parcel). p.payload)
