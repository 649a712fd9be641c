-- Which window an acknowledgement asks of whose first byte comes while all that was begun is out.
use Rattle.std.proofs.Common.{◌≡◌, ℕ, suc, ◌+◌, ◌<◌, Bool, List, [], ◌∷◌, ◌++◌, length, refl, sym, ap, ◌∙◌, arith, inl, inr}
use Rattle.std.proofs.lemmas.Bool.{cases_lt}
use Rattle.std.proofs.lemmas.List.{append-nil, length-append}
use Rattle.wire_base.specs.declared.parcel.Parcel.{Parcel}
use Rattle.lumber_frame.specs.Acknowledged.{Answer, asked, whole_within}
use Rattle.lumber_frame.proofs.Asking.{asked_behind, asked_is, asked_last}
use Rattle.lumber_client.specs.Exchange.{windows_of}
use Rattle.lumber_client.specs.Held.{has_some}
use Rattle.lumber_client.specs.Standing.{AreAnswered, window_asked}
use Rattle.lumber_client.proofs.Answered.{oldest_count}
use Rattle.lumber_client.proofs.Parcels.{sizes}

none_flying : (flying : List (List Parcel)) → sizes flying ≡ [] → flying ≡ []
none_flying [] is = refl
none_flying (parcels ∷ flying) is = absurd cc

some_flying : (flying : List (List Parcel)) (count : ℕ) (counts : List ℕ) → sizes flying ≡ count ∷ counts → 0 < length flying
some_flying [] count counts is = absurd cc
some_flying (parcels ∷ flying) count counts is = omega arith

-- if none is in flight, it asks of the last
asks_last : (begun : List (List Parcel)) (given : List Answer) (full done last out : ℕ) → AreAnswered begun given full [] done last → whole_within (windows_of begun) out ≡ length begun → asked (windows_of begun) given out ≡ full
asks_last begun given full done last out a whole =
    let none = none_flying a.flying a.counts in
    let size : length begun ≡ full = ap length a.all ∙ ap (λ (more : List (List Parcel)). length (a.first ++ more)) none ∙ ap length (append-nil a.first) ∙ a.number in
    asked_last (windows_of begun) given out (λ window less. omega (arith, a.in_full window (omega (arith, less, whole, size)))) ∙ whole ∙ size

-- else of the oldest in flight
asks_oldest : (begun : List (List Parcel)) (given : List Answer) (full count : ℕ) (counts : List ℕ) (done last out : ℕ) → AreAnswered begun given full (count ∷ counts) done last → whole_within (windows_of begun) out ≡ length begun → asked (windows_of begun) given out ≡ suc full
asks_oldest begun given full count counts done last out a whole =
    let windows = windows_of begun in
    let here = asked windows given out in
    let size : length begun ≡ length a.first + length a.flying = ap length a.all ∙ length-append a.first a.flying in
    let some = some_flying a.flying count counts a.counts in
    let counted = oldest_count begun given full count counts done last a in
    elim (cases_lt here (suc full)) [
      | inl less ↦
          let in_full = a.in_full here (omega (arith, less)) in
          elim (asked_is windows given out) [
            | inl is ↦ absurd (omega (arith, is, whole, size, some, less, a.number))
            | inr fewer ↦ absurd (omega (arith, fewer, in_full))
          ]
      | inr more ↦ elim (cases_lt (suc full) here) [
        | inl past ↦ absurd (omega (arith, asked_behind windows given out (suc full) past, counted, a.oldest, a.part))
        | inr few ↦ omega (arith, more, few)
      ]
    ]

-- the window that is asked now
pub asks_now : (begun : List (List Parcel)) (given : List Answer) (full : ℕ) (flights : List ℕ) (done last out : ℕ) (oldest : Bool) → AreAnswered begun given full flights done last → whole_within (windows_of begun) out ≡ length begun → oldest ≡ has_some flights → asked (windows_of begun) given out ≡ window_asked oldest full
asks_now begun given full [] done last out oldest a whole is =
    asks_last begun given full done last out a whole ∙ sym (ap (λ (b : Bool). window_asked b full) is)
asks_now begun given full (count ∷ counts) done last out oldest a whole is =
    asks_oldest begun given full count counts done last out a whole ∙ sym (ap (λ (b : Bool). window_asked b full) is)
