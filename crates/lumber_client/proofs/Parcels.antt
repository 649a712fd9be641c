-- The parcels of windows, and which of them answers acknowledge.
use Rattle.std.proofs.Common.{◌≡◌, ℕ, suc, ◌+◌, ◌<◌, ◌≤◌, List, [], ◌∷◌, ◌++◌, length, map, get_or, take, refl, sym, ap, ◌∙◌, append_assoc, arith}
use Rattle.std.specs.List.{flat_map}
use Rattle.std.proofs.Math.Seq.{get_or-append_seam}
use Rattle.std.proofs.lemmas.List.{append-nil, map-append, length-append, length-map, get_or-map, take-append-le, take-map, take_all}
use Rattle.wire_base.specs.declared.parcel.Parcel.{Parcel}
use Rattle.lumber_frame.specs.Acknowledged.{Answer, count_at, greatest, payloads_by}
use Rattle.lumber_client.specs.Exchange.{parcels_by, payloads_of, windows_of}
use Rattle.lumber_client.specs.Held.{IsPart}

abbrev pub joined : List (List Parcel) → List Parcel
joined windows = flat_map (λ parcels. parcels) windows

abbrev pub sizes : List (List Parcel) → List ℕ
sizes windows = map (λ parcels. length parcels) windows

-- ---- payloads

-- their payloads are those that the talk acknowledges
pub payloads_are : (given : List Answer) (number : ℕ) (begun : List (List Parcel)) → payloads_of (parcels_by given number begun) ≡ payloads_by given number (windows_of begun)
payloads_are given number [] = refl
payloads_are given number (parcels ∷ begun) =
    let f = λ (p : Parcel). p.payload in
    let most = greatest number given in
    let others = parcels_by given (suc number) begun in
    map-append f (take most parcels) others ∙ ap (λ (front : List (List ℕ)). front ++ map f others) (sym (take-map f most parcels)) ∙ ap (λ (tail : List (List ℕ)). take most (map f parcels) ++ tail) (payloads_are given (suc number) begun)

-- ---- counts

-- the count of a window is the number of its parcels
pub count_of : (begun : List (List Parcel)) (i : ℕ) → i < length begun → count_at (windows_of begun) (suc i) ≡ length (get_or begun i [])
count_of begun i there =
    ap length (get_or-map payloads_of begun i [] [] there) ∙ length-map (get_or begun i []) (λ (p : Parcel). p.payload)

-- the count of the oldest window in flight
pub count_seam : (full flying : List (List Parcel)) (count : ℕ) (counts : List ℕ) → sizes flying ≡ count ∷ counts → count_at (windows_of (full ++ flying)) (suc (length full)) ≡ count
count_seam full [] count counts is = absurd cc
count_seam full (parcels ∷ flying) count counts is =
    let first : length parcels ≡ count = cc in
    count_of (full ++ parcels ∷ flying) (length full) (omega (arith, length-append full (parcels ∷ flying))) ∙ ap length (get_or-append_seam full parcels flying []) ∙ first

-- ---- acknowledged parcels

-- numbers that are the same acknowledge the same
pub parcels_same : (given more : List Answer) (number : ℕ) (begun : List (List Parcel)) → ((window : ℕ) → greatest window more ≡ greatest window given) → parcels_by more number begun ≡ parcels_by given number begun
parcels_same given more number [] same = refl
parcels_same given more number (parcels ∷ begun) same =
    ap (λ (n : ℕ). take n parcels ++ parcels_by more (suc number) begun) (same number) ∙ ap (λ (tail : List Parcel). take (greatest number given) parcels ++ tail) (parcels_same given more (suc number) begun same)

-- if nothing was given for windows, none of theirs
none_behind : (given : List Answer) (number : ℕ) (begun : List (List Parcel)) → ((window : ℕ) → number ≤ window → greatest window given ≡ 0) → parcels_by given number begun ≡ []
none_behind given number [] none = refl
none_behind given number (parcels ∷ begun) none =
    ap (λ (n : ℕ). take n parcels ++ parcels_by given (suc number) begun) (none number (omega arith)) ∙ none_behind given (suc number) begun (λ window more. none window (omega arith))

-- of windows in flight, the front of the oldest one's
of_oldest : (given : List Answer) (number done : ℕ) (flying : List (List Parcel)) → greatest number given ≡ done → ((window : ℕ) → number < window → greatest window given ≡ 0) → IsPart done (sizes flying) → parcels_by given number flying ≡ take done (joined flying)
of_oldest given number done [] is none part =
    let empty : List Parcel = [] in
    sym (ap (λ (n : ℕ). take n empty) part)
of_oldest given number done (parcels ∷ flying) is none part =
    ap (λ (n : ℕ). take n parcels ++ parcels_by given (suc number) flying) is ∙ ap (λ (tail : List Parcel). take done parcels ++ tail) (none_behind given (suc number) flying (λ window more. none window (omega arith))) ∙ append-nil (take done parcels) ∙ sym (take-append-le done parcels (joined flying) (omega (arith, part)))

-- all of those of windows that are acknowledged in full, and then the front of the oldest one's in flight
pub of_all : (given : List Answer) (number done : ℕ) (full flying : List (List Parcel)) → ((i : ℕ) → i < length full → greatest (number + i) given ≡ length (get_or full i [])) → greatest (number + length full) given ≡ done → ((window : ℕ) → number + length full < window → greatest window given ≡ 0) → IsPart done (sizes flying) → parcels_by given number (full ++ flying) ≡ joined full ++ take done (joined flying)
of_all given number done [] flying all is none part =
    let here : number + 0 ≡ number = omega arith in
    of_oldest given number done flying (ap (λ (k : ℕ). greatest k given) (sym here) ∙ is) (λ window more. none window (omega arith)) part
of_all given number done (parcels ∷ full) flying all is none part =
    let here : number ≡ number + 0 = omega arith in
    let last : suc number + length full ≡ number + suc (length full) = omega arith in
    let most : greatest number given ≡ length parcels = ap (λ (k : ℕ). greatest k given) here ∙ all 0 (omega arith) in
    let whole = take_all (greatest number given) parcels (omega (arith, most)) in
    let others = of_all given (suc number) done full flying (λ i there.
    let next : suc number + i ≡ number + suc i = omega arith in
    ap (λ (k : ℕ). greatest k given) next ∙ all (suc i) (omega arith)) (ap (λ (k : ℕ). greatest k given) last ∙ is) (λ window more. none window (omega arith)) part in
    ap (λ (front : List Parcel). front ++ parcels_by given (suc number) (full ++ flying)) whole ∙ ap (λ (tail : List Parcel). parcels ++ tail) others ∙ sym (append_assoc parcels (joined full) (take done (joined flying)))
