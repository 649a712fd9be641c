-- What a talk acknowledges is the first of what it acknowledges as it goes on, so places of payloads stay.
use Rattle.std.proofs.Common.{◌≡◌, ◌⊎◌, inl, inr, ℕ, zero, suc, ◌+◌, ◌<◌, ◌≤◌, List, [], ◌∷◌, ◌++◌, length, get_or, take, drop, Option, Some, None, refl, sym, ap, ◌∙◌, subst, arith, append_assoc, append-nil}
use Rattle.std.specs.List.{slice_get}
use Rattle.std.proofs.lemmas.Bool.{cases_lt}
use Rattle.std.proofs.lemmas.Bool.Decides.{eqb_tells, leb_tells}
use Rattle.std.proofs.lemmas.List.{take_all, take-append-drop, take-take}
use Rattle.wire_base.specs.declared.talk.Piece.{Piece}
use Rattle.lumber_frame.specs.Acknowledged.{Acknowledges, Answer, acknowledgements, answers, asked, count_at, greatest, payloads_by}
use Rattle.lumber_frame.specs.Talk.{in_bytes, out_before}
use Rattle.lumber_frame.proofs.Asking.{answers_next, answers_stop, asked_behind, greatest-append, greatest_elsewhere}
use Rattle.lumber_frame.proofs.GoingOn.{goes_on, greater}
use Rattle.kept_rows.specs.Account.{Place}
use Rattle.kept_rows.specs.Acknowledged.{IsAcknowledgedAt, TalksGoOn, WiresGoOn, talks_of}
use Rattle.kept_rows.specs.Trace.{WireTold}

-- ---- windows are acknowledged in their order

-- each window before one that some payload was acknowledged of was acknowledged in full
abbrev AreInOrder : List (List (List ℕ)) → List Answer → Type 0
AreInOrder windows given = (window : ℕ) → 0 < greatest window given → (earlier : ℕ) → earlier < window → count_at windows earlier ≤ greatest earlier given

one_more : (windows : List (List (List ℕ))) (given : List Answer) (out number : ℕ) → AreInOrder windows given →
    AreInOrder windows (given ++ record { window = asked windows given out; number = number } ∷ [])
one_more windows given out number ordered window some earlier less =
    let here = asked windows given out in
    let more = given ++ record { window = here; number = number } ∷ [] in
    let rises = greatest-append earlier given (record { window = here; number = number } ∷ []) in
    elim (eqb_tells here window) [
      | inl same ↦ omega (arith, rises, asked_behind windows given out earlier (omega (arith, less, same.1)))
      | inr other ↦
          let elsewhere = greatest_elsewhere window here number given other.1 in
          omega (arith, rises, ordered window (omega (arith, some, elsewhere)) earlier less)
    ]

in_order : (windows : List (List (List ℕ))) (talk : List Piece) (given : List Answer) (place : ℕ) (numbers : List ℕ) → AreInOrder windows given →
    AreInOrder windows (answers windows talk given place numbers)
in_order windows talk given place [] ordered = ordered
in_order windows talk given place (number ∷ numbers) ordered =
    let out = out_before talk place in
    elim (leb_tells number (count_at windows (asked windows given out))) [
      | inl is ↦ subst (AreInOrder windows) (sym (answers_next windows talk given place number numbers is.1))
          (in_order windows talk (given ++ record { window = asked windows given out; number = number } ∷ []) (place + 6) numbers (one_more windows given out number ordered))
      | inr is ↦ subst (AreInOrder windows) (sym (answers_stop windows talk given place number numbers (omega (arith, is.1)))) ordered
    ]

-- ---- the first payloads stay

-- the same of windows the first of which has this number
abbrev AreFullBefore : ℕ → List (List (List ℕ)) → List Answer → Type 0
AreFullBefore number windows given = (i j : ℕ) → i < j → 0 < greatest (number + j) given → length (get_or windows i []) ≤ greatest (number + i) given

none_later : (given : List Answer) (number : ℕ) (windows : List (List (List ℕ))) → ((j : ℕ) → greatest (number + j) given ≡ 0) → payloads_by given number windows ≡ []
none_later given number [] none = refl
none_later given number (window ∷ windows) none =
    let here : number + 0 ≡ number = omega arith in
    let nothing : greatest number given ≡ 0 = sym (ap (λ (k : ℕ). greatest k given) here) ∙ none 0 in
    let later = none_later given (suc number) windows (λ j.
    let next : number + suc j ≡ suc number + j = omega arith in
    sym (ap (λ (k : ℕ). greatest k given) next) ∙ none (suc j)) in
    ap (λ (n : ℕ). take n window ++ payloads_by given (suc number) windows) nothing ∙ later

not_some : (n : ℕ) → (0 < n → ⊥) → n ≡ 0
not_some zero none = refl
not_some (suc n) none = absurd (none (omega arith))

first_stay : (given more : List Answer) (number : ℕ) (windows others : List (List (List ℕ))) → AreFullBefore number windows given →
    ((window : ℕ) → greatest window given ≤ greatest window more) → (later : List (List ℕ)) × (payloads_by more number (windows ++ others) ≡ payloads_by given number windows ++ later)
first_stay given more number [] others full greater = (payloads_by more number others, refl)
first_stay given more number (window ∷ windows) others full greater = go (cases_lt (greatest number given) (length window)) (first_stay given more (suc number) windows others later_full greater)
  where
    later_full : AreFullBefore (suc number) windows given
    later_full i j less some =
        let there : number + suc i ≡ suc number + i = omega arith in
        let behind : number + suc j ≡ suc number + j = omega arith in
        let is = full (suc i) (suc j) (omega (arith, less)) (omega (arith, some, ap (λ (k : ℕ). greatest k given) behind)) in
        omega (arith, is, ap (λ (k : ℕ). greatest k given) there)

    go : (greatest number given < length window) ⊎ (length window ≤ greatest number given) →
        (later : List (List ℕ)) × (payloads_by more (suc number) (windows ++ others) ≡ payloads_by given (suc number) windows ++ later) →
        (later : List (List ℕ)) × (payloads_by more number (window ∷ (windows ++ others)) ≡ payloads_by given number (window ∷ windows) ++ later)
    go (inl fewer) later =
        let n = greatest number given in
        let m = greatest number more in
        let front = take n window in
        let none : payloads_by given (suc number) windows ≡ [] = none_later given (suc number) windows (λ j. not_some (greatest (suc number + j) given) (λ some.
        let next : number + suc j ≡ suc number + j = omega arith in
        let here : number + 0 ≡ number = omega arith in
        let is = full 0 (suc j) (omega arith) (omega (arith, some, ap (λ (k : ℕ). greatest k given) next)) in
        omega (arith, is, fewer, ap (λ (k : ℕ). greatest k given) here))) in
        let taken : take m window ≡ front ++ drop n (take m window) =
        sym (take-append-drop n (take m window)) ∙ ap (λ (l : List (List ℕ)). l ++ drop n (take m window)) (take-take n m window (greater number)) in
        let given_is : payloads_by given number (window ∷ windows) ≡ front = ap (λ (l : List (List ℕ)). front ++ l) none ∙ append-nil front in (
          drop n (take m window) ++ payloads_by more (suc number) (windows ++ others),
          ap (λ (l : List (List ℕ)). l ++ payloads_by more (suc number) (windows ++ others)) taken
              ∙ append_assoc front (drop n (take m window)) (payloads_by more (suc number) (windows ++ others))
              ∙ sym (ap (λ (l : List (List ℕ)). l ++ (drop n (take m window) ++ payloads_by more (suc number) (windows ++ others))) given_is),
        )
    go (inr whole) later =
        let all : take (greatest number given) window ≡ window = take_all (greatest number given) window whole in
        let still : take (greatest number more) window ≡ window = take_all (greatest number more) window (omega (arith, whole, greater number)) in (
          later.0,
          ap (λ (l : List (List ℕ)). l ++ payloads_by more (suc number) (windows ++ others)) still ∙ ap (λ (l : List (List ℕ)). window ++ l) later.1
              ∙ sym (append_assoc window (payloads_by given (suc number) windows) later.0)
              ∙ sym (ap (λ (l : List (List ℕ)). (l ++ payloads_by given (suc number) windows) ++ later.0) all),
        )

none_given : (windows : List (List (List ℕ))) → AreInOrder windows []
none_given windows window some earlier less = absurd (omega (arith, some))

pub acknowledged_goes_on : (talk more : List Piece) (payloads : List (List ℕ)) → Acknowledges talk payloads → (later : List (List ℕ)) × Acknowledges (talk ++ more) (payloads ++ later)
acknowledged_goes_on talk more payloads first =
    let windows = first.windows in
    let on = goes_on talk more windows first.sent in
    let given = answers windows talk [] 0 (acknowledgements (in_bytes talk)) in
    let now = answers (windows ++ on.others) (talk ++ more) [] 0 (acknowledgements (in_bytes (talk ++ more))) in
    let ordered = in_order windows talk [] 0 (acknowledgements (in_bytes talk)) (none_given windows) in
    let full : AreFullBefore 1 windows given = λ i j less some.
    let this : 1 + i ≡ suc i = omega arith in
    let behind : 1 + j ≡ suc j = omega arith in
    let is = ordered (suc j) (omega (arith, some, ap (λ (k : ℕ). greatest k given) behind)) (suc i) (omega (arith, less)) in
    omega (arith, is, ap (λ (k : ℕ). greatest k given) this) in
    let stay = first_stay given now 1 windows on.others full (greater talk more windows on) in
    (stay.0, record { windows = windows ++ on.others; sent = on.sent; are = ap (λ (l : List (List ℕ)). l ++ stay.0) first.are ∙ sym stay.1 })

-- ---- places stay

pub got_in_front : {A : Type 0} (xs ys : List A) (i : ℕ) (x : A) → slice_get xs i ≡ Some x → slice_get (xs ++ ys) i ≡ Some x
got_in_front [] ys i x is = absurd (let q : None ≡ Some x = is in cc)
got_in_front (first ∷ xs) ys zero x is = is
got_in_front (first ∷ xs) ys (suc i) x is = got_in_front xs ys i x is

talk_on : (before now : List (Option (List Piece))) (i : ℕ) (talk : List Piece) → TalksGoOn before now → slice_get before i ≡ Some (Some talk) →
    (more : List Piece) × (slice_get now i ≡ Some (Some (talk ++ more)))
talk_on [] now i talk on is = absurd (let q : None ≡ Some (Some talk) = is in cc)
talk_on (first ∷ before) [] i talk on is = absurd on
talk_on (first ∷ before) (grown ∷ now) (suc i) talk on is = talk_on before now i talk on.1 is
talk_on (None ∷ before) (grown ∷ now) zero talk on is = absurd (let q : Some None ≡ Some (Some talk) = is in let r : None ≡ Some talk = cc in cc)
talk_on (Some first ∷ before) (grown ∷ now) zero talk on is =
    let q : Some (Some first) ≡ Some (Some talk) = is in
    let r : Some first ≡ Some talk = cc in
    let same : first ≡ talk = cc in
    (on.0.0, ap Some (on.0.1 ∙ ap (λ (t : List Piece). Some (t ++ on.0.0)) same))

wire_on : (before now : List WireTold) (i : ℕ) (wire : WireTold) → WiresGoOn before now → slice_get before i ≡ Some wire →
    (grown : WireTold) × (slice_get now i ≡ Some grown) × TalksGoOn (talks_of wire) (talks_of grown)
wire_on [] now i wire on is = absurd (let q : None ≡ Some wire = is in cc)
wire_on (first ∷ before) [] i wire on is = absurd on
wire_on (first ∷ before) (grown ∷ now) (suc i) wire on is = wire_on before now i wire on.1 is
wire_on (first ∷ before) (grown ∷ now) zero wire on is =
    let q : Some first ≡ Some wire = is in
    let same : first ≡ wire = cc in
    (grown, refl, subst (λ (w : WireTold). TalksGoOn (talks_of w) (talks_of grown)) same on.0)

pub stays_acknowledged : (before now : List WireTold) (payload : List ℕ) (place : Place) → WiresGoOn before now → IsAcknowledgedAt before payload place → IsAcknowledgedAt now payload place
stays_acknowledged before now payload place on at =
    let wire = wire_on before now place.wire at.wire on at.wire_is in
    let talk = talk_on (talks_of at.wire) (talks_of wire.0) place.connection at.talk wire.2 at.talk_is in
    let later = acknowledged_goes_on at.talk talk.0 at.acknowledged at.acknowledges in
    record {
      wire = wire.0;
      wire_is = wire.1;
      talk = at.talk ++ talk.0;
      talk_is = talk.1;
      acknowledged = at.acknowledged ++ later.0;
      acknowledges = later.1;
      stands = got_in_front at.acknowledged later.0 place.number payload at.stands;
    }
