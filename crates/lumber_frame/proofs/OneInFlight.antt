-- Talks with one window in flight: the window that is asked is the last that was wholly out, and so both readings agree.
use Rattle.std.proofs.Common.{◌≡◌, ℕ, zero, suc, ◌+◌, ◌*◌, ◌-◌, ◌<◌, ◌≤◌, ◌⊎◌, List, [], ◌∷◌, ◌++◌, length, get_or, take, refl, sym, ap, subst, ◌∙◌, append_assoc, arith, inl, inr}
use Rattle.std.specs.List.{AllByRecursion, flat_map}
use Rattle.std.proofs.Math.Seq.{take-append-add}
use Rattle.std.proofs.lemmas.Bool.{cases_lt}
use Rattle.std.proofs.lemmas.Bool.Decides.{leb_tells}
use Rattle.std.proofs.lemmas.List.{append-nil, append_cancel_left, length-append, take_at}
use Rattle.std.proofs.lemmas.List.Concat.{flat_map-append}
use Rattle.std.proofs.lemmas.List.Folds.{length-flat_map-take}
use Rattle.wire_base.specs.declared.talk.Piece.{Piece}
use Rattle.wire_base.specs.declared.talk.Piece.TheVariants.{Out, In}
use Rattle.lumber_frame.specs.Talk.{in_bytes, out_bytes, out_before}
use Rattle.lumber_frame.specs.Window.{window_bytes, AreWindows, IsWindow}
use Rattle.lumber_frame.specs.Acknowledged.{Answer, Acknowledges, acknowledgements, answers, asked, count_at, greatest, payloads_by, whole_within}
use Rattle.lumber_frame.specs.InFlight.{AreEarlierInFull, HasOneInFlight}
use Rattle.lumber_frame.specs.LastAsked.{AcknowledgesByLast, HasFaultByLast, IsAboveLastCount, answers_of_last}
use Rattle.lumber_frame.specs.PeerFault.{HasPeerFault, IsAboveCount}
use Rattle.lumber_frame.specs.Settled.{IsSettled}
use Rattle.lumber_frame.proofs.Answering.{length-window}
use Rattle.lumber_frame.proofs.Asking.{answers_few, answers_more, answers_next, answers_stop, answers_through, asked_last, first_above, greatest-append}
use Rattle.lumber_frame.proofs.Faults.{few_each}
use Rattle.lumber_frame.proofs.GoingOn.{GoesOn, goes_on, greater}
use Rattle.lumber_frame.proofs.OneMoreWindow.{whole_all}
use Rattle.lumber_frame.proofs.Settling.{none_in_nothing, numbers_are, windows_are}
use Rattle.lumber_frame.proofs.Staying.{in_append, out_append, answers_stay, count_stays, numbers_fit, numbers_more}
use Rattle.lumber_frame.proofs.WindowBytes.{are_once, window_once}

-- ---- the window that is asked

-- the pieces before the one that brings a byte
record Before (talk : List Piece) (place : ℕ) : Type 0 where
  front : List Piece
  more : List Piece
  is : talk ≡ front ++ more
  few : length (in_bytes front) ≤ place
  out : out_before talk place ≡ length (out_bytes front)

before : (talk : List Piece) (place : ℕ) → place < length (in_bytes talk) → Before talk place
before [] place there = absurd (omega arith)
before (Out bytes ∷ talk) place there =
    let others = before talk place there in
    record { front = Out bytes ∷ others.front; more = others.more; is = ap (λ (pieces : List Piece). Out bytes ∷ pieces) others.is; few = others.few; out = omega (arith, others.out, length-append bytes (out_bytes others.front)) }
before (In bytes ∷ talk) place there =
    elim (leb_tells (suc place) (length bytes)) [
      | inl is ↦ record { front = []; more = In bytes ∷ talk; is = refl; few = omega arith; out = rw (is.0) refl }
      | inr is ↦
          let others = before talk (place - length bytes) (omega (arith, there, is.1, length-append bytes (in_bytes talk))) in
          record { front = In bytes ∷ others.front; more = others.more; is = ap (λ (pieces : List Piece). In bytes ∷ pieces) others.is; few = omega (arith, others.few, is.1, length-append bytes (in_bytes others.front)); out = rw (is.0) others.out }
    ]

-- after a window that is not the last of them more was sent
more_sent : (talk : List Piece) (windows : List (List (List ℕ))) (sent : AreWindows (out_bytes talk) windows) (window : ℕ) → window < length windows → length (flat_map window_bytes (take window windows)) < length (out_bytes talk)
more_sent talk windows sent window less =
    omega (arith, length-flat_map-take window_bytes windows window [] less, length-window (get_or windows window []), ap length sent.whole, length-append (flat_map window_bytes windows) sent.rest)

asks_last_behind : (front more : List Piece) (alone : AreEarlierInFull front) (on : GoesOn front more alone.windows) (index : ℕ) → length (in_bytes front) ≤ 6 * index → out_before (front ++ more) (6 * index) ≡ length (out_bytes front)
    → asked (alone.windows ++ on.others) (answers (alone.windows ++ on.others) (front ++ more) [] 0 (take index (acknowledgements (in_bytes (front ++ more))))) (out_before (front ++ more) (6 * index)) ≡ whole_within (alone.windows ++ on.others) (out_before (front ++ more) (6 * index))
asks_last_behind front more alone on index few out =
    let windows = alone.windows in
    let all = windows ++ on.others in
    let talk = front ++ more in
    let old = acknowledgements (in_bytes front) in
    let behind = numbers_more (in_bytes front) (in_bytes more) in
    let some = index - length old in
    let fits = numbers_fit (in_bytes front) in
    let number : index ≡ length old + some = omega (arith, fits, few) in
    let numbers : take index (acknowledgements (in_bytes talk)) ≡ old ++ take some behind.0 = ap (λ (bytes : List ℕ). take index (acknowledgements bytes)) (in_append front more) ∙ ap (take index) behind.1 ∙ ap (λ (n : ℕ). take n (old ++ behind.0)) number ∙ take-append-add old behind.0 some in
    let given = answers all talk [] 0 (take index (acknowledgements (in_bytes talk))) in
    let later = answers_more all talk [] 0 old (take some behind.0) in
    let stay = answers_stay windows on.others front more [] 0 old on.within (omega (arith, fits)) in
    let are : given ≡ answers windows front [] 0 old ++ later.0 = ap (answers all talk [] 0) numbers ∙ later.1 ∙ ap (λ (those : List Answer). those ++ later.0) stay in
    let whole : whole_within all (out_before talk (6 * index)) ≡ length windows = ap (whole_within all) out ∙ on.within (length (out_bytes front)) (omega arith) ∙ whole_all windows (length (out_bytes front)) (omega (arith, ap length alone.sent.whole, length-append (flat_map window_bytes windows) alone.sent.rest)) in
    asked_last all given (out_before talk (6 * index)) (λ window less.
    omega (arith, count_stays windows on.others window (omega (arith, less, whole)), alone.in_full window (omega (arith, less, whole)) (more_sent front windows alone.sent window (omega (arith, less, whole))), ap (greatest window) are, greatest-append window (answers windows front [] 0 old) later.0))

-- it is the last that was wholly out as each acknowledgement came
asks_last : (talk : List Piece) (windows : List (List (List ℕ))) → AreWindows (out_bytes talk) windows → HasOneInFlight talk → (index : ℕ) → index < length (acknowledgements (in_bytes talk)) → asked windows (answers windows talk [] 0 (take index (acknowledgements (in_bytes talk)))) (out_before talk (6 * index)) ≡ whole_within windows (out_before talk (6 * index))
asks_last talk windows sent one index there =
    let found = before talk (6 * index) (omega (arith, there, numbers_fit (in_bytes talk))) in
    let alone = one.always found.front found.more found.is in
    let on = goes_on found.front found.more alone.windows alone.sent in
    let all = alone.windows ++ on.others in
    let AreThese : List Piece → Type 0 = λ pieces. AreWindows (out_bytes pieces) all in
    let same = are_once (out_bytes talk) all windows (subst AreThese (sym found.is) on.sent) sent in
    let out = ap (λ (pieces : List Piece). out_before pieces (6 * index)) (sym found.is) ∙ found.out in
    let Asks : List Piece → Type 0 = λ pieces. asked all (answers all pieces [] 0 (take index (acknowledgements (in_bytes pieces)))) (out_before pieces (6 * index)) ≡ whole_within all (out_before pieces (6 * index)) in
    let AsksOf : List (List (List ℕ)) → Type 0 = λ ws. asked ws (answers ws talk [] 0 (take index (acknowledgements (in_bytes talk)))) (out_before talk (6 * index)) ≡ whole_within ws (out_before talk (6 * index)) in
    subst AsksOf same (subst Asks (sym found.is) (asks_last_behind found.front found.more alone on index found.few out))

-- ---- the answers

AsksLast : (talk : List Piece) (windows : List (List (List ℕ))) (numbers : List ℕ) → Type 0
AsksLast talk windows numbers = (index : ℕ) → index < length numbers → asked windows (answers windows talk [] 0 (take index numbers)) (out_before talk (6 * index)) ≡ whole_within windows (out_before talk (6 * index))

same_answers : (talk : List Piece) (windows : List (List (List ℕ))) (numbers : List ℕ) → AsksLast talk windows numbers → (done rest : List ℕ) → done ++ rest ≡ numbers → length (answers windows talk [] 0 done) ≡ length done → answers windows talk [] 0 (done ++ rest) ≡ answers windows talk [] 0 done ++ answers_of_last windows talk (6 * length done) rest
unfolding AsksLast
same_answers talk windows numbers asks done [] are faultless = ap (answers windows talk [] 0) (append-nil done) ∙ sym (append-nil (answers windows talk [] 0 done))
same_answers talk windows numbers asks done (number ∷ rest) are faultless =
    let index = length done in
    let place = 6 * index in
    let given = answers windows talk [] 0 done in
    let whole = whole_within windows (out_before talk place) in
    let answer : Answer = record { window = whole; number = number } in
    let taken : take index numbers ≡ done = ap (take index) (sym are) ∙ take_at done (number ∷ rest) index refl in
    let asks_here : asked windows given (out_before talk place) ≡ whole = ap (λ (ns : List ℕ). asked windows (answers windows talk [] 0 ns) (out_before talk place)) (sym taken) ∙ asks index (omega (arith, ap length are, length-append done (number ∷ rest))) in
    let here : 0 + 6 * length done ≡ place = omega arith in
    let through : (ns : List ℕ) → answers windows talk [] 0 (done ++ ns) ≡ answers windows talk given place ns = λ ns. answers_through windows talk [] 0 done ns (omega (arith, faultless)) ∙ ap (λ (p : ℕ). answers windows talk given p ns) here in
    elim (leb_tells number (count_at windows whole)) [
      | inl few ↦
          let fits : number ≤ count_at windows (asked windows given (out_before talk place)) = omega (arith, few.1, ap (count_at windows) asks_here) in
          let one : answers windows talk [] 0 (done ++ number ∷ []) ≡ given ++ answer ∷ [] = through (number ∷ []) ∙ answers_next windows talk given place number [] fits ∙ ap (λ (w : ℕ). given ++ record { window = w; number = number } ∷ []) asks_here in
          let next : 6 * length (done ++ number ∷ []) ≡ place + 6 = omega (arith, length-append done (number ∷ [])) in
          let others = same_answers talk windows numbers asks (done ++ number ∷ []) rest (append_assoc done (number ∷ []) rest ∙ are) (omega (arith, ap length one, length-append given (answer ∷ []), length-append done (number ∷ []), faultless)) in
          rw (few.0) (ap (answers windows talk [] 0) (sym (append_assoc done (number ∷ []) rest)) ∙ others ∙ ap (λ (front : List Answer). front ++ answers_of_last windows talk (6 * length (done ++ number ∷ [])) rest) one ∙ ap (λ (p : ℕ). (given ++ answer ∷ []) ++ answers_of_last windows talk p rest) next ∙ append_assoc given (answer ∷ []) (answers_of_last windows talk (place + 6) rest))
      | inr many ↦
          rw (many.0) (through (number ∷ rest) ∙ answers_stop windows talk given place number rest (omega (arith, many.1, ap (count_at windows) asks_here)) ∙ sym (append-nil given))
    ]

same_all : (talk : List Piece) (windows : List (List (List ℕ))) → AreWindows (out_bytes talk) windows → HasOneInFlight talk → answers windows talk [] 0 (acknowledgements (in_bytes talk)) ≡ answers_of_last windows talk 0 (acknowledgements (in_bytes talk))
unfolding AsksLast
same_all talk windows sent one = same_answers talk windows (acknowledgements (in_bytes talk)) (asks_last talk windows sent one) [] (acknowledgements (in_bytes talk)) refl refl

-- ---- both readings

-- the payloads
pub as_last : (talk : List Piece) (payloads : List (List ℕ)) → HasOneInFlight talk → Acknowledges talk payloads → AcknowledgesByLast talk payloads
as_last talk payloads one is =
    record { windows = is.windows; sent = is.sent; are = is.are ∙ ap (λ (given : List Answer). payloads_by given 1 is.windows) (same_all talk is.windows is.sent one) }

pub as_oldest : (talk : List Piece) (payloads : List (List ℕ)) → HasOneInFlight talk → AcknowledgesByLast talk payloads → Acknowledges talk payloads
as_oldest talk payloads one is =
    record { windows = is.windows; sent = is.sent; are = is.are ∙ ap (λ (given : List Answer). payloads_by given 1 is.windows) (sym (same_all talk is.windows is.sent one)) }

-- the faults
above_last : (talk : List Piece) (windows : List (List (List ℕ))) → AreWindows (out_bytes talk) windows → HasOneInFlight talk → (index : ℕ) → IsAboveCount windows talk index → IsAboveLastCount windows talk index
above_last talk windows sent one index high =
    record { there = high.there; above = omega (arith, high.above, ap (count_at windows) (asks_last talk windows sent one index high.there)) }

above_first : (talk : List Piece) (windows : List (List (List ℕ))) → AreWindows (out_bytes talk) windows → HasOneInFlight talk → (index : ℕ) → IsAboveLastCount windows talk index → (first : ℕ) × IsAboveCount windows talk first
above_first talk windows sent one index high =
    let numbers = acknowledgements (in_bytes talk) in
    elim (cases_lt (length (answers windows talk [] 0 numbers)) (length numbers)) [
      | inl less ↦
          let first = first_above windows talk [] 0 numbers (omega (arith, less)) in
          let place : 0 + 6 * first.0 ≡ 6 * first.0 = omega arith in (
            first.0,
            record {
              there = first.1;
              earlier = omega (arith, first.2);
              above = omega (arith, first.3, ap (λ (p : ℕ). count_at windows (asked windows (answers windows talk [] 0 (take first.0 numbers)) (out_before talk p))) place);
            },
          )
      | inr all ↦
          let few = few_each windows talk [] 0 numbers index (omega (arith, all, answers_few windows talk [] 0 numbers)) high.there in
          let place : 0 + 6 * index ≡ 6 * index = omega arith in
          absurd (omega (arith, few, high.above, ap (count_at windows) (asks_last talk windows sent one index high.there), ap (λ (p : ℕ). count_at windows (asked windows (answers windows talk [] 0 (take index numbers)) (out_before talk p))) place))
    ]

pub fault_as_last : (talk : List Piece) → HasOneInFlight talk → HasPeerFault talk → HasFaultByLast talk
fault_as_last talk one fault = record {
  windows = fault.windows;
  sent = fault.sent;
  fault = elim (fault.fault) [ inl high ↦ inl (high.0, above_last talk fault.windows fault.sent one high.0 high.1) | inr none ↦ inr none ];
}

pub fault_as_oldest : (talk : List Piece) → HasOneInFlight talk → HasFaultByLast talk → HasPeerFault talk
fault_as_oldest talk one fault = record {
  windows = fault.windows;
  sent = fault.sent;
  fault = elim (fault.fault) [ inl high ↦ inl (above_first talk fault.windows fault.sent one high.0 high.1) | inr none ↦ inr none ];
}

-- ---- one more window after a settled talk

-- a front of two lists of pieces is a front of the first, or the first and a front of the second
fronts : (talk rest front more : List Piece) → talk ++ rest ≡ front ++ more → ((left : List Piece) × (talk ≡ front ++ left)) ⊎ ((right : List Piece) × (front ≡ talk ++ right) × (rest ≡ right ++ more))
fronts [] rest front more same = inr (front, refl, same)
fronts (piece ∷ talk) rest [] more same = inl (piece ∷ talk, refl)
fronts (piece ∷ talk) rest (first ∷ front) more same =
    let one : piece ≡ first = cc in
    let others : talk ++ rest ≡ front ++ more = cc in
    elim (fronts talk rest front more others) [
      | inl within ↦ inl (within.0, ap (λ (p : Piece). p ∷ talk) one ∙ ap (λ (pieces : List Piece). first ∷ pieces) within.1)
      | inr past ↦ inr (past.0, ap (λ (p : Piece). p ∷ front) (sym one) ∙ ap (λ (pieces : List Piece). piece ∷ pieces) past.1, past.2)
    ]

-- this many windows take in the window after the others
first_in : (windows others : List (List (List ℕ))) (first : List (List ℕ)) (n : ℕ) → length windows < n → length (flat_map window_bytes windows) + length (window_bytes first) ≤ length (flat_map window_bytes (take n (windows ++ first ∷ others)))
first_in [] others first zero less = absurd (omega arith)
first_in [] others first (suc n) less = omega (arith, length-append (window_bytes first) (flat_map window_bytes (take n others)))
first_in (window ∷ windows) others first zero less = absurd (omega arith)
first_in (window ∷ windows) others first (suc n) less =
    omega (arith, first_in windows others first n (omega arith), length-append (window_bytes window) (flat_map window_bytes windows), length-append (window_bytes window) (flat_map window_bytes (take n (windows ++ first ∷ others))))

-- after the windows of a settled talk no more than the front of one window was sent
none_behind : (talk right : List Piece) (windows others : List (List (List ℕ))) (payloads : List (List ℕ)) (tail : List ℕ) (n : ℕ) → IsSettled talk windows → IsWindow payloads → out_bytes right ++ tail ≡ window_bytes payloads → AreWindows (out_bytes (talk ++ right)) (windows ++ others) → n ≤ length (windows ++ others) → length windows < n → length (flat_map window_bytes (take n (windows ++ others))) < length (out_bytes (talk ++ right)) → ⊥
none_behind talk right windows [] payloads tail n settled is out sent most past less = absurd (omega (arith, length-append windows []))
none_behind talk right windows (first ∷ others) payloads tail n settled is out sent most past less =
    let front = flat_map window_bytes windows in
    let spelled : front ++ out_bytes right ≡ front ++ (flat_map window_bytes (first ∷ others) ++ sent.rest) = ap (λ (bytes : List ℕ). bytes ++ out_bytes right) (sym settled.sent) ∙ sym (out_append talk right) ∙ sent.whole ∙ ap (λ (bytes : List ℕ). bytes ++ sent.rest) (flat_map-append window_bytes windows (first ∷ others)) ∙ append_assoc front (flat_map window_bytes (first ∷ others)) sent.rest in
    let behind = append_cancel_left front (out_bytes right) (flat_map window_bytes (first ∷ others) ++ sent.rest) spelled in
    let rest = flat_map window_bytes others ++ (sent.rest ++ tail) in
    let begins : window_bytes first ++ rest ≡ window_bytes payloads ++ [] = sym (append_assoc (window_bytes first) (flat_map window_bytes others) (sent.rest ++ tail)) ∙ sym (append_assoc (flat_map window_bytes (first ∷ others)) sent.rest tail) ∙ ap (λ (bytes : List ℕ). bytes ++ tail) (sym behind) ∙ out ∙ sym (append-nil (window_bytes payloads)) in
    let once = window_once first payloads rest [] (first_is windows others first sent.each) is begins in
    omega (arith, less, first_in windows others first n past, ap (λ (w : List (List ℕ)). length (window_bytes w)) once.0, ap length (out_append talk right), length-append (out_bytes talk) (out_bytes right), ap length settled.sent, ap length out, length-append (out_bytes right) tail)
  where
    first_is : (windows others : List (List (List ℕ))) (first : List (List ℕ)) → AllByRecursion IsWindow (windows ++ first ∷ others) → IsWindow first
    first_is [] others first each = each.0
    first_is (window ∷ windows) others first each = first_is windows others first each.1

alone_behind : (talk right : List Piece) (windows : List (List (List ℕ))) (payloads : List (List ℕ)) (tail : List ℕ) → IsSettled talk windows → IsWindow payloads → out_bytes right ++ tail ≡ window_bytes payloads → AreEarlierInFull (talk ++ right)
alone_behind talk right windows payloads tail settled is out =
    let on = goes_on talk right windows (windows_are talk windows settled) in
    record {
      windows = windows ++ on.others;
      sent = on.sent;
      in_full = λ window most less.
          elim (cases_lt (length windows) window) [
            | inl past ↦ absurd (none_behind talk right windows on.others payloads tail window settled is out on.sent most past less)
            | inr old ↦ omega (arith, count_stays windows on.others window old, settled.in_full window, greater talk right windows on window, ap (λ (ns : List ℕ). greatest window (answers windows talk [] 0 ns)) (numbers_are talk windows settled))
          ];
    }

-- and then one window is in flight as before
pub one_still : (talk sent heard : List Piece) (windows : List (List (List ℕ))) (payloads : List (List ℕ)) → HasOneInFlight talk → IsSettled talk windows → IsWindow payloads → out_bytes sent ≡ window_bytes payloads → out_bytes heard ≡ [] → HasOneInFlight ((talk ++ sent) ++ heard)
one_still talk sent heard windows payloads one settled is out quiet = record {
  always = λ front more same.
      elim (fronts talk (sent ++ heard) front more (sym (append_assoc talk sent heard) ∙ same)) [
        | inl within ↦ one.always front within.0 within.1
        | inr past ↦
            let spelled : out_bytes past.0 ++ out_bytes more ≡ window_bytes payloads = sym (out_append past.0 more) ∙ ap out_bytes (sym past.2) ∙ out_append sent heard ∙ ap (λ (bytes : List ℕ). out_bytes sent ++ bytes) quiet ∙ append-nil (out_bytes sent) ∙ out in
            subst AreEarlierInFull (sym past.1) (alone_behind talk past.0 windows payloads (out_bytes more) settled is spelled)
      ];
}

-- nothing is in flight in a talk of nothing
pub none_in_flight : HasOneInFlight []
none_in_flight = record { always = always }
  where
    always : (front more : List Piece) → [] ≡ front ++ more → AreEarlierInFull front
    always [] more same = record { windows = []; sent = record { each = tt; rest = []; whole = refl; cut = none_in_nothing }; in_full = λ window most less. absurd (omega arith) }
    always (piece ∷ front) more same = absurd cc
