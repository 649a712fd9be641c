-- A window stands for an exchange, and stands for it still as it goes on.
use Rattle.std.proofs.Common.{◌≡◌, ◌≢◌, ℕ, zero, suc, ◌+◌, ◌<◌, ◌≤◌, Bool, true, false, List, [], ◌∷◌, ◌++◌, length, take, drop, refl, sym, ap, subst, ◌∙◌, append_assoc, arith}
use Rattle.std.specs.List.{AllByRecursion, flat_map}
use Rattle.std.proofs.Math.Seq.{take-append-add}
use Rattle.std.proofs.lemmas.List.{append-nil, length-append, length-drop, length-map, length-take, length-take-le, map-append, take-append-drop, take-append-le, take-take, take_min}
use Rattle.std.proofs.lemmas.List.Concat.{flat_map-append}
use Rattle.wire_base.specs.declared.parcel.Parcel.{Parcel}
use Rattle.wire_base.specs.declared.talk.Piece.TheVariants.{Out}
use Rattle.lumber_frame.specs.Talk.{in_bytes, out_bytes}
use Rattle.lumber_frame.specs.Window.{AreWindows, IsWindow, window_bytes}
use Rattle.lumber_frame.specs.Acknowledged.{Answer, acknowledgements, count_at, greatest, whole_within}
use Rattle.lumber_frame.proofs.Faults.{fault_stays, none_begins}
use Rattle.lumber_frame.proofs.GoingOn.{all_both}
use Rattle.lumber_frame.proofs.OneMoreWindow.{whole_all}
use Rattle.lumber_frame.proofs.Settling.{none_in_nothing}
use Rattle.lumber_frame.proofs.Staying.{numbers_fit, out_append}
use Rattle.lumber_client.specs.Exchange.{Exchange, payloads_of, windows_of, given_in, parcels_by, acknowledged_in, with_begun, with_heard, with_sent, with_handed, anew}
use Rattle.lumber_client.specs.Hearing.{one_more}
use Rattle.lumber_client.specs.Held.{Held, begun_in, begun_as, made_again, next_in, sent_as, waiting_in, with_parcels}
use Rattle.lumber_client.specs.Standing.{AreAnswered, Hears, HearsWith, StandsFor, window_asked}
use Rattle.lumber_client.proofs.Answered.{answered_begun, answered_same}
use Rattle.lumber_client.proofs.Given.{none_given}
use Rattle.lumber_client.proofs.Hearings.{given_as_begun, given_as_sent, hears_begun, hears_sent, in_more, in_same, out_same}
use Rattle.lumber_client.proofs.Parcels.{joined}

-- ---- what is out

-- all that was begun
pub all_out : (w : Held) (e : Exchange) → StandsFor w e → w.out ≡ [] → out_bytes e.talk ≡ flat_map window_bytes (windows_of e.begun)
all_out w e s none =
    let nothing : w.out ++ w.behind ≡ [] = ap (λ (o : List ℕ). o ++ w.behind) none ∙ s.nothing_behind none in
    sym (append-nil (out_bytes e.talk)) ∙ ap (λ (tail : List ℕ). out_bytes e.talk ++ tail) (sym nothing) ∙ s.sent

pub windows_out : (w : Held) (e : Exchange) → StandsFor w e → w.out ≡ [] → AreWindows (out_bytes e.talk) (windows_of e.begun)
windows_out w e s none = record {
  each = s.each;
  rest = [];
  whole = all_out w e s none ∙ sym (append-nil (flat_map window_bytes (windows_of e.begun)));
  cut = none_in_nothing;
}

pub whole_out : (w : Held) (e : Exchange) → StandsFor w e → w.out ≡ [] → whole_within (windows_of e.begun) (length (out_bytes e.talk)) ≡ length e.begun
whole_out w e s none =
    whole_all (windows_of e.begun) (length (out_bytes e.talk)) (omega (arith, ap length (all_out w e s none))) ∙ length-map e.begun payloads_of

-- no more than was begun
sent_few : (w : Held) (e : Exchange) → StandsFor w e → length (out_bytes e.talk) ≤ length (flat_map window_bytes (windows_of e.begun))
sent_few w e s = omega (arith, ap length s.sent, length-append (out_bytes e.talk) (w.out ++ w.behind))

-- ---- lists

pub take_both : (xs : List Parcel) (b n : ℕ) → b ≤ length xs → take (b + n) xs ≡ take b xs ++ take n (drop b xs)
take_both xs b n few =
    let size : length (take b xs) ≡ b = length-take-le b xs few in
    ap (λ (k : ℕ). take (k + n) xs) (sym size) ∙ ap (take (length (take b xs) + n)) (sym (take-append-drop b xs)) ∙ take-append-add (take b xs) (drop b xs) n

-- a front of two lists that are the same beginnings
pub front_again : (handed earlier begun parcels acked : List Parcel) (b more : ℕ) → handed ++ take b parcels ≡ earlier ++ begun → acked ≡ take (length acked) begun → length earlier + length acked ≡ length handed + more → more ≤ b → handed ++ take more parcels ≡ earlier ++ acked
front_again handed earlier begun parcels acked b more same front sizes few =
    ap (λ (back : List Parcel). handed ++ back) (sym (take-take more b parcels few))
    ∙ sym (take-append-add handed (take b parcels) more)
    ∙ ap (λ (n : ℕ). take n (handed ++ take b parcels)) (sym sizes)
    ∙ ap (take (length earlier + length acked)) same
    ∙ take-append-add earlier begun (length acked)
    ∙ ap (λ (back : List Parcel). earlier ++ back) (sym front)

parcels_append : (given : List Answer) (number : ℕ) (begun more : List (List Parcel)) → parcels_by given number (begun ++ more) ≡ parcels_by given number begun ++ parcels_by given (number + length begun) more
parcels_append given number [] more =
    let here : number ≡ number + 0 = omega arith in
    ap (λ (n : ℕ). parcels_by given n more) here
parcels_append given number (parcels ∷ begun) more =
    let next : suc number + length begun ≡ number + suc (length begun) = omega arith in
    let front = take (greatest number given) parcels in
    ap (λ (tail : List Parcel). front ++ tail) (parcels_append given (suc number) begun more ∙ ap (λ (n : ℕ). parcels_by given (suc number) begun ++ parcels_by given n more) next) ∙ sym (append_assoc front (parcels_by given (suc number) begun) (parcels_by given (number + suc (length begun)) more))

-- ---- a new window

none_counted : (window : ℕ) → window ≤ 0 → greatest window [] ≡ count_at [] window
none_counted zero few = refl
none_counted (suc window) few = absurd (omega arith)

-- nothing is answered where nothing was begun
none_answered : AreAnswered [] [] 0 [] 0 0
none_answered = record {
  first = [];
  flying = [];
  all = refl;
  number = refl;
  in_full = none_counted;
  oldest = refl;
  later = λ window past. refl;
  counts = refl;
  part = refl;
  last_count = refl;
}

none_heard : (e : Exchange) (window : ℕ) → e.talk ≡ [] → e.begun ≡ [] → Hears e [] window
none_heard e window talk begun = record {
  numbers = [];
  small = tt;
  received = ap in_bytes talk;
  faultless = refl;
  short = omega arith;
  begins = none_begins;
  asks = λ some. absurd (some refl);
}

-- ---- what goes on without a byte

-- a parcel is offered
pub stands_offered : (w : Held) (e : Exchange) (parcel : Parcel) → StandsFor w e → StandsFor (with_parcels w (w.parcels ++ parcel ∷ []) w.acknowledged) e
stands_offered w e parcel s =
    let front : (n : ℕ) → n ≤ length w.parcels → take n (w.parcels ++ parcel ∷ []) ≡ take n w.parcels = λ n few. take-append-le n w.parcels (parcel ∷ []) few in
    record {
      each = s.each;
      sent = s.sent;
      nothing_behind = s.nothing_behind;
      full = s.full;
      answered = s.answered;
      few = s.few;
      heard = s.heard;
      flies = s.flies;
      given = s.given;
      within = omega (arith, s.within, length-append w.parcels (parcel ∷ []));
      held = ap (λ (ps : List Parcel). e.handed ++ ps) (front (begun_in w) s.within) ∙ s.held;
      acknowledged = ap (λ (ps : List Parcel). e.handed ++ ps) (front w.acknowledged (omega (arith, s.within))) ∙ s.acknowledged;
    }

heard_begun : (failed : Bool) (e : Exchange) (parcels : List Parcel) (frame : List ℕ) (window : ℕ) → length (out_bytes e.talk) ≤ length (flat_map window_bytes (windows_of e.begun)) → HearsWith failed e frame window → HearsWith failed (with_begun e parcels) frame window
heard_begun true e parcels frame window sent h = h
heard_begun false e parcels frame window sent h = hears_begun e parcels frame window sent h

-- the next parcels are taken from those that wait
pub next_takes : (w : Held) → begun_in w ≤ length w.parcels → take (begun_in w + length (next_in w)) w.parcels ≡ take (begun_in w) w.parcels ++ next_in w
next_takes w within =
    let rest = waiting_in w in
    take_both w.parcels (begun_in w) (length (next_in w)) within
    ∙ ap (λ (n : ℕ). take (begun_in w) w.parcels ++ take n rest) (length-take w.most rest)
    ∙ ap (λ (tail : List Parcel). take (begun_in w) w.parcels ++ tail) (take_min w.most rest)

-- the next window is begun
pub stands_begun : (w : Held) (e : Exchange) (out behind : List ℕ) → StandsFor w e → IsWindow (payloads_of (next_in w)) → length w.flights < w.depth → out ++ behind ≡ (w.out ++ w.behind) ++ window_bytes (payloads_of (next_in w)) → (out ≡ [] → behind ≡ []) → StandsFor (begun_as w out behind) (with_begun e (next_in w))
stands_begun w e out behind s is room bytes nothing =
    let next = next_in w in
    let windows = windows_of e.begun in
    let wb = window_bytes (payloads_of next) in
    let more = map-append payloads_of e.begun (next ∷ []) in
    let few = sent_few w e s in
    let fit = numbers_fit (in_bytes e.talk) in
    let after = with_begun e next in
    let same : given_in after ≡ given_in e = given_as_begun e next (acknowledgements (in_bytes e.talk)) few fit in
    let some : 0 < length next = omega (arith, is.some, length-map next (λ (p : Parcel). p.payload)) in
    let snoc : flat_map window_bytes (windows_of after.begun) ≡ flat_map window_bytes windows ++ wb = ap (λ (ws : List (List (List ℕ))). flat_map window_bytes ws) more ∙ flat_map-append window_bytes windows (payloads_of next ∷ []) ∙ ap (λ (tail : List ℕ). flat_map window_bytes windows ++ tail) (append-nil wb) in
    let size : length next + begun_in w ≤ length w.parcels = omega (arith, length-take w.most (waiting_in w), length-drop (begun_in w) w.parcels, s.within) in
    let number : begun_in (begun_as w out behind) ≡ begun_in w + length next = omega arith in
    let joins : joined after.begun ≡ joined e.begun ++ next = flat_map-append (λ (parcels : List Parcel). parcels) e.begun (next ∷ []) ∙ ap (λ (tail : List Parcel). joined e.begun ++ tail) (append-nil next) in
    let unasked : greatest (1 + length e.begun) (given_in e) ≡ 0 = none_given windows e.talk [] 0 (acknowledgements (in_bytes e.talk)) (1 + length e.begun) (omega (arith, length-map e.begun payloads_of)) refl in
    let acked : acknowledged_in after ≡ acknowledged_in e = ap (λ (given : List Answer). parcels_by given 1 after.begun) same ∙ parcels_append (given_in e) 1 e.begun (next ∷ []) ∙ ap (λ (n : ℕ). acknowledged_in e ++ (take n next ++ [])) unasked ∙ append-nil (acknowledged_in e) in
    record {
      each = subst (λ (ws : List (List (List ℕ))). AllByRecursion IsWindow ws) (sym more) (all_both IsWindow windows (payloads_of next ∷ []) s.each (is, tt));
      sent = ap (λ (tail : List ℕ). out_bytes e.talk ++ tail) bytes ∙ sym (append_assoc (out_bytes e.talk) (w.out ++ w.behind) wb) ∙ ap (λ (front : List ℕ). front ++ wb) s.sent ∙ sym snoc;
      nothing_behind = nothing;
      full = s.full;
      answered = answered_begun e.begun next (given_in after) s.full w.flights w.done w.last some (answered_same e.begun (given_in e) (given_in after) s.full w.flights w.done w.last (λ window. ap (greatest window) same) s.answered);
      few = omega (arith, room, length-append w.flights (length next ∷ []));
      heard = heard_begun w.hearing.failed e next w.hearing.frame (window_asked w.hearing.asks_oldest s.full) few s.heard;
      flies = λ some_frame oldest. omega (arith, s.flies some_frame oldest, length-append w.flights (length next ∷ []));
      given = s.given;
      within = omega (arith, size);
      held = ap (λ (n : ℕ). e.handed ++ take n w.parcels) number ∙ ap (λ (ps : List Parcel). e.handed ++ ps) (next_takes w s.within) ∙ sym (append_assoc e.handed (take (begun_in w) w.parcels) next) ∙ ap (λ (front : List Parcel). front ++ next) s.held ∙ append_assoc e.earlier (joined e.begun) next ∙ ap (λ (tail : List Parcel). e.earlier ++ tail) (sym joins);
      acknowledged = s.acknowledged ∙ ap (λ (tail : List Parcel). e.earlier ++ tail) (sym acked);
    }

heard_sent : (failed : Bool) (e : Exchange) (bytes frame : List ℕ) (window : ℕ) → HearsWith failed e frame window → HearsWith failed (with_sent e bytes) frame window
heard_sent true e bytes frame window h = fault_stays e.talk (Out bytes ∷ []) h
heard_sent false e bytes frame window h = hears_sent e bytes frame window h

-- bytes go out
pub stands_sent : (w : Held) (e : Exchange) (n : ℕ) (out behind : List ℕ) → StandsFor w e → n ≤ length w.out → out ++ behind ≡ drop n (w.out ++ w.behind) → (out ≡ [] → behind ≡ []) → StandsFor (sent_as w out behind) (with_sent e (take n w.out))
stands_sent w e n out behind s few bytes nothing =
    let all = w.out ++ w.behind in
    let went = take n w.out in
    let front = out_bytes e.talk in
    let after = with_sent e went in
    let same : given_in after ≡ given_in e = given_as_sent e went (numbers_fit (in_bytes e.talk)) in
    record {
      each = s.each;
      sent = ap (λ (head : List ℕ). head ++ (out ++ behind)) (out_append e.talk (Out went ∷ []) ∙ ap (λ (tail : List ℕ). front ++ tail) (append-nil went))
          ∙ append_assoc front went (out ++ behind)
          ∙ ap (λ (tail : List ℕ). front ++ (went ++ tail)) bytes
          ∙ ap (λ (head : List ℕ). front ++ (head ++ drop n all)) (sym (take-append-le n w.out w.behind few))
          ∙ ap (λ (tail : List ℕ). front ++ tail) (take-append-drop n all)
          ∙ s.sent;
      nothing_behind = nothing;
      full = s.full;
      answered = answered_same e.begun (given_in e) (given_in after) s.full w.flights w.done w.last (λ window. ap (greatest window) same) s.answered;
      few = s.few;
      heard = heard_sent w.hearing.failed e went w.hearing.frame (window_asked w.hearing.asks_oldest s.full) s.heard;
      flies = s.flies;
      given = omega (arith, s.given, ap length (in_same e.talk went));
      within = s.within;
      held = s.held;
      acknowledged = s.acknowledged ∙ ap (λ (tail : List Parcel). e.earlier ++ tail) (sym (ap (λ (given : List Answer). parcels_by given 1 e.begun) same));
    }

heard_handed : (failed : Bool) (e : Exchange) (parcel : Parcel) (frame : List ℕ) (window : ℕ) → HearsWith failed e frame window → HearsWith failed (with_handed e parcel) frame window
heard_handed true e parcel frame window h = h
heard_handed false e parcel frame window h = record { numbers = h.numbers; small = h.small; received = h.received; faultless = h.faultless; short = h.short; begins = h.begins; asks = h.asks }

-- an acknowledged parcel is handed out
pub stands_handed : (w : Held) (e : Exchange) (parcel : Parcel) (rest : List Parcel) (acknowledged : ℕ) → StandsFor w e → w.parcels ≡ parcel ∷ rest → w.acknowledged ≡ suc acknowledged → StandsFor (with_parcels w rest acknowledged) (with_handed e parcel)
stands_handed w e parcel rest acknowledged s parcels number =
    let moved : (n m : ℕ) → n ≡ suc m → (e.handed ++ parcel ∷ []) ++ take m rest ≡ e.handed ++ take n w.parcels = λ n m is.
    append_assoc e.handed (parcel ∷ []) (take m rest) ∙ ap (λ (k : ℕ). e.handed ++ take k (parcel ∷ rest)) (sym is) ∙ ap (λ (ps : List Parcel). e.handed ++ take n ps) (sym parcels) in
    record {
      each = s.each;
      sent = s.sent;
      nothing_behind = s.nothing_behind;
      full = s.full;
      answered = s.answered;
      few = s.few;
      heard = heard_handed w.hearing.failed e parcel w.hearing.frame (window_asked w.hearing.asks_oldest s.full) s.heard;
      flies = s.flies;
      given = s.given;
      within = omega (arith, s.within, number, ap length parcels);
      held = moved (begun_in w) (acknowledged + w.in_flight) (omega (arith, number)) ∙ s.held;
      acknowledged = moved w.acknowledged acknowledged number ∙ s.acknowledged;
    }

-- it is the next of those that the talks acknowledge
pub handed_next : (w : Held) (e : Exchange) (parcel : Parcel) (rest : List Parcel) (acknowledged : ℕ) → StandsFor w e → w.parcels ≡ parcel ∷ rest → w.acknowledged ≡ suc acknowledged → e.earlier ++ acknowledged_in e ≡ e.handed ++ parcel ∷ take acknowledged rest
handed_next w e parcel rest acknowledged s parcels number =
    sym s.acknowledged ∙ ap (λ (ps : List Parcel). e.handed ++ take w.acknowledged ps) parcels ∙ ap (λ (k : ℕ). e.handed ++ take k (parcel ∷ rest)) number

-- and none is left where none is to be handed out
pub handed_all : (w : Held) (e : Exchange) → StandsFor w e → w.acknowledged ≡ 0 → e.earlier ++ acknowledged_in e ≡ e.handed
handed_all w e s none = sym s.acknowledged ∙ ap (λ (k : ℕ). e.handed ++ take k w.parcels) none ∙ append-nil e.handed

-- the window is made again
pub stands_again : (w : Held) (e : Exchange) → StandsFor w e → StandsFor (made_again w) (anew e)
stands_again w e s =
    let number : begun_in (made_again w) ≡ w.acknowledged = omega arith in
    record {
      each = tt;
      sent = refl;
      nothing_behind = λ none. refl;
      full = 0;
      answered = none_answered;
      few = omega arith;
      heard = none_heard (anew e) (window_asked false 0) refl refl;
      flies = λ some oldest. absurd (some refl);
      given = omega arith;
      within = omega (arith, s.within);
      held = ap (λ (n : ℕ). e.handed ++ take n w.parcels) number ∙ s.acknowledged ∙ sym (append-nil (e.earlier ++ acknowledged_in e));
      acknowledged = s.acknowledged ∙ sym (append-nil (e.earlier ++ acknowledged_in e));
    }

-- ---- a byte comes

-- what stays then
pub stands_heard : (w new : Held) (e : Exchange) (byte full : ℕ) → StandsFor w e → new.out ≡ w.out → new.behind ≡ w.behind → new.parcels ≡ w.parcels → begun_in new ≡ begun_in w
    → AreAnswered e.begun (given_in (with_heard e byte)) full new.flights new.done new.last → length new.flights ≤ new.depth
    → HearsWith new.hearing.failed (with_heard e byte) new.hearing.frame (window_asked new.hearing.asks_oldest full) → (new.hearing.frame ≢ [] → new.hearing.asks_oldest ≡ true → 0 < length new.flights)
    → new.hearing.given ≡ one_more w.hearing.given → e.handed ++ take new.acknowledged w.parcels ≡ e.earlier ++ acknowledged_in (with_heard e byte) → StandsFor new (with_heard e byte)
stands_heard w new e byte full s out behind parcels number answered few heard flies given acknowledged = record {
  each = s.each;
  sent = ap (λ (tail : List ℕ). out_bytes (with_heard e byte).talk ++ tail) (ap (λ (o : List ℕ). o ++ new.behind) out ∙ ap (λ (b : List ℕ). w.out ++ b) behind) ∙ ap (λ (front : List ℕ). front ++ (w.out ++ w.behind)) (out_same e.talk byte) ∙ s.sent;
  nothing_behind = λ none. behind ∙ s.nothing_behind (sym out ∙ none);
  full = full;
  answered = answered;
  few = few;
  heard = heard;
  flies = flies;
  given = omega (arith, given, s.given, ap length (in_more e.talk byte), length-append (in_bytes e.talk) (byte ∷ []));
  within = omega (arith, s.within, number, ap length parcels);
  held = ap (λ (ps : List Parcel). e.handed ++ take (begun_in new) ps) parcels ∙ ap (λ (n : ℕ). e.handed ++ take n w.parcels) number ∙ s.held;
  acknowledged = ap (λ (ps : List Parcel). e.handed ++ take new.acknowledged ps) parcels ∙ acknowledged;
}
