-- One more byte: the window stands for the exchange with it, and what it answers is so.
use Rattle.std.proofs.Common.{◌≡◌, ◌≢◌, ℕ, suc, ◌+◌, ◌-◌, ◌<◌, ◌≤◌, Bool, true, false, eqb, List, [], cond, ◌∷◌, ◌++◌, length, take, drop, Some, None, IfSome, unwrap_or, refl, sym, ap, subst, ◌∙◌, arith, inl, inr}
use Rattle.std.proofs.lemmas.Bool.{cases_lt}
use Rattle.std.proofs.lemmas.Bool.Decides.{eqb_tells}
use Rattle.std.proofs.lemmas.List.{length-append, length-take}
use Rattle.wire_base.specs.declared.parcel.Parcel.{Parcel}
use Rattle.lumber_frame.specs.declared.frame.Frame.TheVariants.{Ack}
use Rattle.lumber_frame.specs.Frame.{frame_bytes}
use Rattle.lumber_frame.specs.Talk.{out_bytes}
use Rattle.lumber_frame.specs.Window.{AreWindows}
use Rattle.lumber_frame.specs.Acknowledged.{Answer, asked, count_at, greatest}
use Rattle.lumber_client.specs.declared.heard.Heard.{Heard}
use Rattle.lumber_client.specs.declared.heard.Heard.TheVariants.{More, Alive, Acked, PeerFault}
use Rattle.lumber_client.specs.declared.incoming.Taken.TheVariants.{Front, Number, Fault}
use Rattle.lumber_client.specs.Answer.{AreWhole, IsAnswerTo}
use Rattle.lumber_client.specs.Exchange.{Exchange, windows_of, given_in, parcels_by, acknowledged_in, with_heard}
use Rattle.lumber_client.specs.Hearing.{IsTakenAs, asks_with, heard_as}
use Rattle.lumber_client.specs.Held.{Held, acknowledged_to, begun_in, has_some, oldest_of, total, with_hearing, younger_of}
use Rattle.lumber_client.specs.Standing.{AreAnswered, Hears, HearsWith, StandsFor, window_asked}
use Rattle.lumber_client.specs.Step.{Answers, IsNews, IsOld, IsTooHigh, count_asked, now_failed}
use Rattle.lumber_client.proofs.Answered.{acked_front, acked_number, part_few, answered_full, answered_more, answered_same, oldest_count}
use Rattle.lumber_client.proofs.Asks.{asks_now}
use Rattle.lumber_client.proofs.Given.{newly_given, nothing_new}
use Rattle.lumber_client.proofs.Hearings.{asked_is_next, fault_above, fault_begins, given_above, given_front, given_whole, hears_first, hears_next, hears_whole, length_heard, no_fault_heard, out_same}
use Rattle.lumber_client.proofs.Parcels.{joined, parcels_same}
use Rattle.lumber_client.proofs.Standings.{front_again, stands_heard, take_both, whole_out, windows_out}

-- the window is not at fault
heard_well : (w : Held) (e : Exchange) (s : StandsFor w e) → w.hearing.failed ≡ false → Hears e w.hearing.frame (window_asked w.hearing.asks_oldest s.full)
heard_well w e s fine = subst (λ (failed : Bool). HearsWith failed e w.hearing.frame (window_asked w.hearing.asks_oldest s.full)) fine s.heard

-- nothing more is acknowledged where the answers are the same
same_acked : (w : Held) (e : Exchange) (byte : ℕ) → StandsFor w e → given_in (with_heard e byte) ≡ given_in e → e.handed ++ take w.acknowledged w.parcels ≡ e.earlier ++ acknowledged_in (with_heard e byte)
same_acked w e byte s same = s.acknowledged ∙ ap (λ (given : List Answer). e.earlier ++ parcels_by given 1 e.begun) (sym same)

still_answered : (w : Held) (e : Exchange) (byte : ℕ) (s : StandsFor w e) → given_in (with_heard e byte) ≡ given_in e → AreAnswered e.begun (given_in (with_heard e byte)) s.full w.flights w.done w.last
still_answered w e byte s same = answered_same e.begun (given_in e) (given_in (with_heard e byte)) s.full w.flights w.done w.last (λ window. ap (greatest window) same) s.answered

-- ---- a frame goes on

hears_front : (e : Exchange) (frame : List ℕ) (byte full : ℕ) (asks oldest : Bool) → Hears e frame (window_asked asks full) → IsTakenAs (frame ++ byte ∷ []) Front → asked (windows_of e.begun) (given_in e) (length (out_bytes e.talk)) ≡ window_asked oldest full → Hears (with_heard e byte) (frame ++ byte ∷ []) (window_asked (asks_with frame asks oldest) full)
hears_front e [] byte full asks oldest h taken now = hears_first e (window_asked asks full) byte (window_asked oldest full) h taken.0 taken.1 now
hears_front e (first ∷ frame) byte full asks oldest h taken now = hears_next e first frame (window_asked asks full) byte h taken.0 taken.1

some_flights : (flights : List ℕ) (oldest : Bool) → oldest ≡ has_some flights → oldest ≡ true → 0 < length flights
some_flights [] oldest is so = absurd cc
some_flights (count ∷ counts) oldest is so = omega arith

flies_front : (frame : List ℕ) (byte : ℕ) (asks oldest : Bool) (flights : List ℕ) → oldest ≡ has_some flights → (frame ≢ [] → asks ≡ true → 0 < length flights) → asks_with frame asks oldest ≡ true → 0 < length flights
flies_front [] byte asks oldest flights is flies so = some_flights flights oldest is so
flies_front (first ∷ frame) byte asks oldest flights is flies so = flies (λ none. absurd cc) so

-- it is not whole
front_unended : (e : Exchange) (frame : List ℕ) (window byte : ℕ) → Hears (with_heard e byte) (frame ++ byte ∷ []) window → AreWhole (with_heard e byte) → ⊥
front_unended e frame window byte h whole = absurd (omega (arith, length_heard (with_heard e byte) (frame ++ byte ∷ []) window h, whole.1, h.short, length-append frame (byte ∷ [])))

pub front_stands : (w : Held) (e : Exchange) (byte : ℕ) (oldest : Bool) → StandsFor w e → w.out ≡ [] → w.hearing.failed ≡ false → oldest ≡ has_some w.flights → IsTakenAs (w.hearing.frame ++ byte ∷ []) Front
    → StandsFor (with_hearing w (heard_as w.hearing byte oldest Front)) (with_heard e byte) × IsAnswerTo e byte More
front_stands w e byte oldest s none fine is taken =
    let frame = w.hearing.frame in
    let asks = w.hearing.asks_oldest in
    let h = heard_well w e s fine in
    let now = asks_now e.begun (given_in e) s.full w.flights w.done w.last (length (out_bytes e.talk)) oldest s.answered (whole_out w e s none) is in
    let next = hears_front e frame byte s.full asks oldest h taken now in
    let same = given_front e frame (window_asked asks s.full) byte h taken.0 in
    let sent = subst (λ (bytes : List ℕ). AreWindows bytes (windows_of e.begun)) (sym (out_same e.talk byte)) (windows_out w e s none) in (
      stands_heard w (with_hearing w (heard_as w.hearing byte oldest Front)) e byte s.full s refl refl refl refl (still_answered w e byte s same) s.few next (λ some so. flies_front frame byte asks oldest w.flights is s.flies so) refl (same_acked w e byte s same),
      record {
        no_fault = no_fault_heard (with_heard e byte) (frame ++ byte ∷ []) (window_asked (asks_with frame asks oldest) s.full) next sent;
        cut = front_unended e frame (window_asked (asks_with frame asks oldest) s.full) byte next;
      },
    )

-- ---- bytes that begin no acknowledgement

pub fault_stands : (w : Held) (e : Exchange) (byte : ℕ) (oldest : Bool) → StandsFor w e → w.out ≡ [] → w.hearing.failed ≡ false → oldest ≡ has_some w.flights → IsTakenAs (w.hearing.frame ++ byte ∷ []) Fault
    → StandsFor (with_hearing w (heard_as w.hearing byte oldest Fault)) (with_heard e byte) × IsAnswerTo e byte (PeerFault w.hearing.given)
fault_stands w e byte oldest s none fine is taken =
    let frame = w.hearing.frame in
    let asks = w.hearing.asks_oldest in
    let h = heard_well w e s fine in
    let same = given_front e frame (window_asked asks s.full) byte h taken.0 in
    let fault = fault_begins e frame (window_asked asks s.full) byte h (windows_out w e s none) taken.0 taken.1 in (
      stands_heard w (with_hearing w (heard_as w.hearing byte oldest Fault)) e byte s.full s refl refl refl refl (still_answered w e byte s same) s.few fault (λ some so. flies_front frame byte asks oldest w.flights is s.flies so) refl (same_acked w e byte s same),
      (fault, s.given),
    )

-- ---- a whole acknowledgement

-- it began before its last byte, so it asks of the window that was asked then
asks_as : (frame : List ℕ) (byte number : ℕ) (asks oldest : Bool) → frame ++ byte ∷ [] ≡ frame_bytes (Ack number) → asks_with frame asks oldest ≡ asks
asks_as [] byte number asks oldest is = absurd (omega (arith, ap length is))
asks_as (first ∷ frame) byte number asks oldest is = refl

began : (frame : List ℕ) (byte number : ℕ) → frame ++ byte ∷ [] ≡ frame_bytes (Ack number) → frame ≢ []
began [] byte number is none = absurd (omega (arith, ap length is))
began (first ∷ frame) byte number is none = absurd cc

-- the count of the window that is asked
asked_count : (begun : List (List Parcel)) (given : List Answer) (full : ℕ) (flights : List ℕ) (done last : ℕ) (asks : Bool) → AreAnswered begun given full flights done last → (asks ≡ true → 0 < length flights) → unwrap_or (cond asks (oldest_of flights) None) last ≡ count_at (windows_of begun) (window_asked asks full)
asked_count begun given full flights done last false a flies = a.last_count
asked_count begun given full [] done last true a flies = absurd (omega (arith, flies refl))
asked_count begun given full (count ∷ counts) done last true a flies = sym (oldest_count begun given full count counts done last a)

-- what is not new is not above the greatest number of the window that is asked
old_given : (begun : List (List Parcel)) (given : List Answer) (full : ℕ) (flights : List ℕ) (done last number : ℕ) (asks : Bool) → AreAnswered begun given full flights done last → (asks ≡ true → 0 < length flights) → number ≤ unwrap_or (cond asks (oldest_of flights) None) last → IfSome (cond asks (oldest_of flights) None) (λ count. number ≤ done) → number ≤ greatest (window_asked asks full) given
old_given begun given full flights done last number false a flies few old = omega (arith, few, a.last_count, a.in_full full (omega arith))
old_given begun given full [] done last number true a flies few old = absurd (omega (arith, flies refl))
old_given begun given full (count ∷ counts) done last number true a flies few old = omega (arith, old, a.oldest)

-- whole frames were given
whole_heard : (e : Exchange) (window : ℕ) (h : Hears e [] window) → AreWhole e
whole_heard e window h = (length h.numbers, omega (arith, length_heard e [] window h))

-- the frame asks of a window in flight
asked_some : (asks : Bool) (flights : List ℕ) (count : ℕ) → cond asks (oldest_of flights) None ≡ Some count → (asks ≡ true) × (flights ≡ count ∷ younger_of flights)
asked_some false flights count is = absurd cc
asked_some true [] count is = absurd cc
asked_some true (first ∷ counts) count is =
    let same : first ≡ count = cc in
    (refl, ap (λ (c : ℕ). c ∷ counts) same)

younger_few : (flights : List ℕ) → length (younger_of flights) ≤ length flights
younger_few [] = omega arith
younger_few (count ∷ counts) = omega arith

few_where : (test : Bool) (flights : List ℕ) → length (cond test (younger_of flights) flights) ≤ length flights
few_where true flights = younger_few flights
few_where false flights = omega arith

-- how far the windows are acknowledged with this number
record Newly (w : Held) (e : Exchange) (byte number : ℕ) (new : Held) : Type 0 where
  full : ℕ
  answered : AreAnswered e.begun (given_in (with_heard e byte)) full new.flights new.done new.last
  sizes : total new.flights + number ≡ total w.flights + new.done

module _ (w : Held) (e : Exchange) (byte number : ℕ) (oldest : Bool) (s : StandsFor w e) (none : w.out ≡ []) (fine : w.hearing.failed ≡ false) (is : oldest ≡ has_some w.flights) (taken : IsTakenAs (w.hearing.frame ++ byte ∷ []) (Number number)) where
  -- the window with the frame taken
  abbrev taken_as : Held
  taken_as = with_hearing w (heard_as w.hearing byte oldest (Number number))

  abbrev window : ℕ
  window = window_asked w.hearing.asks_oldest s.full

  h : Hears e w.hearing.frame window
  h = heard_well w e s fine

  asks_same : asks_with w.hearing.frame w.hearing.asks_oldest oldest ≡ w.hearing.asks_oldest
  asks_same = asks_as w.hearing.frame byte number w.hearing.asks_oldest oldest taken.1

  flies_now : w.hearing.asks_oldest ≡ true → 0 < length w.flights
  flies_now = s.flies (began w.hearing.frame byte number taken.1)

  count_is : count_asked taken_as ≡ count_at (windows_of e.begun) window
  count_is = ap (λ (asks : Bool). unwrap_or (cond asks (oldest_of w.flights) None) w.last) asks_same ∙ asked_count e.begun (given_in e) s.full w.flights w.done w.last w.hearing.asks_oldest s.answered flies_now

  sent_then : AreWindows (out_bytes (with_heard e byte).talk) (windows_of e.begun)
  sent_then = subst (λ (bytes : List ℕ). AreWindows bytes (windows_of e.begun)) (sym (out_same e.talk byte)) (windows_out w e s none)

  -- nothing new
  pub old_stands : (new : Held) → IsOld taken_as number new → StandsFor new (with_heard e byte) × IsAnswerTo e byte Alive
  old_stands new old =
      let few : number ≤ count_at (windows_of e.begun) window = omega (arith, old.few, count_is) in
      let below = old_given e.begun (given_in e) s.full w.flights w.done w.last number w.hearing.asks_oldest s.answered flies_now (omega (arith, few, asked_count e.begun (given_in e) s.full w.flights w.done w.last w.hearing.asks_oldest s.answered flies_now)) (subst (λ (asks : Bool). IfSome (cond asks (oldest_of w.flights) None) (λ count. number ≤ w.done)) asks_same old.old) in
      let given = given_whole e w.hearing.frame window byte number h taken.0 taken.1 few in
      let same : (k : ℕ) → greatest k (given_in (with_heard e byte)) ≡ greatest k (given_in e) = λ k. ap (greatest k) given ∙ nothing_new (given_in e) window number k below in
      let next = hears_whole e w.hearing.frame window byte number (window_asked taken_as.hearing.asks_oldest s.full) h taken.0 taken.1 few in
      let acked = parcels_same (given_in e) (given_in (with_heard e byte)) 1 e.begun same in
      let stands = stands_heard w taken_as e byte s.full s refl refl refl refl (answered_same e.begun (given_in e) (given_in (with_heard e byte)) s.full w.flights w.done w.last same s.answered) s.few next (λ some so. absurd (some refl)) refl (s.acknowledged ∙ ap (λ (tail : List Parcel). e.earlier ++ tail) (sym acked)) in (
        subst (λ (v : Held). StandsFor v (with_heard e byte)) (sym old.is) stands,
        record {
          no_fault = no_fault_heard (with_heard e byte) [] (window_asked taken_as.hearing.asks_oldest s.full) next sent_then;
          whole = whole_heard (with_heard e byte) (window_asked taken_as.hearing.asks_oldest s.full) next;
          nothing_new = acked;
        },
      )

  -- a number above the count
  pub high_stands : (new : Held) → IsTooHigh taken_as number new → StandsFor new (with_heard e byte) × IsAnswerTo e byte (PeerFault w.hearing.given)
  high_stands new high =
      let many : count_at (windows_of e.begun) window < number = omega (arith, high.above, count_is) in
      let same = given_above e w.hearing.frame window byte number h taken.0 taken.1 many in
      let fault = fault_above e w.hearing.frame window byte number h (windows_out w e s none) taken.0 taken.1 many in
      let failed = with_hearing taken_as (now_failed taken_as.hearing) in
      let stands = stands_heard w failed e byte s.full s refl refl refl refl (still_answered w e byte s same) s.few fault (λ some so. absurd (some refl)) refl (same_acked w e byte s same) in
      (subst (λ (v : Held). StandsFor v (with_heard e byte)) (sym high.is) stands, (fault, s.given))

  newly : (count : ℕ) → w.flights ≡ count ∷ younger_of w.flights → given_in (with_heard e byte) ≡ given_in e ++ record { window = suc s.full; number = number } ∷ [] → w.done < number → number ≤ count → Newly w e byte number (acknowledged_to taken_as number count)
  newly count flights given more few =
      let counts = younger_of w.flights in
      let a = subst (λ (all : List ℕ). AreAnswered e.begun (given_in e) s.full all w.done w.last) flights s.answered in
      let size = ap total flights in
      elim (eqb_tells number count) [
        | inl is ↦ record {
          full = suc s.full;
          answered = rw (is.0) (subst (λ (all : List Answer). AreAnswered e.begun all (suc s.full) counts 0 number) (sym given) (answered_full e.begun (given_in e) s.full count counts w.done w.last number s.each a more is.1));
          sizes = rw (is.0) (omega (arith, size, is.1));
        }
        | inr is ↦ record {
          full = s.full;
          answered = rw (is.0) (subst (λ (all : List Answer). AreAnswered e.begun all s.full w.flights number w.last) (sym given) (subst (λ (all : List ℕ). AreAnswered e.begun (given_in e ++ record { window = suc s.full; number = number } ∷ []) s.full all number w.last) (sym flights) (answered_more e.begun (given_in e) s.full count counts w.done w.last number a more (below count few is.1))));
          sizes = rw (is.0) (omega arith);
        }
      ]
    where
      below : (count : ℕ) → number ≤ count → (number ≡ count → ⊥) → number < count
      below count few apart = elim (cases_lt number count) [ inl less ↦ less | inr many ↦ absurd (apart (omega (arith, few, many))) ]

  -- more is acknowledged
  pub news_stands : (new : Held) (from to : ℕ) → IsNews taken_as number from to new → StandsFor new (with_heard e byte) × IsAnswerTo e byte (Acked from to)
  news_stands new from to news =
      let count = news.count in
      let after = with_heard e byte in
      let some = asked_some taken_as.hearing.asks_oldest w.flights count news.asked in
      let asks : w.hearing.asks_oldest ≡ true = sym asks_same ∙ some.0 in
      let window_is : window ≡ suc s.full = ap (λ (b : Bool). window_asked b s.full) asks in
      let a = subst (λ (all : List ℕ). AreAnswered e.begun (given_in e) s.full all w.done w.last) some.1 s.answered in
      let counted = oldest_count e.begun (given_in e) s.full count (younger_of w.flights) w.done w.last a in
      let within : number ≤ count_at (windows_of e.begun) window = omega (arith, news.few, counted, ap (count_at (windows_of e.begun)) window_is) in
      let given = given_whole e w.hearing.frame window byte number h taken.0 taken.1 within ∙ ap (λ (k : ℕ). given_in e ++ record { window = k; number = number } ∷ []) window_is in
      let next = hears_whole e w.hearing.frame window byte number (window_asked taken_as.hearing.asks_oldest s.full) h taken.0 taken.1 within in
      let v = acknowledged_to taken_as number count in
      let n = newly count some.1 given news.more news.few in
      let old_number = acked_number e.begun (given_in e) s.full w.flights w.done w.last s.answered in
      let new_number = acked_number e.begun (given_in after) n.full v.flights v.done v.last n.answered in
      let front = acked_front e.begun (given_in after) n.full v.flights v.done v.last n.answered in
      let old_front = acked_front e.begun (given_in e) s.full w.flights w.done w.last s.answered in
      let acked = acknowledged_in e in
      let now = acknowledged_in after in
      let step = number - w.done in
      let sizes : length now ≡ length acked + step = omega (arith, old_number, new_number, n.sizes, news.more) in
      let held = ap length s.acknowledged in
      let lengths : length e.handed + w.acknowledged ≡ length e.earlier + length acked = omega (arith, held, length-append e.handed (take w.acknowledged w.parcels), length-append e.earlier acked, length-take w.acknowledged w.parcels, s.within) in
      let all_held = ap length s.held in
      let all_lengths : length e.handed + begun_in w ≡ length e.earlier + length (joined e.begun) = omega (arith, all_held, length-append e.handed (take (begun_in w) w.parcels), length-append e.earlier (joined e.begun), length-take (begun_in w) w.parcels, s.within) in
      let few_now : length now ≤ length (joined e.begun) = omega (arith, new_number, part_few v.done v.flights n.answered.part) in
      let few_step : w.acknowledged + step ≤ begun_in w = omega (arith, sizes, lengths, all_lengths, few_now) in
      let number_held : begun_in v ≡ begun_in w = omega (arith, few_step) in
      let settled = front_again e.handed e.earlier (joined e.begun) w.parcels now (begun_in w) (w.acknowledged + step) s.held front (omega (arith, sizes, lengths)) few_step in
      let flights_few : length v.flights ≤ length w.flights = few_where (eqb number count) w.flights in
      let stands = stands_heard w v e byte n.full s refl refl refl number_held n.answered (omega (arith, flights_few, s.few)) (heard_any n.full within) (λ frame so. absurd (frame refl)) refl settled in
      let parcels = take step (drop (length acked) (joined e.begun)) in
      let spelled : now ≡ acked ++ parcels = front ∙ ap (λ (k : ℕ). take k (joined e.begun)) sizes ∙ take_both (joined e.begun) (length acked) step (omega (arith, few_now, sizes)) ∙ ap (λ (head : List Parcel). head ++ parcels) (sym old_front) in
      let asks_next = asked_is_next e w.hearing.frame window byte number h taken.1 ∙ window_is in (
        subst (λ (u : Held). StandsFor u after) (sym news.is) stands,
        record {
          no_fault = no_fault_heard after [] (window_asked taken_as.hearing.asks_oldest s.full) next sent_then;
          whole = whole_heard after (window_asked taken_as.hearing.asks_oldest s.full) next;
          more = omega (arith, news.from_is, news.to_is, news.more);
          was = ap (λ (k : ℕ). greatest k (given_in e)) asks_next ∙ s.answered.oldest ∙ sym news.from_is;
          is = ap (λ (k : ℕ). greatest k (given_in after)) asks_next ∙ ap (greatest (suc s.full)) given ∙ newly_given (given_in e) (suc s.full) number (omega (arith, s.answered.oldest, news.more)) ∙ sym news.to_is;
          parcels = parcels;
          number = omega (arith, ap length spelled, length-append acked parcels, sizes, news.from_is, news.to_is);
          newly = spelled;
        },
      )
    where
      heard_any : (full : ℕ) → number ≤ count_at (windows_of e.begun) window → Hears (with_heard e byte) [] (window_asked taken_as.hearing.asks_oldest full)
      heard_any full within = hears_whole e w.hearing.frame window byte number (window_asked taken_as.hearing.asks_oldest full) h taken.0 taken.1 within

-- ---- any whole acknowledgement

pub answer_stands : (w : Held) (e : Exchange) (byte number : ℕ) (oldest : Bool) → StandsFor w e → w.out ≡ [] → w.hearing.failed ≡ false → oldest ≡ has_some w.flights → IsTakenAs (w.hearing.frame ++ byte ∷ []) (Number number)
    → (heard : Heard) (new : Held) → Answers (with_hearing w (heard_as w.hearing byte oldest (Number number))) number w.hearing.given heard new → StandsFor new (with_heard e byte) × IsAnswerTo e byte heard
answer_stands w e byte number oldest s none fine is taken More new answers = absurd answers
answer_stands w e byte number oldest s none fine is taken Alive new answers = old_stands w e byte number oldest s none fine is taken new answers
answer_stands w e byte number oldest s none fine is taken (Acked from to) new answers = news_stands w e byte number oldest s none fine is taken new from to answers
answer_stands w e byte number oldest s none fine is taken (PeerFault at) new answers =
    let high = high_stands w e byte number oldest s none fine is taken new answers.1 in
    (high.0, (high.1.0, answers.0 ∙ high.1.1))
