-- Moments that a clock gave, and a talk that is not answered.
use Rattle.std.proofs.Common.{◌≡◌, inl, inr, ℕ, zero, suc, ◌+◌, ◌-◌, ◌<◌, ◌≤◌, true, List, [], ◌∷◌, ◌++◌, length, take, drop, flat_map, slice_get, Option, Some, None, refl, sym, ap, ◌∙◌, subst, append_assoc, append-nil, arith, length-append, length-drop}
use Rattle.std.proofs.lemmas.List.{drop-append-le, drop-drop, length-map, take-append-drop}
use Rattle.lumber_client.specs.Exchange.{Exchange, acknowledged_in, given_in, payloads_of, windows_of}
use Rattle.lumber_client.specs.Held.{Held, IsPart, total}
use Rattle.lumber_client.specs.Standing.{StandsFor}
use Rattle.lumber_client.proofs.Acknowledging.{acknowledges}
use Rattle.lumber_client.proofs.Answered.{acked_number}
use Rattle.lumber_client.proofs.Standings.{all_out}
use Rattle.lumber_frame.specs.Acknowledged.{Acknowledges}
use Rattle.lumber_frame.specs.Talk.{out_bytes}
use Rattle.outside.specs.Talks.{Talk, TellsReceiving}
use Rattle.outside.specs.Times.{EndsWith, GivesMoment}
use Rattle.outside.specs.declared.link.Recv.TheVariants.{NotYet}
use Rattle.wire_base.specs.declared.parcel.Parcel.{Parcel}
use Rattle.wire_base.specs.declared.talk.Piece.{Piece}
use Rattle.spool_queue.specs.declared.limits.TheConstants.{TIMEOUT_MS}
use Rattle.spool_queue.specs.SendSoFar.{ClockGoesOn, HasGiven, HasPieces, LinkTalkIs}
use Rattle.spool_queue.specs.Silence.{IsUnanswered, PassesTimeout, moments_since}

-- ---- lists that end with a moment

snoc_at : (n : ℕ) (moments : List ℕ) (moment : ℕ) → n + 1 ≡ length moments → slice_get moments n ≡ Some moment → (front : List ℕ) × (moments ≡ front ++ moment ∷ [])
snoc_at n [] moment is ends = absurd (omega (arith, is))
snoc_at zero (one ∷ []) moment is ends = let same : one ≡ moment = cc in ([], ap (λ (n : ℕ). n ∷ []) same)
snoc_at zero (one ∷ next ∷ moments) moment is ends = absurd (omega (arith, is))
snoc_at (suc n) (one ∷ moments) moment is ends =
    let rest = snoc_at n moments moment (omega (arith, is)) ends in
    (one ∷ rest.0, ap (λ (l : List ℕ). one ∷ l) rest.1)

snoc_of : (moments : List ℕ) (moment : ℕ) → EndsWith moments moment → (front : List ℕ) × (moments ≡ front ++ moment ∷ [])
snoc_of [] moment ends = absurd cc
snoc_of (one ∷ moments) moment ends = snoc_at (length (one ∷ moments) - 1) (one ∷ moments) moment (omega arith) ends

-- a list with a member in it is its front and its last member
parted_last : (one : ℕ) (others : List ℕ) → (front : List ℕ) × (last : ℕ) × (one ∷ others ≡ front ++ last ∷ [])
parted_last one [] = ([], one, refl)
parted_last one (next ∷ others) =
    let rest = parted_last next others in
    (one ∷ rest.0, rest.1, ap (λ (l : List ℕ). one ∷ l) rest.2)

abbrev head_or : List ℕ → ℕ → ℕ
head_or [] n = n
head_or (m ∷ moments) n = m

abbrev tail_of : List ℕ → List ℕ
tail_of [] = []
tail_of (m ∷ moments) = moments

ends_alike : (some : List ℕ) (x : ℕ) (others : List ℕ) (y : ℕ) → some ++ x ∷ [] ≡ others ++ y ∷ [] → x ≡ y
ends_alike [] x [] y is = ap (λ (l : List ℕ). head_or l x) is
ends_alike [] x (o ∷ []) y is = absurd (let q = ap length is in omega (arith, q))
ends_alike [] x (o ∷ p ∷ others) y is = absurd (let q = ap length is in omega (arith, q))
ends_alike (s ∷ []) x [] y is = absurd (let q = ap length is in omega (arith, q))
ends_alike (s ∷ t ∷ some) x [] y is = absurd (let q = ap length is in omega (arith, q))
ends_alike (s ∷ some) x (o ∷ others) y is = ends_alike some x others y (ap tail_of is)

few_dropped : (k : ℕ) (moments before behind : List ℕ) (moment : ℕ) → drop k moments ≡ before ++ moment ∷ behind → k < length moments
few_dropped k moments before behind moment is = omega (arith, ap length is, length-drop k moments, length-append before (moment ∷ behind))

-- ---- a clock

pub still_told : (moments : Option (List ℕ)) → ClockGoesOn moments moments
still_told None = tt
still_told (Some moments) = ([], ap (λ (l : List ℕ). Some l) (sym (append-nil moments)))

pub goes_on_behind : (first mid after : Option (List ℕ)) → ClockGoesOn first mid → ClockGoesOn mid after → ClockGoesOn first after
goes_on_behind None mid after one then = tt
goes_on_behind (Some first) None after one then = absurd (let same : None ≡ Some (first ++ one.0) = one.1 in cc)
goes_on_behind (Some first) (Some mid) after one then =
    let is : mid ≡ first ++ one.0 = cc (one.1) in
    (one.0 ++ then.0, then.1 ∙ ap (λ (l : List ℕ). Some (l ++ then.0)) is ∙ ap (λ (l : List ℕ). Some l) (append_assoc first one.0 then.0))

pub gives_on : (before after : Option (List ℕ)) (moment : ℕ) → GivesMoment before moment after → ClockGoesOn before after
gives_on None after moment gives = tt
gives_on (Some before) after moment (inl (ends, same)) = ([], same ∙ ap (λ (l : List ℕ). Some l) (sym (append-nil before)))
gives_on (Some before) after moment (inr (not, same)) = (moment ∷ [], same)

-- the moment that it gives stands among those since
pub given_now : (before after : Option (List ℕ)) (moment : ℕ) → GivesMoment before moment after → HasGiven before after moment
given_now None after moment gives = tt
given_now (Some before) after moment (inl (ends, same)) =
    let snoc = snoc_of before moment ends in
    let H : Option (List ℕ) → Type 0 = λ o. HasGiven (Some before) o moment in
    let long : length before ≡ length snoc.0 + 1 = ap length snoc.1 ∙ length-append snoc.0 (moment ∷ []) in
    let k : ℕ = length before - 1 in
    let cut : drop k before ≡ drop k snoc.0 ++ moment ∷ [] = ap (drop k) snoc.1 ∙ drop-append-le k snoc.0 (moment ∷ []) (omega (arith, long)) in
    subst H (sym same) (record { before = drop k snoc.0; behind = []; are = cut })
given_now (Some before) after moment (inr (not, same)) =
    let H : Option (List ℕ) → Type 0 = λ o. HasGiven (Some before) o moment in
    subst H (sym same) (record { before = drop (length before - 1) before; behind = []; are = drop-append-le (length before - 1) before (moment ∷ []) (omega arith) })

-- and among those from then on
pub given_from_now : (before after : Option (List ℕ)) (moment : ℕ) → GivesMoment before moment after → HasGiven after after moment
given_from_now None after moment gives = let H : Option (List ℕ) → Type 0 = λ o. HasGiven o o moment in subst H (sym gives) tt
given_from_now (Some before) after moment (inl (ends, same)) = let H : Option (List ℕ) → Type 0 = λ o. HasGiven o o moment in subst H (sym same) (given_now (Some before) (Some before) moment (inl (ends, refl)))
given_from_now (Some before) after moment (inr (not, same)) =
    let H : Option (List ℕ) → Type 0 = λ o. HasGiven o o moment in
    let k : ℕ = length (before ++ moment ∷ []) - 1 in
    subst H (sym same) (record { before = drop k before; behind = []; are = drop-append-le k before (moment ∷ []) (omega (arith, length-append before (moment ∷ []))) })

-- and stays there
pub given_still : (first mid after : Option (List ℕ)) (moment : ℕ) → HasGiven first mid moment → ClockGoesOn mid after → HasGiven first after moment
given_still None mid after moment given on = tt
given_still (Some first) None after moment given on = absurd given
given_still (Some first) (Some mid) after moment given on =
    let H : Option (List ℕ) → Type 0 = λ o. HasGiven (Some first) o moment in
    let k : ℕ = length first - 1 in
    let few = few_dropped k mid given.before given.behind moment given.are in
    subst H (sym on.1) (record {
      before = given.before;
      behind = given.behind ++ on.0;
      are = drop-append-le k mid on.0 (omega (arith, few)) ∙ ap (λ (l : List ℕ). l ++ on.0) given.are ∙ append_assoc given.before (moment ∷ given.behind) on.0;
    })

-- a moment that lies so far behind one of these ends the wait
pub passes : (first mid after : Option (List ℕ)) (heard now : ℕ) → HasGiven first mid heard → GivesMoment mid now after → heard + TIMEOUT_MS ≤ now → PassesTimeout first after
passes None mid after heard now given gives apart = tt
passes (Some first) None after heard now given gives apart = absurd given
passes (Some first) (Some mid) after heard now given (inr (not, same)) apart =
    let P : Option (List ℕ) → Type 0 = λ o. PassesTimeout (Some first) o in
    let k : ℕ = length first - 1 in
    let few = few_dropped k mid given.before given.behind heard given.are in
    subst P (sym same) (record {
      before = given.before;
      earlier = heard;
      between = given.behind;
      later = now;
      behind = [];
      are = drop-append-le k mid (now ∷ []) (omega (arith, few)) ∙ ap (λ (l : List ℕ). l ++ now ∷ []) given.are ∙ append_assoc given.before (heard ∷ given.behind) (now ∷ []);
      apart = apart;
    })
passes (Some first) (Some mid) after heard now given (inl (ends, same)) apart =
    let P : Option (List ℕ) → Type 0 = λ o. PassesTimeout (Some first) o in
    subst P (sym same) (by_behind given.behind given.are)
  where
    k : ℕ
    k = length first - 1

    snoc : (front : List ℕ) × (mid ≡ front ++ now ∷ [])
    snoc = snoc_of mid now ends

    cut : (before behind : List ℕ) → drop k mid ≡ before ++ heard ∷ behind → drop k snoc.0 ++ now ∷ [] ≡ before ++ heard ∷ behind
    cut before behind are =
        let few = few_dropped k mid before behind heard are in
        let long : length mid ≡ length snoc.0 + 1 = ap length snoc.1 ∙ length-append snoc.0 (now ∷ []) in
        sym (drop-append-le k snoc.0 (now ∷ []) (omega (arith, few, long))) ∙ ap (drop k) (sym snoc.1) ∙ are

    by_behind : (behind : List ℕ) → drop k mid ≡ given.before ++ heard ∷ behind → PassesTimeout (Some first) (Some mid)
    by_behind [] are = absurd (let same = ends_alike given.before heard (drop k snoc.0) now (sym (cut given.before [] are)) in omega (arith, same, apart))
    by_behind (b ∷ behind) are =
        let last = parted_last b behind in
        let ends_so : drop k snoc.0 ++ now ∷ [] ≡ (given.before ++ heard ∷ last.0) ++ last.1 ∷ [] =
        cut given.before (b ∷ behind) are ∙ ap (λ (l : List ℕ). given.before ++ heard ∷ l) last.2 ∙ sym (append_assoc given.before (heard ∷ last.0) (last.1 ∷ [])) in
        let is_now : now ≡ last.1 = ends_alike (drop k snoc.0) now (given.before ++ heard ∷ last.0) last.1 ends_so in
        record {
          before = given.before;
          earlier = heard;
          between = last.0;
          later = last.1;
          behind = [];
          are = are ∙ ap (λ (l : List ℕ). given.before ++ heard ∷ l) last.2;
          apart = omega (arith, apart, is_now);
        }

-- the moments since a later time stand behind others of those since an earlier one
since_both : (first mid after : List ℕ) → ClockGoesOn (Some first) (Some mid) → (more : List ℕ) × (moments_since first after ≡ more ++ moments_since mid after)
since_both first mid after on =
    let is : mid ≡ first ++ on.0 = cc (on.1) in
    let a : ℕ = length first - 1 in
    let b : ℕ = length mid - 1 in
    let fewer : a ≤ b = omega (arith, ap length is, length-append first on.0) in
    let sum : a + (b - a) ≡ b = omega (arith, fewer) in
    let more : List ℕ = take (b - a) (drop a after) in
    (more, sym (take-append-drop (b - a) (drop a after)) ∙ ap (λ (l : List ℕ). more ++ l) (drop-drop (b - a) a after ∙ ap (λ (n : ℕ). drop n after) sum))

-- in a part of a run the timeout passed: so it did in the run
pub passes_in : (first mid after : Option (List ℕ)) → ClockGoesOn first mid → PassesTimeout mid after → PassesTimeout first after
passes_in None mid after on passed = tt
passes_in (Some first) None after on passed = absurd (let same : None ≡ Some (first ++ on.0) = on.1 in cc)
passes_in (Some first) (Some mid) None on passed = absurd passed
passes_in (Some first) (Some mid) (Some after) on passed =
    let both = since_both first mid after on in
    record {
      before = both.0 ++ passed.before;
      earlier = passed.earlier;
      between = passed.between;
      later = passed.later;
      behind = passed.behind;
      are = both.1 ∙ ap (λ (l : List ℕ). both.0 ++ l) passed.are ∙ sym (append_assoc both.0 passed.before (passed.earlier ∷ (passed.between ++ passed.later ∷ passed.behind)));
      apart = passed.apart;
    }

-- a moment that it gives later stands among those since, too
pub given_later : (first mid after : Option (List ℕ)) (moment : ℕ) → ClockGoesOn first mid → GivesMoment mid moment after → HasGiven first after moment
given_later None mid after moment on gives = tt
given_later (Some first) None after moment on gives = absurd (let same : None ≡ Some (first ++ on.0) = on.1 in cc)
given_later (Some first) (Some mid) after moment on gives = widened after (given_now (Some mid) after moment gives)
  where
    widened : (after : Option (List ℕ)) → HasGiven (Some mid) after moment → HasGiven (Some first) after moment
    widened None given = given
    widened (Some after) given =
        let both = since_both first mid after on in
        record { before = both.0 ++ given.before; behind = given.behind; are = both.1 ∙ ap (λ (l : List ℕ). both.0 ++ l) given.are ∙ sym (append_assoc both.0 given.before (moment ∷ given.behind)) }

-- ---- a talk

part_below : (done : ℕ) (counts : List ℕ) → 0 < length counts → IsPart done counts → done < total counts
part_below done [] some part = absurd (omega (arith, some))
part_below done (count ∷ counts) some part = omega (arith, part)

length_joined : (begun : List (List Parcel)) → length (flat_map (λ (window : List (List ℕ)). window) (windows_of begun)) ≡ length (flat_map (λ (parcels : List Parcel). parcels) begun)
length_joined [] = refl
length_joined (parcels ∷ begun) =
    let rest = length_joined begun in
    omega (arith, rest, length-append (payloads_of parcels) (flat_map (λ (window : List (List ℕ)). window) (windows_of begun)), length-append parcels (flat_map (λ (ps : List Parcel). ps) begun), length-map parcels (λ (p : Parcel). p.payload))

-- all of a window is out and it is in flight: the talk is not answered once the link was idle
unanswered : (window : Held) (e : Exchange) (talk : Talk) → StandsFor window e → window.out ≡ [] → 0 < length window.flights → talk.pieces ≡ e.talk → talk.idled ≡ true → IsUnanswered talk
unanswered window e talk stands out flying pieces idled =
    let all_of = acked_number e.begun (given_in e) stands.full window.flights window.done window.last stands.answered in
    let some = part_below window.done window.flights flying stands.answered.part in
    record {
      windows = windows_of e.begun;
      each = stands.each;
      sent = ap out_bytes pieces ∙ all_out window e stands out;
      acknowledged = payloads_of (acknowledged_in e);
      acknowledges = subst (λ (p : List Piece). Acknowledges p (payloads_of (acknowledged_in e))) (sym pieces) (acknowledges window e stands);
      fewer = omega (arith, all_of, some, length_joined e.begun, length-map (acknowledged_in e) (λ (p : Parcel). p.payload));
      idled = idled;
    }

pub idle_unanswered : (window : Held) (e : Exchange) (began told later : Option Talk) (into : List ℕ) → StandsFor window e → window.out ≡ [] → 0 < length window.flights → HasPieces began told e.talk → TellsReceiving told into NotYet later → LinkTalkIs IsUnanswered began later
idle_unanswered window e None told later into stands out flying has tells = tt
idle_unanswered window e (Some began) None later into stands out flying has tells = absurd has
idle_unanswered window e (Some began) (Some talk) later into stands out flying has tells =
    let L : Option Talk → Type 0 = λ o. LinkTalkIs IsUnanswered (Some began) o in
    subst L (sym tells) (unanswered window e (record talk { idled = true }) stands out flying has refl)
