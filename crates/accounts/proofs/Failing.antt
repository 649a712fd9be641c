-- A worker fails so over each of its turns, by its answer.
use Rattle.std.proofs.Common.{◌≡◌, ◌≢◌, ◌⊎◌, ⊎_elim, inl, inr, ℕ, ◌+◌, ◌-◌, ◌*◌, ◌^◌, ◌<◌, ◌≤◌, min, max, true, All, Contains, IfSome, List, [], ◌∷◌, ◌++◌, length, drop, flat_map, Option, Some, None, slice_index_or, refl, sym, ap, subst, ◌∙◌, append_assoc, append-nil, pow_pos, arith}
use Rattle.std.proofs.lemmas.Bool.{cases_lt}
use Rattle.std.proofs.lemmas.List.{drop-append-le, length-append, length-map}
use Rattle.std.proofs.lemmas.List.Elements.{All-contains, Contains-append_left, Contains-push}
use Rattle.std.proofs.Math.Seq.{drop-length}
use Rattle.batch_worker.specs.Acknowledged.{AcknowledgeInAll}
use Rattle.batch_worker.specs.Answers.{FailsFor, FaultIsTold, Finishes, IsFaultAt, IsFaulty, IsPeersFault, IsRefused, IsRest, IsTimedOut, IsTurn, TalkIdles}
use Rattle.batch_worker.specs.Ending.{CanFinish, HasTalks}
use Rattle.batch_worker.specs.Held.{carried_in}
use Rattle.batch_worker.specs.Keeping.{FailsAt, KeepsMoments, SameMoments, WorkerGoes, failures_since, one_failure_more}
use Rattle.batch_worker.specs.Links.{IsAllOut}
use Rattle.batch_worker.specs.Rests.{IsResting, rest_end}
use Rattle.batch_worker.specs.Seen.{Seen}
use Rattle.batch_worker.specs.Standing.{HasTalk, Speaks, StandsFor}
use Rattle.batch_worker.specs.Waits.{oldest_out, silent_since}
use Rattle.batch_worker.specs.Working.{Working}
use Rattle.batch_worker.specs.declared.answer.Failure.{Failure}
use Rattle.batch_worker.specs.declared.answer.Failure.TheVariants.{Closed, Connect, Peer, Receive, Send, TimedOut}
use Rattle.batch_worker.specs.declared.answer.WorkerTurn.{WorkerTurn}
use Rattle.batch_worker.specs.declared.answer.WorkerTurn.TheVariants.{Failed, Held, Idle, NotYet, Resting, Worked}
use Rattle.batch_worker.proofs.Finishing.{may_end}
use Rattle.harvester.specs.Standing.{EndsAt}
use Rattle.kept_rows.specs.Failures.{AreFailures, HasLastFailures, IsUnanswered, OnlyTheFirstAcknowledges}
use Rattle.lumber_client.specs.Exchange.{Exchange, acknowledged_in, given_in, payloads_of, windows_of}
use Rattle.lumber_client.specs.Held.{IsPart, total}
use Rattle.lumber_client.specs.Standing.{StandsFor as WindowStandsFor}
use Rattle.lumber_client.proofs.Acknowledging.{acknowledges}
use Rattle.lumber_client.proofs.Alike.{joined_fault}
use Rattle.lumber_client.proofs.Answered.{acked_number}
use Rattle.lumber_client.proofs.Standings.{all_out}
use Rattle.lumber_frame.specs.Acknowledged.{Acknowledges}
use Rattle.lumber_frame.specs.PeerFault.{HasPeerFault}
use Rattle.lumber_frame.specs.Talk.{out_bytes}
use Rattle.lumber_frame.proofs.Faults.{fault_stays}
use Rattle.outside.specs.Counts.{IsAtEnd, Rose}
use Rattle.outside.specs.Talks.{Talk}
use Rattle.outside.specs.Wires.{Finished, KeepsRefusal, Outcome, Refused, TellsFinishing}
use Rattle.ship_core.proofs.Members.{none_there, there_cases}
use Rattle.told_events.specs.Licence.{LieApart}
use Rattle.wire_base.specs.declared.numbers.Moment.{Moment}
use Rattle.wire_base.specs.declared.parcel.Parcel.{Parcel}
use Rattle.wire_base.specs.declared.talk.Piece.{Piece}
use Rattle.wire_base.specs.declared.talk.Piece.TheVariants.{In}
use Rattle.accounts.specs.Failing.{IsFailing, IsFailingSo}
use Rattle.accounts.proofs.Failures.{failures_later, failures_with, last_so_many, nothing_by, only_first_with}

-- ---- moments

abbrev tail_of : List ℕ → List ℕ
tail_of [] = []
tail_of (x ∷ xs) = xs

-- a list that ends with a moment and is parted: the second part ends with it, if there is one
ends_left : (used left earlier : List ℕ) (now : ℕ) → left ≢ [] → used ++ left ≡ earlier ++ now ∷ [] → EndsAt left now
ends_left [] left earlier now some is = record { earlier = earlier; are = is }
ends_left (u ∷ used) left [] now some is = absurd (some (none_behind used left (ap tail_of is)))
  where
    none_behind : (front back : List ℕ) → front ++ back ≡ [] → back ≡ []
    none_behind [] back none = none
    none_behind (x ∷ front) back none = absurd cc
ends_left (u ∷ used) left (e ∷ earlier) now some is = ends_left used left earlier now some (ap tail_of is)

last_in : (moments : List ℕ) (now : ℕ) → EndsAt moments now → Contains moments now
last_in moments now ends = subst (λ (l : List ℕ). Contains l now) (sym ends.are) (Contains-push ends.earlier now)

some_left : (left : List ℕ) (now : ℕ) → Contains left now → left ≢ []
some_left left now there none = none_there now (subst (λ (l : List ℕ). Contains l now) none there)

-- a member is between others
record Parted (all : List ℕ) (one : ℕ) : Type 0 where
  before : List ℕ
  behind : List ℕ
  are : all ≡ before ++ one ∷ behind

part_at : (all : List ℕ) (one : ℕ) → Contains all one → Parted all one
part_at [] one there = absurd (none_there one there)
part_at (x ∷ all) one there = by_case (there_cases x one all there) (part_at all one)
  where
    by_case : (x ≡ one) ⊎ Contains all one → (Contains all one → Parted all one) → Parted (x ∷ all) one
    by_case (inl same) later = record { before = []; behind = all; are = ap (λ (n : ℕ). n ∷ all) same }
    by_case (inr there) later = let rest = later there in record { before = x ∷ rest.before; behind = rest.behind; are = ap (λ (l : List ℕ). x ∷ l) rest.are }

-- the same last one
last_is : (some others : List ℕ) (x y : ℕ) → some ++ x ∷ [] ≡ others ++ y ∷ [] → x ≡ y
last_is [] [] x y is = ap (λ (l : List ℕ). head_of l x) is
  where
    head_of : List ℕ → ℕ → ℕ
    head_of [] n = n
    head_of (m ∷ ms) n = m
last_is [] (o ∷ []) x y is = absurd (let q = ap length is in omega (arith, q))
last_is [] (o ∷ p ∷ others) x y is = absurd (let q = ap length is in omega (arith, q))
last_is (s ∷ []) [] x y is = absurd (let q = ap length is in omega (arith, q))
last_is (s ∷ t ∷ some) [] x y is = absurd (let q = ap length is in omega (arith, q))
last_is (s ∷ some) (o ∷ others) x y is = last_is some others x y (ap tail_of is)

-- two different members lie apart, the second of which is the last
lie_apart : (left : List ℕ) (since now distance : ℕ) → Contains left since → EndsAt left now → 0 < distance → since + distance ≤ now → LieApart left distance
lie_apart left since now distance there ends some apart =
    let parted = part_at left since there in
    by_behind parted.before parted.behind parted.are
  where
    by_behind : (before behind : List ℕ) → left ≡ before ++ since ∷ behind → LieApart left distance
    by_behind before [] are = absurd (let same = last_is before ends.earlier since now (sym are ∙ ends.are) in omega (arith, same, some, apart))
    by_behind before (b ∷ behind) are = two before (b ∷ behind) are (part_at (b ∷ behind) now (last_in (b ∷ behind) now (ends_left (before ++ since ∷ []) (b ∷ behind) ends.earlier now (λ none. absurd cc) (append_assoc before (since ∷ []) (b ∷ behind) ∙ sym are ∙ ends.are))))
      where
        two : (before behind : List ℕ) → left ≡ before ++ since ∷ behind → Parted behind now → LieApart left distance
        two before behind are second = record {
          before = before;
          earlier = since;
          between = second.before;
          later = now;
          behind = second.behind;
          are = are ∙ ap (λ (l : List ℕ). before ++ since ∷ l) second.are;
          apart = apart;
        }

-- ---- a worker

-- without a link what the finished ones' talks acknowledge is all
settled_by : {L : Type 0} (told : L → Option Talk) (start : ℕ) (w : Working L) (all : List Outcome) (acknowledged : List Parcel) → StandsFor told start w (Some all) acknowledged → w.link ≡ None → AcknowledgeInAll (drop start all) (payloads_of acknowledged)
settled_by {L} told start w all acknowledged stands none =
    let talks : HasTalks w.window.most acknowledged (acknowledged ++ carried_in w.window) (drop start all) =
    subst (λ (link : Option L). CanFinish told start w.window.most acknowledged (acknowledged ++ carried_in w.window) link (Some all)) none (may_end told start w (Some all) acknowledged stands).finishing in
    talks.acknowledges

-- it rests for a while
rests_longer : (failed failures : ℕ) → failed < failed + min 60000 (1000 * 2 ^ (failures - 1))
rests_longer failed failures = let some = pow_pos (failures - 1) in omega (arith, some)

resting_at : {L : Type 0} (w : Working L) (now : ℕ) → 0 < w.failures → w.failed.0 ≡ now → IsResting w now
resting_at w now some is = record { failed = some; early = subst (λ (n : ℕ). n < rest_end w) is (rests_longer w.failed.0 w.failures) }

module _ {L : Type 0} (told : L → Option Talk) (timeout start : ℕ) where
  -- the clock gave more
  pub so_later : (moments more : List ℕ) (all : List Outcome) (w : Working L) → IsFailingSo told timeout start moments all w → IsFailingSo told timeout start (moments ++ more) all w
  so_later moments more all w f = record {
    acknowledged = f.acknowledged;
    stands = f.stands;
    used = f.used;
    left = f.left ++ more;
    moments_are = ap (λ (l : List ℕ). l ++ more) f.moments_are ∙ append_assoc f.used f.left more;
    failures = f.failures;
    earlier = f.earlier;
    last = f.last;
    are = f.are;
    number = f.number;
    nothing_new = f.nothing_new;
    nothing_since = f.nothing_since;
    outs = λ k d inside. Contains-append_left f.left more (slice_index_or w.outs k d).0 (f.outs k d inside);
    heard = ⊎_elim (λ none. inl none) (λ there. inr (Contains-append_left f.left more w.heard.0 there)) f.heard;
    rests = λ none. resting (none_of f.left more none);
    timeout_is = f.timeout_is;
  }
    where
      none_of : (front back : List ℕ) → front ++ back ≡ [] → (front ≡ []) × (back ≡ [])
      none_of [] back none = (refl, none)
      none_of (x ∷ front) back none = absurd cc

      resting : (f.left ≡ []) × (more ≡ []) → (0 < w.failures) × EndsAt (moments ++ more) w.failed.0
      resting none = let rest = f.rests none.0 in (rest.0, subst (λ (l : List ℕ). EndsAt l w.failed.0) (sym (ap (λ (l : List ℕ). moments ++ l) none.1 ∙ append-nil moments)) rest.1)

  module _ (moments : List ℕ) (all : List Outcome) (old : Working L) (f : IsFailingSo told timeout start moments all old) where
    -- a moment at which it does not rest is after those of its failures
    now_left : (now : ℕ) → EndsAt moments now → ¬ (IsResting old now) → Contains f.left now
    now_left now ends awake = by_left f.left refl
      where
        by_left : (left : List ℕ) → f.left ≡ left → Contains left now
        by_left [] none = let rest = f.rests none in absurd (awake (resting_at old now rest.0 (last_is rest.1.earlier ends.earlier old.failed.0 now (sym rest.1.are ∙ ends.are))))
        by_left (x ∷ left) is = last_in (x ∷ left) now (ends_left f.used (x ∷ left) ends.earlier now (λ none. absurd cc) (ap (λ (l : List ℕ). f.used ++ l) (sym is) ∙ sym f.moments_are ∙ ends.are))

    module _ (now : Moment) (new : Working L) (kept : KeepsMoments now old new) (among : Contains f.left now.0) where
      outs_among : All (λ (out : Moment). Contains f.left out.0) new.outs
      outs_among = λ k d inside. by_case (slice_index_or new.outs k d) (kept.outs k d inside)
        where
          by_case : (out : Moment) → Contains old.outs out ⊎ (out ≡ now) → Contains f.left out.0
          by_case out (inl were) = All-contains (λ (m : Moment). Contains f.left m.0) old.outs out f.outs were
          by_case out (inr is) = subst (λ (m : Moment). Contains f.left m.0) (sym is) among

      heard_among : (new.heard.0 ≡ 0) ⊎ Contains f.left new.heard.0
      heard_among = by_case kept.heard
        where
          by_case : (new.heard ≡ old.heard) ⊎ ((new.heard ≡ now) ⊎ (new.heard.0 ≡ 0)) → (new.heard.0 ≡ 0) ⊎ Contains f.left new.heard.0
          by_case (inl same) = subst (λ (m : Moment). (m.0 ≡ 0) ⊎ Contains f.left m.0) (sym same) f.heard
          by_case (inr (inl is)) = inr (subst (λ (m : Moment). Contains f.left m.0) (sym is) among)
          by_case (inr (inr none)) = inl none

      -- no failure came
      goes_so : (before after : Seen) → before.outcomes ≡ Some all → after.outcomes ≡ Some all → WorkerGoes told before after old new → IsFailingSo told timeout start moments all new
      goes_so before after was is goes = record {
        acknowledged = f.acknowledged ++ goes.keeps.acknowledged;
        stands = subst (λ (o : Option (List Outcome)). StandsFor told start new o (f.acknowledged ++ goes.keeps.acknowledged)) is
            (goes.keeps.stands start f.acknowledged (subst (λ (o : Option (List Outcome)). StandsFor told start old o f.acknowledged) (sym was) f.stands));
        used = f.used;
        left = f.left;
        moments_are = f.moments_are;
        failures = f.failures;
        earlier = f.earlier;
        last = f.last;
        are = f.are;
        number = few goes.keeps.acknowledged goes.failures;
        nothing_new = f.nothing_new;
        nothing_since = since goes.keeps.acknowledged goes.failures f.nothing_since;
        outs = outs_among;
        heard = heard_among;
        rests = λ none. absurd (some_left f.left now.0 among none);
        timeout_is = goes.keeps.timeout ∙ f.timeout_is;
      }
        where
          few : (acks : List Parcel) → new.failures ≡ failures_since acks old.failures → new.failures ≤ length f.last
          few [] same = omega (arith, same, f.number)
          few (p ∷ acks) none = omega (arith, none)

          since : (acks : List Parcel) → new.failures ≡ failures_since acks old.failures → (old.failures ≡ 0) ⊎ AcknowledgeInAll (drop start all) (payloads_of f.acknowledged) → (new.failures ≡ 0) ⊎ AcknowledgeInAll (drop start all) (payloads_of (f.acknowledged ++ acks))
          since [] same (inl none) = inl (same ∙ none)
          since [] same (inr settled) = inr (subst (λ (l : List Parcel). AcknowledgeInAll (drop start all) (payloads_of l)) (sym (append-nil f.acknowledged)) settled)
          since (p ∷ acks) none settled = inl none

    -- one more outcome, by these of the moments that are left
    record FailsBy (now : Moment) (new : Working L) (one : Outcome) : Type 0 where
      own : List ℕ
      rest : List ℕ
      left_are : f.left ≡ own ++ rest
      fails : AreFailures timeout (one ∷ []) own
      outs : All (λ (out : Moment). Contains rest out.0) new.outs
      heard : (new.heard.0 ≡ 0) ⊎ Contains rest new.heard.0

    module _ (before after : Seen) (now : Moment) (new : Working L) (one : Outcome) (by : FailsBy now new one) (ends : EndsAt moments now.0) (was : before.outcomes ≡ Some all) (is : after.outcomes ≡ Some (all ++ one ∷ [])) (at : FailsAt told before after old new now) where
      abbrev acks : List Parcel
      acks = at.keeps.acknowledged

      dropped : drop start (all ++ one ∷ []) ≡ drop start all ++ one ∷ []
      dropped = drop-append-le start all (one ∷ []) f.stands.reached

      stands_then : StandsFor told start new (Some (all ++ one ∷ [])) (f.acknowledged ++ acks)
      stands_then = subst (λ (o : Option (List Outcome)). StandsFor told start new o (f.acknowledged ++ acks)) is
          (at.keeps.stands start f.acknowledged (subst (λ (o : Option (List Outcome)). StandsFor told start old o f.acknowledged) (sym was) f.stands))

      settled : AcknowledgeInAll (drop start all ++ one ∷ []) (payloads_of (f.acknowledged ++ acks))
      settled = subst (λ (l : List Outcome). AcknowledgeInAll l (payloads_of (f.acknowledged ++ acks))) dropped (settled_by told start new (all ++ one ∷ []) (f.acknowledged ++ acks) stands_then at.unlinked)

      record Last : Type 0 where
        earlier : List Outcome
        last : List Outcome
        are : drop start all ++ one ∷ [] ≡ earlier ++ last
        number : new.failures ≤ length last
        nothing_new : OnlyTheFirstAcknowledges last

      alone : new.failures ≡ one_failure_more 0 → Last
      alone first = record { earlier = drop start all; last = one ∷ []; are = refl; number = omega (arith, first); nothing_new = tt }

      last_by : (more : List Parcel) → new.failures ≡ one_failure_more (failures_since more old.failures) → AcknowledgeInAll (drop start all ++ one ∷ []) (payloads_of (f.acknowledged ++ more))
          → (old.failures ≡ 0) ⊎ AcknowledgeInAll (drop start all) (payloads_of f.acknowledged) → Last
      last_by [] counted read (inl none) = alone (counted ∙ ap one_failure_more none)
      last_by [] counted read (inr were) = record {
        earlier = f.earlier;
        last = f.last ++ one ∷ [];
        are = ap (λ (l : List Outcome). l ++ one ∷ []) f.are ∙ append_assoc f.earlier f.last (one ∷ []);
        number = omega (arith, counted, f.number, length-append f.last (one ∷ []));
        nothing_new = only_first_with f.last one f.nothing_new
            (nothing_by (drop start all) one (payloads_of f.acknowledged) were (subst (λ (l : List Parcel). AcknowledgeInAll (drop start all ++ one ∷ []) (payloads_of l)) (append-nil f.acknowledged) read));
      }
      last_by (p ∷ more) counted read were = alone counted

      fails_so : IsFailingSo told timeout start moments (all ++ one ∷ []) new
      fails_so =
          let last = last_by acks at.failures settled f.nothing_since in
          record {
            acknowledged = f.acknowledged ++ acks;
            stands = stands_then;
            used = f.used ++ by.own;
            left = by.rest;
            moments_are = f.moments_are ∙ ap (λ (l : List ℕ). f.used ++ l) by.left_are ∙ sym (append_assoc f.used by.own by.rest);
            failures = subst (λ (l : List Outcome). AreFailures timeout l (f.used ++ by.own)) (sym dropped) (failures_with timeout (drop start all) one f.used by.own f.failures by.fails);
            earlier = last.earlier;
            last = last.last;
            are = dropped ∙ last.are;
            number = last.number;
            nothing_new = last.nothing_new;
            nothing_since = inr (subst (λ (l : List Outcome). AcknowledgeInAll l (payloads_of (f.acknowledged ++ acks))) (sym dropped) settled);
            outs = by.outs;
            heard = by.heard;
            rests = λ none. (omega (arith, at.failures), subst (λ (m : Moment). EndsAt moments m.0) (sym at.failed) ends);
            timeout_is = at.keeps.timeout ∙ f.timeout_is;
          }

    -- ---- of a link that is finished

    speaks_of : (link : L) → old.link ≡ Some link → HasTalk (told link) f.stands.exchange.talk
    speaks_of link was = subst (λ (l : Option L). Speaks told l (Some all) f.stands.exchange.talk) was f.stands.talk

    some_talk : (before after : Option Talk) (pieces : List Piece) → HasTalk before pieces → after ≡ before → (talk : Talk) × (after ≡ Some talk)
    some_talk None after pieces has same = absurd has
    some_talk (Some talk) after pieces has same = (talk, same)

    rose_from_none : (before now : ℕ) → Rose before now → Rose 0 now
    rose_from_none before now (inl less) = inl (omega (arith, less))
    rose_from_none before now (inr end) = inr end

    peers_fault : (talk : Talk) (at : ℕ) → IsFaultAt talk.pieces at → HasPeerFault talk.pieces
    peers_fault talk at fault =
        subst HasPeerFault (sym fault.are)
        (joined_fault fault.before (fault.front ++ fault.byte ∷ []) fault.rest
        (subst HasPeerFault (append_assoc fault.before (In (fault.front ++ fault.byte ∷ []) ∷ []) (In fault.rest ∷ [])) (fault_stays (fault.before ++ In (fault.front ++ fault.byte ∷ []) ∷ []) (In fault.rest ∷ []) fault.fault)))

    told_fault : (told_now : Option Talk) (at : ℕ) → FaultIsTold told_now at → (talk : Talk) × (told_now ≡ Some talk) × HasPeerFault talk.pieces
    told_fault None at fault = absurd fault
    told_fault (Some talk) at fault = (talk, refl, peers_fault talk at fault)

    idled_talk : (before after : Option Talk) (pieces : List Piece) → HasTalk before pieces → TalkIdles before after → (talk : Talk) × (after ≡ Some talk) × (talk.pieces ≡ pieces) × (talk.idled ≡ true)
    idled_talk None after pieces has idles = absurd has
    idled_talk (Some talk) after pieces has idles = (record talk { idled = true }, idles, has, refl)

    part_below : (done : ℕ) (counts : List ℕ) → 0 < length counts → IsPart done counts → done < total counts
    part_below done [] some part = absurd (omega (arith, some))
    part_below done (count ∷ counts) some part = omega (arith, part)

    unanswered : (talk : Talk) → talk.pieces ≡ f.stands.exchange.talk → talk.idled ≡ true → old.window.out ≡ [] → 0 < length old.window.flights → IsUnanswered talk
    unanswered talk pieces idled out flying =
        let e = f.stands.exchange in
        let w = f.stands.window in
        record {
          windows = windows_of e.begun;
          each = w.each;
          sent = ap out_bytes pieces ∙ all_out old.window e w out;
          acknowledged = payloads_of (acknowledged_in e);
          acknowledges = subst (λ (p : List Piece). Acknowledges p (payloads_of (acknowledged_in e))) (sym pieces) (acknowledges old.window e w);
          fewer = fewer e w;
          idled = idled;
        }
      where
        length_joined : (begun : List (List Parcel)) → length (flat_map (λ (window : List (List ℕ)). window) (windows_of begun)) ≡ length (flat_map (λ (parcels : List Parcel). parcels) begun)
        length_joined [] = refl
        length_joined (parcels ∷ begun) =
            let rest = length_joined begun in
            omega (arith, rest, length-append (payloads_of parcels) (flat_map (λ (window : List (List ℕ)). window) (windows_of begun)), length-append parcels (flat_map (λ (ps : List Parcel). ps) begun), length-map parcels (λ (p : Parcel). p.payload))

        fewer : (e : Exchange) → WindowStandsFor old.window e → length (payloads_of (acknowledged_in e)) < length (flat_map (λ (window : List (List ℕ)). window) (windows_of e.begun))
        fewer e w =
            let all_of = acked_number e.begun (given_in e) w.full old.window.flights old.window.done old.window.last w.answered in
            let some = part_below old.window.done old.window.flights flying w.answered.part in
            omega (arith, all_of, some, length_joined e.begun, length-map (acknowledged_in e) (λ (p : Parcel). p.payload))

    -- since when the peer is silent is a moment that is left
    silent_left : 0 < length old.outs → Contains f.left (silent_since old)
    silent_left some = by_outs old.outs f.outs some f.heard
      where
        by_outs : (outs : List Moment) → All (λ (out : Moment). Contains f.left out.0) outs → 0 < length outs → (old.heard.0 ≡ 0) ⊎ Contains f.left old.heard.0 → Contains f.left (max (oldest_out outs) old.heard.0)
        by_outs [] each none heard = absurd (omega (arith, none))
        by_outs (out ∷ outs) each some (inl none) = let same : out.0 ≡ max out.0 old.heard.0 = omega (arith, none) in subst (Contains f.left) same (each 0 out (omega arith))
        by_outs (out ∷ outs) each some (inr there) = later (max_cases out.0 old.heard.0)
          where
            max_cases : (a b : ℕ) → (a ≡ max a b) ⊎ (b ≡ max a b)
            max_cases a b = ⊎_elim (λ less. inr (omega (arith, less))) (λ no. inl (omega (arith, no))) (cases_lt a b)

            later : (out.0 ≡ max out.0 old.heard.0) ⊎ (old.heard.0 ≡ max out.0 old.heard.0) → Contains f.left (max out.0 old.heard.0)
            later (inl is) = subst (Contains f.left) is (each 0 out (omega arith))
            later (inr is) = subst (Contains f.left) is there

  -- this many of the last outcomes are failures
  pub last_failures : (moments : List ℕ) (all : List Outcome) (w : Working L) (attempts : ℕ) → IsFailingSo told timeout start moments all w → attempts ≤ w.failures → HasLastFailures timeout attempts moments (drop start all)
  last_failures moments all w attempts f enough =
      last_so_many timeout attempts moments (drop start all) f.earlier f.last f.are (omega (arith, enough, f.number)) f.nothing_new
      (subst (AreFailures timeout (drop start all)) (sym f.moments_are) (failures_later timeout (drop start all) f.used f.left f.failures))

  -- ---- by the answer of a turn

  module _ (faults idles : L → ℕ) (before after : Seen) (moments : List ℕ) (now : Moment) (old new : Working L) (some : 0 < timeout) (ends : EndsAt moments now.0) (all : List Outcome) (was : before.outcomes ≡ Some all) where
    abbrev AreSo : Type 0
    AreSo = IsAtEnd before.faults ⊎ IsFailingSo told timeout start moments all old

    abbrev IsSoAfter : Type 0
    IsSoAfter = IsFailing told timeout start moments after new

    goes_on : after.outcomes ≡ before.outcomes → WorkerGoes told before after old new → KeepsMoments now old new → ¬ (IsResting old now.0) → AreSo → IsSoAfter
    goes_on same goes kept awake so = record {
      all = all;
      tells = same ∙ was;
      is = by_case so;
    }
      where
        by_case : AreSo → IsAtEnd after.faults ⊎ IsFailingSo told timeout start moments all new
        by_case (inl end) = let more = goes.keeps.faults in inl (omega (arith, end, more))
        by_case (inr f) = inr (goes_so moments all old f now new kept (now_left moments all old f now.0 ends awake) before after was (same ∙ was) goes)

    -- no link could be made
    refused : IsRefused before after old → FailsAt told before after old new now → ¬ (IsResting old now.0) → AreSo → IsSoAfter
    refused cause at awake so = by_list (subst (λ (o : Option (List Outcome)). IfSome o (λ list. KeepsRefusal list after.outcomes after.faults)) was cause.kept) so
      where
        by_list : KeepsRefusal all after.outcomes after.faults → AreSo → IsSoAfter
        by_list (inr stands) so = record { all = all; tells = stands.1; is = inl stands.0 }
        by_list (inl is) (inl end) = let more = at.keeps.faults in record { all = all ++ Refused ∷ []; tells = is; is = inl (omega (arith, end, more)) }
        by_list (inl is) (inr f) =
            let among = now_left moments all old f now.0 ends awake in
            record {
              all = all ++ Refused ∷ [];
              tells = is;
              is = inr (fails_so moments all old f before after now new Refused (record {
                own = [];
                rest = f.left;
                left_are = refl;
                fails = tt;
                outs = outs_among moments all old f now new at.moments among;
                heard = heard_among moments all old f now new at.moments among;
              }) ends was is at);
            }

    -- how a link that was finished failed
    record EndsBy (f : IsFailingSo told timeout start moments all old) (ended : L) : Type 0 where
      talk : Talk
      is : told ended ≡ Some talk
      own : List ℕ
      rest : List ℕ
      left_are : f.left ≡ own ++ rest
      fails : AreFailures timeout (Finished talk (faults ended) (idles ended) ∷ []) own

    finished : (Cause : L → L → Type 0) (end_of : Finishes told faults idles before after old new Cause) → FailsAt told before after old new now → ((f : IsFailingSo told timeout start moments all old) → EndsBy f end_of.ended) → AreSo → IsSoAfter
    finished Cause end_of at how so = by_case so
      where
        tells : TellsFinishing (Some all) (told end_of.ended) (faults end_of.ended) (idles end_of.ended) after.outcomes
        tells = subst (λ (o : Option (List Outcome)). TellsFinishing o (told end_of.ended) (faults end_of.ended) (idles end_of.ended) after.outcomes) was end_of.outcome

        some_list : (talk : Option Talk) (f i : ℕ) (now : Option (List Outcome)) → TellsFinishing (Some all) talk f i now → (list : List Outcome) × (now ≡ Some list)
        some_list None f i now is = (all, is)
        some_list (Some talk) f i now is = (all ++ Finished talk f i ∷ [], is)

        by_case : AreSo → IsSoAfter
        by_case (inl end) =
            let list = some_list (told end_of.ended) (faults end_of.ended) (idles end_of.ended) after.outcomes tells in
            let more = at.keeps.faults in
            record { all = list.0; tells = list.1; is = inl (omega (arith, end, more)) }
        by_case (inr f) =
            let failure = how f in
            let one : Outcome = Finished failure.talk (faults end_of.ended) (idles end_of.ended) in
            let is : after.outcomes ≡ Some (all ++ one ∷ []) = subst (λ (t : Option Talk). TellsFinishing (Some all) t (faults end_of.ended) (idles end_of.ended) after.outcomes) failure.is tells in
            record {
              all = all ++ one ∷ [];
              tells = is;
              is = inr (fails_so moments all old f before after now new one (record {
                own = failure.own;
                rest = failure.rest;
                left_are = failure.left_are;
                fails = failure.fails;
                outs = λ k d inside. absurd (let none = ap length end_of.no_outs in omega (arith, inside, none));
                heard = inl end_of.unheard;
              }) ends was is at);
            }

    at_once : (f : IsFailingSo told timeout start moments all old) (ended : L) (talk : Talk) → told ended ≡ Some talk → Rose 0 (faults ended) ⊎ HasPeerFault talk.pieces → EndsBy f ended
    at_once f ended talk is fault = record { talk = talk; is = is; own = []; rest = f.left; left_are = refl; fails = inl (fault, tt) }

    faulty : (end_of : Finishes told faults idles before after old new (IsFaulty told faults)) (f : IsFailingSo told timeout start moments all old) → EndsBy f end_of.ended
    faulty end_of f =
        let told_it = some_talk moments all old f (told end_of.link) (told end_of.ended) f.stands.exchange.talk (speaks_of moments all old f end_of.link end_of.was) end_of.cause.same_talk in
        at_once f end_of.ended told_it.0 told_it.1 (inl (rose_from_none moments all old f (faults end_of.link) (faults end_of.ended) end_of.cause.rose))

    peer : (at : ℕ) (end_of : Finishes told faults idles before after old new (IsPeersFault told before old at)) (f : IsFailingSo told timeout start moments all old) → EndsBy f end_of.ended
    peer at end_of f =
        let fault = subst (λ (o : Option (List Outcome)). IfSome o (λ _. FaultIsTold (told end_of.ended) at)) was
        (end_of.cause start f.acknowledged (subst (λ (o : Option (List Outcome)). StandsFor told start old o f.acknowledged) (sym was) f.stands)) in
        let told_it = told_fault moments all old f (told end_of.ended) at fault in
        at_once f end_of.ended told_it.0 told_it.1 (inr told_it.2)

    timed_out : (since until : Moment) → IsAllOut old → (end_of : Finishes told faults idles before after old new (IsTimedOut told idles now old since until)) (f : IsFailingSo told timeout start moments all old) → EndsBy f end_of.ended
    timed_out since until all_out end_of f =
        let cause = end_of.cause in
        let told_it = idled_talk moments all old f (told end_of.link) (told end_of.ended) f.stands.exchange.talk (speaks_of moments all old f end_of.link end_of.was) cause.idled in
        let silent = silent_left moments all old f cause.some_outs in
        record {
          talk = told_it.0;
          is = told_it.1;
          own = f.left;
          rest = [];
          left_are = sym (append-nil f.left);
          fails = inr (record {
            unanswered = unanswered moments all old f told_it.0 told_it.2 told_it.3 all_out.out all_out.begun;
            own = f.left;
            left = [];
            moments_are = sym (append-nil f.left);
            apart = lie_apart f.left (silent_since old) now.0 timeout silent
                (ends_left f.used f.left ends.earlier now.0 (some_left f.left (silent_since old) silent) (sym f.moments_are ∙ ends.are)) some
                (omega (arith, cause.apart, cause.since_is, f.timeout_is));
            later = tt;
          });
        }

    fails_for : (failure : Failure) → FailsFor told faults idles before after now old new failure → FailsAt told before after old new now → ¬ (IsResting old now.0) → AreSo → IsSoAfter
    fails_for Connect cause at awake so = refused cause at awake so
    fails_for Send cause at awake so = finished (IsFaulty told faults) cause at (faulty cause) so
    fails_for Receive cause at awake so = finished (IsFaulty told faults) cause.finishes at (faulty cause.finishes) so
    fails_for Closed cause at awake so = finished (IsFaulty told faults) cause.finishes at (faulty cause.finishes) so
    fails_for (Peer place) cause at awake so = finished (IsPeersFault told before old place) cause.finishes at (peer place cause.finishes) so
    fails_for (TimedOut since until) cause at awake so = finished (IsTimedOut told idles now old since until) cause.finishes at (timed_out since until cause.all_out cause.finishes) so

  same_so : (before after : Seen) (moments : List ℕ) (old new : Working L) → new ≡ old → after ≡ before → IsFailing told timeout start moments before old → IsFailing told timeout start moments after new
  same_so before after moments old new same wire so =
      subst (λ (s : Seen). IsFailing told timeout start moments s new) (sym wire) (subst (IsFailing told timeout start moments before) (sym same) so)

  -- over one turn, at the clock's last moment
  pub turn_so : (faults idles : L → ℕ) (capacity : ℕ) (before after : Seen) (moments : List ℕ) (now : Moment) (old new : Working L) (turn : WorkerTurn) → 0 < timeout → EndsAt moments now.0 → (IsResting old now.0 → IsRest turn)
      → IsTurn told faults idles capacity before after now old new turn → IsFailing told timeout start moments before old → IsFailing told timeout start moments after new
  turn_so faults idles capacity before after moments now old new Worked some ends rests is so = goes_on faults idles before after moments now old new some ends so.all so.tells is.outcomes is.goes is.moments rests so.is
  turn_so faults idles capacity before after moments now old new Idle some ends rests is so = same_so before after moments old new is.same is.wire so
  turn_so faults idles capacity before after moments now old new Held some ends rests is so =
      goes_on faults idles before after moments now old new some ends so.all so.tells (ap (λ (s : Seen). s.outcomes) is.wire) is.goes is.moments rests so.is
  turn_so faults idles capacity before after moments now old new NotYet some ends rests is so =
      goes_on faults idles before after moments now old new some ends so.all so.tells (ap (λ (s : Seen). s.outcomes) is.wire) is.goes is.moments rests so.is
  turn_so faults idles capacity before after moments now old new (Resting until) some ends rests is so = same_so before after moments old new is.same is.wire so
  turn_so faults idles capacity before after moments now old new (Failed failure) some ends rests is so =
      fails_for faults idles before after moments now old new some ends so.all so.tells failure is.cause is.fails rests so.is

-- ---- as a worker begins, nothing of it failed

pub begins_so : {L : Type 0} (told : L → Option Talk) (timeout : ℕ) (moments : List ℕ) (all : List Outcome) (w : Working L) → StandsFor told (length all) w (Some all) [] → w.timeout ≡ timeout → w.failures ≡ 0 → w.outs ≡ [] → w.heard.0 ≡ 0 → moments ≢ [] → IsFailingSo told timeout (length all) moments all w
begins_so told timeout moments all w stands timeout_is none no_outs unheard some = record {
  acknowledged = [];
  stands = stands;
  used = [];
  left = moments;
  moments_are = refl;
  failures = subst (λ (l : List Outcome). AreFailures timeout l []) (sym (drop-length all)) tt;
  earlier = [];
  last = [];
  are = drop-length all;
  number = omega (arith, none);
  nothing_new = tt;
  nothing_since = inl none;
  outs = λ k d inside. absurd (let long = ap length no_outs in omega (arith, inside, long));
  heard = inl unheard;
  rests = λ is. absurd (some is);
  timeout_is = timeout_is;
}

-- ---- what is handed on

module _ {L : Type 0} (told : L → Option Talk) (timeout start : ℕ) (moments : List ℕ) (all : List Outcome) (seen : Seen) (tells : seen.outcomes ≡ Some all) (old new : Working L) where
  pub handed_so : WorkerGoes told seen seen old new → SameMoments old new → new.failures ≡ old.failures → IsFailingSo told timeout start moments all old → IsFailingSo told timeout start moments all new
  handed_so goes same failures f = record {
    acknowledged = f.acknowledged ++ goes.keeps.acknowledged;
    stands = subst (λ (o : Option (List Outcome)). StandsFor told start new o (f.acknowledged ++ goes.keeps.acknowledged)) tells
        (goes.keeps.stands start f.acknowledged (subst (λ (o : Option (List Outcome)). StandsFor told start old o f.acknowledged) (sym tells) f.stands));
    used = f.used;
    left = f.left;
    moments_are = f.moments_are;
    failures = f.failures;
    earlier = f.earlier;
    last = f.last;
    are = f.are;
    number = omega (arith, failures, f.number);
    nothing_new = f.nothing_new;
    nothing_since = since goes.keeps.acknowledged goes.failures f.nothing_since;
    outs = subst (All (λ (out : Moment). Contains f.left out.0)) (sym same.outs) f.outs;
    heard = subst (λ (m : Moment). (m.0 ≡ 0) ⊎ Contains f.left m.0) (sym same.heard) f.heard;
    rests = λ none. let rest = f.rests none in
        (omega (arith, failures, rest.0), subst (λ (m : Moment). EndsAt moments m.0) (sym goes.failed) rest.1);
    timeout_is = goes.keeps.timeout ∙ f.timeout_is;
  }
    where
      since : (acks : List Parcel) → new.failures ≡ failures_since acks old.failures → (old.failures ≡ 0) ⊎ AcknowledgeInAll (drop start all) (payloads_of f.acknowledged) →
          (new.failures ≡ 0) ⊎ AcknowledgeInAll (drop start all) (payloads_of (f.acknowledged ++ acks))
      since [] is (inl none) = inl (failures ∙ none)
      since [] is (inr settled) = inr (subst (λ (l : List Parcel). AcknowledgeInAll (drop start all) (payloads_of l)) (sym (append-nil f.acknowledged)) settled)
      since (p ∷ acks) none settled = inl none
