-- A worker that stands for parcels may finish its link, and then stands for the same.
use Rattle.std.proofs.Common.{◌≡◌, ℕ, suc, ◌-◌, ◌^◌, ◌<◌, ◌≤◌, List, [], ◌∷◌, ◌++◌, length, length-append, take, drop, Option, Some, None, IfSome, refl, sym, ap, subst, ◌∙◌, append_assoc, append-nil, arith}
use Rattle.std.specs.List.{flat_map}
use Rattle.std.proofs.lemmas.List.{drop-append-le, map-append, take-append-drop}
use Rattle.lumber_client.specs.Exchange.{Exchange, acknowledged_in, anew, parcels_by, payloads_of}
use Rattle.lumber_client.specs.Held.{Held, begun_in}
use Rattle.lumber_client.specs.Standing.{StandsFor as WindowStandsFor}
use Rattle.lumber_client.proofs.Acknowledging.{acknowledges}
use Rattle.lumber_client.proofs.Standings.{stands_again}
use Rattle.lumber_frame.specs.Acknowledged.{Acknowledges}
use Rattle.lumber_frame.specs.Talk.{out_bytes}
use Rattle.outside.specs.Counts.{IsAtEnd}
use Rattle.outside.specs.Talks.{Talk}
use Rattle.outside.specs.Wires.{Outcome, Refused, Finished, TellsFinishing}
use Rattle.wire_base.specs.declared.parcel.Parcel.{Parcel}
use Rattle.wire_base.specs.declared.talk.Piece.{Piece}
use Rattle.wire_base.specs.declared.numbers.Moment.{Moment}
use Rattle.batch_worker.specs.Acknowledged.{AcknowledgeInAll}
use Rattle.batch_worker.specs.Ending.{CanFinish, EndsLink, HasTalks, MayEnd, WithTalk, failed_at, unlinked}
use Rattle.batch_worker.specs.Held.{carried_in, owed_by}
use Rattle.batch_worker.specs.Keeping.{Keeps}
use Rattle.batch_worker.specs.Seen.{Seen, with_link}
use Rattle.batch_worker.specs.Sent.{AreSentOnly, AreSmall, IsSentOnly}
use Rattle.batch_worker.specs.Standing.{HasTalk, Speaks, StandsFor}
use Rattle.batch_worker.specs.Working.{Working}
use Rattle.batch_worker.proofs.Keeping.{none_posted, none_taken}

-- ---- one more link

with_one : (outcomes : List Outcome) (payloads more : List (List ℕ)) (talk : Talk) (faults idles : ℕ) → AcknowledgeInAll outcomes payloads → Acknowledges talk.pieces more
    → AcknowledgeInAll (outcomes ++ Finished talk faults idles ∷ []) (payloads ++ more)
with_one [] payloads more talk faults idles none one = record {
  first = more;
  rest = [];
  are = ap (λ (l : List (List ℕ)). l ++ more) none ∙ sym (append-nil more);
  acknowledges = one;
  others = refl;
}
with_one (Refused ∷ outcomes) payloads more talk faults idles all one = with_one outcomes payloads more talk faults idles all one
with_one (Finished earlier f i ∷ outcomes) payloads more talk faults idles all one = record {
  first = all.first;
  rest = all.rest ++ more;
  are = ap (λ (l : List (List ℕ)). l ++ more) all.are ∙ append_assoc all.first all.rest more;
  acknowledges = all.acknowledges;
  others = with_one outcomes all.rest more talk faults idles all.others one;
}

pub sent_with_one : (most : ℕ) (taken : List Parcel) (outcomes : List Outcome) (one : Outcome) → AreSentOnly most taken outcomes → IsSentOnly most taken one → AreSentOnly most taken (outcomes ++ one ∷ [])
sent_with_one most taken [] one all is = (is, tt)
sent_with_one most taken (first ∷ outcomes) one all is = (all.0, sent_with_one most taken outcomes one all.1 is)

-- ---- what a window's exchange sends

pub all_parcels : (w : Held) (e : Exchange) → WindowStandsFor w e → (e.earlier ++ acknowledged_in e) ++ carried_in w ≡ (e.earlier ++ flat_map (λ parcels. parcels) e.begun) ++ drop (begun_in w) w.parcels
all_parcels w e s =
    ap (λ (l : List Parcel). l ++ carried_in w) (sym s.acknowledged)
    ∙ append_assoc e.handed (take w.acknowledged w.parcels) (drop w.acknowledged w.parcels)
    ∙ ap (λ (l : List Parcel). e.handed ++ l) (take-append-drop w.acknowledged w.parcels ∙ sym (take-append-drop (begun_in w) w.parcels))
    ∙ sym (append_assoc e.handed (take (begun_in w) w.parcels) (drop (begun_in w) w.parcels))
    ∙ ap (λ (l : List Parcel). l ++ drop (begun_in w) w.parcels) s.held

module _ (w : Held) (e : Exchange) (s : WindowStandsFor w e) (talk : Talk) where
  pub finishing : (most : ℕ) (acknowledged : List Parcel) (outcomes : List Outcome) → AreSmall most e.begun → acknowledged ≡ e.earlier ++ acknowledged_in e
      → Acknowledges talk.pieces (payloads_of (acknowledged_in e)) → out_bytes talk.pieces ≡ out_bytes e.talk
      → AcknowledgeInAll outcomes (payloads_of e.earlier) → AreSentOnly most (acknowledged ++ carried_in w) outcomes
      → (faults idles : ℕ) → HasTalks most acknowledged (acknowledged ++ carried_in w) (outcomes ++ Finished talk faults idles ∷ [])
  finishing most acknowledged outcomes small are read out finished sent faults idles = record {
    acknowledges = subst (λ (l : List (List ℕ)). AcknowledgeInAll (outcomes ++ Finished talk faults idles ∷ []) l)
        (sym (map-append (λ (p : Parcel). p.payload) e.earlier (acknowledged_in e)) ∙ ap payloads_of (sym are))
        (with_one outcomes (payloads_of e.earlier) (payloads_of (acknowledged_in e)) talk faults idles finished read);
    sent = sent_with_one most (acknowledged ++ carried_in w) outcomes (Finished talk faults idles) sent (record {
      windows = e.begun;
      each = s.each;
      small = small;
      before = e.earlier;
      behind = drop (begun_in w) w.parcels;
      are = ap (λ (l : List Parcel). l ++ carried_in w) are ∙ all_parcels w e s;
      left = w.out ++ w.behind;
      sent = ap (λ (l : List ℕ). l ++ (w.out ++ w.behind)) out ∙ s.sent;
    });
  }

-- ---- without a link nothing is acknowledged in its exchange

none_by : (number : ℕ) (begun : List (List Parcel)) → parcels_by [] number begun ≡ []
none_by number [] = refl
none_by number (parcels ∷ begun) = none_by (suc number) begun

none_acknowledged : (e : Exchange) → e.talk ≡ [] → acknowledged_in e ≡ []
none_acknowledged e none = ap (λ (talk : List Piece). acknowledged_in (record e { talk = talk })) none ∙ none_by 1 e.begun

-- ---- a link may be finished

module _ {L : Type 0} (told : L → Option Talk) where
  has_talk : (most : ℕ) (w : Held) (outcomes : List Outcome) (acknowledged : List Parcel) (e : Exchange) (talk : Option Talk) → WindowStandsFor w e → HasTalk talk e.talk → AreSmall most e.begun
      → acknowledged ≡ e.earlier ++ acknowledged_in e → AcknowledgeInAll outcomes (payloads_of e.earlier) → AreSentOnly most (acknowledged ++ carried_in w) outcomes
      → WithTalk most acknowledged (acknowledged ++ carried_in w) outcomes talk
  has_talk most w outcomes acknowledged e None s speaks small are finished sent = speaks
  has_talk most w outcomes acknowledged e (Some talk) s speaks small are finished sent =
      finishing w e s talk most acknowledged outcomes small are
      (subst (λ (pieces : List Piece). Acknowledges pieces (payloads_of (acknowledged_in e))) (sym speaks) (acknowledges w e s))
      (ap out_bytes speaks) finished sent

  pub may_finish : (start most : ℕ) (w : Held) (link : Option L) (outcomes : Option (List Outcome)) (acknowledged : List Parcel) (e : Exchange) → WindowStandsFor w e → Speaks told link outcomes e.talk → AreSmall most e.begun
      → acknowledged ≡ e.earlier ++ acknowledged_in e → IfSome outcomes (λ list. AcknowledgeInAll (drop start list) (payloads_of e.earlier)) → IfSome outcomes (λ list. AreSentOnly most (acknowledged ++ carried_in w) (drop start list))
      → CanFinish told start most acknowledged (acknowledged ++ carried_in w) link outcomes
  may_finish start most w None None acknowledged e s speaks small are finished sent = tt
  may_finish start most w (Some link) None acknowledged e s speaks small are finished sent = tt
  may_finish start most w None (Some outcomes) acknowledged e s speaks small are finished sent = record {
    acknowledges = subst (λ (l : List Parcel). AcknowledgeInAll (drop start outcomes) (payloads_of l)) (sym (are ∙ ap (λ (l : List Parcel). e.earlier ++ l) (none_acknowledged e speaks) ∙ append-nil e.earlier)) finished;
    sent = sent;
  }
  may_finish start most w (Some link) (Some outcomes) acknowledged e s speaks small are finished sent = has_talk most w (drop start outcomes) acknowledged e (told link) s speaks small are finished sent

  pub may_end : (start : ℕ) (w : Working L) (outcomes : Option (List Outcome)) (acknowledged : List Parcel) → StandsFor told start w outcomes acknowledged → MayEnd told start w outcomes acknowledged
  may_end start w outcomes acknowledged s = record {
    exchange = s.exchange;
    window = s.window;
    are = s.are;
    reached = s.reached;
    finishing = may_finish start w.window.most w.window w.link outcomes acknowledged s.exchange s.window s.talk s.small s.are s.finished s.sent;
  }

  -- ---- and it is finished

  -- the talks from a place on
  abbrev TalksSince : ℕ → ℕ → List Parcel → List Parcel → Option (List Outcome) → Type 0
  TalksSince start most acknowledged taken outcomes = IfSome outcomes (λ list. HasTalks most acknowledged taken (drop start list))

  finished_talks : (faults idles : L → ℕ) (link : L) (before after : Seen) (outcomes : Option (List Outcome)) (talk : Option Talk) (start most : ℕ) (acknowledged taken : List Parcel)
      → TellsFinishing outcomes talk (faults link) (idles link) after.outcomes → talk ≡ told link → IfSome outcomes (λ list. start ≤ length list) → CanFinish told start most acknowledged taken (Some link) outcomes
      → TalksSince start most acknowledged taken after.outcomes
  finished_talks faults idles link before after None talk start most acknowledged taken tells is reached can = subst (TalksSince start most acknowledged taken) (sym tells) tt
  finished_talks faults idles link before after (Some outcomes) None start most acknowledged taken tells is reached can = absurd (subst (WithTalk most acknowledged taken (drop start outcomes)) (sym is) can)
  finished_talks faults idles link before after (Some outcomes) (Some talk) start most acknowledged taken tells is reached can =
      let with_talk : (f i : ℕ) → HasTalks most acknowledged taken (drop start outcomes ++ Finished talk f i ∷ []) = subst (WithTalk most acknowledged taken (drop start outcomes)) (sym is) can in
      let one : Outcome = Finished talk (faults link) (idles link) in
      subst (TalksSince start most acknowledged taken) (sym tells)
      (subst (HasTalks most acknowledged taken) (sym (drop-append-le start outcomes (one ∷ []) reached)) (with_talk (faults link) (idles link)))

  pub ended_talks : (faults idles : L → ℕ) (link : Option L) (before after : Seen) (start most : ℕ) (acknowledged taken : List Parcel)
      → EndsLink told faults idles link before after → IfSome before.outcomes (λ list. start ≤ length list) → CanFinish told start most acknowledged taken link before.outcomes
      → IfSome after.outcomes (λ list. HasTalks most acknowledged taken (drop start list))
  ended_talks faults idles None before after start most acknowledged taken ends reached can = subst (λ (s : Seen). TalksSince start most acknowledged taken s.outcomes) (sym ends) (none_left before.outcomes can)
    where
      none_left : (o : Option (List Outcome)) → CanFinish told start most acknowledged taken None o → TalksSince start most acknowledged taken o
      none_left None can = tt
      none_left (Some outcomes) can = can
  ended_talks faults idles (Some link) before after start most acknowledged taken ends reached can = finished_talks faults idles link before after before.outcomes (told link) start most acknowledged taken ends.outcome refl reached can

  both_talks : (outcomes : Option (List Outcome)) (start most : ℕ) (acknowledged taken : List Parcel) → TalksSince start most acknowledged taken outcomes
      → IfSome outcomes (λ list. AcknowledgeInAll (drop start list) (payloads_of acknowledged)) × IfSome outcomes (λ list. AreSentOnly most taken (drop start list))
  both_talks None start most acknowledged taken h = (tt, tt)
  both_talks (Some outcomes) start most acknowledged taken h = (h.acknowledges, h.sent)

  -- the list only grows
  still_reached : (faults idles : L → ℕ) (link : Option L) (before after : Seen) (start : ℕ) → EndsLink told faults idles link before after → IfSome before.outcomes (λ list. start ≤ length list) → IfSome after.outcomes (λ list. start ≤ length list)
  still_reached faults idles None before after start ends reached = subst (λ (s : Seen). IfSome s.outcomes (λ list. start ≤ length list)) (sym ends) reached
  still_reached faults idles (Some link) before after start ends reached = longer before.outcomes (told link) after.outcomes ends.outcome reached
    where
      longer : (o : Option (List Outcome)) (talk : Option Talk) (now : Option (List Outcome)) → TellsFinishing o talk (faults link) (idles link) now → IfSome o (λ list. start ≤ length list) → IfSome now (λ list. start ≤ length list)
      longer None talk now tells reached = subst (λ (l : Option (List Outcome)). IfSome l (λ list. start ≤ length list)) (sym tells) tt
      longer (Some list) None now tells reached = subst (λ (l : Option (List Outcome)). IfSome l (λ list. start ≤ length list)) (sym tells) reached
      longer (Some list) (Some talk) now tells reached =
          let one : Outcome = Finished talk (faults link) (idles link) in
          let further : start ≤ length (list ++ one ∷ []) = omega (arith, reached, length-append list (one ∷ [])) in
          subst (λ (l : Option (List Outcome)). IfSome l (λ list. start ≤ length list)) (sym tells) further

  fewer_links : (faults idles : L → ℕ) (link : Option L) (before after : Seen) (others : ℕ) → EndsLink told faults idles link before after → before.open_links ≡ with_link others link → ¬ (IsAtEnd others) → after.open_links ≡ others
  fewer_links faults idles None before after others ends is few = ap (λ (s : Seen). s.open_links) ends ∙ is
  fewer_links faults idles (Some link) before after others ends is few =
      let below : others < 2 ^ 64 - 1 = not_at_end others few in
      omega (arith, ends.open_links, is, below)
    where
      not_at_end : (n : ℕ) → ¬ (IsAtEnd n) → n < 2 ^ 64 - 1
      not_at_end n few = omega (arith, few)

  no_fewer_faults : (faults idles : L → ℕ) (link : Option L) (before after : Seen) → EndsLink told faults idles link before after → before.faults ≤ after.faults
  no_fewer_faults faults idles None before after ends = omega (arith, ap (λ (s : Seen). s.faults) ends)
  no_fewer_faults faults idles (Some link) before after ends = omega (arith, ends.counts_faults)

  pub failing_keeps : (faults idles : L → ℕ) (before after : Seen) (old : Working L) (now : Moment) → EndsLink told faults idles old.link before after
      → Keeps (λ start. MayEnd told start old before.outcomes) (λ start. StandsFor told start (unlinked (failed_at old now)) after.outcomes) before after old (unlinked (failed_at old now))
  failing_keeps faults idles before after old now ends = record {
    taken = [];
    acknowledged = [];
    posted = [];
    host = refl;
    timeout = refl;
    most = refl;
    depth = refl;
    take = none_taken old.take;
    post = none_posted old.post;
    parcels_are = append-nil (carried_in old.window);
    notes_are = append-nil (owed_by old);
    stands = stands;
    open_links = λ others same few. fewer_links faults idles old.link before after others ends same few;
    faults = no_fewer_faults faults idles old.link before after ends;
  }
    where
      acknowledged_still : (o : Option (List Outcome)) (start : ℕ) (earlier all : List Parcel) → earlier ≡ all → IfSome o (λ list. AcknowledgeInAll (drop start list) (payloads_of earlier)) → IfSome o (λ list. AcknowledgeInAll (drop start list) (payloads_of all))
      acknowledged_still None start earlier all same h = tt
      acknowledged_still (Some list) start earlier all same h = subst (λ (l : List Parcel). AcknowledgeInAll (drop start list) (payloads_of l)) same h

      stands : (start : ℕ) (earlier : List Parcel) → MayEnd told start old before.outcomes earlier → StandsFor told start (unlinked (failed_at old now)) after.outcomes (earlier ++ [])
      stands start earlier m =
          let talks = both_talks after.outcomes start old.window.most earlier (earlier ++ carried_in old.window) (ended_talks faults idles old.link before after start old.window.most earlier (earlier ++ carried_in old.window) ends m.reached m.finishing) in
          subst (StandsFor told start (unlinked (failed_at old now)) after.outcomes) (sym (append-nil earlier)) (record {
            exchange = anew m.exchange;
            window = stands_again old.window m.exchange m.window;
            talk = refl;
            small = tt;
            are = m.are ∙ sym (append-nil (m.exchange.earlier ++ acknowledged_in m.exchange));
            reached = still_reached faults idles old.link before after start ends m.reached;
            finished = acknowledged_still after.outcomes start earlier (m.exchange.earlier ++ acknowledged_in m.exchange) m.are talks.0;
            sent = talks.1;
          })

  pub nothing_acknowledged : (faults idles : L → ℕ) (before after : Seen) (old : Working L) (now : Moment) (ends : EndsLink told faults idles old.link before after) → (failing_keeps faults idles before after old now ends).acknowledged ≡ []
  unfolding failing_keeps
  nothing_acknowledged faults idles before after old now ends = refl
