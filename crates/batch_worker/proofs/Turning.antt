-- The answers of a turn, by its steps.
use Rattle.std.proofs.Common.{◌≡◌, ◌⊎◌, ℕ, ◌+◌, ◌<◌, ◌≤◌, ◌-◌, ◌^◌, min, All, Bool, true, false, List, [], ◌∷◌, ◌++◌, length, length-append, take, Option, Some, None, Ok, IfSome, refl, sym, ap, subst, ◌∙◌, append-nil, arith, inl, inr}
use Rattle.std.proofs.lemmas.List.Elements.{All-drop, All-nil, All-push}
use Rattle.lumber_client.specs.Exchange.{Exchange, with_talk}
use Rattle.lumber_client.specs.Held.{Held, next_in}
use Rattle.lumber_client.specs.Standing.{HearsWith, window_asked}
use Rattle.lumber_frame.specs.PeerFault.{HasPeerFault}
use Rattle.lumber_frame.specs.Talk.{in_bytes}
use Rattle.outside.specs.Counts.{Rose}
use Rattle.outside.specs.Talks.{Talk, TellsSending}
use Rattle.outside.specs.Wires.{KeepsRefusal, Outcome}
use Rattle.wire_base.specs.declared.note.Note.{Note}
use Rattle.wire_base.specs.declared.numbers.Moment.{Moment}
use Rattle.wire_base.specs.declared.parcel.Parcel.{Parcel}
use Rattle.wire_base.specs.declared.talk.Piece.{Piece}
use Rattle.wire_base.specs.declared.talk.Piece.TheVariants.{In, Out}
use Rattle.batch_worker.specs.declared.answer.Failure.TheVariants.{Connect}
use Rattle.batch_worker.specs.declared.answer.WorkerTurn.{WorkerTurn}
use Rattle.batch_worker.specs.declared.answer.WorkerTurn.TheVariants.{Worked, Idle, Held as WasHeld, NotYet, Resting, Failed}
use Rattle.batch_worker.specs.Answers.{Fails, FaultIsTold, Finishes, HasMore, IsPeersFault, IsWaiting, TalkIdles, Works, IsTurn}
use Rattle.batch_worker.specs.Ending.{EndsLink, IsFinished, MayEnd, failed_at, unlinked}
use Rattle.batch_worker.specs.Feeding.{FeedsTo, with_bytes}
use Rattle.batch_worker.specs.Held.{notes_of, owed_by}
use Rattle.batch_worker.specs.Keeping.{FailsAt, Goes, Keeps, KeepsMoments, SameMoments, WorkerGoes, one_failure_more, WorkerKeeps}
use Rattle.batch_worker.specs.Links.{IsAllOut, KeepsOrMakesLink, TalkGets, UsesLink}
use Rattle.batch_worker.specs.Receiving.{Faults, HasReceived, Hears, HearsOver, Idles}
use Rattle.batch_worker.specs.Seen.{Seen}
use Rattle.batch_worker.specs.Sound.{going_out}
use Rattle.batch_worker.specs.Standing.{HasTalk, Speaks, StandsFor}
use Rattle.batch_worker.specs.Steps.{BeginsOne, FailsToSend, FoundEmpty, IsFilled, SendsSome, outs_behind}
use Rattle.batch_worker.specs.Waits.{silent_since}
use Rattle.batch_worker.specs.Working.{Working}
use Rattle.batch_worker.proofs.Finishing.{failing_keeps, may_end, nothing_acknowledged}
use Rattle.batch_worker.proofs.Hearing.{bytes_go, with_snoc}
use Rattle.batch_worker.proofs.Keeping.{WasOrIsNow, all_were, failing_on, goes_on, keeps_same, moments_on, same_keeps_moments}
use Rattle.batch_worker.proofs.Linking.{begun_goes, later_goes, over_link, sent_goes, sent_talk, some_sent}

-- a window that is in flight and not going out is out since some moment
pub some_out : (outs : List Moment) (out : List ℕ) (flights : ℕ) → length outs + going_out out ≡ flights → out ≡ [] → 0 < flights → 0 < length outs
some_out outs out flights are none some = omega (arith, are, ap going_out none, some)

module _ {L : Type 0} (told : L → Option Talk) (faults idles : L → ℕ) where
  -- ---- a failure after what came before it

  pub goes_to_end : (a b : Seen) (old mid : Working L) → WorkerGoes told a b old mid → Goes (λ start. StandsFor told start old a.outcomes) (λ start. MayEnd told start mid b.outcomes) a b old mid
  goes_to_end a b old mid g = record {
    keeps = record {
      taken = g.keeps.taken;
      acknowledged = g.keeps.acknowledged;
      posted = g.keeps.posted;
      host = g.keeps.host;
      timeout = g.keeps.timeout;
      most = g.keeps.most;
      depth = g.keeps.depth;
      take = g.keeps.take;
      post = g.keeps.post;
      parcels_are = g.keeps.parcels_are;
      notes_are = g.keeps.notes_are;
      stands = λ start earlier p. may_end told start mid b.outcomes (earlier ++ g.keeps.acknowledged) (g.keeps.stands start earlier p);
      open_links = g.keeps.open_links;
      faults = g.keeps.faults;
    };
    failures = g.failures;
    failed = g.failed;
  }

  -- no moment of a link that is finished stays
  no_moments : (old mid : Working L) (now : Moment) → KeepsMoments now old (unlinked (failed_at mid now))
  no_moments old mid now = record { outs = All-nil (WasOrIsNow old.outs now); heard = inr (inr refl) }

  pub fails_at : (before after : Seen) (old mid new : Working L) (now : Moment) → Goes (λ start. StandsFor told start old before.outcomes) (λ start. MayEnd told start mid before.outcomes) before before old mid → new ≡ unlinked (failed_at mid now)
      → EndsLink told faults idles mid.link before after → FailsAt told before after old new now
  fails_at before after old mid new now g is ends =
      subst (λ (w : Working L). FailsAt told before after old w now) (sym is)
      (failing_on told (λ start. MayEnd told start mid before.outcomes) before after old mid (unlinked (failed_at mid now)) now g (failing_keeps told faults idles before after mid now ends)
      (nothing_acknowledged told faults idles before after mid now ends) refl refl refl (no_moments old mid now))

  -- ---- sending

  outs_sent : (out : List ℕ) (outs : List Moment) (now : Moment) → All (WasOrIsNow outs now) (outs_behind out outs now)
  outs_sent [] outs now = All-push (WasOrIsNow outs now) outs now (all_were outs now) (inr refl)
  outs_sent (byte ∷ bytes) outs now = all_were outs now

  pub send_works : (s : Seen) (now : Moment) (old new : Working L) → SendsSome told now old new → Works told s s now old new
  send_works s now old new x = record {
    goes = sent_goes told s now old new x;
    did = inr (inr (inr (inr (record {
      before = x.link;
      was = x.was;
      after = x.later;
      is = ap (λ (w : Working L). w.link) x.is;
      grew = grew (told x.link) (told x.later) x.told_is;
    }))));
    link = inr (inl (record { link = x.link; was = x.was; later = x.later; is = ap (λ (w : Working L). w.link) x.is; count = x.count; told_is = x.told_is }));
    outcomes = refl;
    moments = subst (λ (w : Working L). KeepsMoments now old w) (sym x.is) (record { outs = outs_sent new.window.out old.outs now; heard = inl refl });
  }
    where
      grew : (talk after : Option Talk) → TellsSending talk old.window.out (Ok x.count) after → HasMore talk after
      grew None after tells = tells
      grew (Some talk) after tells = (Out (take x.count old.window.out), sent_talk told s (Some talk) after old.window.out x.count talk.pieces (some_sent told s x.count old.window.out x.some x.fits) tells refl)

  -- ---- a link that is finished

  pub finishes : (before after : Seen) (old mid new : Working L) (now : Moment) (link later : L) (Cause : L → L → Type 0) → old.link ≡ Some link → mid.link ≡ Some later → new ≡ unlinked (failed_at mid now)
      → EndsLink told faults idles mid.link before after → Cause link later → Finishes told faults idles before after old new Cause
  finishes before after old mid new now link later Cause was left is ends cause =
      let f : IsFinished told faults idles later before after = subst (λ (l : Option L). EndsLink told faults idles l before after) left ends in
      record {
        link = link;
        was = was;
        ended = later;
        outcome = f.outcome;
        counts_faults = f.counts_faults;
        counts_idles = f.counts_idles;
        cause = cause;
        no_outs = ap (λ (w : Working L). w.outs) is;
        unheard = ap (λ (w : Working L). w.heard.0) is;
      }

  -- the sending failed
  pub send_goes_to_end : (s : Seen) (old mid : Working L) → FailsToSend told faults old mid → Goes (λ start. StandsFor told start old s.outcomes) (λ start. MayEnd told start mid s.outcomes) s s old mid
  send_goes_to_end s old mid x =
      goes_to_end s s old mid (subst (λ (w : Working L). WorkerGoes told s s old w) (sym x.is)
      (later_goes told s old x.link x.later x.was (λ pieces has. subst (λ (t : Option Talk). HasTalk t pieces) (sym x.told_is) has)))

  -- the receiving failed, or gave nothing
  pub faults_go : (s : Seen) (old mid : Working L) → HasReceived old mid (Faults told faults) → WorkerGoes told s s old mid
  faults_go s old mid x =
      subst (λ (w : Working L). WorkerGoes told s s old w) (sym x.is)
      (later_goes told s old x.link x.later x.was (λ pieces has. subst (λ (t : Option Talk). HasTalk t pieces) (sym x.cause.told_is) has))

  idle_talk : (talk after : Option Talk) (pieces : List Piece) → TalkIdles talk after → HasTalk talk pieces → HasTalk after pieces
  idle_talk None after pieces idles has = absurd has
  idle_talk (Some talk) after pieces idles has = subst (λ (t : Option Talk). HasTalk t pieces) (sym idles) has

  pub idles_go : (s : Seen) (old mid : Working L) → HasReceived old mid (Idles told idles) → WorkerGoes told s s old mid
  idles_go s old mid x =
      subst (λ (w : Working L). WorkerGoes told s s old w) (sym x.is)
      (later_goes told s old x.link x.later x.was (λ pieces has. idle_talk (told x.link) (told x.later) pieces x.cause.told_is has))

  pub link_of : (old mid : Working L) (Cause : L → L → Type 0) (x : HasReceived old mid Cause) → mid.link ≡ Some x.later
  link_of old mid Cause x = ap (λ (w : Working L). w.link) x.is

  pub heard_link : (now : Moment) (old new : Working L) (fault : Option ℕ) (x : HearsOver told now old new fault) → new.link ≡ Some x.received.later
  heard_link now old new fault x = ap (λ (w : Working L). w.link) x.hears.is ∙ ap (λ (w : Working L). w.link) x.received.is

  -- bytes came
  pub bytes_work : (s : Seen) (now : Moment) (old new : Working L) → old.window.acknowledged ≡ 0 → IsAllOut old → HearsOver told now old new None → Works told s s now old new
  bytes_work s now old new none all_out x = record {
    goes = bytes_go told s now old new none x;
    did = inr (inr (inr (inr (record {
      before = x.received.link;
      was = x.received.was;
      after = x.received.later;
      is = heard_link now old new None x;
      grew = grew (told x.received.link) (told x.received.later) x.received.cause.told_is;
    }))));
    link = inr (inr (record {
      all_out = all_out;
      link = x.received.link;
      was = x.received.was;
      later = x.received.later;
      is = heard_link now old new None x;
      bytes = x.bytes;
      some = omega (arith, ap length x.received.cause.some);
      told_is = x.received.cause.told_is;
    }));
    outcomes = refl;
    moments = moments x.received.later (subst (λ (m : Working L). Hears now m new x.bytes None) x.received.is x.hears);
  }
    where
      moments : (later : L) → Hears now (record old { link = Some later }) new x.bytes None → KeepsMoments now old new
      moments later h = subst (λ (w : Working L). KeepsMoments now old w) (sym h.is) (record {
        outs = All-drop (WasOrIsNow old.outs now) (length old.outs - length h.window.flights) old.outs (all_were old.outs now);
        heard = inr (inl refl);
      })

      grew : (talk after : Option Talk) → TalkGets talk x.bytes after → HasMore talk after
      grew None after gets = gets
      grew (Some talk) after gets = (In x.bytes, subst (λ (t : Option Talk). HasTalk t (talk.pieces ++ In x.bytes ∷ [])) (sym gets) refl)

  -- ---- nothing but a failure is counted

  pub counted : (P : ℕ → List Parcel → Type 0) (a b : Seen) (old mid : Working L) (now : Moment) → Keeps P (λ start. StandsFor told start mid b.outcomes) a b old mid → Keeps P (λ start. StandsFor told start (failed_at mid now) b.outcomes) a b old (failed_at mid now)
  counted P a b old mid now k = record {
    taken = k.taken;
    acknowledged = k.acknowledged;
    posted = k.posted;
    host = k.host;
    timeout = k.timeout;
    most = k.most;
    depth = k.depth;
    take = k.take;
    post = k.post;
    parcels_are = k.parcels_are;
    notes_are = k.notes_are;
    stands = λ start earlier p. still start (earlier ++ k.acknowledged) (k.stands start earlier p);
    open_links = k.open_links;
    faults = k.faults;
  }
    where
      still : (start : ℕ) (earlier : List Parcel) → StandsFor told start mid b.outcomes earlier → StandsFor told start (failed_at mid now) b.outcomes earlier
      still start earlier p = record {
        exchange = p.exchange;
        window = p.window;
        talk = p.talk;
        small = p.small;
        are = p.are;
        reached = p.reached;
        finished = p.finished;
        sent = p.sent;
      }

  -- ---- a window was begun

  pub more_flights : (old mid linked new : Working L) → IsFilled old mid → linked ≡ over_link told mid linked.link → BeginsOne linked new → length old.window.flights < length new.window.flights
  more_flights old mid linked new f is b =
      omega (arith, ap (λ (w : Working L). length w.window.flights) f.is, ap (λ (w : Working L). length w.window.flights) is, ap (λ (w : Working L). length w.window.flights) b.is, length-append linked.window.flights (length (next_in linked.window) ∷ []))

  -- ---- what is owed was posted

  pub all_posted : (s : Seen) (old new : Working L) (g : WorkerGoes told s s old new) → owed_by new ≡ [] → 0 < length (owed_by old) → 0 < length g.keeps.posted
  all_posted s old new g none some =
      let all = ap length (g.keeps.notes_are ∙ ap (λ (l : List Note). g.keeps.posted ++ l) none ∙ append-nil g.keeps.posted) in
      omega (arith, some, all, length-append (owed_by old) (notes_of g.keeps.acknowledged))

  -- ---- the fault of a peer is reported

  fault_of : (failed : Bool) (e : Exchange) (frame : List ℕ) (window : ℕ) → failed ≡ true → HearsWith failed e frame window → HasPeerFault e.talk
  fault_of true e frame window is h = h
  fault_of false e frame window is h = absurd cc

  told_fault : (v : Held) (e : Exchange) (bytes : List ℕ) (at : ℕ) (f : FeedsTo v e bytes at) (talk after : Option Talk) → v.hearing.failed ≡ true → TalkGets talk bytes after → HasTalk talk e.talk → FaultIsTold after at
  told_fault v e bytes at f None after failed gets has = absurd has
  told_fault v e bytes at f (Some talk) after failed gets has =
      let fed = f.front ++ f.byte ∷ [] in
      let fault : HasPeerFault (with_bytes e.talk fed) = fault_of v.hearing.failed (with_talk e (with_bytes e.talk fed)) v.hearing.frame (window_asked v.hearing.asks_oldest f.stands.full) failed f.stands.heard in
      subst (λ (t : Option Talk). FaultIsTold t at) (sym gets) (record {
        before = talk.pieces;
        front = f.front;
        byte = f.byte;
        rest = f.rest;
        are = ap (λ (l : List ℕ). talk.pieces ++ In l ∷ []) f.are;
        fault = subst (λ (pieces : List Piece). HasPeerFault (pieces ++ In fed ∷ [])) (sym has) (subst HasPeerFault (with_snoc e.talk f.front f.byte) fault);
        place = f.place ∙ ap (λ (pieces : List Piece). min (length (in_bytes pieces) + length f.front) (2 ^ 64 - 1)) (sym has);
      })

  pub fault_is_told : (before : Seen) (now : Moment) (old new : Working L) (at : ℕ) (x : HearsOver told now old new (Some at)) → IsPeersFault told before old at x.received.link x.received.later
  fault_is_told before now old new at x start acknowledged p = tells before.outcomes p.talk
    where
      tells : (o : Option (List Outcome)) → Speaks told old.link o p.exchange.talk → IfSome o (λ _. FaultIsTold (told x.received.later) at)
      tells None speaks = tt
      tells (Some outcomes) speaks =
          let r = x.received in
          let h : Hears now (record old { link = Some r.later }) new x.bytes (Some at) = subst (λ (m : Working L). Hears now m new x.bytes (Some at)) r.is x.hears in
          told_fault h.window p.exchange x.bytes at (h.fed p.exchange p.window) (told r.link) (told r.later) h.failed r.cause.told_is (subst (λ (o : Option L). Speaks told o (Some outcomes) p.exchange.talk) r.was speaks)

  -- ---- nothing came

  pub waits : (s : Seen) (now : Moment) (old mid : Working L) → HasReceived old mid (Idles told idles) → IsAllOut old
      → (old.window.depth ≤ length old.window.flights) ⊎ FoundEmpty old.take → now.0 < silent_since old + old.timeout → IsWaiting told idles s s now old mid
  waits s now old mid x all_out no_more early =
      subst (λ (w : Working L). IsWaiting told idles s s now old w) (sym x.is) (record {
        goes = later_goes told s old x.link x.later x.was (λ pieces has. idle_talk (told x.link) (told x.later) pieces x.cause.told_is has);
        wire = refl;
        moments = same_keeps_moments now old (over_link told old (Some x.later)) (record { outs = refl; heard = refl });
        all_out = all_out;
        window = refl;
        no_more = no_more;
        link = x.link;
        was = x.was;
        later = x.later;
        is = refl;
        idle = x.cause.rose;
        early = early;
      })

  pub fails_behind : (before after : Seen) (old mid new : Working L) (now : Moment) → WorkerGoes told before before old mid → new ≡ unlinked (failed_at mid now)
      → EndsLink told faults idles mid.link before after → FailsAt told before after old new now
  fails_behind before after old mid new now g is ends = fails_at before after old mid new now (goes_to_end before before old mid g) is ends

  -- ---- connecting, and a window that is begun

  filled_same : (old mid : Working L) → IsFilled old mid → SameMoments old mid
  filled_same old mid f = record { outs = ap (λ (w : Working L). w.outs) f.is; heard = ap (λ (w : Working L). w.heard) f.is }

  begun_same : (mid linked new : Working L) → linked ≡ over_link told mid linked.link → BeginsOne linked new → SameMoments mid new
  begun_same mid linked new is b = record {
    outs = ap (λ (w : Working L). w.outs) b.is ∙ ap (λ (w : Working L). w.outs) is;
    heard = ap (λ (w : Working L). w.heard) b.is ∙ ap (λ (w : Working L). w.heard) is;
  }

  failed_behind : (before after : Seen) (old linked : Working L) (now : Moment) → WorkerGoes told before after old linked → linked.link ≡ None → SameMoments old linked → FailsAt told before after old (failed_at linked now) now
  unfolding counted
  failed_behind before after old linked now g none same = record {
    keeps = counted (λ start. StandsFor told start old before.outcomes) before after old linked now g.keeps;
    failures = ap one_failure_more g.failures;
    failed = refl;
    unlinked = none;
    moments = same_keeps_moments now old (failed_at linked now) (record { outs = same.outs; heard = same.heard });
  }

  pub connect_fails : (before after : Seen) (old mid linked new : Working L) (now : Moment) → ((s : Seen) → WorkerGoes told s s old mid) → IsFilled old mid → WorkerGoes told before after mid linked
      → linked ≡ mid → mid.link ≡ None → new ≡ failed_at linked now → Rose before.faults after.faults → IfSome before.outcomes (λ list. KeepsRefusal list after.outcomes after.faults) → Fails told faults idles before after now old new Connect
  connect_fails before after old mid linked new now gathered f g same none is rose kept =
      record {
        fails = subst (λ (w : Working L). FailsAt told before after old w now) (sym is) (failed_behind before after old linked now (goes_on _ _ _ before before after old mid linked (gathered before) g) (ap (λ (w : Working L). w.link) same ∙ none)
            (moments_on old mid linked (filled_same old mid f) (record { outs = ap (λ (w : Working L). w.outs) same; heard = ap (λ (w : Working L). w.heard) same })));
        cause = record { unlinked = sym (ap (λ (w : Working L). w.link) f.is) ∙ none; rose = rose; kept = kept };
      }

  -- what it begins goes over the link that it had, or over the one that was made
  link_begun : (old mid linked new : Working L) → IsFilled old mid → KeepsOrMakesLink told mid linked → BeginsOne linked new → UsesLink told old new
  link_begun old mid linked new f kept b =
      let was : mid.link ≡ old.link = ap (λ (w : Working L). w.link) f.is in
      let is : new.link ≡ linked.link = ap (λ (w : Working L). w.link) b.is in
      elim kept [
        | inl same ↦ inl (inl (is ∙ same ∙ was))
        | inr made ↦ inl (inr (record { none = sym was ∙ made.none; link = made.link; is = is ∙ made.is; unused = made.unused }))
      ]

  pub begin_works : (before after : Seen) (now : Moment) (old mid linked new : Working L) → after.outcomes ≡ before.outcomes → KeepsOrMakesLink told mid linked → ((s : Seen) → WorkerGoes told s s old mid) → IsFilled old mid → WorkerGoes told before after mid linked
      → linked ≡ over_link told mid linked.link → BeginsOne linked new → Works told before after now old new
  begin_works before after now old mid linked new outcomes kept gathered f g is b = record {
    goes = goes_on _ _ _ before before after old mid new (gathered before) (goes_on _ _ _ before after after mid linked new g (begun_goes told after linked new b));
    did = inr (inr (inr (inl (more_flights old mid linked new f is b))));
    link = link_begun old mid linked new f kept b;
    outcomes = outcomes;
    moments = same_keeps_moments now old new (moments_on old mid new (filled_same old mid f) (begun_same mid linked new is b));
  }

-- ---- each turn keeps

module _ {L : Type 0} (told : L → Option Talk) (faults idles : L → ℕ) where
  keeps_still : (before after : Seen) (old new : Working L) → new ≡ old → after ≡ before → WorkerKeeps told before after old new
  keeps_still before after old new same wire =
      subst (λ (s : Seen). WorkerKeeps told before s old new) (sym wire) (subst (λ (w : Working L). WorkerKeeps told before before old w) (sym same) (keeps_same (λ start. StandsFor told start old before.outcomes) before old))

  pub turn_keeps : (capacity : ℕ) (before after : Seen) (now : Moment) (old new : Working L) (turn : WorkerTurn) → IsTurn told faults idles capacity before after now old new turn → WorkerKeeps told before after old new
  turn_keeps capacity before after now old new Worked t = t.goes.keeps
  turn_keeps capacity before after now old new Idle t = keeps_still before after old new t.same t.wire
  turn_keeps capacity before after now old new WasHeld t = t.goes.keeps
  turn_keeps capacity before after now old new NotYet t = t.goes.keeps
  turn_keeps capacity before after now old new (Resting until) t = keeps_still before after old new t.same t.wire
  turn_keeps capacity before after now old new (Failed failure) t = t.fails.keeps
