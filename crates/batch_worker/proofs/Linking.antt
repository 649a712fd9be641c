-- What becomes of a worker's link while its window stays: it is made, it fails, or nothing comes over it.
use Rattle.std.proofs.Common.{◌≡◌, ℕ, ◌<◌, ◌≤◌, false, List, [], ◌∷◌, ◌++◌, length, take, drop, Option, Some, None, IfSome, Ok, Err, is_some, refl, sym, ap, subst, ◌∙◌, append-nil, arith, inl, inr, length-append}
use Rattle.std.proofs.lemmas.List.{drop-append-le, length-take}
use Rattle.lumber_client.specs.Exchange.{Exchange, acknowledged_in, payloads_of, with_begun, with_sent}
use Rattle.lumber_client.specs.Held.{Held, begun_as, next_in, sent_as, waiting_in}
use Rattle.lumber_client.specs.Standing.{StandsFor as WindowStandsFor}
use Rattle.outside.specs.Counts.{IsAtEnd, next_count}
use Rattle.outside.specs.Talks.{Talk, TellsReceiving, TellsSending, no_talk, with_sent as talk_with_sent}
use Rattle.outside.specs.Wires.{Outcome, Refused, Finished, KeepsRefusal, TellsConnecting}
use Rattle.outside.specs.declared.failed.Failed.{Failed}
use Rattle.outside.specs.declared.link.Recv.TheVariants.{Got}
use Rattle.wire_base.specs.declared.numbers.Moment.{Moment}
use Rattle.wire_base.specs.declared.parcel.Parcel.{Parcel}
use Rattle.wire_base.specs.declared.talk.Piece.{Piece}
use Rattle.wire_base.specs.declared.talk.Piece.TheVariants.{Out}
use Rattle.batch_worker.specs.Acknowledged.{AcknowledgeInAll}
use Rattle.batch_worker.specs.Held.{carried_in, owed_by}
use Rattle.batch_worker.specs.Keeping.{WorkerGoes}
use Rattle.batch_worker.specs.Links.{TalkGets}
use Rattle.batch_worker.specs.Seen.{Seen, with_link}
use Rattle.batch_worker.specs.Sent.{AreSentOnly, AreSmall}
use Rattle.batch_worker.specs.Standing.{HasTalk, Speaks, StandsFor}
use Rattle.batch_worker.specs.Steps.{BeginsOne, SendsSome, outs_behind}
use Rattle.batch_worker.specs.Working.{Working}
use Rattle.batch_worker.proofs.Finishing.{sent_with_one}
use Rattle.batch_worker.proofs.Keeping.{none_posted, none_taken, stands_by}

abbrev pub head_of : List ℕ → ℕ
head_of [] = 0
head_of (byte ∷ bytes) = byte

abbrev pub tail_of : List ℕ → List ℕ
tail_of [] = []
tail_of (byte ∷ bytes) = bytes

pub some_bytes : (bytes : List ℕ) → 0 < length bytes → bytes ≡ head_of bytes ∷ tail_of bytes
some_bytes [] some = absurd (omega arith)
some_bytes (byte ∷ bytes) some = refl

pub gets_told : (talk after : Option Talk) (into : List ℕ) (count : ℕ) → TellsReceiving talk into (Got count) after → TalkGets talk (take count into) after
gets_told None after into count tells = tells
gets_told (Some talk) after into count tells = tells

pub none_there : {L : Type 0} (link : Option L) → is_some link ≡ false → link ≡ None
none_there None is = refl
none_there (Some link) is = absurd cc

with_refused : (outcomes : List Outcome) (payloads : List (List ℕ)) → AcknowledgeInAll outcomes payloads → AcknowledgeInAll (outcomes ++ Refused ∷ []) payloads
with_refused [] payloads all = all
with_refused (Refused ∷ outcomes) payloads all = with_refused outcomes payloads all
with_refused (Finished talk f i ∷ outcomes) payloads all = record {
  first = all.first;
  rest = all.rest;
  are = all.are;
  acknowledges = all.acknowledges;
  others = with_refused outcomes all.rest all.others;
}

-- ---- the wire's list changes, and the worker's link

module _ {L : Type 0} (told : L → Option Talk) where
  -- a link that is made is not in the list yet
  pub connecting_tells_none : (link : L) (outcomes now : Option (List Outcome)) (faults : ℕ) → TellsConnecting told outcomes (Ok link) now faults → now ≡ outcomes
  connecting_tells_none link None now faults tells = tells.0
  connecting_tells_none link (Some outcomes) now faults tells = tells.1

  -- and nothing went over it yet
  pub connecting_tells_unused : (link : L) (outcomes now : Option (List Outcome)) (faults : ℕ) → TellsConnecting told outcomes (Ok link) now faults → IfSome (told link) (λ talk. talk ≡ no_talk)
  connecting_tells_unused link None now faults tells = subst (λ (o : Option Talk). IfSome o (λ talk. talk ≡ no_talk)) (sym tells.1) tt
  connecting_tells_unused link (Some outcomes) now faults tells = subst (λ (o : Option Talk). IfSome o (λ talk. talk ≡ no_talk)) (sym tells.0) refl

  -- one that is refused does, if the wire reports
  pub connecting_tells_refusal : (error : Failed) (outcomes now : Option (List Outcome)) (faults : ℕ) → TellsConnecting told outcomes (Err error) now faults → IfSome outcomes (λ list. KeepsRefusal list now faults)
  connecting_tells_refusal error None now faults tells = tt
  connecting_tells_refusal error (Some outcomes) now faults tells = tells

  abbrev pub over_link : Working L → Option L → Working L
  over_link w link = record w { link = link }

  -- nothing but the link changes
  pub link_goes : (before after : Seen) (old : Working L) (link : Option L) → ((start : ℕ) (earlier : List Parcel) → StandsFor told start old before.outcomes earlier → StandsFor told start (over_link old link) after.outcomes earlier)
      → ((others : ℕ) → before.open_links ≡ with_link others old.link → ¬ (IsAtEnd others) → after.open_links ≡ with_link others link) → before.faults ≤ after.faults → WorkerGoes told before after old (over_link old link)
  link_goes before after old link stands opens faults = record {
    keeps = record {
      taken = [];
      acknowledged = [];
      posted = [];
      host = refl;
      timeout = refl;
      most = refl;
      depth = refl;
      take = none_taken old.take;
      post = none_posted old.post;
      parcels_are = append-nil (carried_in old.window);
      notes_are = append-nil (owed_by old);
      stands = λ start earlier p. subst (StandsFor told start (over_link old link) after.outcomes) (sym (append-nil earlier)) (stands start earlier p);
      open_links = opens;
      faults = faults;
    };
    failures = refl;
    failed = refl;
  }

  -- a worker without a link, over another list of its wire
  over_list : (start : ℕ) (w : Working L) (link : Option L) (outcomes now : Option (List Outcome)) (earlier : List Parcel) (p : StandsFor told start w outcomes earlier) → Speaks told link now p.exchange.talk
      → IfSome now (λ list. start ≤ length list) → IfSome now (λ list. AcknowledgeInAll (drop start list) (payloads_of p.exchange.earlier)) → IfSome now (λ list. AreSentOnly w.window.most (earlier ++ carried_in w.window) (drop start list))
      → StandsFor told start (over_link w link) now earlier
  over_list start w link outcomes now earlier p speaks reached finished sent = record {
    exchange = p.exchange;
    window = p.window;
    talk = speaks;
    small = p.small;
    are = p.are;
    reached = reached;
    finished = finished;
    sent = sent;
  }

  refused_stands : (start : ℕ) (w : Working L) (error : Failed) (outcomes now : Option (List Outcome)) (faults : ℕ) (earlier : List Parcel) → w.link ≡ None → TellsConnecting told outcomes (Err error) now faults
      → StandsFor told start w outcomes earlier → StandsFor told start (over_link w None) now earlier
  refused_stands start w error None now faults earlier none tells p =
      subst (λ (o : Option (List Outcome)). StandsFor told start (over_link w None) o earlier) (sym tells.0) (over_list start w None None None earlier p (subst (λ (l : Option L). Speaks told l None p.exchange.talk) none p.talk) tt tt tt)
  refused_stands start w error (Some outcomes) now faults earlier none tells p =
      let speaks = subst (λ (l : Option L). Speaks told l (Some outcomes) p.exchange.talk) none p.talk in
      let behind : drop start (outcomes ++ Refused ∷ []) ≡ drop start outcomes ++ Refused ∷ [] = drop-append-le start outcomes (Refused ∷ []) p.reached in
      let further : start ≤ length (outcomes ++ Refused ∷ []) = omega (arith, p.reached, length-append outcomes (Refused ∷ [])) in
      let finished = subst (λ (l : List Outcome). AcknowledgeInAll l (payloads_of p.exchange.earlier)) (sym behind) (with_refused (drop start outcomes) (payloads_of p.exchange.earlier) p.finished) in
      let sent = subst (AreSentOnly w.window.most (earlier ++ carried_in w.window)) (sym behind) (sent_with_one w.window.most (earlier ++ carried_in w.window) (drop start outcomes) Refused p.sent tt) in
      elim tells [
        | inl more ↦ subst (λ (o : Option (List Outcome)). StandsFor told start (over_link w None) o earlier) (sym more) (over_list start w None (Some outcomes) (Some (outcomes ++ Refused ∷ [])) earlier p speaks further finished sent)
        | inr same ↦ subst (λ (o : Option (List Outcome)). StandsFor told start (over_link w None) o earlier) (sym same.1) (over_list start w None (Some outcomes) (Some outcomes) earlier p speaks p.reached p.finished p.sent)
      ]

  pub refused_goes : (before after : Seen) (w : Working L) (error : Failed) → w.link ≡ None → TellsConnecting told before.outcomes (Err error) after.outcomes after.faults → after.open_links ≡ before.open_links → before.faults ≤ after.faults → WorkerGoes told before after w w
  refused_goes before after w error none tells opens faults =
      subst (λ (v : Working L). WorkerGoes told before after w v) (ap (over_link w) (sym none))
      (link_goes before after w None (λ start earlier p. refused_stands start w error before.outcomes after.outcomes after.faults earlier none tells p) (λ others is few. opens ∙ is ∙ ap (with_link others) none) faults)

  linked_stands : (start : ℕ) (w : Working L) (link : L) (outcomes now : Option (List Outcome)) (faults : ℕ) (earlier : List Parcel) → w.link ≡ None → TellsConnecting told outcomes (Ok link) now faults
      → StandsFor told start w outcomes earlier → StandsFor told start (over_link w (Some link)) now earlier
  linked_stands start w link None now faults earlier none tells p =
      subst (λ (o : Option (List Outcome)). StandsFor told start (over_link w (Some link)) o earlier) (sym tells.0) (over_list start w (Some link) None None earlier p tt tt tt tt)
  linked_stands start w link (Some outcomes) now faults earlier none tells p =
      let silent : p.exchange.talk ≡ [] = subst (λ (l : Option L). Speaks told l (Some outcomes) p.exchange.talk) none p.talk in
      subst (λ (o : Option (List Outcome)). StandsFor told start (over_link w (Some link)) o earlier) (sym tells.1)
      (over_list start w (Some link) (Some outcomes) (Some outcomes) earlier p (subst (λ (t : Option Talk). HasTalk t p.exchange.talk) (sym tells.0) (sym silent)) p.reached p.finished p.sent)

  pub linked_goes : (before after : Seen) (w : Working L) (link : L) → w.link ≡ None → TellsConnecting told before.outcomes (Ok link) after.outcomes after.faults → after.open_links ≡ next_count before.open_links → before.faults ≤ after.faults → WorkerGoes told before after w (over_link w (Some link))
  linked_goes before after w link none tells opens faults =
      link_goes before after w (Some link) (λ start earlier p. linked_stands start w link before.outcomes after.outcomes after.faults earlier none tells p) (λ others is few. opens ∙ ap next_count (is ∙ ap (with_link others) none)) faults

  -- the link goes on, and its talk's pieces are the same
  pub later_goes : (s : Seen) (w : Working L) (link later : L) → w.link ≡ Some link → ((pieces : List Piece) → HasTalk (told link) pieces → HasTalk (told later) pieces) → WorkerGoes told s s w (over_link w (Some later))
  later_goes s w link later was same =
      link_goes s s w (Some later) (λ start earlier p. over_list start w (Some later) s.outcomes s.outcomes earlier p (speaks s.outcomes p.exchange.talk p.talk) p.reached p.finished p.sent) (λ others is few. is ∙ ap (with_link others) was) (omega arith)
    where
      speaks : (outcomes : Option (List Outcome)) (pieces : List Piece) → Speaks told w.link outcomes pieces → Speaks told (Some later) outcomes pieces
      speaks None pieces sp = tt
      speaks (Some outcomes) pieces sp = same pieces (subst (λ (l : Option L). Speaks told l (Some outcomes) pieces) was sp)

-- ---- a piece went out, or a window was begun

module _ {L : Type 0} (told : L → Option Talk) (s : Seen) where
  -- what is acknowledged is as it was where the first parcels stay
  acknowledged_same : (w v : Held) (e f : Exchange) → WindowStandsFor w e → WindowStandsFor v f → f.handed ≡ e.handed → take v.acknowledged v.parcels ≡ take w.acknowledged w.parcels → f.earlier ++ acknowledged_in f ≡ (e.earlier ++ acknowledged_in e) ++ []
  acknowledged_same w v e f a b handed first = sym b.acknowledged ∙ ap (λ (l : List Parcel). l ++ take v.acknowledged v.parcels) handed ∙ ap (λ (l : List Parcel). e.handed ++ l) first ∙ a.acknowledged ∙ sym (append-nil (e.earlier ++ acknowledged_in e))

  abbrev begun_one : Working L → List ℕ → List ℕ → Working L
  begun_one w out behind = record w { window = begun_as w.window out behind }

  small_with : (most : ℕ) (begun : List (List Parcel)) (window : List Parcel) → length window ≤ most → AreSmall most begun → AreSmall most (begun ++ window ∷ [])
  small_with most [] window few small = (few, tt)
  small_with most (first ∷ begun) window few small = (small.0, small_with most begun window few small.1)

  pub begun_goes : (old new : Working L) → BeginsOne old new → WorkerGoes told s s old new
  begun_goes old new b =
      subst (λ (w : Working L). WorkerGoes told s s old w) (sym b.is) (record {
        keeps = record {
          taken = [];
          acknowledged = [];
          posted = [];
          host = refl;
          timeout = refl;
          most = refl;
          depth = refl;
          take = none_taken old.take;
          post = none_posted old.post;
          parcels_are = append-nil (carried_in old.window);
          notes_are = append-nil (owed_by old);
          stands = λ start earlier p. stands_by told old (begun_one old new.window.out new.window.behind) s.outcomes start earlier [] [] p (with_begun p.exchange (next_in old.window)) (window p.exchange p.window) p.talk
              (small_with old.window.most p.exchange.begun (next_in old.window) few p.small) refl
              (acknowledged_same old.window (begun_as old.window new.window.out new.window.behind) p.exchange (with_begun p.exchange (next_in old.window)) p.window (window p.exchange p.window) refl refl)
              refl (append-nil (carried_in old.window));
          open_links = λ others is few. is;
          faults = omega arith;
        };
        failures = refl;
        failed = refl;
      })
    where
      few : length (next_in old.window) ≤ old.window.most
      few = omega (arith, length-take old.window.most (waiting_in old.window))

      window : (e : Exchange) → WindowStandsFor old.window e → WindowStandsFor (begun_as old.window new.window.out new.window.behind) (with_begun e (next_in old.window))
      window e w = subst (λ (v : Working L). WindowStandsFor v.window (with_begun e (next_in old.window))) b.is (b.stands e w)

  abbrev sent_one : Working L → L → List ℕ → List ℕ → Moment → Working L
  sent_one w later out behind now = record w { link = Some later; window = sent_as w.window out behind; outs = outs_behind out w.outs now }

  talk_longer : (talk : Talk) (bytes : List ℕ) → 0 < length bytes → (talk_with_sent talk bytes).pieces ≡ talk.pieces ++ Out bytes ∷ []
  talk_longer talk [] some = absurd (omega arith)
  talk_longer talk (byte ∷ bytes) some = refl

  pub sent_talk : (talk after : Option Talk) (piece : List ℕ) (count : ℕ) (pieces : List Piece) → 0 < length (take count piece) → TellsSending talk piece (Ok count) after → HasTalk talk pieces → HasTalk after (pieces ++ Out (take count piece) ∷ [])
  sent_talk None after piece count pieces some tells has = absurd has
  sent_talk (Some talk) after piece count pieces some tells has =
      subst (λ (t : Option Talk). HasTalk t (pieces ++ Out (take count piece) ∷ [])) (sym tells) (talk_longer talk (take count piece) some ∙ ap (λ (l : List Piece). l ++ Out (take count piece) ∷ []) has)

  pub some_sent : (count : ℕ) (piece : List ℕ) → 0 < count → count ≤ length piece → 0 < length (take count piece)
  some_sent count piece some fits = omega (arith, some, fits, length-take count piece)

  pub sent_goes : (now : Moment) (old new : Working L) → SendsSome told now old new → WorkerGoes told s s old new
  sent_goes now old new x =
      subst (λ (w : Working L). WorkerGoes told s s old w) (sym x.is) (record {
        keeps = record {
          taken = [];
          acknowledged = [];
          posted = [];
          host = refl;
          timeout = refl;
          most = refl;
          depth = refl;
          take = none_taken old.take;
          post = none_posted old.post;
          parcels_are = append-nil (carried_in old.window);
          notes_are = append-nil (owed_by old);
          stands = λ start earlier p. stands_by told old (sent_one old x.later new.window.out new.window.behind now) s.outcomes start earlier [] [] p (with_sent p.exchange (take x.count old.window.out)) (window p.exchange p.window)
              (speaks s.outcomes p.exchange.talk old.link x.was p.talk) p.small refl
              (acknowledged_same old.window (sent_as old.window new.window.out new.window.behind) p.exchange (with_sent p.exchange (take x.count old.window.out)) p.window (window p.exchange p.window) refl refl)
              refl (append-nil (carried_in old.window));
          open_links = λ others is few. is ∙ ap (with_link others) x.was;
          faults = omega arith;
        };
        failures = refl;
        failed = refl;
      })
    where
      window : (e : Exchange) → WindowStandsFor old.window e → WindowStandsFor (sent_as old.window new.window.out new.window.behind) (with_sent e (take x.count old.window.out))
      window e w = subst (λ (v : Working L). WindowStandsFor v.window (with_sent e (take x.count old.window.out))) x.is (x.stands e w)

      speaks : (outcomes : Option (List Outcome)) (pieces : List Piece) (l : Option L) → l ≡ Some x.link → Speaks told l outcomes pieces → Speaks told (Some x.later) outcomes (pieces ++ Out (take x.count old.window.out) ∷ [])
      speaks None pieces l is sp = tt
      speaks (Some outcomes) pieces l is sp = sent_talk (told x.link) (told x.later) old.window.out x.count pieces (some_sent x.count old.window.out x.some x.fits) x.told_is (subst (λ (o : Option L). Speaks told o (Some outcomes) pieces) is sp)
