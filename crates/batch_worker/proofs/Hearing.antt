-- What is heard of a peer keeps what a worker's calls keep; after a fault the link may be finished.
use Rattle.std.proofs.Common.{◌≡◌, ℕ, zero, suc, ◌<◌, ◌≤◌, ◌↔◌, Bool, true, false, cond, IsTrue, List, [], ◌∷◌, ◌++◌, length, take, drop, Option, Some, None, IfSome, refl, sym, ap, subst, ◌∙◌, append_assoc, append-nil, arith}
use Rattle.std.proofs.lemmas.List.{take-append-drop}
use Rattle.lumber_client.specs.Exchange.{Exchange, acknowledged_in, anew, payloads_of, with_talk}
use Rattle.lumber_client.specs.Held.{Held}
use Rattle.lumber_client.specs.Newly.{KeepsParcels}
use Rattle.lumber_client.specs.Standing.{HearsWith, StandsFor as WindowStandsFor, window_asked}
use Rattle.lumber_client.proofs.Acknowledging.{acknowledges}
use Rattle.lumber_client.proofs.Alike.{joined_acknowledges}
use Rattle.lumber_client.proofs.Behind.{nothing_behind}
use Rattle.lumber_client.proofs.Standings.{stands_again}
use Rattle.lumber_frame.specs.Acknowledged.{Acknowledges}
use Rattle.lumber_frame.specs.PeerFault.{HasPeerFault}
use Rattle.lumber_frame.specs.Talk.{out_bytes}
use Rattle.lumber_frame.proofs.Staying.{out_append}
use Rattle.outside.specs.Talks.{Talk}
use Rattle.outside.specs.Wires.{Outcome}
use Rattle.wire_base.specs.declared.numbers.Moment.{Moment}
use Rattle.wire_base.specs.declared.parcel.Parcel.{Parcel}
use Rattle.wire_base.specs.declared.talk.Piece.{Piece}
use Rattle.wire_base.specs.declared.talk.Piece.TheVariants.{In}
use Rattle.wire_base.specs.declared.note.Note.{Note}
use Rattle.batch_worker.specs.Acknowledged.{AcknowledgeInAll}
use Rattle.batch_worker.specs.Ending.{CanFinish, MayEnd, WithTalk}
use Rattle.batch_worker.specs.Feeding.{FeedsTo, with_bytes}
use Rattle.batch_worker.specs.Held.{carried_in, noted, notes_of, owed_by, settled_in}
use Rattle.batch_worker.specs.Keeping.{Goes, WorkerGoes, failures_since}
use Rattle.batch_worker.specs.Links.{TalkGets}
use Rattle.batch_worker.specs.Receiving.{Gets, Hears, HearsOver, outs_left, window_behind}
use Rattle.batch_worker.specs.Seen.{Seen, with_link}
use Rattle.batch_worker.specs.Sent.{AreSentOnly, AreSmall}
use Rattle.batch_worker.specs.Standing.{HasTalk, Speaks, StandsFor}
use Rattle.batch_worker.specs.Working.{Working}
use Rattle.batch_worker.proofs.Finishing.{finishing}
use Rattle.batch_worker.proofs.Keeping.{all_taken, are_sent_more, none_posted, none_taken, stands_by}

-- ---- failures

some_settled : (acknowledged : ℕ) (parcels : List Parcel) (failures : ℕ) → 0 < acknowledged → acknowledged ≤ length parcels → 0 ≡ failures_since (take acknowledged parcels) failures
some_settled zero parcels failures some few = absurd (omega arith)
some_settled (suc n) [] failures some few = absurd (omega arith)
some_settled (suc n) (parcel ∷ parcels) failures some few = refl

none_settled : (acknowledged : ℕ) (parcels : List Parcel) (failures : ℕ) → acknowledged ≡ 0 → failures ≡ failures_since (take acknowledged parcels) failures
none_settled zero parcels failures none = refl
none_settled (suc n) parcels failures none = absurd (omega arith)

never_true : false ≡ true → ⊥
never_true same = absurd cc

pub failures_are : (window : Held) (settled : Bool) (failures : ℕ) → (IsTrue settled ↔ (0 < window.acknowledged)) → window.acknowledged ≤ length window.parcels → cond settled 0 failures ≡ failures_since (settled_in window) failures
failures_are window true failures is few = some_settled window.acknowledged window.parcels failures (is.0 refl) few
failures_are window false failures is few = none_settled window.acknowledged window.parcels failures (none window.acknowledged (λ some. never_true (is.1 some)))
  where
    none : (n : ℕ) → (0 < n → ⊥) → n ≡ 0
    none zero never = refl
    none (suc n) never = absurd (never (omega arith))

-- ---- what a window has acknowledged since nothing was to be settled

pub acknowledged_more : (w v : Held) (e f : Exchange) → WindowStandsFor w e → WindowStandsFor v f → f.handed ≡ e.handed → w.acknowledged ≡ 0 → f.earlier ++ acknowledged_in f ≡ (e.earlier ++ acknowledged_in e) ++ settled_in v
acknowledged_more w v e f s t same none =
    sym t.acknowledged ∙ ap (λ (l : List Parcel). l ++ settled_in v) (same ∙ sym (append-nil e.handed) ∙ ap (λ (l : List Parcel). e.handed ++ l) (sym (take_zero w.acknowledged w.parcels none)) ∙ s.acknowledged)
  where
    take_zero : (n : ℕ) (l : List Parcel) → n ≡ 0 → take n l ≡ []
    take_zero zero l is = refl
    take_zero (suc n) l is = absurd (omega arith)

-- ---- talks

with_some : (talk : List Piece) (first : ℕ) (others bytes : List ℕ) → bytes ≡ first ∷ others → with_bytes talk bytes ≡ talk ++ In bytes ∷ []
with_some talk first others bytes is = ap (with_bytes talk) is ∙ ap (λ (l : List ℕ). talk ++ In l ∷ []) (sym is)

gets_talk : (talk after : Option Talk) (pieces : List Piece) (first : ℕ) (others bytes : List ℕ) → bytes ≡ first ∷ others → TalkGets talk bytes after → HasTalk talk pieces → HasTalk after (with_bytes pieces bytes)
gets_talk None after pieces first others bytes some gets has = absurd has
gets_talk (Some talk) after pieces first others bytes some gets has =
    subst (λ (t : Option Talk). HasTalk t (with_bytes pieces bytes)) (sym gets) (ap (λ (l : List Piece). l ++ In bytes ∷ []) has ∙ sym (with_some pieces first others bytes some))

-- after a fault the talk with all bytes acknowledges the same
behind_fault : (talk : List Piece) (fed : List ℕ) (first : ℕ) (others rest bytes : List ℕ) (payloads : List (List ℕ)) → fed ≡ first ∷ others → bytes ≡ fed ++ rest → HasPeerFault (with_bytes talk fed) → Acknowledges (with_bytes talk fed) payloads → Acknowledges (talk ++ In bytes ∷ []) payloads
behind_fault talk fed first others rest bytes payloads some are fault read =
    let one = with_some talk first others fed some in
    let two : Piece = In rest in
    let parts = nothing_behind (talk ++ In fed ∷ []) (two ∷ []) payloads (subst HasPeerFault one fault) (subst (λ (t : List Piece). Acknowledges t payloads) one read) in
    let three : Piece = In fed in
    subst (λ (l : List ℕ). Acknowledges (talk ++ In l ∷ []) payloads) (sym are)
    (joined_acknowledges talk fed rest payloads (subst (λ (t : List Piece). Acknowledges t payloads) (append_assoc talk (three ∷ []) (two ∷ [])) parts))

out_same : (talk : List Piece) (bytes : List ℕ) → out_bytes (with_bytes talk bytes) ≡ out_bytes talk
out_same talk [] = refl
out_same talk (byte ∷ bytes) =
    let one : Piece = In (byte ∷ bytes) in
    out_append talk (one ∷ []) ∙ append-nil (out_bytes talk)

out_in : (talk : List Piece) (bytes : List ℕ) → out_bytes (talk ++ In bytes ∷ []) ≡ out_bytes talk
out_in talk bytes =
    let one : Piece = In bytes in
    out_append talk (one ∷ []) ∙ append-nil (out_bytes talk)

carried_are : (w v : Held) → KeepsParcels w v → w.acknowledged ≡ 0 → carried_in w ++ [] ≡ settled_in v ++ carried_in v
carried_are w v kept none =
    append-nil (carried_in w) ∙ ap (λ (n : ℕ). drop n w.parcels) none ∙ sym kept.parcels ∙ sym (take-append-drop v.acknowledged v.parcels)

-- ---- a worker that has heard

module _ {L : Type 0} where
  abbrev heard_as : Working L → L → Held → Option ℕ → Moment → Working L
  heard_as w later window fault now = record w {
    link = Some later;
    window = window_behind fault window;
    failures = failures_since (settled_in window) w.failures;
    outs = outs_left fault w.outs window;
    heard = now;
  }

  owed_are : (old : Working L) (v : Held) → old.window.acknowledged ≡ 0 → owed_by old ++ notes_of (settled_in v) ≡ noted old.refused ++ notes_of (settled_in v)
  owed_are old v none =
      ap (λ (l : List Note). l ++ notes_of (settled_in v)) (ap (λ (n : ℕ). noted old.refused ++ notes_of (take n old.window.parcels)) none ∙ append-nil (noted old.refused))

  heard_goes : (P Q : ℕ → List Parcel → Type 0) (s : Seen) (old : Working L) (link later : L) (v : Held) (fault : Option ℕ) (now : Moment) → KeepsParcels old.window v → old.window.acknowledged ≡ 0 → old.link ≡ Some link
      → ((start : ℕ) (earlier : List Parcel) → P start earlier → Q start (earlier ++ settled_in v)) → Goes P Q s s old (heard_as old later v fault now)
  heard_goes P Q s old link later v None now kept none was stands = record {
    keeps = record {
      taken = [];
      acknowledged = settled_in v;
      posted = [];
      host = refl;
      timeout = refl;
      most = kept.most;
      depth = kept.depth;
      take = none_taken old.take;
      post = none_posted old.post;
      parcels_are = carried_are old.window v kept none;
      notes_are = owed_are old v none;
      stands = stands;
      open_links = λ others is few. is ∙ ap (with_link others) was;
      faults = omega arith;
    };
    failures = refl;
    failed = refl;
  }
  heard_goes P Q s old link later v (Some at) now kept none was stands = record {
    keeps = record {
      taken = [];
      acknowledged = settled_in v;
      posted = [];
      host = refl;
      timeout = refl;
      most = kept.most;
      depth = kept.depth;
      take = none_taken old.take;
      post = none_posted old.post;
      parcels_are = carried_are old.window v kept none;
      notes_are = owed_are old v none;
      stands = stands;
      open_links = λ others is few. is ∙ ap (with_link others) was;
      faults = omega arith;
    };
    failures = refl;
    failed = refl;
  }

snoc_first : List ℕ → ℕ → ℕ
snoc_first [] byte = byte
snoc_first (first ∷ others) byte = first

snoc_others : List ℕ → ℕ → List ℕ
snoc_others [] byte = []
snoc_others (first ∷ others) byte = others ++ byte ∷ []

snoc_some : (front : List ℕ) (byte : ℕ) → front ++ byte ∷ [] ≡ snoc_first front byte ∷ snoc_others front byte
unfolding snoc_first snoc_others
snoc_some [] byte = refl
snoc_some (first ∷ others) byte = refl

pub with_snoc : (talk : List Piece) (front : List ℕ) (byte : ℕ) → with_bytes talk (front ++ byte ∷ []) ≡ talk ++ In (front ++ byte ∷ []) ∷ []
with_snoc talk front byte = with_some talk (snoc_first front byte) (snoc_others front byte) (front ++ byte ∷ []) (snoc_some front byte)

module _ {L : Type 0} (told : L → Option Talk) (s : Seen) (now : Moment) (old new : Working L) where
  speaks_heard : (outcomes : Option (List Outcome)) (pieces : List Piece) (bytes : List ℕ) (link later : L) (l : Option L) → l ≡ Some link → Gets told bytes link later → Speaks told l outcomes pieces → Speaks told (Some later) outcomes (with_bytes pieces bytes)
  speaks_heard None pieces bytes link later l is gets speaks = tt
  speaks_heard (Some outcomes) pieces bytes link later l is gets speaks =
      gets_talk (told link) (told later) pieces gets.first gets.others bytes gets.some gets.told_is (subst (λ (o : Option L). Speaks told o (Some outcomes) pieces) is speaks)

  -- bytes without a fault
  pub bytes_go : old.window.acknowledged ≡ 0 → HearsOver told now old new None → WorkerGoes told s s old new
  bytes_go none x =
      let r = x.received in
      let h : Hears now (record old { link = Some r.later }) new x.bytes None = subst (λ (m : Working L). Hears now m new x.bytes None) r.is x.hears in
      let v = h.window in
      subst (λ (w : Working L). WorkerGoes told s s old w) (sym h.is)
      (heard_goes (λ start. StandsFor told start old s.outcomes) (λ start. StandsFor told start (heard_as old r.later v None now) s.outcomes) s old r.link r.later v None now h.kept none r.was
      (λ start earlier p. stands_by told old (heard_as old r.later v None now) s.outcomes start earlier (settled_in v) [] p (with_talk p.exchange (with_bytes p.exchange.talk x.bytes)) (h.fed p.exchange p.window)
      (speaks_heard s.outcomes p.exchange.talk x.bytes r.link r.later old.link r.was r.cause p.talk) p.small refl
      (acknowledged_more old.window v p.exchange (with_talk p.exchange (with_bytes p.exchange.talk x.bytes)) p.window (h.fed p.exchange p.window) refl none)
      h.kept.most (carried_are old.window v h.kept none)))

  fault_talk : (v : Held) (e : Exchange) (bytes : List ℕ) (at : ℕ) (f : FeedsTo v e bytes at) (talk after : Option Talk) (most : ℕ) (acknowledged : List Parcel) (outcomes : List Outcome)
      → v.hearing.failed ≡ true → TalkGets talk bytes after → HasTalk talk e.talk → AreSmall most e.begun → acknowledged ≡ e.earlier ++ acknowledged_in (with_talk e (with_bytes e.talk (f.front ++ f.byte ∷ [])))
      → AcknowledgeInAll outcomes (payloads_of e.earlier) → AreSentOnly most (acknowledged ++ carried_in v) outcomes → WithTalk most acknowledged (acknowledged ++ carried_in v) outcomes after
  fault_talk v e bytes at f None after most acknowledged outcomes failed gets has small are finished sent = absurd has
  fault_talk v e bytes at f (Some talk) after most acknowledged outcomes failed gets has small are finished sent =
      let fed = f.front ++ f.byte ∷ [] in
      let g = with_talk e (with_bytes e.talk fed) in
      let longer : Talk = record talk { pieces = talk.pieces ++ In bytes ∷ [] } in
      let fault : HasPeerFault (with_bytes e.talk fed) = has_fault v.hearing.failed failed f.stands.heard in
      let read = behind_fault e.talk fed (snoc_first f.front f.byte) (snoc_others f.front f.byte) f.rest bytes (payloads_of (acknowledged_in g)) (snoc_some f.front f.byte) f.are fault (acknowledges v g f.stands) in
      subst (WithTalk most acknowledged (acknowledged ++ carried_in v) outcomes) (sym gets)
      (finishing v g f.stands longer most acknowledged outcomes small are
      (subst (λ (pieces : List Piece). Acknowledges (pieces ++ In bytes ∷ []) (payloads_of (acknowledged_in g))) (sym has) read)
      (out_in talk.pieces bytes ∙ ap out_bytes has ∙ sym (out_same e.talk fed)) finished sent)
    where
      has_fault : (failed : Bool) → failed ≡ true → HearsWith failed (with_talk e (with_bytes e.talk (f.front ++ f.byte ∷ []))) v.hearing.frame (window_asked v.hearing.asks_oldest f.stands.full) → HasPeerFault (with_bytes e.talk (f.front ++ f.byte ∷ []))
      has_fault true is h = h
      has_fault false is h = absurd cc

  fault_ends : (start : ℕ) (outcomes : Option (List Outcome)) (at : ℕ) (bytes : List ℕ) (link later : L) (v : Held) (earlier : List Parcel) → old.window.acknowledged ≡ 0 → old.link ≡ Some link → Gets told bytes link later → KeepsParcels old.window v → v.hearing.failed ≡ true
      → ((e : Exchange) → WindowStandsFor old.window e → FeedsTo v e bytes at)
      → StandsFor told start old outcomes earlier → MayEnd told start (heard_as old later v (Some at) now) outcomes (earlier ++ settled_in v)
  fault_ends start outcomes at bytes link later v earlier none was gets kept failed fed p =
      let e = p.exchange in
      let f = fed e p.window in
      let g = with_talk e (with_bytes e.talk (f.front ++ f.byte ∷ [])) in
      let more : earlier ++ settled_in v ≡ e.earlier ++ acknowledged_in g = ap (λ (l : List Parcel). l ++ settled_in v) p.are ∙ sym (acknowledged_more old.window v e g p.window f.stands refl none) in
      record {
        exchange = anew g;
        window = stands_again v g f.stands;
        are = more ∙ sym (append-nil (e.earlier ++ acknowledged_in g));
        reached = p.reached;
        finishing = can outcomes p.talk p.finished p.sent f more;
      }
    where
      can : (o : Option (List Outcome)) → Speaks told old.link o p.exchange.talk → IfSome o (λ list. AcknowledgeInAll (drop start list) (payloads_of p.exchange.earlier)) → IfSome o (λ list. AreSentOnly old.window.most (earlier ++ carried_in old.window) (drop start list)) → (f : FeedsTo v p.exchange bytes at)
          → earlier ++ settled_in v ≡ p.exchange.earlier ++ acknowledged_in (with_talk p.exchange (with_bytes p.exchange.talk (f.front ++ f.byte ∷ []))) → CanFinish told start v.most (earlier ++ settled_in v) ((earlier ++ settled_in v) ++ carried_in v) (Some later) o
      can None speaks finished sent f more = tt
      can (Some list) speaks finished sent f more =
          fault_talk v p.exchange bytes at f (told link) (told later) v.most (earlier ++ settled_in v) (drop start list) failed gets.told_is (subst (λ (o : Option L). Speaks told o (Some list) p.exchange.talk) was speaks)
          (subst (λ (n : ℕ). AreSmall n p.exchange.begun) (sym kept.most) p.small) more finished
          (subst (λ (n : ℕ). AreSentOnly n ((earlier ++ settled_in v) ++ carried_in v) (drop start list)) (sym kept.most)
          (are_sent_more (Some list) start old.window.most (earlier ++ carried_in old.window) _ [] (all_taken earlier (settled_in v) (carried_in old.window) [] (carried_in v) (carried_are old.window v kept none)) sent))

  -- bytes with a fault
  pub fault_goes : (at : ℕ) → old.window.acknowledged ≡ 0 → HearsOver told now old new (Some at) → Goes (λ start. StandsFor told start old s.outcomes) (λ start. MayEnd told start new s.outcomes) s s old new
  fault_goes at none x =
      let r = x.received in
      let h : Hears now (record old { link = Some r.later }) new x.bytes (Some at) = subst (λ (m : Working L). Hears now m new x.bytes (Some at)) r.is x.hears in
      let v = h.window in
      subst (λ (w : Working L). Goes (λ start. StandsFor told start old s.outcomes) (λ start. MayEnd told start w s.outcomes) s s old w) (sym h.is)
      (heard_goes (λ start. StandsFor told start old s.outcomes) (λ start. MayEnd told start (heard_as old r.later v (Some at) now) s.outcomes) s old r.link r.later v (Some at) now h.kept none r.was
      (λ start earlier p. fault_ends start s.outcomes at x.bytes r.link r.later v earlier none r.was r.cause h.kept h.failed h.fed p))
