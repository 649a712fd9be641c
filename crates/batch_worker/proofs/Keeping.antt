-- What the calls of a worker keep, one after another.
use Rattle.std.proofs.Common.{◌≡◌, ◌⊎◌, ℕ, All, Contains, List, [], ◌∷◌, ◌++◌, drop, Option, Some, None, IfSome, refl, sym, ap, subst, ◌∙◌, append_assoc, append-nil, arith, inl}
use Rattle.std.proofs.lemmas.List.{map-append}
use Rattle.std.proofs.lemmas.List.Elements.{All-contains_itself, All-weaker}
use Rattle.lumber_client.specs.Exchange.{Exchange, acknowledged_in, payloads_of}
use Rattle.lumber_client.specs.Standing.{StandsFor as WindowStandsFor}
use Rattle.mem_queue.specs.Entries.{parcels}
use Rattle.mem_queue.specs.Known.{Known, known}
use Rattle.mem_queue.specs.declared.entry.Entry.{Entry}
use Rattle.outside.specs.Talks.{Talk}
use Rattle.outside.specs.Wires.{Outcome, Refused, Finished}
use Rattle.settle_box.specs.Poster.{Poster, poster}
use Rattle.settle_box.specs.Senders.{sender}
use Rattle.wire_base.specs.declared.note.Note.{Note}
use Rattle.wire_base.specs.declared.parcel.Parcel.{Parcel}
use Rattle.wire_base.specs.declared.numbers.Moment.{Moment}
use Rattle.batch_worker.specs.Acknowledged.{AcknowledgeInAll}
use Rattle.batch_worker.specs.Held.{carried_in, note_of, notes_of, owed_by}
use Rattle.batch_worker.specs.Keeping.{FailsAt, Goes, Keeps, KeepsMoments, SameMoments, failures_since, one_failure_more, with_posted, with_taken}
use Rattle.batch_worker.specs.Seen.{Seen}
use Rattle.batch_worker.specs.Sent.{AreSentOnly, AreSmall, IsSentOnly}
use Rattle.batch_worker.specs.Standing.{Speaks, StandsFor}
use Rattle.batch_worker.specs.Working.{Working}

-- ---- lists

balanced : {A : Type 0} (x p q a b y z : List A) → x ++ p ≡ a ++ y → y ++ q ≡ b ++ z → x ++ (p ++ q) ≡ (a ++ b) ++ z
balanced x p q a b y z first then =
    sym (append_assoc x p q) ∙ ap (λ l. l ++ q) first ∙ append_assoc a y q ∙ ap (λ l. a ++ l) then ∙ sym (append_assoc a b z)

pub none_taken : (take : Option Known) → take ≡ with_taken take []
none_taken None = refl
none_taken (Some k) = ap (λ (entries : List Entry). Some (known k.queue k.share entries)) (sym (append-nil k.entries))

pub none_posted : (post : Option Poster) → post ≡ with_posted post []
none_posted None = refl
none_posted (Some p) = ap (λ (notes : List Note). Some (poster p.desk p.share (sender p.mine.name p.mine.made notes) p.joined)) (sym (append-nil p.mine.posted))

taken_on : (take : Option Known) (first then : List Entry) → with_taken (with_taken take first) then ≡ with_taken take (first ++ then)
taken_on None first then = refl
taken_on (Some k) first then = ap (λ (entries : List Entry). Some (known k.queue k.share entries)) (append_assoc k.entries first then)

posted_on : (post : Option Poster) (first then : List Note) → with_posted (with_posted post first) then ≡ with_posted post (first ++ then)
posted_on None first then = refl
posted_on (Some p) first then = ap (λ (notes : List Note). Some (poster p.desk p.share (sender p.mine.name p.mine.made notes) p.joined)) (append_assoc p.mine.posted first then)

since_on : (first then : List Parcel) (failures : ℕ) → failures_since then (failures_since first failures) ≡ failures_since (first ++ then) failures
since_on [] then failures = refl
since_on (parcel ∷ first) [] failures = refl
since_on (parcel ∷ first) (other ∷ then) failures = refl

-- ---- nothing happens, and one thing after the other

module _ {L : Type 0} where
  pub keeps_same : (P : ℕ → List Parcel → Type 0) (s : Seen) (w : Working L) → Keeps P P s s w w
  keeps_same P s w = record {
    taken = [];
    acknowledged = [];
    posted = [];
    host = refl;
    timeout = refl;
    most = refl;
    depth = refl;
    take = none_taken w.take;
    post = none_posted w.post;
    parcels_are = append-nil (carried_in w.window);
    notes_are = append-nil (owed_by w);
    stands = λ start earlier p. subst (P start) (sym (append-nil earlier)) p;
    open_links = λ others is few. is;
    faults = omega arith;
  }

  pub keeps_on : (P Q R : ℕ → List Parcel → Type 0) (a b c : Seen) (x y z : Working L) → Keeps P Q a b x y → Keeps Q R b c y z → Keeps P R a c x z
  keeps_on P Q R a b c x y z first then = record {
    taken = first.taken ++ then.taken;
    acknowledged = first.acknowledged ++ then.acknowledged;
    posted = first.posted ++ then.posted;
    host = then.host ∙ first.host;
    timeout = then.timeout ∙ first.timeout;
    most = then.most ∙ first.most;
    depth = then.depth ∙ first.depth;
    take = then.take ∙ ap (λ (k : Option Known). with_taken k then.taken) first.take ∙ taken_on x.take first.taken then.taken;
    post = then.post ∙ ap (λ (k : Option Poster). with_posted k then.posted) first.post ∙ posted_on x.post first.posted then.posted;
    parcels_are = ap (λ (l : List Parcel). carried_in x.window ++ l) (map-append (λ (e : Entry). e.parcel) first.taken then.taken)
        ∙ balanced (carried_in x.window) (parcels first.taken) (parcels then.taken) first.acknowledged then.acknowledged (carried_in y.window) (carried_in z.window) first.parcels_are then.parcels_are;
    notes_are = ap (λ (l : List Note). owed_by x ++ l) (map-append note_of first.acknowledged then.acknowledged)
        ∙ balanced (owed_by x) (notes_of first.acknowledged) (notes_of then.acknowledged) first.posted then.posted (owed_by y) (owed_by z) first.notes_are then.notes_are;
    stands = λ start earlier p. subst (R start) (append_assoc earlier first.acknowledged then.acknowledged) (then.stands start (earlier ++ first.acknowledged) (first.stands start earlier p));
    open_links = λ others is few. then.open_links others (first.open_links others is few) few;
    faults = omega (arith, first.faults, then.faults);
  }

  pub goes_nowhere : (P : ℕ → List Parcel → Type 0) (s : Seen) (w : Working L) → Goes P P s s w w
  unfolding keeps_same
  goes_nowhere P s w = record { keeps = keeps_same P s w; failures = refl; failed = refl }

  pub goes_on : (P Q R : ℕ → List Parcel → Type 0) (a b c : Seen) (x y z : Working L) → Goes P Q a b x y → Goes Q R b c y z → Goes P R a c x z
  unfolding keeps_on
  goes_on P Q R a b c x y z first then = record {
    keeps = keeps_on P Q R a b c x y z first.keeps then.keeps;
    failures = then.failures ∙ ap (failures_since then.keeps.acknowledged) first.failures ∙ since_on first.keeps.acknowledged then.keeps.acknowledged x.failures;
    failed = then.failed ∙ first.failed;
  }

  -- a failure after what came before it
  pub failing_on : (told : L → Option Talk) (Q : ℕ → List Parcel → Type 0) (before after : Seen) (old mid new : Working L) (now : Moment) → Goes (λ start. StandsFor told start old before.outcomes) Q before before old mid
      → (k : Keeps Q (λ start. StandsFor told start new after.outcomes) before after mid new) → k.acknowledged ≡ [] → new.failures ≡ one_failure_more mid.failures → new.failed ≡ now → new.link ≡ None → KeepsMoments now old new → FailsAt told before after old new now
  unfolding keeps_on
  failing_on told Q before after old mid new now g k nothing failures failed none moments = record {
    keeps = keeps_on (λ start. StandsFor told start old before.outcomes) Q (λ start. StandsFor told start new after.outcomes) before before after old mid new g.keeps k;
    failures = failures ∙ ap one_failure_more (g.failures ∙ ap (λ (l : List Parcel). failures_since l old.failures) (sym (append-nil g.keeps.acknowledged) ∙ ap (λ (l : List Parcel). g.keeps.acknowledged ++ l) (sym nothing)));
    failed = failed;
    unlinked = none;
    moments = moments;
  }

-- ---- moments

-- it was there before, or is now
abbrev pub WasOrIsNow : List Moment → Moment → Moment → Type 0
WasOrIsNow outs now out = Contains outs out ⊎ (out ≡ now)

pub all_were : (outs : List Moment) (now : Moment) → All (WasOrIsNow outs now) outs
all_were outs now = All-weaker (Contains outs) (WasOrIsNow outs now) (λ out was. inl was) outs (All-contains_itself outs)

module _ {L : Type 0} where
  pub same_keeps_moments : (now : Moment) (old new : Working L) → SameMoments old new → KeepsMoments now old new
  same_keeps_moments now old new same = record {
    outs = subst (All (WasOrIsNow old.outs now)) (sym same.outs) (all_were old.outs now);
    heard = inl same.heard;
  }

  pub moments_on : (a b c : Working L) → SameMoments a b → SameMoments b c → SameMoments a c
  moments_on a b c first then = record { outs = then.outs ∙ first.outs; heard = then.heard ∙ first.heard }

-- ---- what was sent as parcels that were taken stays so as more is taken

sends_more : (most : ℕ) (all more : List Parcel) (outcome : Outcome) → IsSentOnly most all outcome → IsSentOnly most (all ++ more) outcome
sends_more most all more Refused s = tt
sends_more most all more (Finished talk faults idles) s = record {
  windows = s.windows;
  each = s.each;
  small = s.small;
  before = s.before;
  behind = s.behind ++ more;
  are = ap (λ (l : List Parcel). l ++ more) s.are ∙ append_assoc _ s.behind more;
  left = s.left;
  sent = s.sent;
}

all_send_more : (most : ℕ) (all more : List Parcel) (outcomes : List Outcome) → AreSentOnly most all outcomes → AreSentOnly most (all ++ more) outcomes
all_send_more most all more [] s = tt
all_send_more most all more (outcome ∷ outcomes) s = (sends_more most all more outcome s.0, all_send_more most all more outcomes s.1)

pub are_sent_more : (outcomes : Option (List Outcome)) (start most : ℕ) (all now more : List Parcel) → now ≡ all ++ more → IfSome outcomes (λ list. AreSentOnly most all (drop start list)) → IfSome outcomes (λ list. AreSentOnly most now (drop start list))
are_sent_more None start most all now more is s = tt
are_sent_more (Some outcomes) start most all now more is s = subst (λ (l : List Parcel). AreSentOnly most l (drop start outcomes)) (sym is) (all_send_more most all more (drop start outcomes) s)

pub all_taken : (earlier acknowledged carried taken left : List Parcel) → carried ++ taken ≡ acknowledged ++ left → (earlier ++ acknowledged) ++ left ≡ (earlier ++ carried) ++ taken
all_taken earlier acknowledged carried taken left are =
    append_assoc earlier acknowledged left ∙ ap (λ (l : List Parcel). earlier ++ l) (sym are) ∙ sym (append_assoc earlier carried taken)

-- ---- a step over the same link

module _ {L : Type 0} (told : L → Option Talk) (old new : Working L) (outcomes : Option (List Outcome)) where
  pub stands_by : (start : ℕ) (earlier acknowledged taken : List Parcel) (s : StandsFor told start old outcomes earlier) (e : Exchange)
      → WindowStandsFor new.window e → Speaks told new.link outcomes e.talk → AreSmall old.window.most e.begun → e.earlier ≡ s.exchange.earlier
      → e.earlier ++ acknowledged_in e ≡ (s.exchange.earlier ++ acknowledged_in s.exchange) ++ acknowledged → new.window.most ≡ old.window.most
      → carried_in old.window ++ taken ≡ acknowledged ++ carried_in new.window → StandsFor told start new outcomes (earlier ++ acknowledged)
  stands_by start earlier acknowledged taken s e window speaks small same are most parcels_are = record {
    exchange = e;
    window = window;
    talk = speaks;
    small = subst (λ (n : ℕ). AreSmall n e.begun) (sym most) small;
    are = ap (λ (l : List Parcel). l ++ acknowledged) s.are ∙ sym are;
    reached = s.reached;
    finished = finished_still outcomes same s.finished;
    sent = subst (λ (n : ℕ). IfSome outcomes (λ list. AreSentOnly n ((earlier ++ acknowledged) ++ carried_in new.window) (drop start list))) (sym most)
        (are_sent_more outcomes start old.window.most (earlier ++ carried_in old.window) _ taken (all_taken earlier acknowledged (carried_in old.window) taken (carried_in new.window) parcels_are) s.sent);
  }
    where
      finished_still : (o : Option (List Outcome)) → e.earlier ≡ s.exchange.earlier → IfSome o (λ list. AcknowledgeInAll (drop start list) (payloads_of s.exchange.earlier)) → IfSome o (λ list. AcknowledgeInAll (drop start list) (payloads_of e.earlier))
      finished_still None is f = tt
      finished_still (Some list) is f = subst (λ (l : List Parcel). AcknowledgeInAll (drop start list) (payloads_of l)) (sym is) f
