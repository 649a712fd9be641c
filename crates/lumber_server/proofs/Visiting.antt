-- One link of a run after the other.
use Rattle.std.proofs.Common.{◌≡◌, ◌≢◌, inl, inr, ℕ, zero, suc, ◌+◌, ◌-◌, ◌≤◌, Bool, false, List, [], ◌∷◌, ◌++◌, length, map, Option, Some, None, Result, Ok, Err, take, refl, sym, ◌∙◌, ap, subst, append_assoc, arith}
use Rattle.std.proofs.lemmas.List.{append-nil, length-append, map-append}
use Rattle.std.proofs.lemmas.Grind.{flat_map-append}
use Rattle.std.specs.List.{AllByRecursion, flat_map}
use Rattle.outside.specs.Counts.{IsAtEnd, Rose}
use Rattle.outside.specs.Streams.{WritesOn}
use Rattle.outside.specs.declared.failed.Failed.{Failed}
use Rattle.outside.specs.Talks.{Talk}
use Rattle.wire_base.specs.declared.talk.Piece.{Piece}
use Rattle.lumber_answers.specs.Changes.{SinkTakes, TalkGoesOn}
use Rattle.lumber_server.specs.Ports.{Finished, TellsFinishing}
use Rattle.lumber_server.specs.Run.{AreEarlierEnded, IsEndCaused, IsOneLinksEnd, IsServedWell, PortFinishes, Receives, RunCall, ServedLink, ServesLinks, questions_for}
use Rattle.lumber_server.specs.Serving.{ServeCall, Serves}
use Rattle.lumber_server.specs.Visits.{EndsRun, LinkBegins, ServesOne}
use Rattle.lumber_server.specs.Words.{Asked, IsAskedOf}
use Rattle.lumber_server.specs.declared.served.Served.{Served}
use Rattle.lumber_server.specs.declared.status.SinkStatus.{SinkStatus}
use Rattle.lumber_server.specs.declared.status.SinkStatus.TheVariants.{Done, Usage}
use Rattle.lumber_answers.proofs.Sending.{takes_front, takes_none, takes_nothing, takes_then}

-- a count that rose from none
pub rose_from_none : (before now : ℕ) → before ≡ 0 → Rose before now → Rose 0 now
rose_from_none before now none rose = subst (λ (n : ℕ). Rose n now) none rose

pub each_behind : (P : ServedLink → Type 0) (a b : List ServedLink) → AllByRecursion P a → AllByRecursion P b → AllByRecursion P (a ++ b)
each_behind P [] b first second = second
each_behind P (link ∷ a) b first second = (first.0, each_behind P a b first.1 second)

front_each : (P : ServedLink → Type 0) (a b : List ServedLink) → AllByRecursion P (a ++ b) → AllByRecursion P a
front_each P [] b all = tt
front_each P (link ∷ a) b all = (all.0, front_each P a b all.1)

behind_each : (P : ServedLink → Type 0) (a b : List ServedLink) → AllByRecursion P (a ++ b) → AllByRecursion P b
behind_each P [] b all = all
behind_each P (link ∷ a) b all = behind_each P a b all.1

questions_append : (a b : List ServedLink) → questions_for (a ++ b) ≡ questions_for a + questions_for b
questions_append [] b = omega arith
questions_append (link ∷ a) b = omega (arith, questions_append a b)

finishes_none : (finished : Option (List Finished)) → PortFinishes finished [] finished
finishes_none None = refl
finishes_none (Some list) = ap (λ (l : List Finished). Some l) (sym (append-nil list))

finishes_then : (before mid after : Option (List Finished)) (a b : List ServedLink) → PortFinishes before a mid → PortFinishes mid b after → PortFinishes before (a ++ b) after
finishes_then None mid after a b first second =
    let P : Option (List Finished) → Type 0 = λ o. PortFinishes o b after in
    subst P first second
finishes_then (Some list) mid after a b first second =
    let P : Option (List Finished) → Type 0 = λ o. PortFinishes o b after in
    subst P first second ∙ ap (λ (l : List Finished). Some l)
    (append_assoc list (map (λ link. link.finished) a) (map (λ link. link.finished) b) ∙ ap (λ (l : List Finished). list ++ l) (sym (map-append (λ link. link.finished) a b)))

-- the link that was served is finished
one_finished : (finished after : Option (List Finished)) (begun ended : Option Talk) (pieces : List Piece) (faults idles failed_sends : ℕ) (bytes : List ℕ) (served : Served) → LinkBegins finished begun →
    TalkGoesOn begun pieces ended → TellsFinishing finished ended faults idles failed_sends after →
    (idled : Bool) × PortFinishes finished (record { finished = record { talk = record { pieces = pieces; idled = idled }; faults = faults; idles = idles; failed_sends = failed_sends }; bytes = bytes; served = served } ∷ []) after
one_finished None after begun ended pieces faults idles failed_sends bytes served begins goes tells = (false, tells)
one_finished (Some list) after begun ended pieces faults idles failed_sends bytes served begins goes tells =
    let P : Option Talk → Type 0 = λ o. TalkGoesOn o pieces ended in
    let talk = subst P begins goes in
    let Q : Option Talk → Type 0 = λ o. TellsFinishing (Some list) o faults idles failed_sends after in
    (talk.0, subst Q talk.1 tells)

-- a run's call, of what it changes
abbrev pub run_call : Option (List Finished) → Option (List Finished) → Option (List ℕ) → Option (List ℕ) → ℕ → ℕ → ℕ → ℕ → RunCall
run_call finished finished_after written written_after questions questions_after idles idles_after = record {
  finished_before = finished;
  finished_after = finished_after;
  written_before = written;
  written_after = written_after;
  questions_before = questions;
  questions_after = questions_after;
  idles_before = idles;
  idles_after = idles_after;
}

-- no link came
pub no_link : (finished after : Option (List Finished)) (written : Option (List ℕ)) (questions questions_after idles idles_after : ℕ) (status : SinkStatus) → after ≡ finished →
    ((IsAtEnd idles_after → ⊥) → questions_after ≤ questions + ((idles_after - idles) + 1)) → status ≢ Done → status ≢ Usage →
    EndsRun (run_call finished after written written questions questions_after idles idles_after) status
no_link finished after written questions questions_after idles idles_after status same asked not_done not_usage =
    let P : Option (List Finished) → Type 0 = λ o. PortFinishes finished [] o in
    record {
      links = [];
      serves = record {
        each = tt;
        finished = subst P (sym same) (finishes_none finished);
        written = takes_nothing written;
        questions = λ not_end all. omega (arith, asked not_end);
      };
      earlier = tt;
      not_done = not_done;
      not_usage = not_usage;
    }

-- a link was accepted, served and finished
pub one_link : (finished mid after : Option (List Finished)) (call : ServeCall) (served : Served) (questions idles idles_after faults failed_sends : ℕ) → LinkBegins finished call.talk_before → mid ≡ finished →
    ((IsAtEnd idles_after → ⊥) → call.questions_before ≤ questions + ((idles_after - idles) + 1)) → call.idles_before ≡ 0 → Serves call served →
    TellsFinishing mid call.talk_after faults call.idles_after failed_sends after → IsEndCaused faults failed_sends served →
    (link : ServedLink) × (ServesLinks 0 (run_call finished after call.written_before call.written_after questions call.questions_after idles idles_after) (link ∷ []) × (link.served ≡ served))
one_link finished mid after call served questions idles idles_after faults failed_sends begins same asked unused serves tells caused =
    let P : Option (List Finished) → Type 0 = λ o. TellsFinishing o call.talk_after faults call.idles_after failed_sends after in
    let done = one_finished finished after call.talk_before call.talk_after serves.pieces faults call.idles_after failed_sends serves.bytes served begins serves.talk (subst P same tells) in
    let Q : List ℕ → Type 0 = λ l. SinkTakes call.written_before l call.written_after in (
      record { finished = record { talk = record { pieces = serves.pieces; idled = done.0 }; faults = faults; idles = call.idles_after; failed_sends = failed_sends }; bytes = serves.bytes; served = served },
      (
        record {
          each = (record { keeps = serves.keeps; whole = serves.whole; stop = serves.stop; caused = caused }, tt);
          finished = done.1;
          written = subst Q (sym (append-nil serves.bytes)) serves.written;
          questions = λ not_end all. omega (arith, asked not_end, serves.questions all.0, unused);
        },
        refl,
      ),
    )

pub serves_one : (call : RunCall) (served : Served) → (one : (link : ServedLink) × (ServesLinks 0 call (link ∷ []) × (link.served ≡ served))) → IsOneLinksEnd served → ServesOne call
serves_one call served one end =
    let P : Served → Type 0 = λ s. IsOneLinksEnd s in
    record { link = one.0; serves = one.1.0; end = subst P (sym one.1.1) end }

pub within_one : (call : RunCall) (links : List ServedLink) → ServesLinks 0 call links → ServesLinks 1 call links
within_one call links serves = record {
  each = serves.each;
  finished = serves.finished;
  written = serves.written;
  questions = λ not_end all. omega (arith, serves.questions not_end all);
}

pub ends_run : (call : RunCall) (served : Served) (status : SinkStatus) → (one : (link : ServedLink) × (ServesLinks 0 call (link ∷ []) × (link.served ≡ served))) → status ≢ Done → status ≢ Usage → EndsRun call status
ends_run call served status one not_done not_usage = record { links = one.0 ∷ []; serves = within_one call (one.0 ∷ []) one.1.0; earlier = tt; not_done = not_done; not_usage = not_usage }

-- the port's counts are kept as it finishes a link
idles_kept : (f a : Option (List Finished)) (w v : Option (List ℕ)) (p q i j k : ℕ) (links : List ServedLink) → k ≡ j → ServesLinks 0 (run_call f a w v p q i j) links → ServesLinks 0 (run_call f a w v p q i k) links
idles_kept f a w v p q i j k links same serves =
    let P : ℕ → Type 0 = λ n. ServesLinks 0 (run_call f a w v p q i n) links in
    subst P (sym same) serves

finished_one : (finished mid after : Option (List Finished)) (call : ServeCall) (served : Served) (questions idles idles_mid idles_after faults failed_sends : ℕ) → LinkBegins finished call.talk_before → mid ≡ finished →
    ((IsAtEnd idles_mid → ⊥) → call.questions_before ≤ questions + ((idles_mid - idles) + 1)) → call.idles_before ≡ 0 → Serves call served →
    TellsFinishing mid call.talk_after faults call.idles_after failed_sends after → IsEndCaused faults failed_sends served → idles_after ≡ idles_mid →
    (link : ServedLink) × (ServesLinks 0 (run_call finished after call.written_before call.written_after questions call.questions_after idles idles_after) (link ∷ []) × (link.served ≡ served))
finished_one finished mid after call served questions idles idles_mid idles_after faults failed_sends begins same asked unused serves tells caused kept =
    let one = one_link finished mid after call served questions idles idles_mid faults failed_sends begins same asked unused serves tells caused in
    (one.0, (idles_kept finished after call.written_before call.written_after questions call.questions_after idles idles_mid idles_after (one.0 ∷ []) kept one.1.0, one.1.1))

pub serves_next_one : (finished mid after : Option (List Finished)) (call : ServeCall) (served : Served) (questions idles idles_mid idles_after faults failed_sends : ℕ) → LinkBegins finished call.talk_before → mid ≡ finished →
    ((IsAtEnd idles_mid → ⊥) → call.questions_before ≤ questions + ((idles_mid - idles) + 1)) → call.idles_before ≡ 0 → Serves call served →
    TellsFinishing mid call.talk_after faults call.idles_after failed_sends after → IsEndCaused faults failed_sends served → idles_after ≡ idles_mid → IsOneLinksEnd served →
    ServesOne (run_call finished after call.written_before call.written_after questions call.questions_after idles idles_after)
serves_next_one finished mid after call served questions idles idles_mid idles_after faults failed_sends begins same asked unused serves tells caused kept end =
    serves_one (run_call finished after call.written_before call.written_after questions call.questions_after idles idles_after) served
    (finished_one finished mid after call served questions idles idles_mid idles_after faults failed_sends begins same asked unused serves tells caused kept) end

pub serves_next_end : (finished mid after : Option (List Finished)) (call : ServeCall) (served : Served) (status : SinkStatus) (questions idles idles_mid idles_after faults failed_sends : ℕ) → LinkBegins finished call.talk_before → mid ≡ finished →
    ((IsAtEnd idles_mid → ⊥) → call.questions_before ≤ questions + ((idles_mid - idles) + 1)) → call.idles_before ≡ 0 → Serves call served →
    TellsFinishing mid call.talk_after faults call.idles_after failed_sends after → IsEndCaused faults failed_sends served → idles_after ≡ idles_mid → status ≢ Done → status ≢ Usage →
    EndsRun (run_call finished after call.written_before call.written_after questions call.questions_after idles idles_after) status
serves_next_end finished mid after call served status questions idles idles_mid idles_after faults failed_sends begins same asked unused serves tells caused kept not_done not_usage =
    ends_run (run_call finished after call.written_before call.written_after questions call.questions_after idles idles_after) served status
    (finished_one finished mid after call served questions idles idles_mid idles_after faults failed_sends begins same asked unused serves tells caused kept) not_done not_usage

-- ---- one behind the other

pub links_then : (more : ℕ) (f m a : Option (List Finished)) (w v x : Option (List ℕ)) (p q r i j k : ℕ) (first second : List ServedLink) → i ≤ j → j ≤ k → ServesLinks 0 (run_call f m w v p q i j) first →
    ServesLinks more (run_call m a v x q r j k) second → ServesLinks more (run_call f a w x p r i k) (first ++ second)
links_then more f m a w v x p q r i j k first second i_le j_le one two =
    let P : List ℕ → Type 0 = λ l. SinkTakes w l x in
    record {
      each = each_behind IsServedWell first second one.each two.each;
      finished = finishes_then f m a first second one.finished two.finished;
      written = subst P (sym (flat_map-append (λ link. link.bytes) first second)) (takes_then w v x (flat_map (λ link. link.bytes) first) (flat_map (λ link. link.bytes) second) one.written two.written);
      questions = λ not_end all. count not_end
          (one.questions (λ end. not_end (omega arith)) (front_each (λ link. IsAtEnd link.finished.idles → ⊥) first second all))
          (two.questions not_end (behind_each (λ link. IsAtEnd link.finished.idles → ⊥) first second all));
    }
  where
    count : (IsAtEnd k → ⊥) → q ≤ p + ((j - i) + 0 + questions_for first) → r ≤ q + ((k - j) + more + questions_for second) → r ≤ p + ((k - i) + more + questions_for (first ++ second))
    count not_end before behind = omega (arith, questions_append first second)

-- so many links were served to their own ends
pub record ServedLinks (call : RunCall) (count : ℕ) : Type 0 where
  pub links : List ServedLink
  pub serves : ServesLinks 0 call links
  pub counted : length links ≡ count
  pub ends : AllByRecursion (λ link. IsOneLinksEnd link.served) links
  pub rose : call.idles_before ≤ call.idles_after

pub none_served : (f : Option (List Finished)) (w v : Option (List ℕ)) (p i : ℕ) → SinkTakes w [] v → ServedLinks (run_call f f w v p p i i) 0
none_served f w v p i takes = record {
  links = [];
  serves = record { each = tt; finished = finishes_none f; written = takes; questions = λ not_end all. omega arith };
  counted = refl;
  ends = tt;
  rose = omega arith;
}

pub one_more_served : (f m a : Option (List Finished)) (w v x : Option (List ℕ)) (p q r i j k count : ℕ) → j ≤ k → ServedLinks (run_call f m w v p q i j) count → ServesOne (run_call m a v x q r j k) →
    ServedLinks (run_call f a w x p r i k) (count + 1)
one_more_served f m a w v x p q r i j k count j_le so_far one = record {
  links = so_far.links ++ one.link ∷ [];
  serves = links_then 0 f m a w v x p q r i j k so_far.links (one.link ∷ []) so_far.rose j_le so_far.serves one.serves;
  counted = length-append so_far.links (one.link ∷ []) ∙ ap (λ (n : ℕ). n + 1) so_far.counted;
  ends = each_behind (λ link. IsOneLinksEnd link.served) so_far.links (one.link ∷ []) so_far.ends (one.end, tt);
  rose = omega (arith, so_far.rose);
}

before_one : (link : ServedLink) (links : List ServedLink) → IsOneLinksEnd link.served → AreEarlierEnded links → AreEarlierEnded (link ∷ links)
before_one link [] end earlier = tt
before_one link (next ∷ links) end earlier = (end, earlier)

earlier_behind : (a b : List ServedLink) → AllByRecursion (λ link. IsOneLinksEnd link.served) a → AreEarlierEnded b → AreEarlierEnded (a ++ b)
earlier_behind [] b ends earlier = earlier
earlier_behind (link ∷ a) b ends earlier = before_one link (a ++ b) ends.0 (earlier_behind a b ends.1 earlier)

earlier_all : (links : List ServedLink) → AllByRecursion (λ link. IsOneLinksEnd link.served) links → AreEarlierEnded links
earlier_all [] ends = tt
earlier_all (link ∷ links) ends = before_one link links ends.0 (earlier_all links ends.1)

pub run_ends : (words : List (List ℕ)) (f m a : Option (List Finished)) (w v x : Option (List ℕ)) (p q r i j k count : ℕ) (status : SinkStatus) → j ≤ k → ServedLinks (run_call f m w v p q i j) count →
    EndsRun (run_call m a v x q r j k) status → Receives (run_call f a w x p r i k) words status
run_ends words f m a w v x p q r i j k count status j_le so_far ends = record {
  links = so_far.links ++ ends.links;
  serves = links_then 1 f m a w v x p q r i j k so_far.links ends.links so_far.rose j_le so_far.serves ends.serves;
  earlier = earlier_behind so_far.links ends.links so_far.ends ends.earlier;
  done = λ is. absurd (ends.not_done is);
}

pub run_is_done : (words : List (List ℕ)) (call : RunCall) (asked : Asked) (count : ℕ) (status : SinkStatus) → IsAskedOf words (Some asked) → count ≡ asked.links → ServedLinks call count → Receives call words status
run_is_done words call asked count status is all so_far = record {
  links = so_far.links;
  serves = within_one call so_far.links so_far.serves;
  earlier = earlier_all so_far.links so_far.ends;
  done = λ _. record { asked = asked; is = is; count = so_far.counted ∙ all; ends = so_far.ends };
}

-- no link was served
pub run_without : (words : List (List ℕ)) (f : Option (List Finished)) (w v : Option (List ℕ)) (p i : ℕ) (status : SinkStatus) → SinkTakes w [] v → status ≢ Done → Receives (run_call f f w v p p i i) words status
unfolding none_served
run_without words f w v p i status takes not_done =
    let none = none_served f w v p i takes in
    record { links = []; serves = within_one (run_call f f w v p p i i) [] none.serves; earlier = tt; done = λ is. absurd (not_done is) }

pub rose_from : (a b c : ℕ) → a ≤ b → Rose b c → Rose a c
rose_from a b c le (inl less) = inl (omega arith)
rose_from a b c le (inr end) = inr end

none_of : (n : ℕ) → take {A = ℕ} n [] ≡ []
none_of zero = refl
none_of (suc n) = refl

-- an empty piece is written, or its writing failed: the sink holds what it held
pub nothing_taken : (before after : Option (List ℕ)) (result : Result ℕ Failed) → WritesOn before [] result after → SinkTakes before [] after
nothing_taken before after (Ok count) writes =
    let P : List ℕ → Type 0 = λ l. SinkTakes before l after in
    subst P (none_of count) (takes_front before after [] count writes)
nothing_taken before after (Err failed) writes =
    let P : Option (List ℕ) → Type 0 = λ o. SinkTakes before [] o in
    subst P (sym (takes_none before after [] failed writes)) (takes_nothing before)
