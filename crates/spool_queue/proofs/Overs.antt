-- Windows that are sent and settled one behind the other, and the run over one link.
use Rattle.std.proofs.Common.{◌≡◌, ℕ, zero, suc, ◌+◌, ◌≤◌, List, [], ◌∷◌, ◌++◌, length, take, drop, Option, Some, None, Ok, Err, Result, refl, sym, ap, ◌∙◌, subst, arith}
use Rattle.std.proofs.lemmas.List.{map-append, take_all}
use Rattle.lumber_client.specs.Exchange.{Exchange, no_exchange, payloads_of, with_begun}
use Rattle.lumber_client.specs.Standing.{StandsFor}
use Rattle.lumber_frame.proofs.Settling.{nothing, settled_is}
use Rattle.lumber_client.specs.Held.{Held}
use Rattle.outside.specs.Talks.{Talk}
use Rattle.outside.specs.declared.disk.Disk.{Ghosts as DiskGhosts}
use Rattle.wire_base.specs.declared.parcel.Parcel.{Parcel}
use Rattle.spool_queue.specs.declared.spool.Spool.{Spool}
use Rattle.spool_queue.specs.declared.stop.Stop.{Stop}
use Rattle.spool_queue.specs.declared.walk.Walk.{Walk}
use Rattle.spool_queue.specs.Log.{Log, Empty}
use Rattle.spool_queue.specs.OnlyRead.{IsOnlyRead}
use Rattle.spool_queue.specs.SendSoFar.{GoesOut, HasPieces, IsDropped, IsFilledWith, SendsOver, Settles, SettlesWindow, TalkAcknowledges, Talks}
use Rattle.spool_queue.specs.Spool.{Reaches}
use Rattle.spool_queue.specs.Standing.{Holds, HoldsList, IsSpoolOf, KeepsPlaces}
use Rattle.spool_queue.specs.Walking.{IsWalkOf}
use Rattle.spool_queue.proofs.Crashes.{behind, weaker}
use Rattle.spool_queue.proofs.Puttings.{held_reads}
use Rattle.spool_queue.proofs.Settlings.{settles_both, takes_both}
use Rattle.spool_queue.proofs.Walks.{at_front}
use Rattle.spool_queue.proofs.Talkings.{all_handed, pieces_acknowledge}

takes_fewer : {A : Type 0} (m n : ℕ) (l : List A) → m ≤ n → take m (take n l) ≡ take m l
takes_fewer zero n l le = refl
takes_fewer (suc m) zero l le = absurd (omega (arith, le))
takes_fewer (suc m) (suc n) [] le = refl
takes_fewer (suc m) (suc n) (x ∷ l) le = ap (λ (r : List _). x ∷ r) (takes_fewer m n l (omega (arith, le)))

payloads_both : (one other : List Parcel) → payloads_of (one ++ other) ≡ payloads_of one ++ payloads_of other
payloads_both one other = map-append (λ (parcel : Parcel). parcel.payload) one other

payloads_taken : (n : ℕ) (l : List Parcel) → payloads_of (take n l) ≡ take n (payloads_of l)
payloads_taken zero l = refl
payloads_taken (suc n) [] = refl
payloads_taken (suc n) (x ∷ l) = ap (λ (r : List (List ℕ)). x.payload ∷ r) (payloads_taken n l)

module _ {D : Type 0} (d : DiskGhosts D) where
  -- a disk that was only read
  pub settles_then_reads : (old mid new : D) (was now : Spool) (n : ℕ) → Settles d old mid was now n n → IsOnlyRead d.contents d.images d.moment d.images_since d.faults mid new → Settles d old new was now n n
  settles_then_reads old mid new was now n one read = record {
    counted = one.counted;
    within = one.within;
    whole = λ same list holds. let H : Option (List ℕ) → Type 0 = λ o. HoldsList now (drop n list) o in subst H (sym read.contents_kept) (one.whole refl list holds);
    durable = λ same only image is. read.contents_kept ∙ one.durable refl only image (read.images_kept image is);
    still_open = one.still_open;
    crashes = λ only list holds. behind d.moment d.images_since old mid new (IsDropped n list) (one.crashes only list holds)
        (weaker d.moment d.images_since mid new (d.images mid) (IsDropped n list) read.each_moment
        (λ image is. (n, omega arith, held_reads now (drop n list) (d.contents mid) image (one.whole refl list holds) (one.durable refl only image is))));
    faults = omega (arith, one.faults, read.faults_kept);
  }

  -- so many payloads were acknowledged over a link and settled; the walk stands behind records
  pub record IsSentTo (old new : D) (was now : Spool) (window : Held) (began told : Option Talk) (walk : Walk) : Type 0 where
    pub done : ℕ
    pub settles : Settles d old new was now done done
    pub e : Exchange
    pub talks : Talks window began told e
    pub handed : (list : List (List ℕ)) → HoldsList was list (d.contents old) → payloads_of e.handed ≡ take done list
    pub walked : (list : List (List ℕ)) (bytes : List ℕ) → HoldsList was list (d.contents old) → d.contents new ≡ Some bytes → (log : Log) × IsWalkOf bytes walk log

  -- the run ends where nothing waits to be handed out
  pub over_ends : (old new : D) (was now : Spool) (window : Held) (began told : Option Talk) (walk : Walk) (answer : Result Unit Stop) → IsSentTo old new was now window began told walk → window.acknowledged ≡ 0 → SendsOver d old new was now began told answer
  over_ends old new was now window began told walk answer is none = record {
    done = is.done;
    tried = is.done;
    settles = is.settles;
    exact = λ not. refl;
    acknowledged = λ list holds. let A : List (List ℕ) → Type 0 = λ l. TalkAcknowledges began told l in
        subst A (is.handed list holds) (pieces_acknowledge began told is.e.talk (payloads_of is.e.handed) is.talks.pieces (all_handed window is.e is.talks.stands is.talks.first none));
  }

  -- and where the window could not be filled
  pub over_unfilled : (old mid new : D) (was now : Spool) (window : Held) (began told : Option Talk) (walk : Walk) (stops : Stop) → IsSentTo old mid was now window began told walk → window.acknowledged ≡ 0 → IsOnlyRead d.contents d.images d.moment d.images_since d.faults mid new
      → SendsOver d old new was now began told (Err stops)
  over_unfilled old mid new was now window began told walk stops is none read = record {
    done = is.done;
    tried = is.done;
    settles = settles_then_reads old mid new was now is.done is.settles read;
    exact = λ not. refl;
    acknowledged = λ list holds. let A : List (List ℕ) → Type 0 = λ l. TalkAcknowledges began told l in
        subst A (is.handed list holds) (pieces_acknowledge began told is.e.talk (payloads_of is.e.handed) is.talks.pieces (all_handed window is.e is.talks.stands is.talks.first none));
  }

  -- a window was filled and sent
  pub record IsOut (old new : D) (was now : Spool) (window : Held) (began told : Option Talk) (walk : Walk) : Type 0 where
    pub done : ℕ
    pub settles : Settles d old new was now done done
    pub e : Exchange
    pub talks : Talks window began told e
    pub handed : (list : List (List ℕ)) → HoldsList was list (d.contents old) → payloads_of e.handed ≡ take done list
    pub first : (list : List (List ℕ)) → HoldsList was list (d.contents old) → payloads_of window.parcels ≡ take (length window.parcels) (drop done list)
    pub walked : (list : List (List ℕ)) (bytes : List ℕ) → HoldsList was list (d.contents old) → d.contents new ≡ Some bytes → (log : Log) × IsWalkOf bytes walk log

  filled : (old mid : D) (was now : Spool) (n : ℕ) (window : Held) (walk later : Walk) (P : List (List ℕ) → List ℕ → Type 0) → Settles d old mid was now n n
      → ((list : List (List ℕ)) (bytes : List ℕ) → HoldsList was list (d.contents old) → d.contents mid ≡ Some bytes → (log : Log) × IsWalkOf bytes walk log)
      → ((bytes : List ℕ) (list : List (List ℕ)) (log : Log) → d.contents mid ≡ Some bytes → IsSpoolOf now bytes list → IsWalkOf bytes walk log → IsFilledWith bytes list window later)
      → ((list : List (List ℕ)) (bytes : List ℕ) → IsFilledWith bytes (drop n list) window later → P list bytes)
      → (contents : Option (List ℕ)) → d.contents mid ≡ contents → (list : List (List ℕ)) → HoldsList was list (d.contents old) → Holds (P list) contents
  filled old mid was now n window walk later P settles walked fills holds None told list held =
      let H : Option (List ℕ) → Type 0 = λ o. HoldsList now (drop n list) o in absurd (subst H told (settles.whole refl list held))
  filled old mid was now n window walk later P settles walked fills holds (Some bytes) told list held =
      let H : Option (List ℕ) → Type 0 = λ o. HoldsList now (drop n list) o in
      let at = walked list bytes held told in
      holds list bytes (fills bytes (drop n list) at.0 told (subst H told (settles.whole refl list held)) at.1)

  first_held : {P : Type 0} (contents : Option (List ℕ)) → Holds (λ bytes. P) contents → P
  first_held None holds = absurd holds
  first_held (Some bytes) holds = holds

  -- the window that was filled
  pub fills : (old mid new : D) (was now : Spool) (before window : Held) (began told : Option Talk) (walk later : Walk) → IsSentTo old mid was now before began told walk → IsOnlyRead d.contents d.images d.moment d.images_since d.faults mid new
      → ((began told : Option Talk) (e : Exchange) → Talks before began told e → Talks window began told (with_begun e window.parcels))
      → ((bytes : List ℕ) (list : List (List ℕ)) (log : Log) → d.contents mid ≡ Some bytes → IsSpoolOf now bytes list → IsWalkOf bytes walk log → IsFilledWith bytes list window later)
      → IsOut old new was now window began told later
  fills old mid new was now before window began told walk later is read talks fill = record {
    done = is.done;
    settles = settles_then_reads old mid new was now is.done is.settles read;
    e = with_begun is.e window.parcels;
    talks = talks began told is.e is.talks;
    handed = is.handed;
    first = λ list held. first_held (d.contents mid) (filled old mid was now is.done window walk later (λ list bytes. payloads_of window.parcels ≡ take (length window.parcels) (drop is.done list)) is.settles is.walked fill (λ list bytes f. f.first) (d.contents mid) refl list held);
    walked = λ list bytes held told.
        let H : Option (List ℕ) → Type 0 = λ o. Holds (λ bytes. (log : Log) × IsWalkOf bytes later log) o in
        subst H (sym read.contents_kept ∙ told) (filled old mid was now is.done window walk later (λ list bytes. (log : Log) × IsWalkOf bytes later log) is.settles is.walked fill (λ list bytes f. (f.log, f.walked)) (d.contents mid) refl list held);
  }

  -- it went out, or a part of it
  pub sends : (old new : D) (was now : Spool) (before after : Held) (began told later : Option Talk) (walk : Walk) → IsOut old new was now before began told walk → after.parcels ≡ before.parcels → ((e : Exchange) → Talks before began told e → GoesOut after began later e) → IsOut old new was now after began later walk
  sends old new was now before after began told later walk is same out =
      let next = out is.e is.talks in
      record {
        done = is.done;
        settles = is.settles;
        e = next.next;
        talks = next.talks;
        handed = λ list held. ap payloads_of next.handed ∙ is.handed list held;
        first = λ list held. let F : List Parcel → Type 0 = λ l. payloads_of l ≡ take (length l) (drop is.done list) in subst F (sym same) (is.first list held);
        walked = is.walked;
      }

  pub out_ends : (old new : D) (was now : Spool) (window : Held) (began told : Option Talk) (walk : Walk) (stops : Stop) → IsOut old new was now window began told walk → window.acknowledged ≡ 0 → SendsOver d old new was now began told (Err stops)
  out_ends old new was now window began told walk stops is none = record {
    done = is.done;
    tried = is.done;
    settles = is.settles;
    exact = λ not. refl;
    acknowledged = λ list holds. let A : List (List ℕ) → Type 0 = λ l. TalkAcknowledges began told l in
        subst A (is.handed list holds) (pieces_acknowledge began told is.e.talk (payloads_of is.e.handed) is.talks.pieces (all_handed window is.e is.talks.stands is.talks.first none));
  }

  -- what was handed out of the window, among the payloads
  in_order : (handed parcels : List Parcel) (list : List (List ℕ)) (n m : ℕ) → payloads_of handed ≡ take n list → payloads_of parcels ≡ take (length parcels) (drop n list) → m ≤ length parcels → payloads_of (handed ++ take m parcels) ≡ take (n + m) list
  in_order handed parcels list n m first then few =
      payloads_both handed (take m parcels)
      ∙ ap (λ (l : List (List ℕ)). l ++ payloads_of (take m parcels)) first
      ∙ ap (λ (l : List (List ℕ)). take n list ++ l) (payloads_taken m parcels ∙ ap (take m) then ∙ takes_fewer m (length parcels) (drop n list) few)
      ∙ sym (takes_both n m list)

  -- the window was settled in part, and that was the end
  pub window_ends : (old mid new : D) (was middle now : Spool) (before after : Held) (began told later : Option Talk) (walk : Walk) (stops : Stop) → IsOut old mid was middle before began told walk → SettlesWindow d mid new middle now before after told later (Err stops)
      → SendsOver d old new was now began later (Err stops)
  window_ends old mid new was middle now before after began told later walk stops is settled = record {
    done = is.done + settled.done;
    tried = is.done + settled.tried;
    settles = settles_both d old mid new was middle now is.done settled.done settled.tried is.settles settled.settles;
    exact = λ not. ap (λ (n : ℕ). is.done + n) (settled.exact not);
    acknowledged = λ list holds. let A : List (List ℕ) → Type 0 = λ l. TalkAcknowledges began later l in
        subst A (in_order is.e.handed before.parcels list is.done settled.tried (is.handed list holds) (is.first list holds) settled.few) (settled.ends began is.e is.talks);
  }

  walk_stays : (middle : Spool) (walk : Walk) (log : Log) (bytes : List ℕ) (now : Option (List ℕ)) (list : List (List ℕ)) (before : Option (List ℕ)) → KeepsPlaces middle before now → before ≡ Some bytes → IsSpoolOf middle bytes list → IsWalkOf bytes walk log → (later : List ℕ) → now ≡ Some later → IsWalkOf later walk log
  walk_stays middle walk log bytes now list before keeps told is walked later same =
      let H : Option (List ℕ) → Type 0 = λ o. Holds (λ now. Reaches now log walk.place (drop walk.place now)) o in
      record {
        reaches = subst H same (keeps bytes list log walk.place told is walked.reaches (omega (arith, walked.events, walk.counted, walk.in_range)));
        events = walked.events;
        settlements = walked.settlements;
      }

  -- the window was settled whole
  pub goes_on : (old mid new : D) (was middle now : Spool) (before after : Held) (began told later : Option Talk) (walk : Walk) → IsOut old mid was middle before began told walk → SettlesWindow d mid new middle now before after told later (Ok tt) → IsSentTo old new was now after began later walk
  goes_on old mid new was middle now before after began told later walk is settled =
      let exact : settled.tried ≡ settled.done = settled.exact (λ same. absurd cc) in
      let S : ℕ → Type 0 = λ t. Settles d mid new middle now settled.done t in
      let whole : Settles d mid new middle now settled.done settled.done = subst S exact settled.settles in
      let next = settled.goes_on began is.e is.talks in
      record {
        done = is.done + settled.done;
        settles = settles_both d old mid new was middle now is.done settled.done settled.done is.settles whole;
        e = next.0;
        talks = next.1;
        handed = λ list held.
            let all : before.parcels ≡ take settled.done before.parcels = sym (take_all settled.done before.parcels (omega (arith, settled.all))) in
            ap payloads_of (next.2 ∙ ap (λ (l : List Parcel). is.e.handed ++ l) all) ∙ in_order is.e.handed before.parcels list is.done settled.done (is.handed list held) (is.first list held) (omega (arith, settled.all));
        walked = λ list bytes held told. walked_on (d.contents mid) refl list bytes held told;
      }
    where
      walked_on : (contents : Option (List ℕ)) → d.contents mid ≡ contents → (list : List (List ℕ)) (bytes : List ℕ) → HoldsList was list (d.contents old) → d.contents new ≡ Some bytes → (log : Log) × IsWalkOf bytes walk log
      walked_on None told list bytes held same = let H : Option (List ℕ) → Type 0 = λ o. HoldsList middle (drop is.done list) o in absurd (subst H told (is.settles.whole refl list held))
      walked_on (Some before) told list bytes held same =
          let H : Option (List ℕ) → Type 0 = λ o. HoldsList middle (drop is.done list) o in
          let at = is.walked list before held told in
          (at.0, walk_stays middle walk at.0 before (d.contents new) (drop is.done list) (d.contents mid) settled.places told (subst H told (is.settles.whole refl list held)) at.1 bytes same)

  -- nothing was sent yet
  pub none_sent : (disk : D) (spool : Spool) (window : Held) (told : Option Talk) (walk : Walk) → Settles d disk disk spool spool 0 0 → StandsFor window no_exchange → HasPieces told told [] → walk.place ≡ 0 → walk.events ≡ 0 → walk.settled ≡ 0 → IsSentTo disk disk spool spool window told told walk
  none_sent disk spool window told walk settles stands fresh place events settlements = record {
    done = 0;
    settles = settles;
    e = no_exchange;
    talks = record { stands = stands; pieces = fresh; first = refl };
    handed = λ list held. refl;
    walked = λ list bytes held same. (Empty, at_front bytes walk place events settlements);
  }

  pub over_nothing : (disk : D) (spool : Spool) (told : Option Talk) (stops : Stop) → Settles d disk disk spool spool 0 0 → HasPieces told told [] → SendsOver d disk disk spool spool told told (Err stops)
  over_nothing disk spool told stops settles fresh = record {
    done = 0;
    tried = 0;
    settles = settles;
    exact = λ not. refl;
    acknowledged = λ list holds. pieces_acknowledge told told [] [] fresh (settled_is [] [] nothing);
  }

  -- nothing of the spool is bad where the window is filled
  pub filled_well : (old mid : D) (was now : Spool) (window : Held) (began told : Option Talk) (walk : Walk) (Is : Type 0) → IsSentTo old mid was now window began told walk → ((bytes : List ℕ) (list : List (List ℕ)) (log : Log) → d.contents mid ≡ Some bytes → IsSpoolOf now bytes list → IsWalkOf bytes walk log → Is → ⊥)
      → (list : List (List ℕ)) → HoldsList was list (d.contents old) → Is → ⊥
  filled_well old mid was now window began told walk Is sent never list held is = by_contents (d.contents mid) refl
    where
      by_contents : (contents : Option (List ℕ)) → d.contents mid ≡ contents → ⊥
      by_contents None same = let H : Option (List ℕ) → Type 0 = λ o. HoldsList now (drop sent.done list) o in absurd (subst H same (sent.settles.whole refl list held))
      by_contents (Some bytes) same =
          let H : Option (List ℕ) → Type 0 = λ o. HoldsList now (drop sent.done list) o in
          let at = sent.walked list bytes held same in
          never bytes (drop sent.done list) at.0 same (subst H same (sent.settles.whole refl list held)) at.1 is
