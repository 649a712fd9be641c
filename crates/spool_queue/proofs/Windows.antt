-- A window that is settled piece by piece of what its peer gave.
use Rattle.std.proofs.Common.{◌≡◌, ℕ, ◌+◌, ◌<◌, ◌≤◌, Bool, true, false, List, [], ◌∷◌, ◌++◌, length, take, drop, Option, Ok, Err, refl, sym, ap, ◌∙◌, subst, append_assoc, append-nil, arith, length-drop}
use Rattle.std.proofs.lemmas.List.{drop-drop}
use Rattle.lumber_client.specs.Exchange.{Exchange, payloads_of, with_talk}
use Rattle.lumber_client.specs.Held.{Held}
use Rattle.lumber_client.specs.Newly.{KeepsParcels}
use Rattle.lumber_client.specs.Standing.{StandsFor}
use Rattle.lumber_frame.specs.Acknowledged.{Acknowledges}
use Rattle.outside.specs.Talks.{Talk, TellsReceiving}
use Rattle.outside.specs.declared.disk.Disk.{Ghosts as DiskGhosts}
use Rattle.outside.specs.declared.link.Recv.TheVariants.{Got, NotYet}
use Rattle.wire_base.specs.declared.parcel.Parcel.{Parcel}
use Rattle.wire_base.specs.declared.talk.Piece.{Piece}
use Rattle.wire_base.specs.declared.talk.Piece.TheVariants.{In}
use Rattle.settled_parcels.specs.Handing.{settled_in, with_all_handed}
use Rattle.spool_queue.specs.declared.spool.Spool.{Spool}
use Rattle.spool_queue.specs.declared.spool_error.SpoolError.TheVariants.{DiskFault}
use Rattle.spool_queue.specs.declared.stop.Stop.{Stop}
use Rattle.spool_queue.specs.declared.stop.Stop.TheVariants as stop
use Rattle.spool_queue.specs.SendSoFar.{HasPieces, Hears, Settles, SettlesSome, SettlesWindow, Talks, with_bytes}
use Rattle.spool_queue.specs.Standing.{KeepsPlaces}
use Rattle.spool_queue.proofs.Settlings.{settles_both, stay, stay_both, takes_both}
use Rattle.spool_queue.proofs.Talkings.{all_handed, heard_acknowledges, heard_fault, pieces_acknowledge, receives_nothing, receives_piece, with_some}

same_settled : (before heard : Held) → KeepsParcels before heard → settled_in heard ≡ take heard.acknowledged before.parcels
same_settled before heard kept = ap (take heard.acknowledged) kept.parcels

module _ {D : Type 0} (d : DiskGhosts D) where
  -- all of it was settled, and there was no fault, or one
  pub some_settled : (old new : D) (was now : Spool) (before heard after : Held) (bytes : List ℕ) → 0 < length bytes → KeepsParcels before heard → heard.acknowledged ≤ length before.parcels → ((e : Exchange) → StandsFor before e → Hears heard e bytes true)
      → Settles d old new was now heard.acknowledged heard.acknowledged → after.parcels ≡ drop heard.acknowledged heard.parcels → ((e : Exchange) → StandsFor heard e → StandsFor after (with_all_handed e (settled_in heard))) → KeepsPlaces was (d.contents old) (d.contents new) → SettlesSome d old new was now before after bytes (Ok tt)
  some_settled old new was now before heard after bytes some kept few hears settles parcels handed places = record {
    done = heard.acknowledged;
    tried = heard.acknowledged;
    settles = settles;
    exact = λ not. refl;
    few = few;
    parcels = parcels ∙ ap (drop heard.acknowledged) kept.parcels;
    places = places;
    goes_on = λ e stands first. let S : List Parcel → Type 0 = λ l. StandsFor after (with_all_handed (with_talk e (with_bytes e.talk bytes)) l) in subst S (same_settled before heard kept) (handed (with_talk e (with_bytes e.talk bytes)) (hears e stands));
    ends = λ e stands first. let A : List Parcel → Type 0 = λ l. Acknowledges (e.talk ++ In bytes ∷ []) (payloads_of (e.handed ++ l)) in
        subst A (same_settled before heard kept) (heard_acknowledges heard e bytes true some first (hears e stands));
    unreachable = λ same. absurd cc;
  }

  pub some_faulty : (old new : D) (was now : Spool) (before heard after : Held) (bytes : List ℕ) → 0 < length bytes → KeepsParcels before heard → heard.acknowledged ≤ length before.parcels → ((e : Exchange) → StandsFor before e → Hears heard e bytes false)
      → Settles d old new was now heard.acknowledged heard.acknowledged → after.parcels ≡ drop heard.acknowledged heard.parcels → SettlesSome d old new was now before after bytes (Err stop.Unreachable)
  some_faulty old new was now before heard after bytes some kept few hears settles parcels = record {
    done = heard.acknowledged;
    tried = heard.acknowledged;
    settles = settles;
    exact = λ not. refl;
    few = few;
    parcels = parcels ∙ ap (drop heard.acknowledged) kept.parcels;
    places = tt;
    goes_on = tt;
    ends = λ e stands first. let A : List Parcel → Type 0 = λ l. Acknowledges (e.talk ++ In bytes ∷ []) (payloads_of (e.handed ++ l)) in
        subst A (same_settled before heard kept) (heard_acknowledges heard e bytes false some first (hears e stands));
    unreachable = λ same e stands. heard_fault heard e bytes (hears e stands);
  }

  -- the disk failed
  pub some_unsettled : (old new : D) (was now : Spool) (before heard after : Held) (bytes : List ℕ) (fine : Bool) → 0 < length bytes → KeepsParcels before heard → heard.acknowledged ≤ length before.parcels → ((e : Exchange) → StandsFor before e → Hears heard e bytes fine)
      → Settles d old new was now 0 heard.acknowledged → after.parcels ≡ drop heard.acknowledged heard.parcels → SettlesSome d old new was now before after bytes (Err (stop.Spool DiskFault))
  some_unsettled old new was now before heard after bytes fine some kept few hears settles parcels = record {
    done = 0;
    tried = heard.acknowledged;
    settles = settles;
    exact = λ not. absurd (not refl);
    few = few;
    parcels = parcels ∙ ap (drop heard.acknowledged) kept.parcels;
    places = tt;
    goes_on = tt;
    ends = λ e stands first. let A : List Parcel → Type 0 = λ l. Acknowledges (e.talk ++ In bytes ∷ []) (payloads_of (e.handed ++ l)) in
        subst A (same_settled before heard kept) (heard_acknowledges heard e bytes fine some first (hears e stands));
    unreachable = λ same. absurd cc;
  }

  -- so many parcels of the window were settled
  pub record IsSettledTo (old new : D) (was now : Spool) (before after : Held) (told later : Option Talk) : Type 0 where
    pub done : ℕ
    pub settles : Settles d old new was now done done
    pub few : done ≤ length before.parcels
    pub parcels : after.parcels ≡ drop done before.parcels
    pub places : KeepsPlaces was (d.contents old) (d.contents new)
    pub goes_on : (began : Option Talk) (e : Exchange) → Talks before began told e → (next : Exchange) × Talks after began later next × (next.handed ≡ e.handed ++ take done before.parcels)

  pub none_yet : (disk : D) (spool : Spool) (window : Held) (told : Option Talk) → Settles d disk disk spool spool 0 0 → IsSettledTo disk disk spool spool window window told told
  none_yet disk spool window told settles = record {
    done = 0;
    settles = settles;
    few = omega arith;
    parcels = refl;
    places = stay spool (d.contents disk);
    goes_on = λ began e talks. (e, talks, sym (append-nil e.handed));
  }

  -- nothing had come
  pub still_settled : (old new : D) (was now : Spool) (before after : Held) (told later then : Option Talk) (into : List ℕ) → IsSettledTo old new was now before after told later → TellsReceiving later into NotYet then → IsSettledTo old new was now before after told then
  still_settled old new was now before after told later then into is tells = record {
    done = is.done;
    settles = is.settles;
    few = is.few;
    parcels = is.parcels;
    places = is.places;
    goes_on = λ began e talks. let next = is.goes_on began e talks in
        (next.0, record { stands = next.1.stands; pieces = receives_nothing began later then next.0.talk into next.1.pieces tells; first = next.1.first }, next.2);
  }

  few_more : (before after : Held) (n m : ℕ) → n ≤ length before.parcels → after.parcels ≡ drop n before.parcels → m ≤ length after.parcels → n + m ≤ length before.parcels
  few_more before after n m few parcels more = omega (arith, few, more, ap length parcels, length-drop n before.parcels)

  handed_both : (handed : List Parcel) (before after : Held) (n m : ℕ) → after.parcels ≡ drop n before.parcels → (handed ++ take n before.parcels) ++ take m after.parcels ≡ handed ++ take (n + m) before.parcels
  handed_both handed before after n m parcels =
      append_assoc handed (take n before.parcels) (take m after.parcels)
      ∙ ap (λ (l : List Parcel). handed ++ (take n before.parcels ++ take m l)) parcels
      ∙ ap (λ (l : List Parcel). handed ++ l) (sym (takes_both n m before.parcels))

  -- a piece came, and what it acknowledges was settled
  pub more_settled : (old mid new : D) (was middle now : Spool) (before between after : Held) (told later then : Option Talk) (into : List ℕ) (count : ℕ) → 0 < length (take count into) → IsSettledTo old mid was middle before between told later
      → SettlesSome d mid new middle now between after (take count into) (Ok tt) → TellsReceiving later into (Got count) then → IsSettledTo old new was now before after told then
  more_settled old mid new was middle now before between after told later then into count some is more tells =
      let exact : more.tried ≡ more.done = more.exact (λ same. absurd cc) in
      let S : ℕ → Type 0 = λ t. Settles d mid new middle now more.done t in
      let settles : Settles d mid new middle now more.done more.done = subst S exact more.settles in
      let bytes = take count into in
      record {
        done = is.done + more.done;
        settles = settles_both d old mid new was middle now is.done more.done more.done is.settles settles;
        few = few_more before between is.done more.done is.few is.parcels (omega (arith, more.few, exact));
        parcels = more.parcels ∙ ap (λ (n : ℕ). drop n between.parcels) exact ∙ ap (drop more.done) is.parcels ∙ drop-drop more.done is.done before.parcels;
        places = stay_both was middle is.done (d.contents old) (d.contents mid) (d.contents new) is.places more.places (is.settles.whole refl);
        goes_on = λ began e talks.
            let next = is.goes_on began e talks in
            let f = next.0 in
            let heard : Exchange = with_talk f (with_bytes f.talk bytes) in
            let T : ℕ → Type 0 = λ t. StandsFor after (with_all_handed heard (take t between.parcels)) in
            let H : List Piece → Type 0 = λ p. HasPieces began then p in (
              with_all_handed heard (take more.done between.parcels),
              record {
                stands = subst T exact (more.goes_on f next.1.stands next.1.first);
                pieces = subst H (sym (with_some f.talk bytes some)) (receives_piece began later then f.talk into count next.1.pieces tells);
                first = next.1.first;
              },
              ap (λ (l : List Parcel). l ++ take more.done between.parcels) next.2 ∙ handed_both e.handed before between is.done more.done is.parcels,
            );
      }

  -- and that was the last
  pub piece_ends : (old mid new : D) (was middle now : Spool) (before between after : Held) (told later then : Option Talk) (into : List ℕ) (count : ℕ) (stops : Stop) → IsSettledTo old mid was middle before between told later
      → SettlesSome d mid new middle now between after (take count into) (Err stops) → TellsReceiving later into (Got count) then → SettlesWindow d old new was now before after told then (Err stops)
  piece_ends old mid new was middle now before between after told later then into count stops is more tells =
      let bytes = take count into in
      record {
        done = is.done + more.done;
        tried = is.done + more.tried;
        settles = settles_both d old mid new was middle now is.done more.done more.tried is.settles more.settles;
        exact = λ not. ap (λ (n : ℕ). is.done + n) (more.exact (λ same. not cc));
        few = few_more before between is.done more.tried is.few is.parcels more.few;
        all = tt;
        places = tt;
        goes_on = tt;
        ends = λ began e talks.
            let next = is.goes_on began e talks in
            let f = next.0 in
            let A : List Parcel → Type 0 = λ l. Acknowledges (f.talk ++ In bytes ∷ []) (payloads_of l) in
            pieces_acknowledge began then (f.talk ++ In bytes ∷ []) _ (receives_piece began later then f.talk into count next.1.pieces tells)
            (subst A (ap (λ (l : List Parcel). l ++ take more.tried between.parcels) next.2 ∙ handed_both e.handed before between is.done more.tried is.parcels) (more.ends f next.1.stands next.1.first));
      }

  -- the peer was silent, or the link was closed
  pub link_ends : (old new : D) (was now : Spool) (before after : Held) (told later then : Option Talk) → IsSettledTo old new was now before after told later → after.acknowledged ≡ 0 → ((began : Option Talk) (pieces : List Piece) → HasPieces began later pieces → HasPieces began then pieces)
      → SettlesWindow d old new was now before after told then (Err stop.Unreachable)
  link_ends old new was now before after told later then is none same = record {
    done = is.done;
    tried = is.done;
    settles = is.settles;
    exact = λ not. refl;
    few = is.few;
    all = tt;
    places = tt;
    goes_on = tt;
    ends = λ began e talks.
        let next = is.goes_on began e talks in
        let A : List Parcel → Type 0 = λ l. Acknowledges next.0.talk (payloads_of l) in
        pieces_acknowledge began then next.0.talk _ (same began next.0.talk next.1.pieces) (subst A next.2 (all_handed after next.0 next.1.stands next.1.first none));
  }

  -- all of it was acknowledged
  pub window_settled : (old new : D) (was now : Spool) (before after : Held) (told later : Option Talk) → IsSettledTo old new was now before after told later → length after.parcels ≡ 0 → SettlesWindow d old new was now before after told later (Ok tt)
  window_settled old new was now before after told later is none =
      let all : is.done ≡ length before.parcels = omega (arith, is.few, none, ap length is.parcels, length-drop is.done before.parcels) in
      record {
        done = is.done;
        tried = is.done;
        settles = is.settles;
        exact = λ not. refl;
        few = is.few;
        all = all;
        places = is.places;
        goes_on = λ began e talks. let next = is.goes_on began e talks in (next.0, next.1, next.2 ∙ ap (λ (l : List Parcel). e.handed ++ l) (ap (λ (n : ℕ). take n before.parcels) all ∙ whole before.parcels));
        ends = tt;
      }
    where
      whole : (l : List Parcel) → take (length l) l ≡ l
      whole [] = refl
      whole (x ∷ l) = ap (λ (r : List Parcel). x ∷ r) (whole l)
