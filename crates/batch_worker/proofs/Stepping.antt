-- The steps of a worker that fail nothing keep what its calls keep.
use Rattle.std.proofs.Common.{◌≡◌, ℕ, zero, suc, List, [], ◌∷◌, ◌++◌, length, take, drop, Option, Some, None, refl, sym, ap, subst, ◌∙◌, append_assoc, append-nil, arith, inl, inr}
use Rattle.atomic_table.specs.Seated.{TableId}
use Rattle.lumber_client.specs.Exchange.{Exchange, with_handed}
use Rattle.lumber_client.specs.Held.{Held, waiting_in, with_parcels}
use Rattle.lumber_client.specs.Standing.{StandsFor as WindowStandsFor}
use Rattle.mem_queue.specs.Known.{Known}
use Rattle.mem_queue.specs.declared.entry.Entry.{Entry}
use Rattle.outside.specs.Talks.{Talk}
use Rattle.settle_box.specs.Poster.{Poster}
use Rattle.wire_base.specs.declared.note.Note.{Note}
use Rattle.wire_base.specs.declared.parcel.Parcel.{Parcel}
use Rattle.batch_worker.specs.Held.{carried_in, note_of, noted, notes_of, owed_by, settled_in}
use Rattle.batch_worker.specs.Keeping.{SameMoments, WorkerGoes, with_posted, with_taken}
use Rattle.batch_worker.specs.Seen.{Seen}
use Rattle.batch_worker.specs.Standing.{StandsFor}
use Rattle.batch_worker.specs.Steps.{IsFilled, PostsOf, SettlesOne, TakesOf, TakesOne, with_noted}
use Rattle.batch_worker.specs.Working.{Working}
use Rattle.batch_worker.proofs.Keeping.{goes_nowhere, goes_on, moments_on, none_posted, none_taken, stands_by}

drop_none : {A : Type 0} (n : ℕ) (xs ys : List A) → n ≡ 0 → drop n xs ++ ys ≡ drop n (xs ++ ys)
drop_none zero xs ys e = refl
drop_none (suc n) xs ys e = absurd (omega arith)

take_none : {A : Type 0} (n : ℕ) (xs : List A) → n ≡ 0 → take n xs ≡ []
take_none zero xs e = refl
take_none (suc n) xs e = absurd (omega arith)

noted_posted : (post : Option Poster) (note : Option Note) → with_noted post note ≡ with_posted post (noted note)
noted_posted post None = none_posted post
noted_posted post (Some note) = refl

take_more : {A : Type 0} (n : ℕ) (x : A) (xs ys : List A) → ys ≡ x ∷ xs → take (suc n) ys ≡ x ∷ take n xs
take_more n x xs ys e = ap (take (suc n)) e

drop_more : {A : Type 0} (n : ℕ) (x : A) (xs ys : List A) → ys ≡ x ∷ xs → drop (suc n) ys ≡ drop n xs
drop_more n x xs ys e = ap (drop (suc n)) e

module _ {L : Type 0} where
  abbrev took_one : Working L → Entry → Working L
  took_one w entry = record w { take = with_taken w.take (entry ∷ []); window = with_parcels w.window (w.window.parcels ++ entry.parcel ∷ []) w.window.acknowledged }

  abbrev owed_one : Working L → Held → Parcel → Working L
  owed_one w window parcel = record w { window = with_parcels w.window window.parcels window.acknowledged; refused = Some (note_of parcel) }

  abbrev with_more : Working L → Option Known → List Parcel → Working L
  with_more w take l = record w { take = take; window = with_parcels w.window l w.window.acknowledged }

  abbrev one_more : Parcel → Option Known → Working L → Working L
  one_more parcel take w = record w { take = take; window = with_parcels w.window (w.window.parcels ++ parcel ∷ []) w.window.acknowledged }

module _ {L : Type 0} (told : L → Option Talk) (s : Seen) where
  -- ---- filling

  pub taken_goes : (old new : Working L) → old.window.acknowledged ≡ 0 → TakesOne old new → WorkerGoes told s s old new
  taken_goes old new none t =
      subst (λ (w : Working L). WorkerGoes told s s old w) (sym t.is) (record {
        keeps = record {
          taken = t.entry ∷ [];
          acknowledged = [];
          posted = [];
          host = refl;
          timeout = refl;
          most = refl;
          depth = refl;
          take = refl;
          post = none_posted old.post;
          parcels_are = carried;
          notes_are = ap (λ (l : List Note). l ++ []) owed ∙ append-nil (noted old.refused ++ notes_of (take old.window.acknowledged (old.window.parcels ++ t.entry.parcel ∷ [])));
          stands = λ start earlier p. stands_by told old (took_one old t.entry) s.outcomes start earlier [] (t.entry.parcel ∷ []) p p.exchange (window p.exchange p.window) p.talk p.small refl (sym (append-nil _)) refl carried;
          open_links = λ others is few. is;
          faults = omega arith;
        };
        failures = refl;
        failed = refl;
      })
    where
      carried : drop old.window.acknowledged old.window.parcels ++ t.entry.parcel ∷ [] ≡ drop old.window.acknowledged (old.window.parcels ++ t.entry.parcel ∷ [])
      carried = drop_none old.window.acknowledged old.window.parcels (t.entry.parcel ∷ []) none

      owed : owed_by old ≡ noted old.refused ++ notes_of (take old.window.acknowledged (old.window.parcels ++ t.entry.parcel ∷ []))
      owed = ap (λ (l : List Parcel). noted old.refused ++ notes_of l) (take_none old.window.acknowledged old.window.parcels none ∙ sym (take_none old.window.acknowledged (old.window.parcels ++ t.entry.parcel ∷ []) none))

      window : (e : Exchange) → WindowStandsFor old.window e → WindowStandsFor (with_parcels old.window (old.window.parcels ++ t.entry.parcel ∷ []) old.window.acknowledged) e
      window e w = subst (λ (v : Working L). WindowStandsFor v.window e) t.is (t.stands e w)

  -- ---- posting

  pub posted_goes : (old new : Working L) → new ≡ record old { post = with_noted old.post old.refused; refused = None } → WorkerGoes told s s old new
  posted_goes old new is =
      subst (λ (w : Working L). WorkerGoes told s s old w) (sym is) (record {
        keeps = record {
          taken = [];
          acknowledged = [];
          posted = noted old.refused;
          host = refl;
          timeout = refl;
          most = refl;
          depth = refl;
          take = none_taken old.take;
          post = noted_posted old.post old.refused;
          parcels_are = append-nil (carried_in old.window);
          notes_are = append-nil (owed_by old);
          stands = λ start earlier p. stands_by told old (record old { post = with_noted old.post old.refused; refused = None }) s.outcomes start earlier [] [] p p.exchange p.window p.talk p.small refl (sym (append-nil _)) refl (append-nil (carried_in old.window));
          open_links = λ others same few. same;
          faults = omega arith;
        };
        failures = refl;
        failed = refl;
      })

  pub settled_goes : (old new : Working L) → old.refused ≡ None → SettlesOne old new → WorkerGoes told s s old new
  settled_goes old new none t =
      subst (λ (w : Working L). WorkerGoes told s s old w) (sym t.is) (record {
        keeps = record {
          taken = [];
          acknowledged = [];
          posted = [];
          host = refl;
          timeout = refl;
          most = refl;
          depth = refl;
          take = none_taken old.take;
          post = none_posted old.post;
          parcels_are = append-nil (carried_in old.window) ∙ carried;
          notes_are = append-nil (owed_by old) ∙ owed;
          stands = λ start earlier p. stands_by told old (owed_one old new.window t.parcel) s.outcomes start earlier [] [] p (with_handed p.exchange t.parcel) (window p.exchange p.window) p.talk p.small refl (sym (append-nil _)) refl (append-nil (carried_in old.window) ∙ carried);
          open_links = λ others same few. same;
          faults = omega arith;
        };
        failures = refl;
        failed = refl;
      })
    where
      carried : carried_in old.window ≡ drop new.window.acknowledged new.window.parcels
      carried = ap (λ (n : ℕ). drop n old.window.parcels) t.fewer ∙ drop_more new.window.acknowledged t.parcel new.window.parcels old.window.parcels t.first

      owed : owed_by old ≡ (note_of t.parcel ∷ []) ++ notes_of (take new.window.acknowledged new.window.parcels)
      owed = ap (λ (note : Option Note). noted note ++ notes_of (settled_in old.window)) none
          ∙ ap notes_of (ap (λ (n : ℕ). take n old.window.parcels) t.fewer ∙ take_more new.window.acknowledged t.parcel new.window.parcels old.window.parcels t.first)

      window : (e : Exchange) → WindowStandsFor old.window e → WindowStandsFor (with_parcels old.window new.window.parcels new.window.acknowledged) (with_handed e t.parcel)
      window e w = subst (λ (v : Working L). WindowStandsFor v.window (with_handed e t.parcel)) t.is (t.stands e w)

-- ---- loops

-- parcels were taken so far
pub record Filling {L : Type 0} (told : L → Option Talk) (queue : TableId) (old new : Working L) : Type 0 where
  pub goes : (s : Seen) → WorkerGoes told s s old new
  pub nothing_to_settle : new.window.acknowledged ≡ 0
  pub of_this_queue : TakesOf queue new.take
  pub filled : IsFilled old new

-- notes were posted so far, and none is refused
pub record Posting {L : Type 0} (told : L → Option Talk) (desk : TableId) (old new : Working L) : Type 0 where
  pub goes : (s : Seen) → WorkerGoes told s s old new
  pub moments : SameMoments old new
  pub link : new.link ≡ old.link
  pub failures : new.failures ≡ old.failures
  pub none_refused : new.refused ≡ None
  pub of_this_box : PostsOf desk new.post

takes_still : (queue : TableId) (take : Option Known) (entries : List Entry) → TakesOf queue take → TakesOf queue (with_taken take entries)
takes_still queue None entries of = of
takes_still queue (Some k) entries of = of

pub posts_still : (desk : TableId) (post : Option Poster) (note : Option Note) → PostsOf desk post → PostsOf desk (with_noted post note)
posts_still desk None None of = of
posts_still desk None (Some note) of = of
posts_still desk (Some p) None of = of
posts_still desk (Some p) (Some note) of = of

module _ {L : Type 0} where
  noted_same : (old new : Working L) → new ≡ record old { post = with_noted old.post old.refused; refused = None } → SameMoments old new
  noted_same old new is = record { outs = ap (λ (w : Working L). w.outs) is; heard = ap (λ (w : Working L). w.heard) is }

  pub settled_same : (old new : Working L) → SettlesOne old new → SameMoments old new
  settled_same old new t = record { outs = ap (λ (w : Working L). w.outs) t.is; heard = ap (λ (w : Working L). w.heard) t.is }

module _ {L : Type 0} (told : L → Option Talk) where
  pub filling_begins : (queue : TableId) (w : Working L) → w.window.acknowledged ≡ 0 → TakesOf queue w.take → Filling told queue w w
  filling_begins queue w none of = record {
    goes = λ s. goes_nowhere (λ start. StandsFor told start w s.outcomes) s w;
    nothing_to_settle = none;
    of_this_queue = of;
    filled = record {
      same_or_some = inl refl;
      parcels = [];
      is = ap (λ (l : List Parcel). record w { window = with_parcels w.window l w.window.acknowledged }) (sym (append-nil w.window.parcels));
    };
  }

  pub filling_goes_on : (queue : TableId) (old mid new : Working L) → Filling told queue old mid → TakesOne mid new → length (waiting_in new.window) ≡ suc (length (waiting_in mid.window)) → Filling told queue old new
  filling_goes_on queue old mid new f t more = record {
    goes = λ s. goes_on _ _ _ s s s old mid new (f.goes s) (taken_goes told s mid new f.nothing_to_settle t);
    nothing_to_settle = ap (λ (w : Working L). w.window.acknowledged) t.is ∙ f.nothing_to_settle;
    of_this_queue = subst (λ (w : Working L). TakesOf queue w.take) (sym t.is) (takes_still queue mid.take (t.entry ∷ []) f.of_this_queue);
    filled = record {
      same_or_some = inr (omega (arith, more));
      parcels = f.filled.parcels ++ t.entry.parcel ∷ [];
      is = new_is;
    };
  }
    where
      took : new.take ≡ with_taken mid.take (t.entry ∷ [])
      took = ap (λ (w : Working L). w.take) t.is

      new_is : new ≡ record old { take = new.take; window = with_parcels old.window (old.window.parcels ++ (f.filled.parcels ++ t.entry.parcel ∷ [])) old.window.acknowledged }
      new_is = t.is
          ∙ ap (λ (k : Option Known). one_more t.entry.parcel k mid) (sym took)
          ∙ ap (one_more t.entry.parcel new.take) f.filled.is
          ∙ ap (with_more old new.take) (append_assoc old.window.parcels f.filled.parcels (t.entry.parcel ∷ []))

  pub posting_begins : (desk : TableId) (old new : Working L) → new ≡ record old { post = with_noted old.post old.refused; refused = None } → PostsOf desk old.post → Posting told desk old new
  posting_begins desk old new is of = record {
    goes = λ s. posted_goes told s old new is;
    moments = noted_same old new is;
    link = ap (λ (w : Working L). w.link) is;
    failures = ap (λ (w : Working L). w.failures) is;
    none_refused = ap (λ (w : Working L). w.refused) is;
    of_this_box = subst (λ (w : Working L). PostsOf desk w.post) (sym is) (posts_still desk old.post old.refused of);
  }

  pub posting_goes_on : (desk : TableId) (old mid owing new : Working L) → Posting told desk old mid → SettlesOne mid owing → new ≡ record owing { post = with_noted owing.post owing.refused; refused = None } → Posting told desk old new
  posting_goes_on desk old mid owing new p t is = record {
    goes = λ s. goes_on _ _ _ s s s old mid new (p.goes s) (goes_on _ _ _ s s s mid owing new (settled_goes told s mid owing p.none_refused t) (posted_goes told s owing new is));
    moments = moments_on old mid new p.moments (moments_on mid owing new (settled_same mid owing t) (noted_same owing new is));
    link = ap (λ (w : Working L). w.link) is ∙ ap (λ (w : Working L). w.link) t.is ∙ p.link;
    failures = ap (λ (w : Working L). w.failures) is ∙ ap (λ (w : Working L). w.failures) t.is ∙ p.failures;
    none_refused = ap (λ (w : Working L). w.refused) is;
    of_this_box = subst (λ (w : Working L). PostsOf desk w.post) (sym is) (posts_still desk owing.post owing.refused (subst (λ (w : Working L). PostsOf desk w.post) (sym t.is) p.of_this_box));
  }
