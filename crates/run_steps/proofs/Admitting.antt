-- Lanes of which one has a harvester more: what is said of their passes and of what they hold stays so, and its file is among
-- those that they stand for.
use Rattle.std.proofs.Common.{◌≡◌, ℕ, List, [], ◌∷◌, ◌++◌, map, append-nil, refl, sym, ap, subst, ◌∙◌, arith}
use Rattle.std.specs.List.{AllByRecursion, flat_map}
use Rattle.accounts.specs.Opened.{Opened}
use Rattle.accounts.specs.Turned.{Turned, spans_in, spans_told as spans_of}
use Rattle.accounts.specs.Turning.{IsTurnedSo, Pairs}
use Rattle.accounts.specs.Watch.{Watch}
use Rattle.accounts.proofs.Lists.{each_last}
use Rattle.accounts.proofs.Onward.{each_stands_later}
use Rattle.batch_worker.specs.Held.{notes_of}
use Rattle.harvester.specs.declared.harvester.Harvester.{Harvester}
use Rattle.lanes.specs.Giving.{notes_in, parcels_in}
use Rattle.lanes.specs.Laning.{Laning}
use Rattle.mem_queue.specs.Entries.{parcels}
use Rattle.pass_sums.specs.Weight.{AsOften, weigh}
use Rattle.pass_sums.proofs.Weights.{weigh-append}
use Rattle.rounds.specs.Books.{AreBooked, ArePlaced, Told, carried_by, flat, held_notes, held_parcels, owed_notes}
use Rattle.rounds.specs.Crewed.{carriers_passes, lanes_passes}
use Rattle.rounds.specs.Passes.{Passes, entries, senders}
use Rattle.rounds.specs.Settled.{spans_told}
use Rattle.rounds.specs.Words.{LinkWords, TailWords, WireWords}
use Rattle.rounds.specs.declared.carrier.Carrier.{Carrier}
use Rattle.settle_box.specs.Senders.{posted_by}
use Rattle.wire_base.specs.declared.note.Note.{Note}
use Rattle.wire_base.specs.declared.parcel.Parcel.{Parcel}
use Rattle.run_steps.specs.Beginning.{AdmitsAt}
use Rattle.run_steps.specs.Stands.{AreTurnedIn}

abbrev pub all_of : List (List Turned) → List Turned
all_of files = flat_map (λ (turned : List Turned). turned) files

-- ---- spans by weights

pub spans_weigh : (files : List Turned) → spans_in files ≡ weigh spans_of files
spans_weigh [] = refl
spans_weigh (turned ∷ files) = let rest = spans_weigh files in omega (arith, rest)

pub spans_often : (first second : List Turned) → AsOften first second → spans_in first ≡ spans_in second
spans_often first second often = spans_weigh first ∙ often spans_of ∙ sym (spans_weigh second)

pub often_mapped : {A B : Type 0} (f : A → B) (xs ys : List A) → AsOften xs ys → AsOften (map f xs) (map f ys)
often_mapped {A} {B} f xs ys often h = sym (by_each xs) ∙ often (λ x. h (f x)) ∙ by_each ys
  where
    by_each : (l : List A) → weigh (λ x. h (f x)) l ≡ weigh h (map f l)
    by_each [] = refl
    by_each (x ∷ l) = let rest = by_each l in omega (arith, rest)

-- the last of some is the first of them
pub last_as_first : {A : Type 0} (xs : List A) (x : A) → AsOften (xs ++ x ∷ []) (x ∷ xs)
last_as_first xs x h = omega (arith, weigh-append h xs (x ∷ []))

-- ---- what stays

module _ {T : Type 0} (harvester : Harvester T) where
  abbrev with_it : Laning T → Laning T
  with_it lane = record lane { harvesters = lane.harvesters ++ harvester ∷ [] }

  passes_at : (front : List (Laning T)) (lane : Laning T) (back : List (Laning T)) → lanes_passes (front ++ with_it lane ∷ back) ≡ lanes_passes (front ++ lane ∷ back)
  passes_at [] lane back = refl
  passes_at (first ∷ front) lane back = let rest = passes_at front lane back in cc

  parcels_at : (front : List (Laning T)) (lane : Laning T) (back : List (Laning T)) → held_parcels (front ++ with_it lane ∷ back) ≡ held_parcels (front ++ lane ∷ back)
  parcels_at [] lane back = refl
  parcels_at (first ∷ front) lane back = ap (λ (l : List Parcel). parcels_in first.held ++ l) (parcels_at front lane back)

  notes_at : (front : List (Laning T)) (lane : Laning T) (back : List (Laning T)) → held_notes (front ++ with_it lane ∷ back) ≡ held_notes (front ++ lane ∷ back)
  notes_at [] lane back = refl
  notes_at (first ∷ front) lane back = ap (λ (l : List Note). notes_in first.held ++ l) (notes_at front lane back)

  spans_at : (front : List (Laning T)) (lane : Laning T) (back : List (Laning T)) → spans_told (front ++ with_it lane ∷ back) ≡ spans_told (front ++ lane ∷ back)
  spans_at [] lane back = refl
  spans_at (first ∷ front) lane back = let rest = spans_at front lane back in omega (arith, rest)

  -- what is said of each harvester, and of this one
  each_at : (P : Harvester T → Type 0) → P harvester → (front : List (Laning T)) (lane : Laning T) (back : List (Laning T)) →
      AllByRecursion (λ (l : Laning T). AllByRecursion P l.harvesters) (front ++ lane ∷ back) → AllByRecursion (λ (l : Laning T). AllByRecursion P l.harvesters) (front ++ with_it lane ∷ back)
  each_at P is [] lane back each = (each_last P lane.harvesters harvester each.0 is, each.1)
  each_at P is (first ∷ front) lane back each = (each.0, each_at P is front lane back each.1)

  module _ (number : ℕ) (old new : List (Laning T)) (admits : AdmitsAt number harvester old new) where
    -- of functions of lanes, too
    same_by : {X : Type 0} (f : List (Laning T) → X) → f (admits.front ++ with_it admits.lane ∷ admits.back) ≡ f (admits.front ++ admits.lane ∷ admits.back) → f new ≡ f old
    same_by f same = ap f admits.are ∙ same ∙ sym (ap f admits.were)

    pub passes_same : lanes_passes new ≡ lanes_passes old
    passes_same = same_by lanes_passes (passes_at admits.front admits.lane admits.back)

    pub parcels_same : held_parcels new ≡ held_parcels old
    parcels_same = same_by held_parcels (parcels_at admits.front admits.lane admits.back)

    pub notes_same : held_notes new ≡ held_notes old
    notes_same = same_by held_notes (notes_at admits.front admits.lane admits.back)

    pub spans_same : spans_told new ≡ spans_told old
    spans_same = same_by spans_told (spans_at admits.front admits.lane admits.back)

    pub each_still : (P : Harvester T → Type 0) → P harvester → AllByRecursion (λ (l : Laning T). AllByRecursion P l.harvesters) old → AllByRecursion (λ (l : Laning T). AllByRecursion P l.harvesters) new
    each_still P is each = subst (AllByRecursion (λ (l : Laning T). AllByRecursion P l.harvesters)) (sym admits.are)
        (each_at P is admits.front admits.lane admits.back (subst (AllByRecursion (λ (l : Laning T). AllByRecursion P l.harvesters)) admits.were each))

-- ---- the books

module _ {T : Type 0} (old new : List (Laning T)) (parcels_are : held_parcels new ≡ held_parcels old) (notes_are : held_notes new ≡ held_notes old) where
  pub booked_by : {W L : Type 0} (links : LinkWords L) (wires : WireWords W) (told : Told) (carriers : List (Carrier W L)) → lanes_passes new ≡ lanes_passes old → AreBooked links wires told old carriers → AreBooked links wires told new carriers
  booked_by links wires told carriers passes_are booked = record {
    put = subst (λ (p : List Passes). AsOften told.issued (parcels (entries p) ++ held_parcels new)) (sym passes_are)
        (subst (λ (l : List Parcel). AsOften told.issued (parcels (entries (lanes_passes old)) ++ l)) (sym parcels_are) booked.put);
    taken = booked.taken;
    posted = subst (λ (p : List Passes). AsOften (told.noted ++ notes_of (flat told.acknowledged)) (posted_by (senders p ++ senders (carriers_passes carriers)) ++ (held_notes new ++ owed_notes carriers))) (sym passes_are)
        (subst (λ (l : List Note). AsOften (told.noted ++ notes_of (flat told.acknowledged)) (posted_by (senders (lanes_passes old) ++ senders (carriers_passes carriers)) ++ (l ++ owed_notes carriers))) (sym notes_are) booked.posted);
    acknowledged = booked.acknowledged;
  }

  pub placed_by : {W L : Type 0} (told : Told) (carriers : List (Carrier W L)) (queued : List Parcel) (got boxed : List Note) → ArePlaced told old carriers queued got boxed → ArePlaced told new carriers queued got boxed
  placed_by told carriers queued got boxed placed = record {
    parcels = subst (λ (l : List Parcel). AsOften told.issued (l ++ (queued ++ (carried_by carriers ++ flat told.acknowledged)))) (sym parcels_are) placed.parcels;
    notes = λ h. placed.notes h ∙ ap (λ (l : List Note). weigh h (got ++ (boxed ++ (l ++ owed_notes carriers)))) (sym notes_are);
  }

-- ---- files

-- the lanes stand for such files, of which one came
pub record TurnedWith {T : Type 0} (tails : TailWords T) (watch : Watch) (opened : List Opened) (moments : List ℕ) (before : List (List Turned)) (turned : Turned) (lanes : List (Laning T)) : Type 0 where
  pub after : List (List Turned)
  pub stand : Pairs (AreTurnedIn tails watch opened moments) after lanes
  pub are : AsOften (all_of after) (turned ∷ all_of before)

module _ {T : Type 0} (tails : TailWords T) (watch : Watch) (opened : List Opened) (moments : List ℕ) where
  abbrev So : Turned → Harvester T → Type 0
  So = IsTurnedSo tails.numbers tails.told watch opened moments

  pairs_last : (ts : List Turned) (hs : List (Harvester T)) (turned : Turned) (harvester : Harvester T) → Pairs So ts hs → So turned harvester → Pairs So (ts ++ turned ∷ []) (hs ++ harvester ∷ [])
  pairs_last [] [] turned harvester stand last = (last, tt)
  pairs_last [] (h ∷ hs) turned harvester stand last = absurd stand
  pairs_last (t ∷ ts) [] turned harvester stand last = absurd stand
  pairs_last (t ∷ ts) (h ∷ hs) turned harvester stand last = (stand.0, pairs_last ts hs turned harvester stand.1 last)

  pub turned_at : (harvester : Harvester T) (turned : Turned) → So turned harvester → (files : List (List Turned)) (front : List (Laning T)) (lane : Laning T) (back : List (Laning T)) →
      Pairs (AreTurnedIn tails watch opened moments) files (front ++ lane ∷ back) →
      TurnedWith tails watch opened moments files turned (front ++ (record lane { harvesters = lane.harvesters ++ harvester ∷ [] }) ∷ back)
  turned_at harvester turned is [] [] lane back stand = absurd stand
  turned_at harvester turned is [] (first ∷ front) lane back stand = absurd stand
  turned_at harvester turned is (ts ∷ files) [] lane back stand = record {
    after = (ts ++ turned ∷ []) ∷ files;
    stand = (pairs_last ts lane.harvesters turned harvester stand.0 is, stand.1);
    are = λ h. omega (arith, weigh-append h (ts ++ turned ∷ []) (all_of files), weigh-append h ts (turned ∷ []), weigh-append h ts (all_of files));
  }
  turned_at harvester turned is (ts ∷ files) (first ∷ front) lane back stand =
      let rest = turned_at harvester turned is files front lane back stand.1 in
      record {
        after = ts ∷ rest.after;
        stand = (stand.0, rest.stand);
        are = λ h. omega (arith, weigh-append h ts (all_of rest.after), weigh-append h ts (all_of files), rest.are h);
      }

  -- as further files are opened
  pub opened_later : (others : List Opened) (files : List (List Turned)) (lanes : List (Laning T)) → Pairs (AreTurnedIn tails watch opened moments) files lanes →
      Pairs (AreTurnedIn tails watch (opened ++ others) moments) files lanes
  opened_later others [] [] stand = tt
  opened_later others [] (lane ∷ lanes) stand = absurd stand
  opened_later others (ts ∷ files) [] stand = absurd stand
  opened_later others (ts ∷ files) (lane ∷ lanes) stand = (
    subst (λ (l : List ℕ). AreTurnedIn tails watch (opened ++ others) l ts lane) (append-nil moments)
        (each_stands_later tails.numbers tails.told watch opened moments others [] ts lane.harvesters stand.0),
    opened_later others files lanes stand.1,
  )
