-- What one round tells of the files that harvesters turn, lane by lane.
use Rattle.std.proofs.Common.{◌≡◌, ℕ, ◌+◌, ◌<◌, ◌^◌, ◌-◌, List, [], ◌∷◌, ◌++◌, map, append-nil, append_assoc, refl, sym, ap, subst, ◌∙◌, arith}
use Rattle.std.proofs.lemmas.List.{map-append}
use Rattle.std.specs.List.{AllByRecursion, flat_map}
use Rattle.accounts.specs.Opened.{Opened}
use Rattle.accounts.specs.Turned.{Turned, notes_told, parcels_told}
use Rattle.accounts.specs.Turning.{GaveMore, IsTurnedSo, Pairs, TellOn}
use Rattle.accounts.specs.Watch.{Watch}
use Rattle.accounts.proofs.Lists.{flat_map_both}
use Rattle.accounts.proofs.Often.{often_same, often_then}
use Rattle.accounts.proofs.Onward.{each_stands_later}
use Rattle.accounts.proofs.OpenedAgain.{spans_of_both}
use Rattle.accounts.proofs.Turning.{run_tells}
use Rattle.harvester.specs.Standing.{EndsAt}
use Rattle.harvester.specs.declared.harvester.Harvester.{Harvester}
use Rattle.lanes.specs.Laning.{Laning, without_passes}
use Rattle.lanes.specs.Step.{Step, issued_in, noted_in}
use Rattle.lanes.specs.Step as steps
use Rattle.lanes.specs.Giving.{notes_in, parcels_in}
use Rattle.lanes.specs.declared.run.When.{When}
use Rattle.pass_sums.specs.Weight.{AsOften}
use Rattle.pass_sums.proofs.Weights.{weigh-append}
use Rattle.rounds.specs.Crewed.{bare_lanes}
use Rattle.rounds.specs.Placed.{AreStepsOf}
use Rattle.rounds.specs.Settled.{spans_told}
use Rattle.rounds.specs.Words.{TailWords}
use Rattle.wire_base.specs.declared.note.Note.{Note}
use Rattle.wire_base.specs.declared.numbers.Slot.{Slot}
use Rattle.wire_base.specs.declared.parcel.Parcel.{Parcel}
use Rattle.run_steps.specs.Stands.{AreTurnedIn}

-- ---- lists of both

pub issued_both : (first second : List Step) → issued_in (first ++ second) ≡ issued_in first ++ issued_in second
issued_both [] second = refl
issued_both (step ∷ first) second =
    ap (λ (l : List Parcel). parcels_in step.given ++ l) (issued_both first second)
    ∙ sym (append_assoc (parcels_in step.given) (issued_in first) (issued_in second))

pub noted_both : (first second : List Step) → noted_in (first ++ second) ≡ noted_in first ++ noted_in second
noted_both [] second = refl
noted_both (step ∷ first) second =
    ap (λ (l : List Note). notes_in step.given ++ l) (noted_both first second)
    ∙ sym (append_assoc (notes_in step.given) (noted_in first) (noted_in second))

pub spans_both : (first second : List Step) → steps.spans_in (first ++ second) ≡ steps.spans_in first + steps.spans_in second
spans_both [] second = omega arith
spans_both (step ∷ first) second = let later = spans_both first second in omega (arith, later)

-- ---- files that gave more, put together

gave_none : (files : List Turned) → GaveMore files files [] [] 0
gave_none files = record {
  slots = refl;
  parcels_are = often_same (flat_map parcels_told files) (flat_map parcels_told files ++ []) (sym (append-nil (flat_map parcels_told files)));
  notes_are = often_same (flat_map notes_told files) (flat_map notes_told files ++ []) (sym (append-nil (flat_map notes_told files)));
  spans_are = omega arith;
}

-- both gave more, and it is put together in this order
often_beside : {A : Type 0} (xs first ys second xs' ys' : List A) → AsOften xs' (xs ++ first) → AsOften ys' (ys ++ second) →
    AsOften (xs' ++ ys') ((xs ++ ys) ++ (first ++ second))
often_beside xs first ys second xs' ys' one other h = omega (
  arith,
  weigh-append h xs' ys',
  weigh-append h (xs ++ ys) (first ++ second),
  weigh-append h xs ys,
  weigh-append h first second,
  weigh-append h xs first,
  weigh-append h ys second,
  one h,
  other h,
)

gave_both : (a a' b b' : List Turned) (ps qs : List Parcel) (ns ms : List Note) (n m : ℕ) → GaveMore a a' ps ns n → GaveMore b b' qs ms m →
    GaveMore (a ++ b) (a' ++ b') (ps ++ qs) (ns ++ ms) (n + m)
gave_both a a' b b' ps qs ns ms n m first second = record {
  slots = map-append (λ (t : Turned). t.slot) a' b' ∙ ap (λ (l : List Slot). l ++ map (λ (t : Turned). t.slot) b') first.slots
      ∙ ap (λ (l : List Slot). map (λ (t : Turned). t.slot) a ++ l) second.slots ∙ sym (map-append (λ (t : Turned). t.slot) a b);
  parcels_are = often_then (flat_map parcels_told (a' ++ b')) (flat_map parcels_told a' ++ flat_map parcels_told b')
      (flat_map parcels_told (a ++ b) ++ (ps ++ qs)) (often_same (flat_map parcels_told (a' ++ b')) (flat_map parcels_told a' ++ flat_map parcels_told b') (flat_map_both parcels_told a' b'))
      (often_then (flat_map parcels_told a' ++ flat_map parcels_told b') ((flat_map parcels_told a ++ flat_map parcels_told b) ++ (ps ++ qs)) (flat_map parcels_told (a ++ b) ++ (ps ++ qs))
      (often_beside (flat_map parcels_told a) ps (flat_map parcels_told b) qs (flat_map parcels_told a') (flat_map parcels_told b') first.parcels_are second.parcels_are)
      (often_same ((flat_map parcels_told a ++ flat_map parcels_told b) ++ (ps ++ qs)) (flat_map parcels_told (a ++ b) ++ (ps ++ qs)) (ap (λ (l : List Parcel). l ++ (ps ++ qs)) (sym (flat_map_both parcels_told a b)))));
  notes_are = often_then (flat_map notes_told (a' ++ b')) (flat_map notes_told a' ++ flat_map notes_told b')
      (flat_map notes_told (a ++ b) ++ (ns ++ ms)) (often_same (flat_map notes_told (a' ++ b')) (flat_map notes_told a' ++ flat_map notes_told b') (flat_map_both notes_told a' b'))
      (often_then (flat_map notes_told a' ++ flat_map notes_told b') ((flat_map notes_told a ++ flat_map notes_told b) ++ (ns ++ ms)) (flat_map notes_told (a ++ b) ++ (ns ++ ms))
      (often_beside (flat_map notes_told a) ns (flat_map notes_told b) ms (flat_map notes_told a') (flat_map notes_told b') first.notes_are second.notes_are)
      (often_same ((flat_map notes_told a ++ flat_map notes_told b) ++ (ns ++ ms)) (flat_map notes_told (a ++ b) ++ (ns ++ ms)) (ap (λ (l : List Note). l ++ (ns ++ ms)) (sym (flat_map_both notes_told a b)))));
  spans_are = let one = first.spans_are in let other = second.spans_are in let then = spans_of_both a' b' in let was = spans_of_both a b in omega (arith, one, other, then, was);
}

-- ---- all lanes

-- the lanes stand for such files, which gave this in addition
pub record LanesTellOn {T : Type 0} (tails : TailWords T) (watch : Watch) (opened : List Opened) (moments : List ℕ) (before : List (List Turned)) (lanes : List (Laning T)) (turns : List Step) : Type 0 where
  pub after : List (List Turned)
  pub stand : Pairs (AreTurnedIn tails watch opened moments) after lanes
  pub gave : GaveMore (flat_map (λ turned. turned) before) (flat_map (λ turned. turned) after) (issued_in turns) (noted_in turns) (steps.spans_in turns)

module _ {T : Type 0} (tails : TailWords T) (watch : Watch) (opened : List Opened) (moments : List ℕ) (queue box : ℕ) (when : When) where
  abbrev Stand : List Turned → Laning T → Type 0
  Stand = AreTurnedIn tails watch opened moments

  abbrev Tells : List (List Turned) → List (Laning T) → List Step → Type 0
  Tells = LanesTellOn tails watch opened moments

  abbrev all_of : List (List Turned) → List Turned
  all_of before = flat_map (λ (turned : List Turned). turned) before

  lane_and_others : (turned : List Turned) (before : List (List Turned)) (new : Laning T) (news : List (Laning T)) (first rest all : List Step) → all ≡ first ++ rest →
      TellOn tails.numbers tails.told watch opened moments turned new.harvesters (issued_in first) (noted_in first) (steps.spans_in first) →
      Tells before news rest → Tells (turned ∷ before) (new ∷ news) all
  lane_and_others turned before new news first rest all are on others = record {
    after = on.after ∷ others.after;
    stand = (on.stand, others.stand);
    gave = subst (λ (l : List Step). GaveMore (turned ++ all_of before) (on.after ++ all_of others.after) (issued_in l) (noted_in l) (steps.spans_in l)) (sym are) together;
  }
    where
      put : GaveMore (turned ++ all_of before) (on.after ++ all_of others.after) (issued_in first ++ issued_in rest) (noted_in first ++ noted_in rest) (steps.spans_in first + steps.spans_in rest)
      put = gave_both turned on.after (all_of before) (all_of others.after) (issued_in first) (issued_in rest) (noted_in first) (noted_in rest)
          (steps.spans_in first) (steps.spans_in rest) on.gave others.gave

      G : List Parcel → List Note → ℕ → Type 0
      G = GaveMore (turned ++ all_of before) (on.after ++ all_of others.after)

      together : GaveMore (turned ++ all_of before) (on.after ++ all_of others.after) (issued_in (first ++ rest)) (noted_in (first ++ rest)) (steps.spans_in (first ++ rest))
      together = subst (λ (n : ℕ). G (issued_in (first ++ rest)) (noted_in (first ++ rest)) n) (sym (spans_both first rest))
          (subst (λ (l : List Note). G (issued_in (first ++ rest)) l (steps.spans_in first + steps.spans_in rest)) (sym (noted_both first rest))
          (subst (λ (l : List Parcel). G l (noted_in first ++ noted_in rest) (steps.spans_in first + steps.spans_in rest)) (sym (issued_both first rest)) put))

  pub lanes_tell : (all : List Step) (before : List (List Turned)) (olds news : List (Laning T)) → when.last ≡ watch.once → EndsAt moments when.now.0 →
      AreStepsOf tails queue box when all olds news → Pairs Stand before olds → Tells before news all
  lanes_tell all [] [] [] last ends are stand = record {
    after = [];
    stand = tt;
    gave = subst (λ (l : List Step). GaveMore [] [] (issued_in l) (noted_in l) (steps.spans_in l)) (sym are) (gave_none []);
  }
  lanes_tell all [] [] (new ∷ news) last ends are stand = absurd are
  lanes_tell all [] (old ∷ olds) news last ends are stand = absurd stand
  lanes_tell all (turned ∷ before) [] news last ends are stand = absurd stand
  lanes_tell all (turned ∷ before) (old ∷ olds) [] last ends are stand = absurd are
  lanes_tell all (turned ∷ before) (old ∷ olds) (new ∷ news) last ends are stand =
      let keeps = are.0.keeps in
      lane_and_others turned before new news keeps.steps are.1 all are.2
      (run_tells watch moments tails.numbers tails.told opened tails.faults when keeps.steps turned old.harvesters new.harvesters last ends are.0.at keeps.ran stand.0)
      (lanes_tell are.1 before olds news last ends are.3 stand.1)

-- ---- lanes that differ in their passes alone

module _ {T : Type 0} where
  -- what is said of harvesters and counts is said of the one as of the other
  pub same_but_passes : (P : Laning T → Type 0) → ((lane other : Laning T) → lane.harvesters ≡ other.harvesters → P lane → P other) → (lanes others : List (Laning T)) →
      bare_lanes others ≡ bare_lanes lanes → AllByRecursion P lanes → AllByRecursion P others
  same_but_passes P carry [] [] same each = tt
  same_but_passes P carry [] (other ∷ others) same each = absurd cc
  same_but_passes P carry (lane ∷ lanes) [] same each = absurd cc
  same_but_passes P carry (lane ∷ lanes) (other ∷ others) same each =
      let bare : without_passes other ≡ without_passes lane = cc in
      let here : lane.harvesters ≡ other.harvesters = ap (λ (l : Laning T). l.harvesters) (sym bare) in
      let later : bare_lanes others ≡ bare_lanes lanes = cc in
      (carry lane other here each.0, same_but_passes P carry lanes others later each.1)

  pub pairs_but_passes : (tails : TailWords T) (watch : Watch) (opened : List Opened) (moments : List ℕ) (files : List (List Turned)) (lanes others : List (Laning T)) →
      bare_lanes others ≡ bare_lanes lanes → Pairs (AreTurnedIn tails watch opened moments) files lanes → Pairs (AreTurnedIn tails watch opened moments) files others
  pairs_but_passes tails watch opened moments [] [] [] same stand = tt
  pairs_but_passes tails watch opened moments [] [] (other ∷ others) same stand = absurd cc
  pairs_but_passes tails watch opened moments [] (lane ∷ lanes) others same stand = absurd stand
  pairs_but_passes tails watch opened moments (turned ∷ files) [] others same stand = absurd stand
  pairs_but_passes tails watch opened moments (turned ∷ files) (lane ∷ lanes) [] same stand = absurd cc
  pairs_but_passes tails watch opened moments (turned ∷ files) (lane ∷ lanes) (other ∷ others) same stand =
      let bare : without_passes other ≡ without_passes lane = cc in
      let here : lane.harvesters ≡ other.harvesters = ap (λ (l : Laning T). l.harvesters) (sym bare) in
      let later : bare_lanes others ≡ bare_lanes lanes = cc in (
        subst (λ (hs : List (Harvester T)). Pairs (IsTurnedSo tails.numbers tails.told watch opened moments) turned hs) here stand.0,
        pairs_but_passes tails watch opened moments files lanes others later stand.1,
      )

  pub spans_but_passes : (lanes others : List (Laning T)) → bare_lanes others ≡ bare_lanes lanes → spans_told others ≡ spans_told lanes
  spans_but_passes [] [] same = refl
  spans_but_passes [] (other ∷ others) same = absurd cc
  spans_but_passes (lane ∷ lanes) [] same = absurd cc
  spans_but_passes (lane ∷ lanes) (other ∷ others) same =
      let bare : without_passes other ≡ without_passes lane = cc in
      let here : other.spans ≡ lane.spans = ap (λ (l : Laning T). l.spans) bare in
      let later : bare_lanes others ≡ bare_lanes lanes = cc in
      let rest = spans_but_passes lanes others later in omega (arith, here, rest)

  -- ---- counts of spans

  pub lanes_spans : (tails : TailWords T) (queue box : ℕ) (when : When) (all : List Step) (olds news : List (Laning T)) → AreStepsOf tails queue box when all olds news →
      spans_told news < 2 ^ 64 - 1 → spans_told news ≡ spans_told olds + steps.spans_in all
  lanes_spans tails queue box when all [] [] are few = let none = ap steps.spans_in are in omega (arith, none)
  lanes_spans tails queue box when all [] (new ∷ news) are few = absurd are
  lanes_spans tails queue box when all (old ∷ olds) [] are few = absurd are
  lanes_spans tails queue box when all (old ∷ olds) (new ∷ news) are few =
      let first = are.0.keeps.spans in
      let rest = lanes_spans tails queue box when are.1 olds news are.3 (omega (arith, few)) in
      let together = ap steps.spans_in are.2 ∙ spans_both are.0.keeps.steps are.1 in
      omega (arith, few, first, rest, together)

  -- ---- as further moments come

  module _ (tails : TailWords T) (watch : Watch) (opened : List Opened) (moments : List ℕ) where
    one_later : (more : List ℕ) (turned : List Turned) (lane : Laning T) → AreTurnedIn tails watch opened moments turned lane →
        AreTurnedIn tails watch opened (moments ++ more) turned lane
    one_later more turned lane stand =
        subst (λ (l : List Opened). AreTurnedIn tails watch l (moments ++ more) turned lane) (append-nil opened)
        (each_stands_later tails.numbers tails.told watch opened moments [] more turned lane.harvesters stand)

    pub lanes_later : (more : List ℕ) (files : List (List Turned)) (lanes : List (Laning T)) → Pairs (AreTurnedIn tails watch opened moments) files lanes →
        Pairs (AreTurnedIn tails watch opened (moments ++ more)) files lanes
    lanes_later more [] [] stand = tt
    lanes_later more [] (lane ∷ lanes) stand = absurd stand
    lanes_later more (turned ∷ files) [] stand = absurd stand
    lanes_later more (turned ∷ files) (lane ∷ lanes) stand = (one_later more turned lane stand.0, lanes_later more files lanes stand.1)
