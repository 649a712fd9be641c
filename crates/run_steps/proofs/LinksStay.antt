-- The last steps touch no wire, and make and end no link.
use Rattle.std.proofs.Common.{◌≡◌, ℕ, List, [], ◌∷◌, Option, Some, None, is_some, refl, sym, ap, subst, ◌∙◌, arith}
use Rattle.batch_worker.specs.Seen.{Seen, with_link}
use Rattle.mem_queue.specs.BoundedQueue.{BoundedQueue}
use Rattle.rounds.specs.Crewed.{bare_carriers}
use Rattle.rounds.specs.Crewing.{Crewing}
use Rattle.rounds.specs.Pairs.{Pairs}
use Rattle.rounds.specs.Settling.{CarrierHandedOn, Settles}
use Rattle.rounds.specs.Words.{LinkWords, Words}
use Rattle.rounds.specs.declared.answer.Round.{Round}
use Rattle.rounds.specs.declared.carrier.Carrier.{Carrier}
use Rattle.settle_box.specs.BoundedBox.{BoundedBox}
use Rattle.run_steps.specs.CarriersFail.{KeepsLink, LinksStay}

-- what a wire would show that had no links of others
abbrev alone : {L : Type 0} → Option L → Seen
alone link = record { outcomes = None; open_links = with_link 0 link; faults = 0; idles = 0 }

linked_by_count : {L : Type 0} (old new : Option L) → with_link 0 old ≡ with_link 0 new → is_some new ≡ is_some old
linked_by_count None None is = refl
linked_by_count None (Some link) is = absurd (omega (arith, is))
linked_by_count (Some link) None is = absurd (omega (arith, is))
linked_by_count (Some link) (Some other) is = refl

module _ {W L : Type 0} where
  stay_same : (carriers : List (Carrier W L)) → Pairs KeepsLink carriers carriers
  stay_same [] = tt
  stay_same (x ∷ carriers) = (record { wire = refl; linked = refl }, stay_same carriers)

  pub links_same : (carriers : List (Carrier W L)) → LinksStay carriers carriers
  unfolding LinksStay
  links_same carriers = stay_same carriers

  stay_on : (xs ys zs : List (Carrier W L)) → Pairs KeepsLink xs ys → Pairs KeepsLink ys zs → Pairs KeepsLink xs zs
  stay_on [] [] [] first then = tt
  stay_on [] [] (z ∷ zs) first then = absurd then
  stay_on [] (y ∷ ys) zs first then = absurd first
  stay_on (x ∷ xs) [] zs first then = absurd first
  stay_on (x ∷ xs) (y ∷ ys) [] first then = absurd then
  stay_on (x ∷ xs) (y ∷ ys) (z ∷ zs) first then =
      (record { wire = then.0.wire ∙ first.0.wire; linked = then.0.linked ∙ first.0.linked }, stay_on xs ys zs first.1 then.1)

  pub links_on : (xs ys zs : List (Carrier W L)) → LinksStay xs ys → LinksStay ys zs → LinksStay xs zs
  unfolding LinksStay
  links_on xs ys zs first then = stay_on xs ys zs first then

  -- ---- as passes meet

  from_bare : (xs ys : List (Carrier W L)) → Pairs KeepsLink xs (bare_carriers ys) → Pairs KeepsLink xs ys
  from_bare [] [] stay = tt
  from_bare [] (y ∷ ys) stay = absurd stay
  from_bare (x ∷ xs) [] stay = absurd stay
  from_bare (x ∷ xs) (y ∷ ys) stay = (record { wire = stay.0.wire; linked = stay.0.linked }, from_bare xs ys stay.1)

  to_bare : (xs ys : List (Carrier W L)) → Pairs KeepsLink xs ys → Pairs KeepsLink xs (bare_carriers ys)
  to_bare [] [] stay = tt
  to_bare [] (y ∷ ys) stay = absurd stay
  to_bare (x ∷ xs) [] stay = absurd stay
  to_bare (x ∷ xs) (y ∷ ys) stay = (record { wire = stay.0.wire; linked = stay.0.linked }, to_bare xs ys stay.1)

  -- ---- as notes are handed on

  pub handed_stays : (links : LinkWords L) (box : ℕ) (x y : Carrier W L) → CarrierHandedOn links box x y → KeepsLink x y
  handed_stays links box x y handed = record {
    wire = ap (λ (c : Carrier W L). c.wire) handed.others;
    linked = linked_by_count x.worker.link y.worker.link ((handed.goes (alone x.worker.link)).keeps.open_links 0 refl (λ end. omega (arith, end)));
  }

  all_stay : (links : LinkWords L) (box : ℕ) (xs ys : List (Carrier W L)) → Pairs (CarrierHandedOn links box) xs ys → Pairs KeepsLink xs ys
  all_stay links box [] [] handed = tt
  all_stay links box [] (y ∷ ys) handed = absurd handed
  all_stay links box (x ∷ xs) [] handed = absurd handed
  all_stay links box (x ∷ xs) (y ∷ ys) handed = (handed_stays links box x y handed.0, all_stay links box xs ys handed.1)

pub links_by_settling : {T W L D : Type 0} (words : Words T W L D) (queue : BoundedQueue) (desk : BoundedBox) (old new : Crewing T W L D) (round : Round) → Settles words queue desk old new round → LinksStay old.carriers.items new.carriers.items
unfolding LinksStay
links_by_settling {W = W} {L = L} words queue desk old new round settles =
    let mid = settles.mid in
    from_bare old.carriers.items new.carriers.items
    (subst (λ (cs : List (Carrier W L)). Pairs KeepsLink old.carriers.items cs) (sym settles.meets.met.carriers_same)
    (to_bare old.carriers.items mid.carriers.items (all_stay words.links desk.capacity old.carriers.items mid.carriers.items settles.handed.carriers)))
