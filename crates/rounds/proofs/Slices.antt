-- What was done to the slice of a list is done to the list.
use Rattle.std.specs.Vec.{with_items}
use Rattle.std.proofs.Common.{◌≡◌, ◌≢◌, List, [], ◌∷◌, Vec, length, map, refl, sym, ap, subst, ◌∙◌, arith}
use Rattle.std.proofs.lemmas.List.{length-map, with_items_is}
use Rattle.atomic_table.specs.Seated.{TableId}
use Rattle.lanes.specs.Laning.{laning, without_passes}
use Rattle.lanes.specs.declared.lane.Lane.{Lane}
use Rattle.settle_box.specs.declared.sender.Sent.{Sent}
use Rattle.rounds.specs.Crewed.{bare_carrier, bare_carriers, bare_lanes, lanings}
use Rattle.rounds.specs.Meeting.{HaveMet}
use Rattle.rounds.specs.Pairs.{Pairs}
use Rattle.rounds.specs.declared.carrier.Carrier.{Carrier}

pub as_many : {A B : Type 0} (f : A → B) (xs ys : List A) → map f xs ≡ map f ys → length xs ≡ length ys
as_many f xs ys same = sym (length-map xs f) ∙ ap length same ∙ length-map ys f

-- as many lanes, and as many workers, are there without their passes
some_as_many : {A B : Type 0} (xs : List A) (ys : List B) → length xs ≡ length ys → ys ≢ [] → xs ≢ []
some_as_many xs [] many some = absurd (some refl)
some_as_many [] (y ∷ ys) many some = absurd (omega (arith, many))
some_as_many (x ∷ xs) (y ∷ ys) many some = λ is. cc

pub some_lanes : {T : Type 0} (lanes later : List (Lane T)) → lanings later ≡ bare_lanes (lanings lanes) → lanes ≢ [] → later ≢ []
some_lanes lanes later bare some = some_as_many later lanes (sym (length-map later laning) ∙ ap length bare ∙ length-map (lanings lanes) without_passes ∙ length-map lanes laning) some

pub some_carriers : {W L : Type 0} (carriers later : List (Carrier W L)) → later ≡ bare_carriers carriers → carriers ≢ [] → later ≢ []
some_carriers carriers later bare some = some_as_many later carriers (ap length bare ∙ length-map carriers bare_carrier) some

pub paired_many : {A B : Type 0} (R : A → B → Type 0) (xs : List A) (ys : List B) → Pairs R xs ys → length ys ≡ length xs
paired_many R [] [] pairs = refl
paired_many R [] (y ∷ ys) pairs = absurd pairs
paired_many R (x ∷ xs) [] pairs = absurd pairs
paired_many R (x ∷ xs) (y ∷ ys) pairs = omega (arith, paired_many R xs ys pairs.1)

-- the elements of a list whose slice was changed, none of them more or less
items_are : {A Z : Type 0} (v : Vec A Z) (ws : List A) → length ws ≡ length v.items → (with_items v ws).items ≡ ws
items_are v ws many = with_items_is v ws (many ∙ sym v.ok.0)

pub paired_in : {A Z : Type 0} (R : A → A → Type 0) (v : Vec A Z) (ws : List A) → Pairs R v.items ws → Pairs R v.items (with_items v ws).items
paired_in {A} R v ws pairs = subst (λ (l : List A). Pairs R v.items l) (sym (items_are v ws (paired_many R v.items ws pairs))) pairs

pub mapped_in : {A B Z : Type 0} (R : B → B → Type 0) (f : A → B) (v : Vec A Z) (ws : List A) → Pairs R (map f v.items) (map f ws) → Pairs R (map f v.items) (map f (with_items v ws).items)
mapped_in {A} R f v ws pairs =
    subst (λ (l : List A). Pairs R (map f v.items) (map f l)) (sym (items_are v ws (sym (length-map ws f) ∙ paired_many R (map f v.items) (map f ws) pairs ∙ length-map v.items f))) pairs

pub met_in : {T W L Z : Type 0} (queue desk : TableId) (got : List Sent) (lanes : Vec (Lane T) Z) (new_lanes : List (Lane T)) (carriers : Vec (Carrier W L) Z) (new_carriers : List (Carrier W L))
    → HaveMet queue desk got (lanings lanes.items) (lanings new_lanes) carriers.items new_carriers
    → HaveMet queue desk got (lanings lanes.items) (lanings (with_items lanes new_lanes).items) carriers.items (with_items carriers new_carriers).items
met_in {T} {W} {L} queue desk got lanes new_lanes carriers new_carriers met =
    let many_lanes = sym (length-map new_lanes laning) ∙ as_many _ (lanings new_lanes) (lanings lanes.items) met.lanes_same ∙ length-map lanes.items laning in
    let many_carriers = as_many bare_carrier new_carriers carriers.items met.carriers_same in
    subst (λ (l : List (Lane T)). HaveMet queue desk got (lanings lanes.items) (lanings l) carriers.items (with_items carriers new_carriers).items) (sym (items_are lanes new_lanes many_lanes))
    (subst (λ (l : List (Carrier W L)). HaveMet queue desk got (lanings lanes.items) (lanings new_lanes) carriers.items l) (sym (items_are carriers new_carriers many_carriers)) met)
