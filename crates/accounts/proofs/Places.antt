-- Each parcel that the talks of workers' wires acknowledged has a place, one place has one parcel, and wherever they acknowledge a
-- payload, a parcel is there.
use Rattle.std.proofs.Common.{◌≡◌, ◌⊎◌, inl, inr, ℕ, zero, suc, ◌+◌, Bool, true, false, List, [], ◌∷◌, ◌++◌, Contains, map, Option, None, Some, refl, sym, ap, subst, ◌∙◌, if◌then◌else◌}
use Rattle.std.specs.Prelude.{slice_get}
use Rattle.std.specs.List.{flat_map}
use Rattle.kept_rows.proofs.Acknowledging.{got_in_front}
use Rattle.kept_rows.specs.Account.{Place}
use Rattle.kept_rows.specs.Acknowledged.{IsAcknowledgedAt, open_talks, talk_of}
use Rattle.kept_rows.specs.Trace.{WireTold}
use Rattle.lumber_client.specs.Exchange.{payloads_of}
use Rattle.lumber_frame.specs.Acknowledged.{Acknowledges}
use Rattle.outside.specs.Wires.{Finished, Outcome, Refused}
use Rattle.ship_core.proofs.Members.{first_there, later_there, none_there, there_cases}
use Rattle.wire_base.specs.declared.parcel.Parcel.{Parcel}
use Rattle.wire_base.specs.declared.talk.Piece.{Piece}
use Rattle.accounts.specs.Once.{AreOnce}
use Rattle.accounts.specs.Places.{AreOfWorkers, ArePlaces, IsPlacedWell, Placement, place_among, placements_at, placements_in, placements_of}
use Rattle.accounts.specs.Same.{same_parcel}
use Rattle.accounts.specs.Taken.{Taken, acknowledged_in}
use Rattle.accounts.specs.Turning.{Pairs}
use Rattle.accounts.proofs.Backing.{mapped_there}
use Rattle.accounts.proofs.Grounded.{of_map}
use Rattle.accounts.proofs.Located.{AreParts, HaveParts, IsLocated, all_located, all_parts, flat, has_parcel, located_there}
use Rattle.accounts.proofs.Often.{once_apart, once_others}
use Rattle.accounts.proofs.Orderly.{member_is}
use Rattle.accounts.proofs.Same.{tells_parcels}

pub same_some : {A : Type 0} (o : Option A) (x y : A) → o ≡ Some x → o ≡ Some y → x ≡ y
same_some o x y is and = let q : Some x ≡ Some y = sym is ∙ and in cc

-- one place has one parcel
one_parcel : (all : List (List (List Parcel))) (one other : Placement) → IsLocated all one → IsLocated all other → one.place ≡ other.place → one.parcel ≡ other.parcel
one_parcel all one other is and same =
    let parts = same_some (slice_get all other.place.wire) is.parts and.parts (ap (λ (p : Place). slice_get all p.wire) (sym same) ∙ is.wire) and.wire in
    let part = same_some (slice_get and.parts other.place.connection) is.part and.part
    (ap (λ (p : Place). slice_get and.parts p.connection) (sym same) ∙ ap (λ (l : List (List Parcel)). slice_get l one.place.connection) (sym parts) ∙ is.connection) and.connection in
    same_some (slice_get and.part other.place.number) one.parcel other.parcel
    (ap (λ (p : Place). slice_get and.part p.number) (sym same) ∙ ap (λ (l : List Parcel). slice_get l one.place.number) (sym part) ∙ is.number) and.number

-- ---- what is among them

record IsAmong (placements : List Placement) (parcel : Parcel) (place : Place) : Type 0 where
  one : Placement
  among : Contains placements one
  parcel_is : one.parcel ≡ parcel
  place_is : one.place ≡ place

among : (placements : List Placement) (parcel : Parcel) (place : Place) → place_among placements parcel ≡ Some place → IsAmong placements parcel place
among [] parcel place is = absurd cc
among (first ∷ placements) parcel place is = by_case (same_parcel first.parcel parcel) refl is (among placements parcel place)
  where
    by_case : (b : Bool) → same_parcel first.parcel parcel ≡ b → (if b then Some first.place else place_among placements parcel) ≡ Some place →
        (place_among placements parcel ≡ Some place → IsAmong placements parcel place) → IsAmong (first ∷ placements) parcel place
    by_case true same q others =
        let there : first.place ≡ place = cc in
        record { one = first; among = first_there first placements; parcel_is = tells_parcels.tells first.parcel parcel same; place_is = there }
    by_case false other q others =
        let later = others q in
        record { one = later.one; among = later_there first later.one placements later.among; parcel_is = later.parcel_is; place_is = later.place_is }

record HasPlace (o : Option Place) : Type 0 where
  place : Place
  is : o ≡ Some place

has_place : (placements : List Placement) (one : Placement) → Contains placements one → HasPlace (place_among placements one.parcel)
has_place [] one there = absurd (none_there one there)
has_place (first ∷ placements) one there = by_case (same_parcel first.parcel one.parcel) refl (there_cases first one placements there) (has_place placements one)
  where
    by_case : (b : Bool) → same_parcel first.parcel one.parcel ≡ b → (first ≡ one) ⊎ Contains placements one → (Contains placements one → HasPlace (place_among placements one.parcel)) →
        HasPlace (if b then Some first.place else place_among placements one.parcel)
    by_case true same cases others = record { place = first.place; is = refl }
    by_case false other (inl here) others =
        absurd (let no : true ≡ false = sym (tells_parcels.itself one.parcel) ∙ ap (λ (s : Placement). same_parcel s.parcel one.parcel) (sym here) ∙ other in cc)
    by_case false other (inr later) others = others later

-- ---- all parcels are there

abbrev parcels_in : List Placement → List Parcel
parcels_in placements = map (λ (one : Placement). one.parcel) placements

map_both : (xs ys : List Placement) → parcels_in (xs ++ ys) ≡ parcels_in xs ++ parcels_in ys
map_both [] ys = refl
map_both (x ∷ xs) ys = ap (λ (l : List Parcel). x.parcel ∷ l) (map_both xs ys)

at_parcels : (wire connection number : ℕ) (parcels : List Parcel) → parcels_in (placements_at wire connection number parcels) ≡ parcels
at_parcels wire connection number [] = refl
at_parcels wire connection number (parcel ∷ parcels) = ap (λ (l : List Parcel). parcel ∷ l) (at_parcels wire connection (number + 1) parcels)

of_parcels : (wire connection : ℕ) (parts : List (List Parcel)) → parcels_in (placements_of wire connection parts) ≡ flat parts
of_parcels wire connection [] = refl
of_parcels wire connection (part ∷ parts) =
    map_both (placements_at wire connection 0 part) (placements_of wire (connection + 1) parts)
    ∙ ap (λ (l : List Parcel). l ++ parcels_in (placements_of wire (connection + 1) parts)) (at_parcels wire connection 0 part)
    ∙ ap (λ (l : List Parcel). part ++ l) (of_parcels wire (connection + 1) parts)

all_parcels : (wire : ℕ) (all : List (List (List Parcel))) → parcels_in (placements_in wire all) ≡ flat_map flat all
all_parcels wire [] = refl
all_parcels wire (parts ∷ all) =
    map_both (placements_of wire 0 parts) (placements_in (wire + 1) all)
    ∙ ap (λ (l : List Parcel). l ++ parcels_in (placements_in (wire + 1) all)) (of_parcels wire 0 parts)
    ∙ ap (λ (l : List Parcel). flat parts ++ l) (all_parcels (wire + 1) all)

-- ---- acknowledged there

pub got_mapped : {A B : Type 0} (f : A → B) (xs : List A) (k : ℕ) (x : A) → slice_get xs k ≡ Some x → slice_get (map f xs) k ≡ Some (f x)
got_mapped f [] k x at = absurd cc
got_mapped f (first ∷ xs) zero x at = let same : first ≡ x = cc in ap (λ y. Some (f y)) same
got_mapped f (first ∷ xs) (suc k) x at = got_mapped f xs k x at

record HasTalk (outcomes : List Outcome) (connection : ℕ) (part : List Parcel) : Type 0 where
  talk : List Piece
  talk_is : slice_get (map talk_of outcomes) connection ≡ Some (Some talk)
  acknowledges : Acknowledges talk (payloads_of part)

has_talk : (outcomes : List Outcome) (parts : List (List Parcel)) (connection : ℕ) (part : List Parcel) (number : ℕ) (parcel : Parcel) → AreParts outcomes parts →
    slice_get parts connection ≡ Some part → slice_get part number ≡ Some parcel → HasTalk outcomes connection part
has_talk [] [] connection part number parcel are there at = absurd cc
has_talk [] (first ∷ parts) connection part number parcel are there at = absurd are
has_talk (outcome ∷ outcomes) [] connection part number parcel are there at = absurd cc
has_talk (Refused ∷ outcomes) (first ∷ parts) zero part number parcel are there at =
    let here : first ≡ part = cc in
    absurd (let q : None ≡ Some parcel = ap (λ (l : List Parcel). slice_get l number) (sym are.0 ∙ here) ∙ at in cc)
has_talk (Refused ∷ outcomes) (first ∷ parts) (suc connection) part number parcel are there at =
    let later = has_talk outcomes parts connection part number parcel are.1 there at in
    record { talk = later.talk; talk_is = later.talk_is; acknowledges = later.acknowledges }
has_talk (Finished talk faults idles ∷ outcomes) (first ∷ parts) zero part number parcel are there at =
    let here : first ≡ part = cc in
    record { talk = talk.pieces; talk_is = refl; acknowledges = subst (λ (l : List Parcel). Acknowledges talk.pieces (payloads_of l)) here are.0 }
has_talk (Finished talk faults idles ∷ outcomes) (first ∷ parts) (suc connection) part number parcel are there at =
    let later = has_talk outcomes parts connection part number parcel are.1 there at in
    record { talk = later.talk; talk_is = later.talk_is; acknowledges = later.acknowledges }

record HasWire (wires : List WireTold) (number : ℕ) (parts : List (List Parcel)) : Type 0 where
  wire : WireTold
  wire_is : slice_get wires number ≡ Some wire
  are : AreParts wire.outcomes parts

has_wire : (all : List (List (List Parcel))) (wires : List WireTold) (number : ℕ) (parts : List (List Parcel)) →
    Pairs (λ parts (wire : WireTold). AreParts wire.outcomes parts) all wires → slice_get all number ≡ Some parts → HasWire wires number parts
has_wire [] [] number parts are at = absurd cc
has_wire [] (wire ∷ wires) number parts are at = absurd are
has_wire (first ∷ all) [] number parts are at = absurd are
has_wire (first ∷ all) (wire ∷ wires) zero parts are at =
    let here : first ≡ parts = cc in
    record { wire = wire; wire_is = refl; are = subst (AreParts wire.outcomes) here are.0 }
has_wire (first ∷ all) (wire ∷ wires) (suc number) parts are at =
    let later = has_wire all wires number parts are.1 at in
    record { wire = later.wire; wire_is = later.wire_is; are = later.are }

acknowledged_there : (wires : List WireTold) (all : List (List (List Parcel))) (one : Placement) → Pairs (λ parts (wire : WireTold). AreParts wire.outcomes parts) all wires →
    IsLocated all one → IsAcknowledgedAt wires one.parcel.payload one.place
acknowledged_there wires all one are is =
    let wire = has_wire all wires one.place.wire is.parts are is.wire in
    let talk = has_talk wire.wire.outcomes is.parts one.place.connection is.part one.place.number one.parcel wire.are is.connection is.number in
    record {
      wire = wire.wire;
      wire_is = wire.wire_is;
      talk = talk.talk;
      talk_is = got_in_front (map talk_of wire.wire.outcomes) (open_talks wire.wire.open_talk) one.place.connection (Some talk.talk) talk.talk_is;
      acknowledged = payloads_of is.part;
      acknowledges = talk.acknowledges;
      stands = got_mapped (λ (parcel : Parcel). parcel.payload) is.part one.place.number one.parcel is.number;
    }

-- if no parcel stands twice, each has its one place
its_place : (placements : List Placement) (one : Placement) → AreOnce same_parcel (parcels_in placements) → Contains placements one → place_among placements one.parcel ≡ Some one.place
its_place [] one once there = absurd (none_there one there)
its_place (first ∷ placements) one once there =
    by_case (same_parcel first.parcel one.parcel) refl (there_cases first one placements there)
    (its_place placements one (once_others same_parcel tells_parcels first.parcel (parcels_in placements) once))
  where
    by_case : (b : Bool) → same_parcel first.parcel one.parcel ≡ b → (first ≡ one) ⊎ Contains placements one → (Contains placements one → place_among placements one.parcel ≡ Some one.place) →
        (if b then Some first.place else place_among placements one.parcel) ≡ Some one.place
    by_case true same (inl here) others = ap (λ (s : Placement). Some s.place) here
    by_case true same (inr later) others =
        absurd (once_apart same_parcel tells_parcels first.parcel (parcels_in placements) once
        (subst (Contains (parcels_in placements)) (sym (tells_parcels.tells first.parcel one.parcel same)) (mapped_there (λ (s : Placement). s.parcel) placements one later)))
    by_case false other (inl here) others =
        absurd (let no : true ≡ false = sym (tells_parcels.itself one.parcel) ∙ ap (λ (s : Placement). same_parcel s.parcel one.parcel) (sym here) ∙ other in cc)
    by_case false other (inr later) others = others later

-- ---- together

pub record HavePlaces (workers : List Taken) (wires : List WireTold) : Type 0 where
  pub placed : Parcel → Option Place
  pub are : ArePlaces placed workers wires

module _ (workers : List Taken) (wires : List WireTold) (of : AreOfWorkers workers wires) (once : AreOnce same_parcel (acknowledged_in workers)) where
  parts : HaveParts workers wires
  parts = all_parts workers wires of

  abbrev placements : List Placement
  placements = placements_in 0 parts.all

  one_each : (parcel other : Parcel) (place : Place) → place_among placements parcel ≡ Some place → place_among placements other ≡ Some place → parcel ≡ other
  one_each parcel other place is and =
      let one = among placements parcel place is in
      let two = among placements other place and in
      let located = all_located parts.all in
      sym one.parcel_is
      ∙ one_parcel parts.all one.one two.one (member_is (IsLocated parts.all) placements one.one located one.among) (member_is (IsLocated parts.all) placements two.one located two.among)
      (one.place_is ∙ sym two.place_is)
      ∙ two.parcel_is

  well : (parcel : Parcel) → Contains (acknowledged_in workers) parcel → IsPlacedWell (place_among placements) wires parcel
  well parcel there =
      let mapped = of_map (λ (one : Placement). one.parcel) placements parcel
      (subst (λ (l : List Parcel). Contains l parcel) (sym (all_parcels 0 parts.all ∙ parts.together)) there) in
      let has = has_place placements mapped.item mapped.among in
      let is : place_among placements parcel ≡ Some has.place = ap (place_among placements) (sym mapped.is) ∙ has.is in
      let one = among placements parcel has.place is in
      let located = member_is (IsLocated parts.all) placements one.one (all_located parts.all) one.among in
      record {
        place = has.place;
        is = is;
        stands = subst (λ (p : Parcel). IsAcknowledgedAt wires p.payload has.place) one.parcel_is
            (subst (IsAcknowledgedAt wires one.one.parcel.payload) one.place_is (acknowledged_there wires parts.all one.one parts.are located));
      }

  no_other : (parcel : Parcel) (place : Place) → place_among placements parcel ≡ Some place → Contains (acknowledged_in workers) parcel
  no_other parcel place is =
      let one = among placements parcel place is in
      subst (Contains (acknowledged_in workers)) one.parcel_is
      (subst (λ (l : List Parcel). Contains l one.one.parcel) (all_parcels 0 parts.all ∙ parts.together) (mapped_there (λ (s : Placement). s.parcel) placements one.one one.among))

  every : (payload : List ℕ) (place : Place) → IsAcknowledgedAt wires payload place → (parcel : Parcel) × (place_among placements parcel ≡ Some place)
  every payload place stands =
      let has = has_parcel workers wires parts.all payload place parts.are of stands in
      let one : Placement = record { parcel = has.parcel; place = place } in
      (has.parcel, its_place placements one (subst (AreOnce same_parcel) (sym (all_parcels 0 parts.all ∙ parts.together)) once) (located_there parts.all one has.located))

  pub have_places : HavePlaces workers wires
  have_places = record { placed = place_among placements; are = record { one_each = one_each; well = well; no_other = no_other; every = every } }
