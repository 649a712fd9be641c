-- Where the parcels are that the talks of workers' wires acknowledged, and that wherever they acknowledge a payload a parcel is there.
use Rattle.std.proofs.Common.{◌≡◌, ℕ, zero, suc, ◌+◌, List, [], ◌∷◌, ◌++◌, Contains, map, Option, None, Some, refl, sym, ap, subst, ◌∙◌, append-nil, arith}
use Rattle.std.specs.Prelude.{slice_get}
use Rattle.std.specs.List.{AllByRecursion, flat_map}
use Rattle.batch_worker.specs.Acknowledged.{AcknowledgeInAll}
use Rattle.kept_rows.proofs.Showing.{both}
use Rattle.kept_rows.specs.Account.{Place}
use Rattle.kept_rows.specs.Acknowledged.{IsAcknowledgedAt, open_talks, talk_of, talks_of}
use Rattle.kept_rows.specs.Trace.{WireTold}
use Rattle.lumber_client.specs.Exchange.{payloads_of}
use Rattle.lumber_frame.specs.Acknowledged.{Acknowledges}
use Rattle.outside.specs.Talks.{Talk}
use Rattle.outside.specs.Wires.{Finished, Outcome, Refused}
use Rattle.ship_core.proofs.Members.{first_there, later_there}
use Rattle.wire_base.specs.declared.parcel.Parcel.{Parcel}
use Rattle.wire_base.specs.declared.talk.Piece.{Piece}
use Rattle.accounts.specs.Places.{AreOfWorkers, Placement, placements_at, placements_in, placements_of}
use Rattle.accounts.specs.Taken.{Taken, acknowledged_in}
use Rattle.accounts.specs.Turning.{Pairs}
use Rattle.accounts.proofs.Failures.{one_reading}
use Rattle.accounts.proofs.Lists.{behind_there, front_there}

-- ---- the parts of what was acknowledged, one for each connection

abbrev pub flat : {A : Type 0} → List (List A) → List A
flat parts = flat_map (λ part. part) parts

-- a connection that was refused acknowledges none
abbrev pub AreParts : List Outcome → List (List Parcel) → Type 0
AreParts [] [] = Unit {0}
AreParts [] (part ∷ parts) = ⊥
AreParts (outcome ∷ outcomes) [] = ⊥
AreParts (Refused ∷ outcomes) (part ∷ parts) = (part ≡ []) × AreParts outcomes parts
AreParts (Finished talk faults idles ∷ outcomes) (part ∷ parts) = Acknowledges talk.pieces (payloads_of part) × AreParts outcomes parts

-- if a mapped list is cut, the list is
record IsCut {A B : Type 0} (f : A → B) (xs : List A) (first rest : List B) : Type 0 where
  front : List A
  behind : List A
  are : xs ≡ front ++ behind
  first_is : map f front ≡ first
  rest_is : map f behind ≡ rest

cut_mapped : {A B : Type 0} (f : A → B) (xs : List A) (first rest : List B) → map f xs ≡ first ++ rest → IsCut f xs first rest
cut_mapped f xs [] rest e = record { front = []; behind = xs; are = refl; first_is = refl; rest_is = e }
cut_mapped f [] (y ∷ first) rest e = absurd cc
cut_mapped f (x ∷ xs) (y ∷ first) rest e =
    let q : f x ∷ map f xs ≡ y ∷ (first ++ rest) = e in
    let same : f x ≡ y = cc in
    let later : map f xs ≡ first ++ rest = cc in
    let cut = cut_mapped f xs first rest later in
    record {
      front = x ∷ cut.front;
      behind = cut.behind;
      are = ap (λ l. x ∷ l) cut.are;
      first_is = λ k. same k ∷ cut.first_is k;
      rest_is = cut.rest_is;
    }

record HasParts (outcomes : List Outcome) (parcels : List Parcel) : Type 0 where
  parts : List (List Parcel)
  are : AreParts outcomes parts
  together : flat parts ≡ parcels

parts_of : (outcomes : List Outcome) (parcels : List Parcel) → AcknowledgeInAll outcomes (payloads_of parcels) → HasParts outcomes parcels
parts_of [] [] are = record { parts = []; are = tt; together = refl }
parts_of [] (parcel ∷ parcels) are = absurd cc
parts_of (Refused ∷ outcomes) parcels are =
    let others = parts_of outcomes parcels are in record { parts = [] ∷ others.parts; are = (refl, others.are); together = others.together }
parts_of (Finished talk faults idles ∷ outcomes) parcels are =
    let cut = cut_mapped (λ (parcel : Parcel). parcel.payload) parcels are.first are.rest are.are in
    let others = parts_of outcomes cut.behind (subst (AcknowledgeInAll outcomes) (sym cut.rest_is) are.others) in
    record {
      parts = cut.front ∷ others.parts;
      are = (subst (Acknowledges talk.pieces) (sym cut.first_is) are.acknowledges, others.are);
      together = ap (λ (l : List Parcel). cut.front ++ l) others.together ∙ sym cut.are;
    }

-- of all wires
pub record HaveParts (workers : List Taken) (wires : List WireTold) : Type 0 where
  pub all : List (List (List Parcel))
  pub are : Pairs (λ parts (wire : WireTold). AreParts wire.outcomes parts) all wires
  pub together : flat_map flat all ≡ acknowledged_in workers

pub all_parts : (workers : List Taken) (wires : List WireTold) → AreOfWorkers workers wires → HaveParts workers wires
all_parts [] [] of = record { all = []; are = tt; together = refl }
all_parts [] (wire ∷ wires) of = absurd of
all_parts (taken ∷ workers) [] of = absurd of
all_parts (taken ∷ workers) (wire ∷ wires) of =
    let first = parts_of wire.outcomes taken.acknowledged of.0.talks.acknowledges in
    let others = all_parts workers wires of.1 in
    record {
      all = first.parts ∷ others.all;
      are = (first.are, others.are);
      together = ap (λ (l : List Parcel). l ++ flat_map flat others.all) first.together ∙ ap (λ (l : List Parcel). taken.acknowledged ++ l) others.together;
    }

-- ---- each is at its place

pub record IsLocated (all : List (List (List Parcel))) (one : Placement) : Type 0 where
  pub parts : List (List Parcel)
  pub wire : slice_get all one.place.wire ≡ Some parts
  pub part : List Parcel
  pub connection : slice_get parts one.place.connection ≡ Some part
  pub number : slice_get part one.place.number ≡ Some one.parcel

abbrev pub placement : ℕ → ℕ → ℕ → Parcel → Placement
placement wire connection number parcel = record { parcel = parcel; place = record { wire = wire; connection = connection; number = number } }

none_more : (n : ℕ) → n + 0 ≡ n
none_more n = omega arith

one_more : (n k : ℕ) → n + suc k ≡ n + 1 + k
one_more n k = omega arith

behind_none : (k : ℕ) → 0 + k ≡ k
behind_none k = omega arith

module _ (P : Placement → Type 0) where
  at_each : (wire connection number : ℕ) (parcels : List Parcel) → ((k : ℕ) (parcel : Parcel) → slice_get parcels k ≡ Some parcel → P (placement wire connection (number + k) parcel)) →
      AllByRecursion P (placements_at wire connection number parcels)
  at_each wire connection number [] each = tt
  at_each wire connection number (first ∷ parcels) each = (
    subst (λ (n : ℕ). P (placement wire connection n first)) (none_more number) (each 0 first refl),
    at_each wire connection (number + 1) parcels (λ k parcel at. subst (λ (n : ℕ). P (placement wire connection n parcel)) (one_more number k) (each (suc k) parcel at)),
  )

  of_each : (wire connection : ℕ) (parts : List (List Parcel)) →
      ((c : ℕ) (part : List Parcel) → slice_get parts c ≡ Some part → (k : ℕ) (parcel : Parcel) → slice_get part k ≡ Some parcel → P (placement wire (connection + c) k parcel)) →
      AllByRecursion P (placements_of wire connection parts)
  of_each wire connection [] each = tt
  of_each wire connection (first ∷ parts) each =
      both P (placements_at wire connection 0 first) (placements_of wire (connection + 1) parts)
      (at_each wire connection 0 first (λ k parcel at.
      subst (λ (n : ℕ). P (placement wire connection n parcel)) (sym (behind_none k))
      (subst (λ (n : ℕ). P (placement wire n k parcel)) (none_more connection) (each 0 first refl k parcel at))))
      (of_each wire (connection + 1) parts (λ c part there k parcel at.
      subst (λ (n : ℕ). P (placement wire n k parcel)) (one_more connection c) (each (suc c) part there k parcel at)))

  in_each : (wire : ℕ) (all : List (List (List Parcel))) →
      ((w : ℕ) (parts : List (List Parcel)) → slice_get all w ≡ Some parts → (c : ℕ) (part : List Parcel) → slice_get parts c ≡ Some part →
      (k : ℕ) (parcel : Parcel) → slice_get part k ≡ Some parcel → P (placement (wire + w) c k parcel)) → AllByRecursion P (placements_in wire all)
  in_each wire [] each = tt
  in_each wire (first ∷ all) each =
      both P (placements_of wire 0 first) (placements_in (wire + 1) all)
      (of_each wire 0 first (λ c part there k parcel at.
      subst (λ (n : ℕ). P (placement wire n k parcel)) (sym (behind_none c))
      (subst (λ (n : ℕ). P (placement n c k parcel)) (none_more wire) (each 0 first refl c part there k parcel at))))
      (in_each (wire + 1) all (λ w parts here c part there k parcel at.
      subst (λ (n : ℕ). P (placement n c k parcel)) (one_more wire w) (each (suc w) parts here c part there k parcel at)))

pub all_located : (all : List (List (List Parcel))) → AllByRecursion (IsLocated all) (placements_in 0 all)
all_located all =
    in_each (IsLocated all) 0 all
    (λ w parts here c part there k parcel at.
    subst (λ (n : ℕ). IsLocated all (placement n c k parcel)) (sym (behind_none w))
    (record { parts = parts; wire = here; part = part; connection = there; number = at }))

-- ---- where a payload is acknowledged, a parcel is there

record IsGot {A B : Type 0} (f : A → B) (xs : List A) (k : ℕ) (y : B) : Type 0 where
  item : A
  got : slice_get xs k ≡ Some item
  is : f item ≡ y

got_of_mapped : {A B : Type 0} (f : A → B) (xs : List A) (k : ℕ) (y : B) → slice_get (map f xs) k ≡ Some y → IsGot f xs k y
got_of_mapped f [] k y at = absurd cc
got_of_mapped f (x ∷ xs) zero y at = record { item = x; got = refl; is = let same : f x ≡ y = cc in same }
got_of_mapped f (x ∷ xs) (suc k) y at = let later = got_of_mapped f xs k y at in record { item = later.item; got = later.got; is = later.is }

-- the part of the connection whose talk this is
record HasPart (parts : List (List Parcel)) (connection : ℕ) (talk : List Piece) : Type 0 where
  part : List Parcel
  part_is : slice_get parts connection ≡ Some part
  acknowledges : Acknowledges talk (payloads_of part)

has_part : (outcomes : List Outcome) (parts : List (List Parcel)) (connection : ℕ) (talk : List Piece) → AreParts outcomes parts →
    slice_get (map talk_of outcomes) connection ≡ Some (Some talk) → HasPart parts connection talk
has_part [] parts connection talk are at = absurd cc
has_part (Refused ∷ outcomes) [] connection talk are at = absurd are
has_part (Finished one faults idles ∷ outcomes) [] connection talk are at = absurd are
has_part (Refused ∷ outcomes) (first ∷ parts) zero talk are at = absurd (let q : Some None ≡ Some (Some talk) = at in cc)
has_part (Finished one faults idles ∷ outcomes) (first ∷ parts) zero talk are at =
    let q : Some (Some one.pieces) ≡ Some (Some talk) = at in
    let here : one.pieces ≡ talk = cc in
    record { part = first; part_is = refl; acknowledges = subst (λ (pieces : List Piece). Acknowledges pieces (payloads_of first)) here are.0 }
has_part (Refused ∷ outcomes) (first ∷ parts) (suc connection) talk are at =
    let later = has_part outcomes parts connection talk are.1 at in
    record { part = later.part; part_is = later.part_is; acknowledges = later.acknowledges }
has_part (Finished one faults idles ∷ outcomes) (first ∷ parts) (suc connection) talk are at =
    let later = has_part outcomes parts connection talk are.1 at in
    record { part = later.part; part_is = later.part_is; acknowledges = later.acknowledges }

-- the parts of a wire, none of whose links is open
record HasWireParts (all : List (List (List Parcel))) (number : ℕ) (wire : WireTold) : Type 0 where
  parts : List (List Parcel)
  parts_are : slice_get all number ≡ Some parts
  are : AreParts wire.outcomes parts
  none_open : wire.open_talk ≡ None

has_wire_parts : (all : List (List (List Parcel))) (workers : List Taken) (wires : List WireTold) (number : ℕ) (wire : WireTold) →
    Pairs (λ parts (one : WireTold). AreParts one.outcomes parts) all wires → AreOfWorkers workers wires → slice_get wires number ≡ Some wire → HasWireParts all number wire
has_wire_parts all workers [] number wire are of at = absurd cc
has_wire_parts [] workers (first ∷ wires) number wire are of at = absurd are
has_wire_parts (parts ∷ all) [] (first ∷ wires) number wire are of at = absurd of
has_wire_parts (parts ∷ all) (taken ∷ workers) (first ∷ wires) zero wire are of at =
    let here : first ≡ wire = cc in
    record {
      parts = parts;
      parts_are = refl;
      are = subst (λ (one : WireTold). AreParts one.outcomes parts) here are.0;
      none_open = subst (λ (one : WireTold). one.open_talk ≡ None) here of.0.none_open;
    }
has_wire_parts (parts ∷ all) (taken ∷ workers) (first ∷ wires) (suc number) wire are of at =
    let later = has_wire_parts all workers wires number wire are.1 of.1 at in
    record { parts = later.parts; parts_are = later.parts_are; are = later.are; none_open = later.none_open }

pub record HasParcel (all : List (List (List Parcel))) (place : Place) : Type 0 where
  pub parcel : Parcel
  pub located : IsLocated all (record { parcel = parcel; place = place })

pub has_parcel : (workers : List Taken) (wires : List WireTold) (all : List (List (List Parcel))) (payload : List ℕ) (place : Place) →
    Pairs (λ parts (one : WireTold). AreParts one.outcomes parts) all wires → AreOfWorkers workers wires → IsAcknowledgedAt wires payload place → HasParcel all place
has_parcel workers wires all payload place are of stands =
    let wire = has_wire_parts all workers wires place.wire stands.wire are of stands.wire_is in
    let talks : talks_of stands.wire ≡ map talk_of stands.wire.outcomes =
    ap (λ (o : Option Talk). map talk_of stands.wire.outcomes ++ open_talks o) wire.none_open ∙ append-nil (map talk_of stands.wire.outcomes) in
    let part = has_part stands.wire.outcomes wire.parts place.connection stands.talk wire.are
    (ap (λ (l : List (Option (List Piece))). slice_get l place.connection) (sym talks) ∙ stands.talk_is) in
    let same = one_reading stands.talk stands.acknowledged (payloads_of part.part) stands.acknowledges part.acknowledges in
    let got = got_of_mapped (λ (parcel : Parcel). parcel.payload) part.part place.number payload
    (ap (λ (l : List (List ℕ)). slice_get l place.number) (sym same) ∙ stands.stands) in
    record {
      parcel = got.item;
      located = record { parts = wire.parts; wire = wire.parts_are; part = part.part; connection = part.part_is; number = got.got };
    }

-- ---- what is located is among the placements

there_at : (wire connection number : ℕ) (parcels : List Parcel) (k : ℕ) (parcel : Parcel) → slice_get parcels k ≡ Some parcel →
    Contains (placements_at wire connection number parcels) (placement wire connection (number + k) parcel)
there_at wire connection number [] k parcel at = absurd cc
there_at wire connection number (first ∷ parcels) zero parcel at =
    let here : first ≡ parcel = cc in
    subst (λ (n : ℕ). Contains (placements_at wire connection number (first ∷ parcels)) (placement wire connection n parcel)) (sym (none_more number))
    (subst (λ (one : Parcel). Contains (placements_at wire connection number (first ∷ parcels)) (placement wire connection number one)) here
    (first_there (placement wire connection number first) (placements_at wire connection (number + 1) parcels)))
there_at wire connection number (first ∷ parcels) (suc k) parcel at =
    later_there (placement wire connection number first) (placement wire connection (number + suc k) parcel) (placements_at wire connection (number + 1) parcels)
    (subst (λ (n : ℕ). Contains (placements_at wire connection (number + 1) parcels) (placement wire connection n parcel)) (sym (one_more number k))
    (there_at wire connection (number + 1) parcels k parcel at))

there_of : (wire connection : ℕ) (parts : List (List Parcel)) (c : ℕ) (part : List Parcel) → slice_get parts c ≡ Some part → (k : ℕ) (parcel : Parcel) → slice_get part k ≡ Some parcel →
    Contains (placements_of wire connection parts) (placement wire (connection + c) k parcel)
there_of wire connection [] c part there k parcel at = absurd cc
there_of wire connection (first ∷ parts) zero part there k parcel at =
    let here : first ≡ part = cc in
    front_there (placements_at wire connection 0 first) (placements_of wire (connection + 1) parts) (placement wire (connection + 0) k parcel)
    (subst (λ (n : ℕ). Contains (placements_at wire connection 0 first) (placement wire n k parcel)) (sym (none_more connection))
    (subst (λ (n : ℕ). Contains (placements_at wire connection 0 first) (placement wire connection n parcel)) (behind_none k)
    (there_at wire connection 0 first k parcel (ap (λ (l : List Parcel). slice_get l k) here ∙ at))))
there_of wire connection (first ∷ parts) (suc c) part there k parcel at =
    behind_there (placements_at wire connection 0 first) (placements_of wire (connection + 1) parts) (placement wire (connection + suc c) k parcel)
    (subst (λ (n : ℕ). Contains (placements_of wire (connection + 1) parts) (placement wire n k parcel)) (sym (one_more connection c))
    (there_of wire (connection + 1) parts c part there k parcel at))

there_in : (wire : ℕ) (all : List (List (List Parcel))) (w : ℕ) (parts : List (List Parcel)) → slice_get all w ≡ Some parts → (c : ℕ) (part : List Parcel) → slice_get parts c ≡ Some part →
    (k : ℕ) (parcel : Parcel) → slice_get part k ≡ Some parcel → Contains (placements_in wire all) (placement (wire + w) c k parcel)
there_in wire [] w parts here c part there k parcel at = absurd cc
there_in wire (first ∷ all) zero parts here c part there k parcel at =
    let own : first ≡ parts = cc in
    front_there (placements_of wire 0 first) (placements_in (wire + 1) all) (placement (wire + 0) c k parcel)
    (subst (λ (n : ℕ). Contains (placements_of wire 0 first) (placement n c k parcel)) (sym (none_more wire))
    (subst (λ (n : ℕ). Contains (placements_of wire 0 first) (placement wire n k parcel)) (behind_none c)
    (there_of wire 0 first c part (ap (λ (l : List (List Parcel)). slice_get l c) own ∙ there) k parcel at)))
there_in wire (first ∷ all) (suc w) parts here c part there k parcel at =
    behind_there (placements_of wire 0 first) (placements_in (wire + 1) all) (placement (wire + suc w) c k parcel)
    (subst (λ (n : ℕ). Contains (placements_in (wire + 1) all) (placement n c k parcel)) (sym (one_more wire w))
    (there_in (wire + 1) all w parts here c part there k parcel at))

pub located_there : (all : List (List (List Parcel))) (one : Placement) → IsLocated all one → Contains (placements_in 0 all) one
located_there all one is =
    subst (λ (n : ℕ). Contains (placements_in 0 all) (placement n one.place.connection one.place.number one.parcel)) (behind_none one.place.wire)
    (there_in 0 all one.place.wire is.parts is.wire one.place.connection is.part is.connection one.place.number one.parcel is.number)
