-- The files of a run in the order of their slots, each with what was reported of it, wherever its harvester was.
use Rattle.std.proofs.Common.{◌≡◌, ◌⊎◌, inl, inr, ℕ, ◌+◌, ◌≤◌, ◌==◌, Bool, List, [], ◌∷◌, ◌++◌, Contains, map, None, Some, refl, sym, ap, subst, ◌∙◌, arith}
use Rattle.std.specs.List.{AllByRecursion, flat_map}
use Rattle.std.proofs.lemmas.Bool.{eq-eqb, eqb-true}
use Rattle.std.proofs.lemmas.List.Elements.{Contains-append_cases, Contains-append_left, Contains-append_right}
use Rattle.outside.specs.Tails.{TailHistory}
use Rattle.outside.specs.declared.history.Look.{Look}
use Rattle.pass_sums.proofs.Weights.{weigh-append, weigh-flat_map, weigh-map}
use Rattle.pass_sums.specs.Weight.{AsOften, weigh}
use Rattle.ship_core.proofs.Members.{first_there, later_there}
use Rattle.wire_base.specs.declared.numbers.Slot.{Slot}
use Rattle.accounts.specs.Filed.{Filed, HasItsSlot, slot_in, turned_of}
use Rattle.accounts.specs.FollowedFile.{AreInSlots, tail_of}
use Rattle.accounts.specs.Opened.{Opened}
use Rattle.accounts.specs.Same.{TellsSame}
use Rattle.accounts.specs.ToldFile.{IsToldFile}
use Rattle.accounts.specs.Turned.{Turned}
use Rattle.accounts.specs.Watch.{Watch}
use Rattle.accounts.proofs.Grounded.{of_map}
use Rattle.accounts.proofs.Parts.{parts_at}
use Rattle.accounts.proofs.Often.{often_contains}

abbrev pub slots_of : List Turned → List Slot
slots_of files = map (λ (turned : Turned). turned.slot) files

abbrev pub slots_in : List Opened → List Slot
slots_in files = map (λ (opened : Opened). opened.begin.slot) files

abbrev pub same_slot : Slot → Slot → Bool
same_slot one other = one.0 == other.0

pub tells_slots : TellsSame same_slot
tells_slots = record {
  tells = λ one other same. let numbers : one.0 ≡ other.0 = eqb-true one.0 other.0 same in λ k. record { 0 = numbers k };
  itself = λ one. eq-eqb one.0 one.0 refl;
}

module _ (looks : Opened → List Look) (changed : Opened → ℕ) where
  -- it has what its tail told and what was noted of it, was told of its slot, is known from the first scan on, was opened once, as its slot begins, and was
  -- not removed
  pub record IsJoined (told : List Turned) (file : Filed) : Type 0 where
    pub looks_are : file.looks ≡ looks file.opened
    pub changed_is : file.changed ≡ changed file.opened
    pub slot : HasItsSlot file
    pub among : Contains told file.turned
    pub known_is : file.known_from ≡ 0
    pub alone : file.later ≡ []
    pub stays : file.removed ≡ None
    pub as_begun : file.shrank_from ≡ None

  pub record AreJoined (opened : List Opened) (told : List Turned) : Type 0 where
    pub files : List Filed
    pub opened_are : map (λ (file : Filed). file.opened) files ≡ opened
    pub turned_are : AsOften (turned_of files) told
    pub each : AllByRecursion (IsJoined told) files

  -- among more
  still_joined : (front behind : List Turned) (turned : Turned) (files : List Filed) → AllByRecursion (IsJoined (front ++ behind)) files →
      AllByRecursion (IsJoined (front ++ turned ∷ behind)) files
  still_joined front behind turned [] each = tt
  still_joined front behind turned (file ∷ files) each = (
    record { looks_are = each.0.looks_are; changed_is = each.0.changed_is; slot = each.0.slot; among = by_part (Contains-append_cases front behind file.turned each.0.among); known_is = each.0.known_is; alone = each.0.alone; stays = each.0.stays; as_begun = each.0.as_begun },
    still_joined front behind turned files each.1,
  )
    where
      by_part : Contains front file.turned ⊎ Contains behind file.turned → Contains (front ++ turned ∷ behind) file.turned
      by_part (inl here) = Contains-append_left front (turned ∷ behind) file.turned here
      by_part (inr there) = Contains-append_right front (turned ∷ behind) file.turned (later_there turned file.turned behind there)

  none_told : (told : List Turned) → AsOften (slots_of told) [] → told ≡ []
  none_told [] often = refl
  none_told (turned ∷ told) often = absurd (let counts = often (λ _. 1) in omega (arith, counts))

  -- one of them before others
  join_one : (one : Opened) (opened : List Opened) (turned : Turned) (front behind : List Turned) → turned.slot ≡ one.begin.slot →
      AsOften (slots_of (front ++ turned ∷ behind)) (slots_in (one ∷ opened)) → ((rest : List Turned) → AsOften (slots_of rest) (slots_in opened) → AreJoined opened rest) →
      AreJoined (one ∷ opened) (front ++ turned ∷ behind)
  join_one one opened turned front behind slot often join_others =
      let others = join_others (front ++ behind) fewer in
      record {
        files = record { opened = one; turned = turned; looks = looks one; changed = changed one; known_from = 0; later = []; removed = None; shrank_from = None } ∷ others.files;
        opened_are = ap (λ (l : List Opened). one ∷ l) others.opened_are;
        turned_are = λ h.
            let later = others.turned_are h in
            let both = weigh-append h front behind in
            let parted = weigh-append h front (turned ∷ behind) in
            omega (arith, later, both, parted);
        each = (
          record {
            looks_are = refl;
            changed_is = refl;
            slot = slot;
            among = Contains-append_right front (turned ∷ behind) turned (first_there turned behind);
            known_is = refl;
            alone = refl;
            stays = refl;
            as_begun = refl;
          },
          still_joined front behind turned others.files others.each,
        );
      }
    where
      fewer : AsOften (slots_of (front ++ behind)) (slots_in opened)
      fewer h =
          let all = often h in
          let mapped = weigh-map h (λ (t : Turned). t.slot) (front ++ turned ∷ behind) in
          let both = weigh-append (λ (t : Turned). h t.slot) front (turned ∷ behind) in
          let same : h turned.slot ≡ h one.begin.slot = ap h slot in
          let rest_mapped = weigh-map h (λ (t : Turned). t.slot) (front ++ behind) in
          let rest_both = weigh-append (λ (t : Turned). h t.slot) front behind in
          omega (arith, all, mapped, both, same, rest_mapped, rest_both)

  -- each slot is reported as often as it was opened
  pub join : (opened : List Opened) (told : List Turned) → AsOften (slots_of told) (slots_in opened) → AreJoined opened told
  join [] told often = record { files = []; opened_are = refl; turned_are = subst (λ (l : List Turned). AsOften [] l) (sym (none_told told often)) (λ h. refl); each = tt }
  join (one ∷ opened) told often =
      let there = often_contains same_slot tells_slots (slots_of told) (slots_in (one ∷ opened)) one.begin.slot often (first_there one.begin.slot (slots_in opened)) in
      let of = of_map (λ (turned : Turned). turned.slot) told one.begin.slot there in
      let parts = parts_at told of.item of.among in
      subst (AreJoined (one ∷ opened)) (sym parts.2)
      (join_one one opened of.item parts.0 parts.1 of.is (subst (λ (l : List Turned). AsOften (slots_of l) (slots_in (one ∷ opened))) parts.2 often) (join opened))

-- what files reported is the same in any order of them
pub told_as_often : {A : Type 0} (f : Turned → List A) (xs ys : List Turned) → AsOften xs ys → AsOften (flat_map f xs) (flat_map f ys)
told_as_often f xs ys often h = weigh-flat_map h f xs ∙ often (λ turned. weigh h (f turned)) ∙ sym (weigh-flat_map h f ys)

-- ---- what joined files have

-- the slots rise from this one on
abbrev pub AreOpenedInSlots : ℕ → List Opened → Type 0
AreOpenedInSlots least [] = Unit {0}
AreOpenedInSlots least (one ∷ opened) = (least ≤ one.begin.slot.0) × AreOpenedInSlots (one.begin.slot.0 + 1) opened

rising : (least : ℕ) (files : List Filed) → AreOpenedInSlots least (map (λ (file : Filed). file.opened) files) → AreInSlots least files
rising least [] rise = tt
rising least (file ∷ files) rise = (rise.0, rising (slot_in file + 1) files rise.1)

pub joined_in_slots : (least : ℕ) (files : List Filed) (opened : List Opened) → map (λ (file : Filed). file.opened) files ≡ opened → AreOpenedInSlots least opened → AreInSlots least files
joined_in_slots least files opened are rise = rising least files (subst (AreOpenedInSlots least) (sym are) rise)

-- what is reported of a file by its tail is reported by what the file has of it
pub told_by_its_tail : (watch : Watch) (moments : List ℕ) (file : Filed) (tail : TailHistory) → tail.looks ≡ file.looks →
    IsToldFile watch file.opened moments file.turned (Some tail) → IsToldFile watch file.opened moments file.turned (Some (tail_of file))
told_by_its_tail watch moments file tail looks is =
    let same : tail ≡ tail_of file =
    λ k. record { opening = is.tail.opening k; number = is.tail.number k; file = is.tail.file k; begun = is.tail.begun k; looks = looks k } in
    subst (λ (t : TailHistory). IsToldFile watch file.opened moments file.turned (Some t)) same is
