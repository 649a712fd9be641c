-- Which of the listed files have keys once they were asked for them: each with the path, the input, the size and the moment with which it was
-- listed, in the order of the list, and none with the name of another.
use Rattle.std.proofs.Common.{◌≡◌, ◌≢◌, ◌⊎◌, inl, inr, ⊎_elim, List, [], ◌∷◌, ◌++◌, Contains, map, Some, None, refl, sym, ap, subst, ◌∙◌}
use Rattle.std.proofs.lemmas.List.Elements.{Contains-append_cases, Contains-append_left, Contains-append_right}
use Rattle.std.specs.Prelude.{flat_map, slice_get}
use Rattle.std.specs.List.{AllByRecursion}
use Rattle.std.specs.declared.cmp.Ordering.TheVariants.{Less}
use Rattle.event_tree.specs.declared.input_rule.InputRule.{InputRule}
use Rattle.file_identity.specs.Answers.{IsFingerprint}
use Rattle.prospect.specs.AskedFiles.{Answer, AskedFile, ByName, Gave, NotFound, TooFew, keyed_as, keyed_by, with_key}
use Rattle.prospect.specs.ListedFiles.{AreApart, AreInOrder, HasFile, Name, Place, name_of, place_of, place_order}
use Rattle.prospect.specs.PastFaults.{Answered, Faulted, Trial, answered_in, file_tried}
use Rattle.prospect.specs.declared.listed.Listed.{Listed}
use Rattle.ship_core.proofs.Members.{first_there, later_there, none_there, there_cases}
use Rattle.told_scans.proofs.Members.{each_member, mapped_there, member_is, some_is}

abbrev pub listed_of : AskedFile → Listed
listed_of asked = asked.listed

-- ---- those that answered among those that were tried

each_answered : (P : Listed → Type 0) (trials : List Trial) → AllByRecursion P (map file_tried trials) → AllByRecursion P (map listed_of (answered_in trials))
each_answered P [] each = tt
each_answered P (Answered one ∷ trials) each = (each.0, each_answered P trials each.1)
each_answered P (Faulted one ∷ trials) each = each_answered P trials each.1

pub in_order_answered : (trials : List Trial) → AreInOrder (map file_tried trials) → AreInOrder (map listed_of (answered_in trials))
in_order_answered [] in_order = tt
in_order_answered (Answered one ∷ trials) in_order =
    (each_answered (λ (later : Listed). place_order (place_of later) (place_of one.listed) ≢ Less) trials in_order.0, in_order_answered trials in_order.1)
in_order_answered (Faulted one ∷ trials) in_order = in_order_answered trials in_order.1

answered_was_tried : (trials : List Trial) (one : Listed) → Contains (map listed_of (answered_in trials)) one → Contains (map file_tried trials) one
answered_was_tried [] one there = absurd (none_there one there)
answered_was_tried (Answered first ∷ trials) one there =
    ⊎_elim (λ here. subst (λ (l : Listed). Contains (first.listed ∷ map file_tried trials) l) here (first_there first.listed (map file_tried trials)))
    (λ later. later_there first.listed one (map file_tried trials) (answered_was_tried trials one later)) (there_cases first.listed one (map listed_of (answered_in trials)) there)
answered_was_tried (Faulted first ∷ trials) one there = later_there first one (map file_tried trials) (answered_was_tried trials one there)

pub apart_answered : (trials : List Trial) → AreApart (map file_tried trials) → AreApart (map listed_of (answered_in trials))
apart_answered [] apart = tt
apart_answered (Answered one ∷ trials) apart = (
  λ has. let there = answered_was_tried trials has.1 (has.0, has.2, has.3) in apart.0 (there.0, has.1, there.1, there.2, has.4),
  apart_answered trials apart.1,
)
apart_answered (Faulted one ∷ trials) apart = apart_answered trials apart.1

-- ---- of which asked file a keyed one is

pub record IsKeyedFrom (asked : List AskedFile) (one : Listed) : Type 0 where
  pub of : AskedFile
  pub among : Contains asked of
  pub keyed : Contains (keyed_by of) one

pub keyed_from : (asked : List AskedFile) (one : Listed) → Contains (flat_map keyed_by asked) one → IsKeyedFrom asked one
keyed_from [] one there = absurd (none_there one there)
keyed_from (first ∷ asked) one there = by_case (Contains-append_cases (keyed_by first) (flat_map keyed_by asked) one there) (keyed_from asked one)
  where
    by_case : Contains (keyed_by first) one ⊎ Contains (flat_map keyed_by asked) one → (Contains (flat_map keyed_by asked) one → IsKeyedFrom asked one) → IsKeyedFrom (first ∷ asked) one
    by_case (inl here) later = record { of = first; among = first_there first asked; keyed = here }
    by_case (inr behind) later = let from = later behind in record { of = from.of; among = later_there first from.of asked from.among; keyed = from.keyed }

pub keyed_there : (asked : List AskedFile) (of : AskedFile) (one : Listed) → Contains asked of → Contains (keyed_by of) one → Contains (flat_map keyed_by asked) one
keyed_there [] of one there keyed = absurd (none_there of there)
keyed_there (first ∷ asked) of one there keyed =
    ⊎_elim (λ here. Contains-append_left (keyed_by first) (flat_map keyed_by asked) one (subst (λ (a : AskedFile). Contains (keyed_by a) one) (sym here) keyed))
    (λ later. Contains-append_right (keyed_by first) (flat_map keyed_by asked) one (keyed_there asked of one later keyed)) (there_cases first of asked there)

-- ---- what it keeps

-- what its entry told of it
pub record KeepsEntry (listed one : Listed) : Type 0 where
  pub path_is : one.path ≡ listed.path
  pub input_is : one.input ≡ listed.input
  pub size_is : one.size ≡ listed.size
  pub changed_is : one.changed ≡ listed.changed

pub only_one : (one other : Listed) → Contains (one ∷ []) other → one ≡ other
only_one one other there = ⊎_elim (λ here. here) (λ later. absurd (none_there other later)) (there_cases one other [] there)

pub keeps_entry : (listed : Listed) (answer : Answer) (one : Listed) → Contains (keyed_as listed answer) one → KeepsEntry listed one
keeps_entry listed ByName one there = subst (KeepsEntry listed) (only_one listed one there) (record { path_is = refl; input_is = refl; size_is = refl; changed_is = refl })
keeps_entry listed (Gave opening key) one there =
    subst (KeepsEntry listed) (only_one (with_key listed key) one there) (record { path_is = refl; input_is = refl; size_is = refl; changed_is = refl })
keeps_entry listed (TooFew opening) one there = absurd (none_there one there)
keeps_entry listed (NotFound opening) one there = absurd (none_there one there)

keeps_place : (listed : Listed) (answer : Answer) (one : Listed) → Contains (keyed_as listed answer) one → place_of one ≡ place_of listed
keeps_place listed answer one there = let keeps = keeps_entry listed answer one there in λ k. record { path = keeps.path_is k; input = keeps.input_is k }

-- ---- their order

abbrev NotAhead : Listed → Listed → Type 0
NotAhead first later = place_order (place_of later) (place_of first) ≢ Less

keyed_behind : (first : Listed) (asked : List AskedFile) → AllByRecursion (NotAhead first) (map listed_of asked) → (one : Listed) → Contains (flat_map keyed_by asked) one → NotAhead first one
keyed_behind first asked each one there =
    let from = keyed_from asked one there in
    let behind = member_is (NotAhead first) (map listed_of asked) from.of.listed each (mapped_there listed_of asked from.of from.among) in
    subst (λ (place : Place). place_order place (place_of first) ≢ Less) (sym (keeps_place from.of.listed from.of.answer one from.keyed)) behind

pub keyed_in_order : (asked : List AskedFile) → AreInOrder (map listed_of asked) → AreInOrder (flat_map keyed_by asked)
keyed_in_order [] in_order = tt
keyed_in_order (first ∷ asked) in_order = by_answer first.answer (keyed_in_order asked in_order.1)
  where
    by_answer : (answer : Answer) → AreInOrder (flat_map keyed_by asked) → AreInOrder (keyed_as first.listed answer ++ flat_map keyed_by asked)
    by_answer ByName later = (each_member (NotAhead first.listed) (flat_map keyed_by asked) (keyed_behind first.listed asked in_order.0), later)
    by_answer (Gave opening key) later = (each_member (NotAhead (with_key first.listed key)) (flat_map keyed_by asked) (keyed_behind first.listed asked in_order.0), later)
    by_answer (TooFew opening) later = later
    by_answer (NotFound opening) later = later

-- ---- their names

-- a file whose entry told its key is of an input that does not read its files; that of another file told none
abbrev pub IsSortedBy : InputRule → Listed → Answer → Type 0
IsSortedBy rule one ByName = ¬ (IsFingerprint rule.file_identity)
IsSortedBy rule one (Gave opening key) = IsFingerprint rule.file_identity × (one.key ≡ None)
IsSortedBy rule one (TooFew opening) = IsFingerprint rule.file_identity
IsSortedBy rule one (NotFound opening) = IsFingerprint rule.file_identity

pub record IsSorted (inputs : List InputRule) (asked : AskedFile) : Type 0 where
  pub rule : InputRule
  pub rule_is : slice_get inputs asked.listed.input ≡ Some rule
  pub sorted : IsSortedBy rule asked.listed asked.answer

module _ (inputs : List InputRule) where
  -- with keys, two have one name only where they had it as they were listed
  same_names : (rule : InputRule) (one : Listed) (answer : Answer) (other : Listed) (another : Answer) → IsSortedBy rule one answer → IsSortedBy rule other another →
      (keyed also : Listed) → Contains (keyed_as one answer) keyed → Contains (keyed_as other another) also → name_of also ≡ name_of keyed → name_of other ≡ name_of one
  same_names rule one ByName other ByName sorted and keyed also there here same = ap name_of (only_one other also here) ∙ same ∙ ap name_of (sym (only_one one keyed there))
  same_names rule one ByName other (Gave opening key) sorted and keyed also there here same = absurd (sorted and.0)
  same_names rule one ByName other (TooFew opening) sorted and keyed also there here same = absurd (none_there also here)
  same_names rule one ByName other (NotFound opening) sorted and keyed also there here same = absurd (none_there also here)
  same_names rule one (Gave opening key) other ByName sorted and keyed also there here same = absurd (and sorted.0)
  same_names rule one (Gave opening key) other (Gave place its) sorted and keyed also there here same =
      let place : place_of other ≡ place_of one =
      sym (keeps_place other (Gave place its) also here) ∙ ap (λ (n : Name). n.place) same ∙ keeps_place one (Gave opening key) keyed there in
      λ k. record { place = place k; key = (and.1 ∙ sym sorted.1) k }
  same_names rule one (Gave opening key) other (TooFew place) sorted and keyed also there here same = absurd (none_there also here)
  same_names rule one (Gave opening key) other (NotFound place) sorted and keyed also there here same = absurd (none_there also here)
  same_names rule one (TooFew opening) other another sorted and keyed also there here same = absurd (none_there keyed there)
  same_names rule one (NotFound opening) other another sorted and keyed also there here same = absurd (none_there keyed there)

  -- so none behind a file has its name
  none_behind : (first : AskedFile) (asked : List AskedFile) → IsSorted inputs first → AllByRecursion (IsSorted inputs) asked → ¬ (HasFile (map listed_of asked) (name_of first.listed)) →
      (keyed : Listed) → Contains (keyed_by first) keyed → ¬ (HasFile (flat_map keyed_by asked) (name_of keyed))
  none_behind first asked sorted each none keyed there has =
      let from = keyed_from asked has.1 (has.0, has.2, has.3) in
      let its = member_is (IsSorted inputs) asked from.of each from.among in
      let input : from.of.listed.input ≡ first.listed.input =
      sym (keeps_entry from.of.listed from.of.answer has.1 from.keyed).input_is ∙ ap (λ (n : Name). n.place.input) has.4 ∙ (keeps_entry first.listed first.answer keyed there).input_is in
      let rule : its.rule ≡ sorted.rule = some_is its.rule sorted.rule (sym its.rule_is ∙ ap (slice_get inputs) input ∙ sorted.rule_is) in
      let same = same_names sorted.rule first.listed first.answer from.of.listed from.of.answer sorted.sorted
      (subst (λ (r : InputRule). IsSortedBy r from.of.listed from.of.answer) rule its.sorted) keyed has.1 there from.keyed has.4 in
      let listed = mapped_there listed_of asked from.of from.among in
      none (listed.0, from.of.listed, listed.1, listed.2, same)

  pub keyed_apart : (asked : List AskedFile) → AllByRecursion (IsSorted inputs) asked → AreApart (map listed_of asked) → AreApart (flat_map keyed_by asked)
  keyed_apart [] each apart = tt
  keyed_apart (first ∷ asked) each apart = by_answer first.answer (none_behind first asked each.0 each.1 apart.0) (keyed_apart asked each.1 apart.1)
    where
      by_answer : (answer : Answer) → ((keyed : Listed) → Contains (keyed_as first.listed answer) keyed → ¬ (HasFile (flat_map keyed_by asked) (name_of keyed))) → AreApart (flat_map keyed_by asked) →
          AreApart (keyed_as first.listed answer ++ flat_map keyed_by asked)
      by_answer ByName none later = (none first.listed (first_there first.listed []), later)
      by_answer (Gave opening key) none later = (none (with_key first.listed key) (first_there (with_key first.listed key) []), later)
      by_answer (TooFew opening) none later = later
      by_answer (NotFound opening) none later = later
