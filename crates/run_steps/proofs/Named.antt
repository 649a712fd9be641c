-- Files that were opened as a scan listed them have each its own key, since no two of those that are followed have one.
use Rattle.std.proofs.Common.{◌≡◌, ◌⊎◌, inl, inr, ℕ, zero, suc, ◌+◌, ◌≤◌, ◌<◌, List, [], ◌∷◌, Contains, map, Some, None, sym, ap, subst, ◌∙◌, arith}
use Rattle.std.specs.Prelude.{slice_get}
use Rattle.std.specs.List.{AllByRecursion}
use Rattle.accounts.proofs.Following.{got_there}
use Rattle.accounts.proofs.Grounded.{of_map}
use Rattle.accounts.specs.Filed.{Filed, slot_in}
use Rattle.accounts.specs.FollowedFile.{AreInSlots, key_in}
use Rattle.event_tree.specs.declared.settings.Settings.{Settings}
use Rattle.kept_rows.specs.Scans.{AreDistinct}
use Rattle.prospect.specs.Doubled.{AreKeysApart, HaveKey}
use Rattle.prospect.specs.declared.listed.Listed.{Listed}
use Rattle.ship_core.proofs.Members.{none_there, there_cases}
use Rattle.wire_base.specs.declared.row.Row.{Row}
use Rattle.run_steps.specs.Begun.{IsOpenedAsListedFirst}
use Rattle.accounts.proofs.Orderly.{member_is}

-- ---- lists

-- no key is that of two places
pub later_has_other : (listed : List Listed) (k other : ℕ) (one later : Listed) (key : List ℕ) → AreKeysApart listed → k < other → slice_get listed k ≡ Some one → slice_get listed other ≡ Some later →
    one.key ≡ Some key → later.key ≡ Some key → ⊥
later_has_other [] k other one later key apart before at there keyed same = absurd (let q : None ≡ Some one = at in cc)
later_has_other (first ∷ listed) zero zero one later key apart before at there keyed same = absurd (omega (arith, before))
later_has_other (first ∷ listed) zero (suc other) one later key apart before at there keyed same =
    let q : Some first ≡ Some one = at in
    let here : first ≡ one = cc in
    let among = got_there listed other later there in
    apart.0 (subst (HaveKey listed) (sym (ap (λ (l : Listed). l.key) here ∙ keyed)) (among.0, later, among.1, among.2, same))
later_has_other (first ∷ listed) (suc k) zero one later key apart before at there keyed same = absurd (omega (arith, before))
later_has_other (first ∷ listed) (suc k) (suc other) one later key apart before at there keyed same = later_has_other listed k other one later key apart.1 (omega (arith, before)) at there keyed same

-- ---- files

pub slot_at_least : (least : ℕ) (files : List Filed) (file : Filed) → AreInSlots least files → Contains files file → least ≤ slot_in file
slot_at_least least [] file slots there = absurd (none_there file there)
slot_at_least least (first ∷ files) file slots there = by_case (there_cases first file files there) (slot_at_least (slot_in first + 1) files file slots.1)
  where
    by_case : (first ≡ file) ⊎ Contains files file → (Contains files file → slot_in first + 1 ≤ slot_in file) → least ≤ slot_in file
    by_case (inl same) later = let low = slots.0 in let is : slot_in first ≡ slot_in file = ap slot_in same in omega (arith, low, is)
    by_case (inr behind) later = let low = slots.0 in let more = later behind in omega (arith, low, more)

module _ (settings : Settings) (rows : List Row) (listed : List Listed) (apart : AreKeysApart listed) where
  abbrev AsListed : Filed → Type 0
  AsListed file = IsOpenedAsListedFirst settings rows listed file.opened

  pub keys_apart : (least : ℕ) (files : List Filed) → AreInSlots least files → AllByRecursion AsListed files → AreDistinct (map key_in files)
  keys_apart least [] slots each = tt
  keys_apart least (file ∷ files) slots each = (
    λ there.
        let of = of_map key_in files (key_in file) there in
        let one = each.0 in
        let other = member_is AsListed files of.item each.1 of.among in
        let more = slot_at_least (slot_in file + 1) files of.item slots.1 of.among in
        later_has_other listed (slot_in file) (slot_in of.item) one.one other.one (key_in file) apart (omega (arith, more)) one.listed_there other.listed_there one.keyed
        (other.keyed ∙ ap (λ (k : List ℕ). Some k) of.is),
    keys_apart (slot_in file + 1) files slots.1 each.1,
  )
