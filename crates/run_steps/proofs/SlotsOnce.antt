-- Each slot has one opening, and each file is told once; and of one opening there is one.
use Rattle.std.proofs.Common.{◌≡◌, ◌⊎◌, inl, inr, ℕ, ◌+◌, ◌≤◌, List, [], ◌∷◌, Contains, map, sym, ap, subst, ◌∙◌, arith}
use Rattle.accounts.specs.Once.{AreOnce}
use Rattle.accounts.specs.Opened.{Opened}
use Rattle.accounts.specs.Turned.{Turned}
use Rattle.accounts.proofs.Backing.{mapped_there}
use Rattle.accounts.proofs.Joining.{same_slot, tells_slots}
use Rattle.accounts.proofs.Often.{often_back, once_more, once_none, once_often}
use Rattle.kept_rows.specs.Scans.{AreDistinct}
use Rattle.ship_core.proofs.Members.{none_there, there_cases}
use Rattle.wire_base.specs.declared.numbers.Slot.{Slot}
use Rattle.run_steps.specs.Begun.{AreSlotsFrom}
use Rattle.run_steps.specs.Shown.{openings_of}
use Rattle.run_steps.specs.Stands.{AreEachOnce}

-- ---- slots, each once

abbrev pub slots_in : List Opened → List Slot
slots_in opened = map (λ (one : Opened). one.begin.slot) opened

abbrev pub slots_of : List Turned → List Slot
slots_of files = map (λ (turned : Turned). turned.slot) files

pub not_below : (least : ℕ) (opened : List Opened) (slot : Slot) → AreSlotsFrom least opened → Contains (slots_in opened) slot → least ≤ slot.0
not_below least [] slot rise there = absurd (none_there slot there)
not_below least (one ∷ opened) slot rise there = by_case (there_cases one.begin.slot slot (slots_in opened) there) (not_below (one.begin.slot.0 + 1) opened slot rise.1)
  where
    by_case : (one.begin.slot ≡ slot) ⊎ Contains (slots_in opened) slot → (Contains (slots_in opened) slot → one.begin.slot.0 + 1 ≤ slot.0) → least ≤ slot.0
    by_case (inl same) later = let is : one.begin.slot.0 ≡ slot.0 = ap (λ (s : Slot). s.0) same in let low = rise.0 in omega (arith, is, low)
    by_case (inr behind) later = let more = later behind in let low = rise.0 in omega (arith, more, low)

rising_once : (least : ℕ) (opened : List Opened) → AreSlotsFrom least opened → AreOnce same_slot (slots_in opened)
rising_once least [] rise = once_none same_slot tells_slots
rising_once least (one ∷ opened) rise =
    once_more same_slot tells_slots one.begin.slot (slots_in opened)
    (λ there. let more = not_below (one.begin.slot.0 + 1) opened one.begin.slot rise.1 there in omega (arith, more)) (rising_once (one.begin.slot.0 + 1) opened rise.1)

pub files_once : (opened : List Opened) (files : List Turned) → AreEachOnce opened files → AreOnce same_slot (slots_of files)
files_once opened files once = once_often same_slot tells_slots (slots_in opened) (slots_of files) (often_back (slots_of files) (slots_in opened) once.are) (rising_once 0 opened once.rise)

-- of one opening there is one
pub one_opened : (opened : List Opened) (one other : Opened) → AreDistinct (openings_of opened) → Contains opened one → Contains opened other → one.opening ≡ other.opening → one ≡ other
one_opened [] one other apart there also same = absurd (none_there one there)
one_opened (first ∷ opened) one other apart there also same =
    by_case (there_cases first one opened there) (there_cases first other opened also) (λ x y. one_opened opened one other apart.1 x y same)
  where
    by_case : (first ≡ one) ⊎ Contains opened one → (first ≡ other) ⊎ Contains opened other → (Contains opened one → Contains opened other → one ≡ other) → one ≡ other
    by_case (inl x) (inl y) later = sym x ∙ y
    by_case (inl x) (inr y) later = absurd (apart.0 (subst (λ (n : ℕ). Contains (openings_of opened) n) (sym (ap (λ (o : Opened). o.opening) x ∙ same)) (mapped_there (λ (o : Opened). o.opening) opened other y)))
    by_case (inr x) (inl y) later =
        absurd (apart.0 (subst (λ (n : ℕ). Contains (openings_of opened) n) (sym (ap (λ (o : Opened). o.opening) y ∙ sym same)) (mapped_there (λ (o : Opened). o.opening) opened one x)))
    by_case (inr x) (inr y) later = later x y
