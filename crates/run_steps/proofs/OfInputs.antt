-- Listed files are of inputs within their ranges; and a slot that some harvester has is below the number of files.
use Rattle.std.proofs.Common.{◌≡◌, inl, inr, ℕ, zero, suc, ◌<◌, All, List, [], ◌∷◌, get_or, length, map, Some, refl, sym, subst, ◌∙◌, arith}
use Rattle.std.proofs.lemmas.Option.{slice_get-get_or, slice_get_within}
use Rattle.std.specs.Prelude.{slice_get}
use Rattle.std.specs.List.{AllByRecursion}
use Rattle.beat_config.specs.InRange.{AreInRange, IsGroupInRange, IsInputInRange}
use Rattle.event_tree.specs.declared.group_rule.GroupRule.{GroupRule}
use Rattle.event_tree.specs.declared.group_rule.GroupRule.TheVariants.{Count, Pattern, Single}
use Rattle.event_tree.specs.declared.input_rule.InputRule.{InputRule}
use Rattle.event_tree.specs.declared.settings.Settings.{Settings}
use Rattle.harvester.specs.HasTold.{begin_of}
use Rattle.harvester.specs.declared.harvester.Harvester.{Harvester}
use Rattle.lanes.specs.Laning.{Laning}
use Rattle.multiline_core.specs.Rule.{IsGroupRule}
use Rattle.prospect.specs.declared.listed.Listed.{Listed}
use Rattle.rounds.specs.Pairs.{SomeOf}
use Rattle.rounds.specs.Staying.{HaveSlot}
use Rattle.wire_base.specs.declared.note.Begin.{Begin}
use Rattle.wire_base.specs.declared.numbers.Slot.{Slot}
use Rattle.run_steps.specs.BeginsAll.{AreSlotsBelow, IsOfRuledInput, IsSlotBelow}

groups : (rule : GroupRule) → IsGroupInRange rule → IsGroupRule rule
groups (Single limit) h = h
groups (Count count lines timeout skip limit) h = h
groups (Pattern pattern negate side flush lines timeout skip limit) h = h

got_of : {A : Type 0} (P : A → Type 0) (xs : List A) (i : ℕ) (x : A) → All P xs → slice_get xs i ≡ Some x → P x
got_of P xs i x all is =
    let inside = slice_get_within xs i x is in
    let same : get_or xs i x ≡ x = let q : Some (get_or xs i x) ≡ Some x = sym (slice_get-get_or xs i x inside) ∙ is in cc in
    subst P same (all i x inside)

-- the rule of that place
rule_at : (inputs : List InputRule) (place : ℕ) → place < length inputs → (rule : InputRule) × (slice_get inputs place ≡ Some rule)
rule_at [] place inside = absurd (omega (arith, inside))
rule_at (first ∷ inputs) zero inside = (first, refl)
rule_at (first ∷ inputs) (suc place) inside = rule_at inputs place (omega (arith, inside))

-- its input is one of the settings
pub of_ruled_input : (settings : Settings) (listed : Listed) → AreInRange settings → listed.input < length settings.inputs → IsOfRuledInput settings listed
of_ruled_input settings listed range inside = record {
  rule = its.0;
  rule_is = its.1;
  in_range = groups its.0.multiline (got_of IsInputInRange settings.inputs listed.input its.0 range.inputs its.1).multiline;
}
  where
    its : (rule : InputRule) × (slice_get settings.inputs listed.input ≡ Some rule)
    its = rule_at settings.inputs listed.input inside

-- ---- slots

module _ {T : Type 0} (slot : Slot) (count : ℕ) where
  one_below : (harvesters : List (Harvester T)) → AllByRecursion (IsSlotBelow count) harvesters → SomeOf (λ (begin : Begin). begin.slot ≡ slot) (map begin_of harvesters) → slot.0 < count
  one_below [] below some = absurd some
  one_below (harvester ∷ harvesters) below (inl is) = subst (λ (s : Slot). s.0 < count) is below.0
  one_below (harvester ∷ harvesters) below (inr some) = one_below harvesters below.1 some

  pub slot_below : (lanes : List (Laning T)) → AreSlotsBelow count lanes → HaveSlot slot lanes → slot.0 < count
  slot_below [] below some = absurd some
  slot_below (lane ∷ lanes) below (inl some) = one_below lane.harvesters below.0 some
  slot_below (lane ∷ lanes) below (inr some) = slot_below lanes below.1 some
