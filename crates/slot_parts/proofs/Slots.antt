-- The parts of all tails of a slot follow on, are what the tails' segments reported, and are reported.
use Rattle.std.proofs.Common.{◌≡◌, ℕ, List, [], ◌∷◌, ◌++◌, map, refl, sym, ap, subst, ◌∙◌}
use Rattle.std.specs.List.{AllByRecursion, flat_map}
use Rattle.std.proofs.lemmas.List.{map-append}
use Rattle.event_tree.specs.declared.group_rule.GroupRule.{GroupRule}
use Rattle.file_looks.proofs.Cutting.{segments_are}
use Rattle.file_looks.specs.Segment.{AreSegments, Segment}
use Rattle.harvester.specs.History.{Telling}
use Rattle.kept_rows.specs.Account.{Reading, readings_of}
use Rattle.kept_rows.specs.Run.{Run}
use Rattle.multiline_core.specs.Rule.{IsGroupRule}
use Rattle.outside.specs.Files.{File}
use Rattle.told_events.proofs.Going.{all_behind}
use Rattle.told_events.specs.Rules.{Rules}
use Rattle.slot_parts.specs.Account.{FollowOn, FollowsOn, epoch_after, goes_on, place_after, reading_of}
use Rattle.slot_parts.specs.Parts.{IsToldPart, Part}
use Rattle.slot_parts.specs.Tails.{GoOnBehind, GoesOnBehind, IsToldTail, ToldTail, parts_by, parts_in, segments_by, tails_of}
use Rattle.slot_parts.specs.Tellings.{part_of, parts_of, tellings_in}
use Rattle.slot_parts.proofs.Tails.{begins_as, follow_both, opening_follows, readings_are, tail_follows, tail_is_told}

-- ---- where they go on

module _ (run : Run) (key : List ℕ) (rule : GroupRule) where
  follows : (epoch place : ℕ) (one : ToldTail) → GoesOnBehind run key epoch place one → FollowOn run key epoch place (parts_by rule one)
  follows epoch place one is =
      let opening = one.tail.opening in
      let cut : AreSegments one.tail.place one.tail.looks (segments_by one) = segments_are one.tail.place one.tail.looks in
      let starts : begins_as (part_of opening rule is.first cut.first) ≡ goes_on epoch place is.size =
      ap (λ (n : ℕ). begins_as (part_of opening rule is.first (record cut.first { place = n }))) cut.goes_on ∙ is.starts in
      let first : FollowsOn run key epoch place (part_of opening rule is.first cut.first) =
      opening_follows run key epoch place is.size (part_of opening rule is.first cut.first) cut.begins_nowhere is.listed starts in
      subst (λ (l : List Telling). FollowOn run key epoch place (parts_of opening rule 0 l (segments_by one))) (sym is.tellings_are)
      (subst (λ (l : List Segment). FollowOn run key epoch place (parts_of opening rule 0 (is.first ∷ is.later) l)) (sym cut.are)
      (tail_follows opening rule run key epoch place 0 is.first is.later cut.first cut.later first is.numbered cut.follow))

  pub tails_follow : (epoch place : ℕ) (tails : List ToldTail) → GoOnBehind run key rule epoch place tails → FollowOn run key epoch place (parts_in rule tails)
  tails_follow epoch place [] are = tt
  tails_follow epoch place (one ∷ tails) are =
      follow_both run key epoch place (parts_by rule one) (parts_in rule tails) (follows epoch place one are.0)
      (tails_follow (epoch_after epoch (parts_by rule one)) (place_after place (parts_by rule one)) tails are.1)

  -- what they read are their parts
  pub tails_are_read : (epoch place : ℕ) (tails : List ToldTail) → GoOnBehind run key rule epoch place tails →
      map reading_of (parts_in rule tails) ≡ flat_map readings_of (tails_of tails)
  tails_are_read epoch place [] are = refl
  tails_are_read epoch place (one ∷ tails) are =
      map-append reading_of (parts_by rule one) (parts_in rule tails)
      ∙ ap (λ (l : List Reading). l ++ map reading_of (parts_in rule tails)) (readings_are one.tail.opening rule 0 (tellings_in one.history) (segments_by one) are.0.few)
      ∙ ap (λ (l : List Reading). readings_of one.tail ++ l)
      (tails_are_read (epoch_after epoch (parts_by rule one)) (place_after place (parts_by rule one)) tails are.1)

-- ---- what they reported

module _ (rules : Rules) (in_range : IsGroupRule rules.events) (file : File) (MayEnd : ℕ → Type 0) (HasWaited : Type 0) where
  abbrev IsTold : Part → Type 0
  IsTold part = IsToldPart rules file MayEnd HasWaited part

  pub tails_are_told : (tails : List ToldTail) → AllByRecursion (IsToldTail rules file MayEnd HasWaited) tails → AllByRecursion IsTold (parts_in rules.events tails)
  tails_are_told [] are = tt
  tails_are_told (one ∷ tails) are =
      all_behind IsTold (parts_by rules.events one) (parts_in rules.events tails)
      (tail_is_told one.tail.opening rules.events rules refl in_range one.history file are.0.same_lines MayEnd HasWaited are.0.may_end are.0.has_waited
      0 (tellings_in one.history) (segments_by one) are.0.read are.0.tells)
      (tails_are_told tails are.1)
