-- The parts of one tail by its harvester's history, and the parts of tails, one after another.
use Rattle.std.proofs.Common.{◌≡◌, ◌≢◌, inl, inr, ℕ, ◌+◌, ◌<◌, ◌≤◌, nat_le, Bool, true, false, List, [], ◌∷◌, ◌++◌, length, map, Some, None, refl, sym, ap, subst, ◌∙◌, arith, if◌then◌else◌}
use Rattle.std.specs.List.{AllByRecursion}
use Rattle.std.proofs.lemmas.Bool.{leb-false, leb-true}
use Rattle.event_tree.specs.declared.group_rule.GroupRule.{GroupRule}
use Rattle.file_looks.specs.Segment.{FollowOn as FallBehind, Segment}
use Rattle.harvester.specs.History.{History, IsTelling, Telling, timeout_in}
use Rattle.harvester.specs.History as history
use Rattle.harvester.specs.Looked.{AreReadBy, IsReadBy}
use Rattle.kept_rows.specs.Account.{Reading}
use Rattle.kept_rows.specs.Epochs.{WasListedWith}
use Rattle.kept_rows.specs.Followed.{Start}
use Rattle.kept_rows.specs.Run.{Run}
use Rattle.multiline_core.specs.Rule.{IsGroupRule, timeout_of}
use Rattle.outside.specs.Files.{File}
use Rattle.ship_core.specs.CoveredEnd.{last_end}
use Rattle.told_events.specs.Licence.{LieApart}
use Rattle.told_events.specs.Rules.{Rules}
use Rattle.told_events.specs.Told.{spans_of}
use Rattle.slot_parts.specs.Account.{FollowOn, FollowsOn, epoch_after, goes_on, place_after, reading_of}
use Rattle.slot_parts.specs.Parts.{IsToldPart, Part, told_to}
use Rattle.slot_parts.specs.Tellings.{AreNumberedFrom, AreReadFirst, part_of, parts_of, untold_parts}
use Rattle.slot_parts.proofs.Risen.{listed_then}
use Rattle.slot_parts.proofs.Tellings.{telling_is_part, untold_is_part}

-- ---- tails, one after another

pub follow_both : (run : Run) (key : List ℕ) (epoch place : ℕ) (parts others : List Part) → FollowOn run key epoch place parts →
    FollowOn run key (epoch_after epoch parts) (place_after place parts) others → FollowOn run key epoch place (parts ++ others)
follow_both run key epoch place [] others first second = second
follow_both run key epoch place (part ∷ parts) others first second = (first.0, follow_both run key part.epoch (told_to part) parts others first.1 second)

-- ---- as a tail is opened

abbrev pub begins_as : Part → Start
begins_as part = record { epoch = part.epoch; base = part.segment.place }

-- a tail that begins by the size with which the file was listed last follows on with its first part
pub opening_follows : (run : Run) (key : List ℕ) (epoch place size : ℕ) (part : Part) → part.segment.fall ≡ None → WasListedWith run key part.opening (λ n. n ≡ size) →
    begins_as part ≡ goes_on epoch place size → FollowsOn run key epoch place part
opening_follows run key epoch place size part none listed starts = by_case (nat_le place size) refl starts
  where
    by_case : (b : Bool) → nat_le place size ≡ b →
        begins_as part ≡ (if b then record { epoch = epoch; base = place } else record { epoch = epoch + 1; base = 0 }) →
        FollowsOn run key epoch place part
    by_case true within is = inl (record {
      same_epoch = ap (λ (s : Start). s.epoch) is;
      from_there = ap (λ (s : Start). s.base) is;
      no_fall = none;
      listed = listed_then run key part.opening (λ (n : ℕ). n ≡ size) (λ (n : ℕ). place ≤ n) (λ n e. let some = leb-true place size within in omega (arith, some, e)) listed;
    })
    by_case false less is = inr (record {
      next_epoch = ap (λ (s : Start). s.epoch) is;
      from_the_first_byte = ap (λ (s : Start). s.base) is;
      why = inr (record {
        no_fall = none;
        listed = listed_then run key part.opening (λ (n : ℕ). n ≡ size) (λ (n : ℕ). n < place) (λ n e. let some = leb-false place size less in omega (arith, some, e)) listed;
      });
    })

-- ---- the parts of one tail

module _ (opening : ℕ) (rule : GroupRule) where
  abbrev readings : List Segment → List Reading
  readings segments = map (λ (segment : Segment). record { opening = opening; segment = segment }) segments

  untold_readings : (before : ℕ) (segments : List Segment) → map reading_of (untold_parts opening before segments) ≡ readings segments
  untold_readings before [] = refl
  untold_readings before (segment ∷ segments) = ap (λ (l : List Reading). record { opening = opening; segment = segment } ∷ l) (untold_readings (before + 1) segments)

  pub readings_are : (before : ℕ) (tellings : List Telling) (segments : List Segment) → length tellings ≤ length segments →
      map reading_of (parts_of opening rule before tellings segments) ≡ readings segments
  readings_are before [] segments few = untold_readings before segments
  readings_are before (telling ∷ tellings) [] few = absurd (omega (arith, few))
  readings_are before (telling ∷ tellings) (segment ∷ segments) few =
      ap (λ (l : List Reading). record { opening = opening; segment = segment } ∷ l) (readings_are telling.epoch tellings segments (omega (arith, few)))

  -- ---- where they follow on

  -- the segment begins where the length fell
  abbrev IsLater : Segment → Type 0
  IsLater segment = (segment.place ≡ 0) × (segment.fall ≢ None)

  pub later_ones : (before : Segment) (segments : List Segment) → FallBehind before segments → AllByRecursion IsLater segments
  later_ones before [] follow = tt
  later_ones before (segment ∷ segments) follow = (
    (follow.0.from_the_first_byte, λ none. let no : Some follow.0.look ≡ None = sym follow.0.begins ∙ none in cc),
    later_ones segment segments follow.1,
  )

  module _ (run : Run) (key : List ℕ) where
    untold_follow : (before place : ℕ) (segments : List Segment) → AllByRecursion IsLater segments → FollowOn run key before place (untold_parts opening before segments)
    untold_follow before place [] later = tt
    untold_follow before place (segment ∷ segments) later = (
      inr (record { next_epoch = refl; from_the_first_byte = later.0.0; why = inl later.0.1 }),
      untold_follow (before + 1) segment.place segments later.1,
    )

    pub later_follow : (before place : ℕ) (tellings : List Telling) (segments : List Segment) → AreNumberedFrom before tellings → AllByRecursion IsLater segments →
        FollowOn run key before place (parts_of opening rule before tellings segments)
    later_follow before place [] segments are later = untold_follow before place segments later
    later_follow before place (telling ∷ tellings) [] are later = tt
    later_follow before place (telling ∷ tellings) (segment ∷ segments) are later = (
      inr (record { next_epoch = are.0; from_the_first_byte = later.0.0; why = inl later.0.1 }),
      later_follow telling.epoch (told_to (part_of opening rule telling segment)) tellings segments (subst (λ (n : ℕ). AreNumberedFrom n tellings) (sym are.0) are.2) later.1,
    )

    -- a tail of which the first part follows on does so with all
    pub tail_follows : (epoch place before : ℕ) (telling : Telling) (tellings : List Telling) (first : Segment) (segments : List Segment) →
        FollowsOn run key epoch place (part_of opening rule telling first) → AreNumberedFrom telling.epoch tellings → FallBehind first segments →
        FollowOn run key epoch place (parts_of opening rule before (telling ∷ tellings) (first ∷ segments))
    tail_follows epoch place before telling tellings first segments follows are fall =
        (follows, later_follow telling.epoch (told_to (part_of opening rule telling first)) tellings segments are (later_ones first segments fall))

  -- ---- what each reported

  module _ (rules : Rules) (rule_is : rules.events ≡ rule) (in_range : IsGroupRule rules.events) (h : History) (file : File) (lines : h.rule.lines ≡ rules.lines)
      (MayEnd : ℕ → Type 0) (HasWaited : Type 0) (may : h.may_end ≡ true → MayEnd opening) (apart : 0 < timeout_of rules.events → LieApart h.moments (timeout_in h) → HasWaited) where
    abbrev IsTold : Part → Type 0
    IsTold part = IsToldPart rules file MayEnd HasWaited part

    untold_are_parts : (before : ℕ) (segments : List Segment) → AllByRecursion IsTold (untold_parts opening before segments)
    untold_are_parts before [] = tt
    untold_are_parts before (segment ∷ segments) =
        (untold_is_part rules file MayEnd HasWaited opening (before + 1) segment, untold_are_parts (before + 1) segments)

    pub tail_is_told : (before : ℕ) (tellings : List Telling) (segments : List Segment) → AreReadFirst h file tellings segments → AllByRecursion (IsTelling rules) tellings →
        AllByRecursion IsTold (parts_of opening rule before tellings segments)
    tail_is_told before [] segments read tells = untold_are_parts before segments
    tail_is_told before (telling ∷ tellings) [] read tells = tt
    tail_is_told before (telling ∷ tellings) (segment ∷ segments) read tells = (
      subst (λ (r : GroupRule). IsTold (part_of opening r telling segment)) rule_is
          (telling_is_part rules in_range h file telling segment read.0 tells.0 lines opening MayEnd HasWaited may apart),
      tail_is_told telling.epoch tellings segments read.1 tells.1,
    )

  -- ---- up to where

  pub record EndsAt (epoch place : ℕ) (parts : List Part) (present : Telling) : Type 0 where
    pub epoch_is : epoch_after epoch parts ≡ present.epoch
    pub place_is : place_after place parts ≡ history.told_to present

  -- of a tail whose segments each read an epoch
  pub tail_ends : (h : History) (file : File) (epoch place before : ℕ) (past : List Telling) (present : Telling) (front : List Segment) (last : Segment) →
      AreReadBy h file past front → IsReadBy h file present last → EndsAt epoch place (parts_of opening rule before (past ++ present ∷ []) (front ++ last ∷ [])) present
  tail_ends h file epoch place before [] present [] last past is =
      record { epoch_is = refl; place_is = ap (λ (n : ℕ). last_end n (spans_of present.told)) is.place }
  tail_ends h file epoch place before [] present (segment ∷ front) last past is = absurd past
  tail_ends h file epoch place before (telling ∷ tellings) present [] last past is = absurd past
  tail_ends h file epoch place before (telling ∷ tellings) present (segment ∷ front) last past is =
      let ends = tail_ends h file telling.epoch (told_to (part_of opening rule telling segment)) telling.epoch tellings present front last past.1 is in
      record { epoch_is = ends.epoch_is; place_is = ends.place_is }
