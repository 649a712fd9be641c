-- The segments of a tail's looks (Filebeat reference, filestream input; this project's profile). A look at the length
-- that is below the place up to which was read finds a new life: it begins the next segment, which reads from the
-- file's first byte on. The first segment goes on from the place with which the tail began.
use Rattle.std.specs.Prelude.{◌≡◌, ℕ, ◌+◌, ◌<◌, Bool, false, List, [], ◌∷◌, ◌++◌, flat_map, Option, Some, None, option_to_list, if◌then◌else◌}
use Rattle.std.specs.List.{AllByRecursion}
use Rattle.outside.specs.declared.history.Look.{Look}
use Rattle.outside.specs.declared.history.Question.TheVariants.{Length}
use Rattle.outside.specs.declared.history.Sight.{Sight}
use Rattle.file_looks.specs.Step.{Step, falls_below, place_behind, read_by, reaches, step_at, steps_from}

pub record Segment : Type 0 where
  -- the place from which it reads
  pub place : ℕ
  -- the look that found the length below the place of the segment before, if it is not the first
  pub fall : Option Look
  -- the looks after that one
  pub looks : List Look

-- the looks up to the first that begins a segment, and the segments from there on
pub record Cut : Type 0 where
  pub looks : List Look
  pub later : List Segment

abbrev pub with_look : Look → Cut → Cut
with_look look cut = record { looks = look ∷ cut.looks; later = cut.later }

abbrev pub with_fall : Look → Cut → Cut
with_fall look cut = record { looks = []; later = record { place = 0; fall = Some look; looks = cut.looks } ∷ cut.later }

-- looks, of which the first is made at this place, and may be a read that counts
abbrev pub cut_from : Bool → ℕ → List Look → Cut
cut_from behind place [] = record { looks = []; later = [] }
cut_from behind place (look ∷ looks) =
    if falls_below place look.question look.sight then with_fall look (cut_from false 0 looks)
    else with_look look (cut_from (reaches place look.question look.sight) (place + read_by (step_at behind place look)) looks)

-- the segments of the looks of a tail that goes on from this place
abbrev pub segments_of : ℕ → List Look → List Segment
segments_of place looks =
    let cut = cut_from false place looks in
    record { place = place; fall = None; looks = cut.looks } ∷ cut.later

-- all its looks
abbrev pub looks_in : Segment → List Look
looks_in segment = option_to_list segment.fall ++ segment.looks

-- what was there at its first look
abbrev pub first_of : List Look → Option Sight
first_of [] = None
first_of (look ∷ looks) = Some look.sight

abbrev pub first_sight : Segment → Option Sight
first_sight segment = first_of (looks_in segment)

-- its steps; a read directly after the look with which it begins does not count
abbrev pub steps_in : Segment → List Step
steps_in segment = steps_from false segment.place segment.looks

-- up to which place it read
abbrev pub read_to : Segment → ℕ
read_to segment = place_behind segment.place (steps_in segment)

-- ---- what makes such segments the ones that are meant

-- no look within it finds the length below the place up to which was read
abbrev pub NoneFalls : Segment → Type 0
NoneFalls segment =
    AllByRecursion (λ step. falls_below step.place step.look.question step.look.sight ≡ false) (steps_in segment)

-- it begins with a look that finds the length below the place up to which the one before it read
pub record BeginsBehind (before segment : Segment) : Type 0 where
  pub from_the_first_byte : segment.place ≡ 0
  pub look : Look
  pub begins : segment.fall ≡ Some look
  pub asks : look.question ≡ Length
  pub below : look.sight.length < read_to before

-- and so does each after it
abbrev pub FollowOn : Segment → List Segment → Type 0
FollowOn before [] = Unit {0}
FollowOn before (segment ∷ segments) = BeginsBehind before segment × FollowOn segment segments

pub record AreSegments (place : ℕ) (looks : List Look) (segments : List Segment) : Type 0 where
  pub first : Segment
  pub later : List Segment
  pub are : segments ≡ first ∷ later
  pub goes_on : first.place ≡ place
  pub begins_nowhere : first.fall ≡ None
  pub follow : FollowOn first later
  pub none_falls : AllByRecursion NoneFalls segments
  pub together : flat_map looks_in segments ≡ looks
