-- Worked segments, computed by the definitions: a file that is truncated between two reads, and what is refused.
use Rattle.std.proofs.Common.{◌≡◌, inl, inr, ℕ, ◌<◌, List, [], ◌∷◌, ◌++◌, Some, None, codes, refl, ap, lit≤, arith}
use Rattle.outside.specs.declared.history.Look.{Look}
use Rattle.outside.specs.declared.history.Question.{Question}
use Rattle.outside.specs.declared.history.Question.TheVariants.{Length, ReadAt}
use Rattle.outside.specs.declared.history.Sight.{Sight}
use Rattle.outside.specs.Files.{File}
use Rattle.file_looks.specs.EndLook.{HasEndLook}
use Rattle.file_looks.specs.Reading.{ReadOn, bytes_read, last_life}
use Rattle.file_looks.specs.Segment.{Segment, first_sight, read_to, segments_of, steps_in}
use Rattle.file_looks.specs.Truncation.{AreSeen, SeesTruncations}

abbrev sight : ℕ → ℕ → Sight
sight life length = record { life = life; length = length }

abbrev look : Question → ℕ → ℕ → Look
look question life length = record { question = question; sight = sight life length }

abbrev segment : ℕ → List Look → Segment
segment place looks = record { place = place; fall = None; looks = looks }

-- ---- `a LF b LF` is read, the file is truncated to nothing and grows by `c LF`

abbrev truncated : File
truncated = record { numbers = None; lives = codes "a\nb\n" ∷ codes "c\n" ∷ [] }

abbrev first_looks : List Look
first_looks = look Length 0 4 ∷ look (ReadAt 0 4) 0 4 ∷ []

abbrev fall : Look
fall = look Length 1 0

abbrev later_looks : List Look
later_looks = look Length 1 2 ∷ look (ReadAt 0 2) 1 2 ∷ look Length 1 2 ∷ look (ReadAt 2 0) 1 2 ∷ []

abbrev looks : List Look
looks = first_looks ++ fall ∷ later_looks

abbrev second_segment : Segment
second_segment = record { place = 0; fall = Some fall; looks = later_looks }

two_segments : segments_of 0 looks ≡ segment 0 first_looks ∷ second_segment ∷ []
two_segments = refl

first_read : bytes_read truncated (segment 0 first_looks) ≡ codes "a\nb\n"
first_read = refl

second_read : bytes_read truncated second_segment ≡ codes "c\n"
second_read = refl

read_to_four : read_to (segment 0 first_looks) ≡ 4
read_to_four = refl

read_to_two : read_to second_segment ≡ 2
read_to_two = refl

life_of_the_second : last_life 0 (steps_in second_segment) ≡ 1
life_of_the_second = refl

begins_empty : first_sight second_segment ≡ Some (sight 1 0)
begins_empty = refl

reads_on : ReadOn (steps_in second_segment)
reads_on = (λ e. tt, (λ e. refl, (λ e. tt, (λ e. refl, tt))))

seen : SeesTruncations 0 (segments_of 0 looks)
seen = ((inl refl, (inl refl, tt)), ((inr (inr refl), (inr (inr refl), (inl refl, (inl refl, tt)))), tt))

end_look_at_two : HasEndLook second_segment 2
end_look_at_two = record {
  front = look Length 1 2 ∷ look (ReadAt 0 2) 1 2 ∷ [];
  asked = look Length 1 2;
  read = look (ReadAt 2 0) 1 2;
  behind = [];
  looks_are = refl;
  asks = refl;
  not_below = lit≤ tt;
  gives_nothing = refl;
  stands_there = refl;
}

-- ---- reads that only ask which file this is count for nothing: before the first look at the length, and directly after
-- the look that begins a segment

asked_at_opening : bytes_read truncated (segment 0 (look (ReadAt 0 2) 0 4 ∷ look (ReadAt 2 2) 0 4 ∷ look Length 0 4 ∷ look (ReadAt 0 1) 0 4 ∷ [])) ≡ codes "a"
asked_at_opening = refl

asked_behind_a_fall : segments_of 0 (first_looks ++ look Length 1 1 ∷ look (ReadAt 0 1) 1 1 ∷ look Length 1 2 ∷ [])
    ≡ segment 0 first_looks ∷ record { place = 0; fall = Some (look Length 1 1); looks = look (ReadAt 0 1) 1 1 ∷ look Length 1 2 ∷ [] } ∷ []
asked_behind_a_fall = refl

nothing_read_behind_a_fall : read_to (record { place = 0; fall = Some (look Length 1 1); looks = look (ReadAt 0 1) 1 1 ∷ look Length 1 2 ∷ [] }) ≡ 0
nothing_read_behind_a_fall = refl

-- a read after another read does not count
second_of_two_reads : read_to (segment 0 (look Length 0 4 ∷ look (ReadAt 0 1) 0 4 ∷ look (ReadAt 1 1) 0 4 ∷ [])) ≡ 1
second_of_two_reads = refl

-- such reads before all looks are before those of the first segment, and change nothing else
abbrev asked : List Look
asked = look (ReadAt 0 2) 0 4 ∷ look (ReadAt 2 1) 0 4 ∷ []

asked_first : segments_of 0 (asked ++ looks) ≡ segment 0 (asked ++ first_looks) ∷ second_segment ∷ []
asked_first = refl

read_the_same : bytes_read truncated (segment 0 (asked ++ first_looks)) ≡ codes "a\nb\n"
read_the_same = refl

stands_at_the_same : read_to (segment 2 (asked ++ look Length 0 4 ∷ look (ReadAt 2 2) 0 4 ∷ [])) ≡ 4
stands_at_the_same = refl

-- ---- a tail goes on from a later place

goes_on_at_two : bytes_read truncated (segment 2 (look Length 0 4 ∷ look (ReadAt 2 2) 0 4 ∷ [])) ≡ codes "b\n"
goes_on_at_two = refl

-- as it is opened there, the file may be shorter: a new life
falls_at_two : segments_of 2 (look Length 1 0 ∷ []) ≡ segment 2 [] ∷ record { place = 0; fall = Some (look Length 1 0); looks = [] } ∷ []
falls_at_two = refl

-- ---- a truncation that is not seen: the new life has grown past what was read; also at a look that only asks

unseen : AreSeen 0 (steps_in (segment 0 (look Length 0 2 ∷ look (ReadAt 0 2) 0 2 ∷ look Length 1 2 ∷ []))) → ⊥
unseen (first, (second, (inl same, rest))) = let q : 1 ≡ 0 = same in cc
unseen (first, (second, (inr (inl shorter), rest))) = let h : 2 < 2 = shorter in omega arith
unseen (first, (second, (inr (inr none), rest))) = let q : 2 ≡ 0 = none in cc

unseen_by_an_asking : AreSeen 0 (steps_in (segment 2 (look (ReadAt 0 2) 1 2 ∷ []))) → ⊥
unseen_by_an_asking (inl same, rest) = let q : 1 ≡ 0 = same in cc
unseen_by_an_asking (inr (inl shorter), rest) = let h : 2 < 2 = shorter in omega arith
unseen_by_an_asking (inr (inr none), rest) = let q : 2 ≡ 0 = none in cc

-- an asking that reads another life does not make it the one that was last read
asking_changes_no_life : last_life 0 (steps_in (segment 2 (look (ReadAt 0 1) 1 1 ∷ []))) ≡ 0
asking_changes_no_life = refl

-- ---- no end look: if the length was below, another look is between, or the read gave something

no_looks : (place : ℕ) → HasEndLook (segment 0 []) place → ⊥
no_looks place end = none_so end.front end.asked (end.read ∷ end.behind) end.looks_are
  where
    none_so : (front : List Look) (asked : Look) (behind : List Look) → [] ≡ front ++ asked ∷ behind → ⊥
    none_so [] asked behind e = cc
    none_so (first ∷ front) asked behind e = cc

abbrev count_of : Question → ℕ
count_of Length = 0
count_of (ReadAt at count) = count

only_that : (place : ℕ) (front : List Look) (asked read : Look) (behind : List Look) → first_looks ≡ front ++ asked ∷ read ∷ behind → read.question ≡ ReadAt place 0 → ⊥
only_that place [] asked read behind e none =
    let same : look (ReadAt 0 4) 0 4 ≡ read = cc in
    let four : 4 ≡ count_of read.question = ap (λ (l : Look). count_of l.question) same in
    let zero : count_of read.question ≡ 0 = ap count_of none in
    omega (arith, four, zero)
only_that place (one ∷ []) asked read behind e none = cc
only_that place (one ∷ two ∷ []) asked read behind e none = cc
only_that place (one ∷ two ∷ three ∷ front) asked read behind e none = cc

read_something : (place : ℕ) → HasEndLook (segment 0 first_looks) place → ⊥
read_something place end = only_that place end.front end.asked end.read end.behind end.looks_are end.gives_nothing
