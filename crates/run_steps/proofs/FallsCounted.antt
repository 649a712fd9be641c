-- How often the looks of a tail found the length below what was read, by where its file stands: as often as epochs are over, and once more
-- where that was not answered by a next epoch.
use Rattle.std.proofs.Common.{◌≡◌, ℕ, ◌+◌, List, [], ◌∷◌, ◌++◌, append-nil, length, Option, Some, ap, ◌∙◌, length-append, arith}
use Rattle.accounts.proofs.Falls.{fallen_are, segments_with_fall}
use Rattle.accounts.proofs.Segmented.{as_many}
use Rattle.file_identity.specs.Answers.{with_numbers}
use Rattle.file_looks.specs.Segment.{Segment, segments_of}
use Rattle.harvester.specs.History.{Asks, Changed, Ended, History, Over, Reads, Stage}
use Rattle.harvester.specs.Looked.{HasFallen, IsLookedAt, StandBehind}
use Rattle.outside.specs.Files.{File}
use Rattle.outside.specs.Tails.{TailHistory}
use Rattle.outside.specs.declared.history.Look.{Look}
use Rattle.run_steps.specs.LastEpoch.{falls_in}

-- once more
abbrev pub unanswered_at : Stage → ℕ
unanswered_at Reads = 0
unanswered_at Asks = 1
unanswered_at Ended = 0
unanswered_at Changed = 1
unanswered_at Over = 1

module _ (numbers : Option (ℕ × ℕ)) (h : History) (told : TailHistory) (looked : IsLookedAt numbers h told) (none : h.before ≡ []) where
  abbrev file : File
  file = with_numbers numbers told.file

  many : length h.past ≡ length looked.front
  many = as_many h file h.past looked.front looked.past

  looks_are : told.looks ≡ looked.since ++ looked.beyond
  looks_are = looked.looks_are ∙ ap (λ (l : List Look). l ++ (looked.since ++ looked.beyond)) none

  -- nothing was asked behind what was read
  all_answered : looked.beyond ≡ [] → falls_in h.begin.base told.looks ≡ length h.past + 0
  all_answered nothing =
      let sum = length-append looked.front (looked.last ∷ []) in
      let long = ap length segments in
      omega (arith, many, sum, long)
    where
      segments : segments_of h.begin.base told.looks ≡ looked.front ++ looked.last ∷ []
      segments =
          ap (segments_of h.begin.base) (looks_are ∙ ap (λ (l : List Look). looked.since ++ l) nothing ∙ append-nil looked.since)
          ∙ looked.segments

  -- the length was below it
  one_more : HasFallen h looked.beyond → falls_in h.begin.base told.looks ≡ length h.past + 1
  one_more fell =
      let sum = length-append looked.front (looked.last ∷ fell_at ∷ []) in
      let long = ap length segments in
      omega (arith, many, sum, long)
    where
      fell_at : Segment
      fell_at = record { place = 0; fall = Some fell.fall; looks = fell.later }

      segments : segments_of h.begin.base told.looks ≡ looked.front ++ looked.last ∷ fell_at ∷ []
      segments =
          ap (segments_of h.begin.base) (looks_are ∙ ap (λ (l : List Look). looked.since ++ l) fell.looks_are)
          ∙ segments_with_fall h.begin.base looked.since fell.fall fell.later looked.front looked.last looked.segments fell.asks (let to = looked.present.to in let below = fell.below in omega (arith, to, below))
          ∙ ap (λ (l : List Segment). looked.front ++ looked.last ∷ l) (fallen_are fell.fall fell.later fell.only_reads)

  pub falls_are : falls_in h.begin.base told.looks ≡ length h.past + unanswered_at h.stage
  falls_are = by_stage h.stage looked.stand_behind
    where
      by_stage : (stage : Stage) → StandBehind h file stage looked.beyond → falls_in h.begin.base told.looks ≡ length h.past + unanswered_at stage
      by_stage Reads behind = all_answered behind
      by_stage Asks behind = one_more behind.fallen
      by_stage Ended behind = all_answered behind
      by_stage Changed behind = one_more behind.fallen
      by_stage Over behind = one_more behind.fallen
