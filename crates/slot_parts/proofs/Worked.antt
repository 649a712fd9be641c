-- Worked chains of parts: a file that two tails reported in one epoch and a third in the next, and what is refused.
use Rattle.std.proofs.Common.{◌≡◌, inl, inr, ℕ, zero, suc, ◌<◌, List, [], ◌∷◌, map, take, drop, Option, None, codes, refl, arith, lit<, lit≤}
use Rattle.file_looks.specs.Reading.{EachReadsLife, bytes_read}
use Rattle.file_looks.specs.Segment.{Segment}
use Rattle.file_looks.specs.Truncation.{IsSeen, SeesTruncations}
use Rattle.outside.specs.Files.{File, life_of}
use Rattle.outside.specs.declared.history.Look.{Look}
use Rattle.outside.specs.declared.history.Question.{Question}
use Rattle.outside.specs.declared.history.Question.TheVariants.{Length, ReadAt}
use Rattle.outside.specs.declared.history.Sight.{Sight}
use Rattle.told_events.proofs.Going.{front, others}
use Rattle.told_events.proofs.Worked.{event_of, first_line, life, payload, plain, second_line, two_plain_lines}
use Rattle.kept_rows.specs.Account.{AccountedEvent, EpochAccount, Place}
use Rattle.told_events.specs.Fate.{ShippedAs}
use Rattle.told_events.specs.Told.{AreTold, ToldEvent}
use Rattle.slot_parts.specs.Account.{epoch_accounts, life_by}
use Rattle.slot_parts.proofs.Together.{told_together}
use Rattle.slot_parts.specs.Parts.{AreChained, AreToldTogether, IsToldPart, segments_in, GoesOn, Part, epochs_of}

abbrev event : ℕ → ℕ → ToldEvent
event start end = record { span = record { start = start; end = end }; path = []; now = 0; fate = ShippedAs [] }

abbrev part : ℕ → ℕ → ℕ → List ToldEvent → Part
part opening epoch place told =
    record { opening = opening; epoch = epoch; segment = record { place = place; fall = None; looks = [] }; licences = []; told = told }

abbrev first : Part
first = part 2 0 0 (event 0 2 ∷ event 2 4 ∷ [])

abbrev second : Part
second = part 5 0 4 (event 4 6 ∷ [])

abbrev third : Part
third = part 9 1 0 (event 0 3 ∷ [])

chained : AreChained 0 0 (first ∷ second ∷ third ∷ [])
chained = (inl (refl, refl), (inl (refl, refl), (inr (refl, refl), tt)))

two_epochs : epochs_of 0 0 (first ∷ second ∷ third ∷ []) ≡ record { epoch = 0; start = 0; parts = first ∷ second ∷ [] } ∷ record { epoch = 1; start = 0; parts = third ∷ [] } ∷ []
two_epochs = refl

nowhere : ℕ → ToldEvent → Option Place
nowhere epoch event = None

-- the readings of an epoch are counted from 0 on
readings_counted : map (λ (epoch : EpochAccount). map (λ (one : AccountedEvent). one.reading) epoch.told) (epoch_accounts nowhere 0 0 (first ∷ second ∷ third ∷ [])) ≡ (0 ∷ 0 ∷ 1 ∷ []) ∷ (0 ∷ []) ∷ []
readings_counted = refl

-- a first opening that rises leaves the epoch of the row without a part
risen_at_once : epochs_of 3 7 (part 2 4 0 (event 0 2 ∷ []) ∷ []) ≡ record { epoch = 3; start = 7; parts = [] } ∷ record { epoch = 4; start = 0; parts = part 2 4 0 (event 0 2 ∷ []) ∷ [] } ∷ []
risen_at_once = refl

-- a tail that goes on from where the slot began reports events again
told_again : AreChained 0 0 (first ∷ part 5 0 0 (event 0 2 ∷ []) ∷ []) → ⊥
told_again are = by_case are.1.0
  where
    by_case : GoesOn 0 4 (part 5 0 0 (event 0 2 ∷ [])) → ⊥
    by_case (inl same) = let n : 0 ≡ 4 = same.1 in omega (arith, n)
    by_case (inr next) = let n : 0 ≡ 1 = next.0 in omega (arith, n)

-- one that goes on from after it passes events by
passed_by : AreChained 0 0 (first ∷ part 5 0 6 (event 6 8 ∷ []) ∷ []) → ⊥
passed_by are = by_case are.1.0
  where
    by_case : GoesOn 0 4 (part 5 0 6 (event 6 8 ∷ [])) → ⊥
    by_case (inl same) = let n : 6 ≡ 4 = same.1 in omega (arith, n)
    by_case (inr next) = let n : 0 ≡ 1 = next.0 in omega (arith, n)

-- ---- two plain lines, each reported by a tail of its own, are reported together

abbrev sight : Sight
sight = record { life = 0; length = 4 }

abbrev look : Question → Look
look question = record { question = question; sight = sight }

abbrev file : File
file = record { numbers = None; lives = life ∷ [] }

abbrev one_read : Part
one_read = record {
  opening = 2;
  epoch = 0;
  segment = record { place = 0; fall = None; looks = look Length ∷ look (ReadAt 0 2) ∷ [] };
  licences = [];
  told = event_of first_line (payload (codes "0") (codes "a")) ∷ [];
}

abbrev other_read : Part
other_read = record {
  opening = 5;
  epoch = 0;
  segment = record { place = 2; fall = None; looks = look Length ∷ look (ReadAt 2 2) ∷ [] };
  licences = [];
  told = event_of second_line (payload (codes "2") (codes "b")) ∷ [];
}

module _ (MayEnd : ℕ → Type 0) (HasWaited : Type 0) where
  one_is_told : IsToldPart plain file MayEnd HasWaited one_read
  one_is_told = record {
    told = λ number reads. by_life number reads.bytes;
    within = ((lit< tt, lit≤ tt), tt);
    licensed = λ number reads. tt;
    none = λ none. refl;
  }
    where
      by_life : (number : ℕ) → bytes_read file one_read.segment ≡ take 2 (life_of file number) → AreTold plain [] (life_of file number) 0 one_read.told
      by_life zero bytes = front plain [] life 0 one_read.told other_read.told two_plain_lines
      by_life (suc number) bytes = absurd (let some : codes "a\n" ≡ [] = bytes in cc)

  other_is_told : IsToldPart plain file MayEnd HasWaited other_read
  other_is_told = record {
    told = λ number reads. by_life number reads.bytes;
    within = ((lit< tt, lit≤ tt), tt);
    licensed = λ number reads. tt;
    none = λ none. refl;
  }
    where
      by_life : (number : ℕ) → bytes_read file other_read.segment ≡ take 2 (drop 2 (life_of file number)) → AreTold plain [] (life_of file number) 2 other_read.told
      by_life zero bytes = others plain [] life 0 one_read.told other_read.told two_plain_lines
      by_life (suc number) bytes = absurd (let some : codes "b\n" ≡ [] = bytes in cc)

  both_read : EachReadsLife file 0 (segments_in (one_read ∷ other_read ∷ []))
  both_read = (
    record { bytes = refl; onward = lit≤ tt; within = λ some. lit≤ tt },
    λ some. refl,
    (record { bytes = refl; onward = lit≤ tt; within = λ some. lit≤ tt }, λ some. refl, tt),
  )

  both_together : AreToldTogether plain file MayEnd HasWaited 0 (one_read ∷ other_read ∷ [])
  both_together =
      told_together plain file MayEnd HasWaited (lit≤ tt, lit≤ tt) 0 0 (one_read ∷ other_read ∷ []) (refl, (refl, tt)) both_read (one_is_told, (other_is_told, tt))

-- ---- the life may change while nothing is reported, and not any more

abbrev at_life : ℕ → Look
at_life number = record { question = Length; sight = record { life = number; length = 4 } }

abbrev reads_life : ℕ → ℕ → Segment
reads_life number place = record {
  place = place;
  fall = None;
  looks = at_life number ∷ record { question = ReadAt place 1; sight = record { life = number; length = 4 } } ∷ [];
}

-- from the first byte on, and another life from the first byte on
changes_untold : SeesTruncations 0 (reads_life 0 0 ∷ reads_life 1 0 ∷ [])
changes_untold = ((inl refl, (inl refl, tt)), ((inr (inr refl), (inr (inr refl), tt)), tt))

-- its account has the life that was read last
last_one_counts : life_by (part 2 0 0 [] ∷ record { opening = 5; epoch = 0; segment = reads_life 1 0; licences = []; told = [] } ∷ []) ≡ 1
last_one_counts = refl

-- after two reported bytes the other life is no shorter than what was reported, and the premise is broken
changes_told : SeesTruncations 0 (reads_life 0 0 ∷ reads_life 1 2 ∷ []) → ⊥
changes_told seen = by_case seen.1.0.0
  where
    by_case : IsSeen 0 2 (record { life = 1; length = 4 }) → ⊥
    by_case (inl same) = let n : 1 ≡ 0 = same in omega (arith, n)
    by_case (inr (inl shorter)) = let n : 4 < 2 = shorter in omega (arith, n)
    by_case (inr (inr none)) = let n : 2 ≡ 0 = none in omega (arith, n)
