-- Looks after which the length was below what was read: they begin one more segment, which only asks for the key.
use Rattle.std.proofs.Common.{◌≡◌, ℕ, ◌+◌, ◌<◌, Bool, true, false, List, [], ◌∷◌, ◌++◌, Some, None, refl, sym, ap, subst, ◌∙◌, append_assoc, arith, if◌then◌else◌}
use Rattle.std.specs.List.{AllByRecursion}
use Rattle.std.proofs.lemmas.Bool.{cond-false, cond-true, lt-ltb}
use Rattle.file_identity.specs.AskedAgain.{IsRead}
use Rattle.file_looks.specs.Reading.{ReadOn}
use Rattle.file_looks.specs.Segment.{Cut, Segment, cut_from, read_to, segments_of, steps_in, with_fall, with_look}
use Rattle.file_looks.specs.Step.{falls_below, is_counted, place_behind, read_by, reaches, step_at, steps_from}
use Rattle.outside.specs.declared.history.Look.{Look}
use Rattle.outside.specs.declared.history.Question.{Question}
use Rattle.outside.specs.declared.history.Question.TheVariants.{Length, ReadAt}
use Rattle.outside.specs.declared.history.Sight.{Sight}

-- ---- one more fall

-- up to where was read after these looks
abbrev reach : Bool → ℕ → List Look → ℕ
reach behind place [] = place
reach behind place (look ∷ looks) =
    if falls_below place look.question look.sight then reach false 0 looks
    else reach (reaches place look.question look.sight) (place + read_by (step_at behind place look)) looks

-- the segments that begin with this look
abbrev pub fallen : Look → List Look → List Segment
fallen fall later = record { place = 0; fall = Some fall; looks = (cut_from false 0 later).looks } ∷ (cut_from false 0 later).later

abbrev with_fallen : Look → List Look → Cut → Cut
with_fallen fall later cut = record { looks = cut.looks; later = cut.later ++ fallen fall later }

module _ (fall : Look) (later : List Look) where
  cut_at_fall : (behind : Bool) (place : ℕ) (xs : List Look) → falls_below (reach behind place xs) fall.question fall.sight ≡ true →
      cut_from behind place (xs ++ fall ∷ later) ≡ with_fallen fall later (cut_from behind place xs)
  cut_at_fall behind place [] falls =
      cond-true (falls_below place fall.question fall.sight) (with_fall fall (cut_from false 0 later))
      (with_look fall (cut_from (reaches place fall.question fall.sight) (place + read_by (step_at behind place fall)) later)) falls
  cut_at_fall behind place (look ∷ xs) falls =
      by_case (falls_below place look.question look.sight) falls (cut_at_fall false 0 xs)
      (cut_at_fall (reaches place look.question look.sight) (place + read_by (step_at behind place look)) xs)
    where
      by_case : (b : Bool) →
          falls_below (if b then reach false 0 xs else reach (reaches place look.question look.sight) (place + read_by (step_at behind place look)) xs) fall.question fall.sight ≡ true →
          (falls_below (reach false 0 xs) fall.question fall.sight ≡ true → cut_from false 0 (xs ++ fall ∷ later) ≡ with_fallen fall later (cut_from false 0 xs)) →
          (falls_below (reach (reaches place look.question look.sight) (place + read_by (step_at behind place look)) xs) fall.question fall.sight ≡ true →
          cut_from (reaches place look.question look.sight) (place + read_by (step_at behind place look)) (xs ++ fall ∷ later)
          ≡ with_fallen fall later (cut_from (reaches place look.question look.sight) (place + read_by (step_at behind place look)) xs)) →
          (if b then with_fall look (cut_from false 0 (xs ++ fall ∷ later))
          else with_look look (cut_from (reaches place look.question look.sight) (place + read_by (step_at behind place look)) (xs ++ fall ∷ later)))
          ≡ with_fallen fall later (if b then with_fall look (cut_from false 0 xs) else with_look look (cut_from (reaches place look.question look.sight) (place + read_by (step_at behind place look)) xs))
      by_case true e first second = ap (with_fall look) (first e)
      by_case false e first second = ap (with_look look) (second e)

-- up to where the last of the segments read
abbrev end_of : Bool → ℕ → List Look → List Segment → ℕ
end_of behind place looks [] = place_behind place (steps_from behind place looks)
end_of behind place looks (segment ∷ segments) = end_of false segment.place segment.looks segments

step_end : (behind : Bool) (place : ℕ) (look : Look) (looks : List Look) (segments : List Segment) →
    end_of (reaches place look.question look.sight) (place + read_by (step_at behind place look)) looks segments ≡ end_of behind place (look ∷ looks) segments
step_end behind place look looks [] = refl
step_end behind place look looks (segment ∷ segments) = refl

reach_is : (behind : Bool) (place : ℕ) (xs : List Look) → reach behind place xs ≡ end_of behind place (cut_from behind place xs).looks (cut_from behind place xs).later
reach_is behind place [] = refl
reach_is behind place (look ∷ xs) =
    by_case (falls_below place look.question look.sight) (reach_is false 0 xs) (reach_is (reaches place look.question look.sight) (place + read_by (step_at behind place look)) xs)
  where
    by_case : (b : Bool) → reach false 0 xs ≡ end_of false 0 (cut_from false 0 xs).looks (cut_from false 0 xs).later →
        reach (reaches place look.question look.sight) (place + read_by (step_at behind place look)) xs
        ≡ end_of (reaches place look.question look.sight) (place + read_by (step_at behind place look))
        (cut_from (reaches place look.question look.sight) (place + read_by (step_at behind place look)) xs).looks
        (cut_from (reaches place look.question look.sight) (place + read_by (step_at behind place look)) xs).later →
        (if b then reach false 0 xs else reach (reaches place look.question look.sight) (place + read_by (step_at behind place look)) xs)
        ≡ end_of behind place
        (if b then with_fall look (cut_from false 0 xs) else with_look look (cut_from (reaches place look.question look.sight) (place + read_by (step_at behind place look)) xs)).looks
        (if b then with_fall look (cut_from false 0 xs) else with_look look (cut_from (reaches place look.question look.sight) (place + read_by (step_at behind place look)) xs)).later
    by_case true first second = first
    by_case false first second =
        second ∙ step_end behind place look (cut_from (reaches place look.question look.sight) (place + read_by (step_at behind place look)) xs).looks
        (cut_from (reaches place look.question look.sight) (place + read_by (step_at behind place look)) xs).later

no_item : (front : List Segment) (last : Segment) → [] ≡ front ++ last ∷ [] → ⊥
no_item [] last e = cc
no_item (first ∷ front) last e = cc

last_read : (first : Segment) (others front : List Segment) (last : Segment) → first ∷ others ≡ front ++ last ∷ [] → end_of false first.place first.looks others ≡ read_to last
last_read first [] [] last e = let same : first ≡ last = cc in ap read_to same
last_read first [] (other ∷ front) last e = absurd (no_item front last (let none : [] ≡ front ++ last ∷ [] = cc in none))
last_read first (second ∷ others) [] last e = absurd cc
last_read first (second ∷ others) (other ∷ front) last e = last_read second others front last (let later : second ∷ others ≡ front ++ last ∷ [] = cc in later)

falls : (question : Question) (sight : Sight) (place : ℕ) → question ≡ Length → sight.length < place → falls_below place question sight ≡ true
falls question sight place is below = ap (λ (q : Question). falls_below place q sight) is ∙ lt-ltb sight.length place below

pub segments_with_fall : (place : ℕ) (since : List Look) (fall : Look) (later : List Look) (front : List Segment) (last : Segment) → segments_of place since ≡ front ++ last ∷ [] →
    fall.question ≡ Length → fall.sight.length < read_to last → segments_of place (since ++ fall ∷ later) ≡ front ++ last ∷ fallen fall later
segments_with_fall place since fall later front last segments asks below =
    let cut = cut_from false place since in
    let first : Segment = record { place = place; fall = None; looks = cut.looks } in
    let to : reach false place since ≡ read_to last = reach_is false place since ∙ last_read first cut.later front last segments in
    let so : falls_below (reach false place since) fall.question fall.sight ≡ true =
    falls fall.question fall.sight (reach false place since) asks (omega (arith, to, below)) in
    ap (λ (c : Cut). record { place = place; fall = None; looks = c.looks } ∷ c.later) (cut_at_fall fall later false place since so)
    ∙ ap (λ (l : List Segment). l ++ fallen fall later) segments
    ∙ append_assoc front (last ∷ []) (fallen fall later)

-- ---- where only the key was asked after it

read_never_falls : (place : ℕ) (question : Question) (sight : Sight) → IsRead question → falls_below place question sight ≡ false
read_never_falls place Length sight is = absurd is
read_never_falls place (ReadAt at count) sight is = refl

read_never_reaches : (place : ℕ) (question : Question) (sight : Sight) → IsRead question → reaches place question sight ≡ false
read_never_reaches place Length sight is = absurd is
read_never_reaches place (ReadAt at count) sight is = refl

uncut : (behind : Bool) (place : ℕ) (later : List Look) → AllByRecursion (λ (look : Look). IsRead look.question) later →
    cut_from behind place later ≡ record { looks = later; later = [] }
uncut behind place [] reads = refl
uncut behind place (look ∷ later) reads =
    cond-false (falls_below place look.question look.sight) (with_fall look (cut_from false 0 later))
    (with_look look (cut_from (reaches place look.question look.sight) (place + read_by (step_at behind place look)) later)) (read_never_falls place look.question look.sight reads.0)
    ∙ ap (with_look look) (uncut (reaches place look.question look.sight) (place + read_by (step_at behind place look)) later reads.1)

not_counted : (question : Question) → is_counted false question ≡ false
not_counted Length = refl
not_counted (ReadAt at count) = refl

none_counts : (place : ℕ) (later : List Look) → AllByRecursion (λ (look : Look). IsRead look.question) later → ReadOn (steps_from false place later)
none_counts place [] reads = tt
none_counts place (look ∷ later) reads = (
  λ counts. absurd (let no : true ≡ false = sym counts ∙ not_counted look.question in cc),
  subst (λ (b : Bool). ReadOn (steps_from b (place + read_by (step_at false place look)) later)) (sym (read_never_reaches place look.question look.sight reads.0))
      (none_counts (place + read_by (step_at false place look)) later reads.1),
)

-- so it begins one segment
pub fallen_are : (fall : Look) (later : List Look) → AllByRecursion (λ (look : Look). IsRead look.question) later → fallen fall later ≡ record { place = 0; fall = Some fall; looks = later } ∷ []
fallen_are fall later reads = ap (λ (c : Cut). record { place = 0; fall = Some fall; looks = c.looks } ∷ c.later) (uncut false 0 later reads)

pub fallen_reads_on : (fall : Look) (later : List Look) → AllByRecursion (λ (look : Look). IsRead look.question) later →
    AllByRecursion (λ (segment : Segment). ReadOn (steps_in segment)) (fallen fall later)
fallen_reads_on fall later reads =
    subst (λ (c : Cut). AllByRecursion (λ (segment : Segment). ReadOn (steps_in segment)) (record { place = 0; fall = Some fall; looks = c.looks } ∷ c.later)) (sym (uncut false 0 later reads))
    (none_counts 0 later reads, tt)
