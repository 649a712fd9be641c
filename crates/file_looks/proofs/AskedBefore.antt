-- Reads before the first look at the length change no segment but for standing before the first one's looks: they only
-- asked which file this is, and do not count.
use Rattle.std.proofs.Common.{◌≡◌, ℕ, ◌+◌, true, false, List, [], ◌∷◌, ◌++◌, None, refl, sym, ap, subst, ◌∙◌, append_assoc, arith}
use Rattle.std.specs.List.{AllByRecursion, flat_map}
use Rattle.outside.specs.declared.history.Look.{Look}
use Rattle.outside.specs.declared.history.Question.{Question}
use Rattle.outside.specs.declared.history.Question.TheVariants.{Length, ReadAt}
use Rattle.outside.specs.declared.history.Sight.{Sight}
use Rattle.outside.specs.Files.{File}
use Rattle.file_looks.specs.EndLook.{HadReadTo, HasEndLook}
use Rattle.file_looks.specs.Reading.{ReadOn, bytes_at, bytes_read, last_life}
use Rattle.file_looks.specs.Segment.{Cut, Segment, cut_from, read_to, segments_of, steps_in, with_look}
use Rattle.file_looks.specs.Step.{Step, place_behind, steps_from}

abbrev pub IsReadAt : Question → Type 0
IsReadAt Length = ⊥
IsReadAt (ReadAt place count) = Unit {0}

-- no look of these asks the length
abbrev pub OnlyRead : List Look → Type 0
OnlyRead looks = AllByRecursion (λ look. IsReadAt look.question) looks

-- the reads are before the looks of the cut
abbrev pub cut_behind : List Look → Cut → Cut
cut_behind reads cut = record { looks = reads ++ cut.looks; later = cut.later }

-- the segment with the reads before its looks
abbrev pub asked_before : List Look → Segment → Segment
asked_before reads segment = record segment { looks = reads ++ segment.looks }

-- and of segments the first one
abbrev pub first_asked : List Look → List Segment → List Segment
first_asked reads [] = []
first_asked reads (segment ∷ segments) = asked_before reads segment ∷ segments

-- the steps of looks that do not count, at this place
abbrev pub uncounted : ℕ → List Look → List Step
uncounted place [] = []
uncounted place (look ∷ looks) = record { look = look; place = place; counts = false } ∷ uncounted place looks

-- ---- how reads are cut

cut_read : (place : ℕ) (question : Question) (sight : Sight) (looks : List Look) → IsReadAt question →
    let look : Look = record { question = question; sight = sight } in
    cut_from false place (look ∷ looks) ≡ with_look look (cut_from false place looks)
cut_read place Length sight looks is = absurd is
cut_read place (ReadAt at count) sight looks is =
    let look : Look = record { question = ReadAt at count; sight = sight } in
    let stays : place + 0 ≡ place = omega arith in
    ap (λ (n : ℕ). with_look look (cut_from false n looks)) stays

pub cut_reads : (place : ℕ) (reads looks : List Look) → OnlyRead reads →
    cut_from false place (reads ++ looks) ≡ cut_behind reads (cut_from false place looks)
cut_reads place [] looks only = refl
cut_reads place (read ∷ reads) looks only =
    cut_read place read.question read.sight (reads ++ looks) only.0
    ∙ ap (λ (cut : Cut). with_look read cut) (cut_reads place reads looks only.1)

pub segments_asked : (place : ℕ) (reads looks : List Look) → OnlyRead reads →
    segments_of place (reads ++ looks) ≡ first_asked reads (segments_of place looks)
segments_asked place reads looks only =
    ap (λ (cut : Cut). record { place = place; fall = None; looks = cut.looks } ∷ cut.later) (cut_reads place reads looks only)

-- ---- their steps

step_read : (place : ℕ) (question : Question) (sight : Sight) (looks : List Look) → IsReadAt question →
    let look : Look = record { question = question; sight = sight } in
    steps_from false place (look ∷ looks) ≡ record { look = look; place = place; counts = false } ∷ steps_from false place looks
step_read place Length sight looks is = absurd is
step_read place (ReadAt at count) sight looks is =
    let look : Look = record { question = ReadAt at count; sight = sight } in
    let stays : place + 0 ≡ place = omega arith in
    ap (λ (n : ℕ). record { look = look; place = place; counts = false } ∷ steps_from false n looks) stays

pub steps_of_reads : (place : ℕ) (reads looks : List Look) → OnlyRead reads →
    steps_from false place (reads ++ looks) ≡ uncounted place reads ++ steps_from false place looks
steps_of_reads place [] looks only = refl
steps_of_reads place (read ∷ reads) looks only =
    step_read place read.question read.sight (reads ++ looks) only.0
    ∙ ap (λ (steps : List Step). record { look = read; place = place; counts = false } ∷ steps) (steps_of_reads place reads looks only.1)

stays_there : (place : ℕ) (reads : List Look) (steps : List Step) → place_behind place (uncounted place reads ++ steps) ≡ place_behind place steps
stays_there place [] steps = refl
stays_there place (read ∷ reads) steps =
    let stays : place + 0 ≡ place = omega arith in
    ap (λ (n : ℕ). place_behind n (uncounted place reads ++ steps)) stays ∙ stays_there place reads steps

gives_none : (file : File) (place : ℕ) (reads : List Look) (steps : List Step) →
    flat_map (bytes_at file) (uncounted place reads ++ steps) ≡ flat_map (bytes_at file) steps
gives_none file place [] steps = refl
gives_none file place (read ∷ reads) steps = gives_none file place reads steps

same_life : (life place : ℕ) (reads : List Look) (steps : List Step) → last_life life (uncounted place reads ++ steps) ≡ last_life life steps
same_life life place [] steps = refl
same_life life place (read ∷ reads) steps = same_life life place reads steps

none_counts : (place : ℕ) (reads : List Look) (steps : List Step) → ReadOn steps → ReadOn (uncounted place reads ++ steps)
none_counts place [] steps on = on
none_counts place (read ∷ reads) steps on = (λ counts. absurd (let no : false ≡ true = counts in cc), none_counts place reads steps on)

-- ---- one segment with reads before its looks

module _ (reads : List Look) (only : OnlyRead reads) (segment : Segment) where
  pub steps_asked : steps_in (asked_before reads segment) ≡ uncounted segment.place reads ++ steps_in segment
  steps_asked = steps_of_reads segment.place reads segment.looks only

  pub read_to_asked : read_to (asked_before reads segment) ≡ read_to segment
  read_to_asked =
      ap (λ (steps : List Step). place_behind segment.place steps) steps_asked ∙ stays_there segment.place reads (steps_in segment)

  pub bytes_asked : (file : File) → bytes_read file (asked_before reads segment) ≡ bytes_read file segment
  bytes_asked file =
      ap (λ (steps : List Step). flat_map (bytes_at file) steps) steps_asked ∙ gives_none file segment.place reads (steps_in segment)

  pub last_life_asked : (life : ℕ) → last_life life (steps_in (asked_before reads segment)) ≡ last_life life (steps_in segment)
  last_life_asked life =
      ap (λ (steps : List Step). last_life life steps) steps_asked ∙ same_life life segment.place reads (steps_in segment)

  pub read_on_asked : ReadOn (steps_in segment) → ReadOn (steps_in (asked_before reads segment))
  read_on_asked on =
      subst (λ (steps : List Step). ReadOn steps) (sym steps_asked) (none_counts segment.place reads (steps_in segment) on)

-- ---- what it found stays

stood : (reads : List Look) → OnlyRead reads → (place : ℕ) (front : List Look) →
    place_behind place (steps_from false place (reads ++ front)) ≡ place_behind place (steps_from false place front)
stood reads only place front =
    ap (λ (steps : List Step). place_behind place steps) (steps_of_reads place reads front only)
    ∙ stays_there place reads (steps_from false place front)

pub end_look_asked : (reads : List Look) → OnlyRead reads → (segment : Segment) (place : ℕ) → HasEndLook segment place →
    HasEndLook (asked_before reads segment) place
end_look_asked reads only segment place end = record {
  front = reads ++ end.front;
  asked = end.asked;
  read = end.read;
  behind = end.behind;
  looks_are = ap (λ (l : List Look). reads ++ l) end.looks_are ∙ sym (append_assoc reads end.front (end.asked ∷ end.read ∷ end.behind));
  asks = end.asks;
  not_below = end.not_below;
  gives_nothing = end.gives_nothing;
  stands_there = stood reads only segment.place end.front ∙ end.stands_there;
}

pub had_read_asked : (reads : List Look) → OnlyRead reads → (segment : Segment) (place : ℕ) → HadReadTo segment place →
    HadReadTo (asked_before reads segment) place
had_read_asked reads only segment place had = record {
  front = reads ++ had.front;
  behind = had.behind;
  looks_are = ap (λ (l : List Look). reads ++ l) had.looks_are ∙ sym (append_assoc reads had.front had.behind);
  stands_there = stood reads only segment.place had.front ∙ had.stands_there;
}
