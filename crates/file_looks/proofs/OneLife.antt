-- If truncations are seen, a segment read the bytes of one life from its place on.
use Rattle.std.specs.Prelude.{option_to_list}
use Rattle.std.proofs.Common.{◌≡◌, inl, inr, ℕ, zero, suc, ◌+◌, ◌-◌, ◌<◌, ◌≤◌, Bool, true, false, List, [], ◌∷◌, ◌++◌, length, take, drop, refl, sym, ap, subst, ◌∙◌, drop-drop, arith}
use Rattle.std.specs.List.{AllByRecursion, flat_map}
use Rattle.outside.specs.declared.history.Look.{Look}
use Rattle.outside.specs.declared.history.Question.{Question}
use Rattle.outside.specs.declared.history.Question.TheVariants.{Length, ReadAt}
use Rattle.outside.specs.declared.history.Sight.{Sight}
use Rattle.outside.specs.Files.{File, IsOfFile, latest, life_of}
use Rattle.file_looks.specs.Looks.{AreLooks, IsAnswered}
use Rattle.file_looks.specs.Reading.{EachReadsLife, ReadOn, ReadsLife, StandsAt, bytes_at, last_life, life_behind, life_with}
use Rattle.file_looks.specs.Segment.{Segment, looks_in, segments_of, steps_in}
use Rattle.file_looks.specs.Step.{Step, place_behind, read_by, reaches, step_at, steps_from}
use Rattle.file_looks.specs.Truncation.{AreSeen, IsSeen, SeesTruncations}
use Rattle.file_looks.proofs.Cutting.{segments_are}
use Rattle.file_looks.proofs.Going.{no_step_back}
use Rattle.file_looks.proofs.Telling.{looks_before, looks_behind}

-- what these steps read are the bytes of the life that was last read, from the place on
record ReadsOne (file : File) (place life : ℕ) (steps : List Step) : Type 0 where
  bytes : flat_map (bytes_at file) steps ≡ take (place_behind place steps - place) (drop place (life_of file (last_life life steps)))
  within : place < place_behind place steps → place_behind place steps ≤ length (life_of file (last_life life steps))
  same : 0 < place → last_life life steps ≡ life

take-more : (list : List ℕ) (m n : ℕ) → take m list ++ take n (drop m list) ≡ take (m + n) list
take-more list zero n =
    let same : n ≡ 0 + n = omega arith in
    ap (λ (k : ℕ). take k list) same
take-more [] (suc m) zero =
    let same : suc m ≡ suc m + 0 = omega arith in
    ap (λ (k : ℕ). take k []) same
take-more [] (suc m) (suc n) =
    let same : suc (m + suc n) ≡ suc m + suc n = omega arith in
    ap (λ (k : ℕ). take k []) same
take-more (x ∷ list) (suc m) n =
    let same : suc (m + n) ≡ suc m + n = omega arith in
    ap (λ (l : List ℕ). x ∷ l) (take-more list m n) ∙ ap (λ (k : ℕ). take k (x ∷ list)) same

-- a step that read nothing
passes : (file : File) (place life : ℕ) (step : Step) (steps : List Step) → read_by step ≡ 0 → bytes_at file step ≡ [] →
    ReadsOne file (place + read_by step) (life_behind life step) steps → ReadsOne file place life (step ∷ steps)
passes file place life step steps none empty later =
    let here : place + read_by step ≡ place = omega (arith, none) in
    let L : ℕ → ℕ = λ n. life_with life step.look.sight.life n in
    let P : ℕ → ℕ → Type 0 = λ p l. ReadsOne file p l steps in
    let now : ReadsOne file place life steps = subst (λ (p : ℕ). P p life) here (subst (λ (n : ℕ). P (place + read_by step) (L n)) none later) in
    let E : ℕ → ℕ = λ p. place_behind p steps in
    let end : E (place + read_by step) ≡ E place = ap E here in
    let last : last_life (L (read_by step)) steps ≡ last_life life steps = ap (λ (n : ℕ). last_life (L n) steps) none in
    let W : ℕ → Type 0 = λ l. place < E place → E place ≤ length (life_of file l) in
    record {
      bytes = ap (λ (l : List ℕ). l ++ flat_map (bytes_at file) steps) empty ∙ now.bytes
          ∙ ap (λ (n : ℕ). take (n - place) (drop place (life_of file (last_life life steps)))) (sym end)
          ∙ ap (λ (l : ℕ). take (E (place + read_by step) - place) (drop place (life_of file l))) (sym last);
      within = λ some. subst (λ (n : ℕ). n ≤ length (life_of file (last_life (L (read_by step)) steps))) (sym end)
          (subst W (sym last) now.within (subst (λ (n : ℕ). place < n) end some));
      same = λ some. last ∙ now.same some;
    }

-- a read after what was read
reads : (file : File) (place life at more : ℕ) (sight : Sight) (steps : List Step) → IsOfFile file sight →
    (0 < suc more → at + suc more ≤ sight.length) → at ≡ place → IsSeen life place sight →
    ReadsOne file (place + suc more) sight.life steps →
    ReadsOne file place life (record { look = record { question = ReadAt at (suc more); sight = sight }; place = place; counts = true } ∷ steps)
reads file place life at more sight steps of_file answered stands seen later =
    let some : 0 < place + suc more = omega arith in
    let last : last_life sight.life steps ≡ sight.life = later.same some in
    let end = place_behind (place + suc more) steps in
    let onward = no_step_back (place + suc more) steps in
    let list = life_of file (last_life sight.life steps) in
    let count : suc more + (place_behind (place + suc more) steps - (place + suc more)) ≡ place_behind (place + suc more) steps - place = omega (arith, onward) in
    let first : at + suc more ≤ sight.length = answered (omega arith) in
    record {
      bytes = ap (λ (n : ℕ). take (suc more) (drop n (life_of file sight.life)) ++ flat_map (bytes_at file) steps) stands
          ∙ ap (λ (l : ℕ). take (suc more) (drop place (life_of file l)) ++ flat_map (bytes_at file) steps) (sym last)
          ∙ ap (λ (l : List ℕ). take (suc more) (drop place list) ++ l) later.bytes
          ∙ ap (λ (l : List ℕ). take (suc more) (drop place list) ++ take (end - (place + suc more)) l) (sym (drop-drop (suc more) place list))
          ∙ take-more (drop place list) (suc more) (end - (place + suc more))
          ∙ ap (λ (n : ℕ). take n (drop place list)) count;
      within = λ read. fits (place_behind (place + suc more) steps) (length list) onward later.within
          (subst (λ (l : ℕ). place + suc more ≤ length (life_of file l)) (sym last) (omega (arith, first, stands, of_file.within)));
      same = λ behind. last ∙ of_life behind seen;
    }
  where
    fits : (end most : ℕ) → place + suc more ≤ end → (place + suc more < end → end ≤ most) → place + suc more ≤ most → end ≤ most
    fits end most onward within first = grind arith

    of_life : 0 < place → IsSeen life place sight → sight.life ≡ life
    of_life behind (inl same) = same
    of_life behind (inr (inl shorter)) = absurd (let first = answered (omega arith) in omega (arith, first, stands, shorter))
    of_life behind (inr (inr none)) = absurd (omega (arith, none))

first_step : (file : File) (behind : Bool) (place life : ℕ) (question : Question) (sight : Sight) (steps : List Step) → IsOfFile file sight →
    IsAnswered question sight →
    ((step_at behind place (record { question = question; sight = sight })).counts ≡ true → StandsAt place question) → IsSeen life place sight →
    ReadsOne file (place + read_by (step_at behind place (record { question = question; sight = sight })))
    (life_behind life (step_at behind place (record { question = question; sight = sight }))) steps →
    ReadsOne file place life (step_at behind place (record { question = question; sight = sight }) ∷ steps)
first_step file behind place life Length sight steps of_file answered stands seen later =
    passes file place life (step_at behind place (record { question = Length; sight = sight })) steps refl refl later
first_step file false place life (ReadAt at count) sight steps of_file answered stands seen later =
    passes file place life (step_at false place (record { question = ReadAt at count; sight = sight })) steps refl refl later
first_step file true place life (ReadAt at zero) sight steps of_file answered stands seen later =
    passes file place life (step_at true place (record { question = ReadAt at 0; sight = sight })) steps refl refl later
first_step file true place life (ReadAt at (suc more)) sight steps of_file answered stands seen later =
    reads file place life at more sight steps of_file answered.0 (stands refl) seen later

reads_one : (file : File) (behind : Bool) (place life : ℕ) (before : Sight) (looks : List Look) → AreLooks file before looks →
    ReadOn (steps_from behind place looks) → AreSeen life (steps_from behind place looks) → ReadsOne file place life (steps_from behind place looks)
reads_one file behind place life before [] are on seen =
    let none : 0 ≡ place - place = omega arith in
    record {
      bytes = ap (λ (n : ℕ). take n (drop place (life_of file life))) none;
      within = λ some. absurd (omega (arith, some));
      same = λ some. refl;
    }
reads_one file behind place life before (look ∷ looks) are on seen =
    first_step file behind place life look.question look.sight
    (steps_from (reaches place look.question look.sight) (place + read_by (step_at behind place look)) looks)
    are.0.of_file are.0.answered on.0 seen.0
    (reads_one file (reaches place look.question look.sight) (place + read_by (step_at behind place look)) (life_behind life (step_at behind place look))
    look.sight looks are.1 on.1 seen.1)

pub record OfOneLife (file : File) (life : ℕ) (segment : Segment) : Type 0 where
  pub reads : ReadsLife file (last_life life (steps_in segment)) segment
  pub same : 0 < segment.place → last_life life (steps_in segment) ≡ life

pub of_one_life : (file : File) (before : Sight) (segment : Segment) (life : ℕ) → AreLooks file before segment.looks → ReadOn (steps_in segment) →
    AreSeen life (steps_in segment) → OfOneLife file life segment
of_one_life file before segment life are on seen =
    let one = reads_one file false segment.place life before segment.looks are on seen in
    record {
      reads = record { bytes = one.bytes; onward = no_step_back segment.place (steps_in segment); within = one.within };
      same = one.same;
    }

-- so each segment of looks
each : (file : File) (life : ℕ) (before : Sight) (segments : List Segment) → AreLooks file before (flat_map looks_in segments) →
    AllByRecursion (λ segment. ReadOn (steps_in segment)) segments → SeesTruncations life segments → EachReadsLife file life segments
each file life before [] are on seen = tt
each file life before (segment ∷ segments) are on seen =
    let here = looks_before file before (looks_in segment) (flat_map looks_in segments) are in
    let behind = looks_behind file before (looks_in segment) (flat_map looks_in segments) are in
    let one = of_one_life file (latest before (option_to_list segment.fall)) segment life
    (looks_behind file before (option_to_list segment.fall) segment.looks here) on.0 seen.0 in
    (one.reads, one.same, each file (last_life life (steps_in segment)) (latest before (looks_in segment)) segments behind on.1 seen.1)

pub each_reads : (file : File) (before : Sight) (place life : ℕ) (looks : List Look) → AreLooks file before looks →
    AllByRecursion (λ segment. ReadOn (steps_in segment)) (segments_of place looks) → SeesTruncations life (segments_of place looks) →
    EachReadsLife file life (segments_of place looks)
each_reads file before place life looks are on seen =
    each file life before (segments_of place looks) (subst (λ (l : List Look). AreLooks file before l) (sym (segments_are place looks).together) are) on seen
