-- Up to where looks read, as reads behind the length count it, and as the segments of the looks do.
use Rattle.std.proofs.Common.{◌≡◌, ℕ, ◌+◌, ◌<◌, ◌≤◌, Bool, true, false, List, [], ◌∷◌, ◌++◌, append-nil, None, Some, refl, sym, ap, subst, ◌∙◌, arith, if◌then◌else◌, nat_le}
use Rattle.std.proofs.lemmas.Bool.{le-leb, le-ltb, leb-true, lt-ltb, ltb-true}
use Rattle.std.specs.List.{AllByRecursion}
use Rattle.file_identity.specs.AskedAgain.{IsRead}
use Rattle.file_looks.specs.Segment.{Cut, Segment, cut_from, read_to, segments_of, with_fall, with_look}
use Rattle.file_looks.specs.Step.{falls_below, place_behind, reaches, read_by, step_at, steps_from}
use Rattle.outside.specs.declared.history.Look.{Look}
use Rattle.outside.specs.declared.history.Question.{Question}
use Rattle.outside.specs.declared.history.Question.TheVariants.{Length, ReadAt}
use Rattle.outside.specs.declared.history.Sight.{Sight}
use Rattle.run_steps.specs.ReadBehind.{IsReadThere, ReadsBehind, place_then}

abbrev pub OnlyRead : List Look → Type 0
OnlyRead looks = AllByRecursion (λ (look : Look). IsRead look.question) looks

-- ---- where looks lead

-- up to where was read behind these looks
abbrev pub place_after : Bool → ℕ → List Look → ℕ
place_after behind place [] = place
place_after behind place (look ∷ looks) = place_after (reaches place look.question look.sight) (place_then behind place look.question look.sight) looks

pub reads_then : (behind : Bool) (place : ℕ) (looks more : List Look) → ReadsBehind behind place looks → ReadsBehind false (place_after behind place looks) more → ReadsBehind behind place (looks ++ more)
reads_then behind place [] more none on = subst (λ (b : Bool). ReadsBehind b place more) (sym none) on
reads_then behind place (look ∷ looks) more reads on =
    (reads.0, reads_then (reaches place look.question look.sight) (place_then behind place look.question look.sight) looks more reads.1 on)

-- reads that only ask for the key
pub only_reads : (place : ℕ) (looks : List Look) → OnlyRead looks → ReadsBehind false place looks
only_reads place [] only = refl
only_reads place (look ∷ looks) only = by_question look.question look.sight only.0 (only_reads (place + 0) looks only.1)
  where
    by_question : (question : Question) (sight : Sight) → IsRead question → ReadsBehind false (place + 0) looks → ReadsBehind false place (record { question = question; sight = sight } ∷ looks)
    by_question Length sight is others = absurd is
    by_question (ReadAt at count) sight is others = (λ no. let never : false ≡ true = no in cc, others)

pub stays_there : (place : ℕ) (asked looks : List Look) → OnlyRead asked → place_after false place (asked ++ looks) ≡ place_after false place looks
stays_there place [] looks only = refl
stays_there place (look ∷ asked) looks only = by_question look.question look.sight only.0 (stays_there place asked looks only.1)
  where
    by_question : (question : Question) (sight : Sight) → IsRead question → place_after false place (asked ++ looks) ≡ place_after false place looks →
        place_after false place (record { question = question; sight = sight } ∷ asked ++ looks) ≡ place_after false place looks
    by_question Length sight is others = absurd is
    by_question (ReadAt at count) sight is others =
        let same : place + 0 ≡ place = omega arith in
        ap (λ (n : ℕ). place_after false n (asked ++ looks)) same ∙ others

-- ---- as the segments have it

-- the last of some segments
abbrev last_of : Segment → List Segment → Segment
last_of first [] = first
last_of first (next ∷ later) = last_of next later

-- up to where the looks of a cut were read, the first of which is made at this place, or those of the last segment behind it
abbrev end_by : Bool → ℕ → List Look → List Segment → ℕ
end_by behind place looks [] = place_behind place (steps_from behind place looks)
end_by behind place looks (first ∷ later) = read_to (last_of first later)

abbrev end_of : Bool → ℕ → Cut → ℕ
end_of behind place cut = end_by behind place cut.looks cut.later

reaches_not : (place : ℕ) (question : Question) (sight : Sight) → falls_below place question sight ≡ true → reaches place question sight ≡ false
reaches_not place Length sight below = lt-ltb-back (ltb-true sight.length place below)
  where
    lt-ltb-back : sight.length < place → nat_le place sight.length ≡ false
    lt-ltb-back less = by_case (nat_le place sight.length) refl
      where
        by_case : (b : Bool) → nat_le place sight.length ≡ b → nat_le place sight.length ≡ false
        by_case false is = is
        by_case true is = absurd (let le = leb-true place sight.length is in omega (arith, le, less))
reaches_not place (ReadAt at count) sight below = absurd cc

fresh_end : (look : Look) (looks : List Look) (later : List Segment) → end_by false 0 looks later ≡ read_to (last_of (record { place = 0; fall = Some look; looks = looks }) later)
fresh_end look looks [] = refl
fresh_end look looks (first ∷ later) = refl

first_end : (place : ℕ) (looks : List Look) (later : List Segment) → end_by false place looks later ≡ read_to (last_of (record { place = place; fall = None; looks = looks }) later)
first_end place looks [] = refl
first_end place looks (first ∷ later) = refl

on_end : (behind : Bool) (place : ℕ) (look : Look) (looks : List Look) (later : List Segment) →
    end_by (reaches place look.question look.sight) (place + read_by (step_at behind place look)) looks later ≡ end_by behind place (look ∷ looks) later
on_end behind place look looks [] = refl
on_end behind place look looks (first ∷ later) = refl

abbrev next_place : Bool → ℕ → Look → ℕ
next_place behind place look = place + read_by (step_at behind place look)

pub leads_to_the_end : (behind : Bool) (place : ℕ) (looks : List Look) → place_after behind place looks ≡ end_of behind place (cut_from behind place looks)
leads_to_the_end behind place [] = refl
leads_to_the_end behind place (look ∷ looks) =
    by_bool (falls_below place look.question look.sight) refl (leads_to_the_end false 0 looks)
    (leads_to_the_end (reaches place look.question look.sight) (next_place behind place look) looks)
  where
    by_bool : (b : Bool) → falls_below place look.question look.sight ≡ b → place_after false 0 looks ≡ end_of false 0 (cut_from false 0 looks) →
        place_after (reaches place look.question look.sight) (next_place behind place look) looks ≡ end_of (reaches place look.question look.sight) (next_place behind place look) (cut_from (reaches place look.question look.sight) (next_place behind place look) looks) →
        place_after behind place (look ∷ looks) ≡ end_of behind place (cut_from behind place (look ∷ looks))
    by_bool true is fell on =
        let anew = cut_from false 0 looks in
        ap (λ (b : Bool). place_after (reaches place look.question look.sight) (if b then 0 else next_place behind place look) looks) is
        ∙ ap (λ (b : Bool). place_after b 0 looks) (reaches_not place look.question look.sight is)
        ∙ fell
        ∙ fresh_end look anew.looks anew.later
        ∙ ap (λ (b : Bool). end_of behind place (if b then with_fall look (cut_from false 0 looks) else with_look look (cut_from (reaches place look.question look.sight) (next_place behind place look) looks))) (sym is)
    by_bool false is fell on =
        let cut = cut_from (reaches place look.question look.sight) (next_place behind place look) looks in
        ap (λ (b : Bool). place_after (reaches place look.question look.sight) (if b then 0 else next_place behind place look) looks) is
        ∙ on
        ∙ on_end behind place look cut.looks cut.later
        ∙ ap (λ (b : Bool). end_of behind place (if b then with_fall look (cut_from false 0 looks) else with_look look (cut_from (reaches place look.question look.sight) (next_place behind place look) looks))) (sym is)

last_is : (first : Segment) (later front : List Segment) (last : Segment) → first ∷ later ≡ front ++ last ∷ [] → last_of first later ≡ last
last_is first [] [] last are = let same : first ≡ last = cc in same
last_is first [] (one ∷ []) last are = let no : first ∷ [] ≡ one ∷ last ∷ [] = are in cc
last_is first [] (one ∷ two ∷ front) last are = let no : first ∷ [] ≡ one ∷ two ∷ (front ++ last ∷ []) = are in cc
last_is first (next ∷ later) [] last are = let no : first ∷ next ∷ later ≡ last ∷ [] = are in cc
last_is first (next ∷ later) (one ∷ front) last are = let rest : next ∷ later ≡ front ++ last ∷ [] = cc in last_is next later front last rest

-- the place is that of the last segment
pub read_up_to : (place : ℕ) (looks : List Look) (front : List Segment) (last : Segment) → segments_of place looks ≡ front ++ last ∷ [] → place_after false place looks ≡ read_to last
read_up_to place looks front last are =
    let cut = cut_from false place looks in
    leads_to_the_end false place looks ∙ first_end place cut.looks cut.later
    ∙ ap read_to (last_is (record { place = place; fall = None; looks = cut.looks }) cut.later front last are)

-- ---- reads that only ask for the key

-- nothing is read by them
pub stays_put : (place : ℕ) (looks : List Look) → OnlyRead looks → place_after false place looks ≡ place
stays_put place looks only = ap (place_after false place) (sym (append-nil looks)) ∙ stays_there place looks [] only

none_later : (place : ℕ) (looks : List Look) → OnlyRead looks → (cut_from false place looks).later ≡ []
none_later place [] only = refl
none_later place (look ∷ looks) only = by_question look.question look.sight only.0 (none_later (place + 0) looks only.1)
  where
    by_question : (question : Question) (sight : Sight) → IsRead question → (cut_from false (place + 0) looks).later ≡ [] →
        (cut_from false place (record { question = question; sight = sight } ∷ looks)).later ≡ []
    by_question Length sight is others = absurd is
    by_question (ReadAt at count) sight is others = others

cut_only : (place : ℕ) (looks : List Look) → OnlyRead looks → OnlyRead (cut_from false place looks).looks
cut_only place [] only = tt
cut_only place (look ∷ looks) only = by_question look.question look.sight only.0 (cut_only (place + 0) looks only.1)
  where
    by_question : (question : Question) (sight : Sight) → IsRead question → OnlyRead (cut_from false (place + 0) looks).looks →
        OnlyRead (cut_from false place (record { question = question; sight = sight } ∷ looks)).looks
    by_question Length sight is others = absurd is
    by_question (ReadAt at count) sight is others = (tt, others)

-- they are one segment
alone : (place : ℕ) (looks : List Look) (front : List Segment) (last : Segment) → OnlyRead looks → segments_of place looks ≡ front ++ last ∷ [] →
    record { place = place; fall = None; looks = (cut_from false place looks).looks } ≡ last
alone place looks front last only are =
    let cut = cut_from false place looks in
    let first : Segment = record { place = place; fall = None; looks = cut.looks } in
    sym (ap (last_of first) (none_later place looks only)) ∙ last_is first cut.later front last are

pub begins_there : (place : ℕ) (looks : List Look) (front : List Segment) (last : Segment) → OnlyRead looks → segments_of place looks ≡ front ++ last ∷ [] → last.place ≡ place
begins_there place looks front last only are = ap (λ (s : Segment). s.place) (sym (alone place looks front last only are))

pub only_read_in : (place : ℕ) (looks : List Look) (front : List Segment) (last : Segment) → OnlyRead looks → segments_of place looks ≡ front ++ last ∷ [] → OnlyRead last.looks
only_read_in place looks front last only are =
    subst (λ (s : Segment). OnlyRead s.looks) (alone place looks front last only are) (cut_only place looks only)

-- ---- the looks of a turn

-- the length is below the place, and behind it the key alone is asked
pub behind_a_fall : (place : ℕ) (look : Look) (looks : List Look) → look.question ≡ Length → look.sight.length < place → OnlyRead looks → ReadsBehind false place (look ∷ looks)
behind_a_fall place look looks asks below only = (
  λ no. let never : false ≡ true = no in cc,
  subst (λ (b : Bool). ReadsBehind b (place_then false place look.question look.sight) looks) (sym none) (only_reads (place_then false place look.question look.sight) looks only),
)
  where
    none : reaches place look.question look.sight ≡ false
    none = reaches_not place look.question look.sight (ap (λ (q : Question). falls_below place q look.sight) asks ∙ lt-ltb look.sight.length place below)

-- it is not, and a read there follows
pub behind_the_length : (place : ℕ) (look read : Look) (count : ℕ) → look.question ≡ Length → place ≤ look.sight.length → read.question ≡ ReadAt place count → ReadsBehind false place (look ∷ read ∷ [])
behind_the_length place look read count asks reached reads = (
  λ no. let never : false ≡ true = no in cc,
  subst (λ (b : Bool). ReadsBehind b (place_then false place look.question look.sight) (read ∷ [])) (sym some)
      (subst (λ (n : ℕ). ReadsBehind true n (read ∷ [])) (sym same) there),
)
  where
    some : reaches place look.question look.sight ≡ true
    some = ap (λ (q : Question). reaches place q look.sight) asks ∙ le-leb place look.sight.length reached

    same : place_then false place look.question look.sight ≡ place
    same =
        ap (λ (q : Question). place_then false place q look.sight) asks
        ∙ ap (λ (b : Bool). if b then 0 else place + 0) (le-ltb look.sight.length place reached)
        ∙ omega arith

    there : ReadsBehind true place (read ∷ [])
    there = (
      λ yes. subst (IsReadThere place) (sym reads) refl,
      ap (λ (q : Question). reaches place q read.sight) reads,
    )
