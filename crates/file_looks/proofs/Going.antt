-- Segments of looks that go on, and what was found before stays.
use Rattle.std.proofs.Common.{◌≡◌, ℕ, ◌+◌, ◌≤◌, Bool, true, false, cond, List, [], ◌∷◌, ◌++◌, Option, Some, None, refl, sym, ap, subst, ◌∙◌, append_assoc, append-nil, le_refl, arith}
use Rattle.std.specs.List.{flat_map}
use Rattle.outside.specs.declared.history.Look.{Look}
use Rattle.outside.specs.Files.{File}
use Rattle.file_looks.specs.EndLook.{HadReadTo, HasEndLook, with_looks}
use Rattle.file_looks.specs.Going.{GoOn, GoesOn}
use Rattle.file_looks.specs.Reading.{bytes_at, bytes_read, last_life, life_behind}
use Rattle.file_looks.specs.Segment.{Cut, Segment, cut_from, read_to, segments_of, steps_in, with_fall, with_look}
use Rattle.file_looks.specs.Step.{Step, falls_below, place_behind, read_by, reaches, step_at, steps_from}
use Rattle.file_looks.specs.Truncation.{AreSeen, SeesTruncations}

-- the segments that begin with the looks of a cut
abbrev begun : ℕ → Option Look → Cut → List Segment
begun place fall cut = record { place = place; fall = fall; looks = cut.looks } ∷ cut.later

in_front : (place : ℕ) (fall : Option Look) (look : Look) (looks : List Look) (later : List Segment) (now : Cut) →
    GoOn (record { place = place; fall = fall; looks = looks } ∷ later) (begun place fall now) →
    GoOn (record { place = place; fall = fall; looks = look ∷ looks } ∷ later) (begun place fall (with_look look now))
in_front place fall look looks [] now on =
    record { same_place = refl; same_fall = refl; more = on.more; looks_on = ap (λ (l : List Look). look ∷ l) on.looks_on }
in_front place fall look looks (segment ∷ later) now on =
    let same : now.looks ≡ looks = ap (λ (s : Segment). s.looks) on.0 in
    (ap (λ (l : List Look). record { place = place; fall = fall; looks = look ∷ l }) same, on.1)

both : {A : Type 0} (b : Bool) (R : A → A → Type 0) (x y z w : A) → R x z → R y w → R (cond b x y) (cond b z w)
both true R x y z w first second = first
both false R x y z w first second = second

cut_on : (place : ℕ) (fall : Option Look) (behind : Bool) (at : ℕ) (looks more : List Look) →
    GoOn (begun place fall (cut_from behind at looks)) (begun place fall (cut_from behind at (looks ++ more)))
cut_on place fall behind at [] more = record { same_place = refl; same_fall = refl; more = (cut_from behind at more).looks; looks_on = refl }
cut_on place fall behind at (look ∷ looks) more =
    let next = at + read_by (step_at behind at look) in
    let here = reaches at look.question look.sight in
    both (falls_below at look.question look.sight) (λ (before now : Cut). GoOn (begun place fall before) (begun place fall now))
    (with_fall look (cut_from false 0 looks)) (with_look look (cut_from here next looks))
    (with_fall look (cut_from false 0 (looks ++ more))) (with_look look (cut_from here next (looks ++ more)))
    (refl, cut_on 0 (Some look) false 0 looks more)
    (in_front place fall look (cut_from here next looks).looks (cut_from here next looks).later (cut_from here next (looks ++ more))
    (cut_on place fall here next looks more))

pub segments_on : (place : ℕ) (looks more : List Look) → GoOn (segments_of place looks) (segments_of place (looks ++ more))
segments_on place looks more = cut_on place None false place looks more

-- ---- the steps of more looks

-- whether a read directly after these looks counts
abbrev reached : Bool → ℕ → List Look → Bool
reached behind place [] = behind
reached behind place (look ∷ looks) = reached (reaches place look.question look.sight) (place + read_by (step_at behind place look)) looks

steps-append : (behind : Bool) (place : ℕ) (looks more : List Look) → steps_from behind place (looks ++ more)
    ≡ steps_from behind place looks ++ steps_from (reached behind place looks) (place_behind place (steps_from behind place looks)) more
steps-append behind place [] more = refl
steps-append behind place (look ∷ looks) more =
    ap (λ (l : List Step). step_at behind place look ∷ l)
    (steps-append (reaches place look.question look.sight) (place + read_by (step_at behind place look)) looks more)

place_behind-append : (place : ℕ) (steps more : List Step) → place_behind place (steps ++ more) ≡ place_behind (place_behind place steps) more
place_behind-append place [] more = refl
place_behind-append place (step ∷ steps) more = place_behind-append (place + read_by step) steps more

pub no_step_back : (place : ℕ) (steps : List Step) → place ≤ place_behind place steps
no_step_back place [] = le_refl place
no_step_back place (step ∷ steps) = omega (arith, no_step_back (place + read_by step) steps)

flat_map-append : (f : Step → List ℕ) (xs ys : List Step) → flat_map f (xs ++ ys) ≡ flat_map f xs ++ flat_map f ys
flat_map-append f [] ys = refl
flat_map-append f (x ∷ xs) ys = ap (λ (l : List ℕ). f x ++ l) (flat_map-append f xs ys) ∙ sym (append_assoc (f x) (flat_map f xs) (flat_map f ys))

seen_before : (life : ℕ) (steps more : List Step) → AreSeen life (steps ++ more) → AreSeen life steps
seen_before life [] more seen = tt
seen_before life (step ∷ steps) more seen = (seen.0, seen_before (life_behind life step) steps more seen.1)

-- the steps of a segment that goes on
pub record StepsOn (before now : Segment) : Type 0 where
  pub more : List Step
  pub are : steps_in now ≡ steps_in before ++ more

pub steps_on : (before now : Segment) → GoesOn before now → StepsOn before now
steps_on before now on =
    let S : ℕ → List Look → List Step = λ place looks. steps_from false place looks in
    record {
      more = steps_from (reached false before.place before.looks) (place_behind before.place (steps_in before)) on.more;
      are = ap (λ (place : ℕ). S place now.looks) on.same_place ∙ ap (λ (looks : List Look). S before.place looks) on.looks_on
          ∙ steps-append false before.place before.looks on.more;
    }

pub record ReadStays (file : File) (before now : Segment) : Type 0 where
  pub later : List ℕ
  pub bytes : bytes_read file now ≡ bytes_read file before ++ later
  pub onward : read_to before ≤ read_to now

pub read_stays : (file : File) (before now : Segment) → GoesOn before now → ReadStays file before now
read_stays file before now on =
    let steps = steps_on before now on in
    let further : read_to now ≡ place_behind (read_to before) steps.more =
    ap (λ (place : ℕ). place_behind place (steps_in now)) on.same_place ∙ ap (λ (l : List Step). place_behind before.place l) steps.are
    ∙ place_behind-append before.place (steps_in before) steps.more in
    record {
      later = flat_map (bytes_at file) steps.more;
      bytes = ap (λ (l : List Step). flat_map (bytes_at file) l) steps.are ∙ flat_map-append (bytes_at file) (steps_in before) steps.more;
      onward = subst (λ (n : ℕ). read_to before ≤ n) (sym further) (no_step_back (read_to before) steps.more);
    }

-- ---- the premise of all looks is that of the first

seen_in : (life : ℕ) (before now : Segment) → GoesOn before now → AreSeen life (steps_in now) → AreSeen life (steps_in before)
seen_in life before now on seen =
    let steps = steps_on before now on in
    seen_before life (steps_in before) steps.more (subst (λ (l : List Step). AreSeen life l) steps.are seen)

pub seen_earlier : (life : ℕ) (before now : List Segment) → GoOn before now → SeesTruncations life now → SeesTruncations life before
seen_earlier life [] now on seen = tt
seen_earlier life (segment ∷ []) [] on seen = absurd on
seen_earlier life (segment ∷ other ∷ before) [] on seen = absurd on
seen_earlier life (segment ∷ []) (grown ∷ now) on seen = (seen_in life segment grown on seen.0, tt)
seen_earlier life (segment ∷ other ∷ before) (same ∷ now) on seen =
    let P : Segment → Type 0 = λ s. AreSeen life (steps_in s) × SeesTruncations (last_life life (steps_in s)) now in
    let here = subst P on.0 seen in
    (here.0, seen_earlier (last_life life (steps_in segment)) (other ∷ before) now on.1 here.1)

-- ---- what a segment found stays

moved : (before now : Segment) (front : List Look) (place : ℕ) → GoesOn before now → read_to (with_looks before front) ≡ place →
    read_to (with_looks now front) ≡ place
moved before now front place on stands = ap (λ (n : ℕ). place_behind n (steps_from false n front)) on.same_place ∙ stands

pub end_look_stays : (before now : Segment) (place : ℕ) → GoesOn before now → HasEndLook before place → HasEndLook now place
end_look_stays before now place on end = record {
  front = end.front;
  asked = end.asked;
  read = end.read;
  behind = end.behind ++ on.more;
  looks_are = on.looks_on ∙ ap (λ (l : List Look). l ++ on.more) end.looks_are ∙ append_assoc end.front (end.asked ∷ end.read ∷ end.behind) on.more;
  asks = end.asks;
  not_below = end.not_below;
  gives_nothing = end.gives_nothing;
  stands_there = moved before now end.front place on end.stands_there;
}

pub place_stays : (before now : Segment) (place : ℕ) → GoesOn before now → HadReadTo before place → HadReadTo now place
place_stays before now place on had = record {
  front = had.front;
  behind = had.behind ++ on.more;
  looks_are = on.looks_on ∙ ap (λ (l : List Look). l ++ on.more) had.looks_are ∙ append_assoc had.front had.behind on.more;
  stands_there = moved before now had.front place on had.stands_there;
}

pub end_look_had_read : (segment : Segment) (place : ℕ) → HasEndLook segment place → HadReadTo segment place
end_look_had_read segment place end = record { front = end.front; behind = end.asked ∷ end.read ∷ end.behind; looks_are = end.looks_are; stands_there = end.stands_there }

pub had_read_all : (segment : Segment) → HadReadTo segment (read_to segment)
had_read_all segment = record { front = segment.looks; behind = []; looks_are = sym (append-nil segment.looks); stands_there = refl }
