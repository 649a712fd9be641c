-- The segments of looks are the ones that are meant.
use Rattle.std.proofs.Common.{◌≡◌, ℕ, ◌+◌, ◌<◌, Bool, true, false, cond, List, [], ◌∷◌, ◌++◌, Some, None, refl, sym, ap, subst, ltb-true}
use Rattle.std.specs.List.{AllByRecursion, flat_map}
use Rattle.outside.specs.declared.history.Look.{Look}
use Rattle.outside.specs.declared.history.Question.{Question}
use Rattle.outside.specs.declared.history.Question.TheVariants.{Length, ReadAt}
use Rattle.outside.specs.declared.history.Sight.{Sight}
use Rattle.file_looks.specs.Step.{falls_below, place_behind, read_by, reaches, step_at, steps_from}
use Rattle.file_looks.specs.Segment.{AreSegments, Cut, FollowOn, NoneFalls, Segment, cut_from, looks_in, read_to, segments_of, with_fall, with_look}

-- what holds of both choices, each where it is made
pub by_choice : {A : Type 0} (b : Bool) (P : A → Type 0) (x y : A) → (b ≡ true → P x) → (b ≡ false → P y) → P (cond b x y)
by_choice true P x y first second = first refl
by_choice false P x y first second = second refl

fell : (place : ℕ) (question : Question) (sight : Sight) → falls_below place question sight ≡ true →
    (question ≡ Length) × (sight.length < place)
fell place Length sight below = (refl, ltb-true sight.length place below)
fell place (ReadAt at count) sight below = absurd cc

-- what a cut of looks is
record IsCut (behind : Bool) (place : ℕ) (looks : List Look) (cut : Cut) : Type 0 where
  together : cut.looks ++ flat_map looks_in cut.later ≡ looks
  none_falls : AllByRecursion (λ step. falls_below step.place step.look.question step.look.sight ≡ false) (steps_from behind place cut.looks)
  later_none : AllByRecursion NoneFalls cut.later
  follow : (before : Segment) → read_to before ≡ place_behind place (steps_from behind place cut.looks) → FollowOn before cut.later

cut_is : (behind : Bool) (place : ℕ) (looks : List Look) → IsCut behind place looks (cut_from behind place looks)
cut_is behind place [] = record { together = refl; none_falls = tt; later_none = tt; follow = λ before same. tt }
cut_is behind place (look ∷ looks) =
    let next = place + read_by (step_at behind place look) in
    let fresh = cut_is false 0 looks in
    let on = cut_is (reaches place look.question look.sight) next looks in
    by_choice (falls_below place look.question look.sight) (IsCut behind place (look ∷ looks))
    (with_fall look (cut_from false 0 looks))
    (with_look look (cut_from (reaches place look.question look.sight) next looks))
    (λ below.
    let fall = fell place look.question look.sight below in
    record {
      together = ap (λ (l : List Look). look ∷ l) fresh.together;
      none_falls = tt;
      later_none = (fresh.none_falls, fresh.later_none);
      follow = λ before same. (
        record { from_the_first_byte = refl; look = look; begins = refl; asks = fall.0; below = subst (λ (n : ℕ). look.sight.length < n) (sym same) fall.1 },
        fresh.follow (record { place = 0; fall = Some look; looks = (cut_from false 0 looks).looks }) refl,
      );
    })
    (λ holds. record {
      together = ap (λ (l : List Look). look ∷ l) on.together;
      none_falls = (holds, on.none_falls);
      later_none = on.later_none;
      follow = λ before same. on.follow before same;
    })

pub segments_are : (place : ℕ) (looks : List Look) → AreSegments place looks (segments_of place looks)
segments_are place looks =
    let is = cut_is false place looks in
    let cut = cut_from false place looks in
    record {
      first = record { place = place; fall = None; looks = cut.looks };
      later = cut.later;
      are = refl;
      goes_on = refl;
      begins_nowhere = refl;
      follow = is.follow (record { place = place; fall = None; looks = cut.looks }) refl;
      none_falls = (is.none_falls, is.later_none);
      together = is.together;
    }
