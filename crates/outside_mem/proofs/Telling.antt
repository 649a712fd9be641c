-- Moments of change that were told for paths, and are listed.
use Rattle.std.proofs.Common.{◌≡◌, ℕ, ◌+◌, Bool, true, false, cond, List, [], ◌∷◌, ◌++◌, All, Option, Some, None, refl, sym, ap, ◌∙◌}
use Rattle.std.specs.List.{AllByRecursion}
use Rattle.std.specs.Option.{option_map, option_to_list}
use Rattle.std.specs.Str.{bytes_eq}
use Rattle.std.proofs.lemmas.List.Elements.{All-from_recursion}
use Rattle.std.proofs.lemmas.Slice.Eq.{bytes_eq-Decides}
use Rattle.wire_base.specs.declared.numbers.Moment.{Moment}
use Rattle.outside_mem.specs.declared.moments.ToldMoment.{ToldMoment}
use Rattle.outside.specs.declared.history.Shown.{Shown}
use Rattle.outside_mem.specs.declared.tracked.Tracked.{Tracked}
use Rattle.outside_mem.specs.Moments.{moment_from, moment_of}
use Rattle.outside_mem.specs.Tracking.{path_of, present_from, shown_by}

-- the last that was told decides
moment_from-push : (moment : Moment) (told : List ToldMoment) (one : ToldMoment) (path : List ℕ) → moment_from moment (told ++ one ∷ []) path ≡ cond (bytes_eq one.path path) one.moment (moment_from moment told path)
moment_from-push moment [] one path = refl
moment_from-push moment (first ∷ told) one path = moment_from-push (cond (bytes_eq first.path path) first.moment moment) told one path

same_test : (path : List ℕ) → bytes_eq path path ≡ true
same_test path = (bytes_eq-Decides path path).1 refl

other_test : (path other : List ℕ) → (other ≡ path → ⊥) → bytes_eq path other ≡ false
other_test path other apart = by_test (bytes_eq path other) (bytes_eq-Decides path other)
  where
    by_test : (test : Bool) → (test ≡ true → path ≡ other) × (path ≡ other → test ≡ true) → test ≡ false
    by_test true decides = absurd (apart (sym (decides.0 refl)))
    by_test false decides = refl

-- of the path for which it was told
pub moment_told : (moment : Moment) (told : List ToldMoment) (one : ToldMoment) (path : List ℕ) → one.path ≡ path → moment_from moment (told ++ one ∷ []) path ≡ one.moment
moment_told moment told one path is =
    moment_from-push moment told one path ∙ ap (λ (test : Bool). cond test one.moment (moment_from moment told path)) (ap (λ (p : List ℕ). bytes_eq p path) is ∙ same_test path)

-- and of others
pub moment_kept : (moment : Moment) (told : List ToldMoment) (one : ToldMoment) (path other : List ℕ) → one.path ≡ path → (other ≡ path → ⊥) → moment_from moment (told ++ one ∷ []) other ≡ moment_from moment told other
moment_kept moment told one path other is apart =
    moment_from-push moment told one other ∙ ap (λ (test : Bool). cond test one.moment (moment_from moment told other)) (ap (λ (p : List ℕ). bytes_eq p other) is ∙ other_test path other apart)

-- a listing shows them
one_dated : (moments : List ToldMoment) (number listings : ℕ) (tracked : Tracked) (named : Option (List ℕ)) (others : List Shown) → AllByRecursion (λ one. one.entry.changed ≡ moment_of moments one.entry.path) others → AllByRecursion (λ one. one.entry.changed ≡ moment_of moments one.entry.path) (option_to_list (option_map (shown_by moments number listings tracked) named) ++ others)
one_dated moments number listings tracked None others all = all
one_dated moments number listings tracked (Some path) others all = (refl, all)

dated : (moments : List ToldMoment) (number listings : ℕ) (files : List Tracked) → AllByRecursion (λ one. one.entry.changed ≡ moment_of moments one.entry.path) (present_from moments number listings files)
dated moments number listings [] = tt
dated moments number listings (tracked ∷ files) = one_dated moments number listings tracked (path_of listings tracked) (present_from moments (number + 1) listings files) (dated moments (number + 1) listings files)

pub all_dated : (moments : List ToldMoment) (number listings : ℕ) (files : List Tracked) → All (λ one. one.entry.changed ≡ moment_of moments one.entry.path) (present_from moments number listings files)
all_dated moments number listings files = All-from_recursion (λ one. one.entry.changed ≡ moment_of moments one.entry.path) (present_from moments number listings files) (dated moments number listings files)
