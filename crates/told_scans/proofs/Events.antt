-- Places and closings in a list of things that were done.
use Rattle.std.proofs.Common.{◌≡◌, ℕ, List, [], ◌∷◌, ◌++◌, length, Option, None, Some, refl, ap, ◌∙◌}
use Rattle.std.specs.Prelude.{slice_get}
use Rattle.kept_rows.specs.Trace.{Closing, closing_by, closing_in, first_of_two}
use Rattle.outside.specs.Folders.{Event}

pub got_at_end : {A : Type 0} (xs : List A) (x : A) (ys : List A) → slice_get (xs ++ x ∷ ys) (length xs) ≡ Some x
got_at_end [] x ys = refl
got_at_end (first ∷ xs) x ys = got_at_end xs x ys

-- the first closing among two lists, one behind the other
pub closing_both : (opening : ℕ) (first second : List Event) → closing_in opening (first ++ second) ≡ first_of_two (closing_in opening first) (closing_in opening second)
closing_both opening [] second = refl
closing_both opening (event ∷ first) second = ap (first_of_two (closing_by opening event)) (closing_both opening first second)
    ∙ in_turn (closing_by opening event) (closing_in opening first) (closing_in opening second)
  where
    in_turn : (x y z : Option Closing) → first_of_two x (first_of_two y z) ≡ first_of_two (first_of_two x y) z
    in_turn None y z = refl
    in_turn (Some c) y z = refl
