-- Whether all is settled or done, from what each answers.
use Rattle.std.specs.Bool.{OnTrue}
use Rattle.std.proofs.Common.{◌≡◌, ◌≢◌, ℕ, ◌<◌, Bool, true, false, List, [], ◌∷◌, ◌++◌, Option, None, length, take, refl, ap, subst, ◌∙◌, arith}
use Rattle.batch_worker.specs.Held.{noted, notes_of, owed_by, settled_in}
use Rattle.batch_worker.specs.Working.{Working}
use Rattle.wire_base.specs.declared.note.Note.{Note}
use Rattle.wire_base.specs.declared.parcel.Parcel.{Parcel}

pub when_true : {P : Type 0} (b : Bool) → P → OnTrue b P
when_true true holds = holds
when_true false holds = tt

pub true_then : {P Q : Type 0} (b : Bool) → (P → Q) → OnTrue b P → OnTrue b Q
true_then true then holds = then holds
true_then false then holds = tt

-- ---- lists of which none is left

module _ {A : Type 0} where
  abbrev IsCons : List A → Type 0
  IsCons [] = ⊥
  IsCons (x ∷ xs) = Unit {0}

  first_none : (xs ys : List A) → xs ++ ys ≡ [] → xs ≡ []
  first_none [] ys is = refl
  first_none (x ∷ xs) ys is = absurd (subst IsCons is tt)

  rest_none : (xs ys : List A) → xs ++ ys ≡ [] → ys ≡ []
  rest_none [] ys is = is
  rest_none (x ∷ xs) ys is = absurd (subst IsCons is tt)

  pub some_first : (xs ys : List A) → xs ≢ [] → xs ++ ys ≢ []
  some_first xs ys some = λ is. some (first_none xs ys is)

  pub some_rest : (xs ys : List A) → ys ≢ [] → xs ++ ys ≢ []
  some_rest xs ys some = λ is. some (rest_none xs ys is)

  pub some_long : (xs : List A) → 0 < length xs → xs ≢ []
  some_long xs long = λ is. absurd (omega (arith, long, ap length is))

-- ---- what a worker owes

none_taken : (ps : List Parcel) → take 0 ps ≡ []
none_taken [] = refl
none_taken (p ∷ ps) = refl

pub none_owed : {L : Type 0} (w : Working L) → w.refused ≡ None → w.window.acknowledged ≡ 0 → owed_by w ≡ []
none_owed w refused acknowledged =
    ap (λ (r : Option Note). noted r ++ notes_of (settled_in w.window)) refused
    ∙ ap (λ (n : ℕ). notes_of (take n w.window.parcels)) acknowledged
    ∙ ap notes_of (none_taken w.window.parcels)
