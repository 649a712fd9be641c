-- Totals over one file more.
use Rattle.std.proofs.Common.{◌≡◌, ℕ, ◌+◌, ◌-◌, ◌^◌, ◌<◌, ◌≤◌, Bool, true, false, if◌then◌else◌, List, [], ◌∷◌, ◌++◌, length, take, get_or, min, refl, sym, ap, ◌∙◌, arith}
use Rattle.std.proofs.lemmas.List.{take_more}
use Rattle.file_progress.specs.Totals.{behind_in, behind_of, count_in, is_state, sum_behind}
use Rattle.file_progress.specs.declared.progress.Progress.{Progress}
use Rattle.file_progress.specs.declared.state.State.{State}

sum_with : (files : List Progress) (one : Progress) → sum_behind (files ++ one ∷ []) ≡ sum_behind files + behind_of one
sum_with [] one = omega arith
sum_with (first ∷ files) one = omega (arith, sum_with files one)

count_with : (state : State) (files : List Progress) (one : Progress) → count_in state (files ++ one ∷ []) ≡ count_in state files + (if is_state state one then 1 else 0)
count_with state [] one = omega arith
count_with state (first ∷ files) one = omega (arith, count_with state files one)

at_most_one : (b : Bool) → (if b then 1 else 0) ≤ 1
at_most_one true = omega arith
at_most_one false = omega arith

pub count_few : (state : State) (files : List Progress) → count_in state files ≤ length files
count_few state [] = omega arith
count_few state (one ∷ files) = omega (arith, count_few state files, at_most_one (is_state state one))

saturated : (total more most : ℕ) → min (min total most + more) most ≡ min (total + more) most
saturated total more most = omega arith

module _ (files : List Progress) (i : ℕ) (one : Progress) (below : i < length files) (is : one ≡ get_or files i one) where
  one_more : take (i + 1) files ≡ take i files ++ one ∷ []
  one_more = take_more files i one below ∙ ap (λ (e : Progress). take i files ++ e ∷ []) (sym is)

  pub behind_more : (total now : ℕ) → total ≡ behind_in (take i files) → now ≡ min (total + behind_of one) (2 ^ 64 - 1) → now ≡ behind_in (take (i + 1) files)
  behind_more total now so_far more =
      more ∙ ap (λ (n : ℕ). min (n + behind_of one) (2 ^ 64 - 1)) so_far ∙ saturated (sum_behind (take i files)) (behind_of one) (2 ^ 64 - 1)
      ∙ ap (λ (n : ℕ). min n (2 ^ 64 - 1)) (sym (ap sum_behind one_more ∙ sum_with (take i files) one))

  count_more : (state : State) → count_in state (take (i + 1) files) ≡ count_in state (take i files) + (if is_state state one then 1 else 0)
  count_more state = ap (count_in state) one_more ∙ count_with state (take i files) one

  pub counted_more : (state : State) (found : Bool) (count now : ℕ) → found ≡ is_state state one → count ≡ count_in state (take i files) → now ≡ count + (if found then 1 else 0) → now ≡ count_in state (take (i + 1) files)
  counted_more state found count now found_is so_far more =
      more ∙ ap (λ (b : Bool). count + (if b then 1 else 0)) found_is ∙ ap (λ (n : ℕ). n + (if is_state state one then 1 else 0)) so_far ∙ sym (count_more state)
