-- Worked removals: two inputs, of which the first cleans, and a listed file of the first.
use Rattle.std.proofs.Common.{◌≡◌, ◌⊎◌, ℕ, zero, suc, ◌<◌, true, false, All, List, [], ◌∷◌, ◌++◌, length, get_or, Option, Some, None, codes, refl, sym, ap, ◌∙◌, subst, inl, inr, arith}
use Rattle.std.specs.Prelude.{Any, IsSome}
use Rattle.std.proofs.lemmas.List.Elements.{All-cons, All-head, All-nil}
use Rattle.event_tree.specs.declared.input_rule.InputRule.{InputRule}
use Rattle.file_rows.specs.Removed.{IsCleaned, IsListedKey, IsRemoved}
use Rattle.kept_rows.specs.Followed.{IsKeyOf}
use Rattle.prospect.specs.declared.listed.Listed.{Listed}
use Rattle.wire_base.specs.declared.row.Row.{Row}
use Rattle.run_steps.specs.HiddenRows.{AreHiddenAmong, hidden_as}

abbrev row : List ℕ → Row
row key = record { key = key; path = codes "/w"; epoch = record { 0 = 0 }; offset = 5; changed = record { 0 = 0 } }

abbrev file : Option (List ℕ) → Listed
file key = record { input = 0; key = key; path = codes "/w"; size = 9; changed = record { 0 = 0 } }

abbrev stays : List ℕ
stays = codes "filestream::a::path::/1"

abbrev goes : List ℕ
goes = codes "filestream::a::path::/2"

abbrev of_another : List ℕ
of_another = codes "filestream::b::path::/2"

abbrev longer_id : List ℕ
longer_id = codes "filestream::ab::path::/2"

abbrev listed : List Listed
listed = file (Some stays) ∷ []

-- the first of the list, or one behind it
any_cases : {A : Type 0} (P : A → Type 0) (x : A) (xs : List A) → Any P (x ∷ xs) → P x ⊎ Any P xs
any_cases P x xs any = by_place any.0 any.2 any.3
  where
    by_place : (k : ℕ) → k < length (x ∷ xs) → get_or (x ∷ xs) k any.1 ≡ any.1 → P x ⊎ Any P xs
    by_place zero inside at = inl (subst P (sym at) any.4)
    by_place (suc k) inside at = inr (k, any.1, omega arith, at, any.4)

any_of_none : {A : Type 0} (P : A → Type 0) → Any P [] → ⊥
any_of_none P any = omega (arith, any.2)

-- two keys are apart by a byte
apart : (one other : List ℕ) (place : ℕ) → (get_or one place 0 ≡ get_or other place 0 → ⊥) → one ≡ other → ⊥
apart one other place differs same = differs (ap (λ (l : List ℕ). get_or l place 0) same)

all_known : All (λ (one : Listed). IsSome one.key) listed
all_known = All-cons (λ (one : Listed). IsSome one.key) (file (Some stays)) [] refl (All-nil (λ (one : Listed). IsSome one.key))

listed_there : IsListedKey listed stays
listed_there = (0, file (Some stays), omega arith, refl, refl)

not_there : (key : List ℕ) → (stays ≡ key → ⊥) → ¬ (IsListedKey listed key)
not_there key differs found = by_case (any_cases (λ (one : Listed). one.key ≡ Some key) (file (Some stays)) [] found)
  where
    by_case : (Some stays ≡ Some key) ⊎ Any (λ (one : Listed). one.key ≡ Some key) [] → ⊥
    by_case (inl same) = differs cc
    by_case (inr none) = any_of_none (λ (one : Listed). one.key ≡ Some key) none

module _ (first second : InputRule) (first_is : first.id ≡ codes "a") (cleans : first.clean_removed ≡ true) (second_is : second.id ≡ codes "b") (keeps : second.clean_removed ≡ false) where
  abbrev inputs : List InputRule
  inputs = first ∷ second ∷ []

  abbrev Cleans : List ℕ → InputRule → Type 0
  Cleans key rule = (rule.clean_removed ≡ true) × IsKeyOf rule.id key

  -- a key of the first input is of one that cleans, and no other key is
  cleaned : (key : List ℕ) → IsKeyOf (codes "a") key → IsCleaned inputs key
  cleaned key of = (0, first, omega arith, refl, (cleans, subst (λ (id : List ℕ). IsKeyOf id key) (sym first_is) of))

  only_by_the_first : (key : List ℕ) → IsCleaned inputs key → IsKeyOf (codes "a") key
  only_by_the_first key found = at_first (any_cases (Cleans key) first (second ∷ []) found)
    where
      at_second : Cleans key second ⊎ Any (Cleans key) [] → IsKeyOf (codes "a") key
      at_second (inl here) = absurd (let q : false ≡ true = sym keeps ∙ here.0 in cc)
      at_second (inr none) = absurd (any_of_none (Cleans key) none)

      at_first : Cleans key first ⊎ Any (Cleans key) (second ∷ []) → IsKeyOf (codes "a") key
      at_first (inl here) = subst (λ (id : List ℕ). IsKeyOf id key) first_is here.1
      at_first (inr later) = at_second (any_cases (Cleans key) second [] later)

  -- the row of the listed file stays, and that of a file that is not listed goes
  listed_stays : ¬ (IsRemoved inputs listed stays)
  listed_stays removed = removed.unlisted listed_there

  unlisted_goes : IsRemoved inputs listed goes
  unlisted_goes = record {
    all_known = all_known;
    cleaned = cleaned goes (record { rest = codes "path::/2"; spelled = refl });
    unlisted = not_there goes (apart stays goes 22 (λ q. omega (arith, q)));
  }

  -- of the two rows the second one is hidden, by the slot behind that of the listed file
  one_of_two : AreHiddenAmong inputs listed 1 (row stays ∷ row goes ∷ []) (hidden_as inputs 1 (row goes) unlisted_goes.cleaned ∷ [])
  one_of_two = inl (listed_stays, inr (record { removed = unlisted_goes; later = []; are = refl; rest = refl }))

  -- that of an input that does not clean stays
  of_another_stays : ¬ (IsRemoved inputs listed of_another)
  of_another_stays removed =
      let of = only_by_the_first of_another removed.cleaned in
      apart of_another (codes "filestream::a::" ++ of.rest) 12 (λ q. omega (arith, q)) of.spelled

  -- and that of a longer id
  longer_id_stays : ¬ (IsRemoved inputs listed longer_id)
  longer_id_stays removed =
      let of = only_by_the_first longer_id removed.cleaned in
      apart longer_id (codes "filestream::a::" ++ of.rest) 13 (λ q. omega (arith, q)) of.spelled

  -- where a listed file has no key each row stays
  unknown_stays : (key : List ℕ) → ¬ (IsRemoved inputs (file None ∷ listed) key)
  unknown_stays key removed = (let q : false ≡ true = All-head (λ (one : Listed). IsSome one.key) (file None) listed removed.all_known in cc)
