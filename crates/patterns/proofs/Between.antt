-- A search in bytes, gone on with after each match that starts inside a character, finds what a search in text does.
use Rattle.std.proofs.Common.{◌≡◌, ℕ, ◌+◌, ◌<◌, ◌≤◌, List, length, Option, Some, None, IsCharBoundary, is_some, option_map, true, false, refl, sym, ap, ◌∙◌, subst, inl, inr, arith}
use Rattle.std.proofs.lemmas.Bool.{cases_Bool}
use Rattle.regex_hir.specs.Find.{find, find_str}
use Rattle.regex_hir.specs.Re.{Re}
use Rattle.regex_hir.specs.Text.{is_boundary}
use Rattle.regex_meta.proofs.ProgramLemmas.{none_of_option_map, value_of_option_map}
use Rattle.regex_meta.specs.Programs.{pattern_of}
use Rattle.regex_meta.specs.declared.program.Program.{Program}
use Rattle.regex.specs.Patterns.{span}
use Rattle.regex.proofs.SearchLemmas.{leftmost_none, leftmost_here, leftmost_retry, leftmost_within, inside_char}
use Rattle.regex.proofs.Utf8Lemmas.{IsCharBoundary-of_test, test_of_IsCharBoundary}

-- what a match in the bytes that starts here says of the text
pub record Seen (tree : Re) (text : List ℕ) (place start : ℕ) : Type 0 where
  pub behind : place ≤ start
  pub at_a_cut : IsCharBoundary text start → is_some (find_str tree text place) ≡ true
  pub inside : ¬ (IsCharBoundary text start) → (start < length text) × (find_str tree text place ≡ find_str tree text (start + 1))

module _ (tree : Re) (text : List ℕ) (place : ℕ) where
  seen_at : (found : ℕ × ℕ) → option_map span (find tree text place) ≡ Some found → Seen tree text place found.0
  seen_at found e =
      let v = value_of_option_map span (find tree text place) found e in
      let m = v.0 in
      let starts : m.start ≡ found.0 = ap (λ s. s.0) v.2 in
      let within = leftmost_within tree text false place m v.1 in
      record {
        behind = omega arith;
        at_a_cut = λ cut. ap is_some
            (leftmost_here tree text true place m v.1 (λ _. test_of_IsCharBoundary text m.start (subst (IsCharBoundary text) (sym starts) cut)));
        inside = λ uncut. elim (cases_Bool (is_boundary text m.start)) [
          | inl cut ↦ absurd (uncut (subst (IsCharBoundary text) starts (IsCharBoundary-of_test text m.start (omega arith) cut)))
          | inr within_one ↦ (
            subst (λ n. n < length text) starts (inside_char tree text m.start within_one),
            leftmost_retry tree text true place m refl v.1 within_one ∙ ap (λ n. find_str tree text (n + 1)) starts,
          )
        ];
      }

  unseen_at : option_map span (find tree text place) ≡ None → is_some (find_str tree text place) ≡ false
  unseen_at e = ap is_some (leftmost_none tree text true place (none_of_option_map span _ e))

-- the same of what a searcher answers that has this program
module _ (p q : Program) (text bytes : List ℕ) (place : ℕ) (same_program : q ≡ p) (same_bytes : bytes ≡ text) where
  carried : (found : Option (ℕ × ℕ)) → found ≡ option_map span (find (pattern_of q) bytes place) →
      option_map span (find (pattern_of p) text place) ≡ found
  carried found e =
      sym (e ∙ ap (λ r. option_map span (find (pattern_of r) bytes place)) same_program
      ∙ ap (λ bs. option_map span (find (pattern_of p) bs place)) same_bytes)

  pub seen : (found : ℕ × ℕ) → Some found ≡ option_map span (find (pattern_of q) bytes place) → Seen (pattern_of p) text place found.0
  seen found e = seen_at (pattern_of p) text place found (carried (Some found) e)

  pub unseen : None ≡ option_map span (find (pattern_of q) bytes place) → is_some (find_str (pattern_of p) text place) ≡ false
  unseen e = unseen_at (pattern_of p) text place (carried None e)
