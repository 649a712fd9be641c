-- What a compiled pattern finds is what its text means.
use Rattle.std.proofs.Common.{◌≡◌, ℕ, ◌<◌, Bool, List, length, All, Option, None, Some, IsSomeAnd, IsSome, true, false, true≢false, is_some, option_map, IsUtf8, ⊎_elim, refl, sym, ap, subst, ◌∙◌, arith}
use Rattle.std.proofs.Math.Bool.{Bool-set}
use Rattle.std.proofs.Math.Logic.{∥∥₁_elim}
use Rattle.regex_dfa.specs.Search.{IsEnd, end_from, entry}
use Rattle.regex_dfa.specs.declared.forward.End.{End}
use Rattle.regex_hir.specs.Re.{Re, Trace, attempt, accept}
use Rattle.regex_hir.proofs.OptionLemmas.{option_cases}
use Rattle.std.proofs.lemmas.Str.{IsCharBoundary-start}
use Rattle.regex_hir.specs.Find.{find}
use Rattle.regex_meta.proofs.ProgramLemmas.{unanchored_end, leftmost_no_end, no_shorter_lem, run-attempt}
use Rattle.regex_meta.proofs.LeftmostLemmas.{find_here}
use Rattle.regex.proofs.SearchLemmas.{leftmost_none, leftmost_here}
use Rattle.regex.proofs.Utf8Lemmas.{find_str_of_filled, test_of_IsCharBoundary}
use Rattle.regex.specs.Utf8.{MatchesText}
use Rattle.regex_meta.specs.Programs.{pattern_of}
use Rattle.regex_meta.specs.declared.program.Program.{Program}
use Rattle.regex_syntax.proofs.CapturesLemmas.{spans, find_alike, find_str_alike}
use Rattle.regex_syntax.proofs.Written.{is_some-option_map}
use Rattle.regex_syntax.specs.Brackets.{Nested}
use Rattle.regex_syntax.specs.Captures.{SameCaptures}
use Rattle.regex_syntax.specs.Grammar.{Names}
use Rattle.patterns.specs.Matching.{is_found, is_found_in_text, finds, matches, matches_text, IsReadAs}
use Rattle.patterns.specs.Pattern.{line_config, text_config}

alike : (is_there : Re → List ℕ → Bool) (tree : Re) (bytes : List ℕ) →
    ((other : Re) → SameCaptures tree other → is_there tree bytes ≡ is_there other bytes) →
    (read_as : Option (Nested Re × Names)) → IsSomeAnd read_as (λ (found, names). SameCaptures tree found.value) →
    is_there tree bytes ≡ finds is_there read_as bytes
alike is_there tree bytes same None p = absurd p
alike is_there tree bytes same (Some (found, names)) p = same found.value p

-- a tree that the grammar reads in the pattern is found where the pattern matches
pub tree_matches : (pattern : List ℕ) (tree : Re) → ∥ IsReadAs line_config pattern tree ∥₁ → (bytes : List ℕ) → All (λ x. x < 256) bytes →
    is_found tree bytes ≡ matches pattern bytes
tree_matches pattern tree read_as bytes small =
    ∥∥₁_elim read_as (Bool-set _ _) (alike is_found tree bytes
    (λ other same. sym (is_some-option_map spans _) ∙ ap is_some (find_alike tree other same bytes small 0) ∙ is_some-option_map spans _)
    _)

pub tree_matches_text : (pattern : List ℕ) (tree : Re) → ∥ IsReadAs text_config pattern tree ∥₁ → (text : List ℕ) → All (λ x. x < 256) text →
    is_found_in_text tree text ≡ matches_text pattern text
tree_matches_text pattern tree read_as text small =
    ∥∥₁_elim read_as (Bool-set _ _) (alike is_found_in_text tree text
    (λ other same. sym (is_some-option_map spans _) ∙ ap is_some (find_str_alike tree other same text small 0) ∙ is_some-option_map spans _)
    _)

none_of_test : {A : Type 0} (found : Option A) → is_some found ≡ false → found ≡ None
none_of_test None e = refl
none_of_test (Some x) e = absurd (true≢false e)

-- what is found nowhere in the bytes is found nowhere in the text
pub missed : (tree : Re) (text : List ℕ) → is_found tree text ≡ false → is_found_in_text tree text ≡ false
missed tree text e = ap is_some (leftmost_none tree text true 0 (none_of_test (find tree text 0) e))

-- what the states of its program answer
module _ (p : Program) (bytes : List ℕ) (small : All (λ x. x < 256) bytes) where
  pub dfa_finds : (end : ℕ) → IsEnd p.dfa.nfa bytes 0 (length bytes) false true
      (end_from p.dfa.nfa bytes (length bytes) (entry p.dfa.nfa false) 0) (End.At end) → is_found (pattern_of p) bytes ≡ true
  dfa_finds end h =
      sym (is_some-option_map _ (find (pattern_of p) bytes 0)) ∙ subst IsSome (unanchored_end p bytes small 0 (omega arith)) h.0

  pub dfa_misses : IsEnd p.dfa.nfa bytes 0 (length bytes) false true
      (end_from p.dfa.nfa bytes (length bytes) (entry p.dfa.nfa false) 0) End.NoMatch → is_found (pattern_of p) bytes ≡ false
  dfa_misses h = ap is_some (leftmost_no_end p bytes small 0 (omega arith) h)

  -- if no match is empty, none starts inside a character
  pub filled : MatchesText (pattern_of p) → 0 < p.min_len → is_found (pattern_of p) bytes ≡ is_found_in_text (pattern_of p) bytes
  filled whole long = ap is_some (find_str_of_filled (pattern_of p) bytes small whole
      (λ i t e. let longer = no_shorter_lem p bytes i t e in omega arith) 0)

  -- a match from the front on starts with a character
  pub begins : IsUtf8 bytes → (end : ℕ) → IsEnd p.dfa.nfa bytes 0 (length bytes) true true
      (end_from p.dfa.nfa bytes (length bytes) (entry p.dfa.nfa true) 0) (End.At end) → is_found_in_text (pattern_of p) bytes ≡ true
  begins utf8 end h =
      let tree = pattern_of p in
      let some = subst IsSome (ap (option_map (λ (t : Trace). t.end)) (run-attempt p bytes 0)) h.0 in
      let found : (t : Trace) × (attempt bytes tree accept 0 ≡ Some t) = ⊎_elim
      (λ none. absurd (true≢false (sym some ∙ ap (λ o. is_some (option_map (λ (t : Trace). t.end) o)) none)))
      (λ one. one)
      (option_cases (attempt bytes tree accept 0)) in
      ap is_some (leftmost_here tree bytes true 0 _ (find_here tree bytes 0 found.0 (omega arith) found.1)
      (λ _. test_of_IsCharBoundary bytes 0 (IsCharBoundary-start bytes utf8)))
