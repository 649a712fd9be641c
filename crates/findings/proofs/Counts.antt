-- Counting one file more.
use Rattle.std.proofs.Common.{◌≡◌, inl, inr, ℕ, ◌+◌, ◌<◌, List, [], ◌∷◌, ◌++◌, length, take, get_or, refl, sym, ap, ◌∙◌, subst}
use Rattle.std.proofs.lemmas.List.{take_more}
use Rattle.prospect.specs.declared.listed.Listed.{Listed}
use Rattle.findings.specs.Counting.{Counts, IsOf}
use Rattle.findings.specs.declared.globs.GlobAsked.{GlobAsked}

count_in : (asked : GlobAsked) (listed : List Listed) (one : Listed) (count : ℕ) → Counts asked listed count → IsOf asked one → Counts asked (listed ++ one ∷ []) (count + 1)
count_in asked [] one count are is = inl (is, 0, ap (λ (n : ℕ). n + 1) are, refl)
count_in asked (first ∷ listed) one count (inl of) is = inl (of.0, of.1 + 1, ap (λ (n : ℕ). n + 1) of.2, count_in asked listed one of.1 of.3 is)
count_in asked (first ∷ listed) one count (inr of) is = inr (of.0, count_in asked listed one count of.1 is)

count_out : (asked : GlobAsked) (listed : List Listed) (one : Listed) (count : ℕ) → Counts asked listed count → ¬ (IsOf asked one) → Counts asked (listed ++ one ∷ []) count
count_out asked [] one count are is = inr (is, are)
count_out asked (first ∷ listed) one count (inl of) is = inl (of.0, of.1, of.2, count_out asked listed one of.1 of.3 is)
count_out asked (first ∷ listed) one count (inr of) is = inr (of.0, count_out asked listed one count of.1 is)

module _ (asked : GlobAsked) (listed : List Listed) (i : ℕ) (one : Listed) (within : i < length listed) (is : one ≡ get_or listed i one) where
  moved : (count : ℕ) → Counts asked (take i listed ++ one ∷ []) count → Counts asked (take (i + 1) listed) count
  moved count counts =
      let same : take i listed ++ one ∷ [] ≡ take (i + 1) listed = ap (λ (o : Listed). take i listed ++ o ∷ []) is ∙ sym (take_more listed i one within) in
      subst (λ (l : List Listed). Counts asked l count) same counts

  pub counts_in : (count : ℕ) → Counts asked (take i listed) count → IsOf asked one → Counts asked (take (i + 1) listed) (count + 1)
  counts_in count counts of = moved (count + 1) (count_in asked (take i listed) one count counts of)

  pub counts_out : (count : ℕ) → Counts asked (take i listed) count → ¬ (IsOf asked one) → Counts asked (take (i + 1) listed) count
  counts_out count counts of = moved count (count_out asked (take i listed) one count counts of)
