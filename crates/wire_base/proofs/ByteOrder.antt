-- Byte order as an order: what `compare` says of equal keys, and of three.
use Rattle.std.proofs.Common.{◌≡◌, ℕ, ◌≤◌, List, refl, sym, ap, ◌∙◌, subst, arith}
use Rattle.std.proofs.lemmas.Cmp.{nat_list_cmp_total, tied_itself}
use Rattle.std.proofs.lemmas.Map.Lookups.{exact_bytes}
use Rattle.std.specs.Ordering.{ordering_index, ordering_reverse}
use Rattle.std.specs.declared.cmp.Ordering.{Ordering}
use Rattle.std.specs.declared.cmp.Ordering.TheVariants.{Less, Equal, Greater}
use Rattle.wire_base.specs.KeyOrder.{compare}

pub same_key : (a b : List ℕ) → compare a b ≡ Equal → a ≡ b
same_key a b e = exact_bytes a b e

pub compare_same : (a b : List ℕ) → a ≡ b → compare a b ≡ Equal
compare_same a b e = subst (λ z. compare a z ≡ Equal) e (tied_itself nat_list_cmp_total a)

pub compare_greater : (a b : List ℕ) → compare a b ≡ Less → compare b a ≡ Greater
compare_greater a b e = nat_list_cmp_total.antisymm b a ∙ ap ordering_reverse e

pub compare_less : (a b : List ℕ) → compare a b ≡ Greater → compare b a ≡ Less
compare_less a b e = nat_list_cmp_total.antisymm b a ∙ ap ordering_reverse e

pub compare_trans : (a b c : List ℕ) → compare a b ≡ Less → compare b c ≡ Less → compare a c ≡ Less
compare_trans a b c = nat_list_cmp_total.trans a b c

-- a lesser key compares no higher with a third one
pub compare_rises : (a b c : List ℕ) → compare a b ≡ Less → ordering_index (compare a c) ≤ ordering_index (compare b c)
compare_rises a b c less = by_later (compare b c) refl
  where
    at_less : (o : Ordering) → compare a c ≡ Less → compare a c ≡ o → ordering_index o ≤ 0
    at_less Less h e = omega arith
    at_less Equal h e = absurd (let q : Less ≡ Equal = sym h ∙ e in cc)
    at_less Greater h e = absurd (let q : Less ≡ Greater = sym h ∙ e in cc)

    at_any : (o : Ordering) → ordering_index o ≤ 2
    at_any Less = omega arith
    at_any Equal = omega arith
    at_any Greater = omega arith

    by_later : (o : Ordering) → compare b c ≡ o → ordering_index (compare a c) ≤ ordering_index o
    by_later Less e = at_less (compare a c) (compare_trans a b c less e) refl
    by_later Equal e = let h : ordering_index (compare a c) ≤ 0 = at_less (compare a c) (subst (λ z. compare a z ≡ Less) (same_key b c e) less) refl in omega (arith, h)
    by_later Greater e = at_any (compare a c)

-- two of which neither comes before the other are the same
pub neither_before : (a b : List ℕ) → (compare a b ≡ Less → ⊥) → (compare b a ≡ Less → ⊥) → a ≡ b
neither_before a b here there = by_case (compare a b) refl
  where
    by_case : (o : Ordering) → compare a b ≡ o → a ≡ b
    by_case Less e = absurd (here e)
    by_case Equal e = same_key a b e
    by_case Greater e = absurd (there (compare_less a b e))
