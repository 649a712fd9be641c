-- Worked doubles: three files, of which the third has the key of the first.
use Rattle.std.proofs.Common.{◌≡◌, inl, inr, ℕ, zero, suc, List, [], ◌∷◌, Option, Some, None, codes, get_or, refl, sym, ap, ◌∙◌, subst, arith}
use Rattle.prospect.specs.declared.listed.Listed.{Listed}
use Rattle.prospect.specs.Doubled.{HaveKey, PartsDoubled}
use Rattle.prospect.proofs.Doubled.{double_has_first, keys_apart}

abbrev file : Option (List ℕ) → List ℕ → Listed
file key path = record { input = 0; key = key; path = path; size = 9; changed = record { 0 = 5 } }

abbrev one_key : List ℕ
one_key = codes "filestream::w::native::1-7"

abbrev other_key : List ℕ
other_key = codes "filestream::w::native::2-7"

abbrev first : Listed
first = file (Some one_key) (codes "/w/a.log")

abbrev other : Listed
other = file (Some other_key) (codes "/w/b.log")

abbrev linked : Listed
linked = file (Some one_key) (codes "/w/c.log")

abbrev listed : List Listed
listed = first ∷ other ∷ linked ∷ []

none_before : (key : List ℕ) → HaveKey [] (Some key) → ⊥
none_before key found = omega (arith, found.2)

same_key : (key its : List ℕ) → Some key ≡ Some its → key ≡ its
same_key key its is = cc

other_is_new : HaveKey (first ∷ []) (Some other_key) → ⊥
other_is_new (zero, one, within, is, has) =
    let its : first.key ≡ Some other_key = ap (λ (l : Listed). l.key) is ∙ has in
    let number : 49 ≡ 50 = ap (λ (l : List ℕ). get_or l 23 0) (same_key one_key other_key its) in
    omega (arith, number)
other_is_new (suc k, one, within, is, has) = omega (arith, within)

first_has_it : HaveKey (first ∷ other ∷ []) (Some one_key)
first_has_it = (0, first, omega arith, refl, refl)

third_is_doubled : PartsDoubled listed (first ∷ other ∷ []) (linked ∷ [])
third_is_doubled = inr (none_before one_key, other ∷ [], refl, inr (other_is_new, [], refl, inl (first_has_it, [], refl, (refl, refl))))

-- files without a key are no doubles
abbrev nameless : Listed
nameless = file None (codes "/w/a.log")

nameless_are_followed : PartsDoubled (nameless ∷ nameless ∷ []) (nameless ∷ nameless ∷ []) []
nameless_are_followed = inr ((λ found. found), nameless ∷ [], refl, inr ((λ found. found), [], refl, (refl, refl)))

-- ---- what is refused

third_is_not_followed : PartsDoubled listed listed [] → ⊥
third_is_not_followed parts = (keys_apart listed listed [] parts).0 (1, linked, omega arith, refl, refl)

second_is_not_doubled : PartsDoubled listed (first ∷ []) (other ∷ linked ∷ []) → ⊥
second_is_not_doubled parts =
    let has = double_has_first listed (first ∷ []) (other ∷ linked ∷ []) parts other (0, omega arith, refl) in
    other_is_new (subst (λ (k : Option (List ℕ)). HaveKey (first ∷ []) k) (sym has.key_is) (has.among.0, has.first, has.among.1, has.among.2, has.same_key))
