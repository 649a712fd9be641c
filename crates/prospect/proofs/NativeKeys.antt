-- Keys of native numbers are distinguished: of one input they are the same only if the numbers are.
use Rattle.std.proofs.Common.{◌≡◌, ◌≢◌, ℕ, ◌<◌, List, [], ◌∷◌, ◌++◌, codes, decimal, Option, Some, None, refl, sym, ap, ◌∙◌, append_assoc, arith}
use Rattle.std.specs.Prelude.{◌^◌, option_map}
use Rattle.std.specs.List.{AllByRecursion}
use Rattle.std.specs.Str.Parse.{AllDigits}
use Rattle.std.proofs.lemmas.Fmt.{decimal_injective, decimal_is_IsNumeral}
use Rattle.std.proofs.lemmas.List.{append_cancel_left}
use Rattle.std.proofs.lemmas.Str.Parse.{digit_from_value}
use Rattle.file_identity.specs.Key.{key_by, native_key}
use Rattle.prospect.specs.Covered.{AreNumbers}

abbrev HasNoDash : List ℕ → Type 0
HasNoDash text = AllByRecursion (λ byte. byte ≢ 45) text

-- what is before the first dash, and what follows it
same_parts : (first second behind after : List ℕ) → HasNoDash first → HasNoDash second → first ++ 45 ∷ behind ≡ second ++ 45 ∷ after → (first ≡ second) × (behind ≡ after)
same_parts [] [] behind after none none_there is =
    let q : 45 ∷ behind ≡ 45 ∷ after = is in
    let same : behind ≡ after = cc in
    (refl, same)
same_parts [] (byte ∷ second) behind after none none_there is =
    let q : 45 ∷ behind ≡ byte ∷ (second ++ 45 ∷ after) = is in
    let dash : byte ≡ 45 = cc in
    absurd (none_there.0 dash)
same_parts (byte ∷ first) [] behind after none none_there is =
    let q : byte ∷ (first ++ 45 ∷ behind) ≡ 45 ∷ after = is in
    let dash : byte ≡ 45 = cc in
    absurd (none.0 dash)
same_parts (byte ∷ first) (other ∷ second) behind after none none_there is =
    let q : byte ∷ (first ++ 45 ∷ behind) ≡ other ∷ (second ++ 45 ∷ after) = is in
    let same : byte ≡ other = cc in
    let rest : first ++ 45 ∷ behind ≡ second ++ 45 ∷ after = cc in
    let both = same_parts first second behind after none.1 none_there.1 rest in
    (ap (λ (n : ℕ). n ∷ first) same ∙ ap (λ (l : List ℕ). other ∷ l) both.0, both.1)

no_dash : (n : ℕ) → n < 2 ^ 64 → HasNoDash (decimal n)
no_dash n fits = of_digits (decimal n) (decimal_is_IsNumeral n fits).0.1
  where
    of_digits : (digits : List ℕ) → AllDigits 10 digits → HasNoDash digits
    of_digits [] all = tt
    of_digits (digit ∷ digits) all = (λ is. absurd (omega (arith, is, digit_from_value digit all.0)), of_digits digits all.1)

-- what is in a key of an input before its value
key_cancels : (id kind one other : List ℕ) → key_by id kind one ≡ key_by id kind other → one ≡ other
key_cancels id kind one other is = append_cancel_left (codes "filestream::" ++ id ++ codes "::" ++ kind ++ codes "::") one other is

dash_between : (one other : ℕ) → decimal one ++ 45 ∷ decimal other ≡ decimal one ++ codes "-" ++ decimal other
dash_between one other = sym (append_assoc (decimal one) (codes "-") (decimal other))

same_values : (one other inode device : ℕ) → one < 2 ^ 64 → other < 2 ^ 64 → inode < 2 ^ 64 → device < 2 ^ 64 →
    decimal one ++ codes "-" ++ decimal other ≡ decimal inode ++ codes "-" ++ decimal device → (one ≡ inode) × (other ≡ device)
same_values one other inode device one_fits other_fits inode_fits device_fits is =
    let both = same_parts (decimal one) (decimal inode) (decimal other) (decimal device) (no_dash one one_fits) (no_dash inode inode_fits)
    (dash_between one other ∙ is ∙ sym (dash_between inode device)) in
    (decimal_injective one inode one_fits inode_fits both.0, decimal_injective other device other_fits device_fits both.1)

same_pair : (id : List ℕ) (one other : ℕ × ℕ) → AreNumbers (Some one) → AreNumbers (Some other) → native_key id one ≡ native_key id other → one ≡ other
same_pair id (one, other) (inode, device) fits fit is =
    let both = same_values one other inode device fits.0 fits.1 fit.0 fit.1 (key_cancels id (codes "native") (decimal one ++ codes "-" ++ decimal other) (decimal inode ++ codes "-" ++ decimal device) is) in
    ap (λ (n : ℕ). (n, other)) both.0 ∙ ap (λ (n : ℕ). (inode, n)) both.1

pub same_numbers : (id : List ℕ) (one other : Option (ℕ × ℕ)) → AreNumbers one → AreNumbers other → option_map (native_key id) one ≡ option_map (native_key id) other → one ≡ other
same_numbers id None None fits fit is = refl
same_numbers id None (Some other) fits fit is = absurd (let wrong : None ≡ Some (native_key id other) = is in cc)
same_numbers id (Some one) None fits fit is = absurd (let wrong : Some (native_key id one) ≡ None = is in cc)
same_numbers id (Some one) (Some other) fits fit is =
    let keys : Some (native_key id one) ≡ Some (native_key id other) = is in
    let same : native_key id one ≡ native_key id other = cc in
    ap (λ (n : ℕ × ℕ). Some n) (same_pair id one other fits fit same)
