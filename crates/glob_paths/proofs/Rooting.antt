-- How the root of a glob is read part by part, and which text has no slash in front.
use Rattle.std.proofs.Common.{◌≡◌, ◌≢◌, ℕ, true, false, cond, Some, List, [], ◌∷◌, ◌++◌, length, append_assoc, refl, sym, ap, ◌∙◌, eqb, lit<, arith}
use Rattle.std.proofs.lemmas.Bool.Decides.{nat_tests}
use Rattle.std.proofs.lemmas.Str.{encode_ascii}
use Rattle.std.specs.Char.{encode_utf8}
use Rattle.wire_base.specs.Path.{parts_of}
use Rattle.glob_paths.specs.declared.error.GlobError.TheVariants.{NotAbsolute}
use Rattle.glob_paths.specs.Fault.{fault_of, parts_fault}
use Rattle.glob_paths.specs.Root.{is_plain, leading_parts, other_parts, slashed}
use Rattle.glob_paths.proofs.Slashes.{some_part}

pub not_absolute : (text : List ℕ) → eqb (length text) 0 ≡ false → ((rest : List ℕ) → text ≢ 47 ∷ rest) → fault_of text ≡ Some NotAbsolute
not_absolute [] some apart = absurd (grind (arith, nat_tests))
not_absolute (byte ∷ bytes) some apart =
    let other : byte ≢ 47 = λ e. apart bytes (ap (λ b. b ∷ bytes) e) in
    let test : eqb byte 47 ≡ false = grind (arith, nat_tests) in
    ap (λ slash. cond slash (parts_fault false 1 (parts_of bytes)) (Some NotAbsolute)) test

leading_more : (part : List ℕ) (parts : List (List ℕ)) → parts ≢ [] → is_plain part ≡ true → leading_parts (part ∷ parts) ≡ part ∷ leading_parts parts
leading_more part [] some plain = absurd (some refl)
leading_more part (next ∷ parts) some plain = rw plain refl

other_more : (part : List ℕ) (parts : List (List ℕ)) → parts ≢ [] → is_plain part ≡ true → other_parts (part ∷ parts) ≡ other_parts parts
other_more part [] some plain = absurd (some refl)
other_more part (next ∷ parts) some plain = rw plain refl

pub folder_more : (front total part rest behind : List ℕ) → front ++ slashed (leading_parts (parts_of rest)) ≡ total → parts_of rest ≡ part ∷ parts_of behind → is_plain part ≡ true → ((front ++ encode_utf8 47) ++ part) ++ slashed (leading_parts (parts_of behind)) ≡ total
folder_more front total part rest behind whole first plain =
    ap (λ slash. ((front ++ slash) ++ part) ++ slashed (leading_parts (parts_of behind))) (encode_ascii 47 (lit< tt))
    ∙ ap (λ text. text ++ slashed (leading_parts (parts_of behind))) (append_assoc front (47 ∷ []) part)
    ∙ append_assoc front (47 ∷ part) (slashed (leading_parts (parts_of behind)))
    ∙ ap (λ parts. front ++ slashed parts) (sym (ap leading_parts first ∙ leading_more part (parts_of behind) (some_part behind) plain))
    ∙ whole

pub others_more : (part rest behind : List ℕ) (total : List (List ℕ)) → other_parts (parts_of rest) ≡ total → parts_of rest ≡ part ∷ parts_of behind → is_plain part ≡ true → other_parts (parts_of behind) ≡ total
others_more part rest behind total whole first plain =
    sym (other_more part (parts_of behind) (some_part behind) plain) ∙ sym (ap other_parts first) ∙ whole
