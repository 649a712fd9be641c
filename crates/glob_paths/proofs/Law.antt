-- Each path that a glob covers is its root's, with at most its depth of further parts, and begins with its root.
use Rattle.std.proofs.Common.{◌≡◌, ◌≢◌, ℕ, ◌+◌, ◌<◌, ◌≤◌, Bool, true, false, cond, not, ◌&&◌, Some, None, List, [], ◌∷◌, ◌++◌, length, length-drop, drop, take, map, slice_get, All, refl, sym, ap, ◌∙◌, subst, eqb, arith}
use Rattle.std.proofs.lemmas.Bool.{false≢true}
use Rattle.std.proofs.lemmas.Bool.Decides.{Decides-eqb, nat_tests}
use Rattle.std.proofs.lemmas.List.Elements.{All-from_recursion, recursion_from_All}
use Rattle.std.proofs.lemmas.List.{append-nil}
use Rattle.std.proofs.lemmas.Slice.Eq.{starts_is}
use Rattle.std.proofs.lemmas.Str.{IsUtf8-nil}
use Rattle.std.specs.Cmp.Lexicographic.{pointwise}
use Rattle.std.specs.List.{AllByRecursion, list_all}
use Rattle.std.specs.Str.{IsUtf8, bytes_eq}
use Rattle.wire_base.specs.Path.{parts_of, folder_parts, on_first_part, IsBelow}
use Rattle.glob_paths.specs.declared.error.GlobError.TheVariants.{NotAbsolute, BadPart}
use Rattle.glob_paths.specs.Token.{tokens}
use Rattle.glob_paths.specs.Cover.{Part, deep, named, is_deep, part_of, PartsCover, Covers}
use Rattle.glob_paths.specs.Fault.{fault_of, parts_fault}
use Rattle.glob_paths.specs.Root.{is_plain, is_plain_byte, leading_parts, other_parts, slashed, or_slash, depth_of_parts, root_of, depth_of, IsWithin, HasNames}
use Rattle.glob_paths.proofs.Slashes.{NoSlash, parts_of-append, parts_of-whole, some_part}
use Rattle.glob_paths.proofs.Plain.{AllTexts, texts_of, plain_part}

-- a `**` is not plain
plain_no_deep : (part : List ℕ) → is_plain part ≡ true → is_deep part ≡ false
plain_no_deep [] plain = refl
plain_no_deep (byte ∷ bytes) plain = by_test (eqb byte 42) plain
  where
    by_test : (star : Bool) → (not star && (not (eqb byte 63) && (not (eqb byte 91) && not (eqb byte 92))) && list_all is_plain_byte bytes) ≡ true → (star && bytes_eq bytes (42 ∷ [])) ≡ false
    by_test true h = absurd (false≢true h)
    by_test false h = refl

-- the parts of a glob cover no more parts of a path than their depth
few_at : (part : List ℕ) (parts names : List (List ℕ)) (test : Bool) → PartsCover (cond test deep (named (tokens part)) ∷ map part_of parts) names → ((rest : List (List ℕ)) → PartsCover (map part_of parts) rest → length rest ≤ depth_of_parts parts) → length names ≤ cond test 8 1 + depth_of_parts parts
few_at part parts names true covers few =
    let rest = few (drop covers.0 names) covers.4 in
    omega (arith, covers.1, covers.2, rest, length-drop covers.0 names)
few_at part parts [] false covers few = absurd covers
few_at part parts (name ∷ names) false covers few = omega (arith, few names covers.1)

cover_few : (parts names : List (List ℕ)) → PartsCover (map part_of parts) names → length names ≤ depth_of_parts parts
cover_few [] [] covers = omega arith
cover_few [] (name ∷ names) covers = absurd covers
cover_few (part ∷ parts) names covers = few_at part parts names (is_deep part) covers (λ rest h. cover_few parts rest h)

-- what follows the leading plain parts
abbrev Follows : List (List ℕ) → List (List ℕ) → Type 0
Follows parts names = (behind : List (List ℕ)) × (names ≡ leading_parts parts ++ behind) × (length behind ≤ depth_of_parts (other_parts parts))

plain_first_name : (part : List ℕ) (rest : List Part) (names : List (List ℕ)) → is_plain part ≡ true → PartsCover (part_of part ∷ rest) names → IsUtf8 part → AllTexts names → (left : List (List ℕ)) × (names ≡ part ∷ left) × PartsCover rest left × AllTexts left
plain_first_name part rest names plain covers utf8 texts =
    let P : Bool → Type 0 = λ test. PartsCover (cond test deep (named (tokens part)) ∷ rest) names in
    by_names names (subst P (plain_no_deep part plain) covers) texts
  where
    by_names : (names : List (List ℕ)) → PartsCover (named (tokens part) ∷ rest) names → AllTexts names → (left : List (List ℕ)) × (names ≡ part ∷ left) × PartsCover rest left × AllTexts left
    by_names [] covers texts = absurd covers
    by_names (name ∷ names) covers texts =
        (names, ap (λ first. first ∷ names) (plain_part part name utf8 texts.0 plain covers.0), covers.1, texts.1)

follows_at : (part next : List ℕ) (parts names : List (List ℕ)) (test : Bool) → is_plain part ≡ test → PartsCover (map part_of (part ∷ next ∷ parts)) names → IsUtf8 part → AllTexts names → ((left : List (List ℕ)) → PartsCover (map part_of (next ∷ parts)) left → AllTexts left → Follows (next ∷ parts) left) → Follows (part ∷ next ∷ parts) names
follows_at part next parts names true plain covers utf8 texts more =
    let first = plain_first_name part (map part_of (next ∷ parts)) names plain covers utf8 texts in
    let rest = more first.0 first.2 first.3 in (
      rest.0,
      first.1 ∙ ap (λ left. part ∷ left) rest.1 ∙ ap (λ t. cond t (part ∷ leading_parts (next ∷ parts)) [] ++ rest.0) (sym plain),
      (let P : Bool → Type 0 = λ t. length rest.0 ≤ depth_of_parts (cond t (other_parts (next ∷ parts)) (part ∷ next ∷ parts)) in subst P (sym plain) rest.2),
    )
follows_at part next parts names false plain covers utf8 texts more = (
  names,
  ap (λ t. cond t (part ∷ leading_parts (next ∷ parts)) [] ++ names) (sym plain),
  (let P : Bool → Type 0 = λ t. length names ≤ depth_of_parts (cond t (other_parts (next ∷ parts)) (part ∷ next ∷ parts)) in subst P (sym plain) (cover_few (part ∷ next ∷ parts) names covers)),
)

follows : (parts names : List (List ℕ)) → PartsCover (map part_of parts) names → AllTexts parts → AllTexts names → Follows parts names
follows [] [] covers texts names' = ([], refl, omega arith)
follows [] (name ∷ names) covers texts names' = absurd covers
follows (part ∷ []) names covers texts names' = (names, refl, cover_few (part ∷ []) names covers)
follows (part ∷ next ∷ parts) names covers texts names' =
    follows_at part next parts names (is_plain part) refl covers texts.0 names' (λ left h t. follows (next ∷ parts) left h texts.1 t)

-- no part of a path has a slash, and so its leading parts are those of the folder that they spell
abbrev NoSlashes : List (List ℕ) → Type 0
NoSlashes parts = AllByRecursion NoSlash parts

first_byte : (byte : ℕ) (parts : List (List ℕ)) → eqb byte 47 ≡ false → NoSlashes parts → NoSlashes (on_first_part byte parts)
first_byte byte [] other none = ((other, tt), tt)
first_byte byte (part ∷ parts) other none = ((other, none.0), none.1)

no_slashes : (text : List ℕ) → NoSlashes (parts_of text)
no_slashes [] = (tt, tt)
no_slashes (byte ∷ bytes) = by_test (eqb byte 47) refl (no_slashes bytes)
  where
    by_test : (slash : Bool) → eqb byte 47 ≡ slash → NoSlashes (parts_of bytes) → NoSlashes (cond slash ([] ∷ parts_of bytes) (on_first_part byte (parts_of bytes)))
    by_test true is none = (tt, none)
    by_test false is none = first_byte byte (parts_of bytes) is none

no_slashes_lead : (parts : List (List ℕ)) → NoSlashes parts → NoSlashes (leading_parts parts)
no_slashes_lead [] none = tt
no_slashes_lead (part ∷ []) none = tt
no_slashes_lead (part ∷ next ∷ parts) none = by_test (is_plain part) (no_slashes_lead (next ∷ parts) none.1)
  where
    by_test : (plain : Bool) → NoSlashes (leading_parts (next ∷ parts)) → NoSlashes (cond plain (part ∷ leading_parts (next ∷ parts)) [])
    by_test true rest = (none.0, rest)
    by_test false rest = tt

parts_of-slashed : (part : List ℕ) (parts : List (List ℕ)) → NoSlash part → NoSlashes parts → parts_of (part ++ slashed parts) ≡ part ∷ parts
parts_of-slashed part [] none all = ap parts_of (append-nil part) ∙ parts_of-whole part none
parts_of-slashed part (next ∷ parts) none all =
    parts_of-append part (next ++ slashed parts) none ∙ ap (λ more. part ∷ more) (parts_of-slashed next parts all.0 all.1)

folder_parts-slashed : (parts : List (List ℕ)) → NoSlashes parts → ((rest : List (List ℕ)) → parts ≢ [] ∷ rest) → folder_parts (or_slash (slashed parts)) ≡ [] ∷ parts
folder_parts-slashed [] none some = refl
folder_parts-slashed ([] ∷ parts) none some = absurd (some parts refl)
folder_parts-slashed ((byte ∷ bytes) ∷ parts) none some = parts_of-slashed [] ((byte ∷ bytes) ∷ parts) tt none

lead_named : (parts : List (List ℕ)) → ((rest : List (List ℕ)) → parts ≢ [] ∷ rest) → (rest : List (List ℕ)) → leading_parts parts ≢ [] ∷ rest
lead_named [] some rest is = cc
lead_named (part ∷ []) some rest is = cc
lead_named (part ∷ next ∷ parts) some rest is = by_test (is_plain part) is
  where
    by_test : (plain : Bool) → cond plain (part ∷ leading_parts (next ∷ parts)) [] ≡ [] ∷ rest → ⊥
    by_test true is = let first : part ≡ [] = cc in some (next ∷ parts) (ap (λ p. p ∷ next ∷ parts) first)
    by_test false is = cc

absolute_within : (rest path : List ℕ) → IsUtf8 (47 ∷ rest) → parts_fault false 1 (parts_of rest) ≡ None → Covers (47 ∷ rest) path → IsWithin (root_of (47 ∷ rest)) (depth_of (47 ∷ rest)) path
absolute_within rest path utf8 faultless covers =
    let parts = parts_of rest in
    let first = plain_first_name [] (map part_of parts) (parts_of path) refl covers.2 IsUtf8-nil (texts_of path covers.0) in
    let found = follows parts first.0 first.2 (texts_of (47 ∷ rest) utf8).1 first.3 in
    let folder = folder_parts-slashed (leading_parts parts) (no_slashes_lead parts (no_slashes rest)) (lead_named parts (first_named parts faultless)) in
    record {
      behind = found.0;
      spelled = first.1 ∙ ap (λ names. [] ∷ names) found.1 ∙ ap (λ front. front ++ found.0) (sym folder);
      few = found.2;
    }
  where
    first_named : (parts : List (List ℕ)) → parts_fault false 1 parts ≡ None → (rest : List (List ℕ)) → parts ≢ [] ∷ rest
    first_named parts faultless rest is =
        let P : List (List ℕ) → Type 0 = λ parts. parts_fault false 1 parts ≡ None in
        let wrong : Some (BadPart 1) ≡ None = subst P is faultless in cc

-- the law on the paths that a glob covers
pub covered_within : (text path : List ℕ) → IsUtf8 text → fault_of text ≡ None → Covers text path → IsWithin (root_of text) (depth_of text) path
covered_within [] path utf8 faultless covers = cc
covered_within (byte ∷ rest) path utf8 faultless covers = by_test (eqb byte 47) refl faultless
  where
    by_test : (slash : Bool) → eqb byte 47 ≡ slash → cond slash (parts_fault false 1 (parts_of rest)) (Some NotAbsolute) ≡ None → IsWithin (root_of (byte ∷ rest)) (depth_of (byte ∷ rest)) path
    by_test true is faultless =
        let same : byte ≡ 47 = grind (arith, nat_tests) in
        let P : ℕ → Type 0 = λ byte. IsUtf8 (byte ∷ rest) in
        let Q : ℕ → Type 0 = λ byte. Covers (byte ∷ rest) path in
        absolute_within rest path (subst P same utf8) faultless (subst Q same covers)
    by_test false is faultless = cc

folder_some : (root : List ℕ) → folder_parts root ≢ []
folder_some [] none = cc
folder_some (byte ∷ []) none = by_test (eqb byte 47) none
  where
    by_test : (slash : Bool) → cond slash ([] ∷ []) ((byte ∷ []) ∷ []) ≡ [] → ⊥
    by_test true none = cc
    by_test false none = cc
folder_some (byte ∷ next ∷ bytes) none = some_part (byte ∷ next ∷ bytes) none

abbrev IsNamed : List ℕ → Type 0
IsNamed part = part ≢ []

named_behind : (front behind : List (List ℕ)) → front ≢ [] → All IsNamed (drop 1 (front ++ behind)) → All IsNamed behind
named_behind [] behind some all = absurd (some refl)
named_behind (part ∷ front) behind some all =
    All-from_recursion IsNamed behind (back front (recursion_from_All IsNamed (front ++ behind) all))
  where
    back : (front : List (List ℕ)) → AllByRecursion IsNamed (front ++ behind) → AllByRecursion IsNamed behind
    back [] all = all
    back (part ∷ front) all = back front all.1

pub covered_below : (text path : List ℕ) → IsWithin (root_of text) (depth_of text) path → HasNames path → parts_of path ≢ folder_parts (root_of text) → IsBelow (root_of text) (depth_of text) path
covered_below text path within names other =
    record {
      below = within.behind;
      spelled = within.spelled;
      some = more within.behind within.spelled;
      few = within.few;
      named = named_behind (folder_parts (root_of text)) within.behind (folder_some (root_of text)) (subst P within.spelled names);
    }
  where
    P : List (List ℕ) → Type 0
    P parts = All IsNamed (drop 1 parts)

    more : (behind : List (List ℕ)) → parts_of path ≡ folder_parts (root_of text) ++ behind → 0 < length behind
    more [] spelled = absurd (other (spelled ∙ append-nil (folder_parts (root_of text))))
    more (part ∷ behind) spelled = omega arith

-- ---- a glob covers only what begins with its root

front_of : (root path : List ℕ) (behind : List (List ℕ)) → parts_of path ≡ parts_of root ++ behind → (rest : List ℕ) × (path ≡ root ++ rest)
front_of [] path behind same = (path, refl)
front_of (byte ∷ root) [] behind same = absurd (by_test (eqb byte 47) (parts_of root) (some_part root) same)
  where
    by_test : (slash : Bool) (parts : List (List ℕ)) → parts ≢ [] → [] ∷ [] ≡ cond slash ([] ∷ parts) (on_first_part byte parts) ++ behind → ⊥
    by_test slash [] some same = some refl
    by_test true (part ∷ parts) some same = cc
    by_test false (part ∷ parts) some same = cc
front_of (byte ∷ root) (first ∷ path) behind same = by_tests (λ parts. front_of root path behind parts) (eqb byte 47) refl (eqb first 47) refl same
  where
    at : (first ≡ byte) → ((rest : List ℕ) × (path ≡ root ++ rest)) → (rest : List ℕ) × (first ∷ path ≡ byte ∷ (root ++ rest))
    at first_is more = (more.0, ap (λ (b : ℕ). b ∷ path) first_is ∙ ap (λ (l : List ℕ). byte ∷ l) more.1)

    apart : (ones others : List (List ℕ)) → others ≢ [] → [] ∷ ones ≡ on_first_part byte others ++ behind → ⊥
    apart ones [] some same = some refl
    apart ones (part ∷ parts) some same = cc

    apart_back : (ones others : List (List ℕ)) → ones ≢ [] → on_first_part first ones ≡ [] ∷ others → ⊥
    apart_back [] others some same = some refl
    apart_back (part ∷ parts) others some same = cc

    both : (ones others : List (List ℕ)) → ones ≢ [] → others ≢ [] → on_first_part first ones ≡ on_first_part byte others ++ behind → (first ≡ byte) × (ones ≡ others ++ behind)
    both [] others some more same = absurd (some refl)
    both (one ∷ ones) [] some more same = absurd (more refl)
    both (one ∷ ones) (other ∷ others) some more same =
        let first_is : first ≡ byte = cc in
        let one_is : one ≡ other = cc in
        let rest_is : ones ≡ others ++ behind = cc in
        (first_is, ap (λ (p : List ℕ). p ∷ ones) one_is ∙ ap (λ (l : List (List ℕ)). other ∷ l) rest_is)

    by_tests : (parts_of path ≡ parts_of root ++ behind → (rest : List ℕ) × (path ≡ root ++ rest)) →
        (slash : Bool) → eqb byte 47 ≡ slash → (other : Bool) → eqb first 47 ≡ other →
        cond other ([] ∷ parts_of path) (on_first_part first (parts_of path)) ≡ cond slash ([] ∷ parts_of root) (on_first_part byte (parts_of root)) ++ behind →
        (rest : List ℕ) × (first ∷ path ≡ byte ∷ (root ++ rest))
    by_tests later true is true other same =
        let byte_is : byte ≡ 47 = grind (arith, nat_tests) in
        let first_is : first ≡ 47 = grind (arith, nat_tests) in
        let parts : parts_of path ≡ parts_of root ++ behind = cc in
        at (first_is ∙ sym byte_is) (later parts)
    by_tests later true is false other same = absurd (apart_back (parts_of path) (parts_of root ++ behind) (some_part path) same)
    by_tests later false is true other same = absurd (apart (parts_of path) (parts_of root) (some_part root) same)
    by_tests later false is false other same =
        let heads = both (parts_of path) (parts_of root) (some_part path) (some_part root) same in
        at heads.0 (later heads.1)

pub covered_front : (text path : List ℕ) → IsUtf8 text → fault_of text ≡ None → Covers text path → (rest : List ℕ) × (path ≡ root_of text ++ rest)
covered_front text path utf8 faultless covers = by_root (root_of text) (covered_within text path utf8 faultless covers).behind (covered_within text path utf8 faultless covers).spelled
  where
    slash_first : (path : List ℕ) → slice_get path 0 ≡ Some 47 → (rest : List ℕ) × (path ≡ 47 ∷ rest)
    slash_first [] is = cc
    slash_first (byte ∷ rest) is = let same : byte ≡ 47 = cc in (rest, ap (λ (b : ℕ). b ∷ rest) same)

    by_root : (root : List ℕ) (behind : List (List ℕ)) → parts_of path ≡ folder_parts root ++ behind → (rest : List ℕ) × (path ≡ root ++ rest)
    by_root [] behind spelled = (path, refl)
    by_root (byte ∷ []) behind spelled = by_test (eqb byte 47) refl spelled
      where
        by_test : (slash : Bool) → eqb byte 47 ≡ slash → parts_of path ≡ cond slash ([] ∷ []) ((byte ∷ []) ∷ []) ++ behind → (rest : List ℕ) × (path ≡ byte ∷ rest)
        by_test true is spelled =
            let byte_is : byte ≡ 47 = grind (arith, nat_tests) in
            let first = slash_first path covers.1 in
            (first.0, first.1 ∙ ap (λ (b : ℕ). b ∷ first.0) (sym byte_is))
        by_test false is spelled = front_of (byte ∷ []) path behind (spelled ∙ ap (λ (test : Bool). cond test ([] ∷ [] ∷ []) ((byte ∷ []) ∷ []) ++ behind) (sym is))
    by_root (byte ∷ next ∷ root) behind spelled = front_of (byte ∷ next ∷ root) path behind spelled

-- a path that does not begin with the root is not covered
pub not_in_front : (text root path : List ℕ) (test : Bool) → IsUtf8 text → fault_of text ≡ None → root ≡ root_of text → test ≡ pointwise eqb root (take (length root) path) → test ≡ false → Covers text path → ⊥
not_in_front text root path test utf8 faultless root_is is other covers =
    let front = covered_front text path utf8 faultless covers in
    let starts : test ≡ true = (starts_is Decides-eqb path root test is).1 front.0 (front.1 ∙ ap (λ (r : List ℕ). r ++ front.0) (sym root_is)) in
    false≢true (sym other ∙ starts)
