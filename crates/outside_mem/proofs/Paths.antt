-- The parts of a path that goes on below a root, and how they are told byte by byte.
use Rattle.std.proofs.Common.{◌≡◌, ◌≢◌, ℕ, ◌-◌, ◌<◌, ◌≤◌, Bool, true, false, not, ◌&&◌, nat_lt, ◌==◌, if◌then◌else◌, cond, List, [], ◌∷◌, ◌++◌, length, drop, All, refl, sym, ◌∙◌, ap, subst, arith, ltb-true, lt-ltb, eqb-true, Decides, append_assoc}
use Rattle.std.proofs.lemmas.Bool.{and_parts, and_from, false≢true}
use Rattle.std.proofs.lemmas.List.{append_cancel_left}
use Rattle.std.proofs.lemmas.Bool.Decides.{Decides-at}
use Rattle.std.proofs.lemmas.List.Elements.{All-nil, All-cons, All-head, All-tail}
use Rattle.wire_base.specs.Path.{on_first_part, parts_of, folder_parts, IsBelow}

on_first_part-some : (byte : ℕ) (parts : List (List ℕ)) → 0 < length (on_first_part byte parts)
on_first_part-some byte [] = omega arith
on_first_part-some byte (part ∷ parts) = omega arith

parts_of-some : (bytes : List ℕ) → 0 < length (parts_of bytes)
parts_of-some [] = omega arith
parts_of-some (byte ∷ bytes) =
    elim (byte == 47) as (λ slash. 0 < length (cond slash ([] ∷ parts_of bytes) (on_first_part byte (parts_of bytes))))
    [ true ↦ omega arith | false ↦ on_first_part-some byte (parts_of bytes) ]

on_first_part-append : (byte : ℕ) (xs ys : List (List ℕ)) → 0 < length xs → on_first_part byte (xs ++ ys) ≡ on_first_part byte xs ++ ys
on_first_part-append byte [] ys some = absurd (omega arith)
on_first_part-append byte (x ∷ xs) ys some = refl

-- a slash parts what is before it from what follows it
parts_of-append : (front names : List ℕ) → parts_of (front ++ 47 ∷ names) ≡ parts_of front ++ parts_of names
parts_of-append [] names = refl
parts_of-append (byte ∷ front) names =
    elim (byte == 47) as (λ slash. cond slash ([] ∷ parts_of (front ++ 47 ∷ names)) (on_first_part byte (parts_of (front ++ 47 ∷ names))) ≡ cond slash ([] ∷ parts_of front) (on_first_part byte (parts_of front)) ++ parts_of names) [
      | true ↦ ap (λ (parts : List (List ℕ)). [] ∷ parts) (parts_of-append front names)
      | false ↦ ap (on_first_part byte) (parts_of-append front names) ∙ on_first_part-append byte (parts_of front) (parts_of names) (parts_of-some front)
    ]

-- each part after a slash
abbrev join : List (List ℕ) → List ℕ
join [] = []
join (part ∷ parts) = (47 ∷ part) ++ join parts

join-append : (xs ys : List (List ℕ)) → join (xs ++ ys) ≡ join xs ++ join ys
join-append [] ys = refl
join-append (x ∷ xs) ys = ap (λ (bytes : List ℕ). (47 ∷ x) ++ bytes) (join-append xs ys) ∙ sym (append_assoc (47 ∷ x) (join xs) (join ys))

join-on_first_part : (byte : ℕ) (parts : List (List ℕ)) (bytes : List ℕ) → join parts ≡ 47 ∷ bytes → join (on_first_part byte parts) ≡ 47 ∷ byte ∷ bytes
join-on_first_part byte [] bytes is = cc
join-on_first_part byte (part ∷ parts) bytes is = cc

join-parts_of : (bytes : List ℕ) → join (parts_of bytes) ≡ 47 ∷ bytes
join-parts_of [] = refl
join-parts_of (byte ∷ bytes) = by_test (byte == 47) refl (join-parts_of bytes)
  where
    by_test : (slash : Bool) → (byte == 47) ≡ slash → join (parts_of bytes) ≡ 47 ∷ bytes
        → join (cond slash ([] ∷ parts_of bytes) (on_first_part byte (parts_of bytes))) ≡ 47 ∷ byte ∷ bytes
    by_test true is rest = let same = eqb-true byte 47 is in cc
    by_test false is rest = join-on_first_part byte (parts_of bytes) bytes rest

-- a path that has these parts goes on with them after its front
goes_on : (front path : List ℕ) (below : List (List ℕ)) → parts_of path ≡ parts_of front ++ below → path ≡ front ++ join below
goes_on front path below spelled =
    let slashed : 47 ∷ path ≡ (47 ∷ front) ++ join below =
    sym (join-parts_of path) ∙ ap join spelled ∙ join-append (parts_of front) below ∙ ap (λ (bytes : List ℕ). bytes ++ join below) (join-parts_of front) in
    cc

-- at most `left` parts, none of them empty; but the first may be, if a byte of it was before
abbrev pub AreNames : Bool → ℕ → List (List ℕ) → Type 0
AreNames true left parts = (length parts ≤ left) × All (λ part. part ≢ []) parts
AreNames false left parts = (length parts ≤ left) × All (λ part. part ≢ []) (drop 1 parts)

-- whether they are that, told by one byte after the other
abbrev pub named : Bool → ℕ → List ℕ → Bool
named is_empty left [] = not is_empty && nat_lt 0 left
named is_empty left (byte ∷ bytes) = if byte == 47 then (not is_empty && nat_lt 1 left) && named true (left - 1) bytes else named false left bytes

at_end : (is_empty : Bool) (left : ℕ) → Decides (not is_empty && nat_lt 0 left) (AreNames is_empty left ([] ∷ []))
at_end true left = (λ e. absurd (false≢true e), λ are. absurd (All-head (λ part. part ≢ []) [] [] are.1 refl))
at_end false left = (λ e. (omega (arith, ltb-true 0 left e), All-nil _), λ are. lt-ltb 0 left (omega (arith, are.0)))

at_slash : (is_empty : Bool) (left : ℕ) (parts : List (List ℕ)) → 0 < length parts → (rest : Bool) → Decides rest (AreNames true (left - 1) parts)
    → Decides ((not is_empty && nat_lt 1 left) && rest) (AreNames is_empty left ([] ∷ parts))
at_slash true left parts some rest decides = (λ e. absurd (false≢true e), λ are. absurd (All-head (λ part. part ≢ []) [] parts are.1 refl))
at_slash false left parts some rest decides = (
  λ e. let both = and_parts (nat_lt 1 left) rest e in let are : AreNames true (left - 1) parts = decides.0 both.1 in (omega (arith, ltb-true 1 left both.0), are.1),
  λ are. and_from (nat_lt 1 left) rest (lt-ltb 1 left (omega (arith, are.0))) (decides.1 (omega (arith, are.0), are.1)),
)

at_letter : (byte : ℕ) (is_empty : Bool) (left : ℕ) (parts : List (List ℕ)) → 0 < length parts → (rest : Bool) → Decides rest (AreNames false left parts)
    → Decides rest (AreNames is_empty left (on_first_part byte parts))
at_letter byte is_empty left [] some rest decides = absurd (omega arith)
at_letter byte true left (part ∷ parts) some rest decides = (
  λ e. let are = decides.0 e in (are.0, All-cons (λ part. part ≢ []) (byte ∷ part) parts (λ nil. cc) are.1),
  λ are. decides.1 (are.0, All-tail (λ part. part ≢ []) (byte ∷ part) parts are.1),
)
at_letter byte false left (part ∷ parts) some rest decides = decides

pub Decides-named : (is_empty : Bool) (left : ℕ) (bytes : List ℕ) → Decides (named is_empty left bytes) (AreNames is_empty left (parts_of bytes))
Decides-named is_empty left [] = at_end is_empty left
Decides-named is_empty left (byte ∷ bytes) =
    elim (byte == 47) as (λ slash. Decides (cond slash ((not is_empty && nat_lt 1 left) && named true (left - 1) bytes) (named false left bytes)) (AreNames is_empty left (cond slash ([] ∷ parts_of bytes) (on_first_part byte (parts_of bytes))))) [
      | true ↦ at_slash is_empty left (parts_of bytes) (parts_of-some bytes) _ (Decides-named true (left - 1) bytes)
      | false ↦ at_letter byte is_empty left (parts_of bytes) (parts_of-some bytes) _ (Decides-named false left bytes)
    ]

pub decided : (r : Bool) (depth : ℕ) (bytes : List ℕ) → named true depth bytes ≡ r → Decides r (AreNames true depth (parts_of bytes))
decided r depth bytes is = Decides-at r (named true depth bytes) (sym is) (Decides-named true depth bytes)

module _ (root front path : List ℕ) (depth : ℕ) (same_parts : parts_of front ≡ folder_parts root) where
  IsBelow-from_names : (names : List ℕ) → path ≡ front ++ 47 ∷ names → AreNames true depth (parts_of names) → IsBelow root depth path
  IsBelow-from_names names is are = record {
    below = parts_of names;
    spelled = ap parts_of is ∙ parts_of-append front names ∙ ap (λ (parts : List (List ℕ)). parts ++ parts_of names) same_parts;
    some = parts_of-some names;
    few = are.0;
    named = are.1;
  }

  -- a path below the root has a slash after the front, and then names
  names_from_IsBelow : IsBelow root depth path → (names : List ℕ) × (path ≡ front ++ 47 ∷ names) × AreNames true depth (parts_of names)
  names_from_IsBelow is_below = by_parts is_below.below is_below.spelled is_below.some is_below.few is_below.named
    where
      by_parts : (below : List (List ℕ)) → parts_of path ≡ folder_parts root ++ below → 0 < length below → length below ≤ depth → All (λ part. part ≢ []) below
          → (names : List ℕ) × (path ≡ front ++ 47 ∷ names) × AreNames true depth (parts_of names)
      by_parts [] spelled some few each = absurd (omega arith)
      by_parts (part ∷ parts) spelled some few each =
          let names = part ++ join parts in
          let behind : parts_of path ≡ parts_of front ++ (part ∷ parts) = spelled ∙ ap (λ (listed : List (List ℕ)). listed ++ (part ∷ parts)) (sym same_parts) in
          let is : path ≡ front ++ 47 ∷ names = goes_on front path (part ∷ parts) behind in
          let same : part ∷ parts ≡ parts_of names =
          append_cancel_left (parts_of front) (part ∷ parts) (parts_of names) (sym behind ∙ ap parts_of is ∙ parts_of-append front names) in
          (names, is, subst (λ (listed : List (List ℕ)). AreNames true depth listed) same (few, each))

  pub not_below-front : ((rest : List ℕ) → path ≢ front ++ rest) → Decides false (IsBelow root depth path)
  not_below-front other = (λ e. absurd (false≢true e), λ is_below. absurd (other _ (names_from_IsBelow is_below).1))

  module _ (rest : List ℕ) (is : path ≡ front ++ rest) where
    names_behind : IsBelow root depth path → (names : List ℕ) × (rest ≡ 47 ∷ names) × AreNames true depth (parts_of names)
    names_behind is_below =
        let found = names_from_IsBelow is_below in (found.0, append_cancel_left front rest (47 ∷ found.0) (sym is ∙ found.1), found.2)

    pub not_below-slash : ((names : List ℕ) → rest ≢ 47 ∷ names) → Decides false (IsBelow root depth path)
    not_below-slash other = (λ e. absurd (false≢true e), λ is_below. absurd (other _ (names_behind is_below).1))

    pub below-names : (names : List ℕ) → rest ≡ 47 ∷ names → (r : Bool) → Decides r (AreNames true depth (parts_of names)) → Decides r (IsBelow root depth path)
    below-names names slash r decides = (
      λ e. IsBelow-from_names names (is ∙ ap (λ (bytes : List ℕ). front ++ bytes) slash) (decides.0 e),
      λ is_below. let found = names_behind is_below in let same : found.0 ≡ names = cc in decides.1 (subst (λ (bytes : List ℕ). AreNames true depth (parts_of bytes)) same found.2),
    )
