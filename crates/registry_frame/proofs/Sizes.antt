-- How long a body is, by the texts of its operations.
use Rattle.std.proofs.Common.{◌≡◌, ◌≢◌, ◌⊎◌, inr, ℕ, zero, suc, ◌+◌, ◌≤◌, ◌<◌, List, [], ◌∷◌, ◌++◌, All, IfOk, Result, Ok, Err, length, map, take, get_or, refl, sym, ap, subst, ◌∙◌, arith, codes, length-append, length-take}
use Rattle.std.specs.List.{flat_map, sum_by}
use Rattle.std.proofs.lemmas.List.{length-map, take_more}
use Rattle.std.proofs.lemmas.List.Concat.{length-flat_map}
use Rattle.std.proofs.lemmas.List.Sums.{sum_by-append, sum_by-cons}
use Rattle.wire_base.specs.declared.row.Op.{Op}
use Rattle.registry_frame.specs.Body.{body_bytes, operation_bytes}
use Rattle.registry_frame.specs.BodyOf.{IsBodyOf, IsStoredOp}
use Rattle.registry_frame.specs.declared.body_text.Front.{Front}

-- a bracket or a comma, and the operation after it
abbrev pub size_of : Op → ℕ
size_of op = length (operation_bytes op) + 1

behind_commas : (ops : List Op) → length (flat_map (λ op. codes "," ++ operation_bytes op) ops) ≡ sum_by size_of ops
behind_commas ops = length-flat_map (λ op. codes "," ++ operation_bytes op) ops ∙ same ops
  where
    same : (ops : List Op) → sum_by (λ op. length (codes "," ++ operation_bytes op)) ops ≡ sum_by size_of ops
    same [] = refl
    same (op ∷ ops) = let later = same ops in
        sum_by-cons (λ op. length (codes "," ++ operation_bytes op)) op ops ∙ omega (arith, later) ∙ sym (sum_by-cons size_of op ops)

joined : (text later : List ℕ) → length (codes "[" ++ (text ++ later) ++ codes "]") ≡ 2 + length text + length later
joined text later = simp length-append (omega arith)

pub body_size : (ops : List Op) → 0 < length ops → length (body_bytes ops) ≡ 1 + sum_by size_of ops
body_size [] some = absurd (omega (arith, some))
body_size (op ∷ ops) some =
    let later = behind_commas ops in
    let all = joined (operation_bytes op) (flat_map (λ (o : Op). codes "," ++ operation_bytes o) ops) in
    let sum = sum_by-cons size_of op ops in
    omega (arith, later, all, sum)

-- this many operations of a list are the body of a record where their texts are short enough together
pub taken_fits : (ops : List Op) (count most : ℕ) → 0 < count → count ≤ length ops → 1 + sum_by size_of (take count ops) ≤ most → length (body_bytes (take count ops)) ≤ most
taken_fits ops count most some within fits =
    let long = length-take count ops in
    let size = body_size (take count ops) (omega (arith, long, some, within)) in
    omega (arith, size, fits)

pub some_left : (ops : List Op) → ops ≢ [] → 0 < length ops
some_left [] some = absurd (some refl)
some_left (op ∷ ops) some = omega arith

-- one operation alone is short enough
pub some_taken : (ops : List Op) (count text most : ℕ) → text ≤ 80_000 → 80_002 ≤ most → most < 1 + sum_by size_of (take count ops) + (text + 1) → 0 < count
some_taken ops zero text most short enough longer = absurd (omega (arith, short, enough, longer))
some_taken ops (suc count) text most short enough longer = omega arith

none_left : (ops : List Op) → ops ≡ [] → 0 < length ops → ⊥
none_left ops none some = let none_long = ap (λ (l : List Op). length l) none in absurd (omega (arith, none_long, some))

pub sum_more : (ops : List Op) (n : ℕ) (op : Op) → n < length ops → op ≡ get_or ops n op → sum_by size_of (take (n + 1) ops) ≡ sum_by size_of (take n ops) + size_of op
sum_more ops n op inside is =
    ap (sum_by size_of) (take_more ops n op inside ∙ ap (λ (o : Op). take n ops ++ o ∷ []) (sym is)) ∙ sum_by-append size_of (take n ops) (op ∷ []) ∙ ap (λ (k : ℕ). sum_by size_of (take n ops) + k) (sum_by-cons size_of op [] ∙ omega arith)

-- ---- the front of a list of operations that was made, or refused for want of memory

module _ {E : Type 0} (ops : List Op) (n most : ℕ) (within : n ≤ length ops) where
  -- as many texts as operations
  pub texts_are : {X : Type 0} (text : X → List ℕ) (texts : List X) → map text texts ≡ map operation_bytes (take n ops) → (made : Result Front E) → IfOk made (λ front. front.count ≡ length texts) → IfOk made (λ front. front.count ≡ n)
  texts_are text texts same (Err e) count = tt
  texts_are text texts same (Ok front) count =
      let many = ap (λ (l : List (List ℕ)). length l) same in
      omega (arith, count, many, length-map texts text, length-map (take n ops) operation_bytes, length-take n ops, within)

  pub front_is : (made : Result Front E) → IfOk made (λ front. front.count ≡ n) → IfOk made (λ front. front.body ≡ body_bytes (take n ops)) → 0 < n → All IsStoredOp (take n ops)
      → IfOk made (λ front. IsBodyOf (take front.count ops) front.body)
  front_is (Err e) count body some stored = tt
  front_is (Ok front) count body some stored =
      let long = length-take n ops in
      subst (λ (k : ℕ). IsBodyOf (take k ops) front.body) (sym count) (record { spelled = body; some = λ none. none_left (take n ops) none (omega (arith, long, some, within)); each = stored })

  pub front_fits : (made : Result Front E) → IfOk made (λ front. front.body ≡ body_bytes (take n ops)) → 0 < n → 1 + sum_by size_of (take n ops) ≤ most → IfOk made (λ front. length front.body ≤ most)
  front_fits (Err e) body some fits = tt
  front_fits (Ok front) body some fits =
      let short = taken_fits ops n most some within fits in
      omega (arith, short, ap (λ (l : List ℕ). length l) body)

  pub front_full : (made : Result Front E) (op : Op) → IfOk made (λ front. front.count ≡ n) → n < length ops → op ≡ get_or ops n op → most < 1 + sum_by size_of (take n ops) + size_of op
      → IfOk made (λ front. (front.count ≡ length ops) ⊎ (most < length (body_bytes (take (front.count + 1) ops))))
  front_full (Err e) op count inside is longer = tt
  front_full (Ok front) op count inside is longer =
      let long = length-take (n + 1) ops in
      let size = body_size (take (n + 1) ops) (omega (arith, long, inside)) in
      let more = sum_more ops n op inside is in
      inr (subst (λ (k : ℕ). most < length (body_bytes (take (k + 1) ops))) (sym count) (omega (arith, size, more, longer)))
