-- Bytes that a sink takes piece by piece.
use Rattle.std.proofs.Common.{◌≡◌, ℕ, ◌+◌, ◌≤◌, List, [], ◌++◌, length, take, drop, Option, Some, None, Ok, refl, sym, ap, ◌∙◌, subst, arith, append-nil, append_assoc, length-drop}
use Rattle.std.proofs.lemmas.List.{drop-drop, take_all}
use Rattle.outside.specs.Streams.{WritesOn}
use Rattle.spool_queue.specs.Printing.{HasTaken}
use Rattle.spool_queue.proofs.Blocks.{take-add}

-- of the bytes a front was taken, and this is left
pub record IsPartTaken (old : Option (List ℕ)) (bytes left : List ℕ) (now : Option (List ℕ)) : Type 0 where
  pub count : ℕ
  pub left_is : left ≡ drop count bytes
  pub takes : HasTaken old (take count bytes) now

takes_nothing : (old : Option (List ℕ)) → HasTaken old [] old
takes_nothing None = refl
takes_nothing (Some written) = ap (λ (l : List ℕ). Some l) (sym (append-nil written))

takes_then : (old now after : Option (List ℕ)) (front left : List ℕ) (count : ℕ) → HasTaken old front now → WritesOn now left (Ok count) after → HasTaken old (front ++ take count left) after
takes_then None now after front left count none writes = let W : Option (List ℕ) → Type 0 = λ o. WritesOn o left (Ok count) after in subst W none writes
takes_then (Some before) now after front left count took writes =
    let W : Option (List ℕ) → Type 0 = λ o. WritesOn o left (Ok count) after in
    subst W took writes ∙ ap (λ (l : List ℕ). Some l) (append_assoc before front (take count left))

pub none_taken : (old : Option (List ℕ)) (bytes : List ℕ) → IsPartTaken old bytes bytes old
none_taken old bytes = record { count = 0; left_is = refl; takes = takes_nothing old }

pub part_taken : (old now after : Option (List ℕ)) (bytes left : List ℕ) (count most : ℕ) → length left ≤ count + most → IsPartTaken old bytes left now → WritesOn now left (Ok count) after → IsPartTaken old bytes (take most (drop count left)) after
part_taken old now after bytes left count most all was writes =
    let whole : take count left ≡ take count (drop was.count bytes) = ap (take count) was.left_is in
    let P : List ℕ → Type 0 = λ l. HasTaken old l after in
    record {
      count = was.count + count;
      left_is = take_all most (drop count left) (omega (arith, all, length-drop count left)) ∙ ap (drop count) was.left_is ∙ drop-drop count was.count bytes;
      takes = subst P (ap (λ (l : List ℕ). take was.count bytes ++ l) whole ∙ sym (take-add was.count count bytes)) (takes_then old now after (take was.count bytes) left count was.takes writes);
    }

pub all_taken : (old now : Option (List ℕ)) (bytes left : List ℕ) → length left ≡ 0 → IsPartTaken old bytes left now → HasTaken old bytes now
all_taken old now bytes left none was =
    let P : List ℕ → Type 0 = λ l. HasTaken old l now in
    subst P (take_all was.count bytes (omega (arith, none, ap length was.left_is, length-drop was.count bytes))) was.takes

pub taken_both : (old now after : Option (List ℕ)) (one other : List ℕ) → HasTaken old one now → HasTaken now other after → HasTaken old (one ++ other) after
taken_both None now after one other first second = let H : Option (List ℕ) → Type 0 = λ o. HasTaken o other after in subst H first second
taken_both (Some before) now after one other first second =
    let H : Option (List ℕ) → Type 0 = λ o. HasTaken o other after in subst H first second ∙ ap (λ (l : List ℕ). Some l) (append_assoc before one other)
