-- A text that is written part by part.
use Rattle.std.proofs.Common.{◌≡◌, ◌≤◌, ◌+◌, ◌++◌, ℕ, List, length, take, drop, Option, Some, None, Ok, sym, subst, ◌∙◌, ap, append_assoc, arith}
use Rattle.std.proofs.Math.Seq.{take-add}
use Rattle.std.proofs.lemmas.List.{drop-drop, length-drop, take_all}
use Rattle.outside.specs.Streams.{WritesOn}

-- `left` is what is left of the text, and the front of it follows what the sink held
pub record FrontWritten (written : List ℕ) (text left : List ℕ) (after : Option (List ℕ)) : Type 0 where
  pub front : ℕ
  pub left_is : left ≡ drop front text
  pub told : after ≡ Some (written ++ take front text)

abbrev pub IsPartWritten : Option (List ℕ) → List ℕ → List ℕ → Option (List ℕ) → Type 0
IsPartWritten None text left after = after ≡ None
IsPartWritten (Some written) text left after = FrontWritten written text left after

pub part_step : (start : Option (List ℕ)) (text left : List ℕ) (count most : ℕ) (before after : Option (List ℕ)) →
    length left ≤ count + most → IsPartWritten start text left before → WritesOn before left (Ok count) after →
    IsPartWritten start text (take most (drop count left)) after
part_step None text left count most before after all was writes =
    let P : Option (List ℕ) → Type 0 = λ o. WritesOn o left (Ok count) after in
    subst P was writes
part_step (Some written) text left count most before after all was writes =
    let P : Option (List ℕ) → Type 0 = λ o. WritesOn o left (Ok count) after in
    let added : after ≡ Some ((written ++ take was.front text) ++ take count left) = subst P was.told writes in
    record {
      front = was.front + count;
      left_is = take_all most (drop count left) (omega (arith, length-drop count left)) ∙ ap (λ (l : List ℕ). drop count l) was.left_is ∙ drop-drop count was.front text;
      told = added ∙ ap (λ (l : List ℕ). Some l)
          (append_assoc written (take was.front text) (take count left)
          ∙ ap (λ (l : List ℕ). written ++ (take was.front text ++ take count l)) was.left_is
          ∙ ap (λ (l : List ℕ). written ++ l) (sym (take-add was.front count text)));
    }
