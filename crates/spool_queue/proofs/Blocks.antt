-- A block that is filled piece by piece.
use Rattle.std.proofs.Common.{◌≡◌, ℕ, zero, suc, ◌+◌, ◌-◌, ◌≤◌, List, [], ◌∷◌, ◌++◌, length, take, drop, sym, ap, ◌∙◌, arith, append-nil, length-append, length-drop}
use Rattle.std.proofs.lemmas.List.{drop-drop, drop_at, length-take-le, nil_from_length, take_all, take_at}
use borrow.Rule.Slice.PartMut.{post_of, put_mid}

pub take-add : (n k : ℕ) (xs : List ℕ) → take (n + k) xs ≡ take n xs ++ take k (drop n xs)
take-add zero k xs = let none : 0 + k ≡ k = omega arith in ap (λ (i : ℕ). take i xs) none
take-add (suc n) k [] = take_all (suc n + k) [] (omega arith) ∙ sym (take_all k [] (omega arith))
take-add (suc n) k (x ∷ xs) =
    let more : suc n + k ≡ suc (n + k) = omega arith in ap (λ (i : ℕ). take i (x ∷ xs)) more ∙ ap (λ (l : List ℕ). x ∷ l) (take-add n k xs)

-- the bytes so far, and those of one more piece
pub grown : (block now piece bytes : List ℕ) (at count more : ℕ) → take count now ≡ take count block → drop count now ≡ piece → take count block ≡ take count (drop at bytes) → take more piece ≡ take more (drop (at + count) bytes)
    → take (count + more) now ≡ take (count + more) (drop at bytes)
grown block now piece bytes at count more front back so_far read =
    take-add count more now ∙ (λ i. (front ∙ so_far) i ++ (ap (take more) back ∙ read ∙ ap (take more) (sym (drop-drop count at bytes))) i) ∙ sym (take-add count more (drop at bytes))

-- a block after a write to all of it behind its first bytes
module _ (block piece : List ℕ) (count k : ℕ) (within : count ≤ length block) (sized : length block ≤ count + k) where
  none_past : post_of count k block ≡ []
  none_past = nil_from_length (post_of count k block) (omega (arith, sized, length-drop k (drop count block), length-drop count block))

  pub front_kept : take count (put_mid count k block piece) ≡ take count block
  front_kept = take_at (take count block) (piece ++ post_of count k block) count (length-take-le count block within)

  pub back_written : drop count (put_mid count k block piece) ≡ piece
  back_written =
      drop_at (take count block) (piece ++ post_of count k block) count (length-take-le count block within) ∙ ap (λ (l : List ℕ). piece ++ l) none_past ∙ append-nil piece

  pub still_long : length piece ≡ length block - count → length (put_mid count k block piece) ≡ length block
  still_long piece_long =
      omega (arith, piece_long, within, length-take-le count block within, length-append (take count block) (piece ++ post_of count k block), length-append piece (post_of count k block), ap length none_past)
