-- Where a field of a line ends.
use Rattle.std.proofs.Common.{◌≡◌, ℕ, zero, suc, ◌+◌, ◌-◌, ◌<◌, true, false, List, [], ◌∷◌, length, take, drop, get_or, Some, None, refl, sym, ap, ◌∙◌, arith, ◌==◌}
use Rattle.std.specs.Prelude.{option_map}
use Rattle.std.proofs.lemmas.Bool.{false_from_ne_true}
use Rattle.std.proofs.lemmas.List.{take_rest}
use Rattle.memchr.specs.Find.{NoneBefore, Nowhere, Passes, is_byte}
use Rattle.container_lines.specs.Cri.{split_field}

-- no space stands before this place
abbrev NoSpace : List ℕ → ℕ → Type 0
NoSpace bytes at = (k : ℕ) → k < at → (get_or bytes k 0 == 32) ≡ false

split_at : (bytes : List ℕ) (at : ℕ) → at < length bytes → NoSpace bytes at → (get_or bytes at 0 == 32) ≡ true →
    split_field bytes ≡ Some (take at bytes, drop (at + 1) bytes)
split_at [] at within none here = absurd (omega arith)
split_at (byte ∷ bytes) zero within none here = rw here refl
split_at (byte ∷ bytes) (suc at) within none here =
    let head : (byte == 32) ≡ false = none 0 (omega arith) in
    let behind = split_at bytes at (omega arith) (λ k less. none (suc k) (omega arith)) here in
    let place : suc at + 1 ≡ suc (at + 1) = omega arith in
    rw head (ap (option_map (λ (fields : List ℕ × List ℕ). (byte ∷ fields.0, fields.1))) behind ∙ ap (λ (n : ℕ). Some (byte ∷ take at bytes, drop n (byte ∷ bytes))) (sym place))

split_none : (bytes : List ℕ) → NoSpace bytes (length bytes) → split_field bytes ≡ None
split_none [] none = refl
split_none (byte ∷ bytes) none =
    let head : (byte == 32) ≡ false = none 0 (omega arith) in
    let behind = split_none bytes (λ k less. none (suc k) (omega arith)) in
    rw head (ap (option_map (λ (fields : List ℕ × List ℕ). (byte ∷ fields.0, fields.1))) behind)

pub splits_at : (bytes : List ℕ) (at : ℕ) → NoneBefore (Passes (is_byte 32) bytes) 0 (length bytes) at → Passes (is_byte 32) bytes at →
    Some (take at bytes, take (length bytes - (at + 1)) (drop (at + 1) bytes)) ≡ split_field bytes
splits_at bytes at first here =
    ap (λ (rest : List ℕ). Some (take at bytes, rest)) (take_rest bytes (at + 1))
    ∙ sym (split_at bytes at first.high (λ k less. false_from_ne_true _ (first.before k (omega arith) less)) here)

pub splits_nowhere : (bytes : List ℕ) → Nowhere (Passes (is_byte 32) bytes) 0 (length bytes) → None ≡ split_field bytes
splits_nowhere bytes none = sym (split_none bytes (λ k less. false_from_ne_true _ (none k (omega arith) less)))
