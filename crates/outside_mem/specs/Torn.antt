-- A write as it was meant to be is one of those that a crash may leave.
use Rattle.std.proofs.Common.{◌≡◌, ℕ, ◌+◌, ◌-◌, ◌<◌, min, List, [], ◌∷◌, ◌++◌, length, take, drop, refl, sym, ◌∙◌, ap, subst, arith, append_assoc, length-append, length-drop, length-take}
use Rattle.std.specs.Prelude.{replicate}
use Rattle.std.proofs.lemmas.Bool.Decides.{nat_tests}
use Rattle.std.proofs.lemmas.List.{take_min, take-append-le, drop_at, length-replicate, take-take}
use Rattle.outside.specs.DiskImages.{Torn, reach}
use Rattle.outside.specs.DiskReads.{written}
use Rattle.wire_base.specs.Ranges.{IsPlace}

pub Torn-refl : (at n : ℕ) (bytes : List ℕ) → Torn at n bytes bytes
Torn-refl at n bytes = record { front = take_min at bytes; back = refl; no_shorter = omega arith; no_longer = omega arith }

-- bytes, and one byte again and again up to a place
abbrev pub padded : List ℕ → ℕ → ℕ → List ℕ
padded old at filler = old ++ replicate (at - length old) filler

-- bytes with others put over them, and a filler in a gap before these
abbrev pub patched : List ℕ → ℕ → ℕ → List ℕ → List ℕ
patched old at filler bytes = take at (padded old at filler) ++ bytes ++ drop (at + length bytes) old

module _ (old : List ℕ) (at filler : ℕ) where
  length-padded : length (take at (padded old at filler)) ≡ at
  length-padded = omega (arith, length-take at (padded old at filler), length-append old (replicate (at - length old) filler), length-replicate {A = ℕ} (at - length old) filler)

  front-padded : take (min at (length old)) (take at (padded old at filler)) ≡ take at old
  front-padded =
      take-take (min at (length old)) at (padded old at filler) (omega arith)
      ∙ take-append-le (min at (length old)) old (replicate (at - length old) filler) (omega arith)
      ∙ take_min at old

  -- whatever bytes, at least one, are put over the old ones, a torn write may have left them
  pub Torn-patched : (bytes : List ℕ) → 0 < length bytes → IsPlace (at + length bytes) → Torn at (length bytes) old (patched old at filler bytes)
  Torn-patched bytes some in_range =
      let front = take at (padded old at filler) in
      let back = drop (at + length bytes) old in
      let whole : length (front ++ bytes ++ back) ≡ at + length bytes + length back =
      omega (arith, length-padded, length-append (front ++ bytes) back, length-append front bytes) in
      let reaches : reach at (length bytes) ≡ at + length bytes = grind (arith, nat_tests) in
      record {
        front =
            ap (λ (l : List ℕ). take (min at (length old)) l) (append_assoc front bytes back)
            ∙ take-append-le (min at (length old)) front (bytes ++ back) (omega (arith, length-padded)) ∙ front-padded;
        back = drop_at (front ++ bytes) back (at + length bytes) (omega (arith, length-padded, length-append front bytes));
        no_shorter = omega (arith, whole, length-drop (at + length bytes) old);
        no_longer = omega (arith, whole, reaches, length-drop (at + length bytes) old);
      }

pub written-patched : (old : List ℕ) (at : ℕ) (bytes : List ℕ) → 0 < length bytes → written old at bytes ≡ patched old at 0 bytes
written-patched old at [] some = absurd (omega arith)
written-patched old at (byte ∷ bytes) some = refl

pub Torn-written : (old : List ℕ) (at : ℕ) (bytes : List ℕ) → IsPlace (at + length bytes) → Torn at (length bytes) old (written old at bytes)
Torn-written old at [] in_range = Torn-refl at 0 old
Torn-written old at (byte ∷ bytes) in_range =
    let some : 0 < length (byte ∷ bytes) = omega arith in
    subst (λ (l : List ℕ). Torn at (length (byte ∷ bytes)) old l) (sym (written-patched old at (byte ∷ bytes) some)) (Torn-patched old at 0 (byte ∷ bytes) some in_range)
