-- The row of entries, and who comes before a number.
use Rattle.std.proofs.Common.{◌≡◌, ℕ, suc, ◌+◌, ◌-◌, ◌≤◌, List, [], ◌∷◌, ◌++◌, length, refl, ap, ◌∙◌, arith}
use Rattle.wire_base.specs.declared.parcel.Parcel.{Parcel}
use Rattle.pass_sums.specs.Weight.{weigh}
use Rattle.pass_sums.proofs.Weights.{weigh-append, weightless}
use Rattle.mem_queue.specs.declared.entry.Entry.{Entry}
use Rattle.mem_queue.specs.Entries.{entry, numbered, AllBefore}

pub numbered-append : (first : ℕ) (xs ys : List Parcel) → numbered first (xs ++ ys) ≡ numbered first xs ++ numbered (first + length xs) ys
numbered-append first [] ys = let same : first ≡ first + 0 = omega arith in ap (λ (n : ℕ). numbered n ys) same
numbered-append first (x ∷ xs) ys =
    let same : suc first + length xs ≡ first + suc (length xs) = omega arith in
    ap (λ (es : List Entry). entry first x ∷ es) (numbered-append (suc first) xs ys ∙ ap (λ (n : ℕ). numbered (suc first) xs ++ numbered n ys) same)

-- one more entry after the row weighs so much more
pub weigh-one-more : (h : Entry → ℕ) (xs : List Parcel) (x : Parcel) → weigh h (numbered 0 (xs ++ x ∷ [])) ≡ weigh h (numbered 0 xs) + h (entry (length xs) x)
weigh-one-more h xs x =
    let same : 0 + length xs ≡ length xs = omega arith in
    omega (
      arith,
      ap (weigh h) (numbered-append 0 xs (x ∷ [])),
      weigh-append h (numbered 0 xs) (numbered (0 + length xs) (x ∷ [])),
      ap (λ (n : ℕ). h (entry n x)) same,
    )

-- how far an entry lies from a number on; 0 if it lies before
abbrev pub reach : ℕ → Entry → ℕ
reach number e = suc e.number - number

reach-numbered : (first number : ℕ) (xs : List Parcel) → first + length xs ≤ number → weigh (reach number) (numbered first xs) ≡ 0
reach-numbered first number [] within = refl
reach-numbered first number (x ∷ xs) within = omega (arith, reach-numbered (suc first) number xs (omega arith))

before : (number : ℕ) (entries : List Entry) → weigh (reach number) entries ≡ 0 → AllBefore number entries
before number entries none k d inside = omega (arith, weightless (reach number) entries none k d inside)

-- what is part of a row comes before the row's end
pub before-end : (xs : List Parcel) (entries : List Entry) → weigh (reach (length xs)) entries ≤ weigh (reach (length xs)) (numbered 0 xs) → AllBefore (length xs) entries
before-end xs entries part = before (length xs) entries (omega (arith, reach-numbered 0 (length xs) xs (omega arith)))
