-- What follows where what was put, what was taken and what the queue holds fit together.
use Rattle.std.proofs.Common.{◌≡◌, ℕ, suc, ◌+◌, ◌<◌, ◌≤◌, Bool, true, false, if◌then◌else◌, nat_eq, eqb-true, List, [], ◌∷◌, ◌++◌, length, refl, ap, arith}
use Rattle.wire_base.specs.declared.parcel.Parcel.{Parcel}
use Rattle.pass_sums.specs.Weight.{weigh, AsOften}
use Rattle.pass_sums.proofs.Weights.{weigh-append, weigh-map}
use Rattle.mem_queue.specs.declared.entry.Entry.{Entry}
use Rattle.mem_queue.specs.Conserved.{IsConserved}
use Rattle.mem_queue.specs.Entries.{entry, has_number, numbered, parcels}
use Rattle.mem_queue.proofs.Numbering.{numbered-append}

weigh-ones : (entries : List Entry) → weigh (λ _. 1) entries ≡ length entries
weigh-ones [] = refl
weigh-ones (e ∷ entries) = omega (arith, weigh-ones entries)

ones-numbered : (first : ℕ) (xs : List Parcel) → weigh (λ _. 1) (numbered first xs) ≡ length xs
ones-numbered first [] = refl
ones-numbered first (x ∷ xs) = omega (arith, ones-numbered (suc first) xs)

-- the numbers do not count where parcels are weighed
weigh-parcels : (h : Parcel → ℕ) (first : ℕ) (xs : List Parcel) → weigh (λ e. h e.parcel) (numbered first xs) ≡ weigh h xs
weigh-parcels h first [] = refl
weigh-parcels h first (x ∷ xs) = omega (arith, weigh-parcels h (suc first) xs)

pub held_came_later : (put taken : List Entry) (items : List Parcel) → IsConserved put taken items → AsOften put (taken ++ numbered (length taken) items)
held_came_later put taken items is h =
    let many : 0 + length is.gone ≡ length taken = omega (arith, is.all_taken (λ _. 1), weigh-ones taken, ones-numbered 0 is.gone) in
    omega (
      arith,
      is.all_put h,
      ap (weigh h) (numbered-append 0 is.gone items),
      weigh-append h (numbered 0 is.gone) (numbered (0 + length is.gone) items),
      ap (λ (n : ℕ). weigh h (numbered n items)) many,
      is.all_taken h,
      weigh-append h taken (numbered (length taken) items),
    )

pub none_lost : (put taken : List Entry) (items : List Parcel) → IsConserved put taken items → AsOften (parcels put) (parcels taken ++ items)
none_lost put taken items is h =
    let g = λ (e : Entry). h e.parcel in
    omega (
      arith,
      weigh-map h (λ (e : Entry). e.parcel) put,
      weigh-map h (λ (e : Entry). e.parcel) taken,
      weigh-append h (parcels taken) items,
      held_came_later put taken items is g,
      weigh-append g taken (numbered (length taken) items),
      weigh-parcels h (length taken) items,
    )

behind : (number first : ℕ) (x : Parcel) → number < first → has_number number (entry first x) ≡ 0
behind number first x below = decide (nat_eq number first) refl
  where
    decide : (b : Bool) → nat_eq number first ≡ b → has_number number (entry first x) ≡ 0
    decide true is = absurd (omega (arith, eqb-true number first is))
    decide false is = ap (λ (b : Bool). if b then 1 else 0) is

-- in a row that begins after a number, no entry has it
not_before : (number first : ℕ) (xs : List Parcel) → number < first → weigh (has_number number) (numbered first xs) ≡ 0
not_before number first [] below = refl
not_before number first (x ∷ xs) below = omega (arith, behind number first x below, not_before number (suc first) xs (omega arith))

numbered_once : (number first : ℕ) (xs : List Parcel) → weigh (has_number number) (numbered first xs) ≤ 1
numbered_once number first [] = omega arith
numbered_once number first (x ∷ xs) = decide (nat_eq number first) refl (numbered_once number (suc first) xs)
  where
    decide : (b : Bool) → nat_eq number first ≡ b → weigh (has_number number) (numbered (suc first) xs) ≤ 1
        → has_number number (entry first x) + weigh (has_number number) (numbered (suc first) xs) ≤ 1
    decide true is rest =
        let one : has_number number (entry first x) ≡ 1 = ap (λ (b : Bool). if b then 1 else 0) is in
        let same : number ≡ first = eqb-true number first is in
        omega (arith, not_before number (suc first) xs (omega arith))
    decide false is rest =
        let none : has_number number (entry first x) ≡ 0 = ap (λ (b : Bool). if b then 1 else 0) is in
        omega arith

pub none_twice : (put taken : List Entry) (items : List Parcel) (number : ℕ) → IsConserved put taken items → (weigh (has_number number) put ≤ 1) × (weigh (has_number number) taken ≤ 1)
none_twice put taken items number is = (
  omega (arith, is.all_put (has_number number), numbered_once number 0 (is.gone ++ items)),
  omega (arith, is.all_taken (has_number number), numbered_once number 0 is.gone),
)
