-- Worked looks of a tail: each look at the length that is not below the place up to which was read is followed by a read there, or is not.
use Rattle.std.proofs.Common.{◌≡◌, ℕ, false, true, [], ◌∷◌, Option, None, Some, refl, arith}
use Rattle.kept_rows.proofs.Worked as worked
use Rattle.kept_rows.specs.Run.{Scan}
use Rattle.outside.specs.declared.history.Look.{Look}
use Rattle.outside.specs.declared.history.Question.{Question}
use Rattle.outside.specs.declared.history.Question.TheVariants.{Length, ReadAt}
use Rattle.run_steps.specs.ReadBehind.{ReadsBehind}
use Rattle.run_steps.specs.TakenUp.{HasTakenUp}
use Rattle.run_steps.proofs.WorkedAccount.{account}

-- a look while so many bytes are there
abbrev look : Question → ℕ → Look
look question size = record { question = question; sight = record { life = 0; length = size } }

no_read : {A : Type 0} → false ≡ true → A
no_read is = absurd (let never : false ≡ true = is in cc)

-- a file of four bytes, asked for its key, read and read at its end
pub read_to_its_end : ReadsBehind false 0 (look (ReadAt 0 2) 4 ∷ look Length 4 ∷ look (ReadAt 0 4) 4 ∷ look Length 4 ∷ look (ReadAt 4 0) 4 ∷ [])
read_to_its_end = (no_read, (no_read, (λ yes. refl, (no_read, (λ yes. refl, refl)))))

-- it shrank to two bytes, and its key was asked again; it is read anew
pub read_anew : ReadsBehind false 4 (look Length 2 ∷ look (ReadAt 0 2) 2 ∷ look Length 2 ∷ look (ReadAt 0 2) 2 ∷ [])
read_anew = (no_read, (no_read, (no_read, (λ yes. refl, refl))))

-- its length alone was asked
pub not_read : ReadsBehind false 0 (look Length 4 ∷ []) → ⊥
not_read reads = let none : true ≡ false = reads.1 in cc

-- its length was asked again in place of a read
pub asked_twice : ReadsBehind false 0 (look Length 4 ∷ look Length 4 ∷ look (ReadAt 0 4) 4 ∷ []) → ⊥
asked_twice reads = reads.1.0 refl

-- it was read elsewhere
pub read_elsewhere : ReadsBehind false 2 (look Length 4 ∷ look (ReadAt 0 4) 4 ∷ []) → ⊥
read_elsewhere reads = let same : 0 ≡ 2 = reads.1.0 refl in omega (arith, same)

-- and a run without a scan has taken up nothing
pub not_without_a_scan : HasTakenUp (record worked.run { scans = [] }) account → ⊥
not_without_a_scan taken = absurd (let none : ◌≡◌ {A = Option Scan} None (Some taken.scan) = taken.first in cc)
