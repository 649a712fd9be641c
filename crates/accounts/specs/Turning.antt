-- Harvesters that stand for what was reported of their files (this project's profile), and what some turns of them gave.
use Rattle.std.specs.Prelude.{◌≡◌, ℕ, ◌+◌, Bool, true, ◌||◌, List, [], ◌∷◌, ◌++◌, Contains, IfSome, IsTrue, Option, map}
use Rattle.std.specs.List.{flat_map}
use Rattle.harvester.specs.HasTold.{HasTold}
use Rattle.harvester.specs.History.{History}
use Rattle.harvester.specs.Turns.{AsksNothing}
use Rattle.harvester.specs.declared.harvester.Harvester.{Harvester}
use Rattle.outside.specs.Tails.{TailHistory}
use Rattle.pass_sums.specs.Weight.{AsOften}
use Rattle.wire_base.specs.declared.note.Note.{Note}
use Rattle.wire_base.specs.declared.parcel.Parcel.{Parcel}
use Rattle.accounts.specs.Opened.{Opened}
use Rattle.accounts.specs.ToldFile.{IsToldFile, IsToldToItsEnd}
use Rattle.accounts.specs.Turned.{Turned, notes_told, parcels_told, spans_in}
use Rattle.accounts.specs.Watch.{Watch}

-- each of the first has this relation to that at its place in the second, which is as long
abbrev pub Pairs : {A B : Type 0} → (A → B → Type 0) → List A → List B → Type 0
Pairs R [] [] = Unit {0}
Pairs R [] (y ∷ ys) = ⊥
Pairs R (x ∷ xs) [] = ⊥
Pairs R (x ∷ xs) (y ∷ ys) = R x y × Pairs R xs ys

-- it is at the end of its file as that was looked at: no asking for the key is open, and if the end might be found, all is reported
pub record IsAtItsEnd (once : Bool) (history : History) : Type 0 where
  pub asks_nothing : AsksNothing history.stage
  pub told : (once || history.ends) ≡ true → IsToldToItsEnd history

-- if files are read once, each turn was made so that it might find the end
pub record IsTurnedSo {T : Type 0} (numbers : T → Option (ℕ × ℕ)) (told : T → Option TailHistory) (watch : Watch) (files : List Opened) (moments : List ℕ) (turned : Turned) (harvester : Harvester T) : Type 0 where
  pub has_told : HasTold numbers told turned.history harvester
  pub opened : Opened
  pub of_files : Contains files opened
  pub is_told : IsToldFile watch opened moments turned (told harvester.tail)
  -- the tail gives the numbers of its file
  pub numbers_are : IfSome (told harvester.tail) (λ tail. numbers harvester.tail ≡ opened.file.numbers)
  pub rests : IsTrue harvester.rests → IsAtItsEnd watch.once turned.history

-- the files are the same, and gave this in addition
pub record GaveMore (before after : List Turned) (parcels : List Parcel) (notes : List Note) (spans : ℕ) : Type 0 where
  pub slots : map (λ turned. turned.slot) after ≡ map (λ turned. turned.slot) before
  pub parcels_are : AsOften (flat_map parcels_told after) (flat_map parcels_told before ++ parcels)
  pub notes_are : AsOften (flat_map notes_told after) (flat_map notes_told before ++ notes)
  pub spans_are : spans_in after ≡ spans_in before + spans

-- the harvesters stand for such files
pub record TellOn {T : Type 0} (numbers : T → Option (ℕ × ℕ)) (told : T → Option TailHistory) (watch : Watch) (files : List Opened) (moments : List ℕ) (before : List Turned) (harvesters : List (Harvester T)) (parcels : List Parcel) (notes : List Note) (spans : ℕ) : Type 0 where
  pub after : List Turned
  pub stand : Pairs (IsTurnedSo numbers told watch files moments) after harvesters
  pub gave : GaveMore before after parcels notes spans
