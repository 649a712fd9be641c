-- What the steps of the queue report to the pass that makes them (this project's profile).
use Rattle.std.specs.Prelude.{◌≡◌, ℕ, List, [], ◌∷◌, ◌++◌, All, Some, None}
use Rattle.wire_base.specs.declared.parcel.Parcel.{Parcel}
use Rattle.wire_base.specs.Ranges.{IsParcel}
use Rattle.mem_queue.specs.declared.rule.Hand.{Hand}
use Rattle.mem_queue.specs.Conserved.{IsConserved}
use Rattle.mem_queue.specs.Entries.{entry, AllBefore}
use Rattle.mem_queue.specs.Hand.{hand}

-- a put gives the parcel a number above those of all that this pass put
pub record PutsBehind (v : Hand) (parcel : Parcel) (w : Hand) : Type 0 where
  pub number : ℕ
  pub before : AllBefore number v.put
  pub is : w ≡ hand v.puts v.takes (v.put ++ entry number parcel ∷ []) v.taken None

-- a take gives a parcel with a number above those of all that this pass took
pub record TakesFirst (v : Hand) (parcel : Parcel) (w : Hand) : Type 0 where
  pub number : ℕ
  pub before : AllBefore number v.taken
  pub range : IsParcel parcel
  pub is : w ≡ hand v.puts v.takes v.put (v.taken ++ entry number parcel ∷ []) None

-- the first take of a closed queue reports exactly what is left
pub record EndsAt (v : Hand) (parcel : Parcel) (w : Hand) : Type 0 where
  pub rest : List Parcel
  pub conserved : IsConserved v.put v.taken (parcel ∷ rest)
  pub ranges : All IsParcel (parcel ∷ rest)
  pub is : w.rest ≡ Some rest

-- a later take of a closed queue gives the first of what is left
pub record DrainsNext (v : Hand) (parcel : Parcel) (w : Hand) : Type 0 where
  pub rest : List Parcel
  pub was : v.rest ≡ Some (parcel ∷ rest)
  pub is : w.rest ≡ Some rest
