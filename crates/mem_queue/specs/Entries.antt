-- Parcels with the numbers of their entry (this project's profile).
use Rattle.std.specs.Prelude.{ℕ, suc, ◌<◌, ◌==◌, if◌then◌else◌, List, [], ◌∷◌, map, All}
use Rattle.wire_base.specs.declared.parcel.Parcel.{Parcel}
use Rattle.mem_queue.specs.declared.entry.Entry.{Entry}

abbrev pub entry : ℕ → Parcel → Entry
entry number parcel = record { number = number; parcel = parcel }

-- the parcels in their order, with the numbers from `first` on
abbrev pub numbered : ℕ → List Parcel → List Entry
numbered first [] = []
numbered first (parcel ∷ parcels) = entry first parcel ∷ numbered (suc first) parcels

-- all of these entered before the entry of this number
abbrev pub AllBefore : ℕ → List Entry → Type 0
AllBefore number entries = All (λ e. e.number < number) entries

-- the parcels of the entries
abbrev pub parcels : List Entry → List Parcel
parcels entries = map (λ e. e.parcel) entries

-- 1 if the entry has this number
abbrev pub has_number : ℕ → Entry → ℕ
has_number number e = if number == e.number then 1 else 0
