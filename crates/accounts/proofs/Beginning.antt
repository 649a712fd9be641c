-- If the Begin of each file is noted, each of their accounts was begun.
use Rattle.std.proofs.Common.{◌≡◌, List, [], ◌∷◌, Contains, Option, Some, refl}
use Rattle.std.specs.List.{AllByRecursion}
use Rattle.kept_rows.specs.Account.{Place}
use Rattle.kept_rows.specs.Backed.{AreBegun}
use Rattle.ship_core.proofs.Members.{given_there}
use Rattle.ship_core.specs.RowsOver.{slot_for, slots_for}
use Rattle.wire_base.proofs.ByteOrder.{compare_same}
use Rattle.wire_base.specs.declared.note.Note.{Note}
use Rattle.wire_base.specs.declared.parcel.Parcel.{Parcel}
use Rattle.accounts.specs.Filed.{Filed, IsNoted, accounts_of, its_begin, slot_in}

slot_of_begin : (file : Filed) (notes : List Note) (noted : IsNoted notes file) →
    slot_for file.opened.begin.key (its_begin file noted.path noted.changed) ≡ Some (slot_in file)
slot_of_begin file notes noted = rw (compare_same file.opened.begin.key file.opened.begin.key refl) refl

pub slot_there : (notes : List Note) (file : Filed) → IsNoted notes file → Contains (slots_for file.opened.begin.key notes) (slot_in file)
slot_there notes file noted =
    let begin = file.opened.begin in
    let note = its_begin file noted.path noted.changed in
    given_there (slot_for begin.key) notes note (slot_in file) noted.there (slot_of_begin file notes noted)

pub are_begun : (placed : Parcel → Option Place) (notes : List Note) (files : List Filed) → AllByRecursion (IsNoted notes) files → AreBegun (accounts_of placed files) notes
are_begun placed notes [] noted = tt
are_begun placed notes (file ∷ files) noted = (slot_there notes file noted.0, are_begun placed notes files noted.1)
