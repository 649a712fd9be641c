-- A slot whose Begin is among notes is begun there.
use Rattle.std.proofs.Common.{ℕ, ◌==◌, List, [], ◌∷◌, ◌++◌, Contains, IsSome, refl}
use Rattle.std.specs.List.{filter_map}
use Rattle.std.proofs.lemmas.Bool.{eq-eqb}
use Rattle.std.proofs.lemmas.List.Elements.{Contains-append_left}
use Rattle.ship_core.proofs.Members.{given_there, none_there, passed_there}
use Rattle.ship_core.specs.Orderly.{IsBegun}
use Rattle.ship_core.specs.RowOver.{Start, first_start, notes_of, slot_of, start_of}
use Rattle.wire_base.specs.declared.note.Note.{Note}
use Rattle.wire_base.specs.declared.note.Note.TheVariants.{Begin}
use Rattle.wire_base.specs.declared.numbers.Epoch.{Epoch}
use Rattle.wire_base.specs.declared.numbers.Moment.{Moment}
use Rattle.wire_base.specs.declared.numbers.Slot.{Slot}

pub record HasItsBegin (notes : List Note) (slot : Slot) : Type 0 where
  pub key : List ℕ
  pub path : List ℕ
  pub epoch : Epoch
  pub base : ℕ
  pub changed : Moment
  pub there : Contains notes (Begin slot key path epoch base changed)

pub begins_still : (front rest : List Note) (slot : Slot) → HasItsBegin front slot → HasItsBegin (front ++ rest) slot
begins_still front rest slot has = record {
  key = has.key;
  path = has.path;
  epoch = has.epoch;
  base = has.base;
  changed = has.changed;
  there = Contains-append_left front rest (Begin slot has.key has.path has.epoch has.base has.changed) has.there;
}

pub begin_begins : (notes : List Note) (slot : Slot) → HasItsBegin notes slot → IsBegun slot.0 notes
begin_begins notes slot has =
    let note = Begin slot has.key has.path has.epoch has.base has.changed in
    let own = passed_there (λ n. slot_of n == slot.0) notes note has.there (eq-eqb slot.0 slot.0 refl) in
    some_start (filter_map start_of (notes_of slot.0 notes)) (record { key = has.key; path = has.path; epoch = has.epoch.0; base = has.base })
    (given_there start_of (notes_of slot.0 notes) note (record { key = has.key; path = has.path; epoch = has.epoch.0; base = has.base }) own refl)
  where
    some_start : (starts : List Start) (start : Start) → Contains starts start → IsSome (first_start starts)
    some_start [] start there = absurd (none_there start there)
    some_start (first ∷ starts) start there = refl
