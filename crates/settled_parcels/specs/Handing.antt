-- Parcels that are handed out of a window (this project's profile of Lumberjack v2).
use Rattle.std.specs.Prelude.{List, ◌++◌, take}
use Rattle.lumber_client.specs.Exchange.{Exchange}
use Rattle.lumber_client.specs.Held.{Held}
use Rattle.wire_base.specs.declared.parcel.Parcel.{Parcel}

-- these were handed out, too
abbrev pub with_all_handed : Exchange → List Parcel → Exchange
with_all_handed e parcels = record { talk = e.talk; begun = e.begun; earlier = e.earlier; handed = e.handed ++ parcels }

-- the parcels of a window that were acknowledged and are to be handed out
abbrev pub settled_in : Held → List Parcel
settled_in window = take window.acknowledged window.parcels
