-- What a window holds (this project's profile of Lumberjack v2): parcels in the order in which they were offered. Those in
-- front were acknowledged and are to be handed out, those after them are in flight, and the others wait to be begun.
use Rattle.std.specs.Prelude.{◌≡◌, ℕ, ◌+◌, ◌-◌, ◌<◌, List, [], ◌∷◌, ◌++◌, length, take, drop, Option, Some, None, Bool, false, true, ◌==◌, if◌then◌else◌}
use Rattle.wire_base.specs.declared.parcel.Parcel.{Parcel}
use Rattle.lumber_client.specs.Hearing.{Hearing, nothing_heard}

pub record Held : Type 0 where
  -- how many parcels a window has at most, and how many windows are in flight at most
  pub most : ℕ
  pub depth : ℕ
  pub parcels : List Parcel
  -- how many in front were acknowledged, and how many after them are in flight
  pub acknowledged : ℕ
  pub in_flight : ℕ
  -- the counts of the windows that were begun and are not acknowledged in full, the oldest first, and how many parcels of
  -- the oldest one were acknowledged
  pub flights : List ℕ
  pub done : ℕ
  -- the count of the last window that was acknowledged in full; 0 if none was
  pub last : ℕ
  -- the next piece to go out, and what is to go out after it
  pub out : List ℕ
  pub behind : List ℕ
  pub hearing : Hearing

abbrev pub nothing_held : ℕ → ℕ → Held
nothing_held most depth = record {
  most = most;
  depth = depth;
  parcels = [];
  acknowledged = 0;
  in_flight = 0;
  flights = [];
  done = 0;
  last = 0;
  out = [];
  behind = [];
  hearing = nothing_heard;
}

-- how many parcels were begun and are still held
abbrev pub begun_in : Held → ℕ
begun_in w = w.acknowledged + w.in_flight

-- the parcels that wait to be begun
abbrev pub waiting_in : Held → List Parcel
waiting_in w = drop (begun_in w) w.parcels

-- the parcels of the window that is begun next
abbrev pub next_in : Held → List Parcel
next_in w = take w.most (waiting_in w)

-- the window made again: what is not acknowledged waits, in its old order
abbrev pub made_again : Held → Held
made_again w = record {
  most = w.most;
  depth = w.depth;
  parcels = w.parcels;
  acknowledged = w.acknowledged;
  in_flight = 0;
  flights = [];
  done = 0;
  last = 0;
  out = [];
  behind = [];
  hearing = nothing_heard;
}

-- the count of the oldest window in flight
abbrev pub oldest_of : List ℕ → Option ℕ
oldest_of [] = None
oldest_of (count ∷ counts) = Some count

abbrev pub has_some : List ℕ → Bool
has_some [] = false
has_some (count ∷ counts) = true

-- the counts of the others
abbrev pub younger_of : List ℕ → List ℕ
younger_of [] = []
younger_of (count ∷ counts) = counts

abbrev pub total : List ℕ → ℕ
total [] = 0
total (count ∷ counts) = count + total counts

-- this many of the oldest window's parcels were acknowledged, and not all of them
abbrev pub IsPart : ℕ → List ℕ → Type 0
IsPart done [] = done ≡ 0
IsPart done (count ∷ counts) = done < count

-- the window after its oldest one in flight, of this count, was acknowledged up to this number
abbrev pub acknowledged_to : Held → ℕ → ℕ → Held
acknowledged_to w number count = record {
  most = w.most;
  depth = w.depth;
  parcels = w.parcels;
  acknowledged = w.acknowledged + (number - w.done);
  in_flight = w.in_flight - (number - w.done);
  flights = if number == count then younger_of w.flights else w.flights;
  done = if number == count then 0 else number;
  last = if number == count then number else w.last;
  out = w.out;
  behind = w.behind;
  hearing = w.hearing;
}

-- the window after this hearing
abbrev pub with_hearing : Held → Hearing → Held
with_hearing w hearing = record {
  most = w.most;
  depth = w.depth;
  parcels = w.parcels;
  acknowledged = w.acknowledged;
  in_flight = w.in_flight;
  flights = w.flights;
  done = w.done;
  last = w.last;
  out = w.out;
  behind = w.behind;
  hearing = hearing;
}

-- the window after its next parcels were begun, with these bytes to go out
abbrev pub begun_as : Held → List ℕ → List ℕ → Held
begun_as w out behind = record {
  most = w.most;
  depth = w.depth;
  parcels = w.parcels;
  acknowledged = w.acknowledged;
  in_flight = w.in_flight + length (next_in w);
  flights = w.flights ++ length (next_in w) ∷ [];
  done = w.done;
  last = w.last;
  out = out;
  behind = behind;
  hearing = w.hearing;
}

-- the window with these bytes to go out
abbrev pub sent_as : Held → List ℕ → List ℕ → Held
sent_as w out behind = record {
  most = w.most;
  depth = w.depth;
  parcels = w.parcels;
  acknowledged = w.acknowledged;
  in_flight = w.in_flight;
  flights = w.flights;
  done = w.done;
  last = w.last;
  out = out;
  behind = behind;
  hearing = w.hearing;
}

-- the window with these parcels, of which this many in front are acknowledged
abbrev pub with_parcels : Held → List Parcel → ℕ → Held
with_parcels w parcels acknowledged = record {
  most = w.most;
  depth = w.depth;
  parcels = parcels;
  acknowledged = acknowledged;
  in_flight = w.in_flight;
  flights = w.flights;
  done = w.done;
  last = w.last;
  out = w.out;
  behind = w.behind;
  hearing = w.hearing;
}

-- the window with this parcel after the others
abbrev pub with_offered : Held → Parcel → Held
with_offered w parcel = with_parcels w (w.parcels ++ parcel ∷ []) w.acknowledged
