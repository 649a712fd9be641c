-- What a window keeps (this project's profile): room for all that may come, and numbers that agree.
use Rattle.std.specs.Prelude.{◌≡◌, ◌+◌, ◌*◌, ◌<◌, ◌≤◌, [], length, All}
use Rattle.std.specs.List.{AllByRecursion}
use Rattle.std.specs.VecDeque.{deque_len, deque_capacity}
use Rattle.wire_base.specs.Ranges.{IsParcel}
use Rattle.lumber_client.specs.declared.window.Window.TheInside.{Inside}
use Rattle.lumber_client.specs.Exchange.{payloads_of}
use Rattle.lumber_client.specs.Held.{IsPart, total}
use Rattle.lumber_client.specs.Laying.{IsCounted, IsIdle, IsLent, last_laid, piece_of}

pub record IsSound (w : Inside) : Type 0 where
  pub most : 0 < w.most
  pub within : w.acknowledged + w.in_flight ≤ deque_len w.parcels
  pub parcels : All IsParcel w.parcels.items
  pub room : w.most * w.depth + w.most ≤ deque_capacity w.parcels
  pub counted : w.done + w.in_flight ≡ total w.flights.items
  pub counts : AllByRecursion (λ count. (0 < count) × (count ≤ w.most)) w.flights.items
  pub part : IsPart w.done w.flights.items
  pub few : deque_len w.flights ≤ w.depth
  pub flights_room : w.depth ≤ deque_capacity w.flights
  pub laying_room : w.depth ≤ w.outgoing.depth
  pub unlaid : length w.outgoing.unlaid ≤ deque_len w.flights
  pub laying : IsCounted w.outgoing
  pub to_lay : w.outgoing.to_lay ≤ w.in_flight
  pub lent : IsLent w.outgoing.lent w.outgoing.to_lay w.in_flight (last_laid w.outgoing (payloads_of w.parcels.items) (w.acknowledged + w.in_flight))
  pub idle : piece_of w.outgoing (payloads_of w.parcels.items) (w.acknowledged + w.in_flight) ≡ [] → IsIdle w.outgoing
