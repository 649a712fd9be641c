-- What the answer to a byte says of the parcels that a window holds (this project's profile of Lumberjack v2).
use Rattle.std.specs.Prelude.{◌≡◌, ℕ, ◌-◌, Bool, false, true}
use Rattle.lumber_client.specs.declared.heard.Heard.{Heard}
use Rattle.lumber_client.specs.declared.heard.Heard.TheVariants.{More, Alive, Acked, PeerFault}
use Rattle.lumber_client.specs.Held.{Held, begun_in}

-- how many more are acknowledged
abbrev pub newly_acknowledged : Heard → ℕ
newly_acknowledged More = 0
newly_acknowledged Alive = 0
newly_acknowledged (Acked from to) = to - from
newly_acknowledged (PeerFault at) = 0

-- a fault is reported
abbrev pub is_fault : Heard → Bool
is_fault More = false
is_fault Alive = false
is_fault (Acked from to) = false
is_fault (PeerFault at) = true

-- the same parcels are held, as many of them begun, and the same bytes are to go out
pub record KeepsParcels (old new : Held) : Type 0 where
  pub most : new.most ≡ old.most
  pub depth : new.depth ≡ old.depth
  pub parcels : new.parcels ≡ old.parcels
  pub begun : begun_in new ≡ begun_in old
  pub out : new.out ≡ old.out
  pub behind : new.behind ≡ old.behind
