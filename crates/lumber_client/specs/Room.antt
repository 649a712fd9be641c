-- What is laid out for a window keeps (this project's profile): room for what may come, and numbers that fit.
use Rattle.std.specs.Prelude.{◌+◌, ◌^◌, ◌<◌, ◌≤◌, vec_len, vec_capacity}
use Rattle.lumber_client.specs.declared.outgoing.TheConstants.{LAID_BYTES}
use Rattle.lumber_client.specs.declared.outgoing.Outgoing.TheInside.{Inside}

-- the buffer never grows, and each frame of the present window has a number
pub record IsRoomy (o : Inside) : Type 0 where
  pub capacity : LAID_BYTES ≤ vec_capacity o.buffer
  pub fits : vec_len o.buffer ≤ LAID_BYTES
  pub start : o.start ≤ vec_len o.buffer
  pub numbers : o.laid + o.left < 2 ^ 32
