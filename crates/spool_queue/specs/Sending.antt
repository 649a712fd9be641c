-- For private clauses: a window of lumber_client between the payloads of a spool (this project's profile).
use Rattle.std.specs.Prelude.{◌≡◌, ℕ, ◌≤◌, length, false}
use Rattle.lumber_client.specs.Held.{Held, begun_in}

-- nothing is held, and no fault was reported
pub record IsIdle (w : Held) : Type 0 where
  pub most : w.most ≡ 2048
  pub depth : w.depth ≡ 1
  pub parcels : length w.parcels ≡ 0
  pub acknowledged : w.acknowledged ≡ 0
  pub in_flight : w.in_flight ≡ 0
  pub flights : length w.flights ≡ 0
  pub faultless : w.hearing.failed ≡ false

-- all that is held was begun, and is no more than so many; nothing of it waits to be settled, and no fault was reported
pub record IsAwaited (w : Held) (count : ℕ) : Type 0 where
  pub most : w.most ≡ 2048
  pub depth : w.depth ≡ 1
  pub few : length w.parcels ≤ count
  pub begun : begun_in w ≡ length w.parcels
  pub acknowledged : w.acknowledged ≡ 0
  pub faultless : w.hearing.failed ≡ false

-- so many are held, and nothing was begun
pub record IsFilled (w : Held) (count : ℕ) : Type 0 where
  pub most : w.most ≡ 2048
  pub depth : w.depth ≡ 1
  pub held : length w.parcels ≡ count
  pub acknowledged : w.acknowledged ≡ 0
  pub in_flight : w.in_flight ≡ 0
  pub flights : length w.flights ≡ 0
  pub faultless : w.hearing.failed ≡ false
