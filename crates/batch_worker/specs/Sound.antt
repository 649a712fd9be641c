-- What a worker keeps of itself (this project's profile): moments for the windows that are out, room for those to come, and
-- nothing in flight without a link.
use Rattle.std.specs.Prelude.{◌≡◌, ℕ, ◌+◌, ◌<◌, ◌≤◌, false, List, [], ◌∷◌, length, None, IfSome}
use Rattle.std.specs.VecDeque.{deque_capacity}
use Rattle.settle_box.specs.Notes.{IsPostable}
use Rattle.wire_base.specs.Ranges.{IsMoment, IsNote}
use Rattle.batch_worker.specs.declared.worker.Worker.TheInside.{Inside}

-- 1 if a window is going out
abbrev pub going_out : List ℕ → ℕ
going_out [] = 0
going_out (byte ∷ bytes) = 1

pub record IsSound {L : Type 0} (w : Inside L) : Type 0 where
  pub most : 0 < w.window.most
  pub depth : 0 < w.window.depth
  pub outs : length w.outs.items + going_out w.window.out ≡ length w.window.flights
  pub few : length w.window.flights ≤ w.window.depth
  pub room : w.window.depth ≤ deque_capacity w.outs
  pub unlinked : w.link ≡ None → w.window.flights ≡ []
  pub fine : w.window.hearing.failed ≡ false
  pub failed : IsMoment w.failed
  pub refused : IfSome w.refused (λ note. IsPostable note × IsNote note)
