-- What contracts see of a worker (this project's profile): its peer, its passes, its link, the parcels that it took, and when
-- it failed, sent and heard. Moments are in milliseconds.
use Rattle.std.specs.Prelude.{ℕ, List, Option}
use Rattle.lumber_client.specs.Held.{Held}
use Rattle.mem_queue.specs.Known.{Known}
use Rattle.settle_box.specs.Poster.{Poster}
use Rattle.wire_base.specs.declared.host.Host.{Host}
use Rattle.wire_base.specs.declared.note.Note.{Note}
use Rattle.wire_base.specs.declared.numbers.Moment.{Moment}

pub record Working (L : Type 0) : Type 0 where
  pub host : Host
  -- how long the peer may be silent, in milliseconds
  pub timeout : ℕ
  -- what it takes by, and what it posts by; none if they are laid down
  pub take : Option Known
  pub post : Option Poster
  pub link : Option L
  -- the parcels that it took: those to be posted, those in flight, and those that wait
  pub window : Held
  -- the note of the parcel that was handed out last, if the box refused it
  pub refused : Option Note
  -- how many failures in a row had no new acknowledgement between them, and the moment of the last failure
  pub failures : ℕ
  pub failed : Moment
  -- when each of the windows in flight was out, the oldest first; none for a window that is going out
  pub outs : List Moment
  -- when the last byte of this link was heard; 0 if none was
  pub heard : Moment
