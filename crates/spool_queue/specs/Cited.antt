-- The words of this crate's contracts in one place, for the files that cite many of them.
pub use Rattle.spool_queue.specs.Appending.{IsPartAppended, appended}
pub use Rattle.spool_queue.specs.Lines.{reserved_with}
pub use Rattle.spool_queue.specs.Log.{Log, Then, payloads}
pub use Rattle.spool_queue.specs.Lost.{IsLost, link_counts}
pub use Rattle.spool_queue.specs.OnlyRead.{IsOnlyRead}
pub use Rattle.spool_queue.specs.Printing.{HasTaken, IsSaid, sent_text, spooled_text}
pub use Rattle.spool_queue.specs.PutSoFar.{PutsAll, PutsLines, StopsIn}
pub use Rattle.spool_queue.specs.Putting.{IsPutBehind, IsPutStatus, LeavesTheDisk, Puts, put_call}
pub use Rattle.spool_queue.specs.Records.{Event, head_bytes}
pub use Rattle.spool_queue.specs.Running.{RunsOn, others_of}
pub use Rattle.spool_queue.specs.SendSoFar.{GoesOut, HasPieces, ClockGoesOn, HasTalkFault, Hears, IsFilledWith, IsReadStop, IsSilentOver, IsSendingStop, IsSettlingStop, SendsAll, SendsOver, Settles, SettlesSome, SettlesWindow, Talks}
pub use Rattle.spool_queue.specs.Sending.{IsAwaited, IsIdle}
pub use Rattle.spool_queue.specs.Sent.{AreAcknowledged, IsLeftOf, IsSendStatus, PeerFails, PeerIsSilent, Sends, send_call}
pub use Rattle.spool_queue.specs.Spool.{BreaksAt, EndsAt, IsBad, IsLastGate, IsReadAs, Reaches}
pub use Rattle.spool_queue.specs.Standing.{HasRoom, Holds, HoldsList, IsClosed, IsEither, IsSpoolOf, KeepsPlaces, WouldFill, count_of, reserved}
pub use Rattle.spool_queue.specs.Stopping.{status_after, status_for}
pub use Rattle.spool_queue.specs.Untroubled.{IsRefusedAt, IsUntroubled, IsUntroubledEnd, run_call, signs_of}
pub use Rattle.spool_queue.specs.Walking.{GoesOn, IsStepOf, IsWalkOf}
pub use Rattle.spool_queue.specs.Words.{IsCommand, IsPut, IsSend}
