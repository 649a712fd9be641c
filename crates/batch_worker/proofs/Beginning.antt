-- A worker without a link that holds nothing stands for no parcel, from its wire's next outcome on.
use Rattle.std.proofs.Common.{◌≡◌, ◌≤◌, List, [], length, drop, Option, Some, None, IfSome, refl, sym, subst, arith}
use Rattle.std.proofs.Math.Seq.{drop-length}
use Rattle.lumber_client.specs.Exchange.{no_exchange}
use Rattle.lumber_client.specs.Standing.{StandsFor as WindowStandsFor}
use Rattle.outside.specs.Talks.{Talk}
use Rattle.outside.specs.Wires.{Outcome}
use Rattle.wire_base.specs.declared.parcel.Parcel.{Parcel}
use Rattle.batch_worker.specs.Acknowledged.{AcknowledgeInAll}
use Rattle.batch_worker.specs.Sent.{AreSentOnly}
use Rattle.batch_worker.specs.Standing.{Speaks, StandsFor, length_of}
use Rattle.batch_worker.specs.Working.{Working}

module _ {L : Type 0} (told : L → Option Talk) (w : Working L) where
  all_reached : (outcomes : Option (List Outcome)) → IfSome outcomes (λ list. length_of outcomes ≤ length list)
  all_reached None = tt
  all_reached (Some list) = omega arith

  none_finished : (outcomes : Option (List Outcome)) → IfSome outcomes (λ list. AcknowledgeInAll (drop (length_of outcomes) list) [])
  none_finished None = tt
  none_finished (Some list) = subst (λ (l : List Outcome). AcknowledgeInAll l []) (sym (drop-length list)) refl

  none_sent : (outcomes : Option (List Outcome)) (taken : List Parcel) → IfSome outcomes (λ list. AreSentOnly w.window.most taken (drop (length_of outcomes) list))
  none_sent None taken = tt
  none_sent (Some list) taken = subst (AreSentOnly w.window.most taken) (sym (drop-length list)) tt

  speaks_nothing : (link : Option L) (outcomes : Option (List Outcome)) → link ≡ None → Speaks told link outcomes []
  speaks_nothing link outcomes none = subst (λ (l : Option L). Speaks told l outcomes []) (sym none) refl

  pub begun_stands : (outcomes : Option (List Outcome)) → WindowStandsFor w.window no_exchange → w.link ≡ None → StandsFor told (length_of outcomes) w outcomes []
  begun_stands outcomes window unlinked = record {
    exchange = no_exchange;
    window = window;
    talk = speaks_nothing w.link outcomes unlinked;
    small = tt;
    are = refl;
    reached = all_reached outcomes;
    finished = none_finished outcomes;
    sent = none_sent outcomes _;
  }
