-- Worked epochs and paths: a file that is truncated between two reads, a file that is renamed while it is open, and two
-- workers of which the second is acknowledged first.
use Rattle.std.proofs.Common.{◌≡◌, ◌≢◌, inl, inr, ℕ, ◌≤◌, false, List, [], ◌∷◌, ◌++◌, length, Option, Some, None, refl, sym, subst, arith, append-nil, lit≤, codes}
use Rattle.std.specs.List.{AllByRecursion}
use Rattle.lumber_frame.specs.declared.frame.Frame.TheVariants.{Ack}
use Rattle.lumber_frame.specs.Acknowledged.{Acknowledges}
use Rattle.lumber_frame.specs.Frame.{frame_bytes}
use Rattle.lumber_frame.specs.Talk.{out_bytes}
use Rattle.lumber_frame.specs.Window.{AreWindows, IsWindow, window_bytes}
use Rattle.lumber_frame.proofs.Settling.{none_in_nothing}
use Rattle.outside.specs.declared.history.Look.{Look}
use Rattle.outside.specs.declared.history.Question.{Question}
use Rattle.outside.specs.declared.history.Question.TheVariants.{Length, ReadAt}
use Rattle.outside.specs.Wires.{Finished}
use Rattle.ship_core.specs.CoveredEnd.{last_end}
use Rattle.told_events.specs.Fate.{ShippedAs}
use Rattle.wire_base.specs.declared.talk.Piece.{Piece}
use Rattle.wire_base.specs.declared.talk.Piece.TheVariants.{In, Out}
use Rattle.kept_rows.specs.Account.{AccountedEvent, EpochAccount, Place, Reading, SlotAccount, spans_of}
use Rattle.kept_rows.specs.Epochs.{AreEpochs}
use Rattle.kept_rows.specs.Kept.{ClosesSettled, IsSettled, IsToldRow}
use Rattle.kept_rows.specs.Trace.{WireTold}
use Rattle.kept_rows.proofs.Worked.{key, listed_before, row, run}

abbrev event : ℕ → ℕ → List ℕ → Option Place → AccountedEvent
event start end text place =
    record { event = record { span = record { start = start; end = end }; path = codes "/w/a.log"; now = 0; fate = ShippedAs text }; reading = 0; place = place }

abbrev place_at : ℕ → ℕ → Place
place_at wire connection = record { wire = wire; connection = connection; number = 0 }

-- a wire over whose connections one window of one payload was sent each, and the last of them acknowledged
abbrev one_window : List ℕ → List Piece
one_window text = Out (window_bytes (text ∷ [])) ∷ []

abbrev answered : List ℕ → List Piece
answered text = Out (window_bytes (text ∷ [])) ∷ In (frame_bytes (Ack 1)) ∷ []

abbrev wire_with : List (List Piece) → WireTold
wire_with [] = record { outcomes = []; open_talk = None }
wire_with (first ∷ []) = record { outcomes = Finished (record { pieces = first; idled = false }) 0 0 ∷ []; open_talk = None }
wire_with (first ∷ second ∷ more) =
    record { outcomes = Finished (record { pieces = first; idled = false }) 1 0 ∷ Finished (record { pieces = second; idled = false }) 0 0 ∷ []; open_talk = None }

window : (text : List ℕ) → length text ≤ 268435456 → IsWindow (text ∷ [])
window text short = record { some = omega arith; few = omega arith; each = (short, tt) }

abbrev sent_windows : List ℕ → List (List (List ℕ))
sent_windows text = (text ∷ []) ∷ []

are_windows : (text : List ℕ) (short : length text ≤ 268435456) → AreWindows (out_bytes (answered text)) (sent_windows text)
are_windows text short = record { each = (window text short, tt); rest = []; whole = sym (append-nil (window_bytes (text ∷ []) ++ [])); cut = none_in_nothing }

a_answered : Acknowledges (answered (codes "a")) (codes "a" ∷ [])
a_answered = record { windows = sent_windows (codes "a"); sent = are_windows (codes "a") (lit≤ tt); are = refl }

b_answered : Acknowledges (answered (codes "b")) (codes "b" ∷ [])
b_answered = record { windows = sent_windows (codes "b"); sent = are_windows (codes "b") (lit≤ tt); are = refl }

c_answered : Acknowledges (answered (codes "c")) (codes "c" ∷ [])
c_answered = record { windows = sent_windows (codes "c"); sent = are_windows (codes "c") (lit≤ tt); are = refl }

-- ---- truncated between two reads: the row of epoch 1 is at 2

abbrev look : Question → ℕ → ℕ → Look
look question life length = record { question = question; sight = record { life = life; length = length } }

abbrev first_looks : List Look
first_looks = look Length 0 4 ∷ look (ReadAt 0 4) 0 4 ∷ []

abbrev fall : Look
fall = look Length 1 0

abbrev later_looks : List Look
later_looks = look Length 1 2 ∷ look (ReadAt 0 2) 1 2 ∷ look Length 1 2 ∷ look (ReadAt 2 0) 1 2 ∷ []

abbrev first_reading : Reading
first_reading = record { opening = 2; segment = record { place = 0; fall = None; looks = first_looks } }

abbrev second_reading : Reading
second_reading = record { opening = 2; segment = record { place = 0; fall = Some fall; looks = later_looks } }

abbrev c_event : AccountedEvent
c_event = event 0 2 (codes "c") (Some (place_at 0 0))

abbrev first_epoch : EpochAccount
first_epoch = record { epoch = 0; start = 0; life = 0; readings = first_reading ∷ []; licences = []; told = event 0 2 (codes "a") None ∷ [] }

abbrev second_epoch : EpochAccount
second_epoch = record { epoch = 1; start = 0; life = 1; readings = second_reading ∷ []; licences = []; told = c_event ∷ [] }

abbrev truncated : SlotAccount
truncated = record {
  following = record {
    slot = 0;
    input = 0;
    key = key;
    epoch = 0;
    base = 0;
    known_from = 0;
    gone_after = None;
    tails = record { opening = 2; place = 0; looks = first_looks ++ fall ∷ later_looks; beyond = [] } ∷ [];
  };
  number = 0;
  changed = 0;
  epochs = first_epoch ∷ second_epoch ∷ [];
}

some_fall : Some fall ≢ None
some_fall e = absurd cc

-- the epoch rises by the look that found the length below, and the second life is the one that was read in it
pub two_epochs : AreEpochs run truncated
two_epochs = record {
  numbered = record { first = first_epoch; later = second_epoch ∷ []; epochs_are = refl; first_epoch = refl; first_start = refl; numbered = (refl, refl, tt) };
  rises = (record { first = second_reading; others = []; readings_are = refl; from_the_first_byte = refl; why = inl some_fall }, tt);
  go_on = ((inr (record { no_fall = refl; told_place = refl; listed = listed_before }), tt), ((inl some_fall, tt), tt));
  in_order = ((lit≤ tt, tt), ((lit≤ tt, tt), tt));
  lives = (
    (λ sight is. let q : Some (record { life = 0; length = 4 }) ≡ Some sight = is in refl),
    ((λ sight is. refl), tt),
  );
  together = refl;
}

-- though nothing of the first life was acknowledged
pub truncated_row_is_kept : IsToldRow (truncated ∷ []) (wire_with (answered (codes "c") ∷ []) ∷ []) (record row { epoch = record { 0 = 1 }; offset = 2 })
truncated_row_is_kept = record {
  slot = 0;
  one = truncated;
  slot_is = refl;
  key_is = refl;
  epoch = second_epoch;
  epoch_is = refl;
  closes = record {
    front = c_event ∷ [];
    rest = [];
    told_is = refl;
    each = (
      record {
        wire = wire_with (answered (codes "c") ∷ []);
        wire_is = refl;
        talk = answered (codes "c");
        talk_is = refl;
        acknowledged = codes "c" ∷ [];
        acknowledges = c_answered;
        stands = refl;
      },
      tt,
    );
    ends = refl;
  };
}

-- ---- two workers: the second event is acknowledged over wire 1 while the first waits

abbrev told_by : Option Place → EpochAccount
told_by first = record {
  epoch = 0;
  start = 0;
  life = 0;
  readings = first_reading ∷ [];
  licences = [];
  told = event 0 2 (codes "a") first ∷ event 2 4 (codes "b") (Some (place_at 1 0)) ∷ [];
}

abbrev broken : List WireTold
broken = wire_with (one_window (codes "a") ∷ []) ∷ wire_with (answered (codes "b") ∷ []) ∷ []

-- the row stays where it began
second_first : ClosesSettled broken (told_by None) 0
second_first = record { front = []; rest = (told_by None).told; told_is = refl; each = tt; ends = refl }

-- a row after both is refused as long as the first has no place
not_behind_both : ClosesSettled broken (told_by None) 4 → ⊥
not_behind_both closes = go closes.front closes.rest closes.told_is closes.each closes.ends
  where
    go : (front rest : List AccountedEvent) → (told_by None).told ≡ front ++ rest → AllByRecursion (IsSettled broken) front → last_end 0 (spans_of front) ≡ 4 → ⊥
    go [] rest is each ends = let n : 0 ≡ 4 = ends in absurd (omega (arith, n))
    go (x ∷ front) rest is each ends =
        let same : event 0 2 (codes "a") None ≡ x = cc in
        subst (IsSettled broken) (sym same) each.0

-- wire 0 connects again, sends it again and is answered
abbrev mended : List WireTold
mended = wire_with (one_window (codes "a") ∷ answered (codes "a") ∷ []) ∷ wire_with (answered (codes "b") ∷ []) ∷ []

both_workers : ClosesSettled mended (told_by (Some (place_at 0 1))) 4
both_workers = record {
  front = (told_by (Some (place_at 0 1))).told;
  rest = [];
  told_is = refl;
  each = (
    record { wire = wire_with (one_window (codes "a") ∷ answered (codes "a") ∷ []); wire_is = refl; talk = answered (codes "a"); talk_is = refl; acknowledged = codes "a" ∷ []; acknowledges = a_answered; stands = refl },
    (record { wire = wire_with (answered (codes "b") ∷ []); wire_is = refl; talk = answered (codes "b"); talk_is = refl; acknowledged = codes "b" ∷ []; acknowledges = b_answered; stands = refl }, tt),
  );
  ends = refl;
}
