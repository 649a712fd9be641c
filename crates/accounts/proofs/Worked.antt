-- A worked account: two plain lines that were read to their end, acknowledged in one talk. It is the one that is in `kept_rows`.
use Rattle.std.proofs.Common.{◌≡◌, ℕ, ◌==◌, true, false, List, [], ◌∷◌, Option, None, Some, codes, if◌then◌else◌, refl}
use Rattle.harvester.specs.History.{Ended, History, Telling}
use Rattle.kept_rows.proofs.Worked as worked
use Rattle.kept_rows.specs.Account.{Place}
use Rattle.told_events.proofs.Worked.{a_log, event_of, first_line, life, payload, second_line}
use Rattle.told_events.specs.Fate.{DroppedBy}
use Rattle.wire_base.specs.declared.note.Begin.{Begin}
use Rattle.wire_base.specs.declared.note.Cause.TheVariants.{Dropped}
use Rattle.wire_base.specs.declared.note.Note.TheVariants.{Announce, Settle}
use Rattle.wire_base.specs.declared.parcel.Parcel.{Parcel}
use Rattle.accounts.specs.Filed.{Filed, account_of}
use Rattle.accounts.specs.Opened.{Opened}
use Rattle.accounts.specs.Turned.{Turned, notes_told, parcels_told, spans_told}

-- ---- the account

abbrev pub begin : Begin
begin = record {
  slot = record { 0 = 0 };
  input = 0;
  key = worked.key;
  path = a_log;
  size = 4;
  epoch = record { 0 = 0 };
  base = 0;
}

abbrev pub opened : Opened
opened = record { begin = begin; rule = worked.input; opening = 2; number = 0; begun = worked.sight; file = worked.file; asked = [] }

abbrev pub telling : Telling
telling = record {
  epoch = 0;
  start = 0;
  bytes = life;
  licences = [];
  told = event_of first_line (payload (codes "0") (codes "a")) ∷ event_of second_line (payload (codes "2") (codes "b")) ∷ [];
}

abbrev pub history : History
history = record {
  rule = worked.input;
  processors = [];
  begin = begin;
  before = [];
  path = a_log;
  past = [];
  present = telling;
  moments = 0 ∷ [];
  last_line = 0;
  stage = Ended;
  ends = false;
  may_end = true;
  forgets = false;
}

abbrev pub placed : Parcel → Option Place
placed parcel = Some (record { wire = 0; connection = 0; number = if parcel.span.start == 0 then 0 else 1 })

abbrev file : Filed
file = record { opened = opened; turned = record { slot = record { 0 = 0 }; history = history }; looks = worked.looks; changed = 0; known_from = 0; later = []; removed = None; shrank_from = None }

pub two_plain_lines_are_accounted : account_of placed file ≡ worked.slot_account
two_plain_lines_are_accounted = refl

-- ---- what it gave

abbrev parcel_at : ℕ → ℕ → List ℕ → Parcel
parcel_at start end payload = record { slot = record { 0 = 0 }; epoch = record { 0 = 0 }; span = record { start = start; end = end }; payload = payload }

pub two_parcels_are_given : parcels_told (record { slot = record { 0 = 0 }; history = history })
    ≡ parcel_at 0 2 (payload (codes "0") (codes "a")) ∷ parcel_at 2 4 (payload (codes "2") (codes "b")) ∷ []
two_parcels_are_given = refl

-- a dropped line, then a new life of which one line is dropped, too
abbrev dropped : ℕ → Telling
dropped epoch = record {
  epoch = epoch;
  start = 0;
  bytes = codes "a\n";
  licences = [];
  told = record { span = record { start = 0; end = 2 }; path = a_log; now = 0; fate = DroppedBy 1 } ∷ [];
}

abbrev twice : Turned
twice = record { slot = record { 0 = 0 }; history = record history { past = dropped 0 ∷ []; present = dropped 1 } }

pub three_notes_are_given : notes_told twice
    ≡ Settle (record { 0 = 0 }) (record { 0 = 0 }) (record { start = 0; end = 2 }) (Dropped (record { 0 = 1 }))
    ∷ Announce (record { 0 = 0 }) (record { 0 = 1 })
    ∷ Settle (record { 0 = 0 }) (record { 0 = 1 }) (record { start = 0; end = 2 }) (Dropped (record { 0 = 1 }))
    ∷ []
three_notes_are_given = refl

pub two_spans_are_told : spans_told twice ≡ 2
two_spans_are_told = refl
