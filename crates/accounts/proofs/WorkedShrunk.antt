-- A worked account of a file that shrank between two openings: the second scan lists it with one byte, less than was reported, and it is reported
-- from its first byte on in the next epoch.
use Rattle.std.proofs.Common.{◌≡◌, ℕ, ◌≤◌, List, [], ◌∷◌, None, Some, codes, inl, refl, lit≤}
use Rattle.event_tree.specs.declared.input_rule.IdentityRule.TheVariants.{Path}
use Rattle.file_looks.specs.Looks.{IsAnswered, IsLook, TellsLooks}
use Rattle.harvester.specs.History.{IsTelling, rules_in}
use Rattle.harvester.specs.Looked.{IsLookedAt}
use Rattle.kept_rows.proofs.Worked as worked
use Rattle.outside.specs.declared.history.Look.{Look}
use Rattle.outside.specs.declared.history.Question.{Question}
use Rattle.outside.specs.declared.history.Question.TheVariants.{Length, ReadAt}
use Rattle.outside.specs.declared.history.Sight.{Sight}
use Rattle.told_events.proofs.Worked.{a_log, first_fate, first_line, payload}
use Rattle.told_events.specs.Fate.{ShippedAs}
use Rattle.wire_base.specs.declared.note.Note.TheVariants.{Announce}
use Rattle.accounts.specs.Filed.{account_of, turned_in}
use Rattle.accounts.specs.FollowedFile.{IsFollowedFile}
use Rattle.accounts.specs.Turned.{notes_told, parcels_told}
use Rattle.accounts.proofs.WorkedOpenings.{Twice, a_is_covered, file, filed, first_accounted, first_reading, look_at, next_event, next_history, next_tail, next_told, one_line_is_told, opened_twice, placed, run}

-- it was written anew with its first line: two bytes come to be there in its second life, of which the scan lists one
abbrev grown : Sight
grown = record { life = 1; length = 2 }

abbrev cut_looks : List Look
cut_looks = look_at grown Length ∷ look_at grown (ReadAt 0 2) ∷ look_at grown Length ∷ look_at grown (ReadAt 2 0) ∷ []

abbrev shrunk : Twice
shrunk = record {
  identity = Path;
  numbers = None;
  key = worked.key;
  later_lives = codes "a\n" ∷ [];
  path = a_log;
  life = 1;
  size = 1;
  start = record { epoch = 1; base = 0 };
  begun = record { life = 1; length = 1 };
  looks = cut_looks;
  bytes = codes "a\n";
  line = first_line;
  fate = ShippedAs (payload (codes "0") (codes "a"));
}

-- ---- what its second tail reported

is_telling : IsTelling (rules_in (next_history shrunk)) (next_history shrunk).present
is_telling in_life has = one_line_is_told a_log in_life shrunk.line has.more shrunk.fate shrunk.bytes has.behind refl refl first_fate

looked : IsLookedAt None (next_history shrunk) (next_tail shrunk)
looked = record {
  since = cut_looks;
  beyond = [];
  looks_are = refl;
  front = [];
  last = record { place = 0; fall = None; looks = cut_looks };
  segments = refl;
  past = tt;
  present = record { place = refl; to = refl; bytes = refl; on = (λ e. tt, (λ e. refl, (λ e. tt, (λ e. refl, tt)))); kept_key = inl refl; licensed = tt };
  stand_behind = refl;
  end_look = λ ended. absurd cc;
}

is_look : (length : ℕ) → length ≤ 2 → (question : Question) → IsAnswered question grown →
    IsLook (file shrunk) (record { life = 1; length = length }) (look_at grown question)
is_look length fewer question answered = record {
  of_file = record { known = lit≤ tt; within = lit≤ tt; in_range = lit≤ tt };
  no_earlier = record { life = lit≤ tt; length = λ same. fewer };
  answered = answered;
}

tells : TellsLooks (next_tail shrunk)
tells = (
  is_look 1 (lit≤ tt) Length tt,
  (
    is_look 2 (lit≤ tt) (ReadAt 0 2) (λ some. lit≤ tt, λ none. cc),
    (is_look 2 (lit≤ tt) Length tt, (is_look 2 (lit≤ tt) (ReadAt 2 0) (λ some. lit≤ tt, λ none. lit≤ tt), tt)),
  ),
)

pub is_followed : IsFollowedFile (run shrunk) (filed shrunk)
is_followed = opened_twice shrunk tt refl refl a_is_covered worked.not_before_itself (next_told shrunk is_telling looked tells) refl

-- ---- its account

pub two_epochs_by_two_tails : (account_of placed (filed shrunk)).epochs
    ≡ record { epoch = 0; start = 0; life = 0; readings = first_reading ∷ []; licences = []; told = first_accounted ∷ [] }
    ∷ record {
      epoch = 1;
      start = 0;
      life = 1;
      readings = record { opening = 5; segment = record { place = 0; fall = None; looks = cut_looks } } ∷ [];
      licences = [];
      told = record { event = next_event shrunk; reading = 0; place = Some (record { wire = 0; connection = 0; number = 0 }) } ∷ [];
    }
    ∷ []
two_epochs_by_two_tails = refl

-- its first line is reported in each of them
pub one_event_in_each_epoch : parcels_told (turned_in (filed shrunk))
    ≡ record { slot = record { 0 = 0 }; epoch = record { 0 = 0 }; span = record { start = 0; end = 2 }; payload = payload (codes "0") (codes "a") }
    ∷ record { slot = record { 0 = 0 }; epoch = record { 0 = 1 }; span = record { start = 0; end = 2 }; payload = payload (codes "0") (codes "a") }
    ∷ []
one_event_in_each_epoch = refl

-- the epoch that rose as it was opened is announced
rise_is_announced : notes_told (turned_in (filed shrunk)) ≡ Announce (record { 0 = 0 }) (record { 0 = 1 }) ∷ []
rise_is_announced = refl
