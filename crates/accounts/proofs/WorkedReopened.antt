-- A worked account of a file that was closed and opened again in the same epoch: it goes on from the end of what was reported, not from where
-- it was begun. And openings that are refused. A file that shrank between its openings is in WorkedShrunk, one that was renamed in
-- WorkedRenamed.
use Rattle.std.proofs.Common.{◌≡◌, inl, inr, ℕ, ◌<◌, nat_le, Bool, true, false, List, [], ◌∷◌, None, Some, codes, if◌then◌else◌, refl, ap, arith}
use Rattle.std.specs.Prelude.{slice_get}
use Rattle.std.proofs.lemmas.Bool.{leb-true}
use Rattle.event_tree.specs.declared.input_rule.IdentityRule.TheVariants.{Path}
use Rattle.kept_rows.proofs.Worked as worked
use Rattle.kept_rows.specs.Followed.{Start}
use Rattle.kept_rows.specs.Run.{Run}
use Rattle.outside.specs.Folders.{Closed}
use Rattle.outside.specs.declared.history.Look.{Look}
use Rattle.told_events.proofs.Worked.{a_log, payload, second_fate}
use Rattle.told_events.specs.Fate.{ShippedAs}
use Rattle.accounts.specs.Filed.{Opening, account_of, first_opening, turned_in}
use Rattle.accounts.specs.FollowedFile.{IsFollowedFile, IsReopened, start_in}
use Rattle.accounts.specs.Turned.{notes_told, parcels_told}
use Rattle.accounts.proofs.Reopened.{GoesOnFrom, goes_on_from}
use Rattle.accounts.proofs.WorkedOpenings.{Twice, a_is_covered, filed, first_accounted, first_history, first_opened, first_reading, goes_on_from_the_told_end, going_on, next_event, next_looks, next_opening, placed, run}

abbrev same_epoch : Twice
same_epoch = going_on Path None worked.key a_log (ShippedAs (payload (codes "2") (codes "b")))

pub is_followed : IsFollowedFile (run same_epoch) (filed same_epoch)
is_followed = goes_on_from_the_told_end Path None worked.key a_log same_epoch.fate tt refl refl a_is_covered worked.not_before_itself second_fate

pub one_epoch_by_two_tails : (account_of placed (filed same_epoch)).epochs
    ≡ record {
      epoch = 0;
      start = 0;
      life = 0;
      readings = first_reading ∷ record { opening = 5; segment = record { place = 2; fall = None; looks = next_looks } } ∷ [];
      licences = [];
      told = first_accounted ∷ record { event = next_event same_epoch; reading = 1; place = Some (record { wire = 0; connection = 0; number = 1 }) } ∷ [];
    } ∷ []
one_epoch_by_two_tails = refl

-- each event is given once, and no epoch is announced
pub both_are_given : parcels_told (turned_in (filed same_epoch))
    ≡ record { slot = record { 0 = 0 }; epoch = record { 0 = 0 }; span = record { start = 0; end = 2 }; payload = payload (codes "0") (codes "a") }
    ∷ record { slot = record { 0 = 0 }; epoch = record { 0 = 0 }; span = record { start = 2; end = 4 }; payload = payload (codes "2") (codes "b") }
    ∷ []
both_are_given = refl

none_is_announced : notes_told (turned_in (filed same_epoch)) ≡ []
none_is_announced = refl

-- ---- what is refused, in any run and with any size

-- a second opening with this epoch and place
abbrev begun_at : Start → Opening
begun_at start = next_opening (record same_epoch { start = start })

module _ (run : Run) (last : Opening) where
  refused_from : (next : Opening) → (GoesOnFrom 0 2 next.opened.begin.epoch.0 next.opened.begin.base → ⊥) →
      IsReopened run (first_opened same_epoch) last (first_history same_epoch) next → ⊥
  refused_from next refuse is = refuse (goes_on_from 0 2 is.shown.shown.entry.size next.opened.begin.epoch.0 next.opened.begin.base is.starts)

  -- from the offset of its row, or where it was begun: the first event would be reported twice
  reopened_at_the_row : IsReopened run (first_opened same_epoch) last (first_history same_epoch) (begun_at (record { epoch = 0; base = 0 })) → ⊥
  reopened_at_the_row is = refused_from (begun_at (record { epoch = 0; base = 0 })) by_case is
    where
      by_case : GoesOnFrom 0 2 0 0 → ⊥
      by_case (inl same) = let n : 0 ≡ 2 = same.1 in omega (arith, n)
      by_case (inr next) = let n : 0 ≡ 1 = next.0 in omega (arith, n)

  -- after what was reported: a byte would be passed by
  reopened_behind_the_told_end : IsReopened run (first_opened same_epoch) last (first_history same_epoch) (begun_at (record { epoch = 0; base = 3 })) → ⊥
  reopened_behind_the_told_end is = refused_from (begun_at (record { epoch = 0; base = 3 })) by_case is
    where
      by_case : GoesOnFrom 0 2 0 3 → ⊥
      by_case (inl same) = let n : 3 ≡ 2 = same.1 in omega (arith, n)
      by_case (inr next) = let n : 0 ≡ 1 = next.0 in omega (arith, n)

  -- in the same epoch, though the file was listed with less than was reported
  same_epoch_after_a_cut : (is : IsReopened run (first_opened same_epoch) last (first_history same_epoch) (next_opening same_epoch)) →
      is.shown.shown.entry.size < 2 → ⊥
  same_epoch_after_a_cut is less = by_case (nat_le 2 is.shown.shown.entry.size) refl is.starts
    where
      by_case : (b : Bool) → nat_le 2 is.shown.shown.entry.size ≡ b →
          start_in (next_opening same_epoch).opened ≡ (if b then record { epoch = 0; base = 2 } else record { epoch = 1; base = 0 }) → ⊥
      by_case true within starts = let some = leb-true 2 is.shown.shown.entry.size within in omega (arith, some, less)
      by_case false below starts = let n : 0 ≡ 1 = ap (λ (s : Start). s.epoch) starts in omega (arith, n)

  -- before the tail before it was closed: between both openings the folder's list has no closing of the first
  two_open_tails_of_a_slot :
      ((place : ℕ) (looks : List Look) (faults : ℕ) → 2 < place → place < 5 → slice_get run.trace.events place ≡ Some (Closed 2 looks faults) → ⊥) →
      IsReopened run (first_opened same_epoch) (first_opening (filed same_epoch)) (first_history same_epoch) (next_opening same_epoch) → ⊥
  two_open_tails_of_a_slot none is = none is.closed.place is.closed.looks is.closed.faults is.closed.since is.closed.before is.closed.closed
