-- A worked account of a file that was renamed between two openings: its input knows files by their native numbers, so it goes on in the
-- same epoch from the end of what was reported, and its later event has the later path.
use Rattle.std.proofs.Common.{◌≡◌, ℕ, List, [], ◌∷◌, Some, codes, map, refl, ap, arith, lit≤}
use Rattle.std.specs.Char.{encode_utf8}
use Rattle.std.specs.Str.{chars, is_utf8}
use Rattle.std.proofs.lemmas.Str.{IsUtf8-from_is_utf8}
use Rattle.event_tree.specs.declared.input_rule.IdentityRule.TheVariants.{Native}
use Rattle.kept_rows.proofs.Worked as worked
use Rattle.kept_rows.specs.Account.{AccountedEvent, EpochAccount}
use Rattle.kept_rows.specs.Scans.{IsCovered}
use Rattle.told_events.proofs.Worked.{a_log, payload, plain}
use Rattle.told_events.specs.Fate.{Fate, ShippedAs, fate_of}
use Rattle.accounts.specs.Filed.{account_of, turned_in}
use Rattle.accounts.specs.FollowedFile.{IsFollowedFile}
use Rattle.accounts.specs.Turned.{parcels_told}
use Rattle.accounts.proofs.WorkedNative.{key, key_is}
use Rattle.accounts.proofs.WorkedOpenings.{Twice, filed, first_path, goes_on_from_the_told_end, going_on, paths, placed, run, scan_at}
use Rattle.accounts.specs.ToldNotes.{IsNamingOf}
use Rattle.wire_base.specs.declared.note.Note.TheVariants.{Rename}

abbrev b_log : List ℕ
b_log = codes "/w/b.log"

-- what the rules give the second line by that path
abbrev b_fate : Fate
b_fate = fate_of plain b_log 2 (codes "b") 0

abbrev renamed : Twice
renamed = going_on Native (Some (18, 2049)) key b_log b_fate

b_is_covered : IsCovered paths b_log
unfolding is_utf8 encode_utf8 chars
b_is_covered =
    (0, codes "/w/**", omega arith, refl, (IsUtf8-from_is_utf8 b_log refl, refl, (worked.covered.2.0, (worked.covered.2.1.0, (1, lit≤ tt, lit≤ tt, ((λ none. cc), tt), tt)))))

pub is_followed : IsFollowedFile (run renamed) (filed renamed)
is_followed = goes_on_from_the_told_end Native (Some (18, 2049)) key b_log b_fate tt key_is key_is b_is_covered (λ less. absurd cc) refl

-- the run may tell its keeper that path with the number of the second scan, which was made after the first opening
pub may_be_named : IsNamingOf (run renamed) (filed renamed) (Rename (record { 0 = 0 }) 1 b_log)
may_be_named = record {
  name = record { scan = 1; path = b_log };
  shown = record {
    front = worked.scan ∷ [];
    scan = scan_at 4 b_log;
    behind = [];
    scans_are = refl;
    number_is = refl;
    later = ((lit≤ tt, tt), tt);
    number = 0;
    first = first_path renamed tt b_log renamed.life renamed.size 4 refl b_is_covered key_is (λ less. absurd cc);
  };
  is = refl;
}

-- one epoch, whose events have the paths of their tails
pub paths_by_their_tails : map (λ (epoch : EpochAccount). map (λ (one : AccountedEvent). one.event.path) epoch.told) (account_of placed (filed renamed)).epochs
    ≡ (a_log ∷ b_log ∷ []) ∷ []
paths_by_their_tails = refl

-- the second event is given with the payload that the rules give it by the later path, whose text is not computed here
pub second_is_given_by_the_later_path : (text : List ℕ) → fate_of plain b_log 2 (codes "b") 0 ≡ ShippedAs text → parcels_told (turned_in (filed renamed))
    ≡ record { slot = record { 0 = 0 }; epoch = record { 0 = 0 }; span = record { start = 0; end = 2 }; payload = payload (codes "0") (codes "a") }
    ∷ record { slot = record { 0 = 0 }; epoch = record { 0 = 0 }; span = record { start = 2; end = 4 }; payload = text }
    ∷ []
second_is_given_by_the_later_path text is = ap (λ (fate : Fate). parcels_told (turned_in (filed (going_on Native (Some (18, 2049)) key b_log fate)))) is
