-- How the files of a run are followed.
use Rattle.std.proofs.Common.{◌≡◌, ◌⊎◌, inl, inr, ℕ, zero, suc, ◌+◌, List, [], ◌∷◌, ◌++◌, Contains, length, map, Option, Some, None, refl, sym, ap, subst, ◌∙◌}
use Rattle.std.specs.Prelude.{slice_get}
use Rattle.std.specs.List.{AllByRecursion, flat_map}
use Rattle.harvester.specs.History.{History}
use Rattle.kept_rows.specs.Account.{FollowedTail, Following, Place, SlotAccount}
use Rattle.kept_rows.specs.Followed.{AreRising, HadNoRow, HasWent, IsBegun, IsFollowedTail, IsFollowing, IsNewlyKnown, IsUnknownFrom, Start, StartsAt, followed_openings, start_of}
use Rattle.kept_rows.specs.Run.{Run, Scan}
use Rattle.kept_rows.specs.Scans.{IsFirstPath, ShowsFileTo}
use Rattle.outside.specs.declared.history.Shown.{Shown}
use Rattle.ship_core.proofs.Members.{first_there, later_there}
use Rattle.ship_core.specs.Rows.{find}
use Rattle.wire_base.specs.declared.parcel.Parcel.{Parcel}
use Rattle.slot_parts.specs.Tails.{tails_of}
use Rattle.accounts.specs.Filed.{Filed, Opening, account_of, accounts_of, begun_by, first_opening, following_of, tail_by, told_both}
use Rattle.accounts.specs.FollowedFile.{AreInSlots, AreReopened, BeginsAs, IsFollowedFile, begins_by, openings_in}
use Rattle.accounts.specs.Opened.{Opened}
use Rattle.accounts.proofs.Lists.{got_behind}
use Rattle.accounts.proofs.NamedKeys.{given_key_of_input}
use Rattle.accounts.proofs.Openings.{are_one_by_one, first_is_opening, tail_follows}

-- ---- lists

pub got_each : {A : Type 0} (P : A → Type 0) (xs : List A) (k : ℕ) (x : A) → AllByRecursion P xs → slice_get xs k ≡ Some x → P x
got_each P [] k x all at = absurd (let q : None ≡ Some x = at in cc)
got_each P (first ∷ xs) zero x all at = let q : Some first ≡ Some x = at in let same : first ≡ x = cc in subst P same all.0
got_each P (first ∷ xs) (suc k) x all at = got_each P xs k x all.1 at

pub got_there : {A : Type 0} (xs : List A) (k : ℕ) (x : A) → slice_get xs k ≡ Some x → Contains xs x
got_there [] k x at = absurd (let q : None ≡ Some x = at in cc)
got_there (first ∷ xs) zero x at = let q : Some first ≡ Some x = at in let same : first ≡ x = cc in subst (λ y. Contains (first ∷ xs) y) same (first_there first xs)
got_there (first ∷ xs) (suc k) x at = later_there first x xs (got_there xs k x at)

pub all_of : {A : Type 0} (P : A → Type 0) (xs : List A) → ((x : A) → P x) → AllByRecursion P xs
all_of P [] each = tt
all_of P (x ∷ xs) each = (each x, all_of P xs each)

-- ---- followings

abbrev pub followings_of : (Parcel → Option Place) → List Filed → List Following
followings_of placed files = map (λ (one : SlotAccount). one.following) (accounts_of placed files)

-- each tail that was opened again follows the file
later_follow : (run : Run) (first : Opened) (last : Opening) (so_far : History) (later : List Opening) → AreReopened run first last so_far later →
    AllByRecursion (IsFollowedTail run first.rule first.begin.key) (tails_of (map tail_by later))
later_follow run first last so_far [] are = tt
later_follow run first last so_far (next ∷ later) are = (tail_follows run first next are.0.is, later_follow run first next (told_both so_far next.history) later are.1)

-- ---- with what a slot begins

-- by the scan from which on its key is known
starts_at : (run : Run) (scan : Scan) (following : Following) (input number : ℕ) (shown : Shown) → ShowsFileTo run scan input following.key number shown →
    IsFirstPath run scan following.key number shown.entry.path → (place : ℕ) → start_of following ≡ begins_by place (find following.key run.opening) shown.entry.size →
    StartsAt place run scan following
starts_at run scan following input number shown shows first zero starts = inl (record { number = number; shown = shown; shows = (input, shows); first = first; starts = starts })
starts_at run scan following input number shown shows first (suc earlier) starts = record {
  shows = record { number = number; path = shown.entry.path; shows = record { shown = shown; path_is = refl; shows = (input, shows) } };
  starts = starts;
}

module _ (run : Run) (file : Filed) (is : IsFollowedFile run file) where
  is_begun : IsBegun run (following_of file)
  is_begun = by_case file.shrank_from refl is.listed.begins
    where
      by_case : (from : Option Start) → file.shrank_from ≡ from → BeginsAs run file is.listed.last from → IsBegun run (following_of file)
      by_case None same (inl there) =
          let last = is.listed.last in
          record {
            scan = last.scan;
            scan_is = ap (slice_get run.scans) there.number_is ∙ ap (λ (l : List Scan). slice_get l (length last.front)) last.scans_are ∙ got_behind last.front last.scan last.behind;
            starts = starts_at run last.scan (following_of file) file.opened.begin.input last.number last.shown last.shows
                (subst (IsFirstPath run last.scan file.opened.begin.key last.number) (sym last.path_is) last.first) file.known_from (ap (begun_by file.opened) same ∙ there.starts);
          }
      by_case None same (inr earlier) = earlier.begun
      by_case (Some start) same shrank = shrank.begun

  module _ (placed : Parcel → Option Place) where
    pub is_following : IsFollowing run (account_of placed file).following
    is_following = record {
      rule = file.opened.rule;
      rule_is = is.rule_is;
      key_of_input = given_key_of_input file.opened.rule.id file.opened.rule.file_identity file.opened.begin.path file.opened.file file.opened.asked file.opened.begin.key is.gave.gave;
      begun = is_begun;
      tails = (
        tail_follows run file.opened (first_opening file) (first_is_opening run file is),
        later_follow run file.opened (first_opening file) file.turned.history file.later is.reopened,
      );
      one_by_one = are_one_by_one run file.opened is.in_range (first_opening file) file.turned.history file.later is.reopened;
    }

-- ---- keys that became known later

-- also among more slots
pub newly_among : (run : Run) (some more : List Following) (one : Following) → ((other : Following) → Contains some other → Contains more other) →
    IsNewlyKnown run some one → IsNewlyKnown run more one
newly_among run some more one there new later =
    let known = new later in record { no_row = by_row known.no_row; since = known.since; unknown = by_scan known.since known.unknown; hidden = known.hidden }
  where
    went_among : (last : ℕ) → HasWent some one last → HasWent more one last
    went_among last went =
        record { earlier = went.earlier; among = there went.earlier went.among; before = went.before; key_is = went.key_is; gone = went.gone }

    by_row : HadNoRow run some one → HadNoRow run more one
    by_row (inl none) = inl none
    by_row (inr went) = inr (went.0, went_among went.0 went.1)

    by_scan : (since : ℕ) → IsUnknownFrom run some one since → IsUnknownFrom run more one since
    by_scan since (inl first) = inl first
    by_scan since (inr (inl went)) = inr (inl (went.0, went_among went.0 went.1, went.2))
    by_scan since (inr (inr whole)) = inr (inr whole)

module _ (run : Run) where
  -- ---- all files

  module _ (placed : Parcel → Option Place) where
    pub are_following : (files : List Filed) → AllByRecursion (IsFollowedFile run) files → AllByRecursion (λ (one : SlotAccount). IsFollowing run one.following) (accounts_of placed files)
    are_following [] each = tt
    are_following (file ∷ files) each = (is_following run file each.0 placed, are_following files each.1)

    pub are_rising : (least : ℕ) (files : List Filed) → AreInSlots least files → AreRising least (followings_of placed files)
    are_rising least [] slots = tt
    are_rising least (file ∷ files) slots = (slots.0, are_rising (file.opened.begin.slot.0 + 1) files slots.1)

    later_are : (later : List Opening) → map (λ (tail : FollowedTail). tail.opening) (tails_of (map tail_by later)) ≡ map (λ (one : Opening). one.opened.opening) later
    later_are [] = refl
    later_are (one ∷ later) = ap (λ (l : List ℕ). one.opened.opening ∷ l) (later_are later)

    pub openings_are : (files : List Filed) → followed_openings (followings_of placed files) ≡ flat_map openings_in files
    openings_are [] = refl
    openings_are (file ∷ files) = λ k. (file.opened.opening ∷ later_are file.later k) ++ openings_are files k
