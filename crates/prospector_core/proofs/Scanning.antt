-- A scan as a whole: how it starts, and what it told and left.
use Rattle.std.proofs.Common.{◌≡◌, ℕ, ◌-◌, ◌≤◌, Bool, true, false, List, [], ◌++◌, length, map, take, drop, AllPairs, refl, sym, ap, ◌∙◌, subst, if◌then◌else◌, arith}
use Rattle.std.specs.Prelude.{flat_map}
use Rattle.std.proofs.lemmas.List.{append-nil, drop_all, length-map, take_all}
use Rattle.prospector_core.proofs.Looping.{index_kept}
use Rattle.prospector_core.proofs.Settling.{files-cleared, removals_are}
use Rattle.prospector_core.proofs.Steps.{none_told}
use Rattle.prospector_core.specs.declared.known.Known.{Known}
use Rattle.prospector_core.specs.declared.marks.Watched.{Watched}
use Rattle.prospector_core.specs.declared.seen.Seen.{Seen}
use Rattle.prospector_core.specs.declared.told.Scan.{Scan}
use Rattle.prospector_core.specs.declared.told.Told.{Told}
use Rattle.prospector_core.specs.Changes.{member_changes, removals}
use Rattle.prospector_core.specs.Earlier.{flat_map_with_earlier}
use Rattle.prospector_core.specs.KeyIndex.{IsIndex}
use Rattle.prospector_core.specs.KnownFiles.{AreKnown, KnownFiles, StandsBefore}
use Rattle.prospector_core.specs.Marks.{cleared, file_of, files_of, keys_of, known_in, unseen_removal, watched_by}
use Rattle.prospector_core.specs.Told.{HasAdded, HasTold, IsToldBy}

-- ---- the start

pub cleared_files : (before watched : List Watched) → watched ≡ map cleared before → files_of watched ≡ files_of before
cleared_files before watched unmarked = ap files_of unmarked ∙ files-cleared before

pub cleared_index : (before watched : List Watched) (order : List ℕ) → watched ≡ map cleared before → IsIndex (keys_of before) order → IsIndex (keys_of watched) order
cleared_index before watched order unmarked is = index_kept before watched order (cleared_files before watched unmarked) is

pub cleared_apart : (before watched : List Watched) → watched ≡ map cleared before → AllPairs StandsBefore (files_of before) → AllPairs StandsBefore (files_of watched)
cleared_apart before watched unmarked apart = subst (λ (l : List Known). AllPairs StandsBefore l) (sym (cleared_files before watched unmarked)) apart

cleared_length : (before watched : List Watched) → watched ≡ map cleared before → length watched ≡ length before
cleared_length before watched unmarked = ap (λ (l : List Watched). length l) unmarked ∙ length-map before cleared

abbrev record_of : List Known → ℕ → ℕ → KnownFiles
record_of files next others = record { files = files; next = next; others = others }

pub cleared_known : (before watched : List Watched) (next count n c : ℕ) → watched ≡ map cleared before → n ≡ next → c ≡ count → known_in watched n c ≡ known_in before next count
cleared_known before watched next count n c unmarked same_next same_count =
    ap (λ (k : ℕ). known_in watched k c) same_next ∙ ap (known_in watched next) same_count
    ∙ (let l : length watched ≡ length before = cleared_length before watched unmarked in
    let f : files_of watched ≡ files_of before = cleared_files before watched unmarked in
    same_known (files_of watched) (files_of before) next (count - length watched) (count - length before) f (ap (λ (k : ℕ). count - k) l))
  where
    same_known : (files others : List Known) (next a b : ℕ) → files ≡ others → a ≡ b → record_of files next a ≡ record_of others next b
    same_known files others next a b one two = ap (λ (l : List Known). record_of l next a) one ∙ ap (record_of others next) two

pub scan_start : (clean : List Bool) (before watched : List Watched) (next count : ℕ) (told : Told) → watched ≡ map cleared before → AreKnown (known_in before next count) → length before ≤ count →
    told.changes.items ≡ [] → told.created.items ≡ [] → told.keys.keys ≡ [] → told.next ≡ next → told.files ≡ count →
    IsToldBy clean (known_in watched told.next told.files) [] watched told
scan_start clean before watched next count told unmarked are fits changes created keys same_next same_count =
    none_told clean (known_in watched told.next told.files) before watched told unmarked (sym (cleared_files before watched unmarked)) changes created keys refl
    (omega (arith, fits, same_count, cleared_length before watched unmarked, length-map watched file_of))
    (let few = are.few in omega (arith, few, fits, same_count, length-map before file_of))

-- ---- the end

removals_by : (clean : List Bool) (whole : Bool) (seen : List Seen) (files : List Known) (watched : List Watched) → watched ≡ map (watched_by clean seen) files →
    (if whole then flat_map unseen_removal watched else []) ≡ removals whole seen files
removals_by clean true seen files watched marks = ap (flat_map unseen_removal) marks ∙ removals_are clean seen files
removals_by clean false seen files watched marks = refl

pub scan_told : (scan : Scan) (known other : KnownFiles) (files : List Watched) (told later : Told) → known ≡ other → IsToldBy scan.clean.now known scan.seen.now files told →
    later.changes.items ≡ told.changes.items ++ (if scan.whole then flat_map unseen_removal files else []) →
    later.created.items ≡ told.created.items → later.next ≡ told.next → HasTold scan other files later
scan_told scan known other files told later same is changes created next = subst (λ (k : KnownFiles). HasTold scan k files later) same (record {
  marks = is.marks;
  changes = changes ∙ ap (λ l. l ++ (if scan.whole then flat_map unseen_removal files else [])) is.changes
      ∙ ap (λ l. flat_map_with_earlier (member_changes scan.clean.now known) [] scan.seen.now ++ l) (removals_by scan.clean.now scan.whole scan.seen.now known.files files is.marks);
  created = created ∙ is.created;
  next = next ∙ is.next;
  none_refused = is.none_refused;
  few = let count = is.count in let few = is.few in omega (arith, count, few);
})

-- a part that was written, as long as it was
pub written : {X : Type 0} (old new : List X) (n : ℕ) → n ≡ length old → length new ≡ length old → take n (new ++ drop (length new) old) ≡ new
written old new n all long =
    ap (λ l. take n (new ++ l)) (drop_all (length new) old (omega (arith, long))) ∙ ap (take n) (append-nil new) ∙ take_all n new (omega (arith, all, long))

pub scan_added : (scan : Scan) (known : KnownFiles) (files added : List Watched) (told later : Told) → HasTold scan known files told → added ≡ files ++ told.created.items →
    later.changes.items ≡ told.changes.items → later.next ≡ told.next → HasAdded scan known added later
scan_added scan known files added told later is appended changes next = record {
  marks = appended ∙ ap (λ (l : List Watched). l ++ told.created.items) is.marks ∙ ap (λ (l : List Watched). map (watched_by scan.clean.now scan.seen.now) known.files ++ l) is.created;
  changes = changes ∙ is.changes;
  next = next ∙ is.next;
  none_refused = is.none_refused;
  few = is.few;
}

pub lengths_same : (watched others : List Watched) → files_of watched ≡ files_of others → length watched ≡ length others
lengths_same watched others same = sym (length-map watched file_of) ∙ ap (λ (l : List Known). length l) same ∙ length-map others file_of
