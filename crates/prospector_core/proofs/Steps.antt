-- What is told and made by the members so far, with one member more.
use Rattle.std.proofs.Common.{◌≡◌, ◌≢◌, inl, inr, ℕ, suc, ◌+◌, ◌<◌, ◌≤◌, Bool, true, false, cond, ◌&&◌, List, [], ◌∷◌, ◌++◌, length, map, drop, get_or, set, take, All, AllPairs, Option, Some, None, is_some, is_none, refl, sym, ap, ◌∙◌, subst, if◌then◌else◌, arith}
use Rattle.std.specs.BTreeMap.{is_at}
use Rattle.std.specs.BTreeSet.{contains}
use Rattle.std.specs.List.{list_any}
use Rattle.std.specs.Prelude.{nat_le, slice_get}
use Rattle.std.specs.Ordering.{is_eq}
use Rattle.std.specs.declared.cmp.Ordering.{Ordering}
use Rattle.std.proofs.lemmas.Bool.{cases_eq, cases_lt}
use Rattle.std.proofs.lemmas.List.{length-map, get_or_default, get_or-map, get_or-set_other, get_or-set_same, drop_more, length-set, length_push, map_push, same_lists, take-append-drop, take_more}
use Rattle.std.proofs.lemmas.List.Elements.{All-head, All-tail}
use Rattle.prospector_core.proofs.Along.{along-append, along-more, along-same, along-push}
use Rattle.prospector_core.proofs.Settling.{map_map}
use Rattle.prospector_core.proofs.Finding.{find_place, find-push_first, find-push_further, find-push_other, other_key, same_or_other}
use Rattle.prospector_core.specs.declared.change.Change.{Change}
use Rattle.prospector_core.specs.declared.change.Change.TheVariants.{Created, Doubled}
use Rattle.prospector_core.specs.declared.known.Known.{Known}
use Rattle.prospector_core.specs.declared.marks.Mark.TheVariants.{Held, Shown}
use Rattle.prospector_core.specs.declared.marks.Watched.{Watched}
use Rattle.prospector_core.specs.declared.seen.Seen.{Seen}
use Rattle.prospector_core.specs.declared.told.Told.{Told}
use Rattle.prospector_core.specs.Changes.{created_file, created_files, first_changes, known_changes, member_changes, new_members, new_one, slot_of, is_held}
use Rattle.prospector_core.specs.Earlier.{flat_map_with_earlier}
use Rattle.prospector_core.specs.KnownFiles.{KnownFiles, StandsBefore, file_key, first_with, known_with, member_key}
use Rattle.prospector_core.specs.Limits.{Refusal, full_at, member_refusal, refusal_of, refusals}
use Rattle.prospector_core.specs.Marks.{cleared, file_of, files_of, first_mark, mark_by, marked_changes, next_mark, other_path, watched_by}
use Rattle.prospector_core.specs.Told.{IsToldBy, ToldCreated, ToldDoubled, ToldMore, begun}
use Rattle.wire_base.specs.declared.limits.Full.{Full}
use Rattle.wire_base.specs.declared.limits.Full.TheVariants.{Files, Slots}
use Rattle.prospector_core.specs.declared.limits.TheConstants.{MAX_FILES, MAX_SLOTS}
use Rattle.std.proofs.lemmas.Bool.Decides.{nat_tests}
use Rattle.wire_base.specs.KeyOrder.{compare}
use Rattle.wire_base.proofs.ByteOrder.{compare_same}
use Rattle.wire_base.proofs.Keyed.{absent_everywhere}

pub map_same : {X Y : Type 0} (f g : X → Y) (xs : List X) → All (λ x. f x ≡ g x) xs → map f xs ≡ map g xs
map_same f g [] same = refl
map_same f g (x ∷ xs) same =
    let here = All-head (λ x. f x ≡ g x) x xs same in
    let later = map_same f g xs (All-tail (λ x. f x ≡ g x) x xs same) in
    λ k. here k ∷ later k

-- ---- by what the earlier members and the known files have of the member's key

abbrev new_by : Option Seen → Option Known → Seen → List Seen
new_by first known member = if is_none first && is_none known then member ∷ [] else []

abbrev changes_by : List Bool → ℕ → Option Seen → Option Known → Seen → List Change
changes_by clean next first known member = if is_some first then Doubled member.path ∷ [] else first_changes clean next member known

abbrev refusal_by : ℕ → ℕ → Option Seen → Option Known → Seen → List Refusal
refusal_by files slots first known member = if is_none first && is_none known then refusal_of member (full_at files slots) else []

abbrev created_by : KnownFiles → List Seen → ℕ
created_by known front = length (new_members known.files front)

module _ (known : KnownFiles) (front : List Seen) (member : Seen) where
  -- an earlier member has the key
  new_further : (earlier : Seen) → first_with member.key front ≡ Some earlier → new_one known.files front member ≡ []
  new_further earlier first = ap (λ (o : Option Seen). new_by o (known_with member.key known.files) member) first

  changes_further : (clean : List Bool) (earlier : Seen) → first_with member.key front ≡ Some earlier → Doubled member.path ∷ [] ≡ member_changes clean known front member
  changes_further clean earlier first =
      sym (ap (λ (o : Option Seen). changes_by clean (known.next + created_by known front) o (known_with member.key known.files) member) first)

  refusal_further : (earlier : Seen) → first_with member.key front ≡ Some earlier → member_refusal known front member ≡ []
  refusal_further earlier first =
      ap (λ (o : Option Seen). refusal_by (length known.files + known.others + created_by known front) (known.next + created_by known front) o (known_with member.key known.files) member) first

  -- none has, and a file is known
  new_known : (file : Known) → first_with member.key front ≡ None → known_with member.key known.files ≡ Some file → new_one known.files front member ≡ []
  new_known file first is =
      ap (λ (o : Option Seen). new_by o (known_with member.key known.files) member) first ∙ ap (λ (o : Option Known). new_by None o member) is

  changes_known : (clean : List Bool) (file : Known) → first_with member.key front ≡ None → known_with member.key known.files ≡ Some file →
      known_changes clean file member ≡ member_changes clean known front member
  changes_known clean file first is =
      sym (ap (λ (o : Option Seen). changes_by clean (known.next + created_by known front) o (known_with member.key known.files) member) first
      ∙ ap (λ (o : Option Known). changes_by clean (known.next + created_by known front) None o member) is)

  refusal_known : (file : Known) → first_with member.key front ≡ None → known_with member.key known.files ≡ Some file → member_refusal known front member ≡ []
  refusal_known file first is =
      ap (λ (o : Option Seen). refusal_by (length known.files + known.others + created_by known front) (known.next + created_by known front) o (known_with member.key known.files) member) first
      ∙ ap (λ (o : Option Known). refusal_by (length known.files + known.others + created_by known front) (known.next + created_by known front) None o member) is

  -- none has, and none is known
  new_strange : first_with member.key front ≡ None → known_with member.key known.files ≡ None → new_one known.files front member ≡ member ∷ []
  new_strange first is =
      ap (λ (o : Option Seen). new_by o (known_with member.key known.files) member) first ∙ ap (λ (o : Option Known). new_by None o member) is

  changes_strange : (clean : List Bool) → first_with member.key front ≡ None → known_with member.key known.files ≡ None →
      Created (slot_of (known.next + created_by known front)) member.input member.key member.path member.size ∷ [] ≡ member_changes clean known front member
  changes_strange clean first is =
      sym (ap (λ (o : Option Seen). changes_by clean (known.next + created_by known front) o (known_with member.key known.files) member) first
      ∙ ap (λ (o : Option Known). changes_by clean (known.next + created_by known front) None o member) is)

  refusal_strange : first_with member.key front ≡ None → known_with member.key known.files ≡ None →
      member_refusal known front member ≡ refusal_of member (full_at (length known.files + known.others + created_by known front) (known.next + created_by known front))
  refusal_strange first is =
      ap (λ (o : Option Seen). refusal_by (length known.files + known.others + created_by known front) (known.next + created_by known front) o (known_with member.key known.files) member) first
      ∙ ap (λ (o : Option Known). refusal_by (length known.files + known.others + created_by known front) (known.next + created_by known front) None o member) is

-- ---- the marks

abbrev watched_with : List Bool → Known → Option Seen → Watched
watched_with clean file first = record { file = file; mark = mark_by clean file first; gone = false }

watched_same : (clean : List Bool) (front : List Seen) (member : Seen) (file : Known) → first_with file.key (front ++ member ∷ []) ≡ first_with file.key front →
    watched_by clean front file ≡ watched_by clean (front ++ member ∷ []) file
watched_same clean front member file same = ap (watched_with clean file) (sym same)

marks_same : (clean : List Bool) (front : List Seen) (member : Seen) (files : List Known) →
    All (λ file. first_with file.key (front ++ member ∷ []) ≡ first_with file.key front) files →
    map (watched_by clean front) files ≡ map (watched_by clean (front ++ member ∷ [])) files
marks_same clean front member files same =
    map_same (watched_by clean front) (watched_by clean (front ++ member ∷ [])) files (λ k d inside. watched_same clean front member (get_or files k d) (same k d inside))

marks_set : (clean : List Bool) (front : List Seen) (member : Seen) (files : List Known) (place : ℕ) (one : Watched) → place < length files →
    ((k : ℕ) (d : Known) → k < length files → k ≢ place → first_with (get_or files k d).key (front ++ member ∷ []) ≡ first_with (get_or files k d).key front) →
    ((d : Known) → one ≡ watched_by clean (front ++ member ∷ []) (get_or files place d)) →
    set (map (watched_by clean front) files) place one ≡ map (watched_by clean (front ++ member ∷ [])) files
marks_set clean front member files place one inside others here =
    same_lists (set (map (watched_by clean front) files) place one) (map (watched_by clean (front ++ member ∷ [])) files)
    (length-set (map (watched_by clean front) files) place one ∙ length-map files (watched_by clean front) ∙ sym (length-map files (watched_by clean (front ++ member ∷ []))))
    (λ k d within. at k d (omega (arith, within, length-set (map (watched_by clean front) files) place one, length-map files (watched_by clean front))))
  where
    at_place : (d : Watched) → get_or (set (map (watched_by clean front) files) place one) place d ≡ get_or (map (watched_by clean (front ++ member ∷ [])) files) place d
    at_place d =
        get_or-set_same (map (watched_by clean front) files) place one d (omega (arith, inside, length-map files (watched_by clean front)))
        ∙ here d.file ∙ sym (get_or-map (watched_by clean (front ++ member ∷ [])) files place d.file d inside)

    elsewhere : (k : ℕ) (d : Watched) → k < length files → k ≢ place →
        get_or (set (map (watched_by clean front) files) place one) k d ≡ get_or (map (watched_by clean (front ++ member ∷ [])) files) k d
    elsewhere k d within other =
        get_or-set_other (map (watched_by clean front) files) place k one d other
        ∙ get_or-map (watched_by clean front) files k d.file d within
        ∙ watched_same clean front member (get_or files k d.file) (others k d.file within other)
        ∙ sym (get_or-map (watched_by clean (front ++ member ∷ [])) files k d.file d within)

    at : (k : ℕ) (d : Watched) → k < length files →
        get_or (set (map (watched_by clean front) files) place one) k d ≡ get_or (map (watched_by clean (front ++ member ∷ [])) files) k d
    at k d within = elim (cases_eq k place) [
      | inl same ↦ subst (λ (n : ℕ). get_or (set (map (watched_by clean front) files) place one) n d ≡ get_or (map (watched_by clean (front ++ member ∷ [])) files) n d) (sym same) (at_place d)
      | inr other ↦ elsewhere k d within other
    ]

watched_is : (clean : List Bool) (file : Known) (first : Option Seen) (one : Watched) → one.file ≡ file → one.mark ≡ mark_by clean file first → one.gone ≡ false → one ≡ watched_with clean file first
watched_is clean file first one kept marked stays = λ k. record { file = kept k; mark = marked k; gone = stays k }

-- ---- what was told and made

-- a member of which no file begins
without_new : (clean : List Bool) (known : KnownFiles) (front : List Seen) (member : Seen) (files others : List Watched) (told later : Told) (more : List Change) →
    IsToldBy clean known front files told → new_one known.files front member ≡ [] → member_refusal known front member ≡ [] →
    more ≡ member_changes clean known front member → ToldMore told more later →
    others ≡ map (watched_by clean (front ++ member ∷ [])) known.files →
    ((key : List ℕ) → known_with key known.files ≡ None → first_with key (front ++ member ∷ []) ≡ first_with key front) →
    IsToldBy clean known (front ++ member ∷ []) others later
without_new clean known front member files others told later more is none_new none_refused changed more_told marked first_same =
    let same : new_members known.files (front ++ member ∷ []) ≡ new_members known.files front = along-same (new_one known.files) front member none_new in
    record {
      marks = marked;
      changes = more_told.changes ∙ along-more (member_changes clean known) front member told.changes.items more is.changes changed;
      created = more_told.created ∙ is.created ∙ ap (λ (l : List Seen). map begun (created_files known.next l)) (sym same);
      keys = λ key none. more_told.keys key ∙ is.keys key none ∙ ap (λ (o : Option Seen). is_some o) (sym (first_same key none));
      next = more_told.next ∙ is.next ∙ ap (λ (l : List Seen). known.next + length l) (sym same);
      count = more_told.count ∙ is.count ∙ ap (λ (l : List Seen). length known.files + known.others + length l) (sym same);
      none_refused = along-same (member_refusal known) front member none_refused ∙ is.none_refused;
      few = let before = is.few in let same = more_told.count in omega (arith, before, same);
    }

-- an earlier member has the key
pub further : (clean : List Bool) (known : KnownFiles) (front : List Seen) (member earlier : Seen) (files : List Watched) (told later : Told) →
    IsToldBy clean known front files told → first_with member.key front ≡ Some earlier → ToldMore told (Doubled member.path ∷ []) later →
    IsToldBy clean known (front ++ member ∷ []) files later
further clean known front member earlier files told later is first more_told =
    without_new clean known front member files files told later (Doubled member.path ∷ []) is
    (new_further known front member earlier first) (refusal_further known front member earlier first) (changes_further known front member clean earlier first) more_told
    (is.marks ∙ marks_same clean front member known.files (λ k d inside. find-push_further member_key (get_or known.files k d).key front member earlier first))
    (λ key none. find-push_further member_key key front member earlier first)

-- ---- a known file's key

marked_keeps : (clean : List Bool) (file : Known) (member earlier : Seen) → next_mark clean file member (first_mark clean file earlier) ≡ first_mark clean file earlier
marked_keeps clean file member earlier = by_case (is_held clean file)
  where
    by_case : (b : Bool) → next_mark clean file member (if b then Held else Shown earlier.size (other_path file earlier)) ≡ (if b then Held else Shown earlier.size (other_path file earlier))
    by_case true = refl
    by_case false = refl

marked_doubles : (clean : List Bool) (file : Known) (member earlier : Seen) → marked_changes clean file member (first_mark clean file earlier) ≡ Doubled member.path ∷ []
marked_doubles clean file member earlier = by_case (is_held clean file)
  where
    by_case : (b : Bool) → marked_changes clean file member (if b then Held else Shown earlier.size (other_path file earlier)) ≡ Doubled member.path ∷ []
    by_case true = refl
    by_case false = refl

-- the watched file at the place, after the member was looked at
pub record TellsOf (clean : List Bool) (file : Known) (first : Option Seen) (member : Seen) (one : Watched) (more : List Change) : Type 0 where
  pub file_kept : one.file ≡ file
  pub stays : one.gone ≡ false
  pub marked : one.mark ≡ next_mark clean file member (mark_by clean file first)
  pub told : more ≡ marked_changes clean file member (mark_by clean file first)

module _ (clean : List Bool) (known : KnownFiles) (front : List Seen) (member : Seen) (apart : AllPairs StandsBefore known.files) (place : ℕ) (inside : place < length known.files) where
  others_kept : (e : Known) → (get_or known.files place e).key ≡ member.key → (k : ℕ) (d : Known) → k < length known.files → k ≢ place →
      first_with (get_or known.files k d).key (front ++ member ∷ []) ≡ first_with (get_or known.files k d).key front
  others_kept e here k d within other = find-push_other member_key (get_or known.files k d).key front member (λ same. differs (sym same ∙ sym here))
    where
      at : get_or known.files place e ≡ get_or known.files place d
      at = get_or_default known.files place e d inside

      differs : (get_or known.files k d).key ≢ (get_or known.files place e).key
      differs same = elim (cases_lt k place) [
        | inl before ↦ (apart k place d before inside).key (same ∙ ap file_key at)
        | inr behind ↦ (apart place k d (omega (arith, behind, other)) within).key (sym (same ∙ ap file_key at))
      ]

  known_here : (e : Known) → (get_or known.files place e).key ≡ member.key → known_with member.key known.files ≡ Some (get_or known.files place e)
  known_here e here =
      subst (λ (key : List ℕ). known_with key known.files ≡ Some (get_or known.files place e)) here
      (find_place file_key known.files place e (λ i j d before within. (apart i j d before within).key) inside)

  pub of_known : (file : Known) (files : List Watched) (told later : Told) (one : Watched) (more : List Change) →
      IsToldBy clean known front files told → file ≡ get_or known.files place file → file.key ≡ member.key →
      TellsOf clean file (first_with file.key front) member one more → ToldMore told more later →
      IsToldBy clean known (front ++ member ∷ []) (set files place one) later
  of_known file files told later one more is at key tells more_told = by_first (first_with member.key front) refl
    where
      here : (get_or known.files place file).key ≡ member.key
      here = ap file_key (sym at) ∙ key

      set_is : (first : Option Seen) → first_with file.key (front ++ member ∷ []) ≡ first → one.mark ≡ mark_by clean file first →
          set files place one ≡ map (watched_by clean (front ++ member ∷ [])) known.files
      set_is first is_first mark =
          ap (λ (l : List Watched). set l place one) is.marks
          ∙ marks_set clean front member known.files place one inside (others_kept file here)
          (λ d. watched_is clean file first one tells.file_kept mark tells.stays ∙ ap (watched_with clean file) (sym is_first)
          ∙ ap (watched_by clean (front ++ member ∷ [])) (at ∙ get_or_default known.files place file d inside))

      first_here : (first : Option Seen) → first_with member.key front ≡ first → first_with file.key front ≡ first
      first_here first e = subst (λ (k : List ℕ). first_with k front ≡ first) (sym key) e

      not_here : (other : List ℕ) → known_with other known.files ≡ None → member.key ≢ other
      not_here other none same =
          let q : None ≡ Some (get_or known.files place file) = sym none ∙ subst (λ (k : List ℕ). known_with k known.files ≡ Some (get_or known.files place file)) same (known_here file here) in
          cc

      by_first : (first : Option Seen) → first_with member.key front ≡ first → IsToldBy clean known (front ++ member ∷ []) (set files place one) later
      by_first None e =
          without_new clean known front member files (set files place one) told later more is
          (new_known known front member (get_or known.files place file) e (known_here file here))
          (refusal_known known front member (get_or known.files place file) e (known_here file here))
          (tells.told ∙ ap (λ (o : Option Seen). marked_changes clean file member (mark_by clean file o)) (first_here None e)
          ∙ ap (λ (f : Known). known_changes clean f member) at ∙ changes_known known front member clean (get_or known.files place file) e (known_here file here))
          more_told
          (set_is (Some member) (subst (λ (k : List ℕ). first_with k (front ++ member ∷ []) ≡ Some member) (sym key) (find-push_first member_key front member e))
          (tells.marked ∙ ap (λ (o : Option Seen). next_mark clean file member (mark_by clean file o)) (first_here None e)))
          (λ other none. find-push_other member_key other front member (λ same. not_here other none same))
      by_first (Some earlier) e =
          without_new clean known front member files (set files place one) told later more is
          (new_further known front member earlier e) (refusal_further known front member earlier e)
          (tells.told ∙ ap (λ (o : Option Seen). marked_changes clean file member (mark_by clean file o)) (first_here (Some earlier) e)
          ∙ marked_doubles clean file member earlier ∙ changes_further known front member clean earlier e)
          more_told
          (set_is (Some earlier) (find-push_further member_key file.key front member earlier e ∙ first_here (Some earlier) e)
          (tells.marked ∙ ap (λ (o : Option Seen). next_mark clean file member (mark_by clean file o)) (first_here (Some earlier) e) ∙ marked_keeps clean file member earlier))
          (λ other none. find-push_further member_key other front member earlier e)

-- ---- a key of which no file is known

created_files-push : (next : ℕ) (members : List Seen) (member : Seen) →
    created_files next (members ++ member ∷ []) ≡ created_files next members ++ created_file (next + length members) member ∷ []
created_files-push next [] member = ap (λ (n : ℕ). created_file n member ∷ []) (let q : next ≡ next + 0 = omega arith in q)
created_files-push next (one ∷ members) member =
    let ih = created_files-push (next + 1) members member in
    let same : next + 1 + length members ≡ next + suc (length members) = omega arith in
    ap (λ (l : List Known). created_file next one ∷ l) (ih ∙ ap (λ (n : ℕ). created_files (next + 1) members ++ created_file n member ∷ []) same)

lacks : (known : KnownFiles) (key : List ℕ) → known_with key known.files ≡ None → All (λ file. file.key ≢ key) known.files
lacks known key none = absent_everywhere file_key key known.files none

some_of : {X : Type 0} (o : Option X) → is_some o ≡ true → (x : X) × (o ≡ Some x)
some_of None q = absurd (let r : false ≡ true = q in cc)
some_of (Some x) q = (x, refl)

none_of : {X : Type 0} (o : Option X) → is_some o ≡ false → o ≡ None
none_of None q = refl
none_of (Some x) q = absurd (let r : true ≡ false = q in cc)

pub strange_doubled : (clean : List Bool) (known : KnownFiles) (front : List Seen) (member : Seen) (files : List Watched) (told later : Told) →
    IsToldBy clean known front files told → known_with member.key known.files ≡ None → contains compare told.keys member.key ≡ true → ToldDoubled told member later →
    IsToldBy clean known (front ++ member ∷ []) files later
strange_doubled clean known front member files told later is none had doubled =
    let first = some_of (first_with member.key front) (sym (is.keys member.key none) ∙ had) in
    further clean known front member first.0 files told later is first.1
    (record { changes = doubled.changes; created = doubled.created; keys = doubled.keys; next = doubled.next; count = doubled.count })

key_added : (front : List Seen) (member : Seen) (key : List ℕ) (had : Bool) → first_with member.key front ≡ None → had ≡ is_some (first_with key front) →
    cond (is_at (compare member.key) key) true had ≡ is_some (first_with key (front ++ member ∷ []))
key_added front member key had first is =
    same_or_other (cond (is_at (compare member.key) key) true had ≡ is_some (first_with key (front ++ member ∷ []))) member.key key
    (λ same. ap (λ (o : Ordering). cond (is_eq o) true had) (compare_same member.key key same)
    ∙ sym (ap (λ (o : Option Seen). is_some o) (subst (λ (k : List ℕ). first_with k (front ++ member ∷ []) ≡ Some member) same (find-push_first member_key front member first))))
    (λ differs. ap (λ (b : Bool). cond b true had) (other_key member.key key (λ same. differs (sym same)))
    ∙ is ∙ ap (λ (o : Option Seen). is_some o) (sym (find-push_other member_key key front member differs)))

room_for : (files slots : ℕ) → full_at files slots ≡ None → files < MAX_FILES
room_for files slots none = by_case (nat_le MAX_FILES files) refl none
  where
    by_case : (b : Bool) → nat_le MAX_FILES files ≡ b → (if b then Some Files else (if nat_le MAX_SLOTS slots then Some Slots else None)) ≡ None → files < MAX_FILES
    by_case true e is = absurd (let q : Some Files ≡ None = is in cc)
    by_case false e is = grind (arith, nat_tests)

pub strange_created : (clean : List Bool) (known : KnownFiles) (front : List Seen) (member : Seen) (files : List Watched) (told later : Told) →
    IsToldBy clean known front files told → known_with member.key known.files ≡ None → contains compare told.keys member.key ≡ false → ToldCreated told member later →
    IsToldBy clean known (front ++ member ∷ []) files later
strange_created clean known front member files told later is none lacking created =
    let first = none_of (first_with member.key front) (sym (is.keys member.key none) ∙ lacking) in
    let one_more : new_members known.files (front ++ member ∷ []) ≡ new_members known.files front ++ member ∷ [] =
    along-push (new_one known.files) front member ∙ ap (λ (l : List Seen). new_members known.files front ++ l) (new_strange known front member first none) in
    let longer : length (new_members known.files (front ++ member ∷ [])) ≡ length (new_members known.files front) + 1 =
    ap (λ (l : List Seen). length l) one_more ∙ length_push (new_members known.files front) member in
    record {
      marks = is.marks ∙ marks_same clean front member known.files
          (λ k d inside. find-push_other member_key (get_or known.files k d).key front member (λ same. lacks known member.key none k d inside (sym same)));
      changes = created.changes ∙ along-more (member_changes clean known) front member told.changes.items
          (Created (slot_of told.next) member.input member.key member.path member.size ∷ []) is.changes
          (ap (λ (n : ℕ). Created (slot_of n) member.input member.key member.path member.size ∷ []) is.next ∙ changes_strange known front member clean first none);
      created = created.created
          ∙ ap (λ (l : List Watched). l ++ begun (created_file told.next member) ∷ []) is.created
          ∙ ap (λ (n : ℕ). map begun (created_files known.next (new_members known.files front)) ++ begun (created_file n member) ∷ []) is.next
          ∙ sym (map_push begun (created_files known.next (new_members known.files front)) (created_file (known.next + created_by known front) member))
          ∙ ap (map begun) (sym (created_files-push known.next (new_members known.files front) member))
          ∙ ap (λ (l : List Seen). map begun (created_files known.next l)) (sym one_more);
      keys = λ key unknown. created.keys key ∙ key_added front member key (contains compare told.keys key) first (is.keys key unknown);
      next = let before = is.next in let now = created.next in omega (arith, before, now, longer);
      count = let before = is.count in let now = created.count in omega (arith, before, now, longer);
      none_refused = along-same (member_refusal known) front member
          (refusal_strange known front member first none
          ∙ ap (λ (o : Option Full). refusal_of member o) (ap (λ (n : ℕ). full_at n (known.next + created_by known front)) (sym is.count) ∙ ap (full_at told.files) (sym is.next) ∙ created.room))
          ∙ is.none_refused;
      few = let now = created.count in let room = room_for told.files told.next created.room in omega (arith, now, room);
    }

-- ---- among all members

pub next_member : (seen : List Seen) (i : ℕ) (member : Seen) → i < length seen → member ≡ get_or seen i member → take i seen ++ member ∷ [] ≡ take (i + 1) seen
next_member seen i member inside at = ap (λ (m : Seen). take i seen ++ m ∷ []) at ∙ sym (take_more seen i member inside)

members_split : (seen : List Seen) (i : ℕ) (member : Seen) → i < length seen → member ≡ get_or seen i member → seen ≡ take i seen ++ member ∷ drop (i + 1) seen
members_split seen i member inside at =
    sym (take-append-drop i seen) ∙ ap (λ (l : List Seen). take i seen ++ l) (drop_more seen i member inside ∙ ap (λ (m : Seen). m ∷ drop (i + 1) seen) (sym at))

-- the first of which a file would be too many
pub strange_refused : (clean : List Bool) (known : KnownFiles) (seen : List Seen) (i : ℕ) (member : Seen) (files : List Watched) (told : Told) (what : Full) →
    i < length seen → member ≡ get_or seen i member → IsToldBy clean known (take i seen) files told → known_with member.key known.files ≡ None →
    contains compare told.keys member.key ≡ false → full_at told.files told.next ≡ Some what →
    slice_get (refusals known seen) 0 ≡ Some (record { what = what; path = member.path })
strange_refused clean known seen i member files told what inside at is none lacking full =
    let front = take i seen in
    let rest = drop (i + 1) seen in
    let first = none_of (first_with member.key front) (sym (is.keys member.key none) ∙ lacking) in
    let found : member_refusal known front member ≡ record { what = what; path = member.path } ∷ [] =
    refusal_strange known front member first none
    ∙ ap (λ (o : Option Full). refusal_of member o) (ap (λ (n : ℕ). full_at n (known.next + created_by known front)) (sym is.count) ∙ ap (full_at told.files) (sym is.next) ∙ full) in
    ap (λ (l : List Seen). slice_get (refusals known l) 0) (members_split seen i member inside at)
    ∙ ap (λ (l : List Refusal). slice_get l 0)
    (along-append (member_refusal known) [] front (member ∷ rest)
    ∙ ap (λ (l : List Refusal). l ++ (member_refusal known front member ++ flat_map_with_earlier (member_refusal known) (front ++ member ∷ []) rest)) is.none_refused
    ∙ ap (λ (l : List Refusal). l ++ flat_map_with_earlier (member_refusal known) (front ++ member ∷ []) rest) found)

-- ---- before the first member

pub none_told : (clean : List Bool) (known : KnownFiles) (before files : List Watched) (told : Told) → files ≡ map cleared before → files_of before ≡ known.files →
    told.changes.items ≡ [] → told.created.items ≡ [] → told.keys.keys ≡ [] → told.next ≡ known.next → told.files ≡ length known.files + known.others → told.files ≤ MAX_FILES →
    IsToldBy clean known [] files told
none_told clean known before files told unmarked same changes created keys next count few = record {
  marks = unmarked ∙ sym (map_map (watched_by clean []) file_of before) ∙ ap (map (watched_by clean [])) same;
  changes = changes;
  created = created;
  keys = λ key none. ap (λ (l : List (List ℕ)). list_any (is_at (compare key)) l) keys;
  next = next ∙ (let q : known.next ≡ known.next + 0 = omega arith in q);
  count = count ∙ (let q : length known.files + known.others ≡ length known.files + known.others + 0 = omega arith in q);
  none_refused = refl;
  few = few;
}
