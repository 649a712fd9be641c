-- The known files stay apart: their slots rise and their keys differ, after a scan and where one is forgotten.
use Rattle.std.proofs.Common.{◌≡◌, ◌≢◌, ℕ, suc, ◌+◌, ◌<◌, ◌≤◌, Bool, true, false, List, [], ◌∷◌, ◌++◌, length, map, get_or, All, AllPairs, Option, Some, None, is_none, ◌&&◌, not, refl, sym, ap, ◌∙◌, subst, if◌then◌else◌, arith, length-append, filter}
use Rattle.std.proofs.lemmas.List.{get_or-map, length-map}
use Rattle.std.proofs.lemmas.List.Filters.{length-filter_both}
use Rattle.std.proofs.lemmas.List.Elements.{All-append, All-cons, All-filter, All-head, All-map, All-nil, All-tail, All-weaker}
use Rattle.std.proofs.lemmas.List.Kept.{AllPairs-cons, AllPairs-filter}
use Rattle.prospector_core.proofs.Finding.{find-append_found, find-append_none, find_same}
use Rattle.prospector_core.specs.declared.known.Known.{Known}
use Rattle.prospector_core.specs.declared.limits.TheConstants.{MAX_FILES}
use Rattle.prospector_core.specs.declared.seen.Seen.{Seen}
use Rattle.prospector_core.specs.Changes.{created_file, created_files, file_after, file_shown, is_held, known_after, new_members, new_one}
use Rattle.prospector_core.specs.Earlier.{flat_map_with_earlier}
use Rattle.prospector_core.specs.KnownFiles.{AreBegun, AreKnown, KnownFiles, StandsBefore, file_key, first_with, known_of, known_with, member_key}
use Rattle.wire_base.specs.declared.note.Begin.{Begin}
use Rattle.wire_base.specs.declared.numbers.Slot.{Slot}
use Rattle.wire_base.proofs.Keyed.{absent_everywhere}

-- ---- pairs

pairs_head : {X : Type 0} (R : X → X → Type 0) (x : X) (xs : List X) → AllPairs R (x ∷ xs) → All (R x) xs
pairs_head R x xs pairs = λ k d inside. pairs 0 (suc k) d (omega arith) (omega (arith, inside))

pairs_tail : {X : Type 0} (R : X → X → Type 0) (x : X) (xs : List X) → AllPairs R (x ∷ xs) → AllPairs R xs
pairs_tail R x xs pairs = λ i j d before inside. pairs (suc i) (suc j) d (omega (arith, before)) (omega (arith, inside))

pairs_none : {X : Type 0} (R : X → X → Type 0) → AllPairs R []
pairs_none R = λ i j d before inside. absurd (omega (arith, inside))

pairs_append : {X : Type 0} (R : X → X → Type 0) (xs ys : List X) → AllPairs R xs → AllPairs R ys → All (λ x. All (R x) ys) xs → AllPairs R (xs ++ ys)
pairs_append R [] ys one two cross = two
pairs_append R (x ∷ xs) ys one two cross =
    AllPairs-cons R x (xs ++ ys)
    (All-append (R x) xs ys (pairs_head R x xs one) (All-head (λ z. All (R z) ys) x xs cross))
    (pairs_append R xs ys (pairs_tail R x xs one) two (All-tail (λ z. All (R z) ys) x xs cross))

-- ---- the members of which files begin

-- no earlier member and no known file has the key
record IsFresh (files : List Known) (earlier : List Seen) (member : Seen) : Type 0 where
  first : first_with member.key earlier ≡ None
  none : known_with member.key files ≡ None

fresh_of : (files : List Known) (earlier : List Seen) (member : Seen) → All (IsFresh files earlier) (new_one files earlier member)
fresh_of files earlier member = by_case (first_with member.key earlier) (known_with member.key files) refl refl
  where
    by_case : (first : Option Seen) (known : Option Known) → first_with member.key earlier ≡ first → known_with member.key files ≡ known →
        All (IsFresh files earlier) (if is_none first && is_none known then member ∷ [] else [])
    by_case None None e f = All-cons (IsFresh files earlier) member [] (record { first = e; none = f }) (All-nil (IsFresh files earlier))
    by_case None (Some file) e f = All-nil (IsFresh files earlier)
    by_case (Some one) known e f = All-nil (IsFresh files earlier)

none_earlier : (earlier more : List Seen) (key : List ℕ) → first_with key (earlier ++ more) ≡ None → first_with key earlier ≡ None
none_earlier earlier more key none = by_case (first_with key earlier) refl
  where
    by_case : (o : Option Seen) → first_with key earlier ≡ o → first_with key earlier ≡ None
    by_case None e = e
    by_case (Some one) e = absurd (let q : Some one ≡ None = sym (find-append_found member_key key earlier more one e) ∙ none in cc)

new_are_fresh : (files : List Known) (earlier members : List Seen) → All (IsFresh files earlier) (flat_map_with_earlier (new_one files) earlier members)
new_are_fresh files earlier [] = All-nil (IsFresh files earlier)
new_are_fresh files earlier (member ∷ members) =
    All-append (IsFresh files earlier) (new_one files earlier member) (flat_map_with_earlier (new_one files) (earlier ++ member ∷ []) members)
    (fresh_of files earlier member)
    (All-weaker (IsFresh files (earlier ++ member ∷ [])) (IsFresh files earlier)
    (λ one fresh. record { first = none_earlier earlier (member ∷ []) one.key fresh.first; none = fresh.none })
    (flat_map_with_earlier (new_one files) (earlier ++ member ∷ []) members) (new_are_fresh files (earlier ++ member ∷ []) members))

abbrev OtherKey : Seen → Seen → Type 0
OtherKey member later = member.key ≢ later.key

-- what no earlier member has is another key than that of the last of them
other_than_last : (earlier : List Seen) (member one : Seen) → first_with one.key (earlier ++ member ∷ []) ≡ None → member.key ≢ one.key
other_than_last earlier member one none same =
    let before = none_earlier earlier (member ∷ []) one.key none in
    let found : first_with one.key (earlier ++ member ∷ []) ≡ Some member =
    find-append_none member_key one.key earlier (member ∷ []) before ∙ subst (λ (k : List ℕ). first_with k (member ∷ []) ≡ Some member) same (find_same member_key member []) in
    let q : None ≡ Some member = sym none ∙ found in cc

one_before : (files : List Known) (earlier : List Seen) (member : Seen) (later : List Seen) → All (OtherKey member) later → All (λ one. All (OtherKey one) later) (new_one files earlier member)
one_before files earlier member later others = by_case (is_none (first_with member.key earlier) && is_none (known_with member.key files))
  where
    by_case : (b : Bool) → All (λ one. All (OtherKey one) later) (if b then member ∷ [] else [])
    by_case true = All-cons (λ one. All (OtherKey one) later) member [] others (All-nil (λ one. All (OtherKey one) later))
    by_case false = All-nil (λ one. All (OtherKey one) later)

one_apart : (files : List Known) (earlier : List Seen) (member : Seen) → AllPairs OtherKey (new_one files earlier member)
one_apart files earlier member = by_case (is_none (first_with member.key earlier) && is_none (known_with member.key files))
  where
    by_case : (b : Bool) → AllPairs OtherKey (if b then member ∷ [] else [])
    by_case true = AllPairs-cons OtherKey member [] (All-nil (OtherKey member)) (pairs_none OtherKey)
    by_case false = pairs_none OtherKey

new_are_apart : (files : List Known) (earlier members : List Seen) → AllPairs OtherKey (flat_map_with_earlier (new_one files) earlier members)
new_are_apart files earlier [] = pairs_none OtherKey
new_are_apart files earlier (member ∷ members) =
    let later = flat_map_with_earlier (new_one files) (earlier ++ member ∷ []) members in
    pairs_append OtherKey (new_one files earlier member) later (one_apart files earlier member) (new_are_apart files (earlier ++ member ∷ []) members)
    (one_before files earlier member later
    (All-weaker (IsFresh files (earlier ++ member ∷ [])) (OtherKey member) (λ one fresh. other_than_last earlier member one fresh.first) later
    (new_are_fresh files (earlier ++ member ∷ []) members)))

-- ---- the files of these

slots_from : (next : ℕ) (members : List Seen) → All (λ file. next ≤ file.slot.0) (created_files next members)
slots_from next [] = All-nil (λ file. next ≤ file.slot.0)
slots_from next (member ∷ members) =
    All-cons (λ file. next ≤ file.slot.0) (created_file next member) (created_files (next + 1) members) (omega arith)
    (All-weaker (λ file. next + 1 ≤ file.slot.0) (λ file. next ≤ file.slot.0) (λ file above. omega (arith, above)) (created_files (next + 1) members) (slots_from (next + 1) members))

slots_below : (next : ℕ) (members : List Seen) → All (λ file. file.slot.0 < next + length members) (created_files next members)
slots_below next [] = All-nil (λ file. file.slot.0 < next + 0)
slots_below next (member ∷ members) =
    All-cons (λ file. file.slot.0 < next + suc (length members)) (created_file next member) (created_files (next + 1) members) (omega arith)
    (All-weaker (λ file. file.slot.0 < next + 1 + length members) (λ file. file.slot.0 < next + suc (length members)) (λ file below. omega (arith, below))
    (created_files (next + 1) members) (slots_below (next + 1) members))

keys_hold : (P : List ℕ → Type 0) (next : ℕ) (members : List Seen) → All (λ member. P member.key) members → All (λ file. P file.key) (created_files next members)
keys_hold P next [] all = All-nil (λ file. P file.key)
keys_hold P next (member ∷ members) all =
    All-cons (λ file. P file.key) (created_file next member) (created_files (next + 1) members) (All-head (λ one. P one.key) member members all)
    (keys_hold P (next + 1) members (All-tail (λ one. P one.key) member members all))

both : {X : Type 0} (P Q : X → Type 0) (R : X → Type 0) → ((x : X) → P x → Q x → R x) → (xs : List X) → All P xs → All Q xs → All R xs
both P Q R join xs one two = λ k d inside. join (get_or xs k d) (one k d inside) (two k d inside)

created_apart : (next : ℕ) (members : List Seen) → AllPairs OtherKey members → AllPairs StandsBefore (created_files next members)
created_apart next [] apart = pairs_none StandsBefore
created_apart next (member ∷ members) apart =
    AllPairs-cons StandsBefore (created_file next member) (created_files (next + 1) members)
    (both (λ file. next + 1 ≤ file.slot.0) (λ file. member.key ≢ file.key) (StandsBefore (created_file next member)) (λ file above other. record { slot = omega (arith, above); key = other })
    (created_files (next + 1) members) (slots_from (next + 1) members)
    (keys_hold (λ key. member.key ≢ key) (next + 1) members (pairs_head OtherKey member members apart)))
    (created_apart (next + 1) members (pairs_tail OtherKey member members apart))

length-created : (next : ℕ) (members : List Seen) → length (created_files next members) ≡ length members
length-created next [] = refl
length-created next (member ∷ members) = ap suc (length-created (next + 1) members)

-- ---- after a scan

-- a file keeps its slot and its key
record KeepsNames (file later : Known) : Type 0 where
  slot : later.slot ≡ file.slot
  key : later.key ≡ file.key

keeps_names : (clean : List Bool) (whole : Bool) (file : Known) (first : Option Seen) → KeepsNames file (file_shown clean whole file first)
keeps_names clean whole file None = by_case whole
  where
    by_case : (b : Bool) → KeepsNames file (if b then record file { present = false } else file)
    by_case true = record { slot = refl; key = refl }
    by_case false = record { slot = refl; key = refl }
keeps_names clean whole file (Some member) = by_case (is_held clean file)
  where
    by_case : (b : Bool) → KeepsNames file (if b then file else record file { path = member.path; size = member.size; present = true })
    by_case true = record { slot = refl; key = refl }
    by_case false = record { slot = refl; key = refl }

pub file-key : (clean : List Bool) (whole : Bool) (seen : List Seen) (file : Known) → file_key (file_after clean whole seen file) ≡ file_key file
file-key clean whole seen file = (keeps_names clean whole file (first_with file.key seen)).key

stands_so : (f g f' g' : Known) → KeepsNames f f' → KeepsNames g g' → StandsBefore f g → StandsBefore f' g'
stands_so f g f' g' one two before = record {
  slot = let first = ap (λ (s : Slot). s.0) one.slot in let second = ap (λ (s : Slot). s.0) two.slot in let lower = before.slot in omega (arith, first, second, lower);
  key = λ same. before.key (sym one.key ∙ same ∙ two.key);
}

after_apart : (clean : List Bool) (whole : Bool) (seen : List Seen) (files : List Known) → AllPairs StandsBefore files → AllPairs StandsBefore (map (file_after clean whole seen) files)
after_apart clean whole seen files apart = λ i j d before inside.
    let within : j < length files = omega (arith, inside, length-map files (file_after clean whole seen)) in
    let first = get_or-map (file_after clean whole seen) files i d d (omega (arith, before, within)) in
    let second = get_or-map (file_after clean whole seen) files j d d within in
    subst (λ (f : Known). StandsBefore f (get_or (map (file_after clean whole seen) files) j d)) (sym first)
    (subst (λ (g : Known). StandsBefore (file_after clean whole seen (get_or files i d)) g) (sym second)
    (stands_so (get_or files i d) (get_or files j d) (file_after clean whole seen (get_or files i d)) (file_after clean whole seen (get_or files j d))
    (keeps_names clean whole (get_or files i d) (first_with (get_or files i d).key seen)) (keeps_names clean whole (get_or files j d) (first_with (get_or files j d).key seen))
    (apart i j d before within)))

after_below : (clean : List Bool) (whole : Bool) (seen : List Seen) (next : ℕ) (files : List Known) → All (λ file. file.slot.0 < next) files → All (λ file. file.slot.0 < next) (map (file_after clean whole seen) files)
after_below clean whole seen next files below =
    All-map (λ file. file.slot.0 < next) (file_after clean whole seen) files
    (All-weaker (λ file. file.slot.0 < next) (λ file. (file_after clean whole seen file).slot.0 < next)
    (λ file lower. let same = ap (λ (s : Slot). s.0) (keeps_names clean whole file (first_with file.key seen)).slot in omega (arith, same, lower)) files below)

before_created : (clean : List Bool) (whole : Bool) (known : KnownFiles) (seen : List Seen) → AreKnown known → (k : ℕ) (d : Known) → k < length known.files →
    All (StandsBefore (file_after clean whole seen (get_or known.files k d))) (created_files known.next (new_members known.files seen))
before_created clean whole known seen are k d inside =
    both (λ later. known.next ≤ later.slot.0) (λ later. (get_or known.files k d).key ≢ later.key) (StandsBefore (file_after clean whole seen (get_or known.files k d)))
    (λ later above other. record {
      slot = let same = ap (λ (s : Slot). s.0) names.slot in let lower = are.slots k d inside in omega (arith, same, lower, above);
      key = λ same. other (sym names.key ∙ same);
    })
    (created_files known.next (new_members known.files seen)) (slots_from known.next (new_members known.files seen))
    (keys_hold (λ key. (get_or known.files k d).key ≢ key) known.next (new_members known.files seen)
    (All-weaker (IsFresh known.files []) (λ member. (get_or known.files k d).key ≢ member.key)
    (λ member fresh. absent_everywhere file_key member.key known.files fresh.none k d inside) (new_members known.files seen) (new_are_fresh known.files [] seen)))
  where
    names : KeepsNames (get_or known.files k d) (file_after clean whole seen (get_or known.files k d))
    names = keeps_names clean whole (get_or known.files k d) (first_with (get_or known.files k d).key seen)

pub known_later : (clean : List Bool) (whole : Bool) (known : KnownFiles) (seen : List Seen) → AreKnown known →
    length known.files + known.others + length (new_members known.files seen) ≤ MAX_FILES → AreKnown (known_after clean whole known seen)
known_later clean whole known seen are few = record {
  apart = pairs_append StandsBefore (map (file_after clean whole seen) known.files) (created_files known.next (new_members known.files seen))
      (after_apart clean whole seen known.files are.apart)
      (created_apart known.next (new_members known.files seen) (new_are_apart known.files [] seen))
      (All-map (λ file. All (StandsBefore file) (created_files known.next (new_members known.files seen))) (file_after clean whole seen) known.files (before_created clean whole known seen are));
  slots = All-append (λ file. file.slot.0 < known.next + length (new_members known.files seen)) (map (file_after clean whole seen) known.files) (created_files known.next (new_members known.files seen))
      (All-weaker (λ file. file.slot.0 < known.next) (λ file. file.slot.0 < known.next + length (new_members known.files seen)) (λ file lower. omega (arith, lower))
      (map (file_after clean whole seen) known.files) (after_below clean whole seen known.next known.files are.slots))
      (slots_below known.next (new_members known.files seen));
  few = omega (arith, few, length-append (map (file_after clean whole seen) known.files) (created_files known.next (new_members known.files seen)), length-map known.files (file_after clean whole seen), length-created known.next (new_members known.files seen));
}

-- ---- where one is forgotten, and at the beginning

pub known_without : (known : KnownFiles) (p : Known → Bool) → AreKnown known → AreKnown (record known { files = filter p known.files })
known_without known p are = record {
  apart = AllPairs-filter StandsBefore p known.files are.apart;
  slots = All-filter p (λ file. file.slot.0 < known.next) known.files are.slots;
  few = let before = are.few in omega (arith, before, length-filter_both p (λ file. not (p file)) (λ file. refl) known.files);
}

pub known_begun : (begins : List Begin) (others : ℕ) → AreBegun begins → length begins + others ≤ MAX_FILES →
    AreKnown (record { files = map known_of begins; next = length begins; others = others })
known_begun begins others are few = record {
  apart = λ i j d before inside.
      let within : j < length begins = omega (arith, inside, length-map begins known_of) in
      let e = begin_of d in
      let first = get_or-map known_of begins i e d (omega (arith, before, within)) in
      let second = get_or-map known_of begins j e d within in
      subst (λ (f : Known). StandsBefore f (get_or (map known_of begins) j d)) (sym first)
      (subst (λ (g : Known). StandsBefore (known_of (get_or begins i e)) g) (sym second)
      (record {
        slot = let low = are.slots i e (omega (arith, before, within)) in let high = are.slots j e within in omega (arith, before, low, high);
        key = are.keys i j e before within;
      }));
  slots = All-map (λ file. file.slot.0 < length begins) known_of begins (λ k d inside. let is = are.slots k d inside in omega (arith, is, inside));
  few = omega (arith, few, length-map begins known_of);
}
  where
    begin_of : Known → Begin
    begin_of file = record { slot = file.slot; input = file.input; key = file.key; path = file.path; size = file.size; epoch = record { 0 = 0 }; base = 0 }
