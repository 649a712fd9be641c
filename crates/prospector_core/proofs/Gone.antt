-- Files that are gone: they are beside the others until the next scan, and are not among the known ones.
use Rattle.std.proofs.Common.{◌≡◌, ◌≢◌, ℕ, zero, suc, ◌+◌, ◌<◌, ◌≤◌, Bool, true, false, cond, not, List, [], ◌∷◌, ◌++◌, length, map, get_or, set, All, AllPairs, Contains, Option, Some, None, IfNone, OnErr, Result, Ok, Err, filter, inl, inr, refl, sym, ap, ◌∙◌, subst, arith, eqb, if◌then◌else◌}
use Rattle.std.specs.List.Sorted.{IsNonDecreasingBy, IsPartitionPoint, IsSortedBy}
use Rattle.std.specs.Ordering.{is_lt, nat_cmp, ordering_index}
use Rattle.std.specs.Cmp.{nat_cmp_is}
use Rattle.std.specs.Prelude.{◌==◌}
use Rattle.std.specs.declared.cmp.Ordering.{Ordering}
use Rattle.std.specs.declared.cmp.Ordering.TheVariants.{Less, Equal, Greater}
use Rattle.std.proofs.lemmas.Bool.{cases_eq, cases_lt}
use Rattle.std.proofs.lemmas.Bool.Decides.{Decides-eqb}
use Rattle.std.proofs.lemmas.Cmp.{nat_cmp_total}
use Rattle.std.proofs.lemmas.Map.Lookups.{exact_unsigned}
use Rattle.std.specs.List.{HoldsAt}
use Rattle.std.proofs.lemmas.List.{get_or-map, get_or-set_other, get_or-set_same, get_or_default, length-map, length-set, same_lists}
use Rattle.std.proofs.lemmas.List.Elements.{All-append, All-cons, All-filter, All-head, All-map, All-tail, Contains-append_left, Contains-append_right, Contains-push}
use Rattle.std.proofs.lemmas.List.Filters.{length-filter_both}
use Rattle.std.proofs.lemmas.List.Kept.{AllPairs-filter}
use Rattle.std.proofs.lemmas.List.Sorted.{searchable_from_sorted}
use Rattle.prospector_core.proofs.Finding.{find_none, find_other, find_same}
use Rattle.prospector_core.proofs.Settling.{map_agree, map_map}
use Rattle.prospector_core.specs.declared.known.Known.{Known}
use Rattle.prospector_core.specs.declared.limits.TheConstants.{MAX_FILES}
use Rattle.prospector_core.specs.declared.marks.Mark.TheVariants.{Held}
use Rattle.prospector_core.specs.declared.marks.Watched.{Watched}
use Rattle.wire_base.specs.declared.numbers.Slot.{Slot}
use Rattle.prospector_core.specs.KnownFiles.{AreKnown, KnownFiles, StandsBefore, file_key, known_with}
use Rattle.prospector_core.specs.Marks.{Stays, cleared, file_of, files_of, forgotten, here, is_here, settled_one, slots_of, watched_by}
use Rattle.prospector_core.specs.Changes.{created_files, new_members}
use Rattle.prospector_core.specs.Told.{HasAdded, begun}
use Rattle.prospector_core.specs.declared.told.Scan.{Scan}
use Rattle.prospector_core.specs.declared.told.Told.{Told}
use Rattle.prospector_core.specs.Watching.{all_by, known_by}

-- ---- where none is gone

here_one : (one : Watched) (watched : List Watched) → one.gone ≡ false → here (one ∷ watched) ≡ one ∷ here watched
here_one one watched stays = ap (λ (b : Bool). cond (not b) (one ∷ here watched) (here watched)) stays

pub here_all : (watched : List Watched) → All Stays watched → here watched ≡ watched
here_all [] all = refl
here_all (one ∷ watched) all = here_one one watched (All-head Stays one watched all) ∙ ap (λ (l : List Watched). one ∷ l) (here_all watched (All-tail Stays one watched all))

pub here_stays : (watched : List Watched) → All Stays (here watched)
here_stays [] = λ k d inside. absurd (omega (arith, inside))
here_stays (one ∷ watched) = by_case one.gone refl (here_stays watched)
  where
    by_case : (b : Bool) → one.gone ≡ b → All Stays (here watched) → All Stays (cond (not b) (one ∷ here watched) (here watched))
    by_case true e rest = rest
    by_case false e rest = All-cons Stays one (here watched) e rest

pub cleared_stay : (watched : List Watched) → All Stays (map cleared watched)
cleared_stay watched = All-map Stays cleared watched (λ k d inside. refl)

pub settled_stay : (whole : Bool) (watched : List Watched) → All Stays watched → All Stays (map (settled_one whole) watched)
settled_stay whole watched all = All-map Stays (settled_one whole) watched all

-- ---- those that are known

abbrev AreApartFrom : Watched → Watched → Type 0
AreApartFrom one later = StandsBefore one.file later.file

pairs_kept : (watched : List Watched) → AllPairs StandsBefore (files_of watched) → AllPairs AreApartFrom watched
pairs_kept watched apart = λ i j d before inside.
    let within : j < length (files_of watched) = omega (arith, inside, length-map watched file_of) in
    subst (λ (f : Known). StandsBefore f (get_or watched j d).file) (get_or-map file_of watched i d d.file (omega (arith, before, inside)))
    (subst (λ (f : Known). StandsBefore (get_or (files_of watched) i d.file) f) (get_or-map file_of watched j d d.file inside) (apart i j d.file before within))

pairs_seen : (watched : List Watched) → AllPairs AreApartFrom watched → AllPairs StandsBefore (files_of watched)
pairs_seen watched apart = λ i j d before inside.
    let within : j < length watched = omega (arith, inside, length-map watched file_of) in
    let e : Watched = record { file = d; mark = Held; gone = false } in
    subst (λ (f : Known). StandsBefore f (get_or (files_of watched) j d)) (sym (get_or-map file_of watched i e d (omega (arith, before, within))))
    (subst (λ (f : Known). StandsBefore (get_or watched i e).file f) (sym (get_or-map file_of watched j e d within)) (apart i j e before within))

pub known_here : (watched : List Watched) (next others : ℕ) → AreKnown (all_by watched next others) → AreKnown (all_by (here watched) next others)
known_here watched next others are = record {
  apart = pairs_seen (here watched) (AllPairs-filter AreApartFrom is_here watched (pairs_kept watched are.apart));
  slots = All-map (λ file. file.slot.0 < next) file_of (here watched)
      (All-filter is_here (λ one. one.file.slot.0 < next) watched
      (λ k d inside. subst (λ (f : Known). f.slot.0 < next) (get_or-map file_of watched k d d.file inside)
      (are.slots k d.file (omega (arith, inside, length-map watched file_of)))));
  few = let before = are.few in
      omega (arith, before, length-filter_both is_here (λ one. not (is_here one)) (λ one. refl) watched, length-map watched file_of, length-map (here watched) file_of);
}

-- ---- one forgotten

pub files-forgotten : (slot : ℕ) (watched : List Watched) → files_of (map (forgotten slot) watched) ≡ files_of watched
files-forgotten slot watched = map_map file_of (forgotten slot) watched ∙ map_agree (λ one. file_of (forgotten slot one)) file_of (λ one. same one (one.file.slot.0 == slot)) watched
  where
    same : (one : Watched) (b : Bool) → (if b then record one { gone = true } else one).file ≡ one.file
    same one true = refl
    same one false = refl

pub here-forgotten : (slot : ℕ) (watched : List Watched) → files_of (here (map (forgotten slot) watched)) ≡ filter (λ file. not (file.slot.0 == slot)) (files_of (here watched))
here-forgotten slot [] = refl
here-forgotten slot (one ∷ watched) = by_case (one.file.slot.0 == slot) one.gone refl refl (here-forgotten slot watched)
  where
    by_case : (b g : Bool) → (one.file.slot.0 == slot) ≡ b → one.gone ≡ g →
        files_of (here (map (forgotten slot) watched)) ≡ filter (λ file. not (file.slot.0 == slot)) (files_of (here watched)) →
        files_of (cond (is_here (if b then record one { gone = true } else one)) ((if b then record one { gone = true } else one) ∷ here (map (forgotten slot) watched)) (here (map (forgotten slot) watched)))
        ≡ filter (λ file. not (file.slot.0 == slot)) (files_of (cond (not g) (one ∷ here watched) (here watched)))
    by_case true true at gone rest = rest
    by_case true false at gone rest =
        rest
        ∙ ap (λ (b : Bool). cond (not b) (one.file ∷ filter (λ file. not (file.slot.0 == slot)) (files_of (here watched))) (filter (λ file. not (file.slot.0 == slot)) (files_of (here watched)))) (sym at)
    by_case false true at gone rest =
        ap (λ (b : Bool). files_of (cond (not b) (one ∷ here (map (forgotten slot) watched)) (here (map (forgotten slot) watched)))) gone ∙ rest
    by_case false false at gone rest =
        ap (λ (b : Bool). files_of (cond (not b) (one ∷ here (map (forgotten slot) watched)) (here (map (forgotten slot) watched)))) gone
        ∙ ap (λ (l : List Known). one.file ∷ l) (rest)
        ∙ ap (λ (b : Bool). cond (not b) (one.file ∷ filter (λ file. not (file.slot.0 == slot)) (files_of (here watched))) (filter (λ file. not (file.slot.0 == slot)) (files_of (here watched)))) (sym at)

-- the slots differ
slots_differ : (watched : List Watched) → AllPairs StandsBefore (files_of watched) → (i j : ℕ) (d : Watched) → i < length watched → j < length watched → i ≢ j → (get_or watched i d).file.slot.0 ≢ (get_or watched j d).file.slot.0
slots_differ watched apart i j d inside within other same = elim (cases_lt i j) [
  | inl before ↦ let lt = (pairs_kept watched apart i j d before within).slot in omega (arith, lt, same)
  | inr behind ↦ let lt = (pairs_kept watched apart j i d (omega (arith, behind, other)) inside).slot in omega (arith, lt, same)
]

forgotten_at : (slot : ℕ) (one : Watched) → one.file.slot.0 ≡ slot → forgotten slot one ≡ record one { gone = true }
forgotten_at slot one same = ap (λ (b : Bool). if b then record one { gone = true } else one) ((Decides-eqb one.file.slot.0 slot).1 same)

forgotten_other : (slot : ℕ) (one : Watched) → one.file.slot.0 ≢ slot → forgotten slot one ≡ one
forgotten_other slot one other = by_case (one.file.slot.0 == slot) refl
  where
    by_case : (b : Bool) → (one.file.slot.0 == slot) ≡ b → (if b then record one { gone = true } else one) ≡ one
    by_case true e = absurd (other ((Decides-eqb one.file.slot.0 slot).0 e))
    by_case false e = refl

pub none_forgotten : (slot : ℕ) (watched : List Watched) → All (λ one. one.file.slot.0 ≢ slot) watched → watched ≡ map (forgotten slot) watched
none_forgotten slot watched none = same_lists watched (map (forgotten slot) watched) (sym (length-map watched (forgotten slot)))
    (λ k d inside. sym (get_or-map (forgotten slot) watched k d d inside ∙ forgotten_other slot (get_or watched k d) (none k d inside)))

pub one_forgotten : (slot place : ℕ) (watched : List Watched) (one : Watched) → AllPairs StandsBefore (files_of watched) → place < length watched → one ≡ get_or watched place one → one.file.slot.0 ≡ slot →
    set watched place (record one { gone = true }) ≡ map (forgotten slot) watched
one_forgotten slot place watched one apart inside here is = same_lists (set watched place (record one { gone = true })) (map (forgotten slot) watched)
    (length-set watched place (record one { gone = true }) ∙ sym (length-map watched (forgotten slot)))
    (λ k d within. at k d (omega (arith, within, length-set watched place (record one { gone = true }))))
  where
    at : (k : ℕ) (d : Watched) → k < length watched → get_or (set watched place (record one { gone = true })) k d ≡ get_or (map (forgotten slot) watched) k d
    at k d within = elim (cases_eq k place) [
      | inl same ↦ subst (λ (n : ℕ). get_or (set watched place (record one { gone = true })) n d ≡ get_or (map (forgotten slot) watched) n d) (sym same)
          (get_or-set_same watched place (record one { gone = true }) d inside
          ∙ sym (forgotten_at slot one is) ∙ ap (forgotten slot) (here ∙ get_or_default watched place one d inside)
          ∙ sym (get_or-map (forgotten slot) watched place d d inside))
      | inr other ↦
          get_or-set_other watched place k (record one { gone = true }) d other
          ∙ sym (get_or-map (forgotten slot) watched k d d within ∙ forgotten_other slot (get_or watched k d)
          (λ same. slots_differ watched apart k place d within inside other (same ∙ sym is ∙ ap (λ (w : Watched). w.file.slot.0) (here ∙ get_or_default watched place one d inside))))
    ]

-- ---- by its slot

slots_sorted : (watched : List Watched) → AllPairs StandsBefore (files_of watched) → IsSortedBy (λ a b. is_lt (nat_cmp a.file.slot.0 b.file.slot.0)) watched
slots_sorted watched apart = λ k d low high.
    let lt = (pairs_kept watched apart k (k + 1) d (omega arith) (omega (arith, high))).slot in
    not_less (get_or watched (k + 1) d).file.slot.0 (get_or watched k d).file.slot.0 lt
  where
    not_less : (a b : ℕ) → b < a → is_lt (nat_cmp a b) ≡ false
    not_less a b lt = ap is_lt (sym (nat_cmp_is a b Greater lt))

cmp_equal : (a b : ℕ) → a ≡ b → nat_cmp a b ≡ Equal
cmp_equal a b same = sym (nat_cmp_is a b Equal same)

pub slot_absent : (watched : List Watched) (slot i : ℕ) → AllPairs StandsBefore (files_of watched) →
    (IsNonDecreasingBy (λ one. ordering_index (nat_cmp one.file.slot.0 slot)) watched → IsPartitionPoint (λ one. nat_cmp one.file.slot.0 slot ≡ Less) (λ one. nat_cmp one.file.slot.0 slot ≡ Greater) watched i) →
    All (λ one. one.file.slot.0 ≢ slot) watched
slot_absent watched slot i apart parted = λ k d inside same.
    let parts = parted (searchable_from_sorted nat_cmp_total (λ one. one.file.slot.0) watched slot (slots_sorted watched apart)) in
    elim (cases_lt k i) [
      | inl before ↦ let q : Less ≡ Equal = sym (parts.0 k d (omega arith) before) ∙ cmp_equal (get_or watched k d).file.slot.0 slot same in cc
      | inr behind ↦ let q : Greater ≡ Equal = sym (parts.1 k d behind inside) ∙ cmp_equal (get_or watched k d).file.slot.0 slot same in cc
    ]

pub slot_found : (watched : List Watched) (slot place : ℕ) → place < length watched → HoldsAt (λ one. nat_cmp one.file.slot.0 slot ≡ Equal) watched place → get_or (slots_of watched) place 0 ≡ slot
slot_found watched slot place inside equal =
    get_or-map (λ one. one.file.slot.0) watched place nobody 0 inside ∙ exact_unsigned (get_or watched place nobody).file.slot.0 slot (equal nobody)
  where
    nobody : Watched
    nobody = record { file = record { slot = record { 0 = 0 }; input = 0; key = []; path = []; size = 0; present = false }; mark = Held; gone = false }

-- ---- by its key

pub key_absent : (watched : List Watched) (key : List ℕ) → All (λ one. one.file.key ≢ key) watched → known_with key (files_of (here watched)) ≡ None
key_absent watched key none = find_none file_key key (files_of (here watched)) (All-map (λ file. file.key ≢ key) file_of (here watched) (All-filter is_here (λ one. one.file.key ≢ key) watched none))

behind : (slot : ℕ) (one : Watched) (watched : List Watched) → AllPairs AreApartFrom (one ∷ watched) → one.file.slot.0 ≡ slot → All (λ later. later.file.slot.0 ≢ slot) watched
behind slot one watched pairs at = λ k e within same. let lt = (pairs 0 (suc k) e (omega arith) (omega (arith, within))).slot in omega (arith, lt, at, same)

before_at : (slot : ℕ) (one : Watched) (watched : List Watched) (place : ℕ) (d : Watched) → AllPairs AreApartFrom (one ∷ watched) → suc place < length (one ∷ watched) → (get_or watched place d).file.slot.0 ≡ slot → one.file.slot.0 ≢ slot
before_at slot one watched place d pairs inside is same = let lt = (pairs 0 (suc place) d (omega arith) inside).slot in omega (arith, lt, same, is)

keys_behind : (key : List ℕ) (one : Watched) (watched : List Watched) → AllPairs AreApartFrom (one ∷ watched) → one.file.key ≡ key → All (λ later. later.file.key ≢ key) watched
keys_behind key one watched pairs is = λ k e within same. (pairs 0 (suc k) e (omega arith) (omega (arith, within))).key (is ∙ sym same)

key_before : (key : List ℕ) (one : Watched) (watched : List Watched) (place : ℕ) (d : Watched) → AllPairs AreApartFrom (one ∷ watched) → suc place < length (one ∷ watched) → (get_or watched place d).file.key ≡ key → one.file.key ≢ key
key_before key one watched place d pairs inside is same = (pairs 0 (suc place) d (omega arith) inside).key (same ∙ sym is)

-- the one with the key, if it is not gone
key_found_at : (watched : List Watched) (key : List ℕ) (place : ℕ) (d : Watched) → AllPairs AreApartFrom watched → place < length watched → (get_or watched place d).file.key ≡ key →
    known_with key (files_of (here watched)) ≡ (if (get_or watched place d).gone then None else Some (get_or watched place d).file)
key_found_at [] key place d apart inside is = absurd (omega (arith, inside))
key_found_at (one ∷ watched) key zero d apart inside is = by_case one.gone refl
  where
    others : All (λ later. later.file.key ≢ key) watched
    others = keys_behind key one watched apart is

    by_case : (b : Bool) → one.gone ≡ b → known_with key (files_of (cond (not b) (one ∷ here watched) (here watched))) ≡ (if b then None else Some one.file)
    by_case true e = key_absent watched key others
    by_case false e = subst (λ (k : List ℕ). known_with k (one.file ∷ files_of (here watched)) ≡ Some one.file) is (find_same file_key one.file (files_of (here watched)))
key_found_at (one ∷ watched) key (suc place) d apart inside is =
    by_case one.gone refl (key_found_at watched key place d (λ i j e before in_rest. apart (suc i) (suc j) e (omega (arith, before)) (omega (arith, in_rest))) (omega (arith, inside)) is)
  where
    other : one.file.key ≢ key
    other = key_before key one watched place d apart inside is

    by_case : (b : Bool) → one.gone ≡ b → known_with key (files_of (here watched)) ≡ (if (get_or watched place d).gone then None else Some (get_or watched place d).file) → known_with key (files_of (cond (not b) (one ∷ here watched) (here watched))) ≡ (if (get_or watched place d).gone then None else Some (get_or watched place d).file)
    by_case true e rest = rest
    by_case false e rest = find_other file_key key one.file (files_of (here watched)) other ∙ rest

pub key_found : (watched : List Watched) (key : List ℕ) (place : ℕ) (d : Watched) → AllPairs StandsBefore (files_of watched) → place < length watched → (get_or watched place d).file.key ≡ key →
    known_with key (files_of (here watched)) ≡ (if (get_or watched place d).gone then None else Some (get_or watched place d).file)
key_found watched key place d apart inside is = key_found_at watched key place d (pairs_kept watched apart) inside is

-- ---- the one of a slot

-- an element that is not gone is among those that are here
pub among_here : (watched : List Watched) (place : ℕ) (d : Watched) → place < length watched → (get_or watched place d).gone ≡ false → Contains (files_of (here watched)) (get_or watched place d).file
among_here [] place d inside stays = absurd (omega (arith, inside))
among_here (one ∷ watched) zero d inside stays =
    subst (λ (l : List Watched). Contains (files_of l) one.file) (sym (here_one one watched stays)) (Contains-append_left (one.file ∷ []) (files_of (here watched)) one.file (Contains-push [] one.file))
among_here (one ∷ watched) (suc place) d inside stays = by_case one.gone refl (among_here watched place d (omega (arith, inside)) stays)
  where
    by_case : (b : Bool) → one.gone ≡ b → Contains (files_of (here watched)) (get_or watched place d).file → Contains (files_of (cond (not b) (one ∷ here watched) (here watched))) (get_or watched place d).file
    by_case true e rest = rest
    by_case false e rest = Contains-append_right (one.file ∷ []) (files_of (here watched)) (get_or watched place d).file rest

others_here : (slot : ℕ) (watched : List Watched) (place : ℕ) (d : Watched) → AllPairs AreApartFrom watched → place < length watched → (get_or watched place d).file.slot.0 ≡ slot → (get_or watched place d).gone ≡ true →
    All (λ one. one.file.slot.0 ≢ slot) (here watched)
others_here slot [] place d apart inside is gone = absurd (omega (arith, inside))
others_here slot (one ∷ watched) zero d apart inside is gone =
    subst (λ (b : Bool). All (λ later. later.file.slot.0 ≢ slot) (cond (not b) (one ∷ here watched) (here watched))) (sym gone)
    (All-filter is_here (λ later. later.file.slot.0 ≢ slot) watched (behind slot one watched apart is))
others_here slot (one ∷ watched) (suc place) d apart inside is gone =
    by_case one.gone (others_here slot watched place d (λ i j e before in_rest. apart (suc i) (suc j) e (omega (arith, before)) (omega (arith, in_rest))) (omega (arith, inside)) is gone)
  where
    by_case : (b : Bool) → All (λ later. later.file.slot.0 ≢ slot) (here watched) → All (λ later. later.file.slot.0 ≢ slot) (cond (not b) (one ∷ here watched) (here watched))
    by_case true rest = rest
    by_case false rest = All-cons (λ later. later.file.slot.0 ≢ slot) one (here watched) (before_at slot one watched place d apart inside is) rest

-- no known file has the slot, if the one of the slot is gone, and if there is none
pub slot_gone : (watched : List Watched) (slot : Slot) (place : ℕ) (one : Watched) → AllPairs StandsBefore (files_of watched) → place < length watched → one ≡ get_or watched place one → one.file.slot.0 ≡ slot.0 → one.gone ≡ true →
    All (λ file. file.slot ≢ slot) (files_of (here watched))
slot_gone watched slot place one apart inside here_is is gone =
    All-map (λ file. file.slot ≢ slot) file_of (here watched)
    (λ k d within same. others_here slot.0 watched place one (pairs_kept watched apart) inside (ap (λ (w : Watched). w.file.slot.0) (sym here_is) ∙ is) (ap (λ (w : Watched). w.gone) (sym here_is) ∙ gone) k d within (ap (λ (s : Slot). s.0) same))

pub slot_none : (watched : List Watched) (slot : Slot) → All (λ one. one.file.slot.0 ≢ slot.0) watched → All (λ file. file.slot ≢ slot) (files_of (here watched))
slot_none watched slot none =
    All-map (λ file. file.slot ≢ slot) file_of (here watched)
    (λ k d within same. All-filter is_here (λ one. one.file.slot.0 ≢ slot.0) watched none k d within (ap (λ (s : Slot). s.0) same))

-- ---- after those that are gone were taken out

pub swept_stay : (before swept : List Watched) → swept ≡ here before → All Stays swept
swept_stay before swept is = subst (λ (l : List Watched). All Stays l) (sym is) (here_stays before)

pub swept_known : (before swept : List Watched) (next others : ℕ) → swept ≡ here before → AreKnown (all_by before next others) → AreKnown (all_by swept next others)
swept_known before swept next others is are = subst (λ (l : List Watched). AreKnown (all_by l next others)) (sym is) (known_here before next others are)

-- if none is gone, those that are known are all
pub view_of_all : (watched : List Watched) (next others : ℕ) → All Stays watched → known_by watched next others ≡ all_by watched next others
view_of_all watched next others stay = ap (λ (l : List Watched). all_by l next others) (here_all watched stay)

pub known_of_all : (watched : List Watched) (next others : ℕ) → All Stays watched → AreKnown (all_by watched next others) → AreKnown (known_by watched next others)
known_of_all watched next others stay are = subst (λ (k : KnownFiles). AreKnown k) (sym (view_of_all watched next others stay)) are

pub added_stay : (scan : Scan) (known : KnownFiles) (files : List Watched) (told : Told) → HasAdded scan known files told → All Stays files
added_stay scan known files told added =
    subst (λ (l : List Watched). All Stays l) (sym added.marks)
    (All-append Stays (map (watched_by scan.clean.now scan.seen.now) known.files) (map begun (created_files known.next (new_members known.files scan.seen.now)))
    (All-map Stays (watched_by scan.clean.now scan.seen.now) known.files (λ k d inside. refl))
    (All-map Stays begun (created_files known.next (new_members known.files scan.seen.now)) (λ k d inside. refl)))

-- whatever was answered
pub on_refusal : {A E : Type 0} (result : Result A E) (P : Type 0) → P → OnErr result P
on_refusal (Ok value) P p = tt
on_refusal (Err error) P p = p

pub if_none : {A : Type 0} (o : Option A) (P : Type 0) → P → IfNone o P
if_none None P p = p
if_none (Some x) P p = tt
