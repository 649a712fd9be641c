-- Which of the listed files are followed, and which are doubled: what is known of both parts.
use Rattle.std.proofs.Common.{◌≡◌, ◌⊎◌, ℕ, zero, suc, ◌+◌, ◌<◌, List, [], ◌∷◌, ◌++◌, length, get_or, All, Contains, Option, Some, None, refl, sym, ap, ◌∙◌, subst, inl, inr, append_assoc, arith}
use Rattle.std.specs.List.{AllByRecursion}
use Rattle.std.proofs.lemmas.List.Elements.{All-from_recursion, Contains-append_left, Contains-push, recursion_from_All}
use Rattle.prospect.specs.declared.listed.Listed.{Listed}
use Rattle.prospect.specs.Doubled.{AreKeysApart, Before, HasFirst, HaveKey, PartsBehind, PartsDoubled}

-- ---- lists of files

first_there : (one : Listed) (others : List Listed) → Contains (one ∷ others) one
first_there one others = (0, omega arith, refl)

later_there : (first one : Listed) (others : List Listed) → Contains others one → Contains (first ∷ others) one
later_there first one others there = (suc there.0, omega (arith, there.1), there.2)

there_cases : (first one : Listed) (others : List Listed) → Contains (first ∷ others) one → (first ≡ one) ⊎ Contains others one
there_cases first one others there = by_place there.0 there.1 there.2
  where
    by_place : (k : ℕ) → k < length (first ∷ others) → get_or (first ∷ others) k one ≡ one → (first ≡ one) ⊎ Contains others one
    by_place zero inside is = inl is
    by_place (suc k) inside is = inr (k, omega arith, is)

none_there : (one : Listed) → Contains [] one → ⊥
none_there one there = omega (arith, there.1)

all_there : (P : Listed → Type 0) (files : List Listed) → ((one : Listed) → Contains files one → P one) → AllByRecursion P files
all_there P [] each = tt
all_there P (first ∷ files) each = (each first (first_there first files), all_there P files (λ one there. each one (later_there first one files there)))

all_at : (P : Listed → Type 0) (files : List Listed) (one : Listed) → AllByRecursion P files → Contains files one → P one
all_at P [] one all there = absurd (none_there one there)
all_at P (first ∷ files) one all there = elim (there_cases first one files there) [
  | inl same ↦ subst P same all.0
  | inr later ↦ all_at P files one all.1 later
]

-- ---- files that have a key

-- the key, and one of the files that has it
known : (files : List Listed) (one : Listed) → HaveKey files one.key → HasFirst files one
known files one = by_key one.key refl
  where
    by_key : (key : Option (List ℕ)) → one.key ≡ key → HaveKey files key → HasFirst files one
    by_key None is have = absurd have
    by_key (Some key) is have = record { first = have.1; key = key; among = (have.0, have.2, have.3); key_is = is; same_key = have.4 }

-- and back
have_key : (files : List Listed) (key : Option (List ℕ)) (its : List ℕ) (first : Listed) → key ≡ Some its → Contains files first → first.key ≡ Some its → HaveKey files key
have_key files key its first is there first_is =
    subst (λ (k : Option (List ℕ)). HaveKey files k) (sym is) (there.0, first, there.1, there.2, first_is)

has_within : (files more : List Listed) (one : Listed) → HasFirst files one → HasFirst (files ++ more) one
has_within files more one has = record {
  first = has.first;
  key = has.key;
  among = Contains-append_left files more has.first has.among;
  key_is = has.key_is;
  same_key = has.same_key;
}

-- ---- each part is of the listed files, and each listed file is of a part

file_behind : (before listed files doubled : List Listed) → PartsBehind before listed files doubled → (one : Listed) → Contains files one → Contains listed one
file_behind before [] files doubled parts one there = absurd (none_there one (subst (λ (l : List Listed). Contains l one) parts.0 there))
file_behind before (next ∷ listed) files doubled (inl (have, others, is, parts)) one there =
    later_there next one listed (file_behind before listed files others parts one there)
file_behind before (next ∷ listed) files doubled (inr (lacks, others, is, parts)) one there =
    elim (there_cases next one others (subst (λ (l : List Listed). Contains l one) is there)) [
      | inl same ↦ (0, omega arith, same)
      | inr later ↦ later_there next one listed (file_behind (before ++ next ∷ []) listed others doubled parts one later)
    ]

double_behind : (before listed files doubled : List Listed) → PartsBehind before listed files doubled → (one : Listed) → Contains doubled one → Contains listed one
double_behind before [] files doubled parts one there = absurd (none_there one (subst (λ (l : List Listed). Contains l one) parts.1 there))
double_behind before (next ∷ listed) files doubled (inl (have, others, is, parts)) one there =
    elim (there_cases next one others (subst (λ (l : List Listed). Contains l one) is there)) [
      | inl same ↦ (0, omega arith, same)
      | inr later ↦ later_there next one listed (double_behind before listed files others parts one later)
    ]
double_behind before (next ∷ listed) files doubled (inr (lacks, others, is, parts)) one there =
    later_there next one listed (double_behind (before ++ next ∷ []) listed others doubled parts one there)

either_behind : (before listed files doubled : List Listed) → PartsBehind before listed files doubled → (one : Listed) → Contains listed one → Contains files one ⊎ Contains doubled one
either_behind before [] files doubled parts one there = absurd (none_there one there)
either_behind before (next ∷ listed) files doubled (inl (have, others, is, parts)) one there =
    subst (λ (l : List Listed). Contains files one ⊎ Contains l one) (sym is)
    (elim (there_cases next one listed there) [
      | inl same ↦ inr (0, omega arith, same)
      | inr later ↦ elim (either_behind before listed files others parts one later) [
        | inl file ↦ inl file
        | inr double ↦ inr (later_there next one others double)
      ]
    ])
either_behind before (next ∷ listed) files doubled (inr (lacks, others, is, parts)) one there =
    subst (λ (l : List Listed). Contains l one ⊎ Contains doubled one) (sym is)
    (elim (there_cases next one listed there) [
      | inl same ↦ inl (0, omega arith, same)
      | inr later ↦ elim (either_behind (before ++ next ∷ []) listed others doubled parts one later) [
        | inl file ↦ inl (later_there next one others file)
        | inr double ↦ inr double
      ]
    ])

-- ---- a double has the key of a file that is followed

first_behind : (before listed files doubled : List Listed) → PartsBehind before listed files doubled → (one : Listed) → Contains doubled one → HasFirst (before ++ files) one
first_behind before [] files doubled parts one there = absurd (none_there one (subst (λ (l : List Listed). Contains l one) parts.1 there))
first_behind before (next ∷ listed) files doubled (inl (have, others, is, parts)) one there =
    elim (there_cases next one others (subst (λ (l : List Listed). Contains l one) is there)) [
      | inl same ↦ subst (λ (l : Listed). HasFirst (before ++ files) l) same (has_within before files next (known before next have))
      | inr later ↦ first_behind before listed files others parts one later
    ]
first_behind before (next ∷ listed) files doubled (inr (lacks, others, is, parts)) one there =
    subst (λ (l : List Listed). HasFirst l one) (append_assoc before (next ∷ []) others ∙ ap (λ (l : List Listed). before ++ l) (sym is))
    (first_behind (before ++ next ∷ []) listed others doubled parts one there)

-- ---- no file that is followed has the key of an earlier one

abbrev Lacks : List Listed → Listed → Type 0
Lacks before one = ¬ (HaveKey before one.key)

-- a file that has the key of none of these has that of none of fewer
lacks_fewer : (before : List Listed) (next one : Listed) → Lacks (before ++ next ∷ []) one → Lacks before one
lacks_fewer before next one lacks have =
    let has = known before one have in
    lacks (have_key (before ++ next ∷ []) one.key has.key has.first has.key_is (Contains-append_left before (next ∷ []) has.first has.among) has.same_key)

lacks_behind : (before listed files doubled : List Listed) → PartsBehind before listed files doubled → (one : Listed) → Contains files one → Lacks before one
lacks_behind before [] files doubled parts one there = absurd (none_there one (subst (λ (l : List Listed). Contains l one) parts.0 there))
lacks_behind before (next ∷ listed) files doubled (inl (have, others, is, parts)) one there =
    lacks_behind before listed files others parts one there
lacks_behind before (next ∷ listed) files doubled (inr (lacks, others, is, parts)) one there =
    elim (there_cases next one others (subst (λ (l : List Listed). Contains l one) is there)) [
      | inl same ↦ subst (λ (l : Listed). Lacks before l) same lacks
      | inr later ↦ lacks_fewer before next one (lacks_behind (before ++ next ∷ []) listed others doubled parts one later)
    ]

apart_behind : (before listed files doubled : List Listed) → PartsBehind before listed files doubled → AreKeysApart files
apart_behind before [] files doubled parts = subst AreKeysApart (sym parts.0) tt
apart_behind before (next ∷ listed) files doubled (inl (have, others, is, parts)) = apart_behind before listed files others parts
apart_behind before (next ∷ listed) files doubled (inr (lacks, others, is, parts)) =
    subst AreKeysApart (sym is) (none, apart_behind (before ++ next ∷ []) listed others doubled parts)
  where
    none : ¬ (HaveKey others next.key)
    none have =
        let has = known others next have in
        lacks_behind (before ++ next ∷ []) listed others doubled parts has.first has.among
        (have_key (before ++ next ∷ []) has.first.key has.key next has.same_key (Contains-push before next) has.key_is)

-- ---- it is the first of its key

module _ (R : Listed → Listed → Type 0) where
  first_of_behind : (before listed files doubled : List Listed) → PartsBehind before listed files doubled → Before R listed →
      (first other : Listed) (key : List ℕ) → Contains files first → Contains listed other → first.key ≡ Some key → other.key ≡ Some key → (first ≡ other) ⊎ R first other
  first_of_behind before [] files doubled parts ordered first other key file there first_is other_is = absurd (none_there other there)
  first_of_behind before (next ∷ listed) files doubled (inl (have, others, is, parts)) ordered first other key file there first_is other_is =
      elim (there_cases next other listed there) [
        | inl same ↦ absurd (lacks_behind before listed files others parts first file
            (subst (λ (k : Option (List ℕ)). HaveKey before k) (ap (λ (l : Listed). l.key) same ∙ other_is ∙ sym first_is) have))
        | inr later ↦ first_of_behind before listed files others parts ordered.1 first other key file later first_is other_is
      ]
  first_of_behind before (next ∷ listed) files doubled (inr (lacks, others, is, parts)) ordered first other key file there first_is other_is =
      by_place (there_cases next first others (subst (λ (l : List Listed). Contains l first) is file)) (there_cases next other listed there)
      (λ further later. first_of_behind (before ++ next ∷ []) listed others doubled parts ordered.1 first other key further later first_is other_is)
    where
      by_place : (next ≡ first) ⊎ Contains others first → (next ≡ other) ⊎ Contains listed other →
          (Contains others first → Contains listed other → (first ≡ other) ⊎ R first other) → (first ≡ other) ⊎ R first other
      by_place (inl here) (inl same) behind = inl (sym here ∙ same)
      by_place (inl here) (inr later) behind = inr (subst (λ (l : Listed). R l other) here (all_at (λ (l : Listed). R next l) listed other ordered.0 later))
      by_place (inr further) (inl same) behind = absurd (lacks_behind (before ++ next ∷ []) listed others doubled parts first further
          (have_key (before ++ next ∷ []) first.key key next first_is (Contains-push before next) (ap (λ (l : Listed). l.key) same ∙ other_is)))
      by_place (inr further) (inr later) behind = behind further later

  -- and they keep their order
  files_order_behind : (before listed files doubled : List Listed) → PartsBehind before listed files doubled → Before R listed → Before R files
  files_order_behind before [] files doubled parts ordered = subst (Before R) (sym parts.0) tt
  files_order_behind before (next ∷ listed) files doubled (inl (have, others, is, parts)) ordered = files_order_behind before listed files others parts ordered.1
  files_order_behind before (next ∷ listed) files doubled (inr (lacks, others, is, parts)) ordered =
      subst (Before R) (sym is) (
        all_there (λ (l : Listed). R next l) others
            (λ one there. all_at (λ (l : Listed). R next l) listed one ordered.0 (file_behind (before ++ next ∷ []) listed others doubled parts one there)),
        files_order_behind (before ++ next ∷ []) listed others doubled parts ordered.1,
      )

-- ---- how many

lengths_behind : (before listed files doubled : List Listed) → PartsBehind before listed files doubled → length files + length doubled ≡ length listed
lengths_behind before [] files doubled parts = omega (arith, ap (λ (l : List Listed). length l) parts.0, ap (λ (l : List Listed). length l) parts.1)
lengths_behind before (next ∷ listed) files doubled (inl (have, others, is, parts)) =
    omega (arith, ap (λ (l : List Listed). length l) is, lengths_behind before listed files others parts)
lengths_behind before (next ∷ listed) files doubled (inr (lacks, others, is, parts)) =
    omega (arith, ap (λ (l : List Listed). length l) is, lengths_behind (before ++ next ∷ []) listed others doubled parts)

-- ---- of parted files

module _ (listed files doubled : List Listed) (parts : PartsDoubled listed files doubled) where
  pub file_is_listed : (one : Listed) → Contains files one → Contains listed one
  file_is_listed = file_behind [] listed files doubled parts

  pub double_is_listed : (one : Listed) → Contains doubled one → Contains listed one
  double_is_listed = double_behind [] listed files doubled parts

  pub listed_is_either : (one : Listed) → Contains listed one → Contains files one ⊎ Contains doubled one
  listed_is_either = either_behind [] listed files doubled parts

  pub double_has_first : (one : Listed) → Contains doubled one → HasFirst files one
  double_has_first = first_behind [] listed files doubled parts

  -- each listed file with a key has it of one that is followed
  pub listed_has_first : (one : Listed) (key : List ℕ) → Contains listed one → one.key ≡ Some key → HasFirst files one
  listed_has_first one key there is = elim (listed_is_either one there) [
    | inl file ↦ record { first = one; key = key; among = file; key_is = is; same_key = is }
    | inr double ↦ double_has_first one double
  ]

  pub keys_apart : AreKeysApart files
  keys_apart = apart_behind [] listed files doubled parts

  pub first_in_order : (R : Listed → Listed → Type 0) → Before R listed → (first other : Listed) (key : List ℕ) → Contains files first → Contains listed other →
      first.key ≡ Some key → other.key ≡ Some key → (first ≡ other) ⊎ R first other
  first_in_order R = first_of_behind R [] listed files doubled parts

  pub files_in_order : (R : Listed → Listed → Type 0) → Before R listed → Before R files
  files_in_order R = files_order_behind R [] listed files doubled parts

  pub all_files : (P : Listed → Type 0) → AllByRecursion P listed → AllByRecursion P files
  all_files P all = all_there P files (λ one there. all_at P listed one all (file_is_listed one there))

  pub all_doubled : (P : Listed → Type 0) → AllByRecursion P listed → AllByRecursion P doubled
  all_doubled P all = all_there P doubled (λ one there. all_at P listed one all (double_is_listed one there))

  pub each_file : (P : Listed → Type 0) → All P listed → All P files
  each_file P all = All-from_recursion P files (all_files P (recursion_from_All P listed all))

  pub each_double : (P : Listed → Type 0) → All P listed → All P doubled
  each_double P all = All-from_recursion P doubled (all_doubled P (recursion_from_All P listed all))

  pub lengths_add : length files + length doubled ≡ length listed
  lengths_add = lengths_behind [] listed files doubled parts
