-- Of listed files with names of their own, none of those that are followed has the name of a doubled one.
use Rattle.std.proofs.Common.{◌≡◌, inl, inr, ⊎_elim, List, [], ◌∷◌, ◌++◌, Contains, sym, ap, subst, ◌∙◌}
use Rattle.prospect.specs.Doubled.{PartsBehind}
use Rattle.prospect.specs.ListedFiles.{AreApart, HasFile, name_of}
use Rattle.prospect.specs.declared.listed.Listed.{Listed}
use Rattle.ship_core.proofs.Members.{first_there, later_there, none_there, there_cases}

-- a name stands once, so no double has that of a file
no_such_name : (some : List Listed) (one other : Listed) → Contains some other → ¬ (HasFile some (name_of one)) → name_of other ≡ name_of one → ⊥
no_such_name some one other there none same = none (there.0, other, there.1, there.2, same)

parts_named_apart : (before listed files doubled : List Listed) → PartsBehind before listed files doubled → AreApart listed → (file double : Listed) → Contains files file → Contains doubled double →
    name_of file ≡ name_of double → ⊥
parts_named_apart before [] files doubled parts apart file double of_files of_doubled same = none_there file (subst (λ (l : List Listed). Contains l file) parts.0 of_files)
parts_named_apart before (one ∷ listed) files doubled (inl is) apart file double of_files of_doubled same =
    ⊎_elim
    (λ here. no_such_name listed one file (part_is_listed before listed files is.1 is.3 file of_files) apart.0 (same ∙ ap name_of (sym here)))
    (λ later. parts_named_apart before listed files is.1 is.3 apart.1 file double of_files later same)
    (there_cases one double is.1 (subst (λ (l : List Listed). Contains l double) is.2 of_doubled))
  where
    part_is_listed : (before listed files doubled : List Listed) → PartsBehind before listed files doubled → (one : Listed) → Contains files one → Contains listed one
    part_is_listed before [] files doubled parts one there = absurd (none_there one (subst (λ (l : List Listed). Contains l one) parts.0 there))
    part_is_listed before (first ∷ listed) files doubled (inl is) one there = later_there first one listed (part_is_listed before listed files is.1 is.3 one there)
    part_is_listed before (first ∷ listed) files doubled (inr is) one there =
        ⊎_elim (λ here. subst (λ (l : Listed). Contains (first ∷ listed) l) here (first_there first listed)) (λ later. later_there first one listed (part_is_listed (before ++ first ∷ []) listed is.1 doubled is.3 one later))
        (there_cases first one is.1 (subst (λ (l : List Listed). Contains l one) is.2 there))
parts_named_apart before (one ∷ listed) files doubled (inr is) apart file double of_files of_doubled same =
    ⊎_elim
    (λ here. no_such_name listed one double (double_part_is_listed (before ++ one ∷ []) listed is.1 doubled is.3 double of_doubled) apart.0 (sym same ∙ ap name_of (sym here)))
    (λ later. parts_named_apart (before ++ one ∷ []) listed is.1 doubled is.3 apart.1 file double later of_doubled same)
    (there_cases one file is.1 (subst (λ (l : List Listed). Contains l file) is.2 of_files))
  where
    double_part_is_listed : (before listed files doubled : List Listed) → PartsBehind before listed files doubled → (one : Listed) → Contains doubled one → Contains listed one
    double_part_is_listed before [] files doubled parts one there = absurd (none_there one (subst (λ (l : List Listed). Contains l one) parts.1 there))
    double_part_is_listed before (first ∷ listed) files doubled (inr is) one there = later_there first one listed (double_part_is_listed (before ++ first ∷ []) listed is.1 doubled is.3 one there)
    double_part_is_listed before (first ∷ listed) files doubled (inl is) one there =
        ⊎_elim (λ here. subst (λ (l : Listed). Contains (first ∷ listed) l) here (first_there first listed)) (λ later. later_there first one listed (double_part_is_listed before listed files is.1 is.3 one later))
        (there_cases first one is.1 (subst (λ (l : List Listed). Contains l one) is.2 there))

pub names_apart : (listed files doubled : List Listed) → PartsBehind [] listed files doubled → AreApart listed → (file double : Listed) → Contains files file → Contains doubled double → name_of file ≡ name_of double → ⊥
names_apart listed files doubled parts apart file double of_files of_doubled same = parts_named_apart [] listed files doubled parts apart file double of_files of_doubled same
