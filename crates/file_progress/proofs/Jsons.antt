-- The data of a look has no float, so that its text is known, and nests little, so that the text can be read back.
use Rattle.std.proofs.Common.{◌≡◌, ℕ, false, List, [], ◌∷◌, ◌++◌, ◌+◌, ◌<◌, ◌≤◌, arith, length, map, take, get_or, Option, None, Some, refl, ap, ◌∙◌}
use Rattle.std.proofs.lemmas.List.{map-append}
use Rattle.serde_json.specs.Data.{Data, depth, items_depth}
use Rattle.serde_json.specs.Read.{max_depth}
use Rattle.serde_json.specs.View.{items_of, view}
use Rattle.serde_json.specs.Written.{has_float, items_have_float}
use Rattle.serde_json.specs.declared.value.Value.{Value}
use Rattle.wire_base.specs.declared.numbers.Moment.{Moment}
use Rattle.file_progress.specs.Json.{age_data, file_data, moment_data, number_data, overview_data, text_data}
use Rattle.file_progress.specs.declared.overview.Overview.{Overview}
use Rattle.file_progress.specs.declared.progress.Progress.{Progress}
use Rattle.file_progress.proofs.Lists.{mapped_more}

no_number : (number : Option ℕ) → has_float (number_data number) ≡ false
no_number None = refl
no_number (Some number) = refl

no_text : (text : Option (List ℕ)) → has_float (text_data text) ≡ false
no_text None = refl
no_text (Some text) = refl

no_moment : (moment : Option Moment) → has_float (moment_data moment) ≡ false
no_moment None = refl
no_moment (Some moment) = refl

no_age : (now : ℕ) (moment : Option Moment) → has_float (age_data now moment) ≡ false
no_age now None = refl
no_age now (Some moment) = refl

no_file : (one : Progress) → has_float (file_data one) ≡ false
no_file one = rw (no_number one.behind, no_text one.key, no_number one.size) refl

no_files : (files : List Progress) → items_have_float (items_of (map file_data files)) ≡ false
no_files [] = refl
no_files (one ∷ files) = rw (no_file one, no_files files) refl

pub no_float : (overview : Overview) → has_float (overview_data overview) ≡ false
no_float overview = rw (no_age overview.moment.0 overview.committed, no_moment overview.committed, no_files overview.files.items, no_number overview.generation) refl

flat_number : (number : Option ℕ) → depth (number_data number) ≡ 0
flat_number None = refl
flat_number (Some number) = refl

flat_text : (text : Option (List ℕ)) → depth (text_data text) ≡ 0
flat_text None = refl
flat_text (Some text) = refl

flat_moment : (moment : Option Moment) → depth (moment_data moment) ≡ 0
flat_moment None = refl
flat_moment (Some moment) = refl

flat_age : (now : ℕ) (moment : Option Moment) → depth (age_data now moment) ≡ 0
flat_age now None = refl
flat_age now (Some moment) = refl

shallow_file : (one : Progress) → depth (file_data one) ≡ 1
shallow_file one = rw (flat_number one.behind, flat_text one.key, flat_number one.size) refl

shallow_files : (files : List Progress) → items_depth (items_of (map file_data files)) ≤ 1
shallow_files [] = omega arith
shallow_files (one ∷ files) = omega (arith, shallow_file one, shallow_files files)

pub shallow : (overview : Overview) → depth (overview_data overview) ≤ max_depth
shallow overview =
    omega (arith, flat_age overview.moment.0 overview.committed, flat_moment overview.committed, shallow_files overview.files.items, flat_number overview.generation)

-- one value more
pub viewed_more : (values : List Value) (value : Value) (files : List Progress) (i : ℕ) (one : Progress) → i < length files → one ≡ get_or files i one → map view values ≡ map file_data (take i files)
    → view value ≡ file_data one → map view (values ++ value ∷ []) ≡ map file_data (take (i + 1) files)
viewed_more values value files i one below is so_far made =
    map-append view values (value ∷ []) ∙ ap (λ (d : Data). map view values ++ d ∷ []) made ∙ mapped_more files i one below is file_data (map view values) so_far
