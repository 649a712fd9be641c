-- What the marks of all members make of the known files, and which files no member showed.
use Rattle.std.proofs.Common.{◌≡◌, ℕ, Bool, true, false, ◌&&◌, List, [], ◌∷◌, ◌++◌, map, Option, Some, None, is_none, unwrap_or, refl, sym, ap, ◌∙◌, if◌then◌else◌}
use Rattle.std.specs.Prelude.{flat_map}
use Rattle.std.specs.Str.{bytes_eq}
use Rattle.std.proofs.lemmas.List.{map-append}
use Rattle.std.proofs.lemmas.Slice.Eq.{bytes_eq-Decides}
use Rattle.prospector_core.specs.declared.change.Change.TheVariants.{Removed}
use Rattle.prospector_core.specs.declared.known.Known.{Known}
use Rattle.prospector_core.specs.declared.marks.Mark.TheVariants.{Held, Shown}
use Rattle.prospector_core.specs.declared.marks.Watched.{Watched}
use Rattle.prospector_core.specs.declared.seen.Seen.{Seen}
use Rattle.prospector_core.specs.Changes.{file_after, file_shown, is_held, removal}
use Rattle.prospector_core.specs.KnownFiles.{first_with}
use Rattle.prospector_core.specs.Marks.{cleared, file_of, files_of, keys_of, mark_by, other_path, removal_by, settled_file, settled_one, unseen_removal, watched_by}
use Rattle.prospector_core.specs.Told.{begun}

pub map_map : {X Y Z : Type 0} (f : Y → Z) (g : X → Y) (xs : List X) → map f (map g xs) ≡ map (λ x. f (g x)) xs
map_map f g [] = refl
map_map f g (x ∷ xs) = ap (λ l. f (g x) ∷ l) (map_map f g xs)

map_itself : {X : Type 0} (f : X → X) → ((x : X) → f x ≡ x) → (xs : List X) → map f xs ≡ xs
map_itself f same [] = refl
map_itself f same (x ∷ xs) = λ k. same x k ∷ map_itself f same xs k

pub map_agree : {X Y : Type 0} (f g : X → Y) → ((x : X) → f x ≡ g x) → (xs : List X) → map f xs ≡ map g xs
map_agree f g same [] = refl
map_agree f g same (x ∷ xs) = λ k. same x k ∷ map_agree f g same xs k

pub files-cleared : (watched : List Watched) → files_of (map cleared watched) ≡ files_of watched
files-cleared watched = map_map file_of cleared watched

pub keys-files : (watched : List Watched) → keys_of watched ≡ map (λ file. file.key) (files_of watched)
keys-files watched = sym (map_map (λ (file : Known). file.key) file_of watched)

pub files-watched : (clean : List Bool) (seen : List Seen) (files : List Known) → files_of (map (watched_by clean seen) files) ≡ files
files-watched clean seen files = map_map file_of (watched_by clean seen) files ∙ map_itself (λ file. file) (λ file. refl) files

path_is : (file : Known) (member : Seen) → unwrap_or (other_path file member) file.path ≡ member.path
path_is file member = by_case (bytes_eq file.path member.path) refl
  where
    by_case : (b : Bool) → bytes_eq file.path member.path ≡ b → unwrap_or (if b then None else Some member.path) file.path ≡ member.path
    by_case true e = (bytes_eq-Decides file.path member.path).0 e
    by_case false e = refl

pub settled_is : (clean : List Bool) (whole : Bool) (file : Known) (first : Option Seen) → settled_file whole file (mark_by clean file first) ≡ file_shown clean whole file first
settled_is clean whole file None = refl
settled_is clean whole file (Some member) = by_case (is_held clean file)
  where
    by_case : (b : Bool) → settled_file whole file (if b then Held else Shown member.size (other_path file member))
        ≡ (if b then file else record file { path = member.path; size = member.size; present = true })
    by_case true = refl
    by_case false = ap (λ (path : List ℕ). record file { path = path; size = member.size; present = true }) (path_is file member)

pub files-settled : (clean : List Bool) (whole : Bool) (seen : List Seen) (files created : List Known) →
    files_of (map (settled_one whole) (map (watched_by clean seen) files ++ map begun created)) ≡ map (file_after clean whole seen) files ++ created
files-settled clean whole seen files created =
    ap files_of (map-append (settled_one whole) (map (watched_by clean seen) files) (map begun created))
    ∙ map-append file_of (map (settled_one whole) (map (watched_by clean seen) files)) (map (settled_one whole) (map begun created))
    ∙ (λ k. shown k ++ added k)
  where
    shown : map file_of (map (settled_one whole) (map (watched_by clean seen) files)) ≡ map (file_after clean whole seen) files
    shown =
        ap (map file_of) (map_map (settled_one whole) (watched_by clean seen) files)
        ∙ map_map file_of (λ file. settled_one whole (watched_by clean seen file)) files
        ∙ map_agree (λ file. file_of (settled_one whole (watched_by clean seen file))) (file_after clean whole seen)
        (λ file. settled_is clean whole file (first_with file.key seen)) files

    added : map file_of (map (settled_one whole) (map begun created)) ≡ created
    added =
        ap (map file_of) (map_map (settled_one whole) begun created)
        ∙ map_map file_of (λ file. settled_one whole (begun file)) created
        ∙ map_itself (λ file. file) (λ file. refl) created

-- ---- removed

removal_is : (clean : List Bool) (seen : List Seen) (file : Known) → unseen_removal (watched_by clean seen file) ≡ removal seen file
removal_is clean seen file = by_first (first_with file.key seen)
  where
    unseen : (b : Bool) → (if b then Removed file.slot ∷ [] else []) ≡ (if b && true then Removed file.slot ∷ [] else [])
    unseen true = refl
    unseen false = refl

    none : (b : Bool) → [] ≡ (if b && false then Removed file.slot ∷ [] else [])
    none true = refl
    none false = refl

    shown : (b : Bool) (member : Seen) → removal_by file (if b then Held else Shown member.size (other_path file member)) ≡ []
    shown true member = refl
    shown false member = refl

    by_first : (first : Option Seen) → removal_by file (mark_by clean file first) ≡ (if file.present && is_none first then Removed file.slot ∷ [] else [])
    by_first None = unseen file.present
    by_first (Some member) = shown (is_held clean file) member ∙ none file.present

pub removals_are : (clean : List Bool) (seen : List Seen) (files : List Known) → flat_map unseen_removal (map (watched_by clean seen) files) ≡ flat_map (removal seen) files
removals_are clean seen [] = refl
removals_are clean seen (file ∷ files) = λ k. removal_is clean seen file k ++ removals_are clean seen files k
