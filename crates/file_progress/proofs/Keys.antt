-- Files by their keys: one file more, and the file of a key.
use Rattle.std.proofs.Common.{◌≡◌, ℕ, Bool, true, false, if◌then◌else◌, cond, List, [], ◌∷◌, ◌++◌, map, Option, None, Some, is_some, refl, sym, ap, ◌∙◌, subst}
use Rattle.std.specs.BTreeMap.{BTreeMap, get}
use Rattle.std.specs.List.{find}
use Rattle.std.specs.Option.{option_or}
use Rattle.std.specs.Ordering.{is_eq}
use Rattle.std.specs.declared.cmp.Ordering.{Ordering}
use Rattle.std.specs.declared.cmp.Ordering.TheVariants.{Less, Equal, Greater}
use Rattle.std.proofs.lemmas.List.Folds.{find-append}
use Rattle.prospect.specs.declared.listed.Listed.{Listed}
use Rattle.wire_base.proofs.ByteOrder.{compare_greater, compare_less, compare_same, same_key}
use Rattle.wire_base.specs.KeyOrder.{compare}
use Rattle.wire_base.specs.declared.row.Row.{Row}
use Rattle.file_progress.specs.Progress.{file_of, has_key, is_key, of_row}

abbrev pub ByKey : Type 0
ByKey = BTreeMap (List ℕ) Listed

-- nothing was found before the first file
pub one_file_more : (files : List Listed) (one : Listed) (old new : ByKey) → ((key : List ℕ) → get compare old key ≡ file_of files key)
    → ((key : List ℕ) → get compare new key ≡ option_or (get compare old key) (file_of (one ∷ []) key)) → (key : List ℕ) → get compare new key ≡ file_of (files ++ one ∷ []) key
one_file_more files one old new so_far more key =
    more key ∙ ap (λ (found : Option Listed). option_or found (file_of (one ∷ []) key)) (so_far key) ∙ sym (find-append (has_key key) files (one ∷ []))

or_none : (found : Option Listed) → found ≡ option_or found None
or_none None = refl
or_none (Some one) = refl

or_some : (found : Option Listed) (other : Option Listed) → is_some found ≡ true → found ≡ option_or found other
or_some None other is = absurd (let e : false ≡ true = is in cc)
or_some (Some one) other is = refl

none_of : (found : Option Listed) → is_some found ≡ false → found ≡ None
none_of None is = refl
none_of (Some one) is = absurd (let e : true ≡ false = is in cc)

-- a file without a key is no file of any
pub keyless : (one : Listed) (key : List ℕ) (found : Option Listed) → one.key ≡ None → found ≡ option_or found (file_of (one ∷ []) key)
keyless one key found none =
    or_none found ∙ ap (λ (k : Option (List ℕ)). option_or found (if is_key key k then Some one else None)) (sym none)

module _ (one : Listed) (its : List ℕ) (is : one.key ≡ Some its) (old : ByKey) where
  file_by : (key : List ℕ) → file_of (one ∷ []) key ≡ (if is_eq (compare key its) then Some one else None)
  file_by key = ap (λ (k : Option (List ℕ)). if is_key key k then Some one else None) is

  by_order : (key : List ℕ) (order : Ordering) → compare key its ≡ order → is_some (get compare old its) ≡ true → get compare old key ≡ option_or (get compare old key) (if is_eq order then Some one else None)
  by_order key Less tied there = or_none (get compare old key)
  by_order key Greater tied there = or_none (get compare old key)
  by_order key Equal tied there =
      or_some (get compare old key) (Some one) (ap (λ (k : List ℕ). is_some (get compare old k)) (same_key key its tied) ∙ there)

  -- a file with a key that is there already changes nothing
  pub known : (key : List ℕ) → is_some (get compare old its) ≡ true → get compare old key ≡ option_or (get compare old key) (file_of (one ∷ []) key)
  known key there =
      by_order key (compare key its) refl there ∙ ap (λ (found : Option Listed). option_or (get compare old key) found) (sym (file_by key))

  unlike : (key : List ℕ) (order : Ordering) → compare key its ≡ order → is_eq order ≡ false → get compare old key ≡ option_or (get compare old key) (file_of (one ∷ []) key)
  unlike key order tied differs =
      or_none (get compare old key)
      ∙ ap (λ (found : Option Listed). option_or (get compare old key) found)
      (sym (file_by key ∙ ap (λ (o : Ordering). if is_eq o then Some one else None) tied ∙ ap (λ (b : Bool). if b then Some one else None) differs))

  put_by : (key : List ℕ) (order : Ordering) → compare its key ≡ order → is_some (get compare old its) ≡ false
      → cond (is_eq order) (Some one) (get compare old key) ≡ option_or (get compare old key) (file_of (one ∷ []) key)
  put_by key Less tied absent = unlike key Greater (compare_greater its key tied) refl
  put_by key Greater tied absent = unlike key Less (compare_less its key tied) refl
  put_by key Equal tied absent =
      let same : its ≡ key = same_key its key tied in
      let none : get compare old key ≡ None = ap (get compare old) (sym same) ∙ none_of (get compare old its) absent in
      let found : file_of (one ∷ []) key ≡ Some one = file_by key ∙ ap (λ (o : Ordering). if is_eq o then Some one else None) (compare_same key its (sym same)) in
      sym (λ i. option_or (none i) (found i))

  -- a file with a new key is put with it
  pub put_anew : (new : ByKey) → is_some (get compare old its) ≡ false → ((q : List ℕ) → get compare new q ≡ cond (is_eq (compare its q)) (Some one) (get compare old q))
      → (key : List ℕ) → get compare new key ≡ option_or (get compare old key) (file_of (one ∷ []) key)
  put_anew new absent updates key = updates key ∙ put_by key (compare its key) refl absent

-- the rows with the files of their keys
pub rows_by : (found : ByKey) (files : List Listed) (rows : List Row) → ((key : List ℕ) → get compare found key ≡ file_of files key)
    → map (λ row. of_row row (get compare found row.key)) rows ≡ map (λ row. of_row row (file_of files row.key)) rows
rows_by found files rows same = λ i. map (λ row. of_row row (same row.key i)) rows
