-- What a part of a document is where nothing is wrong with it.
use Rattle.std.proofs.Common.{◌≡◌, ℕ, ℤ, suc, pos, negsuc, Bool, true, false, ◌&&◌, List, [], ◌∷◌, ◌++◌, length, All, Option, Some, None, refl, ap, inl, inr, is_some, unwrap_or, option_and_then, nat_le, if◌then◌else◌, ◌+◌}
use Rattle.std.specs.Int.{IsInRange}
use Rattle.std.specs.List.{cons_option}
use Rattle.std.specs.Option.{IfSome}
use Rattle.std.proofs.lemmas.Bool.{and_parts, leb-true, cases_Bool}
use Rattle.std.proofs.lemmas.List.Elements.{All-nil, All-cons}
use Rattle.toml.specs.Data.{Data, Items, no_items, item, Members, get_member, as_str, as_table}
use Rattle.beat_config.specs.declared.settings_error.SettingsError.{SettingsError}
use Rattle.beat_config.specs.declared.text.Form.{Form}
use Rattle.beat_config.specs.Duration.{milliseconds}
use Rattle.beat_config.specs.Single.{limits, number_in, range_findings, duration_in}
use Rattle.beat_config.specs.Table.{members_or_none, members_of, missing_findings, as_table_findings, table_findings}
use Rattle.beat_config.specs.Text.{text_findings, found_findings, member_findings, item_count, texts_in}

-- parts of which the whole has no fault have none
pub parts : (xs ys : List SettingsError) → xs ++ ys ≡ [] → (xs ≡ []) × (ys ≡ [])
parts [] ys h = (refl, h)
parts (x ∷ xs) ys h = absurd (cc)

pub passed : (test : Bool) (fault : SettingsError) → (if test then [] else fault ∷ []) ≡ [] → test ≡ true
passed true fault h = refl
passed false fault h = absurd (cc)

pub not_passed : (test : Bool) (fault : SettingsError) → (if test then fault ∷ [] else []) ≡ [] → test ≡ false
not_passed true fault h = absurd (cc)
not_passed false fault h = refl

-- a required key is there
pub required : (path key : List ℕ) (keys : List (List ℕ)) (table : Members) → missing_findings path (key ∷ keys) table ≡ []
    → (is_some (get_member key table) ≡ true) × (missing_findings path keys table ≡ [])
required path key keys table h =
    let both = parts _ (missing_findings path keys table) h in
    (passed _ _ both.0, both.1)

as_table_required : (path : List ℕ) (known keys : List (List ℕ)) (found : Option Members) → as_table_findings path known keys found ≡ []
    → missing_findings path keys (members_or_none found) ≡ []
as_table_required path known keys None h = absurd (cc)
as_table_required path known keys (Some table) h = (parts _ (missing_findings path keys table) h).1

pub table_required : (path : List ℕ) (known keys : List (List ℕ)) (value : Data) → table_findings path known keys value ≡ []
    → missing_findings path keys (members_of value) ≡ []
table_required path known keys value h = as_table_required path known keys (as_table value) h

pub tested : (low high number : ℕ) → (nat_le low number && nat_le number high) ≡ true → IsInRange low high number
tested low high number h = let both = and_parts _ _ h in (leb-true low number both.0, leb-true number high both.1)

-- a number within limits is in their range, and a default takes the place of each other
pub number_within : (low high : ℕ) (number : ℤ) → IfSome (number_in (limits low high) number) (IsInRange low high)
number_within low high (pos number) = elim (cases_Bool (nat_le low number && nat_le number high)) [
  | inl within ↦ rw within (tested low high number within)
  | inr without ↦ rw without tt
]
number_within low high (negsuc number) = tt

pub if_then : {X Y : Type 0} (P : Y → Type 0) (step : X → Option Y) (found : Option X) → ((x : X) → IfSome (step x) P) → IfSome (option_and_then step found) P
if_then {X} {Y} P step None each = tt
if_then {X} {Y} P step (Some x) each = each x

pub duration_within : (low high : ℕ) (text : List ℕ) → IfSome (duration_in (limits low high) text) (IsInRange low high)
duration_within low high text =
    if_then (IsInRange low high) (λ number. number_in (limits low high) (pos number)) (milliseconds text) (λ number. number_within low high (pos number))

pub or_default : (P : ℕ → Type 0) (found : Option ℕ) (default : ℕ) → IfSome found P → P default → P (unwrap_or found default)
or_default P None default h there = there
or_default P (Some number) default h there = h

-- a count without a fault is in its range
pub count_within : (low high : ℕ) (key : List ℕ) (count : ℕ) → range_findings (limits low high) key (pos count) ≡ [] → IsInRange low high count
count_within low high key count h = elim (cases_Bool (nat_le low count && nat_le count high)) [
  | inl within ↦ tested low high count within
  | inr without ↦ absurd (let wrong = rw without at h in cc)
]

module _ (P : List ℕ → Type 0) (form : Form) (each : (key text : List ℕ) → text_findings form key text ≡ [] → P text) where
  text_more : (key : List ℕ) (found : Option (List ℕ)) (texts : List (List ℕ)) (count : ℕ) → found_findings form key found ≡ []
      → All P texts × (length texts ≡ count) → All P (cons_option found texts) × (length (cons_option found texts) ≡ suc count)
  text_more key None texts count h so_far = absurd (cc)
  text_more key (Some text) texts count h so_far = (All-cons P text texts (each key text h) so_far.0, ap suc so_far.1)

  -- the texts of a list without a fault are as many as its members, each of its form
  pub texts_within : (key : List ℕ) (number : ℕ) (items : Items) → member_findings form key number items ≡ []
      → All P (texts_in items) × (length (texts_in items) ≡ item_count items)
  texts_within key number no_items h = (All-nil P, refl)
  texts_within key number (item value items) h =
      let both = parts _ (member_findings form key (number + 1) items) h in
      text_more _ (as_str value) (texts_in items) (item_count items) both.0 (texts_within key (number + 1) items both.1)
