-- A key that an asking gave is one of its input, whether or not it is known without a look into the file: two inputs whose ids have no colon,
-- and that have one key, have one id.
use Rattle.std.proofs.Common.{◌≡◌, ℕ, ◌==◌, Bool, true, false, List, [], ◌∷◌, ◌++◌, length, codes, Option, None, Some, if◌then◌else◌, refl, sym, ap, subst, ◌∙◌}
use Rattle.std.proofs.lemmas.List.{append_cancel_left}
use Rattle.std.specs.Prelude.{decimal}
use Rattle.event_tree.specs.declared.input_rule.IdentityRule.{IdentityRule}
use Rattle.event_tree.specs.declared.input_rule.IdentityRule.TheVariants.{Fingerprint, Native, Path}
use Rattle.event_tree.specs.declared.input_rule.InputRule.{InputRule}
use Rattle.file_identity.specs.Asking.{given, given_key}
use Rattle.file_identity.specs.Key.{fingerprint_key, key_by, named_key, native_key, path_key}
use Rattle.kept_rows.proofs.Keys.{HasNoColon, path_key_of_input}
use Rattle.kept_rows.specs.Followed.{IsKeyOf}
use Rattle.kept_rows.specs.Scans.{Gave}
use Rattle.kept_rows.specs.Trace.{Trace}
use Rattle.outside.specs.Files.{File}
use Rattle.outside.specs.declared.history.Look.{Look}
use Rattle.outside.specs.declared.history.Shown.{Shown}

-- ---- of one input

-- what is before the first colon
same_front : (first second behind after : List ℕ) → HasNoColon first → HasNoColon second → first ++ 58 ∷ behind ≡ second ++ 58 ∷ after → first ≡ second
same_front [] [] behind after none none_there is = refl
same_front [] (byte ∷ second) behind after none none_there is =
    let q : 58 ∷ behind ≡ byte ∷ (second ++ 58 ∷ after) = is in
    let colon : byte ≡ 58 = cc in
    absurd (none_there.0 colon)
same_front (byte ∷ first) [] behind after none none_there is =
    let q : byte ∷ (first ++ 58 ∷ behind) ≡ 58 ∷ after = is in
    let colon : byte ≡ 58 = cc in
    absurd (none.0 colon)
same_front (byte ∷ first) (other ∷ second) behind after none none_there is =
    let q : byte ∷ (first ++ 58 ∷ behind) ≡ other ∷ (second ++ 58 ∷ after) = is in
    let same : byte ≡ other = cc in
    let rest : first ++ 58 ∷ behind ≡ second ++ 58 ∷ after = cc in
    ap (λ (n : ℕ). n ∷ first) same ∙ ap (λ (l : List ℕ). other ∷ l) (same_front first second behind after none.1 none_there.1 rest)

pub same_id : (id other key : List ℕ) → HasNoColon id → HasNoColon other → IsKeyOf id key → IsKeyOf other key → id ≡ other
same_id id other key none none_there of also =
    same_front id other (codes ":" ++ of.rest) (codes ":" ++ also.rest) none none_there
    (append_cancel_left (codes "filestream::") (id ++ (codes "::" ++ of.rest)) (other ++ (codes "::" ++ also.rest)) (sym of.spelled ∙ also.spelled))

-- ---- keys that are known without a look

behind_the_id : (id kind value : List ℕ) → id ++ codes "::" ++ kind ++ codes "::" ++ value ≡ id ++ (codes "::" ++ (kind ++ codes "::" ++ value))
behind_the_id [] kind value = refl
behind_the_id (byte ∷ id) kind value = ap (λ (l : List ℕ). byte ∷ l) (behind_the_id id kind value)

key_of_input : (id kind value : List ℕ) → IsKeyOf id (key_by id kind value)
key_of_input id kind value = record { rest = kind ++ codes "::" ++ value; spelled = ap (λ (l : List ℕ). codes "filestream::" ++ l) (behind_the_id id kind value) }

pub native_key_of_input : (id : List ℕ) (numbers : ℕ × ℕ) → IsKeyOf id (native_key id numbers)
native_key_of_input id numbers = key_of_input id (codes "native") (decimal numbers.0 ++ codes "-" ++ decimal numbers.1)

pub named_key_of_input : (id : List ℕ) (rule : IdentityRule) (path : List ℕ) (numbers : Option (ℕ × ℕ)) (key : List ℕ) → named_key id rule path numbers ≡ Some key → IsKeyOf id key
named_key_of_input id (Fingerprint offset count) path numbers key is = absurd (let q : None ≡ Some key = is in cc)
named_key_of_input id Native path None key is = absurd (let q : None ≡ Some key = is in cc)
named_key_of_input id Native path (Some both) key is =
    let q : Some (native_key id both) ≡ Some key = is in
    let same : native_key id both ≡ key = cc in
    subst (IsKeyOf id) same (native_key_of_input id both)
named_key_of_input id Path path numbers key is =
    let q : Some (path_key id path) ≡ Some key = is in
    let same : path_key id path ≡ key = cc in
    subst (IsKeyOf id) same (path_key_of_input id path)

pub named_keys_of_one_id : (id other : List ℕ) (rule another : IdentityRule) (path q : List ℕ) (numbers m : Option (ℕ × ℕ)) (key : List ℕ) → HasNoColon id → HasNoColon other →
    named_key id rule path numbers ≡ Some key → named_key other another q m ≡ Some key → id ≡ other
named_keys_of_one_id id other rule another path q numbers m key none none_there is and =
    same_id id other key none none_there (named_key_of_input id rule path numbers key is) (named_key_of_input other another q m key and)

-- ---- keys that are asked of the open file

fingerprint_key_of_input : (id bytes : List ℕ) → IsKeyOf id (fingerprint_key id bytes)
unfolding fingerprint_key
fingerprint_key_of_input id bytes = key_of_input id (codes "fingerprint") _

pub given_key_of_input : (id : List ℕ) (rule : IdentityRule) (path : List ℕ) (file : File) (looks : List Look) (key : List ℕ) → given_key id rule path file looks ≡ Some key → IsKeyOf id key
given_key_of_input id (Fingerprint offset count) path file looks key is = by_case (length (given file looks) == count) is
  where
    by_case : (b : Bool) → (if b then Some (fingerprint_key id (given file looks)) else None) ≡ Some key → IsKeyOf id key
    by_case true gave =
        let q : Some (fingerprint_key id (given file looks)) ≡ Some key = gave in
        let same : fingerprint_key id (given file looks) ≡ key = cc in
        subst (IsKeyOf id) same (fingerprint_key_of_input id (given file looks))
    by_case false gave = absurd (let q : None ≡ Some key = gave in cc)
given_key_of_input id Native path file looks key is = named_key_of_input id Native path file.numbers key is
given_key_of_input id Path path file looks key is = named_key_of_input id Path path file.numbers key is

pub given_keys_of_one_id : (id other : List ℕ) (rule another : IdentityRule) (path q : List ℕ) (file f : File) (looks l : List Look) (key : List ℕ) → HasNoColon id → HasNoColon other →
    given_key id rule path file looks ≡ Some key → given_key other another q f l ≡ Some key → id ≡ other
given_keys_of_one_id id other rule another path q file f looks l key none none_there is and =
    same_id id other key none none_there (given_key_of_input id rule path file looks key is) (given_key_of_input other another q f l key and)

-- a key that was given for an entry, by itself or by a tail that was opened for it
pub key_of_entry : (trace : Trace) (rule : InputRule) (shown : Shown) (opening : Option ℕ) (key : List ℕ) (number : ℕ) → Gave trace rule shown opening (Some key) number → IsKeyOf rule.id key
key_of_entry trace rule shown None key number gave = named_key_of_input rule.id rule.file_identity shown.entry.path shown.entry.native key (sym gave.gave)
key_of_entry trace rule shown (Some opening) key number gave = given_key_of_input rule.id rule.file_identity shown.entry.path gave.file gave.looks key (sym gave.gave)
