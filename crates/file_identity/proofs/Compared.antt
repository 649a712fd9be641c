-- Whether a key is the one of a fingerprint: by its text, and from what reading gave to what an asking answers.
use Rattle.std.proofs.Common.{◌≡◌, ◌≢◌, ℕ, Bool, true, false, List, ◌++◌, Option, Some, None, Ok, Err, IfSome, codes, refl, sym, ap, ◌∙◌, append_assoc}
use Rattle.std.proofs.lemmas.List.{append_cancel_left}
use Rattle.event_tree.specs.declared.input_rule.IdentityRule.TheVariants.{Fingerprint}
use Rattle.hex.specs.Hex.{encode_lower}
use Rattle.outside.specs.declared.failed.Failed.{Failed}
use Rattle.outside.specs.Tails.{TailHistory}
use Rattle.sha2.specs.Sha256.{sha256}
use Rattle.file_identity.specs.declared.fingerprint.Printed.TheVariants.{Whole, Short}
use Rattle.file_identity.specs.Answers.{IsCompared, IsOfBytes, with_numbers}
use Rattle.file_identity.specs.Asking.{given, key_if_all}
use Rattle.file_identity.specs.Key.{fingerprint_key, key_of_digest}
use Rattle.file_identity.specs.Reading.{FailedReading, GivesBytes, GivesNone, IsPrinted}
use Rattle.file_identity.proofs.Answered.{fingerprint_is, given_same}
use Rattle.file_identity.proofs.OneLife.{no_key, some_key}

-- ---- the key's text, in three parts

abbrev word : List ℕ
word = codes "filestream::"

abbrev kind : List ℕ
kind = codes "::fingerprint::"

parts : (id digest : List ℕ) → key_of_digest id digest ≡ word ++ (id ++ (kind ++ encode_lower digest))
parts id digest = simp append_assoc

pub has_parts : (id digest key behind rest digits : List ℕ) → key ≡ word ++ behind → behind ≡ id ++ rest → rest ≡ kind ++ digits → digits ≡ encode_lower digest → key ≡ key_of_digest id digest
has_parts id digest key behind rest digits first second third same =
    first ∙ ap (λ (l : List ℕ). word ++ l) (second ∙ ap (λ (l : List ℕ). id ++ l) (third ∙ ap (λ (l : List ℕ). kind ++ l) same)) ∙ sym (parts id digest)

behind_word : (id digest key behind : List ℕ) → key ≡ word ++ behind → key ≡ key_of_digest id digest → behind ≡ id ++ (kind ++ encode_lower digest)
behind_word id digest key behind first is = append_cancel_left word behind (id ++ (kind ++ encode_lower digest)) (sym first ∙ is ∙ parts id digest)

behind_id : (id digest key behind rest : List ℕ) → key ≡ word ++ behind → behind ≡ id ++ rest → key ≡ key_of_digest id digest → rest ≡ kind ++ encode_lower digest
behind_id id digest key behind rest first second is = append_cancel_left id rest (kind ++ encode_lower digest) (sym second ∙ behind_word id digest key behind first is)

pub behind_kind : (id digest key behind rest digits : List ℕ) → key ≡ word ++ behind → behind ≡ id ++ rest → rest ≡ kind ++ digits → key ≡ key_of_digest id digest → digits ≡ encode_lower digest
behind_kind id digest key behind rest digits first second third is = append_cancel_left kind digits (encode_lower digest) (sym third ∙ behind_id id digest key behind rest first second is)

pub lacks_id : (id digest key behind : List ℕ) → key ≡ word ++ behind → ((rest : List ℕ) → behind ≢ id ++ rest) → key ≢ key_of_digest id digest
lacks_id id digest key behind first lacks is = lacks (kind ++ encode_lower digest) (behind_word id digest key behind first is)

-- ---- what was asked

-- the key is this digest's, if the test says so
abbrev pub Tests : Bool → List ℕ → List ℕ → List ℕ → Type 0
Tests same id digest key = (same ≡ true → key ≡ key_of_digest id digest) × (key ≡ key_of_digest id digest → same ≡ true)

pub whole_has : (id : List ℕ) (offset count : ℕ) (told after : Option TailHistory) (digest key : List ℕ) (same : Bool) →
    IsPrinted offset count told (Whole digest) after → Tests same id digest key → same ≡ true → IsOfBytes id count key
whole_has id offset count told after digest key same printed tests is =
    record { bytes = printed.0; long = printed.1; key_is = fingerprint_is id printed.0 digest key printed.2 (tests.0 is) }

unfolded : (id bytes digest : List ℕ) → digest ≡ sha256 bytes → fingerprint_key id bytes ≡ key_of_digest id digest
unfolded id bytes digest is = sym (fingerprint_is id bytes digest (key_of_digest id digest) is refl)

pub whole_compared : (id : List ℕ) (numbers : Option (ℕ × ℕ)) (offset count : ℕ) (told after : Option TailHistory) (digest key : List ℕ) (same : Bool) →
    IsPrinted offset count told (Whole digest) after → Tests same id digest key →
    IfSome told (λ before. IsCompared id (Fingerprint offset count) key numbers before (Ok same) after)
whole_compared id numbers offset count told after digest key same printed tests = by_told told printed.3
  where
    gave : (before : TailHistory) (gives : GivesBytes offset count before printed.0 after) →
        key_if_all id count (given (with_numbers numbers before.file) gives.looks) ≡ Some (key_of_digest id digest)
    gave before gives =
        ap (key_if_all id count) (given_same numbers before.file gives.looks ∙ gives.bytes_are) ∙ some_key id count printed.0 printed.1
        ∙ ap (λ (k : List ℕ). Some k) (unfolded id printed.0 digest printed.2)

    by_test : (before : TailHistory) → GivesBytes offset count before printed.0 after → (b : Bool) → Tests b id digest key →
        IsCompared id (Fingerprint offset count) key numbers before (Ok b) after
    by_test before gives true test = record {
      looks = gives.looks;
      added = gives.added;
      same = λ path. (gives.reads, gave before gives ∙ ap (λ (k : List ℕ). Some k) (sym (test.0 refl)));
    }
    by_test before gives false test = record {
      looks = gives.looks;
      added = gives.added;
      same = λ path. (
        gives.reads,
        λ is. let named : Some key ≡ Some (key_of_digest id digest) = sym is ∙ gave before gives in
            let no : false ≡ true = test.1 cc in cc,
      );
    }

    by_told : (o : Option TailHistory) → IfSome o (λ before. GivesBytes offset count before printed.0 after) → IfSome o (λ before. IsCompared id (Fingerprint offset count) key numbers before (Ok same) after)
    by_told None gives = tt
    by_told (Some before) gives = by_test before gives same tests

pub short_compared : (id : List ℕ) (numbers : Option (ℕ × ℕ)) (offset count place : ℕ) (told after : Option TailHistory) (key : List ℕ) →
    IsPrinted offset count told (Short place) after → IfSome told (λ before. IsCompared id (Fingerprint offset count) key numbers before (Ok false) after)
short_compared id numbers offset count place told after key printed = by_told told printed.3
  where
    by_told : (o : Option TailHistory) → IfSome o (λ before. GivesNone offset count before place printed.0 after) → IfSome o (λ before. IsCompared id (Fingerprint offset count) key numbers before (Ok false) after)
    by_told None gives = tt
    by_told (Some before) gives =
        let none : key_if_all id count (given (with_numbers numbers before.file) gives.looks) ≡ None =
        ap (key_if_all id count) (given_same numbers before.file gives.looks ∙ gives.bytes_are) ∙ no_key id count printed.0 printed.1 in
        record {
          looks = gives.looks;
          added = gives.added;
          same = λ path. (gives.reads, λ is. let no : Some key ≡ None = sym is ∙ none in cc);
        }

pub failed_compared : (id : List ℕ) (numbers : Option (ℕ × ℕ)) (offset count : ℕ) (told after : Option TailHistory) (key : List ℕ) (failed : Failed) →
    IfSome told (λ before. FailedReading offset count before after) → IfSome told (λ before. IsCompared id (Fingerprint offset count) key numbers before (Err failed) after)
failed_compared id numbers offset count None after key failed cut = tt
failed_compared id numbers offset count (Some before) after key failed cut = record { looks = cut.looks; added = cut.added; same = λ path. cut.reads }
