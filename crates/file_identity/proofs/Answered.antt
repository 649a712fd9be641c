-- From what reading gave to what an asking answers.
use Rattle.std.proofs.Common.{◌≡◌, ℕ, zero, suc, ◌+◌, ◌-◌, List, [], ◌∷◌, ◌++◌, Option, Some, None, Ok, Err, IfSome, refl, sym, ap, ◌∙◌, arith}
use Rattle.std.proofs.lemmas.List.{append-nil}
use Rattle.event_tree.specs.declared.input_rule.IdentityRule.TheVariants.{Fingerprint, Native, Path}
use Rattle.outside.specs.declared.history.Look.{Look}
use Rattle.outside.specs.declared.history.Question.{Question}
use Rattle.outside.specs.declared.history.Question.TheVariants.{Length, ReadAt}
use Rattle.outside.specs.declared.history.Sight.{Sight}
use Rattle.outside.specs.Files.{File}
use Rattle.outside.specs.Tails.{TailHistory}
use Rattle.file_looks.specs.Reading.{bytes_by}
use Rattle.sha2.specs.Sha256.{sha256}
use Rattle.file_identity.proofs.OneLife.{no_key, some_key}
use Rattle.file_identity.specs.declared.fingerprint.Printed.TheVariants.{Whole, Short}
use Rattle.file_identity.specs.declared.identity.Identity.TheVariants.{Key, TooSmall}
use Rattle.file_identity.specs.declared.identity_error.IdentityError.TheVariants.{NoNative, ReadFault, NoMemory}
use Rattle.file_identity.specs.Answers.{IsAnswer, IsAsked, with_numbers}
use Rattle.file_identity.specs.Asking.{ArePartReads, AreReads, ReadsOn, given, key_if_all}
use Rattle.file_identity.specs.Key.{fingerprint_key, key_of_digest, named_key}
use Rattle.file_identity.specs.Reading.{Adds, FailedReading, GivesBytes, GivesNone, IsPrinted}

pub fingerprint_is : (id bytes digest key : List ℕ) → digest ≡ sha256 bytes → key ≡ key_of_digest id digest → key ≡ fingerprint_key id bytes
unfolding fingerprint_key
fingerprint_is id bytes digest key is named = named ∙ ap (key_of_digest id) is

-- the bytes are of the lives alone
bytes_same : (numbers : Option (ℕ × ℕ)) (file : File) (question : Question) (sight : Sight) → bytes_by (with_numbers numbers file) question sight ≡ bytes_by file question sight
bytes_same numbers file Length sight = refl
bytes_same numbers file (ReadAt at count) sight = refl

pub given_same : (numbers : Option (ℕ × ℕ)) (file : File) (looks : List Look) → given (with_numbers numbers file) looks ≡ given file looks
given_same numbers file [] = refl
given_same numbers file (look ∷ looks) = λ k. bytes_same numbers file look.question look.sight k ++ given_same numbers file looks k

pub whole_answer : (id path : List ℕ) (numbers : Option (ℕ × ℕ)) (offset count : ℕ) (told after : Option TailHistory) (digest key : List ℕ) →
    IsPrinted offset count told (Whole digest) after → key ≡ key_of_digest id digest → IsAnswer id (Fingerprint offset count) path numbers (Key key)
whole_answer id path numbers offset count told after digest key printed named =
    record { bytes = printed.0; long = printed.1; key_is = fingerprint_is id printed.0 digest key printed.2 named }

pub whole_asked : (id path : List ℕ) (numbers : Option (ℕ × ℕ)) (offset count : ℕ) (told after : Option TailHistory) (digest key : List ℕ) →
    IsPrinted offset count told (Whole digest) after → key ≡ key_of_digest id digest →
    IfSome told (λ before. IsAsked id (Fingerprint offset count) path numbers before (Ok (Key key)) after)
whole_asked id path numbers offset count told after digest key printed named = by_told told printed.3
  where
    by_told : (o : Option TailHistory) → IfSome o (λ before. GivesBytes offset count before printed.0 after) → IfSome o (λ before. IsAsked id (Fingerprint offset count) path numbers before (Ok (Key key)) after)
    by_told None gives = tt
    by_told (Some before) gives = record {
      looks = gives.looks;
      added = gives.added;
      gave = (
        gives.reads,
        ap (key_if_all id count) (given_same numbers before.file gives.looks ∙ gives.bytes_are) ∙ some_key id count printed.0 printed.1
            ∙ ap (λ (k : List ℕ). Some k) (sym (fingerprint_is id printed.0 digest key printed.2 named)),
      );
    }

pub short_answer : (id path : List ℕ) (numbers : Option (ℕ × ℕ)) (offset count place : ℕ) (told after : Option TailHistory) →
    IsPrinted offset count told (Short place) after → IsAnswer id (Fingerprint offset count) path numbers (TooSmall place)
short_answer id path numbers offset count place told after printed =
    let fewer = printed.1 in let at = printed.2 in (omega (arith, at), omega (arith, at, fewer))

pub short_asked : (id path : List ℕ) (numbers : Option (ℕ × ℕ)) (offset count place : ℕ) (told after : Option TailHistory) →
    IsPrinted offset count told (Short place) after →
    IfSome told (λ before. IsAsked id (Fingerprint offset count) path numbers before (Ok (TooSmall place)) after)
short_asked id path numbers offset count place told after printed = by_told told printed.3
  where
    by_told : (o : Option TailHistory) → IfSome o (λ before. GivesNone offset count before place printed.0 after) → IfSome o (λ before. IsAsked id (Fingerprint offset count) path numbers before (Ok (TooSmall place)) after)
    by_told None gives = tt
    by_told (Some before) gives = record {
      looks = gives.looks;
      added = gives.added;
      gave = (gives.reads, ap (key_if_all id count) (given_same numbers before.file gives.looks ∙ gives.bytes_are) ∙ no_key id count printed.0 printed.1, gives.end);
    }

-- ---- refused after all reads, out of memory, or at one

part_on : (looks : List Look) (place wanted : ℕ) → ((next left : ℕ) → AreReads looks next left → ArePartReads looks next left) → (question : Question) →
    ReadsOn place wanted (λ next left. AreReads looks next left) (looks ≡ []) question → ReadsOn place wanted (λ next left. ArePartReads looks next left) (looks ≡ []) question
part_on looks place wanted later Length reads = reads
part_on looks place wanted later (ReadAt at zero) reads = reads
part_on looks place wanted later (ReadAt at (suc more)) reads = (reads.0, reads.1, later (place + suc more) (wanted - suc more) reads.2)

pub part_of_all : (looks : List Look) (place wanted : ℕ) → AreReads looks place wanted → ArePartReads looks place wanted
part_of_all [] place wanted reads = tt
part_of_all (look ∷ looks) place wanted reads = (reads.0, part_on looks place wanted (λ next left later. part_of_all looks next left later) look.question reads.1)

pub whole_refused : (id path : List ℕ) (numbers : Option (ℕ × ℕ)) (offset count : ℕ) (told after : Option TailHistory) (digest : List ℕ) →
    IsPrinted offset count told (Whole digest) after → IfSome told (λ before. IsAsked id (Fingerprint offset count) path numbers before (Err NoMemory) after)
whole_refused id path numbers offset count told after digest printed = by_told told printed.3
  where
    by_told : (o : Option TailHistory) → IfSome o (λ before. GivesBytes offset count before printed.0 after) → IfSome o (λ before. IsAsked id (Fingerprint offset count) path numbers before (Err NoMemory) after)
    by_told None gives = tt
    by_told (Some before) gives = record { looks = gives.looks; added = gives.added; gave = part_of_all gives.looks offset count gives.reads }

pub failed_asked : (id path : List ℕ) (numbers : Option (ℕ × ℕ)) (offset count : ℕ) (told after : Option TailHistory) →
    IfSome told (λ before. FailedReading offset count before after) → IfSome told (λ before. IsAsked id (Fingerprint offset count) path numbers before (Err ReadFault) after)
failed_asked id path numbers offset count None after failed = tt
failed_asked id path numbers offset count (Some before) after failed = record { looks = failed.looks; added = failed.added; gave = failed.reads }

-- ---- without a look

no_looks : (told : TailHistory) → Adds told [] (Some told)
no_looks told = record { kept = ap (λ (l : List Look). Some (record told { looks = l })) (sym (append-nil told.looks)); shown = tt }

pub native_asked : (id path : List ℕ) (numbers : Option (ℕ × ℕ)) (told : Option TailHistory) (key : List ℕ) → named_key id Native path numbers ≡ Some key →
    IfSome told (λ before. IsAsked id Native path numbers before (Ok (Key key)) told)
native_asked id path numbers None key named = tt
native_asked id path numbers (Some before) key named = record { looks = []; added = no_looks before; gave = (refl, named) }

pub path_asked : (id path : List ℕ) (numbers : Option (ℕ × ℕ)) (told : Option TailHistory) (key : List ℕ) → named_key id Path path numbers ≡ Some key →
    IfSome told (λ before. IsAsked id Path path numbers before (Ok (Key key)) told)
path_asked id path numbers None key named = tt
path_asked id path numbers (Some before) key named = record { looks = []; added = no_looks before; gave = (refl, named) }

pub native_unknown : (id path : List ℕ) (numbers : Option (ℕ × ℕ)) (told : Option TailHistory) → IfSome told (λ before. IsAsked id Native path numbers before (Err NoNative) told)
native_unknown id path numbers None = tt
native_unknown id path numbers (Some before) = record { looks = []; added = no_looks before; gave = refl }

pub native_refused : (id path : List ℕ) (numbers : Option (ℕ × ℕ)) (told : Option TailHistory) → IfSome told (λ before. IsAsked id Native path numbers before (Err NoMemory) told)
native_refused id path numbers None = tt
native_refused id path numbers (Some before) = record { looks = []; added = no_looks before; gave = refl }

pub path_refused : (id path : List ℕ) (numbers : Option (ℕ × ℕ)) (told : Option TailHistory) → IfSome told (λ before. IsAsked id Path path numbers before (Err NoMemory) told)
path_refused id path numbers None = tt
path_refused id path numbers (Some before) = record { looks = []; added = no_looks before; gave = refl }
