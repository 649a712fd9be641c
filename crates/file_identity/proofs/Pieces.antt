-- The reads of a fingerprint, one piece after the other.
use Rattle.std.proofs.Common.{◌≡◌, ℕ, zero, suc, ◌+◌, ◌-◌, ◌<◌, ◌≤◌, min, true, false, List, [], ◌∷◌, ◌++◌, length, take, drop, Option, Some, None, Result, Ok, Err, IfSome, IsNone, IsSome, refl, sym, ap, subst, ◌∙◌, append_assoc, length-append, length-drop, length-take-le, arith, rules}
use Rattle.std.proofs.lemmas.List.{append-nil}
use Rattle.std.proofs.lemmas.List.Concat.{flat_map-append}
use Rattle.outside.specs.declared.failed.Failed.{Failed}
use Rattle.outside.specs.declared.history.Look.{Look}
use Rattle.outside.specs.declared.history.Question.{Question}
use Rattle.outside.specs.declared.history.Question.TheVariants.{ReadAt}
use Rattle.outside.specs.declared.history.Sight.{Sight}
use Rattle.outside.specs.Files.{File, IsNoEarlier, latest}
use Rattle.outside.specs.Tails.{LooksAtBytes, TailHistory, TellsBytes, TellsRead, last_sight}
use Rattle.file_looks.specs.Looks.{AreLooks, IsAnswered, IsLook}
use Rattle.file_looks.specs.Reading.{bytes_by}
use Rattle.sha2.specs.declared.Sha256.{Sha256}
use Rattle.sha2.specs.Hashers.{Holds256}
use Rattle.sha2.specs.Sha256.{sha256}
use Rattle.file_identity.specs.declared.fingerprint.Printed.TheVariants.{Whole, Short}
use Rattle.file_identity.specs.Asking.{AreCutReads, AreReads, ReadsOn, given}
use Rattle.file_identity.specs.Reading.{Adds, FailedReading, GivesBytes, GivesNone, IsPrinted}

-- these bytes came so far, and what further reads make of it
pub record SoFar (told : TailHistory) (offset count : ℕ) (bytes : List ℕ) (after : Option TailHistory) : Type 0 where
  pub looks : List Look
  pub added : Adds told looks after
  pub bytes_are : given told.file looks ≡ bytes
  pub more : (rest : List Look) → AreReads rest (offset + length bytes) (count - length bytes) → AreReads (looks ++ rest) offset count
  pub cut : (rest : List Look) → AreCutReads rest (offset + length bytes) (count - length bytes) → AreCutReads (looks ++ rest) offset count

-- the hasher has them
pub record HasRead (told : Option TailHistory) (offset count done : ℕ) (hasher : Sha256) (after : Option TailHistory) : Type 0 where
  pub bytes : List ℕ
  pub held : Holds256 hasher bytes
  pub long : length bytes ≡ done
  pub so_far : IfSome told (λ before. SoFar before offset count bytes after)

none_so_far : (told : TailHistory) (offset count : ℕ) → SoFar told offset count [] (Some told)
none_so_far told offset count = record {
  looks = [];
  added = record { kept = ap (λ (l : List Look). Some (record told { looks = l })) (sym (append-nil told.looks)); shown = tt };
  bytes_are = refl;
  more = λ rest reads. subst (λ (n : ℕ). AreReads rest n count) start (subst (λ (n : ℕ). AreReads rest (offset + 0) n) all reads);
  cut = λ rest reads. subst (λ (n : ℕ). AreCutReads rest n count) start (subst (λ (n : ℕ). AreCutReads rest (offset + 0) n) all reads);
}
  where
    start : offset + 0 ≡ offset
    start = omega arith

    all : count - 0 ≡ count
    all = omega arith

pub none_read : (told : Option TailHistory) (offset count : ℕ) (hasher : Sha256) → Holds256 hasher [] → HasRead told offset count 0 hasher told
none_read told offset count hasher held = record { bytes = []; held = held; long = refl; so_far = by_told told }
  where
    by_told : (o : Option TailHistory) → IfSome o (λ before. SoFar before offset count [] o)
    by_told None = tt
    by_told (Some before) = none_so_far before offset count

-- ---- one look

some_bytes : (told : TailHistory) (at : ℕ) (piece : List ℕ) (number : ℕ) (after : Option TailHistory) → 0 < length piece → TellsBytes told at piece number after → LooksAtBytes told at piece number after
some_bytes told at [] number after some tells = absurd (omega (arith, some))
some_bytes told at (byte ∷ piece) number after some tells = tells

latest-append : (sight : Sight) (looks more : List Look) → latest sight (looks ++ more) ≡ latest (latest sight looks) more
latest-append sight [] more = refl
latest-append sight (look ∷ looks) more = latest-append look.sight looks more

looks-push : (file : File) (before : Sight) (looks : List Look) (look : Look) → AreLooks file before looks → IsLook file (latest before looks) look → AreLooks file before (looks ++ look ∷ [])
looks-push file before [] look are is = (is, tt)
looks-push file before (first ∷ looks) look are is = (are.0, looks-push file first.sight looks look are.1 is)

reads_on : (place wanted number : ℕ) (Later : ℕ → ℕ → Type 0) (NoLater : Type 0) (question : Question) → question ≡ ReadAt place number → 0 < number → number ≤ wanted →
    Later (place + number) (wanted - number) → ReadsOn place wanted Later NoLater question
reads_on place wanted zero Later NoLater question is some fits later = absurd (omega (arith, some))
reads_on place wanted (suc more) Later NoLater question is some fits later = subst (λ (q : Question). ReadsOn place wanted Later NoLater q) (sym is) (refl, fits, later)

reads_none : (place wanted : ℕ) (Later : ℕ → ℕ → Type 0) (NoLater : Type 0) (question : Question) → question ≡ ReadAt place 0 → NoLater → ReadsOn place wanted Later NoLater question
reads_none place wanted Later NoLater question is none = subst (λ (q : Question). ReadsOn place wanted Later NoLater q) (sym is) (refl, none)

-- what the tail reports with these looks in addition
abbrev with_looks : TailHistory → List Look → TailHistory
with_looks told looks = record told { looks = told.looks ++ looks }

module _ (told : TailHistory) (offset count : ℕ) (bytes piece : List ℕ) (number : ℕ) (before after : Option TailHistory)
    (so : SoFar told offset count bytes before) (some : 0 < length piece) (tells : TellsRead before (offset + length bytes) piece (Ok number) after) where
  looked : LooksAtBytes (with_looks told so.looks) (offset + length bytes) piece number after
  looked = some_bytes (with_looks told so.looks) (offset + length bytes) piece number after some
      (subst (λ (o : Option TailHistory). TellsRead o (offset + length bytes) piece (Ok number) after) so.added.kept tells)

  added : Adds told (so.looks ++ looked.look ∷ []) after
  added = record {
    kept = looked.kept ∙ ap (λ (l : List Look). Some (record told { looks = l })) (append_assoc told.looks so.looks (looked.look ∷ []));
    shown = looks-push told.file (last_sight told) so.looks looked.look so.added.shown (record {
      of_file = looked.next.of_file;
      no_earlier = subst (λ (s : Sight). IsNoEarlier s looked.look.sight) (latest-append told.begun told.looks so.looks) looked.next.no_earlier;
      answered = let A : Question → Type 0 = λ q. IsAnswered q looked.look.sight in subst A (sym looked.asked) (looked.within, looked.none_only_at_the_end);
    });
  }

  bytes_are : given told.file (so.looks ++ looked.look ∷ []) ≡ bytes ++ take number piece
  bytes_are =
      flat_map-append (λ (look : Look). bytes_by told.file look.question look.sight) so.looks (looked.look ∷ [])
      ∙ ap (λ (l : List ℕ). l ++ (bytes_by told.file looked.look.question looked.look.sight ++ [])) so.bytes_are
      ∙ ap (λ (l : List ℕ). bytes ++ l) (append-nil (bytes_by told.file looked.look.question looked.look.sight)
      ∙ ap (λ (q : Question). bytes_by told.file q looked.look.sight) looked.asked ∙ sym looked.bytes)

  one_so_far : 0 < number → number ≤ length piece → length piece ≤ count - length bytes → SoFar told offset count (bytes ++ take number piece) after
  one_so_far came fits within = record {
    looks = so.looks ++ looked.look ∷ [];
    added = added;
    bytes_are = bytes_are;
    more = λ rest reads. subst (λ (l : List Look). AreReads l offset count) (sym (append_assoc so.looks (looked.look ∷ []) rest))
        (so.more (looked.look ∷ rest) (
          omega (arith, came, fits, within),
          reads_on (offset + length bytes) (count - length bytes) number (λ next left. AreReads rest next left) (rest ≡ []) looked.look.question looked.asked came (omega (arith, fits, within))
              (subst (λ (n : ℕ). AreReads rest n (count - length bytes - number)) place (subst (λ (n : ℕ). AreReads rest (offset + length (bytes ++ take number piece)) n) left reads)),
        ));
    cut = λ rest reads. subst (λ (l : List Look). AreCutReads l offset count) (sym (append_assoc so.looks (looked.look ∷ []) rest))
        (so.cut (looked.look ∷ rest) (
          omega (arith, came, fits, within),
          reads_on (offset + length bytes) (count - length bytes) number (λ next left. AreCutReads rest next left) ⊥ looked.look.question looked.asked came (omega (arith, fits, within))
              (subst (λ (n : ℕ). AreCutReads rest n (count - length bytes - number)) place (subst (λ (n : ℕ). AreCutReads rest (offset + length (bytes ++ take number piece)) n) left reads)),
        ));
  }
    where
      long : length (bytes ++ take number piece) ≡ length bytes + number
      long = length-append bytes (take number piece) ∙ ap (λ (n : ℕ). length bytes + n) (length-take-le number piece fits)

      place : offset + length (bytes ++ take number piece) ≡ offset + length bytes + number
      place = let l = long in omega (arith, l)

      left : count - length (bytes ++ take number piece) ≡ count - length bytes - number
      left = let l = long in omega (arith, l)

  none_came : number ≡ 0 → length bytes < count → GivesNone offset count told (offset + length bytes) bytes after
  none_came none fewer = record {
    looks = so.looks ++ looked.look ∷ [];
    added = added;
    reads = so.more (looked.look ∷ []) (
      omega (arith, fewer),
      reads_none (offset + length bytes) (count - length bytes) (λ next left. AreReads [] next left) ([] ≡ []) looked.look.question question refl,
    );
    bytes_are = bytes_are ∙ ap (λ (n : ℕ). bytes ++ take n piece) none ∙ append-nil bytes;
    end = record { front = so.looks; last = looked.look; parts = refl; question = question };
  }
    where
      question : looked.look.question ≡ ReadAt (offset + length bytes) 0
      question = looked.asked ∙ ap (λ (n : ℕ). ReadAt (offset + length bytes) n) none

-- ---- with the hasher

pub one_read : (told : Option TailHistory) (offset count done number : ℕ) (piece : List ℕ) (hasher later : Sha256) (before after : Option TailHistory) →
    HasRead told offset count done hasher before → 0 < number → number ≤ length piece → length piece ≤ count - done →
    TellsRead before (offset + done) piece (Ok number) after → ((m : List ℕ) → Holds256 hasher m → Holds256 later (m ++ take number piece)) →
    HasRead told offset count (done + number) later after
one_read told offset count done number piece hasher later before after has came fits within tells fed = record {
  bytes = has.bytes ++ take number piece;
  held = fed has.bytes has.held;
  long = length-append has.bytes (take number piece) ∙ ap (λ (n : ℕ). length has.bytes + n) (length-take-le number piece fits) ∙ ap (λ (n : ℕ). n + number) has.long;
  so_far = by_told told has.so_far;
}
  where
    by_told : (o : Option TailHistory) → IfSome o (λ t. SoFar t offset count has.bytes before) → IfSome o (λ t. SoFar t offset count (has.bytes ++ take number piece) after)
    by_told None so = tt
    by_told (Some t) so =
        one_so_far t offset count has.bytes piece number before after so (omega (arith, came, fits))
        (subst (λ (n : ℕ). TellsRead before (offset + n) piece (Ok number) after) (sym has.long) tells)
        came fits (subst (λ (n : ℕ). length piece ≤ count - n) (sym has.long) within)

pub read_short : (told : Option TailHistory) (offset count done number : ℕ) (piece : List ℕ) (hasher : Sha256) (before after : Option TailHistory) →
    HasRead told offset count done hasher before → number ≡ 0 → 0 < length piece → done < count →
    TellsRead before (offset + done) piece (Ok number) after → IsPrinted offset count told (Short (offset + done)) after
read_short told offset count done number piece hasher before after has none some fewer tells =
    (has.bytes, subst (λ (n : ℕ). n < count) (sym has.long) fewer, ap (λ (n : ℕ). offset + n) (sym has.long), by_told told has.so_far)
  where
    by_told : (o : Option TailHistory) → IfSome o (λ t. SoFar t offset count has.bytes before) → IfSome o (λ t. GivesNone offset count t (offset + done) has.bytes after)
    by_told None so = tt
    by_told (Some t) so =
        subst (λ (n : ℕ). GivesNone offset count t (offset + n) has.bytes after) has.long
        (none_came t offset count has.bytes piece number before after so some
        (subst (λ (n : ℕ). TellsRead before (offset + n) piece (Ok number) after) (sym has.long) tells)
        none (subst (λ (n : ℕ). n < count) (sym has.long) fewer))

all_came : (told : TailHistory) (offset count : ℕ) (bytes : List ℕ) (after : Option TailHistory) → SoFar told offset count bytes after → length bytes ≡ count → GivesBytes offset count told bytes after
all_came told offset count bytes after so all = record {
  looks = so.looks;
  added = so.added;
  reads = subst (λ (l : List Look). AreReads l offset count) (append-nil so.looks) (so.more [] (omega (arith, all)));
  bytes_are = so.bytes_are;
}

pub read_whole : (told : Option TailHistory) (offset count done : ℕ) (digest : List ℕ) (hasher : Sha256) (after : Option TailHistory) →
    HasRead told offset count done hasher after → done ≡ count → ((m : List ℕ) → Holds256 hasher m → digest ≡ sha256 m) → IsPrinted offset count told (Whole digest) after
read_whole told offset count done digest hasher after has all digests = (has.bytes, has.long ∙ all, digests has.bytes has.held, by_told told has.so_far)
  where
    by_told : (o : Option TailHistory) → IfSome o (λ t. SoFar t offset count has.bytes after) → IfSome o (λ t. GivesBytes offset count t has.bytes after)
    by_told None so = tt
    by_told (Some t) so = all_came t offset count has.bytes after so (has.long ∙ all)

pub read_failed : (told : Option TailHistory) (offset count done at : ℕ) (piece : List ℕ) (failed : Failed) (hasher : Sha256) (before after : Option TailHistory) →
    HasRead told offset count done hasher before → done < count → TellsRead before at piece (Err failed) after → IfSome told (λ t. FailedReading offset count t after)
read_failed told offset count done at piece failed hasher before after has fewer tells = by_told told has.so_far
  where
    by_told : (o : Option TailHistory) → IfSome o (λ t. SoFar t offset count has.bytes before) → IfSome o (λ t. FailedReading offset count t after)
    by_told None so = tt
    by_told (Some t) so = record {
      looks = so.looks;
      added = record { kept = subst (λ (o : Option TailHistory). TellsRead o at piece (Err failed) after) so.added.kept tells; shown = so.added.shown };
      reads = subst (λ (l : List Look). AreCutReads l offset count) (append-nil so.looks) (so.cut [] (let long = has.long in omega (arith, long, fewer)));
    }

pub still_told : (told : Option TailHistory) (offset count done : ℕ) (hasher : Sha256) (after : Option TailHistory) → HasRead told offset count done hasher after → IsSome told → IsSome after
still_told told offset count done hasher after has some = by_told told has.so_far some
  where
    by_told : (o : Option TailHistory) → IfSome o (λ t. SoFar t offset count has.bytes after) → IsSome o → IsSome after
    by_told None so some = absurd (let q : false ≡ true = some in cc)
    by_told (Some t) so some = subst (λ (o : Option TailHistory). IsSome o) (sym so.added.kept) (search rules)

pub untold_read : (told after : Option TailHistory) (at : ℕ) (piece : List ℕ) (result : Result ℕ Failed) → TellsRead told at piece result after → IsNone told → IsNone after
untold_read None after at piece result tells none = subst (λ (o : Option TailHistory). IsNone o) (sym tells) none
untold_read (Some told) after at piece result tells none = absurd (let q : true ≡ false = none in cc)

-- ---- the buffer

pub piece_length : (count done most : ℕ) (buffer piece : List ℕ) → length buffer ≡ 16384 → most ≡ min (count - done) 16384 → length piece ≡ length (take most buffer) → length piece ≡ most
piece_length count done most buffer piece all is same = same ∙ length-take-le most buffer (omega (arith, all, is))

pub buffer_length : (count done most : ℕ) (buffer piece : List ℕ) → length buffer ≡ 16384 → most ≡ min (count - done) 16384 → length piece ≡ length (take most buffer) → length (piece ++ drop most buffer) ≡ 16384
buffer_length count done most buffer piece all is same =
    let long = piece_length count done most buffer piece all is same in
    let rest = length-drop most buffer in
    length-append piece (drop most buffer) ∙ omega (arith, all, is, long, rest)
