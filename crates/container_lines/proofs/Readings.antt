-- A log that is read to the end of its source.
use Rattle.std.proofs.Common.{◌≡◌, ℕ, ◌<◌, List, [], ◌++◌, length, take, drop, Option, Some, None, Ok, IfSome, refl, sym, ap, subst, ◌∙◌, append_assoc, append-nil}
use Rattle.std.proofs.lemmas.List.{take-append-drop}
use Rattle.outside.specs.Streams.{GivesFront, ReadsOn}
use Rattle.container_lines.specs.declared.conversion.Conversion.{Conversion}
use Rattle.container_lines.specs.Conversion.{Aim, ConvertsAll, text_of}
use Rattle.container_lines.specs.Joined.{log_lines}
use Rattle.container_lines.specs.Bad.{bad_found}
use Rattle.container_lines.specs.Output.{HasAll, HasFront, StandsOrWaits}
use Rattle.container_lines.proofs.Outputs.{stands_last}
use Rattle.container_lines.proofs.Conversions.{LinesStay, front_of_log, front_of_fed}

-- a log and what the sink holds
pub record At : Type 0 where
  pub written : Option (List ℕ)
  pub log : Conversion

abbrev pub at : Option (List ℕ) → Conversion → At
at written log = record { written = written; log = log }

-- some of the source's bytes were read, and the rest of them is left
pub record Reading (bytes : List ℕ) (left : Option (List ℕ)) (first now : At) : Type 0 where
  pub fed : List ℕ
  pub rest : List ℕ
  pub left_is : left ≡ Some rest
  pub split : bytes ≡ fed ++ rest
  pub converts : (aim : Aim) → ConvertsAll aim [] first.written first.log → ConvertsAll aim fed now.written now.log

abbrev pub IsReading : Option (List ℕ) → Option (List ℕ) → At → At → Type 0
IsReading None left first now = Unit {0}
IsReading (Some bytes) left first now = Reading bytes left first now

pub reading_first : (left : Option (List ℕ)) (first : At) → IsReading left left first first
reading_first None first = tt
reading_first (Some bytes) first = record { fed = []; rest = bytes; left_is = refl; split = refl; converts = λ aim converts. converts }

-- a piece that was taken
pub reading_more : (start left after : Option (List ℕ)) (into : List ℕ) (count : ℕ) (first now later : At) → IsReading start left first now → ReadsOn left into (Ok count) after →
    ((aim : Aim) (fed : List ℕ) → ConvertsAll aim fed now.written now.log → ConvertsAll aim (fed ++ take count into) later.written later.log) → IsReading start after first later
reading_more None left after into count first now later reading reads taken = tt
reading_more (Some bytes) left after into count first now later reading reads taken =
    let P : Option (List ℕ) → Type 0 = λ l. ReadsOn l into (Ok count) after in
    let gives : GivesFront reading.rest into count after = subst P reading.left_is reads in
    record {
      fed = reading.fed ++ take count into;
      rest = drop count reading.rest;
      left_is = gives.rest;
      split = reading.split
          ∙ ap (λ (l : List ℕ). reading.fed ++ l) (sym (take-append-drop count reading.rest))
          ∙ sym (append_assoc reading.fed (take count reading.rest) (drop count reading.rest))
          ∙ ap (λ (l : List ℕ). (reading.fed ++ l) ++ drop count reading.rest) (sym gives.bytes);
      converts = λ aim begun. taken aim reading.fed (reading.converts aim begun);
    }

-- a read of nothing shows that all was read
pub read_to_the_end : (start left after : Option (List ℕ)) (into : List ℕ) (count : ℕ) (first now : At) → 0 < length into → count ≡ 0 → IsReading start left first now →
    ReadsOn left into (Ok count) after → (aim : Aim) → ConvertsAll aim [] first.written first.log → IfSome start (λ bytes. ConvertsAll aim bytes now.written now.log)
read_to_the_end None left after into count first now some none reading reads aim begun = tt
read_to_the_end (Some bytes) left after into count first now some none reading reads aim begun =
    let P : Option (List ℕ) → Type 0 = λ l. ReadsOn l into (Ok count) after in
    let gives : GivesFront reading.rest into count after = subst P reading.left_is reads in
    let all : bytes ≡ reading.fed = reading.split ∙ ap (λ (l : List ℕ). reading.fed ++ l) (gives.zero_only_at_the_end some none) ∙ append-nil reading.fed in
    let C : List ℕ → Type 0 = λ l. ConvertsAll aim l now.written now.log in
    subst C (sym all) (reading.converts aim begun)

pub none_is_left : (start left after : Option (List ℕ)) (into : List ℕ) (count : ℕ) (first now : At) → 0 < length into → count ≡ 0 → IsReading start left first now →
    ReadsOn left into (Ok count) after → IfSome start (λ bytes. after ≡ Some [])
none_is_left None left after into count first now some none reading reads = tt
none_is_left (Some bytes) left after into count first now some none reading reads =
    let P : Option (List ℕ) → Type 0 = λ l. ReadsOn l into (Ok count) after in
    let gives : GivesFront reading.rest into count after = subst P reading.left_is reads in
    gives.rest ∙ ap (λ (n : ℕ). Some (drop n reading.rest)) none ∙ ap (λ (l : List ℕ). Some l) (gives.zero_only_at_the_end some none)

-- a run that ends before has written a front
pub read_in_part : LinesStay → (start left : Option (List ℕ)) (first now : At) → IsReading start left first now → (aim : Aim) → ConvertsAll aim [] first.written first.log →
    IfSome start (λ bytes. HasFront aim.before (text_of aim (log_lines bytes)) now.written)
read_in_part law None left first now reading aim begun = tt
read_in_part law (Some bytes) left first now reading aim begun =
    let F : List ℕ → Type 0 = λ l. HasFront aim.before (text_of aim (log_lines l)) now.written in
    subst F (sym reading.split) (front_of_fed law aim reading.fed reading.rest now.written
    (front_of_log law aim reading.fed (log_lines reading.fed) now.written now.log (reading.converts aim begun)))

pub piece_in_part : LinesStay → (start left after written : Option (List ℕ)) (into : List ℕ) (count : ℕ) (first now : At) → IsReading start left first now → ReadsOn left into (Ok count) after →
    ((aim : Aim) (fed : List ℕ) → ConvertsAll aim fed now.written now.log → HasFront aim.before (text_of aim (log_lines (fed ++ take count into))) written) →
    (aim : Aim) → ConvertsAll aim [] first.written first.log → IfSome start (λ bytes. HasFront aim.before (text_of aim (log_lines bytes)) written)
piece_in_part law None left after written into count first now reading reads front aim begun = tt
piece_in_part law (Some bytes) left after written into count first now reading reads front aim begun =
    let P : Option (List ℕ) → Type 0 = λ l. ReadsOn l into (Ok count) after in
    let gives : GivesFront reading.rest into count after = subst P reading.left_is reads in
    let F : List ℕ → Type 0 = λ l. HasFront aim.before (text_of aim (log_lines l)) written in
    let split : bytes ≡ (reading.fed ++ take count into) ++ drop count reading.rest =
    reading.split
    ∙ ap (λ (l : List ℕ). reading.fed ++ l) (sym (take-append-drop count reading.rest))
    ∙ sym (append_assoc reading.fed (take count reading.rest) (drop count reading.rest))
    ∙ ap (λ (l : List ℕ). (reading.fed ++ l) ++ drop count reading.rest) (sym gives.bytes) in
    subst F (sym split) (front_of_fed law aim (reading.fed ++ take count into) (drop count reading.rest) written (front aim reading.fed (reading.converts aim begun)))

-- ---- the end of a run

pub bad_at_the_end : (start : Option (List ℕ)) (aim : Aim) (written : Option (List ℕ)) (log later : Conversion) → IfSome start (λ bytes. ConvertsAll aim bytes written log) →
    later.bad ≡ log.bad → IfSome start (λ bytes. later.bad ≡ bad_found aim.asked.format (log_lines bytes))
bad_at_the_end None aim written log later converts same = tt
bad_at_the_end (Some bytes) aim written log later converts same = same ∙ converts.bad

pub all_written : (start : Option (List ℕ)) (aim : Aim) (written later : Option (List ℕ)) (log : Conversion) (waits : List ℕ) → IfSome start (λ bytes. ConvertsAll aim bytes written log) →
    ((before : Option (List ℕ)) (text : List ℕ) → StandsOrWaits before text written log.output.items → StandsOrWaits before text later waits) → waits ≡ [] →
    IfSome start (λ bytes. HasAll aim.before (text_of aim (log_lines bytes)) later)
all_written None aim written later log waits converts flushed none = tt
all_written (Some bytes) aim written later log waits converts flushed none =
    stands_last aim.before (text_of aim (log_lines bytes)) waits later none (flushed aim.before (text_of aim (log_lines bytes)) converts.output)

pub front_written : (start : Option (List ℕ)) (aim : Aim) (written later : Option (List ℕ)) (log : Conversion) → IfSome start (λ bytes. ConvertsAll aim bytes written log) →
    ((before : Option (List ℕ)) (text : List ℕ) → StandsOrWaits before text written log.output.items → HasFront before text later) →
    IfSome start (λ bytes. HasFront aim.before (text_of aim (log_lines bytes)) later)
front_written None aim written later log converts flushed = tt
front_written (Some bytes) aim written later log converts flushed = flushed aim.before (text_of aim (log_lines bytes)) converts.output
