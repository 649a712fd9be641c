-- Lines that are laid and written.
use Rattle.std.proofs.Common.{◌≡◌, ℕ, zero, suc, ◌+◌, ◌<◌, ◌≤◌, List, [], ◌∷◌, ◌++◌, length, map, get_or, set, take, drop, Option, refl, sym, ◌∙◌, ap, subst, append_assoc, arith}
use Rattle.std.proofs.Math.Seq.{take-add, take-append-add, take-append_seam}
use Rattle.std.proofs.lemmas.List.{drop-drop, drop-set-lt, get_or-drop, length-drop, map-append, take_all, take_more, take_more_set, take-append-drop}
use Rattle.lumber_answers.specs.Changes.{SinkTakes}
use Rattle.lumber_answers.specs.Laying.{WritesFront, WritesSome}
use Rattle.lumber_answers.specs.Lines.{byte_of_line}
use Rattle.lumber_answers.proofs.Sending.{takes_nothing, takes_then}

-- nothing is written, and more is laid
pub lays_more : (old : Option (List ℕ)) (laid more : List ℕ) → WritesSome old (laid ++ more) (laid ++ more) old
lays_more old laid more = record { bytes = []; takes = takes_nothing old; whole = refl }

-- what was laid is written, and more is laid
pub writes_then_lays : (old new : Option (List ℕ)) (laid more : List ℕ) → SinkTakes old laid new → WritesSome old (laid ++ more) more new
writes_then_lays old new laid more takes = record { bytes = laid; takes = takes; whole = refl }

pub writes_on : (old mid new : Option (List ℕ)) (all laid more left : List ℕ) → WritesSome old all laid mid → WritesSome mid (laid ++ more) left new → WritesSome old (all ++ more) left new
writes_on old mid new all laid more left first second = record {
  bytes = first.bytes ++ second.bytes;
  takes = takes_then old mid new first.bytes second.bytes first.takes second.takes;
  whole = append_assoc first.bytes second.bytes left ∙ ap (λ (l : List ℕ). first.bytes ++ l) second.whole ∙ sym (append_assoc first.bytes laid more) ∙ ap (λ (l : List ℕ). l ++ more) first.whole;
}

-- a front of a text is one of it with more behind
front_of : (a b : List ℕ) (count : ℕ) → (more : ℕ) × (take count a ≡ take more (a ++ b))
front_of a b zero = (0, refl)
front_of [] b (suc count) = (0, refl)
front_of (x ∷ a) b (suc count) = (suc (front_of a b count).0, ap (λ (l : List ℕ). x ∷ l) (front_of a b count).1)

pub front_with_more : (old new : Option (List ℕ)) (all more : List ℕ) → WritesFront old all new → WritesFront old (all ++ more) new
front_with_more old new all more front =
    let same = front_of all more front.count in
    let P : List ℕ → Type 0 = λ l. SinkTakes old l new in
    record { count = same.0; takes = subst P same.1 front.takes }

-- some was written, and then a front of the rest
pub front_behind : (old mid new : Option (List ℕ)) (all laid more : List ℕ) → WritesSome old all laid mid → WritesFront mid (laid ++ more) new → WritesFront old (all ++ more) new
front_behind old mid new all laid more first second =
    let whole : first.bytes ++ (laid ++ more) ≡ all ++ more = sym (append_assoc first.bytes laid more) ∙ ap (λ (l : List ℕ). l ++ more) first.whole in
    let P : List ℕ → Type 0 = λ l. SinkTakes old l new in
    record {
      count = length first.bytes + second.count;
      takes = subst P (sym (take-append-add first.bytes (laid ++ more) second.count) ∙ ap (λ (l : List ℕ). take (length first.bytes + second.count) l) whole)
          (takes_then old mid new first.bytes (take second.count (laid ++ more)) first.takes second.takes);
    }

-- some was written, and then nothing more
pub front_of_some : (old new : Option (List ℕ)) (all laid : List ℕ) → WritesSome old all laid new → WritesFront old all new
front_of_some old new all laid some =
    let P : List ℕ → Type 0 = λ l. SinkTakes old l new in
    record { count = length some.bytes; takes = subst P (sym (take-append_seam some.bytes laid) ∙ ap (λ (l : List ℕ). take (length some.bytes) l) some.whole) some.takes }

pub nothing_written : (old : Option (List ℕ)) (all : List ℕ) → WritesFront old all old
nothing_written old all = record { count = 0; takes = takes_nothing old }

-- of a text a front is laid behind what was, and this is left
pub record IsPartLaid (old : Option (List ℕ)) (laid text left now_laid : List ℕ) (now : Option (List ℕ)) : Type 0 where
  pub count : ℕ
  pub left_is : left ≡ drop count text
  pub some : WritesSome old (laid ++ map byte_of_line (take count text)) now_laid now

pub none_laid : (old : Option (List ℕ)) (laid text : List ℕ) → IsPartLaid old laid text text laid old
none_laid old laid text = record { count = 0; left_is = refl; some = record { bytes = []; takes = takes_nothing old; whole = sym (nothing_behind laid) } }
  where
    nothing_behind : (l : List ℕ) → l ++ [] ≡ l
    nothing_behind [] = refl
    nothing_behind (x ∷ xs) = ap (λ (l : List ℕ). x ∷ l) (nothing_behind xs)

laid_more : (laid text : List ℕ) (m n : ℕ) → (laid ++ map byte_of_line (take m text)) ++ map byte_of_line (take n (drop m text)) ≡ laid ++ map byte_of_line (take (m + n) text)
laid_more laid text m n =
    append_assoc laid (map byte_of_line (take m text)) (map byte_of_line (take n (drop m text)))
    ∙ ap (λ (l : List ℕ). laid ++ l) (sym (map-append byte_of_line (take m text) (take n (drop m text))) ∙ ap (λ (l : List ℕ). map byte_of_line l) (sym (take-add m n text)))

pub part_laid : (old now after : Option (List ℕ)) (laid text left now_laid after_laid : List ℕ) (count most : ℕ) → length left ≤ count + most → IsPartLaid old laid text left now_laid now
    → WritesSome now (now_laid ++ map byte_of_line (take count left)) after_laid after → IsPartLaid old laid text (take most (drop count left)) after_laid after
part_laid old now after laid text left now_laid after_laid count most all was next =
    let P : List ℕ → Type 0 = λ l. WritesSome old l after_laid after in
    record {
      count = was.count + count;
      left_is = take_all most (drop count left) (omega (arith, length-drop count left)) ∙ ap (λ (l : List ℕ). drop count l) was.left_is ∙ drop-drop count was.count text;
      some = subst P (ap (λ (l : List ℕ). (laid ++ map byte_of_line (take was.count text)) ++ map byte_of_line (take count l)) was.left_is ∙ laid_more laid text was.count count)
          (writes_on old now after (laid ++ map byte_of_line (take was.count text)) now_laid (map byte_of_line (take count left)) after_laid was.some next);
    }

-- the writing of the next part failed
pub part_fails : (old now after : Option (List ℕ)) (laid text left now_laid : List ℕ) (count : ℕ) → IsPartLaid old laid text left now_laid now
    → WritesFront now (now_laid ++ map byte_of_line (take count left)) after → WritesFront old (laid ++ (map byte_of_line text ++ 10 ∷ [])) after
part_fails old now after laid text left now_laid count was front =
    let behind = front_behind old now after (laid ++ map byte_of_line (take was.count text)) now_laid (map byte_of_line (take count left)) was.some front in
    let whole : ((laid ++ map byte_of_line (take was.count text)) ++ map byte_of_line (take count left)) ++ (map byte_of_line (drop (was.count + count) text) ++ 10 ∷ []) ≡ laid ++ (map byte_of_line text ++ 10 ∷ []) =
    ap (λ (l : List ℕ). l ++ (map byte_of_line (drop (was.count + count) text) ++ 10 ∷ [])) (ap (λ (l : List ℕ). (laid ++ map byte_of_line (take was.count text)) ++ map byte_of_line (take count l)) was.left_is ∙ laid_more laid text was.count count)
    ∙ append_assoc laid (map byte_of_line (take (was.count + count) text)) (map byte_of_line (drop (was.count + count) text) ++ 10 ∷ [])
    ∙ ap (λ (l : List ℕ). laid ++ l) (sym (append_assoc (map byte_of_line (take (was.count + count) text)) (map byte_of_line (drop (was.count + count) text)) (10 ∷ []))
    ∙ ap (λ (l : List ℕ). l ++ 10 ∷ []) (sym (map-append byte_of_line (take (was.count + count) text) (drop (was.count + count) text)) ∙ ap (λ (l : List ℕ). map byte_of_line l) (take-append-drop (was.count + count) text))) in
    let P : List ℕ → Type 0 = λ l. WritesFront old l after in
    subst P whole (front_with_more old after _ (map byte_of_line (drop (was.count + count) text) ++ 10 ∷ []) behind)

-- the whole text is laid, and its line feed behind it
pub line_laid : (old now : Option (List ℕ)) (laid text left now_laid : List ℕ) → length left ≡ 0 → IsPartLaid old laid text left now_laid now
    → WritesSome old (laid ++ (map byte_of_line text ++ 10 ∷ [])) (now_laid ++ 10 ∷ []) now
line_laid old now laid text left now_laid none was =
    let all : take was.count text ≡ text = take_all was.count text (omega (arith, none, ap (λ (l : List ℕ). length l) was.left_is, length-drop was.count text)) in
    let P : List ℕ → Type 0 = λ l. WritesSome old l (now_laid ++ 10 ∷ []) now in
    subst P (ap (λ (l : List ℕ). (laid ++ map byte_of_line l) ++ 10 ∷ []) all ∙ append_assoc laid (map byte_of_line text) (10 ∷ []))
    (writes_on old now now (laid ++ map byte_of_line (take was.count text)) now_laid (10 ∷ []) (now_laid ++ 10 ∷ []) was.some (lays_more now now_laid (10 ∷ [])))

-- the line feed has no room
pub line_unlaid : (old now : Option (List ℕ)) (laid text left now_laid : List ℕ) → length left ≡ 0 → IsPartLaid old laid text left now_laid now
    → WritesFront old (laid ++ (map byte_of_line text ++ 10 ∷ [])) now
line_unlaid old now laid text left now_laid none was = front_of_some old now _ _ (line_laid old now laid text left now_laid none was)

-- in front of i each byte is the one of a line, and behind it the bytes are as they were
pub record IsBlankedTo (old now : List ℕ) (i : ℕ) : Type 0 where
  pub front : take i now ≡ map byte_of_line (take i old)
  pub rest : drop i now ≡ drop i old

pub blanked_more : (old now : List ℕ) (i byte : ℕ) → i < length now → i < length old → IsBlankedTo old now i → byte ≡ byte_of_line (get_or now i 0) → IsBlankedTo old (set now i byte) (i + 1)
blanked_more old now i byte in_now in_old was is =
    let none : i + 0 ≡ i = omega arith in
    let same : get_or now i 0 ≡ get_or old i 0 =
    ap (λ (n : ℕ). get_or now n 0) (sym none) ∙ sym (get_or-drop i now 0 0) ∙ ap (λ (l : List ℕ). get_or l 0 0) was.rest ∙ get_or-drop i old 0 0 ∙ ap (λ (n : ℕ). get_or old n 0) none in
    record {
      front = take_more_set now i byte in_now
          ∙ ap (λ (l : List ℕ). l ++ byte ∷ []) was.front
          ∙ ap (λ (b : ℕ). map byte_of_line (take i old) ++ b ∷ []) (is ∙ ap (λ (b : ℕ). byte_of_line b) same)
          ∙ sym (map-append byte_of_line (take i old) (get_or old i 0 ∷ []))
          ∙ ap (λ (l : List ℕ). map byte_of_line l) (sym (take_more old i 0 in_old));
      rest = drop-set-lt (i + 1) now i byte (omega arith) ∙ sym (drop-drop 1 i now) ∙ ap (λ (l : List ℕ). drop 1 l) was.rest ∙ drop-drop 1 i old;
    }

pub all_blanked : (old now : List ℕ) (i : ℕ) → length now ≤ i → length old ≤ i → IsBlankedTo old now i → now ≡ map byte_of_line old
all_blanked old now i in_now in_old was = sym (take_all i now in_now) ∙ was.front ∙ ap (λ (l : List ℕ). map byte_of_line l) (take_all i old in_old)
