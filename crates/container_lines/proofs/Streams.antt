-- The lines of a stream and those that wait, with one more line.
use Rattle.std.proofs.Common.{◌≡◌, ℕ, zero, suc, ◌-◌, Bool, true, false, List, [], ◌∷◌, ◌++◌, length, take, cond, refl, sym, ap, ◌∙◌, arith, append_assoc, append-nil}
use Rattle.std.specs.List.{flat_map}
use Rattle.std.proofs.lemmas.List.{map-append}
use Rattle.std.proofs.lemmas.Grind.{flat_map-append}
use Rattle.wire_base.specs.Extent.{Extent}
use Rattle.line_cutter.specs.declared.line.Line.{Line}
use Rattle.container_lines.specs.declared.format.Format.{Format}
use Rattle.container_lines.specs.declared.format.Stream.{Stream}
use Rattle.container_lines.specs.declared.limits.TheConstants.{MAX_MESSAGE}
use Rattle.container_lines.specs.Part.{part_with}
use Rattle.container_lines.specs.Parts.{Placed, placed, part_of, of_stream, stream_lines, are_partial, waiting}
use Rattle.container_lines.specs.Joining.{Waiting, waiting_of, with_part, behind_kept}

-- a front of two lists, one behind the other
pub take-append : (n : ℕ) (a b : List ℕ) → take n (a ++ b) ≡ take n a ++ take (n - length (take n a)) b
take-append zero a b = refl
take-append (suc n) [] b =
    let all : suc n ≡ suc n - 0 = omega arith in
    ap (λ (m : ℕ). take m b) all
take-append (suc n) (x ∷ a) b =
    let left : n - length (take n a) ≡ suc n - suc (length (take n a)) = omega arith in
    ap (λ (l : List ℕ). x ∷ l) (take-append n a b ∙ ap (λ (m : ℕ). take n a ++ take m b) left)

pub stream_lines-append : (format : Format) (stream : Stream) (a b : List Line) →
    stream_lines format stream (a ++ b) ≡ stream_lines format stream a ++ stream_lines format stream b
stream_lines-append format stream [] b = refl
stream_lines-append format stream (line ∷ a) b =
    ap (λ (l : List Placed). of_stream stream line.span (part_of format line) ++ l) (stream_lines-append format stream a b)
    ∙ sym (append_assoc (of_stream stream line.span (part_of format line)) (stream_lines format stream a) (stream_lines format stream b))

partial_then : (b : Bool) (lines : List Placed) (line : Placed) → line.part.partial ≡ b → are_partial (lines ++ line ∷ []) ≡ cond (are_partial lines) b false
partial_then b [] line is = is_bool b line.part.partial is
  where
    is_bool : (b c : Bool) → c ≡ b → cond c true false ≡ b
    is_bool b true is = is
    is_bool b false is = is
partial_then b (first ∷ lines) line is = through first.part.partial _ _ _ (partial_then b lines line is)
  where
    through : (c x y z : Bool) → x ≡ cond y z false → cond c x false ≡ cond (cond c y false) z false
    through true x y z e = e
    through false x y z e = refl

-- a partial line waits behind those that wait
pub waiting-partial : (lines : List Placed) (line : Placed) → line.part.partial ≡ true → waiting (lines ++ line ∷ []) ≡ waiting lines ++ line ∷ []
waiting-partial [] line is = rw is refl
waiting-partial (first ∷ lines) line is =
    rw (partial_then true (first ∷ lines) line is) (by (are_partial (first ∷ lines)) _ _ _ (waiting-partial lines line is))
  where
    by : (b : Bool) (x y z : List Placed) → x ≡ y ++ line ∷ [] → cond (cond b true false) (z ++ line ∷ []) x ≡ cond b z y ++ line ∷ []
    by true x y z e = refl
    by false x y z e = e

-- behind a line that is not partial none waits
pub waiting-whole : (lines : List Placed) (line : Placed) → line.part.partial ≡ false → waiting (lines ++ line ∷ []) ≡ []
waiting-whole [] line is = rw is refl
waiting-whole (first ∷ lines) line is =
    rw (partial_then false (first ∷ lines) line is) (by (are_partial (first ∷ lines)) _ _ (waiting-whole lines line is))
  where
    by : (b : Bool) (x z : List Placed) → x ≡ [] → cond (cond b false false) z x ≡ []
    by true x z e = e
    by false x z e = e

abbrev waits : List Extent → List ℕ → Waiting
waits parts message = record { parts = parts; message = message }

same_waits : {a b : List Extent} {x y : List ℕ} → a ≡ b → x ≡ y → waits a x ≡ waits b y
same_waits e f = cc

-- what waits, with one more part
pub waiting_of-append : (lines : List Placed) (line : Placed) → waiting_of (lines ++ line ∷ []) ≡ with_part (waiting_of lines) line.span line.part.text
waiting_of-append lines line =
    same_waits (map-append (λ (l : Placed). l.span) lines (line ∷ []))
    (ap (λ (t : List ℕ). take MAX_MESSAGE t) (flat_map-append (λ (l : Placed). l.part.text) lines (line ∷ []) ∙ ap (λ (t : List ℕ). flat_map (λ (l : Placed). l.part.text) lines ++ t) (append-nil line.part.text))
    ∙ take-append MAX_MESSAGE (flat_map (λ (l : Placed). l.part.text) lines) line.part.text)

-- what waits of a stream that is kept, behind one more line of it
pub waits-kept : (lines : List Placed) (span : Extent) (stream : Stream) (partial : Bool) (text : List ℕ) →
    waiting_of (waiting (lines ++ placed span (part_with stream partial text) ∷ [])) ≡ behind_kept (waiting_of (waiting lines)) span (part_with stream partial text)
waits-kept lines span stream true text =
    ap waiting_of (waiting-partial lines (placed span (part_with stream true text)) refl) ∙ waiting_of-append (waiting lines) (placed span (part_with stream true text))
waits-kept lines span stream false text = ap waiting_of (waiting-whole lines (placed span (part_with stream false text)) refl)
