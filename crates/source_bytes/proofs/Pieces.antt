-- The bytes of a source, read piece by piece.
use Rattle.std.proofs.Common.{◌≡◌, ℕ, ◌+◌, ◌<◌, ◌≤◌, List, [], ◌++◌, length, take, drop, Option, Some, None, Ok, IfSome, sym, ◌∙◌, ap, subst, arith}
use Rattle.std.proofs.Math.Seq.{take-add}
use Rattle.std.proofs.lemmas.List.{take-append-le, drop-drop, take_all, length-drop}
use Rattle.outside.specs.Streams.{GivesFront, ReadsOn}

-- this many bytes were read, and the rest of them is left
abbrev pub AreRead : Option (List ℕ) → List ℕ → ℕ → Option (List ℕ) → Type 0
AreRead start all count left = IfSome start (λ bytes. (left ≡ Some (drop count bytes)) × (all ≡ take count bytes))

pub read_more : (start : Option (List ℕ)) (all into piece new : List ℕ) (before count now : ℕ) (left after : Option (List ℕ)) → count ≤ length into →
    AreRead start all before left → ReadsOn left into (Ok count) after → new ≡ all ++ take count (into ++ piece) → now ≡ before + count → AreRead start new now after
read_more None all into piece new before count now left after within are reads is more = tt
read_more (Some bytes) all into piece new before count now left after within are reads is more =
    let P : Option (List ℕ) → Type 0 = λ l. ReadsOn l into (Ok count) after in
    let gives : GivesFront (drop before bytes) into count after = subst P are.0 reads in (
      gives.rest ∙ ap (λ (l : List ℕ). Some l) (drop-drop count before bytes) ∙ ap (λ (n : ℕ). Some (drop n bytes)) (sym more),
      is
          ∙ ap (λ (l : List ℕ). all ++ l) (take-append-le count into piece within ∙ gives.bytes)
          ∙ ap (λ (l : List ℕ). l ++ take count (drop before bytes)) are.1
          ∙ sym (take-add before count bytes)
          ∙ ap (λ (n : ℕ). take n bytes) (sym more),
    )

pub read_full : (start : Option (List ℕ)) (all : List ℕ) (limit count : ℕ) (left : Option (List ℕ)) → count ≤ limit → limit ≤ count → AreRead start all count left → IfSome start (λ bytes. all ≡ take limit bytes)
read_full None all limit count left few many are = tt
read_full (Some bytes) all limit count left few many are = let full : count ≡ limit = omega arith in are.1 ∙ ap (λ (n : ℕ). take n bytes) full

-- a read of nothing shows that all was read
pub read_to_the_end : (start : Option (List ℕ)) (all into : List ℕ) (limit before count : ℕ) (left after : Option (List ℕ)) → before ≤ limit → 0 < length into → count ≡ 0 →
    AreRead start all before left → ReadsOn left into (Ok count) after → IfSome start (λ bytes. all ≡ take limit bytes)
read_to_the_end None all into limit before count left after few some none are reads = tt
read_to_the_end (Some bytes) all into limit before count left after few some none are reads =
    let P : Option (List ℕ) → Type 0 = λ l. ReadsOn l into (Ok count) after in
    let gives : GivesFront (drop before bytes) into count after = subst P are.0 reads in
    let nothing : drop before bytes ≡ [] = gives.zero_only_at_the_end some none in
    let short : length bytes ≤ before = omega (arith, length-drop before bytes, ap (λ (l : List ℕ). length l) nothing) in
    are.1 ∙ take_all before bytes short ∙ sym (take_all limit bytes (omega arith))
