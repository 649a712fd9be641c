-- The parts between dots: how far they reach, and where the first empty one is.
use Rattle.std.proofs.Common.{◌≡◌, ℕ, ◌+◌, ◌<◌, Bool, true, false, cond, List, [], ◌∷◌, ◌++◌, length, get_or, take, drop, Option, Some, None, option_map, refl, sym, ap, ◌∙◌, subst, arith}
use Rattle.std.specs.List.{onto_first}
use Rattle.std.specs.Prelude.{◌==◌, ◌≢◌, All}
use Rattle.std.proofs.lemmas.List.{drop_more, take_more, take_all, drop_all, nil_from_length}
use Rattle.std.proofs.lemmas.List.Elements.{All-push}
use Rattle.event_tree.specs.Paths.{Parts}
use Rattle.event_tree.specs.Parts.{parts_of, empty_place}

-- the bytes of the parts, with one more for each
abbrev pub reach : Parts → ℕ
reach [] = 0
reach (part ∷ parts) = length part + 1 + reach parts

reach-onto : (byte : ℕ) (parts : Parts) → 0 < length parts → reach (onto_first byte parts) ≡ reach parts + 1
reach-onto byte [] some = absurd (omega arith)
reach-onto byte (part ∷ parts) some = omega arith

some-onto : (byte : ℕ) (parts : Parts) → 0 < length (onto_first byte parts)
some-onto byte [] = omega arith
some-onto byte (part ∷ parts) = omega arith

pub some_part : (bytes : List ℕ) → 0 < length (parts_of bytes)
some_part [] = omega arith
some_part (byte ∷ bytes) = by_case (byte == 46)
  where
    by_case : (b : Bool) → 0 < length (cond b ([] ∷ parts_of bytes) (onto_first byte (parts_of bytes)))
    by_case true = omega arith
    by_case false = some-onto byte (parts_of bytes)

pub reach-parts : (bytes : List ℕ) → reach (parts_of bytes) ≡ length bytes + 1
reach-parts [] = omega arith
reach-parts (byte ∷ bytes) = by_case (byte == 46) (reach-parts bytes)
  where
    by_case : (b : Bool) → reach (parts_of bytes) ≡ length bytes + 1 → reach (cond b ([] ∷ parts_of bytes) (onto_first byte (parts_of bytes))) ≡ length (byte ∷ bytes) + 1
    by_case true h = omega (arith, h)
    by_case false h = omega (arith, h, reach-onto byte (parts_of bytes) (some_part bytes))

-- ---- one part further

shifted : (at more : ℕ) (o : Option ℕ) → option_map (λ p. at + p) (option_map (λ p. more + p) o) ≡ option_map (λ p. at + more + p) o
shifted at more None = refl
shifted at more (Some p) = ap Some (omega arith)

place_step : (part : List ℕ) (parts : Parts) → 0 < length part → empty_place (part ∷ parts) ≡ option_map (λ at. length part + 1 + at) (empty_place parts)
place_step [] parts some = absurd (omega arith)
place_step (byte ∷ bytes) parts some = refl

module _ (all : Parts) (i : ℕ) (part : List ℕ) (inside : i < length all) (is : part ≡ get_or all i part) where
  rest : drop i all ≡ part ∷ drop (i + 1) all
  rest = drop_more all i part inside ∙ ap (λ p. p ∷ drop (i + 1) all) (sym is)

  pub taken_more : take (i + 1) all ≡ take i all ++ part ∷ []
  taken_more = take_more all i part inside ∙ ap (λ p. take i all ++ p ∷ []) (sym is)

  pub reach_more : (at whole : ℕ) → at + reach (drop i all) ≡ whole → at + (length part + 1) + reach (drop (i + 1) all) ≡ whole
  reach_more at whole so_far = let h : at + (length part + 1 + reach (drop (i + 1) all)) ≡ whole = rw rest at so_far in omega (arith, h)

  pub place_more : (at : ℕ) (whole : Option ℕ) → 0 < length part → option_map (λ p. at + p) (empty_place (drop i all)) ≡ whole → option_map (λ p. at + (length part + 1) + p) (empty_place (drop (i + 1) all)) ≡ whole
  place_more at whole some so_far = sym (shifted at (length part + 1) (empty_place (drop (i + 1) all))) ∙ rw (rest, place_step part (drop (i + 1) all) some) at so_far

  -- the part is empty
  pub place_here : (at : ℕ) (whole : Option ℕ) → length part ≡ 0 → option_map (λ p. at + p) (empty_place (drop i all)) ≡ whole → whole ≡ Some at
  place_here at whole none so_far =
      let empty : drop i all ≡ [] ∷ drop (i + 1) all = rest ∙ ap (λ p. p ∷ drop (i + 1) all) (nil_from_length part none) in
      let here : option_map (λ p. at + p) (empty_place ([] ∷ drop (i + 1) all)) ≡ whole = subst (λ l. option_map (λ p. at + p) (empty_place l) ≡ whole) empty so_far in
      sym here ∙ ap Some (omega arith)

-- where every part is read
pub read_all : (all read : Parts) (n : ℕ) → read ≡ take n all → n ≡ length all → read ≡ all
read_all all read n is ends = is ∙ take_all n all (omega arith)

pub from_zero : (o : Option ℕ) → option_map (λ p. 0 + p) o ≡ o
from_zero None = refl
from_zero (Some p) = ap Some (omega arith)

-- ---- what one iteration adds

pub so_far_more : (all read new : Parts) (i n : ℕ) (part copy : List ℕ) → i < length all → part ≡ get_or all i part → read ≡ take i all → copy ≡ part → new ≡ read ++ copy ∷ [] → n ≡ i + 1 → new ≡ take n all
so_far_more all read new i n part copy inside is so_far same made next =
    made ∙ (λ k. so_far k ++ same k ∷ []) ∙ sym (taken_more all i part inside is) ∙ ap (λ m. take m all) (sym next)

not_empty : (copy part : List ℕ) → copy ≡ part → 0 < length part → copy ≢ []
not_empty copy part same some empty = let h : length part ≡ 0 = ap length (sym same ∙ empty) in omega (arith, h)

pub named_more : (read new : Parts) (part copy : List ℕ) → All (λ p. p ≢ []) read → copy ≡ part → 0 < length part → new ≡ read ++ copy ∷ [] → All (λ p. p ≢ []) new
named_more read new part copy named same some made = subst (All (λ p. p ≢ [])) (sym made) (All-push (λ p. p ≢ []) read copy named (not_empty copy part same some))

pub none_empty : (all : Parts) (at n : ℕ) (whole : Option ℕ) → option_map (λ p. at + p) (empty_place (drop n all)) ≡ whole → n ≡ length all → whole ≡ None
none_empty all at n whole so_far ends =
    let past : drop n all ≡ [] = drop_all n all (omega arith) in
    sym (rw past at so_far)
