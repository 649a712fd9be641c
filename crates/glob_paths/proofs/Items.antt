-- How the items of a class follow from its signs, and where it ends.
use Rattle.std.proofs.Common.{◌≡◌, ℕ, Bool, true, false, cond, not, ◌&&◌, List, [], ◌∷◌, refl, sym, ap, ◌∙◌}
use Rattle.glob_paths.specs.declared.sign.Sign.{Sign}
use Rattle.glob_paths.specs.Sign.{is, signs}
use Rattle.glob_paths.specs.Token.{items_of, tokens, tokens_of}
use Rattle.glob_paths.proofs.Signs.{signs_nil}

-- at the end of its items a class ends
ends : (sign : Sign) (rest : List Sign) → items_of (sign ∷ rest) ≡ [] → is 93 sign ≡ true
ends sign [] none = by_test (is 93 sign) none
  where
    by_test : (closes : Bool) → cond {A = List (ℕ × ℕ)} closes [] ((sign.code, sign.code) ∷ []) ≡ [] → closes ≡ true
    by_test true none = refl
    by_test false none = cc
ends sign (dash ∷ []) none = by_test (is 93 sign) none
  where
    by_test : (closes : Bool) → cond {A = List (ℕ × ℕ)} closes [] ((sign.code, sign.code) ∷ items_of (dash ∷ [])) ≡ [] → closes ≡ true
    by_test true none = refl
    by_test false none = cc
ends sign (dash ∷ high ∷ rest) none = by_test (is 93 sign) (is 45 dash && not (is 93 high)) none
  where
    by_test : (closes ranges : Bool) → cond {A = List (ℕ × ℕ)} closes [] (cond {A = List (ℕ × ℕ)} ranges ((sign.code, high.code) ∷ items_of rest) ((sign.code, sign.code) ∷ items_of (dash ∷ high ∷ rest))) ≡ [] → closes ≡ true
    by_test true ranges none = refl
    by_test false true none = cc
    by_test false false none = cc

pub tokens_behind : (text : List ℕ) (sign : Sign) (behind : List ℕ) → signs text ≡ sign ∷ signs behind → items_of (signs text) ≡ [] → tokens_of true (signs text) ≡ tokens behind
unfolding tokens
tokens_behind text sign behind begins none =
    let closes = ends sign (signs behind) (ap items_of (sym begins) ∙ none) in
    ap (tokens_of true) begins ∙ ap (λ closed. tokens_of (not closed) (signs behind)) closes

pub tokens_at_end : (text : List ℕ) → text ≡ [] → tokens_of true (signs text) ≡ tokens text
unfolding tokens
tokens_at_end text none = rw (none, signs_nil) refl
