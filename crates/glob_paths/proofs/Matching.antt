-- How matching goes on after a token, and after a run.
use Rattle.std.proofs.Common.{◌≡◌, ℕ, zero, suc, ◌≤◌, Bool, true, false, cond, ◌&&◌, ◌↔◌, List, [], ◌∷◌, length, drop, eqb, refl, sym, ap, ◌∙◌, subst, arith}
use Rattle.std.proofs.lemmas.Bool.Decides.{nat_tests}
use Rattle.std.proofs.lemmas.Bool.{false≢true}
use Rattle.std.specs.Str.{chars}
use Rattle.glob_paths.specs.declared.sign.Sign.{Sign}
use Rattle.glob_paths.specs.Sign.{is, signs}
use Rattle.glob_paths.specs.Token.{Token, any_run, any_one, exactly, class, takes, token_at, tokens, tokens_of, class_of}
use Rattle.glob_paths.specs.Match.{Matches}
use Rattle.glob_paths.specs.Lead.{Comes}

-- the token is a `*`
abbrev pub is_run : Token → Bool
is_run any_run = true
is_run any_one = false
is_run (exactly code) = false
is_run (class negated items) = false

pub is_run-token_at : (sign : Sign) (rest : List Sign) → is 42 sign ≡ false → is_run (token_at sign rest) ≡ false
is_run-token_at sign rest other =
    ap (λ star. is_run (cond star any_run (cond (is 63 sign) any_one (cond (is 91 sign) (class_of rest) (exactly sign.code))))) other ∙ by_test (is 63 sign) (is 91 sign)
  where
    by_test : (one opens : Bool) → is_run (cond one any_one (cond opens (class_of rest) (exactly sign.code))) ≡ false
    by_test true opens = refl
    by_test false true = refl
    by_test false false = refl

pub one_token : (token : Token) (tokens : List Token) (code : ℕ) (codes : List ℕ) → takes token code ≡ true → Matches (token ∷ tokens) (code ∷ codes) ↔ Matches tokens codes
one_token any_run tokens code codes taken = absurd (false≢true taken)
one_token any_one tokens code codes taken = (λ m. m.1, λ m. (taken, m))
one_token (exactly wanted) tokens code codes taken = (λ m. m.1, λ m. (taken, m))
one_token (class negated items) tokens code codes taken = (λ m. m.1, λ m. (taken, m))

not_taken : (b : Bool) → b ≡ false → b ≡ true → ⊥
not_taken b wrong right = false≢true (sym wrong ∙ right)

pub no_token : (token : Token) (tokens : List Token) (code : ℕ) (codes : List ℕ) → is_run token ≡ false → takes token code ≡ false → ¬ (Matches (token ∷ tokens) (code ∷ codes))
no_token any_run tokens code codes single wrong = λ m. false≢true (sym single)
no_token any_one tokens code codes single wrong = λ m. not_taken _ wrong m.0
no_token (exactly wanted) tokens code codes single wrong = λ m. not_taken _ wrong m.0
no_token (class negated items) tokens code codes single wrong = λ m. not_taken _ wrong m.0

pub no_code : (token : Token) (tokens : List Token) → is_run token ≡ false → ¬ (Matches (token ∷ tokens) [])
no_code any_run tokens single = λ m. false≢true (sym single)
no_code any_one tokens single = λ m. m
no_code (exactly wanted) tokens single = λ m. m
no_code (class negated items) tokens single = λ m. m

takes_single : (token : Token) (code : ℕ) → takes token code ≡ true → is_run token ≡ false
takes_single any_run code taken = absurd (false≢true taken)
takes_single any_one code taken = refl
takes_single (exactly wanted) code taken = refl
takes_single (class negated items) code taken = refl

tail_of : (token : Token) (tokens : List Token) (code : ℕ) (codes : List ℕ) → is_run token ≡ false → Matches (token ∷ tokens) (code ∷ codes) → Matches tokens codes
tail_of any_run tokens code codes single m = absurd (false≢true (sym single))
tail_of any_one tokens code codes single m = m.1
tail_of (exactly wanted) tokens code codes single m = m.1
tail_of (class negated items) tokens code codes single m = m.1

-- if a token matches at some place, what follows it matches from a later place on
behind_one : (token : Token) (tokens : List Token) (place : ℕ) (codes : List ℕ) → is_run token ≡ false → Matches (token ∷ tokens) (drop place codes) → (j : ℕ) × (suc j ≤ length codes) × Matches tokens (drop (suc j) codes)
behind_one token tokens zero [] single m = absurd (no_code token tokens single m)
behind_one token tokens zero (code ∷ codes) single m = (0, omega arith, tail_of token tokens code codes single m)
behind_one token tokens (suc place) [] single m = absurd (no_code token tokens single m)
behind_one token tokens (suc place) (code ∷ codes) single m =
    let found = behind_one token tokens place codes single m in (suc found.0, omega (arith, found.1), found.2)

pub Comes-token : (first second : List Token) (codes rest : List ℕ) (token : Token) (code : ℕ) → Comes first codes (token ∷ second) (code ∷ rest) → takes token code ≡ true → Comes first codes second rest
Comes-token first second codes rest token code comes taken =
    let step = one_token token second code rest taken in
    record {
      same = (λ m. step.0 (comes.same.0 m), λ m. comes.same.1 (step.1 m));
      later = λ m. let n = comes.later m in
          let found = behind_one token second n.0 (code ∷ rest) (takes_single token code taken) n.2 in
          (found.0, omega (arith, found.1), found.2);
    }

-- a run of no character, of one character more, and two runs in a row
pub run_none : (tokens : List Token) (codes : List ℕ) → Matches tokens codes → Matches (any_run ∷ tokens) codes
run_none tokens codes m = (0, omega arith, m)

run_twice : (tokens : List Token) (codes : List ℕ) (n : ℕ) → n ≤ length codes → Matches (any_run ∷ tokens) (drop n codes) → Matches (any_run ∷ tokens) codes
run_twice tokens codes zero le m = m
run_twice tokens [] (suc n) le m = m
run_twice tokens (code ∷ codes) (suc n) le m =
    let found = run_twice tokens codes n (omega arith) m in (suc found.0, omega (arith, found.1), found.2)

-- if the tokens do not match at the front, the run takes the first character
pub run_past : (tokens : List Token) (code : ℕ) (codes : List ℕ) → ¬ (Matches tokens (code ∷ codes)) → Matches (any_run ∷ tokens) (code ∷ codes) ↔ Matches (any_run ∷ tokens) codes
run_past tokens code codes wrong = (λ m. shorter m.0 m.1 m.2, λ m. (suc m.0, omega (arith, m.1), m.2))
  where
    shorter : (n : ℕ) → n ≤ length (code ∷ codes) → Matches tokens (drop n (code ∷ codes)) → Matches (any_run ∷ tokens) codes
    shorter zero le m = absurd (wrong m)
    shorter (suc n) le m = (n, omega arith, m)

-- the tokens of a text, by its first sign
star_no_class : (bare : Bool) (code : ℕ) → (bare && eqb code 42) ≡ true → (bare && eqb code 91) ≡ false
star_no_class false code h = refl
star_no_class true code h = grind (arith, nat_tests)

pub tokens_star : (text rest : List ℕ) (sign : Sign) → signs text ≡ sign ∷ signs rest → is 42 sign ≡ true → tokens text ≡ any_run ∷ tokens rest
unfolding tokens
tokens_star text rest sign begins star =
    ap (tokens_of false) begins
    ∙ ap (λ test. cond test any_run (cond (is 63 sign) any_one (cond (is 91 sign) (class_of (signs rest)) (exactly sign.code))) ∷ tokens_of (is 91 sign) (signs rest)) star
    ∙ ap (λ opens. any_run ∷ tokens_of opens (signs rest)) (star_no_class sign.bare sign.code star)

pub tokens_first : (text rest behind : List ℕ) (sign : Sign) → signs text ≡ sign ∷ signs rest → tokens_of (is 91 sign) (signs rest) ≡ tokens behind → tokens text ≡ token_at sign (signs rest) ∷ tokens behind
unfolding tokens
tokens_first text rest behind sign begins goes = ap (tokens_of false) begins ∙ ap (λ more. token_at sign (signs rest) ∷ more) goes

pub tokens_begin : (text rest : List ℕ) (sign : Sign) → signs text ≡ sign ∷ signs rest → tokens text ≡ token_at sign (signs rest) ∷ tokens_of (is 91 sign) (signs rest)
unfolding tokens
tokens_begin text rest sign begins = ap (tokens_of false) begins

pub tokens_none : (text : List ℕ) → signs text ≡ [] → tokens text ≡ []
unfolding tokens
tokens_none text none = ap (tokens_of false) none

-- how trying the front of a text goes on, and where it ends
pub front_star : (first : List Token) (codes rest pattern behind : List ℕ) (sign : Sign) → Comes first codes (tokens pattern) rest → signs pattern ≡ sign ∷ signs behind → is 42 sign ≡ true → Comes first codes (any_run ∷ tokens behind) rest
front_star first codes rest pattern behind sign comes begins star =
    let P : List Token → Type 0 = λ second. Comes first codes second rest in subst P (tokens_star pattern behind sign begins star) comes

-- the tokens and the characters that are left, as far as they are known
left_are : (first : List Token) (codes pattern name : List ℕ) (second : List Token) (rest : List ℕ) → Comes first codes (tokens pattern) (chars name) → tokens pattern ≡ second → chars name ≡ rest → Comes first codes second rest
left_are first codes pattern name second rest comes are left =
    let P : List Token → Type 0 = λ second. Comes first codes second (chars name) in
    let Q : List ℕ → Type 0 = λ rest. Comes first codes second rest in
    subst Q left (subst P are comes)

pub front_short : (first : List Token) (codes pattern name behind : List ℕ) (sign : Sign) → Comes first codes (tokens pattern) (chars name) → signs pattern ≡ sign ∷ signs behind → is 42 sign ≡ false → chars name ≡ [] → ¬ (Matches first codes)
front_short first codes pattern name behind sign comes begins other none = λ m.
    let known = left_are first codes pattern name _ _ comes (tokens_begin pattern behind sign begins) none in
    no_code (token_at sign (signs behind)) _ (is_run-token_at sign (signs behind) other) (known.same.0 m)

pub front_apart : (first : List Token) (codes pattern name behind left : List ℕ) (sign : Sign) (code : ℕ) → Comes first codes (tokens pattern) (chars name) → signs pattern ≡ sign ∷ signs behind → is 42 sign ≡ false → chars name ≡ code ∷ chars left → takes (token_at sign (signs behind)) code ≡ false → ¬ (Matches first codes)
front_apart first codes pattern name behind left sign code comes begins other some wrong = λ m.
    let known = left_are first codes pattern name _ _ comes (tokens_begin pattern behind sign begins) some in
    no_token (token_at sign (signs behind)) _ code (chars left) (is_run-token_at sign (signs behind) other) wrong (known.same.0 m)

pub front_goes : (first : List Token) (codes pattern name behind next left : List ℕ) (sign : Sign) (code : ℕ) → Comes first codes (tokens pattern) (chars name) → signs pattern ≡ sign ∷ signs behind → chars name ≡ code ∷ chars left → takes (token_at sign (signs behind)) code ≡ true → tokens_of (is 91 sign) (signs behind) ≡ tokens next → Comes first codes (tokens next) (chars left)
front_goes first codes pattern name behind next left sign code comes begins some taken goes =
    let known = left_are first codes pattern name _ _ comes (tokens_first pattern behind next sign begins goes) some in
    Comes-token first (tokens next) codes (chars left) (token_at sign (signs behind)) code known taken

pub front_whole : (first : List Token) (codes pattern name : List ℕ) → Comes first codes (tokens pattern) (chars name) → signs pattern ≡ [] → chars name ≡ [] → Matches first codes
front_whole first codes pattern name comes ends none =
    let known = left_are first codes pattern name _ _ comes (tokens_none pattern ends) none in known.same.1 tt

pub front_long : (first : List Token) (codes pattern name left : List ℕ) (code : ℕ) → Comes first codes (tokens pattern) (chars name) → signs pattern ≡ [] → chars name ≡ code ∷ chars left → ¬ (Matches first codes)
front_long first codes pattern name left code comes ends some = λ m.
    let known = left_are first codes pattern name _ _ comes (tokens_none pattern ends) some in known.same.0 m

-- a run and then the tokens, if the first character is passed
pub star_past : (first : List Token) (codes : List ℕ) (second : List Token) (name left : List ℕ) (code : ℕ) → Matches (any_run ∷ first) codes ↔ Matches (any_run ∷ second) (chars name) → ¬ (Matches second (chars name)) → chars name ≡ code ∷ chars left → Matches (any_run ∷ first) codes ↔ Matches (any_run ∷ second) (chars left)
star_past first codes second name left code same wrong some =
    let P : List ℕ → Type 0 = λ rest. Matches (any_run ∷ first) codes ↔ Matches (any_run ∷ second) rest in
    let Q : List ℕ → Type 0 = λ rest. ¬ (Matches second rest) in
    let past = run_past second code (chars left) (subst Q some wrong) in
    let same' = subst P some same in
    (λ m. past.0 (same'.0 m), λ m. same'.1 (past.1 m))
