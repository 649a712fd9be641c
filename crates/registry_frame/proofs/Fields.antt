-- Which operation the tokens after an operation's brace are of, by the first name.
use Rattle.std.proofs.Common.{◌≡◌, ◌⊎◌, inl, inr, ℕ, ◌≤◌, Bool, true, false, List, [], ◌∷◌, ◌++◌, length, Option, Some, None, refl, sym, ap, ◌∙◌, arith, codes, decimal}
use Rattle.std.specs.Prelude.{◌==◌, if◌then◌else◌}
use Rattle.std.specs.Str.{bytes_eq}
use Rattle.json.specs.Json.{after_end_array}
use Rattle.json.specs.Reads.{Yields, token_of}
use Rattle.json.specs.Token as json
use Rattle.json.specs.Token.{Token}
use Rattle.json.specs.declared.token.Token.{Token as TokenRead}
use Rattle.wire_base.specs.declared.row.Row.{Row}
use Rattle.wire_base.specs.declared.row.Op.{Op}
use Rattle.wire_base.specs.declared.row.Op.TheVariants.{Set, Remove}
use Rattle.registry_frame.specs.Tokens.{field_tokens, list_tokens, removal_tokens, row_tokens}
use Rattle.registry_frame.proofs.OneReading.{is_zero}

-- the tokens after the first name
pub record IsRemoval (op : Op) (name : List ℕ) (tail rest : List Token) : Type 0 where
  pub key : List ℕ
  pub operation : op ≡ Remove key
  pub named : name ≡ codes "key"
  pub behind : tail ≡ removal_tokens key rest

pub record IsPlainRow (op : Op) (name : List ℕ) (tail rest : List Token) : Type 0 where
  pub row : Row
  pub operation : op ≡ Set row
  pub named : name ≡ codes "epoch"
  pub unchanged : row.changed.0 ≡ 0
  pub behind : tail ≡ row_tokens row rest

pub record IsChangedRow (op : Op) (name : List ℕ) (tail rest : List Token) : Type 0 where
  pub row : Row
  pub operation : op ≡ Set row
  pub named : name ≡ codes "changed"
  pub behind : tail ≡ json.number (decimal row.changed.0) ∷ json.key (codes "epoch") ∷ row_tokens row rest

abbrev pub Begins : Op → List ℕ → List Token → List Token → Type 0
Begins op name tail rest = IsRemoval op name tail rest ⊎ (IsPlainRow op name tail rest ⊎ IsChangedRow op name tail rest)

named_row : (none : Bool) (row : Row) (rest : List Token) → (none ≡ true → row.changed.0 ≡ 0) → (name : List ℕ) × (tail : List Token)
    × ((if none then [] else (json.key (codes "changed") ∷ json.number (decimal row.changed.0) ∷ [])) ++ (json.key (codes "epoch") ∷ row_tokens row rest) ≡ json.key name ∷ tail) × Begins (Set row) name tail rest
named_row true row rest zero =
    (codes "epoch", row_tokens row rest, refl, inr (inl (record { row = row; operation = refl; named = refl; unchanged = zero refl; behind = refl })))
named_row false row rest zero =
    (codes "changed", json.number (decimal row.changed.0) ∷ json.key (codes "epoch") ∷ row_tokens row rest, refl, inr (inr (record { row = row; operation = refl; named = refl; behind = refl })))

-- the first name, and which operation it begins
pub named : (op : Op) (rest : List Token) → (name : List ℕ) × (tail : List Token) × (field_tokens op rest ≡ json.key name ∷ tail) × Begins op name tail rest
named (Set row) rest = named_row (row.changed.0 == 0) row rest (is_zero row.changed.0)
named (Remove key) rest = (codes "key", removal_tokens key rest, refl, inl (record { key = key; operation = refl; named = refl; behind = refl }))

-- ---- one token

pub passed_token : (r : Option TokenRead) (old new : List Token) (token : Token) (rest : List Token) → Yields old r new → old ≡ token ∷ rest → new ≡ rest
passed_token None old new token rest none begins = absurd (let nothing : [] ≡ token ∷ rest = sym none.0 ∙ begins in cc nothing)
passed_token (Some t) old new token rest some begins = let same : token_of t ∷ new ≡ token ∷ rest = sym some ∙ begins in cc same

pub no_longer : (r : Option TokenRead) (old new : List Token) → Yields old r new → length new ≤ length old
no_longer None old new none = omega (arith, ap length none.1)
no_longer (Some t) old new some = omega (arith, ap length some)

-- the first token is this one, and the rest follows
pub record IsFirst (old new : List Token) (token : Token) (wanted : Token) (rest : List Token) : Type 0 where
  pub first : token ≡ wanted
  pub behind : new ≡ rest

pub is_first : (old new : List Token) (token wanted : Token) (rest : List Token) → old ≡ token ∷ new → old ≡ wanted ∷ rest → IsFirst old new token wanted rest
is_first old new token wanted rest begins starts =
    let same : token ∷ new ≡ wanted ∷ rest = sym begins ∙ starts in record { first = cc same; behind = cc same }

pub nothing_first : (old : List Token) (token : Token) (rest : List Token) → old ≡ [] → old ≡ token ∷ rest → ⊥
nothing_first old token rest none begins = let same : [] ≡ token ∷ rest = sym none ∙ begins in cc same

-- what is in a token that is known
pub none_in : (in_token : Token → Option (List ℕ)) (token wanted : Token) (text : List ℕ) → None ≡ in_token token → token ≡ wanted → in_token wanted ≡ Some text → ⊥
none_in in_token token wanted text none is has = let same : None ≡ Some text = none ∙ ap in_token is ∙ has in cc same

pub some_in : (in_token : Token → Option (List ℕ)) (token wanted : Token) (read text : List ℕ) → Some read ≡ in_token token → token ≡ wanted → in_token wanted ≡ Some text → read ≡ text
some_in in_token token wanted read text some is has = let same : Some read ≡ Some text = some ∙ ap in_token is ∙ has in cc same

-- ---- the names differ

pub not_key : (name : List ℕ) → bytes_eq name (codes "key") ≡ true → name ≡ codes "changed" → ⊥
not_key name test is = let computed : false ≡ true = ap (λ (n : List ℕ). bytes_eq n (codes "key")) (sym is) ∙ test in cc computed

pub not_key_but_epoch : (name : List ℕ) → bytes_eq name (codes "key") ≡ true → name ≡ codes "epoch" → ⊥
not_key_but_epoch name test is = let computed : false ≡ true = ap (λ (n : List ℕ). bytes_eq n (codes "key")) (sym is) ∙ test in cc computed

pub is_key : (name : List ℕ) → bytes_eq name (codes "key") ≡ false → name ≡ codes "key" → ⊥
is_key name test is = let computed : true ≡ false = ap (λ (n : List ℕ). bytes_eq n (codes "key")) (sym is) ∙ test in cc computed

pub not_epoch : (name : List ℕ) → bytes_eq name (codes "epoch") ≡ true → name ≡ codes "changed" → ⊥
not_epoch name test is = let computed : false ≡ true = ap (λ (n : List ℕ). bytes_eq n (codes "epoch")) (sym is) ∙ test in cc computed

pub is_epoch : (name : List ℕ) → bytes_eq name (codes "epoch") ≡ false → name ≡ codes "epoch" → ⊥
is_epoch name test is = let computed : true ≡ false = ap (λ (n : List ℕ). bytes_eq n (codes "epoch")) (sym is) ∙ test in cc computed

-- ---- the end of the list

pub list_closed : (ops : List Op) (rest : List Token) → after_end_array (list_tokens ops) ≡ Some rest → ops ≡ []
list_closed [] rest closed = refl
list_closed (op ∷ ops) rest closed = absurd (cc closed)

list_open : (ops : List Op) → after_end_array (list_tokens ops) ≡ None → (op : Op) × (later : List Op) × (ops ≡ op ∷ later)
list_open [] opened = absurd (cc opened)
list_open (op ∷ ops) opened = (op, ops, refl)

-- if the list is not at its end, its next operation comes first
pub next_operation : (reader new : List Token) (left : List Op) → after_end_array reader ≡ None → new ≡ reader → reader ≡ list_tokens left
    → (op : Op) × (later : List Op) × (left ≡ op ∷ later) × (new ≡ json.begin_object ∷ field_tokens op (list_tokens later))
next_operation reader new left opened same begins =
    let next = list_open left (ap after_end_array (sym begins) ∙ opened) in
    (next.0, next.1, next.2, same ∙ begins ∙ ap list_tokens next.2)
