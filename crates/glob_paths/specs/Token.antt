-- What the signs of a part of a glob ask of a name (Filebeat reference, filestream paths; classes are this project's
-- profile): a run of characters, one character, a character of a class, or a character as it is.
use Rattle.std.specs.Prelude.{ℕ, Bool, true, false, not, ◌&&◌, ◌||◌, ◌==◌, nat_le, List, [], ◌∷◌, if◌then◌else◌}
use Rattle.glob_paths.specs.declared.sign.Sign.{Sign}
use Rattle.glob_paths.specs.Sign.{is, signs}

-- In these files 42 is `*`, 63 `?`, 91 `[`, 93 `]`, 45 `-`, 94 `^`, 92 the backslash and 47 the slash.

pub data Token : Type 0 where
  -- `*`
  any_run : Token
  -- `?`
  any_one : Token
  -- a character as it is
  exactly : ℕ → Token
  -- `[..]`, or `[^..]` with true: its items, each the first and the last character of a range
  class : Bool → List (ℕ × ℕ) → Token

-- the items of a class up to its `]`, from the left: a character, `-` and a further character of the class are a
-- range, and every other character is an item by itself
abbrev pub items_of : List Sign → List (ℕ × ℕ)
items_of [] = []
items_of (low ∷ []) = if is 93 low then [] else (low.code, low.code) ∷ []
items_of (low ∷ dash ∷ []) = if is 93 low then [] else (low.code, low.code) ∷ items_of (dash ∷ [])
items_of (low ∷ dash ∷ high ∷ signs) = if is 93 low then [] else (if is 45 dash && not (is 93 high)
    then (low.code, high.code) ∷ items_of signs
    else (low.code, low.code) ∷ items_of (dash ∷ high ∷ signs))

-- the class that begins after a `[`
abbrev pub is_negated : List Sign → Bool
is_negated [] = false
is_negated (sign ∷ signs) = is 94 sign

abbrev pub after_caret : List Sign → List Sign
after_caret [] = []
after_caret (sign ∷ signs) = if is 94 sign then signs else sign ∷ signs

abbrev pub class_of : List Sign → Token
class_of signs = class (is_negated signs) (items_of (after_caret signs))

-- what a sign outside a class begins, with the signs after it
abbrev pub token_at : Sign → List Sign → Token
token_at sign signs = if is 42 sign then any_run else (if is 63 sign then any_one else (if is 91 sign then class_of signs else exactly sign.code))

-- the tokens of signs that begin inside a class or outside
abbrev pub tokens_of : Bool → List Sign → List Token
tokens_of inside [] = []
tokens_of true (sign ∷ signs) = tokens_of (not (is 93 sign)) signs
tokens_of false (sign ∷ signs) = token_at sign signs ∷ tokens_of (is 91 sign) signs

-- the tokens of a part's text
unfoldable pub tokens : List ℕ → List Token
tokens text = tokens_of false (signs text)

-- the character lies in one of the items
abbrev pub some_item_has : ℕ → List (ℕ × ℕ) → Bool
some_item_has code [] = false
some_item_has code (item ∷ items) = (nat_le item.0 code && nat_le code item.1) || some_item_has code items

-- one character is what the token asks for; a slash is no character of a name
abbrev pub takes : Token → ℕ → Bool
takes any_run code = false
takes any_one code = not (code == 47)
takes (exactly wanted) code = wanted == code
takes (class negated items) code = not (code == 47) && (if negated then not (some_item_has code items) else some_item_has code items)
