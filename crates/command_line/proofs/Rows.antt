-- From the getters of clap's matches to its rows.
use Rattle.std.proofs.Common.{◌≡◌, ◌↔◌, ◌∙◌, ap, subst, sym, refl, ℕ, Bool, true, false, IsTrue, List, Option, Some, None, option_map, MatchOption, IsSomeAnd, codes, [], inr}
use Rattle.std.specs.Borrow.{Bor}
use Rattle.std.specs.Option.{option_eq}
use Rattle.std.proofs.lemmas.Bool.{false≢true}
use Rattle.std.specs.Prelude.{find, option_and_then}
use Rattle.std.specs.Str.{bytes_eq}
use Rattle.clap.specs.Facts.{Entry}
use Rattle.clap.specs.Faults.{fault_of}
use Rattle.clap.specs.Simple.{matches_of}
use Rattle.clap.specs.Matches.{first_value, matched_of}
use Rattle.clap.specs.Walk.{Row, first_of, row_of, rows_of}
use Rattle.clap.specs.declared.parser.matches.Found.{Found}
use Rattle.clap.specs.declared.parser.matches.MatchedArg.{MatchedArg}
use Rattle.clap.specs.declared.parser.matches.ValueSource.{ValueSource}
use Rattle.clap.specs.declared.parser.matches.ValueSource.TheVariants.{CommandLine, DefaultValue}
use Rattle.clap.proofs.WalkLemmas.{find_row, first_value-rows}
use Rattle.command_line.specs.LineCount.{IsLineCount}
use Rattle.command_line.specs.Command.{beat_command}
use Rattle.command_line.specs.Words.{AsksFor, HasNoCount, IsCommand, IsGenerateBy, IsNoCommand, source_of}
use Rattle.command_line.specs.declared.words.Words.{Words}
use Rattle.wire_base.specs.Decimal.{value_of}

pub source-rows : (f : Found) (id : List ℕ) → option_and_then (λ (a : MatchedArg). a.source) (matched_of f id) ≡ source_of id (rows_of f)
source-rows f id = go (find (λ (e : Entry). bytes_eq e.0.now id) f.entries.items)
    ∙ ap (option_and_then (λ (r : Row). r.source)) (sym (find_row f.entries.items id))
  where
    go : (o : Option Entry) → option_and_then (λ (a : MatchedArg). a.source) (option_map (λ e. e.1) o)
        ≡ option_and_then (λ (r : Row). r.source) (option_map row_of o)
    go None = refl
    go (Some e) = refl

-- a text that a getter gives is the value of its row
pub value_row : (f : Found) (id : List ℕ) (o : Option (Bor (List ℕ))) (text : Bor (List ℕ)) → option_map (λ s. s.now) o ≡ first_value f id
    → o ≡ Some text → first_of id (rows_of f) ≡ Some text.now
value_row f id o text got is = sym (got ∙ first_value-rows f id) ∙ ap (option_map (λ s. s.now)) is

pub no_row : (f : Found) (id : List ℕ) (o : Option (Bor (List ℕ))) → option_map (λ s. s.now) o ≡ first_value f id
    → o ≡ None → first_of id (rows_of f) ≡ None
no_row f id o got is = sym (got ∙ first_value-rows f id) ∙ ap (option_map (λ s. s.now)) is

pub no_count : (rows : List Row) (digits : List ℕ) → first_of (codes "generate") rows ≡ Some digits → ¬ (IsLineCount digits) → HasNoCount rows
no_count rows digits is not = subst (λ (o : Option (List ℕ)). IsSomeAnd o (λ d. ¬ (IsLineCount d))) (sym is) not

pub some_count : (o : Option (List ℕ)) (digits : List ℕ) (r : Option ℕ) (n : ℕ) → o ≡ Some digits
    → IsLineCount digits × (n ≡ value_of digits) → r ≡ Some n → IsGenerateBy o r
some_count o digits r n is count made =
    subst (λ (x : Option (List ℕ)). IsGenerateBy x r) (sym is) (count.0, made ∙ ap (λ k. Some k) count.1)

-- `==` tells the command line from a default
is_words : (E : ValueSource → ValueSource → Bool) → E CommandLine CommandLine ≡ true → E DefaultValue CommandLine ≡ false
    → (o : Option ValueSource) → IsTrue (option_eq E o (Some CommandLine)) ↔ (o ≡ Some CommandLine)
is_words E same other None = (λ no. absurd (false≢true no), λ no. cc)
is_words E same other (Some DefaultValue) = (λ no. absurd (false≢true (sym other ∙ no)), λ no. cc)
is_words E same other (Some CommandLine) = (λ _. refl, λ _. same)

-- the test on a getter's source is one on its row
pub source_test : (f : Found) (id : List ℕ) (o : Option ValueSource) (b : Bool) (E : ValueSource → ValueSource → Bool)
    → E CommandLine CommandLine ≡ true → E DefaultValue CommandLine ≡ false
    → o ≡ option_and_then (λ (a : MatchedArg). a.source) (matched_of f id) → b ≡ option_eq E o (Some CommandLine)
    → IsTrue b ↔ (source_of id (rows_of f) ≡ Some CommandLine)
source_test f id o b E same other got test =
    let row : o ≡ source_of id (rows_of f) = got ∙ source-rows f id in
    subst (λ (x : Bool). IsTrue x ↔ (source_of id (rows_of f) ≡ Some CommandLine)) (sym test)
    (subst (λ (x : Option ValueSource). IsTrue (option_eq E o (Some CommandLine)) ↔ (x ≡ Some CommandLine)) row (is_words E same other o))

-- what the rows ask for is what the arguments ask for, if clap takes them
pub asks_of_words : (words : List (List ℕ)) (rows : List Row) (found : Option Words) → fault_of beat_command words ≡ []
    → rows ≡ matches_of beat_command words → MatchOption found (HasNoCount rows) (AsksFor rows)
    → MatchOption found (IsNoCommand words) (IsCommand words)
asks_of_words words rows None taken same none = inr (subst HasNoCount same none)
asks_of_words words rows (Some asked) taken same asks = (taken, subst (λ (r : List Row). AsksFor r asked) same asks)
