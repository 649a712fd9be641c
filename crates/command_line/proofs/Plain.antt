-- What the definition of the command comes to at plain arguments.
use Rattle.std.proofs.Common.{◌≡◌, refl, sym, subst, ap₂, ◌∙◌, ◌==◌, ◌&&◌, cond, is_some, List, ℕ, Bool, [], ◌∷◌, ◌++◌, codes, Option, Some, None, IsSomeAnd, true, false, inl, inr, arith}
use Rattle.std.proofs.lemmas.Bool.{false≢true}
use Rattle.std.specs.Str.{bytes_eq}
use Rattle.clap.specs.Faults.{check_fault, defaults_fault, entered_fault, fault_of, settle_fault, turn_fault, walk_fault}
use Rattle.clap.specs.Kinds.{Kinds, or_else}
use Rattle.clap.specs.Lexer.{strip_byte}
use Rattle.clap.specs.Simple.{Shape, built, entered, matches_of}
use Rattle.clap.specs.Walk.{Walk, finished, first_of, idle, nothing_held, pushed, settled, walk_from, walked}
use Rattle.clap.specs.declared.error.kind.ErrorKind.TheVariants as kind
use Rattle.clap.proofs.OnLiterals.{clap_on_literals}
use Rattle.command_line.specs.Command.{beat_command}
use Rattle.command_line.specs.LineCount.{IsLineCount}
use Rattle.command_line.specs.Words.{AsksFor, IsCommand, IsGenerateBy, IsNoCommand}
use Rattle.command_line.specs.declared.words.Words.{Words}
use Rattle.wire_base.specs.Decimal.{value_of}

-- ---- arguments that are taken

abbrev pub once_over : List ℕ → Words
once_over file = record {
  settings = file;
  «data» = codes "data";
  once = true;
  generate = None;
}

abbrev pub joined : List ℕ → List (List ℕ)
joined file = (codes "--config=" ++ file) ∷ codes "--once" ∷ []

joined_has_no_fault : (file : List ℕ) → fault_of beat_command (joined file) ≡ []
unfolding clap_on_literals
joined_has_no_fault file = refl

joined_asks : (file : List ℕ) → AsksFor (matches_of beat_command (joined file)) (once_over file)
unfolding clap_on_literals
joined_asks file = record {
  settings = refl;
  folder = refl;
  once = (λ _. refl, λ _. refl);
  generate = refl;
}

-- `--config=FILE --once`, whatever FILE is
pub joined_is_taken : (file : List ℕ) → IsCommand (joined file) (once_over file)
joined_is_taken file = (joined_has_no_fault file, joined_asks file)

abbrev pub named : List ℕ → List ℕ → List ℕ → List (List ℕ)
named file folder digits =
    (codes "--config=" ++ file) ∷ (codes "--data=" ++ folder) ∷ (codes "--generate=" ++ digits) ∷ []

named_has_no_fault : (file folder digits : List ℕ) → fault_of beat_command (named file folder digits) ≡ []
unfolding clap_on_literals
named_has_no_fault file folder digits = refl

named_asks : (file folder digits : List ℕ) → IsLineCount digits → AsksFor (matches_of beat_command (named file folder digits)) (record {
  settings = file;
  «data» = folder;
  once = false;
  generate = Some (value_of digits);
})
unfolding clap_on_literals
named_asks file folder digits count = record {
  settings = refl;
  folder = refl;
  once = (λ yes. absurd (false≢true yes), λ set. cc);
  generate = (count, refl);
}

-- `--config=FILE --data=DIR --generate=N`, whatever FILE and DIR are, if N is a number of lines
pub named_is_taken : (file folder digits : List ℕ) → IsLineCount digits → IsCommand (named file folder digits) (record {
  settings = file;
  «data» = folder;
  once = false;
  generate = Some (value_of digits);
})
named_is_taken file folder digits count = (named_has_no_fault file folder digits, named_asks file folder digits count)

abbrev top : Shape
top = (built beat_command).top

abbrev start : Walk
start = walk_from nothing_held

abbrev after_option : Walk
after_option = walked top.rules [] start (codes "-c")

-- the walk after `-c FILE`
abbrev after_file : List ℕ → Walk
after_file file = record after_option { held = pushed (codes "config") file after_option.held; waiting = idle }

file_is_a_value : (file : List ℕ) → strip_byte 45 file ≡ None → bytes_eq file (codes "--") ≡ false
    → walked top.rules [] after_option file ≡ after_file file
unfolding clap_on_literals
file_is_a_value file plain dashes = rw (plain, dashes) (rw plain refl)

file_has_no_fault : (file : List ℕ) → strip_byte 45 file ≡ None → bytes_eq file (codes "--") ≡ false
    → turn_fault top [] after_option file ≡ []
unfolding clap_on_literals
file_has_no_fault file plain dashes = rw (plain, dashes) (rw plain refl)

abbrev pub apart_words : List ℕ → List (List ℕ)
apart_words file = codes "-c" ∷ file ∷ codes "--once" ∷ []

-- the faults of those arguments, by what FILE comes to
abbrev faults_by : Kinds → Walk → Kinds
faults_by at_file behind =
    let end = walked top.rules [] behind (codes "--once") in
    or_else (or_else (turn_fault top [] start (codes "-c")) (or_else at_file (walk_fault top [] behind (codes "--once" ∷ []))))
    (or_else (entered_fault (built beat_command) end.stopped)
    (or_else (settle_fault top.rules top.args_override_self end.held)
    (or_else (defaults_fault (settled top.rules end.held).rows top.rules)
    (check_fault top (finished top.rules end.held) (is_some (entered (built beat_command) end.stopped))))))

known_faults : (file : List ℕ) → faults_by [] (after_file file) ≡ []
unfolding clap_on_literals
known_faults file = refl

apart_has_no_fault : (file : List ℕ) → strip_byte 45 file ≡ None → bytes_eq file (codes "--") ≡ false
    → fault_of beat_command (apart_words file) ≡ []
unfolding clap_on_literals
apart_has_no_fault file plain dashes =
    ap₂ faults_by (file_has_no_fault file plain dashes) (file_is_a_value file plain dashes) ∙ known_faults file

known_asks : (file : List ℕ) → AsksFor (finished top.rules (walked top.rules [] (after_file file) (codes "--once")).held) (once_over file)
unfolding clap_on_literals
known_asks file = record {
  settings = refl;
  folder = refl;
  once = (λ _. refl, λ _. refl);
  generate = refl;
}

apart_asks : (file : List ℕ) → strip_byte 45 file ≡ None → bytes_eq file (codes "--") ≡ false
    → AsksFor (matches_of beat_command (apart_words file)) (once_over file)
unfolding clap_on_literals
apart_asks file plain dashes =
    subst (λ (w : Walk). AsksFor (finished top.rules (walked top.rules [] w (codes "--once")).held) (once_over file))
    (sym (file_is_a_value file plain dashes)) (known_asks file)

-- `-c FILE --once`, if FILE does not begin with a hyphen
pub apart_is_taken : (file : List ℕ) → strip_byte 45 file ≡ None → IsCommand (apart_words file) (once_over file)
apart_is_taken file plain = (apart_has_no_fault file plain (no_dashes file plain), apart_asks file plain (no_dashes file plain))
  where
    no_dashes : (word : List ℕ) → strip_byte 45 word ≡ None → bytes_eq word (codes "--") ≡ false
    no_dashes [] none = refl
    no_dashes (x ∷ rest) none = by_test (x == 45) none
      where
        by_test : (b : Bool) → cond b (Some rest) None ≡ None → (b && bytes_eq rest (codes "-")) ≡ false
        by_test true h = cc
        by_test false h = refl

-- ---- arguments that are refused

-- no arguments are both taken and refused
pub not_both : (words : List (List ℕ)) (asked : Words) → IsCommand words asked → IsNoCommand words → ⊥
not_both words asked taken (inl fault) = fault taken.0
not_both words asked taken (inr no_count) = go (first_of (codes "generate") (matches_of beat_command words)) taken.1.generate no_count
  where
    go : (value : Option (List ℕ)) → IsGenerateBy value asked.generate → IsSomeAnd value (λ digits. ¬ (IsLineCount digits)) → ⊥
    go None read refused = refused
    go (Some digits) read refused = refused read.0

nothing : fault_of beat_command [] ≡ kind.MissingRequiredArgument ∷ []
unfolding clap_on_literals
nothing = refl

flag_alone : fault_of beat_command (codes "--once" ∷ []) ≡ kind.MissingRequiredArgument ∷ []
unfolding clap_on_literals
flag_alone = refl

stray_word : fault_of beat_command (codes "-c" ∷ codes "f" ∷ codes "x" ∷ []) ≡ kind.UnknownArgument ∷ []
unfolding clap_on_literals
stray_word = refl

repeated : fault_of beat_command (codes "-c" ∷ codes "f" ∷ codes "-c" ∷ codes "g" ∷ []) ≡ kind.ArgumentConflict ∷ []
unfolding clap_on_literals
repeated = refl

help : fault_of beat_command (codes "-c" ∷ codes "f" ∷ codes "--help" ∷ []) ≡ kind.UnknownArgument ∷ []
unfolding clap_on_literals
help = refl

version : fault_of beat_command (codes "-c" ∷ codes "f" ∷ codes "-V" ∷ []) ≡ kind.UnknownArgument ∷ []
unfolding clap_on_literals
version = refl

-- and where N is none
pub named_is_refused : (file folder digits : List ℕ) → ¬ (IsLineCount digits) → IsNoCommand (named file folder digits)
unfolding clap_on_literals
named_is_refused file folder digits no_count = inr no_count

no_lines : IsNoCommand (codes "-c" ∷ codes "f" ∷ codes "--generate" ∷ codes "0" ∷ [])
unfolding clap_on_literals
no_lines = inr (λ count. absurd (omega (arith, count.1)))
