-- The globs of the settings, each with its input (this project's profile).
use Rattle.std.specs.Prelude.{ℕ, ◌+◌, ◌==◌, ◌&&◌, ◌||◌, not, nat_eq, Bool, false, codes, List, [], ◌∷◌, ◌++◌, map}
use Rattle.std.specs.List.{ends_with, list_any, starts_with}
use Rattle.event_tree.specs.declared.input_rule.InputRule.{InputRule}
use Rattle.findings.specs.declared.globs.GlobAsked.{GlobAsked}

abbrev pub glob_of : ℕ → InputRule → List ℕ → GlobAsked
glob_of number rule text = record { input = number; id = rule.id; identity = rule.file_identity; text = text; glob = text }

-- those of the input of this place
abbrev pub of_input : ℕ → InputRule → List GlobAsked
of_input number rule = map (glob_of number rule) rule.paths

-- those of inputs of which the first has this place
abbrev pub asked_globs : ℕ → List InputRule → List GlobAsked
asked_globs number [] = []
asked_globs number (rule ∷ rules) = of_input number rule ++ asked_globs (number + 1) rules

-- ---- what other tools read otherwise (Filebeat reference, paths, after Go's Glob)

-- an opening and a closing brace
abbrev pub has_braces : List ℕ → Bool
has_braces text = list_any (λ byte. byte == 0x7B) text && list_any (λ byte. byte == 0x7D) text

-- a class that begins with `!`, which is here one of its characters
abbrev pub has_mark : List ℕ → Bool
has_mark [] = false
has_mark (byte ∷ text) = starts_with nat_eq (byte ∷ text) (codes "[!") || has_mark text

abbrev pub is_foreign : List ℕ → Bool
is_foreign text = has_braces text || has_mark text

-- such a glob covers each covered path also with more at its end, as rotated names have
abbrev pub ends_with_star : List ℕ → Bool
ends_with_star text = ends_with nat_eq text (codes "*") && not (ends_with nat_eq text (codes "\\*"))
