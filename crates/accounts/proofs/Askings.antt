-- What an asking for a file's key reports: its looks only read, and where the identity does not read the file, each asking gives what the
-- first one gave.
use Rattle.std.proofs.Common.{◌≡◌, ℕ, zero, suc, ◌+◌, ◌-◌, List, [], ◌∷◌, ◌++◌, refl, sym, subst, ◌∙◌}
use Rattle.std.specs.List.{AllByRecursion}
use Rattle.event_tree.specs.declared.input_rule.IdentityRule.{IdentityRule}
use Rattle.event_tree.specs.declared.input_rule.IdentityRule.TheVariants.{Fingerprint, Native, Path}
use Rattle.event_tree.specs.declared.input_rule.InputRule.{InputRule}
use Rattle.file_identity.proofs.CutAskings.{none_cut}
use Rattle.file_identity.specs.AskedAgain.{GivesKey, IsRead, StillHasKey}
use Rattle.file_identity.specs.Asking.{AreReads, IsAsking, ReadsOn, given_key}
use Rattle.kept_rows.specs.Scans.{IsNoFingerprint}
use Rattle.outside.specs.Files.{File}
use Rattle.outside.specs.declared.history.Look.{Look}
use Rattle.outside.specs.declared.history.Question.{Question}
use Rattle.outside.specs.declared.history.Question.TheVariants.{Length, ReadAt}
use Rattle.outside.specs.declared.history.Sight.{Sight}

-- ---- its looks only read

abbrev pub OnlyRead : List Look → Type 0
OnlyRead looks = AllByRecursion (λ (look : Look). IsRead look.question) looks

all_read : (looks : List Look) (place wanted : ℕ) → AreReads looks place wanted → OnlyRead looks
all_read [] place wanted are = tt
all_read (look ∷ looks) place wanted are = by_question look.question look.sight are.1 (all_read looks)
  where
    by_question : (question : Question) (sight : Sight) → ReadsOn place wanted (λ next left. AreReads looks next left) (looks ≡ []) question →
        ((next left : ℕ) → AreReads looks next left → OnlyRead looks) → OnlyRead (record { question = question; sight = sight } ∷ looks)
    by_question Length sight on others = absurd on
    by_question (ReadAt at zero) sight on others = (tt, subst OnlyRead (sym on.1) tt)
    by_question (ReadAt at (suc more)) sight on others = (tt, others (place + suc more) (wanted - suc more) on.2)

pub asking_reads : (rule : IdentityRule) (looks : List Look) → IsAsking rule looks → OnlyRead looks
asking_reads (Fingerprint offset count) looks is = all_read looks offset count is
asking_reads Native looks is = subst OnlyRead (sym is) tt
asking_reads Path looks is = subst OnlyRead (sym is) tt

-- ---- the key

-- a file that gave its key has it after any other looks
pub still_has_key : (rule : InputRule) (key path : List ℕ) (file : File) (asked behind : List Look) → GivesKey rule key path file asked → StillHasKey rule key path file (asked ++ behind)
still_has_key rule key path file asked behind gave =
    record { before = []; asked = asked; behind = behind; looks_are = refl; cut = none_cut rule.file_identity; gives = gave }

asks_nothing : (identity : IdentityRule) → IsNoFingerprint identity → IsAsking identity []
asks_nothing (Fingerprint offset count) named = absurd named
asks_nothing Native named = refl
asks_nothing Path named = refl

-- if the identity does not read the file, no look gives its key
given_by_none : (identity : IdentityRule) (id path : List ℕ) (file : File) (looks : List Look) → IsNoFingerprint identity →
    given_key id identity path file [] ≡ given_key id identity path file looks
given_by_none (Fingerprint offset count) id path file looks named = absurd named
given_by_none Native id path file looks named = refl
given_by_none Path id path file looks named = refl

-- so a file that is known without being read still has its key, whatever was reported after
pub still_has_name : (rule : InputRule) (key path : List ℕ) (file : File) (asked looks : List Look) → IsNoFingerprint rule.file_identity →
    GivesKey rule key path file asked → StillHasKey rule key path file looks
still_has_name rule key path file asked looks named gave =
    still_has_key rule key path file [] looks
    (record { asking = asks_nothing rule.file_identity named; gave = given_by_none rule.file_identity rule.id path file asked named ∙ gave.gave })
