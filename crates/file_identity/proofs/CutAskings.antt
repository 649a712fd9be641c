-- Askings that a fault cut, one after another: their looks only read, and one more may follow.
use Rattle.std.proofs.Common.{◌≡◌, ℕ, zero, suc, ◌+◌, ◌-◌, List, [], ◌∷◌, ◌++◌, refl, sym, ap, subst, ◌∙◌, append_assoc}
use Rattle.std.proofs.lemmas.List.{append-nil}
use Rattle.std.specs.Prelude.{flat_map}
use Rattle.std.specs.List.{AllByRecursion}
use Rattle.event_tree.specs.declared.input_rule.IdentityRule.{IdentityRule}
use Rattle.event_tree.specs.declared.input_rule.IdentityRule.TheVariants.{Fingerprint, Native, Path}
use Rattle.event_tree.specs.declared.input_rule.InputRule.{InputRule}
use Rattle.outside.specs.declared.history.Look.{Look}
use Rattle.outside.specs.declared.history.Question.{Question}
use Rattle.outside.specs.declared.history.Question.TheVariants.{Length, ReadAt}
use Rattle.outside.specs.declared.history.Sight.{Sight}
use Rattle.outside.specs.Files.{File}
use Rattle.file_identity.specs.AskedAgain.{AreCutAskings, GivesKey, IsRead, SomeAskingGives, StillHasKey}
use Rattle.file_identity.specs.Asking.{AreCutReads, IsCutAsking, ReadsOn}

pub none_cut : (rule : IdentityRule) → AreCutAskings rule []
none_cut rule = record { askings = []; together = refl; each = tt }

together_with : (askings : List (List Look)) (last : List Look) → flat_map (λ asking. asking) (askings ++ last ∷ []) ≡ flat_map (λ asking. asking) askings ++ last
together_with [] last = append-nil last
together_with (asking ∷ askings) last =
    ap (λ (l : List Look). asking ++ l) (together_with askings last) ∙ sym (append_assoc asking (flat_map (λ one. one) askings) last)

each_with : (rule : IdentityRule) (askings : List (List Look)) (last : List Look) → AllByRecursion (IsCutAsking rule) askings → IsCutAsking rule last →
    AllByRecursion (IsCutAsking rule) (askings ++ last ∷ [])
each_with rule [] last each is = (is, tt)
each_with rule (asking ∷ askings) last each is = (each.0, each_with rule askings last each.1 is)

-- one more, after them
pub cut_again : (rule : IdentityRule) (looks more : List Look) → AreCutAskings rule looks → IsCutAsking rule more → AreCutAskings rule (looks ++ more)
cut_again rule looks more cut last = record {
  askings = cut.askings ++ more ∷ [];
  together = ap (λ (l : List Look). l ++ more) cut.together ∙ sym (together_with cut.askings more);
  each = each_with rule cut.askings more cut.each last;
}

-- ---- their looks only read

abbrev OnlyRead : List Look → Type 0
OnlyRead looks = AllByRecursion (λ (look : Look). IsRead look.question) looks

cut_reads : (looks : List Look) (place wanted : ℕ) → AreCutReads looks place wanted → OnlyRead looks
cut_reads [] place wanted are = tt
cut_reads (look ∷ looks) place wanted are = by look.question look.sight are.1 (cut_reads looks)
  where
    by : (question : Question) (sight : Sight) → ReadsOn place wanted (λ next left. AreCutReads looks next left) ⊥ question →
        ((next left : ℕ) → AreCutReads looks next left → OnlyRead looks) → OnlyRead (record { question = question; sight = sight } ∷ looks)
    by Length sight on later = absurd on
    by (ReadAt at zero) sight on later = absurd on.1
    by (ReadAt at (suc more)) sight on later = (tt, later (place + suc more) (wanted - suc more) on.2)

cut_only_reads : (rule : IdentityRule) (looks : List Look) → IsCutAsking rule looks → OnlyRead looks
cut_only_reads (Fingerprint offset count) looks cut = cut_reads looks offset count cut
cut_only_reads Native looks cut = absurd cut
cut_only_reads Path looks cut = absurd cut

both_read : (one other : List Look) → OnlyRead one → OnlyRead other → OnlyRead (one ++ other)
both_read [] other first second = second
both_read (look ∷ one) other first second = (first.0, both_read one other first.1 second)

all_read : (rule : IdentityRule) (askings : List (List Look)) → AllByRecursion (IsCutAsking rule) askings → OnlyRead (flat_map (λ asking. asking) askings)
all_read rule [] each = tt
all_read rule (asking ∷ askings) each =
    both_read asking (flat_map (λ one. one) askings) (cut_only_reads rule asking each.0) (all_read rule askings each.1)

pub cut_askings_read : (rule : IdentityRule) (looks : List Look) → AreCutAskings rule looks → OnlyRead looks
cut_askings_read rule looks cut = subst OnlyRead (sym cut.together) (all_read rule cut.askings cut.each)

-- so a file that still has its key was given it by some asking
pub some_gives : (rule : InputRule) (key path : List ℕ) (file : File) (looks : List Look) → StillHasKey rule key path file looks → SomeAskingGives rule key path file looks
some_gives rule key path file looks still = record {
  before = still.before;
  asked = still.asked;
  behind = still.behind;
  looks_are = still.looks_are;
  only_reads = cut_askings_read rule.file_identity still.before still.cut;
  gives = still.gives;
}
