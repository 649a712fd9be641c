-- Worked askings that are made again, computed by the definitions.
use Rattle.std.proofs.Common.{◌≡◌, ℕ, ◌<◌, List, [], ◌∷◌, ◌++◌, Some, None, codes, refl, sym, subst, lit<, lit≤, arith}
use Rattle.std.specs.Prelude.{flat_map}
use Rattle.std.specs.List.{AllByRecursion}
use Rattle.event_tree.specs.declared.input_rule.IdentityRule.TheVariants.{Fingerprint}
use Rattle.event_tree.specs.declared.input_rule.InputRule.{InputRule}
use Rattle.outside.specs.declared.history.Look.{Look}
use Rattle.outside.specs.declared.history.Question.{Question}
use Rattle.outside.specs.declared.history.Question.TheVariants.{ReadAt}
use Rattle.outside.specs.Files.{File}
use Rattle.file_identity.specs.AskedAgain.{GivesKey, HasOtherKey, SomeAskingGives, StillHasKey}
use Rattle.file_identity.specs.Asking.{IsAsking, IsCutAsking, given_key}
use Rattle.file_identity.specs.Key.{fingerprint_key}
use Rattle.file_identity.proofs.CutAskings.{none_cut}

abbrev look : Question → ℕ → ℕ → Look
look question life length = record { question = question; sight = record { life = life; length = length } }

-- its first life is empty at first, its second one has the fingerprint
abbrev file : File
file = record { numbers = None; lives = codes "abcd" ∷ [] }

module _ (any : InputRule) where
  abbrev rule : InputRule
  rule = record any { file_identity = Fingerprint 0 2 }

  abbrev key : List ℕ
  key = fingerprint_key any.id (codes "ab")

  abbrev whole : List Look
  whole = look (ReadAt 0 2) 0 4 ∷ []

  gives : GivesKey rule key (codes "/a") file whole
  gives = record { asking = (lit< tt, (refl, lit≤ tt, refl)); gave = refl }

  -- ---- a fault cut two askings, one before its first read and one after it; the third one gave the key

  abbrev cut : List Look
  cut = look (ReadAt 0 1) 0 4 ∷ []

  asked_again : StillHasKey rule key (codes "/a") file (cut ++ whole)
  asked_again = record {
    before = cut;
    asked = whole;
    behind = [];
    looks_are = refl;
    cut = record { askings = [] ∷ cut ∷ []; together = refl; each = (lit< tt, ((lit< tt, (refl, lit≤ tt, lit< tt)), tt)) };
    gives = gives;
  }

  -- ---- the file was empty as it was asked for its key, and asked again it gave it: the first asking decides

  abbrev nothing : Look
  nothing = look (ReadAt 0 0) 0 0

  no_key_first : HasOtherKey rule key (codes "/a") file (nothing ∷ whole)
  no_key_first = record {
    before = [];
    asked = nothing ∷ [];
    behind = whole;
    looks_are = refl;
    cut = none_cut rule.file_identity;
    asking = (lit< tt, (refl, refl));
    other = λ is. let q : None ≡ Some key = is in cc;
  }

  -- some asking gave the key, but not the first
  some_asking : SomeAskingGives rule key (codes "/a") file (nothing ∷ whole)
  some_asking = record { before = nothing ∷ []; asked = whole; behind = []; looks_are = refl; only_reads = (tt, tt); gives = gives }

  first_gives_it : (asked behind : List Look) → nothing ∷ whole ≡ asked ++ behind → GivesKey rule key (codes "/a") file asked → ⊥
  first_gives_it [] behind are gave = let none : 2 ≡ 0 = gave.asking in cc
  first_gives_it (one ∷ asked) behind are gave =
      let head : nothing ≡ one = cc in
      let asking = subst (λ (l : Look). IsAsking rule.file_identity (l ∷ asked)) (sym head) gave.asking in
      let alone : asked ≡ [] = asking.1.1 in
      let given = subst (λ (l : Look). given_key any.id rule.file_identity (codes "/a") file (l ∷ asked) ≡ Some key) (sym head) gave.gave in
      let none : None ≡ Some key = subst (λ (l : List Look). given_key any.id rule.file_identity (codes "/a") file (nothing ∷ l) ≡ Some key) alone given in
      cc

  no_cut_asking : (askings : List (List Look)) (asked behind : List Look) → AllByRecursion (IsCutAsking rule.file_identity) askings →
      nothing ∷ whole ≡ flat_map (λ asking. asking) askings ++ (asked ++ behind) → GivesKey rule key (codes "/a") file asked → ⊥
  no_cut_asking [] asked behind each are gave = first_gives_it asked behind are gave
  no_cut_asking ([] ∷ askings) asked behind each are gave = no_cut_asking askings asked behind each.1 are gave
  no_cut_asking ((one ∷ asking) ∷ askings) asked behind each are gave =
      let head : nothing ≡ one = cc in
      let read = subst (λ (l : Look). IsCutAsking rule.file_identity (l ∷ asking)) (sym head) each.0 in
      read.1.1

  not_passed_over : StillHasKey rule key (codes "/a") file (nothing ∷ whole) → ⊥
  not_passed_over still =
      no_cut_asking still.cut.askings still.asked still.behind still.cut.each
      (subst (λ (l : List Look). nothing ∷ whole ≡ l ++ (still.asked ++ still.behind)) still.cut.together still.looks_are) still.gives
