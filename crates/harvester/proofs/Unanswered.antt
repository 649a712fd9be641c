-- What asking the file for its key again gave or did not give, by the rule with which the harvester was opened.
use Rattle.std.proofs.Common.{◌≡◌, ℕ, Bool, true, false, List, ◌++◌, Option, Some, None, IfSome, Result, Ok, Err, sym, subst, append-nil}
use Rattle.event_tree.specs.declared.input_rule.IdentityRule.{IdentityRule}
use Rattle.event_tree.specs.declared.input_rule.IdentityRule.TheVariants.{Fingerprint}
use Rattle.file_identity.proofs.AskedOnce.{askable_wants, cut_is_part, none_by_cut, nothing_is_part}
use Rattle.file_identity.proofs.CutAskings.{cut_again}
use Rattle.file_identity.specs.Answers.{IsCompared, IsFingerprint, IsSameKey, with_numbers}
use Rattle.file_identity.specs.AskedAgain.{AreCutAskings, SomeAskingGives}
use Rattle.file_identity.specs.Asking.{IsCutAsking, IsPartOfAsking}
use Rattle.file_identity.specs.Key.{WantsBytes}
use Rattle.outside.specs.declared.failed.Failed.{Failed}
use Rattle.outside.specs.declared.history.Look.{Look}
use Rattle.outside.specs.Files.{File}
use Rattle.outside.specs.Tails.{TailHistory}
use Rattle.harvester.specs.declared.turn_error.TurnError.{TurnError}
use Rattle.harvester.specs.declared.turn_error.TurnError.TheVariants.{ReadFault, NoMemory}
use Rattle.harvester.specs.Asked.{IsGivenKey, WasAsked}
use Rattle.harvester.specs.Held.{Held}
use Rattle.harvester.specs.History.{History}
use Rattle.harvester.specs.Standing.{StandsFor}

pub wants_bytes : (h : History) (held : Held) → StandsFor h held → WantsBytes h.rule.file_identity
wants_bytes h held stands =
    let f = stands.holds.follows in
    subst (λ (r : IdentityRule). WantsBytes r) f.identity (askable_wants held.identity f.askable)

pub refused_is_part : (held : Held) (file : File) (looks : List Look) (error : TurnError) → IsGivenKey held file looks (Err error) → IsPartOfAsking held.identity looks
refused_is_part held file looks ReadFault gave = cut_is_part held.identity looks gave
refused_is_part held file looks NoMemory gave = subst (λ (l : List Look). IsPartOfAsking held.identity l) (sym gave) (nothing_is_part held.identity)

-- what was not reported before is not reported by an asking that was refused
pub still_unknown : (h : History) (held : Held) → StandsFor h held → (file given : File) (before looks : List Look) (error : TurnError) → IsGivenKey held given looks (Err error) →
    (IsFingerprint h.rule.file_identity → ¬ (SomeAskingGives h.rule h.begin.key h.begin.path file before)) →
    IsFingerprint h.rule.file_identity → ¬ (SomeAskingGives h.rule h.begin.key h.begin.path file (before ++ looks))
still_unknown h held stands file given before looks ReadFault gave unknown is =
    none_by_cut h.rule h.begin.key h.begin.path file before looks (unknown is)
    (subst (λ (r : IdentityRule). IsCutAsking r looks) stands.holds.follows.identity gave)
still_unknown h held stands file given before looks NoMemory gave unknown is =
    subst (λ (l : List Look). ¬ (SomeAskingGives h.rule h.begin.key h.begin.path file (before ++ l))) (sym gave)
    (subst (λ (l : List Look). ¬ (SomeAskingGives h.rule h.begin.key h.begin.path file l)) (sym (append-nil before)) (unknown is))

-- a fault cut it, or it had no look
pub cut_still : (h : History) (held : Held) → StandsFor h held → (given : File) (before looks : List Look) (error : TurnError) → IsGivenKey held given looks (Err error) →
    AreCutAskings h.rule.file_identity before → AreCutAskings h.rule.file_identity (before ++ looks)
cut_still h held stands given before looks ReadFault gave cut =
    cut_again h.rule.file_identity before looks cut (subst (λ (r : IdentityRule). IsCutAsking r looks) stands.holds.follows.identity gave)
cut_still h held stands given before looks NoMemory gave cut =
    subst (λ (l : List Look). AreCutAskings h.rule.file_identity (before ++ l)) (sym gave)
    (subst (λ (l : List Look). AreCutAskings h.rule.file_identity l) (sym (append-nil before)) cut)

-- ---- whether the file has the key by its fingerprint

module _ (held : Held) (offset count : ℕ) (is : held.identity ≡ Fingerprint offset count) (numbers : Option (ℕ × ℕ)) (told after : Option TailHistory) where
  was_compared : (before : TailHistory) (given : Bool) → IsCompared held.input (Fingerprint offset count) held.begin.key numbers before (Ok given) after →
      WasAsked held numbers before (Ok given) after
  was_compared before true gave = record {
    looks = gave.looks;
    added = gave.added;
    gave = subst (λ (r : IdentityRule). IsSameKey held.input r held.begin.path held.begin.key (with_numbers numbers before.file) gave.looks (Ok true))
        (sym is) (gave.same held.begin.path);
  }
  was_compared before false gave = record {
    looks = gave.looks;
    added = gave.added;
    gave = subst (λ (r : IdentityRule). IsSameKey held.input r held.begin.path held.begin.key (with_numbers numbers before.file) gave.looks (Ok false))
        (sym is) (gave.same held.begin.path);
  }

  was_cut : (before : TailHistory) (failed : Failed) → IsCompared held.input (Fingerprint offset count) held.begin.key numbers before (Err failed) after →
      WasAsked held numbers before (Err ReadFault) after
  was_cut before failed gave = record {
    looks = gave.looks;
    added = gave.added;
    gave = subst (λ (r : IdentityRule). IsCutAsking r gave.looks) (sym is) (gave.same held.begin.path);
  }

  pub compared : (given : Bool) →
      IfSome told (λ before. IsCompared held.input (Fingerprint offset count) held.begin.key numbers before (Ok given) after) →
      IfSome told (λ before. WasAsked held numbers before (Ok given) after)
  compared given gave = by told gave
    where
      by : (o : Option TailHistory) → IfSome o (λ before. IsCompared held.input (Fingerprint offset count) held.begin.key numbers before (Ok given) after) →
          IfSome o (λ before. WasAsked held numbers before (Ok given) after)
      by None gave = tt
      by (Some before) gave = was_compared before given gave

  pub cut_short : (failed : Failed) (result : Result Bool TurnError) → result ≡ Err ReadFault →
      IfSome told (λ before. IsCompared held.input (Fingerprint offset count) held.begin.key numbers before (Err failed) after) →
      IfSome told (λ before. WasAsked held numbers before result after)
  cut_short failed result fault gave = subst (λ (r : Result Bool TurnError). IfSome told (λ before. WasAsked held numbers before r after)) (sym fault) (by told gave)
    where
      by : (o : Option TailHistory) → IfSome o (λ before. IsCompared held.input (Fingerprint offset count) held.begin.key numbers before (Err failed) after) →
          IfSome o (λ before. WasAsked held numbers before (Err ReadFault) after)
      by None gave = tt
      by (Some before) gave = was_cut before failed gave
