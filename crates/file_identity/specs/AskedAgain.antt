-- Whether a file still has its key, as it is asked again when a new life begins (Filebeat reference, file identity; this
-- project's profile). An asking that hit a fault is made again, before anything else is asked of the file; the first one that
-- hit none decides.
use Rattle.std.specs.Prelude.{◌≡◌, ◌≢◌, ◌⊎◌, ℕ, List, ◌++◌, flat_map, Some, None}
use Rattle.std.specs.List.{AllByRecursion}
use Rattle.event_tree.specs.declared.input_rule.IdentityRule.{IdentityRule}
use Rattle.event_tree.specs.declared.input_rule.InputRule.{InputRule}
use Rattle.file_looks.specs.Segment.{Segment}
use Rattle.outside.specs.declared.history.Look.{Look}
use Rattle.outside.specs.declared.history.Question.{Question}
use Rattle.outside.specs.declared.history.Question.TheVariants.{Length, ReadAt}
use Rattle.outside.specs.Files.{File}
use Rattle.file_identity.specs.Asking.{IsAsking, IsCutAsking, given_key}

-- the looks are a whole asking that gave the key
pub record GivesKey (rule : InputRule) (key path : List ℕ) (file : File) (looks : List Look) : Type 0 where
  pub asking : IsAsking rule.file_identity looks
  pub gave : given_key rule.id rule.file_identity path file looks ≡ Some key

abbrev pub IsRead : Question → Type 0
IsRead Length = ⊥
IsRead (ReadAt place count) = Unit {0}

-- the looks of askings that a fault cut, one after another
pub record AreCutAskings (rule : IdentityRule) (looks : List Look) : Type 0 where
  pub askings : List (List Look)
  pub together : looks ≡ flat_map (λ asking. asking) askings
  pub each : AllByRecursion (IsCutAsking rule) askings

-- an asking gave the key, at once or again after those that hit a fault, before anything else was asked
pub record StillHasKey (rule : InputRule) (key path : List ℕ) (file : File) (looks : List Look) : Type 0 where
  pub before : List Look
  pub asked : List Look
  pub behind : List Look
  pub looks_are : looks ≡ before ++ (asked ++ behind)
  pub cut : AreCutAskings rule.file_identity before
  pub gives : GivesKey rule key path file asked

-- when a new life begins the file still has the key
abbrev pub KeepsKey : InputRule → List ℕ → List ℕ → File → Segment → Type 0
KeepsKey rule key path file segment = (segment.fall ≡ None) ⊎ StillHasKey rule key path file segment.looks

-- the first asking that hit no fault gave another key, or none
pub record HasOtherKey (rule : InputRule) (key path : List ℕ) (file : File) (looks : List Look) : Type 0 where
  pub before : List Look
  pub asked : List Look
  pub behind : List Look
  pub looks_are : looks ≡ before ++ (asked ++ behind)
  pub cut : AreCutAskings rule.file_identity before
  pub asking : IsAsking rule.file_identity asked
  pub other : given_key rule.id rule.file_identity path file asked ≢ Some key

-- some asking gave the key before the length was asked, whatever those before it gave
pub record SomeAskingGives (rule : InputRule) (key path : List ℕ) (file : File) (looks : List Look) : Type 0 where
  pub before : List Look
  pub asked : List Look
  pub behind : List Look
  pub looks_are : looks ≡ before ++ (asked ++ behind)
  pub only_reads : AllByRecursion (λ look. IsRead look.question) before
  pub gives : GivesKey rule key path file asked
