-- What asking a harvester's tail for its key gives, as contracts tell it.
use Rattle.std.proofs.Common.{◌≡◌, ◌≢◌, ℕ, zero, suc, ◌+◌, ◌-◌, Bool, true, false, List, [], ◌∷◌, ◌++◌, Option, Some, None, IfSome, IsErr, IsNone, Result, Ok, Err, refl, sym, ap, subst, ◌∙◌, append-nil}
use Rattle.std.specs.List.{AllByRecursion}
use Rattle.event_tree.specs.declared.input_rule.IdentityRule.{IdentityRule}
use Rattle.event_tree.specs.declared.input_rule.IdentityRule.TheVariants.{Fingerprint, Native, Path}
use Rattle.file_identity.proofs.AskedOnce.{none_by_other}
use Rattle.file_identity.specs.Answers.{with_numbers}
use Rattle.file_identity.specs.AskedAgain.{GivesKey, HasOtherKey, IsRead, StillHasKey}
use Rattle.file_identity.specs.Asking.{ArePartReads, AreReads, IsAsking, IsPartOfAsking, ReadsOn, given_key}
use Rattle.outside.specs.declared.history.Look.{Look}
use Rattle.outside.specs.declared.history.Question.{Question}
use Rattle.outside.specs.declared.history.Question.TheVariants.{Length, ReadAt}
use Rattle.outside.specs.declared.history.Sight.{Sight}
use Rattle.outside.specs.Files.{File}
use Rattle.outside.specs.Tails.{TailHistory}
use Rattle.told_events.specs.Rules.{Rules}
use Rattle.wire_base.specs.declared.note.Begin.{Begin}
use Rattle.wire_base.specs.declared.numbers.Epoch.{Epoch}
use Rattle.harvester.specs.declared.harvester.Harvester.{Harvester}
use Rattle.harvester.specs.declared.stage.Stage.TheVariants.{Asking}
use Rattle.harvester.specs.declared.turn.Turn.{Turn}
use Rattle.harvester.specs.declared.turn.Turn.TheVariants as turn
use Rattle.harvester.specs.declared.turn_error.TurnError.{TurnError}
use Rattle.harvester.specs.Asked.{HasAsked, IsGivenKey, WasAsked}
use Rattle.harvester.specs.Deciding.{Decides}
use Rattle.harvester.specs.HasTold.{HasTold}
use Rattle.harvester.specs.Held.{Held}
use Rattle.harvester.specs.History.{Asks, Changed, History, Over, rules_in, with_epoch, with_stage}
use Rattle.harvester.specs.Looked.{AreLookedAt, IsLookedAt}
use Rattle.harvester.specs.Standing.{StandsFor, stage_of}
use Rattle.harvester.proofs.Unanswered.{cut_still, refused_is_part, still_unknown, wants_bytes}
use Rattle.harvester.proofs.LookingOn.{asks_on, begins_epoch, changes, is_over, was, was_cut, was_unknown, with_looks}

-- ---- the looks of an asking are reads

parts_read : (looks : List Look) (place wanted : ℕ) → ArePartReads looks place wanted → AllByRecursion (λ look. IsRead look.question) looks
parts_read [] place wanted are = tt
parts_read (look ∷ looks) place wanted are = by look.question look.sight are.1 (parts_read looks)
  where
    by : (question : Question) (sight : Sight) → ReadsOn place wanted (λ next left. ArePartReads looks next left) (looks ≡ []) question →
        ((next left : ℕ) → ArePartReads looks next left → AllByRecursion (λ (one : Look). IsRead one.question) looks) →
        AllByRecursion (λ (one : Look). IsRead one.question) (record { question = question; sight = sight } ∷ looks)
    by Length sight on others = absurd on
    by (ReadAt at zero) sight on others = (tt, subst (λ (l : List Look). AllByRecursion (λ (one : Look). IsRead one.question) l) (sym on.1) tt)
    by (ReadAt at (suc more)) sight on others = (tt, others (place + suc more) (wanted - suc more) on.2)

all_read : (looks : List Look) (place wanted : ℕ) → AreReads looks place wanted → AllByRecursion (λ look. IsRead look.question) looks
all_read [] place wanted are = tt
all_read (look ∷ looks) place wanted are = by look.question look.sight are.1 (all_read looks)
  where
    by : (question : Question) (sight : Sight) → ReadsOn place wanted (λ next left. AreReads looks next left) (looks ≡ []) question →
        ((next left : ℕ) → AreReads looks next left → AllByRecursion (λ (one : Look). IsRead one.question) looks) →
        AllByRecursion (λ (one : Look). IsRead one.question) (record { question = question; sight = sight } ∷ looks)
    by Length sight on others = absurd on
    by (ReadAt at zero) sight on others = (tt, subst (λ (l : List Look). AllByRecursion (λ (one : Look). IsRead one.question) l) (sym on.1) tt)
    by (ReadAt at (suc more)) sight on others = (tt, others (place + suc more) (wanted - suc more) on.2)

none_read : (looks : List Look) → looks ≡ [] → AllByRecursion (λ look. IsRead look.question) looks
none_read looks none = subst (λ (l : List Look). AllByRecursion (λ (one : Look). IsRead one.question) l) (sym none) tt

asking_reads : (rule : IdentityRule) (looks : List Look) → IsAsking rule looks → AllByRecursion (λ look. IsRead look.question) looks
asking_reads (Fingerprint offset count) looks is = all_read looks offset count is
asking_reads Native looks is = none_read looks is
asking_reads Path looks is = none_read looks is

part_reads : (rule : IdentityRule) (looks : List Look) → IsPartOfAsking rule looks → AllByRecursion (λ look. IsRead look.question) looks
part_reads (Fingerprint offset count) looks is = parts_read looks offset count is
part_reads Native looks is = none_read looks is
part_reads Path looks is = none_read looks is

-- ---- what is then

module _ {T : Type 0} (numbers : T → Option (ℕ × ℕ)) (told : T → Option TailHistory) (h : History) (old : Harvester T)
    (has : HasTold numbers told h old) (asking : old.reader.stage ≡ Asking) where
  asks : h.stage ≡ Asks
  asks = sym has.held.holds.follows.stage ∙ ap stage_of asking

  -- the key by the rule with which the harvester was opened
  key_of_opening : (file : File) (looks : List Look) → IsAsking old.reader.identity looks →
      given_key old.reader.input old.reader.identity old.reader.begin.path file looks ≡ Some old.reader.begin.key → GivesKey h.rule h.begin.key h.begin.path file looks
  key_of_opening file looks asked gave =
      let f = has.held.holds.follows in
      record {
        asking = subst (λ (r : IdentityRule). IsAsking r looks) f.identity asked;
        gave = subst (λ (b : Begin). given_key h.rule.id h.rule.file_identity b.path file looks ≡ Some b.key) f.begin
            (subst (λ (i : List ℕ). given_key i h.rule.file_identity old.reader.begin.path file looks ≡ Some old.reader.begin.key) f.input
            (subst (λ (r : IdentityRule). given_key old.reader.input r old.reader.begin.path file looks ≡ Some old.reader.begin.key) f.identity gave));
      }

  key_is_other : (file : File) (looks : List Look) → given_key old.reader.input old.reader.identity old.reader.begin.path file looks ≢ Some old.reader.begin.key →
      given_key h.rule.id h.rule.file_identity h.begin.path file looks ≢ Some h.begin.key
  key_is_other file looks other =
      let f = has.held.holds.follows in
      subst (λ (b : Begin). given_key h.rule.id h.rule.file_identity b.path file looks ≢ Some b.key) f.begin
      (subst (λ (i : List ℕ). given_key i h.rule.file_identity old.reader.begin.path file looks ≢ Some old.reader.begin.key) f.input
      (subst (λ (r : IdentityRule). given_key old.reader.input r old.reader.begin.path file looks ≢ Some old.reader.begin.key) f.identity other))

  module _ (before : TailHistory) (looked : IsLookedAt (numbers old.tail) h before) (looks : List Look) where
    still : (only : AllByRecursion (λ look. IsRead look.question) looks) → GivesKey h.rule h.begin.key h.begin.path (with_numbers (numbers old.tail) before.file) looks →
        StillHasKey h.rule h.begin.key h.begin.path (with_numbers (numbers old.tail) before.file) ((was (numbers old.tail) h before looked asks looks only).later ++ looks)
    still only gives =
        let w = was (numbers old.tail) h before looked asks looks only in
        record {
          before = w.later;
          asked = looks;
          behind = [];
          looks_are = ap (λ (l : List Look). w.later ++ l) (sym (append-nil looks));
          cut = was_cut (numbers old.tail) h before looked asks looks only;
          gives = gives;
        }

    other : (only : AllByRecursion (λ look. IsRead look.question) looks) → IsAsking h.rule.file_identity looks →
        given_key h.rule.id h.rule.file_identity h.begin.path (with_numbers (numbers old.tail) before.file) looks ≢ Some h.begin.key →
        HasOtherKey h.rule h.begin.key h.begin.path (with_numbers (numbers old.tail) before.file) ((was (numbers old.tail) h before looked asks looks only).later ++ looks)
    other only asked differs =
        let w = was (numbers old.tail) h before looked asks looks only in
        record {
          before = w.later;
          asked = looks;
          behind = [];
          looks_are = ap (λ (l : List Look). w.later ++ l) (sym (append-nil looks));
          cut = was_cut (numbers old.tail) h before looked asks looks only;
          asking = asked;
          other = differs;
        }

  -- by what the tail reported
  looked_then : (g : History) (result : Result Bool TurnError) → ((before : TailHistory) → IsLookedAt (numbers old.tail) h before → (looks : List Look) →
      IsGivenKey old.reader (with_numbers (numbers old.tail) before.file) looks result → IsLookedAt (numbers old.tail) g (with_looks before looks)) →
      (before after : Option TailHistory) → AreLookedAt (numbers old.tail) h before →
      IfSome before (λ earlier. WasAsked old.reader (numbers old.tail) earlier result after) → (IsNone before → IsNone after) → AreLookedAt (numbers old.tail) g after
  looked_then g result step None after looked asked untold = none_too after (untold refl)
    where
      none_too : (o : Option TailHistory) → IsNone o → AreLookedAt (numbers old.tail) g o
      none_too None none = tt
      none_too (Some value) none = absurd (let no : true ≡ false = none in cc)
  looked_then g result step (Some before) after looked asked untold =
      subst (λ (o : Option TailHistory). AreLookedAt (numbers old.tail) g o) (sym asked.added.kept) (step before looked asked.looks asked.gave)

  same_step : (before : TailHistory) → IsLookedAt (numbers old.tail) h before → (looks : List Look) →
      IsGivenKey old.reader (with_numbers (numbers old.tail) before.file) looks (Ok true) →
      IsLookedAt (numbers old.tail) (with_epoch h) (with_looks before looks) × IsLookedAt (numbers old.tail) (with_stage Over h) (with_looks before looks)
  same_step before looked looks gave =
      let only = asking_reads old.reader.identity looks gave.0 in
      let has_key = still before looked looks only (key_of_opening (with_numbers (numbers old.tail) before.file) looks gave.0 gave.1) in (
        begins_epoch (numbers old.tail) h before looked asks looks only has_key,
        is_over (numbers old.tail) h before looked asks looks only has_key,
      )

  other_step : (before : TailHistory) → IsLookedAt (numbers old.tail) h before → (looks : List Look) →
      IsGivenKey old.reader (with_numbers (numbers old.tail) before.file) looks (Ok false) → IsLookedAt (numbers old.tail) (with_stage Changed h) (with_looks before looks)
  other_step before looked looks gave =
      let only = asking_reads old.reader.identity looks gave.0 in
      let file = with_numbers (numbers old.tail) before.file in
      let whole = subst (λ (r : IdentityRule). IsAsking r looks) has.held.holds.follows.identity gave.0 in
      let differs = key_is_other file looks gave.1 in
      changes (numbers old.tail) h before looked asks looks only (other before looked looks only whole differs)
      (none_by_other h.rule h.begin.key h.begin.path file (was (numbers old.tail) h before looked asks looks only).later looks (wants_bytes h old.reader has.held)
      (was_unknown (numbers old.tail) h before looked asks looks only) whole differs)

  fault_step : (error : TurnError) (before : TailHistory) → IsLookedAt (numbers old.tail) h before → (looks : List Look) →
      IsGivenKey old.reader (with_numbers (numbers old.tail) before.file) looks (Err error) → IsLookedAt (numbers old.tail) h (with_looks before looks)
  fault_step error before looked looks gave =
      let file = with_numbers (numbers old.tail) before.file in
      let only = part_reads old.reader.identity looks (refused_is_part old.reader file looks error gave) in
      let later = (was (numbers old.tail) h before looked asks looks only).later in
      asks_on (numbers old.tail) h before looked asks looks only
      (cut_still h old.reader has.held file later looks error gave (was_cut (numbers old.tail) h before looked asks looks only))
      (still_unknown h old.reader has.held file file later looks error gave
      (was_unknown (numbers old.tail) h before looked asks looks only))

  module _ (tail : T) (same : numbers tail ≡ numbers old.tail) (untold : IsNone (told old.tail) → IsNone (told tail)) (reader : Held) where
    now_has : (g : History) → rules_in g ≡ rules_in h → StandsFor g reader → AreLookedAt (numbers old.tail) g (told tail) →
        HasTold numbers told g (record old { tail = tail; reader = reader })
    now_has g rules stands looked = record {
      held = stands;
      decides = subst (λ (r : Rules). Decides r old.rules) (sym rules) has.decides;
      looked = subst (λ (n : Option (ℕ × ℕ)). AreLookedAt n g (told tail)) (sym same) looked;
    }

    pub begins : (epoch : Epoch) → IfSome (told old.tail) (λ earlier. WasAsked old.reader (numbers old.tail) earlier (Ok true) (told tail)) →
        StandsFor (with_epoch h) reader → epoch.0 ≡ old.reader.epoch.0 + 1 → HasAsked numbers told h (Ok (turn.NewLife epoch)) (record old { tail = tail; reader = reader })
    begins epoch asked stands next = record {
      has_told = now_has (with_epoch h) refl stands
          (looked_then (with_epoch h) (Ok true) (λ before looked looks gave. (same_step before looked looks gave).0) (told old.tail) (told tail) has.looked asked untold);
      asked_in = next ∙ ap (λ (n : ℕ). n + 1) has.held.holds.follows.epoch;
    }

    pub epochs_out : IfSome (told old.tail) (λ earlier. WasAsked old.reader (numbers old.tail) earlier (Ok true) (told tail)) →
        StandsFor (with_stage Over h) reader → old.reader.epoch.0 ≡ 4294967295 → HasAsked numbers told h (Ok turn.EpochsOut) (record old { tail = tail; reader = reader })
    epochs_out asked stands last = record {
      has_told = now_has (with_stage Over h) refl stands
          (looked_then (with_stage Over h) (Ok true) (λ before looked looks gave. (same_step before looked looks gave).1) (told old.tail) (told tail) has.looked asked untold);
      asked_in = sym has.held.holds.follows.epoch ∙ last;
    }

    pub has_other : IfSome (told old.tail) (λ earlier. WasAsked old.reader (numbers old.tail) earlier (Ok false) (told tail)) →
        StandsFor (with_stage Changed h) reader → HasAsked numbers told h (Ok turn.Changed) (record old { tail = tail; reader = reader })
    has_other asked stands = record {
      has_told = now_has (with_stage Changed h) refl stands
          (looked_then (with_stage Changed h) (Ok false) other_step (told old.tail) (told tail) has.looked asked untold);
      asked_in = tt;
    }

    pub met_fault : (result : Result Turn TurnError) → IsErr result → (error : TurnError) →
        IfSome (told old.tail) (λ earlier. WasAsked old.reader (numbers old.tail) earlier (Err error) (told tail)) →
        StandsFor h reader → HasAsked numbers told h result (record old { tail = tail; reader = reader })
    met_fault (Ok answer) err error asked stands = absurd (let no : false ≡ true = err in cc)
    met_fault (Err other) err error asked stands = record {
      has_told = now_has h refl stands (looked_then h (Err error) (fault_step error) (told old.tail) (told tail) has.looked asked untold);
      asked_in = tt;
    }
