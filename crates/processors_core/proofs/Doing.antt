-- Processors that do the rules of the settings, one by one and in a row.
use Rattle.std.proofs.Common.{◌≡◌, ℕ, zero, suc, ◌+◌, ◌<◌, ◌≤◌, Bool, true, false, List, [], ◌∷◌, ◌++◌, length, map, get_or, set, take, drop, cond, Option, Some, None, refl, sym, ap, subst, ◌∙◌, arith}
use Rattle.std.proofs.lemmas.List.{drop_all, take_more, length-take-le}
use Rattle.event_tree.specs.Value.{TreeValue, FieldList}
use Rattle.event_tree.specs.declared.condition_rule.ConditionRule.{ConditionRule}
use Rattle.event_tree.specs.declared.processor_rule.Pair.{Pair}
use Rattle.event_tree.specs.declared.processor_rule.ProcessorRule.{ProcessorRule}
use Rattle.event_tree.specs.declared.processor_rule.ProcessorRule.TheVariants as rule
use Rattle.processors_core.specs.Added.{fields_added}
use Rattle.processors_core.specs.Dropped.{fields_dropped}
use Rattle.processors_core.specs.Error.{settled}
use Rattle.processors_core.specs.Made.{acted, rule_acted, when_of, Does}
use Rattle.processors_core.specs.Numbered.{numbered, by_rule}
use Rattle.processors_core.specs.Outcome.{Outcome, Dropped, Left, runs_on, after_one, going_on, outcome_from}
use Rattle.processors_core.specs.Pairs.{pair_of}
use Rattle.processors_core.specs.Renamed.{pairs_renamed}
use Rattle.processors_core.specs.Runs.{AreDone}
use Rattle.processors_core.specs.Tagged.{tags_added}
use Rattle.processors_core.specs.Targets.{target_text}
use Rattle.processors_core.specs.declared.add_fields.FieldAdds.{FieldAdds}
use Rattle.processors_core.specs.declared.add_tags.TagAdds.{TagAdds}
use Rattle.processors_core.specs.declared.drop_fields.FieldDrops.{FieldDrops}
use Rattle.processors_core.specs.declared.processor.Action.TheVariants as action
use Rattle.processors_core.specs.declared.processor.Processor.{Processor}
use Rattle.processors_core.specs.declared.rename.Renames.{Renames}

-- ---- one processor

-- where its condition holds
pub runs_rule : (number : ℕ) (done : ProcessorRule) (tree : TreeValue) → true ≡ runs_on (when_of done) tree → rule_acted number done tree ≡ numbered number (after_one done tree)
unfolding after_one
runs_rule number (rule.DropEvent when) tree is = ap (λ b. numbered number (cond b None (Some tree))) is
runs_rule number (rule.DropFields paths ignore_missing when) tree is = ap (λ b. Left (cond b (settled tree (fields_dropped ignore_missing paths tree)) tree)) is
runs_rule number (rule.AddFields pairs target when) tree is = ap (λ b. Left (cond b (settled tree (fields_added pairs target tree)) tree)) is
runs_rule number (rule.AddTags tags target when) tree is = ap (λ b. Left (cond b (settled tree (tags_added tags target tree)) tree)) is
runs_rule number (rule.Rename pairs ignore_missing fail_on_error when) tree is =
    ap (λ b. Left (cond b (settled tree (pairs_renamed ignore_missing fail_on_error pairs tree)) tree)) is

-- where it does not
pub leaves : (number : ℕ) (done : ProcessorRule) (tree : TreeValue) → false ≡ runs_on (when_of done) tree → Left tree ≡ numbered number (after_one done tree)
unfolding after_one
leaves number (rule.DropEvent when) tree is = ap (λ b. numbered number (cond b None (Some tree))) is
leaves number (rule.DropFields paths ignore_missing when) tree is = ap (λ b. Left (cond b (settled tree (fields_dropped ignore_missing paths tree)) tree)) is
leaves number (rule.AddFields pairs target when) tree is = ap (λ b. Left (cond b (settled tree (fields_added pairs target tree)) tree)) is
leaves number (rule.AddTags tags target when) tree is = ap (λ b. Left (cond b (settled tree (tags_added tags target tree)) tree)) is
leaves number (rule.Rename pairs ignore_missing fail_on_error when) tree is =
    ap (λ b. Left (cond b (settled tree (pairs_renamed ignore_missing fail_on_error pairs tree)) tree)) is

module _ (number : ℕ) (done : ProcessorRule) (tree : TreeValue) where
  pub drops_fields : (drops : FieldDrops) (paths : List (List ℕ)) (ignore_missing : Bool) (when : Option ConditionRule) → done ≡ rule.DropFields paths ignore_missing when →
      drops.paths.items ≡ paths → drops.ignore_missing ≡ ignore_missing → acted (action.DropFields drops) tree ≡ rule_acted number done tree
  drops_fields drops paths ignore_missing when is same ignores =
      (λ i. Left (settled tree (fields_dropped (ignores i) (same i) tree))) ∙ sym (ap (λ r. rule_acted number r tree) is)

  pub adds_fields : (added : FieldAdds) (pairs : FieldList) (target : List ℕ) (when : Option ConditionRule) → done ≡ rule.AddFields pairs target when →
      added.fields ≡ pairs → target_text added.target ≡ target → acted (action.AddFields added) tree ≡ rule_acted number done tree
  adds_fields added pairs target when is same there =
      (λ i. Left (settled tree (fields_added (same i) (there i) tree))) ∙ sym (ap (λ r. rule_acted number r tree) is)

  pub adds_tags : (tagged : TagAdds) (tags : List (List ℕ)) (target : List ℕ) (when : Option ConditionRule) → done ≡ rule.AddTags tags target when →
      tagged.tags.items ≡ tags → tagged.target ≡ target → acted (action.AddTags tagged) tree ≡ rule_acted number done tree
  adds_tags tagged tags target when is same there =
      (λ i. Left (settled tree (tags_added (same i) (there i) tree))) ∙ sym (ap (λ r. rule_acted number r tree) is)

  pub renames_fields : (renames : Renames) (pairs : List Pair) (ignore_missing fail_on_error : Bool) (when : Option ConditionRule) → done ≡ rule.Rename pairs ignore_missing fail_on_error when →
      map pair_of renames.pairs.items ≡ pairs → renames.ignore_missing ≡ ignore_missing → renames.fail_on_error ≡ fail_on_error → acted (action.Rename renames) tree ≡ rule_acted number done tree
  renames_fields renames pairs ignore_missing fail_on_error when is same ignores fails =
      (λ i. Left (settled tree (pairs_renamed (ignores i) (fails i) (same i) tree))) ∙ sym (ap (λ r. rule_acted number r tree) is)

-- ---- in a row

-- the rule that the processor at a place does
pub record DoneAt (number : ℕ) (rules : List ProcessorRule) (i : ℕ) (processor : Processor) : Type 0 where
  pub done : ProcessorRule
  pub rest : drop i rules ≡ done ∷ drop (i + 1) rules
  pub does : Does (number + i) done processor

pub done_at : (number : ℕ) (rules : List ProcessorRule) (processors : List Processor) (i : ℕ) (processor : Processor) → i < length processors →
    AreDone number rules processors → DoneAt number rules i (get_or processors i processor)
done_at number [] [] i processor inside are = absurd (omega arith)
done_at number [] (p ∷ ps) i processor inside are = absurd are
done_at number (r ∷ rs) [] i processor inside are = absurd are
done_at number (r ∷ rs) (p ∷ ps) zero processor inside are =
    let same : number ≡ number + 0 = omega arith in
    record { done = r; rest = refl; does = subst (λ n. Does n r p) same are.0 }
done_at number (r ∷ rs) (p ∷ ps) (suc i) processor inside are =
    let later = done_at (number + 1) rs ps i processor (omega arith) are.1 in
    let count : number + 1 + i ≡ number + suc i = omega arith in
    let next : suc (i + 1) ≡ suc i + 1 = omega arith in
    record {
      done = later.done;
      rest = later.rest ∙ ap (λ n. later.done ∷ drop n (r ∷ rs)) next;
      does = subst (λ n. Does n later.done (get_or ps i processor)) count later.does;
    }

pub set_done : (number : ℕ) (rules : List ProcessorRule) (processors : List Processor) (i : ℕ) (old new : Processor) →
    ((n : ℕ) (r : ProcessorRule) → Does n r (get_or processors i old) → Does n r new) → AreDone number rules processors → AreDone number rules (set processors i new)
set_done number [] [] i old new keeps are = are
set_done number [] (p ∷ ps) i old new keeps are = absurd are
set_done number (r ∷ rs) [] i old new keeps are = absurd are
set_done number (r ∷ rs) (p ∷ ps) zero old new keeps are = (keeps number r are.0, are.1)
set_done number (r ∷ rs) (p ∷ ps) (suc i) old new keeps are = (are.0, set_done (number + 1) rs ps i old new keeps are.1)

pub push_done : (number : ℕ) (rules : List ProcessorRule) (processors : List Processor) (done : ProcessorRule) (processor : Processor) → AreDone number rules processors →
    Does (number + length rules) done processor → AreDone number (rules ++ done ∷ []) (processors ++ processor ∷ [])
push_done number [] [] done processor are does = let same : number + 0 ≡ number = omega arith in (subst (λ n. Does n done processor) same does, tt)
push_done number [] (p ∷ ps) done processor are does = absurd are
push_done number (r ∷ rs) [] done processor are does = absurd are
push_done number (r ∷ rs) (p ∷ ps) done processor are does =
    let count : number + suc (length rs) ≡ number + 1 + length rs = omega arith in
    (are.0, push_done (number + 1) rs ps done processor are.1 (subst (λ n. Does n done processor) count does))

-- one more rule with its processor
pub grown : (rules : List ProcessorRule) (i : ℕ) (done : ProcessorRule) (processors made : List Processor) (processor : Processor) (number : ℕ) → i < length rules →
    done ≡ get_or rules i done → AreDone 10 (take i rules) processors → number ≡ 10 + i → Does number done processor → made ≡ processors ++ processor ∷ [] →
    AreDone 10 (take (i + 1) rules) made
grown rules i done processors made processor number inside at are counted does is =
    let whole : take (i + 1) rules ≡ take i rules ++ done ∷ [] = take_more rules i done inside ∙ ap (λ r. take i rules ++ r ∷ []) (sym at) in
    let count : number ≡ 10 + length (take i rules) = omega (arith, counted, length-take-le i rules (omega arith)) in
    subst (λ l. AreDone 10 l made) (sym whole) (subst (AreDone 10 (take i rules ++ done ∷ [])) (sym is)
    (push_done 10 (take i rules) processors done processor are (subst (λ n. Does n done processor) count does)))

pub same_count : (number : ℕ) (rules : List ProcessorRule) (processors : List Processor) → AreDone number rules processors → length rules ≡ length processors
same_count number [] [] are = refl
same_count number [] (p ∷ ps) are = absurd are
same_count number (r ∷ rs) [] are = absurd are
same_count number (r ∷ rs) (p ∷ ps) are = ap suc (same_count (number + 1) rs ps are.1)

-- ---- what they leave

left_by : (number : ℕ) (after : Option TreeValue) (next : TreeValue) → Left next ≡ numbered number after → after ≡ Some next
left_by number None next is = absurd (cc)
left_by number (Some tree) next is = cc

dropped_by : (number rule : ℕ) (after : Option TreeValue) → Dropped rule ≡ numbered number after → (after ≡ None) × (rule ≡ number)
dropped_by number rule None is = (refl, cc)
dropped_by number rule (Some tree) is = absurd (cc)

module _ (rules : List ProcessorRule) (i : ℕ) (done : ProcessorRule) (rest : drop i rules ≡ done ∷ drop (i + 1) rules) (tree : TreeValue) (whole : Outcome) (so_far : by_rule (outcome_from i (drop i rules) tree) ≡ whole) where
  step : by_rule (going_on i (after_one done tree) (λ after. outcome_from (i + 1) (drop (i + 1) rules) after)) ≡ whole
  step = sym (ap (λ l. by_rule (outcome_from i l tree)) rest) ∙ so_far

  pub goes_on : (next : TreeValue) → Left next ≡ numbered (10 + i) (after_one done tree) → by_rule (outcome_from (i + 1) (drop (i + 1) rules) next) ≡ whole
  goes_on next is = sym (ap (λ o. by_rule (going_on i o (λ after. outcome_from (i + 1) (drop (i + 1) rules) after))) (left_by (10 + i) (after_one done tree) next is)) ∙ step

  pub drops_here : (number : ℕ) → Dropped number ≡ numbered (10 + i) (after_one done tree) → Dropped number ≡ whole
  drops_here number is =
      let both = dropped_by (10 + i) number (after_one done tree) is in
      ap Dropped both.1 ∙ sym (ap (λ o. by_rule (going_on i o (λ after. outcome_from (i + 1) (drop (i + 1) rules) after))) both.0) ∙ step

pub all_done : (rules : List ProcessorRule) (i : ℕ) (tree : TreeValue) (whole : Outcome) → length rules ≤ i → by_rule (outcome_from i (drop i rules) tree) ≡ whole → Left tree ≡ whole
all_done rules i tree whole past so_far = sym (ap (λ l. by_rule (outcome_from i l tree)) (drop_all i rules past)) ∙ so_far
