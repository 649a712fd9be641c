-- What a grouper stands for once a line was given to it.
use Rattle.std.proofs.Common.{◌≡◌, ◌≢◌, List, [], ◌∷◌, ◌++◌, length, Option, Some, None, IfSome, refl, sym, ap, subst, ◌∙◌, option_map, append-nil}
use Rattle.std.proofs.lemmas.Option.{same_Some}
use Rattle.wire_base.specs.declared.numbers.Moment.{Moment}
use Rattle.event_tree.specs.declared.group_rule.GroupRule.{GroupRule}
use Rattle.line_cutter.specs.declared.line.Line.{Line}
use Rattle.multiline_core.specs.declared.group.Group.{Group}
use Rattle.multiline_core.specs.declared.step.Step.{Step}
use Rattle.multiline_core.specs.declared.step.Step.TheVariants.{Join, Last, Next}
use Rattle.multiline_core.specs.Gathering.{Grouping, Gathers, Closes, IsOpen, IsFlushable, MayGoOn, gathered_of}
use Rattle.multiline_core.specs.Message.{group_of}
use Rattle.multiline_core.specs.Step.{step_of, gathered_by, waiting_of, group_from}
use Rattle.multiline_core.proofs.Going.{natural_with, natural_before, is_open, is_flushable}
use Rattle.multiline_core.proofs.Keeping.{gathered_of-push, waiting_is_length}
use Rattle.multiline_core.proofs.Stepping.{Does, step_does}

-- the lines are kept as one event
pub group_of_kept : (rule : GroupRule) (row : List Line) (at : Moment) → row ≢ [] →
    option_map group_from (gathered_of rule row at) ≡ Some (group_of rule row)
group_of_kept rule [] at some = absurd (some refl)
group_of_kept rule (first ∷ others) at some = refl

pub push_is_some : (row : List Line) (line : Line) → row ++ line ∷ [] ≢ []
push_is_some [] line = λ e. cc
push_is_some (first ∷ others) line = λ e. cc

module _ (rule : GroupRule) (row : List Line) (at : Moment) (old : Grouping) (h : Gathers rule row at old) (line : Line) (now : Moment) where
  does : (step : Step) → step ≡ step_of old.rule (waiting_of old.gathered) line → Does rule row line step
  does step e =
      let same : step_of old.rule (waiting_of old.gathered) line ≡ step_of rule (length row) line =
      ap (λ r. step_of r (waiting_of old.gathered) line) h.same_rule
      ∙ ap (λ n. step_of rule n line) (ap waiting_of h.kept ∙ waiting_is_length rule row at) in
      subst (Does rule row line) (sym (e ∙ same)) (step_does rule row line h.in_range h.goes_on)

  kept : Some (gathered_by old.rule old.gathered line now) ≡ gathered_of rule (row ++ line ∷ []) now
  kept =
      ap (λ r. Some (gathered_by r old.gathered line now)) h.same_rule
      ∙ ap (λ g. Some (gathered_by rule g line now)) h.kept ∙ sym (gathered_of-push rule h.in_range row line at now)

  pub joins : Join ≡ step_of old.rule (waiting_of old.gathered) line → (new : Grouping) →
      new ≡ record old { gathered = Some (gathered_by old.rule old.gathered line now) } → Gathers rule (row ++ line ∷ []) now new
  joins e new is = subst (Gathers rule (row ++ line ∷ []) now) (sym is) (record {
    same_rule = h.same_rule;
    in_range = h.in_range;
    goes_on = does Join e;
    kept = kept;
  })

  pub joins_open : Join ≡ step_of old.rule (waiting_of old.gathered) line → IsOpen rule (row ++ line ∷ [])
  joins_open e = is_open rule (row ++ line ∷ []) (does Join e)

  pub ends_with : Last ≡ step_of old.rule (waiting_of old.gathered) line → (new : Grouping) (group : Group) →
      option_map group_from (Some (gathered_by old.rule old.gathered line now)) ≡ Some group →
      new ≡ record old { gathered = None } → Closes rule row line now new group
  ends_with e new group same is =
      let d = does Last e in
      record {
        closed = row ++ line ∷ [];
        left = [];
        split = sym (append-nil (row ++ line ∷ []));
        natural = natural_with rule row line h.goes_on d.0 d.1;
        same_group = same_Some _ _ (sym same ∙ ap (option_map group_from) kept ∙ group_of_kept rule (row ++ line ∷ []) now (push_is_some row line));
        gathers = subst (Gathers rule [] now) (sym is) (record {
          same_rule = h.same_rule;
          in_range = h.in_range;
          goes_on = d.2;
          kept = refl;
        });
      }

  pub ends_before : Next ≡ step_of old.rule (waiting_of old.gathered) line → (new : Grouping) (group : Group) →
      option_map group_from old.gathered ≡ Some group →
      new ≡ record old { gathered = Some (gathered_by old.rule None line now) } → Closes rule row line now new group
  ends_before e new group same is =
      let d = does Next e in
      record {
        closed = row;
        left = line ∷ [];
        split = refl;
        natural = natural_before rule row line h.goes_on d.0;
        same_group = same_Some _ _ (sym same ∙ ap (option_map group_from) h.kept ∙ group_of_kept rule row at d.2);
        gathers = subst (Gathers rule (line ∷ []) now) (sym is) (record {
          same_rule = h.same_rule;
          in_range = h.in_range;
          goes_on = d.1;
          kept = ap (λ r. Some (gathered_by r None line now)) h.same_rule ∙ sym (gathered_of-push rule h.in_range [] line at now);
        });
      }

  pub closes_with : Last ≡ step_of old.rule (waiting_of old.gathered) line → (between new : Grouping) (found : Option Group) →
      between ≡ record old { gathered = Some (gathered_by old.rule old.gathered line now) } →
      found ≡ option_map group_from between.gathered → new ≡ record between { gathered = None } → IfSome found (Closes rule row line now new)
  closes_with e between new None joined same is = _
  closes_with e between new (Some group) joined same is =
      ends_with e new group (ap (λ (g : Grouping). option_map group_from g.gathered) (sym joined) ∙ sym same)
      (is ∙ ap (λ (g : Grouping). record g { gathered = None }) joined)

  pub closes_before : Next ≡ step_of old.rule (waiting_of old.gathered) line → (between new : Grouping) (found : Option Group) →
      found ≡ option_map group_from old.gathered → between ≡ record old { gathered = None } →
      new ≡ record between { gathered = Some (gathered_by between.rule None line now) } → IfSome found (Closes rule row line now new)
  closes_before e between new None same taken is = _
  closes_before e between new (Some group) same taken is =
      ends_before e new group (sym same)
      (is ∙ ap (λ (g : Grouping). record g { gathered = Some (gathered_by g.rule None line now) }) taken)

pub flushes_row : (rule : GroupRule) (row : List Line) (at : Moment) (old : Grouping) → Gathers rule row at old →
    IfSome (option_map group_from old.gathered) (λ group. (group ≡ group_of rule row) × IsFlushable rule row)
flushes_row rule row at old h =
    subst (λ g. IfSome (option_map group_from g) (λ group. (group ≡ group_of rule row) × IsFlushable rule row)) (sym h.kept) (go row h.goes_on)
  where
    go : (row : List Line) → MayGoOn rule row →
        IfSome (option_map group_from (gathered_of rule row at)) (λ group. (group ≡ group_of rule row) × IsFlushable rule row)
    go [] goes = _
    go (first ∷ others) goes = (refl, is_flushable rule (first ∷ others) goes (λ e. cc))
