use Rattle.std.proofs.Common.{◌≡◌, IfNone, ℕ, Bool, false, List, [], ◌∷◌, Option, None, option_to_list, sym, ap, subst, ◌∙◌}
use Rattle.line_cutter.specs.Cutting.{Cutting, fed_to}
use Rattle.line_cutter.specs.Lines.{complete_lines}
use Rattle.line_cutter.specs.declared.line.Line.{Line}
use Rattle.told_events.specs.Rules.{Rules}
use Rattle.wire_base.specs.declared.numbers.Moment.{Moment}
use Rattle.harvester.specs.declared.events.Events.{Events}
use Rattle.harvester.specs.Gathered.{Gathered, HasMoved, IsGathered, IsGatheredBut, lines_of}
use Rattle.harvester.proofs.Gathering.{adjoins, moves_on, none_where_false, where_err}
use Rattle.harvester.proofs.events.Events.find.Goals as goal

pub gather-requires-clause-adjoining : goal.gather-requires-clause-adjoining
gather-requires-clause-adjoining c =
    let s = c.loop-line.invariant.some in
    adjoins s.rules s.start s.fed s.licences s.of c.in-Some.line c.next_line.new.self
    (subst (λ (o : Option Line). IsGatheredBut s.rules s.start s.fed s.licences s.of (option_to_list o) c.next_line.new.self) c.in-Some.is
    (c.in_ok-line.ensures.found s.rules s.start s.fed s.licences s.of s.is))

pub returns-in_err-gather-clause-found : goal.returns-in_err-gather-clause-found
returns-in_err-gather-clause-found c = λ rules start fed licences of is.
    let m = c.loop-line.invariant.moved rules start fed licences of is in
    let but = subst (λ (o : Option Line). IsGatheredBut rules start fed licences m.after (option_to_list o) c.next_line.new.self) c.in-Some.is
    (c.in_ok-line.ensures.found rules start fed licences m.after m.is) in
    let moved = moves_on rules start fed licences of c.args.self.now.last_line c.args.now c.next_line.new.self.last_line c.loop-line.self c.gather.new.self m
    (ap (λ (e : Events). e.last_line) c.in_ok-line.ensures.others) (c.gather.ensures.gathered rules start fed licences m.after but) in
    record {
      moved = moved;
      all = where_err c.from_residual-in_err-gather.result (λ (found : Bool). found ≡ false → complete_lines rules.lines start fed ≡ lines_of moved.after)
          c.from_residual-in_err-gather.ensures.0;
    }

pub returns-then-branch-clause-found : goal.returns-then-branch-clause-found
returns-then-branch-clause-found c = λ rules start fed licences of is.
    let m = c.loop-line.invariant.moved rules start fed licences of is in
    let but = subst (λ (o : Option Line). IsGatheredBut rules start fed licences m.after (option_to_list o) c.next_line.new.self) c.in-Some.is
    (c.in_ok-line.ensures.found rules start fed licences m.after m.is) in
    record {
      moved = moves_on rules start fed licences of c.args.self.now.last_line c.args.now c.next_line.new.self.last_line c.loop-line.self c.gather.new.self m
          (ap (λ (e : Events). e.last_line) c.in_ok-line.ensures.others) (c.gather.ensures.gathered rules start fed licences m.after but);
      all = λ no. absurd cc;
    }

pub loop-line-preserved : goal.loop-line-preserved
loop-line-preserved c =
    let s = c.loop-line.invariant.some in
    let but : (rules : Rules) (start : ℕ) (fed licences : List ℕ) (of : Gathered) → IsGathered rules start fed licences of c.loop-line.self →
    IsGatheredBut rules start fed licences of (c.in-Some.line ∷ []) c.next_line.new.self =
    λ rules start fed licences of is. subst (λ (o : Option Line). IsGatheredBut rules start fed licences of (option_to_list o) c.next_line.new.self) c.in-Some.is
    (c.in_ok-line.ensures.found rules start fed licences of is) in
    let g = c.gather.ensures.gathered s.rules s.start s.fed s.licences s.of (but s.rules s.start s.fed s.licences s.of s.is) in
    record {
      some = record { rules = s.rules; start = s.start; fed = s.fed; licences = s.licences; of = g.after; is = g.is };
      none_closed = none_where_false c.in_ok-gather.field-0 c.gather.new.self.closed c.in_ok-gather.ensures.closed c.if-branch.false;
      moved = λ rules start fed licences of is.
          let m = c.loop-line.invariant.moved rules start fed licences of is in
          moves_on rules start fed licences of c.args.self.now.last_line c.args.now c.next_line.new.self.last_line c.loop-line.self c.gather.new.self m
          (ap (λ (e : Events). e.last_line) c.in_ok-line.ensures.others) (c.gather.ensures.gathered rules start fed licences m.after (but rules start fed licences m.after m.is));
      place = ap (λ (k : Cutting). fed_to k) c.gather.ensures.cutter ∙ c.next_line.ensures.place ∙ c.loop-line.invariant.place;
    }

pub returns-clause-found : goal.returns-clause-found
returns-clause-found c = λ rules start fed licences of is.
    let m = c.loop-line.invariant.moved rules start fed licences of is in
    let none : c.in_ok-line.field-0 ≡ None = c.in_default.is in
    let next = c.next_line.new.self in
    let found = subst (λ (o : Option Line). IsGatheredBut rules start fed licences m.after (option_to_list o) next) none (c.in_ok-line.ensures.found rules start fed licences m.after m.is) in
    let all = subst (λ (o : Option Line). IfNone o (complete_lines rules.lines start fed ≡ lines_of m.after)) none
    (c.in_ok-line.ensures.none_where_all_are_gathered rules start fed licences m.after m.is) in
    let line : next.line ≡ None = ap (λ (e : Events). e.line) c.in_ok-line.ensures.others in
    let last : next.last_line ≡ c.loop-line.self.last_line = ap (λ (e : Events). e.last_line) c.in_ok-line.ensures.others in
    record {
      moved = record {
        after = m.after;
        same_told = m.same_told;
        is = subst (λ (o : Option Line). IsGatheredBut rules start fed licences m.after (option_to_list o) next) (sym line) found;
        last_line = subst (λ (at : Moment). HasMoved of m.after c.args.self.now.last_line c.args.now at) (sym last) m.last_line;
      };
      all = λ is_false. all;
    }
