use Rattle.std.proofs.Common.{◌≡◌, ◌++◌, ◌∷◌, [], List, sym, subst, append-nil}
use Rattle.line_cutter.specs.declared.line.Line.{Line}
use Rattle.line_cutter.specs.Cutting.{HasCut}
use Rattle.line_cutter.specs.Lines.{complete_lines}
use Rattle.line_cutter.proofs.Handed as lemmas
use Rattle.line_cutter.proofs.cutter.Cutter.next_line.Goals as goal

pub returns-in_ok-take_line-in-Some-clause-handed_out : goal.returns-in_ok-take_line-in-Some-clause-handed_out
returns-in_ok-take_line-in-Some-clause-handed_out c = λ rule start fed given h.
    let first = c.in-Some.ensures in
    subst (λ line. HasCut rule start fed (given ++ line ∷ []) c.take_line.new.self) (sym c.in_ok-take_line-in-Some.ensures.line)
    (subst (HasCut rule start fed _) (sym c.in_ok-take_line-in-Some.ensures.behind)
    (lemmas.handed_out rule start fed given c.args.self.now h c.in-Some.at first.0.high first.1 first.0.before))

pub returns-in_ok-take_line-in-Some-clause-in_order : goal.returns-in_ok-take_line-in-Some-clause-in_order
returns-in_ok-take_line-in-Some-clause-in_order c = λ rule start fed given h.
    let first = c.in-Some.ensures in
    subst (λ line. (more : List Line) × (complete_lines rule start fed ≡ given ++ line ∷ more)) (sym c.in_ok-take_line-in-Some.ensures.line)
    (lemmas.in_order rule start fed given c.args.self.now h c.in-Some.at first.0.high first.1 first.0.before)

pub returns-in_ok-pass_all-in-None-clause-handed_out : goal.returns-in_ok-pass_all-in-None-clause-handed_out
returns-in_ok-pass_all-in-None-clause-handed_out c = λ rule start fed given h.
    subst (λ lines. HasCut rule start fed lines c.pass_all.new.self) (sym (append-nil given))
    (subst (HasCut rule start fed given) (sym c.in_ok-pass_all-in-None.ensures.behind)
    (lemmas.still_cut rule start fed given c.args.self.now h c.in-None.ensures))

pub returns-in_ok-pass_all-in-None-clause-none_where_all_were_handed_out : goal.returns-in_ok-pass_all-in-None-clause-none_where_all_were_handed_out
returns-in_ok-pass_all-in-None-clause-none_where_all_were_handed_out c = λ rule start fed given h.
    lemmas.all_given rule start fed given c.args.self.now h c.in-None.ensures
