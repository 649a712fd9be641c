use Rattle.std.proofs.Common.{inl, inr, ◌≡◌, false, true, Ok, refl, sym, subst, ap, ◌∙◌}
use Rattle.harvester.specs.declared.buffer.TheConstants.{READ_SIZE}
use Rattle.harvester.specs.declared.fate_rules.FateRules.{FateRules}
use Rattle.harvester.specs.declared.look.Found.{Found}
use Rattle.harvester.specs.declared.look.Found.TheVariants.{End, Less, More}
use Rattle.harvester.specs.declared.turn.Turn.TheVariants as turn
use Rattle.harvester.specs.Deciding.{Decides}
use Rattle.harvester.specs.Held.{Held}
use Rattle.harvester.specs.History.{Reads, read_to}
use Rattle.harvester.specs.TurnLooks.{AreOfLook, LooksOn}
use Rattle.harvester.specs.Turns.{answer_of}
use Rattle.harvester.proofs.AddedLooks.{asked_below, fails_of, looks_of_read, looks_refused, no_look, tells_of}
use Rattle.harvester.proofs.Closing.{none_closes}
use Rattle.harvester.proofs.TurnsGiven.{ends_given, few_at_end, found_as, look_asked, look_refused, looks_kept, may_be_ended, no_event, of_same, reads_of, settled_as, settled_end, settled_more, settled_refused, settled_told, some_of, turn_refused, turn_told, with_reader}
use Rattle.harvester.proofs.harvester.Harvester.go_on.Goals as goal

pub returns-in_err-gather-clause-goes : goal.returns-in_err-gather-clause-goes
returns-in_err-gather-clause-goes g c = λ h ends may has.
    let t = c.gather.ensures.stands h has.held in
    let reads = reads_of h _ has.held c.requires.reads in
    let gathered = with_reader g.T.Tail.numbers g.T.Tail.told h _ has c.gather.new.self t in
    turn_refused g.T.Tail.numbers g.T.Tail.told READ_SIZE c.args.now.0 c.args.ended h _ _ Reads reads tt gathered c.from_residual.result c.from_residual.ensures.0

pub returns-in_err-tell-clause-goes : goal.returns-in_err-tell-clause-goes
returns-in_err-tell-clause-goes g c = λ h ends may has.
    let t = c.gather.ensures.stands h has.held in
    let reads = reads_of h _ has.held c.requires.reads in
    let gathered = with_reader g.T.Tail.numbers g.T.Tail.told h _ has c.gather.new.self t in
    turn_refused g.T.Tail.numbers g.T.Tail.told READ_SIZE c.args.now.0 c.args.ended h _ _ Reads reads tt (c.in_err-tell.ensures.same_on_refusal h gathered) c.from_residual-in_err-tell.result
    c.from_residual-in_err-tell.ensures.0

pub returns-then-branch-clause-goes : goal.returns-then-branch-clause-goes
returns-then-branch-clause-goes g c = λ h ends may has.
    let t = c.gather.ensures.stands h has.held in
    let reads = reads_of h _ has.held c.requires.reads in
    let gathered = with_reader g.T.Tail.numbers g.T.Tail.told h _ has c.gather.new.self t in
    turn_told g.T.Tail.numbers g.T.Tail.told READ_SIZE c.args.now.0 c.args.ended h _ _ Reads reads tt c.in_ok-tell.field-0 c.in_ok-tell.ensures.one (c.in_ok-tell.ensures.told h gathered)

pub returns-then-branch-clause-of_file : goal.returns-then-branch-clause-of_file
returns-then-branch-clause-of_file g c = λ rules decides.
    of_same c.gather.new.self c.args.self.now.reader c.in_ok-tell.field-0 (ap (λ (held : Held). held.begin) c.gather.ensures.others)
    (ap (λ (held : Held). held.epoch) c.gather.ensures.others) (c.in_ok-tell.ensures.of_file rules decides)

pub returns-in_err-look-clause-goes : goal.returns-in_err-look-clause-goes
returns-in_err-look-clause-goes g c = λ h ends may has.
    let t = c.gather.ensures.stands h has.held in
    let reads = reads_of h _ has.held c.requires.reads in
    let gathered = with_reader g.T.Tail.numbers g.T.Tail.told h _ has c.gather.new.self t in
    let looked = c.in_err-look.ensures.looked h (ends_given h.moments c.args.now.0 ends) (c.in_ok-gather.ensures.all c.if-branch.false h has.held) gathered in
    look_refused g.T.Tail.numbers g.T.Tail.told READ_SIZE c.args.now.0 c.args.ended h reads c.args.self.now _ _ _ looked c.from_residual-in_err-look.result c.from_residual-in_err-look.ensures.0

pub returns-in_err-turn-in-More-clause-goes : goal.returns-in_err-turn-in-More-clause-goes
returns-in_err-turn-in-More-clause-goes g c = λ h ends may has.
    let t = c.gather.ensures.stands h has.held in
    let reads = reads_of h _ has.held c.requires.reads in
    let gathered = with_reader g.T.Tail.numbers g.T.Tail.told h _ has c.gather.new.self t in
    let looked = c.in_ok-look.ensures.looked h (ends_given h.moments c.args.now.0 ends) (c.in_ok-gather.ensures.all c.if-branch.false h has.held) gathered in
    let none = none_closes h c.later_lines.ensures _ (c.in_ok-gather.ensures.all c.if-branch.false h has.held) in
    let found = found_as g.T.Tail.numbers g.T.Tail.told READ_SIZE c.args.now.0 c.args.ended h reads c.args.self.now _ _ c.in_ok-look.field-0 More c.in-More.is looked in
    settled_refused g.T.Tail.numbers g.T.Tail.told READ_SIZE c.args.now.0 c.args.ended h c.args.self.now _ reads false found.bytes found.gave.1 none (λ is. absurd (let no : false ≡ true = is in cc)) _
    (c.in_err-turn-in-More.ensures.settled _ ends (λ is. absurd (let no : false ≡ true = is in cc)) found.has_told)
    c.from_residual-in_err-turn-in-More.result c.from_residual-in_err-turn-in-More.ensures.0

pub returns-in_err-turn-in-End-clause-goes : goal.returns-in_err-turn-in-End-clause-goes
returns-in_err-turn-in-End-clause-goes g c = λ h ends may has.
    let t = c.gather.ensures.stands h has.held in
    let reads = reads_of h _ has.held c.requires.reads in
    let gathered = with_reader g.T.Tail.numbers g.T.Tail.told h _ has c.gather.new.self t in
    let looked = c.in_ok-look.ensures.looked h (ends_given h.moments c.args.now.0 ends) (c.in_ok-gather.ensures.all c.if-branch.false h has.held) gathered in
    let none = none_closes h c.later_lines.ensures _ (c.in_ok-gather.ensures.all c.if-branch.false h has.held) in
    let found = found_as g.T.Tail.numbers g.T.Tail.told READ_SIZE c.args.now.0 c.args.ended h reads c.args.self.now _ _ c.in_ok-look.field-0 End c.in-End.is looked in
    settled_refused g.T.Tail.numbers g.T.Tail.told READ_SIZE c.args.now.0 c.args.ended h c.args.self.now _ reads c.args.ended found.bytes (few_at_end g.T.Tail.numbers g.T.Tail.told READ_SIZE c.args.now.0 c.args.ended h reads c.args.self.now _ _ found) none
    (λ is. inr (is, looks_kept g.T.Tail.numbers g.T.Tail.told (read_to h.present) c.args.self.now.tail c.look.new.self.tail _ c.settle-in-End.ensures.tail_kept (found.at_end refl).looks)) _
    (c.in_err-turn-in-End.ensures.settled _ ends (λ is. may_be_ended g.T.Tail.numbers g.T.Tail.told READ_SIZE c.args.now.0 c.args.ended h reads c.args.self.now _ _ found (may is)) found.has_told)
    c.from_residual-in_err-turn-in-End.result c.from_residual-in_err-turn-in-End.ensures.0

pub returns-in-Less-clause-goes : goal.returns-in-Less-clause-goes
returns-in-Less-clause-goes g c = λ h ends may has.
    let t = c.gather.ensures.stands h has.held in
    let reads = reads_of h _ has.held c.requires.reads in
    let gathered = with_reader g.T.Tail.numbers g.T.Tail.told h _ has c.gather.new.self t in
    let looked = c.in_ok-look.ensures.looked h (ends_given h.moments c.args.now.0 ends) (c.in_ok-gather.ensures.all c.if-branch.false h has.held) gathered in
    let none = none_closes h c.later_lines.ensures _ (c.in_ok-gather.ensures.all c.if-branch.false h has.held) in
    let found = found_as g.T.Tail.numbers g.T.Tail.told READ_SIZE c.args.now.0 c.args.ended h reads c.args.self.now _ _ c.in_ok-look.field-0 Less c.in-Less.is looked in
    look_asked g.T.Tail.numbers g.T.Tail.told READ_SIZE c.args.now.0 c.args.ended h reads c.args.self.now _ _ none found _ c.ask_again.result c.ask_again.ensures.asked

pub returns-in-Less-clause-of_file : goal.returns-in-Less-clause-of_file
returns-in-Less-clause-of_file g c = λ rules decides. no_event c.ask_again.result _ _ c.ask_again.ensures.tells_nothing

pub returns-in-Some-clause-goes : goal.returns-in-Some-clause-goes
returns-in-Some-clause-goes g c = λ h ends may has.
    let t = c.gather.ensures.stands h has.held in
    let reads = reads_of h _ has.held c.requires.reads in
    let gathered = with_reader g.T.Tail.numbers g.T.Tail.told h _ has c.gather.new.self t in
    let looked = c.in_ok-look.ensures.looked h (ends_given h.moments c.args.now.0 ends) (c.in_ok-gather.ensures.all c.if-branch.false h has.held) gathered in
    let none = none_closes h c.later_lines.ensures _ (c.in_ok-gather.ensures.all c.if-branch.false h has.held) in
    let found = found_as g.T.Tail.numbers g.T.Tail.told READ_SIZE c.args.now.0 c.args.ended h reads c.args.self.now _ _ c.in_ok-look.field-0 More c.in-More.is looked in
    settled_told g.T.Tail.numbers g.T.Tail.told READ_SIZE c.args.now.0 c.args.ended h c.args.self.now _ reads false found.bytes found.gave.1 none (λ is. absurd (let no : false ≡ true = is in cc)) c.in-Some.turn
    (settled_as g.T.Tail.numbers g.T.Tail.told c.args.now.0 _ _ _ c.in_ok-turn-in-More.field-0 _ c.in-Some.is
    (c.in_ok-turn-in-More.ensures.settled _ ends (λ is. absurd (let no : false ≡ true = is in cc)) found.has_told))

pub returns-in-None-clause-goes : goal.returns-in-None-clause-goes
returns-in-None-clause-goes g c = λ h ends may has.
    let t = c.gather.ensures.stands h has.held in
    let reads = reads_of h _ has.held c.requires.reads in
    let gathered = with_reader g.T.Tail.numbers g.T.Tail.told h _ has c.gather.new.self t in
    let looked = c.in_ok-look.ensures.looked h (ends_given h.moments c.args.now.0 ends) (c.in_ok-gather.ensures.all c.if-branch.false h has.held) gathered in
    let none = none_closes h c.later_lines.ensures _ (c.in_ok-gather.ensures.all c.if-branch.false h has.held) in
    let found = found_as g.T.Tail.numbers g.T.Tail.told READ_SIZE c.args.now.0 c.args.ended h reads c.args.self.now _ _ c.in_ok-look.field-0 More c.in-More.is looked in
    settled_more g.T.Tail.numbers g.T.Tail.told READ_SIZE c.args.now.0 c.args.ended h c.args.self.now _ reads false found.bytes found.gave.1 none (λ is. absurd (let no : false ≡ true = is in cc)) found.gave.0
    (settled_as g.T.Tail.numbers g.T.Tail.told c.args.now.0 _ _ _ c.in_ok-turn-in-More.field-0 _ c.in-None.is
    (c.in_ok-turn-in-More.ensures.settled _ ends (λ is. absurd (let no : false ≡ true = is in cc)) found.has_told))

pub returns-in-Some-2-clause-goes : goal.returns-in-Some-2-clause-goes
returns-in-Some-2-clause-goes g c = λ h ends may has.
    let t = c.gather.ensures.stands h has.held in
    let reads = reads_of h _ has.held c.requires.reads in
    let gathered = with_reader g.T.Tail.numbers g.T.Tail.told h _ has c.gather.new.self t in
    let looked = c.in_ok-look.ensures.looked h (ends_given h.moments c.args.now.0 ends) (c.in_ok-gather.ensures.all c.if-branch.false h has.held) gathered in
    let none = none_closes h c.later_lines.ensures _ (c.in_ok-gather.ensures.all c.if-branch.false h has.held) in
    let found = found_as g.T.Tail.numbers g.T.Tail.told READ_SIZE c.args.now.0 c.args.ended h reads c.args.self.now _ _ c.in_ok-look.field-0 End c.in-End.is looked in
    settled_told g.T.Tail.numbers g.T.Tail.told READ_SIZE c.args.now.0 c.args.ended h c.args.self.now _ reads c.args.ended found.bytes (few_at_end g.T.Tail.numbers g.T.Tail.told READ_SIZE c.args.now.0 c.args.ended h reads c.args.self.now _ _ found) none
    (λ is. inr (is, looks_kept g.T.Tail.numbers g.T.Tail.told (read_to h.present) c.args.self.now.tail c.look.new.self.tail _ c.settle-in-End.ensures.tail_kept (found.at_end refl).looks)) c.in-Some-2.turn
    (settled_as g.T.Tail.numbers g.T.Tail.told c.args.now.0 _ _ _ c.in_ok-turn-in-End.field-0 _ c.in-Some-2.is
    (c.in_ok-turn-in-End.ensures.settled _ ends (λ is. may_be_ended g.T.Tail.numbers g.T.Tail.told READ_SIZE c.args.now.0 c.args.ended h reads c.args.self.now _ _ found (may is)) found.has_told))

pub returns-in-None-2-clause-goes : goal.returns-in-None-2-clause-goes
returns-in-None-2-clause-goes g c = λ h ends may has.
    let t = c.gather.ensures.stands h has.held in
    let reads = reads_of h _ has.held c.requires.reads in
    let gathered = with_reader g.T.Tail.numbers g.T.Tail.told h _ has c.gather.new.self t in
    let looked = c.in_ok-look.ensures.looked h (ends_given h.moments c.args.now.0 ends) (c.in_ok-gather.ensures.all c.if-branch.false h has.held) gathered in
    let none = none_closes h c.later_lines.ensures _ (c.in_ok-gather.ensures.all c.if-branch.false h has.held) in
    let found = found_as g.T.Tail.numbers g.T.Tail.told READ_SIZE c.args.now.0 c.args.ended h reads c.args.self.now _ _ c.in_ok-look.field-0 End c.in-End.is looked in
    settled_end g.T.Tail.numbers g.T.Tail.told READ_SIZE c.args.now.0 c.args.ended h c.args.self.now _ reads c.args.ended found.bytes (few_at_end g.T.Tail.numbers g.T.Tail.told READ_SIZE c.args.now.0 c.args.ended h reads c.args.self.now _ _ found) none
    (λ is. inr (is, looks_kept g.T.Tail.numbers g.T.Tail.told (read_to h.present) c.args.self.now.tail c.look.new.self.tail _ c.settle-in-End.ensures.tail_kept (found.at_end refl).looks)) (λ may_end. may_end) found.gave
    c.settle-in-End.new.self
    (settled_as g.T.Tail.numbers g.T.Tail.told c.args.now.0 _ _ _ c.in_ok-turn-in-End.field-0 _ c.in-None-2.is
    (c.in_ok-turn-in-End.ensures.settled _ ends (λ is. may_be_ended g.T.Tail.numbers g.T.Tail.told READ_SIZE c.args.now.0 c.args.ended h reads c.args.self.now _ _ found (may is)) found.has_told))
    (λ history told. with_reader g.T.Tail.numbers g.T.Tail.told history _ told c.shrink.new.self (c.shrink.ensures.stands history told.held))
    (ap (λ (held : Held). held.events) c.shrink.ensures.others)
    (looks_kept g.T.Tail.numbers g.T.Tail.told (read_to h.present) c.args.self.now.tail c.look.new.self.tail c.settle-in-End.new.self.tail c.settle-in-End.ensures.tail_kept (found.at_end refl).looks)

pub returns-in-Some-clause-of_file : goal.returns-in-Some-clause-of_file
returns-in-Some-clause-of_file g c = λ rules decides.
    of_same c.gather.new.self c.args.self.now.reader c.in-Some.turn (ap (λ (held : Held). held.begin) c.gather.ensures.others)
    (ap (λ (held : Held). held.epoch) c.gather.ensures.others)
    (of_same c.look.new.self.reader c.gather.new.self c.in-Some.turn c.look.ensures.begin_kept c.look.ensures.epoch_kept
    (some_of c.in_ok-turn-in-More.field-0 c.in-Some.turn _ _ c.in-Some.is
    (c.in_ok-turn-in-More.ensures.of_file rules (subst (λ (f : FateRules). Decides rules f) (sym c.look.ensures.rules_kept) decides))))

pub returns-in-Some-2-clause-of_file : goal.returns-in-Some-2-clause-of_file
returns-in-Some-2-clause-of_file g c = λ rules decides.
    of_same c.gather.new.self c.args.self.now.reader c.in-Some-2.turn (ap (λ (held : Held). held.begin) c.gather.ensures.others)
    (ap (λ (held : Held). held.epoch) c.gather.ensures.others)
    (of_same c.look.new.self.reader c.gather.new.self c.in-Some-2.turn c.look.ensures.begin_kept c.look.ensures.epoch_kept
    (some_of c.in_ok-turn-in-End.field-0 c.in-Some-2.turn _ _ c.in-Some-2.is
    (c.in_ok-turn-in-End.ensures.of_file rules (subst (λ (f : FateRules). Decides rules f) (sym c.look.ensures.rules_kept) decides))))

pub returns-in_err-gather-clause-looks : goal.returns-in_err-gather-clause-looks
returns-in_err-gather-clause-looks g c = no_look _ (λ file. fails_of c.from_residual.result c.from_residual.ensures.0) _ _ _ refl

pub returns-in_err-tell-clause-looks : goal.returns-in_err-tell-clause-looks
returns-in_err-tell-clause-looks g c =
    no_look _ (λ file. fails_of c.from_residual-in_err-tell.result c.from_residual-in_err-tell.ensures.0) _ _ _ (ap g.T.Tail.told c.tell.ensures.tail_kept)

pub returns-then-branch-clause-looks : goal.returns-then-branch-clause-looks
returns-then-branch-clause-looks g c = no_look _ (λ file. tells_of c.in_ok-tell.field-0 c.in_ok-tell.ensures.one) _ _ _ (ap g.T.Tail.told c.tell.ensures.tail_kept)

pub returns-in_err-look-clause-looks : goal.returns-in_err-look-clause-looks
returns-in_err-look-clause-looks g c =
    looks_refused c.args.self.now.reader c.gather.new.self.position (ap (λ (held : Held). held.position) c.gather.ensures.others) c.from_residual-in_err-look.result c.from_residual-in_err-look.ensures.0 _ _ _ c.in_err-look.ensures.looks

pub returns-in-Less-clause-looks : goal.returns-in-Less-clause-looks
returns-in-Less-clause-looks g c =
    asked_below c.args.self.now.reader c.look.new.self.reader (c.look.ensures.begin_kept ∙ ap (λ (held : Held). held.begin) c.gather.ensures.others)
    (c.look.ensures.input_kept ∙ ap (λ (held : Held). held.input) c.gather.ensures.others)
    (c.look.ensures.identity_kept ∙ ap (λ (held : Held). held.identity) c.gather.ensures.others) (answer_of c.ask_again.result) c.gather.new.self.position (ap (λ (held : Held). held.position) c.gather.ensures.others) _ _ c.look.ensures.numbers_kept _ _ _
    (subst (λ (f : Found). LooksOn (AreOfLook (Ok f) c.gather.new.self.position) (g.T.Tail.numbers c.args.self.now.tail) (g.T.Tail.told c.args.self.now.tail) (g.T.Tail.told c.look.new.self.tail))
    c.in-Less.is c.in_ok-look.ensures.looks) c.ask_again.ensures.looks

pub returns-in_err-turn-in-More-clause-looks : goal.returns-in_err-turn-in-More-clause-looks
returns-in_err-turn-in-More-clause-looks g c =
    looks_of_read c.args.self.now.reader c.gather.new.self.position (ap (λ (held : Held). held.position) c.gather.ensures.others) (answer_of c.from_residual-in_err-turn-in-More.result) _ _ (inl c.in-More.is) _ _ _ c.in_ok-look.ensures.looks (ap g.T.Tail.told c.settle.ensures.tail_kept)

pub returns-in-Some-clause-looks : goal.returns-in-Some-clause-looks
returns-in-Some-clause-looks g c =
    looks_of_read c.args.self.now.reader c.gather.new.self.position (ap (λ (held : Held). held.position) c.gather.ensures.others) c.in-Some.turn _ _ (inl c.in-More.is) _ _ _ c.in_ok-look.ensures.looks (ap g.T.Tail.told c.settle.ensures.tail_kept)

pub returns-in-None-clause-looks : goal.returns-in-None-clause-looks
returns-in-None-clause-looks g c =
    looks_of_read c.args.self.now.reader c.gather.new.self.position (ap (λ (held : Held). held.position) c.gather.ensures.others) turn.More _ _ (inl c.in-More.is) _ _ _ c.in_ok-look.ensures.looks (ap g.T.Tail.told c.settle.ensures.tail_kept)

pub returns-in_err-turn-in-End-clause-looks : goal.returns-in_err-turn-in-End-clause-looks
returns-in_err-turn-in-End-clause-looks g c =
    looks_of_read c.args.self.now.reader c.gather.new.self.position (ap (λ (held : Held). held.position) c.gather.ensures.others) (answer_of c.from_residual-in_err-turn-in-End.result) _ _ (inr c.in-End.is) _ _ _ c.in_ok-look.ensures.looks (ap g.T.Tail.told c.settle-in-End.ensures.tail_kept)

pub returns-in-Some-2-clause-looks : goal.returns-in-Some-2-clause-looks
returns-in-Some-2-clause-looks g c =
    looks_of_read c.args.self.now.reader c.gather.new.self.position (ap (λ (held : Held). held.position) c.gather.ensures.others) c.in-Some-2.turn _ _ (inr c.in-End.is) _ _ _ c.in_ok-look.ensures.looks (ap g.T.Tail.told c.settle-in-End.ensures.tail_kept)

pub returns-in-None-2-clause-looks : goal.returns-in-None-2-clause-looks
returns-in-None-2-clause-looks g c =
    looks_of_read c.args.self.now.reader c.gather.new.self.position (ap (λ (held : Held). held.position) c.gather.ensures.others) turn.AtEnd _ _ (inr c.in-End.is) _ _ _ c.in_ok-look.ensures.looks (ap g.T.Tail.told c.settle-in-End.ensures.tail_kept)
