use Rattle.std.proofs.Common.{inl, inr, None, ◌∙◌, refl, ap, arith}
use Rattle.harvester.specs.declared.look.Found.TheVariants.{End, More}
use Rattle.harvester.specs.Held.{Held}
use Rattle.harvester.proofs.AddedLooks.{has_read, length_failed, look_below, read_failed, room_failed}
use Rattle.harvester.proofs.LooksGiven.{end, less, more, no_read, no_room}
use Rattle.harvester.proofs.harvester.Harvester.look.Goals as goal

pub returns-then-length-position-clause-looked : goal.returns-then-length-position-clause-looked
returns-then-length-position-clause-looked g c = λ h given all has.
    less g.T.Tail.numbers g.T.Tail.told _ _ h _ has c.requires.reads _ c.length.ensures.numbers_kept _ c.in_ok-length.length c.in_ok-length.ensures.told
    (omega (arith, c.position.ensures)) (c.stand.ensures.stands h all.stands all.all)

pub returns-in_err-make_room-clause-looked : goal.returns-in_err-make_room-clause-looked
returns-in_err-make_room-clause-looked g c = λ h given all has.
    no_room g.T.Tail.numbers g.T.Tail.told _ _ h _ has c.requires.reads _ c.length.ensures.numbers_kept _ _ c.from_residual-in_err-make_room.ensures.0
    c.in_ok-length.length c.in_ok-length.ensures.told (omega (arith, c.position.ensures)) (c.make_room.ensures.stands h has.held)

pub returns-in_err-count-clause-looked : goal.returns-in_err-count-clause-looked
returns-in_err-count-clause-looked g c = λ h given all has.
    no_read g.T.Tail.numbers g.T.Tail.told _ _ h _ has c.requires.reads _ (c.read.ensures.numbers_kept ∙ c.length.ensures.numbers_kept) _ _
    c.from_residual-in_err-count.ensures.0 c.in_ok-length.length c.length.new.self _ _ _ c.in_ok-length.ensures.told (omega (arith, c.position.ensures))
    (ap (λ (held : Held). held.position) c.make_room.ensures.others) c.read.ensures.some_room c.in_err-count.ensures.told
    (c.in_err-count.ensures.stands_on_refusal h (c.make_room.ensures.stands h has.held))

pub returns-then-count-eq0-clause-looked : goal.returns-then-count-eq0-clause-looked
returns-then-count-eq0-clause-looked g c = λ h given all has.
    end g.T.Tail.numbers g.T.Tail.told _ _ h _ has c.requires.reads _ (c.read.ensures.numbers_kept ∙ c.length.ensures.numbers_kept) _ c.in_ok-length.length
    c.length.new.self _ _ c.in_ok-count.count c.in_ok-length.ensures.told (omega (arith, c.position.ensures))
    (ap (λ (held : Held). held.position) c.make_room.ensures.others) c.read.ensures.some_room c.in_ok-count.ensures.within c.in_ok-count.ensures.told
    (c.in_ok-count.ensures.stands h given (c.make_room.ensures.all_gathered h all)) (omega (arith, c.if-count-eq0.true))

pub returns-clause-looked : goal.returns-clause-looked
returns-clause-looked g c = λ h given all has.
    more g.T.Tail.numbers g.T.Tail.told _ _ h _ has c.requires.reads _ (c.read.ensures.numbers_kept ∙ c.length.ensures.numbers_kept) _ c.in_ok-length.length
    c.length.new.self _ _ c.in_ok-count.count c.in_ok-length.ensures.told (omega (arith, c.position.ensures))
    (ap (λ (held : Held). held.position) c.make_room.ensures.others) c.read.ensures.some_room c.in_ok-count.ensures.within c.in_ok-count.ensures.told
    (c.in_ok-count.ensures.stands h given (c.make_room.ensures.all_gathered h all)) (omega (arith, c.if-count-eq0.false)) c.in_ok-count.ensures.bounded

pub returns-in_err-length-clause-looks : goal.returns-in_err-length-clause-looks
returns-in_err-length-clause-looks g c =
    length_failed _ _ _ (g.T.Tail.told c.length.new.self) _ c.from_residual.result c.from_residual.ensures.0 _ c.in_err-length.ensures.told

pub returns-then-length-position-clause-looks : goal.returns-then-length-position-clause-looks
returns-then-length-position-clause-looks g c = look_below _ _ _ None _ _ c.in_ok-length.ensures.told (omega (arith, c.position.ensures))

pub returns-in_err-make_room-clause-looks : goal.returns-in_err-make_room-clause-looks
returns-in_err-make_room-clause-looks g c =
    room_failed _ _ _ None _ c.from_residual-in_err-make_room.result c.from_residual-in_err-make_room.ensures.0 c.in_ok-length.length c.in_ok-length.ensures.told
    (omega (arith, c.position.ensures))

pub returns-in_err-count-clause-looks : goal.returns-in_err-count-clause-looks
returns-in_err-count-clause-looks g c =
    read_failed _ _ _ _ _ c.in_ok-length.length c.in_ok-length.ensures.told (omega (arith, c.position.ensures)) _
    (ap (λ (held : Held). held.position) c.make_room.ensures.others) _ c.from_residual-in_err-count.result c.from_residual-in_err-count.ensures.0 _
    c.in_err-count.ensures.told

pub returns-then-count-eq0-clause-looks : goal.returns-then-count-eq0-clause-looks
returns-then-count-eq0-clause-looks g c =
    has_read _ _ _ _ _ c.in_ok-length.length c.in_ok-length.ensures.told (omega (arith, c.position.ensures)) _
    (ap (λ (held : Held). held.position) c.make_room.ensures.others) _ End (inr refl) c.in_ok-count.count c.read.ensures.some_room c.in_ok-count.ensures.told

pub returns-clause-looks : goal.returns-clause-looks
returns-clause-looks g c =
    has_read _ _ _ _ _ c.in_ok-length.length c.in_ok-length.ensures.told (omega (arith, c.position.ensures)) _
    (ap (λ (held : Held). held.position) c.make_room.ensures.others) _ More (inl refl) c.in_ok-count.count c.read.ensures.some_room c.in_ok-count.ensures.told
