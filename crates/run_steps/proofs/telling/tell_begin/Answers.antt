use Rattle.std.proofs.Common.{subst, sym}
use Rattle.keeper.specs.FewKeys.{HasRoomFor}
use Rattle.wire_base.specs.declared.note.Begin.{Begin}
use Rattle.run_steps.specs.Begun.{noted_begin}
use Rattle.run_steps.proofs.KnownKeys.{room_to_begin}
use Rattle.run_steps.proofs.telling.tell_begin.Goals as goal

pub tell-requires-clause-few : goal.tell-requires-clause-few
tell-requires-clause-few c =
    let begins = c.in_ok-begin.ensures.begin in
    subst (λ (b : Begin). HasRoomFor c.args.keeper.now.store.rows c.args.keeper.now.tracked (noted_begin b)) (sym begins.is)
    (room_to_begin c.args.opening.slot c.args.opening.listed.now begins.key c.args.opening.start c.args.keeper.now begins.key_is c.requires.few)
