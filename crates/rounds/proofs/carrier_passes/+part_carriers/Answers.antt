use Rattle.std.proofs.Common.{ap}
use Rattle.rounds.specs.Crewed.{carrier_passes, carriers_passes}
use Rattle.rounds.proofs.Parting.{alone_parted, parted_on, worker_passes}
use Rattle.rounds.proofs.carrier_passes.+part_carriers.Goals as goal

pub returns-then-is_empty-clause-parted : goal.returns-then-is_empty-clause-parted
returns-then-is_empty-clause-parted g t c =
    alone_parted carrier_passes c.args.outlets.queue.now.id c.args.outlets.desk.now.id c.args.take c.args.post
    (worker_passes c.take_up.new.self) c.in-Some.rest.now c.requires.of_this_queue c.requires.of_this_box
    (ap worker_passes c.take_up.ensures) c.if-is_empty.ensures

pub returns-clause-parted : goal.returns-clause-parted
returns-clause-parted g t c =
    parted_on c.args.outlets.queue.now.id c.args.outlets.desk.now.id c.args.take c.split_take.new.pass c.split_take.result c.args.post c.split_post.new.pass c.split_post.result
    (worker_passes c.take_up-2.new.self) (carriers_passes c.part_carriers.new.carriers) c.requires.of_this_queue c.requires.of_this_box
    c.split_take.ensures.kept c.split_take.ensures.new c.split_post.ensures.kept c.split_post.ensures.new
    (ap worker_passes c.take_up-2.ensures) c.part_carriers.ensures.parted
