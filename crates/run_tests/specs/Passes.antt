-- That a worker's passes are those of a queue and of a box (this project's profile) are facts, each with one proof at most.
use Rattle.std.specs.Prelude.{Option, Some, None}
use mathlib.Core.HLevel.{⊥_prop}
use base.Stored.{Coded-set}
use Rattle.atomic_table.specs.Seated.{TableId, table_id_coded}
use Rattle.mem_queue.specs.Known.{Known}
use Rattle.settle_box.specs.Poster.{Poster}
use Rattle.batch_worker.specs.Steps.{PostsOf, TakesOf}

pub takes_fact : (queue : TableId) (take : Option Known) → IsProp (TakesOf queue take)
takes_fact queue None = ⊥_prop
takes_fact queue (Some k) = Coded-set table_id_coded k.queue queue

pub posts_fact : (desk : TableId) (post : Option Poster) → IsProp (PostsOf desk post)
posts_fact desk None = ⊥_prop
posts_fact desk (Some p) = Coded-set table_id_coded p.desk desk
