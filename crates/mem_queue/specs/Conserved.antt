-- The queue loses nothing (this project's profile): what was put is, item by item and as often, what was taken and what the
-- queue holds, and the queue holds what it holds in the order of entry.
use Rattle.std.specs.Prelude.{List, ◌++◌}
use Rattle.wire_base.specs.declared.parcel.Parcel.{Parcel}
use Rattle.pass_sums.specs.Weight.{AsOften}
use Rattle.mem_queue.specs.declared.entry.Entry.{Entry}
use Rattle.mem_queue.specs.Entries.{numbered}

-- all that entered is in one row, numbered from 0 in the order of entry; a front of it was taken, and `items` is the rest
pub record IsConserved (put taken : List Entry) (items : List Parcel) : Type 0 where
  pub gone : List Parcel
  pub all_put : AsOften put (numbered 0 (gone ++ items))
  pub all_taken : AsOften taken (numbered 0 gone)
