-- What a pass knows (this project's profile).
use Rattle.std.specs.Prelude.{◌≡◌, ◌≢◌, ℕ, List, [], Option, None}
use Rattle.crossbeam_queue.specs.Passes.{Pass, view}
use Rattle.wire_base.specs.declared.parcel.Parcel.{Parcel}
use Rattle.mem_queue.specs.declared.entry.Entry.{Entry}
use Rattle.mem_queue.specs.declared.rule.Hand.{Hand}
use Rattle.mem_queue.specs.Known.{Known, known}

abbrev pub hand : List ℕ → List ℕ → List Entry → List Entry → Option (List Parcel) → Hand
hand puts takes put taken rest = record { puts = puts; takes = takes; put = put; taken = taken; rest = rest }

-- a pass that can put and does nothing else
pub record IsPuttingPass (pass : Pass Parcel Hand) : Type 0 where
  pub no_slot_out : pass.me.1 ≡ []
  pub may : (view pass).puts ≢ []
  pub takes : (view pass).takes ≡ []
  pub taken : (view pass).taken ≡ []
  pub not_closed : (view pass).rest ≡ None

-- a pass that can take and does nothing else
pub record IsTakingPass (pass : Pass Parcel Hand) : Type 0 where
  pub no_slot_out : pass.me.1 ≡ []
  pub may : (view pass).takes ≢ []
  pub puts : (view pass).puts ≡ []
  pub put : (view pass).put ≡ []
  pub not_closed : (view pass).rest ≡ None

-- what contracts see of a pass that puts
abbrev pub known_of_puts : Pass Parcel Hand → Known
known_of_puts pass = known pass.table_id (view pass).puts (view pass).put

-- what contracts see of a pass that takes
abbrev pub known_of_takes : Pass Parcel Hand → Known
known_of_takes pass = known pass.table_id (view pass).takes (view pass).taken
