use Rattle.std.proofs.Common.{◌≡◌, ◌-◌, ◌+◌, ◌≤◌, length, take}
use Rattle.run_steps.specs.Starting.{HaveRoomBefore, new_files, starts_among}
use Rattle.run_steps.proofs.starts.starts_of.Given as goal

abbrev pub invariant-files : goal.invariant-files
invariant-files l = record {
  within : l.place ≤ length l.listed;
  starts : l.starts.items ≡ starts_among l.rows (take l.place l.listed);
  counted : l.files ≡ length l.rows + new_files l.rows (take l.place l.listed);
  few : l.files ≤ 65_536;
  room : HaveRoomBefore l.rows l.listed l.place;
}

abbrev pub decreases-files : goal.decreases-files
decreases-files l = length l.listed - l.place
