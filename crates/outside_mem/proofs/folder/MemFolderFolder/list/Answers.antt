use Rattle.std.proofs.Common.{◌≤◌, arith}
use Rattle.outside_mem.proofs.Listing.{none_earlier-listing}
use Rattle.outside_mem.proofs.folder.MemFolderFolder.list.Goals as goal

pub returns-then-next_call_fails-clause-states_go_on : goal.returns-then-next_call_fails-clause-states_go_on
returns-then-next_call_fails-clause-states_go_on c =
    let later : c.args.self.now.listings ≤ c.saturating_add-self.result = omega arith in
    none_earlier-listing c.args.self.now.files.items c.args.self.now.listings c.saturating_add-self.result later

pub returns-in-Ok-clause-states_go_on : goal.returns-in-Ok-clause-states_go_on
returns-in-Ok-clause-states_go_on c =
    let later : c.args.self.now.listings ≤ c.saturating_add-self.result = omega arith in
    none_earlier-listing c.args.self.now.files.items c.args.self.now.listings c.saturating_add-self.result later

pub returns-in-Err-clause-states_go_on : goal.returns-in-Err-clause-states_go_on
returns-in-Err-clause-states_go_on c =
    let later : c.args.self.now.listings ≤ c.saturating_add-self.result = omega arith in
    none_earlier-listing c.args.self.now.files.items c.args.self.now.listings c.saturating_add-self.result later
