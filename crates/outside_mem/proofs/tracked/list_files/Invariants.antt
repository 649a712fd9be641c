use Rattle.outside_mem.proofs.Listing.{IsListedUpTo}
use Rattle.outside_mem.proofs.tracked.list_files.Given as goal

abbrev pub invariant-loop-number : goal.invariant-loop-number
invariant-loop-number l = IsListedUpTo l.moments l.files l.listings l.root l.depth l.number l.entries.items l.shown.items
