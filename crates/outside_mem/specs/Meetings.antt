-- What comes of a call of a peer that is to meet another (this project's profile).
use Rattle.std.specs.Prelude.{◌≡◌, ℕ, ◌+◌, ◌<◌}
use Rattle.outside_mem.specs.declared.meet.Meeting.{Meeting}
use Rattle.outside_mem.specs.declared.meet.Meeting.TheVariants.{Met, NotYet, Failed}
use Rattle.outside_mem.specs.declared.meet.TheConstants.{MISSES}

-- this many calls did not meet before and after this one: it fails only after the last that may go without
abbrev pub Asks : ℕ → ℕ → Meeting → Type 0
Asks before after Met = after ≡ before
Asks before after NotYet = (before < MISSES) × (after ≡ before + 1)
Asks before after Failed = (before ≡ MISSES) × (after ≡ before)
