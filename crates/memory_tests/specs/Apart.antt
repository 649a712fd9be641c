-- Whether two spans are one or apart (this project's profile), as a test that computes.
use Rattle.std.specs.Prelude.{Bool, nat_le, ◌==◌, ◌&&◌, ◌||◌}
use Rattle.wire_base.specs.Extent.{Extent}

abbrev pub are_apart : Extent → Extent → Bool
are_apart a b = ((a.start == b.start) && (a.end == b.end)) || (nat_le a.end b.start || nat_le b.end a.start)
