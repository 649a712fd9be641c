-- Places that are counted in 64 bits: a count saturates (this project's profile).
use Rattle.std.specs.Prelude.{ℕ, ◌-◌, ◌^◌, min}

abbrev pub up_to_end : ℕ → ℕ
up_to_end count = min count (2 ^ 64 - 1)
