-- The one of two things that belongs to an area (this project's profile).
use Rattle.std.specs.Prelude.{Bool, true, false}
use Rattle.wire_base.specs.declared.limits.Which.{Which}
use Rattle.wire_base.specs.declared.limits.Which.TheVariants.{A, B}

-- of two things, the first of area A and the second of area B, the one of this area
abbrev pub of_area : {T : Type 0} → Which → T → T → T
of_area A first second = first
of_area B first second = second

abbrev pub other_area : Which → Which
other_area A = B
other_area B = A

-- the area that is written, if this one is used and a checkpoint is due or not
abbrev pub written_of : Which → Bool → Which
written_of area true = other_area area
written_of area false = area
