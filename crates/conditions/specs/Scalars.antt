-- The texts, whole numbers and truth values that `equals` asks for (Filebeat reference, conditions, `equals`).
use Rattle.std.specs.Prelude.{Bool, false, bytes_eq}
use Rattle.std.specs.Bool.{beq}
use Rattle.std.specs.Ordering.{int_eq}
use Rattle.event_tree.specs.Value.{TreeValue, null, flag, int, str, list, fields}
use Rattle.conditions.specs.declared.scalar.Scalar.{Scalar}
use Rattle.conditions.specs.declared.scalar.Scalar.TheVariants.{Flag, Int, Str}

-- the scalar that the value is; settings have no other value here
abbrev pub scalar_of : TreeValue → Scalar
scalar_of (flag truth) = Flag truth
scalar_of (int number) = Int number
scalar_of (str text) = Str text
scalar_of null = Flag false
scalar_of (list held) = Flag false
scalar_of (fields held) = Flag false

-- the value is exactly the scalar
abbrev pub is_same_scalar : Scalar → TreeValue → Bool
is_same_scalar (Flag truth) (flag other) = beq truth other
is_same_scalar (Int number) (int other) = int_eq number other
is_same_scalar (Str text) (str other) = bytes_eq text other
is_same_scalar scalar value = false
