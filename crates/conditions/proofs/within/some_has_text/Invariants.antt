use Rattle.std.proofs.Common.{◌≡◌, false, take}
use Rattle.std.specs.List.{list_any}
use Rattle.conditions.specs.Asked.{is_text_with}
use Rattle.conditions.proofs.within.some_has_text.Given as goal

abbrev pub invariant-loop-i : goal.invariant-loop-i
invariant-loop-i l = list_any (is_text_with l.text) (take l.i l.members) ≡ false
