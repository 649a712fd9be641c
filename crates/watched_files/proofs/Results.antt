-- Answers of calls.
use Rattle.std.proofs.Common.{Result, Ok, Err, OnOk}

pub on_ok_map : {A E P Q : Type 0} (result : Result A E) → (P → Q) → OnOk result P → OnOk result Q
on_ok_map (Ok value) f p = f p
on_ok_map (Err error) f p = tt
