use Rattle.std.proofs.Common.{[], ◌∷◌, ◌++◌}
use Rattle.std.specs.List.{flat_map}
use Rattle.event_json.specs.Json.{escape}
use Rattle.report.proofs.Writings.{writes_failed, writes_then}
use Rattle.report.proofs.escape.write_quoted.Goals as goal

pub returns-in_err-write_escaped-clause-told : goal.returns-in_err-write_escaped-clause-told
returns-in_err-write_escaped-clause-told g c =
    writes_then _ _ _ (0x22 ∷ []) (flat_map escape c.args.text.now ++ 0x22 ∷ []) _ (rw c.in_ok-write_all.was at c.write_all.ensures.told)
    (writes_failed _ _ (flat_map escape c.args.text.now) (0x22 ∷ []) _ _ c.from_residual-in_err-write_escaped.ensures.0 (rw c.in_err-write_escaped.was at (rw c.bytes.ensures.same at c.write_escaped.ensures.told)))

pub returns-clause-told : goal.returns-clause-told
returns-clause-told g c =
    writes_then _ _ _ (0x22 ∷ []) (flat_map escape c.args.text.now ++ 0x22 ∷ []) _ (rw c.in_ok-write_all.was at c.write_all.ensures.told)
    (writes_then _ _ _ (flat_map escape c.args.text.now) (0x22 ∷ []) _ (rw c.in_ok-write_escaped.was at (rw c.bytes.ensures.same at c.write_escaped.ensures.told)) c.write_all-2.ensures.told)
