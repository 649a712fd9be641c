use Rattle.std.proofs.Common.{refl, ap, ℕ, List, [], ◌∷◌, ◌++◌, ◌∙◌}
use Rattle.prospect.proofs.Trying.{tries_failed, tries_one, tries_served}
use Rattle.prospect.proofs.Unfinished.{on_err, on_ok}
use Rattle.prospect.proofs.listings.try_glob.Goals as goal

pub returns-in_err-copy-in-Err-Failed-clause-some : goal.returns-in_err-copy-in-Err-Failed-clause-some
returns-in_err-copy-in-Err-Failed-clause-some g c =
    on_err _ _ (tries_one _ c.root.result.now c.depth.result _ _ _ c.list.result _ _ c.root.ensures c.depth.ensures c.list.ensures.told)

pub returns-in_err-push-in-Err-Failed-clause-some : goal.returns-in_err-push-in-Err-Failed-clause-some
returns-in_err-push-in-Err-Failed-clause-some g c =
    on_err _ _ (tries_one _ c.root.result.now c.depth.result _ _ _ c.list.result _ _ c.root.ensures c.depth.ensures c.list.ensures.told)

pub returns-in-Ok-clause-tried : goal.returns-in-Ok-clause-tried
returns-in-Ok-clause-tried g c =
    on_ok c.add_entries.result
    (λ added. tries_served _ c.root.result.now c.depth.result _ _ _ c.list.result c.in-Ok.shown c.in-Ok.is _ _ _ _ c.root.ensures c.depth.ensures c.list.ensures.told c.in-Ok.ensures.in_range added refl)
    c.add_entries.ensures

pub returns-in-Ok-clause-some : goal.returns-in-Ok-clause-some
returns-in-Ok-clause-some g c =
    on_err _ c.add_entries.result (tries_one _ c.root.result.now c.depth.result _ _ _ c.list.result _ _ c.root.ensures c.depth.ensures c.list.ensures.told)

pub returns-in_ok-push-in-Err-Failed-clause-tried : goal.returns-in_ok-push-in-Err-Failed-clause-tried
returns-in_ok-push-in-Err-Failed-clause-tried g c =
    tries_failed _ c.root.result.now c.depth.result _ _ _ c.list.result c.in-Err-Failed.field-0 c.in-Err-Failed.is _ _ _ _ c.list.ensures.told refl
    (c.in_ok-push-in-Err-Failed.ensures.items ∙ ap (λ (t : List ℕ). c.args.tried.now.failed.items ++ t ∷ []) (c.in_ok-copy-in-Err-Failed.ensures ∙ c.root-in-Err-Failed.ensures))

pub returns-in-Err-NoMemory-clause-some : goal.returns-in-Err-NoMemory-clause-some
returns-in-Err-NoMemory-clause-some g c =
    tries_one _ c.root.result.now c.depth.result _ _ _ c.list.result _ _ c.root.ensures c.depth.ensures c.list.ensures.told
