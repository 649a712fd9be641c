use Rattle.std.proofs.Common.{◌++◌, string_bytes, ap, ◌∙◌, sym, rules}
use Rattle.glob_paths.specs.Root.{slashed, leading_parts}
use Rattle.wire_base.specs.Path.{parts_of}
use Rattle.glob_paths.proofs.Covering.{first_some}
use Rattle.glob_paths.proofs.Rooting.{folder_more, others_more}
use Rattle.glob_paths.proofs.root.leading_folder.Goals as goal

pub loop-behind-preserved : goal.loop-behind-preserved
loop-behind-preserved c =
    let first = first_some _ _ c.first_part.result.1 c.in-Some.behind c.first_part.ensures.cases c.in-Some.is in (
      search rules,
      ap (λ text. text ++ slashed (leading_parts (parts_of c.in-Some.behind.now))) (c.in_ok-push_str.ensures.bytes ∙ ap (λ text. text ++ c.first_part.result.0.now) c.in_ok-push.ensures.bytes)
          ∙ folder_more (string_bytes c.loop-behind.folder) _ c.first_part.result.0.now c.loop-behind.rest.now c.in-Some.behind.now c.loop-behind.invariant.1 first (sym c.if-not-is_plain.ensures),
      others_more c.first_part.result.0.now c.loop-behind.rest.now c.in-Some.behind.now _ c.loop-behind.invariant.2 first (sym c.if-not-is_plain.ensures),
    )
