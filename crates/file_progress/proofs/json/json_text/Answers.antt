use Rattle.std.proofs.Common.{◌≡◌, ◌≤◌, ◌++◌, ◌∷◌, [], ℕ, List, Some, false, ap, ◌∙◌}
use Rattle.serde_json.specs.Data.{depth}
use Rattle.serde_json.specs.Read.{max_depth, read}
use Rattle.serde_json.specs.View.{view}
use Rattle.serde_json.specs.Written.{compact_text, has_float}
use Rattle.file_progress.specs.Json.{json_text}
use Rattle.file_progress.proofs.Jsons.{no_float, shallow}
use Rattle.file_progress.proofs.json.json_text.Goals as goal

pub returns : goal.returns
unfolding json_text
returns c =
    let is = c.in_ok-value.ensures in
    let none : has_float (view c.in_ok-value.value) ≡ false = ap has_float is ∙ no_float c.args.overview.now in
    let few : depth (view c.in_ok-value.value) ≤ max_depth = rw is (shallow c.args.overview.now) in
    record {
      spelled = rw (c.in_ok-push.ensures.items, c.into_bytes-text.ensures.value) (ap (λ (l : List ℕ). l ++ 10 ∷ []) (c.in_ok-to_string.ensures.text none ∙ ap compact_text is));
      read_back = rw (c.in_ok-to_string.ensures.text none, is) at (c.in_ok-to_string.ensures.reads_back few);
    }
