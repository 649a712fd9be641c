use Rattle.std.proofs.Common.{◌≡◌, ◌∙◌, ℕ, List, [], ◌∷◌, ◌++◌, ap, string_bytes, codes}
use Rattle.std.specs.List.{join_by}
use Rattle.registry_frame.specs.Body.{operation_bytes}
use Rattle.registry_frame.proofs.Bodies.{joined_texts}
use Rattle.registry_frame.proofs.body_text.joined.Goals as goal

pub returns : goal.returns
returns c = λ ops same.
    let list : string_bytes c.in_ok-list.list ≡ join_by operation_bytes (codes ",") ops =
    (rw c.deref.ensures.value at c.in_ok-list.ensures.ok) ∙ joined_texts string_bytes (codes ",") _ ops same in
    rw (c.from_vec.ensures, c.into_bytes.ensures.value) (c.in_ok-format.ensures.ok ∙ ap (λ (l : List ℕ). 91 ∷ (l ++ 93 ∷ [])) list)
