use Rattle.std.proofs.Common.{◌≡◌, ℕ, true, false, List, ◌++◌, Some, None, codes, drop, subst, sym, ◌∙◌}
use Rattle.std.proofs.lemmas.Bool.Decides.{Decides-eqb}
use Rattle.std.proofs.lemmas.Slice.Eq.{starts_is, strip_prefix_is}
use Rattle.file_rows.proofs.Spelled.{has_the_colons, has_the_id, key_of_input}
use Rattle.file_rows.proofs.keys.is_key_of.Goals as goal

pub returns-in_default-strip_prefix : goal.returns-in_default-strip_prefix
returns-in_default-strip_prefix c =
    let behind = c.in-Some.behind.now in
    let first : c.args.key.now ≡ codes "filestream::" ++ behind =
    sym c.bytes.ensures.same ∙ strip_prefix_is Decides-eqb c.bytes.result.now (codes "filestream::") (Some c.in-Some.behind) c.in-Some.ensures.cases in
    let lacks : (rest : List ℕ) → behind ≡ c.args.id.now ++ rest → ⊥ =
    subst (λ (l : List ℕ). (rest : List ℕ) → behind ≡ l ++ rest → ⊥) c.bytes-2.ensures.same
    (strip_prefix_is Decides-eqb behind c.bytes-2.result.now None c.in_default-strip_prefix.ensures.cases) in
    ((λ q. absurd (let r : false ≡ true = q in cc)), (λ of. absurd (has_the_id c.args.id.now c.args.key.now behind first lacks of)))

pub returns : goal.returns
returns c =
    let behind = c.in-Some.behind.now in
    let rest = c.in-Some-strip_prefix.rest.now in
    let first : c.args.key.now ≡ codes "filestream::" ++ behind =
    sym c.bytes.ensures.same ∙ strip_prefix_is Decides-eqb c.bytes.result.now (codes "filestream::") (Some c.in-Some.behind) c.in-Some.ensures.cases in
    let second : behind ≡ c.args.id.now ++ rest =
    subst (λ (l : List ℕ). behind ≡ l ++ rest) c.bytes-2.ensures.same
    (strip_prefix_is Decides-eqb behind c.bytes-2.result.now (Some c.in-Some-strip_prefix.rest) c.in-Some-strip_prefix.ensures.cases) in
    let starts = starts_is Decides-eqb rest (codes "::") c.starts_with.result c.starts_with.ensures.value in (
      (λ q. key_of_input c.args.id.now c.args.key.now behind rest (drop 2 rest) first second (starts.0 q)),
      (λ of. starts.1 of.rest (has_the_colons c.args.id.now c.args.key.now behind rest first second of)),
    )
