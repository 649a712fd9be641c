use Rattle.std.proofs.Common.{◌≡◌, ◌≢◌, ℕ, true, false, List, ◌++◌, Some, None, codes, subst, sym, ◌∙◌}
use Rattle.std.proofs.lemmas.Bool.Decides.{Decides-eqb}
use Rattle.std.proofs.lemmas.Slice.Eq.{slice_eq-Decides, strip_prefix_is}
use Rattle.hex.specs.Hex.{encode_lower}
use Rattle.file_identity.proofs.Compared.{behind_kind, has_parts, lacks_id}
use Rattle.file_identity.proofs.key_text.is_key_of_digest.Goals as goal

pub returns-in_default-strip_prefix : goal.returns-in_default-strip_prefix
returns-in_default-strip_prefix c =
    let behind = c.in-Some.behind.now in
    let first : c.args.key.now ≡ codes "filestream::" ++ behind =
    sym c.bytes.ensures.same ∙ strip_prefix_is Decides-eqb c.bytes.result.now (codes "filestream::") (Some c.in-Some.behind) c.in-Some.ensures.cases in
    let lacks : (rest : List ℕ) → behind ≢ c.args.id.now ++ rest =
    subst (λ (l : List ℕ). (rest : List ℕ) → behind ≢ l ++ rest) c.bytes-2.ensures.same
    (strip_prefix_is Decides-eqb behind c.bytes-2.result.now None c.in_default-strip_prefix.ensures.cases) in
    ((λ q. absurd (let r : false ≡ true = q in cc)), (λ is. absurd (lacks_id c.args.id.now c.args.digest c.args.key.now behind first lacks is)))

pub returns : goal.returns
returns c =
    let behind = c.in-Some.behind.now in
    let rest = c.in-Some-strip_prefix.rest.now in
    let digits = c.in-Some-strip_prefix-2.digits.now in
    let first : c.args.key.now ≡ codes "filestream::" ++ behind =
    sym c.bytes.ensures.same ∙ strip_prefix_is Decides-eqb c.bytes.result.now (codes "filestream::") (Some c.in-Some.behind) c.in-Some.ensures.cases in
    let second : behind ≡ c.args.id.now ++ rest =
    subst (λ (l : List ℕ). behind ≡ l ++ rest) c.bytes-2.ensures.same
    (strip_prefix_is Decides-eqb behind c.bytes-2.result.now (Some c.in-Some-strip_prefix.rest) c.in-Some-strip_prefix.ensures.cases) in
    let third : rest ≡ codes "::fingerprint::" ++ digits =
    strip_prefix_is Decides-eqb rest (codes "::fingerprint::") (Some c.in-Some-strip_prefix-2.digits) c.in-Some-strip_prefix-2.ensures.cases in
    let same = slice_eq-Decides Decides-eqb digits c.as_slice.result.now c.eq.result c.eq.ensures in
    let written : c.as_slice.result.now ≡ encode_lower c.args.digest = c.as_slice.ensures ∙ c.digits_of.ensures in (
      (λ q. has_parts c.args.id.now c.args.digest c.args.key.now behind rest digits first second third (same.0 q ∙ written)),
      (λ is. same.1 (behind_kind c.args.id.now c.args.digest c.args.key.now behind rest digits first second third is ∙ sym written)),
    )
