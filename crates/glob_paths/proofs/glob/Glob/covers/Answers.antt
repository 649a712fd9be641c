use Rattle.std.proofs.Common.{List, ℕ, ap, ◌∙◌, subst, sym}
use Rattle.std.proofs.lemmas.Bool.{false≢true}
use Rattle.glob_paths.specs.Cover.{Covers}
use Rattle.glob_paths.specs.Fault.{fault_of}
use Rattle.glob_paths.specs.Root.{root_of, depth_of, IsWithin}
use Rattle.glob_paths.proofs.Law.{covered_within, covered_below, not_in_front}
use Rattle.glob_paths.proofs.glob.Glob.covers.Goals as goal

pub returns-then-not-starts_with-clause-covers : goal.returns-then-not-starts_with-clause-covers
returns-then-not-starts_with-clause-covers c = (
  λ wrong. absurd (false≢true wrong),
  λ covers. absurd
      (let C : List ℕ → Type 0 = λ text. Covers text c.args.path.now in
      let text_is = c.as_str-text.ensures ∙ c.self.view_is in
      not_in_front c.as_str-text.result.now _ c.args.path.now _ c.as_str-text.utf8 (ap fault_of c.as_str-text.ensures ∙ c.self.invariant.0)
      (c.bytes.ensures.same ∙ c.self.invariant.1 ∙ ap root_of (sym c.as_str-text.ensures)) c.starts_with.ensures.value c.if-not-starts_with.true (subst C (sym text_is) covers)),
)

pub returns-clause-within : goal.returns-clause-within
returns-clause-within c = λ covers.
    let P : List ℕ → Type 0 = λ text. IsWithin (root_of text) (depth_of text) c.args.path.now in
    subst P (c.as_str-text.ensures ∙ c.self.view_is)
    (covered_within c.as_str-text.result.now c.args.path.now c.as_str-text.utf8 (ap fault_of c.as_str-text.ensures ∙ c.self.invariant.0) (c.text_covers.ensures.0 covers))

pub returns-clause-below : goal.returns-clause-below
returns-clause-below c = λ covers names other. covered_below c.args.self.now c.args.path.now (returns-clause-within c covers) names other
