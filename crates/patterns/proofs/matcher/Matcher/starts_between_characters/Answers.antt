use Rattle.std.proofs.Common.{is_some, sym, ap, ◌∙◌, arith}
use Rattle.std.proofs.lemmas.Bool.{both_ways}
use Rattle.patterns.proofs.Between.{seen, unseen}
use Rattle.patterns.proofs.matcher.Matcher.starts_between_characters.Goals as goal

pub returns-then-is_char_boundary : goal.returns-then-is_char_boundary
returns-then-is_char_boundary c =
    let here = seen c.args.self.now.program c.loop-span.searcher.program.now c.args.text.now c.as_bytes.result.now c.loop-span.place
    c.loop-span.invariant.same_program c.as_bytes.ensures.value c.in-Some.span c.in-Some.ensures.found in
    sym (ap is_some c.loop-span.invariant.left ∙ here.at_a_cut (c.is_char_boundary.ensures.test.0 c.if-is_char_boundary.true))

pub overflow_add-place : goal.overflow_add-place
overflow_add-place c =
    let here = seen c.args.self.now.program c.loop-span.searcher.program.now c.args.text.now c.as_bytes.result.now c.loop-span.place
    c.loop-span.invariant.same_program c.as_bytes.ensures.value c.in-Some.span c.in-Some.ensures.found in
    let inside = here.inside (λ cut. both_ways _ c.if-is_char_boundary.false (c.is_char_boundary.ensures.test.1 cut)) in
    omega arith

pub loop-span-smaller : goal.loop-span-smaller
loop-span-smaller c =
    let here = seen c.args.self.now.program c.loop-span.searcher.program.now c.args.text.now c.as_bytes.result.now c.loop-span.place
    c.loop-span.invariant.same_program c.as_bytes.ensures.value c.in-Some.span c.in-Some.ensures.found in
    let inside = here.inside (λ cut. both_ways _ c.if-is_char_boundary.false (c.is_char_boundary.ensures.test.1 cut)) in
    let behind = here.behind in
    omega arith

pub loop-span-preserved : goal.loop-span-preserved
loop-span-preserved c =
    let here = seen c.args.self.now.program c.loop-span.searcher.program.now c.args.text.now c.as_bytes.result.now c.loop-span.place
    c.loop-span.invariant.same_program c.as_bytes.ensures.value c.in-Some.span c.in-Some.ensures.found in
    let inside = here.inside (λ cut. both_ways _ c.if-is_char_boundary.false (c.is_char_boundary.ensures.test.1 cut)) in
    record {
      inside = omega arith;
      same_program = c.find.ensures.same ∙ c.loop-span.invariant.same_program;
      left = c.loop-span.invariant.left ∙ inside.1;
    }

pub returns : goal.returns
returns c =
    sym (ap is_some c.loop-span.invariant.left
    ∙ unseen c.args.self.now.program c.loop-span.searcher.program.now c.args.text.now c.as_bytes.result.now c.loop-span.place
    c.loop-span.invariant.same_program c.as_bytes.ensures.value c.in_default.ensures.found)
