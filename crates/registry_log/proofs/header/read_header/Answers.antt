use Rattle.std.proofs.Common.{◌≡◌, Some, ap, sym, ◌∙◌, arith}
use Rattle.registry_log.proofs.Headers.{FitsBefore, digits_there, fits_within, line_feed_is_first, misfit_is_first, none_is_wrong, number_is_first}
use Rattle.registry_log.proofs.header.read_header.Goals as goal

pub returns-then-not-fits-clause-broken : goal.returns-then-not-fits-clause-broken
returns-then-not-fits-clause-broken c = λ at is.
    let same : c.loop-at.at ≡ at = cc is in
    misfit_is_first c.args.front.now c.loop-at.at (omega arith) (omega arith) c.loop-at.invariant (sym c.fits.ensures ∙ c.if-not-fits.true) ∙ ap Some same

pub slice_bounds-read_generation-end : goal.slice_bounds-read_generation-end
slice_bounds-read_generation-end c = let within = fits_within c.args.front.now 27 (c.loop-at.invariant 27 (omega arith) (omega arith)) in omega (arith, within)

pub read_generation-requires-clause-digits : goal.read_generation-requires-clause-digits
read_generation-requires-clause-digits c =
    let before : FitsBefore c.args.front.now 28 = λ place above below. c.loop-at.invariant place above (omega (arith, below)) in digits_there c.args.front.now before

pub returns-in_default-clause-broken : goal.returns-in_default-clause-broken
returns-in_default-clause-broken c = λ at is.
    let same : 8 ≡ at = cc is in
    let before : FitsBefore c.args.front.now 28 = λ place above below. c.loop-at.invariant place above (omega (arith, below)) in
    number_is_first c.args.front.now before c.in_default.ensures ∙ ap Some same

pub returns-then-not-fits-2-clause-broken : goal.returns-then-not-fits-2-clause-broken
returns-then-not-fits-2-clause-broken c = λ at is.
    let same : 28 ≡ at = cc is in
    let before : FitsBefore c.args.front.now 28 = λ place above below. c.loop-at.invariant place above (omega (arith, below)) in
    line_feed_is_first c.args.front.now before c.in-Some.ensures.0 (sym c.fits-2.ensures ∙ c.if-not-fits-2.true) ∙ ap Some same

pub returns-clause-right : goal.returns-clause-right
returns-clause-right c = λ generation is.
    let same : c.in-Some.generation ≡ generation = cc is in
    let before : FitsBefore c.args.front.now 28 = λ place above below. c.loop-at.invariant place above (omega (arith, below)) in
    record {
      right = none_is_wrong c.args.front.now before c.in-Some.ensures.0 (sym c.fits-2.ensures ∙ c.if-not-fits-2.false);
      number = sym c.in-Some.ensures.1 ∙ same;
    }
