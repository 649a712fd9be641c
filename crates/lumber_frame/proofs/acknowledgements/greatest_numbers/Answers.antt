use Rattle.std.proofs.Common.{◌≡◌, ◌+◌, ◌-◌, ◌≤◌, drop, get_or, length, map, max, set, ap, take, ◌∙◌, arith, Vec, Global}
use Rattle.wire_base.specs.declared.blob.Blob.{Blob}
use Rattle.std.proofs.lemmas.List.{get_or_read, length-drop, length-map, length-take}
use Rattle.lumber_frame.specs.Talk.{out_before}
use Rattle.lumber_frame.specs.Acknowledged.{asked, count_at, oldest_open, whole_within}
use Rattle.lumber_frame.proofs.Answering.{greatest_step}
use Rattle.lumber_frame.proofs.acknowledgements.greatest_numbers.Goals as goal

pub loop-number-preserved : goal.loop-number-preserved
loop-number-preserved c =
    let windows = map (λ (w : Vec Blob Global). w.items) c.args.windows.now in
    let place = c.loop-number.place in
    let mosts = c.loop-number.mosts.items in
    let asked_now = c.oldest_open-asked.result in
    let so_far = c.loop-number.invariant.so_far in
    let same = c.deref.ensures.value in
    let oldest = c.oldest_open-asked.ensures.oldest so_far.given (λ window there. ap (λ ns. get_or ns window 0) same ∙ so_far.are window (omega (arith, there, length-map c.args.windows.now (λ (w : Vec Blob Global). w.items)))) in
    let asked_is : asked_now ≡ asked windows so_far.given (out_before c.args.talk.now place) = oldest ∙ ap (λ n. oldest_open so_far.given 0 (take n windows)) (c.whole_within-whole.ensures.whole ∙ ap (whole_within windows) c.out_before.ensures) in
    let few : c.in-Some.number ≤ count_at windows (asked windows so_far.given (out_before c.args.talk.now place)) = omega (arith, c.if-number-count_at.false, c.count_at.ensures, ap (count_at windows) asked_is) in
    let each : length mosts ≡ length windows + 1 = omega (arith, c.loop-number.mosts.ok, c.loop-number.invariant.each, length-map c.args.windows.now (λ (w : Vec Blob Global). w.items)) in
    let most = ap (λ n. max n c.in-Some.number) (get_or_read mosts asked_now c.index.result.now (omega (arith, each, length-map c.args.windows.now (λ (w : Vec Blob Global). w.items))) c.index.ensures 0) in
    record {
      within = omega (arith, c.in-Some.ensures.0, length-take (length c.args.received.now - place) (drop place c.args.received.now), length-drop place c.args.received.now, c.loop-number.invariant.within);
      each = c.loop-number.invariant.each;
      so_far = greatest_step windows c.args.talk.now c.args.received.now place c.in-Some.number mosts _ so_far c.in-Some.ensures.1 few each (ap (set mosts asked_now) (c.max.ensures ∙ most) ∙ ap (λ w. set mosts w (max (get_or mosts w 0) c.in-Some.number)) asked_is);
    }
