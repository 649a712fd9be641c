use Rattle.std.proofs.Common.{◌<◌, ℕ, List, length, Option, ap, ◌∙◌, subst, arith}
use Rattle.std.proofs.lemmas.List.{take_all}
use Rattle.outside.specs.declared.history.Shown.{Shown}
use Rattle.outside.specs.Folders.{Listed}
use Rattle.outside_mem.specs.Happenings.{event_of}
use Rattle.outside_mem.specs.Listed.{AddsFound}
use Rattle.outside_mem.proofs.Listing.{listed_more, shows_all}
use Rattle.outside_mem.proofs.tracked.list_files.Goals as goal

pub loop-number-preserved : goal.loop-number-preserved
loop-number-preserved c =
    let within : c.loop-number.number < length c.args.files.now = omega arith in
    let adds = subst (λ (o : Option Shown). AddsFound c.args.root.now c.args.depth o c.loop-number.entries.items c.loop-number.shown.items c.add_found.new.entries.items c.add_found.new.shown.items) c.in_ok-found.ensures c.in_ok-add_found.ensures in
    listed_more c.args.moments.now c.args.files.now c.args.listings c.loop-number.number c.index-files-number.result within c.index-files-number.is c.args.root.now c.args.depth _ _ _ _ c.loop-number.invariant adds

pub returns : goal.returns
returns c =
    let shown = c.loop-number.shown.items in
    let all = take_all c.loop-number.number c.args.files.now (omega arith) in
    let listed = c.loop-number.invariant in
    record {
      shown = shown;
      entries_shown = listed.entries_shown;
      shows = shows_all c.args.moments.now c.args.files.now c.args.listings c.args.root.now c.args.depth c.loop-number.number c.loop-number.entries.items shown all listed;
      event = ap event_of c.in_ok-room.ensures ∙ ap (λ (root : List ℕ). Listed root c.args.depth shown) c.in_ok-root.ensures;
      in_range = listed.in_range;
    }
