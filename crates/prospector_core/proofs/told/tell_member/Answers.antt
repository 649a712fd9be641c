use Rattle.std.proofs.Common.{inl, refl, ◌∙◌}
use Rattle.prospector_core.proofs.Looping.{files-set}
use Rattle.prospector_core.proofs.told.tell_member.Goals as goal

pub returns-clause-told : goal.returns-clause-told
returns-clause-told c = inl (record {
  place = c.in-Some.place;
  old = c.index-watched-place.result;
  one = c.tell_known.new.watched;
  within = c.in-Some.ensures.within;
  key = c.in-Some.ensures.found ∙ c.bytes.ensures.same;
  here = c.index-watched-place.is;
  changed = refl;
  kept = rw (← c.index-watched-place.is) at c.tell_known.ensures.file_kept;
  stays = rw (← c.index-watched-place.is) at c.tell_known.ensures.stays;
  marked = rw (← c.index-watched-place.is) at c.in_ok-tell_known.ensures.marked;
  told_more = record {
    changes = rw (← c.index-watched-place.is) at c.in_ok-tell_known.ensures.told;
    created = refl;
    keys = λ key. refl;
    next = refl;
    count = refl;
  };
})

pub returns-in_err-tell_known-clause-files_kept : goal.returns-in_err-tell_known-clause-files_kept
returns-in_err-tell_known-clause-files_kept c =
    files-set c.args.watched.now c.in-Some.place c.tell_known.new.watched c.index-watched-place.result c.in-Some.ensures.within c.index-watched-place.is
    (rw (← c.index-watched-place.is) at c.tell_known.ensures.file_kept)

pub returns-clause-files_kept : goal.returns-clause-files_kept
returns-clause-files_kept c =
    files-set c.args.watched.now c.in-Some.place c.tell_known.new.watched c.index-watched-place.result c.in-Some.ensures.within c.index-watched-place.is
    (rw (← c.index-watched-place.is) at c.tell_known.ensures.file_kept)
