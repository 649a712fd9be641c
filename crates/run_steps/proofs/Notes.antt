-- What a keeper was told, one note behind the other: it has more notes, and nothing else of it changed.
use Rattle.std.proofs.Common.{inl, inr, ℕ, suc, ◌≤◌, All, Contains, List, [], ◌∷◌, ◌++◌, length, refl, sym, ap, subst, ◌∙◌, arith}
use Rattle.std.proofs.lemmas.List.{append_assoc, append-nil, length-append}
use Rattle.std.proofs.lemmas.List.Elements.{All-append, All-cons, All-contains, All-contains_itself, All-nil}
use Rattle.std.specs.List.{AllByRecursion}
use Rattle.keeper.specs.Keeping.{Keeping}
use Rattle.prospect.specs.declared.listed.Listed.{Listed}
use Rattle.wire_base.specs.declared.note.Note.{Note}
use Rattle.wire_base.specs.declared.note.Note.TheVariants.{Begin, Announce, Settle, Rename, Seen, Forget}
use Rattle.wire_base.specs.declared.numbers.Moment.{Moment}
use Rattle.wire_base.specs.declared.numbers.Slot.{Slot}
use Rattle.wire_base.specs.declared.row.Row.{Row}
use Rattle.run_steps.specs.Telling.{TellMoments, TellsMoment, TellsNotes, seen_note, moment_noted}

pub front_of_both : (P : Note → Type 0) (first second : List Note) → AllByRecursion P (first ++ second) → AllByRecursion P first
front_of_both P [] second each = tt
front_of_both P (note ∷ first) second each = (each.0, front_of_both P first second each.1)

-- ---- in a row

pub none_told : (keeper : Keeping) → TellsNotes [] keeper keeper
none_told keeper = record {
  told = sym (append-nil keeper.tracked.notes);
  opening_stays = refl;
  committed_stays = refl;
  gone_stays = All-contains_itself keeper.tracked.gone;
  others_stay = refl;
}

pub told_behind : (first more : List Note) (old mid new : Keeping) → TellsNotes first old mid → TellsNotes more mid new → TellsNotes (first ++ more) old new
told_behind first more old mid new one two = record {
  told = two.told ∙ ap (λ (l : List Note). l ++ more) one.told ∙ append_assoc old.tracked.notes first more;
  opening_stays = two.opening_stays ∙ one.opening_stays;
  committed_stays = two.committed_stays ∙ one.committed_stays;
  gone_stays = λ k d inside. All-contains (Contains new.tracked.gone) mid.tracked.gone _ two.gone_stays (one.gone_stays k d inside);
  others_stay = two.others_stay ∙ ap (λ (k : Keeping). record k { tracked = new.tracked }) one.others_stay;
}

-- ---- moments

abbrev pub IsSeen : Note → Type 0
IsSeen (Begin slot key path epoch base changed) = ⊥
IsSeen (Announce slot epoch) = ⊥
IsSeen (Settle slot epoch span cause) = ⊥
IsSeen (Rename slot scan path) = ⊥
IsSeen (Seen slot changed) = Unit {0}
IsSeen (Forget slot epoch end) = ⊥

-- it was told moments alone, at most so many
pub record TellsSeens (most : ℕ) (old new : Keeping) : Type 0 where
  pub more : List Note
  pub tells : TellsNotes more old new
  pub seen : All IsSeen more
  pub few : length more ≤ most

one_told : (slot : Slot) (changed : Moment) (old new : Keeping) → TellsMoment slot changed old new → TellsSeens 1 old new
one_told slot changed old new (inl tells) = record {
  more = seen_note slot changed ∷ [];
  tells = tells.tells;
  seen = All-cons IsSeen (seen_note slot changed) [] tt (All-nil IsSeen);
  few = omega arith;
}
one_told slot changed old new (inr nothing) = record {
  more = [];
  tells = subst (TellsNotes [] old) (sym nothing.same) (none_told old);
  seen = All-nil IsSeen;
  few = omega arith;
}

pub moments_are_told : (rows : List Row) (from : ℕ) (listed : List Listed) (old new : Keeping) → TellMoments rows from listed old new → TellsSeens (length listed) old new
moments_are_told rows from [] old new same = record {
  more = [];
  tells = subst (TellsNotes [] old) (sym same) (none_told old);
  seen = All-nil IsSeen;
  few = omega arith;
}
moments_are_told rows from (one ∷ listed) old new tell =
    let first = one_told (record { 0 = from }) (moment_noted rows one) old tell.mid tell.first in
    let rest = moments_are_told rows (suc from) listed tell.mid new tell.rest in
    record {
      more = first.more ++ rest.more;
      tells = told_behind first.more rest.more old tell.mid new first.tells rest.tells;
      seen = All-append IsSeen first.more rest.more first.seen rest.seen;
      few = omega (arith, length-append first.more rest.more, first.few, rest.few);
    }
