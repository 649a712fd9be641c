-- One round of a lane: what was held is handed on, and then harvesters are turned, or it is refused once more.
use Rattle.std.specs.Bool.{OnFalse, OnTrue}
use Rattle.std.specs.Prelude.{Result, Ok, Err}
use Rattle.std.proofs.Common.{◌≡◌, ◌≢◌, ◌⊎◌, inl, inr, ℕ, Bool, true, false, List, [], ◌++◌, Option, length, refl, sym, ap, subst, ◌∙◌, append-nil, arith}
use Rattle.std.proofs.lemmas.List.{map-append}
use Rattle.harvester.specs.declared.harvester.Harvester.{Harvester}
use Rattle.mem_queue.specs.Entries.{parcels}
use Rattle.mem_queue.specs.declared.entry.Entry.{Entry}
use Rattle.outside.specs.Tails.{TailHistory}
use Rattle.wire_base.specs.declared.note.Note.{Note}
use Rattle.wire_base.specs.declared.parcel.Parcel.{Parcel}
use Rattle.lanes.specs.Giving.{notes_in, parcels_in}
use Rattle.lanes.specs.Handing.{HandsOn, WasRefused}
use Rattle.lanes.specs.Keeping.{LaneKeeps}
use Rattle.lanes.specs.Laning.{Laning}
use Rattle.lanes.specs.Passing.{EndsSo, TurnsAll}
use Rattle.lanes.specs.Running.{AreAllTurned, EndWith, LaneRuns}
use Rattle.lanes.specs.Step.{Step}
use Rattle.lanes.specs.Tallies.{begun_tally}
use Rattle.lanes.specs.declared.given.Given.{Given}
use Rattle.lanes.specs.declared.given.Given.TheVariants.{Nothing}
use Rattle.lanes.specs.declared.run.When.{When}
use Rattle.lanes.specs.declared.tally.Tally.{Tally}
use Rattle.lanes.proofs.Keeping.{keeps_handed, keeps_on}

module _ {T : Type 0} (numbers : T → Option (ℕ × ℕ)) (told : T → Option TailHistory) (faults : T → ℕ) (queue box : ℕ) (when : When) where
  pub runs_stuck : (old bare new : Laning T) (was : Given) → old.held ≡ was → bare ≡ record old { held = Nothing; tally = begun_tally false } → HandsOn was bare new
      → new.held ≡ was → was ≢ Nothing → WasRefused queue box new.held new.put new.post → LaneRuns numbers told faults queue box when old new
  unfolding keeps_handed
  runs_stuck old bare new was held is h still some refused = record {
    keeps = keeps_handed numbers told faults old bare new was held (is ∙ ap (λ (t : Tally). record old { held = Nothing; tally = t }) (sym (ap (λ (l : Laning T). l.tally) is))) h;
    at = tt;
    moved = false;
    begins = inl (record { held = λ none. some (sym held ∙ none); still = still ∙ sym held; none_turned = refl; not_moved = refl });
    tally = h.tally ∙ ap (λ (l : Laning T). l.tally) is;
    first = [];
    more = [];
    are = refl;
    once = λ i. omega arith;
    few = omega arith;
    reached = inr (refl, λ none. some (sym still ∙ none));
    refused = refused;
    last = inr (inl refl);
  }

  -- whether something was held
  tells : (some : Bool) (was : Given) → OnTrue some (was ≢ Nothing) → OnFalse some (was ≡ Nothing) → (some ≡ true) ⊎ ((some ≡ false) × (was ≡ Nothing))
  tells true was held_some held_none = inl refl
  tells false was held_some held_none = inr (refl, held_none)

  tells_some : (some : Bool) (was : Given) → OnTrue some (was ≢ Nothing) → some ≡ true → was ≢ Nothing
  tells_some true was held_some is = held_some
  tells_some false was held_some is = absurd (let q : false ≡ true = is in cc)

  ends_last : {A E : Type 0} (result : Result A E) (steps : List Step) (new : Laning T) → EndsSo queue box result steps new → (new.held ≡ Nothing) ⊎ ((steps ≡ []) ⊎ EndWith steps new.held)
  ends_last (Ok value) steps new e = inl e.none_held
  ends_last (Err error) steps new e = inr (inr e.last)

  reached_of : {P : Type 0} (first : List Step) (xs ys : List (Harvester T)) → ys ≡ xs → AreAllTurned first ys ⊎ P → AreAllTurned first xs ⊎ P
  reached_of {P} first xs ys same (inl all) = inl (subst (λ (l : List (Harvester T)). AreAllTurned first l) same all)
  reached_of {P} first xs ys same (inr other) = inr other

  pub runs_on : {A E : Type 0} (result : Result A E) (some : Bool) (old bare mid begun new : Laning T) (was : Given) → old.held ≡ was → bare ≡ record old { held = Nothing; tally = begun_tally false } → HandsOn was bare mid
      → mid.held ≡ Nothing → OnTrue some (was ≢ Nothing) → OnFalse some (was ≡ Nothing) → begun ≡ record mid { tally = begun_tally some } → TurnsAll numbers told faults queue box when result begun new → LaneRuns numbers told faults queue box when old new
  unfolding keeps_handed keeps_on
  runs_on result some old bare mid begun new was held is h through held_some held_none begins t =
      let bare_then : Laning T = record bare { tally = begun_tally some } in
      let then : Laning T = record mid { tally = begun_tally some } in
      let handed : HandsOn was bare_then then = record {
        entries = h.entries;
        posted = h.posted;
        parcels_are = h.parcels_are;
        notes_are = h.notes_are;
        in_range = h.in_range;
        put = h.put;
        post = h.post;
        harvesters = h.harvesters;
        spans = h.spans;
        tally = refl;
      } in
      let same : begun.harvesters ≡ old.harvesters = ap (λ (l : Laning T). l.harvesters) begins ∙ h.harvesters ∙ ap (λ (l : Laning T). l.harvesters) is in
      let begun_is : bare_then ≡ record old { held = Nothing; tally = begun_tally some } = ap (λ (l : Laning T). record l { tally = begun_tally some }) is in
      let first : LaneKeeps numbers told faults old then = keeps_handed numbers told faults old bare_then then was held begun_is handed in
      let turns = subst (λ (l : Laning T). TurnsAll numbers told faults queue box when result l new) begins t in
      record {
        keeps = keeps_on numbers told faults old then new first turns.turns.keeps;
        at = turns.turns.at;
        moved = some;
        begins = inr (record {
          parcels_then = parcels turns.turns.keeps.entries;
          notes_then = turns.turns.keeps.posted;
          put = map-append (λ (e : Entry). e.parcel) h.entries turns.turns.keeps.entries ∙ ap (λ (l : List Parcel). l ++ parcels turns.turns.keeps.entries) (sym (append-nil (parcels h.entries)) ∙ ap (λ (g : Given). parcels h.entries ++ parcels_in g) (sym through) ∙ sym h.parcels_are ∙ ap parcels_in (sym held));
          post = ap (λ (l : List Note). l ++ turns.turns.keeps.posted) (sym (append-nil h.posted) ∙ ap (λ (g : Given). h.posted ++ notes_in g) (sym through) ∙ sym h.notes_are ∙ ap notes_in (sym held));
          moved_is = subst (λ (g : Given). (some ≡ true) ⊎ ((some ≡ false) × (g ≡ Nothing))) (sym held) (tells some was held_some held_none);
          some = λ moved none. tells_some some was held_some moved (sym held ∙ none);
        });
        tally = turns.turns.tally;
        first = turns.first;
        more = turns.more;
        are = turns.are;
        once = turns.once;
        few = omega (arith, turns.few, ap (λ (l : List (Harvester T)). length l) (h.harvesters ∙ ap (λ (l : Laning T). l.harvesters) is));
        reached = reached_of turns.first old.harvesters then.harvesters (h.harvesters ∙ ap (λ (l : Laning T). l.harvesters) is) turns.reached;
        refused = turns.ends.refused;
        last = ends_last result turns.turns.keeps.steps new turns.ends;
      }
