-- What is collected, step by step.
use Rattle.std.proofs.Common.{◌≡◌, ℕ, All, Contains, List, [], ◌∷◌, ◌++◌, append-nil, Option, Some, None, Result, Ok, Err, refl, sym, ap, ◌∙◌, subst, arith}
use Rattle.std.proofs.lemmas.List.Elements.{All-cons, All-contains_itself, All-nil}
use Rattle.std.specs.List.{count_by}
use Rattle.std.specs.Result.{OnErr, OnOk}
use Rattle.ack_tracker.specs.Tracked.{Tracked}
use Rattle.outside.specs.Counts.{added_counts}
use Rattle.wire_base.specs.Ranges.{IsNote}
use Rattle.wire_base.specs.declared.note.Note.{Note}
use Rattle.settle_box.specs.Collector.{collector}
use Rattle.settle_box.specs.Notes.{IsPostable}
use Rattle.settle_box.specs.Senders.{sent}
use Rattle.keeper.specs.Collecting.{Collects, Gathers, is_dropped, is_shipped}
use Rattle.keeper.specs.Keeping.{Keeping, held_in}
use Rattle.keeper.proofs.InARow.{collects_more, collects_none}

pub gathers_none : (k : Keeping) → Gathers k k
gathers_none k = record {
  collects = collects_none k;
  committed = refl;
  store = refl;
}

pub gathers_more : (a b c : Keeping) → Gathers a b → Gathers b c → Gathers a c
gathers_more a b c first second = record {
  collects = collects_more a b c first.collects second.collects;
  committed = second.committed ∙ first.committed;
  store = second.store ∙ first.store;
}

-- ---- a held note

pub gathers_none_held : (old : Keeping) (held : Option Note) → old.held ≡ None → held ≡ None → Gathers old (record old { held = held })
gathers_none_held old held none still = subst (λ (h : Option Note). Gathers old (record old { held = h })) (none ∙ sym still) (gathers_none old)

pub gathers_held : {E : Type 0} (r : Result Unit E) (old new : Keeping) (held : Option Note) (note : Note) → old.held ≡ Some note → held ≡ None
    → OnOk r (new.tracked.notes ≡ old.tracked.notes ++ note ∷ []) → new.tracked.opening ≡ old.tracked.opening → new.tracked.committed ≡ old.tracked.committed → All (Contains new.tracked.gone) old.tracked.gone
    → OnOk r (new ≡ record old { held = held; tracked = new.tracked }) → OnErr r (new ≡ record old { held = Some note }) → Gathers old new
gathers_held (Ok done) old new held note was none noted opening committed gone others held_again = record {
  collects = record {
    sent = [];
    more = note ∷ [];
    pass = ap (λ (k : Keeping). k.pass) others ∙ ap (collector old.pass.desk) (sym (append-nil old.pass.got));
    noted = noted;
    notes_are = append-nil (held_in old.held) ∙ ap held_in was ∙ ap (λ (h : Option Note). note ∷ held_in h) (sym none ∙ sym (ap (λ (k : Keeping). k.held) others));
    kinds = All-nil IsPostable;
    ranges = All-nil IsNote;
    opening = opening;
    gone = gone;
    shipped = let e = ap (λ (k : Keeping). k.shipped) others in omega (arith, e);
    dropped = let e = ap (λ (k : Keeping). k.dropped) others in omega (arith, e);
    collected = let e = ap (λ (k : Keeping). k.collected) others in omega (arith, e);
  };
  committed = committed;
  store = ap (λ (k : Keeping). k.store) others;
}
gathers_held (Err why) old new held note was none noted opening committed gone others held_again =
    subst (Gathers old) (ap (λ (h : Option Note). record old { held = h }) was ∙ sym held_again) (gathers_none old)

-- ---- a note that is collected

-- the keeper once it has collected a note, and before it is noted
abbrev pub with_one : Keeping → List ℕ → Note → Keeping
with_one k from note = record k {
  pass = collector k.pass.desk (k.pass.got ++ sent from note ∷ []);
  shipped = added_counts k.shipped (count_by is_shipped (note ∷ []));
  dropped = added_counts k.dropped (count_by is_dropped (note ∷ []));
  collected = added_counts k.collected 1;
}

module _ (old mid new : Keeping) (from : List ℕ) (note : Note) (none : old.held ≡ None) (kind : IsPostable note) (range : IsNote note) (is : mid ≡ with_one old from note) where
  pub gathers_noted : new.tracked.notes ≡ mid.tracked.notes ++ note ∷ [] → new.tracked.opening ≡ mid.tracked.opening → new.tracked.committed ≡ mid.tracked.committed → All (Contains new.tracked.gone) mid.tracked.gone
      → new ≡ record mid { tracked = new.tracked } → Gathers old new
  gathers_noted noted opening committed gone others = record {
    collects = record {
      sent = sent from note ∷ [];
      more = note ∷ [];
      pass = ap (λ (k : Keeping). k.pass) others ∙ ap (λ (k : Keeping). k.pass) is;
      noted = noted ∙ ap (λ (k : Keeping). k.tracked.notes ++ note ∷ []) is;
      notes_are = ap (λ (h : Option Note). held_in h ++ note ∷ []) none ∙ ap (λ (h : Option Note). note ∷ held_in h) (sym none ∙ sym (ap (λ (k : Keeping). k.held) others ∙ ap (λ (k : Keeping). k.held) is));
      kinds = All-cons IsPostable note [] kind (All-nil IsPostable);
      ranges = All-cons IsNote note [] range (All-nil IsNote);
      opening = opening ∙ ap (λ (k : Keeping). k.tracked.opening) is;
      gone = subst (λ (k : Keeping). All (Contains new.tracked.gone) k.tracked.gone) is gone;
      shipped = ap (λ (k : Keeping). k.shipped) others ∙ ap (λ (k : Keeping). k.shipped) is;
      dropped = ap (λ (k : Keeping). k.dropped) others ∙ ap (λ (k : Keeping). k.dropped) is;
      collected = ap (λ (k : Keeping). k.collected) others ∙ ap (λ (k : Keeping). k.collected) is;
    };
    committed = committed ∙ ap (λ (k : Keeping). k.tracked.committed) is;
    store = ap (λ (k : Keeping). k.store) others ∙ ap (λ (k : Keeping). k.store) is;
  }

  pub gathers_refused : new ≡ record mid { held = Some note } → Gathers old new
  gathers_refused held = subst (Gathers old) (ap (λ (k : Keeping). record k { held = Some note }) (sym is) ∙ sym held) (record {
    collects = record {
      sent = sent from note ∷ [];
      more = [];
      pass = refl;
      noted = sym (append-nil old.tracked.notes);
      notes_are = ap (λ (h : Option Note). held_in h ++ note ∷ []) none;
      kinds = All-cons IsPostable note [] kind (All-nil IsPostable);
      ranges = All-cons IsNote note [] range (All-nil IsNote);
      opening = refl;
      gone = All-contains_itself old.tracked.gone;
      shipped = refl;
      dropped = refl;
      collected = refl;
    };
    committed = refl;
    store = refl;
  })

-- ---- and committed

pub collects_then : (old mid new : Keeping) (committed : List Note) → Collects old mid → new ≡ record mid { tracked = new.tracked; store = new.store } → new.tracked ≡ record mid.tracked { committed = committed } → Collects old new
collects_then old mid new committed collects others tracked = subst (Collects old) (sym (others ∙ ap (λ (t : Tracked). record mid { tracked = t; store = new.store }) tracked)) (record {
  sent = collects.sent;
  more = collects.more;
  pass = collects.pass;
  noted = collects.noted;
  notes_are = collects.notes_are;
  kinds = collects.kinds;
  ranges = collects.ranges;
  opening = collects.opening;
  gone = collects.gone;
  shipped = collects.shipped;
  dropped = collects.dropped;
  collected = collects.collected;
})
