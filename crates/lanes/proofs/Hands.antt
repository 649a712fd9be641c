-- What was given is put, posted or held.
use Rattle.std.specs.Bool.{OnFalse, OnTrue}
use Rattle.std.proofs.Common.{Bool, true, false, ◌≡◌, [], ◌∷◌, ◌++◌, refl, sym, ap, subst, ◌∙◌}
use Rattle.batch_worker.specs.Keeping.{with_posted}
use Rattle.mem_queue.specs.declared.entry.Entry.{Entry}
use Rattle.settle_box.specs.Notes.{IsPostable}
use Rattle.wire_base.specs.Ranges.{IsNote, IsParcel}
use Rattle.wire_base.specs.declared.note.Note.{Note}
use Rattle.wire_base.specs.declared.parcel.Parcel.{Parcel}
use Rattle.lanes.specs.Giving.{IsInRange, notes_in, parcels_in}
use Rattle.lanes.specs.Handing.{HandsOn, with_put}
use Rattle.lanes.specs.Laning.{Laning}
use Rattle.lanes.specs.declared.given.Given.{Given}
use Rattle.lanes.specs.declared.given.Given.TheVariants as what
use Rattle.lanes.proofs.Keeping.{none_posted, none_taken}

module _ {T : Type 0} where
  pub hands_parcel : (b : Bool) (parcel : Parcel) (old new : Laning T) → old.held ≡ what.Nothing → IsParcel parcel
      → OnTrue b ((entry : Entry) × (entry.parcel ≡ parcel) × (new ≡ record old { put = with_put old.put (entry ∷ []) }))
      → OnFalse b (new ≡ record old { held = what.Parcel parcel }) → HandsOn (what.Parcel parcel) old new
  hands_parcel true parcel old new none range put held =
      let still : new.held ≡ what.Nothing = ap (λ (l : Laning T). l.held) put.2 ∙ none in
      record {
        entries = put.0 ∷ [];
        posted = [];
        parcels_are = ap (λ (p : Parcel). p ∷ []) (sym put.1) ∙ ap (λ (g : Given). (put.0.parcel ∷ []) ++ parcels_in g) (sym still);
        notes_are = ap notes_in (sym still);
        in_range = subst IsInRange (sym still) tt;
        put = ap (λ (l : Laning T). l.put) put.2;
        post = ap (λ (l : Laning T). l.post) put.2 ∙ none_posted old.post;
        harvesters = ap (λ (l : Laning T). l.harvesters) put.2;
        spans = ap (λ (l : Laning T). l.spans) put.2;
        tally = ap (λ (l : Laning T). l.tally) put.2;
      }
  hands_parcel false parcel old new none range put held =
      let is : new.held ≡ what.Parcel parcel = ap (λ (l : Laning T). l.held) held in
      record {
        entries = [];
        posted = [];
        parcels_are = ap parcels_in (sym is);
        notes_are = ap notes_in (sym is);
        in_range = subst IsInRange (sym is) range;
        put = ap (λ (l : Laning T). l.put) held ∙ none_taken old.put;
        post = ap (λ (l : Laning T). l.post) held ∙ none_posted old.post;
        harvesters = ap (λ (l : Laning T). l.harvesters) held;
        spans = ap (λ (l : Laning T). l.spans) held;
        tally = ap (λ (l : Laning T). l.tally) held;
      }

  pub hands_note : (b : Bool) (note : Note) (old new : Laning T) → old.held ≡ what.Nothing → IsPostable note × IsNote note
      → OnTrue b (new ≡ record old { post = with_posted old.post (note ∷ []) }) → OnFalse b (new ≡ record old { held = what.Note note }) → HandsOn (what.Note note) old new
  hands_note true note old new none range posted held =
      let still : new.held ≡ what.Nothing = ap (λ (l : Laning T). l.held) posted ∙ none in
      record {
        entries = [];
        posted = note ∷ [];
        parcels_are = ap parcels_in (sym still);
        notes_are = ap (λ (g : Given). (note ∷ []) ++ notes_in g) (sym still);
        in_range = subst IsInRange (sym still) tt;
        put = ap (λ (l : Laning T). l.put) posted ∙ none_taken old.put;
        post = ap (λ (l : Laning T). l.post) posted;
        harvesters = ap (λ (l : Laning T). l.harvesters) posted;
        spans = ap (λ (l : Laning T). l.spans) posted;
        tally = ap (λ (l : Laning T). l.tally) posted;
      }
  hands_note false note old new none range posted held =
      let is : new.held ≡ what.Note note = ap (λ (l : Laning T). l.held) held in
      record {
        entries = [];
        posted = [];
        parcels_are = ap parcels_in (sym is);
        notes_are = ap notes_in (sym is);
        in_range = subst IsInRange (sym is) range;
        put = ap (λ (l : Laning T). l.put) held ∙ none_taken old.put;
        post = ap (λ (l : Laning T). l.post) held ∙ none_posted old.post;
        harvesters = ap (λ (l : Laning T). l.harvesters) held;
        spans = ap (λ (l : Laning T). l.spans) held;
        tally = ap (λ (l : Laning T). l.tally) held;
      }

  pub hands_nothing : (lane : Laning T) → lane.held ≡ what.Nothing → HandsOn what.Nothing lane lane
  hands_nothing lane none = record {
    entries = [];
    posted = [];
    parcels_are = ap parcels_in (sym none);
    notes_are = ap notes_in (sym none);
    in_range = subst IsInRange (sym none) tt;
    put = none_taken lane.put;
    post = none_posted lane.post;
    harvesters = refl;
    spans = refl;
    tally = refl;
  }
