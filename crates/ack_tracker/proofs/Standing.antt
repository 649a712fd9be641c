-- A file after one note more.
use Rattle.std.proofs.Common.{◌≡◌, ◌⊎◌, inl, inr, ℕ, ◌<◌, ◌≤◌, Bool, true, false, List, [], ◌∷◌, ◌++◌, All, max, Option, Some, None, if◌then◌else◌, ◌||◌, nat_lt, refl, sym, ap, ◌∙◌, subst, arith}
use Rattle.std.specs.List.{filter_map, fold, list_any}
use Rattle.std.specs.Option.{option_map, option_and_then}
use Rattle.std.proofs.Math.Bool.{or-false}
use Rattle.std.proofs.lemmas.Bool.{cases_lt, cases_order, eq-eqb, ne_eqb, lt-ltb, le-ltb, or_left}
use Rattle.std.proofs.lemmas.List.Elements.{All-nil}
use Rattle.wire_base.specs.Extent.{Extent}
use Rattle.wire_base.specs.declared.numbers.Slot.{Slot}
use Rattle.wire_base.specs.declared.numbers.Epoch.{Epoch}
use Rattle.wire_base.specs.declared.numbers.Moment.{Moment}
use Rattle.wire_base.specs.declared.row.Row.{Row}
use Rattle.wire_base.specs.declared.note.Cause.{Cause}
use Rattle.wire_base.specs.declared.note.Note.{Note}
use Rattle.wire_base.specs.declared.note.Note.TheVariants.{Begin, Announce, Settle, Rename, Seen, Forget}
use Rattle.ship_core.specs.CoveredEnd.{AreEqualOrApart, covered_end}
use Rattle.ship_core.specs.RowOver.{Naming, epoch_of, moment_of, naming_of, newer, span_in, forgets, start_over, base_in, spans_in, offset_over, is_gone as goes_over, row_of}
use Rattle.ack_tracker.specs.Covered.{Covered, Covers, AddsSpan}
use Rattle.ack_tracker.specs.FileState.{FileState, is_reached, is_gone, row_in, place_in, risen, is_older, renamed, lesser, forgotten, Settles, IsNamed, Stands}
use Rattle.ack_tracker.specs.declared.reach.Reach.{Reach}
use Rattle.ack_tracker.proofs.Leads.{Stays, GoesOn}
use Rattle.ack_tracker.proofs.Covering.{covers_end, covers_none}
use Rattle.ack_tracker.proofs.OneMore.{with_told, told_more, max_rises, start_stays, no_span_more, span_more, none_above, any_more}
use Rattle.ack_tracker.proofs.Reaches.{reached_on, lesser_reached}

abbrev pub nothing : Covered
nothing = record { end = 0; ahead = [] }

-- ---- by its parts

one_more : (notes : List Note) (note : Note) (old new : FileState) (stands : Stands notes old) → new.key ≡ old.key → new.epoch ≡ with_told max old.epoch (epoch_of note) → new.changed ≡ with_told max old.changed (moment_of note) →
    ((path : List ℕ) (newest : Option Naming) → IsNamed path newest old → IsNamed path (with_told newer newest (naming_of note)) new) →
    ((epoch offset : ℕ) → is_reached new.least epoch offset ≡ (is_reached old.least epoch offset || forgets epoch offset note)) →
    Covers (spans_in new.epoch (notes ++ note ∷ [])) (base_in stands.start new.epoch) new.covered → Stands (notes ++ note ∷ []) new
one_more notes note old new stands key epoch changed named goes covers = record {
  start = stands.start;
  begun = start_stays notes note stands.start stands.begun;
  key = key ∙ stands.key;
  no_earlier = let rises = max_rises old.epoch (epoch_of note) in omega (arith, rises, epoch, stands.no_earlier);
  epoch = told_more max epoch_of 0 notes note ∙ ap (λ (n : ℕ). with_told max n (epoch_of note)) stands.epoch ∙ sym epoch;
  moment = told_more max moment_of 0 notes note ∙ ap (λ (n : ℕ). with_told max n (moment_of note)) stands.moment ∙ sym changed;
  named = subst (λ (o : Option Naming). IsNamed stands.start.path o new) (sym (told_more newer naming_of None notes note)) (named stands.start.path (fold newer None (filter_map naming_of notes)) stands.named);
  goes = λ e o. any_more (forgets e o) notes note ∙ ap (λ (b : Bool). b || forgets e o note) (stands.goes e o) ∙ sym (goes e o);
  covers = covers;
}

module _ (notes : List Note) (note : Note) (old new : FileState) (stands : Stands notes old) where
  -- nothing more is covered in the same epoch
  covers_same : new.epoch ≡ old.epoch → new.covered ≡ old.covered → span_in new.epoch note ≡ None → Covers (spans_in new.epoch (notes ++ note ∷ [])) (base_in stands.start new.epoch) new.covered
  covers_same epoch covered none =
      subst (λ (l : List Extent). Covers l (base_in stands.start new.epoch) new.covered) (sym (no_span_more new.epoch notes note none))
      (subst (λ (e : ℕ). Covers (spans_in e notes) (base_in stands.start e) new.covered) (sym epoch)
      (subst (λ (c : Covered). Covers (spans_in old.epoch notes) (base_in stands.start old.epoch) c) (sym covered) stands.covers))

  covers_present : (span : Extent) → new.epoch ≡ old.epoch → AddsSpan old.covered span new.covered → All (AreEqualOrApart span) (spans_in old.epoch notes) → span_in new.epoch note ≡ Some span → Covers (spans_in new.epoch (notes ++ note ∷ [])) (base_in stands.start new.epoch) new.covered
  covers_present span epoch adds fits some =
      subst (λ (l : List Extent). Covers l (base_in stands.start new.epoch) new.covered) (sym (span_more new.epoch notes note span some))
      (subst (λ (e : ℕ). Covers (spans_in e notes ++ span ∷ []) (base_in stands.start e) new.covered) (sym epoch)
      (adds.covers (spans_in old.epoch notes) (base_in stands.start old.epoch) fits stands.covers))

  module _ (later : old.epoch < new.epoch) where
    none_yet : spans_in new.epoch notes ≡ []
    none_yet = none_above new.epoch 0 notes (subst (λ (n : ℕ). n < new.epoch) (sym stands.epoch) later)

    from_zero : base_in stands.start new.epoch ≡ 0
    from_zero = ap (λ (b : Bool). if b then stands.start.base else 0) (ne_eqb new.epoch stands.start.epoch (λ same. omega (arith, same, stands.no_earlier, later)))

    covers_later : new.covered ≡ nothing → span_in new.epoch note ≡ None → Covers (spans_in new.epoch (notes ++ note ∷ [])) (base_in stands.start new.epoch) new.covered
    covers_later covered none =
        subst (λ (l : List Extent). Covers l (base_in stands.start new.epoch) new.covered) (sym (no_span_more new.epoch notes note none ∙ none_yet))
        (subst (λ (b : ℕ). Covers [] b new.covered) (sym from_zero)
        (subst (λ (c : Covered). Covers [] 0 c) (sym covered) (covers_none 0)))

    covers_first : (span : Extent) → AddsSpan nothing span new.covered → span_in new.epoch note ≡ Some span → Covers (spans_in new.epoch (notes ++ note ∷ [])) (base_in stands.start new.epoch) new.covered
    covers_first span adds some =
        subst (λ (l : List Extent). Covers l (base_in stands.start new.epoch) new.covered) (sym (span_more new.epoch notes note span some ∙ ap (λ (l : List Extent). l ++ span ∷ []) none_yet))
        (subst (λ (b : ℕ). Covers (span ∷ []) b new.covered) (sym from_zero)
        (adds.covers [] 0 (All-nil (AreEqualOrApart span)) (covers_none 0)))

-- ---- an epoch that is named

pub risen_later : (epoch : ℕ) (file : FileState) → file.epoch < epoch → risen epoch file ≡ record file { epoch = epoch; covered = nothing }
risen_later epoch file lt = ap (λ (b : Bool). if b then record file { epoch = epoch; covered = nothing } else file) (lt-ltb file.epoch epoch lt)

pub risen_not : (epoch : ℕ) (file : FileState) → epoch ≤ file.epoch → risen epoch file ≡ file
risen_not epoch file le = ap (λ (b : Bool). if b then record file { epoch = epoch; covered = nothing } else file) (le-ltb file.epoch epoch le)

no_more : (a b : Bool) → b ≡ false → a ≡ (a || b)
no_more a b e = sym (ap (λ (c : Bool). a || c) e ∙ or-false a)

abbrev later : ℕ → FileState → FileState
later epoch file = record file { epoch = epoch; covered = nothing }

abbrev with_least : Reach → Option Reach → FileState → FileState
with_least reach least file = record file { least = Some (lesser least reach) }

pub stands_announce : (notes : List Note) (slot : Slot) (epoch : Epoch) (old : FileState) → Stands notes old → Stands (notes ++ Announce slot epoch ∷ []) (risen epoch.0 old)
stands_announce notes slot epoch old stands = by_case (cases_lt old.epoch epoch.0)
  where
    by_case : (old.epoch < epoch.0) ⊎ (epoch.0 ≤ old.epoch) → Stands (notes ++ Announce slot epoch ∷ []) (risen epoch.0 old)
    by_case (inl lt) = subst (Stands (notes ++ Announce slot epoch ∷ [])) (sym (risen_later epoch.0 old lt))
        (one_more notes (Announce slot epoch) old (later epoch.0 old) stands refl (omega (arith, lt)) refl (λ path newest named. record { path_is = named.path_is; scan_is = named.scan_is }) (λ e o. no_more (is_reached old.least e o) false refl) (covers_later notes (Announce slot epoch) old (later epoch.0 old) stands lt refl refl))
    by_case (inr le) = subst (Stands (notes ++ Announce slot epoch ∷ [])) (sym (risen_not epoch.0 old le))
        (one_more notes (Announce slot epoch) old old stands refl (omega (arith, le)) refl (λ path newest named. named) (λ e o. no_more (is_reached old.least e o) false refl) (covers_same notes (Announce slot epoch) old old stands refl refl refl))

pub stands_forget : (notes : List Note) (slot : Slot) (epoch : Epoch) (end : ℕ) (old : FileState) → Stands notes old → Stands (notes ++ Forget slot epoch end ∷ []) (forgotten (record { epoch = epoch.0; end = end }) old)
stands_forget notes slot epoch end old stands = by_case (cases_lt old.epoch epoch.0)
  where
    by_case : (old.epoch < epoch.0) ⊎ (epoch.0 ≤ old.epoch) → Stands (notes ++ Forget slot epoch end ∷ []) (forgotten (record { epoch = epoch.0; end = end }) old)
    by_case (inl lt) = subst (λ (f : FileState). Stands (notes ++ Forget slot epoch end ∷ []) (with_least (record { epoch = epoch.0; end = end }) old.least f)) (sym (risen_later epoch.0 old lt))
        (one_more notes (Forget slot epoch end) old (with_least (record { epoch = epoch.0; end = end }) old.least (later epoch.0 old)) stands refl (omega (arith, lt)) refl (λ path newest named. record { path_is = named.path_is; scan_is = named.scan_is }) (λ e o. lesser_reached old.least (record { epoch = epoch.0; end = end }) e o) (covers_later notes (Forget slot epoch end) old (with_least (record { epoch = epoch.0; end = end }) old.least (later epoch.0 old)) stands lt refl refl))
    by_case (inr le) = subst (λ (f : FileState). Stands (notes ++ Forget slot epoch end ∷ []) (with_least (record { epoch = epoch.0; end = end }) old.least f)) (sym (risen_not epoch.0 old le))
        (one_more notes (Forget slot epoch end) old (with_least (record { epoch = epoch.0; end = end }) old.least old) stands refl (omega (arith, le)) refl (λ path newest named. record { path_is = named.path_is; scan_is = named.scan_is }) (λ e o. lesser_reached old.least (record { epoch = epoch.0; end = end }) e o) (covers_same notes (Forget slot epoch end) old (with_least (record { epoch = epoch.0; end = end }) old.least old) stands refl refl refl))

-- ---- a path, and a moment

abbrev naming : ℕ → List ℕ → Naming
naming scan path = record { scan = scan; path = path }

abbrev after : ℕ → List ℕ → FileState → FileState
after scan path file = record file { path = path; scan = Some scan }

pub stands_rename : (notes : List Note) (slot : Slot) (scan : ℕ) (path : List ℕ) (old : FileState) → Stands notes old → Stands (notes ++ Rename slot scan path ∷ []) (renamed scan path old)
stands_rename notes slot scan path old stands = by_case (is_older old.scan scan) refl
  where
    newer_holds : (begun : List ℕ) (newest : Option Naming) → IsNamed begun newest old → is_older old.scan scan ≡ true → IsNamed begun (newer newest (naming scan path)) (after scan path old)
    newer_holds begun None named e = record { path_is = refl; scan_is = refl }
    newer_holds begun (Some other) named e =
        let less : nat_lt other.scan scan ≡ true = sym (ap (λ (o : Option ℕ). is_older o scan) named.scan_is) ∙ e in
        subst (λ (b : Bool). IsNamed begun (if b then Some (naming scan path) else Some other) (after scan path old)) (sym less) (record { path_is = refl; scan_is = refl })

    older_holds : (begun : List ℕ) (newest : Option Naming) → IsNamed begun newest old → is_older old.scan scan ≡ false → IsNamed begun (newer newest (naming scan path)) old
    older_holds begun None named e = absurd (let q : true ≡ false = sym (ap (λ (o : Option ℕ). is_older o scan) named.scan_is) ∙ e in cc)
    older_holds begun (Some other) named e =
        let less : nat_lt other.scan scan ≡ false = sym (ap (λ (o : Option ℕ). is_older o scan) named.scan_is) ∙ e in
        subst (λ (b : Bool). IsNamed begun (if b then Some (naming scan path) else Some other) old) (sym less) named

    by_case : (b : Bool) → is_older old.scan scan ≡ b → Stands (notes ++ Rename slot scan path ∷ []) (if b then (after scan path old) else old)
    by_case true e = one_more notes (Rename slot scan path) old (after scan path old) stands refl refl refl (λ begun newest named. newer_holds begun newest named e) (λ f o. no_more (is_reached old.least f o) false refl) (covers_same notes (Rename slot scan path) old (after scan path old) stands refl refl refl)
    by_case false e = one_more notes (Rename slot scan path) old old stands refl refl refl (λ begun newest named. older_holds begun newest named e) (λ f o. no_more (is_reached old.least f o) false refl) (covers_same notes (Rename slot scan path) old old stands refl refl refl)

pub stands_seen : (notes : List Note) (slot : Slot) (changed : Moment) (old : FileState) → Stands notes old → Stands (notes ++ Seen slot changed ∷ []) (record old { changed = max old.changed changed.0 })
stands_seen notes slot changed old stands =
    let after : FileState = record old { changed = max old.changed changed.0 } in
    one_more notes (Seen slot changed) old after stands refl refl refl (λ path newest named. record { path_is = named.path_is; scan_is = named.scan_is }) (λ e o. no_more (is_reached old.least e o) false refl) (covers_same notes (Seen slot changed) old after stands refl refl refl)

-- ---- a span

pub stands_settle : (notes : List Note) (slot : Slot) (epoch : Epoch) (span : Extent) (cause : Cause) (old new : FileState) → All (AreEqualOrApart span) (spans_in epoch.0 notes) → Settles old epoch.0 span new → Stands notes old → Stands (notes ++ Settle slot epoch span cause ∷ []) new
stands_settle notes slot epoch span cause old new fits settles stands =
    one_more notes (Settle slot epoch span cause) old new stands (ap (λ (f : FileState). f.key) settles.others) epoch_is (ap (λ (f : FileState). f.changed) settles.others)
    (λ path newest named. record { path_is = ap (λ (f : FileState). f.path) settles.others ∙ named.path_is; scan_is = ap (λ (f : FileState). f.scan) settles.others ∙ named.scan_is })
    (λ e o. ap (λ (f : FileState). is_reached f.least e o) settles.others ∙ no_more (is_reached old.least e o) false refl)
    (by_order (cases_order epoch.0 old.epoch))
  where
    epoch_is : new.epoch ≡ max old.epoch epoch.0
    epoch_is = ap (λ (f : FileState). f.epoch) settles.others

    here : new.epoch ≡ epoch.0 → span_in new.epoch (Settle slot epoch span cause) ≡ Some span
    here same = ap (λ (b : Bool). if b then Some span else None) (eq-eqb epoch.0 new.epoch (sym same))

    by_order : (epoch.0 ≡ old.epoch) ⊎ ((epoch.0 < old.epoch) ⊎ (old.epoch < epoch.0)) → Covers (spans_in new.epoch (notes ++ (Settle slot epoch span cause) ∷ [])) (base_in stands.start new.epoch) new.covered
    by_order (inl same) = covers_present notes (Settle slot epoch span cause) old new stands span (omega (arith, epoch_is, same)) (settles.present same) (subst (λ (n : ℕ). All (AreEqualOrApart span) (spans_in n notes)) same fits) (here (omega (arith, epoch_is, same)))
    by_order (inr (inl lt)) = covers_same notes (Settle slot epoch span cause) old new stands (omega (arith, epoch_is, lt)) (settles.older lt) (ap (λ (b : Bool). if b then Some span else None) (ne_eqb epoch.0 new.epoch (λ same. omega (arith, same, epoch_is, lt))))
    by_order (inr (inr gt)) = covers_first notes (Settle slot epoch span cause) old new stands (omega (arith, epoch_is, gt)) span (settles.later gt) (here (omega (arith, epoch_is, gt)))

-- ---- the first note

pub stands_begin : (slot : Slot) (key path : List ℕ) (epoch : Epoch) (base : ℕ) (changed : Moment) → Stands (Begin slot key path epoch base changed ∷ []) (record { key = key; path = path; scan = None; epoch = epoch.0; covered = record { end = base; ahead = [] }; least = None; changed = changed.0 })
stands_begin slot key path epoch base changed = record {
  start = record { key = key; path = path; epoch = epoch.0; base = base };
  begun = refl;
  key = refl;
  no_earlier = omega arith;
  epoch = omega arith;
  moment = omega arith;
  named = record { path_is = refl; scan_is = refl };
  goes = λ e o. refl;
  covers = subst (λ (b : Bool). Covers [] (if b then base else 0) (record { end = base; ahead = [] })) (sym (eq-eqb epoch.0 epoch.0 refl)) (covers_none base);
}

-- ---- what went stays gone

further : (old new : FileState) → new.least ≡ old.least → (old.epoch < new.epoch) ⊎ ((old.epoch ≡ new.epoch) × (old.covered.end ≤ new.covered.end)) → is_gone old ≡ true → is_gone new ≡ true
further old new least on gone = ap (λ (l : Option Reach). is_reached l new.epoch new.covered.end) least ∙ reached_on old.least old.epoch old.covered.end new.epoch new.covered.end on gone

pub gone_risen : (epoch : ℕ) (old : FileState) → is_gone old ≡ true → is_gone (risen epoch old) ≡ true
gone_risen epoch old gone = by_case (cases_lt old.epoch epoch)
  where
    by_case : (old.epoch < epoch) ⊎ (epoch ≤ old.epoch) → is_gone (risen epoch old) ≡ true
    by_case (inl lt) = ap is_gone (risen_later epoch old lt) ∙ further old (record old { epoch = epoch; covered = nothing }) refl (inl lt) gone
    by_case (inr le) = ap is_gone (risen_not epoch old le) ∙ gone

risen_least : (epoch : ℕ) (old : FileState) → (risen epoch old).least ≡ old.least
risen_least epoch old = by_case (nat_lt old.epoch epoch)
  where
    by_case : (b : Bool) → (if b then record old { epoch = epoch; covered = nothing } else old).least ≡ old.least
    by_case true = refl
    by_case false = refl

pub gone_forgotten : (reach : Reach) (old : FileState) → is_gone old ≡ true → is_gone (forgotten reach old) ≡ true
gone_forgotten reach old gone =
    let file = risen reach.epoch old in
    let still : is_reached old.least file.epoch file.covered.end ≡ true = ap (λ (l : Option Reach). is_reached l file.epoch file.covered.end) (sym (risen_least reach.epoch old)) ∙ gone_risen reach.epoch old gone in
    lesser_reached old.least reach file.epoch file.covered.end ∙ or_left (is_reached old.least file.epoch file.covered.end) (is_reached (Some reach) file.epoch file.covered.end) still

pub gone_renamed : (scan : ℕ) (path : List ℕ) (old : FileState) → is_gone (renamed scan path old) ≡ is_gone old
gone_renamed scan path old = by_case (is_older old.scan scan)
  where
    by_case : (b : Bool) → is_gone (if b then record old { path = path; scan = Some scan } else old) ≡ is_gone old
    by_case true = refl
    by_case false = refl

pub gone_settled : (old : FileState) (epoch : ℕ) (span : Extent) (new : FileState) → Settles old epoch span new → is_gone old ≡ true → is_gone new ≡ true
gone_settled old epoch span new settles = further old new (ap (λ (f : FileState). f.least) settles.others) (by_order (cases_order epoch old.epoch))
  where
    epoch_is : new.epoch ≡ max old.epoch epoch
    epoch_is = ap (λ (f : FileState). f.epoch) settles.others

    by_order : (epoch ≡ old.epoch) ⊎ ((epoch < old.epoch) ⊎ (old.epoch < epoch)) → (old.epoch < new.epoch) ⊎ ((old.epoch ≡ new.epoch) × (old.covered.end ≤ new.covered.end))
    by_order (inl same) = let no_nearer = (settles.present same).no_nearer in inr (omega (arith, epoch_is, same), no_nearer)
    by_order (inr (inl lt)) = let end_is : new.covered.end ≡ old.covered.end = ap (λ (c : Covered). c.end) (settles.older lt) in inr (omega (arith, epoch_is, lt), omega (arith, end_is))
    by_order (inr (inr gt)) = inl (omega (arith, epoch_is, gt))

-- the key stays
pub key_risen : (epoch : ℕ) (old : FileState) → (risen epoch old).key ≡ old.key
key_risen epoch old = by_case (nat_lt old.epoch epoch)
  where
    by_case : (b : Bool) → (if b then record old { epoch = epoch; covered = nothing } else old).key ≡ old.key
    by_case true = refl
    by_case false = refl

pub key_renamed : (scan : ℕ) (path : List ℕ) (old : FileState) → (renamed scan path old).key ≡ old.key
key_renamed scan path old = by_case (is_older old.scan scan)
  where
    by_case : (b : Bool) → (if b then record old { path = path; scan = Some scan } else old).key ≡ old.key
    by_case true = refl
    by_case false = refl

-- ---- the row

module _ (stays : Stays) (goes : GoesOn) (notes : List Note) (file : FileState) (stands : Stands notes file) where
  offset_is : offset_over stands.start notes ≡ file.covered.end
  offset_is = ap (λ (e : ℕ). covered_end (spans_in e notes) (base_in stands.start e)) stands.epoch ∙ covers_end stays goes (spans_in file.epoch notes) (base_in stands.start file.epoch) file.covered stands.covers

  gone_is : goes_over stands.start notes ≡ is_gone file
  gone_is = (λ k. list_any (forgets (stands.epoch k) (offset_is k)) notes) ∙ stands.goes file.epoch file.covered.end

  row_is : row_of notes stands.start ≡ row_in file
  row_is = λ k. if gone_is k then None else Some (record {
    key = sym stands.key k;
    path = sym stands.named.path_is k;
    epoch = record { 0 = stands.epoch k };
    offset = offset_is k;
    changed = record { 0 = stands.moment k };
  })

  pub stands_row : option_and_then (row_of notes) (start_over notes) ≡ row_in file
  stands_row = ap (option_and_then (row_of notes)) stands.begun ∙ row_is

-- a place is that of the row
pub place_is : (file : FileState) → option_map (λ (row : Row). let p : Epoch × ℕ = (row.epoch, row.offset) in p) (row_in file) ≡ place_in file
place_is file = by_case (is_gone file)
  where
    by_case : (b : Bool) → option_map (λ (row : Row). let p : Epoch × ℕ = (row.epoch, row.offset) in p) (if b then None else Some (record { key = file.key; path = file.path; epoch = record { 0 = file.epoch }; offset = file.covered.end; changed = record { 0 = file.changed } })) ≡ (if b then None else Some (record { 0 = file.epoch }, file.covered.end))
    by_case true = refl
    by_case false = refl
