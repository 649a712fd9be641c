-- What the calls of a lane keep, one after another.
use Rattle.std.proofs.Common.{◌≡◌, inl, inr, ℕ, ◌+◌, List, [], ◌∷◌, ◌++◌, All, Option, Some, None, length, refl, sym, ap, subst, ◌∙◌, append_assoc, append-nil, arith}
use Rattle.std.specs.Prelude.{slice_get}
use Rattle.std.proofs.lemmas.List.{length-set}
use Rattle.std.proofs.lemmas.List.{map-append}
use Rattle.std.proofs.lemmas.List.Elements.{All-get_or, All-set}
use Rattle.std.proofs.lemmas.Option.{get_or_from_slice_get, slice_get_within}
use Rattle.atomic_table.specs.Seated.{TableId}
use Rattle.batch_worker.specs.Keeping.{with_posted}
use Rattle.batch_worker.specs.Steps.{PostsOf}
use Rattle.harvester.specs.declared.harvester.Harvester.{Harvester}
use Rattle.harvester.specs.declared.turn.Turn.{Turn}
use Rattle.harvester.specs.declared.turn.Turn.TheVariants as turn
use Rattle.mem_queue.specs.Entries.{parcels}
use Rattle.mem_queue.specs.Known.{Known, known}
use Rattle.mem_queue.specs.declared.entry.Entry.{Entry}
use Rattle.outside.specs.Counts.{added_counts}
use Rattle.outside.specs.Tails.{TailHistory}
use Rattle.settle_box.specs.Poster.{Poster, poster}
use Rattle.settle_box.specs.Senders.{sender}
use Rattle.wire_base.specs.declared.note.Note.{Note}
use Rattle.wire_base.specs.declared.parcel.Parcel.{Parcel}
use Rattle.lanes.specs.Giving.{Gives, IsInRange, notes_in, parcels_in, spans_of}
use Rattle.lanes.specs.Handing.{HandsOn, PutsOf, with_put}
use Rattle.lanes.specs.Keeping.{LaneKeeps}
use Rattle.lanes.specs.Laning.{Laning}
use Rattle.lanes.specs.Step.{Step, issued_in, noted_in, spans_in, tallied}
use Rattle.lanes.specs.Steps.{Run, IsMade, TurnsAt}
use Rattle.lanes.specs.Tallies.{tally_with}
use Rattle.lanes.specs.Turned.{HasTurned, IsKnown}
use Rattle.lanes.specs.declared.given.Given.{Given}
use Rattle.lanes.specs.declared.given.Given.TheVariants as what
use Rattle.lanes.specs.declared.run.When.{When}
use Rattle.lanes.specs.declared.tally.Tally.{Tally}

-- ---- lists

pub balanced : {A : Type 0} (x p q a b y z : List A) → x ++ p ≡ a ++ y → y ++ q ≡ b ++ z → x ++ (p ++ q) ≡ (a ++ b) ++ z
balanced x p q a b y z first then =
    sym (append_assoc x p q) ∙ ap (λ l. l ++ q) first ∙ append_assoc a y q ∙ ap (λ l. a ++ l) then ∙ sym (append_assoc a b z)

pub none_taken : (take : Option Known) → take ≡ with_put take []
none_taken None = refl
none_taken (Some k) = ap (λ (entries : List Entry). Some (known k.queue k.share entries)) (sym (append-nil k.entries))

pub none_posted : (post : Option Poster) → post ≡ with_posted post []
none_posted None = refl
none_posted (Some p) = ap (λ (notes : List Note). Some (poster p.desk p.share (sender p.mine.name p.mine.made notes) p.joined)) (sym (append-nil p.mine.posted))

pub taken_on : (take : Option Known) (first then : List Entry) → with_put (with_put take first) then ≡ with_put take (first ++ then)
taken_on None first then = refl
taken_on (Some k) first then = ap (λ (entries : List Entry). Some (known k.queue k.share entries)) (append_assoc k.entries first then)

pub posted_on : (post : Option Poster) (first then : List Note) → with_posted (with_posted post first) then ≡ with_posted post (first ++ then)
posted_on None first then = refl
posted_on (Some p) first then = ap (λ (notes : List Note). Some (poster p.desk p.share (sender p.mine.name p.mine.made notes) p.joined)) (append_assoc p.mine.posted first then)

pub issued_on : (first then : List Step) → issued_in (first ++ then) ≡ issued_in first ++ issued_in then
issued_on [] then = refl
issued_on (s ∷ ss) then = ap (λ (l : List Parcel). parcels_in s.given ++ l) (issued_on ss then) ∙ sym (append_assoc (parcels_in s.given) (issued_in ss) (issued_in then))

pub noted_on : (first then : List Step) → noted_in (first ++ then) ≡ noted_in first ++ noted_in then
noted_on [] then = refl
noted_on (s ∷ ss) then = ap (λ (l : List Note). notes_in s.given ++ l) (noted_on ss then) ∙ sym (append_assoc (notes_in s.given) (noted_in ss) (noted_in then))

pub spans_on : (first then : List Step) → spans_in (first ++ then) ≡ spans_in first + spans_in then
spans_on [] then = omega arith
spans_on (s ∷ ss) then = omega (arith, spans_on ss then)

pub added_on : (count m n : ℕ) → added_counts (added_counts count m) n ≡ added_counts count (m + n)
added_on count m n = omega arith

pub none_added : (count : ℕ) → count ≡ added_counts count 0
none_added count = omega arith

pub tallied_on : (tally : Tally) (first then : List Step) → tallied tally (first ++ then) ≡ tallied (tallied tally first) then
tallied_on tally [] then = refl
tallied_on tally (s ∷ ss) then = tallied_on (tally_with s.slot s.turn tally) ss then

-- ---- passes stay where they are

pub puts_stay : (q : TableId) (put new : Option Known) (entries : List Entry) → new ≡ with_put put entries → PutsOf q put → PutsOf q new
puts_stay q None new entries is of = absurd of
puts_stay q (Some k) new entries is of = subst (PutsOf q) (sym is) of

pub posts_stay : (b : TableId) (post new : Option Poster) (notes : List Note) → new ≡ with_posted post notes → PostsOf b post → PostsOf b new
posts_stay b None new notes is of = absurd of
posts_stay b (Some p) new notes is of = subst (PostsOf b) (sym is) of

module _ {T : Type 0} (numbers : T → Option (ℕ × ℕ)) (told : T → Option TailHistory) (faults : T → ℕ) where
  pub run_on : (first then : List Step) (a b c : List (Harvester T)) → Run numbers told faults first a b → Run numbers told faults then b c → Run numbers told faults (first ++ then) a c
  run_on [] then a b c is run = subst (λ (l : List (Harvester T)). Run numbers told faults then l c) is run
  run_on (s ∷ ss) then a b c first run = (first.0, first.1, run_on ss then first.0 b c first.2 run)

  -- ---- nothing happens, and one thing after the other

  unfoldable pub keeps_same : (lane : Laning T) → LaneKeeps numbers told faults lane lane
  keeps_same lane = record {
    steps = [];
    entries = [];
    posted = [];
    put = none_taken lane.put;
    post = none_posted lane.post;
    parcels_are = append-nil (parcels_in lane.held);
    notes_are = append-nil (notes_in lane.held);
    ran = refl;
    spans = none_added lane.spans;
    in_range = λ r. r;
    known = λ all. all;
  }

  unfoldable pub keeps_on : (x y z : Laning T) → LaneKeeps numbers told faults x y → LaneKeeps numbers told faults y z → LaneKeeps numbers told faults x z
  keeps_on x y z first then = record {
    steps = first.steps ++ then.steps;
    entries = first.entries ++ then.entries;
    posted = first.posted ++ then.posted;
    put = then.put ∙ ap (λ (k : Option Known). with_put k then.entries) first.put ∙ taken_on x.put first.entries then.entries;
    post = then.post ∙ ap (λ (k : Option Poster). with_posted k then.posted) first.post ∙ posted_on x.post first.posted then.posted;
    parcels_are = ap (λ (l : List Parcel). parcels_in x.held ++ l) (issued_on first.steps then.steps)
        ∙ balanced (parcels_in x.held) (issued_in first.steps) (issued_in then.steps) (parcels first.entries) (parcels then.entries) (parcels_in y.held) (parcels_in z.held) first.parcels_are then.parcels_are
        ∙ ap (λ (l : List Parcel). l ++ parcels_in z.held) (sym (map-append (λ (e : Entry). e.parcel) first.entries then.entries));
    notes_are = ap (λ (l : List Note). notes_in x.held ++ l) (noted_on first.steps then.steps)
        ∙ balanced (notes_in x.held) (noted_in first.steps) (noted_in then.steps) first.posted then.posted (notes_in y.held) (notes_in z.held) first.notes_are then.notes_are;
    ran = run_on first.steps then.steps x.harvesters y.harvesters z.harvesters first.ran then.ran;
    spans = then.spans ∙ ap (λ (n : ℕ). added_counts n (spans_in then.steps)) first.spans ∙ added_on x.spans (spans_in first.steps) (spans_in then.steps) ∙ ap (added_counts x.spans) (sym (spans_on first.steps then.steps));
    in_range = λ r. then.in_range (first.in_range r);
    known = λ all. then.known (first.known all);
  }

  -- ---- a turn, and what it gave handed on

  pub known_still : (before after : Harvester T) (s : Step) → HasTurned numbers told faults s.now s.last before s.turn after → IsKnown numbers told before → IsKnown numbers told after
  known_still before after s turned known = let goes = turned.goes known.0 known.1 in (_, goes.has_told)

  pub known_at : (xs : List (Harvester T)) (s : Step) (t : (h : Harvester T) × (slice_get xs s.index ≡ Some h)) → All (IsKnown numbers told) xs → IsKnown numbers told t.0
  known_at xs s t all =
      subst (IsKnown numbers told) (get_or_from_slice_get xs s.index t.0 t.0 t.1)
      (All-get_or (IsKnown numbers told) xs s.index t.0 (slice_get_within xs s.index t.0 t.1) all)

  pub all_known : (xs ys : List (Harvester T)) (s : Step) → IsMade numbers told faults s xs ys → All (IsKnown numbers told) xs → All (IsKnown numbers told) ys
  all_known xs ys s takes all =
      subst (All (IsKnown numbers told)) (sym takes.is)
      (All-set (IsKnown numbers told) xs s.index takes.after (known_still takes.before takes.after s takes.turned (known_at xs s (takes.before, takes.was) all)) all)

  gives_in_range : (before after : Harvester T) (s : Step) (answer : Turn) → HasTurned numbers told faults s.now s.last before answer after → IsKnown numbers told before → Gives numbers told after answer s.given → IsInRange s.given
  gives_in_range before after s (turn.Issued parcel) turned known gives = subst IsInRange (sym gives) (turned.of_file known.0 known.1).2
  gives_in_range before after s (turn.Passed span rule) turned known gives = subst IsInRange (sym gives.1) (tt, turned.of_file known.0 known.1)
  gives_in_range before after s (turn.NewLife epoch) turned known gives = subst IsInRange (sym gives) (tt, tt)
  gives_in_range before after s turn.AtEnd turned known (inl forget) = subst IsInRange (sym forget.is) (tt, forget.within)
  gives_in_range before after s turn.AtEnd turned known (inr other) = subst IsInRange (sym other.is) tt
  gives_in_range before after s turn.More turned known gives = subst IsInRange (sym gives) tt
  gives_in_range before after s turn.Changed turned known gives = subst IsInRange (sym gives) tt
  gives_in_range before after s turn.EpochsOut turned known gives = subst IsInRange (sym gives) tt
  gives_in_range before after s turn.ReadFault turned known gives = subst IsInRange (sym gives) tt
  gives_in_range before after s turn.NoMemory turned known gives = subst IsInRange (sym gives) tt

  pub turns_in_range : (when : When) (index : ℕ) (old new : Laning T) (gift : Given) → All (IsKnown numbers told) old.harvesters → TurnsAt numbers told faults when index old new gift → IsInRange gift
  turns_in_range when index old new gift all t =
      let takes = t.takes in
      subst IsInRange t.gave (gives_in_range takes.before takes.after t.step t.step.turn takes.turned (known_at old.harvesters t.step (takes.before, takes.was) all) takes.gives)

  unfoldable pub keeps_step : (when : When) (index : ℕ) (old mid new : Laning T) (gift : Given) → old.held ≡ what.Nothing → TurnsAt numbers told faults when index old mid gift → HandsOn gift mid new → LaneKeeps numbers told faults old new
  keeps_step when index old mid new gift none t h =
      let same : new.harvesters ≡ mid.harvesters = h.harvesters in
      record {
        steps = t.step ∷ [];
        entries = h.entries;
        posted = h.posted;
        put = h.put ∙ ap (λ (l : Laning T). with_put l.put h.entries) t.is;
        post = h.post ∙ ap (λ (l : Laning T). with_posted l.post h.posted) t.is;
        parcels_are = ap (λ (g : Given). parcels_in g ++ (parcels_in t.step.given ++ [])) none ∙ append-nil (parcels_in t.step.given) ∙ ap parcels_in t.gave ∙ h.parcels_are;
        notes_are = ap (λ (g : Given). notes_in g ++ (notes_in t.step.given ++ [])) none ∙ append-nil (notes_in t.step.given) ∙ ap notes_in t.gave ∙ h.notes_are;
        ran = (mid.harvesters, t.takes, same);
        spans = h.spans ∙ ap (λ (l : Laning T). l.spans) t.is ∙ ap (λ (g : Given). added_counts old.spans (spans_of g)) (sym t.gave) ∙ ap (added_counts old.spans) (omega arith);
        in_range = λ r. h.in_range;
        known = λ all. subst (All (IsKnown numbers told)) (sym same) (all_known old.harvesters mid.harvesters t.step t.takes all);
      }

  pub step_tally : (when : When) (index : ℕ) (old mid new : Laning T) (gift : Given) → (t : TurnsAt numbers told faults when index old mid gift) → HandsOn gift mid new → new.tally ≡ tallied old.tally (t.step ∷ [])
  step_tally when index old mid new gift t h = h.tally ∙ ap (λ (l : Laning T). l.tally) t.is

  -- what was held is handed on: the lane as it was, but for what it held
  unfoldable pub keeps_handed : (old bare new : Laning T) (was : Given) → old.held ≡ was → bare ≡ record old { held = what.Nothing; tally = bare.tally } → HandsOn was bare new → LaneKeeps numbers told faults old new
  keeps_handed old bare new was held is h = record {
    steps = [];
    entries = h.entries;
    posted = h.posted;
    put = h.put ∙ ap (λ (l : Laning T). with_put l.put h.entries) is;
    post = h.post ∙ ap (λ (l : Laning T). with_posted l.post h.posted) is;
    parcels_are = append-nil (parcels_in old.held) ∙ ap parcels_in held ∙ h.parcels_are;
    notes_are = append-nil (notes_in old.held) ∙ ap notes_in held ∙ h.notes_are;
    ran = h.harvesters ∙ ap (λ (l : Laning T). l.harvesters) is;
    spans = h.spans ∙ ap (λ (l : Laning T). l.spans) is ∙ none_added old.spans;
    in_range = λ r. h.in_range;
    known = λ all. subst (All (IsKnown numbers told)) (sym (h.harvesters ∙ ap (λ (l : Laning T). l.harvesters) is)) all;
  }

  run_length : (steps : List Step) (xs ys : List (Harvester T)) → Run numbers told faults steps xs ys → length ys ≡ length xs
  run_length [] xs ys is = ap (λ (l : List (Harvester T)). length l) is
  run_length (s ∷ ss) xs ys run =
      run_length ss run.0 ys run.2 ∙ ap (λ (l : List (Harvester T)). length l) run.1.is ∙ length-set xs s.index run.1.after

  pub as_many : (old new : Laning T) → LaneKeeps numbers told faults old new → length new.harvesters ≡ length old.harvesters
  as_many old new k = run_length k.steps old.harvesters new.harvesters k.ran
