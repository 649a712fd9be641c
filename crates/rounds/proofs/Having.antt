-- Lanes and workers have their passes still after their turns, with the same shares.
use Rattle.std.proofs.Common.{◌≡◌, ◌≢◌, ℕ, zero, suc, All, List, [], ◌∷◌, ◌++◌, Option, Some, None, refl, sym, ap, subst, ◌∙◌, arith}
use Rattle.atomic_table.specs.Seated.{TableId}
use Rattle.batch_worker.specs.Keeping.{with_posted, with_taken}
use Rattle.batch_worker.specs.Steps.{PostsOf}
use Rattle.lanes.specs.Handing.{with_put}
use Rattle.lanes.specs.Laning.{Laning}
use Rattle.lanes.specs.declared.run.When.{When}
use Rattle.mem_queue.specs.Known.{Known}
use Rattle.mem_queue.specs.declared.entry.Entry.{Entry}
use Rattle.pass_sums.specs.Share.{IsWhole}
use Rattle.settle_box.specs.Poster.{Poster}
use Rattle.wire_base.specs.declared.note.Note.{Note}
use Rattle.wire_base.specs.declared.numbers.Moment.{Moment}
use Rattle.rounds.specs.Crewed.{carrier_passes, carriers_passes, lane_passes, lanes_passes}
use Rattle.rounds.specs.KeeperTurns.{KeeperRan}
use Rattle.rounds.specs.Meeting.{HaveAllPasses}
use Rattle.rounds.specs.Pairs.{Pairs}
use Rattle.rounds.specs.Passes.{AreAllOf, AreOf, IsOfQueue, post_share_in, post_shares, share_in, shares}
use Rattle.rounds.specs.Running.{CarrierHasRun, IsCarrierReady, LaneHasRun, StoringHasRun}
use Rattle.rounds.specs.Words.{DiskWords, LinkWords, TailWords, WireWords}
use Rattle.rounds.specs.declared.carrier.Carrier.{Carrier}
use Rattle.rounds.specs.declared.storing.Storing.{Storing}
use Rattle.rounds.proofs.CarrierSteps.{carrier_keeps}

-- ---- of one pass

put_share : (put : Option Known) (entries : List Entry) → share_in (with_put put entries) ≡ share_in put
put_share None entries = refl
put_share (Some k) entries = refl

pub take_share : (take : Option Known) (entries : List Entry) → share_in (with_taken take entries) ≡ share_in take
take_share None entries = refl
take_share (Some k) entries = refl

pub post_share : (post : Option Poster) (notes : List Note) → post_share_in (with_posted post notes) ≡ post_share_in post
post_share None notes = refl
post_share (Some p) notes = refl

put_of : (queue : TableId) (put : Option Known) (entries : List Entry) → IsOfQueue queue put → IsOfQueue queue (with_put put entries)
put_of queue None entries of = of
put_of queue (Some k) entries of = of

pub take_of : (queue : TableId) (take : Option Known) (entries : List Entry) → IsOfQueue queue take → IsOfQueue queue (with_taken take entries)
take_of queue None entries of = of
take_of queue (Some k) entries of = of

pub post_of : (desk : TableId) (post : Option Poster) (notes : List Note) → PostsOf desk post → PostsOf desk (with_posted post notes)
post_of desk None notes of = of
post_of desk (Some p) notes of = of

-- ---- of lanes

module _ {T : Type 0} (tails : TailWords T) (queue_size box_size : ℕ) (when : When) where
  lane_has : (queue desk : TableId) (x y : Laning T) → LaneHasRun tails queue_size box_size when x y → AreOf queue desk (lane_passes x) → AreOf queue desk (lane_passes y)
  unfolding LaneHasRun
  lane_has queue desk x y runs of = record {
    moves = subst (IsOfQueue queue) (sym runs.keeps.put) (put_of queue x.put runs.keeps.entries of.moves);
    post = subst (PostsOf desk) (sym runs.keeps.post) (post_of desk x.post runs.keeps.posted of.post);
  }

  lane_share : (x y : Laning T) → LaneHasRun tails queue_size box_size when x y → share_in y.put ≡ share_in x.put
  unfolding LaneHasRun
  lane_share x y runs = ap share_in runs.keeps.put ∙ put_share x.put runs.keeps.entries

  lane_post_share : (x y : Laning T) → LaneHasRun tails queue_size box_size when x y → post_share_in y.post ≡ post_share_in x.post
  unfolding LaneHasRun
  lane_post_share x y runs = ap post_share_in runs.keeps.post ∙ post_share x.post runs.keeps.posted

  pub lanes_have : (queue desk : TableId) (xs ys : List (Laning T)) → Pairs (LaneHasRun tails queue_size box_size when) xs ys → AreAllOf queue desk (lanes_passes xs) → AreAllOf queue desk (lanes_passes ys)
  lanes_have queue desk [] [] ran of = tt
  lanes_have queue desk [] (y ∷ ys) ran of = absurd ran
  lanes_have queue desk (x ∷ xs) [] ran of = absurd ran
  lanes_have queue desk (x ∷ xs) (y ∷ ys) ran of = (lane_has queue desk x y ran.0 of.0, lanes_have queue desk xs ys ran.1 of.1)

  pub lanes_shares : (xs ys : List (Laning T)) → Pairs (LaneHasRun tails queue_size box_size when) xs ys → shares (lanes_passes ys) ≡ shares (lanes_passes xs)
  lanes_shares [] [] ran = refl
  lanes_shares [] (y ∷ ys) ran = absurd ran
  lanes_shares (x ∷ xs) [] ran = absurd ran
  lanes_shares (x ∷ xs) (y ∷ ys) ran = ap (λ (l : List ℕ). l ++ shares (lanes_passes ys)) (lane_share x y ran.0) ∙ ap (λ (l : List ℕ). share_in x.put ++ l) (lanes_shares xs ys ran.1)

  pub lanes_post_shares : (xs ys : List (Laning T)) → Pairs (LaneHasRun tails queue_size box_size when) xs ys → post_shares (lanes_passes ys) ≡ post_shares (lanes_passes xs)
  lanes_post_shares [] [] ran = refl
  lanes_post_shares [] (y ∷ ys) ran = absurd ran
  lanes_post_shares (x ∷ xs) [] ran = absurd ran
  lanes_post_shares (x ∷ xs) (y ∷ ys) ran = ap (λ (l : List ℕ). l ++ post_shares (lanes_passes ys)) (lane_post_share x y ran.0) ∙ ap (λ (l : List ℕ). post_share_in x.post ++ l) (lanes_post_shares xs ys ran.1)

-- ---- of workers

module _ {W L : Type 0} (links : LinkWords L) (wires : WireWords W) (box : ℕ) (now : Moment) where
  carrier_has : (queue desk : TableId) (x y : Carrier W L) → CarrierHasRun links wires box now x y → AreOf queue desk (carrier_passes x) → AreOf queue desk (carrier_passes y)
  unfolding CarrierHasRun
  carrier_has queue desk x y ran of =
      let keeps = carrier_keeps links wires box now x y ran in
      record {
        moves = subst (IsOfQueue queue) (sym keeps.take) (take_of queue x.worker.take keeps.taken of.moves);
        post = subst (PostsOf desk) (sym keeps.post) (post_of desk x.worker.post keeps.posted of.post);
      }

  carrier_share : (x y : Carrier W L) → CarrierHasRun links wires box now x y → share_in y.worker.take ≡ share_in x.worker.take
  unfolding CarrierHasRun
  carrier_share x y ran = let keeps = carrier_keeps links wires box now x y ran in ap share_in keeps.take ∙ take_share x.worker.take keeps.taken

  carrier_post_share : (x y : Carrier W L) → CarrierHasRun links wires box now x y → post_share_in y.worker.post ≡ post_share_in x.worker.post
  unfolding CarrierHasRun
  carrier_post_share x y ran = let keeps = carrier_keeps links wires box now x y ran in ap post_share_in keeps.post ∙ post_share x.worker.post keeps.posted

  pub carriers_have : (queue desk : TableId) (xs ys : List (Carrier W L)) → Pairs (CarrierHasRun links wires box now) xs ys → AreAllOf queue desk (carriers_passes xs) → AreAllOf queue desk (carriers_passes ys)
  carriers_have queue desk [] [] ran of = tt
  carriers_have queue desk [] (y ∷ ys) ran of = absurd ran
  carriers_have queue desk (x ∷ xs) [] ran of = absurd ran
  carriers_have queue desk (x ∷ xs) (y ∷ ys) ran of = (carrier_has queue desk x y ran.0 of.0, carriers_have queue desk xs ys ran.1 of.1)

  pub carriers_shares : (xs ys : List (Carrier W L)) → Pairs (CarrierHasRun links wires box now) xs ys → shares (carriers_passes ys) ≡ shares (carriers_passes xs)
  carriers_shares [] [] ran = refl
  carriers_shares [] (y ∷ ys) ran = absurd ran
  carriers_shares (x ∷ xs) [] ran = absurd ran
  carriers_shares (x ∷ xs) (y ∷ ys) ran = ap (λ (l : List ℕ). l ++ shares (carriers_passes ys)) (carrier_share x y ran.0) ∙ ap (λ (l : List ℕ). share_in x.worker.take ++ l) (carriers_shares xs ys ran.1)

  pub carriers_post_shares : (xs ys : List (Carrier W L)) → Pairs (CarrierHasRun links wires box now) xs ys → post_shares (carriers_passes ys) ≡ post_shares (carriers_passes xs)
  carriers_post_shares [] [] ran = refl
  carriers_post_shares [] (y ∷ ys) ran = absurd ran
  carriers_post_shares (x ∷ xs) [] ran = absurd ran
  carriers_post_shares (x ∷ xs) (y ∷ ys) ran = ap (λ (l : List ℕ). l ++ post_shares (carriers_passes ys)) (carrier_post_share x y ran.0) ∙ ap (λ (l : List ℕ). post_share_in x.worker.post ++ l) (carriers_post_shares xs ys ran.1)

-- ---- as many as before

abbrev IsCons : {A : Type 0} → List A → Type 0
IsCons [] = ⊥
IsCons (x ∷ xs) = Unit {0}

pub some_still : {A B : Type 0} (R : A → B → Type 0) (xs : List A) (ys : List B) → Pairs R xs ys → xs ≢ [] → ys ≢ []
some_still R [] [] ran some = absurd (some refl)
some_still R [] (y ∷ ys) ran some = absurd ran
some_still R (x ∷ xs) [] ran some = absurd ran
some_still R (x ∷ xs) (y ∷ ys) ran some = λ is. absurd (subst IsCons is tt)

-- ---- all passes are with them still

module _ {T W L : Type 0} (tails : TailWords T) (links : LinkWords L) (wires : WireWords W) (queue_size box_size : ℕ) (when : When) where
  pub all_still : (queue desk : TableId) (lanes later : List (Laning T)) (carriers after : List (Carrier W L)) → Pairs (LaneHasRun tails queue_size box_size when) lanes later → Pairs (CarrierHasRun links wires box_size when.now) carriers after
      → HaveAllPasses queue desk lanes carriers → HaveAllPasses queue desk later after
  all_still queue desk lanes later carriers after lanes_ran carriers_ran have = record {
    lanes_have = lanes_have tails queue_size box_size when queue desk lanes later lanes_ran have.lanes_have;
    carriers_have = carriers_have links wires box_size when.now queue desk carriers after carriers_ran have.carriers_have;
    puts = subst IsWhole (sym (lanes_shares tails queue_size box_size when lanes later lanes_ran)) have.puts;
    takes = subst IsWhole (sym (carriers_shares links wires box_size when.now carriers after carriers_ran)) have.takes;
    posts = subst IsWhole (sym (ap (λ (l : List ℕ). l ++ post_shares (carriers_passes after)) (lanes_post_shares tails queue_size box_size when lanes later lanes_ran) ∙ ap (λ (l : List ℕ). post_shares (lanes_passes lanes) ++ l) (carriers_post_shares links wires box_size when.now carriers after carriers_ran))) have.posts;
  }

-- ---- ready, one by one

pub carriers_ready : {W L : Type 0} (queue desk : TableId) (carriers : List (Carrier W L)) → AreAllOf queue desk (carriers_passes carriers) → All (IsCarrierReady queue desk) carriers
carriers_ready queue desk [] of i d within = absurd (omega (arith, within))
carriers_ready queue desk (c ∷ cs) of zero d within = of.0
carriers_ready queue desk (c ∷ cs) of (suc i) d within = carriers_ready queue desk cs of.1 i d (omega (arith, within))

-- ---- the keeper's turns as one word

pub storing_shut : {D : Type 0} (disks : DiskWords D) (old new : Storing D) → KeeperRan disks old new → StoringHasRun disks old new
unfolding StoringHasRun
storing_shut disks old new ran = ran
