-- Passes that were joined and are parted again: their shares, their entries and their notes.
use Rattle.std.proofs.Common.{◌≡◌, ℕ, ◌-◌, ◌^◌, max, min, true, ◌==◌, List, [], ◌∷◌, ◌++◌, length, Option, Some, None, IsSome, map, refl, sym, ap, subst, ◌∙◌, append_assoc, arith}
use Rattle.std.proofs.lemmas.Bool.{eqb-true}
use Rattle.std.proofs.lemmas.List.{append-nil}
use Rattle.atomic_table.specs.Seated.{TableId}
use Rattle.batch_worker.specs.Working.{Working}
use Rattle.lanes.specs.Laning.{Laning, without_passes}
use Rattle.mem_queue.specs.Conserved.{IsConserved}
use Rattle.mem_queue.specs.Known.{Known, known}
use Rattle.mem_queue.specs.declared.entry.Entry.{Entry}
use Rattle.pass_sums.specs.Share.{IsWhole, IsWorth, cut_half, doubled, kept_half}
use Rattle.pass_sums.proofs.Shares.{halved-weighs, halving_scale, whole_worth, worth_itself, worth_rejoined}
use Rattle.pass_sums.proofs.Weights.{weigh-append}
use Rattle.settle_box.specs.InOrder.{IsInOrder}
use Rattle.settle_box.specs.Poster.{Poster, poster, senders_of}
use Rattle.settle_box.specs.Senders.{child_of, posted_by, posts_of, split_once}
use Rattle.settle_box.specs.declared.sender.Sender.{Sender}
use Rattle.settle_box.specs.declared.sender.Sent.{Sent}
use Rattle.wire_base.specs.declared.parcel.Parcel.{Parcel}
use Rattle.rounds.specs.Crewed.{bare_carrier, bare_carriers, bare_lanes, carriers_passes, lanes_passes}
use Rattle.rounds.specs.Meeting.{AreJoined, AreParted, HaveAllPasses, HaveMet}
use Rattle.rounds.specs.Passes.{AreOf, IsOfBox, IsOfQueue, Passes, entries, post_shares, senders, shares}
use Rattle.rounds.specs.declared.carrier.Carrier.{Carrier}

-- ---- lanes and workers without passes are the same without passes

pub lanes_stay_bare : {T : Type 0} (lanes : List (Laning T)) → bare_lanes (bare_lanes lanes) ≡ bare_lanes lanes
lanes_stay_bare [] = refl
lanes_stay_bare (lane ∷ lanes) = ap (λ (rest : List (Laning _)). without_passes lane ∷ rest) (lanes_stay_bare lanes)

pub carriers_stay_bare : {W L : Type 0} (carriers : List (Carrier W L)) → bare_carriers (bare_carriers carriers) ≡ bare_carriers carriers
carriers_stay_bare [] = refl
carriers_stay_bare (carrier ∷ carriers) = ap (λ (rest : List (Carrier _ _)). bare_carrier carrier ∷ rest) (carriers_stay_bare carriers)

-- ---- passes that can be laid down

there_of_queue : (queue : TableId) (moves : Option Known) → IsOfQueue queue moves → IsSome moves
there_of_queue queue None of = absurd of
there_of_queue queue (Some k) of = refl

there_of_box : (desk : TableId) (post : Option Poster) → IsOfBox desk post → IsSome post
there_of_box desk None of = absurd of
there_of_box desk (Some p) of = refl

pub are_there : (queue desk : TableId) (passes : Passes) → AreOf queue desk passes → IsSome passes.moves × IsSome passes.post
are_there queue desk passes of = (there_of_queue queue passes.moves of.moves, there_of_box desk passes.post of.post)

-- ---- one after the other takes up half

-- what a worker takes and posts by
abbrev pub worker_passes : {L : Type 0} → Working L → Passes
worker_passes w = record { moves = w.take; post = w.post }

-- a list with nothing in it
none_left : {A : Type 0} (xs : List A) → true ≡ (length xs == 0) → xs ≡ []
none_left [] is = refl
none_left (x ∷ xs) is = absurd (omega (arith, eqb-true (length (x ∷ xs)) 0 (sym is)))

abbrev pub both : Known → Poster → Passes
both moves post = record { moves = Some moves; post = Some post }

-- the part that is kept, and the part that is cut off
abbrev pub kept_moves : Known → Known
kept_moves moves = known moves.queue (kept_half moves.share) moves.entries

abbrev pub cut_moves : Known → Known
cut_moves moves = known moves.queue (cut_half moves.share) []

abbrev pub kept_post : Poster → Poster
kept_post post = poster post.desk (kept_half post.share) (split_once post.mine) post.joined

abbrev pub cut_post : Poster → Poster
cut_post post = poster post.desk (cut_half post.share) (child_of post.mine) []

worth_parted : (share rest : List ℕ) → IsWorth rest (kept_half share) → IsWorth (cut_half share ++ rest) share
worth_parted share rest worth = record {
  least = max (halving_scale share) worth.least;
  same = λ scale fine.
      let h = λ (halvings : ℕ). doubled (scale - halvings) in
      omega (arith, weigh-append h (cut_half share) rest, worth.same scale (omega arith), halved-weighs scale share (omega arith));
}

pub parted_as : (queue desk : TableId) (moves moved : Known) (post posted : Poster) (all : List Passes) → moves ≡ moved → post ≡ posted
    → AreParted queue desk moves post all → AreParted queue desk moved posted all
parted_as queue desk moves moved post posted all moves_are post_is parted =
    subst (λ (k : Known). AreParted queue desk k posted all) moves_are (subst (λ (p : Poster). AreParted queue desk moves p all) post_is parted)

-- the last of them takes up what is left
parted_last : (queue desk : TableId) (moves : Known) (post : Poster) → moves.queue ≡ queue → post.desk ≡ desk → AreParted queue desk moves post (both moves post ∷ [])
parted_last queue desk moves post of_queue of_box = record {
  are_of = (record { moves = of_queue; post = of_box }, tt);
  share = worth_itself (moves.share ++ []) moves.share (append-nil moves.share);
  entries_are = append-nil moves.entries;
  post_share = worth_itself (post.share ++ []) post.share (append-nil post.share);
  posted = ap posted_by (append-nil (senders_of post));
}

pub alone_parted : {A : Type 0} (passes_of : A → Passes) (queue desk : TableId) (moves : Known) (post : Poster) (mine : Passes) (rest : List A) → moves.queue ≡ queue → post.desk ≡ desk
    → mine ≡ both moves post → true ≡ (length rest == 0) → AreParted queue desk moves post (mine ∷ map passes_of rest)
alone_parted passes_of queue desk moves post mine rest of_queue of_box mine_is none =
    subst (λ (p : Passes). AreParted queue desk moves post (p ∷ map passes_of rest)) (sym mine_is)
    (subst (λ (xs : List _). AreParted queue desk moves post (both moves post ∷ map passes_of xs)) (sym (none_left rest none))
    (parted_last queue desk moves post of_queue of_box))

parted_before : (queue desk : TableId) (moves : Known) (post : Poster) (rest : List Passes) → moves.queue ≡ queue → post.desk ≡ desk
    → AreParted queue desk (kept_moves moves) (kept_post post) rest → AreParted queue desk moves post (both (cut_moves moves) (cut_post post) ∷ rest)
parted_before queue desk moves post rest of_queue of_box parted = record {
  are_of = (record { moves = of_queue; post = of_box }, parted.are_of);
  share = worth_parted moves.share (shares rest) parted.share;
  entries_are = parted.entries_are;
  post_share = worth_parted post.share (post_shares rest) parted.post_share;
  posted = parted.posted;
}

-- the same, as the calls tell it: this one took up what was cut off
pub parted_on : (queue desk : TableId) (moves kept cut : Known) (post kept_by cut_by : Poster) (mine : Passes) (rest : List Passes) → moves.queue ≡ queue → post.desk ≡ desk
    → kept ≡ kept_moves moves → cut ≡ cut_moves moves → kept_by ≡ kept_post post → cut_by ≡ cut_post post → mine ≡ both cut cut_by
    → AreParted queue desk kept kept_by rest → AreParted queue desk moves post (mine ∷ rest)
parted_on queue desk moves kept cut post kept_by cut_by mine rest of_queue of_box kept_is cut_is kept_by_is cut_by_is mine_is parted =
    let taken : mine ≡ both (cut_moves moves) (cut_post post) = mine_is ∙ ap (λ (k : Known). both k cut_by) cut_is ∙ ap (λ (p : Poster). both (cut_moves moves) p) cut_by_is in
    subst (λ (p : Passes). AreParted queue desk moves post (p ∷ rest)) (sym taken)
    (parted_before queue desk moves post rest of_queue of_box (parted_as queue desk kept (kept_moves moves) kept_by (kept_post post) rest kept_is kept_by_is parted))

-- ---- all have met

posted-append : (xs ys : List Sender) → posted_by (xs ++ ys) ≡ posted_by xs ++ posted_by ys
posted-append [] ys = refl
posted-append (x ∷ xs) ys = ap (λ (ns : List _). x.posted ++ ns) (posted-append xs ys) ∙ sym (append_assoc x.posted (posted_by xs) (posted_by ys))

-- the passes of the box, joined
abbrev pub joined_post : Poster → Poster → Poster
joined_post post others = poster post.desk (post.share ++ others.share) post.mine (post.joined ++ senders_of others)

pub in_order_as : (whole joined : Poster) (found got boxed : List Sent) → whole ≡ joined → found ≡ got → IsInOrder (senders_of whole) found boxed → IsInOrder (senders_of joined) got boxed
in_order_as whole joined found got boxed whole_is found_is in_order =
    subst (λ (p : Poster). IsInOrder (senders_of p) got boxed) whole_is (subst (λ (all : List Sent). IsInOrder (senders_of whole) all boxed) found_is in_order)

-- what was taken of the passes as they met was taken of the joined ones
pub of_joined : {B : Type 0} (part : Poster → B) (taken : B) (met whole joined : Poster) → taken ≡ part met → met ≡ whole → whole ≡ joined → taken ≡ part joined
of_joined part taken met whole joined taken_is met_is whole_is = taken_is ∙ ap part (met_is ∙ whole_is)

-- all whose passes were joined
joined_senders : {queue desk : TableId} {lanes carriers : List Passes} (put take : Known) (post others : Poster)
    → AreJoined queue desk lanes put post → AreJoined queue desk carriers take others → senders_of (joined_post post others) ≡ senders lanes ++ senders carriers
joined_senders {lanes = lanes} put take post others puts takes =
    ap (λ (ss : List Sender). ss ++ senders_of others) puts.senders_are ∙ ap (λ (ss : List Sender). senders lanes ++ ss) takes.senders_are

abbrev pub counted : List Sender → ℕ
counted all = min (posts_of all) (2 ^ 64 - 1)

pub all_counted : {queue desk : TableId} {lanes carriers : List Passes} (count : ℕ) (put take : Known) (post others whole met : Poster)
    → AreJoined queue desk lanes put post → AreJoined queue desk carriers take others → whole ≡ joined_post post others → met ≡ whole
    → count ≡ counted (senders_of met) → count ≡ counted (senders lanes ++ senders carriers)
all_counted count put take post others whole met puts takes whole_is met_is is =
    of_joined (λ (p : Poster). counted (senders_of p)) count met whole (joined_post post others) is met_is whole_is ∙ ap counted (joined_senders put take post others puts takes)

module _ {T W L : Type 0} (queue desk : TableId) (got : List Sent) (lanes later : List (Laning T)) (carriers after : List (Carrier W L)) where
  pub have_met : (put take : Known) (post others : Poster) (queued : List Parcel) (boxed : List Sent)
      → HaveAllPasses queue desk lanes carriers
      → AreJoined queue desk (lanes_passes lanes) put post → AreJoined queue desk (carriers_passes carriers) take others
      → IsConserved put.entries take.entries queued → IsInOrder (senders_of (joined_post post others)) got boxed
      → AreParted queue desk put (kept_post (joined_post post others)) (lanes_passes later)
      → AreParted queue desk take (cut_post (joined_post post others)) (carriers_passes after)
      → bare_lanes later ≡ bare_lanes lanes → bare_carriers after ≡ bare_carriers carriers
      → HaveMet queue desk got lanes later carriers after
  have_met put take post others queued boxed have puts takes conserved in_order put_again taken_again lanes_same carriers_same =
      let all_senders = joined_senders put take post others puts takes in
      let all_shares : post.share ++ others.share ≡ post_shares (lanes_passes lanes) ++ post_shares (carriers_passes carriers) =
      ap (λ (ss : List ℕ). ss ++ others.share) puts.post_share ∙ ap (λ (ss : List ℕ). post_shares (lanes_passes lanes) ++ ss) takes.post_share in
      let old : posted_by (senders_of (joined_post post others)) ≡ posted_by (senders (lanes_passes lanes) ++ senders (carriers_passes carriers)) = ap posted_by all_senders in
      record {
        have = record {
          lanes_have = put_again.are_of;
          carriers_have = taken_again.are_of;
          puts = whole_worth (shares (lanes_passes later)) put.share put_again.share (subst IsWhole (sym puts.share) have.puts);
          takes = whole_worth (shares (carriers_passes after)) take.share taken_again.share (subst IsWhole (sym takes.share) have.takes);
          posts = whole_worth (post_shares (lanes_passes later) ++ post_shares (carriers_passes after)) (post.share ++ others.share)
              (worth_rejoined (post.share ++ others.share) (post_shares (lanes_passes later)) (post_shares (carriers_passes after))
              (post_shares (lanes_passes later) ++ post_shares (carriers_passes after)) put_again.post_share taken_again.post_share refl)
              (subst IsWhole (sym all_shares) have.posts);
        };
        lanes_same = lanes_same;
        carriers_same = carriers_same;
        put = put_again.entries_are ∙ puts.entries_are;
        taken = taken_again.entries_are ∙ takes.entries_are;
        posted = posted-append (senders (lanes_passes later)) (senders (carriers_passes after))
            ∙ ap (λ (ns : List _). ns ++ posted_by (senders (carriers_passes after))) put_again.posted
            ∙ ap (λ (ns : List _). posted_by (senders_of (joined_post post others)) ++ ns) taken_again.posted
            ∙ append-nil (posted_by (senders_of (joined_post post others)))
            ∙ old;
        queued = queued;
        conserved = subst (λ (es : List Entry). IsConserved es (entries (carriers_passes carriers)) queued) puts.entries_are
            (subst (λ (es : List Entry). IsConserved put.entries es queued) takes.entries_are conserved);
        boxed = boxed;
        in_order = subst (λ (ss : List Sender). IsInOrder ss got boxed) all_senders in_order;
      }
