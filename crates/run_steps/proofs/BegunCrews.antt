-- A crew that was made of all passes has them all.
use Rattle.std.proofs.Common.{◌≡◌, List, [], ◌++◌, Vec, refl, ap, subst, ◌∙◌}
use Rattle.std.specs.declared.alloc.Global.{Global}
use Rattle.atomic_table.specs.Seated.{TableId}
use Rattle.lanes.specs.declared.lane.Lane.{Lane}
use Rattle.mem_queue.specs.Known.{Known}
use Rattle.mem_queue.specs.declared.entry.Entry.{Entry}
use Rattle.pass_sums.specs.Share.{IsWorth, cut_half, kept_half}
use Rattle.pass_sums.proofs.Shares.{whole_worth, worth_rejoined}
use Rattle.rounds.specs.Crewed.{carriers_passes, lanes_passes, lanings}
use Rattle.rounds.specs.Making.{HaveAll, KnowAll}
use Rattle.rounds.specs.Meeting.{HaveAllPasses}
use Rattle.rounds.specs.Passes.{Passes, post_shares, shares}
use Rattle.rounds.specs.declared.carrier.Carrier.{Carrier}
use Rattle.settle_box.specs.Poster.{Poster, poster, senders_of}
use Rattle.settle_box.specs.Senders.{posted_by, sender, split_once}
use Rattle.settle_box.specs.declared.sender.Sender.{Sender}
use Rattle.wire_base.specs.declared.note.Note.{Note}
use Rattle.run_steps.specs.BegunCrew.{AreFirstPasses}

-- the lanes have the half of the posting pass that was kept, and the workers the other
pub have_all : {T W L : Type 0} (queue desk : TableId) (put take : Known) (post kept cut : Poster) → AreFirstPasses queue desk put take post → (lanes : Vec (Lane T) Global) (carriers : Vec (Carrier W L) Global)
    → kept.share ≡ kept_half post.share → cut.share ≡ cut_half post.share → HaveAll queue desk put.share kept.share (lanes_passes (lanings lanes.items))
    → HaveAll queue desk take.share cut.share (carriers_passes carriers.items) → HaveAllPasses queue desk (lanings lanes.items) carriers.items
have_all queue desk put take post kept cut are lanes carriers kept_is cut_is of_lanes of_carriers = record {
  lanes_have = of_lanes.are;
  carriers_have = of_carriers.are;
  puts = whole_worth (shares (lanes_passes (lanings lanes.items))) put.share of_lanes.share are.puts;
  takes = whole_worth (shares (carriers_passes carriers.items)) take.share of_carriers.share are.takes;
  posts = whole_worth (post_shares (lanes_passes (lanings lanes.items)) ++ post_shares (carriers_passes carriers.items)) post.share
      (worth_rejoined post.share (post_shares (lanes_passes (lanings lanes.items))) (post_shares (carriers_passes carriers.items))
      (post_shares (lanes_passes (lanings lanes.items)) ++ post_shares (carriers_passes carriers.items))
      (subst (IsWorth (post_shares (lanes_passes (lanings lanes.items)))) kept_is of_lanes.post_share)
      (subst (IsWorth (post_shares (carriers_passes carriers.items))) cut_is of_carriers.post_share) refl)
      are.posts;
}

-- what is known of nothing
pub know_nothing : {moved : List Entry} {posted : List Note} {all : List Passes} → moved ≡ [] → posted ≡ [] → KnowAll moved posted all → KnowAll [] [] all
know_nothing {moved = moved} {all = all} none also know = subst (λ (m : List Entry). KnowAll m [] all) none (subst (λ (p : List Note). KnowAll moved p all) also know)

-- a pass that has posted nothing has not by being split
pub none_posted : (post kept : Poster) → post.mine ≡ sender [] 0 [] → post.joined ≡ [] → kept ≡ poster post.desk (kept_half post.share) (split_once post.mine) post.joined → posted_by (senders_of kept) ≡ []
none_posted post kept mine joined is =
    ap (λ (p : Poster). posted_by (senders_of p)) is ∙ ap (λ (s : Sender). s.posted ++ posted_by post.joined) mine ∙ ap posted_by joined
