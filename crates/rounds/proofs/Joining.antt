-- Passes that are joined one after the other.
use Rattle.std.proofs.Common.{◌≡◌, ℕ, List, ◌∷◌, ◌++◌, Option, Some, sym, ap, subst, ◌∙◌, append_assoc}
use Rattle.atomic_table.specs.Seated.{TableId}
use Rattle.mem_queue.specs.Known.{Known, known}
use Rattle.mem_queue.specs.declared.entry.Entry.{Entry}
use Rattle.settle_box.specs.Poster.{Poster, poster, senders_of}
use Rattle.settle_box.specs.declared.sender.Sender.{Sender}
use Rattle.rounds.specs.Meeting.{AreJoined}
use Rattle.rounds.specs.Passes.{AreOf, IsOfBox, IsOfQueue, Passes, entries, entries_in, post_share_in, post_shares, senders, senders_in, share_in, shares}

-- the first of them was joined, and then the rest
pub known_on : (moves moved after : Known) (first : Passes) (rest : List Passes) → moved ≡ known moves.queue (moves.share ++ share_in first.moves) (moves.entries ++ entries_in first.moves)
    → after ≡ known moved.queue (moved.share ++ shares rest) (moved.entries ++ entries rest) → after ≡ known moves.queue (moves.share ++ shares (first ∷ rest)) (moves.entries ++ entries (first ∷ rest))
known_on moves moved after first rest one more =
    more
    ∙ ap (λ (k : Known). known k.queue (k.share ++ shares rest) (k.entries ++ entries rest)) one
    ∙ ap (λ (ss : List ℕ). known moves.queue ss ((moves.entries ++ entries_in first.moves) ++ entries rest)) (append_assoc moves.share (share_in first.moves) (shares rest))
    ∙ ap (λ (es : List Entry). known moves.queue (moves.share ++ shares (first ∷ rest)) es) (append_assoc moves.entries (entries_in first.moves) (entries rest))

pub poster_on : (post posted after : Poster) (first : Passes) (rest : List Passes) → posted ≡ poster post.desk (post.share ++ post_share_in first.post) post.mine (post.joined ++ senders_in first.post)
    → after ≡ poster posted.desk (posted.share ++ post_shares rest) posted.mine (posted.joined ++ senders rest) → after ≡ poster post.desk (post.share ++ post_shares (first ∷ rest)) post.mine (post.joined ++ senders (first ∷ rest))
poster_on post posted after first rest one more =
    more
    ∙ ap (λ (p : Poster). poster p.desk (p.share ++ post_shares rest) p.mine (p.joined ++ senders rest)) one
    ∙ ap (λ (ss : List ℕ). poster post.desk ss post.mine ((post.joined ++ senders_in first.post) ++ senders rest)) (append_assoc post.share (post_share_in first.post) (post_shares rest))
    ∙ ap (λ (ss : List Sender). poster post.desk (post.share ++ post_shares (first ∷ rest)) post.mine ss) (append_assoc post.joined (senders_in first.post) (senders rest))

-- all of them were joined into the passes of the first
pub all_joined : (queue desk : TableId) (moves moved : Known) (post posted : Poster) (first : Passes) (rest : List Passes) → AreOf queue desk first → first.moves ≡ Some moves → first.post ≡ Some post
    → moved ≡ known moves.queue (moves.share ++ shares rest) (moves.entries ++ entries rest) → posted ≡ poster post.desk (post.share ++ post_shares rest) post.mine (post.joined ++ senders rest)
    → AreJoined queue desk (first ∷ rest) moved posted
all_joined queue desk moves moved post posted first rest of moves_are post_is moved_is posted_is = record {
  of_queue = ap (λ (k : Known). k.queue) moved_is ∙ subst (λ (o : Option Known). IsOfQueue queue o) moves_are of.moves;
  share = ap (λ (k : Known). k.share) moved_is ∙ ap (λ (o : Option Known). share_in o ++ shares rest) (sym moves_are);
  entries_are = ap (λ (k : Known). k.entries) moved_is ∙ ap (λ (o : Option Known). entries_in o ++ entries rest) (sym moves_are);
  of_box = ap (λ (p : Poster). p.desk) posted_is ∙ subst (λ (o : Option Poster). IsOfBox desk o) post_is of.post;
  post_share = ap (λ (p : Poster). p.share) posted_is ∙ ap (λ (o : Option Poster). post_share_in o ++ post_shares rest) (sym post_is);
  senders_are = ap senders_of posted_is ∙ ap (λ (o : Option Poster). senders_in o ++ senders rest) (sym post_is);
}
