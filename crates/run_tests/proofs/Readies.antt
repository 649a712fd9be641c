-- A lane stays ready from round to round.
use Rattle.std.proofs.Common.{◌≡◌, ℕ, List, ◌∷◌, [], ◌++◌, Option, Some, None, subst, sym}
use Rattle.std.proofs.lemmas.List.Elements.{All-append, All-cons, All-nil}
use Rattle.atomic_table.specs.Seated.{TableId}
use Rattle.batch_worker.specs.Keeping.{with_posted}
use Rattle.batch_worker.specs.Steps.{PostsOf}
use Rattle.harvester.specs.declared.harvester.Harvester.{Harvester}
use Rattle.mem_queue.specs.Known.{Known}
use Rattle.mem_queue.specs.declared.entry.Entry.{Entry}
use Rattle.outside.specs.Tails.{TailHistory}
use Rattle.settle_box.specs.Poster.{Poster}
use Rattle.wire_base.specs.declared.note.Note.{Note}
use Rattle.lanes.specs.Handing.{PutsOf, with_put}
use Rattle.lanes.specs.Keeping.{LaneKeeps}
use Rattle.lanes.specs.Laning.{Laning}
use Rattle.lanes.specs.Turned.{IsKnown}
use Rattle.run_tests.specs.Ready.{IsReady}

puts_on : (queue : TableId) (put : Option Known) (entries : List Entry) → PutsOf queue put → PutsOf queue (with_put put entries)
puts_on queue None entries puts = puts
puts_on queue (Some k) entries puts = puts

posts_on : (desk : TableId) (post : Option Poster) (notes : List Note) → PostsOf desk post → PostsOf desk (with_posted post notes)
posts_on desk None notes posts = posts
posts_on desk (Some p) notes posts = posts

module _ {T : Type 0} (numbers : T → Option (ℕ × ℕ)) (told : T → Option TailHistory) (faults : T → ℕ) (queue desk : TableId) where
  pub still_ready : (old new : Laning T) → LaneKeeps numbers told faults old new → IsReady numbers told queue desk old → IsReady numbers told queue desk new
  still_ready old new k r = record {
    puts = subst (λ (put : Option Known). PutsOf queue put) (sym k.put) (puts_on queue old.put k.entries r.puts);
    posts = subst (λ (post : Option Poster). PostsOf desk post) (sym k.post) (posts_on desk old.post k.posted r.posts);
    in_range = k.in_range r.in_range;
    known = k.known r.known;
  }

  pub admitted_ready : (old new : Laning T) (one : Harvester T) → new ≡ record old { harvesters = old.harvesters ++ one ∷ [] } → IsKnown numbers told one → IsReady numbers told queue desk old → IsReady numbers told queue desk new
  admitted_ready old new one is known r = subst (IsReady numbers told queue desk) (sym is) (record {
    puts = r.puts;
    posts = r.posts;
    in_range = r.in_range;
    known = All-append (IsKnown numbers told) old.harvesters (one ∷ []) r.known (All-cons (IsKnown numbers told) one [] known (All-nil (IsKnown numbers told)));
  })
