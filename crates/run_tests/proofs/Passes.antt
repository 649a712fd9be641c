-- A worker's passes stay those of their queue and their box.
use Rattle.std.proofs.Common.{ℕ, List, Option, Some, None, subst, sym}
use Rattle.atomic_table.specs.Seated.{TableId}
use Rattle.mem_queue.specs.Known.{Known}
use Rattle.mem_queue.specs.declared.entry.Entry.{Entry}
use Rattle.settle_box.specs.Poster.{Poster}
use Rattle.wire_base.specs.declared.note.Note.{Note}
use Rattle.wire_base.specs.declared.parcel.Parcel.{Parcel}
use Rattle.batch_worker.specs.Keeping.{Keeps, with_posted, with_taken}
use Rattle.batch_worker.specs.Seen.{Seen}
use Rattle.batch_worker.specs.Steps.{PostsOf, TakesOf}
use Rattle.batch_worker.specs.Working.{Working}

takes_on : (queue : TableId) (take : Option Known) (entries : List Entry) → TakesOf queue take → TakesOf queue (with_taken take entries)
takes_on queue None entries takes = takes
takes_on queue (Some k) entries takes = takes

posts_on : (desk : TableId) (post : Option Poster) (notes : List Note) → PostsOf desk post → PostsOf desk (with_posted post notes)
posts_on desk None notes posts = posts
posts_on desk (Some p) notes posts = posts

pub still_takes : {L : Type 0} (P Q : ℕ → List Parcel → Type 0) (before after : Seen) (old new : Working L) (queue : TableId) → Keeps P Q before after old new → TakesOf queue old.take → TakesOf queue new.take
still_takes P Q before after old new queue k takes = subst (λ (take : Option Known). TakesOf queue take) (sym k.take) (takes_on queue old.take k.taken takes)

pub still_posts : {L : Type 0} (P Q : ℕ → List Parcel → Type 0) (before after : Seen) (old new : Working L) (desk : TableId) → Keeps P Q before after old new → PostsOf desk old.post → PostsOf desk new.post
still_posts P Q before after old new desk k posts = subst (λ (post : Option Poster). PostsOf desk post) (sym k.post) (posts_on desk old.post k.posted posts)
