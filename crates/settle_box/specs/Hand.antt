-- What a pass knows (this project's profile).
use Rattle.std.specs.Prelude.{◌≡◌, ◌≢◌, ℕ, ◌-◌, ◌^◌, min, List, [], ◌∷◌, Option, None}
use Rattle.crossbeam_queue.specs.Passes.{Pass, view}
use Rattle.wire_base.specs.declared.note.Note.{Note}
use Rattle.settle_box.specs.declared.rule.Hand.{Hand}
use Rattle.settle_box.specs.declared.sender.Sender.{Sender}
use Rattle.settle_box.specs.declared.sender.Sent.{Sent}
use Rattle.settle_box.specs.Collector.{Collector, collector}
use Rattle.settle_box.specs.Poster.{Poster, poster}
use Rattle.settle_box.specs.Senders.{posts_of, sender}

abbrev pub hand : List ℕ → List ℕ → List Sender → List Sent → Option (List Sent) → Hand
hand posts collects senders got rest = record { posts = posts; collects = collects; senders = senders; got = got; rest = rest }

abbrev pub first_of : List Sender → Sender
first_of [] = sender [] 0 []
first_of (s ∷ senders) = s

abbrev pub others_of : List Sender → List Sender
others_of [] = []
others_of (s ∷ senders) = senders

-- a pass that can post and does nothing else, and how many notes were posted by it, up to what fits
pub record IsPostingPass (pass : Pass Note Hand) (count : ℕ) : Type 0 where
  pub no_slot_out : pass.me.1 ≡ []
  pub may : (view pass).posts ≢ []
  pub named : (view pass).senders ≡ first_of (view pass).senders ∷ others_of (view pass).senders
  pub collects : (view pass).collects ≡ []
  pub got : (view pass).got ≡ []
  pub not_closed : (view pass).rest ≡ None
  pub counted : count ≡ min (posts_of (view pass).senders) (2 ^ 64 - 1)

-- the pass that can collect and does nothing else
pub record IsCollectingPass (pass : Pass Note Hand) : Type 0 where
  pub no_slot_out : pass.me.1 ≡ []
  pub may : (view pass).collects ≡ 0 ∷ []
  pub posts : (view pass).posts ≡ []
  pub senders : (view pass).senders ≡ []
  pub not_closed : (view pass).rest ≡ None

-- what contracts see of a pass that posts
abbrev pub poster_of : Pass Note Hand → Poster
poster_of pass = poster pass.table_id (view pass).posts (first_of (view pass).senders) (others_of (view pass).senders)

-- what contracts see of the pass that collects
abbrev pub collector_of : Pass Note Hand → Collector
collector_of pass = collector pass.table_id (view pass).got
