-- How lanes and workers are made (this project's profile): passes are parted among them, one after the other.
use Rattle.std.specs.Prelude.{◌≡◌, ◌≢◌, ◌%◌, ℕ, suc, List, [], ◌∷◌, ◌++◌, length, map, slice_get, Option, Some}
use Rattle.atomic_table.specs.Seated.{TableId}
use Rattle.batch_worker.specs.Begun.{begun_with as worker_begun_with}
use Rattle.batch_worker.specs.Seen.{Seen, seen}
use Rattle.batch_worker.specs.Standing.{StandsFor, length_of}
use Rattle.event_tree.specs.declared.output_rule.OutputRule.{OutputRule}
use Rattle.lanes.specs.Laning.{Laning, begun_with}
use Rattle.mem_queue.specs.declared.entry.Entry.{Entry}
use Rattle.mem_queue.specs.Known.{Known}
use Rattle.outside.specs.Talks.{Talk}
use Rattle.outside.specs.Wires.{Outcome}
use Rattle.pass_sums.specs.Share.{IsWorth}
use Rattle.settle_box.specs.Poster.{Poster, senders_of}
use Rattle.settle_box.specs.Senders.{posted_by}
use Rattle.wire_base.specs.declared.note.Note.{Note}
use Rattle.wire_base.specs.declared.host.Host.{Host}
use Rattle.rounds.specs.CarrierTurns.{begun_carried}
use Rattle.rounds.specs.Passes.{AreAllOf, Passes, entries, post_shares, senders, shares}
use Rattle.rounds.specs.Words.{WireWords}
use Rattle.rounds.specs.declared.carrier.Carrier.{Carrier}

-- these passes have parts of two, whose rests are these
pub record HaveParts (queue desk : TableId) (moves posts : List ℕ) (left : Known) (left_post : Poster) (all : List Passes) : Type 0 where
  pub of_queue : left.queue ≡ queue
  pub of_box : left_post.desk ≡ desk
  pub are : AreAllOf queue desk all
  pub share : IsWorth (shares all ++ left.share) moves
  pub post_share : IsWorth (post_shares all ++ left_post.share) posts

-- these passes have all of two
pub record HaveAll (queue desk : TableId) (moves posts : List ℕ) (all : List Passes) : Type 0 where
  pub some : all ≢ []
  pub are : AreAllOf queue desk all
  pub share : IsWorth (shares all) moves
  pub post_share : IsWorth (post_shares all) posts

-- these passes, with two whose rests these are, know of all that was moved and posted
pub record KnowWith (moved : List Entry) (posted : List Note) (left : Known) (left_post : Poster) (all : List Passes) : Type 0 where
  pub entries_are : entries all ++ left.entries ≡ moved
  pub notes_are : posted_by (senders all) ++ posted_by (senders_of left_post) ≡ posted

-- these passes know of all that was moved and posted
pub record KnowAll (moved : List Entry) (posted : List Note) (all : List Passes) : Type 0 where
  pub entries_are : entries all ≡ moved
  pub notes_are : posted_by (senders all) ≡ posted

-- ---- lanes

-- a lane is as it is made, with whatever passes
pub record IsBegunLane {T : Type 0} (lane : Laning T) : Type 0 where
  pub put : Known
  pub post : Poster
  pub is : lane ≡ begun_with put post

-- one more came after the others, as it is made
pub record AddsLane {T : Type 0} (put : Known) (post : Poster) (old new : List (Laning T)) : Type 0 where
  pub is : new ≡ old ++ begun_with put post ∷ []

-- ---- workers

-- a worker is as it is made by this rule, with whatever passes
pub record IsBegunCarrier {W L : Type 0} (rule : OutputRule) (carrier : Carrier W L) : Type 0 where
  pub take : Known
  pub post : Poster
  pub is : carrier.worker ≡ worker_begun_with carrier.worker.host rule take post
  pub carried_is : carrier.carried ≡ begun_carried

-- its wire's talks acknowledged nothing since it was made, whatever they were by then
abbrev pub StandsForNothing : {W L : Type 0} → (L → Option Talk) → Carrier W L → Type 0
StandsForNothing told carrier = (outcomes : Option (List Outcome)) → StandsFor told (length_of outcomes) carrier.worker outcomes []

-- worker by worker from this number on, each has the host of its number modulo the number of hosts
abbrev pub HaveHosts : {W L : Type 0} → List Host → ℕ → List (Carrier W L) → Type 0
HaveHosts hosts number [] = Unit {0}
HaveHosts hosts number (carrier ∷ carriers) = (slice_get hosts (number % length hosts) ≡ Some carrier.worker.host) × HaveHosts hosts (suc number) carriers

abbrev pub wires_of : {W L : Type 0} → List (Carrier W L) → List W
wires_of carriers = map (λ carrier. carrier.wire) carriers

-- one more came after the others: a worker of this rule with the first wire
pub record AddsCarrier {W L : Type 0} (rule : OutputRule) (number : ℕ) (take : Known) (post : Poster) (wires left : List W) (old new : List (Carrier W L)) : Type 0 where
  pub carrier : Carrier W L
  pub is : new ≡ old ++ carrier ∷ []
  pub wire_is : wires ≡ carrier.wire ∷ left
  pub worker_is : carrier.worker ≡ worker_begun_with carrier.worker.host rule take post
  pub carried_is : carrier.carried ≡ begun_carried
  pub host_is : slice_get rule.hosts (number % length rule.hosts) ≡ Some carrier.worker.host

-- workers of this rule stand for the first wires, and these are left
pub record HaveWires {W L : Type 0} (rule : OutputRule) (wires left : List W) (carriers : List (Carrier W L)) : Type 0 where
  pub in_order : wires ≡ wires_of carriers ++ left
  pub hosts : HaveHosts rule.hosts 0 carriers

-- what each wire shows
abbrev pub all_seen : {W : Type 0} → WireWords W → List W → List Seen
all_seen {W} words wires = map (λ (w : W). seen (words.outcomes w) (words.open_links w) (words.faults w) (words.idles w)) wires
