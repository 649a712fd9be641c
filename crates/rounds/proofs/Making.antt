-- Passes that are parted among lanes and workers are whole again with all of them; each worker has its own wire.
use Rattle.std.specs.Bool.{OnFalse, OnTrue}
use Rattle.std.specs.List.{AllByRecursion, flat_map}
use Rattle.std.proofs.Common.{Bool, true, false, ◌≡◌, ◌≢◌, ℕ, suc, ◌+◌, ◌-◌, ◌%◌, max, All, List, [], ◌∷◌, ◌++◌, length, take, drop, slice_index_or, ◌<◌, Option, Some, None, map, slice_get, refl, sym, ap, subst, ◌∙◌, arith}
use Rattle.std.proofs.lemmas.List.{append_assoc, append-nil, map-append}
use Rattle.std.proofs.lemmas.List.Elements.{All-append, All-cons, All-from_recursion, All-nil, recursion_from_All}
use Rattle.atomic_table.specs.Seated.{TableId}
use Rattle.batch_worker.specs.Begun.{begun_with as worker_begun_with}
use Rattle.batch_worker.specs.Seen.{Seen}
use Rattle.batch_worker.specs.Working.{Working}
use Rattle.event_tree.specs.declared.output_rule.OutputRule.{OutputRule}
use Rattle.lanes.specs.Laning.{Laning, begun_with, laning}
use Rattle.lanes.specs.declared.lane.Lane.{Lane}
use Rattle.mem_queue.specs.Known.{Known, known}
use Rattle.pass_sums.specs.Share.{IsWorth, cut_half, doubled, kept_half}
use Rattle.pass_sums.specs.Weight.{weigh}
use Rattle.pass_sums.proofs.Shares.{halved-weighs, halving_scale, worth_itself}
use Rattle.pass_sums.proofs.Views.{weigh-snoc}
use Rattle.pass_sums.proofs.Weights.{weigh-append}
use Rattle.mem_queue.specs.declared.entry.Entry.{Entry}
use Rattle.settle_box.specs.Poster.{Poster, poster, senders_of}
use Rattle.settle_box.specs.Senders.{child_of, posted_by, split_once}
use Rattle.settle_box.specs.declared.sender.Sender.{Sender}
use Rattle.wire_base.specs.declared.note.Note.{Note}
use Rattle.wire_base.specs.declared.host.Host.{Host}
use Rattle.rounds.specs.CarrierTurns.{begun_carried}
use Rattle.rounds.specs.Crewed.{carrier_passes, carriers_passes, lane_passes, lanes_passes, lanings}
use Rattle.rounds.specs.Making.{AddsCarrier, AddsLane, HaveAll, HaveHosts, HaveParts, HaveWires, IsBegunCarrier, IsBegunLane, KnowAll, KnowWith, all_seen, wires_of}
use Rattle.rounds.specs.Passes.{AreAllOf, AreOf, Passes, entries, entries_in, post_share_in, post_shares, senders, senders_in, share_in, shares}
use Rattle.rounds.specs.Words.{WireWords}
use Rattle.rounds.specs.declared.carrier.Carrier.{Carrier}

-- ---- what holds where a call went well

pub on_true : {P Q : Type 0} (result : Bool) → (P → Q) → OnTrue result P → OnTrue result Q
on_true true then holds = then holds
on_true false then holds = tt

-- ---- shares

module _ {V : Type 0} (share : V → List ℕ) (views : List V) (v : V) (left whole : List ℕ) where
  part_of : share v ≡ cut_half left → IsWorth (flat_map share views ++ left) whole → IsWorth (flat_map share (views ++ v ∷ []) ++ kept_half left) whole
  part_of is worth = record {
    least = max worth.least (halving_scale left);
    same = λ scale fine.
        let h = λ (halvings : ℕ). doubled (scale - halvings) in
        omega (
          arith,
          weigh-append h (flat_map share (views ++ v ∷ [])) (kept_half left),
          weigh-snoc share h views v,
          ap (weigh h) is,
          halved-weighs scale left (omega arith),
          weigh-append h (flat_map share views) left,
          worth.same scale (omega arith),
        );
  }

  rest_of : share v ≡ left → IsWorth (flat_map share views ++ left) whole → IsWorth (flat_map share (views ++ v ∷ [])) whole
  rest_of is worth = record {
    least = worth.least;
    same = λ scale fine.
        let h = λ (halvings : ℕ). doubled (scale - halvings) in
        omega (arith, weigh-snoc share h views v, ap (weigh h) is, weigh-append h (flat_map share views) left, worth.same scale fine);
  }

-- ---- one after the others

each_snoc : {V : Type 0} (P : V → Type 0) (views : List V) (v : V) → AllByRecursion P views → P v → AllByRecursion P (views ++ v ∷ [])
each_snoc P [] v each one = (one, tt)
each_snoc P (x ∷ xs) v each one = (each.0, each_snoc P xs v each.1 one)

abbrev IsCons : {A : Type 0} → List A → Type 0
IsCons [] = ⊥
IsCons (x ∷ xs) = Unit {0}

snoc_some : {A : Type 0} (xs : List A) (x : A) → xs ++ x ∷ [] ≢ []
snoc_some [] x = λ is. absurd (subst IsCons is tt)
snoc_some (y ∷ ys) x = λ is. absurd (subst IsCons is tt)

abbrev these : Option Known → Option Poster → Passes
these moves post = record { moves = moves; post = post }

abbrev both : Known → Poster → Passes
both moves post = these (Some moves) (Some post)

-- ---- parts

module _ (queue desk : TableId) where
  pub begin_parts : (left : Known) (left_post : Poster) → left.queue ≡ queue → left_post.desk ≡ desk → HaveParts queue desk left.share left_post.share left left_post []
  begin_parts left left_post of_queue of_box = record {
    of_queue = of_queue;
    of_box = of_box;
    are = tt;
    share = worth_itself left.share left.share refl;
    post_share = worth_itself left_post.share left_post.share refl;
  }

  module _ (moves posts : List ℕ) (left : Known) (left_post : Poster) (all : List Passes) (have : HaveParts queue desk moves posts left left_post all) where
    abbrev kept : Known
    kept = known left.queue (kept_half left.share) left.entries

    abbrev cut : Known
    cut = known left.queue (cut_half left.share) []

    abbrev kept_by : Poster
    kept_by = poster left_post.desk (kept_half left_post.share) (split_once left_post.mine) left_post.joined

    abbrev cut_by : Poster
    cut_by = poster left_post.desk (cut_half left_post.share) (child_of left_post.mine) []

    part_one : HaveParts queue desk moves posts kept kept_by (all ++ both cut cut_by ∷ [])
    part_one = record {
      of_queue = have.of_queue;
      of_box = have.of_box;
      are = each_snoc (AreOf queue desk) all (both cut cut_by) have.are (record { moves = have.of_queue; post = have.of_box });
      share = part_of (λ (p : Passes). share_in p.moves) all (both cut cut_by) left.share moves refl have.share;
      post_share = part_of (λ (p : Passes). post_share_in p.post) all (both cut cut_by) left_post.share posts refl have.post_share;
    }

    -- the same, as the calls tell it
    one_parted : (left_new its : Known) (left_post_new its_post : Poster) (new : List Passes) → left_new ≡ kept → its ≡ cut → left_post_new ≡ kept_by → its_post ≡ cut_by
        → new ≡ all ++ both its its_post ∷ [] → HaveParts queue desk moves posts left_new left_post_new new
    one_parted left_new its left_post_new its_post new kept_is cut_is kept_by_is cut_by_is new_is =
        rw (new_is, kept_is, cut_is, kept_by_is, cut_by_is) part_one

    all_parted : (new : List Passes) → new ≡ all ++ both left left_post ∷ [] → HaveAll queue desk moves posts new
    all_parted new new_is = rw (new_is) (record {
      some = snoc_some all (both left left_post);
      are = each_snoc (AreOf queue desk) all (both left left_post) have.are (record { moves = have.of_queue; post = have.of_box });
      share = rest_of (λ (p : Passes). share_in p.moves) all (both left left_post) left.share moves refl have.share;
      post_share = rest_of (λ (p : Passes). post_share_in p.post) all (both left left_post) left_post.share posts refl have.post_share;
    })

-- ---- what they know

snoc_given : {A V : Type 0} (f : V → List A) (views : List V) (v : V) → flat_map f (views ++ v ∷ []) ≡ flat_map f views ++ f v
snoc_given f [] v = append-nil (f v)
snoc_given f (x ∷ views) v = ap (λ l. f x ++ l) (snoc_given f views v) ∙ sym (append_assoc (f x) (flat_map f views) (f v))

posted_both : (xs ys : List Sender) → posted_by (xs ++ ys) ≡ posted_by xs ++ posted_by ys
posted_both [] ys = refl
posted_both (x ∷ xs) ys = ap (λ (l : List Note). x.posted ++ l) (posted_both xs ys) ∙ sym (append_assoc x.posted (posted_by xs) (posted_by ys))

module _ (all : List Passes) (its : Known) (its_post : Poster) where
  entries_snoc : entries (all ++ both its its_post ∷ []) ≡ entries all ++ its.entries
  entries_snoc = snoc_given (λ (p : Passes). entries_in p.moves) all (both its its_post)

  posted_snoc : posted_by (senders (all ++ both its its_post ∷ [])) ≡ posted_by (senders all) ++ posted_by (senders_of its_post)
  posted_snoc = ap posted_by (snoc_given (λ (p : Passes). senders_in p.post) all (both its its_post)) ∙ posted_both (senders all) (senders_of its_post)

pub begin_known : (left : Known) (left_post : Poster) → KnowWith left.entries (posted_by (senders_of left_post)) left left_post []
begin_known left left_post = record { entries_are = refl; notes_are = refl }

module _ (moved : List Entry) (posted : List Note) (left : Known) (left_post : Poster) (all : List Passes) (know : KnowWith moved posted left left_post all) where
  -- a part that was cut off knows of nothing yet
  pub one_known : (left_new its : Known) (left_post_new its_post : Poster) (new : List Passes) → left_new ≡ known left.queue (kept_half left.share) left.entries → its ≡ known left.queue (cut_half left.share) []
      → left_post_new ≡ poster left_post.desk (kept_half left_post.share) (split_once left_post.mine) left_post.joined → its_post ≡ poster left_post.desk (cut_half left_post.share) (child_of left_post.mine) []
      → new ≡ all ++ both its its_post ∷ [] → KnowWith moved posted left_new left_post_new new
  one_known left_new its left_post_new its_post new kept_is cut_is kept_by_is cut_by_is new_is = record {
    entries_are = ap (λ (l : List Passes). entries l ++ left_new.entries) new_is ∙ ap (λ (l : List Entry). l ++ left_new.entries) (entries_snoc all its its_post)
        ∙ ap (λ (k : Known). (entries all ++ k.entries) ++ left_new.entries) cut_is ∙ ap (λ (l : List Entry). l ++ left_new.entries) (append-nil (entries all))
        ∙ ap (λ (k : Known). entries all ++ k.entries) kept_is ∙ know.entries_are;
    notes_are = ap (λ (l : List Passes). posted_by (senders l) ++ posted_by (senders_of left_post_new)) new_is
        ∙ ap (λ (l : List Note). l ++ posted_by (senders_of left_post_new)) (posted_snoc all its its_post)
        ∙ ap (λ (p : Poster). (posted_by (senders all) ++ posted_by (senders_of p)) ++ posted_by (senders_of left_post_new)) cut_by_is
        ∙ ap (λ (l : List Note). l ++ posted_by (senders_of left_post_new)) (append-nil (posted_by (senders all)))
        ∙ ap (λ (p : Poster). posted_by (senders all) ++ posted_by (senders_of p)) kept_by_is ∙ know.notes_are;
  }

  -- with the rests, all is known
  pub all_known : (new : List Passes) → new ≡ all ++ both left left_post ∷ [] → KnowAll moved posted new
  all_known new new_is = record {
    entries_are = ap entries new_is ∙ entries_snoc all left left_post ∙ know.entries_are;
    notes_are = ap (λ (l : List Passes). posted_by (senders l)) new_is ∙ posted_snoc all left left_post ∙ know.notes_are;
  }

-- ---- lanes

-- a lane of a list of lanes
pub lane_added : {T : Type 0} (put : Known) (post : Poster) (old new : List (Lane T)) (one : Lane T) → new ≡ old ++ one ∷ [] → laning one ≡ begun_with put post → AddsLane put post (lanings old) (lanings new)
lane_added put post old new one is begun = record { is = ap lanings is ∙ map-append laning old (one ∷ []) ∙ ap (λ (l : Laning _). lanings old ++ l ∷ []) begun }

module _ {T : Type 0} (put : Known) (post : Poster) (old new : List (Laning T)) (adds : AddsLane put post old new) where
  pub lane_passes_added : lanes_passes new ≡ lanes_passes old ++ both put post ∷ []
  lane_passes_added = ap lanes_passes adds.is ∙ map-append lane_passes old (begun_with put post ∷ [])

  pub added_lane_begun : All IsBegunLane old → All IsBegunLane new
  added_lane_begun begun = subst (All IsBegunLane) (sym adds.is)
      (All-append IsBegunLane old (begun_with put post ∷ []) begun
      (All-cons IsBegunLane (begun_with put post) [] (record { put = put; post = post; is = refl }) (All-nil IsBegunLane)))

  pub lane_parted : (queue desk : TableId) (moves posts : List ℕ) (left left_new : Known) (left_post left_post_new : Poster) → left_new ≡ known left.queue (kept_half left.share) left.entries → put ≡ known left.queue (cut_half left.share) []
      → left_post_new ≡ poster left_post.desk (kept_half left_post.share) (split_once left_post.mine) left_post.joined → post ≡ poster left_post.desk (cut_half left_post.share) (child_of left_post.mine) []
      → HaveParts queue desk moves posts left left_post (lanes_passes old) → HaveParts queue desk moves posts left_new left_post_new (lanes_passes new)
  lane_parted queue desk moves posts left left_new left_post left_post_new kept_is cut_is kept_by_is cut_by_is have =
      one_parted queue desk moves posts left left_post (lanes_passes old) have left_new put left_post_new post (lanes_passes new) kept_is cut_is kept_by_is cut_by_is lane_passes_added

  pub lane_known : (moved : List Entry) (posted : List Note) (left left_new : Known) (left_post left_post_new : Poster) → left_new ≡ known left.queue (kept_half left.share) left.entries → put ≡ known left.queue (cut_half left.share) []
      → left_post_new ≡ poster left_post.desk (kept_half left_post.share) (split_once left_post.mine) left_post.joined → post ≡ poster left_post.desk (cut_half left_post.share) (child_of left_post.mine) []
      → KnowWith moved posted left left_post (lanes_passes old) → KnowWith moved posted left_new left_post_new (lanes_passes new)
  lane_known moved posted left left_new left_post left_post_new kept_is cut_is kept_by_is cut_by_is know =
      one_known moved posted left left_post (lanes_passes old) know left_new put left_post_new post (lanes_passes new) kept_is cut_is kept_by_is cut_by_is lane_passes_added

  pub last_lane_known : (moved : List Entry) (posted : List Note) → KnowWith moved posted put post (lanes_passes old) → KnowAll moved posted (lanes_passes new)
  last_lane_known moved posted know = all_known moved posted put post (lanes_passes old) know (lanes_passes new) lane_passes_added

  pub last_lane_parted : (queue desk : TableId) (moves posts : List ℕ) → HaveParts queue desk moves posts put post (lanes_passes old) → HaveAll queue desk moves posts (lanes_passes new)
  last_lane_parted queue desk moves posts have = all_parted queue desk moves posts put post (lanes_passes old) have (lanes_passes new) lane_passes_added

-- ---- workers

hosts_on : {W L : Type 0} (hosts : List Host) (number : ℕ) (carriers : List (Carrier W L)) (one : Carrier W L) → HaveHosts hosts number carriers
    → slice_get hosts ((number + length carriers) % length hosts) ≡ Some one.worker.host → HaveHosts hosts number (carriers ++ one ∷ [])
hosts_on hosts number [] one have host = (subst (λ (n : ℕ). slice_get hosts (n % length hosts) ≡ Some one.worker.host) (omega arith) host, tt)
hosts_on hosts number (c ∷ cs) one have host = (have.0, hosts_on hosts (suc number) cs one have.1 (subst (λ (n : ℕ). slice_get hosts (n % length hosts) ≡ Some one.worker.host) (omega arith) host))

pub first_and_rest : {A : Type 0} (items : List A) (one : A) (rest : List A) → 0 < length items → one ≡ slice_index_or items 0 one → rest ≡ take 0 items ++ drop 1 items → items ≡ one ∷ rest
first_and_rest [] one rest some first rest_is = absurd (omega (arith, some))
first_and_rest (x ∷ xs) one rest some first rest_is = ap (λ (y : _). y ∷ xs) (sym first) ∙ ap (λ (ys : List _). one ∷ ys) (sym rest_is)

pub adds_carrier : {W L : Type 0} (rule : OutputRule) (number : ℕ) (take_pass : Known) (post : Poster) (wires left : List W) (old new : List (Carrier W L)) (worker : Working L) (wire : W) (one : Carrier W L)
    → one ≡ record { worker = worker; wire = wire; carried = begun_carried } → new ≡ old ++ one ∷ [] → wires ≡ wire ∷ left → worker ≡ worker_begun_with worker.host rule take_pass post
    → slice_get rule.hosts (number % length rule.hosts) ≡ Some worker.host → AddsCarrier rule number take_pass post wires left old new
adds_carrier {W} {L} rule number take_pass post wires left old new worker wire one one_is new_is wires_are begun host = record {
  carrier = one;
  is = new_is;
  wire_is = wires_are ∙ ap (λ (w : W). w ∷ left) (sym (ap (λ (k : Carrier W L). k.wire) one_is));
  worker_is = subst (λ (w : Working L). w ≡ worker_begun_with w.host rule take_pass post) (sym (ap (λ (k : Carrier W L). k.worker) one_is)) begun;
  carried_is = ap (λ (k : Carrier W L). k.carried) one_is;
  host_is = subst (λ (w : Working L). slice_get rule.hosts (number % length rule.hosts) ≡ Some w.host) (sym (ap (λ (k : Carrier W L). k.worker) one_is)) host;
}

module _ {W L : Type 0} (rule : OutputRule) (number : ℕ) (take : Known) (post : Poster) (wires left : List W) (old new : List (Carrier W L)) (adds : AddsCarrier rule number take post wires left old new) where
  pub carrier_passes_added : carriers_passes new ≡ carriers_passes old ++ both take post ∷ []
  carrier_passes_added =
      ap carriers_passes adds.is ∙ map-append carrier_passes old (adds.carrier ∷ [])
      ∙ ap (λ (w : Working _). carriers_passes old ++ these w.take w.post ∷ []) adds.worker_is

  pub added_carrier_begun : All (IsBegunCarrier rule) old → All (IsBegunCarrier rule) new
  added_carrier_begun begun = subst (All (IsBegunCarrier rule)) (sym adds.is)
      (All-append (IsBegunCarrier rule) old (adds.carrier ∷ []) begun
      (All-cons (IsBegunCarrier rule) adds.carrier [] (record { take = take; post = post; is = adds.worker_is; carried_is = adds.carried_is }) (All-nil (IsBegunCarrier rule))))

  pub carrier_parted : (queue desk : TableId) (moves posts : List ℕ) (left left_new : Known) (left_post left_post_new : Poster) → left_new ≡ known left.queue (kept_half left.share) left.entries → take ≡ known left.queue (cut_half left.share) []
      → left_post_new ≡ poster left_post.desk (kept_half left_post.share) (split_once left_post.mine) left_post.joined → post ≡ poster left_post.desk (cut_half left_post.share) (child_of left_post.mine) []
      → HaveParts queue desk moves posts left left_post (carriers_passes old) → HaveParts queue desk moves posts left_new left_post_new (carriers_passes new)
  carrier_parted queue desk moves posts left left_new left_post left_post_new kept_is cut_is kept_by_is cut_by_is have =
      one_parted queue desk moves posts left left_post (carriers_passes old) have left_new take left_post_new post (carriers_passes new) kept_is cut_is kept_by_is cut_by_is carrier_passes_added

  pub carrier_known : (moved : List Entry) (posted : List Note) (left left_new : Known) (left_post left_post_new : Poster) → left_new ≡ known left.queue (kept_half left.share) left.entries → take ≡ known left.queue (cut_half left.share) []
      → left_post_new ≡ poster left_post.desk (kept_half left_post.share) (split_once left_post.mine) left_post.joined → post ≡ poster left_post.desk (cut_half left_post.share) (child_of left_post.mine) []
      → KnowWith moved posted left left_post (carriers_passes old) → KnowWith moved posted left_new left_post_new (carriers_passes new)
  carrier_known moved posted left left_new left_post left_post_new kept_is cut_is kept_by_is cut_by_is know =
      one_known moved posted left left_post (carriers_passes old) know left_new take left_post_new post (carriers_passes new) kept_is cut_is kept_by_is cut_by_is carrier_passes_added

  pub last_carrier_known : (moved : List Entry) (posted : List Note) → KnowWith moved posted take post (carriers_passes old) → KnowAll moved posted (carriers_passes new)
  last_carrier_known moved posted know = all_known moved posted take post (carriers_passes old) know (carriers_passes new) carrier_passes_added

  pub last_carrier_parted : (queue desk : TableId) (moves posts : List ℕ) → HaveParts queue desk moves posts take post (carriers_passes old) → HaveAll queue desk moves posts (carriers_passes new)
  last_carrier_parted queue desk moves posts have = all_parted queue desk moves posts take post (carriers_passes old) have (carriers_passes new) carrier_passes_added

  wires_shifted : wires_of old ++ (adds.carrier.wire ∷ left) ≡ wires_of (old ++ adds.carrier ∷ []) ++ left
  wires_shifted = sym (ap (λ (ws : List W). ws ++ left) (map-append (λ (c : Carrier W L). c.wire) old (adds.carrier ∷ [])) ∙ append_assoc (wires_of old) (adds.carrier.wire ∷ []) left)

  pub wires_on : (all : List W) → length old ≡ number → HaveWires rule all wires old → HaveWires rule all left new
  wires_on all many have = record {
    in_order = have.in_order ∙ ap (λ (ws : List W). wires_of old ++ ws) adds.wire_is ∙ wires_shifted ∙ ap (λ (cs : List (Carrier W L)). wires_of cs ++ left) (sym adds.is);
    hosts = subst (HaveHosts rule.hosts 0) (sym adds.is)
        (hosts_on rule.hosts 0 old adds.carrier have.hosts (subst (λ (n : ℕ). slice_get rule.hosts (n % length rule.hosts) ≡ Some adds.carrier.worker.host) (omega (arith, many)) adds.host_is));
  }

module _ {W L : Type 0} (rule : OutputRule) (number : ℕ) (take : Known) (post : Poster) (wires left : List W) (old new : List (Carrier W L)) where
  -- whether one came or not
  pub begun_either : (result : Bool) → OnTrue result (AddsCarrier rule number take post wires left old new) → OnFalse result ((left ≡ wires) × (new ≡ old)) → All (IsBegunCarrier rule) old → All (IsBegunCarrier rule) new
  begun_either true adds same begun = added_carrier_begun rule number take post wires left old new adds begun
  begun_either false adds same begun = subst (All (IsBegunCarrier rule)) (sym same.1) begun

  pub wires_either : (result : Bool) → OnTrue result (AddsCarrier rule number take post wires left old new) → OnFalse result ((left ≡ wires) × (new ≡ old)) → (all : List W) → length old ≡ number → HaveWires rule all wires old → HaveWires rule all left new
  wires_either true adds same all many have = wires_on rule number take post wires left old new adds all many have
  wires_either false adds same all many have =
      subst (λ (ws : List W). HaveWires rule all ws new) (sym same.0) (subst (λ (cs : List (Carrier W L)). HaveWires rule all wires cs) (sym same.1) have)

-- ---- workers that are let go again

module _ {W L : Type 0} (words : WireWords W) where
  -- the last one's wire is put before the others
  pub seen_on : (before after : List (Carrier W L)) (one : Carrier W L) (wires later : List W) → before ≡ after ++ one ∷ [] → all_seen words later ≡ all_seen words (one.wire ∷ wires)
      → all_seen words (wires_of after ++ later) ≡ all_seen words (wires_of before ++ wires)
  seen_on before after one wires later is same =
      map-append _ (wires_of after) later
      ∙ ap (λ (all : List Seen). all_seen words (wires_of after) ++ all) same
      ∙ sym (map-append _ (wires_of after) (one.wire ∷ wires))
      ∙ ap (all_seen words) (sym (ap (λ (ws : List W). ws ++ wires) (map-append (λ (c : Carrier W L). c.wire) after (one ∷ [])) ∙ append_assoc (wires_of after) (one.wire ∷ []) wires))
      ∙ ap (λ (cs : List (Carrier W L)). all_seen words (wires_of cs ++ wires)) (sym is)

split_snoc : {A : Type 0} (P : A → Type 0) (xs : List A) (x : A) → AllByRecursion P (xs ++ x ∷ []) → AllByRecursion P xs × P x
split_snoc P [] x each = (tt, each.0)
split_snoc P (y ∷ ys) x each = let rest = split_snoc P ys x each.1 in ((each.0, rest.0), rest.1)

pub all_but_last : {A : Type 0} (P : A → Type 0) (all xs : List A) (x : A) → all ≡ xs ++ x ∷ [] → All P all → All P xs
all_but_last P all xs x is each = All-from_recursion P xs (split_snoc P xs x (recursion_from_All P (xs ++ x ∷ []) (subst (All P) is each))).0

pub last_of : {A : Type 0} (P : A → Type 0) (all xs : List A) (x : A) → all ≡ xs ++ x ∷ [] → All P all → P x
last_of P all xs x is each = (split_snoc P xs x (recursion_from_All P (xs ++ x ∷ []) (subst (All P) is each))).1

nil_by : {A : Type 0} (xs : List A) → length xs ≡ 0 → xs ≡ []
nil_by [] none = refl
nil_by (x ∷ xs) none = absurd (omega (arith, none))

-- once none of them is left
pub seen_none_left : {W L : Type 0} (words : WireWords W) (carriers : List (Carrier W L)) (wires : List W) (whole : List Seen) → length carriers ≡ 0 → all_seen words (wires_of carriers ++ wires) ≡ whole → all_seen words wires ≡ whole
seen_none_left {W} {L} words carriers wires whole none seen = subst (λ (cs : List (Carrier W L)). all_seen words (wires_of cs ++ wires) ≡ whole) (nil_by carriers none) seen
