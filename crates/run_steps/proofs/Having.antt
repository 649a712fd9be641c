-- All passes are still there, where each lane and each worker has what it had.
use Rattle.std.proofs.Common.{◌≡◌, ◌≢◌, List, [], ◌∷◌, ◌++◌, length, refl, sym, ap, subst, arith}
use Rattle.atomic_table.specs.Seated.{TableId}
use Rattle.lanes.specs.Laning.{Laning}
use Rattle.pass_sums.specs.Share.{IsWhole}
use Rattle.rounds.specs.Crewed.{carriers_passes, lanes_passes}
use Rattle.rounds.specs.Meeting.{HaveAllPasses}
use Rattle.rounds.specs.Passes.{AreAllOf, Passes, post_shares, shares}
use Rattle.rounds.specs.declared.carrier.Carrier.{Carrier}

pub some_still : {A : Type 0} (old new : List A) → length new ≡ length old → old ≢ [] → new ≢ []
some_still [] new many some = absurd (some refl)
some_still (x ∷ old) new many some = λ none. absurd (omega (arith, many, ap length none))

pub have_still : {T W L : Type 0} (queue desk : TableId) (old new : List (Laning T)) (carriers later : List (Carrier W L)) → lanes_passes new ≡ lanes_passes old → later ≡ carriers
    → HaveAllPasses queue desk old carriers → HaveAllPasses queue desk new later
have_still {T} {W} {L} queue desk old new carriers later passes same have = record {
  lanes_have = subst (AreAllOf queue desk) (sym passes) have.lanes_have;
  carriers_have = subst (λ (l : List (Carrier W L)). AreAllOf queue desk (carriers_passes l)) (sym same) have.carriers_have;
  puts = subst (λ (l : List Passes). IsWhole (shares l)) (sym passes) have.puts;
  takes = subst (λ (l : List (Carrier W L)). IsWhole (shares (carriers_passes l))) (sym same) have.takes;
  posts = subst (λ (l : List Passes). IsWhole (post_shares l ++ post_shares (carriers_passes later))) (sym passes)
      (subst (λ (l : List (Carrier W L)). IsWhole (post_shares (lanes_passes old) ++ post_shares (carriers_passes l))) (sym same) have.posts);
}
