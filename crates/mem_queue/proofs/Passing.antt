-- Each step of the queue keeps the rule: splits and joins of passes.
use Rattle.std.proofs.Common.{◌≡◌, ℕ, ◌+◌, ◌≤◌, max, List, [], ◌++◌, set, Some, None, refl, sym, ap, ◌∙◌, arith}
use mathlib.Core.Option.{some}
use lib.ListN.{get_elem?}
use Rattle.crossbeam_queue.specs.Fifo.{Forks, Merges}
use Rattle.crossbeam_queue.proofs.Lists.{set_else}
use Rattle.wire_base.specs.declared.parcel.Parcel.{Parcel}
use Rattle.pass_sums.specs.Share.{share_at, kept_half, cut_half}
use Rattle.pass_sums.specs.Weight.{weigh}
use Rattle.pass_sums.proofs.Each.{both_empty}
use Rattle.pass_sums.proofs.Shares.{halving_scale, halved-weighs, kept_half_none, whole_split, whole_join}
use Rattle.pass_sums.proofs.Views.{each_set, each_snoc, weigh-set, weigh-snoc}
use Rattle.pass_sums.proofs.Weights.{weigh-append}
use Rattle.mem_queue.specs.declared.entry.Entry.{Entry}
use Rattle.mem_queue.specs.declared.rule.Hand.{Hand}
use Rattle.mem_queue.specs.Hand.{hand}
use Rattle.mem_queue.specs.Rule.{IsConserving, IsWithinRights, KnowsRest}

-- two views that make up one, neither of a closed queue
record Parts (v l r : Hand) : Type 0 where
  least : ℕ
  puts : (scale : ℕ) → least ≤ scale → share_at scale l.puts + share_at scale r.puts ≡ share_at scale v.puts
  takes : (scale : ℕ) → least ≤ scale → share_at scale l.takes + share_at scale r.takes ≡ share_at scale v.takes
  put : (h : Entry → ℕ) → weigh h l.put + weigh h r.put ≡ weigh h v.put
  taken : (h : Entry → ℕ) → weigh h l.taken + weigh h r.taken ≡ weigh h v.taken
  left : IsWithinRights l
  right : IsWithinRights r
  left_open : l.rest ≡ None
  right_open : r.rest ≡ None

-- a split
splits : (pass : ℕ) (v l r : Hand) → (IsWithinRights v → Parts v l r) → Forks IsConserving pass v l r
splits pass v l r cut items views rule at =
    let parts = cut (rule.rights pass v at) in record {
      puts = whole_split (λ (y : Hand). y.puts) views pass v l r at parts.least parts.puts rule.puts;
      takes = whole_split (λ (y : Hand). y.takes) views pass v l r at parts.least parts.takes rule.takes;
      conserved = record {
        gone = rule.conserved.gone;
        all_put = λ h. omega (
          arith,
          weigh-snoc (λ (y : Hand). y.put) h (set views pass l) r,
          weigh-set (λ (y : Hand). y.put) h views pass v l at,
          parts.put h,
          rule.conserved.all_put h,
        );
        all_taken = λ h. omega (
          arith,
          weigh-snoc (λ (y : Hand). y.taken) h (set views pass l) r,
          weigh-set (λ (y : Hand). y.taken) h views pass v l at,
          parts.taken h,
          rule.conserved.all_taken h,
        );
      };
      ranges = rule.ranges;
      rights = each_snoc IsWithinRights (set views pass l) r parts.right
          (each_set (λ _ u. IsWithinRights u) views pass l parts.left (λ other u _ there. rule.rights other u there));
      rests = each_snoc (λ u. (last : List Parcel) → u.rest ≡ Some last → KnowsRest u items last) (set views pass l) r
          (λ last known. let no = parts.right_open in absurd cc)
          (each_set (λ _ u. (last : List Parcel) → u.rest ≡ Some last → KnowsRest u items last) views pass l
          (λ last known. let no = parts.left_open in absurd cc)
          (λ other u _ there. rule.rests other u there));
    }

-- half of each right
pub halves : (pass : ℕ) (v : Hand) → Forks IsConserving pass v (hand (kept_half v.puts) (kept_half v.takes) v.put v.taken None) (hand (cut_half v.puts) (cut_half v.takes) [] [] None)
halves pass v = splits pass v _ _ (λ rights. record {
  least = max (halving_scale v.puts) (halving_scale v.takes);
  puts = λ scale fine. halved-weighs scale v.puts (omega arith);
  takes = λ scale fine. halved-weighs scale v.takes (omega arith);
  put = λ h. omega arith;
  taken = λ h. omega arith;
  left = record { put = λ none. rights.put (kept_half_none v.puts none); taken = λ none. rights.taken (kept_half_none v.takes none) };
  right = record { put = λ _. refl; taken = λ _. refl };
  left_open = refl;
  right_open = refl;
})

-- what concerns taking
pub sides : (pass : ℕ) (v : Hand) → Forks IsConserving pass v (hand v.puts [] v.put [] None) (hand [] v.takes [] v.taken None)
sides pass v = splits pass v _ _ (λ rights. record {
  least = 0;
  puts = λ scale fine. omega arith;
  takes = λ scale fine. omega arith;
  put = λ h. omega arith;
  taken = λ h. omega arith;
  left = record { put = rights.put; taken = λ _. refl };
  right = record { put = λ _. refl; taken = rights.taken };
  left_open = refl;
  right_open = refl;
})

-- all of it
pub moves_out : (pass : ℕ) (v : Hand) → Forks IsConserving pass v (hand [] [] [] [] None) (hand v.puts v.takes v.put v.taken None)
moves_out pass v = splits pass v _ _ (λ rights. record {
  least = 0;
  puts = λ scale fine. omega arith;
  takes = λ scale fine. omega arith;
  put = λ h. omega arith;
  taken = λ h. omega arith;
  left = record { put = λ _. refl; taken = λ _. refl };
  right = record { put = rights.put; taken = rights.taken };
  left_open = refl;
  right_open = refl;
})

abbrev pub together : Hand → Hand → Hand
together v u = hand (v.puts ++ u.puts) (v.takes ++ u.takes) (v.put ++ u.put) (v.taken ++ u.taken) None

abbrev pub spent : Hand
spent = hand [] [] [] [] None

rights_together : (v u : Hand) → IsWithinRights v → IsWithinRights u → IsWithinRights (together v u)
rights_together v u mine theirs = record {
  put = λ none.
      let parts = both_empty v.puts u.puts none in
      ap (λ (es : List Entry). es ++ u.put) (mine.put parts.0) ∙ theirs.put parts.1;
  taken = λ none.
      let parts = both_empty v.takes u.takes none in
      ap (λ (es : List Entry). es ++ u.taken) (mine.taken parts.0) ∙ theirs.taken parts.1;
}

-- a join
pub joins : (pass : ℕ) (v : Hand) (other : ℕ) (u : Hand) → Merges IsConserving pass v other u (together v u) spent
joins pass v other u items views rule at apart there =
    let both = together v u in
    let after = set views pass both in
    let was : get_elem? views other ≡ some u = sym (set_else views pass other both apart) ∙ there in
    record {
      puts = whole_join (λ (y : Hand). y.puts) views pass other v u both spent at there refl refl rule.puts;
      takes = whole_join (λ (y : Hand). y.takes) views pass other v u both spent at there refl refl rule.takes;
      conserved = record {
        gone = rule.conserved.gone;
        all_put = λ h. omega (
          arith,
          weigh-set (λ (y : Hand). y.put) h views pass v both at,
          weigh-set (λ (y : Hand). y.put) h after other u spent there,
          weigh-append h v.put u.put,
          rule.conserved.all_put h,
        );
        all_taken = λ h. omega (
          arith,
          weigh-set (λ (y : Hand). y.taken) h views pass v both at,
          weigh-set (λ (y : Hand). y.taken) h after other u spent there,
          weigh-append h v.taken u.taken,
          rule.conserved.all_taken h,
        );
      };
      ranges = rule.ranges;
      rights = each_set (λ _ y. IsWithinRights y) after other spent (record { put = λ _. refl; taken = λ _. refl })
          (λ k y _. each_set (λ _ y. IsWithinRights y) views pass both (rights_together v u (rule.rights pass v at) (rule.rights other u was)) (λ k y _. rule.rights k y) k y);
      rests = each_set (λ _ y. (last : List Parcel) → y.rest ≡ Some last → KnowsRest y items last) after other spent (λ last known. absurd cc)
          (λ k y _. each_set (λ _ y. (last : List Parcel) → y.rest ≡ Some last → KnowsRest y items last) views pass both (λ last known. absurd cc) (λ k y _. rule.rests k y) k y);
    }
