-- Harvesters that stand for files go on standing for them in another list of openings that has those of their slots.
use Rattle.std.proofs.Common.{◌≡◌, ℕ, List, [], ◌∷◌, Contains, map}
use Rattle.std.proofs.lemmas.List.Elements.{Contains-append_left, Contains-append_right}
use Rattle.accounts.specs.Opened.{Opened}
use Rattle.accounts.specs.Turned.{Turned}
use Rattle.accounts.specs.Turning.{IsTurnedSo, Pairs}
use Rattle.accounts.specs.Watch.{Watch}
use Rattle.harvester.specs.declared.harvester.Harvester.{Harvester}
use Rattle.lanes.specs.Laning.{Laning}
use Rattle.rounds.specs.Words.{TailWords}
use Rattle.ship_core.proofs.Members.{first_there, later_there}
use Rattle.run_steps.specs.SoFar.{Left}
use Rattle.run_steps.specs.Stands.{AreTurnedIn}
use Rattle.run_steps.proofs.Admitting.{all_of}

abbrev pub turned_in : List Left → List Turned
turned_in left = map (λ (l : Left). l.turned) left

module _ {T : Type 0} (tails : TailWords T) (watch : Watch) (opened others : List Opened) (moments : List ℕ) (among : List Turned)
    (still : (t : Turned) (file : Opened) → Contains among t → t.slot ≡ file.begin.slot → Contains opened file → Contains others file) where
  turned_one : (ts : List Turned) (hs : List (Harvester T)) → ((t : Turned) → Contains ts t → Contains among t) → Pairs (IsTurnedSo tails.numbers tails.told watch opened moments) ts hs →
      Pairs (IsTurnedSo tails.numbers tails.told watch others moments) ts hs
  turned_one [] [] within pairs = tt
  turned_one [] (h ∷ hs) within pairs = absurd pairs
  turned_one (t ∷ ts) [] within pairs = absurd pairs
  turned_one (t ∷ ts) (h ∷ hs) within pairs = (
    record {
      has_told = pairs.0.has_told;
      opened = pairs.0.opened;
      of_files = still t pairs.0.opened (within t (first_there t ts)) pairs.0.is_told.slot pairs.0.of_files;
      is_told = pairs.0.is_told;
      numbers_are = pairs.0.numbers_are;
      rests = pairs.0.rests;
    },
    turned_one ts hs (λ u there. within u (later_there t u ts there)) pairs.1,
  )

  pub turned_lanes : (files : List (List Turned)) (lanes : List (Laning T)) → ((t : Turned) → Contains (all_of files) t → Contains among t) → Pairs (AreTurnedIn tails watch opened moments) files lanes →
      Pairs (AreTurnedIn tails watch others moments) files lanes
  turned_lanes [] [] within pairs = tt
  turned_lanes [] (lane ∷ lanes) within pairs = absurd pairs
  turned_lanes (ts ∷ files) [] within pairs = absurd pairs
  turned_lanes (ts ∷ files) (lane ∷ lanes) within pairs = (
    turned_one ts lane.harvesters (λ t there. within t (Contains-append_left ts (all_of files) t there)) pairs.0,
    turned_lanes files lanes (λ t there. within t (Contains-append_right ts (all_of files) t there)) pairs.1,
  )
