-- The files that are forgotten, as the run goes on: each keeps what it is forgotten for.
use Rattle.std.proofs.Common.{◌≡◌, List, [], ◌∷◌, ◌++◌, Contains, refl, subst}
use Rattle.std.proofs.lemmas.List.Elements.{Contains-append_left}
use Rattle.accounts.specs.Opened.{Opened}
use Rattle.accounts.proofs.Lists.{each_then}
use Rattle.ship_core.proofs.Members.{none_there}
use Rattle.run_steps.specs.Forgotten.{AreForgotten, IsForgottenSo}
use Rattle.run_steps.specs.LaterScans.{LaterScan}
use Rattle.run_steps.specs.SoFar.{Forgotten, Left}

-- where no later scan was made, no file is
pub none_forgotten : (scans : List LaterScan) (opened : List Opened) (left : List Left) (forgotten : List Forgotten) → scans ≡ [] → AreForgotten scans opened left forgotten → forgotten ≡ []
none_forgotten scans opened left [] none are = refl
none_forgotten scans opened left (one ∷ others) none are = absurd (none_there are.0.missed.scan (subst (λ (l : List LaterScan). Contains l are.0.missed.scan) none are.0.missed.of_scans))

-- with other openings and tails among which its own are still
pub still_forgotten : (scans : List LaterScan) (opened others : List Opened) (left later : List Left) (one : Forgotten) → IsForgottenSo scans opened left one →
    Contains others one.opened → Contains later one.left → IsForgottenSo scans others later one
still_forgotten scans opened others left later one so among of_left = record {
  cleans = so.cleans;
  among = among;
  of_left = of_left;
  slot_is = so.slot_is;
  missed = so.missed;
  may = so.may;
  done = so.done;
}

-- after one more scan
pub forgotten_scanned : (scans : List LaterScan) (scan : LaterScan) (opened : List Opened) (left : List Left) (forgotten : List Forgotten) → AreForgotten scans opened left forgotten →
    AreForgotten (scans ++ scan ∷ []) opened left forgotten
forgotten_scanned scans scan opened left forgotten are = each_then (IsForgottenSo scans opened left) (IsForgottenSo (scans ++ scan ∷ []) opened left) forgotten
    (λ one so. record {
      cleans = so.cleans;
      among = so.among;
      of_left = so.of_left;
      slot_is = so.slot_is;
      missed = record {
        scan = so.missed.scan;
        of_scans = Contains-append_left scans (scan ∷ []) so.missed.scan so.missed.of_scans;
        whole = so.missed.whole;
        after = so.missed.after;
        not_listed = so.missed.not_listed;
      };
      may = so.may;
      done = so.done;
    }) are

-- with more tails that were closed
pub forgotten_left : (scans : List LaterScan) (opened : List Opened) (left more : List Left) (forgotten : List Forgotten) → AreForgotten scans opened left forgotten →
    AreForgotten scans opened (left ++ more) forgotten
forgotten_left scans opened left more forgotten are = each_then (IsForgottenSo scans opened left) (IsForgottenSo scans opened (left ++ more)) forgotten
    (λ one so. still_forgotten scans opened opened left (left ++ more) one so so.among (Contains-append_left left more one.left so.of_left)) are
