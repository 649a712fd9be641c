-- A worker that is called unreachable failed as often in a row as it may, and so its wire tells at the end.
use Rattle.std.proofs.Common.{◌≡◌, ◌≢◌, ◌⊎◌, ⊎_elim, inl, inr, ℕ, zero, suc, ◌<◌, ◌≤◌, List, [], ◌∷◌, drop, length, map, slice_get, true, false, Option, Some, None, is_some, IfSome, Result, Ok, Err, Vec, Global, refl, sym, ap, subst, ◌∙◌, arith}
use Rattle.std.specs.List.{AllByRecursion}
use Rattle.std.proofs.lemmas.List.{length-drop}
use Rattle.std.proofs.lemmas.List.Elements.{All-from_recursion, recursion_from_All}
use Rattle.atomic_table.specs.Seated.{TableId}
use Rattle.accounts.proofs.Failing.{begins_so, last_failures}
use Rattle.batch_worker.specs.Ending.{EndsLink}
use Rattle.batch_worker.specs.Seen.{Seen}
use Rattle.batch_worker.specs.Working.{Working}
use Rattle.outside.specs.Counts.{IsAtEnd}
use Rattle.outside.specs.Talks.{Talk}
use Rattle.outside.specs.Wires.{Outcome}
use Rattle.event_tree.specs.declared.output_rule.OutputRule.{OutputRule}
use Rattle.event_tree.specs.declared.settings.Settings.{Settings}
use Rattle.kept_rows.specs.Failures.{HasLastFailures}
use Rattle.kept_rows.proofs.Acknowledging.{got_in_front}
use Rattle.rounds.specs.CarrierTurns.{seen_of}
use Rattle.rounds.specs.Making.{IsBegunCarrier, StandsForNothing, wires_of}
use Rattle.rounds.specs.Pairs.{Pairs}
use Rattle.rounds.specs.Words.{LinkWords, WireWords, Words}
use Rattle.rounds.specs.declared.carrier.Carrier.{Carrier}
use Rattle.rounds.specs.declared.crew.Crew.{Crew}
use Rattle.run_steps.specs.BegunCrew.{IsBegunCrew}
use Rattle.run_steps.specs.CarriersEnd.{EndsCarrier, EndsCarriers}
use Rattle.run_steps.specs.CarriersFail.{AreFailing, CarrierFails, FailedAsMet, FailedWhereTold, HasFailedAt, KeepsLink, LinksStay, count_told, counts_told, sending}
use Rattle.run_steps.specs.MetBy.{Since}
use Rattle.run_steps.specs.MetIn.{HasFailed, HasTriesLeft, NoneFailed}
use Rattle.run_steps.specs.Settling.{IsMetByStoring, Written}
use Rattle.run_steps.specs.Worked.{IsFollowedBy}
use Rattle.run_steps.specs.declared.begin_error.BeginError.{BeginError}
use Rattle.run_steps.specs.declared.begin_error.BeginError.TheVariants as begin
use Rattle.run_steps.specs.declared.beginning.BegunFiles.{BegunFiles}
use Rattle.run_steps.specs.declared.met.Met.{Met}
use Rattle.run_steps.specs.declared.met.Met.TheVariants.{DiskFault, Done, Epochs, FolderFault, NoMemory, Stopped, Unreachable, NoNative}
use Rattle.told_scans.proofs.Members.{some_is}
use Rattle.run_steps.proofs.SettingOut.{first_wires}

-- ---- at a place

module _ {A B : Type 0} (R : A → B → Type 0) where
  record IsPairedAt (xs : List A) (ys : List B) (k : ℕ) (x : A) : Type 0 where
    other : B
    is : slice_get ys k ≡ Some other
    stands : R x other

  paired_at : (xs : List A) (ys : List B) (k : ℕ) (x : A) → Pairs R xs ys → slice_get xs k ≡ Some x → IsPairedAt xs ys k x
  paired_at [] ys k x pairs got = absurd cc
  paired_at (a ∷ xs) [] k x pairs got = absurd pairs
  paired_at (a ∷ xs) (b ∷ ys) zero x pairs got = record { other = b; is = refl; stands = subst (λ (one : A). R one b) (some_is a x got) pairs.0 }
  paired_at (a ∷ xs) (b ∷ ys) (suc k) x pairs got =
      let rest = paired_at xs ys k x pairs.1 got in
      record { other = rest.other; is = rest.is; stands = rest.stands }

  paired_back : (xs : List A) (ys : List B) (k : ℕ) (x : A) (y : B) → Pairs R xs ys → slice_get xs k ≡ Some x → slice_get ys k ≡ Some y → R x y
  paired_back xs ys k x y pairs got there =
      let at = paired_at xs ys k x pairs got in
      subst (R x) (some_is at.other y (sym at.is ∙ there)) at.stands

-- ---- one worker

module _ {W L : Type 0} (links : LinkWords L) (wires : WireWords W) (attempts timeout : ℕ) (moments : List ℕ) where
  -- its wire as it was when the worker failed
  failed_then : (start : Option ℕ) (one : Carrier W L) → CarrierFails links wires attempts timeout moments start one → attempts ≤ one.worker.failures → FailedWhereTold wires attempts timeout moments start one.wire
  failed_then None one fails enough = tt
  failed_then (Some start) one fails enough = record {
    all = fails.fails.all;
    tells = fails.fails.tells;
    failures = ⊎_elim (λ end. inl end) (λ so. inr (last_failures links.told timeout start moments fails.fails.all one.worker attempts so enough)) fails.fails.is;
  }

  -- without a link nothing is finished
  ended_same : (carrier : Carrier W L) (wire : W) → EndsCarrier links wires carrier wire → carrier.worker.link ≡ None → seen_of wires wire ≡ seen_of wires carrier.wire
  ended_same carrier wire ends none = subst (λ (link : Option L). EndsLink links.told links.faults links.idles link (seen_of wires carrier.wire) (seen_of wires wire)) none ends.finished

  seen_failed : (start : Option ℕ) (before after : W) → seen_of wires after ≡ seen_of wires before → FailedWhereTold wires attempts timeout moments start before → FailedWhereTold wires attempts timeout moments start after
  seen_failed None before after same failed = tt
  seen_failed (Some start) before after same failed = record {
    all = failed.all;
    tells = ap (λ (s : Seen). s.outcomes) same ∙ failed.tells;
    failures = subst (λ (s : Seen). IsAtEnd s.faults ⊎ HasLastFailures timeout attempts moments (drop start failed.all)) (sym same) failed.failures;
  }

-- ---- at the end

module _ {W L : Type 0} (links : LinkWords L) (wires : WireWords W) (attempts timeout earlier : ℕ) (starts : List (Option ℕ)) (one three : List (Carrier W L)) (unused all : List W) where
  no_link : (carrier : Carrier W L) → HasTriesLeft attempts carrier ⊎ (carrier.worker.link ≡ None) → attempts ≤ carrier.worker.failures → carrier.worker.link ≡ None
  no_link carrier (inl left) enough = absurd (omega (arith, left, enough))
  no_link carrier (inr none) enough = none

  still_unlinked : (old new : Option L) → is_some new ≡ is_some old → old ≡ None → new ≡ None
  still_unlinked old None linked none = refl
  still_unlinked old (Some link) linked none = absurd (let q : true ≡ false = linked ∙ ap is_some none in cc)

  by_list : (list : List ℕ) (worker : ℕ) → (earlier < length list) × Pairs (CarrierFails links wires attempts timeout (drop earlier list)) starts one → HasFailed attempts one worker → Pairs KeepsLink one three → EndsCarriers links wires three unused all →
      (start : Option ℕ) (wire : W) → slice_get starts worker ≡ Some start → slice_get all worker ≡ Some wire → FailedWhereTold wires attempts timeout (drop earlier list) start wire
  by_list list worker failing failed stay ended start wire started got =
      let fails = paired_back (CarrierFails links wires attempts timeout (drop earlier list)) starts one worker start failed.one failing.1 started failed.is in
      let unlinked = no_link failed.one fails.tries failed.failed in
      let kept = paired_at KeepsLink one three worker failed.one stay failed.is in
      let at = paired_at (EndsCarrier links wires) three ended.ended worker kept.other ended.each kept.is in
      let same = ended_same links wires attempts timeout (drop earlier list) kept.other at.other at.stands (still_unlinked failed.one.worker.link kept.other.worker.link kept.stands.linked unlinked) in
      let is : at.other ≡ wire = some_is at.other wire (sym (got_in_front ended.ended unused worker at.other at.is) ∙ ap (λ (l : List W). slice_get l worker) (sym ended.is) ∙ got) in
      subst (λ (w : W). FailedWhereTold wires attempts timeout (drop earlier list) start w) is
      (seen_failed links wires attempts timeout (drop earlier list) start failed.one.wire at.other (same ∙ ap (seen_of wires) kept.stands.wire)
      (failed_then links wires attempts timeout (drop earlier list) start failed.one fails failed.failed))

  has_failed_at : (moments : Option (List ℕ)) (worker : ℕ) → AreFailing links wires attempts timeout earlier starts (sending moments one) → HasFailed attempts one worker → LinksStay one three → EndsCarriers links wires three unused all → HasFailedAt wires attempts timeout earlier starts moments all worker
  unfolding LinksStay
  has_failed_at None worker failing failed stay ended = tt
  has_failed_at (Some list) worker failing failed stay ended = by_list list worker failing failed stay ended

module _ {T W L D : Type 0} (words : Words T W L D) (attempts timeout earlier : ℕ) (starts : List (Option ℕ)) (moments : Option (List ℕ)) (begun : Result BegunFiles BeginError) (since : Since T W L D) (written : Written D) (three : List (Carrier W L)) (unused all : List W) where
  by_following : (met : Met) → IsFollowedBy words.tails words.disks attempts since begun met → AreFailing words.links words.wires attempts timeout earlier starts (sending moments since.now.carriers.items) →
      LinksStay since.now.carriers.items three → EndsCarriers words.links words.wires three unused all → FailedAsMet words.wires attempts timeout earlier starts moments all met
  by_following Done follows failing stay ended = tt
  by_following Stopped follows failing stay ended = tt
  by_following NoMemory follows failing stay ended = tt
  by_following DiskFault follows failing stay ended = tt
  by_following FolderFault follows failing stay ended = tt
  by_following (Epochs slot) follows failing stay ended = tt
  by_following (NoNative slot) follows failing stay ended = tt
  by_following (Unreachable worker) follows failing stay ended =
      has_failed_at words.links words.wires attempts timeout earlier starts since.now.carriers.items three unused all moments worker failing (failed begun follows) stay ended
    where
      failed : (b : Result BegunFiles BeginError) → IsFollowedBy words.tails words.disks attempts since b (Unreachable worker) → HasFailed attempts since.now.carriers.items worker
      failed (Ok files) follows = follows (λ is. cc)
      failed (Err begin.FolderFault) follows = let no : Unreachable worker ≡ FolderFault = follows in cc
      failed (Err begin.NoMemory) follows = let no : Unreachable worker ≡ NoMemory = follows in cc
      failed (Err (begin.NoNative slot)) follows = let no : Unreachable worker ≡ NoNative slot = follows in cc

  by_storing : (met : Met) → IsMetByStoring words.disks written met → FailedAsMet words.wires attempts timeout earlier starts moments all met
  by_storing Done met = tt
  by_storing Stopped met = tt
  by_storing NoMemory met = tt
  by_storing DiskFault met = tt
  by_storing FolderFault met = tt
  by_storing (Epochs slot) met = tt
  by_storing (NoNative slot) met = tt
  by_storing (Unreachable worker) met = absurd met

  pub failed_as_met : (met now : Met) → IsFollowedBy words.tails words.disks attempts since begun met → (now ≡ met) ⊎ IsMetByStoring words.disks written now →
      AreFailing words.links words.wires attempts timeout earlier starts (sending moments since.now.carriers.items) → LinksStay since.now.carriers.items three → EndsCarriers words.links words.wires three unused all →
      FailedAsMet words.wires attempts timeout earlier starts moments all now
  failed_as_met met now follows (inl same) failing stay ended = subst (FailedAsMet words.wires attempts timeout earlier starts moments all) (sym same) (by_following met follows failing stay ended)
  failed_as_met met now follows (inr stored) failing stay ended = by_storing now stored

-- ---- as the run begins

module _ {W L : Type 0} (links : LinkWords L) (wires : WireWords W) (rule : OutputRule) (moments : List ℕ) (some : moments ≢ []) where
  begins_at : (o : Option (List Outcome)) (carrier : Carrier W L) → o ≡ wires.outcomes carrier.wire → IsBegunCarrier rule carrier → StandsForNothing links.told carrier → CarrierFails links wires rule.attempts rule.timeout moments (count_told o) carrier
  begins_at None carrier is begun stands = record { fails = tt; tries = inr (ap (λ (w : Working L). w.link) begun.is) }
  begins_at (Some list) carrier is begun stands = record {
    fails = record {
      all = list;
      tells = sym is;
      is = inr (begins_so links.told rule.timeout moments list carrier.worker (stands (Some list)) (ap (λ (w : Working L). w.timeout) begun.is) (ap (λ (w : Working L). w.failures) begun.is) (ap (λ (w : Working L). w.outs) begun.is)
          (ap (λ (w : Working L). w.heard.0) begun.is) some);
    };
    tries = inr (ap (λ (w : Working L). w.link) begun.is);
  }

  begin_all : (carriers : List (Carrier W L)) → AllByRecursion (IsBegunCarrier rule) carriers → AllByRecursion (StandsForNothing links.told) carriers → Pairs (CarrierFails links wires rule.attempts rule.timeout moments) (map (λ (w : W). count_told (wires.outcomes w)) (wires_of carriers)) carriers
  begin_all [] begun stand = tt
  begin_all (c ∷ carriers) begun stand = (begins_at (wires.outcomes c.wire) c refl begun.0 stand.0, begin_all carriers begun.1 stand.1)

module _ {T W L : Type 0} (queue desk : TableId) (settings : Settings) (old left : List W) (crew : Crew T W L) where
  pub begun_fails : (links : LinkWords L) (wires : WireWords W) → IsBegunCrew links.told queue desk settings old left crew → (now : Vec (Carrier W L) Global) → now ≡ crew.carriers → (earlier : ℕ) (moments : Option (List ℕ)) → 0 < settings.output.attempts → IfSome moments (λ list. earlier < length list) →
      AreFailing links wires settings.output.attempts settings.output.timeout earlier (counts_told wires settings.output.workers old) (sending moments now.items)
  begun_fails links wires begun now same earlier None tries within = tt
  begun_fails links wires begun now same earlier (Some list) tries within = (
    within,
    subst (λ (l : List W). Pairs (CarrierFails links wires settings.output.attempts settings.output.timeout (drop earlier list)) (map (λ (w : W). count_told (wires.outcomes w)) l) now.items) (sym (first_wires links.told queue desk settings old left crew begun))
        (subst (λ (v : Vec (Carrier W L) Global). Pairs (CarrierFails links wires settings.output.attempts settings.output.timeout (drop earlier list)) (map (λ (w : W). count_told (wires.outcomes w)) (wires_of crew.carriers.items)) v.items) (sym same)
        (begin_all links wires settings.output (drop earlier list) (λ none. let long = ap length none in let some = length-drop earlier list in omega (arith, long, some, within)) crew.carriers.items
        (recursion_from_All (IsBegunCarrier settings.output) crew.carriers.items begun.carriers) (recursion_from_All (StandsForNothing links.told) crew.carriers.items begun.stand))),
  )

  none_yet : (carriers : List (Carrier W L)) → 0 < settings.output.attempts → AllByRecursion (IsBegunCarrier settings.output) carriers → AllByRecursion (HasTriesLeft settings.output.attempts) carriers
  none_yet [] tries begun = tt
  none_yet (c ∷ carriers) tries begun = (let none = ap (λ (w : Working L). w.failures) begun.0.is in omega (arith, none, tries), none_yet carriers tries begun.1)

  pub none_failed_begun : (told : L → Option Talk) → IsBegunCrew told queue desk settings old left crew → (now : Vec (Carrier W L) Global) → now ≡ crew.carriers → 0 < settings.output.attempts → NoneFailed settings.output.attempts now.items
  none_failed_begun told begun now same tries =
      subst (λ (v : Vec (Carrier W L) Global). NoneFailed settings.output.attempts v.items) (sym same)
      (All-from_recursion (HasTriesLeft settings.output.attempts) crew.carriers.items (none_yet crew.carriers.items tries (recursion_from_All (IsBegunCarrier settings.output) crew.carriers.items begun.carriers)))
