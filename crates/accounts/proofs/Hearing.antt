-- A harvester that stands for its file stands for it still once it heard what a scan reported of that: that something changed, that it was
-- removed, or that it has another name. So do those of a lane, and nothing is given by it.
use Rattle.std.proofs.Common.{◌≡◌, ℕ, ◌<◌, true, false, List, [], Option, IfSome, IsTrue, refl, sym, ap, subst, ◌∙◌, append-nil, arith}
use Rattle.std.specs.List.{AllByRecursion, flat_map}
use Rattle.file_looks.specs.Looks.{TellsLooks}
use Rattle.harvester.specs.HasTold.{HasTold}
use Rattle.harvester.specs.History.{History, Telling, with_ending, with_path}
use Rattle.harvester.specs.declared.harvester.Harvester.{Harvester}
use Rattle.lanes.specs.Changing.{ChangesOne, HasEnding, HasRenamed, HasStirred, KeepsOthers}
use Rattle.lanes.specs.Laning.{Laning}
use Rattle.lanes.specs.declared.given.Given.TheVariants.{Nothing}
use Rattle.outside.specs.Tails.{TailHistory}
use Rattle.slot_parts.specs.Tellings.{tellings_in}
use Rattle.wire_base.specs.declared.numbers.Slot.{Slot}
use Rattle.accounts.specs.Opened.{IsTailOf, Opened}
use Rattle.accounts.specs.ToldFile.{IsHistoryOf}
use Rattle.accounts.specs.Turned.{Turned, events_in, notes_in, notes_told, parcels_in, parcels_told}
use Rattle.accounts.specs.Turning.{IsAtItsEnd, IsTurnedSo, Pairs, TellOn}
use Rattle.accounts.specs.Watch.{MayFindEnd, Name, Watch}
use Rattle.accounts.proofs.Given.{of_slot}
use Rattle.accounts.proofs.Histories.{history_ending, history_renamed, told_file}
use Rattle.accounts.proofs.Turning.{TurnsOn, one_turns}

module _ {T : Type 0} (numbers : T → Option (ℕ × ℕ)) (told : T → Option TailHistory) (watch : Watch) (files : List Opened) (moments : List ℕ) (turned : Turned)
    (old new : Harvester T) (stands : IsTurnedSo numbers told watch files moments turned old) where
  abbrev Stands : Turned → Harvester T → Type 0
  Stands = IsTurnedSo numbers told watch files moments

  -- it is turned again
  pub turned_stirred : HasStirred old new → Stands turned new
  turned_stirred is = subst (Stands turned) (sym is) (record {
    has_told = record { held = stands.has_told.held; decides = stands.has_told.decides; looked = stands.has_told.looked };
    opened = stands.opened;
    of_files = stands.of_files;
    is_told = stands.is_told;
    numbers_are = stands.numbers_are;
    rests = λ rests. absurd (let no : false ≡ true = rests in cc);
  })

  -- its history goes on so, and its tail is as it was
  module _ (history : History) (has : HasTold numbers told history new) (is : IsHistoryOf watch stands.opened moments history) (keeps : KeepsOthers old new) where
    same_tail : old.tail ≡ new.tail
    same_tail = sym (ap (λ (h : Harvester T). h.tail) keeps.others)

    still : (P : T → Type 0) → P old.tail → P new.tail
    still P was = subst P same_tail was

    pub turned_so : (IsTrue new.rests → IsAtItsEnd watch.once history) → Stands (of_slot turned.slot history) new
    turned_so rests = record {
      has_told = has;
      opened = stands.opened;
      of_files = stands.of_files;
      is_told = told_file watch moments numbers told stands.opened (of_slot turned.slot history) new has stands.is_told.slot is
          (still (λ (t : T). IfSome (told t) (IsTailOf stands.opened)) stands.is_told.tail) (still (λ (t : T). IfSome (told t) TellsLooks) stands.is_told.tells)
          (still (λ (t : T). IfSome (told t) (λ tail. numbers t ≡ stands.opened.file.numbers)) stands.numbers_are);
      numbers_are = still (λ (t : T). IfSome (told t) (λ tail. numbers t ≡ stands.opened.file.numbers)) stands.numbers_are;
      rests = rests;
    }

  rests_still : KeepsOthers old new → new.rests ≡ old.rests
  rests_still keeps = ap (λ (h : Harvester T). h.rests) keeps.others

  -- it is to end, and was stirred before: it rests only once it was turned again
  pub turned_ending : HasEnding numbers told false old new → MayFindEnd watch stands.opened → old.rests ≡ false →
      Stands (of_slot turned.slot (with_ending false turned.history)) new
  turned_ending ending may stirred =
      turned_so (with_ending false turned.history) (ending.ends turned.history stands.has_told)
      (history_ending watch moments stands.opened turned.history may stands.is_told.history) ending.keeps
      (λ rests. absurd (let no : true ≡ false = sym rests ∙ rests_still ending.keeps ∙ stirred in cc))

  -- it has another name
  pub turned_renamed : (name : Name) → HasRenamed numbers told name.path old new → watch.renamed stands.opened name →
      AllByRecursion (λ (one : Name). one.scan < name.scan) stands.is_told.history.names →
      Stands (of_slot turned.slot (with_path name.path turned.history)) new
  turned_renamed name renaming renamed later =
      turned_so (with_path name.path turned.history) (renaming.renamed turned.history stands.has_told)
      (history_renamed watch moments stands.opened turned.history name stands.is_told.history renamed later) renaming.keeps
      (λ rests. let was = stands.rests (sym (rests_still renaming.keeps) ∙ rests) in
      record { asks_nothing = was.asks_nothing; told = λ may. let ended = was.told may in record { ended = ended.ended; all_told = ended.all_told } })

-- ---- one of a lane

module _ {T : Type 0} (numbers : T → Option (ℕ × ℕ)) (told : T → Option TailHistory) (watch : Watch) (files : List Opened) (moments : List ℕ) where
  abbrev So : Turned → Harvester T → Type 0
  So = IsTurnedSo numbers told watch files moments

  -- its history goes on, and nothing was reported
  gives_nothing : (turned : Turned) (history : History) (new : Harvester T) → tellings_in history ≡ tellings_in turned.history → So (of_slot turned.slot history) new →
      TurnsOn watch moments numbers told files turned new Nothing
  gives_nothing turned history new same stands = record {
    after = of_slot turned.slot history;
    stands = stands;
    slot = refl;
    parcels = ap (λ (l : List Telling). flat_map (parcels_in turned.slot) l) same ∙ sym (append-nil (parcels_told turned));
    notes = ap (λ (l : List Telling). notes_in turned.slot l) same ∙ sym (append-nil (notes_told turned));
    spans = let told_same = ap events_in same in omega (arith, told_same);
  }

  module _ (slot : Slot) (turned : List Turned) (old new : Laning T) (stand : Pairs So turned old.harvesters) where
    abbrev TellsOn : List Turned → List (Harvester T) → Type 0
    TellsOn before harvesters = TellOn numbers told watch files moments before harvesters [] [] 0

    changed_one : (Changes : Harvester T → Harvester T → Type 0) (changes : ChangesOne slot Changes old new) →
        ((one : Turned) → So one changes.before → TurnsOn watch moments numbers told files one changes.after Nothing) → TellsOn turned new.harvesters
    changed_one Changes changes on =
        subst (TellsOn turned) (sym (ap (λ (lane : Laning T). lane.harvesters) changes.is))
        (one_turns watch moments numbers told files turned old.harvesters changes.index changes.before changes.after Nothing stand changes.was on)

    pub lane_stirred : ChangesOne slot HasStirred old new → TellsOn turned new.harvesters
    lane_stirred changes = changed_one HasStirred changes
        (λ one stands. gives_nothing one one.history changes.after refl (turned_stirred numbers told watch files moments one changes.before changes.after stands changes.changes))

    -- of a file that may end, and that was stirred before
    pub lane_ending : (changes : ChangesOne slot (HasEnding numbers told false) old new) → ((one : Turned) (stands : So one changes.before) → MayFindEnd watch stands.opened) →
        changes.before.rests ≡ false → TellsOn turned new.harvesters
    lane_ending changes may stirred = changed_one (HasEnding numbers told false) changes
        (λ one stands. gives_nothing one (with_ending false one.history) changes.after refl
        (turned_ending numbers told watch files moments one changes.before changes.after stands changes.changes (may one stands) stirred))

    pub lane_renamed : (name : Name) (changes : ChangesOne slot (HasRenamed numbers told name.path) old new) → ((one : Turned) (stands : So one changes.before) → watch.renamed stands.opened name) →
        ((one : Turned) (stands : So one changes.before) → AllByRecursion (λ (earlier : Name). earlier.scan < name.scan) stands.is_told.history.names) → TellsOn turned new.harvesters
    lane_renamed name changes renamed later = changed_one (HasRenamed numbers told name.path) changes
        (λ one stands. gives_nothing one (with_path name.path one.history) changes.after refl
        (turned_renamed numbers told watch files moments one changes.before changes.after stands name changes.changes (renamed one stands) (later one stands)))
