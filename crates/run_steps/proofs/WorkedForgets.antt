-- A worked file that is forgotten: it has two lines of two bytes each, a later scan misses it, and it is told to its end. The keeper is told that it ends
-- at byte 4 of epoch 0. Refused are a Forget before its end was found, while its tail is open still, one at a place or in an epoch that was not told,
-- one of an input that does not clean, and one without a later scan.
use Rattle.std.proofs.Common.{◌≡◌, inl, ⊎_elim, ℕ, ◌<◌, true, false, List, [], ◌∷◌, Contains, length, Some, codes, refl, sym, ap, subst, ◌∙◌, arith}
use Rattle.accounts.specs.Opened.{Opened}
use Rattle.event_tree.specs.declared.input_rule.InputRule.{InputRule}
use Rattle.harvester.specs.History.{Ended, History, Reads, Stage, Telling, left_to_tell, told_to}
use Rattle.outside.specs.Files.{File}
use Rattle.outside.specs.declared.history.Look.{Look}
use Rattle.ship_core.proofs.Members.{first_there, none_there, there_cases}
use Rattle.told_scans.specs.OnlyAsked.{WasClosedWith}
use Rattle.told_scans.specs.ToldScan.{ToldScan}
use Rattle.wire_base.specs.declared.note.Note.{Note}
use Rattle.wire_base.specs.declared.note.Note.TheVariants.{Forget}
use Rattle.wire_base.specs.declared.numbers.Epoch.{Epoch}
use Rattle.run_steps.specs.Forgotten.{AreForgotten, IsForgottenSo, WasClosedBy}
use Rattle.run_steps.specs.LaterScans.{LaterScan, WasMissed}
use Rattle.run_steps.specs.SoFar.{Forgotten, Left, forgets_in}
use Rattle.run_steps.proofs.ForgottenOn.{none_forgotten}

-- by this input, as far as it cleans; both lines of the first epoch were told, and nothing is left to tell of it
module _ (rule : InputRule) (file : File) (history : History) (both : Telling) (first_epoch : both.epoch ≡ 0) (told_both : told_to both ≡ 4)
    (none_left : left_to_tell (record history { rule = rule; present = both; stage = Ended }) ≡ []) (told : ToldScan) (after : 3 < length told.earlier.events) where
  abbrev opened : Opened
  opened = record {
    begin = record { slot = record { 0 = 4 }; input = 0; key = 1 ∷ []; path = codes "/a"; size = 4; epoch = record { 0 = 0 }; base = 0 };
    rule = rule;
    opening = 3;
    number = 0;
    begun = record { life = 0; length = 4 };
    file = file;
    asked = [];
  }

  -- its tail was closed at this stage, with what was told of this epoch
  abbrev left_at : Stage → Telling → Left
  left_at stage telling = record {
    turned = record {
      slot = record { 0 = 4 };
      history = record history {
        rule = rule;
        present = telling;
        stage = stage;
      };
    };
    told = Some (record { opening = 3; number = 0; file = file; begun = record { life = 0; length = 4 }; looks = [] });
  }

  abbrev forgotten_at : Stage → Telling → Forgotten
  forgotten_at stage telling = record { opened = opened; left = left_at stage telling }

  -- a whole scan that listed no file
  abbrev scan : LaterScan
  scan = record { moment = 9; files = []; doubled = []; whole = true; told = Some told }

  missed : WasMissed (scan ∷ []) opened
  missed = record { scan = scan; of_scans = first_there scan []; whole = refl; after = after; not_listed = λ any. omega (arith, any.2) }

  -- ---- read to its end

  abbrev read_through : Forgotten
  read_through = forgotten_at Ended both

  is_forgotten : rule.clean_removed ≡ true → AreForgotten (scan ∷ []) (opened ∷ []) (read_through.left ∷ []) (read_through ∷ [])
  is_forgotten cleans = (
    record {
      cleans = cleans;
      among = first_there opened [];
      of_left = first_there read_through.left [];
      slot_is = refl;
      missed = missed;
      may = tt;
      done = inl (record { ended = refl; all_told = none_left });
    },
    tt,
  )

  its_note : forgets_in (read_through ∷ []) ≡ Forget (record { 0 = 4 }) (record { 0 = 0 }) 4 ∷ []
  its_note = (λ k. Forget (record { 0 = 4 }) (record { 0 = first_epoch k }) (told_both k) ∷ [])

  -- ---- refused

  -- before its end was found, if its tail was open as the scan was made
  before_its_end_is_refused : ((looks : List Look) → WasClosedWith told.earlier 3 looks → ⊥) → IsForgottenSo (scan ∷ []) (opened ∷ []) (left_at Reads both ∷ []) (forgotten_at Reads both) → ⊥
  before_its_end_is_refused still_open is = ⊎_elim (λ read. let no : Reads ≡ Ended = read.ended in cc)
      (λ closed. ⊎_elim (λ (same : scan ≡ is.missed.scan). still_open [] (subst (λ (s : LaterScan). WasClosedBy s (left_at Reads both)) (sym same) closed))
      (λ none. none_there is.missed.scan none) (there_cases scan is.missed.scan [] is.missed.of_scans)) is.done

  -- another note
  only_its_note : (note : Note) → Contains (forgets_in (read_through ∷ [])) note → Forget (record { 0 = 4 }) (record { 0 = 0 }) 4 ≡ note
  only_its_note note there = ⊎_elim (λ same. same) (λ none. absurd (none_there note none)) (there_cases (Forget (record { 0 = 4 }) (record { 0 = 0 }) 4) note [] (subst (λ (l : List Note). Contains l note) its_note there))

  place_not_told_is_refused : Contains (forgets_in (read_through ∷ [])) (Forget (record { 0 = 4 }) (record { 0 = 0 }) 2) → ⊥
  place_not_told_is_refused there = let is = only_its_note (Forget (record { 0 = 4 }) (record { 0 = 0 }) 2) there in let same : ◌≡◌ {A = ℕ} 4 2 = cc in omega (arith, same)

  later_epoch_is_refused : Contains (forgets_in (read_through ∷ [])) (Forget (record { 0 = 4 }) (record { 0 = 1 }) 4) → ⊥
  later_epoch_is_refused there =
      let is = only_its_note (Forget (record { 0 = 4 }) (record { 0 = 1 }) 4) there in
      let epochs : ◌≡◌ {A = Epoch} (record { 0 = 0 }) (record { 0 = 1 }) = cc in
      let same = ap (λ (e : Epoch). e.0) epochs in
      omega (arith, same)

  -- by an input that keeps what it knows of removed files
  kept_is_refused : rule.clean_removed ≡ false → AreForgotten (scan ∷ []) (opened ∷ []) (read_through.left ∷ []) (read_through ∷ []) → ⊥
  kept_is_refused keeps are = let no : false ≡ true = sym keeps ∙ are.0.cleans in cc

  -- with no later scan
  unscanned_is_refused : AreForgotten [] (opened ∷ []) (read_through.left ∷ []) (read_through ∷ []) → ⊥
  unscanned_is_refused are = let no : read_through ∷ [] ≡ [] = none_forgotten [] (opened ∷ []) (read_through.left ∷ []) (read_through ∷ []) refl are in cc
