-- Runs in a row adjoin, by their accounts.
use Rattle.std.proofs.Common.{◌≡◌, ◌⊎◌, inl, inr, ℕ, zero, suc, ◌+◌, ◌<◌, Bool, true, false, cond, eqb, List, [], ◌∷◌, Contains, map, Option, Some, None, refl, sym, ap, ◌∙◌, subst, arith}
use Rattle.std.specs.Prelude.{nat_le, slice_get}
use Rattle.std.proofs.lemmas.Bool.{eqb-true}
use Rattle.event_tree.specs.declared.input_rule.InputRule.{InputRule}
use Rattle.event_tree.specs.declared.settings.Settings.{Settings}
use Rattle.file_identity.specs.Key.{named_key}
use Rattle.kept_rows.proofs.Backing.{epoch_found, epoch_in, slot_in}
use Rattle.kept_rows.proofs.Joining.{adjoined}
use Rattle.kept_rows.proofs.Keys.{HasNoColon}
use Rattle.kept_rows.specs.Account.{AccountedEvent, EpochAccount, Following, SlotAccount, epoch_at, events_of, key_of, slot_of}
use Rattle.kept_rows.specs.Epochs.{AreNumbered, AreNumberedFrom}
use Rattle.kept_rows.specs.Followed.{HadNoRow, IsBegun, IsFollowing, IsKeyOf, IsNewlyKnown, Start, StartsAt, StartsListed, StartsUnlisted, start_by, start_of, start_unlisted}
use Rattle.kept_rows.specs.Kept.{ClosesSettled}
use Rattle.kept_rows.specs.Run.{Run, Scan}
use Rattle.kept_rows.specs.Scans.{AreDistinct}
use Rattle.kept_rows.specs.Telling.{IsEpochTold, IsSlotAccount}
use Rattle.outside.specs.Files.{File, life_of}
use Rattle.ship_core.specs.Rows.{find}
use Rattle.told_events.specs.Rules.{Rules, rules_of}
use Rattle.told_events.specs.Told.{AreTold}
use Rattle.wire_base.specs.declared.row.Row.{Row}
use Rattle.accounts.specs.AccountedFor.{followings_in}
use Rattle.accounts.specs.RunsInARow.{AccountedRun, AdjoinInARow, HaveOwnIds, IsOfLife, IsRowOf, NoneWentBefore, TakesUp, part_of}
use Rattle.accounts.proofs.Backing.{mapped_there}
use Rattle.accounts.proofs.Following.{got_each, got_there}
use Rattle.accounts.proofs.Grounded.{of_map}
use Rattle.accounts.proofs.NamedKeys.{named_key_of_input, same_id}
use Rattle.accounts.proofs.Orderly.{member_is, same_item}

-- ---- a key is of one input

-- two inputs of the settings that have the key are one
same_rule : (inputs : List InputRule) (one other : InputRule) (number place : ℕ) (key : List ℕ) → HaveOwnIds inputs → slice_get inputs number ≡ Some one →
    slice_get inputs place ≡ Some other → IsKeyOf one.id key → IsKeyOf other.id key → one ≡ other
same_rule inputs one other number place key own at there of also =
    same_item (λ (rule : InputRule). rule.id) inputs one other own.ids_apart (got_there inputs number one at) (got_there inputs place other there)
    (same_id one.id other.id key (got_each (λ (rule : InputRule). HasNoColon rule.id) inputs number one own.no_colon at)
    (got_each (λ (rule : InputRule). HasNoColon rule.id) inputs place other own.no_colon there) of also)

-- distinct items have one place
pub same_place : {A B : Type 0} (f : A → B) (xs : List A) (k other : ℕ) (x y : A) → AreDistinct (map f xs) → slice_get xs k ≡ Some x → slice_get xs other ≡ Some y → f x ≡ f y → k ≡ other
same_place f [] k other x y apart at there same = absurd (let q : None ≡ Some x = at in cc)
same_place f (first ∷ xs) zero zero x y apart at there same = refl
same_place f (first ∷ xs) zero (suc other) x y apart at there same =
    let q : Some first ≡ Some x = at in
    let here : first ≡ x = cc in
    absurd (apart.0 (subst (λ b. Contains (map f xs) b) (sym same ∙ ap f (sym here)) (mapped_there f xs y (got_there xs other y there))))
same_place f (first ∷ xs) (suc k) zero x y apart at there same =
    let q : Some first ≡ Some y = there in
    let here : first ≡ y = cc in
    absurd (apart.0 (subst (λ b. Contains (map f xs) b) (same ∙ ap f (sym here)) (mapped_there f xs x (got_there xs k x at))))
same_place f (first ∷ xs) (suc k) (suc other) x y apart at there same = ap suc (same_place f xs k other x y apart.1 at there same)

-- a key is of one place of the settings
pub input_of_key : (inputs : List InputRule) (input other : ℕ) (rule another : InputRule) (key : List ℕ) → HaveOwnIds inputs →
    slice_get inputs input ≡ Some rule → slice_get inputs other ≡ Some another → IsKeyOf rule.id key → IsKeyOf another.id key → input ≡ other
input_of_key inputs input other rule another key own at there of also =
    same_place (λ (r : InputRule). r.id) inputs input other rule another own.ids_apart at there
    (same_id rule.id another.id key (got_each (λ (r : InputRule). HasNoColon r.id) inputs input rule own.no_colon at)
    (got_each (λ (r : InputRule). HasNoColon r.id) inputs other another own.no_colon there) of also)

-- so is one that is known without a look
pub input_of_named_key : (inputs : List InputRule) (input other : ℕ) (rule another : InputRule) (path q : List ℕ) (numbers m : Option (ℕ × ℕ)) (key : List ℕ) → HaveOwnIds inputs →
    slice_get inputs input ≡ Some rule → slice_get inputs other ≡ Some another → named_key rule.id rule.file_identity path numbers ≡ Some key →
    named_key another.id another.file_identity q m ≡ Some key → input ≡ other
input_of_named_key inputs input other rule another path q numbers m key own at there is and =
    input_of_key inputs input other rule another key own at there (named_key_of_input rule.id rule.file_identity path numbers key is)
    (named_key_of_input another.id another.file_identity q m key and)

-- ---- from where the later run reports

-- an epoch after the first has a greater number
none_earlier : (before epoch : ℕ) (epochs : List EpochAccount) (found : EpochAccount) → AreNumberedFrom before epochs → epoch_at epoch epochs ≡ Some found → before < epoch
none_earlier before epoch [] found numbered is = absurd (let q : None ≡ Some found = is in cc)
none_earlier before epoch (first ∷ epochs) found numbered is = by_case (eqb first.epoch epoch) refl is (none_earlier (before + 1) epoch epochs found numbered.2)
  where
    by_case : (b : Bool) → eqb first.epoch epoch ≡ b → cond b (Some first) (epoch_at epoch epochs) ≡ Some found → (epoch_at epoch epochs ≡ Some found → before + 1 < epoch) → before < epoch
    by_case true test e later = let number = eqb-true first.epoch epoch test in omega (arith, numbered.0, number)
    by_case false test e later = let more = later e in omega (arith, more)

-- an epoch of a slot is that with which it was begun, reported from its base, or a later one
begun_or_later : (one : SlotAccount) (epoch : ℕ) (found : EpochAccount) → AreNumbered one → epoch_at epoch one.epochs ≡ Some found →
    ((one.following.epoch ≡ epoch) × (found.start ≡ one.following.base)) ⊎ (one.following.epoch < epoch)
begun_or_later one epoch found numbered is = by_case (eqb numbered.first.epoch epoch) refl (sym (ap (epoch_at epoch) numbered.epochs_are) ∙ is)
  where
    by_case : (b : Bool) → eqb numbered.first.epoch epoch ≡ b → cond b (Some numbered.first) (epoch_at epoch numbered.later) ≡ Some found →
        ((one.following.epoch ≡ epoch) × (found.start ≡ one.following.base)) ⊎ (one.following.epoch < epoch)
    by_case true test e =
        let q : Some numbered.first ≡ Some found = e in
        let same : numbered.first ≡ found = cc in
        inl (sym numbered.first_epoch ∙ eqb-true numbered.first.epoch epoch test, ap (λ (x : EpochAccount). x.start) (sym same) ∙ numbered.first_start)
    by_case false test e = inr (none_earlier one.following.epoch epoch numbered.later found numbered.numbered e)

-- by its opening row a slot is begun with the row's epoch, at its offset, or with a greater epoch
abbrev IsBegunBy : Row → Start → Type 0
IsBegunBy row start = ((start.epoch ≡ row.epoch.0) × (start.base ≡ row.offset)) ⊎ (row.epoch.0 < start.epoch)

begun_by_row : (row : Row) (size : ℕ) → IsBegunBy row (start_by (Some row) size)
begun_by_row row size = by_case (nat_le row.offset size)
  where
    by_case : (b : Bool) → IsBegunBy row (cond b (record { epoch = row.epoch.0; base = row.offset }) (record { epoch = row.epoch.0 + 1; base = 0 }))
    by_case true = inl (refl, refl)
    by_case false = inr (omega arith)

begun_at_first : (run : Run) (scan : Scan) (following : Following) (row : Row) → find following.key run.opening ≡ Some row →
    StartsListed run scan following ⊎ StartsUnlisted run scan following → IsBegunBy row (start_of following)
begun_at_first run scan following row found (inl listed) =
    subst (IsBegunBy row) (sym (listed.starts ∙ ap (λ (o : Option Row). start_by o listed.shown.entry.size) found)) (begun_by_row row listed.shown.entry.size)
begun_at_first run scan following row found (inr unlisted) =
    let q : Some unlisted.row ≡ Some row = sym unlisted.found ∙ found in
    let same : unlisted.row ≡ row = cc in
    subst (IsBegunBy row) (sym (unlisted.starts ∙ ap start_unlisted same)) (inl (refl, refl))

begun_by : (run : Run) (following : Following) (row : Row) → IsBegun run following → following.known_from ≡ 0 → find following.key run.opening ≡ Some row → IsBegunBy row (start_of following)
begun_by run following row begun first found =
    begun_at_first run begun.scan following row found (subst (λ (number : ℕ). StartsAt number run begun.scan following) first begun.starts)

-- an epoch of the row's number is reported from the row's offset on
starts_there : (run : Run) (one : SlotAccount) (row : Row) (epoch : EpochAccount) → IsFollowing run one.following → AreNumbered one → one.following.known_from ≡ 0 →
    find one.following.key run.opening ≡ Some row → epoch_at row.epoch.0 one.epochs ≡ Some epoch → epoch.start ≡ row.offset
starts_there run one row epoch follows numbered first found is =
    by_case (begun_or_later one row.epoch.0 epoch numbered is) (begun_by run one.following row follows.begun first found)
  where
    by_case : ((one.following.epoch ≡ row.epoch.0) × (epoch.start ≡ one.following.base)) ⊎ (one.following.epoch < row.epoch.0) → IsBegunBy row (start_of one.following) → epoch.start ≡ row.offset
    by_case (inl this) (inl begun) = this.1 ∙ begun.1
    by_case (inl this) (inr above) = absurd (omega (arith, this.0, above))
    by_case (inr later) (inl begun) = absurd (omega (arith, later, begun.0))
    by_case (inr later) (inr above) = absurd (omega (arith, later, above))

-- ---- what was reported of one life

told_nothing : (rules : Rules) (licences life : List ℕ) (start : ℕ) (told : List AccountedEvent) → told ≡ [] → AreTold rules licences life start (events_of told)
told_nothing rules licences life start told none = subst (λ (l : List AccountedEvent). AreTold rules licences life start (events_of l)) (sym none) (record { partition = tt; fates = tt })

told_of_life : (run : Run) (rules : Rules) (one : SlotAccount) (epoch : EpochAccount) (life : List ℕ) → IsEpochTold run rules one epoch → IsOfLife run one epoch life →
    AreTold rules epoch.licences life epoch.start (events_of epoch.told)
told_of_life run rules one epoch life (inl none) of = told_nothing rules epoch.licences life epoch.start epoch.told none
told_of_life run rules one epoch life (inr told) (inl none) = told_nothing rules epoch.licences life epoch.start epoch.told none
told_of_life run rules one epoch life (inr told) (inr has) =
    let q : Some told.file ≡ Some has.file = sym told.file_is ∙ has.file_is in
    let same : told.file ≡ has.file = cc in
    subst (λ (bytes : List ℕ). AreTold rules epoch.licences bytes epoch.start (events_of epoch.told)) (ap (λ (f : File). life_of f epoch.life) same ∙ has.bytes_are) told.told

-- ---- by the account of the row's slot

module _ (accounted : AccountedRun) (row : Row) (is : IsRowOf accounted row) where
  of_account : Contains accounted.account is.one
  of_account = (slot_in accounted.account is.slot is.one is.slot_is).0

  slot_followed : IsFollowing accounted.run is.one.following
  slot_followed =
      member_is (IsFollowing accounted.run) (followings_in accounted.account) is.one.following accounted.followed.each
      (mapped_there (λ (one : SlotAccount). one.following) accounted.account is.one of_account)

  -- the input that it is followed by has the row's key
  of_its_input : IsKeyOf slot_followed.rule.id row.key
  of_its_input = subst (IsKeyOf slot_followed.rule.id) is.key_is slot_followed.key_of_input

  row_told : (slot_told : IsSlotAccount accounted.run is.one) (life : List ℕ) → IsOfLife accounted.run is.one is.epoch life →
      AreTold (rules_of slot_followed.rule accounted.run.settings.processors) is.epoch.licences life is.epoch.start (events_of is.epoch.told)
  row_told slot_told life of =
      let q : Some slot_told.rule ≡ Some slot_followed.rule = sym slot_told.rule_is ∙ slot_followed.rule_is in
      let same : slot_told.rule ≡ slot_followed.rule = cc in
      let rules = rules_of slot_told.rule accounted.run.settings.processors in
      subst (λ (rule : InputRule). AreTold (rules_of rule accounted.run.settings.processors) is.epoch.licences life is.epoch.start (events_of is.epoch.told)) same
      (told_of_life accounted.run rules is.one is.epoch life
      (member_is (IsEpochTold accounted.run rules is.one) is.one.epochs is.epoch slot_told.told (epoch_in row.epoch.0 is.one.epochs is.epoch is.epoch_is)) of)

-- ---- together

pub adjoin_by_accounts : (earlier later : AccountedRun) (life : List ℕ) (left reached : Row) (up : TakesUp earlier later life left reached) → AdjoinInARow earlier later life left reached up
adjoin_by_accounts earlier later life left reached up =
    let first = slot_followed earlier left up.left_is in
    let second = slot_followed later reached up.reached_is in
    let one = up.reached_is.one in
    let second_rule : slice_get earlier.run.settings.inputs one.following.input ≡ Some second.rule =
    subst (λ (settings : Settings). slice_get settings.inputs one.following.input ≡ Some second.rule) up.same_settings second.rule_is in
    let same : second.rule ≡ first.rule =
    same_rule earlier.run.settings.inputs second.rule first.rule one.following.input up.left_is.one.following.input left.key up.own_ids second_rule first.rule_is
    (subst (IsKeyOf second.rule.id) up.same_key (of_its_input later reached up.reached_is)) (of_its_input earlier left up.left_is) in
    let key_is : left.key ≡ one.following.key = sym (up.reached_is.key_is ∙ up.same_key) in
    let there : up.reached_is.epoch.start ≡ left.offset =
    starts_there later.run one up.found.opened up.reached_is.epoch second up.slot_after.epochs.numbered up.known_at_first
    (subst (λ (key : List ℕ). find key later.run.opening ≡ Some up.found.opened) key_is up.found.found)
    (subst (λ (epoch : ℕ). epoch_at epoch one.epochs ≡ Some up.reached_is.epoch) (up.same_epoch ∙ up.found.same_epoch) up.reached_is.epoch_is)
    ∙ sym up.found.same_offset in
    let rules = rules_of first.rule earlier.run.settings.processors in
    let second_told : AreTold rules up.reached_is.epoch.licences life up.reached_is.epoch.start (events_of up.reached_is.epoch.told) =
    subst (λ (settings : Settings). AreTold (rules_of first.rule settings.processors) up.reached_is.epoch.licences life up.reached_is.epoch.start (events_of up.reached_is.epoch.told)) up.same_settings
    (subst (λ (rule : InputRule). AreTold (rules_of rule later.run.settings.processors) up.reached_is.epoch.licences life up.reached_is.epoch.start (events_of up.reached_is.epoch.told)) same
    (row_told later reached up.reached_is up.slot_after life up.life_after)) in
    record {
      rule = first.rule;
      rule_before = first.rule_is;
      rule_after = second.rule_is ∙ ap (λ (rule : InputRule). Some rule) same;
      key_of_input = subst (IsKeyOf first.rule.id) (sym up.same_key) (of_its_input earlier left up.left_is);
      from_there = there;
      adjoined = adjoined rules life (part_of earlier left up.left_is) (part_of later reached up.reached_is) reached.offset (record {
        same_epoch =
            epoch_found reached.epoch.0 one.epochs up.reached_is.epoch up.reached_is.epoch_is ∙ up.same_epoch
            ∙ sym (epoch_found left.epoch.0 up.left_is.one.epochs up.left_is.epoch up.left_is.epoch_is);
        left = record {
          told = row_told earlier left up.left_is up.slot_before life up.life_before;
          closes = subst (ClosesSettled earlier.run.trace.wires up.left_is.epoch) (sym there) up.left_is.closes;
        };
        reached = record { told = second_told; closes = up.reached_is.closes };
      });
    }

-- ---- known from the first scan on

-- a later scan makes no key known that had a row, unless an earlier slot of it went
known_later : (accounted : AccountedRun) (one : SlotAccount) (row : Row) → find (key_of one) accounted.run.opening ≡ Some row → NoneWentBefore accounted.account one →
    HadNoRow accounted.run (followings_in accounted.account) one.following → ⊥
known_later accounted one row found none (inl no_row) = let q : Some row ≡ None = sym found ∙ no_row in cc
known_later accounted one row found none (inr (last, went)) =
    let of = of_map (λ (other : SlotAccount). other.following) accounted.account went.earlier went.among in
    let stays = member_is (λ (other : SlotAccount). key_of other ≡ key_of one → slot_of other < slot_of one → other.following.gone_after ≡ None) accounted.account of.item none of.among
    (ap (λ (following : Following). following.key) of.is ∙ went.key_is)
    (subst (λ (following : Following). following.slot < slot_of one) (sym of.is) went.before) in
    let q : None ≡ Some last = sym stays ∙ ap (λ (following : Following). following.gone_after) of.is ∙ went.gone in
    cc

pub known_at_first : (accounted : AccountedRun) (one : SlotAccount) (row : Row) → Contains accounted.account one → find (key_of one) accounted.run.opening ≡ Some row →
    NoneWentBefore accounted.account one → one.following.known_from ≡ 0
known_at_first accounted one row there found none =
    by_case one.following.known_from refl
    (member_is (IsNewlyKnown accounted.run (followings_in accounted.account)) (followings_in accounted.account) one.following accounted.followed.newly_known
    (mapped_there (λ (other : SlotAccount). other.following) accounted.account one there))
  where
    by_case : (number : ℕ) → one.following.known_from ≡ number → IsNewlyKnown accounted.run (followings_in accounted.account) one.following → one.following.known_from ≡ 0
    by_case zero is newly = is
    by_case (suc earlier) is newly = absurd (known_later accounted one row found none (newly (omega (arith, is))).no_row)

-- a run of one scan knows each slot from that on
pub known_by_one_scan : (accounted : AccountedRun) (scan : Scan) (one : SlotAccount) → accounted.run.scans ≡ scan ∷ [] → Contains accounted.account one → one.following.known_from ≡ 0
known_by_one_scan accounted scan one only there =
    by_case one.following.known_from refl
    (member_is (IsFollowing accounted.run) (followings_in accounted.account) one.following accounted.followed.each
    (mapped_there (λ (other : SlotAccount). other.following) accounted.account one there)).begun
  where
    by_case : (number : ℕ) → one.following.known_from ≡ number → IsBegun accounted.run one.following → one.following.known_from ≡ 0
    by_case zero is begun = is
    by_case (suc earlier) is begun =
        let q : None ≡ Some begun.scan = ap (λ (scans : List Scan). slice_get scans (suc earlier)) (sym only) ∙ ap (slice_get accounted.run.scans) (sym is) ∙ begun.scan_is in
        absurd cc
