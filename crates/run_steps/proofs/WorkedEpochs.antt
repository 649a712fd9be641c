-- A file of 9 bytes was read from its row's offset of 5 on, up to its end, and then its length was 3: where the row's epoch is the last one,
-- the file, which is known by its path, ran out of epochs, and in the epoch before it did not; nor did one that is known by its first bytes
-- and was not asked for its key behind the fall. With a row of the last epoch a file of 3 bytes is not started, and with one of the epoch
-- before it is. A run that tells a report has no account by which the first file was told in an epoch above the last.
use Rattle.std.proofs.Common.{◌≡◌, ◌⊎◌, inl, inr, ℕ, zero, suc, ◌+◌, ◌≤◌, Bool, true, false, if◌then◌else◌, List, [], ◌∷◌, ◌++◌, Contains, length, drop, take, None, Some, codes, refl, sym, ap, subst, ◌∙◌, arith}
use Rattle.std.specs.List.{AllByRecursion}
use Rattle.accounts.proofs.Orderly.{member_is}
use Rattle.event_tree.specs.declared.input_rule.IdentityRule.{IdentityRule}
use Rattle.event_tree.specs.declared.input_rule.IdentityRule.TheVariants.{Fingerprint}
use Rattle.event_tree.specs.declared.input_rule.InputRule.{InputRule}
use Rattle.event_tree.specs.declared.settings.Settings.{Settings}
use Rattle.file_identity.proofs.CutAskings.{none_cut}
use Rattle.file_identity.specs.AskedAgain.{KeepsKey, StillHasKey}
use Rattle.file_identity.specs.Asking.{IsAsking}
use Rattle.file_identity.specs.Key.{path_key}
use Rattle.file_looks.specs.Segment.{Segment, cut_from, segments_of, with_fall, with_look}
use Rattle.file_looks.specs.Step.{falls_below, read_by, reaches, step_at}
use Rattle.kept_rows.proofs.Worked.{input}
use Rattle.kept_rows.specs.Account.{AccountedEvent, EpochAccount, FollowedTail, Reading, SlotAccount}
use Rattle.kept_rows.specs.Trace.{Closing, closing_in}
use Rattle.outside.specs.Files.{File}
use Rattle.outside.specs.Folders.{Closed, Event, FolderHistory, Opened}
use Rattle.outside.specs.declared.history.Look.{Look}
use Rattle.outside.specs.declared.history.Question.TheVariants.{Length, ReadAt}
use Rattle.outside.specs.declared.history.Sight.{Sight}
use Rattle.prospect.specs.declared.listed.Listed.{Listed}
use Rattle.restart_join.specs.declared.start.TheConstants.{MAX_EPOCH}
use Rattle.rounds.specs.Words.{DiskWords}
use Rattle.run_steps.specs.AccountedFor.{AccountedFor, RunObjects}
use Rattle.run_steps.specs.BeginFor.{start_among}
use Rattle.run_steps.specs.LastEpoch.{HasItsEpochs, IsToldInEpochs, RanOutOfEpochs, falls_in}
use Rattle.run_steps.specs.Met.{IsTelling}
use Rattle.run_steps.specs.declared.met.Met.{Met}
use Rattle.told_scans.specs.OnlyAsked.{WasClosedWith}
use Rattle.run_steps.specs.Starting.{HasRoomAt, IsFirstTooMany}
use Rattle.wire_base.specs.declared.limits.Full.TheVariants.{Epochs}
use Rattle.wire_base.specs.declared.row.Row.{Row}

-- of an input that knows its files by their paths
abbrev pub key : List ℕ
key = path_key (codes "w") (codes "/a")

abbrev pub row_of_epoch : ℕ → Row
row_of_epoch epoch = record { key = key; path = codes "/a"; epoch = record { 0 = epoch }; offset = 5; changed = record { 0 = 0 } }

abbrev pub file_of_size : ℕ → Listed
file_of_size size = record { input = 0; key = Some key; path = codes "/a"; size = size; changed = record { 0 = 0 } }

-- ---- as it is read

abbrev pub longer : Sight
longer = record { life = 0; length = 9 }

abbrev pub shorter : Sight
shorter = record { life = 1; length = 3 }

abbrev pub looks : List Look
looks =
    record { question = Length; sight = longer } ∷ record { question = ReadAt 5 4; sight = longer }
    ∷ record { question = Length; sight = shorter } ∷ []

-- its two lives
abbrev pub file : File
file = record { numbers = None; lives = codes "012345678" ∷ codes "abc" ∷ [] }

abbrev pub before : FolderHistory
before = record { files = file ∷ []; events = [] }

abbrev pub now : FolderHistory
now = record { files = file ∷ []; events = Opened (codes "/a") 0 longer ∷ Closed 0 looks 0 ∷ [] }

-- the key of its path needs no look
still_has_key : StillHasKey input key (codes "/a") file []
still_has_key = record { before = []; asked = []; behind = []; looks_are = refl; cut = none_cut input.file_identity; gives = record { asking = refl; gave = refl } }

ran_out : RanOutOfEpochs (input ∷ []) (row_of_epoch MAX_EPOCH ∷ []) (file_of_size 9) before now
ran_out = record {
  rule = input;
  rule_is = refl;
  key = key;
  key_is = refl;
  opening = 0;
  since = omega arith;
  number = 0;
  file = file;
  file_is = refl;
  begun = longer;
  opened = refl;
  looks = looks;
  closed = record { faults = 0; closing = refl };
  kept_key = (inl refl, (inr still_has_key, tt));
  began_in = omega arith;
  above_the_last = refl;
}

-- the one tail was closed with these looks
abbrev closing_of : List Look → ℕ → Closing
closing_of those_looks faults = record { looks = those_looks; faults = faults }

abbrev no_events : List Event
no_events = []

none_left_in : (n : ℕ) → drop n no_events ≡ no_events
none_left_in zero = refl
none_left_in (suc n) = refl

pub those : (opening : ℕ) (other : List Look) → WasClosedWith now opening other → other ≡ looks
those zero other closed =
    let same : Some (closing_of looks 0) ≡ Some (closing_of other closed.faults) = closed.closing in
    ap (λ (c : Closing). c.looks) (sym (let q : closing_of looks 0 ≡ closing_of other closed.faults = cc in q))
those (suc opening) other closed =
    let none : None ≡ Some (closing_of other closed.faults) = sym (ap (closing_in (suc opening)) (none_left_in opening)) ∙ closed.closing in
    absurd cc

not_yet : RanOutOfEpochs (input ∷ []) (row_of_epoch 4_294_967_294 ∷ []) (file_of_size 9) before now → ⊥
not_yet ran =
    let same = those ran.opening ran.looks ran.closed in
    let sum : 4_294_967_294 + falls_in 5 ran.looks ≡ 4_294_967_296 = ran.above_the_last in
    let one : falls_in 5 ran.looks ≡ 1 = ap (falls_in 5) same in
    omega (arith, sum, one)

-- one that was listed with fewer bytes than its row's offset would begin above the last epoch, so it is not one whose length fell there
not_where_none_is_left : RanOutOfEpochs (input ∷ []) (row_of_epoch MAX_EPOCH ∷ []) (file_of_size 3) before now → ⊥
not_where_none_is_left ran = let above : MAX_EPOCH + 1 ≤ MAX_EPOCH = ran.began_in in omega (arith, above)

-- an input that knows its files by their first two bytes
abbrev fingerprinted : InputRule
fingerprinted = record input { file_identity = Fingerprint 0 2 }

nothing_asked : (first asked behind : List Look) → [] ≡ first ++ (asked ++ behind) → asked ≡ []
nothing_asked [] [] behind are = refl
nothing_asked [] (look ∷ asked) behind are = absurd cc
nothing_asked (look ∷ first) asked behind are = absurd cc

unasked : (rule : InputRule) (its path : List ℕ) (of : File) → rule.file_identity ≡ Fingerprint 0 2 → StillHasKey rule its path of [] → ⊥
unasked rule its path of identity still =
    let none = nothing_asked still.before still.asked still.behind still.looks_are in
    let asking : IsAsking (Fingerprint 0 2) [] =
    subst (λ (i : IdentityRule). IsAsking i []) identity (subst (IsAsking rule.file_identity) none still.gives.asking) in
    let all : 2 ≡ 0 = asking in
    omega (arith, all)

not_without_its_key : RanOutOfEpochs (fingerprinted ∷ []) (row_of_epoch MAX_EPOCH ∷ []) (file_of_size 9) before now → ⊥
not_without_its_key ran =
    let kept = subst (λ (l : List Look). AllByRecursion (KeepsKey ran.rule ran.key (codes "/a") ran.file) (segments_of 5 l)) (those ran.opening ran.looks ran.closed) ran.kept_key in
    by_fall kept.1.0
  where
    identity : ran.rule.file_identity ≡ Fingerprint 0 2
    identity =
        let is : Some fingerprinted ≡ Some ran.rule = ran.rule_is in
        let same : fingerprinted ≡ ran.rule = cc in
        ap (λ (r : InputRule). r.file_identity) (sym same)

    by_fall : KeepsKey ran.rule ran.key (codes "/a") ran.file (record { place = 0; fall = Some (record { question = Length; sight = shorter }); looks = [] }) → ⊥
    by_fall (inl none) = absurd cc
    by_fall (inr still) = unasked ran.rule ran.key (codes "/a") ran.file identity still

-- ---- as it is to be started

not_started : IsFirstTooMany (row_of_epoch MAX_EPOCH ∷ []) (file_of_size 3 ∷ []) Epochs (codes "/a")
not_started = record {
  place = 0;
  one = file_of_size 3;
  listed_there = refl;
  path_is = refl;
  full = refl;
  room_before = λ earlier one less there. absurd (omega (arith, less));
}

started : HasRoomAt (row_of_epoch 4_294_967_294 ∷ []) (file_of_size 3 ∷ []) 0 (file_of_size 3)
started = refl

-- ---- by the account

abbrev pub tail : FollowedTail
tail = record { opening = 0; place = 5; looks = looks; beyond = [] }

abbrev reading : Segment → Reading
reading segment = record { opening = 0; segment = segment }

-- from its row's place on, and anew where its length had fallen
abbrev told_of : ℕ → ℕ → ℕ → Segment → List AccountedEvent → EpochAccount
told_of epoch start life segment told = record { epoch = epoch; start = start; life = life; readings = reading segment ∷ []; licences = []; told = told }

abbrev pub slot_telling : ℕ → List AccountedEvent → SlotAccount
slot_telling epoch told = record {
  following = record { slot = 0; input = 0; key = key; epoch = epoch; base = 5; known_from = 0; gone_after = None; tails = tail ∷ [] };
  number = 0;
  changed = 0;
  epochs = told_of epoch 5 0 (record { place = 5; fall = None; looks = take 2 looks }) []
      ∷ told_of (epoch + 1) 0 1 (record { place = 0; fall = Some (record { question = Length; sight = shorter }); looks = [] }) told
      ∷ [];
}

-- its last epoch is 4,294,967,295
pub has_its_epochs : (told : List AccountedEvent) → HasItsEpochs (slot_telling 4_294_967_294 told) tail
has_its_epochs told = record {
  each = (omega arith, (omega arith, tt));
  falls = (let one : falls_in 5 looks ≡ 1 = refl in omega (arith, one));
}

-- it is 4,294,967,296
has_no_such : (told : List AccountedEvent) → HasItsEpochs (slot_telling MAX_EPOCH told) tail → ⊥
has_no_such told has = let above = has.each.1.0 in omega (arith, above)

falls_above : MAX_EPOCH + falls_in tail.place tail.looks ≤ MAX_EPOCH → ⊥
falls_above above = let one : falls_in 5 looks ≡ 1 = refl in omega (arith, one, above)

-- so no run that tells a report has such an account
pub refused_where_it_tells : {D : Type 0} (disks : DiskWords D) (settings : Settings) (objects : RunObjects D) (met : Met) (accounted : AccountedFor disks settings objects met) (told : List AccountedEvent) →
    IsTelling met → Contains accounted.account (slot_telling MAX_EPOCH told) → ⊥
refused_where_it_tells disks settings objects met accounted told telling there =
    has_no_such told
    (member_is (λ (one : SlotAccount). AllByRecursion (HasItsEpochs one) one.following.tails) accounted.account (slot_telling MAX_EPOCH told) (accounted.epochs telling) there).0

-- and whatever a run met, no event of its account was told in such an epoch
pub refused_with_events : {D : Type 0} (disks : DiskWords D) (settings : Settings) (objects : RunObjects D) (met : Met) (accounted : AccountedFor disks settings objects met) (event : AccountedEvent)
    (told : List AccountedEvent) → Contains accounted.account (slot_telling MAX_EPOCH (event ∷ told)) → ⊥
refused_with_events disks settings objects met accounted event told there =
    none (member_is IsToldInEpochs accounted.account (slot_telling MAX_EPOCH (event ∷ told)) accounted.told_in_epochs there).1.0
  where
    none : (event ∷ told ≡ []) ⊎ (MAX_EPOCH + 1 ≤ MAX_EPOCH) → ⊥
    none (inl nothing) = cc
    none (inr above) = omega (arith, above)

-- a file that ran out of epochs, by a tail of whose looks all are told of it, has not had its epochs
pub ran_out_has_none : (inputs : List InputRule) (rows : List Row) (one : Listed) (first now_told : FolderHistory) (ran : RanOutOfEpochs inputs rows one first now_told) (slot : SlotAccount) (followed : FollowedTail) →
    slot.following.epoch ≡ (start_among rows one).epoch → followed.place ≡ (start_among rows one).base → followed.looks ≡ ran.looks → HasItsEpochs slot followed → ⊥
ran_out_has_none inputs rows one first now_told ran slot followed epoch place looks_are has =
    let falls : falls_in followed.place followed.looks ≡ falls_in (start_among rows one).base ran.looks = (λ k. falls_in (place k) (looks_are k)) in
    let above = ran.above_the_last in
    let within = has.falls in
    omega (arith, falls, above, within, epoch)

-- ---- how often the length falls

-- no more often than a tail looks
few_behind : (behind : Bool) (place : ℕ) (some : List Look) → length (cut_from behind place some).later ≤ length some
few_behind behind place [] = omega arith
few_behind behind place (look ∷ some) =
    by_case (falls_below place look.question look.sight) (few_behind false 0 some) (few_behind (reaches place look.question look.sight) (place + read_by (step_at behind place look)) some)
  where
    by_case : (b : Bool) → length (cut_from false 0 some).later ≤ length some →
        length (cut_from (reaches place look.question look.sight) (place + read_by (step_at behind place look)) some).later ≤ length some →
        length (if b then with_fall look (cut_from false 0 some)
        else with_look look (cut_from (reaches place look.question look.sight) (place + read_by (step_at behind place look)) some)).later ≤ suc (length some)
    by_case true first second = omega (arith, first)
    by_case false first second = omega (arith, second)

pub few_falls : (place : ℕ) (some : List Look) → falls_in place some ≤ length some
few_falls place some = let few = few_behind false place some in omega (arith, few)
