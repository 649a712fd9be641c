-- A harvester that heard of its file stands for what was told of it: that something was heard, that the file was removed, or that it has another path.
use Rattle.std.proofs.Common.{◌≡◌, ◌⊎◌, inl, inr, ⊎_elim, ℕ, ◌+◌, ◌<◌, ◌≤◌, false, true, List, [], ◌∷◌, ◌++◌, Contains, length, length-append, IfSome, refl, sym, ap, subst, ◌∙◌, arith}
use Rattle.std.proofs.Math.Nat.{eq-or-lt_of_le}
use Rattle.std.specs.Prelude.{IsTrue}
use Rattle.std.specs.List.{AllByRecursion}
use Rattle.accounts.proofs.Histories.{told_file}
use Rattle.accounts.proofs.Lists.{each_last, each_then}
use Rattle.accounts.proofs.Names.{in_turn_renamed, last_is}
use Rattle.accounts.specs.Opened.{IsTailOf, Opened}
use Rattle.accounts.specs.ToldFile.{IsHistoryOf, events_in}
use Rattle.accounts.specs.Turned.{Turned}
use Rattle.accounts.specs.Turning.{IsAtItsEnd, IsTurnedSo}
use Rattle.accounts.specs.Watch.{AreNamesFrom, Name, Watch, last_path}
use Rattle.file_looks.specs.Looks.{TellsLooks}
use Rattle.harvester.specs.HasTold.{HasTold}
use Rattle.harvester.specs.History.{History, with_ending, with_path}
use Rattle.harvester.specs.declared.harvester.Harvester.{Harvester}
use Rattle.lanes.specs.Changing.{HasEnding, HasRenamed, HasStirred}
use Rattle.lanes.specs.Laning.{IsOfSlot}
use Rattle.rounds.specs.Words.{TailWords}
use Rattle.wire_base.specs.declared.note.Begin.{Begin}
use Rattle.wire_base.specs.declared.numbers.Slot.{Slot}
use Rattle.run_steps.specs.Began.{Began}
use Rattle.run_steps.specs.LaterScans.{LaterScan, WasMissed, WasNamed}
use Rattle.run_steps.specs.Renamed.{IsNewestName}
use Rattle.run_steps.specs.Stands.{watch_of}
use Rattle.run_steps.proofs.ChangeStands.{IsToldAlike}

-- ---- names

same_place : {A : Type 0} (xs ys : List A) (x y : A) (more others : List A) → xs ++ x ∷ more ≡ ys ++ y ∷ others → length xs ≡ length ys → x ≡ y
same_place [] [] x y more others are many = cc
same_place [] (b ∷ ys) x y more others are many = absurd (omega (arith, many))
same_place (a ∷ xs) [] x y more others are many = absurd (omega (arith, many))
same_place {A} (a ∷ xs) (b ∷ ys) x y more others are many = let rest : xs ++ x ∷ more ≡ ys ++ y ∷ others = cc in same_place xs ys x y more others rest (omega (arith, many))

-- it is of no later scan, and of this one only with this path
abbrev pub IsNoLater : Name → Name → Type 0
IsNoLater name one = (one.scan ≤ name.scan) × (one.scan ≡ name.scan → one.path ≡ name.path)

-- the path that was given last is this one already, or it may be given
names_on : (least : ℕ) (names : List Name) (name : Name) → least ≤ name.scan → AreNamesFrom least names → AllByRecursion (IsNoLater name) names →
    ((path : List ℕ) → last_path path names ≡ name.path) ⊎ AreNamesFrom least (names ++ name ∷ [])
names_on least [] name from rise each = inr (from, tt)
names_on least (first ∷ names) name from rise each = by_order (eq-or-lt_of_le each.0.0) (λ less. names_on (first.scan + 1) names name (omega (arith, less)) rise.1 each.1)
  where
    none_behind : (some : List Name) → first.scan ≡ name.scan → AreNamesFrom (first.scan + 1) some → AllByRecursion (IsNoLater name) some → last_path first.path some ≡ name.path
    none_behind [] same rises no_later = each.0.1 same
    none_behind (second ∷ some) same rises no_later = let more = rises.0 in let most = no_later.0.0 in absurd (omega (arith, more, most, same))

    by_order : (first.scan ≡ name.scan) ⊎ (first.scan < name.scan) → (first.scan < name.scan → ((path : List ℕ) → last_path path names ≡ name.path) ⊎ AreNamesFrom (first.scan + 1) (names ++ name ∷ [])) →
        ((path : List ℕ) → last_path path (first ∷ names) ≡ name.path) ⊎ AreNamesFrom least (first ∷ names ++ name ∷ [])
    by_order (inl same) later = inl (λ path. none_behind names same rise.1 each.1)
    by_order (inr less) later = ⊎_elim (λ last. inl (λ path. last first.path)) (λ rises. inr (rise.0, rises)) (later less)

module _ (scans : List LaterScan) (opened : Opened) (name : Name) (is : IsNewestName scans opened name) where
  pub no_later : (one : Name) → WasNamed scans opened one → IsNoLater name one
  no_later one was = (within, same_path)
    where
      within : one.scan ≤ name.scan
      within = omega (arith, was.number_is, is.newest, ap length was.scans_are, length-append was.before (was.scan ∷ was.later))

      same_path : one.scan ≡ name.scan → one.path ≡ name.path
      same_path same =
          let scan_is = same_place was.before is.named.before was.scan is.named.scan was.later is.named.later (sym was.scans_are ∙ is.named.scans_are)
          (omega (arith, was.number_is, is.named.number_is, same)) in
          sym was.path_is ∙ is.only was.one (subst (λ (s : LaterScan). Contains s.files was.one) scan_is was.listed) was.keyed

  module _ {D : Type 0} (start : Began D) (moments : List ℕ) where
    named_history : (h : History) → IsHistoryOf (watch_of start scans) opened moments h → IsHistoryOf (watch_of start scans) opened moments (with_path name.path h)
    named_history h of = by_names (names_on 0 of.names name (omega arith) of.rise (each_then (WasNamed scans opened) (IsNoLater name) of.names no_later of.renamed))
      where
        by_names : ((path : List ℕ) → last_path path of.names ≡ name.path) ⊎ AreNamesFrom 0 (of.names ++ name ∷ []) → IsHistoryOf (watch_of start scans) opened moments (with_path name.path h)
        by_names (inl last) = record {
          rule = of.rule;
          processors_are = of.processors_are;
          begin = of.begin;
          asked_before = of.asked_before;
          names = of.names;
          rise = of.rise;
          renamed = of.renamed;
          path = sym (last opened.begin.path);
          ends = of.ends;
          may_end = of.may_end;
          not_forgotten = of.not_forgotten;
          epochs = of.epochs;
          at = of.at;
          told = of.told;
        }
        by_names (inr rises) = record {
          rule = of.rule;
          processors_are = of.processors_are;
          begin = of.begin;
          asked_before = of.asked_before;
          names = of.names ++ name ∷ [];
          rise = rises;
          renamed = each_last (WasNamed scans opened) of.names name of.renamed is.named;
          path = sym (last_is opened.begin.path of.names name);
          ends = of.ends;
          may_end = of.may_end;
          not_forgotten = of.not_forgotten;
          epochs = of.epochs;
          at = of.at;
          told = in_turn_renamed moments opened.begin.path of.names name (events_in h) of.told;
        }

-- ---- a removed file

ended_history : {D : Type 0} (start : Began D) (scans : List LaterScan) (opened : Opened) (moments : List ℕ) (h : History) → WasMissed scans opened →
    IsHistoryOf (watch_of start scans) opened moments h → IsHistoryOf (watch_of start scans) opened moments (with_ending false h)
ended_history start scans opened moments h missed of = record {
  rule = of.rule;
  processors_are = of.processors_are;
  begin = of.begin;
  asked_before = of.asked_before;
  names = of.names;
  rise = of.rise;
  renamed = of.renamed;
  path = of.path;
  ends = λ ends. inr missed;
  may_end = of.may_end;
  not_forgotten = refl;
  epochs = of.epochs;
  at = of.at;
  told = of.told;
}

-- ---- harvesters

module _ {T D : Type 0} (tails : TailWords T) (start : Began D) (scans : List LaterScan) (opened : List Opened) (moments : List ℕ) where
  abbrev watch : Watch
  watch = watch_of start scans

  abbrev So : Turned → Harvester T → Type 0
  So = IsTurnedSo tails.numbers tails.told watch opened moments

  -- of the slot of its harvester
  slot_is : (slot : Slot) (x : Turned) (h : Harvester T) (so : So x h) → IsOfSlot slot h → so.opened.begin.slot ≡ slot
  slot_is slot x h so of_slot = ap (λ (b : Begin). b.slot) (sym (so.has_told.held.holds.follows.begin ∙ so.is_told.history.begin)) ∙ of_slot

  pub stirred_on : (before after : Harvester T) → HasStirred before after → (x : Turned) → So x before → (y : Turned) × So y after × IsToldAlike x y
  stirred_on before after stirs x so = (x, subst (So x) (sym stirs) still, record { slot = refl; tellings = refl; stage_is = refl; epoch = refl; left = refl })
    where
      still : So x (record before { rests = false })
      still = record {
        has_told = record { held = so.has_told.held; decides = so.has_told.decides; looked = so.has_told.looked };
        opened = so.opened;
        of_files = so.of_files;
        is_told = so.is_told;
        numbers_are = so.numbers_are;
        rests = λ rests. absurd (let no : false ≡ true = rests in cc);
      }

  module _ (before after : Harvester T) (tail_same : after.tail ≡ before.tail) (x : Turned) (so : So x before) (h : History) (has : HasTold tails.numbers tails.told h after)
      (of : IsHistoryOf watch so.opened moments h) (rests : IsTrue after.rests → IsAtItsEnd watch.once h) where
    numbers_are : IfSome (tails.told after.tail) (λ tail. tails.numbers after.tail ≡ so.opened.file.numbers)
    numbers_are = subst (λ (t : T). IfSome (tails.told t) (λ tail. tails.numbers t ≡ so.opened.file.numbers)) (sym tail_same) so.numbers_are

    heard : So (record x { history = h }) after
    heard = record {
      has_told = has;
      opened = so.opened;
      of_files = so.of_files;
      is_told = told_file watch moments tails.numbers tails.told so.opened (record x { history = h }) after has so.is_told.slot of
          (subst (λ (t : T). IfSome (tails.told t) (IsTailOf so.opened)) (sym tail_same) so.is_told.tail)
          (subst (λ (t : T). IfSome (tails.told t) TellsLooks) (sym tail_same) so.is_told.tells) numbers_are;
      numbers_are = numbers_are;
      rests = rests;
    }

  pub ended_on : (slot : Slot) (before after : Harvester T) → IsOfSlot slot before → before.rests ≡ false → ((one : Opened) → Contains opened one → one.begin.slot ≡ slot → WasMissed scans one) → HasEnding tails.numbers tails.told false before after →
      (x : Turned) → So x before → (y : Turned) × So y after × IsToldAlike x y
  ended_on slot before after of_slot at_work removed ends x so = (
    record x { history = with_ending false x.history },
    heard before after (ap (λ (h : Harvester T). h.tail) ends.keeps.others) x so (with_ending false x.history) (ends.ends x.history so.has_told)
        (ended_history start scans so.opened moments x.history (removed so.opened so.of_files (slot_is slot x before so of_slot)) so.is_told.history)
        (λ rests. absurd (let no : true ≡ false = sym rests ∙ ap (λ (h : Harvester T). h.rests) ends.keeps.others ∙ at_work in cc)),
    record { slot = refl; tellings = refl; stage_is = refl; epoch = refl; left = refl },
  )

  pub renamed_on : (slot : Slot) (name : Name) (before after : Harvester T) → IsOfSlot slot before → ((one : Opened) → Contains opened one → one.begin.slot ≡ slot → IsNewestName scans one name) → HasRenamed tails.numbers tails.told name.path before after →
      (x : Turned) → So x before → (y : Turned) × So y after × IsToldAlike x y
  renamed_on slot name before after of_slot named renames x so = (
    record x { history = with_path name.path x.history },
    heard before after (ap (λ (h : Harvester T). h.tail) renames.keeps.others) x so (with_path name.path x.history) (renames.renamed x.history so.has_told)
        (named_history scans so.opened name (named so.opened so.of_files (slot_is slot x before so of_slot)) start moments x.history so.is_told.history)
        (λ rests. let was = so.rests (sym (ap (λ (h : Harvester T). h.rests) renames.keeps.others) ∙ rests) in record {
          asks_nothing = was.asks_nothing;
          told = λ may. let told = was.told may in record { ended = told.ended; all_told = told.all_told };
        }),
    record { slot = refl; tellings = refl; stage_is = refl; epoch = refl; left = refl },
  )
