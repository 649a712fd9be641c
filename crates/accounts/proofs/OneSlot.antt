-- The account of a slot, over all openings of its file: if identities are kept and truncations are seen, it is one of the run.
use Rattle.std.proofs.Common.{◌≡◌, ◌⊎◌, inl, inr, ℕ, suc, ◌+◌, ◌-◌, ◌<◌, ◌≤◌, List, [], ◌∷◌, ◌++◌, Contains, length, map, Option, None, Some, IfSome, refl, sym, ap, subst, ◌∙◌, arith}
use Rattle.std.specs.Prelude.{slice_get}
use Rattle.std.specs.List.{AllByRecursion}
use Rattle.std.proofs.lemmas.Bool.{cases_lt}
use Rattle.event_tree.specs.declared.input_rule.InputRule.{InputRule}
use Rattle.harvester.specs.History.{History, IsTelling}
use Rattle.kept_rows.specs.Account.{FollowedTail, Place, SlotAccount}
use Rattle.kept_rows.specs.Epochs.{AreEpochs}
use Rattle.kept_rows.specs.Followed.{Start}
use Rattle.kept_rows.specs.Lost.{WentBy}
use Rattle.kept_rows.specs.Premises.{KeepsIdentity, SlotPremises, TailKeepsIdentity}
use Rattle.kept_rows.specs.Run.{Run, Scan}
use Rattle.kept_rows.specs.Scans.{IsBefore, IsBehind, IsFirstPath, ShowsFile, ShowsFileTo, ShowsKey, moment_in}
use Rattle.kept_rows.specs.Telling.{IsEpochTold, IsNotedMoment, IsSlotAccount, IsTailOf, MayEnd, begun_moment}
use Rattle.kept_rows.specs.Trace.{IsTail}
use Rattle.multiline_core.specs.Rule.{timeout_of}
use Rattle.outside.specs.Files.{File}
use Rattle.outside.specs.declared.history.Shown.{Shown}
use Rattle.ship_core.proofs.Members.{first_there}
use Rattle.slot_parts.proofs.Made.{account_has_epochs, account_is_told}
use Rattle.slot_parts.proofs.Shown.{parts_shown}
use Rattle.slot_parts.specs.Account.{IsLookedTail, IsShownAs, IsShownBy, IsShownPart}
use Rattle.slot_parts.specs.Tails.{IsToldTail, parts_by, parts_in, segments_by, tails_of}
use Rattle.slot_parts.specs.Tellings.{AreReadFirst, tellings_in}
use Rattle.told_events.proofs.Going.{all_behind}
use Rattle.told_events.specs.Licence.{LieApart}
use Rattle.told_events.specs.Rules.{Rules, rules_of}
use Rattle.told_events.specs.Told.{ToldEvent}
use Rattle.wire_base.specs.declared.parcel.Parcel.{Parcel}
use Rattle.accounts.specs.Accounted.{place_in}
use Rattle.accounts.specs.Filed.{Filed, Opening, account_of, first_opening, following_of, last_of, last_opening, left_in, tail_by, tails_in, told_both}
use Rattle.accounts.specs.FollowedFile.{AreKnownTo, AreReopened, BeginsAs, IsFollowedFile, IsKnownTo, IsMomentOf, IsOpeningOf, WasShownLast, moment_by}
use Rattle.accounts.specs.Opened.{Opened}
use Rattle.accounts.specs.ToldFile.{IsToldBy, events_in}
use Rattle.accounts.specs.Watch.{MayFindEnd, Name}
use Rattle.accounts.specs.Watched.{WasRenamedSince, watch_in}
use Rattle.accounts.proofs.Following.{got_each, got_there}
use Rattle.accounts.proofs.Lists.{behind_there, each_then, got_behind}
use Rattle.accounts.proofs.MomentsApart.{lie_apart_among}
use Rattle.accounts.proofs.Names.{each_telling, in_turn_each}
use Rattle.accounts.proofs.Openings.{file_goes_on, first_is_opening, looks_at_file, opens_with_key, reads_so}
use Rattle.accounts.proofs.Orderly.{member_is}
use Rattle.accounts.proofs.Slots.{tells_both}

same_of : {A : Type 0} (x y : A) → Some x ≡ Some y → x ≡ y
same_of x y same = cc

-- what is after the place of one of a list
got_far : {A : Type 0} (front : List A) (x : A) (behind : List A) (k n : ℕ) → n ≡ length front + suc k → slice_get (front ++ x ∷ behind) n ≡ slice_get behind k
got_far [] x behind k n is = let at : n ≡ suc k = omega (arith, is) in ap (slice_get (x ∷ behind)) at
got_far (first ∷ front) x behind k n is =
    let at : n ≡ suc (length front + suc k) = omega (arith, is) in
    ap (slice_get (first ∷ (front ++ x ∷ behind))) at ∙ got_far front x behind k (length front + suc k) refl

-- the last scan that showed a file before a later opening is not before the last one before an earlier opening
not_before : (run : Run) (one next : Opened) (shown : WasShownLast run one) (again : WasShownLast run next) → next.begin.key ≡ one.begin.key → one.opening < next.opening →
    length shown.front ≤ length again.front
not_before run one next shown again same_key later = by_order (cases_lt (length again.front) (length shown.front))
  where
    before_next : (listings : List ℕ) → AllByRecursion (λ listing. listing < one.opening) listings → AllByRecursion (λ listing. listing < next.opening) listings
    before_next [] before = tt
    before_next (listing ∷ listings) before = (let here = before.0 in omega (arith, here, later), before_next listings before.1)

    by_order : (length again.front < length shown.front) ⊎ (length shown.front ≤ length again.front) → length shown.front ≤ length again.front
    by_order (inr is) = is
    by_order (inl nearer) =
        let k = length shown.front - suc (length again.front) in
        let place : length shown.front ≡ length again.front + suc k = omega (arith, nearer) in
        let behind : slice_get again.behind k ≡ Some shown.scan =
        sym (got_far again.front again.scan again.behind k (length shown.front) place)
        ∙ ap (λ (l : List Scan). slice_get l (length shown.front)) (sym again.scans_are ∙ shown.scans_are) ∙ got_behind shown.front shown.scan shown.behind in
        absurd (got_each (λ (other : Scan). ShowsKey run other next.begin.key → IsBefore next.opening other → ⊥) again.behind k shown.scan again.none_nearer behind
        (subst (ShowsKey run shown.scan) (sym same_key) (record {
          number = shown.number;
          path = shown.shown.entry.path;
          shows = record { shown = shown.shown; path_is = refl; shows = (one.begin.input, shown.shows) };
        }))
        (before_next shown.scan.listings shown.made_before))

-- what is after this many of a list
got_from : {A : Type 0} (front xs : List A) (k n : ℕ) → n ≡ length front + k → slice_get (front ++ xs) n ≡ slice_get xs k
got_from [] xs k n is = ap (slice_get xs) (let at : n ≡ k = omega (arith, is) in at)
got_from (first ∷ front) xs k n is =
    let at : n ≡ suc (length front + k) = omega (arith, is) in
    ap (slice_get (first ∷ (front ++ xs))) at ∙ got_from front xs k (length front + k) refl

-- the scan by which a file was opened is before those that were made after the opening
since_opened : (run : Run) (one : Opened) (shown : WasShownLast run one) (name : Name) (was : WasRenamedSince run one name) → length shown.front < length was.front
since_opened run one shown name was = by_order (cases_lt (length shown.front) (length was.front))
  where
    by_order : (length shown.front < length was.front) ⊎ (length was.front ≤ length shown.front) → length shown.front < length was.front
    by_order (inl is) = is
    by_order (inr behind) =
        let k = length shown.front - length was.front in
        let there : slice_get (was.scan ∷ was.behind) k ≡ Some shown.scan =
        sym (got_from was.front (was.scan ∷ was.behind) k (length shown.front) (omega (arith, behind)))
        ∙ ap (λ (l : List Scan). slice_get l (length shown.front)) (sym was.scans_are ∙ shown.scans_are) ∙ got_behind shown.front shown.scan shown.behind in
        let later = got_each (IsBehind one.opening) (was.scan ∷ was.behind) k shown.scan was.later there in
        let entry = shown.shows.asks.entry in
        let after = member_is (λ (listing : ℕ). one.opening < listing) shown.scan.listings entry.listing later entry.of_scan in
        let before = member_is (λ (listing : ℕ). listing < one.opening) shown.scan.listings entry.listing shown.made_before entry.of_scan in
        absurd (omega (arith, after, before))

-- an opening, and how the last scan before it showed the file, which is one since its key is known; and where the file left, neither that scan nor
-- one that named it since is a later one
pub record IsShownOpening (run : Run) (file : Filed) (one : Opening) : Type 0 where
  pub is : IsOpeningOf run file.opened one
  pub shown : WasShownLast run one.opened
  pub known : file.known_from ≤ length shown.front
  pub until : IfSome (left_in file) (λ last. IsKnownTo run last one.opened shown is.told.history.names)

-- ---- of what may be there

if_then : {A : Type 0} {P Q : A → Type 0} (o : Option A) → ((x : A) → P x → Q x) → IfSome o P → IfSome o Q
if_then None follows some = tt
if_then (Some x) follows some = follows x some

each_where : (o : Option ℕ) (names : List Name) → IfSome o (λ last. AllByRecursion (λ (name : Name). name.scan ≤ last) names) → AllByRecursion (λ (name : Name). IfSome o (λ last. name.scan ≤ last)) names
each_where None [] each = tt
each_where None (name ∷ names) each = (tt, each_where None names tt)
each_where (Some last) names each = each

each_both : {A : Type 0} (P Q : A → Type 0) (xs : List A) → AllByRecursion P xs → AllByRecursion Q xs → AllByRecursion (λ x. P x × Q x) xs
each_both P Q [] first second = tt
each_both P Q (x ∷ xs) first second = ((first.0, second.0), each_both P Q xs first.1 second.1)

module _ (run : Run) (placed : Parcel → Option Place) (file : Filed) (keeps : KeepsIdentity run (following_of file)) (same_first : file.opened.number ≡ keeps.number)
    (file_is : slice_get run.trace.files file.opened.number ≡ Some file.opened.file) where
  abbrev account : SlotAccount
  account = account_of placed file

  abbrev rules : Rules
  rules = rules_of file.opened.rule run.settings.processors

  abbrev Waited : Type 0
  Waited = LieApart run.trace.moments (timeout_of rules.events)

  -- ---- an opening

  module _ (one : Opening) (of : IsShownOpening run file one) (own : TailKeepsIdentity run file.opened.rule file.opened.begin.key keeps.number (tail_by one).tail) where
    same_number : one.opened.number ≡ file.opened.number
    same_number =
        own.one_file one.opened.begin.path one.opened.number one.opened.file (tells_both run one.opened one.history one.looks of.is.tail) of.is.file_is
        (opens_with_key run file.opened one of.is)
        ∙ sym same_first

    same_file : one.opened.file ≡ file.opened.file
    same_file = same_of one.opened.file file.opened.file (sym of.is.file_is ∙ ap (slice_get run.trace.files) same_number ∙ file_is)

    is_tail_of : IsTailOf run file.opened.number (tail_by one).tail
    is_tail_of = (
      one.opened.begin.path,
      subst (λ (n : ℕ). IsTail run.trace one.opened.opening one.opened.begin.path n ((tail_by one).tail.looks ++ (tail_by one).tail.beyond)) same_number
          (tells_both run one.opened one.history one.looks of.is.tail),
    )

    rule_is : one.history.rule ≡ file.opened.rule
    rule_is = of.is.told.history.rule ∙ of.is.same_rule

    is_told_tail : IsToldTail rules file.opened.file (MayEnd run account) Waited (tail_by one)
    is_told_tail = record {
      read = subst (λ (f : File). AreReadFirst (tail_by one).history f (tellings_in one.history) (segments_by (tail_by one))) same_file (reads_so run file.opened one of.is).first;
      tells = subst (λ (r : Rules). AllByRecursion (IsTelling r) (tellings_in one.history)) (λ k. rules_of (rule_is k) (of.is.told.history.processors_are k)) of.is.told.epochs;
      same_lines = ap (λ (r : InputRule). r.lines) rule_is;
      may_end = λ may. by_case (of.is.told.history.may_end may);
      has_waited = λ some waited. lie_apart_among one.history.moments run.trace.moments (timeout_of rules.events) some of.is.told.history.at
          (subst (λ (r : InputRule). LieApart one.history.moments (timeout_of r.multiline)) rule_is waited);
    }
      where
        by_case : MayFindEnd (watch_in run) one.opened → MayEnd run account one.opened.opening
        by_case (inl once) = inl once
        by_case (inr removed) = inr (record {
          scan = removed.scan;
          of_run = removed.of_run;
          whole = removed.whole;
          later = removed.later;
          hidden = λ path shows. removed.hidden path
              (subst (λ (n : ℕ). ShowsFile run removed.scan one.opened.begin.key n path) (sym same_number)
              (subst (λ (key : List ℕ). ShowsFile run removed.scan key file.opened.number path) (sym of.is.same_key) shows));
        })

    is_looked_tail : IsLookedTail file.opened.file (tail_by one).tail
    is_looked_tail = subst (λ (f : File). IsLookedTail f (tail_by one).tail) same_file
        (record { begun = one.opened.begun; looks = looks_at_file run file.opened one of.is; on = (reads_so run file.opened one of.is).on })

    -- the file that the scan showed is the one that was opened
    first_path : IsFirstPath run of.shown.scan file.opened.begin.key of.shown.number one.opened.begin.path
    first_path = subst (λ (key : List ℕ). IsFirstPath run of.shown.scan key of.shown.number one.opened.begin.path) of.is.same_key of.shown.first

    shown_number : of.shown.number ≡ file.opened.number
    shown_number =
        keeps.listed of.shown.scan (length of.shown.front) of.shown.number one.opened.begin.path
        (ap (λ (l : List Scan). slice_get l (length of.shown.front)) of.shown.scans_are ∙ got_behind of.shown.front of.shown.scan of.shown.behind)
        (record { since = of.known; until = if_then (left_in file) (λ last known. known.listed) of.until }) first_path.shows
        ∙ sym same_first

    is_shown_as : IsShownAs run account one.opened.opening one.opened.begin.path
    is_shown_as = record {
      before = of.shown.front;
      scan = of.shown.scan;
      behind = of.shown.behind;
      scans_are = of.shown.scans_are;
      first = subst (λ (n : ℕ). IsFirstPath run of.shown.scan file.opened.begin.key n one.opened.begin.path) shown_number first_path;
      none_nearer = each_then (λ (other : Scan). ShowsKey run other one.opened.begin.key → IsBefore one.opened.opening other → ⊥)
          (λ (other : Scan). (path : List ℕ) → ShowsFile run other file.opened.begin.key file.opened.number path → IsBefore one.opened.opening other → ⊥) of.shown.behind
          (λ other none path shows before. none (subst (ShowsKey run other) (sym of.is.same_key) (record { number = file.opened.number; path = path; shows = shows })) before)
          of.shown.none_nearer;
    }

    -- and so is one that a later scan showed
    is_shown_since : (name : Name) → WasRenamedSince run one.opened name → IfSome (left_in file) (λ last. name.scan ≤ last) → IsShownAs run account one.opened.opening name.path
    is_shown_since name was within = record {
      before = was.front;
      scan = was.scan;
      behind = was.behind;
      scans_are = was.scans_are;
      first = subst (λ (n : ℕ). IsFirstPath run was.scan file.opened.begin.key n name.path) number_is first;
      none_nearer = each_then (IsBehind one.opened.opening)
          (λ (other : Scan). (path : List ℕ) → ShowsFile run other file.opened.begin.key file.opened.number path → IsBefore one.opened.opening other → ⊥) was.behind
          (λ other later path shows before.
          let entry = shows.shows.1.asks.entry in
          let behind = member_is (λ (listing : ℕ). one.opened.opening < listing) other.listings entry.listing later entry.of_scan in
          let front = member_is (λ (listing : ℕ). listing < one.opened.opening) other.listings entry.listing before entry.of_scan in
          omega (arith, behind, front))
          was.later.1;
    }
      where
        first : IsFirstPath run was.scan file.opened.begin.key was.number name.path
        first = subst (λ (key : List ℕ). IsFirstPath run was.scan key was.number name.path) of.is.same_key was.first

        number_is : was.number ≡ file.opened.number
        number_is = keeps.listed was.scan (length was.front) was.number name.path
            (ap (λ (l : List Scan). slice_get l (length was.front)) was.scans_are ∙ got_behind was.front was.scan was.behind)
            (record {
              since = let nearer = since_opened run one.opened of.shown name was in let known = of.known in omega (arith, nearer, known);
              until = subst (λ (n : ℕ). IfSome (left_in file) (λ last. n ≤ last)) was.number_is within;
            }) first.shows
            ∙ sym same_first

    -- each event was reported by the path of the opening, or by one of these
    events_are_shown : AllByRecursion (IsShownBy run account one.opened.opening) (events_in one.history)
    events_are_shown =
        in_turn_each run.trace.moments (IsShownBy run account one.opened.opening) one.opened.begin.path of.is.told.history.names (events_in one.history)
        (shown_by one.opened.begin.path is_shown_as)
        (each_then (λ (name : Name). WasRenamedSince run one.opened name × IfSome (left_in file) (λ last. name.scan ≤ last))
        (λ (name : Name). (event : ToldEvent) → IsToldBy name.path run.trace.moments event → IsShownBy run account one.opened.opening event)
        of.is.told.history.names (λ name was. shown_by name.path (is_shown_since name was.0 was.1))
        (each_both (WasRenamedSince run one.opened) (λ (name : Name). IfSome (left_in file) (λ last. name.scan ≤ last)) of.is.told.history.names of.is.told.history.renamed
        (each_where (left_in file) of.is.told.history.names (if_then (left_in file) (λ last known. known.named) of.until))))
        of.is.told.history.told
      where
        shown_by : (path : List ℕ) → IsShownAs run account one.opened.opening path → (event : ToldEvent) → IsToldBy path run.trace.moments event →
            IsShownBy run account one.opened.opening event
        shown_by path shown event told = record { path = subst (IsShownAs run account one.opened.opening) (sym told.path_is) shown; given = told.given }

    parts_are_shown : AllByRecursion (IsShownPart run account) (parts_by rules.events (tail_by one))
    parts_are_shown =
        parts_shown run account one.opened.opening rules.events 0 (tellings_in one.history) (segments_by (tail_by one))
        (each_telling (IsShownBy run account one.opened.opening) (tellings_in one.history) events_are_shown)

  -- ---- all of them

  abbrev Own : FollowedTail → Type 0
  Own tail = TailKeepsIdentity run file.opened.rule file.opened.begin.key keeps.number tail

  of_one_file : (openings : List Opening) → AllByRecursion (IsShownOpening run file) openings → AllByRecursion Own (tails_of (map tail_by openings)) →
      AllByRecursion (IsTailOf run file.opened.number) (tails_of (map tail_by openings))
  of_one_file [] of own = tt
  of_one_file (one ∷ openings) of own = (is_tail_of one of.0 own.0, of_one_file openings of.1 own.1)

  are_told : (openings : List Opening) → AllByRecursion (IsShownOpening run file) openings → AllByRecursion Own (tails_of (map tail_by openings)) →
      AllByRecursion (IsToldTail rules file.opened.file (MayEnd run account) Waited) (map tail_by openings)
  are_told [] of own = tt
  are_told (one ∷ openings) of own = (is_told_tail one of.0 own.0, are_told openings of.1 own.1)

  are_looked : (openings : List Opening) → AllByRecursion (IsShownOpening run file) openings → AllByRecursion Own (tails_of (map tail_by openings)) →
      AllByRecursion (IsLookedTail file.opened.file) (tails_of (map tail_by openings))
  are_looked [] of own = tt
  are_looked (one ∷ openings) of own = (is_looked_tail one of.0 own.0, are_looked openings of.1 own.1)

  are_shown : (openings : List Opening) → AllByRecursion (IsShownOpening run file) openings → AllByRecursion Own (tails_of (map tail_by openings)) →
      AllByRecursion (IsShownPart run account) (parts_in rules.events (map tail_by openings))
  are_shown [] of own = tt
  are_shown (one ∷ openings) of own =
      all_behind (IsShownPart run account) (parts_by rules.events (tail_by one)) (parts_in rules.events (map tail_by openings)) (parts_are_shown one of.0 own.0)
      (are_shown openings of.1 own.1)

  last_file : (one : Opening) (later : List Opening) → AllByRecursion (IsShownOpening run file) (one ∷ later) → AllByRecursion Own (tails_of (map tail_by (one ∷ later))) →
      (last_of one later).opened.file ≡ file.opened.file
  last_file one [] of own = same_file one of.0 own.0
  last_file one (next ∷ later) of own = last_file next later of.1 own.1

-- ---- a file that scans listed

module _ (run : Run) (placed : Parcel → Option Place) (file : Filed) (is : IsFollowedFile run file) where
  -- the moment is of an entry by which a scan showed it
  noted_by : (scan : Scan) → Contains run.scans scan → (number : ℕ) (shown : Shown) →
      ShowsFileTo run scan file.opened.begin.input file.opened.begin.key number shown → file.changed ≡ moment_by run file shown → IsNotedMoment run (following_of file) file.changed
  noted_by scan there number shown shows greater = by_order (cases_lt (begun_moment run (following_of file)) (moment_in shown))
    where
      by_order : (begun_moment run (following_of file) < moment_in shown) ⊎ (moment_in shown ≤ begun_moment run (following_of file)) → IsNotedMoment run (following_of file) file.changed
      by_order (inr within) = inl (omega (arith, greater, within))
      by_order (inl more) = inr (
        omega (arith, greater, more),
        record {
          scan = scan;
          of_run = there;
          number = number;
          shown = shown;
          shows = (file.opened.begin.input, shows);
          moment_is = omega (arith, greater, more);
        },
      )

  is_noted_moment : IsNotedMoment run (following_of file) file.changed
  is_noted_moment = by_case is.moment
    where
      by_case : IsMomentOf run file is.listed → IsNotedMoment run (following_of file) file.changed
      by_case (inl begun) = inl begun
      by_case (inr (inl greater)) =
          let last = is.listed.last in
          noted_by last.scan
          (subst (λ (l : List Scan). Contains l last.scan) (sym last.scans_are) (behind_there last.front (last.scan ∷ last.behind) last.scan (first_there last.scan last.behind)))
          last.number last.shown last.shows greater
      by_case (inr (inr also)) = noted_by also.1.scan (got_there run.scans also.1.place also.1.scan also.1.scan_is) also.1.number also.0 also.1.shows also.2

  -- the scans that listed it as it was opened are since its key is known
  pub known_first : file.known_from ≤ length is.listed.last.front
  known_first = by_case file.shrank_from is.listed.begins
    where
      by_case : (from : Option Start) → BeginsAs run file is.listed.last from → file.known_from ≤ length is.listed.last.front
      by_case None (inl there) = let number = there.number_is in omega (arith, number)
      by_case None (inr before) = let less = before.earlier in omega (arith, less)
      by_case (Some start) shrank = let less = shrank.earlier in omega (arith, less)

  shown_later : (last : Opening) (shown : WasShownLast run last.opened) → last.opened.begin.key ≡ file.opened.begin.key → file.known_from ≤ length shown.front → (so_far : History) (later : List Opening) →
      (are : AreReopened run file.opened last so_far later) → IfSome (left_in file) (λ number. AreKnownTo run number file.opened last so_far later are) →
      AllByRecursion (IsShownOpening run file) later
  shown_later last shown same_key known so_far [] are until = tt
  shown_later last shown same_key known so_far (next ∷ later) are until =
      let since = are.0.closed.since in
      let before = are.0.closed.before in
      let nearer = not_before run last.opened next.opened shown are.0.shown (are.0.is.same_key ∙ sym same_key) (omega (arith, since, before)) in
      let still : file.known_from ≤ length are.0.shown.front = omega (arith, known, nearer) in (
        record { is = are.0.is; shown = are.0.shown; known = still; until = if_then (left_in file) (λ number each. each.0) until },
        shown_later next are.0.shown are.0.is.same_key still (told_both so_far next.history) later are.1 (if_then (left_in file) (λ number each. each.1) until),
      )

  pub slot_has_epochs : AreEpochs run (account_of placed file)
  slot_has_epochs =
      account_has_epochs run file.opened.rule.multiline (place_in placed file.opened.begin.slot) (following_of file) file.opened.number file.changed (tails_in file) refl
      (file_goes_on run file is)

  openings_shown : AllByRecursion (IsShownOpening run file) (first_opening file ∷ file.later)
  openings_shown = (
    record { is = first_is_opening run file is; shown = is.listed.last; known = known_first; until = is.first_known },
    shown_later (first_opening file) is.listed.last refl known_first file.turned.history file.later is.reopened is.later_known,
  )

  module _ (premises : SlotPremises run (following_of file)) where
    keeps : KeepsIdentity run (following_of file)
    keeps = premises.identity

    own : AllByRecursion (TailKeepsIdentity run file.opened.rule file.opened.begin.key keeps.number) (following_of file).tails
    own = keeps.tails file.opened.rule is.rule_is

    same_first : file.opened.number ≡ keeps.number
    same_first =
        own.0.one_file file.opened.begin.path file.opened.number file.opened.file (tells_both run file.opened file.turned.history file.looks is.tail) is.file_is
        (opens_with_key run file.opened (first_opening file) (first_is_opening run file is))

    -- the file of its last opening is that of the slot
    pub same_last_file : (last_opening file).opened.file ≡ file.opened.file
    same_last_file = last_file run placed file keeps same_first is.file_is (first_opening file) file.later openings_shown own

    pub tails_looked : AllByRecursion (IsLookedTail file.opened.file) (following_of file).tails
    tails_looked = are_looked run placed file keeps same_first is.file_is (first_opening file ∷ file.later) openings_shown own

    pub epochs_told : AllByRecursion (IsEpochTold run (rules_of file.opened.rule run.settings.processors) (account_of placed file)) (account_of placed file).epochs
    epochs_told =
        let openings = first_opening file ∷ file.later in
        account_is_told run (rules_of file.opened.rule run.settings.processors) (place_in placed file.opened.begin.slot) (following_of file) file.opened.number file.changed (tails_in file)
        file.opened.file is.in_range is.file_is refl (file_goes_on run file is) (are_told run placed file keeps same_first is.file_is openings openings_shown own)
        tails_looked premises.truncations (are_shown run placed file keeps same_first is.file_is openings openings_shown own)

    pub slot_is_account : IfSome (left_in file) (WentBy run run.trace.wires file.opened.rule (account_of placed file)) → IsSlotAccount run (account_of placed file)
    slot_is_account went = record {
      rule = file.opened.rule;
      rule_is = is.rule_is;
      moment = is_noted_moment;
      of_one_file = of_one_file run placed file keeps same_first is.file_is (first_opening file ∷ file.later) openings_shown own;
      epochs = slot_has_epochs;
      told = epochs_told;
      went = went;
    }
