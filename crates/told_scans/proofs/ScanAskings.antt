-- The askings of a run's scan stand in the order of the listed files, each for an entry that its input covers; their openings stand one
-- behind the other, right behind the scan's listings.
use Rattle.std.proofs.Common.{◌≡◌, ◌≢◌, inl, inr, ⊎_elim, ℕ, suc, ◌+◌, ◌≤◌, List, [], ◌∷◌, ◌++◌, Contains, length, map, append_assoc, length-append, Option, Some, None, refl, sym, ap, subst, ◌∙◌, arith}
use Rattle.std.proofs.Math.Nat.{eq-or-lt_of_le}
use Rattle.std.proofs.lemmas.Bool.{cases_lt}
use Rattle.std.specs.Cmp.{nat_cmp_is}
use Rattle.std.specs.Prelude.{slice_get}
use Rattle.std.specs.List.{AllByRecursion}
use Rattle.std.specs.Ordering.{nat_cmp, ordering_then}
use Rattle.std.specs.declared.cmp.Ordering.{Ordering}
use Rattle.std.specs.declared.cmp.Ordering.TheVariants.{Equal, Greater, Less}
use Rattle.event_tree.specs.declared.input_rule.IdentityRule.{IdentityRule}
use Rattle.event_tree.specs.declared.input_rule.IdentityRule.TheVariants.{Fingerprint, Native, Path}
use Rattle.event_tree.specs.declared.input_rule.InputRule.{InputRule}
use Rattle.file_identity.specs.Answers.{IsFingerprint}
use Rattle.file_identity.specs.Key.{named_key}
use Rattle.kept_rows.specs.Askings.{AreMadeFrom, AsksInOrder, ComesBehind, HasItsOpening, IsForAnEntry, IsMadeAt, behind_all}
use Rattle.kept_rows.specs.Askings as askings
use Rattle.kept_rows.specs.Run.{Asking, Run, Scan}
use Rattle.kept_rows.specs.Scans.{IsCovered, IsNoFingerprint, listings_from}
use Rattle.outside.specs.Folders.{Closed, Event, FolderHistory, NotThere, Opened}
use Rattle.prospect.specs.AskedFiles.{Answer, AnswersSo, ByName, FailsSo, Gave, NotFound, TooFew, WasAsked}
use Rattle.prospect.specs.ListedFiles.{shown_in, AreApart, AreInOrder, HasFile, name_of, place_of, place_order}
use Rattle.prospect.specs.PastFaults.{Answered, Attempt, Faulted, FaultsOne, Served, TriesOne, Trial, Unserved, file_tried, served_in}
use Rattle.prospect.specs.Scan.{Listing, with_events}
use Rattle.prospect.specs.declared.listed.Listed.{Listed}
use Rattle.ship_core.proofs.Members.{first_there, later_there, none_there}
use Rattle.wire_base.proofs.ByteOrder.{compare_less, same_key}
use Rattle.wire_base.specs.KeyOrder.{compare}
use Rattle.told_scans.specs.FolderOn.{FolderGoesOn}
use Rattle.told_scans.proofs.AskedEvents.{AnswerStands, all_tried, goes_on_asking, goes_on_further}
use Rattle.told_scans.proofs.ScanList.{IsOfShown, each_tried, entry_of_listed, in_all, listed_length, listings, listings_are, run_goes_on, shows_entry, trial_of}
use Rattle.told_scans.proofs.Scanning.{are_at}
use Rattle.told_scans.specs.Partial.{AreAt}
use Rattle.told_scans.proofs.Members.{each_member, some_is}
use Rattle.told_scans.proofs.TriedAskings.{AreAskingsOf, IsAskingOf}
use Rattle.told_scans.specs.ToldScan.{AsksSo, IsAround, IsTold, RunAround, ToldScan, asking_at, event_tried, opening_by, run_around, scan_by}

-- ---- which inputs read their files

pub no_fingerprint : (rule : IdentityRule) → ¬ (IsFingerprint rule) → IsNoFingerprint rule
no_fingerprint (Fingerprint offset count) none = absurd (none tt)
no_fingerprint Native none = tt
no_fingerprint Path none = tt

pub not_both : (rule : IdentityRule) → IsFingerprint rule → IsNoFingerprint rule → ⊥
not_both (Fingerprint offset count) is none = none
not_both Native is none = is
not_both Path is none = is

by_bytes : (rule : IdentityRule) → ¬ (IsNoFingerprint rule) → IsFingerprint rule
by_bytes (Fingerprint offset count) reads = tt
by_bytes Native reads = absurd (reads tt)
by_bytes Path reads = absurd (reads tt)

-- an entry does not tell a fingerprint
pub no_name : (id : List ℕ) (rule : IdentityRule) (path : List ℕ) (numbers : Option (ℕ × ℕ)) → IsFingerprint rule → named_key id rule path numbers ≡ None
no_name id (Fingerprint offset count) path numbers is = refl
no_name id Native path numbers is = absurd is
no_name id Path path numbers is = absurd is

its_opening : (rule : InputRule) (one : Listed) (answer : Answer) (told : FolderHistory) → AnswerStands rule one answer told → HasItsOpening rule.file_identity (opening_by answer)
its_opening rule one ByName told stands = no_fingerprint rule.file_identity stands
its_opening rule one (Gave opening key) told stands = not_both rule.file_identity stands.by_bytes
its_opening rule one (TooFew opening) told stands = not_both rule.file_identity stands.by_bytes
its_opening rule one (NotFound opening) told stands = not_both rule.file_identity stands.by_bytes

-- ---- where their openings stand

-- what was done next stands there still
stand_there : (before mid later : FolderHistory) (more : List Event) → mid ≡ with_events before more → FolderGoesOn mid later → AreAt later.events (length before.events) more
stand_there before mid later more is on =
    subst (λ (l : List Event). AreAt l (length before.events) more)
    (sym (on.events ∙ ap (λ (h : FolderHistory). h.events ++ on.more) is ∙ append_assoc before.events more on.more)) (are_at more before.events on.more)

module _ (rule : InputRule) (one : Listed) (before mid later : FolderHistory) (on : FolderGoesOn mid later) where
  made_by_tail : (opening : ℕ) (key : Option (List ℕ)) → WasAsked rule one opening key before mid →
      IsMadeAt later.events one.path (Some opening) (length before.events) (length mid.events)
  made_by_tail opening key was =
      let both : List Event = Opened one.path was.number was.begun ∷ Closed opening was.looks 0 ∷ [] in
      let there = subst (λ (k : ℕ). AreAt later.events k both) (sym was.opening_is) (stand_there before mid later both was.kept on) in
      let long = ap (λ (h : FolderHistory). length h.events) was.kept in
      let sum = length-append before.events both in (
        was.opening_is,
        inl (record { number = was.number; begun = was.begun; opened = there.0; looks = was.looks; faults = 0; closed = there.1.0 }, omega (arith, long, sum)),
      )

  made_at : (answer : Answer) → AnswersSo rule one answer before mid → IsMadeAt later.events one.path (opening_by answer) (length before.events) (length mid.events)
  made_at ByName so = ap (λ (h : FolderHistory). length h.events) so.1
  made_at (Gave opening key) so = made_by_tail opening (Some key) so
  made_at (TooFew opening) so = made_by_tail opening None so
  made_at (NotFound opening) so =
      let gone : List Event = NotThere one.path ∷ [] in
      let there = subst (λ (k : ℕ). AreAt later.events k gone) (sym so.opening_is) (stand_there before mid later gone so.kept on) in
      let long = ap (λ (h : FolderHistory). length h.events) so.kept in
      let sum = length-append before.events gone in
      (so.opening_is, inr (inl there.0, omega (arith, long, sum)))

-- opening it failed, or reading it did
made_in_vain : (inputs : List InputRule) (one : Listed) (before mid later : FolderHistory) → FaultsOne inputs one before mid → FolderGoesOn mid later →
    IsMadeAt later.events one.path (Some (length before.events)) (length before.events) (length mid.events)
made_in_vain inputs one before mid later faults on = by_case faults.fails
  where
    long : length mid.events ≡ length before.events + length faults.last
    long = ap (λ (h : FolderHistory). length h.events) faults.kept ∙ length-append before.events faults.last

    there : AreAt later.events (length before.events) faults.last
    there = stand_there before mid later faults.last faults.kept on

    by_case : FailsSo one.path before faults.last → IsMadeAt later.events one.path (Some (length before.events)) (length before.events) (length mid.events)
    by_case (inl failed) =
        let at = subst (AreAt later.events (length before.events)) failed there in
        let few = ap (λ (l : List Event). length l) failed in
        (refl, inr (inr at.0, omega (arith, long, few)))
    by_case (inr vain) =
        let at = subst (AreAt later.events (length before.events)) vain.read.last_is there in
        let few = ap (λ (l : List Event). length l) vain.read.last_is in (
          refl,
          inl (
            record { number = vain.read.number; begun = vain.read.begun; opened = at.0; looks = vain.read.looks; faults = vain.read.faults; closed = at.1.0 },
            omega (arith, long, few),
          ),
        )

one_made : (inputs : List InputRule) (trial : Trial) (before mid later : FolderHistory) → TriesOne inputs trial before mid → FolderGoesOn mid later →
    IsMadeAt later.events (asking_at (length before.events) trial).path (asking_at (length before.events) trial).opening (length before.events) (length mid.events)
one_made inputs (Answered one) before mid later tries on = made_at tries.rule one.listed before mid later on one.answer tries.answered
one_made inputs (Faulted one) before mid later tries on = made_in_vain inputs one before mid later tries on

made_from : (inputs : List InputRule) (trials : List Trial) (askings : List Asking) (before after later : FolderHistory) → AsksSo inputs trials askings before after →
    FolderGoesOn after later → AreMadeFrom later.events (length before.events) askings
made_from inputs [] [] before after later asks on = tt
made_from inputs [] (asking ∷ askings) before after later asks on = absurd asks
made_from inputs (trial ∷ trials) [] before after later asks on = absurd asks
made_from inputs (trial ∷ trials) (asking ∷ askings) before after later asks on =
    let mid = asks.0 in
    let rest = goes_on_asking mid after (all_tried inputs trials askings mid after asks.3) in (
      length mid.events,
      subst (λ (a : Asking). IsMadeAt later.events a.path a.opening (length before.events) (length mid.events)) (sym asks.2)
          (one_made inputs trial before mid later asks.1 (goes_on_further mid after later rest on)),
      made_from inputs trials askings mid after later asks.3 on,
    )

-- behind a listing the place from which one begins does not matter
behind_some : (attempt : Attempt) (its : List Attempt) (began place : ℕ) →
    behind_all began (listings_from place (map event_tried (attempt ∷ its))) ≡ place + length (map event_tried (attempt ∷ its))
behind_some (Served listing) [] began place = omega arith
behind_some (Unserved glob) [] began place = omega arith
behind_some (Served listing) (next ∷ its) began place = let rest = behind_some next its (suc place) (suc place) in omega (arith, rest)
behind_some (Unserved glob) (next ∷ its) began place = let rest = behind_some next its (suc place) (suc place) in omega (arith, rest)

-- ---- in which order they stand

later_number : (one other : ℕ) → nat_cmp other one ≢ Less → one ≤ other
later_number one other not_less = ⊎_elim (λ less. absurd (not_less (sym (nat_cmp_is other one Less less)))) (λ is. is) (cases_lt other one)

-- the asking for the file, at this opening
abbrev ask_of : Listed → Option ℕ → Asking
ask_of one opening = record { input = one.input; path = one.path; opening = opening }

module _ (inputs : List InputRule) where
  -- where its input opened the file, no entry told its key
  record IsAskedBy (one : Listed) (asking : Asking) : Type 0 where
    rule : InputRule
    rule_is : slice_get inputs one.input ≡ Some rule
    asking_is : asking ≡ ask_of one asking.opening
    opening : HasItsOpening rule.file_identity asking.opening
    unnamed : IsFingerprint rule.file_identity → one.key ≡ None

  -- one by one
  abbrev AreAskedBy : List Listed → List Asking → Type 0
  AreAskedBy [] [] = Unit {0}
  AreAskedBy [] (asking ∷ askings) = ⊥
  AreAskedBy (one ∷ listed) [] = ⊥
  AreAskedBy (one ∷ listed) (asking ∷ askings) = IsAskedBy one asking × AreAskedBy listed askings

  module _ (one later : Listed) (first next : Asking) (its : IsAskedBy one first) (other : IsAskedBy later next) (apart : name_of later ≢ name_of one) where
    opens_nothing : later.path ≡ one.path → later.input ≡ one.input → (o : Option ℕ) → HasItsOpening other.rule.file_identity o → o ≡ None
    opens_nothing path input None has = refl
    opens_nothing path input (Some opening) has =
        let reads = by_bytes other.rule.file_identity has in
        let same : other.rule ≡ its.rule = some_is other.rule its.rule (sym other.rule_is ∙ ap (slice_get inputs) input ∙ its.rule_is) in
        let key : later.key ≡ one.key = other.unnamed reads ∙ sym (its.unnamed (subst (λ (r : InputRule). IsFingerprint r.file_identity) same reads)) in
        absurd (apart (λ k. record { place = record { path = path k; input = input k }; key = key k }))

    behind_it : place_order (place_of later) (place_of one) ≢ Less → ComesBehind (ask_of one first.opening) (ask_of later next.opening)
    behind_it not_ahead = by_path (compare later.path one.path) refl
      where
        by_path : (o : Ordering) → compare later.path one.path ≡ o → ComesBehind (ask_of one first.opening) (ask_of later next.opening)
        by_path Less is = absurd (not_ahead (ap (λ (o : Ordering). ordering_then o (nat_cmp later.input one.input)) is))
        by_path Greater is = inl (compare_less later.path one.path is)
        by_path Equal is =
            let path = same_key later.path one.path is in
            let not_less : nat_cmp later.input one.input ≢ Less =
            (λ less. not_ahead (ap (λ (o : Ordering). ordering_then o (nat_cmp later.input one.input)) is ∙ less)) in
            inr (
              sym path,
              ⊎_elim (λ (same : one.input ≡ later.input). inr (same, opens_nothing path (sym same) next.opening other.opening)) inl
                  (eq-or-lt_of_le (later_number one.input later.input not_less)),
            )

    comes_behind : place_order (place_of later) (place_of one) ≢ Less → ComesBehind first next
    comes_behind not_ahead = subst (ComesBehind first) (sym other.asking_is) (subst (λ (a : Asking). ComesBehind a (ask_of later next.opening)) (sym its.asking_is) (behind_it not_ahead))

  all_behind : (one : Listed) (asking : Asking) (listed : List Listed) (askings : List Asking) → IsAskedBy one asking → AreAskedBy listed askings →
      AllByRecursion (λ (later : Listed). place_order (place_of later) (place_of one) ≢ Less) listed → ¬ (HasFile listed (name_of one)) → AllByRecursion (ComesBehind asking) askings
  all_behind one asking [] [] its each ordered none = tt
  all_behind one asking [] (next ∷ askings) its each ordered none = absurd each
  all_behind one asking (later ∷ listed) [] its each ordered none = absurd each
  all_behind one asking (later ∷ listed) (next ∷ askings) its each ordered none = (
    comes_behind one later asking next its each.0
        (λ same. let first = first_there later listed in none (first.0, later, first.1, first.2, same)) ordered.0,
    all_behind one asking listed askings its each.1 ordered.1
        (λ has. let there = later_there later has.1 listed (has.0, has.2, has.3) in none (there.0, has.1, there.1, there.2, has.4)),
  )

  all_in_order : (listed : List Listed) (made : List Asking) → AreAskedBy listed made → AreInOrder listed → AreApart listed → askings.AreInOrder made
  all_in_order [] [] each ordered apart = tt
  all_in_order [] (asking ∷ made) each ordered apart = absurd each
  all_in_order (one ∷ listed) [] each ordered apart = absurd each
  all_in_order (one ∷ listed) (asking ∷ made) each ordered apart = (
    all_behind one asking listed made each.0 each.1 ordered.0 apart.0,
    all_in_order listed made each.1 ordered.1 apart.1,
  )

-- ---- together

module _ (told : ToldScan) (has : IsTold told) (around : RunAround) (on : IsAround told around) where
  abbrev run : Run
  run = run_around told around

  abbrev scan : Scan
  scan = scan_by told

  abbrev inputs : List InputRule
  inputs = told.settings.inputs

  abbrev IsIts : Trial → Asking → Type 0
  IsIts trial asking = IsAskingOf inputs (length told.listed.events) told.scanned trial asking

  -- the entry of a listed file, by the rule of its input
  record HasItsEntry (one : Listed) (rule : InputRule) : Type 0 where
    entry : IsOfShown inputs (listings told has around on) one
    covered : IsCovered rule.paths one.path
    unnamed : IsFingerprint rule.file_identity → one.key ≡ None

  its_entry : (one : Listed) → Contains has.all one → (rule : InputRule) → slice_get inputs one.input ≡ Some rule → HasItsEntry one rule
  its_entry one there rule rule_is =
      let entry = entry_of_listed told has around on one there in
      let same = some_is entry.by.rule rule (sym entry.by.rule_is ∙ rule_is) in
      record {
        entry = entry;
        covered = subst (λ (r : InputRule). IsCovered r.paths one.path) same entry.by.covered;
        unnamed = λ reads. entry.by.key_is ∙ ap (λ (r : InputRule). named_key r.id r.file_identity entry.shown.entry.path entry.shown.entry.native) same
            ∙ no_name rule.id rule.file_identity entry.shown.entry.path entry.shown.entry.native reads;
      }

  module _ (trial : Trial) (asking : Asking) (there : Contains has.trials trial) where
    asked_by : (its : Trial) → trial ≡ its → IsIts its asking → IsAskedBy inputs (file_tried its) asking
    asked_by (Answered of) same is =
        let entry = its_entry of.listed (subst (λ (t : Trial). Contains has.all (file_tried t)) same (in_all told has around on trial there)) is.1.rule is.1.rule_is in
        record {
          rule = is.1.rule;
          rule_is = is.1.rule_is;
          asking_is = is.0 ∙ ap (ask_of of.listed) (sym (ap (λ (a : Asking). a.opening) is.0));
          opening = subst (HasItsOpening is.1.rule.file_identity) (sym (ap (λ (a : Asking). a.opening) is.0)) (its_opening is.1.rule of.listed of.answer told.scanned is.1.stands);
          unnamed = entry.unnamed;
        }
    asked_by (Faulted one) same is =
        let entry = its_entry one (subst (λ (t : Trial). Contains has.all (file_tried t)) same (in_all told has around on trial there)) is.rule is.rule_is in
        record {
          rule = is.rule;
          rule_is = is.rule_is;
          asking_is = is.asking_is ∙ ap (ask_of one) (sym (ap (λ (a : Asking). a.opening) is.asking_is));
          opening = subst (HasItsOpening is.rule.file_identity) (sym (ap (λ (a : Asking). a.opening) is.asking_is)) (not_both is.rule.file_identity is.by_bytes);
          unnamed = entry.unnamed;
        }

    for_an_entry : IsIts trial asking → IsForAnEntry run scan asking
    for_an_entry is =
        let its = asked_by trial refl is in
        let one = file_tried trial in
        let its_own = its_entry one (in_all told has around on trial there) its.rule its.rule_is in
        let input : asking.input ≡ one.input = ap (λ (a : Asking). a.input) its.asking_is in
        let path : asking.path ≡ one.path = ap (λ (a : Asking). a.path) its.asking_is in
        record {
          shown = its_own.entry.shown;
          entry = shows_entry told has around on its_own.entry.shown its_own.entry.among;
          path_is = path ∙ its_own.entry.by.path_is;
          rule = its.rule;
          rule_is = ap (slice_get inputs) input ∙ its.rule_is;
          covered = subst (IsCovered its.rule.paths) (sym path) its_own.covered;
          opening = its.opening;
        }

  are_asked_by : AreAskedBy inputs (map file_tried has.trials) told.askings
  are_asked_by = paired has.trials told.askings (each_tried told has around on) (λ trial there. there)
    where
      paired : (trials : List Trial) (askings : List Asking) → AreAskingsOf inputs (length told.listed.events) told.scanned trials askings →
          ((trial : Trial) → Contains trials trial → Contains has.trials trial) → AreAskedBy inputs (map file_tried trials) askings
      paired [] [] are among = tt
      paired [] (asking ∷ askings) are among = absurd are
      paired (trial ∷ trials) [] are among = absurd are
      paired (trial ∷ trials) (asking ∷ askings) are among = (
        asked_by trial asking (among trial (first_there trial trials)) trial refl are.0,
        paired trials askings are.1 (λ other there. among other (later_there trial other trials there)),
      )

  -- a scan for no glob asked for nothing
  none_asked : has.attempts ≡ [] → (askings : List Asking) → told.askings ≡ askings → (place : ℕ) → AreMadeFrom around.ended.events place askings
  none_asked none [] is place = tt
  none_asked none (asking ∷ askings) is place =
      let its = trial_of told has around on asking (subst (λ (l : List Asking). Contains l asking) (sym is) (first_there asking askings)) in
      let entry = entry_of_listed told has around on (file_tried its.trial) (in_all told has around on its.trial its.among) in
      let listings_none : has.listings ≡ [] = sym has.served ∙ ap served_in none in
      absurd (none_there entry.shown (subst (λ (l : List Listing). Contains (shown_in l) entry.shown) listings_none entry.among))

  made : AreMadeFrom around.ended.events (behind_all around.began scan.listings) scan.askings
  made = by_attempts has.attempts refl
    where
      by_attempts : (its : List Attempt) → has.attempts ≡ its → AreMadeFrom around.ended.events (behind_all around.began scan.listings) scan.askings
      by_attempts [] is = none_asked is told.askings refl (behind_all around.began scan.listings)
      by_attempts (attempt ∷ its) is = subst (λ (n : ℕ). AreMadeFrom around.ended.events n scan.askings) right_behind
          (made_from inputs has.trials told.askings told.listed told.scanned around.ended has.asks (run_goes_on told has around on))
        where
          right_behind : length told.listed.events ≡ behind_all around.began scan.listings
          right_behind =
              listed_length told has around on
              ∙ ap (λ (l : List Attempt). length told.earlier.events + length (map event_tried l)) is
              ∙ sym (behind_some attempt its around.began (length told.earlier.events))
              ∙ sym (ap (behind_all around.began) (listings_are told has around on ∙ ap (λ (l : List Attempt). listings_from (length told.earlier.events) (map event_tried l)) is))

  pub asks_in_order : AsksInOrder run scan
  asks_in_order = record {
    each = each_member (IsForAnEntry run scan) scan.askings (λ asking among. let of = trial_of told has around on asking among in for_an_entry of.trial asking of.among of.is);
    in_order = all_in_order inputs (map file_tried has.trials) told.askings are_asked_by (subst AreInOrder (sym has.tried_are) has.shown.in_order)
        (subst AreApart (sym has.tried_are) has.shown.apart);
    made = made;
  }
