-- A path that a run followed was listed by its scan, whatever the folder told behind that; and so was one whose file told no native numbers as
-- it was opened.
use Rattle.std.proofs.Common.{◌≡◌, ℕ, List, ◌++◌, length, drop, map, Any, Contains, Option, Some, None, IfSome, refl, sym, ap, subst, ◌∙◌, arith, append_assoc, length-append, ◌≤◌}
use Rattle.std.proofs.Math.Seq.{drop-append_seam}
use Rattle.std.proofs.lemmas.List.{drop-append-le}
use Rattle.std.proofs.lemmas.List.Elements.{All-contains, Contains-append_left}
use Rattle.std.specs.Prelude.{flat_map, slice_get}
use Rattle.accounts.proofs.Ground.{item_of}
use Rattle.event_tree.specs.declared.input_rule.InputRule.{InputRule}
use Rattle.event_tree.specs.declared.settings.Settings.{Settings as SettingsOf}
use Rattle.kept_rows.specs.Account.{SlotAccount}
use Rattle.kept_rows.specs.Run.{Run}
use Rattle.outside.specs.Files.{File}
use Rattle.outside.specs.Folders.{Event, FolderHistory}
use Rattle.prospect.proofs.Doubled.{file_is_listed}
use Rattle.prospect.specs.AskedFiles.{AskedFile, keyed_by}
use Rattle.prospect.specs.ListedFiles.{IsListedBy, shown_in}
use Rattle.prospect.specs.Members.{IsCovered}
use Rattle.prospect.specs.Scan.{Listing, event_of, with_events}
use Rattle.prospect.specs.declared.listed.Listed.{Listed}
use Rattle.report.specs.declared.passing.Passing.{Passing}
use Rattle.run_steps.specs.FollowedOrSkipped.{AreFollowedOrSkipped}
use Rattle.run_steps.specs.Shown.{HasShown}
use Rattle.run_steps.specs.SoFar.{FilesSoFar}
use Rattle.run_steps.specs.declared.beginning.Scanned.{Scanned}
use Rattle.told_scans.proofs.AskedEvents.{all_asked}
use Rattle.told_scans.proofs.KeyedFiles.{IsKeyedFrom, KeepsEntry, keeps_entry, keyed_from}
use Rattle.told_scans.proofs.Members.{some_is}
use Rattle.told_scans.specs.OnlyAsked.{HasOnlyAsked}
use Rattle.run_steps.specs.Unnumbered.{IsUnnumbered, WasOpenedUnnumbered}
use Rattle.beat_run.specs.Cause.{WasListed, WasUnnumbered}
use Rattle.beat_run.specs.Scanning.{ScansParted, TellsScanned}
use Rattle.beat_run.specs.Skipped.{AreSkipped, all_skipped}
use Rattle.accounts.proofs.Following.{got_there}
use Rattle.accounts.proofs.Backing.{mapped_there}

-- the folder did more behind its scan
pub record GoesFurther (scanned after : Option FolderHistory) : Type 0 where
  pub more : (history : FolderHistory) → scanned ≡ Some history → (events : List Event) × (after ≡ Some (record history { events = history.events ++ events }))

-- so it skipped the paths that this scan told, and those of listed files that it does not follow
pub are_skipped : (settings : SettingsOf) (run : Run) (account : List SlotAccount) (told : FolderHistory) (scanned after : Option FolderHistory) (scan : Scanned) (opened : List Passing) → run.settings ≡ settings →
    (tells : TellsScanned settings.inputs told scan scanned) → GoesFurther scanned after → AreFollowedOrSkipped run account (length tells.parted.scanned.events) scan.listed.items opened →
    AreSkipped run account told after (all_skipped opened scan)
are_skipped settings run account told scanned after scan opened same tells goes came =
    let more = goes.more tells.parted.scanned tells.parted.after_is in
    record {
      scan = scan;
      scanned = tells.parted.scanned;
      tells = subst (λ (s : SettingsOf). TellsScanned s.inputs told scan (Some tells.parted.scanned)) (sym same)
          (subst (λ (o : Option FolderHistory). TellsScanned settings.inputs told scan o) tells.parted.after_is tells);
      later = more.0;
      after_is = more.1;
      opened = opened;
      followed_or_skipped = came;
      are = refl;
    }

pub shown_goes_further : (settings : SettingsOf) (scanned after : Option FolderHistory) (so_far : FilesSoFar) → HasShown settings scanned after so_far → GoesFurther scanned after
shown_goes_further settings None after so_far shown = record { more = λ history none. absurd cc }
shown_goes_further settings (Some before) None so_far shown = absurd shown
shown_goes_further settings (Some before) (Some now) so_far shown = record {
  more = λ history is.
      let same : before ≡ history = cc in
      subst (λ (h : FolderHistory). (events : List Event) × (Some now ≡ Some (record h { events = h.events ++ events }))) same
      (shown.more, ap (λ (h : FolderHistory). Some h) (history_is now before shown.files shown.more shown.events));
}
  where
    history_is : (one other : FolderHistory) → one.files ≡ other.files → (more : List Event) → one.events ≡ other.events ++ more → one ≡ record other { events = other.events ++ more }
    history_is one other files more events = ap (λ (f : List File). record { files = f; events = one.events }) files ∙ ap (λ (e : List Event). record { files = other.files; events = e }) events

in_rest : {A : Type 0} (front rest back : List A) (x : A) → Contains rest x → Contains (drop (length front) ((front ++ rest) ++ back)) x
in_rest {A} front rest back x there =
    subst (λ (l : List A). Contains l x) (sym (drop-append-le (length front) (front ++ rest) back (omega (arith, length-append front rest)) ∙ ap (λ (l : List A). l ++ back) (drop-append_seam front rest)))
    (Contains-append_left rest back x there)

-- what the folder told behind its scan begins with what it told before
pub scanned_later : (inputs : List InputRule) (told : FolderHistory) (files doubled : List Listed) (scanned : Option FolderHistory) (scans : ScansParted inputs told files doubled scanned) →
    length told.events ≤ length scans.scanned.events
scanned_later inputs told files doubled scanned scans =
    let asks = all_asked inputs scans.asked scans.listed scans.scanned scans.asks in
    let all = ap length asks.events in
    let listed = ap (λ (h : FolderHistory). length h.events) (some_is scans.listed (with_events told (map event_of scans.scans.listings)) scans.scans.listed_is.kept) in
    omega (arith, all, listed, length-append scans.listed.events asks.more, length-append told.events (map event_of scans.scans.listings))

module _ (inputs : List InputRule) (told : FolderHistory) (files doubled : List Listed) (scanned after : Option FolderHistory) (scans : ScansParted inputs told files doubled scanned) (goes : GoesFurther scanned after)
    (slot : ℕ) (one : Listed) (at : slice_get files slot ≡ Some one) where
  from : IsKeyedFrom scans.asked one
  from = keyed_from scans.asked one (file_is_listed (flat_map keyed_by scans.asked) files doubled scans.parts one (got_there files slot one at))

  keeps : KeepsEntry from.of.listed one
  keeps = keeps_entry from.of.listed from.of.answer one from.keyed

  listed_by : Any (λ shown. IsListedBy inputs from.of.listed shown) (shown_in scans.scans.listings)
  listed_by =
      All-contains (λ (file : Listed). Any (λ shown. IsListedBy inputs file shown) (shown_in scans.scans.listings)) scans.all from.of.listed scans.scans.shown.only
      (subst (λ (l : List Listed). Contains l from.of.listed) scans.asked_are (mapped_there (λ (asked : AskedFile). asked.listed) scans.asked from.of from.among))

  asks : HasOnlyAsked scans.listed scans.scanned
  asks = all_asked inputs scans.asked scans.listed scans.scanned scans.asks

  -- what the folder told of the listings, of the askings and of the rest
  rest_told : (events : List Event) × (after ≡ Some (record scans.scanned { events = scans.scanned.events ++ events }))
  rest_told = goes.more scans.scanned scans.after_is

  abbrev told_behind : FolderHistory
  told_behind = record scans.scanned { events = scans.scanned.events ++ rest_told.0 }

  events_scanned : scans.scanned.events ≡ (told.events ++ map event_of scans.scans.listings) ++ asks.more
  events_scanned =
      asks.events ∙ ap (λ (l : List Event). l ++ asks.more)
      (ap (λ (h : FolderHistory). h.events) (some_is scans.listed (with_events told (map event_of scans.scans.listings)) scans.scans.listed_is.kept))

  events_behind : told_behind.events ≡ (told.events ++ map event_of scans.scans.listings) ++ (asks.more ++ rest_told.0)
  events_behind = ap (λ (l : List Event). l ++ rest_told.0) events_scanned ∙ append_assoc (told.events ++ map event_of scans.scans.listings) asks.more rest_told.0

  pub was_listed : WasListed one.path told after
  was_listed =
      let by = listed_by in
      let of = item_of (λ (listing : Listing). listing.shown) scans.scans.listings by.1 (by.0, by.2, by.3) in
      record {
        now = told_behind;
        tells = rest_told.1;
        root = _;
        depth = _;
        shown = of.item.shown;
        among = subst (λ (l : List Event). Contains (drop (length told.events) l) (event_of of.item)) (sym events_behind)
            (in_rest told.events (map event_of scans.scans.listings) (asks.more ++ rest_told.0) (event_of of.item) (mapped_there event_of scans.scans.listings of.item of.among));
        shows = (of.there.0, by.1, of.there.1, of.there.2, sym by.4.path_is ∙ sym keeps.path_is);
      }

  -- it told no numbers as it was opened
  pub was_unnumbered : (settings : SettingsOf) → settings.inputs ≡ inputs → IsUnnumbered settings files slot scanned after → WasUnnumbered inputs one.path told after
  was_unnumbered settings inputs_are is =
      let by = listed_by in
      let same : is.one ≡ one = some_is is.one one (sym is.listed_there ∙ at) in
      let rule_is : slice_get inputs one.input ≡ Some is.rule = ap (λ (l : List InputRule). slice_get l one.input) (sym inputs_are) ∙ ap (λ (f : Listed). slice_get settings.inputs f.input) (sym same) ∙ is.rule_is in
      let rules : by.4.rule ≡ is.rule = some_is by.4.rule is.rule (sym by.4.rule_is ∙ ap (slice_get inputs) (sym keeps.input_is) ∙ rule_is) in
      let told_then : IfSome (Some scans.scanned) (λ earlier. IfSome (Some told_behind) (λ later. WasOpenedUnnumbered is.one.path earlier later)) =
      subst (λ (o : Option FolderHistory). IfSome (Some scans.scanned) (λ earlier. IfSome o (λ later. WasOpenedUnnumbered is.one.path earlier later))) rest_told.1
      (subst (λ (o : Option FolderHistory). IfSome o (λ earlier. IfSome after (λ later. WasOpenedUnnumbered is.one.path earlier later))) scans.after_is is.opened) in
      let opened : WasOpenedUnnumbered one.path scans.scanned told_behind = subst (λ (f : Listed). WasOpenedUnnumbered f.path scans.scanned told_behind) same told_then in
      let longer = ap length events_scanned in
      let sum = length-append (told.events ++ map event_of scans.scans.listings) asks.more in
      let first_sum = length-append told.events (map event_of scans.scans.listings) in
      record {
        now = told_behind;
        tells = rest_told.1;
        input = one.input;
        rule = is.rule;
        rule_is = rule_is;
        covered = subst (λ (p : List ℕ). IsCovered is.rule.paths p) (sym keeps.path_is) (subst (λ (r : InputRule). IsCovered r.paths from.of.listed.path) rules by.4.covered);
        by_numbers = is.by_numbers;
        opened = record {
          opening = opened.opening;
          since = omega (arith, opened.since, longer, sum, first_sum);
          number = opened.number;
          begun = opened.begun;
          is = opened.is;
          file = opened.file;
          file_is = opened.file_is;
          none = opened.none;
        };
      }
