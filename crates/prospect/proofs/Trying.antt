-- Listing past what fails, one glob after the other.
use Rattle.std.proofs.Common.{◌≡◌, inl, inr, ℕ, ◌+◌, ◌<◌, ◌≤◌, List, [], ◌∷◌, ◌++◌, length, map, take, drop, get_or, All, Option, Some, None, Result, Ok, Err, IfSome, Vec, refl, sym, ◌∙◌, ap, subst, append-nil, append_assoc, arith}
use Rattle.std.specs.Prelude.{flat_map}
use Rattle.std.specs.declared.alloc.Global.{Global}
use Rattle.std.proofs.lemmas.List.{map-append, take_more, take-append-drop}
use Rattle.std.proofs.lemmas.List.Concat.{flat_map-append}
use Rattle.std.proofs.lemmas.List.Elements.{All-append, All-nil}
use Rattle.glob_paths.specs.Root.{depth_of, root_of}
use Rattle.outside.specs.declared.entry.Entry.{Entry}
use Rattle.outside.specs.declared.failed.FolderError.{FolderError}
use Rattle.outside.specs.declared.history.Shown.{Shown}
use Rattle.outside.specs.declared.history.Sight.{Sight}
use Rattle.outside.specs.Folders.{Event, FolderHistory, IsListable, KeepsFailure, Listed, ListingFailed, TellsClosing, TellsListing, TellsOpening, with_event}
use Rattle.outside.specs.Tails.{TailHistory}
use Rattle.prospect.specs.declared.listings.Tried.{Tried}
use Rattle.prospect.specs.declared.scan_input.ScanInput.{ScanInput}
use Rattle.prospect.specs.Entries.{Adds}
use Rattle.prospect.specs.ListedFiles.{shown_in}
use Rattle.prospect.specs.PastFaults.{Attempt, Makes, Served, StandSo, TriesSome, Unserved, glob_tried, served_by, served_in, unserved_by}
use Rattle.prospect.specs.Readings.{globs_read}
use Rattle.prospect.specs.Scan.{Listing, with_events}
use Rattle.prospect.specs.Trying.{FailMoreOnlyByFaults, ServeEntries, TriesMore}
use Rattle.prospect.proofs.Adding.{adds_more, adds_nothing}

-- ---- attempts, one after another

-- a count that is at its end stays there
stand_on : (faults later : ℕ) → faults ≤ later → (attempts : List Attempt) (events : List Event) → StandSo faults attempts events → StandSo later attempts events
stand_on faults later rise [] events stand = stand
stand_on faults later rise (Served listing ∷ attempts) events stand = (stand.0, stand.1, stand_on faults later rise attempts stand.0 stand.2)
stand_on faults later rise (Unserved glob ∷ attempts) events (inl stand) = inl (stand.0, stand.1, stand_on faults later rise attempts stand.0 stand.2)
stand_on faults later rise (Unserved glob ∷ attempts) events (inr stand) = inr (omega (arith, rise, stand.0), stand_on faults later rise attempts events stand.1)

stand_both : (faults : ℕ) (attempts more : List Attempt) (events others : List Event) → StandSo faults attempts events → StandSo faults more others → StandSo faults (attempts ++ more) (events ++ others)
stand_both faults [] more events others first then = subst (λ (l : List Event). StandSo faults more (l ++ others)) (sym first) then
stand_both faults (Served listing ∷ attempts) more events others first then =
    (first.0 ++ others, ap (λ (l : List Event). l ++ others) first.1, stand_both faults attempts more first.0 others first.2 then)
stand_both faults (Unserved glob ∷ attempts) more events others (inl first) then =
    inl (first.0 ++ others, ap (λ (l : List Event). l ++ others) first.1, stand_both faults attempts more first.0 others first.2 then)
stand_both faults (Unserved glob ∷ attempts) more events others (inr first) then =
    inr (first.0, stand_both faults attempts more events others first.1 then)

makes_none : (told : FolderHistory) (faults : ℕ) → Makes [] told faults (Some told)
makes_none told faults = record { more = []; stand = refl; kept = ap (λ (l : List Event). Some (record told { events = l })) (sym (append-nil told.events)) }

makes_both : (attempts more : List Attempt) (told : FolderHistory) (faults later : ℕ) (between after : Option FolderHistory) → faults ≤ later →
    Makes attempts told faults between → IfSome between (λ history. Makes more history later after) → Makes (attempts ++ more) told later after
makes_both attempts more told faults later between after rise first then =
    let M : Option FolderHistory → Type 0 = λ o. IfSome o (λ history. Makes more history later after) in
    let next : Makes more (with_events told first.more) later after = subst M first.kept then in
    record {
      more = first.more ++ next.more;
      stand = stand_both later attempts more first.more next.more (stand_on faults later rise attempts first.more first.stand) next.stand;
      kept = next.kept ∙ ap (λ (l : List Event). Some (record told { events = l })) (append_assoc told.events first.more next.more);
    }

-- ---- what they showed

abbrev entry_in : Shown → Entry
entry_in one = one.entry

serves_nothing : (told : Option FolderHistory) (faults : ℕ) → IfSome told (λ history. ServeEntries [] [] [] history faults told)
serves_nothing None faults = tt
serves_nothing (Some told) faults = record { tries = record { attempts = []; one_for_each_glob = refl; failed_are = refl; makes = makes_none told faults }; entries_are = refl }

serves_more : (globs more failed fails : List (List ℕ)) (entries others : List Entry) (told between after : Option FolderHistory) (faults later : ℕ) → faults ≤ later →
    IfSome told (λ history. ServeEntries globs failed entries history faults between) → IfSome between (λ history. ServeEntries more fails others history later after) →
    IfSome told (λ history. ServeEntries (globs ++ more) (failed ++ fails) (entries ++ others) history later after)
serves_more globs more failed fails entries others None between after faults later rise first second = tt
serves_more globs more failed fails entries others (Some told) between after faults later rise first second = record {
  tries = record {
    attempts = earlier ++ next;
    one_for_each_glob = map-append glob_tried earlier next
        ∙ ap (λ (l : List (List ℕ)). l ++ map glob_tried next) first.tries.one_for_each_glob
        ∙ ap (λ (l : List (List ℕ)). globs ++ l) then.tries.one_for_each_glob;
    failed_are = ap (λ (l : List (List ℕ)). l ++ fails) first.tries.failed_are
        ∙ ap (λ (l : List (List ℕ)). flat_map unserved_by earlier ++ l) then.tries.failed_are
        ∙ sym (flat_map-append unserved_by earlier next);
    makes = makes_both earlier next told faults later between after rise first.tries.makes (subst M (sym first.tries.makes.kept) then.tries.makes);
  };
  entries_are = ap (λ (l : List Entry). l ++ others) first.entries_are
      ∙ ap (λ (l : List Entry). map entry_in (shown_in (served_in earlier)) ++ l) then.entries_are
      ∙ sym (map-append entry_in (shown_in (served_in earlier)) (shown_in (served_in next)))
      ∙ ap (λ (l : List Shown). map entry_in l)
      (sym (flat_map-append (λ (l : Listing). l.shown) (served_in earlier) (served_in next)) ∙ ap (λ (l : List Listing). shown_in l) (sym (flat_map-append served_by earlier next)));
}
  where
    earlier : List Attempt
    earlier = first.tries.attempts

    S : Option FolderHistory → Type 0
    S o = IfSome o (λ history. ServeEntries more fails others history later after)

    then : ServeEntries more fails others (with_events told first.tries.makes.more) later after
    then = subst S first.tries.makes.kept second

    next : List Attempt
    next = then.tries.attempts

    M : Option FolderHistory → Type 0
    M o = IfSome o (λ history. Makes next history later after)

-- ---- one of them

-- it was served
served_one : (glob root : List ℕ) (depth : ℕ) (told : FolderHistory) (states : List Sight) (present : List Shown) (entries : Vec Entry Global) (after : Option FolderHistory) (faults : ℕ) →
    root ≡ root_of glob → depth ≡ depth_of glob → TellsListing (Some told) states present root depth (Ok entries) after faults → ServeEntries (glob ∷ []) [] entries.items told faults after
served_one glob root depth told states present entries after faults root_is depth_is lists = record {
  tries = record {
    attempts = Served (record { glob = glob; shown = lists.shown }) ∷ [];
    one_for_each_glob = refl;
    failed_are = refl;
    makes = record {
      more = Listed (root_of glob) (depth_of glob) lists.shown ∷ [];
      stand = ([], refl, refl);
      kept = lists.kept
          ∙ ap (λ (r : List ℕ). Some (with_event told (Listed r depth lists.shown))) root_is
          ∙ ap (λ (d : ℕ). Some (with_event told (Listed (root_of glob) d lists.shown))) depth_is;
    };
  };
  entries_are = sym lists.entries_shown ∙ ap (λ (l : List Shown). map entry_in l) (sym (append-nil lists.shown));
}

-- it failed
makes_failed : (glob : List ℕ) (told : FolderHistory) (after : Option FolderHistory) (faults : ℕ) → KeepsFailure told after faults → Makes (Unserved glob ∷ []) told faults after
makes_failed glob told after faults (inl kept) = record { more = ListingFailed ∷ []; stand = inl ([], refl, refl); kept = kept }
makes_failed glob told after faults (inr untold) = record {
  more = [];
  stand = inr (untold.0, refl);
  kept = untold.1 ∙ ap (λ (l : List Event). Some (record told { events = l })) (sym (append-nil told.events));
}

unserved_one : (glob : List ℕ) (told : FolderHistory) (after : Option FolderHistory) (faults : ℕ) → KeepsFailure told after faults → ServeEntries (glob ∷ []) (root_of glob ∷ []) [] told faults after
unserved_one glob told after faults keeps = record {
  tries = record { attempts = Unserved glob ∷ []; one_for_each_glob = refl; failed_are = refl; makes = makes_failed glob told after faults keeps };
  entries_are = refl;
}

-- ---- all that is known of them

pub tries_nothing : (told : Option FolderHistory) (tried : Tried) (faults : ℕ) → TriesMore [] told tried tried faults told
tries_nothing told tried faults = record {
  entries = [];
  in_range = All-nil IsListable;
  added = adds_nothing tried.entries;
  failed = [];
  failed_more = sym (append-nil tried.failed.items);
  served = serves_nothing told faults;
}

tries_more : (globs more : List (List ℕ)) (told between after : Option FolderHistory) (old mid new : Tried) (faults later : ℕ) → faults ≤ later →
    TriesMore globs told old mid faults between → TriesMore more between mid new later after → TriesMore (globs ++ more) told old new later after
tries_more globs more told between after old mid new faults later rise first second = record {
  entries = first.entries ++ second.entries;
  in_range = All-append IsListable first.entries second.entries first.in_range second.in_range;
  added = adds_more first.entries second.entries old.entries mid.entries new.entries first.added second.added;
  failed = first.failed ++ second.failed;
  failed_more = second.failed_more ∙ ap (λ (l : List (List ℕ)). l ++ second.failed) first.failed_more ∙ append_assoc old.failed.items first.failed second.failed;
  served = serves_more globs more first.failed second.failed first.entries second.entries told between after faults later rise first.served second.served;
}

pub tries_served : (glob root : List ℕ) (depth : ℕ) (told : Option FolderHistory) (states : List Sight) (present : List Shown) (result : Result (Vec Entry Global) FolderError) (entries : Vec Entry Global) →
    result ≡ Ok entries → (after : Option FolderHistory) (faults : ℕ) (old new : Tried) → root ≡ root_of glob → depth ≡ depth_of glob → TellsListing told states present root depth result after faults →
    All IsListable entries.items → Adds entries.items old.entries new.entries → new.failed.items ≡ old.failed.items → TriesMore (glob ∷ []) told old new faults after
tries_served glob root depth told states present result entries is after faults old new root_is depth_is tells listable added failed = record {
  entries = entries.items;
  in_range = listable;
  added = added;
  failed = [];
  failed_more = failed ∙ sym (append-nil old.failed.items);
  served = by_told told (subst (λ (r : Result (Vec Entry Global) FolderError). TellsListing told states present root depth r after faults) is tells);
}
  where
    by_told : (o : Option FolderHistory) → TellsListing o states present root depth (Ok entries) after faults → IfSome o (λ history. ServeEntries (glob ∷ []) [] entries.items history faults after)
    by_told None lists = tt
    by_told (Some history) lists = served_one glob root depth history states present entries after faults root_is depth_is lists

pub tries_failed : (glob root : List ℕ) (depth : ℕ) (told : Option FolderHistory) (states : List Sight) (present : List Shown) (result : Result (Vec Entry Global) FolderError) (error : FolderError) →
    result ≡ Err error → (after : Option FolderHistory) (faults : ℕ) (old new : Tried) → TellsListing told states present root depth result after faults →
    new.entries ≡ old.entries → new.failed.items ≡ old.failed.items ++ root_of glob ∷ [] → TriesMore (glob ∷ []) told old new faults after
tries_failed glob root depth told states present result error is after faults old new tells same failed = record {
  entries = [];
  in_range = All-nil IsListable;
  added = subst (Adds [] old.entries) (sym same) (adds_nothing old.entries);
  failed = root_of glob ∷ [];
  failed_more = failed;
  served = by_told told (subst (λ (r : Result (Vec Entry Global) FolderError). TellsListing told states present root depth r after faults) is tells);
}
  where
    by_told : (o : Option FolderHistory) → TellsListing o states present root depth (Err error) after faults → IfSome o (λ history. ServeEntries (glob ∷ []) (root_of glob ∷ []) [] history faults after)
    by_told None keeps = tt
    by_told (Some history) keeps = unserved_one glob history after faults keeps

-- the next glob was tried
pub tries_next : (globs : List (List ℕ)) (i : ℕ) (glob : List ℕ) (told between after : Option FolderHistory) (old mid new : Tried) (faults later : ℕ) → faults ≤ later → i < length globs → glob ≡ get_or globs i glob →
    TriesMore (take i globs) told old mid faults between → TriesMore (glob ∷ []) between mid new later after → TriesMore (take (i + 1) globs) told old new later after
tries_next globs i glob told between after old mid new faults later rise within is before here =
    subst (λ (l : List (List ℕ)). TriesMore l told old new later after)
    (ap (λ (x : List ℕ). take i globs ++ x ∷ []) is ∙ sym (take_more globs i glob within))
    (tries_more (take i globs) (glob ∷ []) told between after old mid new faults later rise before here)

-- the globs of the next input were
pub tries_next_input : (inputs : List ScanInput) (i : ℕ) (input : ScanInput) (told between after : Option FolderHistory) (old mid new : Tried) (faults later : ℕ) → faults ≤ later → i < length inputs → input ≡ get_or inputs i input →
    TriesMore (globs_read (take i inputs)) told old mid faults between → TriesMore input.globs.items between mid new later after → TriesMore (globs_read (take (i + 1) inputs)) told old new later after
tries_next_input inputs i input told between after old mid new faults later rise within is before here =
    subst (λ (l : List (List ℕ)). TriesMore l told old new later after)
    (ap (λ (l : List (List ℕ)). globs_read (take i inputs) ++ l) (sym (append-nil input.globs.items))
    ∙ sym (flat_map-append (λ (input : ScanInput). input.globs.items) (take i inputs) (input ∷ []))
    ∙ ap (λ (x : ScanInput). globs_read (take i inputs ++ x ∷ [])) is
    ∙ ap (λ (l : List ScanInput). globs_read l) (sym (take_more inputs i input within)))
    (tries_more (globs_read (take i inputs)) input.globs.items told between after old mid new faults later rise before here)

-- ---- where memory is out

-- nothing was tried
pub tries_none : (globs : List (List ℕ)) (told : Option FolderHistory) (faults : ℕ) → IfSome told (λ history. TriesSome globs history faults told)
tries_none globs None faults = tt
tries_none globs (Some told) faults = record { attempts = []; others = globs; for_the_first = refl; makes = makes_none told faults }

-- whatever the listing came to
pub tries_one : (glob root : List ℕ) (depth : ℕ) (told : Option FolderHistory) (states : List Sight) (present : List Shown) (result : Result (Vec Entry Global) FolderError) (after : Option FolderHistory) (faults : ℕ) →
    root ≡ root_of glob → depth ≡ depth_of glob → TellsListing told states present root depth result after faults → IfSome told (λ history. TriesSome (glob ∷ []) history faults after)
tries_one glob root depth None states present result after faults root_is depth_is tells = tt
tries_one glob root depth (Some told) states present (Ok entries) after faults root_is depth_is tells =
    let serves = served_one glob root depth told states present entries after faults root_is depth_is tells in
    record { attempts = serves.tries.attempts; others = []; for_the_first = sym serves.tries.one_for_each_glob ∙ sym (append-nil (map glob_tried serves.tries.attempts)); makes = serves.tries.makes }
tries_one glob root depth (Some told) states present (Err error) after faults root_is depth_is tells =
    record { attempts = Unserved glob ∷ []; others = []; for_the_first = refl; makes = makes_failed glob told after faults tells }

pub all_tried : (globs : List (List ℕ)) (told after : Option FolderHistory) (old new : Tried) (faults : ℕ) → TriesMore globs told old new faults after → IfSome told (λ history. TriesSome globs history faults after)
all_tried globs told after old new faults tries = by_told told tries.served
  where
    by_told : (o : Option FolderHistory) → IfSome o (λ history. ServeEntries globs tries.failed tries.entries history faults after) → IfSome o (λ history. TriesSome globs history faults after)
    by_told None serves = tt
    by_told (Some history) serves = record {
      attempts = serves.tries.attempts;
      others = [];
      for_the_first = sym serves.tries.one_for_each_glob ∙ sym (append-nil (map glob_tried serves.tries.attempts));
      makes = serves.tries.makes;
    }

then_tries_some : (globs others rest : List (List ℕ)) (told between after : Option FolderHistory) (old new : Tried) (faults later : ℕ) → faults ≤ later →
    TriesMore globs told old new faults between → IfSome between (λ history. TriesSome others history later after) → IfSome told (λ history. TriesSome (globs ++ (others ++ rest)) history later after)
then_tries_some globs others rest told between after old new faults later rise tries some = by_told told tries.served
  where
    by_told : (o : Option FolderHistory) → IfSome o (λ history. ServeEntries globs tries.failed tries.entries history faults between) → IfSome o (λ history. TriesSome (globs ++ (others ++ rest)) history later after)
    by_told None serves = tt
    by_told (Some history) serves =
        let S : Option FolderHistory → Type 0 = λ o. IfSome o (λ h. TriesSome others h later after) in
        let then : TriesSome others (with_events history serves.tries.makes.more) later after = subst S serves.tries.makes.kept some in
        let M : Option FolderHistory → Type 0 = λ o. IfSome o (λ h. Makes then.attempts h later after) in
        record {
          attempts = serves.tries.attempts ++ then.attempts;
          others = then.others ++ rest;
          for_the_first = ap (λ (l : List (List ℕ)). l ++ (others ++ rest)) (sym serves.tries.one_for_each_glob)
              ∙ ap (λ (l : List (List ℕ)). map glob_tried serves.tries.attempts ++ (l ++ rest)) then.for_the_first
              ∙ ap (λ (l : List (List ℕ)). map glob_tried serves.tries.attempts ++ l) (append_assoc (map glob_tried then.attempts) then.others rest)
              ∙ sym (append_assoc (map glob_tried serves.tries.attempts) (map glob_tried then.attempts) (then.others ++ rest))
              ∙ ap (λ (l : List (List ℕ)). l ++ (then.others ++ rest)) (sym (map-append glob_tried serves.tries.attempts then.attempts));
          makes = makes_both serves.tries.attempts then.attempts history faults later between after rise serves.tries.makes (subst M (sym serves.tries.makes.kept) then.makes);
        }

pub ends_at_glob : (globs : List (List ℕ)) (i : ℕ) (glob : List ℕ) (told between after : Option FolderHistory) (old new : Tried) (faults later : ℕ) → faults ≤ later → i < length globs → glob ≡ get_or globs i glob →
    TriesMore (take i globs) told old new faults between → IfSome between (λ history. TriesSome (glob ∷ []) history later after) → IfSome told (λ history. TriesSome globs history later after)
ends_at_glob globs i glob told between after old new faults later rise within is tries some =
    subst (λ (l : List (List ℕ)). IfSome told (λ history. TriesSome l history later after)) all
    (then_tries_some (take i globs) (glob ∷ []) (drop (i + 1) globs) told between after old new faults later rise tries some)
  where
    all : take i globs ++ ((glob ∷ []) ++ drop (i + 1) globs) ≡ globs
    all = sym (append_assoc (take i globs) (glob ∷ []) (drop (i + 1) globs))
        ∙ ap (λ (x : List ℕ). (take i globs ++ x ∷ []) ++ drop (i + 1) globs) is
        ∙ ap (λ (l : List (List ℕ)). l ++ drop (i + 1) globs) (sym (take_more globs i glob within))
        ∙ take-append-drop (i + 1) globs

abbrev globs_in : ScanInput → List (List ℕ)
globs_in input = input.globs.items

pub ends_at_input : (inputs : List ScanInput) (i : ℕ) (input : ScanInput) (told between after : Option FolderHistory) (old new : Tried) (faults later : ℕ) → faults ≤ later → i < length inputs → input ≡ get_or inputs i input →
    TriesMore (globs_read (take i inputs)) told old new faults between → IfSome between (λ history. TriesSome input.globs.items history later after) → IfSome told (λ history. TriesSome (globs_read inputs) history later after)
ends_at_input inputs i input told between after old new faults later rise within is tries some =
    subst (λ (l : List (List ℕ)). IfSome told (λ history. TriesSome l history later after)) all
    (then_tries_some (globs_read (take i inputs)) input.globs.items (globs_read (drop (i + 1) inputs)) told between after old new faults later rise tries some)
  where
    all : globs_read (take i inputs) ++ (input.globs.items ++ globs_read (drop (i + 1) inputs)) ≡ globs_read inputs
    all = sym (flat_map-append globs_in (take i inputs) (input ∷ drop (i + 1) inputs))
        ∙ ap (λ (l : List ScanInput). globs_read l) (sym (append_assoc (take i inputs) (input ∷ []) (drop (i + 1) inputs)))
        ∙ ap (λ (x : ScanInput). globs_read ((take i inputs ++ x ∷ []) ++ drop (i + 1) inputs)) is
        ∙ ap (λ (l : List ScanInput). globs_read (l ++ drop (i + 1) inputs)) (sym (take_more inputs i input within))
        ∙ ap (λ (l : List ScanInput). globs_read l) (take-append-drop (i + 1) inputs)

-- the globs are those of the settings
pub by_globs : (globs others : List (List ℕ)) (told after : Option FolderHistory) (faults : ℕ) → globs ≡ others → IfSome told (λ history. TriesSome globs history faults after) → IfSome told (λ history. TriesSome others history faults after)
by_globs globs others told after faults same some = subst (λ (l : List (List ℕ)). IfSome told (λ history. TriesSome l history faults after)) same some

-- ---- where the folder reports nothing

pub untold_by_listing : (told : Option FolderHistory) (states : List Sight) (present : List Shown) (root : List ℕ) (depth : ℕ) (result : Result (Vec Entry Global) FolderError) (after : Option FolderHistory) (faults : ℕ) →
    TellsListing told states present root depth result after faults → told ≡ None → after ≡ None
untold_by_listing None states present root depth result after faults tells none = tells
untold_by_listing (Some history) states present root depth result after faults tells none = let wrong : Some history ≡ None = none in cc

module _ {T : Type 0} (tail_told : T → Option TailHistory) (tail_numbers : T → Option (ℕ × ℕ)) where
  pub untold_by_opening : (told : Option FolderHistory) (states : List Sight) (present : List Shown) (path : List ℕ) (result : Result (Option T) FolderError) (after : Option FolderHistory) →
      TellsOpening tail_told tail_numbers told states present path result after → told ≡ None → after ≡ None
  untold_by_opening None states present path result after tells none = tells.0
  untold_by_opening (Some history) states present path result after tells none = let wrong : Some history ≡ None = none in cc

pub untold_by_closing : (told : Option FolderHistory) (tail : Option TailHistory) (faults : ℕ) (after : Option FolderHistory) → TellsClosing told tail faults after → told ≡ None → after ≡ None
untold_by_closing None tail faults after tells none = tells
untold_by_closing (Some history) tail faults after tells none = let wrong : Some history ≡ None = none in cc

-- ---- what failed, by the counts

pub fail_more_later : {A : Type 0} (old mid new : List A) (before between now : ℕ) → between ≤ now → FailMoreOnlyByFaults old mid before between → before ≤ between → FailMoreOnlyByFaults mid new between now → FailMoreOnlyByFaults old new before now
fail_more_later old mid new before between now rise (inl same) begun (inl too) = inl (too ∙ same)
fail_more_later old mid new before between now rise (inl same) begun (inr (inl less)) = inr (inl (omega (arith, begun, less)))
fail_more_later old mid new before between now rise (inl same) begun (inr (inr end)) = inr (inr end)
fail_more_later old mid new before between now rise (inr (inl less)) begun later = inr (inl (omega (arith, rise, less)))
fail_more_later old mid new before between now rise (inr (inr end)) begun later = inr (inr (omega (arith, rise, end)))
