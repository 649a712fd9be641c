-- What the listings of a scan showed, one listing after the other.
use Rattle.std.proofs.Common.{◌≡◌, ◌⊎◌, inl, inr, ⊎_elim, ℕ, ◌+◌, ◌<◌, Bool, true, false, List, [], ◌∷◌, ◌++◌, length, map, take, get_or, All, Contains, Option, Some, None, Ok, IfSome, IsSome, IsTrue, ◌↔◌, Vec, refl, sym, ◌∙◌, ap, subst, append-nil, append_assoc}
use Rattle.std.specs.BTreeMap.{get, is_at, Updates, WritesThrough}
use Rattle.std.specs.declared.alloc.Global.{Global}
use Rattle.std.proofs.lemmas.List.{map-append, take_more}
use Rattle.std.proofs.lemmas.List.Concat.{flat_map-append}
use Rattle.std.proofs.lemmas.List.Elements.{All-append, All-nil, Contains-append_left, Contains-append_right, Contains-append_cases, Contains-push, Contains-push_cases}
use Rattle.std.proofs.lemmas.Map.Lookups.{exact_bytes}
use Rattle.std.proofs.lemmas.Map.Views.{tells_apart}
use Rattle.glob_paths.specs.Root.{root_of, depth_of}
use Rattle.outside.specs.declared.entry.Entry.{Entry}
use Rattle.outside.specs.declared.history.Shown.{Shown}
use Rattle.outside.specs.declared.history.Sight.{Sight}
use Rattle.outside.specs.Folders.{Event, FolderHistory, IsListable, Listed, TellsListing, with_event}
use Rattle.wire_base.specs.KeyOrder.{compare}
use Rattle.prospect.specs.declared.scan_input.ScanInput.{ScanInput}
use Rattle.prospect.specs.declared.showing.Showing.{Showing}
use Rattle.prospect.specs.Entries.{Adds, ByPath, IsOne, Lists, ShowEntries, entries_at, entries_in}
use Rattle.prospect.specs.ListedFiles.{shown_in}
use Rattle.prospect.specs.Readings.{globs_read}
use Rattle.prospect.specs.Scan.{event_of, Listing, with_events}
use Rattle.prospect.specs.Showings.{AddsEntry, DifferInNumbers, HasNumbers, entries_of}
use Rattle.prospect.proofs.Lists.{IsIn, any_in, any_later, any_of, contains_none, contains_one, in_contained, one_of_any, only_one}

-- ---- what was added of one path

added_keeps : (entry : Entry) (old new : List Entry) (numbers : Option (ℕ × ℕ)) → AddsEntry entry old new → HasNumbers old numbers → HasNumbers new numbers
added_keeps entry old new numbers (inl known) has = subst (λ (l : List Entry). HasNumbers l numbers) (sym known.1) has
added_keeps entry old new numbers (inr added) has =
    let one = one_of_any (λ (e : Entry). e.native ≡ numbers) old has in
    subst (λ (l : List Entry). HasNumbers l numbers) (sym added.1)
    (any_of (λ (e : Entry). e.native ≡ numbers) (old ++ entry ∷ []) one.0 (Contains-append_left old (entry ∷ []) one.0 one.1) one.2)

added_alone : (entry : Entry) (old new : List Entry) (one : Entry) → AddsEntry entry old new → Contains new one → Contains old one ⊎ (entry ≡ one)
added_alone entry old new one (inl known) among = inl (subst (λ (l : List Entry). Contains l one) known.1 among)
added_alone entry old new one (inr added) among = Contains-push_cases old entry one (subst (λ (l : List Entry). Contains l one) added.1 among)

added_there : (entry : Entry) (old new : List Entry) → AddsEntry entry old new → HasNumbers new entry.native
added_there entry old new (inl known) = subst (λ (l : List Entry). HasNumbers l entry.native) (sym known.1) known.0
added_there entry old new (inr added) =
    subst (λ (l : List Entry). HasNumbers l entry.native) (sym added.1)
    (any_of (λ (e : Entry). e.native ≡ entry.native) (old ++ entry ∷ []) entry (Contains-push old entry) refl)

differ_push : (entry : Entry) (old : List Entry) → DifferInNumbers old → ¬ (HasNumbers old entry.native) → DifferInNumbers (old ++ entry ∷ [])
differ_push entry [] differ none = (λ has. absurd (let one = one_of_any (λ (e : Entry). e.native ≡ entry.native) [] has in contains_none one.0 one.1), tt)
differ_push entry (first ∷ old) differ none = (
  λ has. by_place (one_of_any (λ (e : Entry). e.native ≡ first.native) (old ++ entry ∷ []) has),
  differ_push entry old differ.1 (λ has. none (any_later (λ (e : Entry). e.native ≡ entry.native) first old has)),
)
  where
    by_place : (one : Entry) × Contains (old ++ entry ∷ []) one × (one.native ≡ first.native) → ⊥
    by_place (one, among, is) = ⊎_elim
        (λ here. differ.0 (any_of (λ (e : Entry). e.native ≡ first.native) old one here is))
        (λ new. none (any_in (λ (e : Entry). e.native ≡ entry.native) (first ∷ old) first (inl refl) (sym is ∙ ap (λ (e : Entry). e.native) (sym new))))
        (Contains-push_cases old entry one among)

added_apart : (entry : Entry) (old new : List Entry) → AddsEntry entry old new → DifferInNumbers old → DifferInNumbers new
added_apart entry old new (inl known) differ = subst DifferInNumbers (sym known.1) differ
added_apart entry old new (inr added) differ = subst DifferInNumbers (sym added.1) (differ_push entry old differ added.0)

has_in : (showing : Showing) (numbers : Option (ℕ × ℕ)) → (showing.first.native ≡ numbers) ⊎ HasNumbers showing.others.items numbers → HasNumbers (entries_of showing) numbers
has_in showing numbers (inl first) = any_in (λ (e : Entry). e.native ≡ numbers) (entries_of showing) showing.first (inl refl) first
has_in showing numbers (inr other) = any_later (λ (e : Entry). e.native ≡ numbers) showing.first showing.others.items other

has_out : (showing : Showing) (numbers : Option (ℕ × ℕ)) → HasNumbers (entries_of showing) numbers → (showing.first.native ≡ numbers) ⊎ HasNumbers showing.others.items numbers
has_out showing numbers has =
    let one = one_of_any (λ (e : Entry). e.native ≡ numbers) (entries_of showing) has in
    by_place one.0 (in_contained (entries_of showing) one.0 one.1) one.2
  where
    by_place : (one : Entry) → IsIn (entries_of showing) one → one.native ≡ numbers → (showing.first.native ≡ numbers) ⊎ HasNumbers showing.others.items numbers
    by_place one (inl same) is = inl (ap (λ (e : Entry). e.native) same ∙ is)
    by_place one (inr later) is = inr (any_in (λ (e : Entry). e.native ≡ numbers) showing.others.items one later is)

-- if the first has others, these decide
pub has_by_others : (showing : Showing) (numbers : Option (ℕ × ℕ)) (found : Bool) → (showing.first.native ≡ numbers → ⊥) → IsTrue found ↔ HasNumbers showing.others.items numbers → IsTrue found ↔ HasNumbers (entries_of showing) numbers
has_by_others showing numbers found differs others = (
  λ is. has_in showing numbers (inr (others.0 is)),
  λ has. ⊎_elim (λ first. absurd (differs first)) (λ other. others.1 other) (has_out showing numbers has),
)

-- ---- what was added

pub adds_nothing : (found : ByPath) → Adds [] found found
adds_nothing found = record {
  kept = λ path numbers has. has;
  only = λ path entry is. inl is;
  every = λ entry among. absurd (contains_none entry among);
  apart = λ path differ. differ;
}

pub adds_more : (shown more : List Entry) (old between new : ByPath) → Adds shown old between → Adds more between new → Adds (shown ++ more) old new
adds_more shown more old between new first second = record {
  kept = λ path numbers has. second.kept path numbers (first.kept path numbers has);
  only = λ path entry is. ⊎_elim
      (λ before. ⊎_elim (λ at_first. inl at_first) (λ one. inr (left path entry one)) (first.only path entry before))
      (λ one. inr (right path entry one))
      (second.only path entry is);
  every = λ entry among. ⊎_elim
      (λ here. second.kept entry.path entry.native (first.every entry here))
      (λ there. second.every entry there)
      (Contains-append_cases shown more entry among);
  apart = λ path differ. second.apart path (first.apart path differ);
}
  where
    left : (path : List ℕ) (entry : Entry) → IsOne shown path entry → IsOne (shown ++ more) path entry
    left path entry one = record { among = Contains-append_left shown more entry one.among; path_is = one.path_is }

    right : (path : List ℕ) (entry : Entry) → IsOne more path entry → IsOne (shown ++ more) path entry
    right path entry one = record { among = Contains-append_right shown more entry one.among; path_is = one.path_is }

-- what is at a path, by what is at the entry's
adds_at : (entry : Entry) (old new : ByPath) → AddsEntry entry (entries_at old entry.path) (entries_at new entry.path) →
    ((path : List ℕ) → (entry.path ≡ path) ⊎ (entries_at new path ≡ entries_at old path)) → Adds (entry ∷ []) old new
adds_at entry old new adds others = record {
  kept = λ path numbers has. ⊎_elim
      (λ same. subst (λ (p : List ℕ). HasNumbers (entries_at new p) numbers) same
      (added_keeps entry (entries_at old entry.path) (entries_at new entry.path) numbers adds (subst (λ (p : List ℕ). HasNumbers (entries_at old p) numbers) (sym same) has)))
      (λ as_before. subst (λ (l : List Entry). HasNumbers l numbers) (sym as_before) has)
      (others path);
  only = λ path one among. ⊎_elim
      (λ same. ⊎_elim
      (λ before. inl (subst (λ (p : List ℕ). Contains (entries_at old p) one) same before))
      (λ is. inr (record { among = subst (λ (e : Entry). Contains (entry ∷ []) e) is (contains_one entry); path_is = ap (λ (e : Entry). e.path) (sym is) ∙ same }))
      (added_alone entry (entries_at old entry.path) (entries_at new entry.path) one adds (subst (λ (p : List ℕ). Contains (entries_at new p) one) (sym same) among)))
      (λ as_before. inl (subst (λ (l : List Entry). Contains l one) as_before among))
      (others path);
  every = λ one among. subst (λ (e : Entry). HasNumbers (entries_at new e.path) e.native) (only_one entry one among)
      (added_there entry (entries_at old entry.path) (entries_at new entry.path) adds);
  apart = λ path differ. ⊎_elim
      (λ same. subst (λ (p : List ℕ). DifferInNumbers (entries_at new p)) same
      (added_apart entry (entries_at old entry.path) (entries_at new entry.path) adds (subst (λ (p : List ℕ). DifferInNumbers (entries_at old p)) (sym same) differ)))
      (λ as_before. subst DifferInNumbers (sym as_before) differ)
      (others path);
}

pub adds_updated : (entry : Entry) (old new : ByPath) (after : Showing) → Updates compare old new entry.path (Some after) → AddsEntry entry (entries_at old entry.path) (entries_of after) → Adds (entry ∷ []) old new
adds_updated entry old new after updates adds =
    adds_at entry old new (subst (λ (l : List Entry). AddsEntry entry (entries_at old entry.path) l) (sym (ap entries_in updates.1)) adds)
    (λ path. by_test path (is_at (compare entry.path) path) refl)
  where
    by_test : (path : List ℕ) (here : Bool) → is_at (compare entry.path) path ≡ here → (entry.path ≡ path) ⊎ (entries_at new path ≡ entries_at old path)
    by_test path true is = inl (tells_apart exact_bytes entry.path path is)
    by_test path false is = inr (ap entries_in (updates.2 path is))

-- the path is there already
pub adds_known : (entry : Entry) (old new : ByPath) (was after : Showing) → get compare old entry.path ≡ Some was → WritesThrough compare (compare entry.path) old after new → AddsEntry entry (entries_of was) (entries_of after) →
    Adds (entry ∷ []) old new
adds_known entry old new was after there written adds =
    adds_updated entry old new after (written.3 (subst IsSome (sym there) refl))
    (subst (λ (l : List Entry). AddsEntry entry l (entries_of after)) (sym (ap entries_in there)) adds)

pub adds_new : (entry : Entry) (old new : ByPath) (after : Showing) → get compare old entry.path ≡ None → Updates compare old new entry.path (Some after) → entries_of after ≡ entry ∷ [] → Adds (entry ∷ []) old new
adds_new entry old new after none updates is =
    adds_updated entry old new after updates
    (subst (λ (l : List Entry). AddsEntry entry l (entries_of after)) (sym (ap entries_in none))
    (inr (λ has. absurd (let one = one_of_any (λ (e : Entry). e.native ≡ entry.native) [] has in contains_none one.0 one.1), is)))

-- ---- what the listings showed

abbrev entry_in : Shown → Entry
entry_in one = one.entry

shows_nothing : (told : Option FolderHistory) → IfSome told (λ history. ShowEntries [] [] history told)
shows_nothing None = tt
shows_nothing (Some told) = record {
  listings = [];
  listed = record { one_for_each_glob = refl; kept = ap (λ (l : List Event). Some (record told { events = l })) (sym (append-nil told.events)) };
  entries_are = refl;
}

shows_more : (globs more : List (List ℕ)) (entries others : List Entry) (told between after : Option FolderHistory) →
    IfSome told (λ history. ShowEntries globs entries history between) → IfSome between (λ history. ShowEntries more others history after) →
    IfSome told (λ history. ShowEntries (globs ++ more) (entries ++ others) history after)
shows_more globs more entries others None between after first second = tt
shows_more globs more entries others (Some told) between after first second =
    let earlier : List Listing = first.listings in
    let S : Option FolderHistory → Type 0 = λ o. IfSome o (λ history. ShowEntries more others history after) in
    let then : ShowEntries more others (with_events told (map event_of earlier)) after = subst S first.listed.kept second in
    record {
      listings = earlier ++ then.listings;
      listed = record {
        one_for_each_glob = map-append (λ (l : Listing). l.glob) earlier then.listings
            ∙ ap (λ (l : List (List ℕ)). l ++ map (λ (l : Listing). l.glob) then.listings) first.listed.one_for_each_glob
            ∙ ap (λ (l : List (List ℕ)). globs ++ l) then.listed.one_for_each_glob;
        kept = then.listed.kept
            ∙ ap (λ (l : List Event). Some (record told { events = l }))
            (append_assoc told.events (map event_of earlier) (map event_of then.listings)
            ∙ ap (λ (l : List Event). told.events ++ l) (sym (map-append event_of earlier then.listings)));
      };
      entries_are = ap (λ (l : List Entry). l ++ others) first.entries_are
          ∙ ap (λ (l : List Entry). map entry_in (shown_in earlier) ++ l) then.entries_are
          ∙ sym (map-append entry_in (shown_in earlier) (shown_in then.listings))
          ∙ ap (λ (l : List Shown). map entry_in l) (sym (flat_map-append (λ (l : Listing). l.shown) earlier then.listings));
    }

shows_one : (glob root : List ℕ) (depth : ℕ) (told : Option FolderHistory) (states : List Sight) (present : List Shown) (entries : Vec Entry Global) (after : Option FolderHistory) (faults : ℕ) →
    root ≡ root_of glob → depth ≡ depth_of glob → TellsListing told states present root depth (Ok entries) after faults →
    IfSome told (λ history. ShowEntries (glob ∷ []) entries.items history after)
shows_one glob root depth None states present entries after faults root_is depth_is lists = tt
shows_one glob root depth (Some told) states present entries after faults root_is depth_is lists = record {
  listings = record { glob = glob; shown = lists.shown } ∷ [];
  listed = record {
    one_for_each_glob = refl;
    kept = lists.kept
        ∙ ap (λ (r : List ℕ). Some (with_event told (Listed r depth lists.shown))) root_is
        ∙ ap (λ (d : ℕ). Some (with_event told (Listed (root_of glob) d lists.shown))) depth_is;
  };
  entries_are = sym lists.entries_shown ∙ ap (λ (l : List Shown). map entry_in l) (sym (append-nil lists.shown));
}

-- ---- both together

pub lists_nothing : (told : Option FolderHistory) (found : ByPath) → Lists [] told found found told
lists_nothing told found = record {
  entries = [];
  in_range = All-nil IsListable;
  added = adds_nothing found;
  shown = shows_nothing told;
}

pub lists_more : (globs more : List (List ℕ)) (told between after : Option FolderHistory) (old found new : ByPath) →
    Lists globs told old found between → Lists more between found new after → Lists (globs ++ more) told old new after
lists_more globs more told between after old found new first second = record {
  entries = first.entries ++ second.entries;
  in_range = All-append IsListable first.entries second.entries first.in_range second.in_range;
  added = adds_more first.entries second.entries old found new first.added second.added;
  shown = shows_more globs more first.entries second.entries told between after first.shown second.shown;
}

pub lists_one : (glob root : List ℕ) (depth : ℕ) (told : Option FolderHistory) (states : List Sight) (present : List Shown) (entries : Vec Entry Global) (after : Option FolderHistory) (faults : ℕ) (old new : ByPath) →
    root ≡ root_of glob → depth ≡ depth_of glob → TellsListing told states present root depth (Ok entries) after faults → All IsListable entries.items →
    Adds entries.items old new → Lists (glob ∷ []) told old new after
lists_one glob root depth told states present entries after faults old new root_is depth_is lists listable added = record {
  entries = entries.items;
  in_range = listable;
  added = added;
  shown = shows_one glob root depth told states present entries after faults root_is depth_is lists;
}

-- the next glob was listed
pub lists_next : (globs : List (List ℕ)) (i : ℕ) (glob : List ℕ) (told between after : Option FolderHistory) (old found new : ByPath) → i < length globs → glob ≡ get_or globs i glob →
    Lists (take i globs) told old found between → Lists (glob ∷ []) between found new after → Lists (take (i + 1) globs) told old new after
lists_next globs i glob told between after old found new within is before here =
    subst (λ (l : List (List ℕ)). Lists l told old new after)
    (ap (λ (x : List ℕ). take i globs ++ x ∷ []) is ∙ sym (take_more globs i glob within))
    (lists_more (take i globs) (glob ∷ []) told between after old found new before here)

-- the globs of the next input were listed
pub lists_next_input : (inputs : List ScanInput) (i : ℕ) (input : ScanInput) (told between after : Option FolderHistory) (old found new : ByPath) → i < length inputs → input ≡ get_or inputs i input →
    Lists (globs_read (take i inputs)) told old found between → Lists input.globs.items between found new after → Lists (globs_read (take (i + 1) inputs)) told old new after
lists_next_input inputs i input told between after old found new within is before here =
    subst (λ (l : List (List ℕ)). Lists l told old new after)
    (ap (λ (l : List (List ℕ)). globs_read (take i inputs) ++ l) (sym (append-nil input.globs.items))
    ∙ sym (flat_map-append (λ (input : ScanInput). input.globs.items) (take i inputs) (input ∷ []))
    ∙ ap (λ (x : ScanInput). globs_read (take i inputs ++ x ∷ [])) is
    ∙ ap (λ (l : List ScanInput). globs_read l) (sym (take_more inputs i input within)))
    (lists_more (globs_read (take i inputs)) input.globs.items told between after old found new before here)
