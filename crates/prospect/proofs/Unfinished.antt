-- What was listed where a scan ends before it reports its files.
use Rattle.std.proofs.Common.{◌≡◌, inl, inr, ℕ, ◌+◌, ◌<◌, List, [], ◌∷◌, ◌++◌, length, map, take, drop, get_or, Option, Some, None, Result, Ok, Err, IfSome, OnErr, OnOk, refl, sym, ◌∙◌, ap, subst, append-nil, append_assoc}
use Rattle.std.proofs.lemmas.List.{take_more, take-append-drop}
use Rattle.std.proofs.lemmas.List.Concat.{flat_map-append}
use Rattle.event_tree.specs.declared.input_rule.InputRule.{InputRule}
use Rattle.outside.specs.declared.failed.FolderError.{FolderError}
use Rattle.outside.specs.declared.failed.FolderError.TheVariants.{Failed as FolderFailed, NoMemory as FolderNoMemory}
use Rattle.outside.specs.Folders.{Event, FolderHistory}
use Rattle.prospect.specs.declared.scan_error.ScanError.{ScanError}
use Rattle.prospect.specs.declared.scan_input.ScanInput.{ScanInput}
use Rattle.prospect.specs.Entries.{ByPath, Lists, ShowEntries}
use Rattle.prospect.specs.ListedFiles.{EndsAs}
use Rattle.prospect.specs.Members.{globs_of}
use Rattle.prospect.specs.Readings.{globs_read}
use Rattle.prospect.specs.Scan.{IsErrorOf, Listing, event_of, with_events}
use Rattle.prospect.specs.Unfinished.{ListSome, ListsSome}

pub on_err : {T E : Type 0} (P : Type 0) (result : Result T E) → P → OnErr result P
on_err P (Ok value) holds = tt
on_err P (Err error) holds = holds

pub on_ok : {T E P Q : Type 0} (result : Result T E) → (P → Q) → OnOk result P → OnOk result Q
on_ok (Ok value) step holds = step holds
on_ok (Err error) step holds = tt

abbrev glob_in : Listing → List ℕ
glob_in listing = listing.glob

abbrev globs_in : ScanInput → List (List ℕ)
globs_in input = input.globs.items

-- after listings, each of its glob
behind_listings : (listings : List Listing) (globs : List (List ℕ)) (more : List Event) → ListSome globs more →
    ListSome (map glob_in listings ++ globs) (map event_of listings ++ more)
behind_listings [] globs more some = some
behind_listings (listing ∷ listings) globs more some = inl ((listing.shown, refl), behind_listings listings globs more some)

-- with globs to come
of_more_globs : (globs others : List (List ℕ)) (more : List Event) → ListSome globs more → ListSome (globs ++ others) more
of_more_globs globs others [] some = tt
of_more_globs [] others (event ∷ more) some = absurd some
of_more_globs (glob ∷ globs) others (event ∷ more) (inl one) = inl (one.0, of_more_globs globs others more one.1)
of_more_globs (glob ∷ globs) others (event ∷ more) (inr failed) = inr failed

then_lists_some : (globs others rest : List (List ℕ)) (told between after : Option FolderHistory) (old new : ByPath) →
    Lists globs told old new between → IfSome between (λ history. ListsSome others history after) →
    IfSome told (λ history. ListsSome (globs ++ (others ++ rest)) history after)
then_lists_some globs others rest None between after old new lists some = tt
then_lists_some globs others rest (Some told) between after old new lists some =
    let shows : ShowEntries globs lists.entries told between = lists.shown in
    let S : Option FolderHistory → Type 0 = λ o. IfSome o (λ history. ListsSome others history after) in
    let then : ListsSome others (with_events told (map event_of shows.listings)) after = subst S shows.listed.kept some in
    record {
      more = map event_of shows.listings ++ then.more;
      in_order = subst (λ (l : List (List ℕ)). ListSome (l ++ (others ++ rest)) (map event_of shows.listings ++ then.more)) shows.listed.one_for_each_glob
          (behind_listings shows.listings (others ++ rest) then.more (of_more_globs others rest then.more then.in_order));
      kept = then.kept ∙ ap (λ (l : List Event). Some (record told { events = l })) (append_assoc told.events (map event_of shows.listings) then.more);
    }

-- all were listed
pub all_listed : (globs : List (List ℕ)) (told after : Option FolderHistory) (old new : ByPath) → Lists globs told old new after →
    IfSome told (λ history. ListsSome globs history after)
all_listed globs None after old new lists = tt
all_listed globs (Some told) after old new lists =
    let shows : ShowEntries globs lists.entries told after = lists.shown in
    record {
      more = map event_of shows.listings;
      in_order = subst (λ (l : List (List ℕ)). ListSome l (map event_of shows.listings))
          (append-nil (map glob_in shows.listings) ∙ shows.listed.one_for_each_glob)
          (subst (λ (l : List Event). ListSome (map glob_in shows.listings ++ []) l) (append-nil (map event_of shows.listings))
          (behind_listings shows.listings [] [] tt));
      kept = shows.listed.kept;
    }

-- at this glob
pub ends_at_glob : (globs : List (List ℕ)) (i : ℕ) (glob : List ℕ) (told between after : Option FolderHistory) (old new : ByPath) → i < length globs → glob ≡ get_or globs i glob →
    Lists (take i globs) told old new between → IfSome between (λ history. ListsSome (glob ∷ []) history after) → IfSome told (λ history. ListsSome globs history after)
ends_at_glob globs i glob told between after old new within is lists some =
    subst (λ (l : List (List ℕ)). IfSome told (λ history. ListsSome l history after)) all
    (then_lists_some (take i globs) (glob ∷ []) (drop (i + 1) globs) told between after old new lists some)
  where
    all : take i globs ++ ((glob ∷ []) ++ drop (i + 1) globs) ≡ globs
    all = sym (append_assoc (take i globs) (glob ∷ []) (drop (i + 1) globs))
        ∙ ap (λ (x : List ℕ). (take i globs ++ x ∷ []) ++ drop (i + 1) globs) is
        ∙ ap (λ (l : List (List ℕ)). l ++ drop (i + 1) globs) (sym (take_more globs i glob within))
        ∙ take-append-drop (i + 1) globs

-- at a glob of this input
pub ends_at_input : (inputs : List ScanInput) (i : ℕ) (input : ScanInput) (told between after : Option FolderHistory) (old new : ByPath) → i < length inputs → input ≡ get_or inputs i input →
    Lists (globs_read (take i inputs)) told old new between → IfSome between (λ history. ListsSome input.globs.items history after) →
    IfSome told (λ history. ListsSome (globs_read inputs) history after)
ends_at_input inputs i input told between after old new within is lists some =
    subst (λ (l : List (List ℕ)). IfSome told (λ history. ListsSome l history after)) all
    (then_lists_some (globs_read (take i inputs)) input.globs.items (globs_read (drop (i + 1) inputs)) told between after old new lists some)
  where
    all : globs_read (take i inputs) ++ (input.globs.items ++ globs_read (drop (i + 1) inputs)) ≡ globs_read inputs
    all = sym (flat_map-append globs_in (take i inputs) (input ∷ drop (i + 1) inputs))
        ∙ ap (λ (l : List ScanInput). globs_read l) (sym (append_assoc (take i inputs) (input ∷ []) (drop (i + 1) inputs)))
        ∙ ap (λ (x : ScanInput). globs_read ((take i inputs ++ x ∷ []) ++ drop (i + 1) inputs)) is
        ∙ ap (λ (l : List ScanInput). globs_read (l ++ drop (i + 1) inputs)) (sym (take_more inputs i input within))
        ∙ ap (λ (l : List ScanInput). globs_read l) (take-append-drop (i + 1) inputs)

-- the scan ends so
pub ends_by_listing : (inputs : List InputRule) (globs : List (List ℕ)) (told after : Option FolderHistory) (error : FolderError) (answer : ScanError) → globs ≡ globs_of inputs → IsErrorOf error answer →
    IfSome told (λ history. ListsSome globs history after) → IfSome told (λ history. EndsAs inputs history answer after)
ends_by_listing inputs globs None after error answer same is some = tt
ends_by_listing inputs globs (Some told) after FolderFailed answer same is some =
    subst (λ (a : ScanError). EndsAs inputs told a after) (sym is) (subst (λ (l : List (List ℕ)). ListsSome l told after) same some)
ends_by_listing inputs globs (Some told) after FolderNoMemory answer same is some =
    subst (λ (a : ScanError). EndsAs inputs told a after) (sym is) (subst (λ (l : List (List ℕ)). ListsSome l told after) same some)
