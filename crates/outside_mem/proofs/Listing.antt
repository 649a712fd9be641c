-- A listing goes from file to file.
use Rattle.std.proofs.Common.{◌≡◌, ◌⊎◌, inl, ⊎_elim, ℕ, zero, suc, ◌+◌, ◌<◌, ◌≤◌, List, [], ◌∷◌, ◌++◌, length, get_or, take, drop, set, map, Option, Some, None, refl, sym, ◌∙◌, ap, subst, arith, add-zero, append_assoc, length-take}
use Rattle.std.specs.Prelude.{◌≢◌, All, Contains, slice_get, IfSome}
use Rattle.std.specs.List.{AllByRecursion}
use Rattle.std.specs.Arc.{arc_value}
use Rattle.std.specs.declared.sync.Arc.{Arc}
use Rattle.std.specs.declared.alloc.Global.{Global}
use Rattle.outside_mem.specs.declared.script.Script.{Script}
use Rattle.std.specs.Option.{option_map, option_to_list}
use Rattle.std.proofs.lemmas.List.{take_more, append-nil, take-append-drop, length-map, map-append}
use Rattle.std.proofs.lemmas.List.Elements.{All-nil, All-cons, All-append, All-push, All-weaker, Contains-append_left, Contains-push}
use Rattle.std.proofs.lemmas.Option.{slice_get-map, slice_get-get_or}
use Rattle.outside.specs.declared.entry.Entry.{Entry}
use Rattle.outside.specs.declared.history.Shown.{Shown}
use Rattle.outside.specs.Files.{File, IsShownOf, IsOfFile, NoneEarlier, IsNoEarlier}
use Rattle.outside.specs.Folders.{EachOnce, IsListed, ShowsPresent, IsListable}
use Rattle.outside_mem.specs.declared.moments.ToldMoment.{ToldMoment}
use Rattle.outside_mem.specs.declared.tracked.Tracked.{Tracked}
use Rattle.outside_mem.specs.Listed.{AddsFound}
use Rattle.outside_mem.specs.Scripts.{file_of}
use Rattle.outside_mem.specs.Steps.{sight_at}
use Rattle.outside_mem.specs.Tracking.{state_of, path_of, shown_by, shown_of, present_from, states_of, files_of}
use Rattle.outside_mem.proofs.Growing.{sight_of_file, sight_grows, no_earlier-refl}

-- so far the listing shows what is present of the first files below the root
pub record IsListedUpTo (moments : List ToldMoment) (files : List Tracked) (listings : ℕ) (root : List ℕ) (depth number : ℕ) (entries : List Entry) (shown : List Shown) : Type 0 where
  pub entries_shown : map (λ (one : Shown). one.entry) shown ≡ entries
  pub in_range : All IsListable entries
  pub of_files : All (IsShownOf (files_of files) (states_of listings files)) shown
  pub only : All (λ one. Contains (present_from moments 0 listings (take number files)) one × IsListed root depth one) shown
  pub every : All (λ one. IsListed root depth one → Contains shown one) (present_from moments 0 listings (take number files))
  pub earlier : AllByRecursion (λ one. one.file < number) shown
  pub once : EachOnce shown

pub listed_none : (moments : List ToldMoment) (files : List Tracked) (listings : ℕ) (root : List ℕ) (depth : ℕ) → IsListedUpTo moments files listings root depth 0 [] []
listed_none moments files listings root depth = record { entries_shown = refl; in_range = All-nil _; of_files = All-nil _; only = All-nil _; every = All-nil _; earlier = tt; once = tt }

present_from-push : (moments : List ToldMoment) (files : List Tracked) (tracked : Tracked) (number listings : ℕ) → present_from moments number listings (files ++ tracked ∷ []) ≡ present_from moments number listings files ++ option_to_list (shown_of moments (number + length files) listings tracked)
present_from-push moments [] tracked number listings =
    append-nil (option_to_list (shown_of moments number listings tracked)) ∙ ap (λ (n : ℕ). option_to_list (shown_of moments n listings tracked)) (sym (add-zero number))
present_from-push moments (first ∷ files) tracked number listings =
    let same : number + 1 + length files ≡ number + suc (length files) = omega arith in
    ap (λ (l : List Shown). option_to_list (shown_of moments number listings first) ++ l) (present_from-push moments files tracked (number + 1) listings)
    ∙ ap (λ (n : ℕ). option_to_list (shown_of moments number listings first) ++ (present_from moments (number + 1) listings files ++ option_to_list (shown_of moments n listings tracked))) same
    ∙ sym (append_assoc (option_to_list (shown_of moments number listings first)) (present_from moments (number + 1) listings files) (option_to_list (shown_of moments (number + suc (length files)) listings tracked)))

present_from-append : (moments : List ToldMoment) (files more : List Tracked) (number listings : ℕ) → present_from moments number listings (files ++ more) ≡ present_from moments number listings files ++ present_from moments (number + length files) listings more
present_from-append moments [] more number listings = ap (λ (n : ℕ). present_from moments n listings more) (sym (add-zero number))
present_from-append moments (first ∷ files) more number listings =
    let same : number + 1 + length files ≡ number + suc (length files) = omega arith in
    ap (λ (l : List Shown). option_to_list (shown_of moments number listings first) ++ l) (present_from-append moments files more (number + 1) listings)
    ∙ ap (λ (n : ℕ). option_to_list (shown_of moments number listings first) ++ (present_from moments (number + 1) listings files ++ present_from moments n listings more)) same
    ∙ sym (append_assoc (option_to_list (shown_of moments number listings first)) (present_from moments (number + 1) listings files) (present_from moments (number + suc (length files)) listings more))

-- a file that is present among this many of the first, and is to be listed
abbrev IsOnList : List ToldMoment → List Tracked → ℕ → List ℕ → ℕ → ℕ → Shown → Type 0
IsOnList moments files listings root depth number one = Contains (present_from moments 0 listings (take number files)) one × IsListed root depth one

abbrev HasOtherPath : List ℕ → Shown → Type 0
HasOtherPath path one = ¬ (one.entry.path ≡ path)

-- where it is to be listed it is shown
abbrev IsOnlyShown : List ℕ → ℕ → List Shown → Shown → Type 0
IsOnlyShown root depth shown one = IsListed root depth one → Contains shown one

all_push : (P : Shown → Type 0) (shown : List Shown) (one : Shown) → AllByRecursion P shown → P one → AllByRecursion P (shown ++ one ∷ [])
all_push P [] one all is = (is, tt)
all_push P (first ∷ shown) one all is = (all.0, all_push P shown one all.1 is)

all_weaker : (P Q : Shown → Type 0) → ((one : Shown) → P one → Q one) → (shown : List Shown) → AllByRecursion P shown → AllByRecursion Q shown
all_weaker P Q weaker [] all = tt
all_weaker P Q weaker (one ∷ shown) all = (weaker one all.0, all_weaker P Q weaker shown all.1)

-- a file after all the others comes once more alone
once-push : (shown : List Shown) (number : ℕ) (one : Shown) → AllByRecursion (λ o. o.file < number) shown → EachOnce shown → one.file ≡ number → EachOnce (shown ++ one ∷ [])
once-push [] number one earlier once is = (tt, tt)
once-push (first ∷ shown) number one earlier once is = (all_push (λ other. (other.file ≢ first.file) ⊎ (other.entry.path ≢ first.entry.path)) shown one once.0 (inl (λ same. omega (arith, same, is, earlier.0))), once-push shown number one earlier.1 once.1 is)

module _ (moments : List ToldMoment) (files : List Tracked) (listings number : ℕ) (tracked : Tracked) (within : number < length files) (is : tracked ≡ get_or files number tracked) where
  pub tracked_at : slice_get files number ≡ Some tracked
  tracked_at = slice_get-get_or files number tracked within ∙ ap Some (sym is)

  pub present-more : present_from moments 0 listings (take (number + 1) files) ≡ present_from moments 0 listings (take number files) ++ option_to_list (shown_of moments number listings tracked)
  present-more =
      let size : 0 + length (take number files) ≡ number = omega (arith, length-take number files) in
      ap (λ (l : List Tracked). present_from moments 0 listings l) (take_more files number tracked within ∙ ap (λ (t : Tracked). take number files ++ t ∷ []) (sym is))
      ∙ present_from-push moments (take number files) tracked 0 listings
      ∙ ap (λ (n : ℕ). present_from moments 0 listings (take number files) ++ option_to_list (shown_of moments n listings tracked)) size

  state_in_range : IsOfFile (file_of (arc_value tracked.script)) (state_of listings tracked)
  state_in_range = sight_of_file listings tracked.calls (arc_value tracked.script).file.steps.items (file_of (arc_value tracked.script)) refl (arc_value tracked.script).in_range

  pub is_shown : (path : List ℕ) → IsShownOf (files_of files) (states_of listings files) (shown_by moments number listings tracked path)
  is_shown path =
      let file : slice_get (files_of files) number ≡ Some (file_of (arc_value tracked.script)) =
      slice_get-map (λ (t : Tracked). file_of (arc_value t.script)) files number ∙ ap (λ (o : Option Tracked). option_map (λ (t : Tracked). file_of (arc_value t.script)) o) tracked_at in
      let state : slice_get (states_of listings files) number ≡ Some (state_of listings tracked) =
      slice_get-map (state_of listings) files number ∙ ap (λ (o : Option Tracked). option_map (state_of listings) o) tracked_at in
      record {
        known = omega (arith, within, length-map files (λ (t : Tracked). file_of (arc_value t.script)));
        numbers = subst (λ (o : Option File). IfSome o (λ f. (arc_value tracked.script).file.native ≡ f.numbers)) (sym file) refl;
        present = subst (λ (o : Option File). IfSome o (λ f. IsOfFile f (state_of listings tracked))) (sym file) state_in_range;
        state = state;
      }

  module _ (root : List ℕ) (depth : ℕ) (entries more_entries : List Entry) (shown more_shown : List Shown) (so_far : IsListedUpTo moments files listings root depth number entries shown) where
    -- a listing that is as before, if nothing more of what is present is to be listed
    as_before : (more : List Shown) → All (λ one. ¬ (IsListed root depth one)) more → present_from moments 0 listings (take (number + 1) files) ≡ present_from moments 0 listings (take number files) ++ more
        → more_entries ≡ entries → more_shown ≡ shown → IsListedUpTo moments files listings root depth (number + 1) more_entries more_shown
    as_before more none present same_entries same_shown =
        subst (λ (e : List Entry). IsListedUpTo moments files listings root depth (number + 1) e more_shown) (sym same_entries)
        (subst (λ (l : List Shown). IsListedUpTo moments files listings root depth (number + 1) entries l) (sym same_shown) record {
          entries_shown = so_far.entries_shown;
          in_range = so_far.in_range;
          of_files = so_far.of_files;
          only =
              All-weaker (IsOnList moments files listings root depth number) (IsOnList moments files listings root depth (number + 1))
              (λ one there. (subst (λ (l : List Shown). Contains l one) (sym present) (Contains-append_left (present_from moments 0 listings (take number files)) more one there.0), there.1)) shown so_far.only;
          earlier = all_weaker (λ o. o.file < number) (λ o. o.file < number + 1) (λ o less. omega (arith, less)) shown so_far.earlier;
          once = so_far.once;
          every =
              subst (λ (l : List Shown). All (IsOnlyShown root depth shown) l) (sym present)
              (All-append (IsOnlyShown root depth shown) (present_from moments 0 listings (take number files)) more so_far.every
              (All-weaker (λ one. ¬ (IsListed root depth one)) (IsOnlyShown root depth shown) (λ one left listed. absurd (left listed)) more none));
        })

    -- a listing with one file more
    with_one : (one : Shown) → one.file ≡ number → IsListed root depth one → IsShownOf (files_of files) (states_of listings files) one → IsListable one.entry
        → present_from moments 0 listings (take (number + 1) files) ≡ present_from moments 0 listings (take number files) ++ one ∷ []
        → more_entries ≡ entries ++ one.entry ∷ [] → more_shown ≡ shown ++ one ∷ [] → IsListedUpTo moments files listings root depth (number + 1) more_entries more_shown
    with_one one is_number listed of_files listable present added_entry added_one =
        subst (λ (e : List Entry). IsListedUpTo moments files listings root depth (number + 1) e more_shown) (sym added_entry)
        (subst (λ (l : List Shown). IsListedUpTo moments files listings root depth (number + 1) (entries ++ one.entry ∷ []) l) (sym added_one) record {
          entries_shown = map-append (λ (o : Shown). o.entry) shown (one ∷ []) ∙ ap (λ (e : List Entry). e ++ one.entry ∷ []) so_far.entries_shown;
          in_range = All-push IsListable entries one.entry so_far.in_range listable;
          of_files = All-push (IsShownOf (files_of files) (states_of listings files)) shown one so_far.of_files of_files;
          only =
              All-push (IsOnList moments files listings root depth (number + 1)) shown one
              (All-weaker (IsOnList moments files listings root depth number) (IsOnList moments files listings root depth (number + 1))
              (λ o there. (subst (λ (l : List Shown). Contains l o) (sym present) (Contains-append_left (present_from moments 0 listings (take number files)) (one ∷ []) o there.0), there.1)) shown so_far.only)
              (subst (λ (l : List Shown). Contains l one) (sym present) (Contains-push (present_from moments 0 listings (take number files)) one), listed);
          earlier =
              all_push (λ o. o.file < number + 1) shown one
              (all_weaker (λ o. o.file < number) (λ o. o.file < number + 1) (λ o less. omega (arith, less)) shown so_far.earlier) (omega (arith, is_number));
          once = once-push shown number one so_far.earlier so_far.once is_number;
          every =
              subst (λ (l : List Shown). All (IsOnlyShown root depth (shown ++ one ∷ [])) l) (sym present)
              (All-push (IsOnlyShown root depth (shown ++ one ∷ [])) (present_from moments 0 listings (take number files)) one
              (All-weaker (IsOnlyShown root depth shown) (IsOnlyShown root depth (shown ++ one ∷ [])) (λ o there is_listed. Contains-append_left shown (one ∷ []) o (there is_listed)) (present_from moments 0 listings (take number files)) so_far.every)
              (λ is_listed. Contains-push shown one));
        })

    pub listed_more : AddsFound root depth (shown_of moments number listings tracked) entries shown more_entries more_shown → IsListedUpTo moments files listings root depth (number + 1) more_entries more_shown
    listed_more adds = by_path (path_of listings tracked) refl
      where
        by_path : (path : Option (List ℕ)) → path_of listings tracked ≡ path → IsListedUpTo moments files listings root depth (number + 1) more_entries more_shown
        by_path None path_is =
            let none : shown_of moments number listings tracked ≡ None = ap (λ (o : Option (List ℕ)). option_map (shown_by moments number listings tracked) o) path_is in
            let same = subst (λ (o : Option Shown). AddsFound root depth o entries shown more_entries more_shown) none adds in
            as_before [] (All-nil (λ (o : Shown). ¬ (IsListed root depth o))) (present-more ∙ ap (λ (o : Option Shown). present_from moments 0 listings (take number files) ++ option_to_list o) none) same.0 same.1
        by_path (Some path) path_is =
            let one = shown_by moments number listings tracked path in
            let some : shown_of moments number listings tracked ≡ Some one = ap (λ (o : Option (List ℕ)). option_map (shown_by moments number listings tracked) o) path_is in
            let adds_one = subst (λ (o : Option Shown). AddsFound root depth o entries shown more_entries more_shown) some adds in
            let present = present-more ∙ ap (λ (o : Option Shown). present_from moments 0 listings (take number files) ++ option_to_list o) some in
            ⊎_elim (λ added. with_one one refl added.0 (is_shown path) record { path = added.0.1; size = state_in_range.in_range } present added.1 added.2) (λ left. as_before (one ∷ []) (All-cons (λ (o : Shown). ¬ (IsListed root depth o)) one [] left.0 (All-nil (λ (o : Shown). ¬ (IsListed root depth o)))) present left.1 left.2) adds_one

  -- a file that is found by a path is present
  pub present_at : (path : List ℕ) → path_of listings tracked ≡ Some path → Contains (present_from moments 0 listings files) (shown_by moments number listings tracked path)
  present_at path named =
      let one = shown_by moments number listings tracked path in
      let some : shown_of moments number listings tracked ≡ Some one = ap (λ (o : Option (List ℕ)). option_map (shown_by moments number listings tracked) o) named in
      let there : Contains (present_from moments 0 listings (take (number + 1) files)) one =
      subst (λ (l : List Shown). Contains l one) (sym (present-more ∙ ap (λ (o : Option Shown). present_from moments 0 listings (take number files) ++ option_to_list o) some)) (Contains-push _ one) in
      subst (λ (l : List Tracked). Contains (present_from moments 0 listings l) one) (take-append-drop (number + 1) files)
      (subst (λ (l : List Shown). Contains l one) (sym (present_from-append moments (take (number + 1) files) (drop (number + 1) files) 0 listings)) (Contains-append_left _ _ one there))

-- of each file there is as much as before
pub none_earlier-refl : (files : List Tracked) (listings : ℕ) → NoneEarlier (states_of listings files) (states_of listings files)
none_earlier-refl [] listings = tt
none_earlier-refl (tracked ∷ files) listings = (no_earlier-refl (state_of listings tracked), none_earlier-refl files listings)

-- one listing more finds no less
pub none_earlier-listing : (files : List Tracked) (listings more : ℕ) → listings ≤ more → NoneEarlier (states_of listings files) (states_of more files)
none_earlier-listing [] listings more le = tt
none_earlier-listing (tracked ∷ files) listings more le = (sight_grows listings tracked.calls more tracked.calls le (omega arith) (arc_value tracked.script).file.steps.items, none_earlier-listing files listings more le)

-- more calls on one file find no less
pub none_earlier-set : (files : List Tracked) (number : ℕ) (old next : Tracked) (listings : ℕ) → number < length files → old ≡ get_or files number old → next.script ≡ old.script → old.calls ≤ next.calls → NoneEarlier (states_of listings files) (states_of listings (set files number next))
none_earlier-set [] number old next listings within is same more = absurd (omega arith)
none_earlier-set (tracked ∷ files) zero old next listings within is same more = (
  subst (λ (t : Tracked). IsNoEarlier (state_of listings t) (state_of listings next)) is
      (subst (λ (s : Arc Script Global). IsNoEarlier (state_of listings old) (sight_at listings next.calls (arc_value s).file.steps.items)) (sym same) (sight_grows listings old.calls listings next.calls (omega arith) more (arc_value old.script).file.steps.items)),
  none_earlier-refl files listings,
)
none_earlier-set (tracked ∷ files) (suc number) old next listings within is same more = (no_earlier-refl (state_of listings tracked), none_earlier-set files number old next listings (omega arith) is same more)

pub files_of-set : (files : List Tracked) (number : ℕ) (old next : Tracked) → number < length files → old ≡ get_or files number old → next.script ≡ old.script → files_of (set files number next) ≡ files_of files
files_of-set [] number old next within is same = absurd (omega arith)
files_of-set (tracked ∷ files) zero old next within is same =
    let script = same ∙ ap (λ (t : Tracked). t.script) is in ap (λ (s : Arc Script Global). file_of (arc_value s) ∷ files_of files) script
files_of-set (tracked ∷ files) (suc number) old next within is same = ap (λ (l : List File). file_of (arc_value tracked.script) ∷ l) (files_of-set files number old next (omega arith) is same)

-- a listing of all the files shows what is present
pub shows_all : (moments : List ToldMoment) (files : List Tracked) (listings : ℕ) (root : List ℕ) (depth number : ℕ) (entries : List Entry) (shown : List Shown) → take number files ≡ files → IsListedUpTo moments files listings root depth number entries shown
    → ShowsPresent (files_of files) (states_of listings files) (present_from moments 0 listings files) root depth shown
shows_all moments files listings root depth number entries shown all listed = record {
  of_files = listed.of_files;
  only = subst (λ (l : List Tracked). All (λ one. Contains (present_from moments 0 listings l) one × IsListed root depth one) shown) all listed.only;
  every = subst (λ (l : List Tracked). All (λ one. IsListed root depth one → Contains shown one) (present_from moments 0 listings l)) all listed.every;
  once = listed.once;
}
