-- Openings of a folder in memory.
use Rattle.std.proofs.Common.{◌≡◌, ℕ, ◌+◌, List, [], ◌∷◌, ◌++◌, length, get_or, Option, Some, None, refl, sym, ◌∙◌, ap, subst}
use Rattle.std.specs.Arc.{arc_value}
use Rattle.std.specs.Prelude.{All}
use Rattle.std.specs.List.{AllByRecursion}
use Rattle.std.specs.Option.{option_map, option_to_list}
use Rattle.std.specs.declared.alloc.Global.{Global}
use Rattle.std.specs.declared.vec.Vec.{Vec}
use Rattle.std.proofs.lemmas.List.Elements.{All-from_recursion, recursion_from_All}
use Rattle.std.proofs.lemmas.Option.{same_Some, get_or_from_slice_get, slice_get-map}
use Rattle.outside.specs.declared.history.Look.{Look}
use Rattle.outside.specs.declared.history.Shown.{Shown}
use Rattle.outside.specs.declared.history.Sight.{Sight}
use Rattle.outside.specs.Files.{File, NoneEarlier}
use Rattle.outside.specs.Folders.{Event, FolderHistory, OpensFile, Opened}
use Rattle.outside.specs.Tails.{TailHistory}
use Rattle.outside_mem.specs.declared.folder.MemFolder.{MemFolder}
use Rattle.outside_mem.specs.declared.moments.ToldMoment.{ToldMoment}
use Rattle.outside_mem.specs.declared.script.Script.{Script}
use Rattle.outside_mem.specs.declared.tail.MemTail.{MemTail}
use Rattle.outside_mem.specs.declared.tracked.Tracked.{Tracked}
use Rattle.outside_mem.specs.Listed.{FindsAt}
use Rattle.outside_mem.specs.MemFolders.{NotesOnly, OpensTail, folder_events, folder_files}
use Rattle.outside_mem.specs.Scripts.{file_of}
use Rattle.outside_mem.specs.Tracking.{state_of, path_of, shown_by, present_from, states_of, files_of}
use Rattle.outside_mem.proofs.Listing.{none_earlier-refl, present_at, is_shown}

abbrev pub told_by : ℕ → ℕ → File → Sight → List Look → Option TailHistory
told_by opening number file begun looks = Some (record { opening = opening; number = number; file = file; begun = begun; looks = looks })

abbrev pub tail_told : MemTail → Option TailHistory
tail_told tail = told_by (tail.opening.noted + tail.opening.failed) tail.number (file_of (arc_value tail.script)) tail.begun tail.looks.items

abbrev pub tail_numbers : MemTail → Option (ℕ × ℕ)
tail_numbers tail = (arc_value tail.script).file.native

abbrev pub history : List File → List Event → Option FolderHistory
history files events = Some (record { files = files; events = events })

-- files that are not found by a path are not present by it
pub none_present : (moments : List ToldMoment) (files : List Tracked) (number listings : ℕ) (path : List ℕ) → All (λ one. ¬ (path_of listings one ≡ Some path)) files → All (λ one. ¬ (one.entry.path ≡ path)) (present_from moments number listings files)
none_present moments files number listings path none = All-from_recursion (λ one. ¬ (one.entry.path ≡ path)) _ (each files number (recursion_from_All (λ one. ¬ (path_of listings one ≡ Some path)) files none))
  where
    one_at_most : (tracked : Tracked) (number : ℕ) (named : Option (List ℕ)) (others : List Shown) → ¬ (named ≡ Some path) → AllByRecursion (λ one. ¬ (one.entry.path ≡ path)) others → AllByRecursion (λ one. ¬ (one.entry.path ≡ path)) (option_to_list (option_map (shown_by moments number listings tracked) named) ++ others)
    one_at_most tracked number None others apart all = all
    one_at_most tracked number (Some named) others apart all = ((λ same. apart (ap Some same)), all)

    each : (files : List Tracked) (number : ℕ) → AllByRecursion (λ one. ¬ (path_of listings one ≡ Some path)) files → AllByRecursion (λ one. ¬ (one.entry.path ≡ path)) (present_from moments number listings files)
    each [] number all = tt
    each (tracked ∷ files) number all = one_at_most tracked number (path_of listings tracked) (present_from moments (number + 1) listings files) all.0 (each files (number + 1) all.1)

module _ (old new : MemFolder) where
  -- a folder whose files stayed as they were finds no less of them
  pub goes_on : (events : List Event) → NotesOnly old new events → NoneEarlier (states_of old.listings old.files.items) (states_of new.listings new.files.items)
  goes_on events notes =
      subst (λ (f : Vec Tracked Global). NoneEarlier (states_of old.listings old.files.items) (states_of new.listings f.items)) (sym notes.files)
      (subst (λ (n : ℕ). NoneEarlier (states_of old.listings old.files.items) (states_of n old.files.items)) (sym notes.listings) (none_earlier-refl old.files.items old.listings))

  kept : (events : List Event) → NotesOnly old new events → history (folder_files new) (folder_events new) ≡ history (folder_files old) (folder_events old ++ events)
  kept events notes =
      ap (λ (f : Vec Tracked Global). history (files_of f.items) (folder_events new)) notes.files
      ∙ ap (λ (e : List Event). history (folder_files old) e) notes.noted

  module _ (path : List ℕ) (number : ℕ) (tail : MemTail) (finds : FindsAt old.files.items old.listings path number) (opened : OpensTail old new path number tail) where
    one_file : finds.tracked ≡ opened.tracked
    one_file = same_Some finds.tracked opened.tracked (sym finds.there ∙ opened.there)

    is : opened.tracked ≡ get_or old.files.items number opened.tracked
    is = sym (get_or_from_slice_get old.files.items number opened.tracked opened.tracked opened.there)

    named : path_of old.listings opened.tracked ≡ Some path
    named = subst (λ (t : Tracked). path_of old.listings t ≡ Some path) one_file finds.named

    begins : tail_told tail ≡ told_by (length (folder_events old)) number (file_of (arc_value opened.tracked.script)) (state_of old.listings opened.tracked) []
    begins =
        ap (λ (o : ℕ). told_by o tail.number (file_of (arc_value tail.script)) tail.begun tail.looks.items) opened.opening
        ∙ ap (λ (n : ℕ). told_by (length (folder_events old)) n (file_of (arc_value tail.script)) tail.begun tail.looks.items) opened.number_is
        ∙ ap (λ (s : Script). told_by (length (folder_events old)) number (file_of s) tail.begun tail.looks.items) opened.script
        ∙ ap (λ (b : Sight). told_by (length (folder_events old)) number (file_of (arc_value opened.tracked.script)) b tail.looks.items) opened.begun
        ∙ ap (λ (l : List Look). told_by (length (folder_events old)) number (file_of (arc_value opened.tracked.script)) (state_of old.listings opened.tracked) l) opened.looks

    pub opens : OpensFile tail_told tail_numbers (record { files = folder_files old; events = folder_events old }) (states_of old.listings old.files.items) (present_from old.moments.items 0 old.listings old.files.items) path tail (history (folder_files new) (folder_events new))
    opens = record {
      one = shown_by old.moments.items number old.listings opened.tracked path;
      there = present_at old.moments.items old.files.items old.listings number opened.tracked finds.known is path named;
      path_is = refl;
      of_files = is_shown old.moments.items old.files.items old.listings number opened.tracked finds.known is path;
      file = file_of (arc_value opened.tracked.script);
      file_is = slice_get-map (λ (t : Tracked). file_of (arc_value t.script)) old.files.items number ∙ ap (λ (o : Option Tracked). option_map (λ (t : Tracked). file_of (arc_value t.script)) o) opened.there;
      begins = begins;
      numbers = ap (λ (s : Script). s.file.native) opened.script;
      kept = kept (Opened path number (state_of old.listings opened.tracked) ∷ []) opened.notes;
    }
