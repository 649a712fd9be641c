-- What a prospector knows and keeps after a scan, after one was refused, when a file is forgotten, and at the beginning.
use Rattle.std.proofs.Common.{◌≡◌, ℕ, ◌+◌, ◌-◌, ◌≤◌, Bool, true, false, cond, not, List, [], ◌∷◌, ◌++◌, length, map, take, drop, eqb, filter, refl, sym, ap, ◌∙◌, subst, arith}
use Rattle.std.proofs.lemmas.List.{append-nil, length-map, nil_from_length, take_all}
use Rattle.prospector_core.proofs.Looping.{index_kept}
use Rattle.prospector_core.proofs.Remembering.{file-key, known_begun, known_later}
use Rattle.prospector_core.proofs.Scanning.{written}
use Rattle.std.proofs.lemmas.Bool.Decides.{Decides-eqb}
use Rattle.prospector_core.proofs.Settling.{files-settled, keys-files, map_agree, map_map}
use Rattle.prospector_core.specs.declared.known.Known.{Known}
use Rattle.prospector_core.specs.declared.limits.TheConstants.{MAX_FILES}
use Rattle.prospector_core.specs.declared.marks.Watched.{Watched}
use Rattle.prospector_core.specs.declared.seen.Seen.{Seen}
use Rattle.prospector_core.specs.declared.told.Scan.{Scan}
use Rattle.prospector_core.specs.declared.told.Told.{Told}
use Rattle.prospector_core.specs.Changes.{created_files, file_after, known_after, new_members}
use Rattle.prospector_core.specs.KeyIndex.{IsIndex}
use Rattle.prospector_core.specs.KnownFiles.{AreBegun, AreKnown, KnownFiles, file_key, known_of}
use Rattle.prospector_core.specs.Marks.{Stays, file_of, files_of, here, keys_of, known_in, settled_one}
use Rattle.prospector_core.specs.Told.{HasAdded}
use Rattle.prospector_core.specs.Watching.{IsWatching, all_by, known_by}
use Rattle.wire_base.specs.declared.note.Begin.{Begin}

abbrev pub record_of : List Known → ℕ → ℕ → KnownFiles
record_of files next others = record { files = files; next = next; others = others }

pub known_view : (watched : List Watched) (next count others : ℕ) → count ≡ length watched + others → known_in watched next count ≡ all_by watched next others
known_view watched next count others is = ap (record_of (files_of watched) next) (let q : count - length watched ≡ others = omega (arith, is) in q)

module _ (scan : Scan) (before files settled : List Watched) (next others count : ℕ) (told : Told) (is : count ≡ length before + others)
    (added : HasAdded scan (known_in before next count) files told) (marked : settled ≡ map (settled_one scan.whole) files) where
  files_after : files_of settled ≡ map (file_after scan.clean.now scan.whole scan.seen.now) (files_of before) ++ created_files next (new_members (files_of before) scan.seen.now)
  files_after =
      ap files_of (marked ∙ ap (map (settled_one scan.whole)) added.marks)
      ∙ files-settled scan.clean.now scan.whole scan.seen.now (files_of before) (created_files next (new_members (files_of before) scan.seen.now))

  view_after : all_by settled told.next others ≡ known_after scan.clean.now scan.whole (all_by before next others) scan.seen.now
  view_after = ap (λ (l : List Known). record_of l told.next others) files_after
      ∙ ap (λ (n : ℕ). record_of (map (file_after scan.clean.now scan.whole scan.seen.now) (files_of before) ++ created_files next (new_members (files_of before) scan.seen.now)) n others) added.next

  pub remembered : (view : KnownFiles) → all_by before next others ≡ view → all_by settled told.next others ≡ known_after scan.clean.now scan.whole view scan.seen.now
  remembered view shown = view_after ∙ ap (λ (k : KnownFiles). known_after scan.clean.now scan.whole k scan.seen.now) shown

  pub still_known : AreKnown (all_by before next others) → AreKnown (all_by settled told.next others)
  still_known are = subst (λ (k : KnownFiles). AreKnown k) (sym view_after)
      (known_later scan.clean.now scan.whole (all_by before next others) scan.seen.now are
      (subst (λ (k : KnownFiles). length k.files + k.others + length (new_members k.files scan.seen.now) ≤ MAX_FILES) (known_view before next count others is) added.few))

  -- if no file began, the keys are where they were
  pub index_stays : (order : List ℕ) → told.next ≡ next → IsIndex (keys_of before) order → IsIndex (keys_of settled) order
  index_stays order same index = subst (λ (keys : List (List ℕ)). IsIndex keys order) keys index
    where
      none : new_members (files_of before) scan.seen.now ≡ []
      none = nil_from_length (new_members (files_of before) scan.seen.now) (let now = added.next in omega (arith, now, same))

      kept : files_of settled ≡ map (file_after scan.clean.now scan.whole scan.seen.now) (files_of before)
      kept = files_after ∙ ap (λ (l : List Seen). map (file_after scan.clean.now scan.whole scan.seen.now) (files_of before) ++ created_files next l) none
          ∙ append-nil (map (file_after scan.clean.now scan.whole scan.seen.now) (files_of before))

      keys : keys_of before ≡ keys_of settled
      keys = keys-files before ∙ sym (keys-files settled ∙ ap (map file_key) kept
          ∙ map_map file_key (file_after scan.clean.now scan.whole scan.seen.now) (files_of before)
          ∙ map_agree (λ file. file_key (file_after scan.clean.now scan.whole scan.seen.now file)) file_key (file-key scan.clean.now scan.whole scan.seen.now) (files_of before))

-- ---- one forgotten

pub files-filter : (p : Known → Bool) (watched : List Watched) → files_of (filter (λ one. p one.file) watched) ≡ filter p (files_of watched)
files-filter p [] = refl
files-filter p (one ∷ watched) = by_case (p one.file) (files-filter p watched)
  where
    by_case : (b : Bool) → files_of (filter (λ w. p w.file) watched) ≡ filter p (files_of watched) →
        files_of (cond b (one ∷ filter (λ w. p w.file) watched) (filter (λ w. p w.file) watched)) ≡ cond b (one.file ∷ filter p (files_of watched)) (filter p (files_of watched))
    by_case true h = ap (λ (l : List Known). one.file ∷ l) h
    by_case false h = h

-- ---- the beginning

pub begun_view : (begins : List Begin) (others : ℕ) (watched : List Watched) (i next : ℕ) → files_of watched ≡ map known_of (take i begins) → length begins ≤ i → next ≡ length watched →
    all_by watched next others ≡ record_of (map known_of begins) (length begins) others
begun_view begins others watched i next made all is =
    ap (λ (l : List Known). record_of l next others) whole
    ∙ ap (λ (n : ℕ). record_of (map known_of begins) n others) (is ∙ sym (length-map watched file_of) ∙ ap (λ (l : List Known). length l) whole ∙ length-map begins known_of)
  where
    whole : files_of watched ≡ map known_of begins
    whole = made ∙ ap (map known_of) (take_all i begins all)

pub begun_known : (begins : List Begin) (others : ℕ) (watched : List Watched) (i next : ℕ) → files_of watched ≡ map known_of (take i begins) → length begins ≤ i → next ≡ length watched →
    AreBegun begins → length begins + others ≤ MAX_FILES → AreKnown (all_by watched next others)
begun_known begins others watched i next made all is are few =
    subst (λ (k : KnownFiles). AreKnown k) (sym (begun_view begins others watched i next made all is)) (known_begun begins others are few)

-- ---- as the body has them

pub settled_all : (whole : Bool) (files settled lent : List Watched) (n : ℕ) → settled ≡ map (settled_one whole) lent → lent ≡ files → n ≡ length files →
    take n (settled ++ drop (length settled) files) ≡ map (settled_one whole) files
settled_all whole files settled lent n marked same all =
    let is : settled ≡ map (settled_one whole) files = marked ∙ ap (map (settled_one whole)) same in
    written files settled n all (ap (λ (l : List Watched). length l) is ∙ length-map files (settled_one whole)) ∙ is

-- as the body has what was written into all of them
pub all_written : (f : Watched → Watched) (files made lent : List Watched) (n : ℕ) → made ≡ map f lent → lent ≡ files → n ≡ length files → take n (made ++ drop (length made) files) ≡ map f files
all_written f files made lent n marked same all =
    let is : made ≡ map f files = marked ∙ ap (map f) same in
    written files made n all (ap (λ (l : List Watched). length l) is ∙ length-map files f) ∙ is

pub not_grown : (a b : ℕ) → not (eqb a b) ≡ false → a ≡ b
not_grown a b same = by_case (eqb a b) refl same
  where
    by_case : (t : Bool) → eqb a b ≡ t → not t ≡ false → a ≡ b
    by_case true e q = (Decides-eqb a b).0 e
    by_case false e q = absurd (let r : true ≡ false = q in cc)
