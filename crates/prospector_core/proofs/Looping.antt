-- The members one by one, as they are looked at: what holds of the files, the index and what was told.
use Rattle.std.proofs.Common.{◌≡◌, ◌≢◌, inl, inr, ℕ, ◌+◌, ◌<◌, Bool, true, false, List, [], ◌∷◌, ◌++◌, length, map, take, get_or, set, All, AllPairs, Some, None, refl, sym, ap, ◌∙◌, subst, arith}
use Rattle.std.specs.BTreeSet.{contains}
use Rattle.std.proofs.lemmas.List.{get_or-map, length-map, map-set, set-get_or}
use Rattle.std.proofs.lemmas.List.Elements.{All-map}
use Rattle.prospector_core.proofs.Finding.{find_none}
use Rattle.prospector_core.proofs.Indexing.{key_of_place}
use Rattle.prospector_core.proofs.Settling.{files-watched, keys-files}
use Rattle.prospector_core.proofs.Steps.{next_member, of_known, strange_created, strange_doubled, strange_refused}
use Rattle.prospector_core.specs.declared.change.Change.{Change}
use Rattle.prospector_core.specs.declared.known.Known.{Known}
use Rattle.prospector_core.specs.declared.marks.Watched.{Watched}
use Rattle.prospector_core.specs.declared.prospect_error.ProspectError.{ProspectError}
use Rattle.prospector_core.specs.declared.prospect_error.ProspectError.TheVariants.{TooMany, NoMemory}
use Rattle.prospector_core.specs.declared.seen.Seen.{Seen}
use Rattle.prospector_core.specs.declared.told.Told.{Told}
use Rattle.prospector_core.specs.KeyIndex.{IsIndex, key_at}
use Rattle.prospector_core.specs.KnownFiles.{KnownFiles, StandsBefore, file_key, first_with, known_with}
use Rattle.prospector_core.specs.Limits.{IsFirstRefusal, refusals}
use Rattle.prospector_core.specs.Marks.{file_of, files_of, keys_of, known_in, mark_by, marked_changes, next_mark, watched_by}
use Rattle.prospector_core.specs.Told.{IsToldBy, RefusesMember, TellsMember, ToldMore, ToldStrange}
use Rattle.wire_base.specs.KeyOrder.{compare}

pub files-set : (watched : List Watched) (place : ℕ) (one old : Watched) → place < length watched → old ≡ get_or watched place old → one.file ≡ old.file →
    files_of (set watched place one) ≡ files_of watched
files-set watched place one old inside at kept =
    map-set file_of watched place one
    ∙ ap (set (files_of watched) place) (kept ∙ ap file_of at ∙ sym (get_or-map file_of watched place old old.file inside))
    ∙ set-get_or (files_of watched) place old.file

pub index_kept : (before watched : List Watched) (order : List ℕ) → files_of watched ≡ files_of before → IsIndex (keys_of before) order → IsIndex (keys_of watched) order
index_kept before watched order same is =
    subst (λ (keys : List (List ℕ)). IsIndex keys order)
    (keys-files before ∙ ap (map file_key) (sym same) ∙ sym (keys-files watched)) is

module _ (clean : List Bool) (known : KnownFiles) (seen : List Seen) (i : ℕ) (member : Seen) (files : List Watched) (told later : Told)
    (inside : i < length seen) (at : member ≡ get_or seen i member) (is : IsToldBy clean known (take i seen) files told) where
  files_are : files_of files ≡ known.files
  files_are = ap files_of is.marks ∙ files-watched clean (take i seen) known.files

  next_told : (others : List Watched) → IsToldBy clean known (take i seen ++ member ∷ []) others later → IsToldBy clean known (take (i + 1) seen) others later
  next_told others told_by = subst (λ (l : List Seen). IsToldBy clean known l others later) (next_member seen i member inside at) told_by

  -- at a file's place
  pub known_step : AllPairs StandsBefore known.files → (place : ℕ) (old one : Watched) (more : List Change) → place < length files → key_at (keys_of files) place ≡ member.key →
      old ≡ get_or files place old → one.file ≡ old.file → one.gone ≡ old.gone → one.mark ≡ next_mark clean old.file member old.mark → more ≡ marked_changes clean old.file member old.mark →
      ToldMore told more later → IsToldBy clean known (take (i + 1) seen) (set files place one) later
  known_step apart place old one more within key here kept stays marked changed more_told =
      next_told (set files place one)
      (of_known clean known (take i seen) member apart place within_known old.file files told later one more is
      (ap file_of old_is)
      (ap (λ (w : Watched). w.file.key) here ∙ sym (key_of_place files place old within) ∙ key)
      (record {
        file_kept = kept;
        stays = stays ∙ ap (λ (w : Watched). w.gone) old_is;
        marked = marked ∙ ap (next_mark clean old.file member) mark_is;
        told = changed ∙ ap (marked_changes clean old.file member) mark_is;
      })
      more_told)
    where
      within_known : place < length known.files
      within_known = let long = ap (λ (l : List Watched). length l) is.marks in omega (arith, within, long, length-map known.files (watched_by clean (take i seen)))

      old_is : old ≡ watched_by clean (take i seen) (get_or known.files place old.file)
      old_is = here ∙ ap (λ (l : List Watched). get_or l place old) is.marks ∙ get_or-map (watched_by clean (take i seen)) known.files place old.file old within_known

      mark_is : old.mark ≡ mark_by clean old.file (first_with old.file.key (take i seen))
      mark_is =
          ap (λ (w : Watched). w.mark) old_is
          ∙ ap (λ (f : Known). mark_by clean f (first_with f.key (take i seen))) (sym (ap file_of old_is))

  unknown : All (λ one. one.file.key ≢ member.key) files → known_with member.key known.files ≡ None
  unknown absent = subst (λ (l : List Known). known_with member.key l ≡ None) files_are
      (find_none file_key member.key (files_of files) (All-map (λ file. file.key ≢ member.key) file_of files absent))

  -- where no file has the key
  pub strange_step : All (λ one. one.file.key ≢ member.key) files → ToldStrange (contains compare told.keys member.key) told member later →
      IsToldBy clean known (take (i + 1) seen) files later
  strange_step absent strange = next_told files (by_case (contains compare told.keys member.key) refl strange)
    where
      by_case : (b : Bool) → contains compare told.keys member.key ≡ b → ToldStrange b told member later → IsToldBy clean known (take i seen ++ member ∷ []) files later
      by_case true had doubled = strange_doubled clean known (take i seen) member files told later is (unknown absent) had doubled
      by_case false lacking created = strange_created clean known (take i seen) member files told later is (unknown absent) lacking created

  pub refused_step : (error : ProspectError) → RefusesMember files told member error → IsFirstRefusal (refusals known seen) error
  refused_step NoMemory refused = tt
  refused_step (TooMany what path) refused =
      strange_refused clean known seen i member files told what inside at is (unknown refused.0) refused.1.0 refused.1.1
      ∙ ap (λ (p : List ℕ). Some (record { what = what; path = p })) (sym refused.1.2)

  pub member_step : AllPairs StandsBefore known.files → (others : List Watched) → TellsMember clean files others member told later → IsToldBy clean known (take (i + 1) seen) others later
  member_step apart others (inl tells) =
      subst (λ (l : List Watched). IsToldBy clean known (take (i + 1) seen) l later) (sym tells.changed)
      (known_step apart tells.place tells.old tells.one (marked_changes clean tells.old.file member tells.old.mark) tells.within tells.key tells.here tells.kept tells.stays tells.marked refl tells.told_more)
  member_step apart others (inr tells) =
      subst (λ (l : List Watched). IsToldBy clean known (take (i + 1) seen) l later) (sym tells.same) (strange_step tells.absent tells.strange)

pub files_at : (clean : List Bool) (before watched : List Watched) (next count : ℕ) (front : List Seen) (told : Told) →
    IsToldBy clean (known_in before next count) front watched told → files_of watched ≡ files_of before
files_at clean before watched next count front told is = ap files_of is.marks ∙ files-watched clean front (files_of before)

-- the index is of the files as they are
pub index_at : (clean : List Bool) (before watched : List Watched) (next count : ℕ) (front : List Seen) (order : List ℕ) (told : Told) →
    IsToldBy clean (known_in before next count) front watched told → IsIndex (keys_of before) order → IsIndex (keys_of watched) order
index_at clean before watched next count front order told is index =
    index_kept before watched order (files_at clean before watched next count front told is) index
