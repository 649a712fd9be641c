-- Where files start, one file more, and which of them is the first that is too much.
use Rattle.std.proofs.Common.{◌≡◌, ⊎_elim, ℕ, suc, ◌+◌, ◌≤◌, ◌<◌, Bool, true, false, List, [], ◌∷◌, ◌++◌, length, take, Option, None, Some, is_none, option_copied, Bor, IsNone, if◌then◌else◌, refl, sym, ap, subst, ◌∙◌, arith}
use Rattle.std.proofs.lemmas.List.{length-append, length-map, map-append}
use Rattle.std.proofs.lemmas.List.Elements.{filter-append}
use Rattle.std.proofs.lemmas.Bool.{cases_lt}
use Rattle.std.specs.Prelude.{slice_get}
use Rattle.std.specs.List.{filter}
use Rattle.prospect.specs.declared.listed.Listed.{Listed}
use Rattle.restart_join.specs.Joining.{full_for}
use Rattle.restart_join.specs.Starts.{start_of}
use Rattle.restart_join.specs.declared.join_error.JoinError.{JoinError}
use Rattle.restart_join.specs.declared.join_error.JoinError.TheVariants.{NoMemory, TooMany}
use Rattle.restart_join.specs.declared.start.Start.{Start}
use Rattle.wire_base.specs.declared.row.Row.{Row}
use Rattle.run_steps.specs.BeginFor.{row_of, start_among}
use Rattle.run_steps.specs.Starting.{HasRoomAt, HaveRoomBefore, IsTooManyAt, RefusesStarts, new_files, starts_among}
use Rattle.run_steps.proofs.BeginningLists.{take_one}
use Rattle.told_scans.proofs.Members.{some_is}
use Rattle.accounts.proofs.Places.{got_mapped}

-- one file more is no more than there may be
pub few_next : (row : Option (Bor Row)) (files more : ℕ) → more ≡ files + (if is_none (option_copied row) then 1 else 0) → files ≤ 65_536 → (IsNone row → files < 65_536) → more ≤ 65_536
few_next None files more is few less = let room = less refl in omega (arith, is, room)
few_next (Some row) files more is few less = omega (arith, is, few)

-- there is a start for each file
pub as_long : (rows : List Row) (listed : List Listed) (starts : List Start) (place : ℕ) → starts ≡ starts_among rows listed → place < length listed → place < length starts
as_long rows listed starts place are inside = omega (arith, inside, ap (λ (l : List Start). length l) are, length-map listed (start_among rows))

-- the start at a file's place is the file's
pub start_is : (rows : List Row) (listed : List Listed) (starts : List Start) (place : ℕ) (one : Listed) (start : Start) → starts ≡ starts_among rows listed → slice_get listed place ≡ Some one →
    slice_get starts place ≡ Some start → start ≡ start_among rows one
start_is rows listed starts place one start are there is =
    some_is start (start_among rows one) (sym is ∙ ap (λ (l : List Start). slice_get l place) are ∙ got_mapped (start_among rows) listed place one there)

module _ (rows : List Row) (listed : List Listed) (place : ℕ) (one : Listed) (there : slice_get listed place ≡ Some one) where
  one_more : take (place + 1) listed ≡ take place listed ++ one ∷ []
  one_more = ap (λ (n : ℕ). take n listed) next ∙ take_one listed place one there
    where
      next : place + 1 ≡ suc place
      next = omega arith

  pub starts_next : (starts : List Start) (start : Start) → starts ≡ starts_among rows (take place listed) → start ≡ start_of one.size (row_of rows one.key) →
      starts ++ start ∷ [] ≡ starts_among rows (take (place + 1) listed)
  starts_next starts start are is =
      ap (λ (l : List Start). l ++ start ∷ []) are
      ∙ ap (λ (s : Start). starts_among rows (take place listed) ++ s ∷ []) is
      ∙ sym (map-append (start_among rows) (take place listed) (one ∷ []))
      ∙ ap (starts_among rows) (sym one_more)

  pub counted_next : (files : ℕ) → files ≡ length rows + new_files rows (take place listed) →
      files + (if is_none (row_of rows one.key) then 1 else 0) ≡ length rows + new_files rows (take (place + 1) listed)
  counted_next files counted =
      let all : new_files rows (take (place + 1) listed) ≡ new_files rows (take place listed) + length (filter (λ (o : Listed). is_none (row_of rows o.key)) (one ∷ [])) =
      ap (new_files rows) one_more ∙ ap (λ (l : List Listed). length l) (filter-append (λ (o : Listed). is_none (row_of rows o.key)) (take place listed) (one ∷ []))
      ∙ length-append (filter (λ (o : Listed). is_none (row_of rows o.key)) (take place listed)) (filter (λ (o : Listed). is_none (row_of rows o.key)) (one ∷ [])) in
      let last = by_row (is_none (row_of rows one.key)) in
      omega (arith, counted, all, last)
    where
      by_row : (b : Bool) → length (if b then one ∷ [] else []) ≡ (if b then 1 else 0)
      by_row true = refl
      by_row false = refl

  pub room_next : HaveRoomBefore rows listed place → HasRoomAt rows listed place one → HaveRoomBefore rows listed (place + 1)
  room_next before here earlier other less is = ⊎_elim (λ sooner. before earlier other sooner is) (λ later. at_place (omega (arith, less, later))) (cases_lt earlier place)
    where
      at_place : earlier ≡ place → HasRoomAt rows listed earlier other
      at_place same =
          let q : Some other ≡ Some one = sym is ∙ ap (slice_get listed) same ∙ there in
          let its : other ≡ one = cc in
          subst (λ (n : ℕ). HasRoomAt rows listed n other) (sym same) (subst (HasRoomAt rows listed place) (sym its) here)

  pub refused_here : (files : ℕ) (error : JoinError) → files ≡ length rows + new_files rows (take place listed) → HaveRoomBefore rows listed place →
      IsTooManyAt files place one (row_of rows one.key) error → RefusesStarts rows listed error
  refused_here files NoMemory counted before refused = tt
  refused_here files (TooMany what path) counted before refused = record {
    place = place;
    one = one;
    listed_there = there;
    path_is = refused.0;
    full = subst (λ (n : ℕ). full_for n place one.size (row_of rows one.key) ≡ Some what) counted refused.1;
    room_before = before;
  }
