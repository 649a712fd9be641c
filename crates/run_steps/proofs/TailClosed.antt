-- Tails that are closed keep what stands of a run: their files are left, with what the tails told.
use Rattle.std.proofs.Common.{◌≡◌, ◌≢◌, ◌⊎◌, inl, inr, ⊎_elim, ℕ, suc, ◌≤◌, ◌<◌, ◌^◌, ◌-◌, false, drop, List, [], ◌∷◌, ◌++◌, Contains, length, length-append, map, append_assoc, Option, Some, None, IsSome, IfSome, refl, sym, ap, subst, ◌∙◌, arith}
use Rattle.std.proofs.lemmas.List.{map-append}
use Rattle.std.proofs.lemmas.List.Elements.{Contains-append_left, Contains-append_right}
use Rattle.std.specs.List.{AllByRecursion, flat_map}
use Rattle.accounts.specs.FollowedFile.{MayReopenAt}
use Rattle.accounts.specs.Opened.{IsTailOf, Opened}
use Rattle.accounts.specs.ToldFile.{IsReadThrough}
use Rattle.accounts.specs.Turned.{Turned, notes_told, parcels_told, spans_in}
use Rattle.accounts.specs.Turning.{IsTurnedSo}
use Rattle.accounts.specs.Watch.{Watch}
use Rattle.accounts.proofs.Backing.{mapped_there}
use Rattle.accounts.proofs.Grounded.{each_member}
use Rattle.accounts.proofs.Joining.{same_slot, tells_slots, told_as_often}
use Rattle.accounts.proofs.Lists.{each_last}
use Rattle.accounts.proofs.Often.{often_back, often_contains, often_then, once_apart, once_often}
use Rattle.accounts.proofs.Orderly.{member_is}
use Rattle.harvester.specs.HasTold.{begin_of}
use Rattle.harvester.specs.declared.harvester.Harvester.{Harvester}
use Rattle.harvester.specs.declared.stage.Stage.TheVariants as stage
use Rattle.kept_rows.specs.Trace.{closing_in}
use Rattle.outside.specs.Folders.{Closed, Event, FolderHistory}
use Rattle.outside.specs.Folders as folders
use Rattle.outside.specs.Tails.{TailHistory}
use Rattle.outside.specs.declared.history.Sight.{Sight}
use Rattle.pass_sums.specs.Weight.{AsOften, weigh}
use Rattle.pass_sums.proofs.Weights.{weigh-append}
use Rattle.prospect.proofs.Lists.{all_append}
use Rattle.restart_join.specs.declared.start.TheConstants.{MAX_EPOCH}
use Rattle.rounds.specs.Books.{ArePlaced}
use Rattle.rounds.specs.Pairs.{SomeOf}
use Rattle.rounds.specs.Settled.{spans_told}
use Rattle.rounds.specs.Words.{Words}
use Rattle.rounds.specs.declared.carrier.Carrier.{Carrier}
use Rattle.ship_core.proofs.Members.{first_there, later_there, none_there, there_cases}
use Rattle.slot_parts.specs.Tellings.{tellings_in}
use Rattle.wire_base.specs.declared.note.Begin.{Begin}
use Rattle.wire_base.specs.declared.note.Note.{Note}
use Rattle.wire_base.specs.declared.numbers.Slot.{Slot}
use Rattle.run_steps.specs.Began.{Began}
use Rattle.run_steps.specs.Earlier.{IsEarlierSo}
use Rattle.run_steps.specs.ClosesTail.{ClosesTail, ClosesTails, IsResting, LetsGoAt, Readers}
use Rattle.run_steps.specs.Growing.{IsGrownFrom}
use Rattle.run_steps.specs.LastEpoch.{AreToldInEpochs, HasAnswered, HasAnsweredWhereNoFault, HaveOneOver, IsAnswered, IsLastOver}
use Rattle.run_steps.specs.Looking.{HasLooked, SomeHasLooked}
use Rattle.run_steps.specs.Releasing.{closing_of, with_events}
use Rattle.run_steps.specs.ReadBehind.{ReadsBehind, ReadsWhereNoFault}
use Rattle.run_steps.specs.RunState.{Finished, Following, Halted, HaltedFollowing, Leaving, OutOfEpochs, Phase, Reading}
use Rattle.told_scans.specs.OnlyAsked.{IsNoListing, WasClosedWith, WasOnlyAsked}
use Rattle.told_scans.proofs.ToldScans.{nothing_appended}
use Rattle.told_scans.proofs.ScansPlaced.{between_on}
use Rattle.run_steps.specs.Shown.{HasDone, HasShown, IsStillOpen, WasClosedAs, WasClosedInTurn, WasOpenedSince}
use Rattle.run_steps.specs.LaterScans.{told_in}
use Rattle.run_steps.specs.SoFar.{Earlier, Left, SoFar, all_told, books_of, files_in, files_of, notes_of, opened_before, openings_within, told_before}
use Rattle.run_steps.specs.Stands.{AreAnswered, AreEachOnce, Books, BooksNow, Files, FilesNow, HaveGiven, HoldsWhereNoFault, IsFollowing, IsLeftRead, IsLeftSo, MayTell, ReadsYet, watch_of}
use Rattle.run_steps.proofs.AreRead.{read_now}
use Rattle.run_steps.proofs.Admitting.{booked_by, often_mapped, placed_by, spans_often}
use Rattle.run_steps.proofs.Causing.{some_parted}
use Rattle.run_steps.proofs.Closing.{closed_as_it_was, closed_now, closed_still, closes_its, closes_no_other, in_turn_still, open_still}
use Rattle.run_steps.proofs.First.{got_within}
use Rattle.run_steps.proofs.Growing.{grown_by_nothing, grown_by_two, grown_closing}
use Rattle.run_steps.proofs.FollowedFiles.{answered_resting}
use Rattle.run_steps.proofs.ForgottenOn.{forgotten_left}
use Rattle.run_steps.proofs.Grounds.{all_backed}
use Rattle.run_steps.proofs.InEpochs.{told_in_epochs}
use Rattle.run_steps.proofs.LastOver.{some_behind, some_first}
use Rattle.run_steps.proofs.LeftStill.{left_still}
use Rattle.run_steps.proofs.LessOne.{all_in, each_in, less_in, often_in, one_in, some_in}
use Rattle.run_steps.proofs.ListParts.{got_first, got_in, parts_of}
use Rattle.run_steps.proofs.LettingGo.{StandsFor, each_kept, notes_kept, one_was, parcels_kept, passes_kept, some_kept, spans_kept, stands_for}
use Rattle.run_steps.proofs.SlotsOnce.{files_once, one_opened, slots_in, slots_of}

-- ---- what stands of files and books, in a phase in which tails may be closed

module _ {T W L D : Type 0} (words : Words T W L D) (start : Began D) (moments : Option (List ℕ)) (carriers : List (Carrier W L)) (got : List Note) (phase : Phase) where
  abbrev pub files_at : Readers T → FilesNow T
  files_at now = record { shown = now.folder.told; moments = moments; lanes = now.lanes; phase = phase }

  abbrev pub books_at : Readers T → BooksNow T W L
  books_at now = record { lanes = now.lanes; carriers = carriers; got = got }

  pub record Reads (so_far : SoFar) (now : Readers T) : Type 0 where
    pub files : Files words.tails start (files_at now) (files_of so_far)
    pub books : Books words.links words.wires start.heard (books_at now) (books_of so_far)

  -- a tail that is open, or was closed, was asked for its length
  abbrev pub SomeLooked : SoFar → Readers T → Type 0
  SomeLooked so_far now = SomeOf (λ (l : Left). HasLooked l.told) so_far.left ⊎ SomeHasLooked words.tails now.lanes

  -- and what was noted is the same
  pub record ReadsOn (so_far : SoFar) (old now : Readers T) : Type 0 where
    pub later : SoFar
    pub grown : IsGrownFrom so_far later
    pub reads : Reads later now
    pub same_notes : notes_of later ≡ notes_of so_far
    pub looked : SomeLooked so_far old → SomeLooked later now

  module _ (not_reading : phase ≢ Reading) where
    module _ (so_far : SoFar) (one : Harvester T) (old new : Readers T) (closes : ClosesTail words.tails one old new) (reads : Reads so_far old) where
      abbrev watch : Watch
      watch = watch_of start so_far.scans

      abbrev go : LetsGoAt one old.lanes new.lanes
      go = closes.lets_go

      abbrev So : Turned → Harvester T → Type 0
      So = IsTurnedSo words.tails.numbers words.tails.told watch so_far.opened so_far.moments

      its : StandsFor one old.lanes new.lanes go So so_far.lanes
      its = stands_for one old.lanes new.lanes go So so_far.lanes reads.files.turned

      abbrev file : Turned
      file = its.file

      abbrev told : Option TailHistory
      told = words.tails.told one.tail

      abbrev left_one : Left
      left_one = record { turned = file; told = told }

      abbrev after : SoFar
      after = record so_far { lanes = less_in its.place go.seat so_far.lanes; left = so_far.left ++ left_one ∷ [] }

      abbrev all_files : List Turned
      all_files = all_in so_far.lanes

      abbrev others : List Turned
      others = all_in (less_in its.place go.seat so_far.lanes)

      abbrev turned_in : List Left → List Turned
      turned_in left = map (λ (l : Left). l.turned) left

      same_files : AsOften (files_in so_far) (files_in after)
      same_files h = omega (
        arith,
        often_in its.place go.seat so_far.lanes file its.there h,
        weigh-append h all_files (turned_in so_far.left),
        weigh-append h others (turned_in (so_far.left ++ left_one ∷ [])),
        ap (weigh h) (map-append (λ (l : Left). l.turned) so_far.left (left_one ∷ [])),
        weigh-append h (turned_in so_far.left) (file ∷ []),
      )

      same_all : AsOften (all_told so_far) (all_told after)
      same_all h = omega (arith, same_files h, weigh-append h (told_before so_far.earlier) (files_in so_far), weigh-append h (told_before so_far.earlier) (files_in after))

      each_once : AreEachOnce so_far.opened (files_in after)
      each_once = record {
        rise = reads.files.each_once.rise;
        are = often_then (slots_of (files_in after)) (slots_of (files_in so_far)) (slots_in so_far.opened)
            (often_mapped (λ (t : Turned). t.slot) (files_in after) (files_in so_far) (often_back (files_in so_far) (files_in after) same_files)) reads.files.each_once.are;
      }

      in_epoch : file.history.present.epoch ≤ MAX_EPOCH
      in_epoch = closes.in_epoch file.history its.is.has_told

      in_epochs : AreToldInEpochs (tellings_in file.history)
      in_epochs = told_in_epochs its.is.opened.begin.epoch.0 its.is.opened.begin.base file.history.past file.history.present its.is.is_told.history.epochs in_epoch

      left : AllByRecursion (IsLeftSo watch so_far.opened so_far.moments) (so_far.left ++ left_one ∷ [])
      left = each_last (IsLeftSo watch so_far.opened so_far.moments) so_far.left left_one reads.files.left (record { file = its.is.opened; among = its.is.of_files; is_told = its.is.is_told; in_epochs = in_epochs })

      abbrev ReadThrough : Turned → Type 0
      ReadThrough turned = IsReadThrough turned.history

      finished : phase ≡ Finished → IsSome start.shown → AllByRecursion ReadThrough (files_in after)
      finished is some =
          let parts = parts_of ReadThrough all_files (turned_in so_far.left) (reads.files.finished is some) in
          all_append ReadThrough others (turned_in (so_far.left ++ left_one ∷ [])) (each_in ReadThrough its.place go.seat so_far.lanes parts.0)
          (subst (AllByRecursion ReadThrough) (sym (map-append (λ (l : Left). l.turned) so_far.left (left_one ∷ [])))
          (each_last ReadThrough (turned_in so_far.left) file parts.1 (one_in ReadThrough its.place go.seat so_far.lanes file its.there parts.0)))

      some_left : (P : Turned → Type 0) → SomeOf P (files_in so_far) → SomeOf P (files_in after)
      some_left P some = subst (λ (l : List Turned). SomeOf P (others ++ l)) (sym (map-append (λ (l : Left). l.turned) so_far.left (left_one ∷ [])))
          (⊎_elim (λ here. ⊎_elim (λ is. some_behind P others (turned_in so_far.left ++ file ∷ []) (some_behind P (turned_in so_far.left) (file ∷ []) (inl is)))
          (λ other. some_first P others (turned_in so_far.left ++ file ∷ []) other) (some_in P its.place go.seat so_far.lanes file its.there here))
          (λ later. some_behind P others (turned_in so_far.left ++ file ∷ []) (some_first P (turned_in so_far.left) (file ∷ []) later))
          (some_parted P all_files (turned_in so_far.left) some))

      over : (at : Phase) → HaveOneOver at (files_in so_far) → HaveOneOver at (files_in after)
      over Reading is = tt
      over Finished is = tt
      over Leaving is = tt
      over Halted is = tt
      over Following is = tt
      over HaltedFollowing is = tt
      over (OutOfEpochs slot) is = some_left (IsLastOver slot) is

      looked_still : SomeLooked so_far old → SomeLooked after new
      looked_still some =
          let Asked : Left → Type 0 = λ l. HasLooked l.told in
          ⊎_elim (λ here. inl (some_first Asked so_far.left (left_one ∷ []) here))
          (λ in_lanes. ⊎_elim (λ is. inl (some_behind Asked so_far.left (left_one ∷ []) (inl is))) (λ others. inr others)
          (some_kept one old.lanes new.lanes go (λ (h : Harvester T). HasLooked (words.tails.told h.tail)) in_lanes)) some

      -- ---- the folder

      slots_less : AsOften (slots_of all_files) (file.slot ∷ slots_of others)
      slots_less = often_mapped (λ (t : Turned). t.slot) all_files (file ∷ others) (often_in its.place go.seat so_far.lanes file its.there)

      -- of its slot there is no other
      none_of_slot : Contains (slots_of others) file.slot → ⊥
      none_of_slot there =
          once_apart same_slot tells_slots file.slot (slots_of (others ++ turned_in so_far.left))
          (once_often same_slot tells_slots (slots_of (files_in so_far)) (file.slot ∷ slots_of (others ++ turned_in so_far.left))
          (often_mapped (λ (t : Turned). t.slot) (files_in so_far) (file ∷ (others ++ turned_in so_far.left))
          (λ h. omega (arith, often_in its.place go.seat so_far.lanes file its.there h, weigh-append h all_files (turned_in so_far.left), weigh-append h others (turned_in so_far.left))))
          (files_once so_far.opened (files_in so_far) reads.files.each_once))
          (subst (λ (l : List Slot). Contains l file.slot) (sym (map-append (λ (t : Turned). t.slot) others (turned_in so_far.left)))
          (Contains-append_left (slots_of others) (slots_of (turned_in so_far.left)) file.slot there))

      module _ (faults : ℕ) (first now : FolderHistory) (done : HasDone start.settings first now (files_of so_far)) where
        abbrev events : Option TailHistory → List Event
        events tells = closing_of tells faults

        abbrev then_told : Option TailHistory → FolderHistory
        then_told tells = record now { events = now.events ++ events tells }

        -- an opening stands within the list so far
        stands_within : (opened : Opened) → Contains so_far.opened opened → opened.opening < length now.events
        stands_within opened among =
            got_within now.events opened.opening (folders.Opened opened.begin.path opened.number opened.begun) (member_is (WasOpenedSince first (told_in so_far.scans) now) (openings_within (files_of so_far)) opened done.opened
            (Contains-append_right (opened_before so_far.earlier) so_far.opened opened among)).stands

        no_listings : (tells : Option TailHistory) → AllByRecursion IsNoListing (events tells)
        no_listings None = tt
        no_listings (Some tail) = (tt, tt)

        no_opening : (tells : Option TailHistory) (path : List ℕ) (number : ℕ) (begun : Sight) → Contains (events tells) (folders.Opened path number begun) → ⊥
        no_opening None path number begun there = none_there (folders.Opened path number begun) there
        no_opening (Some tail) path number begun there = ⊎_elim (λ (is : Closed tail.opening tail.looks faults ≡ folders.Opened path number begun). cc) (λ later. none_there (folders.Opened path number begun) later)
            (there_cases (Closed tail.opening tail.looks faults) (folders.Opened path number begun) [] there)

        -- one that was closed stays so
        closed_as_before : (tells : Option TailHistory) (l : Left) (file : Opened) → Contains (openings_within (files_of so_far)) file → IfSome l.told (IsTailOf file) → WasClosedAs now l → WasClosedAs (then_told tells) l
        closed_as_before tells l file among =
            let stands = (member_is (WasOpenedSince first (told_in so_far.scans) now) (openings_within (files_of so_far)) file done.opened among).stands in
            closed_as_it_was now (events tells) file (got_within now.events file.opening (folders.Opened file.begin.path file.number file.begun) stands) l.told

        closed_before : (tells : Option TailHistory) (l : Left) → Contains so_far.left l → WasClosedAs (then_told tells) l
        closed_before tells l there =
            let of = member_is (IsLeftSo watch so_far.opened so_far.moments) so_far.left l reads.files.left there in
            closed_as_before tells l of.file (Contains-append_right (opened_before so_far.earlier) so_far.opened of.file of.among) of.is_told.tail (member_is (WasClosedAs now) so_far.left l done.closed there)

        closed_earlier : (tells : Option TailHistory) (e : Earlier) → Contains so_far.earlier e → WasClosedInTurn (then_told tells) e
        closed_earlier tells e there =
            let of = member_is (IsEarlierSo watch so_far.opened so_far.moments) so_far.earlier e reads.files.earlier.each there in
            let was = member_is (WasClosedInTurn now) so_far.earlier e done.closed_before there in in_turn_still now (events tells) e was
            (closed_as_before tells e.left e.opened (Contains-append_left (opened_before so_far.earlier) so_far.opened e.opened (mapped_there (λ (one : Earlier). one.opened) so_far.earlier e there)) of.is_told.tail was.closed)

        asked_still : (tells : Option TailHistory) (opening : ℕ) → opening < length now.events → WasOnlyAsked now opening → WasOnlyAsked (then_told tells) opening
        asked_still tells opening below was = record { looks = was.looks; closed = closed_still now (events tells) opening was.looks below was.closed; reads = was.reads }

        -- it was turned, and its tail was open
        was_turned : (other : Opened) → Contains (slots_of others) other.begin.slot → Contains (slots_of all_files) other.begin.slot
        was_turned other there = often_contains same_slot tells_slots (slots_of all_files) (file.slot ∷ slots_of others) other.begin.slot slots_less (later_there file.slot other.begin.slot (slots_of others) there)

        file_turned : Contains (slots_of all_files) its.is.opened.begin.slot
        file_turned = subst (Contains (slots_of all_files)) its.is.is_told.slot
            (often_contains same_slot tells_slots (slots_of all_files) (file.slot ∷ slots_of others) file.slot slots_less (first_there file.slot (slots_of others)))

        module _ (tells : Option TailHistory) (tail_is : IfSome tells (IsTailOf its.is.opened)) where
          closed_here : (o : Option TailHistory) → tells ≡ o → IfSome o (λ tail. WasClosedWith (then_told tells) tail.opening tail.looks)
          closed_here None is = tt
          closed_here (Some tail) is =
              let of : IsTailOf its.is.opened tail = subst (λ (o : Option TailHistory). IfSome o (IsTailOf its.is.opened)) is tail_is in
              let below : tail.opening < length now.events = subst (λ (n : ℕ). n < length now.events) (sym of.opening) (stands_within its.is.opened its.is.of_files) in
              let still : IsStillOpen now tail.opening = subst (IsStillOpen now) (sym of.opening) (done.still_open its.is.opened its.is.of_files file_turned) in
              subst (λ (o : Option TailHistory). WasClosedWith (then_told o) tail.opening tail.looks) (sym is)
              (closed_now now (events (Some tail)) tail.opening tail.looks faults below still (closes_its tail.opening tail.looks faults))

          open_here : (other : Opened) → Contains so_far.opened other → Contains (slots_of others) other.begin.slot → (o : Option TailHistory) → tells ≡ o → IsStillOpen (then_told tells) other.opening
          open_here other among there None is =
              subst (λ (o : Option TailHistory). IsStillOpen (then_told o) other.opening) (sym is)
              (open_still now [] other.opening (stands_within other among) (done.still_open other among (was_turned other there)) refl)
          open_here other among there (Some tail) is =
              let of : IsTailOf its.is.opened tail = subst (λ (o : Option TailHistory). IfSome o (IsTailOf its.is.opened)) is tail_is in
              subst (λ (o : Option TailHistory). IsStillOpen (then_told o) other.opening) (sym is)
              (open_still now (events (Some tail)) other.opening (stands_within other among) (done.still_open other among (was_turned other there))
              (closes_no_other tail.opening other.opening tail.looks faults (λ same.
              let one_file : its.is.opened ≡ other = one_opened (openings_within (files_of so_far)) its.is.opened other done.apart
              (Contains-append_right (opened_before so_far.earlier) so_far.opened its.is.opened its.is.of_files) (Contains-append_right (opened_before so_far.earlier) so_far.opened other among) (sym of.opening ∙ same) in
              none_of_slot (subst (Contains (slots_of others)) (sym (its.is.is_told.slot ∙ ap (λ (o : Opened). o.begin.slot) one_file)) there))))

          has_done : told ≡ tells → HasDone start.settings first (then_told tells) (files_of after)
          has_done told_is = record {
            files = done.files;
            more = done.more ++ events tells;
            events = ap (λ (l : List Event). l ++ events tells) done.events ∙ append_assoc first.events done.more (events tells);
            scans = nothing_appended start.settings first (told_in so_far.scans) now (then_told tells) done.scans
                (record { files = refl; more = events tells; events = refl; no_listing = no_listings tells });
            opened = each_member (WasOpenedSince first (told_in so_far.scans) (then_told tells)) (openings_within (files_of so_far)) (λ opened there.
                let of = member_is (WasOpenedSince first (told_in so_far.scans) now) (openings_within (files_of so_far)) opened done.opened there in record {
                  between = between_on opened.opening first (told_in so_far.scans) now (then_told tells) (let is = length-append now.events (events tells) in omega (arith, is)) of.between;
                  stands = got_first now.events (events tells) opened.opening (folders.Opened opened.begin.path opened.number opened.begun) of.stands;
                  file_is = of.file_is;
                });
            apart = done.apart;
            serve = λ opening path number begun since is. ⊎_elim
                (λ here. ⊎_elim (λ among. inl among)
                (λ was. inr (asked_still tells opening (got_within now.events opening (folders.Opened path number begun) here) was)) (done.serve opening path number begun since here))
                (λ there. absurd (no_opening tells path number begun there)) (got_in now.events (events tells) opening (folders.Opened path number begun) is);
            closed_before = each_member (WasClosedInTurn (then_told tells)) so_far.earlier (closed_earlier tells);
            closed = each_last (WasClosedAs (then_told tells)) so_far.left left_one
                (each_member (WasClosedAs (then_told tells)) so_far.left (closed_before tells))
                (subst (λ (o : Option TailHistory). IfSome o (λ tail. WasClosedWith (then_told tells) tail.opening tail.looks)) (sym told_is) (closed_here tells refl));
            still_open = λ other among is_turned. open_here other among is_turned tells refl;
          }

        -- those that were closed before, and this one
        left_in : (Holds : Left → TailHistory → Type 0) → IfSome told (λ (tail : TailHistory). faults ≡ 0 → Holds left_one tail) → AllByRecursion (HoldsWhereNoFault Holds now) so_far.left →
            AllByRecursion (HoldsWhereNoFault Holds (then_told told)) (so_far.left ++ left_one ∷ [])
        left_in Holds holds_it holds =
            each_last (HoldsWhereNoFault Holds (then_told told)) so_far.left left_one
            (left_still start.settings first now so_far done watch reads.files.left (events told) Holds holds) (now_holds told refl its.is.is_told.tail holds_it)
          where
            now_holds : (o : Option TailHistory) → told ≡ o → IfSome o (IsTailOf its.is.opened) → IfSome o (λ (tail : TailHistory). faults ≡ 0 → Holds left_one tail) →
                IfSome o (λ tail. closing_in tail.opening (drop (suc tail.opening) (then_told told).events) ≡ Some (record { looks = tail.looks; faults = 0 }) → Holds left_one tail)
            now_holds None is of holds_one = tt
            now_holds (Some tail) is of holds_one =
                let below : tail.opening < length now.events = subst (λ (n : ℕ). n < length now.events) (sym of.opening) (stands_within its.is.opened its.is.of_files) in
                let still_open : IsStillOpen now tail.opening = subst (IsStillOpen now) (sym of.opening) (done.still_open its.is.opened its.is.of_files file_turned) in
                read_now now (events told) (Holds left_one tail) tail below faults still_open
                (subst (λ (o : Option TailHistory). closing_in tail.opening (events o) ≡ Some (record { looks = tail.looks; faults = faults })) (sym is) (closes_its tail.opening tail.looks faults)) holds_one

      has_shown : HasShown start.settings start.shown new.folder.told (files_of after)
      has_shown = by_case start.shown old.folder.told new.folder.told closes.closes.told reads.files.shown
        where
          by_case : (first now then : Option FolderHistory) → then ≡ with_events (closing_of told (words.tails.faults one.tail)) now → HasShown start.settings first now (files_of so_far) → HasShown start.settings first then (files_of after)
          by_case None now then is shown = is ∙ ap (with_events (closing_of told (words.tails.faults one.tail))) shown
          by_case (Some first) None then is shown = absurd shown
          by_case (Some first) (Some now) then is shown = subst (λ (o : Option FolderHistory). HasShown start.settings (Some first) o (files_of after)) (sym is) (has_done (words.tails.faults one.tail) first now shown told its.is.is_told.tail refl)

      -- this holds of each that counted no fault
      left_then : (Holds : Left → TailHistory → Type 0) → IfSome told (λ (tail : TailHistory). words.tails.faults one.tail ≡ 0 → Holds left_one tail) → IsSome start.shown →
          IfSome old.folder.told (λ folder. AllByRecursion (HoldsWhereNoFault Holds folder) so_far.left) →
          IfSome new.folder.told (λ folder. AllByRecursion (HoldsWhereNoFault Holds folder) (so_far.left ++ left_one ∷ []))
      left_then Holds holds_it some holds = by_case start.shown old.folder.told new.folder.told closes.closes.told reads.files.shown some holds
        where
          by_case : (first now then : Option FolderHistory) → then ≡ with_events (closing_of told (words.tails.faults one.tail)) now → HasShown start.settings first now (files_of so_far) → IsSome first →
              IfSome now (λ folder. AllByRecursion (HoldsWhereNoFault Holds folder) so_far.left) → IfSome then (λ folder. AllByRecursion (HoldsWhereNoFault Holds folder) (so_far.left ++ left_one ∷ []))
          by_case None now then is shown some held = absurd cc
          by_case (Some first) None then is shown some held = absurd shown
          by_case (Some first) (Some now) then is shown some held =
              subst (λ (o : Option FolderHistory). IfSome o (λ folder. AllByRecursion (HoldsWhereNoFault Holds folder) (so_far.left ++ left_one ∷ []))) (sym is)
              (left_in (words.tails.faults one.tail) first now shown Holds holds_it held)

      -- behind each look at its length it was read, if it counted no fault
      left_read : ReadsYet phase → IsSome start.shown → IfSome new.folder.told (λ folder. AllByRecursion (IsLeftRead folder) (so_far.left ++ left_one ∷ []))
      left_read yet some =
          left_then (λ (l : Left) (tail : TailHistory). ReadsBehind false l.turned.history.begin.base tail.looks) (by_told told refl) some (reads.files.read yet some).in_left
        where
          was : ReadsWhereNoFault words.tails.told words.tails.faults one
          was = one_was one old.lanes new.lanes go (ReadsWhereNoFault words.tails.told words.tails.faults) (reads.files.read yet some).in_lanes

          by_told : (o : Option TailHistory) → told ≡ o → IfSome o (λ (tail : TailHistory). words.tails.faults one.tail ≡ 0 → ReadsBehind false file.history.begin.base tail.looks)
          by_told None is = tt
          by_told (Some tail) is = λ none.
              subst (λ (b : Begin). ReadsBehind false b.base tail.looks) its.is.has_told.held.holds.follows.begin
              (subst (λ (o : Option TailHistory). IfSome o (λ (t : TailHistory). ReadsBehind false (begin_of one).base t.looks)) is (was none))

      -- a run that follows its files closes it where it may be opened again, until it is stopped
      followed : (phase ≡ Following → IsResting one) → IsFollowing words.tails start.shown (files_at old) so_far.left → IsFollowing words.tails start.shown (files_at new) (so_far.left ++ left_one ∷ [])
      followed rests were = record {
        none_over = each_kept one old.lanes new.lanes go (λ (h : Harvester T). h.reader.stage ≢ stage.Over) were.none_over;
        may = λ is. each_last (λ (l : Left). IsAnswered l.turned.history) so_far.left left_one (were.may is) (record {
          answered = answered_resting words.tails watch so_far.opened so_far.moments file one its.is
              (one_was one old.lanes new.lanes go (λ (h : Harvester T). h.reader.stage ≢ stage.Over) were.none_over) (rests is);
          epoch = in_epoch;
        });
        in_lanes = λ some. each_kept one old.lanes new.lanes go (HasAnsweredWhereNoFault words.tails.faults) (were.in_lanes some);
        in_left = λ some. left_then (λ (l : Left) (tail : TailHistory). IsAnswered l.turned.history) (by_told told some) some (were.in_left some);
      }
        where
          by_told : (o : Option TailHistory) → IsSome start.shown → IfSome o (λ (tail : TailHistory). words.tails.faults one.tail ≡ 0 → IsAnswered file.history)
          by_told None some = tt
          by_told (Some tail) some = λ none. record {
            answered = subst MayReopenAt its.is.has_told.held.holds.follows.stage (one_was one old.lanes new.lanes go (HasAnsweredWhereNoFault words.tails.faults) (were.in_lanes some) none);
            epoch = in_epoch;
          }

      -- each fall of its length was answered, if it was so as it was turned
      answered : MayTell phase → IsSome start.shown → AreAnswered new.lanes (so_far.left ++ left_one ∷ [])
      answered may some =
          let were = reads.files.answered may some in
          record {
            in_lanes = each_kept one old.lanes new.lanes go HasAnswered were.in_lanes;
            in_left = each_last (λ (l : Left). IsAnswered l.turned.history) so_far.left left_one were.in_left (record {
              answered = subst MayReopenAt its.is.has_told.held.holds.follows.stage (one_was one old.lanes new.lanes go HasAnswered were.in_lanes);
              epoch = in_epoch;
            });
          }

      -- ---- the books

      spans_are : spans_told new.lanes < 2 ^ 64 - 1 → spans_in (all_told after) ≡ spans_told new.lanes
      spans_are few =
          let same = spans_kept one old.lanes new.lanes go in
          let was = reads.books.spans (omega (arith, few, same)) in
          let often = spans_often (all_told so_far) (all_told after) same_all in
          omega (arith, same, was, often)

      have_given : HaveGiven so_far.told (all_told after)
      have_given = record {
        parcels = often_then so_far.told.issued (flat_map parcels_told (all_told so_far)) (flat_map parcels_told (all_told after)) reads.books.gave.parcels
            (told_as_often parcels_told (all_told so_far) (all_told after) same_all);
        notes_are = often_then so_far.told.noted (flat_map notes_told (all_told so_far)) (flat_map notes_told (all_told after)) reads.books.gave.notes_are
            (told_as_often notes_told (all_told so_far) (all_told after) same_all);
      }

      placed : ArePlaced so_far.told new.lanes carriers so_far.queued got so_far.boxed
      placed = placed_by old.lanes new.lanes (parcels_kept one old.lanes new.lanes go) (notes_kept one old.lanes new.lanes go) so_far.told carriers so_far.queued got so_far.boxed reads.books.placed

      reads_without : (phase ≡ Following → IsResting one) → Reads after new
      reads_without rests = record {
        files = record {
          opened = reads.files.opened;
          ruled = reads.files.ruled;
          keyed = reads.files.keyed;
          each_once = each_once;
          turned = its.others;
          left = left;
          earlier = reads.files.earlier;
          forgotten = forgotten_left so_far.scans so_far.opened so_far.left (left_one ∷ []) so_far.forgotten reads.files.forgotten;
          reading = λ is. absurd (not_reading is);
          finished = finished;
          over = over phase reads.files.over;
          read = λ yet some. record {
            in_lanes = each_kept one old.lanes new.lanes go (ReadsWhereNoFault words.tails.told words.tails.faults) (reads.files.read yet some).in_lanes;
            in_left = left_read yet some;
          };
          answered = answered;
          following = λ follows. followed rests (reads.files.following follows);
          tell = λ some. each_kept one old.lanes new.lanes go (λ (h : Harvester T). IsSome (words.tails.told h.tail)) (reads.files.tell some);
          left_tell = λ some. each_last (λ (l : Left). IsSome l.told) so_far.left left_one (reads.files.left_tell some)
              (one_was one old.lanes new.lanes go (λ (h : Harvester T). IsSome (words.tails.told h.tail)) (reads.files.tell some));
          scans = reads.files.scans;
          listed = reads.files.listed;
          shown = has_shown;
          given = reads.files.given;
        };
        books = record {
          gave = have_given;
          booked = booked_by old.lanes new.lanes (parcels_kept one old.lanes new.lanes go) (notes_kept one old.lanes new.lanes go) words.links words.wires so_far.told carriers
              (passes_kept one old.lanes new.lanes go) reads.books.booked;
          heard = reads.books.heard;
          placed = placed;
          backed = all_backed new.lanes carriers so_far.queued got so_far.boxed so_far.told (all_told after) have_given placed;
          spans = spans_are;
        };
      }

    -- one behind the other
    pub reads_on : (closed : List (Harvester T)) (so_far : SoFar) (old new : Readers T) → ClosesTails words.tails closed old new →
        AllByRecursion (λ (one : Harvester T). phase ≡ Following → IsResting one) closed → Reads so_far old → ReadsOn so_far old new
    reads_on [] so_far old new same rest reads =
        record { later = so_far; grown = grown_by_nothing so_far; reads = subst (Reads so_far) (sym same) reads; same_notes = refl; looked = λ some. subst (SomeLooked so_far) (sym same) some }
    reads_on (one ∷ more) so_far old new closes rest reads =
        let first = reads_without so_far one old closes.0 closes.1 reads rest.0 in
        let next = after so_far one old closes.0 closes.1 reads in
        let on = reads_on more next closes.0 new closes.2 rest.1 first in
        record { later = on.later; grown = grown_by_two so_far next on.later (grown_closing so_far _ _) on.grown; reads = on.reads; same_notes = on.same_notes; looked = λ some. on.looked (looked_still so_far one old closes.0 closes.1 reads some) }
