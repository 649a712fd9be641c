-- What steps keep of lanes and of the folder of their tails: by none, by two, and by the closing of tails.
use Rattle.std.proofs.Common.{◌≡◌, ◌⊎◌, inl, inr, ⊎_elim, ℕ, ◌<◌, ◌≤◌, List, [], ◌∷◌, ◌++◌, Option, Some, None, refl, sym, ap, subst, ◌∙◌, arith}
use Rattle.std.proofs.Math.Nat.{eq-or-lt_of_le}
use Rattle.std.proofs.lemmas.List.{append_assoc, append-nil}
use Rattle.harvester.specs.declared.harvester.Harvester.{Harvester}
use Rattle.lanes.specs.Laning.{Laning}
use Rattle.outside.specs.Counts.{Rose, added_counts}
use Rattle.outside.specs.Folders.{Event, FolderHistory}
use Rattle.rounds.specs.Staying.{begins_of}
use Rattle.rounds.specs.Words.{TailWords}
use Rattle.wire_base.specs.declared.note.Begin.{Begin}
use Rattle.rounds.specs.Pairs.{SomeOf}
use Rattle.run_steps.specs.ClosesTail.{ClosesTail, ClosesTails, Readers, ReadersGo}
use Rattle.run_steps.specs.FolderSeen.{FolderSeen}
use Rattle.run_steps.specs.MetBy.{HasFaults, HasMetFault, SomeHarvester}
use Rattle.run_steps.specs.Releasing.{closing_of, with_events}
use Rattle.run_steps.proofs.LettingGo.{OfSlot, have_slot, one_less, slot_had, some_kept, some_was}
use Rattle.run_steps.proofs.RunTails.{as_many_harvesters}

-- ---- the folder's list

pub none_added : (told : Option FolderHistory) → with_events [] told ≡ told
none_added None = refl
none_added (Some told) = ap (λ (events : List Event). Some (record told { events = events })) (append-nil told.events)

pub added_behind : (first second : List Event) (told : Option FolderHistory) → with_events second (with_events first told) ≡ with_events (first ++ second) told
added_behind first second None = refl
added_behind first second (Some told) = ap (λ (events : List Event). Some (record told { events = events })) (append_assoc told.events first second)

-- ---- counts

pub rose_since : (first mid now : ℕ) → first ≤ mid → Rose mid now → Rose first now
rose_since first mid now later (inl above) = inl (omega (arith, above, later))
rose_since first mid now later (inr at_end) = inr at_end

module _ (before mid now : ℕ) where
  pub rose_on : Rose before mid → mid ≤ now → Rose before now
  rose_on (inl less) on = inl (omega (arith, less, on))
  rose_on (inr at_end) on = inr (omega (arith, at_end, on))

rose_by : (before faults now : ℕ) → 0 < faults → added_counts before faults ≤ now → Rose before now
rose_by before faults now some counts = by_order (eq-or-lt_of_le (omega (arith, counts)))
  where
    by_order : (before ≡ now) ⊎ (before < now) → Rose before now
    by_order (inl same) = inr (omega (arith, some, counts, same))
    by_order (inr less) = inl less

module _ {T : Type 0} (tails : TailWords T) where
  -- from fewer faults on
  pub met_from : (before mid now : ℕ) (lanes : List (Laning T)) → before ≤ mid → HasMetFault tails mid now lanes → HasMetFault tails before now lanes
  met_from before mid now lanes le met = ⊎_elim (λ rose. inl (rose_since before mid now le rose)) (λ some. inr some) met

  pub readers_go_by_two : (first mid last : Readers T) → ReadersGo tails first mid → ReadersGo tails mid last → ReadersGo tails first last
  readers_go_by_two first mid last one then = record {
    more = one.more ++ then.more;
    told = then.told ∙ ap (with_events then.more) one.told ∙ added_behind one.more then.more first.folder.told;
    faults_never_fall = omega (arith, one.faults_never_fall, then.faults_never_fall);
    fewer = omega (arith, one.fewer, then.fewer);
    open_tails = omega (arith, one.open_tails, then.open_tails, one.fewer, then.fewer);
    slots = λ slot have. one.slots slot (then.slots slot have);
    fault_stays = λ since le met. then.fault_stays since (omega (arith, le, one.faults_never_fall)) (one.fault_stays since le met);
  }

  -- the folder is as it was, and so are the files of the harvesters, whose faults never fall
  pub readers_stay : (folder : FolderSeen) (old new : List (Laning T)) → begins_of new ≡ begins_of old → (SomeHarvester (HasFaults tails) old → SomeHarvester (HasFaults tails) new) →
      ReadersGo tails (record { folder = folder; lanes = old }) (record { folder = folder; lanes = new })
  readers_stay folder old new same faults =
      let many = as_many_harvesters old new same in
      record {
        more = [];
        told = sym (none_added folder.told);
        faults_never_fall = omega arith;
        fewer = omega (arith, many);
        open_tails = omega (arith, many);
        slots = λ slot have. subst (SomeOf (SomeOf (λ (b : Begin). b.slot ≡ slot))) same have;
        fault_stays = λ since le met. ⊎_elim (λ rose. inl rose) (λ some. inr (faults some)) met;
      }

  pub readers_go_by_nothing : (now : Readers T) → ReadersGo tails now now
  readers_go_by_nothing now = readers_stay now.folder now.lanes now.lanes refl (λ some. some)

  -- a tail was closed, and its faults are the folder's
  pub readers_go_by_one : (one : Harvester T) (old new : Readers T) → ClosesTail tails one old new → ReadersGo tails old new
  readers_go_by_one one old new closes =
      let go = closes.lets_go in
      let less = one_less one old.lanes new.lanes go in
      let counts = closes.closes.counts_faults in
      record {
        more = closing_of (tails.told one.tail) (tails.faults one.tail);
        told = closes.closes.told;
        faults_never_fall = omega (arith, counts);
        fewer = omega (arith, less);
        open_tails = omega (arith, less, closes.closes.open_tails);
        slots = λ slot have. have_slot slot old.lanes (some_was one old.lanes new.lanes go (OfSlot slot) (slot_had slot new.lanes have));
        fault_stays = λ since le met. ⊎_elim (λ rose. inl (rose_on since old.folder.faults new.folder.faults rose (omega (arith, counts))))
            (λ some. ⊎_elim (λ its. inl (rose_since since old.folder.faults new.folder.faults le (rose_by old.folder.faults (tails.faults one.tail) new.folder.faults its counts))) (λ other. inr other)
            (some_kept one old.lanes new.lanes go (HasFaults tails) some)) met;
      }

  pub readers_go_by_some : (closed : List (Harvester T)) (old new : Readers T) → ClosesTails tails closed old new → ReadersGo tails old new
  readers_go_by_some [] old new same = subst (ReadersGo tails old) (sym same) (readers_go_by_nothing old)
  readers_go_by_some (one ∷ more) old new closes =
      readers_go_by_two old closes.0 new (readers_go_by_one one old closes.0 closes.1) (readers_go_by_some more closes.0 new closes.2)
