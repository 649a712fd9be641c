-- The history of a file, and what its tail reports, as its harvester makes one turn, is asked to end, or is given another path.
use Rattle.std.proofs.Common.{◌≡◌, ◌⊎◌, inl, inr, ℕ, ◌+◌, ◌<◌, Bool, false, true, ◌||◌, List, [], ◌∷◌, ◌++◌, Contains, Option, Some, None, IfSome, refl, sym, subst, ◌∙◌, arith}
use Rattle.std.specs.List.{AllByRecursion}
use Rattle.file_looks.specs.Looks.{AreLooks, TellsLooks}
use Rattle.harvester.specs.HasTold.{HasTold}
use Rattle.harvester.specs.History.{Ended, History, IsTelling, beginning, rules_in, with_ending, with_path}
use Rattle.harvester.specs.Looked.{AreLookedAt, IsLookedAt}
use Rattle.harvester.specs.Standing.{EndsAt}
use Rattle.harvester.specs.TurnLooks.{LooksOn}
use Rattle.harvester.specs.Turned.{events_told, with_turn}
use Rattle.harvester.specs.Turns.{Did, EndsNow, Goes, after_did, did_with}
use Rattle.harvester.specs.declared.harvester.Harvester.{Harvester}
use Rattle.harvester.specs.declared.turn.Turn.{Turn}
use Rattle.harvester.specs.declared.turn.Turn.TheVariants as turn
use Rattle.outside.specs.Files.{File, latest}
use Rattle.outside.specs.Tails.{TailHistory}
use Rattle.outside.specs.declared.history.Look.{Look}
use Rattle.outside.specs.declared.history.Sight.{Sight}
use Rattle.told_events.specs.Told.{ToldEvent}
use Rattle.accounts.specs.Opened.{IsTailOf, Opened}
use Rattle.accounts.specs.ToldFile.{AreToldInTurn, IsHistoryOf, IsToldBy, IsToldFile, events_in}
use Rattle.accounts.specs.Turned.{Turned}
use Rattle.accounts.specs.Turning.{IsAtItsEnd}
use Rattle.accounts.specs.Watch.{MayFindEnd, Name, Watch, last_path}
use Rattle.accounts.proofs.Given.{epochs_more, epochs_next}
use Rattle.accounts.proofs.Lists.{each_last, ends_there, in_order_then}
use Rattle.accounts.proofs.Names.{events_more, events_next, in_turn_more, in_turn_renamed, last_is, names_then}

-- ---- what the tail reports

looks_both : (file : File) (before : Sight) (xs ys : List Look) → AreLooks file before xs → AreLooks file (latest before xs) ys → AreLooks file before (xs ++ ys)
looks_both file before [] ys first then = then
looks_both file before (look ∷ xs) ys first then = (first.0, looks_both file look.sight xs ys first.1 then)

module _ (Are : File → List Look → Type 0) (numbers : Option (ℕ × ℕ)) where
  pub tells_on : (before after : Option TailHistory) → LooksOn Are numbers before after → IfSome before TellsLooks → IfSome after TellsLooks
  tells_on None after on tells = subst (λ (o : Option TailHistory). IfSome o TellsLooks) (sym on) tt
  tells_on (Some told) after on tells =
      subst (λ (o : Option TailHistory). IfSome o TellsLooks) (sym on.added.kept) (looks_both told.file told.begun told.looks on.looks tells on.added.shown)

  pub tail_on : (opened : Opened) (before after : Option TailHistory) → LooksOn Are numbers before after → IfSome before (IsTailOf opened) → IfSome after (IsTailOf opened)
  tail_on opened None after on is = subst (λ (o : Option TailHistory). IfSome o (IsTailOf opened)) (sym on) tt
  tail_on opened (Some told) after on is =
      subst (λ (o : Option TailHistory). IfSome o (IsTailOf opened)) (sym on.added.kept)
      (record { opening = is.opening; number = is.number; begun = is.begun; file = is.file })

  pub numbers_on : (of then kept : Option (ℕ × ℕ)) (before after : Option TailHistory) → then ≡ of → LooksOn Are numbers before after →
      IfSome before (λ tail. of ≡ kept) → IfSome after (λ tail. then ≡ kept)
  numbers_on of then kept None after same on are = subst (λ (o : Option TailHistory). IfSome o (λ tail. then ≡ kept)) (sym on) tt
  numbers_on of then kept (Some told) after same on are = subst (λ (o : Option TailHistory). IfSome o (λ tail. then ≡ kept)) (sym on.added.kept) (same ∙ are)

-- by the numbers of the file
looked_with : (h : History) (opened : Opened) (numbers : Option (ℕ × ℕ)) (told : Option TailHistory) → IfSome told (λ tail. numbers ≡ opened.file.numbers) →
    AreLookedAt numbers h told → AreLookedAt opened.file.numbers h told
looked_with h opened numbers None are looked = tt
looked_with h opened numbers (Some told) are looked = subst (λ (n : Option (ℕ × ℕ)). IsLookedAt n h told) are looked

-- a turn might find the end where one before it might, or it is made so, or the file is to end
which_may : (before last ends : Bool) → (before || (last || ends)) ≡ true → (before ≡ true) ⊎ ((last ≡ true) ⊎ (ends ≡ true))
which_may true last ends is = inl refl
which_may false true ends is = inr (inl refl)
which_may false false ends is = inr (inr is)

module _ (watch : Watch) (moments : List ℕ) where
  -- ---- the history

  told_by : (path given : List ℕ) (now : ℕ) (answer : Turn) → given ≡ path → Contains moments now → AllByRecursion (IsToldBy path moments) (events_told given now answer)
  told_by path given now (turn.Issued parcel) is there = (record { path_is = is; given = there }, tt)
  told_by path given now (turn.Passed span rule) is there = (record { path_is = is; given = there }, tt)
  told_by path given now answer is there = tt

  module _ (opened : Opened) where
    abbrev InTurn : List Name → List ToldEvent → Type 0
    InTurn names told = AreToldInTurn moments opened.begin.path names told

    -- by a turn that may find the end where files are read once, or where this one is to end
    may_end_on : (last : Bool) (h : History) → last ≡ watch.once → IsHistoryOf watch opened moments h → (h.may_end || (last || h.ends)) ≡ true → MayFindEnd watch opened
    may_end_on last h same is may = by_case (which_may h.may_end last h.ends may)
      where
        by_case : (h.may_end ≡ true) ⊎ ((last ≡ true) ⊎ (h.ends ≡ true)) → MayFindEnd watch opened
        by_case (inl before) = is.may_end before
        by_case (inr (inl once)) = inl (sym same ∙ once)
        by_case (inr (inr ends)) = is.ends ends

    pub history_on : (now : ℕ) (last : Bool) (answer : Turn) (did : Did) (h : History) → last ≡ watch.once → EndsAt moments now →
        IsHistoryOf watch opened moments h → IsHistoryOf watch opened moments (after_did now answer did (with_turn now last h))
    history_on now last (turn.NewLife epoch) did h same ends is = record {
      rule = is.rule;
      processors_are = is.processors_are;
      begin = is.begin;
      asked_before = is.asked_before;
      names = is.names;
      rise = is.rise;
      renamed = is.renamed;
      path = is.path;
      ends = is.ends;
      may_end = may_end_on last h same is;
      not_forgotten = is.not_forgotten;
      epochs = epochs_next opened.begin.epoch.0 opened.begin.base h.past h.present (beginning (h.present.epoch + 1) 0) refl refl is.epochs;
      at = in_order_then h.moments moments now ends is.at;
      told = subst (InTurn is.names) (sym (events_next (with_turn now last h))) is.told;
    }
    history_on now last answer did h same ends is = record {
      rule = is.rule;
      processors_are = is.processors_are;
      begin = is.begin;
      asked_before = is.asked_before;
      names = is.names;
      rise = is.rise;
      renamed = is.renamed;
      path = is.path;
      ends = is.ends;
      may_end = may_end_on last h same is;
      not_forgotten = is.not_forgotten;
      epochs = epochs_more opened.begin.epoch.0 opened.begin.base h.past h.present
          (did_with now (events_told h.path now answer) did (with_turn now last h)).present refl refl is.epochs;
      at = in_order_then h.moments moments now ends is.at;
      told = subst (InTurn is.names) (sym (events_more now (events_told h.path now answer) did (with_turn now last h)))
          (in_turn_more moments opened.begin.path is.names (events_in h) (events_told h.path now answer) is.told
          (told_by (last_path opened.begin.path is.names) h.path now answer is.path (ends_there moments now ends)));
    }

    -- it was asked to end
    pub history_ending : (h : History) → MayFindEnd watch opened → IsHistoryOf watch opened moments h → IsHistoryOf watch opened moments (with_ending false h)
    history_ending h may is = record {
      rule = is.rule;
      processors_are = is.processors_are;
      begin = is.begin;
      asked_before = is.asked_before;
      names = is.names;
      rise = is.rise;
      renamed = is.renamed;
      path = is.path;
      ends = λ ends. may;
      may_end = is.may_end;
      not_forgotten = refl;
      epochs = is.epochs;
      at = is.at;
      told = is.told;
    }

    -- a later scan showed it by this path
    pub history_renamed : (h : History) (name : Name) (is : IsHistoryOf watch opened moments h) → watch.renamed opened name →
        AllByRecursion (λ (one : Name). one.scan < name.scan) is.names → IsHistoryOf watch opened moments (with_path name.path h)
    history_renamed h name is renamed later = record {
      rule = is.rule;
      processors_are = is.processors_are;
      begin = is.begin;
      asked_before = is.asked_before;
      names = is.names ++ name ∷ [];
      rise = names_then 0 is.names name (omega arith) later is.rise;
      renamed = each_last (watch.renamed opened) is.names name is.renamed renamed;
      path = sym (last_is opened.begin.path is.names name);
      ends = is.ends;
      may_end = is.may_end;
      not_forgotten = is.not_forgotten;
      epochs = is.epochs;
      at = is.at;
      told = in_turn_renamed moments opened.begin.path is.names name (events_in h) is.told;
    }

  module _ {T : Type 0} (numbers : T → Option (ℕ × ℕ)) (told : T → Option TailHistory) where
    pub told_file : (opened : Opened) (turned : Turned) (harvester : Harvester T) → HasTold numbers told turned.history harvester →
        turned.slot ≡ opened.begin.slot → IsHistoryOf watch opened moments turned.history → IfSome (told harvester.tail) (IsTailOf opened) →
        IfSome (told harvester.tail) TellsLooks → IfSome (told harvester.tail) (λ tail. numbers harvester.tail ≡ opened.file.numbers) →
        IsToldFile watch opened moments turned (told harvester.tail)
    told_file opened turned harvester has slot history tail tells numbers_are = record {
      slot = slot;
      history = history;
      epochs = each_last (IsTelling (rules_in turned.history)) turned.history.past turned.history.present has.held.holds.past has.held.holds.present;
      looked = looked_with turned.history opened (numbers harvester.tail) (told harvester.tail) numbers_are has.looked;
      tail = tail;
      tells = tells;
    }

    -- ---- the end

    module _ (now : ℕ) (last : Bool) (h : History) (old new : Harvester T) where
      pub at_end : (answer : Turn) → answer ≡ turn.AtEnd → (g : Goes numbers told 16_384 now (last || h.ends) (with_turn now last h) old answer new) →
          IsAtItsEnd last (after_did now answer g.did (with_turn now last h))
      at_end turn.AtEnd e g = record {
        asks_nothing = g.caused.none_asked;
        told = λ may. record { ended = ends may; all_told = g.caused.all_told (ends may) };
      }
        where
          ends : (last || h.ends) ≡ true → g.did.stage ≡ Ended
          ends may = by_case g.caused.which
            where
              by_case : (h.stage ≡ Ended) ⊎ EndsNow told now (last || h.ends) (with_turn now last h) g.did (after_did now turn.AtEnd g.did (with_turn now last h)) old new → g.did.stage ≡ Ended
              by_case (inl already) = g.stays_ended already
              by_case (inr found) = found.ends may
      at_end answer e g = absurd cc
