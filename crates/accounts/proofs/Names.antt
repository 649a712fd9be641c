-- Events that were reported by the names of their file, in turn: as more is reported, as the file has another name, and as moments come.
use Rattle.std.proofs.Common.{◌≡◌, ℕ, ◌+◌, ◌<◌, ◌≤◌, List, [], ◌∷◌, ◌++◌, refl, sym, ap, subst, ◌∙◌, append_assoc, append-nil, arith}
use Rattle.std.proofs.lemmas.List.Elements.{Contains-append_left}
use Rattle.std.specs.List.{AllByRecursion, flat_map}
use Rattle.harvester.specs.History.{History, Telling, beginning, with_epoch}
use Rattle.harvester.specs.Turns.{Did, did_with}
use Rattle.slot_parts.specs.Tellings.{tellings_in}
use Rattle.told_events.proofs.Going.{all_behind, all_front, all_others}
use Rattle.told_events.specs.Told.{ToldEvent}
use Rattle.accounts.specs.ToldFile.{AreToldInTurn, IsToldBy, events_in}
use Rattle.accounts.specs.Watch.{AreNamesFrom, Name, last_path}
use Rattle.accounts.proofs.Lists.{each_then, flat_map_last}

-- ---- the names

pub last_is : (path : List ℕ) (names : List Name) (name : Name) → last_path path (names ++ name ∷ []) ≡ name.path
last_is path [] name = refl
last_is path (first ∷ names) name = last_is first.path names name

-- one of a later scan than each of them
pub names_then : (least : ℕ) (names : List Name) (name : Name) → least ≤ name.scan → AllByRecursion (λ (one : Name). one.scan < name.scan) names →
    AreNamesFrom least names → AreNamesFrom least (names ++ name ∷ [])
names_then least [] name from later rise = (from, tt)
names_then least (first ∷ names) name from later rise = (rise.0, names_then (first.scan + 1) names name (let less = later.0 in omega (arith, less)) later.1 rise.1)

-- ---- the events of a history

abbrev told_in : Telling → List ToldEvent
told_in telling = telling.told

pub events_next : (h : History) → events_in (with_epoch h) ≡ events_in h
events_next h = flat_map_last told_in (tellings_in h) (beginning (h.present.epoch + 1) 0) ∙ append-nil (events_in h)

pub events_more : (now : ℕ) (events : List ToldEvent) (did : Did) (h : History) → events_in (did_with now events did h) ≡ events_in h ++ events
events_more now events did h =
    flat_map_last told_in h.past (did_with now events did h).present
    ∙ sym (append_assoc (flat_map told_in h.past) h.present.told events)
    ∙ ap (λ (l : List ToldEvent). l ++ events) (sym (flat_map_last told_in h.past h.present))

-- what holds of all of them, epoch by epoch
pub each_telling : (P : ToldEvent → Type 0) (tellings : List Telling) → AllByRecursion P (flat_map told_in tellings) →
    AllByRecursion (λ (telling : Telling). AllByRecursion P telling.told) tellings
each_telling P [] all = tt
each_telling P (telling ∷ tellings) all =
    (all_front P telling.told (flat_map told_in tellings) all, each_telling P tellings (all_others P telling.told (flat_map told_in tellings) all))

-- ---- in turn

module _ (moments : List ℕ) where
  -- more of them, by the name that was given last
  pub in_turn_more : (path : List ℕ) (names : List Name) (told more : List ToldEvent) → AreToldInTurn moments path names told →
      AllByRecursion (IsToldBy (last_path path names) moments) more → AreToldInTurn moments path names (told ++ more)
  in_turn_more path [] told more all new = all_behind (IsToldBy path moments) told more all new
  in_turn_more path (next ∷ names) told more all new = (
    all.0,
    all.1 ++ more,
    ap (λ (l : List ToldEvent). l ++ more) all.2 ∙ append_assoc all.0 all.1 more,
    all.3,
    in_turn_more next.path names all.1 more all.4 new,
  )

  -- none was reported yet by another name
  pub in_turn_renamed : (path : List ℕ) (names : List Name) (name : Name) (told : List ToldEvent) → AreToldInTurn moments path names told →
      AreToldInTurn moments path (names ++ name ∷ []) told
  in_turn_renamed path [] name told all = (told, [], sym (append-nil told), all, tt)
  in_turn_renamed path (next ∷ names) name told all = (all.0, all.1, all.2, all.3, in_turn_renamed next.path names name all.1 all.4)

  by_later : (more path : List ℕ) (told : List ToldEvent) → AllByRecursion (IsToldBy path moments) told → AllByRecursion (IsToldBy path (moments ++ more)) told
  by_later more path told all =
      each_then (IsToldBy path moments) (IsToldBy path (moments ++ more)) told
      (λ event is. record { path_is = is.path_is; given = Contains-append_left moments more event.now is.given }) all

  pub in_turn_later : (more : List ℕ) (path : List ℕ) (names : List Name) (told : List ToldEvent) → AreToldInTurn moments path names told →
      AreToldInTurn (moments ++ more) path names told
  in_turn_later more path [] told all = by_later more path told all
  in_turn_later more path (next ∷ names) told all = (
    all.0,
    all.1,
    all.2,
    by_later more path all.0 all.3,
    in_turn_later more next.path names all.1 all.4,
  )

  -- what holds of each event that was reported by one of the names
  pub in_turn_each : (P : ToldEvent → Type 0) (path : List ℕ) (names : List Name) (told : List ToldEvent) → ((event : ToldEvent) → IsToldBy path moments event → P event) →
      AllByRecursion (λ (name : Name). (event : ToldEvent) → IsToldBy name.path moments event → P event) names → AreToldInTurn moments path names told → AllByRecursion P told
  in_turn_each P path [] told first later all = each_then (IsToldBy path moments) P told first all
  in_turn_each P path (next ∷ names) told first later all =
      subst (AllByRecursion P) (sym all.2)
      (all_behind P all.0 all.1 (each_then (IsToldBy path moments) P all.0 first all.3) (in_turn_each P next.path names all.1 later.0 later.1 all.4))
