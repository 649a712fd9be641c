-- A harvester that was opened stands for its file, and stands for it still as further moments come and further files are opened.
use Rattle.std.proofs.Common.{◌≡◌, inl, inr, ℕ, Bool, false, true, List, [], ◌∷◌, ◌++◌, Contains, Option, IfSome, refl, sym, subst, ◌∙◌}
use Rattle.std.proofs.lemmas.List.Elements.{Contains-append_left}
use Rattle.file_looks.specs.Looks.{TellsLooks}
use Rattle.harvester.specs.HasTold.{HasTold}
use Rattle.harvester.specs.History.{History}
use Rattle.harvester.specs.History as history
use Rattle.harvester.specs.Standing.{EndsAt}
use Rattle.harvester.specs.declared.harvester.Harvester.{Harvester}
use Rattle.outside.specs.Tails.{TailHistory}
use Rattle.accounts.specs.Opened.{IsTailOf, Opened}
use Rattle.accounts.specs.ToldFile.{IsHistoryOf, IsToldFile, events_in}
use Rattle.accounts.specs.Turned.{Turned}
use Rattle.accounts.specs.Turning.{IsAtItsEnd, IsTurnedSo, Pairs}
use Rattle.accounts.specs.Watch.{MayFindEnd, Name, Watch}
use Rattle.accounts.proofs.Lists.{each_then, in_order_on, in_order_then}
use Rattle.accounts.proofs.Names.{in_turn_later}
use Rattle.accounts.proofs.Histories.{told_file}

history_later : (watch : Watch) (opened : Opened) (moments more : List ℕ) (h : History) → IsHistoryOf watch opened moments h →
    IsHistoryOf watch opened (moments ++ more) h
history_later watch opened moments more h is = record {
  rule = is.rule;
  processors_are = is.processors_are;
  begin = is.begin;
  asked_before = is.asked_before;
  names = is.names;
  rise = is.rise;
  renamed = is.renamed;
  path = is.path;
  ends = is.ends;
  may_end = is.may_end;
  not_forgotten = is.not_forgotten;
  epochs = is.epochs;
  at = in_order_on h.moments moments more is.at;
  told = in_turn_later moments more opened.begin.path is.names (events_in h) is.told;
}

-- before its first turn
pub history_opened : (watch : Watch) (opened : Opened) (moments : List ℕ) (now : ℕ) → EndsAt moments now →
    IsHistoryOf watch opened moments (history.opened opened.rule watch.processors opened.begin opened.asked now)
history_opened watch opened moments now ends = record {
  rule = refl;
  processors_are = refl;
  begin = refl;
  asked_before = refl;
  names = [];
  rise = tt;
  renamed = tt;
  path = refl;
  ends = λ ends. absurd (let no : false ≡ true = ends in cc);
  may_end = λ may. absurd (let no : false ≡ true = may in cc);
  not_forgotten = refl;
  epochs = (refl, refl, tt);
  at = in_order_then [] moments now ends tt;
  told = tt;
}

-- of a file whose tail is closed, too
pub told_later : (watch : Watch) (opened : Opened) (moments more : List ℕ) (turned : Turned) (told : Option TailHistory) →
    IsToldFile watch opened moments turned told → IsToldFile watch opened (moments ++ more) turned told
told_later watch opened moments more turned told is = record {
  slot = is.slot;
  history = history_later watch opened moments more turned.history is.history;
  epochs = is.epochs;
  looked = is.looked;
  tail = is.tail;
  tells = is.tells;
}

-- in a run of which that is known, too, by what it is known of this one
pub told_by_other : (watch other : Watch) (opened : Opened) (moments : List ℕ) (turned : Turned) (told : Option TailHistory) → watch.processors ≡ other.processors →
    ((name : Name) → watch.renamed opened name → other.renamed opened name) → (MayFindEnd watch opened → MayFindEnd other opened) → IsToldFile watch opened moments turned told → IsToldFile other opened moments turned told
told_by_other watch other opened moments turned told same renamed may is = record {
  slot = is.slot;
  history = record {
    rule = is.history.rule;
    processors_are = is.history.processors_are ∙ same;
    begin = is.history.begin;
    asked_before = is.history.asked_before;
    names = is.history.names;
    rise = is.history.rise;
    renamed = each_then (watch.renamed opened) (other.renamed opened) is.history.names renamed is.history.renamed;
    path = is.history.path;
    ends = λ ends. may (is.history.ends ends);
    may_end = λ found. may (is.history.may_end found);
    not_forgotten = is.history.not_forgotten;
    epochs = is.history.epochs;
    at = is.history.at;
    told = is.history.told;
  };
  epochs = is.epochs;
  looked = is.looked;
  tail = is.tail;
  tells = is.tells;
}

module _ {T : Type 0} (numbers : T → Option (ℕ × ℕ)) (told : T → Option TailHistory) (watch : Watch) (files : List Opened) (moments : List ℕ) where
  pub stands_later : (others : List Opened) (more : List ℕ) (turned : Turned) (harvester : Harvester T) → IsTurnedSo numbers told watch files moments turned harvester →
      IsTurnedSo numbers told watch (files ++ others) (moments ++ more) turned harvester
  stands_later others more turned harvester stands = record {
    has_told = stands.has_told;
    opened = stands.opened;
    of_files = Contains-append_left files others stands.opened stands.of_files;
    is_told = told_later watch stands.opened moments more turned (told harvester.tail) stands.is_told;
    numbers_are = stands.numbers_are;
    rests = stands.rests;
  }

  pub each_stands_later : (others : List Opened) (more : List ℕ) (ts : List Turned) (harvesters : List (Harvester T)) →
      Pairs (IsTurnedSo numbers told watch files moments) ts harvesters → Pairs (IsTurnedSo numbers told watch (files ++ others) (moments ++ more)) ts harvesters
  each_stands_later others more [] [] all = tt
  each_stands_later others more [] (harvester ∷ harvesters) all = absurd all
  each_stands_later others more (turned ∷ ts) [] all = absurd all
  each_stands_later others more (turned ∷ ts) (harvester ∷ harvesters) all =
      (stands_later others more turned harvester all.0, each_stands_later others more ts harvesters all.1)

  -- as scans tell more of the files
  pub stands_with_more : (other : Watch) (turned : Turned) (harvester : Harvester T) → watch.processors ≡ other.processors → watch.once ≡ other.once →
      ((opened : Opened) (name : Name) → watch.renamed opened name → other.renamed opened name) → ((opened : Opened) → watch.removed opened → other.removed opened) →
      IsTurnedSo numbers told watch files moments turned harvester → IsTurnedSo numbers told other files moments turned harvester
  stands_with_more other turned harvester same once renamed removed stands = record {
    has_told = stands.has_told;
    opened = stands.opened;
    of_files = stands.of_files;
    is_told = told_by_other watch other stands.opened moments turned (told harvester.tail) same (renamed stands.opened) may stands.is_told;
    numbers_are = stands.numbers_are;
    rests = λ rests. subst (λ (b : Bool). IsAtItsEnd b turned.history) once (stands.rests rests);
  }
    where
      may : MayFindEnd watch stands.opened → MayFindEnd other stands.opened
      may (inl read_once) = inl (sym once ∙ read_once)
      may (inr was) = inr (removed stands.opened was)

  -- one that was opened at the last of the moments, by a tail that reported what it was asked for its key
  pub stands_opened : (opened : Opened) (now : ℕ) (harvester : Harvester T) → Contains files opened → EndsAt moments now →
      HasTold numbers told (history.opened opened.rule watch.processors opened.begin opened.asked now) harvester → IfSome (told harvester.tail) (IsTailOf opened) →
      IfSome (told harvester.tail) TellsLooks → IfSome (told harvester.tail) (λ tail. numbers harvester.tail ≡ opened.file.numbers) → harvester.rests ≡ false →
      IsTurnedSo numbers told watch files moments
      (record { slot = opened.begin.slot; history = history.opened opened.rule watch.processors opened.begin opened.asked now }) harvester
  stands_opened opened now harvester among ends has tail tells numbers_are at_work =
      let h = history.opened opened.rule watch.processors opened.begin opened.asked now in
      record {
        has_told = has;
        opened = opened;
        of_files = among;
        is_told = told_file watch moments numbers told opened (record { slot = opened.begin.slot; history = h }) harvester has refl (history_opened watch opened moments now ends)
            tail tells numbers_are;
        numbers_are = numbers_are;
        rests = λ rests. absurd (let no : true ≡ false = sym rests ∙ at_work in cc);
      }
