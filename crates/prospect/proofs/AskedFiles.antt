-- What asking listed files for their keys comes to, file by file.
use Rattle.std.proofs.Common.{◌≡◌, ◌⊎◌, inl, inr, ⊎_elim, ℕ, zero, suc, ◌+◌, ◌-◌, ◌<◌, ◌≤◌, List, [], ◌∷◌, ◌++◌, length, map, Option, Some, None, Result, Ok, Err, All, IfSome, IsSome, OnOk, refl, sym, ap, subst, ◌∙◌, append-nil, append_assoc, drop, get_or, length-append, take, arith}
use Rattle.std.specs.Prelude.{flat_map, slice_get}
use Rattle.std.specs.List.{AllByRecursion}
use Rattle.std.proofs.lemmas.List.{flat_map_more, map-append, map-id, take-append-drop, take_more}
use Rattle.std.proofs.lemmas.List.Elements.{All-contains, All-from_recursion, recursion_from_All}
use Rattle.std.proofs.lemmas.Option.{get_or_from_slice_get, slice_get_within}
use Rattle.event_tree.specs.declared.input_rule.IdentityRule.{IdentityRule}
use Rattle.event_tree.specs.declared.input_rule.IdentityRule.TheVariants.{Fingerprint, Native, Path}
use Rattle.event_tree.specs.declared.input_rule.InputRule.{InputRule}
use Rattle.file_identity.proofs.AskedOnce.{cut_is_part}
use Rattle.file_identity.specs.Answers.{IsAsked, IsFingerprint, IsGiven, IsKeyBy, with_numbers}
use Rattle.file_identity.specs.AskedAgain.{IsRead}
use Rattle.file_identity.specs.Asking.{ArePartReads, IsAsking, IsPartOfAsking, ReadsOn, given_key}
use Rattle.file_looks.specs.Looks.{AreLooks}
use Rattle.file_identity.specs.declared.identity.Identity.{Identity}
use Rattle.file_identity.specs.declared.identity.Identity.TheVariants.{Key, TooSmall}
use Rattle.file_identity.specs.declared.identity_error.IdentityError.{IdentityError}
use Rattle.file_identity.specs.declared.identity_error.IdentityError.TheVariants.{NoNative, ReadFault, NoMemory as OutOfMemory}
use Rattle.file_identity.specs.Key.{fingerprint_key}
use Rattle.hex.proofs.HexLemmas.{length-encode_with}
use Rattle.hex.specs.Hex.{lower_digits}
use Rattle.outside.specs.declared.failed.FolderError.{FolderError}
use Rattle.outside.specs.declared.failed.FolderError.TheVariants.{Failed as FolderFailed, NoMemory as FolderNoMemory}
use Rattle.outside.specs.Counts.{Rose}
use Rattle.outside.specs.declared.history.Look.{Look}
use Rattle.outside.specs.declared.history.Question.{Question}
use Rattle.outside.specs.declared.history.Question.TheVariants.{Length, ReadAt}
use Rattle.outside.specs.declared.history.Shown.{Shown}
use Rattle.outside.specs.declared.history.Sight.{Sight}
use Rattle.outside.specs.Files.{File, sight_of}
use Rattle.outside.specs.Folders.{Closed, Event, FolderHistory, Opened, OpensFile, StartsFresh, TellsClosing, TellsOpening, with_event}
use Rattle.outside.specs.Tails.{TailHistory}
use Rattle.sha2.proofs.Facts256.{length-sha256}
use Rattle.sha2.specs.Sha256.{sha256}
use Rattle.wire_base.specs.Ranges.{IsKey}
use Rattle.prospect.specs.declared.asking.Asked.{Asked}
use Rattle.prospect.specs.declared.asking.Asked.TheVariants.{Gone, Known, Small, Told}
use Rattle.prospect.specs.declared.asking.Keyed.{Keyed}
use Rattle.prospect.specs.declared.listed.Listed.{Listed}
use Rattle.prospect.specs.AskedFiles.{AskedFile, AsksFiles, AsksFrom, AsksSome, CutsOff, FailsSo, IsCutOff, IsKept, IsKeptOf, KeepsFiles, ReadNoFile, WasAsked, gone_by, keyed_by, small_by, with_key}
use Rattle.prospect.specs.Asking.{Answers, AsksNext, Fails, IsAnswerFor, IsAnswered, KeepsNext, LeavesOff, PutsAs, TellsAnswer, answer_at}
use Rattle.prospect.specs.ListedFiles.{IsKeyed, IsListedInRange, KeyIsTold}
use Rattle.prospect.specs.Members.{HaveShortIds}
use Rattle.prospect.specs.Scan.{with_events}

-- ---- the tail of an opened file

abbrev OnlyReads : List Look → Type 0
OnlyReads looks = AllByRecursion (λ look. IsRead look.question) looks

read_on : (place wanted : ℕ) (Later : ℕ → ℕ → Type 0) (NoLater Rest : Type 0) → ((next left : ℕ) → Later next left → Rest) → (NoLater → Rest) → (question : Question) →
    ReadsOn place wanted Later NoLater question → IsRead question × Rest
read_on place wanted Later NoLater Rest later none Length reads = absurd reads
read_on place wanted Later NoLater Rest later none (ReadAt at zero) reads = (tt, none reads.1)
read_on place wanted Later NoLater Rest later none (ReadAt at (suc more)) reads = (tt, later (place + suc more) (wanted - suc more) reads.2)

no_reads : (looks : List Look) → looks ≡ [] → OnlyReads looks
no_reads looks none = subst (λ (l : List Look). OnlyReads l) (sym none) tt

part_reads : (looks : List Look) (place wanted : ℕ) → ArePartReads looks place wanted → OnlyReads looks
part_reads [] place wanted reads = tt
part_reads (look ∷ looks) place wanted reads =
    read_on place wanted (λ next left. ArePartReads looks next left) (looks ≡ []) (OnlyReads looks) (λ next left. part_reads looks next left) (no_reads looks) look.question reads.1

pub only_reads : (identity : IdentityRule) (looks : List Look) → IsPartOfAsking identity looks → OnlyReads looks
only_reads (Fingerprint offset count) looks reads = part_reads looks offset count reads
only_reads Native looks none = no_reads looks none
only_reads Path looks none = no_reads looks none

both_events : (told : FolderHistory) (opened closed : Event) → with_event (with_event told opened) closed ≡ with_events told (opened ∷ closed ∷ [])
both_events told opened closed = ap (λ (l : List Event). record told { events = l }) (append_assoc told.events (opened ∷ []) (closed ∷ []))

-- a tail as it was opened
abbrev opened_tail : FolderHistory → Shown → File → TailHistory
opened_tail told shown file = record { opening = length told.events; number = shown.file; file = file; begun = sight_of shown; looks = [] }

module _ (rule : InputRule) (one : Listed) (told : FolderHistory) (shown : Shown) (file : File) (file_is : slice_get told.files shown.file ≡ Some file) (by_bytes : IsFingerprint rule.file_identity) where
  abbrev after_both : List Look → ℕ → FolderHistory
  after_both looks faults = with_events told (Opened one.path shown.file (sight_of shown) ∷ Closed (length told.events) looks faults ∷ [])

  was_asked : (key : Option (List ℕ)) (looks : List Look) (faults : ℕ) → AreLooks file (sight_of shown) looks → IsAsking rule.file_identity looks →
      given_key rule.id rule.file_identity one.path file looks ≡ key → faults ≡ 0 → WasAsked rule one (length told.events) key told (after_both looks faults)
  was_asked key looks faults are asking gave none = record {
    by_bytes = by_bytes;
    opening_is = refl;
    number = shown.file;
    begun = sight_of shown;
    file = file;
    file_is = file_is;
    looks = looks;
    shown = are;
    asking = asking;
    gave = sym gave;
    kept = ap (after_both looks) none;
  }

  leaves_off : (looks : List Look) (faults : ℕ) (after : Option FolderHistory) → IsPartOfAsking rule.file_identity looks → after ≡ Some (after_both looks faults) → LeavesOff rule one told after
  leaves_off looks faults after reads after_is = record {
    last = Opened one.path shown.file (sight_of shown) ∷ Closed (length told.events) looks faults ∷ [];
    by_bytes = by_bytes;
    ends = inr (inr (record { number = shown.file; begun = sight_of shown; looks = looks; faults = faults; reads = only_reads rule.file_identity looks reads; last_is = refl }));
    after_is = after_is;
  }

  -- it was read in vain
  fails : (looks : List Look) (faults : ℕ) (after : Option FolderHistory) → IsPartOfAsking rule.file_identity looks → 0 < faults → after ≡ Some (after_both looks faults) → Fails rule one told after
  fails looks faults after reads failed after_is = record {
    last = Opened one.path shown.file (sight_of shown) ∷ Closed (length told.events) looks faults ∷ [];
    by_bytes = by_bytes;
    fails = inr (record {
      read = record { number = shown.file; begun = sight_of shown; looks = looks; faults = faults; reads = only_reads rule.file_identity looks reads; last_is = refl };
      failed = failed;
    });
    after_is = after_is;
  }

  -- what the tail of the opening reported, and its closing
  tells_answer : (looks : List Look) (faults : ℕ) (after : Option FolderHistory) → AreLooks file (sight_of shown) looks → after ≡ Some (after_both looks faults) →
      (key : Result Identity IdentityError) → IsGiven rule.id rule.file_identity one.path file looks key → OnOk key (faults ≡ 0) → (key ≡ Err ReadFault → 0 < faults) →
      (answer : Result Asked FolderError) → IsAnswered key answer → TellsAnswer rule one told answer after
  tells_answer looks faults after are after_is (Ok (Key key)) gave none failing answer is =
      subst (λ (a : Result Asked FolderError). TellsAnswer rule one told a after) (sym is)
      (record { last = after_both looks faults; answered = was_asked (Some key) looks faults are gave.0 gave.1 none; after_is = after_is })
  tells_answer looks faults after are after_is (Ok (TooSmall place)) gave none failing answer is =
      subst (λ (a : Result Asked FolderError). TellsAnswer rule one told a after) (sym is)
      (record { last = after_both looks faults; answered = was_asked None looks faults are gave.0 gave.1 none; after_is = after_is })
  tells_answer looks faults after are after_is (Err NoNative) gave none failing answer is =
      subst (λ (a : Result Asked FolderError). TellsAnswer rule one told a after) (sym is) (leaves_off looks faults after gave after_is)
  tells_answer looks faults after are after_is (Err ReadFault) gave none failing answer is =
      subst (λ (a : Result Asked FolderError). TellsAnswer rule one told a after) (sym is) (fails looks faults after (cut_is_part rule.file_identity looks gave) (failing refl) after_is)
  tells_answer looks faults after are after_is (Err OutOfMemory) gave none failing answer is =
      subst (λ (a : Result Asked FolderError). TellsAnswer rule one told a after) (sym is) (leaves_off looks faults after gave after_is)

-- an opened tail has hit no fault, and one that answered has hit none since
pub faultless : {T : Type 0} (tail_faults : T → ℕ) (opened : Result (Option T) FolderError) (found : Option T) (tail : T) → opened ≡ Ok found → found ≡ Some tail → StartsFresh tail_faults opened →
    (told : Option TailHistory) (key : Result Identity IdentityError) (faults : ℕ) → (IsSome told → OnOk key (faults ≡ tail_faults tail)) → IsSome told → OnOk key (faults ≡ 0)
faultless {T} tail_faults opened found tail opened_is found_is fresh told key faults kept some =
    let F : Result (Option T) FolderError → Type 0 = λ r. StartsFresh tail_faults r in
    let none : tail_faults tail ≡ 0 = subst F (opened_is ∙ ap (λ (o : Option T). Ok o) found_is) fresh in
    let K : ℕ → Type 0 = λ n. OnOk key (faults ≡ n) in
    subst K none (kept some)

-- and one whose reading failed has met one
pub faulty : {T : Type 0} (tail_faults : T → ℕ) (opened : Result (Option T) FolderError) (found : Option T) (tail : T) → opened ≡ Ok found → found ≡ Some tail → StartsFresh tail_faults opened →
    (key : Result Identity IdentityError) (faults : ℕ) → (key ≡ Err ReadFault → Rose (tail_faults tail) faults) → key ≡ Err ReadFault → 0 < faults
faulty {T} tail_faults opened found tail opened_is found_is fresh key faults rose is =
    let F : Result (Option T) FolderError → Type 0 = λ r. StartsFresh tail_faults r in
    let none : tail_faults tail ≡ 0 = subst F (opened_is ∙ ap (λ (o : Option T). Ok o) found_is) fresh in
    ⊎_elim (λ less. omega (arith, none, less)) (λ end. omega (arith, end)) (rose is)

-- what was done with the tail
pub record Handles (rule : InputRule) (one : Listed) (tail : Option TailHistory) (numbers : Option (ℕ × ℕ)) (key : Result Identity IdentityError) (faults : ℕ) (between after : Option FolderHistory) : Type 0 where
  pub left : Option TailHistory
  pub asked : IfSome tail (λ history. IsAsked rule.id rule.file_identity one.path numbers history key left)
  pub faultless : IsSome tail → OnOk key (faults ≡ 0)
  pub faulty : key ≡ Err ReadFault → 0 < faults
  pub closed : TellsClosing between left faults after

pub answered_in : {T : Type 0} (tail_told : T → Option TailHistory) (tail_numbers : T → Option (ℕ × ℕ)) (rule : InputRule) (one : Listed) (told between after : Option FolderHistory)
    (states : List Sight) (present : List Shown) (opened : Result (Option T) FolderError) (found : Option T) (tail : T) → opened ≡ Ok found → found ≡ Some tail →
    TellsOpening tail_told tail_numbers told states present one.path opened between → IsFingerprint rule.file_identity →
    (key : Result Identity IdentityError) (faults : ℕ) → Handles rule one (tail_told tail) (tail_numbers tail) key faults between after →
    (answer : Result Asked FolderError) → IsAnswered key answer → IfSome told (λ history. TellsAnswer rule one history answer after)
answered_in tail_told tail_numbers rule one None between after states present opened found tail opened_is found_is tells by_bytes key faults handles answer is = tt
answered_in {T} tail_told tail_numbers rule one (Some history) between after states present opened found tail opened_is found_is tells by_bytes key faults handles answer is =
    let O : Result (Option T) FolderError → Type 0 = λ r. TellsOpening tail_told tail_numbers (Some history) states present one.path r between in
    let opens : OpensFile tail_told tail_numbers history states present one.path tail between = subst O (opened_is ∙ ap (λ (o : Option T). Ok o) found_is) tells in
    let start : TailHistory = opened_tail history opens.one opens.file in
    let A : Option TailHistory → Type 0 = λ o. IfSome o (λ t. IsAsked rule.id rule.file_identity one.path (tail_numbers tail) t key handles.left) in
    let told_so : IsAsked rule.id rule.file_identity one.path (tail_numbers tail) start key handles.left = subst A opens.begins handles.asked in
    let S : Option TailHistory → Type 0 = λ o. IsSome o → OnOk key (faults ≡ 0) in
    let none : OnOk key (faults ≡ 0) = subst S opens.begins handles.faultless refl in
    let C : Option FolderHistory → Type 0 = λ o. TellsClosing o handles.left faults after in
    let D : Option TailHistory → Type 0 = λ o. TellsClosing (Some (with_event history (Opened one.path opens.one.file (sight_of opens.one)))) o faults after in
    let left : Option TailHistory = Some (record start { looks = told_so.looks }) in
    let closed : after ≡ Some (with_event (with_event history (Opened one.path opens.one.file (sight_of opens.one))) (Closed (length history.events) told_so.looks faults)) =
    subst D {y = left} told_so.added.kept (subst C opens.kept handles.closed) in
    let G : Option (ℕ × ℕ) → Type 0 = λ n. IsGiven rule.id rule.file_identity one.path (with_numbers n opens.file) told_so.looks key in
    tells_answer rule one history opens.one opens.file opens.file_is by_bytes told_so.looks faults after told_so.added.shown
    (closed ∙ ap (λ (h : FolderHistory). Some h) (both_events history (Opened one.path opens.one.file (sight_of opens.one)) (Closed (length history.events) told_so.looks faults)))
    key (subst G opens.numbers told_so.gave) none handles.faulty answer is

-- ---- the next of the files

pub not_asked_next : (inputs : List InputRule) (one : Listed) (rule : InputRule) → slice_get inputs one.input ≡ Some rule → (told after : Option FolderHistory) (asked : Result Asked FolderError) (error : FolderError) →
    asked ≡ Err error → IfSome told (λ history. TellsAnswer rule one history asked after) → IfSome told (λ history. (others : List Listed) → AsksSome inputs history (one ∷ others) after)
not_asked_next inputs one rule rule_is None after asked error is tells = tt
not_asked_next inputs one rule rule_is (Some history) after asked error is tells =
    by_error error (subst (λ (r : Result Asked FolderError). TellsAnswer rule one history r after) is tells)
  where
    left_off : LeavesOff rule one history after → (others : List Listed) → AsksSome inputs history (one ∷ others) after
    left_off leaves others = record {
      asked = [];
      others = one ∷ others;
      are = refl;
      mid = history;
      asks = refl;
      last = leaves.last;
      ends = ends others leaves.last leaves.by_bytes leaves.ends;
      after_is = leaves.after_is;
    }
      where
        ends : (others : List Listed) (last : List Event) → IsFingerprint rule.file_identity → (last ≡ []) ⊎ CutsOff one.path history last → IsCutOff inputs (one ∷ others) history last
        ends others last by_bytes (inl none) = inl none
        ends others last by_bytes (inr cut) = inr (record { one = one; behind = others; others_are = refl; rule = rule; rule_is = rule_is; by_bytes = by_bytes; cut = cut })

    cut_by : (last : List Event) → FailsSo one.path history last → CutsOff one.path history last
    cut_by last (inl refused) = inl refused
    cut_by last (inr vain) = inr vain.read

    by_error : (e : FolderError) → TellsAnswer rule one history (Err e) after → (others : List Listed) → AsksSome inputs history (one ∷ others) after
    by_error FolderFailed fails = left_off (record { last = fails.last; by_bytes = fails.by_bytes; ends = inr (cut_by fails.last fails.fails); after_is = fails.after_is })
    by_error FolderNoMemory leaves = left_off leaves

pub asked_next : (inputs : List InputRule) (one : Listed) (rule : InputRule) → slice_get inputs one.input ≡ Some rule → (told after : Option FolderHistory) (answer : Result Asked FolderError) (asked : Asked) →
    answer ≡ Ok asked → IfSome told (λ history. TellsAnswer rule one history answer after) → (old new : Keyed) → PutsAs one asked old new →
    IfSome told (λ history. AsksNext inputs history one old new after)
asked_next inputs one rule rule_is None after answer asked is tells old new puts = tt
asked_next inputs one rule rule_is (Some history) after answer asked is tells old new puts =
    let R : Result Asked FolderError → Type 0 = λ r. TellsAnswer rule one history r after in
    let answers : Answers rule one history asked after = subst R is tells in
    record {
      asked = record { listed = one; answer = answer_at (length history.events) asked };
      listed_is = refl;
      last = answers.last;
      asks = record { rule = rule; rule_is = rule_is; answered = answers.answered };
      after_is = answers.after_is;
      puts = puts (length history.events);
    }

no_more : (told : FolderHistory) → told ≡ with_events told []
no_more told = ap (λ (l : List Event). record told { events = l }) (sym (append-nil told.events))

pub not_put_next : (inputs : List InputRule) (one : Listed) (rule : InputRule) → slice_get inputs one.input ≡ Some rule → (told after : Option FolderHistory) (answer : Result Asked FolderError) (asked : Asked) →
    answer ≡ Ok asked → IfSome told (λ history. TellsAnswer rule one history answer after) → IfSome told (λ history. (others : List Listed) → AsksSome inputs history (one ∷ others) after)
not_put_next inputs one rule rule_is None after answer asked is tells = tt
not_put_next inputs one rule rule_is (Some history) after answer asked is tells = λ others.
    let R : Result Asked FolderError → Type 0 = λ r. TellsAnswer rule one history r after in
    let answers : Answers rule one history asked after = subst R is tells in
    record {
      asked = record { listed = one; answer = answer_at (length history.events) asked } ∷ [];
      others = others;
      are = refl;
      mid = answers.last;
      asks = (answers.last, record { rule = rule; rule_is = rule_is; answered = answers.answered }, refl);
      last = [];
      ends = inl refl;
      after_is = answers.after_is ∙ ap (λ (h : FolderHistory). Some h) (no_more answers.last);
    }

-- ---- one after another

abbrev listed_in : AskedFile → Listed
listed_in asked = asked.listed

then_asks : (inputs : List InputRule) (asked more : List AskedFile) (before mid after : FolderHistory) → AsksFrom inputs asked before mid → AsksFrom inputs more mid after → AsksFrom inputs (asked ++ more) before after
then_asks inputs [] more before mid after first then = subst (λ (h : FolderHistory). AsksFrom inputs more h after) first then
then_asks inputs (one ∷ asked) more before mid after first then = (first.0, first.1, then_asks inputs asked more first.0 mid after first.2 then)

put_behind : (f : AskedFile → List Listed) (asked : List AskedFile) (one : AskedFile) (old new : List Listed) → old ≡ flat_map f asked → new ≡ old ++ f one → new ≡ flat_map f (asked ++ one ∷ [])
put_behind f asked one old new before added =
    added ∙ ap (λ (l : List Listed). l ++ f one) before ∙ flat_map_more f [] asked one

pub asks_none : (inputs : List InputRule) (told : Option FolderHistory) (keyed : Keyed) → keyed.files.items ≡ [] → keyed.gone.items ≡ [] → keyed.small.items ≡ [] → IfSome told (λ history. AsksFiles inputs history [] keyed told)
asks_none inputs None keyed files gone small = tt
asks_none inputs (Some history) keyed files gone small = record { asked = []; are = refl; last = history; asks = refl; after_is = refl; files = files; gone = gone; small = small }

pub asks_more : (inputs : List InputRule) (listed : List Listed) (one : Listed) (told between after : Option FolderHistory) (old new : Keyed) →
    IfSome told (λ history. AsksFiles inputs history listed old between) → IfSome between (λ history. AsksNext inputs history one old new after) →
    IfSome told (λ history. AsksFiles inputs history (listed ++ one ∷ []) new after)
asks_more inputs listed one None between after old new asks next = tt
asks_more inputs listed one (Some history) between after old new asks next =
    let N : Option FolderHistory → Type 0 = λ o. IfSome o (λ h. AsksNext inputs h one old new after) in
    let then : AsksNext inputs asks.last one old new after = subst N asks.after_is next in
    record {
      asked = asks.asked ++ then.asked ∷ [];
      are = map-append listed_in asks.asked (then.asked ∷ []) ∙ ap (λ (l : List Listed). l ++ then.asked.listed ∷ []) asks.are ∙ ap (λ (o : Listed). listed ++ o ∷ []) then.listed_is;
      last = then.last;
      asks = then_asks inputs asks.asked (then.asked ∷ []) history asks.last then.last asks.asks (then.last, then.asks, refl);
      after_is = then.after_is;
      files = put_behind keyed_by asks.asked then.asked old.files.items new.files.items asks.files then.puts.files;
      gone = put_behind gone_by asks.asked then.asked old.gone.items new.gone.items asks.gone then.puts.gone;
      small = put_behind small_by asks.asked then.asked old.small.items new.small.items asks.small then.puts.small;
    }

pub asks_some : (inputs : List InputRule) (all listed others : List Listed) (told between after : Option FolderHistory) (old : Keyed) → all ≡ listed ++ others →
    IfSome told (λ history. AsksFiles inputs history listed old between) → IfSome between (λ history. AsksSome inputs history others after) →
    IfSome told (λ history. AsksSome inputs history all after)
asks_some inputs all listed others None between after old all_is asks some = tt
asks_some inputs all listed others (Some history) between after old all_is asks some =
    let N : Option FolderHistory → Type 0 = λ o. IfSome o (λ h. AsksSome inputs h others after) in
    let then : AsksSome inputs asks.last others after = subst N asks.after_is some in
    record {
      asked = asks.asked ++ then.asked;
      others = then.others;
      are = all_is
          ∙ ap (λ (l : List Listed). l ++ others) (sym asks.are)
          ∙ ap (λ (l : List Listed). map listed_in asks.asked ++ l) then.are
          ∙ sym (append_assoc (map listed_in asks.asked) (map listed_in then.asked) then.others)
          ∙ ap (λ (l : List Listed). l ++ then.others) (sym (map-append listed_in asks.asked then.asked));
      mid = then.mid;
      asks = then_asks inputs asks.asked then.asked history asks.last then.mid asks.asks then.asks;
      last = then.last;
      ends = then.ends;
      after_is = then.after_is;
    }

pub at_others : (inputs : List InputRule) (one : Listed) (others : List Listed) (told after : Option FolderHistory) → IfSome told (λ history. (more : List Listed) → AsksSome inputs history (one ∷ more) after) →
    IfSome told (λ history. AsksSome inputs history (one ∷ others) after)
at_others inputs one others None after some = tt
at_others inputs one others (Some history) after some = some others

-- ---- which files are left, whether or not the folder reports anything

pub kept_next : (inputs : List InputRule) (one : Listed) (rule : InputRule) → slice_get inputs one.input ≡ Some rule → (asked : Asked) → IsAnswerFor rule one asked → (old new : Keyed) → PutsAs one asked old new →
    KeepsNext inputs one old.files.items new.files.items
kept_next inputs one rule rule_is Told for old new puts = record {
  more = one ∷ [];
  keeps = inl (one, [], record { rule = rule; rule_is = rule_is; kept_so = inl (for, refl) }, refl, refl);
  added = (puts 0).files;
}
kept_next inputs one rule rule_is (Known key) for old new puts = record {
  more = with_key one key ∷ [];
  keeps = inl (with_key one key, [], record { rule = rule; rule_is = rule_is; kept_so = inr (for.0, key, for.1, refl) }, refl, refl);
  added = (puts 0).files;
}
kept_next inputs one rule rule_is Small for old new puts = record {
  more = [];
  keeps = inr (record { rule = rule; rule_is = rule_is; by_bytes = for }, refl);
  added = (puts 0).files;
}
kept_next inputs one rule rule_is Gone for old new puts = record {
  more = [];
  keeps = inr (record { rule = rule; rule_is = rule_is; by_bytes = for }, refl);
  added = (puts 0).files;
}

pub keeps_more : (inputs : List InputRule) (listed more files others : List Listed) → KeepsFiles inputs listed files → KeepsFiles inputs more others → KeepsFiles inputs (listed ++ more) (files ++ others)
keeps_more inputs [] more files others first then = subst (λ (l : List Listed). KeepsFiles inputs more (l ++ others)) (sym first) then
keeps_more inputs (one ∷ listed) more files others (inl kept) then =
    inl (kept.0, kept.1 ++ others, kept.2, ap (λ (l : List Listed). l ++ others) kept.3, keeps_more inputs listed more kept.1 others kept.4 then)
keeps_more inputs (one ∷ listed) more files others (inr left) then = inr (left.0, keeps_more inputs listed more files others left.1 then)

pub keeps_next : (inputs : List InputRule) (listed : List Listed) (one : Listed) (old new : List Listed) → KeepsFiles inputs listed old → KeepsNext inputs one old new → KeepsFiles inputs (listed ++ one ∷ []) new
keeps_next inputs listed one old new first next =
    subst (λ (l : List Listed). KeepsFiles inputs (listed ++ one ∷ []) l) (sym next.added) (keeps_more inputs listed (one ∷ []) old next.more first next.keeps)

pub keeps_few : (inputs : List InputRule) (listed files : List Listed) → KeepsFiles inputs listed files → length files ≤ length listed
keeps_few inputs [] files none = omega (arith, ap (λ (l : List Listed). length l) none)
keeps_few inputs (one ∷ listed) files (inl kept) = omega (arith, ap (λ (l : List Listed). length l) kept.3, keeps_few inputs listed kept.1 kept.4)
keeps_few inputs (one ∷ listed) files (inr left) = omega (arith, keeps_few inputs listed files left.1)

-- the rule at a place is among the rules
rule_holds : (P : InputRule → Type 0) (inputs : List InputRule) (place : ℕ) (rule : InputRule) → slice_get inputs place ≡ Some rule → All P inputs → P rule
rule_holds P inputs place rule is all =
    All-contains P inputs rule all (place, slice_get_within inputs place rule is, get_or_from_slice_get inputs place rule rule is)

pub keeps_all : (inputs : List InputRule) (listed files : List Listed) → KeepsFiles inputs listed files → ReadNoFile inputs → files ≡ listed
keeps_all inputs [] files none reads = none
keeps_all inputs (one ∷ listed) files (inl kept) reads = kept.3 ∙ ap (λ (o : Listed). o ∷ kept.1) (same kept.2) ∙ ap (λ (l : List Listed). one ∷ l) (keeps_all inputs listed kept.1 kept.4 reads)
  where
    same_by : (rule : InputRule) → ¬ (IsFingerprint rule.file_identity) → (other : Listed) → IsKept rule one other → other ≡ one
    same_by rule none other (inl so) = so.1
    same_by rule none other (inr so) = absurd (none so.0)

    same : IsKeptOf inputs one kept.0 → kept.0 ≡ one
    same of = same_by of.rule (rule_holds (λ (input : InputRule). ¬ (IsFingerprint input.file_identity)) inputs one.input of.rule of.rule_is reads) kept.0 of.kept_so
keeps_all inputs (one ∷ listed) files (inr left) reads =
    absurd (rule_holds (λ (input : InputRule). ¬ (IsFingerprint input.file_identity)) inputs one.input left.0.rule left.0.rule_is reads left.0.by_bytes)

-- what holds of a listed file holds of it with its key
keeps_each : (inputs : List InputRule) (P Q : Listed → Type 0) → ((one kept : Listed) → IsKeptOf inputs one kept → P one → Q kept) → (listed files : List Listed) → KeepsFiles inputs listed files →
    AllByRecursion P listed → AllByRecursion Q files
keeps_each inputs P Q step [] files none all = subst (λ (l : List Listed). AllByRecursion Q l) (sym none) tt
keeps_each inputs P Q step (one ∷ listed) files (inl kept) all =
    subst (λ (l : List Listed). AllByRecursion Q l) (sym kept.3) (step one kept.0 kept.2 all.0, keeps_each inputs P Q step listed kept.1 kept.4 all.1)
keeps_each inputs P Q step (one ∷ listed) files (inr left) all = keeps_each inputs P Q step listed files left.1 all.1

keeps_where : (inputs : List InputRule) (P Q : Listed → Type 0) → ((one kept : Listed) → IsKeptOf inputs one kept → P one → Q kept) → (listed files : List Listed) → KeepsFiles inputs listed files →
    All P listed → All Q files
keeps_where inputs P Q step listed files keeps all =
    All-from_recursion Q files (keeps_each inputs P Q step listed files keeps (recursion_from_All P listed all))

-- a file that is kept has the input of the listed one
input_kept : (inputs : List InputRule) (one kept : Listed) → IsKeptOf inputs one kept → kept.input ≡ one.input
input_kept inputs one kept of = by_rule of.kept_so
  where
    by_rule : IsKept of.rule one kept → kept.input ≡ one.input
    by_rule (inl so) = ap (λ (o : Listed). o.input) so.1
    by_rule (inr so) = ap (λ (o : Listed). o.input) so.3

pub keeps_inputs : (inputs : List InputRule) (listed files : List Listed) → KeepsFiles inputs listed files → All (λ one. one.input < length inputs) listed → All (λ one. one.input < length inputs) files
keeps_inputs inputs listed files keeps of =
    keeps_where inputs (λ one. one.input < length inputs) (λ one. one.input < length inputs) (λ one kept is within. subst (λ (n : ℕ). n < length inputs) (sym (input_kept inputs one kept is)) within) listed files keeps of

told_key : (identity : IdentityRule) (key : Option (List ℕ)) → ¬ (IsFingerprint identity) → KeyIsTold identity key → IsSome key
told_key (Fingerprint offset count) key none told = absurd (none tt)
told_key Native key none told = told
told_key Path key none told = told

pub keeps_keyed : (inputs : List InputRule) (listed files : List Listed) → KeepsFiles inputs listed files → All (IsKeyed inputs) listed → All (λ one. IsSome one.key) files
keeps_keyed inputs listed files keeps keyed = keeps_where inputs (IsKeyed inputs) (λ one. IsSome one.key) step listed files keeps keyed
  where
    by_rule : (rule : InputRule) (one kept : Listed) → IsKept rule one kept → KeyIsTold rule.file_identity one.key → IsSome kept.key
    by_rule rule one kept (inl so) told = subst (λ (o : Listed). IsSome o.key) (sym so.1) (told_key rule.file_identity one.key so.0 told)
    by_rule rule one kept (inr so) told = subst (λ (o : Listed). IsSome o.key) (sym so.3) refl

    step : (one kept : Listed) → IsKeptOf inputs one kept → IsKeyed inputs one → IsSome kept.key
    step one kept of is = by_rule of.rule one kept of.kept_so (is of.rule of.rule_is)

-- a key of a fingerprint is a text of 64 digits after the id
short_fingerprint : (id bytes : List ℕ) → length id ≤ 64 → IsKey (fingerprint_key id bytes)
unfolding fingerprint_key
short_fingerprint id bytes short = simp length-append (omega (arith, short, length-encode_with lower_digits (sha256 bytes), length-sha256 bytes))

short_by : (id : List ℕ) (identity : IdentityRule) (path key : List ℕ) → IsFingerprint identity → IsKeyBy id identity path None key → length id ≤ 64 → IsKey key
short_by id (Fingerprint offset count) path key by of short = subst (λ (k : List ℕ). IsKey k) (sym of.key_is) (short_fingerprint id of.bytes short)
short_by id Native path key by of short = absurd by
short_by id Path path key by of short = absurd by

pub keeps_in_range : (inputs : List InputRule) (listed files : List Listed) → KeepsFiles inputs listed files → HaveShortIds inputs → All IsListedInRange listed → All IsListedInRange files
keeps_in_range inputs listed files keeps short in_range = keeps_where inputs IsListedInRange IsListedInRange step listed files keeps in_range
  where
    by_rule : (rule : InputRule) → length rule.id ≤ 64 → (one kept : Listed) → IsKept rule one kept → IsListedInRange one → IsListedInRange kept
    by_rule rule few one kept (inl so) in_range_so = subst (λ (o : Listed). IsListedInRange o) (sym so.1) in_range_so
    by_rule rule few one kept (inr so) in_range_so =
        subst (λ (o : Listed). IsListedInRange o) (sym so.3)
        (record { key = short_by rule.id rule.file_identity one.path so.1 so.0 so.2 few; path = in_range_so.path; size = in_range_so.size })

    step : (one kept : Listed) → IsKeptOf inputs one kept → IsListedInRange one → IsListedInRange kept
    step one kept of = by_rule of.rule (rule_holds (λ (input : InputRule). length input.id ≤ 64) inputs one.input of.rule of.rule_is short) one kept of.kept_so

-- ---- what a loop over the listed files has yielded

pub all_yielded : (yielded all : List Listed) → map (λ one. one) yielded ≡ all → yielded ≡ all
all_yielded yielded all is = sym (map-id yielded) ∙ is

pub yields_next : (yielded all : List Listed) (one : Listed) → map (λ one. one) yielded ≡ take (length yielded) all → (length yielded < length all) × (one ≡ get_or all (length yielded) one) →
    all ≡ yielded ++ one ∷ drop (length yielded + 1) all
yields_next yielded all one so_far next =
    sym (take-append-drop (length yielded + 1) all)
    ∙ ap (λ (l : List Listed). l ++ drop (length yielded + 1) all)
    (take_more all (length yielded) one next.0 ∙ ap (λ (l : List Listed). l ++ get_or all (length yielded) one ∷ []) (sym so_far ∙ map-id yielded) ∙ ap (λ (o : Listed). yielded ++ o ∷ []) (sym next.1))
    ∙ append_assoc yielded (one ∷ []) (drop (length yielded + 1) all)
