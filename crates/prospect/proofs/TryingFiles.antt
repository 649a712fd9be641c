-- Asking past what fails, file by file.
use Rattle.std.proofs.Common.{◌≡◌, ◌⊎◌, inl, inr, List, [], ◌∷◌, ◌++◌, length, map, Option, Some, None, Result, Ok, Err, IfSome, refl, sym, ap, subst, ◌∙◌, append-nil, append_assoc}
use Rattle.std.specs.Prelude.{flat_map, slice_get}
use Rattle.std.proofs.lemmas.List.{map-append}
use Rattle.std.proofs.lemmas.List.Concat.{flat_map-append}
use Rattle.event_tree.specs.declared.input_rule.InputRule.{InputRule}
use Rattle.file_identity.specs.Answers.{IsFingerprint}
use Rattle.outside.specs.declared.failed.FolderError.{FolderError}
use Rattle.outside.specs.declared.failed.FolderError.TheVariants.{Failed, NoMemory}
use Rattle.outside.specs.Folders.{Event, FolderHistory}
use Rattle.prospect.specs.declared.asking.Asked.{Asked}
use Rattle.prospect.specs.declared.asking.Keyed.{Keyed}
use Rattle.prospect.specs.declared.askings.Askings.{Askings}
use Rattle.prospect.specs.declared.listed.Listed.{Listed}
use Rattle.prospect.specs.AskedFiles.{AskedFile, AsksFiles, AsksFrom, CutsOff, IsCutOff, gone_by, keyed_by, small_by}
use Rattle.prospect.specs.Asking.{Answers, Fails, KeepsNext, LeavesOff, PutsAs, TellsAnswer, answer_at}
use Rattle.prospect.specs.PastFaults.{Answered, Faulted, FaultsOne, TriesFiles, TriesFrom, TriesOne, TriesSomeFiles, Trial, answered_by, answered_in, faulted_by, file_tried}
use Rattle.prospect.specs.Scan.{with_events}
use Rattle.prospect.specs.Trying.{TriesNext}

-- ---- the next of the files

no_more : (told : FolderHistory) → told ≡ with_events told []
no_more told = ap (λ (l : List Event). record told { events = l }) (sym (append-nil told.events))

-- whatever the others are, if asking it was cut off, or what it came to could not be put
abbrev EndsAt : List InputRule → FolderHistory → Listed → Option FolderHistory → Type 0
EndsAt inputs told one after = (others : List Listed) → TriesSomeFiles inputs told (one ∷ others) after

module _ (inputs : List InputRule) (one : Listed) (rule : InputRule) (rule_is : slice_get inputs one.input ≡ Some rule) where
  cut_off : (told : FolderHistory) (after : Option FolderHistory) → LeavesOff rule one told after → EndsAt inputs told one after
  cut_off told after leaves others = record {
    trials = [];
    others = one ∷ others;
    are = refl;
    mid = told;
    tries = refl;
    last = leaves.last;
    ends = ends leaves.ends;
    after_is = leaves.after_is;
  }
    where
      ends : (leaves.last ≡ []) ⊎ CutsOff one.path told leaves.last → IsCutOff inputs (one ∷ others) told leaves.last
      ends (inl none) = inl none
      ends (inr cut) = inr (record { one = one; behind = others; others_are = refl; rule = rule; rule_is = rule_is; by_bytes = leaves.by_bytes; cut = cut })

  then_ends : (told last : FolderHistory) (after : Option FolderHistory) (trial : Trial) → file_tried trial ≡ one → TriesOne inputs trial told last → after ≡ Some last → EndsAt inputs told one after
  then_ends told last after trial is tries after_is others = record {
    trials = trial ∷ [];
    others = others;
    are = ap (λ (o : Listed). o ∷ others) (sym is);
    mid = last;
    tries = (last, tries, refl);
    last = [];
    ends = inl refl;
    after_is = after_is ∙ ap (λ (h : FolderHistory). Some h) (no_more last);
  }

  faults_one : (told : FolderHistory) (after : Option FolderHistory) (fails : Fails rule one told after) → FaultsOne inputs one told (with_events told fails.last)
  faults_one told after fails = record { rule = rule; rule_is = rule_is; by_bytes = fails.by_bytes; last = fails.last; fails = fails.fails; kept = refl }

  -- memory was out in the asking
  pub not_tried : (told after : Option FolderHistory) (asked : Result Asked FolderError) → asked ≡ Err NoMemory → IfSome told (λ history. TellsAnswer rule one history asked after) →
      IfSome told (λ history. EndsAt inputs history one after)
  not_tried None after asked is tells = tt
  not_tried (Some told) after asked is tells = cut_off told after (subst (λ (r : Result Asked FolderError). TellsAnswer rule one told r after) is tells)

  -- or after one that failed
  pub not_kept : (told after : Option FolderHistory) (asked : Result Asked FolderError) → asked ≡ Err Failed → IfSome told (λ history. TellsAnswer rule one history asked after) →
      IfSome told (λ history. EndsAt inputs history one after)
  not_kept None after asked is tells = tt
  not_kept (Some told) after asked is tells =
      let fails : Fails rule one told after = subst (λ (r : Result Asked FolderError). TellsAnswer rule one told r after) is tells in
      then_ends told (with_events told fails.last) after (Faulted one) refl (faults_one told after fails) fails.after_is

  -- or after one that answered
  pub not_put : (told after : Option FolderHistory) (result : Result Asked FolderError) (asked : Asked) → result ≡ Ok asked → IfSome told (λ history. TellsAnswer rule one history result after) →
      IfSome told (λ history. EndsAt inputs history one after)
  not_put None after result asked is tells = tt
  not_put (Some told) after result asked is tells =
      let answers : Answers rule one told asked after = subst (λ (r : Result Asked FolderError). TellsAnswer rule one told r after) is tells in
      then_ends told answers.last after (Answered (record { listed = one; answer = answer_at (length told.events) asked })) refl
      (record { rule = rule; rule_is = rule_is; answered = answers.answered }) answers.after_is

  -- it answered
  pub answered_next : (told after : Option FolderHistory) (result : Result Asked FolderError) (asked : Asked) → result ≡ Ok asked → IfSome told (λ history. TellsAnswer rule one history result after) →
      (old new : Askings) → PutsAs one asked old.keyed new.keyed → new.failed.items ≡ old.failed.items → IfSome told (λ history. TriesNext inputs history one old new after)
  answered_next None after result asked is tells old new puts same = tt
  answered_next (Some told) after result asked is tells old new puts same =
      let answers : Answers rule one told asked after = subst (λ (r : Result Asked FolderError). TellsAnswer rule one told r after) is tells in
      let of : AskedFile = record { listed = one; answer = answer_at (length told.events) asked } in
      let put = puts (length told.events) in
      record {
        trial = Answered of;
        listed_is = refl;
        last = answers.last;
        tries = record { rule = rule; rule_is = rule_is; answered = answers.answered };
        after_is = answers.after_is;
        files = put.files ∙ ap (λ (l : List Listed). old.keyed.files.items ++ l) (sym (append-nil (keyed_by of)));
        gone = put.gone ∙ ap (λ (l : List Listed). old.keyed.gone.items ++ l) (sym (append-nil (gone_by of)));
        small = put.small ∙ ap (λ (l : List Listed). old.keyed.small.items ++ l) (sym (append-nil (small_by of)));
        failed = same ∙ sym (append-nil old.failed.items);
      }

  -- it failed
  pub faulted_next : (told after : Option FolderHistory) (result : Result Asked FolderError) → result ≡ Err Failed → IfSome told (λ history. TellsAnswer rule one history result after) →
      (old new : Askings) → new.keyed ≡ old.keyed → new.failed.items ≡ old.failed.items ++ one ∷ [] → IfSome told (λ history. TriesNext inputs history one old new after)
  faulted_next None after result is tells old new same failed = tt
  faulted_next (Some told) after result is tells old new same failed =
      let fails : Fails rule one told after = subst (λ (r : Result Asked FolderError). TellsAnswer rule one told r after) is tells in
      record {
        trial = Faulted one;
        listed_is = refl;
        last = with_events told fails.last;
        tries = faults_one told after fails;
        after_is = fails.after_is;
        files = ap (λ (k : Keyed). k.files.items) same ∙ sym (append-nil old.keyed.files.items);
        gone = ap (λ (k : Keyed). k.gone.items) same ∙ sym (append-nil old.keyed.gone.items);
        small = ap (λ (k : Keyed). k.small.items) same ∙ sym (append-nil old.keyed.small.items);
        failed = failed;
      }

  -- then it is left out
  pub left_out : IsFingerprint rule.file_identity → (old new : Keyed) → new ≡ old → KeepsNext inputs one old.files.items new.files.items
  left_out by_bytes old new same = record {
    more = [];
    keeps = inr (record { rule = rule; rule_is = rule_is; by_bytes = by_bytes }, refl);
    added = ap (λ (k : Keyed). k.files.items) same ∙ sym (append-nil old.files.items);
  }

-- ---- one after another

then_tries : (inputs : List InputRule) (trials more : List Trial) (before mid after : FolderHistory) → TriesFrom inputs trials before mid → TriesFrom inputs more mid after → TriesFrom inputs (trials ++ more) before after
then_tries inputs [] more before mid after first then = subst (λ (h : FolderHistory). TriesFrom inputs more h after) first then
then_tries inputs (one ∷ trials) more before mid after first then = (first.0, first.1, then_tries inputs trials more first.0 mid after first.2 then)

-- put after what is put so far
put_behind : (f : AskedFile → List Listed) (trials : List Trial) (trial : Trial) (old new : List Listed) → old ≡ flat_map f (answered_in trials) → new ≡ old ++ flat_map f (answered_by trial) →
    new ≡ flat_map f (answered_in (trials ++ trial ∷ []))
put_behind f trials trial old new before added =
    added
    ∙ ap (λ (l : List Listed). l ++ flat_map f (answered_by trial)) before
    ∙ sym (flat_map-append f (answered_in trials) (answered_by trial))
    ∙ ap (λ (l : List AskedFile). flat_map f l) (ap (λ (l : List AskedFile). answered_in trials ++ l) (sym (append-nil (answered_by trial))) ∙ sym (flat_map-append answered_by trials (trial ∷ [])))

failed_behind : (trials : List Trial) (trial : Trial) (old new : List Listed) → old ≡ flat_map faulted_by trials → new ≡ old ++ faulted_by trial → new ≡ flat_map faulted_by (trials ++ trial ∷ [])
failed_behind trials trial old new before added =
    added
    ∙ ap (λ (l : List Listed). l ++ faulted_by trial) before
    ∙ ap (λ (l : List Listed). flat_map faulted_by trials ++ l) (sym (append-nil (faulted_by trial)))
    ∙ sym (flat_map-append faulted_by trials (trial ∷ []))

pub tries_none : (inputs : List InputRule) (told : Option FolderHistory) (askings : Askings) → askings.keyed.files.items ≡ [] → askings.keyed.gone.items ≡ [] → askings.keyed.small.items ≡ [] → askings.failed.items ≡ [] →
    IfSome told (λ history. TriesFiles inputs history [] askings told)
tries_none inputs None askings files gone small failed = tt
tries_none inputs (Some told) askings files gone small failed =
    record { trials = []; are = refl; last = told; tries = refl; after_is = refl; files = files; gone = gone; small = small; failed = failed }

pub tries_more : (inputs : List InputRule) (listed : List Listed) (one : Listed) (told between after : Option FolderHistory) (old new : Askings) →
    IfSome told (λ history. TriesFiles inputs history listed old between) → IfSome between (λ history. TriesNext inputs history one old new after) →
    IfSome told (λ history. TriesFiles inputs history (listed ++ one ∷ []) new after)
tries_more inputs listed one None between after old new tries next = tt
tries_more inputs listed one (Some told) between after old new tries next =
    let N : Option FolderHistory → Type 0 = λ o. IfSome o (λ h. TriesNext inputs h one old new after) in
    let then : TriesNext inputs tries.last one old new after = subst N tries.after_is next in
    record {
      trials = tries.trials ++ then.trial ∷ [];
      are = map-append file_tried tries.trials (then.trial ∷ []) ∙ ap (λ (l : List Listed). l ++ file_tried then.trial ∷ []) tries.are ∙ ap (λ (o : Listed). listed ++ o ∷ []) then.listed_is;
      last = then.last;
      tries = then_tries inputs tries.trials (then.trial ∷ []) told tries.last then.last tries.tries (then.last, then.tries, refl);
      after_is = then.after_is;
      files = put_behind keyed_by tries.trials then.trial old.keyed.files.items new.keyed.files.items tries.files then.files;
      gone = put_behind gone_by tries.trials then.trial old.keyed.gone.items new.keyed.gone.items tries.gone then.gone;
      small = put_behind small_by tries.trials then.trial old.keyed.small.items new.keyed.small.items tries.small then.small;
      failed = failed_behind tries.trials then.trial old.failed.items new.failed.items tries.failed then.failed;
    }

pub tries_some : (inputs : List InputRule) (all listed others : List Listed) (told between after : Option FolderHistory) (old : Askings) → all ≡ listed ++ others →
    IfSome told (λ history. TriesFiles inputs history listed old between) → IfSome between (λ history. TriesSomeFiles inputs history others after) →
    IfSome told (λ history. TriesSomeFiles inputs history all after)
tries_some inputs all listed others None between after old all_is tries some = tt
tries_some inputs all listed others (Some told) between after old all_is tries some =
    let N : Option FolderHistory → Type 0 = λ o. IfSome o (λ h. TriesSomeFiles inputs h others after) in
    let then : TriesSomeFiles inputs tries.last others after = subst N tries.after_is some in
    record {
      trials = tries.trials ++ then.trials;
      others = then.others;
      are = all_is
          ∙ ap (λ (l : List Listed). l ++ others) (sym tries.are)
          ∙ ap (λ (l : List Listed). map file_tried tries.trials ++ l) then.are
          ∙ sym (append_assoc (map file_tried tries.trials) (map file_tried then.trials) then.others)
          ∙ ap (λ (l : List Listed). l ++ then.others) (sym (map-append file_tried tries.trials then.trials));
      mid = then.mid;
      tries = then_tries inputs tries.trials then.trials told tries.last then.mid tries.tries then.tries;
      last = then.last;
      ends = then.ends;
      after_is = then.after_is;
    }

pub at_others : (inputs : List InputRule) (one : Listed) (others : List Listed) (told after : Option FolderHistory) → IfSome told (λ history. (more : List Listed) → TriesSomeFiles inputs history (one ∷ more) after) →
    IfSome told (λ history. TriesSomeFiles inputs history (one ∷ others) after)
at_others inputs one others None after some = tt
at_others inputs one others (Some told) after some = some others

-- ---- where none failed

abbrev listed_in : AskedFile → Listed
listed_in asked = asked.listed

all_answered : (inputs : List InputRule) (trials : List Trial) (before after : FolderHistory) → flat_map faulted_by trials ≡ [] → TriesFrom inputs trials before after →
    AsksFrom inputs (answered_in trials) before after × (map listed_in (answered_in trials) ≡ map file_tried trials)
all_answered inputs [] before after none tries = (tries, refl)
all_answered inputs (Answered asked ∷ trials) before after none tries =
    let others = all_answered inputs trials tries.0 after none tries.2 in
    ((tries.0, tries.1, others.0), ap (λ (l : List Listed). asked.listed ∷ l) others.1)
all_answered inputs (Faulted one ∷ trials) before after none tries =
    let wrong : one ∷ flat_map faulted_by trials ≡ [] = none in cc

pub whole_asked : (inputs : List InputRule) (told after : Option FolderHistory) (listed : List Listed) (askings : Askings) → IfSome told (λ history. TriesFiles inputs history listed askings after) → askings.failed.items ≡ [] →
    IfSome told (λ history. AsksFiles inputs history listed askings.keyed after)
whole_asked inputs None after listed askings tries none = tt
whole_asked inputs (Some told) after listed askings tries none =
    let all = all_answered inputs tries.trials told tries.last (sym tries.failed ∙ none) tries.tries in
    record {
      asked = answered_in tries.trials;
      are = all.1 ∙ tries.are;
      last = tries.last;
      asks = all.0;
      after_is = tries.after_is;
      files = tries.files;
      gone = tries.gone;
      small = tries.small;
    }
