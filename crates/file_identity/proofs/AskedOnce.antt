-- The reads of one asking for a fingerprint begin at its offset, and each later one stands above it, as each but a last one
-- gives bytes. So an asking among the looks of several begins where one of these began, and does not go over into the next:
-- if no earlier one gave the key, and the last one was cut or gave another, none gave it.
use Rattle.std.proofs.Common.{◌≡◌, ◌≢◌, ◌⊎◌, inl, inr, ℕ, zero, suc, ◌+◌, ◌-◌, ◌<◌, List, [], ◌∷◌, ◌++◌, Some, refl, sym, ap, subst, ◌∙◌, arith}
use Rattle.std.proofs.lemmas.List.{append-nil}
use Rattle.std.specs.List.{AllByRecursion}
use Rattle.event_tree.specs.declared.input_rule.IdentityRule.{IdentityRule}
use Rattle.event_tree.specs.declared.input_rule.IdentityRule.TheVariants.{Fingerprint, Native, Path}
use Rattle.event_tree.specs.declared.input_rule.InputRule.{InputRule}
use Rattle.outside.specs.declared.history.Look.{Look}
use Rattle.outside.specs.declared.history.Question.{Question}
use Rattle.outside.specs.declared.history.Question.TheVariants.{Length, ReadAt}
use Rattle.outside.specs.declared.history.Sight.{Sight}
use Rattle.outside.specs.Files.{File}
use Rattle.file_identity.specs.Answers.{IsAskable, IsFingerprint}
use Rattle.file_identity.specs.AskedAgain.{GivesKey, SomeAskingGives}
use Rattle.file_identity.specs.Asking.{AreCutReads, ArePartReads, AreReads, IsAsking, IsCutAsking, IsPartOfAsking, ReadsOn, given_key}
use Rattle.file_identity.specs.Key.{WantsBytes, named_key}
use Rattle.file_identity.proofs.Answered.{part_of_all}

-- ---- a cut asking is a part of one

part_on : (looks : List Look) (place wanted : ℕ) → ((next left : ℕ) → AreCutReads looks next left → ArePartReads looks next left) → (question : Question) →
    ReadsOn place wanted (λ next left. AreCutReads looks next left) ⊥ question → ReadsOn place wanted (λ next left. ArePartReads looks next left) (looks ≡ []) question
part_on looks place wanted later Length reads = reads
part_on looks place wanted later (ReadAt at zero) reads = absurd reads.1
part_on looks place wanted later (ReadAt at (suc more)) reads = (reads.0, reads.1, later (place + suc more) (wanted - suc more) reads.2)

part_of_cut : (looks : List Look) (place wanted : ℕ) → AreCutReads looks place wanted → ArePartReads looks place wanted
part_of_cut [] place wanted reads = tt
part_of_cut (look ∷ looks) place wanted reads = (reads.0, part_on looks place wanted (λ next left later. part_of_cut looks next left later) look.question reads.1)

pub cut_is_part : (rule : IdentityRule) (looks : List Look) → IsCutAsking rule looks → IsPartOfAsking rule looks
cut_is_part (Fingerprint offset count) looks cut = part_of_cut looks offset count cut
cut_is_part Native looks cut = absurd cut
cut_is_part Path looks cut = absurd cut

pub whole_is_part : (rule : IdentityRule) (looks : List Look) → IsAsking rule looks → IsPartOfAsking rule looks
whole_is_part (Fingerprint offset count) looks asked = part_of_all looks offset count asked
whole_is_part Native looks asked = asked
whole_is_part Path looks asked = asked

pub nothing_is_part : (rule : IdentityRule) → IsPartOfAsking rule []
nothing_is_part (Fingerprint offset count) = tt
nothing_is_part Native = refl
nothing_is_part Path = refl

pub askable_wants : (rule : IdentityRule) → IsAskable rule → WantsBytes rule
askable_wants (Fingerprint offset count) askable = askable.0
askable_wants Native askable = tt
askable_wants Path askable = tt

-- a fault cuts the asking for a fingerprint alone, and there some byte is wanted
pub cut_is_read : (rule : IdentityRule) (looks : List Look) → IsCutAsking rule looks → IsFingerprint rule × WantsBytes rule
cut_is_read (Fingerprint offset count) [] cut = (tt, cut)
cut_is_read (Fingerprint offset count) (look ∷ looks) cut = (tt, cut.0)
cut_is_read Native looks cut = absurd cut
cut_is_read Path looks cut = absurd cut

-- ---- where the reads of an asking are

one_place : (place other wanted left : ℕ) (Later More : ℕ → ℕ → Type 0) (NoLater NoMore : Type 0) (question : Question) →
    ReadsOn place wanted Later NoLater question → ReadsOn other left More NoMore question → place ≡ other
one_place place other wanted left Later More NoLater NoMore Length reads also = absurd reads
one_place place other wanted left Later More NoLater NoMore (ReadAt at zero) reads also = sym reads.0 ∙ also.0
one_place place other wanted left Later More NoLater NoMore (ReadAt at (suc more)) reads also = sym reads.0 ∙ also.0

-- a read stands above the place
abbrev IsAbove : ℕ → Question → Type 0
IsAbove place Length = Unit {0}
IsAbove place (ReadAt at number) = place < at

abbrev AreAbove : ℕ → List Look → Type 0
AreAbove place looks = AllByRecursion (λ look. IsAbove place look.question) looks

not_above : (place wanted : ℕ) (Later : ℕ → ℕ → Type 0) (NoLater : Type 0) (question : Question) → ReadsOn place wanted Later NoLater question → IsAbove place question → ⊥
not_above place wanted Later NoLater Length reads above = reads
not_above place wanted Later NoLater (ReadAt at zero) reads above = let same = reads.0 in omega (arith, same, above)
not_above place wanted Later NoLater (ReadAt at (suc more)) reads above = let same = reads.0 in omega (arith, same, above)

all_above : (least : ℕ) (looks : List Look) (place wanted : ℕ) → least < place → ArePartReads looks place wanted → AreAbove least looks
all_above least [] place wanted behind reads = tt
all_above least (look ∷ looks) place wanted behind reads = by look.question look.sight reads.1 (all_above least looks)
  where
    by : (question : Question) (sight : Sight) → ReadsOn place wanted (λ next left. ArePartReads looks next left) (looks ≡ []) question →
        ((next left : ℕ) → least < next → ArePartReads looks next left → AreAbove least looks) → AreAbove least (record { question = question; sight = sight } ∷ looks)
    by Length sight on later = absurd on
    by (ReadAt at zero) sight on later = (subst (λ (n : ℕ). least < n) (sym on.0) behind, subst (λ (l : List Look). AreAbove least l) (sym on.1) tt)
    by (ReadAt at (suc more)) sight on later =
        (subst (λ (n : ℕ). least < n) (sym on.0) behind, later (place + suc more) (wanted - suc more) (omega (arith, behind)) on.2)

-- after the first of them
later_above : (look : Look) (looks : List Look) (place wanted : ℕ) → ArePartReads (look ∷ looks) place wanted → AreAbove place looks
later_above look looks place wanted reads = by look.question reads.1
  where
    by : (question : Question) → ReadsOn place wanted (λ next left. ArePartReads looks next left) (looks ≡ []) question → AreAbove place looks
    by Length on = absurd on
    by (ReadAt at zero) on = subst (λ (l : List Look). AreAbove place l) (sym on.1) tt
    by (ReadAt at (suc more)) on = all_above place looks (place + suc more) (wanted - suc more) (omega arith) on.2

last_above : (place : ℕ) (front back : List Look) → AreAbove place (front ++ back) → AreAbove place back
last_above place [] back above = above
last_above place (look ∷ front) back above = last_above place front back above.1

-- ---- where an asking is among looks

-- the looks go on after the asking
record Within (asked looks : List Look) : Type 0 where
  rest : List Look
  are : looks ≡ asked ++ rest

-- and it follows these
record Earlier (before asked looks : List Look) : Type 0 where
  rest : List Look
  are : looks ≡ before ++ (asked ++ rest)

module _ (offset count : ℕ) (more behind : List Look) (reading : ArePartReads more offset count) where
  one_more : (look one : Look) (looks asked : List Look) (place wanted : ℕ) →
      ((next left : ℕ) → place < next → AreReads asked next left → looks ++ more ≡ asked ++ behind → Within asked looks) →
      ReadsOn place wanted (λ next left. AreReads asked next left) (asked ≡ []) one.question → (look ∷ looks) ++ more ≡ (one ∷ asked) ++ behind → Within (one ∷ asked) (look ∷ looks)
  one_more look one looks asked place wanted later reads same = cons (by one.question reads)
    where
      first : look ≡ one
      first = cc

      others : looks ++ more ≡ asked ++ behind
      others = cc

      by : (question : Question) → ReadsOn place wanted (λ next left. AreReads asked next left) (asked ≡ []) question → Within asked looks
      by Length on = absurd on
      by (ReadAt at zero) on = record { rest = looks; are = subst (λ (l : List Look). looks ≡ l ++ looks) (sym on.1) refl }
      by (ReadAt at (suc number)) on = later (place + suc number) (wanted - suc number) (omega arith) on.2 others

      cons : Within asked looks → Within (one ∷ asked) (look ∷ looks)
      cons within = record { rest = within.rest; are = ap (λ (l : Look). l ∷ looks) first ∙ ap (λ (l : List Look). one ∷ l) within.are }

  -- after the first of its reads it does not go over into the next reading, which begins at the offset
  inside : (looks asked : List Look) (place wanted : ℕ) → offset < place → AreReads asked place wanted → looks ++ more ≡ asked ++ behind → Within asked looks
  inside [] [] place wanted above reads same = record { rest = []; are = refl }
  inside [] (one ∷ asked) place wanted above reads same =
      let here : ArePartReads (one ∷ (asked ++ behind)) offset count = subst (λ (l : List Look). ArePartReads l offset count) same reading in
      let at = one_place offset place count wanted (λ next left. ArePartReads (asked ++ behind) next left) (λ next left. AreReads asked next left)
      (asked ++ behind ≡ []) (asked ≡ []) one.question here.1 reads.1 in
      absurd (omega (arith, at, above))
  inside (look ∷ looks) [] place wanted above reads same = record { rest = look ∷ looks; are = refl }
  inside (look ∷ looks) (one ∷ asked) place wanted above reads same =
      one_more look one looks asked place wanted (λ next left further. inside looks asked next left (omega (arith, above, further))) reads.1 same

  begins : (look : Look) (looks asked : List Look) → AreReads asked offset count → (look ∷ looks) ++ more ≡ asked ++ behind → Within asked (look ∷ looks)
  begins look looks [] reads same = record { rest = look ∷ looks; are = refl }
  begins look looks (one ∷ asked) reads same = one_more look one looks asked offset count (λ next left further. inside looks asked next left further) reads.1 same

  not_within : 0 < count → (first : Look) (before asked : List Look) → AreReads asked offset count → more ≡ first ∷ (before ++ (asked ++ behind)) → ⊥
  not_within some first before [] reads same = let none : count ≡ 0 = reads in omega (arith, some, none)
  not_within some first before (one ∷ asked) reads same =
      let here : ArePartReads (first ∷ (before ++ ((one ∷ asked) ++ behind))) offset count = subst (λ (l : List Look). ArePartReads l offset count) same reading in
      let above = last_above offset before ((one ∷ asked) ++ behind) (later_above first (before ++ ((one ∷ asked) ++ behind)) offset count here) in
      not_above offset count (λ next left. AreReads asked next left) (asked ≡ []) one.question reads.1 above.0

  -- an asking is among the earlier looks, or begins with the reading
  placed : 0 < count → (asked : List Look) → AreReads asked offset count → (before looks : List Look) → looks ++ more ≡ before ++ (asked ++ behind) →
      Earlier before asked looks ⊎ (more ≡ asked ++ behind)
  placed some asked reads [] [] same = inr same
  placed some asked reads [] (look ∷ looks) same = let within = begins look looks asked reads same in inl (record { rest = within.rest; are = within.are })
  placed some asked reads (first ∷ before) [] same = absurd (not_within some first before asked reads same)
  placed some asked reads (first ∷ before) (look ∷ looks) same = cons (placed some asked reads before looks others)
    where
      others : looks ++ more ≡ before ++ (asked ++ behind)
      others = cc

      head : look ≡ first
      head = cc

      cons : Earlier before asked looks ⊎ (more ≡ asked ++ behind) → Earlier (first ∷ before) asked (look ∷ looks) ⊎ (more ≡ asked ++ behind)
      cons (inl earlier) = inl (record { rest = earlier.rest; are = ap (λ (l : Look). l ∷ looks) head ∙ ap (λ (l : List Look). first ∷ l) earlier.are })
      cons (inr is) = inr is

-- ---- which askings the last reading can hold

cut_holds_none : (asked behind : List Look) (place wanted : ℕ) → AreReads asked place wanted → AreCutReads (asked ++ behind) place wanted → ⊥
cut_holds_none [] [] place wanted reads cut = let none : wanted ≡ 0 = reads in let some : 0 < wanted = cut in omega (arith, none, some)
cut_holds_none [] (look ∷ behind) place wanted reads cut = let none : wanted ≡ 0 = reads in let some = cut.0 in omega (arith, none, some)
cut_holds_none (one ∷ asked) behind place wanted reads cut = by one.question reads.1 cut.1 (cut_holds_none asked behind)
  where
    by : (question : Question) → ReadsOn place wanted (λ next left. AreReads asked next left) (asked ≡ []) question →
        ReadsOn place wanted (λ next left. AreCutReads (asked ++ behind) next left) ⊥ question →
        ((next left : ℕ) → AreReads asked next left → AreCutReads (asked ++ behind) next left → ⊥) → ⊥
    by Length on also later = on
    by (ReadAt at zero) on also later = also.1
    by (ReadAt at (suc more)) on also later = later (place + suc more) (wanted - suc more) on.2 also.2

-- a whole one holds itself alone
whole_holds_itself : (asked behind : List Look) (place wanted : ℕ) → AreReads asked place wanted → AreReads (asked ++ behind) place wanted → behind ≡ []
whole_holds_itself [] [] place wanted reads whole = refl
whole_holds_itself [] (look ∷ behind) place wanted reads whole = let none : wanted ≡ 0 = reads in let some = whole.0 in absurd (omega (arith, none, some))
whole_holds_itself (one ∷ asked) behind place wanted reads whole = by one.question reads.1 whole.1 (whole_holds_itself asked behind)
  where
    by : (question : Question) → ReadsOn place wanted (λ next left. AreReads asked next left) (asked ≡ []) question →
        ReadsOn place wanted (λ next left. AreReads (asked ++ behind) next left) (asked ++ behind ≡ []) question →
        ((next left : ℕ) → AreReads asked next left → AreReads (asked ++ behind) next left → behind ≡ []) → behind ≡ []
    by Length on also later = absurd on
    by (ReadAt at zero) on also later = subst (λ (l : List Look). l ++ behind ≡ []) on.1 also.1
    by (ReadAt at (suc more)) on also later = later (place + suc more) (wanted - suc more) on.2 also.2

-- ---- whether some asking gave the key

-- the reading's first looks are a whole asking that gave the key
record GivesFirst (rule : InputRule) (key path : List ℕ) (file : File) (more : List Look) : Type 0 where
  asked : List Look
  behind : List Look
  are : more ≡ asked ++ behind
  gives : GivesKey rule key path file asked

module _ (rule : InputRule) (key path : List ℕ) (file : File) where
  earlier_or_first : (looks more : List Look) → IsFingerprint rule.file_identity → WantsBytes rule.file_identity → IsPartOfAsking rule.file_identity more →
      SomeAskingGives rule key path file (looks ++ more) → SomeAskingGives rule key path file looks ⊎ GivesFirst rule key path file more
  earlier_or_first looks more is wants part still = which (by rule.file_identity is wants part still.gives.asking)
    where
      by : (identity : IdentityRule) → IsFingerprint identity → WantsBytes identity → IsPartOfAsking identity more → IsAsking identity still.asked →
          Earlier still.before still.asked looks ⊎ (more ≡ still.asked ++ still.behind)
      by (Fingerprint offset count) is wants part asking = placed offset count more still.behind part wants still.asked asking still.before looks still.looks_are
      by Native is wants part asking = absurd is
      by Path is wants part asking = absurd is

      which : Earlier still.before still.asked looks ⊎ (more ≡ still.asked ++ still.behind) → SomeAskingGives rule key path file looks ⊎ GivesFirst rule key path file more
      which (inl earlier) = inl (record {
        before = still.before;
        asked = still.asked;
        behind = earlier.rest;
        looks_are = earlier.are;
        only_reads = still.only_reads;
        gives = still.gives;
      })
      which (inr first) = inr (record { asked = still.asked; behind = still.behind; are = first; gives = still.gives })

  -- before any look of an asking none gave the key
  pub none_asked : IsFingerprint rule.file_identity → WantsBytes rule.file_identity → ¬ (SomeAskingGives rule key path file [])
  none_asked is wants still = by rule.file_identity is wants still.before still.asked still.gives.asking still.looks_are
    where
      by : (identity : IdentityRule) → IsFingerprint identity → WantsBytes identity → (before asked : List Look) → IsAsking identity asked → [] ≡ before ++ (asked ++ still.behind) → ⊥
      by (Fingerprint offset count) is wants [] [] asking same = let none : count ≡ 0 = asking in let some : 0 < count = wants in omega (arith, none, some)
      by (Fingerprint offset count) is wants [] (look ∷ asked) asking same = cc
      by (Fingerprint offset count) is wants (look ∷ before) asked asking same = cc
      by Native is wants before asked asking same = is
      by Path is wants before asked asking same = is

  -- an asking that a fault cut did not give it
  pub none_by_cut : (looks more : List Look) → ¬ (SomeAskingGives rule key path file looks) → IsCutAsking rule.file_identity more → ¬ (SomeAskingGives rule key path file (looks ++ more))
  none_by_cut looks more none cut still =
      let read = cut_is_read rule.file_identity more cut in
      which (earlier_or_first looks more read.0 read.1 (cut_is_part rule.file_identity more cut) still)
    where
      by : (identity : IdentityRule) (asked behind : List Look) → IsAsking identity asked → IsCutAsking identity (asked ++ behind) → ⊥
      by (Fingerprint offset count) asked behind asking cut = cut_holds_none asked behind offset count asking cut
      by Native asked behind asking cut = cut
      by Path asked behind asking cut = cut

      which : SomeAskingGives rule key path file looks ⊎ GivesFirst rule key path file more → ⊥
      which (inl earlier) = none earlier
      which (inr first) =
          by rule.file_identity first.asked first.behind first.gives.asking (subst (λ (l : List Look). IsCutAsking rule.file_identity l) first.are cut)

  -- ---- where nothing is read the key is known without a look

  gives_named : (identity : IdentityRule) → ¬ (IsFingerprint identity) → (looks : List Look) → given_key rule.id identity path file looks ≡ named_key rule.id identity path file.numbers
  gives_named (Fingerprint offset count) read looks = absurd (read tt)
  gives_named Native read looks = refl
  gives_named Path read looks = refl

  given_by_name : (looks : List Look) → ¬ (IsFingerprint rule.file_identity) → SomeAskingGives rule key path file looks →
      named_key rule.id rule.file_identity path file.numbers ≡ Some key
  given_by_name looks unread some = sym (gives_named rule.file_identity unread some.asked) ∙ some.gives.gave

  -- ---- an asking that gave another key, or none

  other_read : (looks more : List Look) → IsFingerprint rule.file_identity → WantsBytes rule.file_identity → ¬ (SomeAskingGives rule key path file looks) →
      IsAsking rule.file_identity more → given_key rule.id rule.file_identity path file more ≢ Some key → ¬ (SomeAskingGives rule key path file (looks ++ more))
  other_read looks more is wants none whole other still =
      which (earlier_or_first looks more is wants (whole_is_part rule.file_identity more whole) still)
    where
      alone : (identity : IdentityRule) → IsFingerprint identity → (asked behind : List Look) → IsAsking identity asked → IsAsking identity (asked ++ behind) → behind ≡ []
      alone (Fingerprint offset count) is asked behind asking whole = whole_holds_itself asked behind offset count asking whole
      alone Native is asked behind asking whole = absurd is
      alone Path is asked behind asking whole = absurd is

      which : SomeAskingGives rule key path file looks ⊎ GivesFirst rule key path file more → ⊥
      which (inl earlier) = none earlier
      which (inr first) =
          let nothing = alone rule.file_identity is first.asked first.behind first.gives.asking (subst (λ (l : List Look). IsAsking rule.file_identity l) first.are whole) in
          let same : more ≡ first.asked = first.are ∙ ap (λ (l : List Look). first.asked ++ l) nothing ∙ append-nil first.asked in
          other (ap (λ (l : List Look). given_key rule.id rule.file_identity path file l) same ∙ first.gives.gave)

  pub none_by_other : (looks more : List Look) → WantsBytes rule.file_identity → (IsFingerprint rule.file_identity → ¬ (SomeAskingGives rule key path file looks)) →
      IsAsking rule.file_identity more → given_key rule.id rule.file_identity path file more ≢ Some key → ¬ (SomeAskingGives rule key path file (looks ++ more))
  none_by_other looks more wants none whole other = by (reads rule.file_identity)
    where
      reads : (identity : IdentityRule) → IsFingerprint identity ⊎ (¬ (IsFingerprint identity))
      reads (Fingerprint offset count) = inl tt
      reads Native = inr (λ is. is)
      reads Path = inr (λ is. is)

      by : IsFingerprint rule.file_identity ⊎ (¬ (IsFingerprint rule.file_identity)) → ¬ (SomeAskingGives rule key path file (looks ++ more))
      by (inl is) = other_read looks more is wants (none is) whole other
      by (inr unread) = λ still. other (gives_named rule.file_identity unread more ∙ given_by_name (looks ++ more) unread still)
