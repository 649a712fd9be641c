-- What a parse by the command gives that succeeds: the settings file and the data folder have values.
use Rattle.std.proofs.Common.{zero, suc, ◌≡◌, ◌≢◌, ◌⊎◌, ◌∙◌, ◌<◌, ◌≤◌, ap, ap₂, ℕ, Bool, true, false, List, [], ◌∷◌, length, map, is_some, Option, Some, None, refl, sym, subst, inl, inr, arith, codes, cond, Result, Ok, Err, IfOk, IfErr}
use Rattle.std.proofs.lemmas.Bool.{false≢true}
use Rattle.std.proofs.lemmas.List.{get_or-map, length-map}
use Rattle.std.proofs.lemmas.Slice.Eq.{bytes_eq-Decides}
use Rattle.std.specs.Borrow.{Bor}
use Rattle.std.specs.List.{All, list_all, slice_index_or}
use Rattle.std.specs.Prelude.{find, option_map, slice_get}
use Rattle.std.specs.Str.{bytes_eq}
use Rattle.clap.specs.Built.{IsParsedFrom, IsPlain, SameRules}
use Rattle.clap.specs.Facts.{Entry, EntryPasses, ValuesPass, args_of, groups_of, least_values, unwrap_or_range}
use Rattle.clap.specs.Kinds.{FailsBy, IsAmong, Kinds}
use Rattle.clap.specs.Matches.{first_value, found_of, matched_of}
use Rattle.clap.specs.Simple.{App, IsSimple, app_of, is_ready, is_ready_leaf}
use Rattle.clap.specs.Texts.{items_of}
use Rattle.clap.specs.Valid.{IsFreeArg}
use Rattle.clap.specs.Values.{kind_of}
use Rattle.clap.specs.Walk.{Rule, rule_of}
use Rattle.clap.specs.declared.builder.action.ArgAction.TheVariants.{Count, Set}
use Rattle.clap.specs.declared.builder.arg.Arg.{Arg}
use Rattle.clap.specs.declared.builder.command.Command.{Command}
use Rattle.clap.specs.declared.builder.range.ValueRange.{ValueRange}
use Rattle.clap.specs.declared.builder.command.Command.TheViews.{out-Command}
use Rattle.clap.specs.declared.error.Error.{Error}
use Rattle.clap.specs.declared.error.kind.ErrorKind.TheVariants.{OutOfMemory}
use Rattle.clap.specs.declared.parser.matches.ArgMatches.{ArgMatches}
use Rattle.clap.specs.declared.parser.matches.MatchedArg.{MatchedArg}
use Rattle.clap.proofs.CallerLemmas.{default_present, entry_by_id, required_has_value, same_rules_by_id}
use Rattle.clap.proofs.SimpleLemmas.{ready_simple, simple_groups}
use Rattle.clap.proofs.TakesLemmas.{each_rule, free_arg}
use Rattle.command_line.specs.Command.{beat_command, config_option, data_option}

-- ---- which arguments are taken

pub ok_taken : {T : Type 0} (kinds : Kinds) (r : Result T Error) → FailsBy kinds r → IfOk r (λ _. kinds ≡ [])
ok_taken kinds (Ok x) h = h
ok_taken kinds (Err e) h = tt

pub err_refused : {T : Type 0} (kinds : Kinds) (r : Result T Error) → FailsBy kinds r
    → IfErr r (λ e. (kind_of e ≡ OutOfMemory) ⊎ (kinds ≢ []))
err_refused kinds (Ok x) h = tt
err_refused kinds (Err e) (inl memory) = inl memory
err_refused kinds (Err e) (inr among) = inr (λ none. subst (IsAmong (kind_of e)) none among)

-- ---- the arguments of the command

abbrev pub IsBeat : Command → Type 0
IsBeat c = app_of c ≡ beat_command

abbrev pub rules : List Rule
rules = beat_command.top.rules

rules_are : (c : Command) → IsBeat c → map rule_of (args_of c) ≡ rules
rules_are c is = ap (λ (a : App). a.top.rules) is

simple : (c : Command) → IsBeat c → IsSimple c
simple c is = ready_simple c (ap (λ (a : App). is_ready a.top) is) (ap (λ (a : App). list_all is_ready_leaf a.subs) is)

free : (c : Command) → IsBeat c → All IsFreeArg (args_of c)
free c is k d lt =
    free_arg _ ((simple c is).args k d lt) (each_rule (λ (r : Rule). r.is_free) (args_of c) (ap (list_all (λ (r : Rule). r.is_free)) (rules_are c is)) k d lt)

plain : (c : Command) → IsBeat c → IsPlain c
plain c is = (
  λ k d lt. (
    (free c is k d lt).exclusive,
    (free c is k d lt).conflicts,
    (free c is k d lt).overrides,
    simple_groups c (ap (list_all (λ (r : Rule). r.is_simple)) (rules_are c is)) k d lt,
  ),
  (simple c is).groups,
)

negates : (c : Command) → IsBeat c → (out-Command c).subcommand_negates_reqs ≡ false
negates c is = ap (λ (a : App). a.top.subcommand_negates_reqs) is

count : (c : Command) → IsBeat c → length (args_of c) ≡ 4
count c is = sym (length-map (args_of c) rule_of) ∙ ap length (rules_are c is)

rule_at : (c : Command) → IsBeat c → (k : ℕ) (d : Arg) → k < length (args_of c)
    → rule_of (slice_index_or (args_of c) k d) ≡ slice_index_or rules k config_option
rule_at c is k d lt = sym (get_or-map rule_of (args_of c) k d config_option lt) ∙ ap (λ (rs : List Rule). slice_index_or rs k config_option) (rules_are c is)

id_at : (c : Command) → IsBeat c → (k : ℕ) (d : Arg) → k < length (args_of c)
    → (slice_index_or (args_of c) k d).id.now ≡ (slice_index_or rules k config_option).id
id_at c is k d lt = ap (λ (r : Rule). r.id) (rule_at c is k d lt)

-- a use of an argument without a range of its own takes a value
least : (a : Arg) (r : Rule) → rule_of a ≡ r → r.range ≡ None → 1 ≤ least_values a
least a r is none =
    subst (λ (o : Option ValueRange). 1 ≤ (unwrap_or_range o).start_inclusive) (sym (ap (λ (x : Rule). x.range) is ∙ none)) (omega arith)

-- a text is no two texts that the test tells apart
apart : (s t u : List ℕ) → s ≡ t → s ≡ u → bytes_eq t u ≡ false → ⊥
apart s t u is is_too differ = false≢true (sym differ ∙ (bytes_eq-Decides t u).1 (sym is ∙ is_too))

moved : (s s' t t' : List ℕ) → s ≡ s' → t ≡ t' → bytes_eq s t ≡ true → bytes_eq s' t' ≡ true
moved s s' t t' first second same = sym (ap₂ bytes_eq first second) ∙ same

only_config : (j : ℕ) → j < 4 → bytes_eq (slice_index_or rules j config_option).id (codes "config") ≡ true → j ≡ 0
only_config zero lt same = refl
only_config (suc zero) lt same = absurd (false≢true same)
only_config (suc (suc zero)) lt same = absurd (false≢true same)
only_config (suc (suc (suc zero))) lt same = absurd (false≢true same)
only_config (suc (suc (suc (suc n)))) lt same = absurd (omega arith)

only_data : (j : ℕ) → j < 4 → bytes_eq (slice_index_or rules j config_option).id (codes "data") ≡ true → j ≡ 1
only_data zero lt same = absurd (false≢true same)
only_data (suc zero) lt same = refl
only_data (suc (suc zero)) lt same = absurd (false≢true same)
only_data (suc (suc (suc zero))) lt same = absurd (false≢true same)
only_data (suc (suc (suc (suc n)))) lt same = absurd (omega arith)

-- ---- the settings file is required

settings_at : (c : Command) (m : ArgMatches) → IsBeat c → IsParsedFrom c m → (d : Arg)
    → is_some (first_value (found_of m) (codes "config")) ≡ true
settings_at c m is parsed d =
    let a = slice_index_or (args_of c) 0 d in
    let lt : 0 < length (args_of c) = omega (arith, count c is) in
    let rule : rule_of a ≡ config_option = rule_at c is 0 d lt in
    let id : a.id.now ≡ codes "config" = id_at c is 0 d lt in
    let has = required_has_value c m parsed (plain c is) (simple c is).globals (negates c is) 0 d lt
    (ap (λ (r : Rule). r.required) rule)
    (ap (λ (r : Rule). r.action) rule)
    ((simple c is).args 0 d lt).delimiter
    (least (slice_index_or (args_of c) 0 d) config_option rule refl)
    (λ j e low same. only_config j (rw (← count c is) low) (moved _ _ _ _ (id_at c is j e low) id same))
    (λ empty. apart _ (codes "config") [] id empty refl)
    (λ auto. elim auto [
      | inl help ↦ apart _ (codes "config") (codes "help") id help refl
      | inr version ↦ apart _ (codes "config") (codes "version") id version refl
    ]) in
    rw (← id) has

pub settings_there : (c : Command) (m : ArgMatches) → IsBeat c → IsParsedFrom c m
    → is_some (first_value (found_of m) (codes "config")) ≡ true
settings_there c m is parsed = go (args_of c) (count c is)
  where
    go : (args : List Arg) → length args ≡ 4 → is_some (first_value (found_of m) (codes "config")) ≡ true
    go [] none = absurd (omega (arith, none))
    go (d ∷ rest) some = settings_at c m is parsed d

-- ---- the data folder has a default

-- an entry with the id is found by it
entry_found : (xs : List Entry) (id : List ℕ) (i : ℕ) → i < length xs
    → ((d : Entry) → bytes_eq (slice_index_or xs i d).0.now id ≡ true)
    → is_some (option_map (λ (e : Entry). e.1) (find (λ (e : Entry). bytes_eq e.0.now id) xs)) ≡ true
entry_found [] id i lt same = absurd (omega arith)
entry_found (x ∷ xs) id zero lt same = rw (same x) refl
entry_found (x ∷ xs) id (suc i) lt same = go (bytes_eq x.0.now id) (entry_found xs id i (omega arith) same)
  where
    go : (b : Bool) → is_some (option_map (λ (e : Entry). e.1) (find (λ (e : Entry). bytes_eq e.0.now id) xs)) ≡ true
        → is_some (option_map (λ (e : Entry). e.1) (cond b (Some x) (find (λ (e : Entry). bytes_eq e.0.now id) xs))) ≡ true
    go true there = refl
    go false there = there

first_some : (xs : List (Bor (List ℕ))) → 0 < length xs → is_some (option_map (λ s. s.now) (slice_get xs 0)) ≡ true
first_some [] lt = absurd (omega arith)
first_some (x ∷ xs) lt = refl

-- the entry of an argument that takes a value has one
filled : (c : Command) (m : ArgMatches) (p : IsParsedFrom c m) → IsBeat c → (d : Arg) → 1 < length (args_of c)
    → (x : MatchedArg) (e : Entry) → e.1 ≡ x → e.0.now ≡ codes "data" → EntryPasses p.built e
    → 0 < length x.vals.items
filled c m p is d lt x e same key passes =
    let a = slice_index_or (args_of c) 1 d in
    let rule : rule_of a ≡ data_option = rule_at c is 1 d lt in
    let id : a.id.now ≡ codes "data" = id_at c is 1 d lt in
    let set : a.action ≡ Some Set = ap (λ (r : Rule). r.action) rule in
    let some : 1 ≤ least_values a = least (slice_index_or (args_of c) 1 d) data_option rule refl in
    let no_groups : groups_of p.built ≡ [] = (p.from.plain (plain c is)).1 in
    let own : (y : Arg) (k : ℕ) → k < length (args_of p.built) → slice_index_or (args_of p.built) k y ≡ y
    → bytes_eq y.id.now e.0.now ≡ true → SameRules a y =
    λ y k inside at named. same_rules_by_id c m p 1 d lt
    (λ j f low named_so. only_data j (rw (← count c is) low) (moved _ _ _ _ (id_at c is j f low) id named_so))
    (λ auto. elim auto [
      | inl help ↦ apart _ (codes "data") (codes "help") id help refl
      | inr version ↦ apart _ (codes "data") (codes "version") id version refl
    ]) k y inside at (moved _ _ _ _ refl (key ∙ sym id) named) in
    elim passes.1 [
      | inl group ↦ elim group.1 [
        | inl empty ↦ absurd (apart _ (codes "data") [] key empty refl)
        | inr some ↦ let no : 0 < 0 = rw no_groups at some in absurd (omega arith)
      ]
      | inr (inl values) ↦ rw same at values
      | inr (inr (inl counts)) ↦
          let any = counts.1 in
          let rules_kept = own any.1 any.0 any.2 any.3 any.4.0 in
          let is_set : any.1.action ≡ Some Set = rules_kept.action Set set in
          let no : Set ≡ Count = rw is_set at any.4.1 in
          cc
      | inr (inr (inr any)) ↦
          let rules_kept = own any.1 any.0 any.2 any.3 any.4.0 in
          elim any.4.1 [
            | inl none ↦ let one = rules_kept.least set some in absurd (omega arith)
            | inr has ↦
                let no : false ≡ true = rw (rules_kept.val_delim, ((simple c is).args 1 d lt).delimiter) at has in
                cc
          ]
    ]

folder_at : (c : Command) (m : ArgMatches) → IsBeat c → IsParsedFrom c m → (d : Arg)
    → is_some (first_value (found_of m) (codes "data")) ≡ true
folder_at c m is p d =
    let a = slice_index_or (args_of c) 1 d in
    let lt : 1 < length (args_of c) = omega (arith, count c is) in
    let rule : rule_of a ≡ data_option = rule_at c is 1 d lt in
    let id : a.id.now ≡ codes "data" = id_at c is 1 d lt in
    let some_default : 0 < length (items_of a.default_vals) =
    rw (← length-map (items_of a.default_vals) (λ s. s.now), ap (λ (r : Rule). r.defaults) rule) (omega arith) in
    let there = default_present c m p (simple c is).globals 1 d lt (((simple c is).args 1 d lt).default_ifs, some_default) in
    let values = (p.parsed (p.from.globals ∙ (simple c is).globals)).values in
    go lt values (matched_of (found_of m) (codes "data")) refl
    (entry_found (found_of m).entries.items (codes "data") there.0 there.1 (λ e. rw (← id) (there.2 e)))
  where
    go : 1 < length (args_of c) → ValuesPass p.built (found_of m) → (o : Option MatchedArg) → matched_of (found_of m) (codes "data") ≡ o
        → is_some (matched_of (found_of m) (codes "data")) ≡ true
        → is_some (first_value (found_of m) (codes "data")) ≡ true
    go lt values None none there = cc
    go lt values (Some x) found there =
        let got = entry_by_id (EntryPasses p.built) (found_of m).entries.items (codes "data") x values found in
        rw found (first_some x.vals.items (filled c m p is d lt x got.0 got.1 ((bytes_eq-Decides _ _).0 got.2) got.3))

pub folder_there : (c : Command) (m : ArgMatches) → IsBeat c → IsParsedFrom c m
    → is_some (first_value (found_of m) (codes "data")) ≡ true
folder_there c m is parsed = go (args_of c) (count c is)
  where
    go : (args : List Arg) → length args ≡ 4 → is_some (first_value (found_of m) (codes "data")) ≡ true
    go [] none = absurd (omega (arith, none))
    go (d ∷ rest) some = folder_at c m is parsed d
