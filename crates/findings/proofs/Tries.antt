-- The hosts that were tried, with one host more.
use Rattle.std.proofs.Common.{◌≡◌, ℕ, ◌+◌, ◌<◌, List, [], ◌∷◌, ◌++◌, length, map, take, get_or, Option, None, Some, IfSome, refl, sym, ap, ◌∙◌, subst, append_assoc, append-nil}
use Rattle.std.proofs.lemmas.List.{map-append, take_more}
use Rattle.wire_base.specs.declared.host.Host.{Host}
use Rattle.findings.specs.Seeing.{TriesAll}
use Rattle.findings.specs.declared.trial.Trial.{Trial}

pub tries_none : (before : Option (List Trial)) → TriesAll before [] [] before
tries_none None = record { each_once = refl; told = tt }
tries_none (Some tried) = record { each_once = refl; told = ap (λ (l : List Trial). Some l) (sym (append-nil tried)) }

-- if both told, the second trial is after those of the first
told_on : (before middle after : Option (List Trial)) (trials : List Trial) (trial : Trial) → IfSome before (λ tried. middle ≡ Some (tried ++ trials)) → IfSome middle (λ tried. after ≡ Some (tried ++ trial ∷ []))
    → IfSome before (λ tried. after ≡ Some (tried ++ (trials ++ trial ∷ [])))
told_on None middle after trials trial first second = tt
told_on (Some tried) middle after trials trial first second =
    let P : Option (List Trial) → Type 0 = λ m. IfSome m (λ tried. after ≡ Some (tried ++ trial ∷ [])) in
    let next : after ≡ Some ((tried ++ trials) ++ trial ∷ []) = subst P first second in
    next ∙ ap (λ (l : List Trial). Some l) (append_assoc tried trials (trial ∷ []))

pub tries_more : (before middle after : Option (List Trial)) (hosts : List Host) (i : ℕ) (host : Host) (trials all : List Trial) (trial : Trial) → i < length hosts → host ≡ get_or hosts i host →
    TriesAll before (take i hosts) trials middle → TriesAll middle (host ∷ []) (trial ∷ []) after → all ≡ trials ++ trial ∷ [] → TriesAll before (take (i + 1) hosts) all after
tries_more before middle after hosts i host trials all trial within is first second all_is =
    let hosts_are : take i hosts ++ host ∷ [] ≡ take (i + 1) hosts = ap (λ (h : Host). take i hosts ++ h ∷ []) is ∙ sym (take_more hosts i host within) in
    let once : map (λ t. t.host) (trials ++ trial ∷ []) ≡ take (i + 1) hosts =
    map-append (λ (t : Trial). t.host) trials (trial ∷ [])
    ∙ ap (λ (l : List Host). l ++ map (λ t. t.host) (trial ∷ [])) first.each_once
    ∙ ap (λ (l : List Host). take i hosts ++ l) second.each_once
    ∙ hosts_are
    in
    let told : IfSome before (λ tried. after ≡ Some (tried ++ (trials ++ trial ∷ []))) = told_on before middle after trials trial first.told second.told in
    subst (λ (l : List Trial). TriesAll before (take (i + 1) hosts) l after) (sym all_is) (record { each_once = once; told = told })
