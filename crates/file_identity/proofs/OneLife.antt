-- An asking of one life gave that life's key.
use Rattle.std.proofs.Common.{◌≡◌, ◌⊎◌, inl, inr, ℕ, zero, suc, ◌+◌, ◌-◌, ◌<◌, ◌≤◌, Bool, cond, List, [], ◌∷◌, ◌++◌, length, take, drop, Some, None, option_map, refl, sym, ap, subst, ◌∙◌, drop-drop, take-take, length-take-le, length-drop, eq-eqb, ne_eqb, le-leb, le_trans, le_refl, arith}
use Rattle.std.proofs.lemmas.Bool.{lt-leb}
use Rattle.std.proofs.lemmas.List.{drop-take}
use Rattle.std.specs.List.{AllByRecursion}
use Rattle.event_tree.specs.declared.input_rule.IdentityRule.{IdentityRule}
use Rattle.event_tree.specs.declared.input_rule.IdentityRule.TheVariants.{Fingerprint, Native, Path}
use Rattle.outside.specs.declared.history.Look.{Look}
use Rattle.outside.specs.declared.history.Question.{Question}
use Rattle.outside.specs.declared.history.Question.TheVariants.{Length, ReadAt}
use Rattle.outside.specs.declared.history.Sight.{Sight}
use Rattle.outside.specs.Files.{File, latest, life_of}
use Rattle.file_looks.specs.Looks.{AreLooks, IsAnswered}
use Rattle.file_identity.specs.Asking.{AreReads, IsAsking, ReadsOn, given, given_key, key_if_all}
use Rattle.file_identity.specs.Key.{WantsBytes, fingerprint_key, fingerprint_of, key_of}

abbrev AreOf : ℕ → List Look → Type 0
AreOf life looks = AllByRecursion (λ look. look.sight.life ≡ life) looks

-- of one life there is never less
no_less : (file : File) (life : ℕ) (before : Sight) (looks : List Look) → before.life ≡ life → AreLooks file before looks → AreOf life looks →
    before.length ≤ (latest before looks).length
no_less file life before [] same are of = omega arith
no_less file life before (look ∷ looks) same are of =
    let here = are.0.no_earlier.length (same ∙ sym of.0) in
    let later = no_less file life look.sight looks of.0 are.1 of.1 in
    le_trans here later

within_life : (file : File) (life : ℕ) (before : Sight) (look : Look) (looks : List Look) → AreLooks file before (look ∷ looks) → AreOf life (look ∷ looks) →
    (latest look.sight looks).length ≤ length (life_of file life)
within_life file life before look [] are of = subst (λ (l : ℕ). look.sight.length ≤ length (life_of file l)) of.0 are.0.of_file.within
within_life file life before look (next ∷ looks) are of = within_life file life look.sight next looks are.1 of.1

-- the bytes are of the life from the place on, and all came, or there were no more
record Came (file : File) (life place wanted : ℕ) (looks : List Look) (last : ℕ) : Type 0 where
  number : ℕ
  bytes : given file looks ≡ take number (drop place (life_of file life))
  within : number ≤ length (life_of file life) - place
  all_or_none : ((number ≡ wanted) × (place + wanted ≤ last)) ⊎ ((number < wanted) × (last ≤ place + number))

take-more : (list : List ℕ) (m n : ℕ) → take m list ++ take n (drop m list) ≡ take (m + n) list
take-more list zero n =
    let same : n ≡ 0 + n = omega arith in
    ap (λ (k : ℕ). take k list) same
take-more [] (suc m) zero =
    let same : suc m ≡ suc m + 0 = omega arith in
    ap (λ (k : ℕ). take k []) same
take-more [] (suc m) (suc n) =
    let same : suc (m + suc n) ≡ suc m + suc n = omega arith in
    ap (λ (k : ℕ). take k []) same
take-more (x ∷ list) (suc m) n =
    let same : suc (m + n) ≡ suc m + n = omega arith in
    ap (λ (l : List ℕ). x ∷ l) (take-more list m n) ∙ ap (λ (k : ℕ). take k (x ∷ list)) same

-- one read more in front
all_or_none_more : (place wanted more number last : ℕ) → suc more ≤ wanted →
    ((number ≡ wanted - suc more) × (place + suc more + (wanted - suc more) ≤ last)) ⊎ ((number < wanted - suc more) × (last ≤ place + suc more + number)) →
    ((suc more + number ≡ wanted) × (place + wanted ≤ last)) ⊎ ((suc more + number < wanted) × (last ≤ place + (suc more + number)))
all_or_none_more place wanted more number last fits (inl all) =
    let same = all.0 in
    let there = all.1 in
    inl (omega (arith, same), omega (arith, there))
all_or_none_more place wanted more number last fits (inr none) =
    let fewer = none.0 in
    let end = none.1 in
    inr (omega (arith, fewer), omega (arith, end))

longer : (file : File) (life place wanted at more : ℕ) (sight : Sight) (looks : List Look) (last : ℕ) → at ≡ place → sight.life ≡ life → suc more ≤ wanted →
    place + suc more ≤ length (life_of file life) → Came file life (place + suc more) (wanted - suc more) looks last →
    Came file life place wanted (record { question = ReadAt at (suc more); sight = sight } ∷ looks) last
longer file life place wanted at more sight looks last here of fits inside came =
    let list = life_of file life in
    let within = came.within in
    record {
      number = suc more + came.number;
      bytes = ap (λ (n : ℕ). take (suc more) (drop n (life_of file sight.life)) ++ given file looks) here
          ∙ ap (λ (l : ℕ). take (suc more) (drop place (life_of file l)) ++ given file looks) of
          ∙ ap (λ (l : List ℕ). take (suc more) (drop place list) ++ l) came.bytes
          ∙ ap (λ (l : List ℕ). take (suc more) (drop place list) ++ take came.number l) (sym (drop-drop (suc more) place list))
          ∙ take-more (drop place list) (suc more) came.number;
      within = omega (arith, within, inside);
      all_or_none = all_or_none_more place wanted more came.number last fits came.all_or_none;
    }

first_read : (file : File) (life place wanted : ℕ) (question : Question) (sight : Sight) (looks : List Look) (last : ℕ) → IsAnswered question sight → sight.life ≡ life →
    0 < wanted → (looks ≡ [] → last ≤ sight.length) → sight.length ≤ length (life_of file life) →
    ((more : ℕ) → place + suc more ≤ sight.length → AreReads looks (place + suc more) (wanted - suc more) → Came file life (place + suc more) (wanted - suc more) looks last) →
    ReadsOn place wanted (λ next left. AreReads looks next left) (looks ≡ []) question →
    Came file life place wanted (record { question = question; sight = sight } ∷ looks) last
first_read file life place wanted Length sight looks last answered of some end fits later reads = absurd reads
first_read file life place wanted (ReadAt at zero) sight looks last answered of some end fits later reads =
    let short = answered.1 refl in
    let same = reads.0 in
    let ended = end reads.1 in
    record {
      number = 0;
      bytes = ap (given file) reads.1;
      within = omega arith;
      all_or_none = inr (some, omega (arith, short, same, ended));
    }
first_read file life place wanted (ReadAt at (suc more)) sight looks last answered of some end fits later reads =
    let there = answered.0 (omega arith) in
    let same = reads.0 in
    let first : place + suc more ≤ sight.length = omega (arith, there, same) in
    longer file life place wanted at more sight looks last reads.0 of reads.1 (omega (arith, first, fits)) (later more first reads.2)

came : (file : File) (life : ℕ) (before : Sight) (looks : List Look) (place wanted : ℕ) → (wanted ≡ 0 → place ≤ (latest before looks).length) →
    AreLooks file before looks → AreOf life looks → AreReads looks place wanted → Came file life place wanted looks (latest before looks).length
came file life before [] place wanted there are of reads =
    let behind = there reads in
    record { number = 0; bytes = refl; within = omega arith; all_or_none = inl (sym reads, omega (arith, reads, behind)) }
came file life before (look ∷ looks) place wanted there are of reads =
    first_read file life place wanted look.question look.sight looks (latest look.sight looks).length are.0.answered of.0 reads.0
    (λ none. ends look.sight looks none)
    (subst (λ (l : ℕ). look.sight.length ≤ length (life_of file l)) of.0 are.0.of_file.within)
    (λ more first later. came file life look.sight looks (place + suc more) (wanted - suc more)
    (λ none. le_trans first (no_less file life look.sight looks of.0 are.1 of.1)) are.1 of.1 later)
    reads.1
  where
    ends : (sight : Sight) (looks : List Look) → looks ≡ [] → (latest sight looks).length ≤ sight.length
    ends sight looks none = subst (λ (l : List Look). (latest sight l).length ≤ sight.length) (sym none) (le_refl sight.length)

-- ---- the key by these bytes

pub some_key : (id : List ℕ) (count : ℕ) (bytes : List ℕ) → length bytes ≡ count → key_if_all id count bytes ≡ Some (fingerprint_key id bytes)
some_key id count bytes all = ap (λ (b : Bool). cond b (Some (fingerprint_key id bytes)) None) (eq-eqb (length bytes) count all)

pub no_key : (id : List ℕ) (count : ℕ) (bytes : List ℕ) → length bytes < count → key_if_all id count bytes ≡ None
no_key id count bytes fewer = ap (λ (b : Bool). cond b (Some (fingerprint_key id bytes)) None) (ne_eqb (length bytes) count (λ same. omega (arith, same)))

all_there : (offset count : ℕ) (bytes : List ℕ) → offset + count ≤ length bytes → fingerprint_of offset count bytes ≡ Some (take count (drop offset bytes))
all_there offset count bytes there = ap (λ (b : Bool). cond b (Some (take count (drop offset bytes))) None) (le-leb (offset + count) (length bytes) there)

not_all : (offset count : ℕ) (bytes : List ℕ) → length bytes < offset + count → fingerprint_of offset count bytes ≡ None
not_all offset count bytes fewer = ap (λ (b : Bool). cond b (Some (take count (drop offset bytes))) None) (lt-leb (offset + count) (length bytes) fewer)

-- what is there of the life
front : (offset count most : ℕ) (list : List ℕ) → offset + count ≤ most → take count (drop offset (take most list)) ≡ take count (drop offset list)
front offset count most list there =
    let parts : most ≡ offset + (most - offset) = omega arith in
    ap (λ (n : ℕ). take count (drop offset (take n list))) parts ∙ ap (take count) (drop-take offset (most - offset) list)
    ∙ take-take count (most - offset) (drop offset list) (omega arith)

below : (offset count number last : ℕ) → number < count → last ≤ offset + number → last < offset + count
below offset count number last fewer end = omega (arith, fewer, end)

by_fingerprint : (id : List ℕ) (file : File) (life offset count : ℕ) (looks : List Look) (last : ℕ) → last ≤ length (life_of file life) →
    Came file life offset count looks last →
    key_if_all id count (given file looks) ≡ option_map (fingerprint_key id) (fingerprint_of offset count (take last (life_of file life)))
by_fingerprint id file life offset count looks last inside came = go came.all_or_none
  where
    number_is : length (take came.number (drop offset (life_of file life))) ≡ came.number
    number_is = length-take-le came.number (drop offset (life_of file life)) (subst (λ (n : ℕ). came.number ≤ n) (sym (length-drop offset (life_of file life))) came.within)

    long : length (given file looks) ≡ came.number
    long = ap length came.bytes ∙ number_is

    there_is : length (take last (life_of file life)) ≡ last
    there_is = length-take-le last (life_of file life) inside

    go : ((came.number ≡ count) × (offset + count ≤ last)) ⊎ ((came.number < count) × (last ≤ offset + came.number)) →
        key_if_all id count (given file looks) ≡ option_map (fingerprint_key id) (fingerprint_of offset count (take last (life_of file life)))
    go (inl all) =
        some_key id count (given file looks) (long ∙ all.0)
        ∙ ap (λ (l : List ℕ). Some (fingerprint_key id l)) (came.bytes ∙ ap (λ (n : ℕ). take n (drop offset (life_of file life))) all.0
        ∙ sym (front offset count last (life_of file life) all.1))
        ∙ sym (ap (option_map (fingerprint_key id)) (all_there offset count (take last (life_of file life)) (subst (λ (n : ℕ). offset + count ≤ n) (sym there_is) all.1)))
    go (inr none) =
        no_key id count (given file looks) (subst (λ (n : ℕ). n < count) (sym long) none.0)
        ∙ sym (ap (option_map (fingerprint_key id)) (not_all offset count (take last (life_of file life))
        (subst (λ (n : ℕ). n < offset + count) (sym there_is) (below offset count came.number last none.0 none.1))))

pub key_of_one_life : (id : List ℕ) (rule : IdentityRule) (path : List ℕ) (file : File) (before : Sight) (life : ℕ) (looks : List Look) → WantsBytes rule →
    AreLooks file before looks → IsAsking rule looks → AreOf life looks →
    given_key id rule path file looks ≡ key_of id rule path file.numbers (take (latest before looks).length (life_of file life))
key_of_one_life id (Fingerprint offset count) path file before life [] wants are asks of = absurd (let none : count ≡ 0 = asks in omega (arith, none, wants))
key_of_one_life id (Fingerprint offset count) path file before life (look ∷ looks) wants are asks of =
    by_fingerprint id file life offset count (look ∷ looks) (latest look.sight looks).length (within_life file life before look looks are of)
    (came file life before (look ∷ looks) offset count (λ none. absurd (omega (arith, none, wants))) are of asks)
key_of_one_life id Native path file before life looks wants are asks of = refl
key_of_one_life id Path path file before life looks wants are asks of = refl
