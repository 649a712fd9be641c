-- A talk that goes on, and what it acknowledges then.
use Rattle.std.proofs.Common.{◌≡◌, ℕ, suc, ◌+◌, ◌≤◌, List, [], ◌∷◌, ◌++◌, length, get_or, take, refl, sym, ap, subst, ◌∙◌, append_assoc, arith}
use Rattle.std.specs.List.{All, AllByRecursion, Contains, flat_map}
use Rattle.std.proofs.lemmas.List.{take_all}
use Rattle.std.proofs.lemmas.List.Concat.{flat_map-append}
use Rattle.wire_base.specs.declared.talk.Piece.{Piece}
use Rattle.lumber_frame.specs.Talk.{in_bytes, out_bytes}
use Rattle.lumber_frame.specs.Window.{window_bytes, AreWindows, IsWindow}
use Rattle.lumber_frame.specs.Acknowledged.{Answer, Acknowledges, acknowledgements, answers, greatest, payloads_by, whole_within}
use Rattle.lumber_frame.specs.Settled.{IsSettled}
use Rattle.lumber_frame.proofs.Staying.{in_append, out_append, whole_stays, none_within, answers_stay, numbers_more, numbers_fit, payloads_stay}
use Rattle.lumber_frame.proofs.Asking.{answers_more, greatest-append}
use Rattle.lumber_frame.proofs.WindowsThere.{windows_there}
use Rattle.lumber_frame.proofs.Settling.{windows_are, numbers_are}

pub all_both : {A : Type 0} (P : A → Type 0) (xs ys : List A) → AllByRecursion P xs → AllByRecursion P ys → AllByRecursion P (xs ++ ys)
all_both P [] ys first second = second
all_both P (x ∷ xs) ys first second = (first.0, all_both P xs ys first.1 second)

-- bytes that go on are the windows that they were, and others
windows_more : (bytes more : List ℕ) (windows others : List (List (List ℕ))) (first : AreWindows bytes windows) → AreWindows (first.rest ++ more) others → AreWindows (bytes ++ more) (windows ++ others)
windows_more bytes more windows others first second =
    let front = flat_map window_bytes windows in
    let behind = flat_map window_bytes others in
    record {
      each = all_both IsWindow windows others first.each second.each;
      rest = second.rest;
      whole = ap (λ (all : List ℕ). all ++ more) first.whole ∙ append_assoc front first.rest more ∙ ap (λ (tail : List ℕ). front ++ tail) second.whole ∙ sym (append_assoc front behind second.rest) ∙ ap (λ (all : List ℕ). all ++ second.rest) (sym (flat_map-append window_bytes windows others));
      cut = second.cut;
    }

-- the talk that goes on: more windows after those that it has, and more answers after those that were given
pub record GoesOn (talk more : List Piece) (windows : List (List (List ℕ))) : Type 0 where
  pub others : List (List (List ℕ))
  pub later : List Answer
  pub sent : AreWindows (out_bytes (talk ++ more)) (windows ++ others)
  pub within : (out : ℕ) → out ≤ length (out_bytes talk) → whole_within (windows ++ others) out ≡ whole_within windows out
  pub are : answers (windows ++ others) (talk ++ more) [] 0 (acknowledgements (in_bytes (talk ++ more))) ≡ answers windows talk [] 0 (acknowledgements (in_bytes talk)) ++ later

pub goes_on : (talk more : List Piece) (windows : List (List (List ℕ))) → AreWindows (out_bytes talk) windows → GoesOn talk more windows
goes_on talk more windows first =
    let others = windows_there (first.rest ++ out_bytes more) in
    let all = windows ++ others.0 in
    let numbers = acknowledgements (in_bytes talk) in
    let behind = numbers_more (in_bytes talk) (in_bytes more) in
    let later = answers_more all (talk ++ more) [] 0 numbers behind.0 in
    let within : (out : ℕ) → out ≤ length (out_bytes talk) → whole_within all out ≡ whole_within windows out = λ out few.
    whole_stays windows others.0 first.rest out
    (none_within others.0 first.rest (out_bytes more) others.1.rest others.1.each first.cut others.1.whole)
    (omega (arith, few, ap (λ (bytes : List ℕ). length bytes) first.whole)) in
    let old = answers_stay windows others.0 talk more [] 0 numbers within (omega (arith, numbers_fit (in_bytes talk))) in
    record {
      others = others.0;
      later = later.0;
      sent = subst (λ (bytes : List ℕ). AreWindows bytes all) (sym (out_append talk more)) (windows_more (out_bytes talk) (out_bytes more) windows others.0 first others.1);
      within = within;
      are = ap (λ (bytes : List ℕ). answers all (talk ++ more) [] 0 (acknowledgements bytes)) (in_append talk more) ∙ ap (λ (ns : List ℕ). answers all (talk ++ more) [] 0 ns) behind.1 ∙ later.1 ∙ ap (λ (front : List Answer). front ++ later.0) old;
    }

-- no window's greatest number falls
pub greater : (talk more : List Piece) (windows : List (List (List ℕ))) (on : GoesOn talk more windows) (window : ℕ) → greatest window (answers windows talk [] 0 (acknowledgements (in_bytes talk))) ≤ greatest window (answers (windows ++ on.others) (talk ++ more) [] 0 (acknowledgements (in_bytes (talk ++ more))))
greater talk more windows on window =
    omega (arith, ap (greatest window) on.are, greatest-append window (answers windows talk [] 0 (acknowledgements (in_bytes talk))) on.later)

-- what was acknowledged stays so
pub stays : (talk more : List Piece) (payloads : List (List ℕ)) → Acknowledges talk payloads → (later : List (List ℕ)) × Acknowledges (talk ++ more) later × All (Contains later) payloads
stays talk more payloads first =
    let windows = first.windows in
    let on = goes_on talk more windows first.sent in
    let given = answers windows talk [] 0 (acknowledgements (in_bytes talk)) in
    let now = answers (windows ++ on.others) (talk ++ more) [] 0 (acknowledgements (in_bytes (talk ++ more))) in (
      payloads_by now 1 (windows ++ on.others),
      record { windows = windows ++ on.others; sent = on.sent; are = refl },
      subst (λ (acknowledged : List (List ℕ)). All (Contains (payloads_by now 1 (windows ++ on.others))) acknowledged) (sym first.are) (payloads_stay given now 1 windows on.others (greater talk more windows on)),
    )

-- if the greatest numbers are no less than the counts, the payloads of these windows are the first, whatever windows follow
all_first : (given : List Answer) (number : ℕ) (windows others : List (List (List ℕ))) → ((i : ℕ) → length (get_or windows i []) ≤ greatest (number + i) given) → (later : List (List ℕ)) × (payloads_by given number (windows ++ others) ≡ flat_map (λ window. window) windows ++ later)
all_first given number [] others full = (payloads_by given number others, refl)
all_first given number (window ∷ windows) others full =
    let here : number + 0 ≡ number = omega arith in
    let whole : take (greatest number given) window ≡ window = take_all (greatest number given) window (omega (arith, full 0, ap (λ (k : ℕ). greatest k given) here)) in
    let behind = all_first given (suc number) windows others (λ i.
    let next : suc number + i ≡ number + suc i = omega arith in
    omega (arith, full (suc i), ap (λ (k : ℕ). greatest k given) next)) in (
      behind.0,
      ap (λ (front : List (List ℕ)). front ++ payloads_by given (suc number) (windows ++ others)) whole ∙ ap (λ (tail : List (List ℕ)). window ++ tail) behind.1 ∙ sym (append_assoc window (flat_map (λ payloads. payloads) windows) behind.0),
    )

-- what was settled stays acknowledged, and comes first
pub settled_stays : (talk more : List Piece) (windows : List (List (List ℕ))) → IsSettled talk windows → (later : List (List ℕ)) × Acknowledges (talk ++ more) (flat_map (λ window. window) windows ++ later)
settled_stays talk more windows settled =
    let on = goes_on talk more windows (windows_are talk windows settled) in
    let now = answers (windows ++ on.others) (talk ++ more) [] 0 (acknowledgements (in_bytes (talk ++ more))) in
    let all = all_first now 1 windows on.others (λ i.
    let next : 1 + i ≡ suc i = omega arith in
    omega (arith, greater talk more windows on (suc i), settled.in_full (suc i), ap (λ (ns : List ℕ). greatest (suc i) (answers windows talk [] 0 ns)) (numbers_are talk windows settled), ap (λ (k : ℕ). greatest k now) next)) in
    (all.0, record { windows = windows ++ on.others; sent = on.sent; are = sym all.1 })
