-- Lines with which an event may go on have no event among them.
use Rattle.std.proofs.Common.{◌≡◌, ◌≢◌, ◌⊎◌, ℕ, Bool, true, false, List, [], ◌∷◌, ◌++◌, length, Option, refl, sym, ap, subst, ◌∙◌, inl, inr, ⊎_elim, arith, append_assoc, append-nil, length-append}
use Rattle.std.proofs.lemmas.Bool.{true≢false, false≢true}
use Rattle.std.proofs.lemmas.List.{append_cancel_left, same_from_push}
use Rattle.event_tree.specs.declared.group_rule.GroupRule.{GroupRule}
use Rattle.event_tree.specs.declared.group_rule.GroupRule.TheVariants.{Single, Count, Pattern}
use Rattle.event_tree.specs.declared.group_rule.Side.{Side}
use Rattle.event_tree.specs.declared.group_rule.Side.TheVariants.{After, Before}
use Rattle.line_cutter.specs.declared.line.Line.{Line}
use Rattle.multiline_core.specs.Continuing.{continues, flushes, AllContinue}
use Rattle.multiline_core.specs.Event.{IsEvent, IsNatural}
use Rattle.multiline_core.specs.Gathering.{AllGoOn, BeginEvent, MayGoOn, IsOpen, IsFlushable}

-- a nonempty list has a last
pub last_of : {A : Type 0} (xs : List A) → xs ≢ [] → (front : List A) × (last : A) × (xs ≡ front ++ last ∷ [])
last_of [] some = absurd (some refl)
last_of (x ∷ []) some = ([], x, refl)
last_of (x ∷ y ∷ ys) some =
    let behind = last_of (y ∷ ys) (λ e. cc) in
    (x ∷ behind.0, behind.1, ap (λ zs. x ∷ zs) behind.2)

-- an event by these lines does not end where these others follow it: with `after` the next line goes on or flushes
abbrev pub Stays : GroupRule → List Line → Type 0
Stays (Single message_max_bytes) more = Unit {0}
Stays (Count count_lines max_lines timeout skip_newline message_max_bytes) more = Unit {0}
Stays (Pattern pattern negate Before flush max_lines timeout skip_newline message_max_bytes) more = Unit {0}
Stays (Pattern pattern negate After flush max_lines timeout skip_newline message_max_bytes) [] = Unit {0}
Stays (Pattern pattern negate After flush max_lines timeout skip_newline message_max_bytes) (next ∷ later) =
    (continues pattern negate next ≡ true) ⊎ (flushes flush next ≡ true)

module _ (pattern : List ℕ) (negate : Bool) (flush : Option (List ℕ)) where
  pub goes_on_at : (xs ys : List Line) (x : Line) → AllGoOn pattern negate flush (xs ++ x ∷ ys) →
      (continues pattern negate x ≡ true) × (flushes flush x ≡ false)
  goes_on_at [] ys x h = h.0
  goes_on_at (z ∷ xs) ys x h = goes_on_at xs ys x h.1

  pub goes_on_push : (xs : List Line) (x : Line) → AllGoOn pattern negate flush xs → continues pattern negate x ≡ true → flushes flush x ≡ false →
      AllGoOn pattern negate flush (xs ++ x ∷ [])
  goes_on_push [] x h c f = ((c, f), tt)
  goes_on_push (z ∷ xs) x h c f = (h.0, goes_on_push xs x h.1 c f)

  pub goes_on_continue : (xs : List Line) → AllGoOn pattern negate flush xs → AllContinue pattern negate xs
  goes_on_continue [] h = tt
  goes_on_continue (x ∷ xs) h = (h.0.0, goes_on_continue xs h.1)

  continues_at : (xs ys : List Line) (x : Line) → BeginEvent pattern negate Before flush (xs ++ x ∷ ys) → continues pattern negate x ≡ true
  continues_at [] ys x h = h.0
  continues_at (z ∷ xs) ys x h = (goes_on_at xs ys x h.1).0

  -- the line after the front goes on
  no_next : (first : Line) (others left more : List Line) (next : Line) (later : List Line) →
      BeginEvent pattern negate After flush (first ∷ (others ++ left)) → left ++ more ≡ next ∷ later →
      (left ≡ [] → (continues pattern negate next ≡ true) ⊎ (flushes flush next ≡ true)) →
      continues pattern negate next ≡ false → flushes flush next ≡ false → ⊥
  no_next first others [] more next later goes e stays stops plain =
      ⊎_elim (λ on. true≢false (sym on ∙ stops)) (λ on. true≢false (sym on ∙ plain)) (stays refl)
  no_next first others (x ∷ left) more next later goes e stays stops plain =
      let same : x ≡ next = cc in
      true≢false (sym (goes_on_at others left x goes).0 ∙ ap (continues pattern negate) same ∙ stops)

  no_flush : (side : Side) (first last : Line) (between left : List Line) →
      BeginEvent pattern negate side flush ((first ∷ (between ++ last ∷ [])) ++ left) → flushes flush last ≡ true → ⊥
  no_flush After first last between left goes on =
      false≢true (sym (goes_on_at between left last (rw append_assoc at goes)).1 ∙ on)
  no_flush Before first last between left goes on =
      false≢true (sym (goes_on_at between left last (rw append_assoc at goes.1)).1 ∙ on)

-- this many of the first of lines with which an event may go on are no event
pub no_event : (rule : GroupRule) (front left more : List Line) → MayGoOn rule (front ++ left) → (left ≡ [] → Stays rule more) →
    ¬ (IsEvent rule front (left ++ more))
no_event (Single message_max_bytes) front left more goes stays event =
    omega (arith, event, ap length goes, length-append front left)
no_event (Count count_lines max_lines timeout skip_newline message_max_bytes) front left more goes stays event =
    omega (arith, event, goes, length-append front left)
no_event (Pattern pattern negate side flush max_lines timeout skip_newline message_max_bytes) front left more goes stays (inr event) =
    no_flush pattern negate flush side event.first event.last event.between left
    (subst (λ xs. BeginEvent pattern negate side flush (xs ++ left)) event.row_is goes) event.last_flushes
no_event (Pattern pattern negate After flush max_lines timeout skip_newline message_max_bytes) front left more goes stays (inl event) =
    no_next pattern negate flush event.first event.others left more event.next event.later
    (subst (λ xs. BeginEvent pattern negate After flush (xs ++ left)) event.row_is goes) event.behind_is
    (λ none. subst (λ xs. Stays (Pattern pattern negate After flush max_lines timeout skip_newline message_max_bytes) xs)
    (ap (λ xs. xs ++ more) (sym none) ∙ event.behind_is) (stays none))
    event.starts_anew event.is_no_flush
no_event (Pattern pattern negate Before flush max_lines timeout skip_newline message_max_bytes) front left more goes stays (inl event) =
    let row : BeginEvent pattern negate Before flush (event.others ++ event.last ∷ left) =
    rw append_assoc at (subst (λ xs. BeginEvent pattern negate Before flush (xs ++ left)) event.row_is goes) in
    true≢false (sym (continues_at pattern negate flush event.others left event.last row) ∙ event.stops)

nothing_stays : (rule : GroupRule) → Stays rule []
nothing_stays (Single message_max_bytes) = tt
nothing_stays (Count count_lines max_lines timeout skip_newline message_max_bytes) = tt
nothing_stays (Pattern pattern negate After flush max_lines timeout skip_newline message_max_bytes) = tt
nothing_stays (Pattern pattern negate Before flush max_lines timeout skip_newline message_max_bytes) = tt

-- such lines are open
pub is_open : (rule : GroupRule) (row : List Line) → MayGoOn rule row → IsOpen rule row
is_open rule row goes front left e event =
    no_event rule front left [] (subst (MayGoOn rule) e goes) (λ none. nothing_stays rule)
    (subst (IsEvent rule front) (sym (append-nil left)) event)

-- and may be flushed
pub is_flushable : (rule : GroupRule) (row : List Line) → MayGoOn rule row → row ≢ [] → IsFlushable rule row
is_flushable rule row goes some later = record {
  behind = later;
  lines_are = refl;
  some = some;
  none_earlier = λ front left e more natural.
      let behind : left ++ later ≡ natural.behind =
      append_cancel_left front (left ++ later) natural.behind
      (sym (append_assoc front left later) ∙ ap (λ xs. xs ++ later) (sym e) ∙ natural.lines_are) in
      no_event rule front left later (subst (MayGoOn rule) e goes) (λ none. absurd (more none))
      (subst (IsEvent rule front) (sym behind) natural.event);
}

-- the line after them is an event's last
pub natural_with : (rule : GroupRule) (row : List Line) (line : Line) → MayGoOn rule row → Stays rule (line ∷ []) →
    IsEvent rule (row ++ line ∷ []) [] → IsNatural rule (row ++ line ∷ []) (row ++ line ∷ [])
natural_with rule row line goes stays event = record {
  behind = [];
  lines_are = sym (append-nil (row ++ line ∷ []));
  event = event;
  shortest = λ front left e more shorter.
      let end = last_of left more in
      let parts = same_from_push row (front ++ end.0) line end.1
      (e ∙ ap (λ xs. front ++ xs) end.2 ∙ sym (append_assoc front end.0 (end.1 ∷ []))) in
      let behind : left ++ [] ≡ end.0 ++ line ∷ [] =
      append-nil left ∙ end.2 ∙ ap (λ x. end.0 ++ x ∷ []) (sym parts.1) in
      no_event rule front end.0 (line ∷ []) (subst (MayGoOn rule) parts.0 goes) (λ none. stays)
      (subst (IsEvent rule front) behind shorter);
}

-- the line after them begins the next event
pub natural_before : (rule : GroupRule) (row : List Line) (line : Line) → MayGoOn rule row →
    IsEvent rule row (line ∷ []) → IsNatural rule (row ++ line ∷ []) row
natural_before rule row line goes event = record {
  behind = line ∷ [];
  lines_are = refl;
  event = event;
  shortest = λ front left e more shorter.
      no_event rule front left (line ∷ []) (subst (MayGoOn rule) e goes) (λ none. absurd (more none)) shorter;
}
