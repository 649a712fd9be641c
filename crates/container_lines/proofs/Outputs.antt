-- What stands in a sink and what waits, as more comes and as it is written.
use Rattle.std.proofs.Common.{◌≡◌, ℕ, ◌+◌, ◌-◌, List, [], ◌++◌, length, take, drop, Option, Some, None, Ok, Err, refl, sym, ap, subst, ◌∙◌, append_assoc, append-nil}
use Rattle.std.proofs.Math.Seq.{take-append_seam, take-append-add}
use Rattle.std.proofs.lemmas.List.{take-append-drop, take_rest}
use Rattle.outside.specs.Streams.{WritesOn}
use Rattle.outside.specs.declared.failed.Failed.{Failed}
use Rattle.container_lines.specs.Output.{HasAll, HasFront, StandsOrWaits}

pub stands_first : (before : Option (List ℕ)) (text : List ℕ) → StandsOrWaits before text before text
stands_first None text = refl
stands_first (Some before) text = ([], ap (λ (l : List ℕ). Some l) (sym (append-nil before)), refl)

-- nothing was put yet
pub stands_empty : (before : Option (List ℕ)) → StandsOrWaits before [] before []
stands_empty before = stands_first before []

-- a front of what waits is written
pub stands_step : (before : Option (List ℕ)) (text left : List ℕ) (count : ℕ) (now after : Option (List ℕ)) →
    StandsOrWaits before text now left → WritesOn now left (Ok count) after → StandsOrWaits before text after (take (length left - count) (drop count left))
stands_step None text left count now after stands writes =
    let P : Option (List ℕ) → Type 0 = λ o. WritesOn o left (Ok count) after in
    subst P stands writes
stands_step (Some before) text left count now after stands writes =
    let P : Option (List ℕ) → Type 0 = λ o. WritesOn o left (Ok count) after in
    let longer : after ≡ Some ((before ++ stands.0) ++ take count left) = subst P stands.1 writes in (
      stands.0 ++ take count left,
      longer ∙ ap (λ (l : List ℕ). Some l) (append_assoc before stands.0 (take count left)),
      stands.2
          ∙ ap (λ (l : List ℕ). stands.0 ++ l) (sym (take-append-drop count left))
          ∙ sym (append_assoc stands.0 (take count left) (drop count left))
          ∙ ap (λ (l : List ℕ). (stands.0 ++ take count left) ++ l) (sym (take_rest left count)),
    )

pub stands_last : (before : Option (List ℕ)) (text left : List ℕ) (now : Option (List ℕ)) → left ≡ [] → StandsOrWaits before text now left → HasAll before text now
stands_last None text left now none stands = stands
stands_last (Some before) text left now none stands =
    stands.1 ∙ ap (λ (l : List ℕ). Some (before ++ l)) (sym (stands.2 ∙ ap (λ (l : List ℕ). stands.0 ++ l) none ∙ append-nil stands.0))

pub stands_front : (before : Option (List ℕ)) (text left : List ℕ) (now : Option (List ℕ)) → StandsOrWaits before text now left → HasFront before text now
stands_front None text left now stands = stands
stands_front (Some before) text left now stands = (
  length stands.0,
  stands.1 ∙ ap (λ (l : List ℕ). Some (before ++ l)) (sym (ap (λ (l : List ℕ). take (length stands.0) l) stands.2 ∙ take-append_seam stands.0 left)),
)

-- a write that failed
pub stands_failed : (before : Option (List ℕ)) (text left : List ℕ) (now after : Option (List ℕ)) (failed : Failed) →
    StandsOrWaits before text now left → WritesOn now left (Err failed) after → HasFront before text after
stands_failed None text left now after failed stands writes =
    let P : Option (List ℕ) → Type 0 = λ o. WritesOn o left (Err failed) after in
    subst P stands writes
stands_failed (Some before) text left now after failed stands writes =
    let P : Option (List ℕ) → Type 0 = λ o. WritesOn o left (Err failed) after in
    let same : after ≡ Some (before ++ stands.0) = subst P stands.1 writes in
    let F : Option (List ℕ) → Type 0 = HasFront (Some before) text in
    subst F (stands.1 ∙ sym same) (stands_front (Some before) text left now stands)

-- all that waits was written, or a front of it
pub stands_written : (before : Option (List ℕ)) (text left : List ℕ) (now after : Option (List ℕ)) → StandsOrWaits before text now left → HasAll now left after →
    StandsOrWaits before text after []
stands_written None text left now after stands all =
    let P : Option (List ℕ) → Type 0 = λ o. HasAll o left after in
    subst P stands all
stands_written (Some before) text left now after stands all =
    let P : Option (List ℕ) → Type 0 = λ o. HasAll o left after in
    let longer : after ≡ Some ((before ++ stands.0) ++ left) = subst P stands.1 all in (
      stands.0 ++ left,
      longer ∙ ap (λ (l : List ℕ). Some l) (append_assoc before stands.0 left),
      stands.2 ∙ sym (append-nil (stands.0 ++ left)),
    )

pub stands_written_in_part : (before : Option (List ℕ)) (text left : List ℕ) (now after : Option (List ℕ)) → StandsOrWaits before text now left → HasFront now left after →
    HasFront before text after
stands_written_in_part None text left now after stands front =
    let P : Option (List ℕ) → Type 0 = λ o. HasFront o left after in
    subst P stands front
stands_written_in_part (Some before) text left now after stands front =
    let P : Option (List ℕ) → Type 0 = λ o. HasFront o left after in
    let some : HasFront (Some (before ++ stands.0)) left after = subst P stands.1 front in (
      length stands.0 + some.0,
      some.1 ∙ ap (λ (l : List ℕ). Some l) (append_assoc before stands.0 (take some.0 left)
          ∙ ap (λ (l : List ℕ). before ++ l) (sym (ap (λ (l : List ℕ). take (length stands.0 + some.0) l) stands.2 ∙ take-append-add stands.0 left some.0))),
    )

-- more waits behind it
pub stands_longer : (before : Option (List ℕ)) (text left more : List ℕ) (now : Option (List ℕ)) → StandsOrWaits before text now left → StandsOrWaits before (text ++ more) now (left ++ more)
stands_longer None text left more now stands = stands
stands_longer (Some before) text left more now stands =
    (stands.0, stands.1, ap (λ (l : List ℕ). l ++ more) stands.2 ∙ append_assoc stands.0 left more)

pub front_longer : (before : Option (List ℕ)) (text more : List ℕ) (now : Option (List ℕ)) → HasFront before text now → HasFront before (text ++ more) now
front_longer None text more now front = front
front_longer (Some before) text more now front =
    let whole : text ++ more ≡ take front.0 text ++ (drop front.0 text ++ more) =
    ap (λ (l : List ℕ). l ++ more) (sym (take-append-drop front.0 text)) ∙ append_assoc (take front.0 text) (drop front.0 text) more in (
      length (take front.0 text),
      front.1 ∙ ap (λ (l : List ℕ). Some (before ++ l)) (sym (ap (λ (l : List ℕ). take (length (take front.0 text)) l) whole ∙ take-append_seam (take front.0 text) (drop front.0 text ++ more))),
    )
