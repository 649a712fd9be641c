-- How a log is read on.
use Rattle.std.proofs.Common.{◌≡◌, ℕ, List, [], ◌∷◌, ◌++◌, Option, Some, sym, ap, subst, ◌∙◌, append-nil, Result, Ok, Err, OnOk, Vec}
use Rattle.std.specs.Prelude.{OnErr}
use Rattle.std.specs.Option.{option_to_list}
use Rattle.std.specs.declared.alloc.Global.{Global}
use Rattle.event_tree.specs.declared.line_rule.LineRule.{LineRule}
use Rattle.container_lines.specs.declared.fault.Fault.{Fault}
use Rattle.line_cutter.specs.declared.line.Line.{Line}
use Rattle.line_cutter.specs.Cutting.{Cutting, HasCut}
use Rattle.line_cutter.specs.Lines.{complete_lines}
use Rattle.container_lines.specs.declared.conversion.Conversion.{Conversion}
use Rattle.container_lines.specs.declared.status.BadLines.{BadLines}
use Rattle.container_lines.specs.declared.told.Joined.{Joined}
use Rattle.container_lines.specs.declared.told.Told.{Told}
use Rattle.container_lines.specs.declared.told.Told.TheVariants.{Whole}
use Rattle.container_lines.specs.Conversion.{Aim, ConvertsLines, ConvertsAll, IsHanded, text_of}
use Rattle.container_lines.specs.Joined.{told_of, joined_in, joined_behind, spelled, container_rule, log_lines}
use Rattle.container_lines.specs.Joining.{Joining, HasJoined}
use Rattle.container_lines.specs.Output.{HasFront, StandsOrWaits}
use Rattle.container_lines.proofs.Outputs.{stands_front, front_longer}
use Rattle.container_lines.proofs.Texts.{bad_behind, bad_found-one, spelled-append, spelled-one}

-- whatever lines were told before, more of the same log were told now
pub record GoesOn (written : Option (List ℕ)) (log : Conversion) (written_now : Option (List ℕ)) (log_now : Conversion) : Type 0 where
  pub each : (aim : Aim) (fed : List ℕ) (lines : List Line) → ConvertsLines aim fed lines written log → (more : List Line) × ConvertsLines aim fed more written_now log_now

pub goes_on_first : (written : Option (List ℕ)) (log : Conversion) → GoesOn written log written log
goes_on_first written log = record { each = λ aim fed lines converts. (lines, converts) }

-- a front of what the first lines of a log spell is one of what all of them spell
pub front_of_more : (aim : Aim) (lines more : List Line) (written : Option (List ℕ)) → HasFront aim.before (text_of aim lines) written → HasFront aim.before (text_of aim (lines ++ more)) written
front_of_more aim lines more written front =
    let P : List ℕ → Type 0 = λ t. HasFront aim.before t written in
    subst P (sym (spelled-append aim.asked.format aim.asked.keep lines more))
    (front_longer aim.before (text_of aim lines) (spelled (joined_behind aim.asked.format aim.asked.keep lines more)) written front)

-- a line that was handed out and told
pub converts_more : (aim : Aim) (fed : List ℕ) (lines : List Line) (line : Line) (written written_now : Option (List ℕ)) (log log_now : Conversion) (told : Told) →
    told ≡ told_of aim.asked.format aim.asked.keep lines line →
    HasJoined aim.asked.format aim.asked.keep (lines ++ line ∷ []) log_now.joiner →
    log_now.cutter ≡ log.cutter →
    log_now.bad ≡ bad_behind told log.bad line.span.start →
    StandsOrWaits aim.before (text_of aim lines ++ spelled (joined_in told)) written_now log_now.output.items →
    IsHanded aim fed lines line written log → ConvertsLines aim fed (lines ++ line ∷ []) written_now log_now
converts_more aim fed lines line written written_now log log_now told is joined same bad output handed = record {
  cut = let P : Cutting → Type 0 = HasCut container_rule 0 fed (lines ++ line ∷ []) in subst P (sym same) handed.cut;
  joined = joined;
  bad = bad
      ∙ ap (λ (t : Told). bad_behind t log.bad line.span.start) is
      ∙ ap (λ (b : Option BadLines). bad_behind (told_of aim.asked.format aim.asked.keep lines line) b line.span.start) handed.bad
      ∙ sym (bad_found-one aim.asked.format aim.asked.keep lines line);
  output =
      let P : List ℕ → Type 0 = λ t. StandsOrWaits aim.before t written_now log_now.output.items in
      subst P (ap (λ (t : Told). text_of aim lines ++ spelled (joined_in t)) is ∙ sym (spelled-one aim.asked.format aim.asked.keep lines line)) output;
}

-- a line that spells nothing
pub spells_nothing : (before : Option (List ℕ)) (text : List ℕ) (written : Option (List ℕ)) (waits : List ℕ) → StandsOrWaits before text written waits →
    StandsOrWaits before (text ++ []) written waits
spells_nothing before text written waits stands =
    let P : List ℕ → Type 0 = λ t. StandsOrWaits before t written waits in
    subst P (sym (append-nil text)) stands

-- a line that spells a message
pub converts_whole : (aim : Aim) (fed : List ℕ) (lines : List Line) (line : Line) (written written_now : Option (List ℕ)) (log log_now : Conversion) (joiner : Joining) (joined : Joined) (message : List ℕ) →
    Whole joined ≡ told_of aim.asked.format aim.asked.keep lines line →
    HasJoined aim.asked.format aim.asked.keep (lines ++ line ∷ []) joiner → log_now.joiner ≡ joiner →
    log_now.cutter ≡ log.cutter → log_now.bad ≡ log.bad → message ≡ joined.message →
    StandsOrWaits aim.before (text_of aim lines ++ (message ++ 10 ∷ [])) written_now log_now.output.items →
    IsHanded aim fed lines line written log → ConvertsLines aim fed (lines ++ line ∷ []) written_now log_now
converts_whole aim fed lines line written written_now log log_now joiner joined message is has kept cutter bad same stands handed =
    let J : Joining → Type 0 = HasJoined aim.asked.format aim.asked.keep (lines ++ line ∷ []) in
    let P : List ℕ → Type 0 = λ t. StandsOrWaits aim.before (text_of aim lines ++ t) written_now log_now.output.items in
    converts_more aim fed lines line written written_now log log_now (Whole joined) is (subst J (sym kept) has) cutter bad
    (subst P (ap (λ (m : List ℕ). m ++ 10 ∷ []) same ∙ sym (append-nil (joined.message ++ 10 ∷ []))) stands)
    handed

pub front_whole : (aim : Aim) (lines : List Line) (line : Line) (written_now : Option (List ℕ)) (joined : Joined) (message : List ℕ) →
    Whole joined ≡ told_of aim.asked.format aim.asked.keep lines line → message ≡ joined.message →
    HasFront aim.before (text_of aim lines ++ (message ++ 10 ∷ [])) written_now → HasFront aim.before (text_of aim (lines ++ line ∷ [])) written_now
front_whole aim lines line written_now joined message is same front =
    let P : List ℕ → Type 0 = λ t. HasFront aim.before t written_now in
    subst P
    (ap (λ (m : List ℕ). text_of aim lines ++ m) (ap (λ (m : List ℕ). m ++ 10 ∷ []) same ∙ sym (append-nil (joined.message ++ 10 ∷ [])))
    ∙ ap (λ (t : Told). text_of aim lines ++ spelled (joined_in t)) is
    ∙ sym (spelled-one aim.asked.format aim.asked.keep lines line))
    front

pub on_ok : {A B : Type 0} (result : Result (Unit {0}) Fault) → (A → B) → OnOk result A → OnOk result B
on_ok (Ok done) f a = f a
on_ok (Err fault) f a = tt

pub on_err : {A B : Type 0} (result : Result (Unit {0}) Fault) → (A → B) → OnErr result A → OnErr result B
on_err (Ok done) f a = tt
on_err (Err fault) f a = f a

-- ---- the lines that were handed out are the first ones of the log

abbrev pub LinesStay : Type 0
LinesStay = (rule : LineRule) (start : ℕ) (bytes more : List ℕ) → (later : List Line) × (complete_lines rule start (bytes ++ more) ≡ complete_lines rule start bytes ++ later)

given_first : LinesStay → (fed : List ℕ) (given : List Line) (cutter : Cutting) → HasCut container_rule 0 fed given cutter → (later : List Line) × (log_lines fed ≡ given ++ later)
given_first law fed given cutter cut =
    let later = law container_rule 0 cut.lined (cut.passed ++ cutter.unread) in
    (later.0, ap log_lines cut.spelled ∙ later.1 ∙ ap (λ (l : List Line). l ++ later.0) cut.lines)

front_of_given : LinesStay → (aim : Aim) (fed : List ℕ) (given : List Line) (cutter : Cutting) (written : Option (List ℕ)) → HasCut container_rule 0 fed given cutter →
    HasFront aim.before (text_of aim given) written → HasFront aim.before (text_of aim (log_lines fed)) written
front_of_given law aim fed given cutter written cut front =
    let later = given_first law fed given cutter cut in
    let P : List Line → Type 0 = λ l. HasFront aim.before (text_of aim l) written in
    subst P (sym later.1) (front_of_more aim given later.0 written front)

pub front_of_log : LinesStay → (aim : Aim) (fed : List ℕ) (lines : List Line) (written : Option (List ℕ)) (log : Conversion) → ConvertsLines aim fed lines written log →
    HasFront aim.before (text_of aim (log_lines fed)) written
front_of_log law aim fed lines written log converts = front_of_given law aim fed lines log.cutter written converts.cut (stands_front aim.before (text_of aim lines) log.output.items written converts.output)

-- a front of what a log spells is one of what it spells with more bytes
pub front_of_fed : LinesStay → (aim : Aim) (fed piece : List ℕ) (written : Option (List ℕ)) → HasFront aim.before (text_of aim (log_lines fed)) written →
    HasFront aim.before (text_of aim (log_lines (fed ++ piece))) written
front_of_fed law aim fed piece written front =
    let later = law container_rule 0 fed piece in
    let P : List Line → Type 0 = λ l. HasFront aim.before (text_of aim l) written in
    subst P (sym later.1) (front_of_more aim (log_lines fed) later.0 written front)

pub front_of_handed : LinesStay → (aim : Aim) (fed : List ℕ) (lines : List Line) (line : Line) (written written_now : Option (List ℕ)) (log : Conversion) → IsHanded aim fed lines line written log →
    HasFront aim.before (text_of aim (lines ++ line ∷ [])) written_now → HasFront aim.before (text_of aim (log_lines fed)) written_now
front_of_handed law aim fed lines line written written_now log handed front = front_of_given law aim fed (lines ++ line ∷ []) log.cutter written_now handed.cut front

-- ---- the next line

pub is_handed : (aim : Aim) (fed : List ℕ) (lines : List Line) (found : Option Line) (line : Line) (written : Option (List ℕ)) (log log_now : Conversion) →
    HasCut container_rule 0 fed (lines ++ option_to_list found) log_now.cutter → found ≡ Some line →
    log_now.joiner ≡ log.joiner → log_now.bad ≡ log.bad → log_now.output ≡ log.output →
    ConvertsLines aim fed lines written log → IsHanded aim fed lines line written log_now
is_handed aim fed lines found line written log log_now cut is joiner bad output converts =
    let C : Option Line → Type 0 = λ f. HasCut container_rule 0 fed (lines ++ option_to_list f) log_now.cutter in
    let J : Joining → Type 0 = HasJoined aim.asked.format aim.asked.keep lines in
    let O : List ℕ → Type 0 = StandsOrWaits aim.before (text_of aim lines) written in
    record {
      cut = subst C is cut;
      joined = subst J (sym joiner) converts.joined;
      bad = bad ∙ converts.bad;
      output = subst O (ap (λ (v : Vec ℕ Global). v.items) (sym output)) converts.output;
    }

-- no other line is complete
pub are_all_told : (aim : Aim) (fed : List ℕ) (lines : List Line) (written : Option (List ℕ)) (log log_now : Conversion) →
    HasCut container_rule 0 fed (lines ++ []) log_now.cutter → log_lines fed ≡ lines →
    log_now.joiner ≡ log.joiner → log_now.bad ≡ log.bad → log_now.output ≡ log.output →
    ConvertsLines aim fed lines written log → ConvertsAll aim fed written log_now
are_all_told aim fed lines written log log_now cut all joiner bad output converts =
    let C : List Line → Type 0 = λ l. HasCut container_rule 0 fed l log_now.cutter in
    let L : List Line → Type 0 = λ l. ConvertsLines aim fed l written log_now in
    let J : Joining → Type 0 = HasJoined aim.asked.format aim.asked.keep lines in
    let O : List ℕ → Type 0 = StandsOrWaits aim.before (text_of aim lines) written in
    subst L (sym all) (record {
      cut = subst C (append-nil lines) cut;
      joined = subst J (sym joiner) converts.joined;
      bad = bad ∙ converts.bad;
      output = subst O (ap (λ (v : Vec ℕ Global). v.items) (sym output)) converts.output;
    })

-- ---- a piece

pub is_fed : (aim : Aim) (fed piece : List ℕ) (written : Option (List ℕ)) (log log_now : Conversion) →
    HasCut container_rule 0 (fed ++ piece) (log_lines fed) log_now.cutter →
    log_now.joiner ≡ log.joiner → log_now.bad ≡ log.bad → log_now.output ≡ log.output →
    ConvertsAll aim fed written log → ConvertsLines aim (fed ++ piece) (log_lines fed) written log_now
is_fed aim fed piece written log log_now cut joiner bad output converts =
    let J : Joining → Type 0 = HasJoined aim.asked.format aim.asked.keep (log_lines fed) in
    let O : List ℕ → Type 0 = StandsOrWaits aim.before (text_of aim (log_lines fed)) written in
    record {
      cut = cut;
      joined = subst J (sym joiner) converts.joined;
      bad = bad ∙ converts.bad;
      output = subst O (ap (λ (v : Vec ℕ Global). v.items) (sym output)) converts.output;
    }
