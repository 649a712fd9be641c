-- An area has one state: its records are read in one way, and so is what ends them.
use Rattle.std.proofs.Common.{◌≡◌, ◌≢◌, inl, inr, ℕ, ◌+◌, List, [], ◌∷◌, ◌++◌, length, get_or, Some, refl, sym, ap, ◌∙◌, subst, arith, append_assoc, append-nil}
use Rattle.std.specs.List.{flat_map}
use Rattle.wire_base.specs.declared.row.Op.{Op}
use Rattle.registry_frame.specs.Body.{body_bytes}
use Rattle.wire_base.specs.declared.row.Row.{Row}
use Rattle.registry_frame.proofs.OneReading.{same_operations}
use Rattle.ship_core.specs.Replay.{replay}
use Rattle.registry_log.specs.Header.{HasHeader, first_wrong}
use Rattle.registry_log.specs.Reading.{AreRecords, BeginsWithRecord, MayBeRecord}
use Rattle.registry_log.specs.Records.{record_bytes}
use Rattle.registry_log.specs.Starting.{IsClosed}
use Rattle.registry_log.specs.State.{IsBroken, IsOpened, IsState, IsUnclosed, Reaches, State, Blank, Closed, Opened, Broken, operations_of}
use Rattle.registry_log.proofs.RecordsEnd.{record_end}

-- ---- records

-- no record follows these
abbrev pub Ends : List Op → List (List Op) → List ℕ → Type 0
Ends before records rest = BeginsWithRecord (before ++ operations_of records) rest → ⊥

one_later : (before ops : List Op) (records : List (List Op)) (rest : List ℕ) → Ends before (ops ∷ records) rest → Ends (before ++ ops) records rest
one_later before ops records rest ends begins =
    let Begins : List Op → Type 0 = λ l. BeginsWithRecord l rest in ends (subst Begins (append_assoc before ops (operations_of records)) begins)

none_left : (before : List Op) (ops : List Op) (records : List (List Op)) (rest more : List ℕ) → Ends before [] rest → MayBeRecord before ops → rest ≡ flat_map record_bytes (ops ∷ records) ++ more → ⊥
none_left before ops records rest more ends may same =
    let Begins : List Op → Type 0 = λ l. BeginsWithRecord l rest in
    ends (subst Begins (sym (append-nil before)) (ops, flat_map record_bytes records ++ more, same ∙ append_assoc (record_bytes ops) (flat_map record_bytes records) more, may))

same_operation_lists : (before ops others : List Op) → MayBeRecord before ops → MayBeRecord before others → body_bytes ops ≡ body_bytes others → ops ≡ others
same_operation_lists before ops others may might same = same_operations ops others may.each might.each same

pub same_records : (before : List Op) (records others : List (List Op)) (rest more : List ℕ) → AreRecords before records → AreRecords before others → Ends before records rest → Ends before others more
    → flat_map record_bytes records ++ rest ≡ flat_map record_bytes others ++ more → (records ≡ others) × (rest ≡ more)
same_records before [] [] rest more are too ends stops same = (refl, same)
same_records before [] (ops ∷ others) rest more are too ends stops same = absurd (none_left before ops others rest more ends too.0 same)
same_records before (ops ∷ records) [] rest more are too ends stops same = absurd (none_left before ops records more rest stops are.0 (sym same))
same_records before (ops ∷ records) (other ∷ others) rest more are too ends stops same =
    let bytes = record_end (body_bytes ops) (body_bytes other) (flat_map record_bytes records ++ rest) (flat_map record_bytes others ++ more) are.0.body too.0.body
    (sym (append_assoc (record_bytes ops) (flat_map record_bytes records) rest) ∙ same ∙ append_assoc (record_bytes other) (flat_map record_bytes others) more) in
    let first : ops ≡ other = same_operation_lists before ops other are.0 too.0 bytes.0 in
    let Are : List Op → Type 0 = λ l. AreRecords (before ++ l) others in
    let Stop : List Op → Type 0 = λ l. Ends (before ++ l) others more in
    let later = same_records (before ++ ops) records others rest more are.1 (subst Are (sym first) too.1) (one_later before ops records rest ends)
    (subst Stop (sym first) (one_later before other others more stops)) bytes.1 in
    (λ i. first i ∷ later.0 i, later.1)

-- ---- what ends the records

closed_ends : (before : List Op) (gate : ℕ) (rest : List ℕ) → gate ≢ 0x7B → BeginsWithRecord before (gate ∷ rest) → ⊥
closed_ends before gate rest closed (ops, more, same, may) = closed (ap (λ (l : List ℕ). get_or l 0 0) same)

nothing_ends : (before : List Op) → BeginsWithRecord before [] → ⊥
nothing_ends before (ops, more, same, may) = let gates : 0 ≡ 0x7B = ap (λ (l : List ℕ). get_or l 0 0) same in omega (arith, gates)

opened_ends : (area : List ℕ) (generation : ℕ) (rows : List Row) (end : ℕ) (opened : IsOpened area generation rows end) → Ends [] opened.records (opened.gate ∷ opened.rest)
opened_ends area generation rows end opened = closed_ends (operations_of opened.records) opened.gate opened.rest opened.closed

pub record SameReach (generation generation' : ℕ) (records records' : List (List Op)) (place place' : ℕ) (rest rest' : List ℕ) : Type 0 where
  pub generations : generation ≡ generation'
  pub lists : records ≡ records'
  pub places : place ≡ place'
  pub rests : rest ≡ rest'

same_reach : (area : List ℕ) (generation generation' : ℕ) (records records' : List (List Op)) (place place' : ℕ) (rest rest' : List ℕ)
    → Reaches area generation records place rest → Reaches area generation' records' place' rest' → Ends [] records rest → Ends [] records' rest'
    → SameReach generation generation' records records' place place' rest rest'
same_reach area generation generation' records records' place place' rest rest' one other ends stops =
    let both = same_records [] records records' rest rest' one.each other.each ends stops (sym one.bytes ∙ other.bytes) in
    record {
      generations = sym one.header.number ∙ other.header.number;
      lists = both.0;
      places = sym one.begins ∙ ap (λ (l : List (List Op)). 29 + length (flat_map record_bytes l)) both.0 ∙ other.begins;
      rests = both.1;
    }

-- ---- the states

closed_or_not : (area : List ℕ) → IsClosed area → IsUnclosed area → ⊥
closed_or_not [] closed unclosed = closed
closed_or_not (gate ∷ rest) closed unclosed = let same : gate ≡ 0x7B = cc unclosed.gate in closed same

broken_unclosed : (area : List ℕ) (at : ℕ) → IsBroken area at → IsUnclosed area
broken_unclosed area at (inl header) = header.0
broken_unclosed area at (inr (inl lacks)) = lacks.reaches.unclosed
broken_unclosed area at (inr (inr lacks)) = lacks.reaches.unclosed

right_or_wrong : (area : List ℕ) (generation at : ℕ) → HasHeader area generation → first_wrong area ≡ Some at → ⊥
right_or_wrong area generation at header wrong = let right = header.right in cc (right, wrong)

same_opened : (area : List ℕ) (generation generation' : ℕ) (rows rows' : List Row) (end end' : ℕ) → IsOpened area generation rows end → IsOpened area generation' rows' end'
    → (generation ≡ generation') × (rows ≡ rows') × (end ≡ end')
same_opened area generation generation' rows rows' end end' one other =
    let same = same_reach area _ _ _ _ _ _ _ _ one.reaches other.reaches (opened_ends area generation rows end one) (opened_ends area generation' rows' end' other) in
    (same.generations, sym one.replayed ∙ ap (λ (l : List (List Op)). replay (operations_of l)) same.lists ∙ other.replayed, same.places)

opened_or_broken : (area : List ℕ) (generation : ℕ) (rows : List Row) (end at : ℕ) → IsOpened area generation rows end → IsBroken area at → ⊥
opened_or_broken area generation rows end at opened (inl header) = right_or_wrong area generation at opened.reaches.header header.1
opened_or_broken area generation rows end at opened (inr (inl lacks)) =
    let same = same_reach area _ _ _ _ _ _ _ _ opened.reaches lacks.reaches (opened_ends area generation rows end opened) lacks.no_record in
    opened.closed (ap (λ (l : List ℕ). get_or l 0 0) same.rests)
opened_or_broken area generation rows end at opened (inr (inr lacks)) =
    let same = same_reach area _ _ _ _ _ _ _ _ opened.reaches lacks.reaches (opened_ends area generation rows end opened) (nothing_ends _) in
    let rests = same.rests in cc rests

same_break : (area : List ℕ) (at other : ℕ) → IsBroken area at → IsBroken area other → at ≡ other
same_break area at other (inl header) (inl header') = let one = header.1 in let two = header'.1 in cc (one, two)
same_break area at other (inl header) (inr (inl lacks)) = absurd (right_or_wrong area _ at lacks.reaches.header header.1)
same_break area at other (inl header) (inr (inr lacks)) = absurd (right_or_wrong area _ at lacks.reaches.header header.1)
same_break area at other (inr (inl lacks)) (inl header) = absurd (right_or_wrong area _ other lacks.reaches.header header.1)
same_break area at other (inr (inr lacks)) (inl header) = absurd (right_or_wrong area _ other lacks.reaches.header header.1)
same_break area at other (inr (inl lacks)) (inr (inl lacks')) = (same_reach area _ _ _ _ _ _ _ _ lacks.reaches lacks'.reaches lacks.no_record lacks'.no_record).places
same_break area at other (inr (inr lacks)) (inr (inr lacks')) = (same_reach area _ _ _ _ _ _ _ _ lacks.reaches lacks'.reaches (nothing_ends _) (nothing_ends _)).places
same_break area at other (inr (inl lacks)) (inr (inr lacks')) = (same_reach area _ _ _ _ _ _ _ _ lacks.reaches lacks'.reaches lacks.no_record (nothing_ends _)).places
same_break area at other (inr (inr lacks)) (inr (inl lacks')) = (same_reach area _ _ _ _ _ _ _ _ lacks.reaches lacks'.reaches (nothing_ends _) lacks'.no_record).places

pub one_state : (area : List ℕ) (first second : State) → IsState area first → IsState area second → first ≡ second
one_state area Blank Blank is too = refl
one_state area Blank Closed is too = absurd (omega (arith, is, too.0))
one_state area Blank (Opened generation rows start end) is too = absurd (omega (arith, is, too.1.reaches.unclosed.more))
one_state area Blank (Broken at) is too = let unclosed = broken_unclosed area at too in absurd (omega (arith, is, unclosed.more))
one_state area Closed Blank is too = absurd (omega (arith, is.0, too))
one_state area Closed Closed is too = refl
one_state area Closed (Opened generation rows start end) is too = absurd (closed_or_not area is.1 too.1.reaches.unclosed)
one_state area Closed (Broken at) is too = absurd (closed_or_not area is.1 (broken_unclosed area at too))
one_state area (Opened generation rows start end) Blank is too = absurd (omega (arith, too, is.1.reaches.unclosed.more))
one_state area (Opened generation rows start end) Closed is too = absurd (closed_or_not area too.1 is.1.reaches.unclosed)
one_state area (Opened generation rows start end) (Opened generation' rows' start' end') is too =
    let same = same_opened area generation generation' rows rows' end end' is.1 too.1 in
    let starts : start ≡ start' = is.0 ∙ sym too.0 in
    λ i. Opened (same.0 i) (same.1 i) (starts i) (same.2 i)
one_state area (Opened generation rows start end) (Broken at) is too = absurd (opened_or_broken area generation rows end at is.1 too)
one_state area (Broken at) Blank is too = let unclosed = broken_unclosed area at is in absurd (omega (arith, too, unclosed.more))
one_state area (Broken at) Closed is too = absurd (closed_or_not area too.1 (broken_unclosed area at is))
one_state area (Broken at) (Opened generation rows start end) is too = absurd (opened_or_broken area generation rows end at too.1 is)
one_state area (Broken at) (Broken other) is too = ap Broken (same_break area at other is too)
