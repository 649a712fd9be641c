-- Reading on from gate to gate: how an area is after one record more, and how it ends.
use Rattle.std.proofs.Common.{◌≡◌, ◌≢◌, inl, inr, ℕ, ◌+◌, ◌<◌, ◌≤◌, List, [], ◌∷◌, ◌++◌, length, drop, refl, sym, ap, ◌∙◌, subst, arith, append-nil, append_assoc, length-append}
use Rattle.std.specs.List.{flat_map}
use Rattle.wire_base.specs.declared.row.Op.{Op}
use Rattle.wire_base.specs.declared.row.Row.{Row}
use Rattle.ship_core.specs.Replay.{after_op, replay, replay_on}
use Rattle.registry_frame.specs.Body.{body_bytes}
use Rattle.registry_frame.proofs.OneReading.{same_operations}
use Rattle.registry_log.specs.Header.{HasHeader}
use Rattle.registry_log.specs.Reading.{AreRecords, BeginsWithRecord, MayBeRecord}
use Rattle.registry_log.specs.RecordReading.{IsReadUpTo, IsRecord}
use Rattle.registry_log.specs.Records.{padded, record_bytes}
use Rattle.registry_log.specs.State.{IsState, IsUnclosed, Reaches, Opened, Broken, operations_of}
use Rattle.registry_log.proofs.RecordsEnd.{flat_record, record_end}

pub replay_on-append : (rows : List Row) (before ops : List Op) → replay_on rows (before ++ ops) ≡ replay_on (replay_on rows before) ops
replay_on-append rows [] ops = refl
replay_on-append rows (op ∷ before) ops = replay_on-append (after_op rows op) before ops

-- ---- one record more

pushed_records : (before : List Op) (records : List (List Op)) (ops : List Op) → AreRecords before records → MayBeRecord (before ++ operations_of records) ops → AreRecords before (records ++ ops ∷ [])
pushed_records before [] ops are may = let May : List Op → Type 0 = λ l. MayBeRecord l ops in (subst May (append-nil before) may, tt)
pushed_records before (first ∷ records) ops are may =
    let May : List Op → Type 0 = λ l. MayBeRecord l ops in
    (are.0, pushed_records (before ++ first) records ops are.1 (subst May (sym (append_assoc before first (operations_of records))) may))

pub pushed_operations : (records : List (List Op)) (ops : List Op) → operations_of (records ++ ops ∷ []) ≡ operations_of records ++ ops
pushed_operations [] ops = append-nil ops
pushed_operations (first ∷ records) ops = ap (λ (l : List Op). first ++ l) (pushed_operations records ops) ∙ sym (append_assoc first (operations_of records) ops)

pushed_bytes : (records : List (List Op)) (ops : List Op) → flat_map record_bytes (records ++ ops ∷ []) ≡ flat_map record_bytes records ++ record_bytes ops
pushed_bytes [] ops = append-nil (record_bytes ops)
pushed_bytes (first ∷ records) ops =
    ap (λ (l : List ℕ). record_bytes first ++ l) (pushed_bytes records ops) ∙ sym (append_assoc (record_bytes first) (flat_map record_bytes records) (record_bytes ops))

pub pushed : (area : List ℕ) (generation place : ℕ) (records : List (List Op)) (ops : List Op) (more : List ℕ) → Reaches area generation records place (record_bytes ops ++ more)
    → MayBeRecord (operations_of records) ops → Reaches area generation (records ++ ops ∷ []) (place + length (record_bytes ops)) more
pushed area generation place records ops more reaches may =
    let bytes = pushed_bytes records ops in
    record {
      unclosed = reaches.unclosed;
      header = reaches.header;
      each = pushed_records [] records ops reaches.each may;
      bytes = reaches.bytes ∙ sym (append_assoc (flat_map record_bytes records) (record_bytes ops) more) ∙ ap (λ (l : List ℕ). l ++ more) (sym bytes);
      begins = omega (arith, reaches.begins, ap length bytes, length-append (flat_map record_bytes records) (record_bytes ops));
    }

pub replayed_more : (records : List (List Op)) (ops : List Op) (rows : List Row) → replay (operations_of records) ≡ rows → replay (operations_of records ++ ops) ≡ replay_on rows ops
replayed_more records ops rows is = replay_on-append [] (operations_of records) ops ∙ ap (λ (l : List Row). replay_on l ops) is

may_follow : (before ops : List Op) (bytes rest : List ℕ) (rows : List Row) → IsRecord ops bytes rest → replay (before ++ ops) ≡ replay_on rows ops → length (replay_on rows ops) ≤ 65_536 → MayBeRecord before ops
may_follow before ops bytes rest rows is same few = record { some = is.some; each = is.each; body = is.body; rows = omega (arith, few, ap length same) }

pub one_more : (area : List ℕ) (generation place next : ℕ) (rows : List Row) (ops : List Op) → IsReadUpTo area generation place rows → IsRecord ops (drop place area) (drop next area)
    → next ≡ place + length (record_bytes ops) → length (replay_on rows ops) ≤ 65_536 → IsReadUpTo area generation next (replay_on rows ops)
one_more area generation place next rows ops so_far is moved few =
    let same = replayed_more so_far.records ops rows so_far.replayed in
    let Begins : List ℕ → Type 0 = λ l. Reaches area generation so_far.records place l in
    let At : ℕ → Type 0 = λ n. Reaches area generation (so_far.records ++ ops ∷ []) n (drop next area) in
    record {
      records = so_far.records ++ ops ∷ [];
      reaches = subst At (sym moved)
          (pushed area generation place so_far.records ops (drop next area) (subst Begins is.bytes so_far.reaches) (may_follow (operations_of so_far.records) ops (drop place area) (drop next area) rows is same few));
      replayed = ap replay (pushed_operations so_far.records ops) ∙ same;
    }

pub nothing_read : (area : List ℕ) (generation place : ℕ) (rows : List Row) → place ≡ 29 → rows ≡ [] → IsUnclosed area → HasHeader area generation → IsReadUpTo area generation place rows
nothing_read area generation place rows at none unclosed header =
    let At : ℕ → Type 0 = λ n. Reaches area generation [] n (drop n area) in
    record {
      records = [];
      reaches = subst At (sym at) (record { unclosed = unclosed; header = header; each = tt; bytes = refl; begins = refl });
      replayed = sym none;
    }

-- ---- the end

pub closed_end : (area : List ℕ) (generation place : ℕ) (rows : List Row) (gate : ℕ) (rest : List ℕ) → IsReadUpTo area generation place rows → drop place area ≡ gate ∷ rest → gate ≢ 0x7B
    → IsState area (Opened generation rows 29 place)
closed_end area generation place rows gate rest so_far begins closed =
    let Begins : List ℕ → Type 0 = λ l. Reaches area generation so_far.records place l in
    (refl, record { records = so_far.records; gate = gate; rest = rest; reaches = subst Begins begins so_far.reaches; closed = closed; replayed = so_far.replayed })

pub absent_end : (area : List ℕ) (generation place : ℕ) (rows : List Row) → IsReadUpTo area generation place rows → drop place area ≡ [] → IsState area (Broken place)
absent_end area generation place rows so_far ends =
    let Begins : List ℕ → Type 0 = λ l. Reaches area generation so_far.records place l in
    inr (inr (record { generation = generation; records = so_far.records; reaches = subst Begins ends so_far.reaches }))

lacking : (area : List ℕ) (generation place : ℕ) (rows : List Row) (rest : List ℕ) → (so_far : IsReadUpTo area generation place rows) → drop place area ≡ 0x7B ∷ rest
    → (BeginsWithRecord (operations_of so_far.records) (drop place area) → ⊥) → IsState area (Broken place)
lacking area generation place rows rest so_far begins none =
    let Begins : List ℕ → Type 0 = λ l. Reaches area generation so_far.records place l in
    let Lacks : List ℕ → Type 0 = λ l. BeginsWithRecord (operations_of so_far.records) l → ⊥ in
    inr (inl (record { generation = generation; records = so_far.records; rest = rest; reaches = subst Begins begins so_far.reaches; no_record = subst Lacks begins none }))

pub broken_end : (area : List ℕ) (generation place : ℕ) (rows : List Row) (rest : List ℕ) → IsReadUpTo area generation place rows → drop place area ≡ 0x7B ∷ rest
    → ((ops : List Op) (more : List ℕ) → IsRecord ops (drop place area) more → ⊥) → IsState area (Broken place)
broken_end area generation place rows rest so_far begins none =
    lacking area generation place rows rest so_far begins
    (λ found. let may = found.3 in none found.0 found.1 (record { bytes = found.2; some = may.some; each = may.each; body = may.body }))

pub full_end : (area : List ℕ) (generation place : ℕ) (rows : List Row) (ops : List Op) (more : List ℕ) → IsReadUpTo area generation place rows → IsRecord ops (drop place area) more
    → 65_536 < length (replay_on rows ops) → IsState area (Broken place)
full_end area generation place rows ops more so_far is many =
    lacking area generation place rows _ so_far (is.bytes ∙ flat_record (padded 7 (length (body_bytes ops))) (body_bytes ops) more)
    (λ found.
    let may = found.3 in
    let bodies = record_end (body_bytes ops) (body_bytes found.0) more found.1 is.body may.body (sym is.bytes ∙ found.2) in
    let same : ops ≡ found.0 = same_operations ops found.0 is.each may.each bodies.0 in
    let rows_are = replayed_more so_far.records ops rows so_far.replayed in
    let moved : replay (operations_of so_far.records ++ ops) ≡ replay (operations_of so_far.records ++ found.0) = ap (λ (l : List Op). replay (operations_of so_far.records ++ l)) same in
    omega (arith, many, ap length rows_are, ap length moved, may.rows))
