-- One step of a walk over a spool: a record that is passed, or none that may follow.
use Rattle.std.proofs.Common.{◌≡◌, ◌≢◌, ◌⊎◌, inl, inr, ℕ, ◌+◌, ◌^◌, ◌<◌, ◌≤◌, List, [], ◌∷◌, ◌++◌, length, take, drop, get_or, refl, sym, ap, ◌∙◌, subst, arith, decimal, append_assoc, length-append, length-drop}
use Rattle.std.proofs.lemmas.List.{drop-drop, drop_more, get_or_at, length-take, length-take-le, take-take, take_all, take_at, take_more}
use Rattle.spool_queue.specs.Log.{Log, Then, MayFollow, log_bytes, payloads, settled}
use Rattle.spool_queue.specs.Records.{Record, Event, Settlement, body_of, head_bytes, kind_of, record_bytes}
use Rattle.spool_queue.specs.Spool.{BeginsWithRecord, BreaksAt, EndsAt, Reaches}
use Rattle.spool_queue.specs.Walking.{IsNoHead}
use Rattle.spool_queue.proofs.Digits.{short_decimal}
use Rattle.spool_queue.proofs.Heads.{Stands, ended_by, found, head_of, record_length, stands}

-- the bytes that are left begin at the gate
abbrev pub Stood : List ℕ → Log → ℕ → Type 0
Stood bytes log place = Reaches bytes log place (drop place bytes)

reached : (bytes : List ℕ) (log : Log) (place : ℕ) (more : List ℕ) → Stood bytes log place → drop place bytes ≡ more → Reaches bytes log place more
reached bytes log place more is same = let R : List ℕ → Type 0 = λ l. Reaches bytes log place l in subst R same is

first_of : (rest : List ℕ) (byte : ℕ) (more : List ℕ) → take 13 rest ≡ byte ∷ more → (behind : List ℕ) × (rest ≡ byte ∷ behind)
first_of [] byte more same = let none = take_all {A = ℕ} 13 [] (omega arith) in cc
first_of (x ∷ xs) byte more same = (xs, ap (λ (l : List ℕ). get_or l 0 0 ∷ xs) same)

nil_of : (rest : List ℕ) → take 13 rest ≡ [] → rest ≡ []
nil_of [] same = refl
nil_of (x ∷ xs) same = absurd (cc same)

-- ---- no record

pub absent : (bytes : List ℕ) (log : Log) (place : ℕ) → Stood bytes log place → take 13 (drop place bytes) ≡ [] → BreaksAt bytes log place
absent bytes log place is none = inr (reached bytes log place [] is (nil_of (drop place bytes) none))

pub closed : (bytes : List ℕ) (log : Log) (place gate : ℕ) (more : List ℕ) → Stood bytes log place → take 13 (drop place bytes) ≡ gate ∷ more → gate ≢ 0x7B → EndsAt bytes log place
closed bytes log place gate more is front shut =
    let first = first_of (drop place bytes) gate more front in
    record { gate = gate; rest = first.0; reaches = reached bytes log place (gate ∷ first.0) is first.1; closed = shut }

lacks : (bytes : List ℕ) (log : Log) (place : ℕ) (more : List ℕ) → Stood bytes log place → take 13 (drop place bytes) ≡ 0x7B ∷ more → (BeginsWithRecord log (drop place bytes) → ⊥) → BreaksAt bytes log place
lacks bytes log place more is front none =
    let first = first_of (drop place bytes) 0x7B more front in
    let Begins : List ℕ → Type 0 = λ l. BeginsWithRecord log l in
    inl (record { rest = first.0; reaches = reached bytes log place (0x7B ∷ first.0) is first.1; no_record = λ begins. none (subst Begins (sym first.1) begins) })

pub short_body : (log : Log) (one : Record) → MayFollow log one → length (payloads log) < 2 ^ 64 → length (body_of one) < 10 ^ 10
short_body log (Event payload) may few = omega (arith, may)
short_body log (Settlement count) may few = omega (arith, short_decimal count (omega (arith, may.1, few)))

either_kind : (one : Record) → (kind_of one ≡ 0x65) ⊎ (kind_of one ≡ 0x73)
either_kind (Event payload) = inl refl
either_kind (Settlement count) = inr refl

pub broken : (bytes : List ℕ) (log : Log) (place : ℕ) (more : List ℕ) → Stood bytes log place → length (payloads log) < 2 ^ 64 → take 13 (drop place bytes) ≡ 0x7B ∷ more → IsNoHead (take 13 (drop place bytes)) → BreaksAt bytes log place
broken bytes log place more is few front none =
    lacks bytes log place more is front
    (λ begins. let low = short_body log begins.0 begins.3 few in none (length (body_of begins.0)) (kind_of begins.0) low (either_kind begins.0) (head_of (drop place bytes) begins.0 begins.1 low begins.2))

-- behind a head no record stands of which this cannot be
pub unrecorded : (bytes : List ℕ) (log : Log) (place size kind : ℕ) → Stood bytes log place → length (payloads log) < 2 ^ 64 → size < 10 ^ 10 → take 13 (drop place bytes) ≡ head_bytes size kind
    → ((one : Record) (more : List ℕ) → Stands (drop place bytes) size kind one more → MayFollow log one → ⊥) → BreaksAt bytes log place
unrecorded bytes log place size kind is few low head none =
    lacks bytes log place _ is head
    (λ begins. none begins.0 begins.1 (stands (drop place bytes) size kind begins.0 begins.1 low (short_body log begins.0 begins.3 few) head begins.2) begins.3)

-- the body stands thirteen bytes behind the gate
tail_at : (bytes : List ℕ) (place : ℕ) → drop 13 (drop place bytes) ≡ drop (place + 13) bytes
tail_at bytes place = drop-drop 13 place bytes

-- ---- events

pub too_long : (log : Log) (rest : List ℕ) (size : ℕ) → 16_777_216 < size → (one : Record) (more : List ℕ) → Stands rest size 0x65 one more → MayFollow log one → ⊥
too_long log rest size long (Event payload) more is may = omega (arith, long, is.sized, may)
too_long log rest size long (Settlement count) more is may = omega (arith, is.kinds)

pub unended : (log : Log) (bytes : List ℕ) (place size kind : ℕ) → (take 1 (drop (place + 13 + size) bytes) ≡ 10 ∷ [] → ⊥) → (one : Record) (more : List ℕ) → Stands (drop place bytes) size kind one more → MayFollow log one → ⊥
unended log bytes place size kind other one more is may =
    let ends = ended_by (drop 13 (drop place bytes)) (body_of one) more size is.sized is.tail in
    let at : drop size (drop 13 (drop place bytes)) ≡ drop (place + 13 + size) bytes = ap (drop size) (tail_at bytes place) ∙ drop-drop size (place + 13) bytes in
    other (ap (take 1) (sym at ∙ ends.1) ∙ take_at (10 ∷ []) more 1 refl)

pushed : (bytes : List ℕ) (log : Log) (place next : ℕ) (one : Record) (rest : List ℕ) → Stood bytes log place → MayFollow log one → drop place bytes ≡ record_bytes one ++ rest → place + length (record_bytes one) ≡ next → Reaches bytes (Then log one) next rest
pushed bytes log place next one rest is may same sized = record {
  each = (is.each, may);
  bytes = is.bytes ∙ ap (λ (l : List ℕ). log_bytes log ++ l) same ∙ sym (append_assoc (log_bytes log) (record_bytes one) rest);
  begins = omega (arith, is.begins, sized, length-append (log_bytes log) (record_bytes one));
}

-- a line feed, and what follows it
fed : (bytes : List ℕ) (at : ℕ) → take 1 (drop at bytes) ≡ 10 ∷ [] → drop at bytes ≡ 10 ∷ drop (at + 1) bytes
fed bytes at same = by_rest (drop at bytes) same ∙ ap (λ (l : List ℕ). 10 ∷ l) (drop-drop 1 at bytes)
  where
    by_rest : (rest : List ℕ) → take 1 rest ≡ 10 ∷ [] → rest ≡ 10 ∷ drop 1 rest
    by_rest [] same = let none = take_all {A = ℕ} 1 [] (omega arith) in cc
    by_rest (x ∷ xs) same = ap (λ (l : List ℕ). get_or l 0 0 ∷ xs) same

-- a record of so many bytes that ends with a line feed is passed
passed : (bytes : List ℕ) (log : Log) (place size : ℕ) (one : Record) → Stood bytes log place → MayFollow log one → length (body_of one) < 10 ^ 10 → take 13 (drop place bytes) ≡ head_bytes size (kind_of one) → size ≡ length (body_of one)
    → take size (drop (place + 13) bytes) ≡ body_of one → drop (place + 13 + size) bytes ≡ 10 ∷ drop (place + 14 + size) bytes → Reaches bytes (Then log one) (place + 14 + size) (drop (place + 14 + size) bytes)
passed bytes log place size one is may low head sized front ended =
    let there = found (drop place bytes) (body_of one) (drop (place + 14 + size) bytes) size (kind_of one) head sized (ap (take size) (tail_at bytes place) ∙ front)
    (ap (drop size) (tail_at bytes place) ∙ drop-drop size (place + 13) bytes ∙ ended) in
    pushed bytes log place (place + 14 + size) one (drop (place + 14 + size) bytes) is may there (omega (arith, sized, record_length (kind_of one) (body_of one) low))

one_behind : (bytes : List ℕ) (place size : ℕ) → drop (place + 13 + size + 1) bytes ≡ drop (place + 14 + size) bytes
one_behind bytes place size = let same : place + 13 + size + 1 ≡ place + 14 + size = omega arith in ap (λ (n : ℕ). drop n bytes) same

pub event_passed : (bytes : List ℕ) (log : Log) (place size : ℕ) → Stood bytes log place → size ≤ 16_777_216 → take 13 (drop place bytes) ≡ head_bytes size 0x65 → take 1 (drop (place + 13 + size) bytes) ≡ 10 ∷ []
    → Reaches bytes (Then log (Event (take size (drop (place + 13) bytes)))) (place + 14 + size) (drop (place + 14 + size) bytes) × (length (take size (drop (place + 13) bytes)) ≡ size)
event_passed bytes log place size is fits head ends =
    let feed = fed bytes (place + 13 + size) ends in
    let lengths = ap length feed in
    let enough : size ≤ length (drop (place + 13) bytes) = omega (arith, lengths, length-drop (place + 13 + size) bytes, length-drop (place + 13) bytes) in
    let sized = length-take-le size (drop (place + 13) bytes) enough in (
      passed bytes log place size (Event (take size (drop (place + 13) bytes))) is (omega (arith, sized, fits)) (omega (arith, sized, fits)) head (sym sized) refl
          (feed ∙ ap (λ (l : List ℕ). 10 ∷ l) (one_behind bytes place size)),
      sized,
    )

-- ---- settlements

-- what a settlement says of the bytes behind the head
pub record Settles (log : Log) (tail : List ℕ) (size count : ℕ) : Type 0 where
  pub sized : size ≡ length (decimal count)
  pub low : settled log < count
  pub high : count ≤ length (payloads log)
  pub small : count < 2 ^ 64
  pub front : take size tail ≡ decimal count
  pub ended : get_or tail size 0 ≡ 10
  pub long : size < length tail

pub settles : (log : Log) (bytes : List ℕ) (place size : ℕ) (one : Record) (more : List ℕ) → length (payloads log) < 2 ^ 64 → Stands (drop place bytes) size 0x73 one more → MayFollow log one → (count : ℕ) × Settles log (drop (place + 13) bytes) size count
settles log bytes place size (Event payload) more few is may = absurd (omega (arith, is.kinds))
settles log bytes place size (Settlement count) more few is may =
    let tail : drop (place + 13) bytes ≡ decimal count ++ 10 ∷ more = sym (tail_at bytes place) ∙ is.tail in
    let ends = ended_by (drop (place + 13) bytes) (decimal count) more size is.sized tail in (
      count,
      record {
        sized = is.sized;
        low = may.0;
        high = may.1;
        small = omega (arith, may.1, few);
        front = ends.0;
        ended = ap (λ (l : List ℕ). get_or l size 0) tail ∙ get_or_at (decimal count) 10 more 0 size (sym is.sized);
        long = omega (arith, ap length tail, is.sized, length-append (decimal count) (10 ∷ more));
      },
    )

-- the first so many bytes of a block that was read
pub front_of : (block tail : List ℕ) (count size : ℕ) → take count block ≡ take 21 tail → size ≤ count → count ≤ 21 → take size block ≡ take size tail
front_of block tail count size same low few = sym (take-take size count block low) ∙ ap (take size) same ∙ take-take size 21 tail (omega (arith, low, few))

last_of : (xs : List ℕ) (i : ℕ) → i < length xs → get_or (take (i + 1) xs) i 0 ≡ get_or xs i 0
last_of xs i inside = ap (λ (l : List ℕ). get_or l i 0) (take_more xs i 0 inside) ∙ get_or_at (take i xs) (get_or xs i 0) [] 0 i (length-take-le i xs (omega (arith, inside)))

pub byte_of : (block tail : List ℕ) (count size : ℕ) → take count block ≡ take 21 tail → size < count → count ≤ 21 → count ≤ length block → size < length tail → get_or block size 0 ≡ get_or tail size 0
byte_of block tail count size same low few within long =
    sym (last_of block size (omega (arith, low, within))) ∙ ap (λ (l : List ℕ). get_or l size 0) (front_of block tail count (size + 1) same (omega (arith, low)) few) ∙ last_of tail size long

pub count_of : (block tail : List ℕ) (count : ℕ) → take count block ≡ take 21 tail → count ≤ length block → count ≤ length tail
count_of block tail count same within = omega (arith, length-take-le count block within, ap length same, length-take 21 tail)

pub settlement_passed : (bytes : List ℕ) (log : Log) (place size count : ℕ) → Stood bytes log place → count < 2 ^ 64 → MayFollow log (Settlement count) → take 13 (drop place bytes) ≡ head_bytes size 0x73 → size ≡ length (decimal count)
    → take size (drop (place + 13) bytes) ≡ decimal count → get_or (drop (place + 13) bytes) size 0 ≡ 10 → size < length (drop (place + 13) bytes) → Reaches bytes (Then log (Settlement count)) (place + 14 + size) (drop (place + 14 + size) bytes)
settlement_passed bytes log place size count is small may head sized front ended long =
    passed bytes log place size (Settlement count) is may (omega (arith, short_decimal count small)) head sized front
    (sym (drop-drop size (place + 13) bytes) ∙ drop_more (drop (place + 13) bytes) size 0 long
    ∙ (λ i. ended i ∷ (drop-drop (size + 1) (place + 13) bytes ∙ ap (λ (n : ℕ). drop n bytes) (sum place size)) i))
  where
    sum : (place size : ℕ) → place + 13 + (size + 1) ≡ place + 14 + size
    sum place size = omega arith

-- so many bytes of a block that was read are those of the spool behind a head
pub record Blocked (block tail : List ℕ) (count : ℕ) : Type 0 where
  pub long : length block ≡ 21
  pub few : count ≤ 21
  pub same : take count block ≡ take 21 tail

pub enough_there : (log : Log) (block tail : List ℕ) (count size n : ℕ) → Blocked block tail count → Settles log tail size n → size < count
enough_there log block tail count size n read is =
    omega (arith, read.long, read.few, length-take-le count block, ap length read.same, length-take 21 tail, is.long, is.sized, short_decimal n is.small)

pub digits_there : (log : Log) (block tail : List ℕ) (count size n : ℕ) → Blocked block tail count → Settles log tail size n → take size block ≡ decimal n
digits_there log block tail count size n read is =
    front_of block tail count size read.same (omega (arith, enough_there log block tail count size n read is)) read.few ∙ is.front

pub feed_there : (log : Log) (block tail : List ℕ) (count size n : ℕ) → Blocked block tail count → Settles log tail size n → get_or block size 0 ≡ 10
feed_there log block tail count size n read is =
    byte_of block tail count size read.same (enough_there log block tail count size n read is) read.few (omega (arith, read.long, read.few)) is.long ∙ is.ended
