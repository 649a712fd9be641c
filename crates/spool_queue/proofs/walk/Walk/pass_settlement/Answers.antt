use Rattle.std.proofs.Common.{◌≡◌, ◌+◌, ◌<◌, ◌≤◌, ◌^◌, ℕ, List, length, take, drop, get_or, decimal, refl, sym, ap, ◌∙◌, subst, arith}
use Rattle.std.proofs.lemmas.List.{length-take-le}
use Rattle.wire_base.specs.Decimal.{IsDecimal, value_of}
use Rattle.spool_queue.specs.Log.{Log, payloads}
use Rattle.spool_queue.proofs.Digits.{decimal_is, decimal_of, short_decimal}
use Rattle.spool_queue.proofs.Steps.{Blocked, Settles, byte_of, count_of, digits_there, enough_there, feed_there, front_of, settlement_passed, settles, unrecorded}
use Rattle.spool_queue.proofs.walk.Walk.pass_settlement.Goals as goal

-- the digits that stand there are those of the number
digits_of : (log : Log) (block tail : List ℕ) (count size n : ℕ) → Blocked block tail count → Settles log tail size n → IsDecimal (take size block) × (value_of (take size block) ≡ n)
digits_of log block tail count size n read is =
    let D : List ℕ → Type 0 = λ l. IsDecimal l × (value_of l ≡ n) in
    subst D (sym (digits_there log block tail count size n read is)) (decimal_is n (omega (arith, is.low)) is.small)

pub returns-then-size-clause-told : goal.returns-then-size-clause-told
returns-then-size-clause-told g c = λ bytes log told is head.
    let few : length (payloads log) < 2 ^ 64 = omega (arith, is.events) in (
      unrecorded bytes log c.args.self.now.place c.args.size 0x73 is.reaches few c.requires.size head
          (λ one more stands may. let s = settles log bytes c.args.self.now.place c.args.size one more few stands may in omega (arith, s.1.sized, short_decimal s.0 s.1.small)),
      refl,
    )

pub returns-then-count-size-clause-told : goal.returns-then-count-size-clause-told
returns-then-count-size-clause-told g c = λ bytes log told is head.
    let few : length (payloads log) < 2 ^ 64 = omega (arith, is.events) in
    let tail : List ℕ = drop (c.args.self.now.place + 13) bytes in
    let long : length c.read_full.new.into ≡ 21 = omega arith in
    let read : Blocked c.read_full.new.into tail c.in_ok-count.count = record { long = long; few = omega (arith, c.in_ok-count.ensures.within, long); same = c.in_ok-count.ensures.told bytes told ∙ ap (λ (n : ℕ). take n tail) long } in (
      unrecorded bytes log c.args.self.now.place c.args.size 0x73 is.reaches few c.requires.size head
          (λ one more stands may. let s = settles log bytes c.args.self.now.place c.args.size one more few stands may in
          omega (arith, enough_there log c.read_full.new.into tail c.in_ok-count.count c.args.size s.0 read s.1)),
      refl,
    )

pub returns-then-block-size-ne10-clause-told : goal.returns-then-block-size-ne10-clause-told
returns-then-block-size-ne10-clause-told g c = λ bytes log told is head.
    let few : length (payloads log) < 2 ^ 64 = omega (arith, is.events) in
    let tail : List ℕ = drop (c.args.self.now.place + 13) bytes in
    let long : length c.read_full.new.into ≡ 21 = omega arith in
    let read : Blocked c.read_full.new.into tail c.in_ok-count.count = record { long = long; few = omega (arith, c.in_ok-count.ensures.within, long); same = c.in_ok-count.ensures.told bytes told ∙ ap (λ (n : ℕ). take n tail) long } in (
      unrecorded bytes log c.args.self.now.place c.args.size 0x73 is.reaches few c.requires.size head
          (λ one more stands may. let s = settles log bytes c.args.self.now.place c.args.size one more few stands may in
          c.if-block-size-ne10.true (feed_there log c.read_full.new.into tail c.in_ok-count.count c.args.size s.0 read s.1)),
      refl,
    )

pub returns-in_default-clause-told : goal.returns-in_default-clause-told
returns-in_default-clause-told g c = λ bytes log told is head.
    let few : length (payloads log) < 2 ^ 64 = omega (arith, is.events) in
    let tail : List ℕ = drop (c.args.self.now.place + 13) bytes in
    let long : length c.read_full.new.into ≡ 21 = omega arith in
    let read : Blocked c.read_full.new.into tail c.in_ok-count.count = record { long = long; few = omega (arith, c.in_ok-count.ensures.within, long); same = c.in_ok-count.ensures.told bytes told ∙ ap (λ (n : ℕ). take n tail) long } in (
      unrecorded bytes log c.args.self.now.place c.args.size 0x73 is.reaches few c.requires.size head
          (λ one more stands may. let s = settles log bytes c.args.self.now.place c.args.size one more few stands may in
          let digits = digits_of log c.read_full.new.into tail c.in_ok-count.count c.args.size s.0 read s.1 in
          c.in_default.ensures (digits.0, omega (arith, digits.1, s.1.small))),
      refl,
    )

pub returns-then-settled-self-clause-told : goal.returns-then-settled-self-clause-told
returns-then-settled-self-clause-told g c = λ bytes log told is head.
    let few : length (payloads log) < 2 ^ 64 = omega (arith, is.events) in
    let tail : List ℕ = drop (c.args.self.now.place + 13) bytes in
    let long : length c.read_full.new.into ≡ 21 = omega arith in
    let read : Blocked c.read_full.new.into tail c.in_ok-count.count = record { long = long; few = omega (arith, c.in_ok-count.ensures.within, long); same = c.in_ok-count.ensures.told bytes told ∙ ap (λ (n : ℕ). take n tail) long } in (
      unrecorded bytes log c.args.self.now.place c.args.size 0x73 is.reaches few c.requires.size head
          (λ one more stands may. let s = settles log bytes c.args.self.now.place c.args.size one more few stands may in
          let digits = digits_of log c.read_full.new.into tail c.in_ok-count.count c.args.size s.0 read s.1 in
          omega (arith, digits.1, s.1.low, s.1.high, is.settlements, is.events, c.in-Some.ensures.1)),
      refl,
    )

pub returns-then-settled-self-2-clause-told : goal.returns-then-settled-self-2-clause-told
returns-then-settled-self-2-clause-told g c = λ bytes log told is head.
    let few : length (payloads log) < 2 ^ 64 = omega (arith, is.events) in
    let tail : List ℕ = drop (c.args.self.now.place + 13) bytes in
    let long : length c.read_full.new.into ≡ 21 = omega arith in
    let read : Blocked c.read_full.new.into tail c.in_ok-count.count = record { long = long; few = omega (arith, c.in_ok-count.ensures.within, long); same = c.in_ok-count.ensures.told bytes told ∙ ap (λ (n : ℕ). take n tail) long } in (
      unrecorded bytes log c.args.self.now.place c.args.size 0x73 is.reaches few c.requires.size head
          (λ one more stands may. let s = settles log bytes c.args.self.now.place c.args.size one more few stands may in
          let digits = digits_of log c.read_full.new.into tail c.in_ok-count.count c.args.size s.0 read s.1 in
          omega (arith, digits.1, s.1.low, s.1.high, is.settlements, is.events, c.in-Some.ensures.1)),
      refl,
    )

pub returns-clause-told : goal.returns-clause-told
returns-clause-told g c = λ bytes log told is head.
    let tail : List ℕ = drop (c.args.self.now.place + 13) bytes in
    let block = c.read_full.new.into in
    let count = c.in_ok-count.count in
    let size = c.args.size in
    let settled = c.in-Some.settled in
    let long : length block ≡ 21 = omega arith in
    let few : count ≤ 21 = omega (arith, c.in_ok-count.ensures.within, long) in
    let low : size < count = omega arith in
    let same : take count block ≡ take 21 tail = c.in_ok-count.ensures.told bytes told ∙ ap (λ (n : ℕ). take n tail) long in
    let there : count ≤ length tail = count_of block tail count same (omega (arith, long, few)) in
    let value : settled ≡ value_of (take size block) = c.in-Some.ensures.1 in
    let digits : decimal settled ≡ take size block = ap decimal value ∙ decimal_of (take size block) c.in-Some.ensures.0.0 c.in-Some.ensures.0.1 in
    let front : take size tail ≡ decimal settled = sym (front_of block tail count size same (omega (arith, low)) few) ∙ sym digits in
    let feed : get_or tail size 0 ≡ 10 = sym (byte_of block tail count size same low few (omega (arith, long, few)) (omega (arith, low, there))) ∙ c.if-block-size-ne10.false in
    let sized : size ≡ length (decimal settled) = omega (arith, ap length front, length-take-le size tail (omega (arith, low, there))) in (
      settled,
      record {
        reaches = settlement_passed bytes log c.args.self.now.place size settled is.reaches (omega (arith, value, c.in-Some.ensures.0.1)) (omega (arith, is.settlements), omega (arith, is.events)) head sized front feed (omega (arith, low, there));
        events = is.events;
        settlements = refl;
      },
    )
