use Rattle.std.proofs.Common.{◌≡◌, ◌∷◌, [], ◌+◌, ◌<◌, ◌≤◌, ◌^◌, ℕ, List, length, take, drop, get_or, refl, sym, ap, ◌∙◌, arith, length-append}
use Rattle.std.proofs.lemmas.List.{length-take}
use Rattle.spool_queue.specs.Log.{payloads}
use Rattle.spool_queue.proofs.Steps.{event_passed, too_long, unended, unrecorded}
use Rattle.spool_queue.proofs.walk.Walk.pass_event.Goals as goal

one_byte : (last tail : List ℕ) (count : ℕ) → length last ≡ 1 → count ≤ 1 → take count last ≡ take 1 tail → take 1 tail ≡ 10 ∷ [] → (count ≡ 1) × (get_or last 0 0 ≡ 10)
one_byte last tail count one few same ends =
    let whole : count ≡ 1 = omega (arith, few, one, ap length (same ∙ ends), length-take count last) in
    let front : take 1 last ≡ 10 ∷ [] = ap (λ (n : ℕ). take n last) (sym whole) ∙ same ∙ ends in
    (whole, byte_is last front)
  where
    byte_is : (last : List ℕ) → take 1 last ≡ 10 ∷ [] → get_or last 0 0 ≡ 10
    byte_is [] front = absurd (omega (arith, ap length front, length-take {A = ℕ} 1 []))
    byte_is (x ∷ xs) front = ap (λ (l : List ℕ). get_or l 0 0) front

byte_there : (last tail : List ℕ) (count : ℕ) → length last ≡ 1 → count ≡ 1 → take count last ≡ take 1 tail → get_or last 0 0 ≡ 10 → take 1 tail ≡ 10 ∷ []
byte_there [] tail count one some same is = absurd (omega (arith, one))
byte_there (x ∷ xs) tail count one some same is = sym same ∙ ap (λ (n : ℕ). take n (x ∷ xs)) some ∙ ap (λ (b : ℕ). b ∷ []) is

pub returns-then-size-clause-told : goal.returns-then-size-clause-told
returns-then-size-clause-told g c = λ bytes log told is head.
    let few : length (payloads log) < 2 ^ 64 = omega (arith, is.events) in
    let long : 16_777_216 < c.args.size = omega arith in
    (unrecorded bytes log c.args.self.now.place c.args.size 0x65 is.reaches few c.requires.size head (too_long log (drop c.args.self.now.place bytes) c.args.size long), refl)

pub returns-then-count-eq0-clause-told : goal.returns-then-count-eq0-clause-told
returns-then-count-eq0-clause-told g c = λ bytes log told is head.
    let few : length (payloads log) < 2 ^ 64 = omega (arith, is.events) in
    let one : length c.read_full.new.into ≡ 1 = omega arith in
    let tail : List ℕ = drop (c.args.self.now.place + 13 + c.args.size) bytes in
    let same : take c.in_ok-count.count c.read_full.new.into ≡ take 1 tail = c.in_ok-count.ensures.told bytes told ∙ ap (λ (n : ℕ). take n tail) one in (
      unrecorded bytes log c.args.self.now.place c.args.size 0x65 is.reaches few c.requires.size head
          (unended log bytes c.args.self.now.place c.args.size 0x65 (λ ends. let is_one = one_byte c.read_full.new.into tail c.in_ok-count.count one (omega (arith, c.in_ok-count.ensures.within, one)) same ends in omega (arith, is_one.0))),
      refl,
    )

pub returns-then-last-ne10-clause-told : goal.returns-then-last-ne10-clause-told
returns-then-last-ne10-clause-told g c = λ bytes log told is head.
    let few : length (payloads log) < 2 ^ 64 = omega (arith, is.events) in
    let one : length c.read_full.new.into ≡ 1 = omega arith in
    let tail : List ℕ = drop (c.args.self.now.place + 13 + c.args.size) bytes in
    let same : take c.in_ok-count.count c.read_full.new.into ≡ take 1 tail = c.in_ok-count.ensures.told bytes told ∙ ap (λ (n : ℕ). take n tail) one in (
      unrecorded bytes log c.args.self.now.place c.args.size 0x65 is.reaches few c.requires.size head
          (unended log bytes c.args.self.now.place c.args.size 0x65 (λ ends. let is_one = one_byte c.read_full.new.into tail c.in_ok-count.count one (omega (arith, c.in_ok-count.ensures.within, one)) same ends in c.if-last-ne10.true is_one.1)),
      refl,
    )

pub returns-clause-told : goal.returns-clause-told
returns-clause-told g c = λ bytes log told is head.
    let one : length c.read_full.new.into ≡ 1 = omega arith in
    let tail : List ℕ = drop (c.args.self.now.place + 13 + c.args.size) bytes in
    let same : take c.in_ok-count.count c.read_full.new.into ≡ take 1 tail = c.in_ok-count.ensures.told bytes told ∙ ap (λ (n : ℕ). take n tail) one in
    let ends = byte_there c.read_full.new.into tail c.in_ok-count.count one (omega (arith, c.in_ok-count.ensures.within, one, c.if-count-eq0.false)) same c.if-last-ne10.false in
    let passed = event_passed bytes log c.args.self.now.place c.args.size is.reaches (omega arith) head ends in
    (record { reaches = passed.0; events = omega (arith, is.events, length-append (payloads log) (take c.args.size (drop (c.args.self.now.place + 13) bytes) ∷ [])); settlements = is.settlements }, passed.1)
