use Rattle.std.proofs.Common.{◌≡◌, ◌+◌, ◌<◌, ◌^◌, ◌∷◌, ◌++◌, [], ℕ, List, Some, length, ap, ◌∙◌, arith, codes, length-append}
use Rattle.spool_queue.specs.Records.{Event, record_of}
use Rattle.spool_queue.specs.Log.{payloads}
use Rattle.spool_queue.proofs.Heads.{record_length}
use Rattle.spool_queue.proofs.Standings.{holds_of, moments, stands_with, with_event}
use Rattle.spool_queue.proofs.spool.Spool.put.Goals as goal

pub returns-in_err-add-clause-each_moment : goal.returns-in_err-add-clause-each_moment
returns-in_err-add-clause-each_moment g c = λ only bytes list told is.
    let payload = c.args.payload.now in
    let spelled : 0x7B ∷ c.deref.result.now ≡ record_of 0x65 payload ++ codes "." = ap (λ (l : List ℕ). 0x7B ∷ l) c.deref.ensures.value ∙ c.in_ok-text.ensures in
    moments g.D.Disk.moment g.D.Disk.images_since c.args.disk.now c.add.new.disk (g.D.Disk.contents c.args.disk.now) bytes is.log c.args.self.now.end (Event payload) c.deref.result.now list (list ++ payload ∷ []) told is.ends (omega arith) spelled is.list_is
    (with_event is.log payload is.ends.reaches.each ∙ ap (λ (l : List (List ℕ)). l ++ payload ∷ []) is.list_is) (c.add.ensures.each_moment only)

pub returns-clause-put : goal.returns-clause-put
returns-clause-put g c = λ bytes list told is.
    let payload = c.args.payload.now in
    let spelled : 0x7B ∷ c.deref.result.now ≡ record_of 0x65 payload ++ codes "." = ap (λ (l : List ℕ). 0x7B ∷ l) c.deref.ensures.value ∙ c.in_ok-text.ensures in
    holds_of _ _ _ _ (c.in_ok-add.ensures.appended _ is.ends.rest is.ends.gate (told ∙ ap (λ (l : List ℕ). Some l) is.ends.reaches.bytes) is.ends.reaches.begins)
    (stands_with _ is.log (Event payload) c.deref.result.now is.ends.rest (list ++ payload ∷ []) c.args.self.now.end is.ends.reaches.each is.ends.reaches.begins (omega arith) spelled
    c.in_ok-add.ensures.end (omega (arith, is.events, c.add.ensures.events, length-append (payloads is.log) (payload ∷ []))) (is.settlements ∙ omega (arith, c.add.ensures.settled))
    (with_event is.log payload is.ends.reaches.each ∙ ap (λ (l : List (List ℕ)). l ++ payload ∷ []) is.list_is))

pub returns-clause-room : goal.returns-clause-room
returns-clause-room g c =
    let payload = c.args.payload.now in
    let spelled : 0x7B ∷ c.deref.result.now ≡ record_of 0x65 payload ++ codes "." = ap (λ (l : List ℕ). 0x7B ∷ l) c.deref.ensures.value ∙ c.in_ok-text.ensures in
    let short : length payload < 10 ^ 10 = omega arith in
    let sized : length c.deref.result.now ≡ length payload + 14 = omega (arith, ap length spelled, length-append (record_of 0x65 payload) (codes "."), record_length 0x65 payload short) in
    omega (arith, sized, c.in_ok-add.ensures.end, c.add.ensures.events, c.add.ensures.settled, c.outstanding.ensures.counted)

pub returns-clause-each_moment : goal.returns-clause-each_moment
returns-clause-each_moment g c = λ only bytes list told is.
    let payload = c.args.payload.now in
    let spelled : 0x7B ∷ c.deref.result.now ≡ record_of 0x65 payload ++ codes "." = ap (λ (l : List ℕ). 0x7B ∷ l) c.deref.ensures.value ∙ c.in_ok-text.ensures in
    moments g.D.Disk.moment g.D.Disk.images_since c.args.disk.now c.add.new.disk (g.D.Disk.contents c.args.disk.now) bytes is.log c.args.self.now.end (Event payload) c.deref.result.now list (list ++ payload ∷ []) told is.ends (omega arith) spelled is.list_is
    (with_event is.log payload is.ends.reaches.each ∙ ap (λ (l : List (List ℕ)). l ++ payload ∷ []) is.list_is) (c.add.ensures.each_moment only)

pub returns-clause-reserves : goal.returns-clause-reserves
returns-clause-reserves g c =
    let payload = c.args.payload.now in
    let spelled : 0x7B ∷ c.deref.result.now ≡ record_of 0x65 payload ++ codes "." = ap (λ (l : List ℕ). 0x7B ∷ l) c.deref.ensures.value ∙ c.in_ok-text.ensures in
    let short : length payload < 10 ^ 10 = omega arith in
    let sized : length c.deref.result.now ≡ length payload + 14 = omega (arith, ap length spelled, length-append (record_of 0x65 payload) (codes "."), record_length 0x65 payload short) in
    omega (arith, sized, c.in_ok-add.ensures.end, c.add.ensures.events, c.add.ensures.settled)
