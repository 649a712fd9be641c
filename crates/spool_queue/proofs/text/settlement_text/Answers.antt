use Rattle.std.proofs.Common.{◌≡◌, ◌++◌, ◌∷◌, [], ◌+◌, ◌-◌, ◌≤◌, ℕ, List, length, take, codes, decimal, refl, ap, ◌∙◌, arith, length-drop}
use Rattle.std.proofs.lemmas.Fmt.{decimal_is_IsNumeral, length-decimal-le}
use borrow.Rule.Slice.PartMut.{post_of, put_mid}
use Rattle.spool_queue.specs.Records.{record_of}
use Rattle.spool_queue.proofs.Digits.{short_decimal}
use Rattle.spool_queue.proofs.Texts.{parts_laid, sizes_laid, text_laid}
use Rattle.spool_queue.proofs.text.settlement_text.Goals as goal

pub write_digits-requires : goal.write_digits-requires
write_digits-requires c =
    let same : c.as_bytes-digits.result.now ≡ decimal c.args.settled = c.as_bytes-digits.ensures.value ∙ c.format.ensures.text in
    let few : length c.as_bytes-digits.result.now ≤ 20 = omega (arith, ap length same, short_decimal c.args.settled c.ranges.settled.fits) in
    (length-decimal-le 10 (length c.as_bytes-digits.result.now) (omega arith) (omega (arith, few)) (omega (arith, few)), omega arith)

pub returns-clause-some : goal.returns-clause-some
returns-clause-some c =
    let same : c.as_bytes-digits.result.now ≡ decimal c.args.settled = c.as_bytes-digits.ensures.value ∙ c.format.ensures.text in
    omega (arith, ap length same, (decimal_is_IsNumeral c.args.settled c.ranges.settled.fits).0.0)

pub returns-clause-text : goal.returns-clause-text
returns-clause-text c =
    let digits = c.as_bytes-digits.result.now in
    let n = length digits in
    let same : digits ≡ decimal c.args.settled = c.as_bytes-digits.ensures.value ∙ c.format.ensures.text in
    let few : n ≤ 20 = omega (arith, ap length same, short_decimal c.args.settled c.ranges.settled.fits) in
    let sizes = c.copy_from_slice.new.self in
    let rest = post_of 0 10 c.args.text.now in
    let written = sizes_laid c.write_digits.new.buf c.write_digits.result n c.write_digits.ensures.start c.write_digits.ensures.before c.write_digits.ensures.written in
    let sizes_are = c.copy_from_slice.ensures.after ∙ written in
    let room : length rest ≡ 24 = omega (arith, length-drop 10 c.args.text.now) in
    let ten : length sizes ≡ 10 = omega (arith, c.copy_from_slice.ensures.len) in
    let spaced = c.copy_from_slice-2.ensures.after in
    let laid = c.copy_from_slice-3.ensures.after in
    let ended = c.copy_from_slice-4.ensures.after in
    let whole : take (14 + n) (put_mid (12 + n) (14 + n - (12 + n)) (put_mid 12 (12 + n - 12) (put_mid 10 2 (sizes ++ rest) c.copy_from_slice-2.new.self) c.copy_from_slice-3.new.self) c.copy_from_slice-4.new.self)
    ≡ (sizes ++ 32 ∷ 115 ∷ []) ++ digits ++ 10 ∷ 46 ∷ [] =
    (λ i. take (14 + n) (put_mid (12 + n) (14 + n - (12 + n)) (put_mid 12 (12 + n - 12) (put_mid 10 2 (sizes ++ rest) (spaced i)) (laid i)) (ended i)))
    ∙ parts_laid sizes digits rest n (14 + n - (12 + n)) (12 + n - 12) ten refl room few in
    let text = text_laid _ (sizes ++ 32 ∷ 115 ∷ []) sizes digits 0x73 refl sizes_are whole in
    text ∙ ap (λ (l : List ℕ). record_of 0x73 l ++ codes ".") same
