use Rattle.std.proofs.Common.{decimal, refl}
use Rattle.std.proofs.lemmas.Fmt.{parse-decimal}
use Rattle.json.specs.Reads.{token_of}
use Rattle.json.specs.Token as json
use Rattle.registry_frame.specs.Tokens.{number_in}
use Rattle.registry_frame.proofs.Fields.{is_first, none_in, nothing_first, some_in}
use Rattle.registry_frame.proofs.reading.read_number.Goals as goal

pub returns-in_default-clause-reads : goal.returns-in_default-clause-reads
returns-in_default-clause-reads c = λ number rest short begins. nothing_first c.args.reader.now (json.number (decimal number)) rest c.in_default.ensures.value.0 begins

pub returns-in_default-number_in-clause-reads : goal.returns-in_default-number_in-clause-reads
returns-in_default-number_in-clause-reads c = λ number rest short begins.
    let is = is_first c.args.reader.now c.next.new.self (token_of c.in-Some.token) (json.number (decimal number)) rest c.in-Some.ensures.value begins in
    none_in number_in (token_of c.in-Some.token) (json.number (decimal number)) (decimal number) c.in_default-number_in.ensures is.first refl

pub returns-in-Ok-clause-reads : goal.returns-in-Ok-clause-reads
returns-in-Ok-clause-reads c = λ number rest short begins.
    let is = is_first c.args.reader.now c.next.new.self (token_of c.in-Some.token) (json.number (decimal number)) rest c.in-Some.ensures.value begins in
    let digits = some_in number_in (token_of c.in-Some.token) (json.number (decimal number)) c.in-Some-number_in.digits.now (decimal number) c.in-Some-number_in.ensures is.first refl in
    let same = parse-decimal 64 number c.in-Some-number_in.digits.now c.parse.result short short digits c.parse.ensures.value.0 in
    (cc (same, c.in-Ok.is), is.behind)

pub returns-in-Err-clause-reads : goal.returns-in-Err-clause-reads
returns-in-Err-clause-reads c = λ number rest short begins.
    let is = is_first c.args.reader.now c.next.new.self (token_of c.in-Some.token) (json.number (decimal number)) rest c.in-Some.ensures.value begins in
    let digits = some_in number_in (token_of c.in-Some.token) (json.number (decimal number)) c.in-Some-number_in.digits.now (decimal number) c.in-Some-number_in.ensures is.first refl in
    let same = parse-decimal 64 number c.in-Some-number_in.digits.now c.parse.result short short digits c.parse.ensures.value.0 in
    cc (same, c.in-Err.is)
