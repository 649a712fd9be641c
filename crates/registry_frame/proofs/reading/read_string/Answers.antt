use Rattle.std.proofs.Common.{refl, ◌∙◌}
use Rattle.json.specs.Reads.{token_of}
use Rattle.json.specs.Token as json
use Rattle.registry_frame.specs.Tokens.{string_in}
use Rattle.registry_frame.proofs.Fields.{is_first, none_in, nothing_first, some_in}
use Rattle.registry_frame.proofs.reading.read_string.Goals as goal

pub returns-in_default-clause-reads : goal.returns-in_default-clause-reads
returns-in_default-clause-reads c = λ text rest begins. absurd (nothing_first c.args.reader.now (json.string text) rest c.in_default.ensures.value.0 begins)

pub returns-in_default-string_in-clause-reads : goal.returns-in_default-string_in-clause-reads
returns-in_default-string_in-clause-reads c = λ text rest begins.
    let is = is_first c.args.reader.now c.next.new.self (token_of c.in-Some.token) (json.string text) rest c.in-Some.ensures.value begins in
    absurd (none_in string_in (token_of c.in-Some.token) (json.string text) text c.in_default-string_in.ensures is.first refl)

pub returns-clause-reads : goal.returns-clause-reads
returns-clause-reads c = λ text rest begins.
    let is = is_first c.args.reader.now c.next.new.self (token_of c.in-Some.token) (json.string text) rest c.in-Some.ensures.value begins in
    let same = some_in string_in (token_of c.in-Some.token) (json.string text) c.in-Some-string_in.text.now text c.in-Some-string_in.ensures is.first refl in
    (c.from_string.ensures ∙ c.in_ok-from_str.ensures.ok ∙ same, is.behind)
