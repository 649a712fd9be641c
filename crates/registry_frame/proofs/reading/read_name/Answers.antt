use Rattle.std.proofs.Common.{refl}
use Rattle.json.specs.Reads.{token_of}
use Rattle.json.specs.Token as json
use Rattle.registry_frame.specs.Tokens.{name_in}
use Rattle.registry_frame.proofs.Fields.{is_first, none_in, nothing_first, some_in}
use Rattle.registry_frame.proofs.reading.read_name.Goals as goal

pub returns-in_default-clause-reads : goal.returns-in_default-clause-reads
returns-in_default-clause-reads c = λ name rest begins. nothing_first c.args.reader.now (json.key name) rest c.in_default.ensures.value.0 begins

pub returns-in-Some-name_in-clause-reads : goal.returns-in-Some-name_in-clause-reads
returns-in-Some-name_in-clause-reads c = λ name rest begins.
    let is = is_first c.args.reader.now c.next.new.self (token_of c.in-Some.token) (json.key name) rest c.in-Some.ensures.value begins in
    (some_in name_in (token_of c.in-Some.token) (json.key name) c.in-Some-name_in.name.now name c.in-Some-name_in.ensures is.first refl, is.behind)

pub returns-in-None-clause-reads : goal.returns-in-None-clause-reads
returns-in-None-clause-reads c = λ name rest begins.
    let is = is_first c.args.reader.now c.next.new.self (token_of c.in-Some.token) (json.key name) rest c.in-Some.ensures.value begins in
    none_in name_in (token_of c.in-Some.token) (json.key name) name c.in-None.ensures is.first refl
