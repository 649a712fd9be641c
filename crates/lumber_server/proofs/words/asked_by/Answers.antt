use Rattle.std.proofs.Common.{ℕ, List, option_map, subst}
use Rattle.lumber_server.specs.AskedWords.{named_value}
use Rattle.lumber_server.specs.Words.{IsHost, IsNumberTo}
use Rattle.lumber_server.proofs.words.asked_by.Goals as goal

pub returns : goal.returns
returns c =
    let P : List ℕ → Type 0 = λ l. IsHost l (option_map named_value c.host_of.result) in
    let Q : List ℕ → Type 0 = λ l. IsNumberTo 1000000 l c.link_count.result in
    (option_map named_value c.host_of.result, c.link_count.result, subst P c.bytes.ensures.same c.host_of.ensures, subst Q c.bytes-2.ensures.same c.link_count.ensures, c.asked_of.ensures)
