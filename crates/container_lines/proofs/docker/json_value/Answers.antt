use Rattle.std.proofs.Common.{◌≡◌, ℕ, List, Bool, true, false, Option, Some, None, cond, refl, sym, ◌∙◌, ap}
use Rattle.std.proofs.lemmas.Bool.{false≢true}
use Rattle.std.specs.Prelude.{IsUtf8}
use Rattle.std.specs.Str.{is_utf8}
use Rattle.std.proofs.lemmas.Str.{IsUtf8-from_is_utf8, is_utf8-from_IsUtf8}
use Rattle.serde_json.specs.Data.{Data}
use Rattle.serde_json.specs.Read.{read}
use Rattle.container_lines.specs.Docker.{value_of}
use Rattle.container_lines.proofs.docker.json_value.Goals as goal

read_as : (content : List ℕ) (value : Data) → IsUtf8 content → read content ≡ Some value → Some value ≡ value_of content
unfolding value_of
read_as content value utf8 reads = sym (ap (λ b. cond b (read content) None) (is_utf8-from_IsUtf8 content utf8) ∙ reads)

refused_by : (b : Bool) (found : Option Data) → (b ≡ true → found ≡ None) → None ≡ cond b found None
refused_by true found refused = sym (refused refl)
refused_by false found refused = refl

refused_as : (content : List ℕ) → (IsUtf8 content → read content ≡ None) → None ≡ value_of content
unfolding value_of
refused_as content refused = refused_by (is_utf8 content) (read content) (λ is. refused (IsUtf8-from_is_utf8 content is))

pub returns-in-Ok : goal.returns-in-Ok
returns-in-Ok c = read_as _ _ c.in-Ok.ensures.ok.0 c.in-Ok.ensures.ok.1

pub returns-in-Err-2 : goal.returns-in-Err-2
returns-in-Err-2 c = refused_as _ (c.in-Err.ensures.err (λ memory. false≢true (sym c.if-is_memory.false ∙ c.is_memory.ensures.1 memory)))
