-- Worked values of the container's own lines, computed by the definition.
use Rattle.std.proofs.Common.{◌≡◌, ℕ, List, [], ◌∷◌, ◌++◌, true, false, map, Some, None, refl}
use Rattle.std.specs.Prelude.{codes}
use Rattle.std.specs.Str.{is_utf8, chars}
use Rattle.serde_json.proofs.OnLiterals.{serde_json_on_literals}
use Rattle.container_lines.specs.declared.format.Format.TheVariants.{Cri, Docker}
use Rattle.container_lines.specs.declared.format.Stream.TheVariants.{Stdout, Stderr}
use Rattle.container_lines.specs.declared.format.Keep.TheVariants.{All, Only}
use Rattle.container_lines.specs.declared.told.Joined.{Joined}
use Rattle.container_lines.specs.Part.{part_with}
use Rattle.container_lines.specs.Cri.{cri_part}
use Rattle.container_lines.specs.Docker.{value_of, docker_part}
use Rattle.container_lines.specs.Parts.{part_of}
use Rattle.container_lines.specs.Joined.{joined_lines, log_lines, plain}
use Rattle.container_lines.specs.Bad.{bad_lines}

abbrev ended : List ℕ → List ℕ
ended line = line ++ 10 ∷ []

-- lines of both streams, one of them partial
abbrev cri_log : List ℕ
cri_log = ended (codes "t stdout P ab") ++ (ended (codes "t stderr F x") ++ ended (codes "t stdout F cd"))

abbrev from_to : ℕ → ℕ → Rattle.wire_base.specs.Extent.Extent
from_to start end = record { start = start; end = end }

cri_lines_of_both_streams : plain Cri All cri_log ≡ ended (codes "x") ++ ended (codes "abcd")
unfolding part_of
cri_lines_of_both_streams = refl

cri_parts : map (λ (joined : Joined). joined.parts) (joined_lines Cri All (log_lines cri_log)) ≡ (from_to 14 27 ∷ []) ∷ (from_to 0 14 ∷ from_to 27 41 ∷ []) ∷ []
unfolding part_of
cri_parts = refl

-- the lines of one stream alone
cri_lines_of_one_stream : plain Cri (Only Stdout) cri_log ≡ ended (codes "abcd")
unfolding part_of
cri_lines_of_one_stream = refl

-- a partial line at the end waits
partial_line_waits : plain Cri All (ended (codes "t stdout F a") ++ ended (codes "t stdout P b")) ≡ ended (codes "a")
unfolding part_of
partial_line_waits = refl

-- a tag may have further tags; behind it there may be nothing, a space, or a text with spaces
further_tags : cri_part (codes "t stderr P:a:b x y") ≡ Some (part_with Stderr true (codes "x y"))
further_tags = refl

nothing_behind_the_tag : cri_part (codes "t stdout F") ≡ Some (part_with Stdout false [])
nothing_behind_the_tag = refl

space_behind_the_tag : cri_part (codes "t stdout F  ") ≡ Some (part_with Stdout false (codes " "))
space_behind_the_tag = refl

-- no stamp, a stream of another name, tags of two letters and of another letter, and a missing field
no_stamp : cri_part (codes " stdout F x") ≡ None
no_stamp = refl

other_stream : cri_part (codes "t stdin F x") ≡ None
other_stream = refl

tag_of_two_letters : cri_part (codes "t stdout PF x") ≡ None
tag_of_two_letters = refl

other_tag : cri_part (codes "t stdout p x") ≡ None
other_tag = refl

no_tag : cri_part (codes "t stdout") ≡ None
no_tag = refl

-- the last line feed is left out, a line without one is partial
docker_whole : docker_part (codes "{\"log\":\"cd\\n\",\"stream\":\"stdout\",\"time\":\"t\"}") ≡ Some (part_with Stdout false (codes "cd"))
unfolding value_of is_utf8 chars serde_json_on_literals
docker_whole = refl

docker_partial : docker_part (codes "{\"attrs\":{\"a\":1},\"log\":\"\",\"stream\":\"stderr\",\"time\":\"t\"}") ≡ Some (part_with Stderr true [])
unfolding value_of is_utf8 chars serde_json_on_literals
docker_partial = refl

-- no object, no `time`, and a `log` that is no text
docker_no_object : docker_part (codes "x") ≡ None
unfolding value_of is_utf8 chars serde_json_on_literals
docker_no_object = refl

docker_no_time : docker_part (codes "{\"log\":\"a\",\"stream\":\"stdout\"}") ≡ None
unfolding value_of is_utf8 chars serde_json_on_literals
docker_no_time = refl

docker_no_text : docker_part (codes "{\"log\":1,\"stream\":\"stdout\",\"time\":\"t\"}") ≡ None
unfolding value_of is_utf8 chars serde_json_on_literals
docker_no_text = refl

abbrev docker_log : List ℕ
docker_log = ended (codes "{\"log\":\"ab\",\"stream\":\"stdout\",\"time\":\"t\"}") ++ (ended (codes "{\"log\":\"cd\\n\",\"stream\":\"stdout\",\"time\":\"t\"}") ++ ended (codes "x"))

docker_lines : plain Docker All docker_log ≡ ended (codes "abcd")
unfolding part_of value_of is_utf8 chars serde_json_on_literals
docker_lines = refl

docker_bad_line : map (λ (line : Rattle.line_cutter.specs.declared.line.Line.Line). line.span.start) (bad_lines Docker (log_lines docker_log)) ≡ 86 ∷ []
unfolding part_of value_of is_utf8 chars serde_json_on_literals
docker_bad_line = refl
