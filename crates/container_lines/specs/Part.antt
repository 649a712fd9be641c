-- What a line of a container log says (Kubernetes' CRI log format; Docker's json-file driver): a text of a stream, which
-- is partial if the container's own line goes on in a later one.
use Rattle.std.specs.Prelude.{ℕ, Bool, true, false, List, codes, Option, Some, None, if◌then◌else◌}
use Rattle.std.specs.Str.{bytes_eq}
use Rattle.container_lines.specs.declared.format.Stream.{Stream}
use Rattle.container_lines.specs.declared.format.Stream.TheVariants.{Stdout, Stderr}
use Rattle.container_lines.specs.declared.format.Keep.{Keep}
use Rattle.container_lines.specs.declared.format.Keep.TheVariants.{All, Only}

pub record Part : Type 0 where
  pub stream : Stream
  pub partial : Bool
  pub text : List ℕ

abbrev pub part_with : Stream → Bool → List ℕ → Part
part_with stream partial text = record { stream = stream; partial = partial; text = text }

abbrev pub stream_named : List ℕ → Option Stream
stream_named name = if bytes_eq name (codes "stdout") then Some Stdout else (if bytes_eq name (codes "stderr") then Some Stderr else None)

abbrev pub is_same : Stream → Stream → Bool
is_same Stdout Stdout = true
is_same Stdout Stderr = false
is_same Stderr Stdout = false
is_same Stderr Stderr = true

-- the lines of this stream are kept
abbrev pub is_kept : Keep → Stream → Bool
is_kept All stream = true
is_kept (Only kept) stream = is_same kept stream
