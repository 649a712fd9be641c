-- A worker as it begins, and with other passes (this project's profile).
use Rattle.std.specs.Prelude.{[], Some, None}
use Rattle.event_tree.specs.declared.output_rule.OutputRule.{OutputRule}
use Rattle.lumber_client.specs.Held.{nothing_held}
use Rattle.mem_queue.specs.Known.{Known}
use Rattle.settle_box.specs.Poster.{Poster}
use Rattle.wire_base.specs.declared.host.Host.{Host}
use Rattle.batch_worker.specs.Working.{Working}

-- without a link and without parcels
abbrev pub begun_with : {L : Type 0} → Host → OutputRule → Known → Poster → Working L
begun_with host rule take post = record {
  host = host;
  timeout = rule.timeout;
  take = Some take;
  post = Some post;
  link = None;
  window = nothing_held rule.bulk_max_size rule.pipelining;
  refused = None;
  failures = 0;
  failed = record { 0 = 0 };
  outs = [];
  heard = record { 0 = 0 };
}

abbrev pub without_passes : {L : Type 0} → Working L → Working L
without_passes w = record w { take = None; post = None }

abbrev pub with_passes : {L : Type 0} → Working L → Known → Poster → Working L
with_passes w take post = record w { take = Some take; post = Some post }
