use Rattle.std.proofs.Common.{ap, ◌∙◌, rules}
use Rattle.std.proofs.lemmas.Map.Made.{map_same_pairs}
use Rattle.ack_tracker.specs.Keys.{noted_of, slots_of}
use Rattle.ack_tracker.proofs.ByKey.{let_go, none_noted, same_slots}
use Rattle.ack_tracker.proofs.keys.Keys.commit.Goals as goal

pub returns-clause-noted : goal.returns-clause-noted
returns-clause-noted c = ap noted_of (map_same_pairs _ let_go _ (λ k v b w f t. search rules) c.args.self.now.by_key.entries c.retain.new.self.entries c.retain.ensures.filtered) ∙ none_noted c.args.self.now.by_key.entries

pub returns-clause-slots : goal.returns-clause-slots
returns-clause-slots c = ap slots_of (map_same_pairs _ let_go _ (λ k v b w f t. search rules) c.args.self.now.by_key.entries c.retain.new.self.entries c.retain.ensures.filtered) ∙ same_slots c.args.self.now.by_key.entries
