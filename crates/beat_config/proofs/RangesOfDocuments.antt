-- The settings of a document without a fault are in range.
use Rattle.std.proofs.Common.{◌≡◌, ℕ, ◌≤◌, List, [], ◌∷◌, length, All, Option, Some, None, refl, sym, subst, codes}
use Rattle.std.specs.Int.{IsInRange}
use Rattle.std.proofs.lemmas.Bool.{leb-true}
use Rattle.std.proofs.lemmas.List.Elements.{All-nil}
use Rattle.event_tree.specs.declared.processor_rule.ProcessorRule.{ProcessorRule}
use Rattle.event_tree.specs.declared.settings.Settings.{Settings}
use Rattle.toml.specs.Data.{Data, Items, Members, get_member, as_array}
use Rattle.beat_config.specs.Document.{document_keys, document_findings, AreSettings}
use Rattle.beat_config.specs.Each.{each_findings}
use Rattle.beat_config.specs.InRange.{IsOutputInRange, AreInRange}
use Rattle.beat_config.specs.Input.{inputs_findings}
use Rattle.beat_config.specs.Output.{output_findings}
use Rattle.beat_config.specs.Processors.{IsProcessor, AreListed, AreProcessorsOf, processor_findings, processor_list_findings, processors_findings}
use Rattle.rules_in_range.specs.Processors.{IsProcessorInRange}
use Rattle.beat_config.specs.Table.{unknown_findings, missing_findings, members_at}
use Rattle.beat_config.specs.Text.{item_count}
use Rattle.beat_config.proofs.Faultless.{parts, required, count_within}
use Rattle.beat_config.proofs.Ranges.{whole_within, output_within}
use Rattle.beat_config.proofs.RangesOfConditions.{each_within}
use Rattle.beat_config.proofs.RangesOfInputs.{AreInputsInRange, inputs_are}
use Rattle.beat_config.proofs.RangesOfProcessors.{processor_within}

-- the processors of a document
record AreProcessorsInRange (rules : List ProcessorRule) : Type 0 where
  few : length rules ≤ 64
  within : All IsProcessorInRange rules

none_are : (rules : List ProcessorRule) → rules ≡ [] → AreProcessorsInRange rules
none_are rules none = subst AreProcessorsInRange (sym none) (record { few = leb-true 0 64 refl; within = All-nil IsProcessorInRange })

listed_are : (key : List ℕ) (found : Option Items) (rules : List ProcessorRule) → processor_list_findings key found ≡ [] → AreListed found rules → AreProcessorsInRange rules
listed_are key None rules h listed = none_are rules listed
listed_are key (Some items) rules h listed =
    let both = parts _ (each_findings processor_findings key 0 items) h in
    let are = each_within IsProcessorInRange IsProcessor processor_findings processor_within key 0 items rules both.1 listed in
    let count = count_within 0 64 key (item_count items) both.0 in
    record { few = subst (λ many. many ≤ 64) (sym are.1) count.1; within = are.0 }

processors_are : (key : List ℕ) (found : Option Data) (rules : List ProcessorRule) → processors_findings key found ≡ [] → AreProcessorsOf found rules → AreProcessorsInRange rules
processors_are key None rules h none = none_are rules none
processors_are key (Some value) rules h listed = listed_are key (as_array value) rules h listed

pub document_in_range : (document : Members) (settings : Settings) → document_findings document ≡ [] → AreSettings document settings → AreInRange settings
unfolding document_findings
document_in_range document settings h said =
    let whole = parts _ _ h in
    let keys = parts (unknown_findings [] document_keys document) (missing_findings [] (codes "inputs" ∷ codes "output" ∷ []) document) whole.0 in
    let inputs_key = required [] (codes "inputs") (codes "output" ∷ []) document keys.1 in
    let output_key = required [] (codes "output") [] document inputs_key.1 in
    let inputs = parts (inputs_findings (codes "inputs") (get_member (codes "inputs") document)) _ whole.1 in
    let output = parts (output_findings (codes "output") (get_member (codes "output") document)) _ inputs.1 in
    let processors = parts (processors_findings (codes "processors") (get_member (codes "processors") document)) _ output.1 in
    let rules = subst AreInputsInRange (sym said.inputs) (inputs_are (codes "inputs") (get_member (codes "inputs") document) inputs_key.0 inputs.0) in
    let chain = processors_are (codes "processors") (get_member (codes "processors") document) settings.processors processors.0 said.processors in
    record {
      input_count = rules.count;
      inputs = rules.within;
      ids_differ = rules.differ;
      output = subst IsOutputInRange (sym said.output) (output_within (codes "output") (get_member (codes "output") document) output_key.0 output.0);
      processor_count = chain.few;
      processors = chain.within;
      events = subst (IsInRange 32 65536) (sym said.events)
          (whole_within 32 65536 3200 (codes "events") (members_at (get_member (codes "queue") document)) refl);
      lanes = subst (IsInRange 1 8) (sym said.lanes)
          (whole_within 1 8 2 (codes "lanes") (members_at (get_member (codes "harvest") document)) refl);
    }
