-- What a processor with its paths read attempts, by the texts of its paths (Filebeat reference, processors).
use Rattle.std.specs.Prelude.{map}
use Rattle.event_tree.specs.Value.{TreeValue}
use Rattle.processors_core.specs.Added.{fields_added}
use Rattle.processors_core.specs.Attempt.{Attempt}
use Rattle.processors_core.specs.Dropped.{fields_dropped}
use Rattle.processors_core.specs.Pairs.{pair_of}
use Rattle.processors_core.specs.Renamed.{pairs_renamed}
use Rattle.processors_core.specs.Tagged.{tags_added}
use Rattle.processors_core.specs.Targets.{target_text}
use Rattle.processors_core.specs.declared.add_fields.FieldAdds.{FieldAdds}
use Rattle.processors_core.specs.declared.add_tags.TagAdds.{TagAdds}
use Rattle.processors_core.specs.declared.drop_fields.FieldDrops.{FieldDrops}
use Rattle.processors_core.specs.declared.rename.Renames.{Renames}

abbrev pub dropped_by : FieldDrops → TreeValue → Attempt
dropped_by drops tree = fields_dropped drops.ignore_missing drops.paths.items tree

abbrev pub added_by : FieldAdds → TreeValue → Attempt
added_by added tree = fields_added added.fields (target_text added.target) tree

abbrev pub tagged_by : TagAdds → TreeValue → Attempt
tagged_by tagged tree = tags_added tagged.tags.items tagged.target tree

abbrev pub renamed_by : Renames → TreeValue → Attempt
renamed_by renames tree =
    pairs_renamed renames.ignore_missing renames.fail_on_error (map pair_of renames.pairs.items) tree
