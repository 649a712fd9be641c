-- The command that reads the arguments, as clap defines one (this project's profile).
use Rattle.std.specs.Prelude.{[], ◌∷◌, Some, true, codes}
use Rattle.clap.specs.Walk.{Rule}
use Rattle.clap.specs.Simple.{App, new_rule, new_shape}
use Rattle.clap.specs.declared.builder.action.ArgAction.TheVariants.{Set, SetTrue}

-- `-c FILE` (99 is `c`) or `--config FILE`, which has to be there
abbrev pub config_option : Rule
config_option = record (new_rule (codes "config")) {
  short = Some 99;
  long = Some (codes "config");
  action = Some Set;
  required = true;
}

-- `--data DIR`, or `data`
abbrev pub data_option : Rule
data_option = record (new_rule (codes "data")) {
  long = Some (codes "data");
  action = Some Set;
  defaults = codes "data" ∷ [];
}

-- `--once`
abbrev pub once_flag : Rule
once_flag = record (new_rule (codes "once")) { long = Some (codes "once"); action = Some SetTrue }

-- `--generate N`, read by clap as any text: its own reader of numbers would also take `+5` and `007`
abbrev pub generate_option : Rule
generate_option = record (new_rule (codes "generate")) {
  long = Some (codes "generate");
  action = Some Set;
}

-- these four and no other: no positional argument, no help and no version; the program's name is
-- none of the arguments
abbrev pub beat_command : App
beat_command = record {
  top = record (new_shape (codes "beat_main")) {
    rules = config_option ∷ data_option ∷ once_flag ∷ generate_option ∷ [];
    no_binary_name = true;
    disable_help_flag = true;
  };
  subs = [];
}
