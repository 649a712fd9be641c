-- A host in a text: `NAME`, which has the port 5044, or `NAME:PORT` (the form and the port of Filebeat's Logstash output;
-- the lengths are this project's profile).
use Rattle.std.specs.Prelude.{ℕ, ◌+◌, ◌==◌, ◌&&◌, not, nat_le, pos, List, [], ◌∷◌, ◌++◌, take, drop, Option, Some, None, if◌then◌else◌, is_some, option_and_then}
use Rattle.std.specs.List.{prefix_len, cons_option}
use Rattle.toml.specs.Data.{Data, Items, no_items, item, as_str, as_array}
use Rattle.wire_base.specs.declared.host.Host.{Host}
use Rattle.beat_config.specs.declared.settings_error.SettingsError.{SettingsError}
use Rattle.beat_config.specs.declared.single.Limits.{Limits}
use Rattle.beat_config.specs.declared.settings_error.SettingsError.TheVariants.{WrongKind, BadText}
use Rattle.beat_config.specs.Name.{is_name}
use Rattle.beat_config.specs.Number.{number_of}
use Rattle.beat_config.specs.Path.{member_path}
use Rattle.beat_config.specs.Single.{range_findings}
use Rattle.beat_config.specs.Text.{item_count}

abbrev pub port_within : ℕ → Option ℕ
port_within port = if nat_le 1 port && nat_le port 65535 then Some port else None

abbrev pub port_of : List ℕ → Option ℕ
port_of digits = option_and_then port_within (number_of 5 digits)

-- the port after a name; 58 is the colon
abbrev pub port_behind : List ℕ → Option ℕ
port_behind [] = Some 5044
port_behind (colon ∷ digits) = port_of digits

abbrev pub named_host : List ℕ → Option ℕ → Option Host
named_host name None = None
named_host name (Some port) = if is_name 253 name then Some (record { name = name; port = port }) else None

-- how many bytes come before the first colon
abbrev pub name_length : List ℕ → ℕ
name_length text = prefix_len (λ byte. not (byte == 58)) text

unfoldable pub host_of : List ℕ → Option Host
host_of text = named_host (take (name_length text) text) (port_behind (drop (name_length text) text))

abbrev pub host_findings : List ℕ → Option (List ℕ) → List SettingsError
host_findings key None = WrongKind key ∷ []
host_findings key (Some text) = if is_some (host_of text) then [] else BadText key ∷ []

-- the hosts of a list, without the members that are none
abbrev pub hosts_in : Items → List Host
hosts_in no_items = []
hosts_in (item value items) = cons_option (option_and_then host_of (as_str value)) (hosts_in items)

abbrev pub host_member_findings : List ℕ → ℕ → Items → List SettingsError
host_member_findings key number no_items = []
host_member_findings key number (item value items) =
    host_findings (member_path key number) (as_str value) ++ host_member_findings key (number + 1) items

abbrev pub host_list_findings : Limits → List ℕ → Option Items → List SettingsError
host_list_findings limits key None = WrongKind key ∷ []
host_list_findings limits key (Some items) = range_findings limits key (pos (item_count items)) ++ host_member_findings key 0 items

abbrev pub list_hosts : Option Items → List Host
list_hosts None = []
list_hosts (Some items) = hosts_in items

-- the hosts of the list at a key
abbrev pub hosts_of : Option Data → List Host
hosts_of found = list_hosts (option_and_then as_array found)

abbrev pub hosts_findings : Limits → List ℕ → Option Data → List SettingsError
hosts_findings limits key None = []
hosts_findings limits key (Some value) = host_list_findings limits key (as_array value)
