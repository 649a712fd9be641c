-- The settings of a document without a fault are within their ranges.
use Rattle.std.proofs.Common.{◌≡◌, ℕ, ◌+◌, suc, pos, true, ◌&&◌, List, [], ◌∷◌, length, All, Option, Some, None, refl, sym, ap, subst, inl, inr, is_some, option_and_then, codes, take, drop, nat_le}
use Rattle.std.specs.Int.{IsInRange}
use Rattle.std.specs.List.{cons_option}
use Rattle.std.specs.Option.{IfSome}
use Rattle.std.proofs.lemmas.Bool.{and_parts, ltb-true, leb-true, cases_Bool}
use Rattle.std.proofs.lemmas.List.Elements.{All-nil, All-cons}
use Rattle.std.proofs.lemmas.List.Sums.{AllPass-from_list_all}
use Rattle.toml.specs.Data.{Data, Items, no_items, item, Members, get_member, as_str, as_array, as_integer}
use Rattle.wire_base.specs.declared.host.Host.{Host}
use Rattle.beat_config.specs.Host.{port_within, port_behind, named_host, name_length, host_of, host_findings, hosts_in, host_member_findings, host_list_findings, hosts_of, list_hosts, hosts_findings}
use Rattle.beat_config.specs.InRange.{IsHostInRange, IsOutputInRange}
use Rattle.beat_config.specs.Name.{is_name, is_name_byte, IsName}
use Rattle.beat_config.specs.Number.{number_of}
use Rattle.beat_config.specs.Output.{output_in, output_of, output_keys, output_value_findings, output_findings}
use Rattle.beat_config.specs.Path.{key_path}
use Rattle.beat_config.specs.Single.{limits, number_in, duration_in, whole_of, duration_of}
use Rattle.beat_config.specs.Table.{members_of, members_at, table_at_findings}
use Rattle.beat_config.specs.Text.{item_count}
use Rattle.beat_config.proofs.Faultless.{parts, passed, tested, required, table_required, number_within, if_then, duration_within, or_default, count_within}

-- a whole number and a duration at a key
pub whole_within : (low high default : ℕ) (key : List ℕ) (table : Members) → (nat_le low default && nat_le default high) ≡ true
    → IsInRange low high (whole_of (limits low high) default (get_member key table))
whole_within low high default key table h =
    or_default (IsInRange low high) (option_and_then (number_in (limits low high)) (option_and_then as_integer (get_member key table))) default
    (if_then (IsInRange low high) (number_in (limits low high)) (option_and_then as_integer (get_member key table)) (number_within low high))
    (tested low high default h)

pub time_within : (low high default : ℕ) (key : List ℕ) (table : Members) → (nat_le low default && nat_le default high) ≡ true
    → IsInRange low high (duration_of (limits low high) default (get_member key table))
time_within low high default key table h =
    or_default (IsInRange low high) (option_and_then (duration_in (limits low high)) (option_and_then as_str (get_member key table))) default
    (if_then (IsInRange low high) (duration_in (limits low high)) (option_and_then as_str (get_member key table)) (duration_within low high))
    (tested low high default h)

-- a name by its test
pub name_of : (most : ℕ) (text : List ℕ) → is_name most text ≡ true → IsName most text
name_of most text h =
    let outer = and_parts _ _ h in
    let inner = and_parts _ _ outer.1 in
    record {
      count = (ltb-true 0 (length text) outer.0, leb-true (length text) most inner.0);
      bytes = AllPass-from_list_all is_name_byte text inner.1;
    }

port_is_within : (port : ℕ) → IfSome (port_within port) (IsInRange 1 65535)
port_is_within port = number_within 1 65535 (pos port)

port_behind_within : (rest : List ℕ) → IfSome (port_behind rest) (IsInRange 1 65535)
port_behind_within [] = tested 1 65535 5044 refl
port_behind_within (colon ∷ digits) = if_then (IsInRange 1 65535) port_within (number_of 5 digits) port_is_within

named_within : (name : List ℕ) (port : Option ℕ) → IfSome port (IsInRange 1 65535) → IfSome (named_host name port) IsHostInRange
named_within name None h = tt
named_within name (Some port) h = elim (cases_Bool (is_name 253 name)) [
  | inl named ↦ rw named (record { name = name_of 253 name named; port = h })
  | inr other ↦ rw other tt
]

host_within : (text : List ℕ) → IfSome (host_of text) IsHostInRange
unfolding host_of
host_within text =
    named_within (take (name_length text) text) (port_behind (drop (name_length text) text)) (port_behind_within (drop (name_length text) text))

host_told : (key : List ℕ) (found : Option (List ℕ)) → host_findings key found ≡ [] → is_some (option_and_then host_of found) ≡ true
host_told key None h = absurd (cc)
host_told key (Some text) h = passed _ _ h

host_more : (found : Option Host) (hosts : List Host) (count : ℕ) → is_some found ≡ true → IfSome found IsHostInRange
    → All IsHostInRange hosts × (length hosts ≡ count) → All IsHostInRange (cons_option found hosts) × (length (cons_option found hosts) ≡ suc count)
host_more None hosts count h within so_far = absurd (cc)
host_more (Some host) hosts count h within so_far = (All-cons IsHostInRange host hosts within so_far.0, ap suc so_far.1)

hosts_within : (key : List ℕ) (number : ℕ) (items : Items) → host_member_findings key number items ≡ []
    → All IsHostInRange (hosts_in items) × (length (hosts_in items) ≡ item_count items)
hosts_within key number no_items h = (All-nil IsHostInRange, refl)
hosts_within key number (item value items) h =
    let both = parts _ (host_member_findings key (number + 1) items) h in
    host_more (option_and_then host_of (as_str value)) (hosts_in items) (item_count items) (host_told _ (as_str value) both.0)
    (if_then IsHostInRange host_of (as_str value) host_within) (hosts_within key (number + 1) items both.1)

host_list_within : (low high : ℕ) (key : List ℕ) (found : Option Items) → host_list_findings (limits low high) key found ≡ []
    → All IsHostInRange (list_hosts found) × IsInRange low high (length (list_hosts found))
host_list_within low high key None h = absurd (cc)
host_list_within low high key (Some items) h =
    let both = parts _ (host_member_findings key 0 items) h in
    let members = hosts_within key 0 items both.1 in
    (members.0, subst (IsInRange low high) (sym members.1) (count_within low high key (item_count items) both.0))

hosts_at_within : (low high : ℕ) (key : List ℕ) (found : Option Data) → is_some found ≡ true → hosts_findings (limits low high) key found ≡ []
    → All IsHostInRange (hosts_of found) × IsInRange low high (length (hosts_of found))
hosts_at_within low high key None there h = absurd (cc)
hosts_at_within low high key (Some value) there h = host_list_within low high key (as_array value) h

-- if a required table has no fault, each required key is there
table_at_required : (path : List ℕ) (key : List ℕ) (known : List (List ℕ)) (found : Option Data) → is_some found ≡ true
    → table_at_findings path known (key ∷ []) found ≡ [] → is_some (get_member key (members_at found)) ≡ true
table_at_required path key known None there h = absurd (cc)
table_at_required path key known (Some value) there h = (required path key [] (members_of value) (table_required path known (key ∷ []) value h)).0

pub output_within : (path : List ℕ) (found : Option Data) → is_some found ≡ true → output_findings path found ≡ [] → IsOutputInRange (output_of found)
unfolding output_in output_value_findings
output_within path found there h =
    let both = parts _ (output_value_findings path (members_at found)) h in
    let at_hosts = table_at_required path (codes "hosts") output_keys found there both.0 in
    let hosts = hosts_at_within 1 16 (key_path path (codes "hosts")) (get_member (codes "hosts") (members_at found)) at_hosts (parts _ _ both.1).0 in
    record {
      host_count = hosts.1;
      hosts = hosts.0;
      workers = whole_within 1 16 1 (codes "workers") (members_at found) refl;
      bulk_max_size = whole_within 1 65536 2048 (codes "bulk_max_size") (members_at found) refl;
      pipelining = whole_within 1 8 2 (codes "pipelining") (members_at found) refl;
      timeout = time_within 1 3600000 30000 (codes "timeout") (members_at found) refl;
      attempts = whole_within 1 1000 3 (codes "attempts") (members_at found) refl;
    }
