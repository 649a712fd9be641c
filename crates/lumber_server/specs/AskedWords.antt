-- What is read of the arguments, as values (this project's profile).
use Rattle.wire_base.specs.declared.host.Host.{Host}
use Rattle.lumber_server.specs.Words.{Asked}
use Rattle.lumber_server.specs.declared.words.AskedWords.{AskedWords}
use Rattle.lumber_server.specs.declared.words.Named.{Named}

abbrev pub asked_value : AskedWords → Asked
asked_value asked = record {
  host = record { name = asked.name.now; port = asked.port };
  file = asked.file.now;
  links = asked.links;
}

abbrev pub named_value : Named → Host
named_value named = record { name = named.name.now; port = named.port }
