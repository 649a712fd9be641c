-- The names for the objects that a call is lent, from the members of their traits: `T.Tail` in a clause, `g.T.Tail` in a proof.
use Rattle.outside.specs.declared.disk.Disk.{Ghosts as DiskGhosts}
use Rattle.outside.specs.declared.link.Link.{Ghosts as LinkGhosts}
use Rattle.outside.specs.declared.tail.Tail.{Ghosts as TailGhosts}
use Rattle.outside.specs.declared.wire.Wire.{Ghosts as WireGhosts}
use Rattle.rounds.specs.Words.{DiskWords, LinkWords, TailWords, WireWords, Words, disk_words, link_words, tail_words, wire_words}

abbrev pub tails_of : {T : Type 0} → TailGhosts T → TailWords T
tails_of tail = tail_words tail.numbers tail.told tail.faults

abbrev pub links_of : {L : Type 0} → LinkGhosts L → LinkWords L
links_of link = link_words link.told link.faults link.idles

abbrev pub wires_of : {W L : Type 0} → WireGhosts W L → WireWords W
wires_of wire = wire_words wire.outcomes wire.open_links wire.faults wire.idles

abbrev pub disks_of : {D : Type 0} → DiskGhosts D → DiskWords D
disks_of disk = disk_words disk.contents disk.images disk.moment disk.images_since disk.faults

abbrev pub words_of : {T W L D : Type 0} → TailGhosts T → LinkGhosts L → WireGhosts W L → DiskGhosts D → Words T W L D
words_of tail link wire disk = record { tails = tails_of tail; links = links_of link; wires = wires_of wire; disks = disks_of disk }
