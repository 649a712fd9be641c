use Rattle.kept_rows.proofs.Links.{finished_link_stays, new_link_follows, open_link_goes_on}
use Rattle.kept_rows.proofs.laws.links_go_on.Goals as goal

pub returns-clause-grows : goal.returns-clause-grows
returns-clause-grows c = open_link_goes_on

pub returns-clause-finished : goal.returns-clause-finished
returns-clause-finished c = finished_link_stays

pub returns-clause-next : goal.returns-clause-next
returns-clause-next c = new_link_follows
