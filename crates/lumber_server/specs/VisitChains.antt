-- The links that a port in memory finished, the first of them first (this project's profile).
use Rattle.std.specs.Prelude.{List, [], ◌∷◌, ◌++◌}
use Rattle.lumber_server.specs.Ports.{Finished}
use Rattle.lumber_server.specs.VisitHistories.{finished_of}
use Rattle.lumber_server.specs.declared.visit_chain.VisitChain.{VisitChain}
use Rattle.lumber_server.specs.declared.visit_chain.VisitChain.TheVariants.{Start, After'}

abbrev pub told_chain : VisitChain → List Finished
told_chain Start = []
told_chain (After' p before history) = told_chain before ++ finished_of history ∷ []
