use Rattle.std.proofs.Common.{List, ap, ◌∙◌}
use Rattle.outside_mem.specs.declared.moments.ToldMoment.{ToldMoment}
use Rattle.outside_mem.specs.Moments.{moment_of}
use Rattle.outside_mem.proofs.Telling.{moment_kept, moment_told}
use Rattle.outside_mem.proofs.folder.MemFolder.changed.Goals as goal

pub returns-clause-told : goal.returns-clause-told
returns-clause-told c =
    ap (λ (told : List ToldMoment). moment_of told c.args.path.now) c.in_ok-push.ensures.items ∙ moment_told _ c.args.self.now.moments.items _ c.args.path.now c.in_ok-path.ensures

pub returns-clause-others : goal.returns-clause-others
returns-clause-others c = λ other apart.
    ap (λ (told : List ToldMoment). moment_of told other) c.in_ok-push.ensures.items ∙ moment_kept _ c.args.self.now.moments.items _ c.args.path.now other c.in_ok-path.ensures apart
