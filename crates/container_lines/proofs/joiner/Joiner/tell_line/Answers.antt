use Rattle.std.proofs.Common.{ap, ◌∙◌, refl, rules}
use Rattle.container_lines.specs.Cri.{cri_part}
use Rattle.container_lines.specs.Docker.{docker_part}
use Rattle.container_lines.proofs.Sizes.{too_long, by_cri, by_docker}
use Rattle.container_lines.proofs.joiner.Joiner.tell_line.Goals as goal

pub returns-then-line-gt-MAX_CONTENT-clause-told : goal.returns-then-line-gt-MAX_CONTENT-clause-told
returns-then-line-gt-MAX_CONTENT-clause-told c = rw (← too_long c.args.self.now.format c.args.line.now c.if-line-gt-MAX_CONTENT.true) refl

pub returns-then-line-gt-MAX_CONTENT-clause-behind : goal.returns-then-line-gt-MAX_CONTENT-clause-behind
returns-then-line-gt-MAX_CONTENT-clause-behind c = rw (← too_long c.args.self.now.format c.args.line.now c.if-line-gt-MAX_CONTENT.true) refl

pub returns-in-Cri-clause-told : goal.returns-in-Cri-clause-told
returns-in-Cri-clause-told c = let h = c.self.view_is in let i = c.in-Cri.is in
    let e = by_cri c.args.self.now.format c.args.line.now _ (search rules) c.if-line-gt-MAX_CONTENT.false (c.cri_part.ensures ∙ ap cri_part c.bytes.ensures) in
    rw e at c.tell.ensures.told

pub returns-in-Cri-clause-behind : goal.returns-in-Cri-clause-behind
returns-in-Cri-clause-behind c =
    let e = by_cri c.args.self.now.format c.args.line.now _ (search rules) c.if-line-gt-MAX_CONTENT.false (c.cri_part.ensures ∙ ap cri_part c.bytes.ensures) in
    rw e at c.tell.ensures.behind

pub returns-in-Docker-clause-told : goal.returns-in-Docker-clause-told
returns-in-Docker-clause-told c =
    let e = by_docker c.args.self.now.format c.args.line.now _ (search rules) c.if-line-gt-MAX_CONTENT.false (ap docker_part c.bytes-in-Docker.ensures) in
    rw e at c.tell_object.ensures.told

pub returns-in-Docker-clause-behind : goal.returns-in-Docker-clause-behind
returns-in-Docker-clause-behind c =
    let e = by_docker c.args.self.now.format c.args.line.now _ (search rules) c.if-line-gt-MAX_CONTENT.false (ap docker_part c.bytes-in-Docker.ensures) in
    rw e at c.tell_object.ensures.behind
