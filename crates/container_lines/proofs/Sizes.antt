-- Which lines are short enough to be of a format.
use Rattle.std.proofs.Common.{◌≡◌, ◌<◌, ◌≤◌, Bool, Option, None, cond, sym, ap, ◌∙◌}
use Rattle.std.proofs.lemmas.Bool.{lt-leb, le-leb}
use Rattle.line_cutter.specs.declared.line.Line.{Line}
use Rattle.container_lines.specs.declared.format.Format.{Format}
use Rattle.container_lines.specs.declared.format.Format.TheVariants.{Cri, Docker}
use Rattle.container_lines.specs.declared.limits.TheConstants.{MAX_CONTENT}
use Rattle.container_lines.specs.Part.{Part}
use Rattle.container_lines.specs.Cri.{cri_part}
use Rattle.container_lines.specs.Docker.{docker_part}
use Rattle.container_lines.specs.Parts.{part_in, part_of}

pub too_long : (format : Format) (line : Line) → MAX_CONTENT < line.full → None ≡ part_of format line
unfolding part_of
too_long format line long = sym (ap (λ (b : Bool). cond b (part_in format line.head) None) (lt-leb _ _ long))

short_enough : (format : Format) (line : Line) → line.full ≤ MAX_CONTENT → part_in format line.head ≡ part_of format line
unfolding part_of
short_enough format line short = sym (ap (λ (b : Bool). cond b (part_in format line.head) None) (le-leb _ _ short))

pub by_cri : (format : Format) (line : Line) (said : Option Part) → format ≡ Cri → line.full ≤ MAX_CONTENT → said ≡ cri_part line.head → said ≡ part_of format line
by_cri format line said is short says = says ∙ sym (ap (λ (f : Format). part_in f line.head) is) ∙ short_enough format line short

pub by_docker : (format : Format) (line : Line) (said : Option Part) → format ≡ Docker → line.full ≤ MAX_CONTENT → said ≡ docker_part line.head → said ≡ part_of format line
by_docker format line said is short says = says ∙ sym (ap (λ (f : Format). part_in f line.head) is) ∙ short_enough format line short
