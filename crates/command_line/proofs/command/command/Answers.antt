use Rattle.std.proofs.Common.{◌≡◌, ◌∙◌, ap, ap₂, true, codes}
use Rattle.std.proofs.lemmas.Result.{IfOk-weaker}
use Rattle.clap.specs.Simple.{Shape, app_of, app_of_fields, new_app, on_top, with_rule}
use Rattle.clap.specs.declared.builder.command.Command.TheViews.{out-Command}
use Rattle.command_line.proofs.command.command.Goals as goal

-- each builder adds its part to what a parse reads of the command
pub returns : goal.returns
returns c =
    let unnamed : Shape → Shape = λ s. record s { no_binary_name = true } in
    let helpless : Shape → Shape = λ s. record s { disable_help_flag = true } in
    let named : app_of c.no_binary_name.result ≡ on_top unnamed (new_app (codes "beat_main")) =
    ap app_of_fields {y = record (out-Command c.new.result) { no_binary_name = true }} c.no_binary_name.ensures ∙ ap (on_top unnamed) c.new.ensures.app in
    let bare : app_of c.disable_help_flag.result ≡ on_top helpless (on_top unnamed (new_app (codes "beat_main"))) =
    ap app_of_fields {y = record (out-Command c.no_binary_name.result) { disable_help_flag = true }} c.disable_help_flag.ensures ∙ ap (on_top helpless) named in
    let first = c.in_ok-arg.ensures.shape c.config.ensures.local ∙ ap₂ with_rule bare c.config.ensures.rule in
    let second = c.in_ok-arg-2.ensures.shape c.data.ensures.local ∙ ap₂ with_rule first c.data.ensures.rule in
    let third = c.in_ok-arg-3.ensures.shape c.once.ensures.local ∙ ap₂ with_rule second c.once.ensures.rule in
    IfOk-weaker c.arg-4.result _ _
    (λ command added. added.shape c.generate.ensures.local ∙ ap₂ with_rule third c.generate.ensures.rule) c.arg-4.ensures
