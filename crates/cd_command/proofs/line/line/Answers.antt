use Rattle.std.proofs.Common.{rules, ◌≡◌, ◌∙◌, ap, ap₂, true, Some}
use Rattle.std.proofs.lemmas.Result.{IfOk-weaker}
use Rattle.clap.specs.Walk.{Rule, rule_of}
use Rattle.clap.specs.Simple.{app_of, app_of_fields, with_rule, on_top}
use Rattle.clap.specs.declared.builder.action.ArgAction.TheVariants.{Set}
use Rattle.cd_command.specs.Line.{bare, workers_rule, size_rule, record_rule, action_rule}
use Rattle.cd_command.proofs.line.line.Goals as goal

pub returns : goal.returns
returns c =
    let of_workers : rule_of c.argument.result ≡ workers_rule = c.argument.ensures.rule in
    let of_size : rule_of c.argument-2.result ≡ size_rule = c.argument-2.ensures.rule in
    let of_record : rule_of c.argument-3.result ≡ record_rule = c.argument-3.ensures.rule in
    let of_action : rule_of c.action-action.result ≡ action_rule = ap rule_of c.action-action.ensures ∙ ap (λ (r : Rule). record r { action = Some Set }) (ap rule_of c.required.ensures ∙ ap (λ (r : Rule). record r { required = true }) c.new.ensures.rule) in
    let bare_is : app_of c.disable_help_flag.result ≡ bare =
    ap app_of_fields c.disable_help_flag.ensures
    ∙ ap (on_top (λ s. record s { disable_help_flag = true })) (ap app_of_fields c.no_binary_name.ensures ∙ ap (on_top (λ s. record s { no_binary_name = true })) c.new-2.ensures.app) in
    let one = c.in_ok-arg.ensures.shape (search rules) ∙ ap₂ with_rule bare_is of_workers in
    let two = c.in_ok-arg-2.ensures.shape (search rules) ∙ ap₂ with_rule one of_size in
    let three = c.in_ok-arg-3.ensures.shape (search rules) ∙ ap₂ with_rule two of_record in
    IfOk-weaker c.arg-4.result _ _ (λ m h. h.shape (search rules) ∙ ap₂ with_rule three of_action) c.arg-4.ensures
