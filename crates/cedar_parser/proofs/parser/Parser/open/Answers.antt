use Rattle.cedar_parser.proofs.Placed.{group_placed}
use Rattle.cedar_parser.proofs.CompleteSteps.{group_opened}
use Rattle.cedar_parser.proofs.parser.Parser.open.Goals as goal
use Rattle.std.proofs.Common.{◌∙◌, ap, refl}
use Rattle.cedar_parser.proofs.ParserSteps.{opened_parsed}

pub returns-clause-parses : goal.returns-clause-parses
returns-clause-parses c ts rest h =
    opened_parsed ts rest c.args.self.now _ c.args.kind
    (record { kind = c.args.kind; start = c.args.start; operations = c.replace-operations.result }) h refl c.in_ok-push.ensures.items refl
    c.replace-operations.ensures.value (ap (λ v. v.items) c.replace-operations.ensures.after ∙ c.new.ensures.items)

pub returns-clause-complete : goal.returns-clause-complete
returns-clause-complete c rest a =
    group_opened c.args.self.now _ c.args.kind
    (record { kind = c.args.kind; start = c.args.start; operations = c.replace-operations.result }) rest a c.in_ok-push.ensures.items refl
    c.replace-operations.ensures.value (ap (λ v. v.items) c.replace-operations.ensures.after ∙ c.new.ensures.items)

pub returns-clause-places : goal.returns-clause-places
returns-clause-places c source to fits h items =
    group_placed source to c.args.self.now _
    (record { kind = c.args.kind; start = c.args.start; operations = c.replace-operations.result }) h c.replace-operations.ensures.value
    (ap (λ v. v.items) c.replace-operations.ensures.after ∙ c.new.ensures.items) c.in_ok-push.ensures.items refl items fits
