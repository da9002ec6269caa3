use Rattle.std.proofs.Common.{◌∙◌, ap}
use Rattle.std.specs.Option.{option_copied}
use Rattle.cedar_names.specs.Names.{has_reserved}
use Rattle.cedar_names.proofs.Qualified.{unreserved}
use Rattle.cedar_names.proofs.name.Name.qualify_with_name.Goals as goal

pub invariant_of-result : goal.invariant_of-result
invariant_of-result c = record {
  not_reserved = ap has_reserved c.in_ok-name.ensures.name
      ∙ unreserved c.args.self.now (option_copied c.args.namespace);
}
