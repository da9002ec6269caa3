use Rattle.std.proofs.Common.{rules}
use Rattle.std.specs.Str.{chars}
use Rattle.cedar_terms.proofs.Decision.{matches-decides}
use Rattle.cedar_terms.proofs.pattern.Pattern.wildcard_match_counted.Goals as goal

pub returns-clause-decides : goal.returns-clause-decides
returns-clause-decides c = matches-decides c.args.self.now (chars c.args.text.now) _ (search rules)
