use Rattle.std.proofs.Common.{◌∷◌, ◌++◌, []}
use Rattle.cedar_parser.proofs.leaves.inside.Goals as goal

pub returns : goal.returns
returns c inside e = c.before_quote.ensures inside (c.behind_quote.ensures (inside ++ (34 ∷ [])) e)
