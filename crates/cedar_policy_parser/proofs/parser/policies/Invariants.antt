use Rattle.std.proofs.Common.{List}
use Rattle.cedar_lexer.specs.TokenStreams.{tokens_left}
use Rattle.cedar_parser.specs.Meant.{here}
use Rattle.semantics_policies.specs.Grammar.{ArePolicies}
use Rattle.semantics_policies.specs.Policies.{BarePolicy}
use Rattle.cedar_policies.specs.PolicySets.{AreNamed, bare_policies, ids_of}
use Rattle.cedar_policy_parser.specs.Seen.{HasSeen}
use Rattle.cedar_policy_parser.specs.Streams.{IsRest}
use Rattle.cedar_policy_parser.proofs.CompletePolicies.{ArePoliciesLeft}
use Rattle.cedar_policy_parser.proofs.Loops.{PoliciesSoFar}
use Rattle.cedar_policy_parser.proofs.parser.policies.Given as goal

-- the policies so far, and then those that are left
abbrev pub invariant-policies : goal.invariant-policies
invariant-policies l = record {
  rest : IsRest l.initial.left l.left;
  named : AreNamed l.policies.items;
  seen : HasSeen (ids_of l.policies.items) l.ids;
  parses : PoliciesSoFar l.initial.left l.left l.policies.items;
  left :
      (found : List BarePolicy) → ArePolicies (here l.initial.left) found
      → ArePoliciesLeft (bare_policies l.policies.items) found (here l.left);
}

abbrev pub decreases-policies : goal.decreases-policies
decreases-policies l = tokens_left l.left
