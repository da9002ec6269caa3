use Rattle.std.proofs.Common.{◌≡◌, ◌∙◌, ◌++◌, ◌∷◌, [], Some, ap, arith}
use Rattle.std.proofs.Common.{rules}
use Rattle.std.specs.Option.{option_to_list}
use Rattle.cedar_parser.specs.Places.{AreOpenUpTo}
use Rattle.cedar_parser.specs.declared.operand.Operation.{Operation}
use Rattle.cedar_parser.specs.declared.parser.Parser.{Parser}
use Rattle.cedar_parser.proofs.Placed.{wait_left}
use Rattle.std.proofs.Common.{refl, subst, sym}
use Rattle.cedar_parser.specs.Meant.{IsNoMinus}
use Rattle.cedar_parser.proofs.ParserSteps.{parser_last}
use Rattle.cedar_parser.proofs.parser.Parser.pop_minus.Goals as goal

pub returns-in-None-minus-clause-pops : goal.returns-in-None-minus-clause-pops
returns-in-None-minus-clause-pops c = (
  refl,
  subst IsNoMinus
      (sym (parser_last c.args.self.now c.deref.result.now c.in-Some.operation.now c.deref.ensures.value c.in-Some.ensures.value))
      c.in-None-minus.ensures.exact,
)

pub returns-in-Some-minus-clause-places : goal.returns-in-Some-minus-clause-places
returns-in-Some-minus-clause-places c source to h =
    let r = c.args.self.now in
    let op : Operation = c.in-Some.operation.now in
    let s : Parser = record { nodes = r.nodes; operations = c.pop.new.self; groups = r.groups } in
    let v : c.pop.result ≡ Some op = search rules in
    let e : r.operations.items ≡ c.pop.new.self.items ++ (op ∷ []) =
    c.pop.ensures.items ∙ ap (λ o. c.pop.new.self.items ++ option_to_list o) v in
    let start = c.in-Some-minus.ensures.start in
    let k = wait_left source to to r s op h e refl refl in
    (omega (arith, k.0, start), subst (λ n. AreOpenUpTo source n to s) (sym start) k.1)
