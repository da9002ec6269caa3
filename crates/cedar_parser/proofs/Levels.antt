-- Expressions of a precedence, at looser precedences.
use Rattle.std.proofs.Common.{◌≤◌, List, arith}
use Rattle.cedar_builders.specs.BareExpr.{BareExpr}
use Rattle.cedar_terms.specs.Precedences.{precedence_number}
use Rattle.cedar_terms.specs.declared.precedence.Precedence.{Precedence}
use Rattle.cedar_terms.specs.declared.precedence.Precedence.TheVariants as precedences
use Rattle.semantics_grammar.specs.Lexemes.{Lexeme}
use Rattle.semantics_grammar.specs.Grammar.{Reads, no_conditional, disjunction, conjunction, relation, sum, product, no_sign, no_operator, no_test}

to_conditional : (l : Precedence) {ts rest : List Lexeme} {e : BareExpr} → precedence_number precedences.Conditional ≤ precedence_number l → Reads l ts e rest → Reads precedences.Conditional ts e rest
to_conditional precedences.Conditional h p = p
to_conditional precedences.Or h p = no_conditional p
to_conditional precedences.And h p = no_conditional (disjunction p no_operator)
to_conditional precedences.Relation h p = no_conditional (disjunction (conjunction p no_operator) no_operator)
to_conditional precedences.Sum h p = no_conditional (disjunction (conjunction (relation p no_test) no_operator) no_operator)
to_conditional precedences.Product h p = no_conditional (disjunction (conjunction (relation (sum p no_operator) no_test) no_operator) no_operator)
to_conditional precedences.Unary h p = no_conditional (disjunction (conjunction (relation (sum (product p no_operator) no_operator) no_test) no_operator) no_operator)
to_conditional precedences.Member h p = no_conditional (disjunction (conjunction (relation (sum (product (no_sign p) no_operator) no_operator) no_test) no_operator) no_operator)

to_or : (l : Precedence) {ts rest : List Lexeme} {e : BareExpr} → precedence_number precedences.Or ≤ precedence_number l → Reads l ts e rest → Reads precedences.Or ts e rest
to_or precedences.Conditional h p = absurd (omega (arith, h))
to_or precedences.Or h p = p
to_or precedences.And h p = disjunction p no_operator
to_or precedences.Relation h p = disjunction (conjunction p no_operator) no_operator
to_or precedences.Sum h p = disjunction (conjunction (relation p no_test) no_operator) no_operator
to_or precedences.Product h p = disjunction (conjunction (relation (sum p no_operator) no_test) no_operator) no_operator
to_or precedences.Unary h p = disjunction (conjunction (relation (sum (product p no_operator) no_operator) no_test) no_operator) no_operator
to_or precedences.Member h p = disjunction (conjunction (relation (sum (product (no_sign p) no_operator) no_operator) no_test) no_operator) no_operator

to_and : (l : Precedence) {ts rest : List Lexeme} {e : BareExpr} → precedence_number precedences.And ≤ precedence_number l → Reads l ts e rest → Reads precedences.And ts e rest
to_and precedences.Conditional h p = absurd (omega (arith, h))
to_and precedences.Or h p = absurd (omega (arith, h))
to_and precedences.And h p = p
to_and precedences.Relation h p = conjunction p no_operator
to_and precedences.Sum h p = conjunction (relation p no_test) no_operator
to_and precedences.Product h p = conjunction (relation (sum p no_operator) no_test) no_operator
to_and precedences.Unary h p = conjunction (relation (sum (product p no_operator) no_operator) no_test) no_operator
to_and precedences.Member h p = conjunction (relation (sum (product (no_sign p) no_operator) no_operator) no_test) no_operator

to_relation : (l : Precedence) {ts rest : List Lexeme} {e : BareExpr} → precedence_number precedences.Relation ≤ precedence_number l → Reads l ts e rest → Reads precedences.Relation ts e rest
to_relation precedences.Conditional h p = absurd (omega (arith, h))
to_relation precedences.Or h p = absurd (omega (arith, h))
to_relation precedences.And h p = absurd (omega (arith, h))
to_relation precedences.Relation h p = p
to_relation precedences.Sum h p = relation p no_test
to_relation precedences.Product h p = relation (sum p no_operator) no_test
to_relation precedences.Unary h p = relation (sum (product p no_operator) no_operator) no_test
to_relation precedences.Member h p = relation (sum (product (no_sign p) no_operator) no_operator) no_test

to_sum : (l : Precedence) {ts rest : List Lexeme} {e : BareExpr} → precedence_number precedences.Sum ≤ precedence_number l → Reads l ts e rest → Reads precedences.Sum ts e rest
to_sum precedences.Conditional h p = absurd (omega (arith, h))
to_sum precedences.Or h p = absurd (omega (arith, h))
to_sum precedences.And h p = absurd (omega (arith, h))
to_sum precedences.Relation h p = absurd (omega (arith, h))
to_sum precedences.Sum h p = p
to_sum precedences.Product h p = sum p no_operator
to_sum precedences.Unary h p = sum (product p no_operator) no_operator
to_sum precedences.Member h p = sum (product (no_sign p) no_operator) no_operator

to_product : (l : Precedence) {ts rest : List Lexeme} {e : BareExpr} → precedence_number precedences.Product ≤ precedence_number l → Reads l ts e rest → Reads precedences.Product ts e rest
to_product precedences.Conditional h p = absurd (omega (arith, h))
to_product precedences.Or h p = absurd (omega (arith, h))
to_product precedences.And h p = absurd (omega (arith, h))
to_product precedences.Relation h p = absurd (omega (arith, h))
to_product precedences.Sum h p = absurd (omega (arith, h))
to_product precedences.Product h p = p
to_product precedences.Unary h p = product p no_operator
to_product precedences.Member h p = product (no_sign p) no_operator

to_unary : (l : Precedence) {ts rest : List Lexeme} {e : BareExpr} → precedence_number precedences.Unary ≤ precedence_number l → Reads l ts e rest → Reads precedences.Unary ts e rest
to_unary precedences.Conditional h p = absurd (omega (arith, h))
to_unary precedences.Or h p = absurd (omega (arith, h))
to_unary precedences.And h p = absurd (omega (arith, h))
to_unary precedences.Relation h p = absurd (omega (arith, h))
to_unary precedences.Sum h p = absurd (omega (arith, h))
to_unary precedences.Product h p = absurd (omega (arith, h))
to_unary precedences.Unary h p = p
to_unary precedences.Member h p = no_sign p

to_member : (l : Precedence) {ts rest : List Lexeme} {e : BareExpr} → precedence_number precedences.Member ≤ precedence_number l → Reads l ts e rest → Reads precedences.Member ts e rest
to_member precedences.Conditional h p = absurd (omega (arith, h))
to_member precedences.Or h p = absurd (omega (arith, h))
to_member precedences.And h p = absurd (omega (arith, h))
to_member precedences.Relation h p = absurd (omega (arith, h))
to_member precedences.Sum h p = absurd (omega (arith, h))
to_member precedences.Product h p = absurd (omega (arith, h))
to_member precedences.Unary h p = absurd (omega (arith, h))
to_member precedences.Member h p = p

-- an expression of a precedence is one of each looser precedence
pub loosened : (m l : Precedence) {ts rest : List Lexeme} {e : BareExpr} → precedence_number m ≤ precedence_number l → Reads l ts e rest → Reads m ts e rest
loosened precedences.Conditional l h p = to_conditional l h p
loosened precedences.Or l h p = to_or l h p
loosened precedences.And l h p = to_and l h p
loosened precedences.Relation l h p = to_relation l h p
loosened precedences.Sum l h p = to_sum l h p
loosened precedences.Product l h p = to_product l h p
loosened precedences.Unary l h p = to_unary l h p
loosened precedences.Member l h p = to_member l h p
