use Rattle.std.proofs.Common.{arith}
use Rattle.cedar_parser.proofs.InOrder.{taken}
use Rattle.std.proofs.Common.{Err}
use Rattle.std.proofs.Common.{refl}
use Rattle.cedar_parser.proofs.CompleteRows.{follows, rest_taken, text_taken}
use Rattle.std.proofs.Common.{◌≡◌, ◌∙◌, ap, rules, string_bytes, subst, sym}
use Rattle.cedar_names.specs.Names.{IsNameOf}
use Rattle.cedar_names.specs.PlainNames.{bare_name}
use Rattle.cedar_terms.specs.Entities.{bare_entity_type, bare_entity_uid, entity_type_of}
use Rattle.cedar_builders.specs.BareExpr.{Lit}
use Rattle.cedar_exprs.specs.BareExpr.{bare_expr}
use Rattle.cedar_lexer.specs.declared.token.TokenKind.TheVariants as kinds
use Rattle.semantics_grammar.specs.Written.{IsTextOf}
use Rattle.cedar_parser.specs.Meant.{AreLexemes, here}
use Rattle.cedar_parser.proofs.Paths.{entity_path}
use Rattle.cedar_parser.proofs.TakenSteps.{taken_is}
use Rattle.cedar_parser.proofs.InOrder.{skipped}
use Rattle.cedar_parser.proofs.nodes.Nodes.entity.Goals as goal

pub returns-clause-goes_on : goal.returns-clause-goes_on
returns-clause-goes_on c = (
  c.up_to-span.ensures.start,
  skipped c.args.path.span.stop c.args.tokens.now c.expect.new.self c.in_ok-id.id c.requires.before c.in_ok-id.ensures.gives.1,
)

pub returns-clause-parses : goal.returns-clause-parses
returns-clause-parses c ts w colons ids lex =
    let old = c.args.tokens.now in
    let new = c.expect.new.self in
    let id = c.in_ok-id.id in
    let uid = c.new-uid.result in
    let path = string_bytes c.args.path.text in
    let same = taken_is old new id kinds.Quoted c.in_ok-id.ensures.gives.0 c.in_ok-id.ensures.gives.1 in
    let l = subst AreLexemes same lex in
    let named : bare_name c.in_ok-name.field-0 ≡ bare_entity_type c.from-ty.result = search rules in
    let name = subst (IsNameOf path) (named ∙ ap bare_entity_type (sym c.new-uid.ensures.ty)) c.in_ok-name.ensures.name in
    let text = subst (IsTextOf id.text.now) (sym c.new-uid.ensures.eid) (c.in_ok-text_of.ensures.text l.0) in (
      entity_path w colons ts (here old) (here new) path id.text.now (bare_entity_type (entity_type_of uid)) (bare_entity_uid uid).eid
          (bare_expr c.in_ok-node.field-0) ids same name text (c.in_ok-node.ensures.tree ∙ ap Lit c.in_ok-literal.ensures.bare),
      l.1,
      c.in_ok-id.ensures.gives.1.1,
    )

pub returns-in_err-id-clause-complete : goal.returns-in_err-id-clause-complete
returns-in_err-id-clause-complete c =
    let x = c.in_err-id.field-0.0 in
    let same : c.from_residual.result ≡ Err x = search rules in
    rw same (λ n t q rest named plain e text. (let quoted = follows kinds.Quoted q rest c.args.tokens.now refl e in absurd (search rules)))

pub returns-in_err-name-clause-complete : goal.returns-in_err-name-clause-complete
returns-in_err-name-clause-complete c =
    let x = c.in_err-name.field-0.0 in
    let same : c.from_residual-in_err-name.result ≡ Err x = search rules in
    rw same (λ n t q rest named plain e text. c.in_err-name.ensures.complete n named plain)

pub returns-in_err-text_of-clause-complete : goal.returns-in_err-text_of-clause-complete
returns-in_err-text_of-clause-complete c =
    let x = c.in_err-text_of.field-0.0 in
    let same : c.from_residual-in_err-text_of.result ≡ Err x = search rules in
    rw same (λ n t q rest named plain e text.
    c.in_err-text_of.ensures.complete t
    (subst (λ w. IsTextOf w t)
    (text_taken kinds.Quoted q rest c.in_ok-id.id c.args.tokens.now c.expect.new.self e c.in_ok-id.ensures.gives.1) text))

pub returns-clause-takes : goal.returns-clause-takes
returns-clause-takes c q rest e =
    (rest_taken kinds.Quoted q rest c.in_ok-id.id c.args.tokens.now c.expect.new.self e c.in_ok-id.ensures.gives.1, c.in_ok-id.ensures.gives.1.1)

pub returns-clause-behind : goal.returns-clause-behind
returns-clause-behind c =
    let k = taken c.args.path.span.stop c.args.tokens.now c.expect.new.self c.in_ok-id.id c.requires.before c.in_ok-id.ensures.gives.1 in
    let e = c.up_to-span.ensures.stop in
    (omega (arith, k.0.first, k.0.piece, e), omega (arith, e, k.0.before.next))
