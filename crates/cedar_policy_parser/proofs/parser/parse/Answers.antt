use Rattle.std.proofs.Common.{◌≡◌, ◌∙◌, Err, subst, rules}
use Rattle.cedar_lexer.specs.TokenStreams.{IsEndBehind, end_of}
use Rattle.cedar_parser.proofs.Tokenized.{stuck_within}
use Rattle.cedar_policy_parser.proofs.CompletePolicies.{text_policies_there}
use Rattle.cedar_policy_parser.proofs.Texts.{parsed_text, refused_text}
use Rattle.cedar_policy_parser.proofs.Wholes.{text_sound}
use Rattle.cedar_policies.specs.PolicySets.{bare_policies}
use Rattle.cedar_policy_parser.proofs.parser.parse.Goals as goal

pub returns-in_err-found-clause-refused : goal.returns-in_err-found-clause-refused
returns-in_err-found-clause-refused c =
    let e = c.in_err-found.field-0.0 in
    let same : c.from_residual.result ≡ Err e = search rules in
    rw same (stuck_within c.args.text.now e c.in_err-found.ensures)

pub policies-requires : goal.policies-requires
policies-requires c =
    let tokens = c.new.result in
    let same = c.deref.ensures.value in
    text_sound c.args.text.now c.in_ok-found.found.items tokens c.in_ok-found.ensures (c.new.ensures.all ∙ same)
    (subst (λ ts. IsEndBehind ts (end_of tokens)) same c.new.ensures.end)

pub returns-clause-parses : goal.returns-clause-parses
returns-clause-parses c =
    let all = c.new.ensures.all ∙ c.deref.ensures.value in
    parsed_text (λ ps. bare_policies ps.items) c.args.text.now c.in_ok-found.found.items c.new.result c.policies.result c.in_ok-found.ensures all
    c.policies.ensures.parses

pub returns-clause-refused : goal.returns-clause-refused
returns-clause-refused c =
    let tokens = c.new.result in
    refused_text c.args.text.now c.in_ok-found.found.items tokens c.policies.result c.in_ok-found.ensures
    (subst (λ ts. IsEndBehind ts (end_of tokens)) c.deref.ensures.value c.new.ensures.end) c.policies.ensures.refused

pub returns-in_err-found-clause-complete : goal.returns-in_err-found-clause-complete
returns-in_err-found-clause-complete c ps p d =
    let e = c.in_err-found.field-0.0 in
    let same : c.from_residual.result ≡ Err e = search rules in
    rw same (c.tokens_are_unique.ensures.accepted c.args.text.now p.0 e p.1 c.in_err-found.ensures)

pub returns-clause-complete : goal.returns-clause-complete
returns-clause-complete c ps p d =
    let all = c.new.ensures.all ∙ c.deref.ensures.value in
    let there =
    text_policies_there c.args.text.now c.in_ok-found.found.items c.new.result ps c.tokens_are_unique.ensures.same c.in_ok-found.ensures all p in
    c.policies.ensures.complete ps there d
