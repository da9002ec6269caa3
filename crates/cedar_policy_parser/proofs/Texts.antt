-- What is parsed from the tokens of a text.
use Rattle.std.proofs.Common.{◌≡◌, ℕ, List, length, Result, Ok, Err, IfErr, IfOk}
use Rattle.cedar_lexer.specs.TokenPlaces.{AreTokens}
use Rattle.cedar_lexer.specs.TokenStreams.{IsEndBehind, end_of, rest_of}
use Rattle.cedar_lexer.specs.declared.parse_failure.ParseFailure.{ParseFailure}
use Rattle.cedar_lexer.specs.declared.token.Token.{Token}
use Rattle.cedar_lexer.specs.declared.token_stream.TokenStream.{TokenStream}
use Rattle.cedar_parser.specs.Meant.{here}
use Rattle.cedar_parser.specs.Refused.{IsWithin, stop_of}
use Rattle.semantics_policies.specs.Grammar.{ArePolicies}
use Rattle.semantics_policies.specs.Policies as bare
use Rattle.cedar_policy_parser.specs.Streams.{ArePoliciesOf}
use Rattle.cedar_policy_parser.proofs.Wholes.{text_policies, text_refused}

pub parsed_text : {A : Type 0} (f : A → List bare.BarePolicy) (text : List ℕ) (found : List Token) (t : TokenStream) (r : Result A ParseFailure)
    → AreTokens text found → rest_of t ≡ found → IfOk r (λ ps. ArePolicies (here t) (f ps)) → IfOk r (λ ps. ArePoliciesOf text (f ps))
parsed_text f text found t (Ok ps) are all h = text_policies text found t (f ps) are all h
parsed_text f text found t (Err e) are all h = h

pub refused_text : {A : Type 0} (text : List ℕ) (found : List Token) (t : TokenStream) (r : Result A ParseFailure) → AreTokens text found
    → IsEndBehind found (end_of t) → IfErr r (IsWithin (stop_of t)) → IfErr r (IsWithin (length text))
refused_text text found t (Ok ps) are end h = h
refused_text text found t (Err e) are end h = text_refused text found t e are end h
