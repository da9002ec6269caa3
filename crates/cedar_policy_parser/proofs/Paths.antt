-- The type of entities that tokens begin with is the only one.
use Rattle.std.proofs.Common.{◌≡◌, List, IfOk, MatchResult, Result, Ok, Err, sym, ◌∙◌, subst}
use Rattle.cedar_names.specs.Names.{BareName, IsNameOfIds, name_text}
use Rattle.cedar_lexer.specs.declared.parse_failure.ParseFailure.{ParseFailure}
use Rattle.cedar_lexer.specs.declared.parse_failure.ParseFailure.TheVariants as failure
use Rattle.cedar_lexer.specs.declared.token_stream.TokenStream.{TokenStream}
use Rattle.semantics_grammar.specs.Lexemes.{Lexeme}
use Rattle.semantics_grammar.specs.Written.{IsPath}
use Rattle.cedar_parser.specs.Meant.{here}
use Rattle.cedar_parser.proofs.Words.{one_path}
use Rattle.cedar_policy_parser.specs.Complete.{Gives, IsPathUpTo}

-- a path is of one name
one_name : (ts : List Lexeme) (m n : BareName) (r rest : List Lexeme)
    → ((m n : BareName) → IsNameOfIds m → IsNameOfIds n → name_text m ≡ name_text n → m ≡ n) → IsPath ts m r → r ≡ rest → IsPathUpTo ts n rest → m ≡ n
one_name ts m n r rest one p e h =
    let q : IsPath ts m rest = subst (IsPath ts m) e p in
    let same = (one_path q.ids h.0.ids h.1 h.1).0 in
    one m n q.name.0 h.0.name.0 (q.name.1 ∙ (same ∙ sym h.0.name.1))

pub path_given : {A : Type 0} (f : A → BareName) (n : BareName) (rest : List Lexeme) (old new : TokenStream) (r : Result A ParseFailure)
    → ((m n : BareName) → IsNameOfIds m → IsNameOfIds n → name_text m ≡ name_text n → m ≡ n)
    → IfOk r (λ x. IsPath (here old) (f x) (here new)) → MatchResult r (λ _. here new ≡ rest) (λ e. e ≡ failure.Memory)
    → IsPathUpTo (here old) n rest → Gives f n rest new r
path_given f n rest old new (Ok x) one p g h = (one_name (here old) (f x) n (here new) rest one p g h, g)
path_given f n rest old new (Err e) one p g h = g
