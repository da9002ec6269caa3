use Rattle.std.proofs.Common.{◌∙◌, sym}
use Rattle.std.specs.Prelude.{codes}
use Rattle.std.proofs.lemmas.Str.Pattern.{starts_text}
use Rattle.cedar_lexer.proofs.BlankLemmas.{slashes_begin, two_slashes}
use Rattle.cedar_lexer.proofs.tokenizer.begins_comment.Goals as goal

pub returns : goal.returns
returns c =
    let e = starts_text c.starts_with.result (codes "//") c.args.text.now c.starts_with.ensures.cases in
    (λ h. two_slashes c.args.text.now (sym e ∙ h), λ h. e ∙ slashes_begin c.args.text.now h)
