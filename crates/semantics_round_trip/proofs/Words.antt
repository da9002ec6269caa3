-- The names of paths are plain.
use Rattle.std.proofs.Common.{◌≡◌, ℕ, false, List, ◌∙◌, sym, subst}
use Rattle.cedar_names.specs.Names.{BareName, IsNameOf, IsNameOfIds, has_reserved, name_text, unqualified}
use Rattle.cedar_lexer.specs.Grammar.{IsTokenText}
use Rattle.cedar_lexer.specs.declared.token.TokenKind.TheVariants as kinds
use Rattle.semantics_grammar.specs.Lexemes.{Lexeme}
use Rattle.semantics_grammar.specs.Written.{ArePathIds, IsPath, last_id, in_namespace}
use Rattle.semantics_grammar.proofs.Words.{within, within_named, word_named}
use Rattle.semantics_printing.specs.Writable.{IsPlainName}
use Rattle.semantics_round_trip.specs.Parsed.{AreTokenTexts}

-- a path has a name, which is not reserved
path_named : {ts rest : List Lexeme} {t : List ℕ} → ArePathIds ts t rest → AreTokenTexts ts → (n : BareName) × IsNameOf t n × (has_reserved n ≡ false) × AreTokenTexts rest
path_named (last_id {w = w}) l =
    let p = word_named w l.0 in (unqualified w, p.0, p.1, l.2)
path_named (in_namespace {w = w} {t = t} p) l =
    let n = path_named p l.2.2 in
    let m = within_named w t n.0 l.0 n.1 n.2 in (within w n.0, m.0, m.1, n.3)

module _ (one : (m n : BareName) → IsNameOfIds m → IsNameOfIds n → name_text m ≡ name_text n → m ≡ n) where
  plain : (t : List ℕ) (n m : BareName) → IsNameOf t n → has_reserved n ≡ false → IsNameOf t m → IsPlainName m
  plain t n m h k i = (i.0, subst (λ x. has_reserved x ≡ false) (one n m h.0 i.0 (h.1 ∙ sym i.1)) k)

  -- the name of a path is plain
  pub path_said : {ts rest : List Lexeme} {n : BareName} → IsPath ts n rest → AreTokenTexts ts → IsPlainName n × AreTokenTexts rest
  path_said {n = n} p l = let x = path_named p.ids l in (plain p.path x.0 n x.1 x.2 p.name, x.3)

  -- the name of a word is plain
  pub word_said : (w : List ℕ) (n : BareName) → IsTokenText w kinds.Word → IsNameOf w n → IsPlainName n
  word_said w n l i = let p = word_named w l in plain w (unqualified w) n p.0 p.1 i
