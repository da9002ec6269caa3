-- The names of paths.
use Rattle.std.proofs.Common.{◌≡◌, ℕ, true, false, List, ◌∷◌, ◌++◌, refl, sym, ◌∙◌, ap}
use Rattle.std.specs.Prelude.{codes}
use Rattle.std.proofs.lemmas.Bool.{false≢true}
use Rattle.cedar_names.specs.Names.{BareName, IsNameOf, has_reserved, unqualified}
use Rattle.cedar_lexer.specs.declared.token.TokenKind.TheVariants as kinds
use Rattle.semantics_grammar.specs.Lexemes.{Lexeme, lexeme}
use Rattle.semantics_grammar.specs.Written.{ArePathIds, last_id, in_namespace}
use Rattle.semantics_grammar.proofs.Words.{within, within_named, word_named}
use Rattle.cedar_parser.specs.Ahead.{ends_path}
use Rattle.cedar_parser.specs.Meant.{AreLexemes}

-- a path has a name, which is not reserved
pub path_named : {ts rest : List Lexeme} {t : List ℕ} → ArePathIds ts t rest → AreLexemes ts → (n : BareName) × IsNameOf t n × (has_reserved n ≡ false)
path_named (last_id {w = w}) l = let m = word_named w l.0 in (unqualified w, m.0, m.1)
path_named (in_namespace {w = w} {t = t} p) l =
    let n = path_named p l.1.1 in
    let m = within_named w t n.0 l.0 n.1 n.2 in (within w n.0, m.0, m.1)

-- ---- one path

-- a path is there, so no end of one
ids_begin : {ts rest : List Lexeme} {t : List ℕ} (c : List ℕ) → ArePathIds ts t rest → ends_path (lexeme kinds.Colons c ∷ ts) ≡ false
ids_begin c last_id = refl
ids_begin c (in_namespace p) = refl

-- tokens begin with one path that ends
pub one_path : {ts r s : List Lexeme} {t u : List ℕ} → ArePathIds ts t r → ArePathIds ts u s → ends_path r ≡ true → ends_path s ≡ true → (t ≡ u) × (r ≡ s)
one_path last_id last_id h k = (refl, refl)
one_path last_id (in_namespace {c = c} p) h k = absurd (false≢true (sym (ids_begin c p) ∙ h))
one_path (in_namespace {c = c} p) last_id h k = absurd (false≢true (sym (ids_begin c p) ∙ k))
one_path (in_namespace {w = w} p) (in_namespace q) h k = let e = one_path p q h k in (ap (λ t. w ++ (codes "::" ++ t)) e.0, e.1)
