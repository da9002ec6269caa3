-- Paths and keys, with one more part.
use Rattle.std.proofs.Common.{◌≡◌, ℕ, Bool, true, false, List, [], ◌∷◌, ◌++◌, append_assoc, refl, sym, ◌∙◌, ap, subst}
use Rattle.std.specs.Prelude.{◌==◌, ◌||◌, codes, if◌then◌else◌}
use Rattle.std.specs.Rc.{rc_str_bytes}
use Rattle.std.specs.Global.{Global}
use Rattle.std.specs.declared.rc.RcStr.{RcStr}
use Rattle.std.proofs.lemmas.Bool.{false≢true}
use Rattle.cedar_names.specs.Names.{BareName, IsNameOf}
use Rattle.cedar_terms.specs.Literals.{EntityLit}
use Rattle.cedar_terms.specs.Ops.{var_text}
use Rattle.cedar_terms.specs.declared.var.Var.{Var as Variable}
use Rattle.cedar_terms.specs.declared.var.Var.TheVariants as variables
use Rattle.cedar_builders.specs.BareExpr.{Text, BareExpr, Lit, Var}
use Rattle.cedar_lexer.specs.Grammar.{IsTokenText}
use Rattle.cedar_lexer.specs.TokenStreams.{IsPairTaken, IsTaken, IsUntouched}
use Rattle.cedar_lexer.specs.declared.token.Token.{Token}
use Rattle.cedar_lexer.specs.declared.token.TokenKind.TheVariants as kinds
use Rattle.cedar_lexer.specs.declared.token_stream.TokenStream.{TokenStream}
use Rattle.semantics_grammar.specs.Grammar.{Primary, entity, variable}
use Rattle.semantics_grammar.specs.Lexemes.{Lexeme, lexeme, lexemes_of}
use Rattle.semantics_grammar.specs.Written.{AreKeys, ArePathIds, IsKey, IsPath, IsTextOf, first_key, id_key, in_namespace, last_id, last_key, text_key}
use Rattle.cedar_parser.specs.Meant.{AreLexemes, IsKeyTaken, from, here}
use Rattle.cedar_parser.proofs.TakenSteps.{taken_is, untouched_here}

-- one more identifier
pub ids_more : {ts rest : List Lexeme} {t c w : List ℕ} → ArePathIds ts t (lexeme kinds.Colons c ∷ lexeme kinds.Word w ∷ rest)
    → ArePathIds ts (t ++ (codes "::" ++ w)) rest
ids_more last_id = in_namespace last_id
ids_more {rest = rest} {w = w} (in_namespace {w = v} {c = d} {t = u} {ts = us} p) =
    subst (λ x. ArePathIds (lexeme kinds.Word v ∷ lexeme kinds.Colons d ∷ us) x rest)
    (sym (append_assoc v (codes "::" ++ u) (codes "::" ++ w))) (in_namespace (ids_more p))

-- one more key
pub keys_more : {ts rest : List Lexeme} {k j : Text} {ks : List Text} {d : List ℕ} {l : Lexeme} → AreKeys ts k ks (lexeme kinds.Dot d ∷ l ∷ rest)
    → IsKey l j → AreKeys ts k (ks ++ (j ∷ [])) rest
keys_more (last_key i) key = first_key i (last_key key)
keys_more (first_key i p) key = first_key i (keys_more p key)

-- ---- variables

abbrev has_colon : List ℕ → Bool
has_colon [] = false
has_colon (b ∷ bs) = (b == 58) || has_colon bs

behind : (a b : Bool) → b ≡ true → (a || b) ≡ true
behind true b h = refl
behind false b h = h

colon_inside : (w u : List ℕ) → has_colon (w ++ (58 ∷ u)) ≡ true
colon_inside [] u = refl
colon_inside (b ∷ w) u = behind (b == 58) (has_colon (w ++ (58 ∷ u))) (colon_inside w u)

no_colon : (v : Variable) → has_colon (var_text v) ≡ false
no_colon variables.Principal = refl
no_colon variables.Action = refl
no_colon variables.Resource = refl
no_colon variables.Context = refl

-- the path of a variable is one word
pub variable_path : (v : Variable) {w t : List ℕ} {ts rest : List Lexeme} → ArePathIds (lexeme kinds.Word w ∷ ts) t rest → t ≡ var_text v
    → Primary (lexeme kinds.Word w ∷ ts) (Var v) rest
variable_path v last_id e = variable e
variable_path v (in_namespace {w = w} {t = u} p) e =
    absurd (false≢true (sym (no_colon v) ∙ (ap has_colon (sym e) ∙ colon_inside w (58 ∷ u))))

-- an entity behind the path of its type
pub entity_path : (w c : List ℕ) (ts us rest : List Lexeme) (path : Text) (q : List ℕ) (n : BareName) (t : Text) (e : BareExpr)
    → ArePathIds (lexeme kinds.Word w ∷ ts) path (lexeme kinds.Colons c ∷ us) → us ≡ lexeme kinds.Quoted q ∷ rest → IsNameOf path n → IsTextOf q t
    → e ≡ Lit (EntityLit (record { entity_type = n; eid = t })) → Primary (lexeme kinds.Word w ∷ ts) e rest
entity_path w c ts us rest path q n t e ids same name text is =
    let p : IsPath (lexeme kinds.Word w ∷ ts) n (lexeme kinds.Colons c ∷ lexeme kinds.Quoted q ∷ rest) = record {
      path = path;
      ids = subst (λ x. ArePathIds (lexeme kinds.Word w ∷ ts) path (lexeme kinds.Colons c ∷ x)) same ids;
      name = name;
    } in
    subst (λ x. Primary (lexeme kinds.Word w ∷ ts) x rest) (sym is) (entity p text)

-- two tokens are taken
pub pair_here : (old new : TokenStream) (t : Token) → t.kind ≡ kinds.Word → IsPairTaken old kinds.Colons t new
    → (c : List ℕ) × (here old ≡ lexeme kinds.Colons c ∷ lexeme kinds.Word t.text.now ∷ here new)
pair_here old new t word h = (
  h.0.text.now,
  ap lexemes_of h.2
      ∙ (ap (λ k. lexeme k h.0.text.now ∷ lexeme t.kind t.text.now ∷ here new) h.1
      ∙ ap (λ k. lexeme kinds.Colons h.0.text.now ∷ lexeme k t.text.now ∷ here new) word),
)

pub ids_taken : (ts : List Lexeme) (old new : TokenStream) (t : Token) (text more : List ℕ) → ArePathIds ts text (here old) → t.kind ≡ kinds.Word
    → IsPairTaken old kinds.Colons t new → more ≡ text ++ (codes "::" ++ t.text.now) → ArePathIds ts more (here new)
ids_taken ts old new t text more ids word taken is =
    let p = pair_here old new t word taken in
    subst (λ x. ArePathIds ts x (here new)) (sym is) (ids_more (subst (ArePathIds ts text) p.1 ids))

pub key_taken : (ts : List Lexeme) (old new : TokenStream) (d : Token) (mid : TokenStream) (l : Lexeme) (k j : Text) (ks : List Text)
    → AreKeys ts k ks (here old) → d.kind ≡ kinds.Dot → IsTaken old d mid → here mid ≡ l ∷ here new → IsKey l j → AreKeys ts k (ks ++ (j ∷ [])) (here new)
key_taken ts old new d mid l k j ks keys dot taken is key =
    let same : here old ≡ lexeme kinds.Dot d.text.now ∷ l ∷ here new =
    ap lexemes_of taken.0 ∙ (ap (λ x. lexeme x d.text.now ∷ here mid) dot ∙ ap (λ x. lexeme kinds.Dot d.text.now ∷ x) is) in
    keys_more (subst (AreKeys ts k ks) same keys) key

pub pair_lexemes : (old new : TokenStream) (t : Token) → t.kind ≡ kinds.Word → IsPairTaken old kinds.Colons t new → AreLexemes (here old) → AreLexemes (here new)
pair_lexemes old new t word taken lex = (subst AreLexemes (pair_here old new t word taken).1 lex).1.1

pub first_id : (first : Token) (t : TokenStream) (text : List ℕ) → first.kind ≡ kinds.Word → text ≡ first.text.now → ArePathIds (from first t) text (here t)
first_id first t text word is =
    subst (λ x. ArePathIds (from first t) x (here t)) (sym is)
    (subst (λ k. ArePathIds (lexeme k first.text.now ∷ here t) first.text.now (here t)) (sym word) last_id)

pub appended : (x y z : List ℕ) (b : Bool) → x ≡ (if b then y else z) → b ≡ true → x ≡ y
appended x y z true e h = e
appended x y z false e h = absurd (false≢true h)

pub joined : (a b c d e : List ℕ) → b ≡ a ++ d → c ≡ b ++ e → c ≡ a ++ (d ++ e)
joined a b c d e p q = q ∙ (ap (λ x. x ++ e) p ∙ append_assoc a d e)

-- ---- keys

pub quoted_key : (old new : TokenStream) (t : Token) (k : RcStr Global) → AreLexemes (here old) → t.kind ≡ kinds.Quoted → IsTaken old t new
    → (IsTokenText t.text.now kinds.Quoted → IsTextOf t.text.now (rc_str_bytes k)) → IsKeyTaken old k new
quoted_key old new t k lex kind taken text =
    let same = taken_is old new t kinds.Quoted kind taken in
    let l = subst AreLexemes same lex in
    (lexeme kinds.Quoted t.text.now, text_key (text l.0), same, l.1, taken.1)

pub word_key : (old mid new : TokenStream) (t : Token) (k : RcStr Global) → AreLexemes (here old) → IsUntouched old mid → t.kind ≡ kinds.Word
    → IsTaken mid t new → rc_str_bytes k ≡ t.text.now → IsKeyTaken old k new
word_key old mid new t k lex u kind taken is =
    let same = untouched_here old mid u ∙ taken_is mid new t kinds.Word kind taken in (
      lexeme kinds.Word t.text.now,
      subst (IsKey (lexeme kinds.Word t.text.now)) (sym is) id_key,
      same,
      (subst AreLexemes same lex).1,
      taken.1 ∙ u.1,
    )
