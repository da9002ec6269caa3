-- The call of a function that JSON names.
use Rattle.std.proofs.Common.{◌≡◌, Err, MatchResult, Ok, Result, ℕ, List, Some, length, map, subst, sym, ◌∙◌}
use Rattle.std.proofs.lemmas.Option.{same_Some}
use Rattle.std.proofs.lemmas.List.{length-map}
use Rattle.std.specs.Prelude.{codes}
use Rattle.serde_json.specs.Data.{Data, Items}
use Rattle.cedar_names.specs.Names.{BareName}
use Rattle.cedar_builders.specs.BareExpr.{Text, BareExpr, ExtensionFunctionApp, trees_of}
use Rattle.cedar_json.specs.Refusals.{IsNothing, Reads}
use Rattle.cedar_json.specs.declared.no_value.NoValue.{NoValue}
use Rattle.cedar_json.proofs.Nothing.{nothing_of}
use Rattle.cedar_json.proofs.Rows.{each_length}
use Rattle.cedar_json.specs.Values.{AreEach, IsCallOf, IsCallWith, IsFunctionOf, IsNameIn, IsNamedCall, args_of, text_at}

pub named_call_of : {X : Type 0} (m : X → BareExpr) (xs : List X) (d : Data) (s : Text) (n : BareName)
    (e : BareExpr) → text_at (codes "fn") d ≡ Some s → IsFunctionOf s (length xs) → IsNameIn s n
    → e ≡ ExtensionFunctionApp n (trees_of (map m xs)) → IsNamedCall d (map m xs) e
named_call_of m xs d s n e function takes named call =
    record {
      written = s;
      function = function;
      takes = subst (IsFunctionOf s) (sym (length-map xs m)) takes;
      name = n;
      named = named;
      call = call;
    }

-- a call that has this text for its function has its name, and as many arguments as it takes
pub named_at : (args : List BareExpr) (d : Data) (s : Text) (e : BareExpr) → text_at (codes "fn") d ≡ Some s
    → (h : IsNamedCall d args e) → IsNameIn s h.name
named_at args d s e function h = subst (λ t. IsNameIn t h.name) (same_Some h.written s (sym h.function ∙ function)) h.named

pub taken_count : (args : List BareExpr) (d : Data) (s : Text) (e : BareExpr) (n : ℕ) → length args ≡ n
    → text_at (codes "fn") d ≡ Some s → IsNamedCall d args e → IsFunctionOf s n
taken_count args d s e n count function h =
    subst (IsFunctionOf s) count
    (subst (λ t. IsFunctionOf t (length args)) (same_Some h.written s (sym h.function ∙ function)) h.takes)

module _ (P : Data → BareExpr → Type 0) (d : Data) (ds : Items) (given : args_of d ≡ Some ds) where
  -- what each item of a call stands for
  own_args : (e : BareExpr) → (h : IsCallOf P d e) → AreEach P ds h.args
  own_args e h = subst (λ xs. AreEach P xs h.args) (same_Some h.items ds (sym h.given ∙ given)) h.each

  pub call_items : (e : BareExpr) → IsCallOf P d e → (es : List BareExpr) × AreEach P ds es
  call_items e h = (h.args, own_args e h)

  -- what the items and the name of a function make
  pub call_read : {B X : Type 0} (f : B → BareExpr) (m : X → BareExpr) (args : List X) (r : Result B NoValue)
      → AreEach P ds (map m args)
      → MatchResult r (λ b. IsNamedCall d (map m args) (f b)) (IsNothing (IsCallWith d (length args)))
      → Reads (IsCallOf P d) f r
  call_read f m args (Ok b) each h =
      record { items = ds; given = given; args = map m args; each = each; call = h }
  call_read f m args (Err failure) each h =
      nothing_of (IsCallWith d (length args)) (IsCallOf P d)
      (λ e k. (e, (k.args, each_length P ds k.args (map m args) (own_args e k) each ∙ length-map args m, k.call)))
      failure h
