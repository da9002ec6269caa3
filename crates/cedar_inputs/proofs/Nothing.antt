-- An evaluator that knows nothing but Cedar's extension functions.
use Rattle.std.proofs.Common.{◌≡◌, [], Option, Some, None, IfSome, option_map, Ok, sym, ap, ◌∙◌}
use Rattle.std.specs.Global.{Global}
use Rattle.std.specs.HashMap.{HashMap}
use Rattle.std.specs.Map.{lookup}
use Rattle.std.specs.Rc.{rc_str_bytes}
use Rattle.std.specs.Str.{bytes_eq}
use Rattle.std.specs.declared.cmp.Ord as Ord
use Rattle.std.specs.declared.cmp.PartialEq as PartialEq
use Rattle.std.specs.declared.cmp.PartialOrd as PartialOrd
use Rattle.std.specs.declared.rc.RcStr.{RcStr}
use Rattle.cedar_terms.specs.Types.{BareType}
use Rattle.cedar_builders.specs.BareExpr.{BareExpr}
use Rattle.cedar_builders.specs.Environment.{empty}
use Rattle.cedar_exprs.specs.RestrictedExprs.{env_of}
use Rattle.semantics_request.specs.Entities.{NoSuchEntity}
use Rattle.semantics_request.specs.Evaluator.{evaluated}
use Rattle.semantics_request.specs.Requests.{Functions, Knowledge, Request, no_request}
use Rattle.semantics_eval.specs.Outcomes as meant
use Rattle.cedar_values.specs.BareValues.{bare_value}
use Rattle.cedar_values.specs.declared.value.Value.{Value}
use Rattle.cedar_values.specs.declared.well_formed.WellFormedValue.{WellFormedValue}
use Rattle.cedar_evaluator.specs.Outcomes.{bare_outcome, meaning_of, result_of}
use Rattle.cedar_evaluator.specs.declared.outcome.Outcome.{Outcome}
use Rattle.cedar_request.specs.Values.{tree_of}
use Rattle.cedar_functions.specs.Functions.{extension_functions}
use Rattle.cedar_functions.specs.declared.extension.BuiltinExtension.{BuiltinExtension}
use Rattle.cedar_inputs.specs.Values.{IsValueOf}

module _ {o : Ord.Ghosts BuiltinExtension} {e : PartialEq.Ghosts BuiltinExtension}
    {p : PartialOrd.Ghosts BuiltinExtension} where
  -- the value of an outcome
  pub value_meant : (m : Outcome BuiltinExtension o e p) (v : Value BuiltinExtension)
      → Ok v ≡ result_of m → meaning_of m ≡ Ok (bare_value v)
  value_meant m v h = ap bare_outcome (sym h)

  -- a value by an evaluator that knows nothing
  pub if_valued : (T : Functions BuiltinExtension) (k : Knowledge BuiltinExtension) (t : BareExpr)
      (m : meant.Outcome BuiltinExtension) (v : Option (WellFormedValue BuiltinExtension o e p))
      → k.request ≡ no_request → k.entities ≡ (λ u. NoSuchEntity) → k.bindings ≡ empty
      → T ≡ extension_functions → evaluated o.cmp e.eq T k t ≡ Ok m
      → IfSome v (λ w. m ≡ Ok (tree_of w)) → IfSome v (IsValueOf t)
  if_valued T k t m None eq es ee et is means = tt
  if_valued T k t m (Some w) eq es ee et is means =
      (λ i. evaluated o.cmp e.eq (sym et i)
      (record { request = sym eq i; entities = sym es i; bindings = sym ee i }) t)
      ∙ (is ∙ ap (λ x. Ok x) means)

-- a request without parts
pub no_parts : {X : Type 0} (q : Request X) → q.principal ≡ None → q.action ≡ None
    → q.resource ≡ None → q.context ≡ None → q ≡ no_request
no_parts q a b c d =
    λ i. record { principal = a i; action = b i; resource = c i; context = d i }

-- a map without entries binds nothing
pub no_bindings : {V S : Type 0} (type_of : V → BareType) (tree : V → BareExpr)
    (m : HashMap (RcStr Global) V S) → m.entries ≡ [] → env_of type_of tree m ≡ empty
no_bindings type_of tree m h =
    λ i n. option_map (λ v. (type_of v, tree v)) (lookup (λ k. bytes_eq n (rc_str_bytes k)) (h i))
