-- What a request means.
use Rattle.std.specs.Prelude.{Option, Some, None, option_map}
use Rattle.std.specs.Global.{Global}
use Rattle.std.specs.declared.cmp.Ord as Ord
use Rattle.std.specs.declared.cmp.PartialEq as PartialEq
use Rattle.std.specs.declared.cmp.PartialOrd as PartialOrd
use Rattle.std.specs.declared.rc.Rc.{Rc}
use Rattle.cedar_terms.specs.Entities.{BareEntityUID, bare_entity_uid}
use Rattle.cedar_terms.specs.declared.entity.EntityUID.{EntityUID}
use Rattle.semantics_values.specs.BareValue.{BarePairs}
use Rattle.semantics_request.specs.Requests as meant
use Rattle.cedar_values.specs.declared.well_formed.WellFormedValue.{WellFormedValue}
use Rattle.cedar_request.specs.Values.{record_in, tree_of}
use Rattle.cedar_request.specs.declared.context.Context.{Context}
use Rattle.cedar_request.specs.declared.request.Request.{Request}

-- an entity, if it is known
abbrev pub uid_if_known : Option (Rc EntityUID Global) → Option BareEntityUID
uid_if_known = option_map (λ u. bare_entity_uid u.value)

-- o, e and p are the comparisons of extension values
module _ {X : Type 0} {o : Ord.Ghosts X} {e : PartialEq.Ghosts X} {p : PartialOrd.Ghosts X} where
  -- the record of a context
  abbrev pub value_of_context : Context X o e p → WellFormedValue X o e p
  value_of_context c = c.value

  -- its pairs: each context has some
  abbrev pub pairs_of_context : Context X o e p → Option (BarePairs X)
  pairs_of_context c = record_in (tree_of (value_of_context c))

  -- the pairs of a context, if it is known
  abbrev pub pairs_if_known : Option (Context X o e p) → Option (BarePairs X)
  pairs_if_known None = None
  pairs_if_known (Some c) = pairs_of_context c

  -- what a request means
  abbrev pub bare_request : Request X o e p → meant.Request X
  bare_request q = record {
    principal = uid_if_known q.principal;
    action = uid_if_known q.action;
    resource = uid_if_known q.resource;
    context = pairs_if_known q.context;
  }
