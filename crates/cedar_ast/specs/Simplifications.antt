-- The words of simplifications: what a known value and a residual are and mean, and what is promised of them.
pub use Rattle.semantics_values.specs.ValueExpr.{value_expr}
pub use Rattle.cedar_values.specs.Holders.{held_call}
pub use Rattle.semantics_simplify.specs.Asks.{Ask, OfVar, OfSlot, OfUnknown, OfCall, asks_only, holds_no_call, is_bound_or}
pub use Rattle.semantics_simplify.specs.Simplified.{Simplified, Known, Residual, tree_of}
pub use Rattle.semantics_simplify.specs.Simplifier.{simplifier_ops, simplified_in, simplified}
pub use Rattle.cedar_simplifier.specs.Simplified.{known_value, meaning_of}
pub use Rattle.cedar_simplifier.specs.Promises.{MeansTheSame, KnownStays, AsksNoMore}
