-- Why a node is not made.
pub use Rattle.cedar_builders.specs.declared.expression_construction_errors.ExpressionConstructionError.TheVariants.{DuplicateKey, Memory}
