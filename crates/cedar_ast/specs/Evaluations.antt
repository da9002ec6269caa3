-- The words of evaluations: what an outcome is and means, in the environment of a map of values.
pub use Rattle.cedar_builders.specs.Laws.{both}
pub use Rattle.cedar_values.specs.BareValues.{bare_value}
pub use Rattle.cedar_values.specs.Holders.{NoExtension, plain_env}
pub use Rattle.cedar_values.specs.WellFormedValues.{value_of, well_formed_env}
pub use Rattle.semantics_eval.specs.Evaluator.{evaluator_ops}
pub use Rattle.semantics_eval.specs.Laws.{is_closed}
pub use Rattle.cedar_evaluator.specs.Laws.{HasValue, IsDecided}
pub use Rattle.cedar_evaluator.specs.Outcomes.{meaning_of, result_of}
pub use Rattle.cedar_evaluator.specs.declared.fault.EvalFault.TheVariants.{Open, WrongType, Overflow, Missing, Store}
