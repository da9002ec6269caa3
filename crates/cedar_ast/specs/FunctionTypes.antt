-- Of which types the answers of stored functions are.
pub use Rattle.cedar_calls.specs.Types.{IsOfType, Keeps, Keeps-prop, declared, makes_of_text, no_value_keeps}
