-- What the errors of making expressions say (`expression_construction_errors` of Cedar's `expr.rs`).
use Rattle.std.specs.Prelude.{◌≡◌, ⊤}
use Rattle.std.specs.Rc.{rc_str_bytes}
use Rattle.cedar_builders.specs.BareExpr.{Text}
use Rattle.cedar_builders.specs.declared.expression_construction_errors.DuplicateKeyError.{DuplicateKeyError}
use Rattle.cedar_builders.specs.declared.expression_construction_errors.ExpressionConstructionError.{ExpressionConstructionError}
use Rattle.cedar_builders.specs.declared.expression_construction_errors.ExpressionConstructionError.TheVariants.{DuplicateKey, Memory}

-- the key that stood twice
abbrev pub key_of : DuplicateKeyError → Text
key_of e = rc_str_bytes e.key

-- where it stood twice, in words
abbrev pub context_of : DuplicateKeyError → Text
context_of e = e.context.now

-- if the error is that of a repeated key, this holds of it
abbrev pub OnDuplicateKey : (DuplicateKeyError → Type 0) → ExpressionConstructionError → Type 0
OnDuplicateKey P (DuplicateKey e) = P e
OnDuplicateKey P Memory = ⊤

-- the two errors say the same
abbrev pub SaysTheSame : ExpressionConstructionError → ExpressionConstructionError → Type 0
SaysTheSame (DuplicateKey d) (DuplicateKey e) = (key_of d ≡ key_of e) × (context_of d ≡ context_of e)
SaysTheSame (DuplicateKey d) Memory = ⊥
SaysTheSame Memory (DuplicateKey e) = ⊥
SaysTheSame Memory Memory = ⊤
