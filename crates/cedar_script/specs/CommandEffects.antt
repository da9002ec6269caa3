-- What each command of the script makes of the stack, whose top stands first here, and of the
-- bindings.
use Rattle.std.specs.Prelude.{◌≡◌, ℕ, List, [], Ok, Option, Some, None, map, drop}
use Rattle.std.specs.Borrow.{Bor}
use Rattle.std.specs.Global.{Global}
use Rattle.std.specs.List.{zip}
use Rattle.std.specs.String.{string_bytes}
use Rattle.std.specs.Vec.{vec_len}
use Rattle.std.specs.declared.cmp.Ordering.{Ordering}
use Rattle.std.specs.declared.string.String.{String as OwnedText}
use Rattle.cedar_names.specs.Names.{BareName}
use Rattle.cedar_names.specs.PlainNames.{bare_name}
use Rattle.cedar_terms.specs.Entities.{bare_entity_type}
use Rattle.cedar_terms.specs.Literals.{BoolLit, LongLit, StringLit}
use Rattle.cedar_terms.specs.Unknowns.{bare_annotation}
use Rattle.cedar_builders.specs.BareExpr.{Text, BareExpr, Lit, Var as variable, Unknown as unknown, And as conjunction, Or as disjunction, ExtensionFunctionApp as call, Set as members, Record as record_tree, fields_of}
use Rattle.cedar_builders.specs.TypeClash.{clash}
use Rattle.cedar_builders.specs.Environment.{Env, empty, fold}
use Rattle.cedar_builders.specs.Fold.{on_one}
use Rattle.cedar_builders.specs.Trees.{tree_ops, sure}
use Rattle.cedar_builders.specs.Keys.{in_key_order}
use Rattle.cedar_builders.specs.Ops.{Ops}
use Rattle.cedar_exprs.specs.BareExpr.{bare_expr, bare_exprs}
use Rattle.cedar_exprs.specs.declared.expr.Expr.{Expr}
use Rattle.cedar_values.specs.Holders.{NoExtension, held_call}
use Rattle.semantics_eval.specs.Outcomes.{Outcome}
use Rattle.semantics_simplify.specs.Simplified.{Simplified, tree_of}
use Rattle.cedar_evaluator.specs.Texts.{outcome_text}
use Rattle.cedar_script.specs.CommandWords.{texts_now}
use Rattle.cedar_sketch.specs.SketchTexts.{sketch_ops}
use Rattle.cedar_script.specs.Stack.{Stack, stack_of, bindings_of, environment, IsBoundToValueOf, Pushes, TopHas, ReplacesOne, ReplacesTwo, ReplacesThree, ReplacesMany}
use Rattle.cedar_script.specs.declared.line.Command.{Command}
use Rattle.cedar_script.specs.declared.line.Command.TheVariants.{Bool as Bool', Long, String, Var, Slot, Unknown, If, And, Or, RawAnd, RawOr, Unary, Binary, Call, Get, Has, ExtHas, Like, Is, Set, Record, Bind, Substitute, Typed, Show, Eval, Simplify}
use Rattle.cedar_script.specs.declared.work.State.{State}

-- how many expressions a command needs on the stack
abbrev pub needed_count : Command → ℕ
needed_count (Bool' b) = 0
needed_count (Long n) = 0
needed_count (String text) = 0
needed_count (Var var) = 0
needed_count (Slot slot) = 0
needed_count (Unknown name annotation) = 0
needed_count If = 3
needed_count And = 2
needed_count Or = 2
needed_count RawAnd = 2
needed_count RawOr = 2
needed_count (Unary op) = 1
needed_count (Binary op) = 2
needed_count (Call name count) = count
needed_count (Get attribute) = 1
needed_count (Has attribute) = 1
needed_count (ExtHas attributes) = 1
needed_count (Like pattern) = 1
needed_count (Is entity_type) = 1
needed_count (Set count) = count
needed_count (Record keys) = vec_len keys
needed_count (Bind name) = 1
needed_count Substitute = 1
needed_count Typed = 1
needed_count Show = 1
needed_count Eval = 1
needed_count Simplify = 1

-- how many expressions stand in place of those: none after `bind`, one after every other command
abbrev pub made_count : Command → ℕ
made_count (Bind name) = 0
made_count _ = 1

-- each key with the expression at its index
abbrev pub key_pairs : List (Bor Text) → List (Expr Unit) → List (Text × Expr Unit)
key_pairs keys exprs = map (λ p. (p.0.now, p.1)) (zip keys exprs)

-- the record of keys and expressions
abbrev pub record_of : List (Bor Text) → List (Expr Unit) → BareExpr
record_of keys exprs = record_tree (fields_of (map (λ p. (p.0, bare_expr p.1)) (in_key_order (key_pairs keys exprs))))

-- the residual of a tree, or the tree of its known value, where names are bound as `env` says; S is
-- the simplifier
abbrev pub residual_of : Ops (Simplified NoExtension) ⊥ → Env → BareExpr → BareExpr
residual_of S env e = tree_of held_call (sure (fold S env e))

-- what a command makes of the old stack, where names are bound as `env` says; S is the simplifier
abbrev pub Works : Ops (Simplified NoExtension) ⊥ → Env → Command → Stack → Stack → Type 0
Works S env (Bool' b) old new = Pushes (λ e. bare_expr e ≡ Lit (BoolLit b)) old new
Works S env (Long n) old new = Pushes (λ e. bare_expr e ≡ Lit (LongLit n)) old new
Works S env (String text) old new = Pushes (λ e. bare_expr e ≡ Lit (StringLit text.now)) old new
Works S env (Var v) old new = Pushes (λ e. bare_expr e ≡ variable v) old new
Works S env (Slot s) old new = Pushes (λ e. bare_expr e ≡ tree_ops.slot_of s) old new
Works S env (Unknown name annotation) old new = Pushes (λ e. bare_expr e ≡ unknown name.now (bare_annotation annotation)) old new
Works S env If old new = ReplacesThree (λ a b c e. bare_expr e ≡ tree_ops.if_of (bare_expr a) (bare_expr b) (bare_expr c)) old new
Works S env And old new = ReplacesTwo (λ a b e. bare_expr e ≡ tree_ops.and_of (bare_expr a) (bare_expr b)) old new
Works S env Or old new = ReplacesTwo (λ a b e. bare_expr e ≡ tree_ops.or_of (bare_expr a) (bare_expr b)) old new
Works S env RawAnd old new = ReplacesTwo (λ a b e. bare_expr e ≡ conjunction (bare_expr a) (bare_expr b)) old new
Works S env RawOr old new = ReplacesTwo (λ a b e. bare_expr e ≡ disjunction (bare_expr a) (bare_expr b)) old new
Works S env (Unary op) old new = ReplacesOne (λ a e. bare_expr e ≡ tree_ops.unary_of op (bare_expr a)) old new
Works S env (Binary op) old new = ReplacesTwo (λ a b e. bare_expr e ≡ tree_ops.binary_of op (bare_expr a) (bare_expr b)) old new
Works S env (Call name count) old new = ReplacesMany count (λ args e. bare_expr e ≡ call (bare_name name) (bare_exprs args)) old new
Works S env (Get k) old new = ReplacesOne (λ a e. bare_expr e ≡ tree_ops.get_of (bare_expr a) k.now) old new
Works S env (Has k) old new = ReplacesOne (λ a e. bare_expr e ≡ tree_ops.has_of (bare_expr a) k.now []) old new
Works S env (ExtHas ks) old new = ReplacesOne (λ a e. bare_expr e ≡ tree_ops.has_of (bare_expr a) ks.head.now (texts_now ks.tail.items)) old new
Works S env (Like p) old new = ReplacesOne (λ a e. bare_expr e ≡ tree_ops.like_of (bare_expr a) p) old new
Works S env (Is ty) old new = ReplacesOne (λ a e. bare_expr e ≡ tree_ops.is_of (bare_expr a) (bare_entity_type ty)) old new
Works S env (Set count) old new = ReplacesMany count (λ es e. bare_expr e ≡ members (bare_exprs es)) old new
Works S env (Record keys) old new = ReplacesMany (vec_len keys) (λ values e. bare_expr e ≡ record_of keys.items values) old new
Works S env (Bind name) old new = new ≡ drop 1 old
Works S env Substitute old new = ReplacesOne (λ a e. fold tree_ops env (bare_expr a) ≡ Ok (bare_expr e)) old new
Works S env Typed old new = ReplacesOne (λ a e. (fold tree_ops env (bare_expr a) ≡ Ok (bare_expr e)) × (clash env (bare_expr a) ≡ None)) old new
Works S env Show old new = new ≡ old
Works S env Eval old new = new ≡ old
Works S env Simplify old new = ReplacesOne (λ a e. bare_expr e ≡ residual_of S env (bare_expr a)) old new

-- what is bound after a command: `bind` binds its name to the value of the top, and every other
-- command changes nothing; R is the order of extension values, of which there are none
abbrev pub Binds : (NoExtension → NoExtension → Ordering) → Command → State → State → Type 0
Binds R (Bind name) old new = TopHas (λ top. IsBoundToValueOf R name.now (bare_expr top) (environment (bindings_of old)) (environment (bindings_of new))) (stack_of old)
Binds R _ old new = bindings_of new ≡ bindings_of old

-- what a command shows of the stack that it got, where names are bound as `env` says: `show` the text
-- of the top, `eval` the text of its outcome, and every other command nothing; B is the evaluator
abbrev pub Shows : Ops (Outcome NoExtension) BareName → Env → Command → Stack → Option (OwnedText Global) → Type 0
Shows B env Show stack None = ⊥
Shows B env Show stack (Some text) = TopHas (λ top. fold sketch_ops empty (bare_expr top) ≡ Ok (string_bytes text)) stack
Shows B env Eval stack None = ⊥
Shows B env Eval stack (Some text) = TopHas (λ top. on_one outcome_text (fold B env (bare_expr top)) ≡ Ok (string_bytes text)) stack
Shows B env _ stack shown = shown ≡ None
