use Rattle.std.proofs.Common.{option_map, IfSome, Ok, ◌≡◌, ap, subst, sym, ◌∙◌}
use Rattle.std.specs.HashMap.{get_by}
use Rattle.std.specs.Option.{option_copied}
use Rattle.std.specs.Rc.{rc_str_bytes}
use Rattle.std.specs.Str.{bytes_eq}
use Rattle.cedar_builders.specs.Environment.{empty, fold}
use Rattle.cedar_values.specs.BareValues.{bare_value}
use Rattle.cedar_values.specs.Holders.{held_call, held_name}
use Rattle.cedar_values.specs.WellFormedValues.{tree_of, type_of, value_of, well_formed_env}
use Rattle.cedar_request_evaluator.proofs.Kept.{put_kept}
use Rattle.cedar_request_evaluator.proofs.bound.keep_value.Goals as goal

pub returns-in-Some-2 : goal.returns-in-Some-2
returns-in-Some-2 g c kept =
    let values = c.args.values.now in
    let B = g.W.ValueWalk.ops c.args.walk.now in
    let value = c.in-Some.value.now in
    put_kept B g.W.ValueWalk.value_meaning (well_formed_env values)
    (rc_str_bytes c.args.name.now) (type_of held_name value, tree_of held_call value)
    c.in-Some-2.given
    (ap (option_map (λ v. (type_of held_name v, tree_of held_call v)))
    (sym (sym (ap option_copied c.in-Some.is) ∙ c.get.ensures.value
    ∙ ap (λ s. get_by (λ k. bytes_eq s (rc_str_bytes k)) values) c.as_str-2.ensures.value)))
    (subst (λ given. IfSome given (λ w. fold B empty (tree_of held_call value)
    ≡ Ok (g.W.ValueWalk.value_meaning (bare_value (value_of w))))) c.in-Some-2.is
    c.in_ok-given-in-Some.ensures)
    c.args.kept.now c.put_at.new.map c.put_at.result kept c.put_at.ensures
