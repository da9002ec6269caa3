use Rattle.std.proofs.Common.{◌≡◌, ◌++◌}
use Rattle.cedar_terms.specs.SchemaTypes.{attribute_extension_names, bare_attributes, bare_names}
use Rattle.cedar_terms.proofs.schema_type.+ext_types.Given as goal

-- what was found, and what is left, make the whole
abbrev pub invariant-push_attribute_ext_types-loop-key : goal.invariant-push_attribute_ext_types-loop-key
invariant-push_attribute_ext_types-loop-key l =
    (goal.iterator-push_attribute_ext_types-loop-key).can_next l._key-iterator
    × (goal.iterator-push_attribute_ext_types-loop-key).is_finite l._key-iterator
    × (bare_names l.names.items ++ attribute_extension_names (bare_attributes l._key-iterator)
    ≡ bare_names l.initial.names.items ++ attribute_extension_names (bare_attributes l.attrs.entries))
