use Rattle.std.proofs.Common.{ap, ◌∙◌}
use Rattle.serde_json.proofs.Views.{view-Object}
use Rattle.serde_json.specs.View.{members_view, view}
use Rattle.cedar_json.proofs.Members.{object_names}
use Rattle.cedar_json.proofs.entities.check_names.Goals as goal

pub returns-in-Object : goal.returns-in-Object
returns-in-Object c =
    object_names (view c.args.json.now) (members_view c.in-Object.members.entries)
    (ap view c.in-Object.is ∙ view-Object c.in-Object.members) c.check_members.result c.check_members.ensures
