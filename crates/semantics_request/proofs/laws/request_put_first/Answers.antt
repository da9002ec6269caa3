use Rattle.semantics_request.proofs.Put.{request_put_first}
use Rattle.semantics_request.proofs.laws.request_put_first.Goals as goal

pub returns : goal.returns
returns g c =
    request_put_first
    (record { value_kept = c.value_kept.ensures; ascending_lists = c.ascending_lists.ensures })
