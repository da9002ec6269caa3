use Rattle.cedar_json.proofs.Names.{unnamed}
use Rattle.cedar_json.proofs.values.name_of.Goals as goal

pub returns-in-Err : goal.returns-in-Err
returns-in-Err c =
    unnamed c.name_texts_differ.ensures c.args.text.now c.in-Err.error _ _ c.no_name.ensures
    c.in-Err.ensures.refused
