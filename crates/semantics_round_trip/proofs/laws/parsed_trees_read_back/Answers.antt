use Rattle.semantics_round_trip.proofs.laws.parsed_trees_read_back.Goals as goal

pub returns : goal.returns
returns c text e p utf8 is plain printed =
    c.printed_texts_stand.ensures e p (c.parsed_trees_are_writable.ensures.texts text e utf8 is plain) printed
