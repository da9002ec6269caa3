use Rattle.std.proofs.Common.{[]}
use Rattle.semantics_grammar.specs.Lexemes.{lexemes_of}
use Rattle.semantics_round_trip.proofs.Cuts.{tokens_cut}
use Rattle.semantics_round_trip.proofs.Parsed.{reads_said}
use Rattle.semantics_round_trip.proofs.Said.{said_writable}
use Rattle.semantics_round_trip.proofs.laws.parsed_trees_are_writable.Goals as goal

pub returns-clause-tokens : goal.returns-clause-tokens
returns-clause-tokens c ts e texts stands plain =
    said_writable e (reads_said c.name_texts_differ.ensures stands texts).0 plain

pub returns-clause-texts : goal.returns-clause-texts
returns-clause-texts c text e utf8 is plain =
    returns-clause-tokens c (lexemes_of is.0) e (tokens_cut 0 text is.0 [] is.1 utf8) is.2 plain
