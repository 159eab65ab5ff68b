use Rattle.std.proofs.Common.{◌∙◌, ap}
use Rattle.ga_parser.specs.Saying.{token_contents}
use Rattle.ga_source.proofs.PlainNodes.{said_to_fault, asked_of_words, read_of_words, made_of_source, refused_of_words, empty_of_source, steady_of_source}
use Rattle.ga_source.proofs.program.assemble_source_text.Goals as goal

pub returns-clause-asked : goal.returns-clause-asked
returns-clause-asked c = asked_of_words c.args.source.now _ c.assemble_words.result (said_to_fault c.args.source.now _ _ (ap token_contents c.as_slice.ensures.value ∙ c.in_ok-tokens.ensures.says) c.tokens_through_first_fault.ensures) c.assemble_words.ensures.asked

pub returns-clause-read : goal.returns-clause-read
returns-clause-read c = read_of_words c.args.source.now _ c.assemble_words.result (said_to_fault c.args.source.now _ _ (ap token_contents c.as_slice.ensures.value ∙ c.in_ok-tokens.ensures.says) c.tokens_through_first_fault.ensures) c.assemble_words.ensures.read

pub returns-clause-made : goal.returns-clause-made
returns-clause-made c = made_of_source c.args.source.now c.assemble_words.result (returns-clause-read c) c.assemble_words.ensures.programs

pub returns-clause-refused : goal.returns-clause-refused
returns-clause-refused c = refused_of_words c.args.source.now _ c.assemble_words.result (said_to_fault c.args.source.now _ _ (ap token_contents c.as_slice.ensures.value ∙ c.in_ok-tokens.ensures.says) c.tokens_through_first_fault.ensures) c.assemble_words.ensures.refused

pub returns-clause-empty : goal.returns-clause-empty
returns-clause-empty c = empty_of_source c.assemble_words.result c.assemble_words.ensures.programs

pub returns-clause-steady : goal.returns-clause-steady
returns-clause-steady c = steady_of_source c.assemble_words.result c.assemble_words.ensures.programs
