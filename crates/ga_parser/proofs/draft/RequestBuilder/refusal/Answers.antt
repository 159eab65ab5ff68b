use Rattle.ga_parser.specs.Recovery.{state_with_skipped_word}
use Rattle.ga_parser.specs.inner.Drafting.{parse_state_of_builder}
use Rattle.ga_parser.proofs.Causes.{name_refused}
use Rattle.ga_parser.proofs.draft.RequestBuilder.refusal.Goals as goal

pub returns-in-Name : goal.returns-in-Name
returns-in-Name c =
    rw (c.name_cause.ensures, c.in-Word.is, c.in-Name.is) (name_refused (state_with_skipped_word (parse_state_of_builder c.args.self.now)) c.args.token.line c.args.token.text.now)
