use Rattle.std.proofs.Common.{rules, ◌≡◌, false, codes, Some, None}
use Rattle.std.specs.Prelude.{bytes_eq}
use Rattle.ga_parser.specs.Recovery.{state_with_skipped_word}
use Rattle.ga_parser.specs.Vocabulary.{directive_of_word, opcode_of_word, control_of_word}
use Rattle.ga_parser.specs.inner.Drafting.{parse_state_of_builder}
use Rattle.ga_parser.proofs.Causes.{control_word_refused, other_word_refused}
use Rattle.ga_parser.proofs.draft.RequestBuilder.word_cause.Goals as goal

pub returns-in-Some-control_named : goal.returns-in-Some-control_named
returns-in-Some-control_named c = λ line.
    let comma : bytes_eq c.args.next.now (codes ",") ≡ false = search rules in
    let none : directive_of_word c.args.text.now ≡ None = search rules in
    let other : opcode_of_word c.args.text.now ≡ None = search rules in
    let is : control_of_word c.args.text.now ≡ Some c.in-Some-control_named.control_word = search rules in
    control_word_refused (state_with_skipped_word (parse_state_of_builder c.args.self.now)) line c.args.text.now c.args.next.now c.in-Some-control_named.control_word c.control_cause.result comma none other is c.control_cause.ensures

pub returns-in-None-control_named : goal.returns-in-None-control_named
returns-in-None-control_named c = λ line.
    let comma : bytes_eq c.args.next.now (codes ",") ≡ false = search rules in
    let none : directive_of_word c.args.text.now ≡ None = search rules in
    let other : opcode_of_word c.args.text.now ≡ None = search rules in
    let is : control_of_word c.args.text.now ≡ None = search rules in
    other_word_refused (state_with_skipped_word (parse_state_of_builder c.args.self.now)) line c.args.text.now c.args.next.now c.literal_cause.result comma none other is
    (c.literal_cause.ensures (state_with_skipped_word (parse_state_of_builder c.args.self.now)) line c.args.next.now)
