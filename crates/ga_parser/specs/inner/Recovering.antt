-- What a reading says of the words so far.
use Rattle.std.specs.Prelude.{map}
use Rattle.ga_parser.specs.declared.recovery.Reading.{Reading}
use Rattle.ga_parser.specs.Recovery.{Recovery}
use Rattle.ga_parser.specs.Requests.{refusal_of_source_fault}
use Rattle.ga_parser.specs.inner.Drafting.{parse_state_of_builder}

abbrev pub recovery_of_reading : Reading → Recovery
recovery_of_reading reading = record {
  last = reading.last;
  now = parse_state_of_builder reading.draft;
  refused = map refusal_of_source_fault reading.faults.items;
  is_last_skipped = reading.is_last_skipped;
}
