-- What the response to `exceptionInfo` describes.
use Rattle.std.proofs.Common.{◌≡◌, Some, codes, refl}
use Rattle.ga_text.specs.Lines.{Text}
use Rattle.ga_dap_protocol.specs.Messages.{member_as_text}
use Rattle.ga_dap_queries.specs.Readings.{exception_object}

pub described : (id text : Text) → member_as_text (codes "description") (exception_object id text) ≡ Some text
unfolding exception_object
described id text = refl
