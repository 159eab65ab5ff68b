-- What is known of the expectations that the run in progress watches.
use Rattle.std.specs.Prelude.{Option, Some, None}
use Rattle.ga_dap_control.specs.Watched.{AreOptionalExpectationsKnown}
use Rattle.ga_dap_control.specs.declared.launched.LaunchedSession.{LaunchedSession}
use Rattle.ga_dap_control.specs.declared.watched.WatchedExpectations.{WatchedExpectations}
use Rattle.ga_dap.specs.declared.session.Session.{Session}

abbrev pub AreExpectationsOfProgramKnown : Option LaunchedSession → Option WatchedExpectations → Type 0
AreExpectationsOfProgramKnown None watched = Unit {0}
AreExpectationsOfProgramKnown (Some l) watched = AreOptionalExpectationsKnown l.program l.settings watched

abbrev pub AreExpectationsOfSessionKnown : Session → Option WatchedExpectations → Type 0
AreExpectationsOfSessionKnown session watched = AreExpectationsOfProgramKnown session.launched watched
