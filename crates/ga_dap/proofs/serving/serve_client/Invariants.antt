use Rattle.std.proofs.Common.{◌≡◌, ℕ, List, [], ◌++◌, Some}
use Rattle.ga_dap.specs.Client.{ServesIterations, initial_server_state}
use Rattle.ga_dap.specs.inner.Knowing.{AreExpectationsOfSessionKnown}
use Rattle.ga_dap.specs.inner.Turning.{server_state_of_parts}
use Rattle.ga_dap.proofs.serving.serve_client.Given as goal

abbrev pub invariant-serving : goal.invariant-serving
invariant-serving g l = record {
  sent : l.out.bytes ≡ [];
  known : AreExpectationsOfSessionKnown l.session l.watched;
  serves : (left before : List ℕ) → g.R.Read.remaining l.fn.reader ≡ Some left → g.W.Write.contents l.fn.writer ≡ Some before →
      (rest said : List ℕ) × (count : ℕ) × (g.R.Read.remaining l.reader ≡ Some rest) × (g.W.Write.contents l.writer ≡ Some (before ++ said))
      × ServesIterations g.S.ProgramFiles.gives g.A.PendingInput.tells (initial_server_state l.fn.sources l.fn.arrivals left) count said
      (server_state_of_parts l.sources l.arrivals l.session l.out.seq l.inbox rest);
}
