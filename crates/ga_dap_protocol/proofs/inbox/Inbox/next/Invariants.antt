use Rattle.std.proofs.Common.{◌≡◌, List, ℕ, ◌++◌, Some}
use Rattle.ga_dap_protocol.proofs.inbox.Inbox.next.Given as goal

-- nothing is lost by reading on
abbrev pub invariant-reads : goal.invariant-reads
invariant-reads g l = (left : List ℕ) → g.R.Read.remaining l.fn.reader ≡ Some left →
    (rest : List ℕ) × (g.R.Read.remaining l.reader ≡ Some rest) × (l.fn.self ++ left ≡ l.self ++ rest)
