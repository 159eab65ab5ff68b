use Rattle.std.proofs.Common.{◌≡◌, ◌<◌, drop, length}
use Rattle.std.specs.Prelude.{IfSome}
use Rattle.ga_state_expectations.specs.Breaking.{later_place, newest_breach}
use Rattle.ga_state_expectations.proofs.breaking.newest_breach.Given as goal

abbrev pub invariant-lines : goal.invariant-lines
invariant-lines l = record {
  within : IfSome l.newest (λ place. place < length l.lab.kept);
  same : later_place l.newest (newest_breach (drop l.one-index l.expectations) l.only l.lab) ≡ newest_breach l.expectations l.only l.lab;
}
