use Rattle.std.proofs.Common.{◌≡◌, drop}
use Rattle.ga_shared.specs.Log.{receipts_of_worker}
use Rattle.ga_shared.proofs.closing.receipts_match_log.Given as goal

-- the receipts are the log's where those that are left are the rest of the log's, and only there
abbrev pub invariant-loop-place : goal.invariant-loop-place
invariant-loop-place l = record {
  fits : l.receipts ≡ receipts_of_worker l.worker 0 l.log → l.left ≡ receipts_of_worker l.worker l.place (drop l.place l.log);
  suffices : l.left ≡ receipts_of_worker l.worker l.place (drop l.place l.log) → l.receipts ≡ receipts_of_worker l.worker 0 l.log;
}
