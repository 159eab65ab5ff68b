use Rattle.std.proofs.Common.{◌≡◌, ℕ, false, get_or, replicate, refl, arith, ⊎_elim}
use Rattle.std.proofs.lemmas.Bool.{both_ways, cases_lt}
use Rattle.std.proofs.lemmas.List.{get_or-replicate, get_or_past, length-replicate}
use Rattle.ga_journal.proofs.waiting.PendingNodes.none.Goals as goal

-- no flag is set
unset : (n : ℕ) → get_or (replicate 144 false) n false ≡ false
unset n = ⊎_elim (λ l. get_or-replicate 144 n false false l) (λ l. get_or_past (replicate 144 false) n false (rw length-replicate l)) (cases_lt n 144)

pub invariant_of-result : goal.invariant_of-result
invariant_of-result c = record {
  size = refl;
  fits = omega arith;
  from_first = λ n set. absurd (both_ways (get_or (replicate 144 false) n false) (unset n) set);
  below_past = λ n set. absurd (both_ways (get_or (replicate 144 false) n false) (unset n) set);
}

pub returns-clause-none : goal.returns-clause-none
returns-clause-none c = unset
