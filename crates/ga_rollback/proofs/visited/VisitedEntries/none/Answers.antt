use Rattle.std.proofs.Common.{◌≡◌, ℕ, slice_index, replicate, refl, arith, ⊎_elim}
use Rattle.std.proofs.lemmas.Bool.{cases_lt}
use Rattle.std.proofs.lemmas.List.{get_or-replicate, get_or_past, length-replicate}
use Rattle.ga_rollback.proofs.visited.VisitedEntries.none.Goals as goal

-- each count is 0
zero : (n : ℕ) → slice_index (replicate 144 0) n ≡ 0
zero n = ⊎_elim (λ l. get_or-replicate 144 n 0 0 l) (λ l. get_or_past (replicate 144 0) n 0 (rw length-replicate l)) (cases_lt n 144)

pub invariant_of-result : goal.invariant_of-result
invariant_of-result c = record {
  size = refl;
  fits = omega arith;
  from_first = λ n some. absurd (let none : slice_index (replicate 144 0) n ≡ 0 = zero n in omega arith);
  below_past = λ n some. absurd (let none : slice_index (replicate 144 0) n ≡ 0 = zero n in omega arith);
}

pub returns-clause-zero : goal.returns-clause-zero
returns-clause-zero c = zero
