use Rattle.std.proofs.Common.{◌≡◌, ℕ, zero, suc, replicate, get_or, refl}
use Rattle.ga_causal.proofs.firsts.Firsts.new.Goals as goal

get_or-replicate : (k n x : ℕ) → get_or (replicate k x) n x ≡ x
get_or-replicate zero n x = refl
get_or-replicate (suc k) zero x = refl
get_or-replicate (suc k) (suc n) x = get_or-replicate k n x

pub returns-clause-places : goal.returns-clause-places
returns-clause-places c n = get_or-replicate 144 n c.args.none
