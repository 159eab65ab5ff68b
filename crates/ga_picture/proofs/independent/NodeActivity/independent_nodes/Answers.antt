use Rattle.std.proofs.Common.{◌≡◌, ℕ, replicate, get_or, false, ⊎_elim, subst, sym, ◌≤◌}
use Rattle.std.proofs.lemmas.List.{get_or-replicate, get_or_past, length-replicate}
use Rattle.std.proofs.lemmas.Bool.{cases_lt}
use Rattle.std.specs.Prelude.{Bool}
use Rattle.ga_picture.proofs.Loose.{alone_joined, alone_none}
use Rattle.ga_picture.proofs.independent.NodeActivity.independent_nodes.Goals as goal

off_at : (n : ℕ) → get_or (replicate 144 false) n false ≡ false
off_at n = ⊎_elim (λ l. get_or-replicate 144 n false false l) (λ g. get_or_past (replicate 144 false) n false (subst (λ z. z ≤ n) (sym (length-replicate {A = Bool} 144 false)) g)) (cases_lt n 144)

pub returns-then-has_joined : goal.returns-then-has_joined
returns-then-has_joined c = λ items a held.
    alone_joined items c.args.self.now c.loose_nodes.result a held (c.has_joined.ensures.some c.if-has_joined.true) c.loose_nodes.ensures.size c.loose_nodes.ensures.exact

pub returns-else-has_joined : goal.returns-else-has_joined
returns-else-has_joined c = λ items a held.
    alone_none items c.args.self.now (replicate 144 false) a held (c.has_joined.ensures.none c.if-has_joined.false) off_at
