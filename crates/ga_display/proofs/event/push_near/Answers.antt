use Rattle.std.proofs.Common.{◌≤◌, ◌<◌, length, decimal, ℕ, ap, arith, rules, length-append}
use Rattle.std.proofs.lemmas.Fmt.{length-decimal-le}
use Rattle.ga_display.proofs.event.push_near.Goals as goal

short : (n : ℕ) → n < 100000000 → length (decimal n) ≤ 20
short n fits = length-decimal-le 20 n (omega arith) (omega arith) (omega arith)

pub push_up_to_eight_digits-requires : goal.push_up_to_eight_digits-requires
push_up_to_eight_digits-requires g c =
    let small : c.from.result < 100000000 = omega (arith, c.requires.small, c.from.ensures) in
    (search rules, (small, omega (arith, c.requires.room, c.push_node_and_space.ensures.len, short c.from.result small)))

pub push_kind-requires : goal.push_kind-requires
push_kind-requires g c =
    let small : c.from.result < 100000000 = omega (arith, c.requires.small, c.from.ensures) in (
      search rules,
      omega (arith, c.requires.room, c.push_node_and_space.ensures.len, short c.from.result small, ap length c.push_up_to_eight_digits.ensures.text, length-append c.push_node_and_space.new.out.items (decimal c.from.result)),
    )
